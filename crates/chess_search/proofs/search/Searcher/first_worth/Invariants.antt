use Rattle.std.proofs.Common.{◌≡◌, take, true, None}
use Rattle.chess_draws.specs.LineParts.{IsAsBefore}
use Rattle.chess_search.specs.Value.{worth}
use Rattle.chess_search.specs.Replies.{first_worth}
use Rattle.chess_search.specs.Watches.{IsFree, Watched}
use Rattle.chess_search.proofs.search.Searcher.first_worth.Given as goal

-- none of the moves so far is worth as much
abbrev pub invariant-loop-m : goal.invariant-loop-m
invariant-loop-m g l =
    record {
      line : IsAsBefore l.fn.line l.line;
      claims : l.self.claims ≡ l.fn.self.claims;
      stays : g.W.Watch.says l.watch ≡ g.W.Watch.says l.fn.watch;
      watched : IsFree (g.W.Watch.says l.fn.watch l.fn.self.nodes) → Watched (g.W.Watch.says l.fn.watch) l.fn.self.nodes l.self.nodes true;
      none : first_worth (worth l.fn.self.claims l.fn.depth l.fn.line.line l.fn.distance) l.fn.least (take l.m-index l.m-items) ≡ None;
    }
