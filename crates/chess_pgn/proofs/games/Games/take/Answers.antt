use Rattle.std.proofs.Common.{◌≡◌, ap, subst, true}
use Rattle.chess_items.specs.Coming.{AtHand, Breaks, Came, unread}
use Rattle.chess_pgn.specs.Sources.{Games}
use Rattle.chess_pgn.specs.steps.GameAt.{HaltsAt, TakesGame}
use Rattle.chess_pgn.proofs.games.Games.take.Goals as goal

pub returns-clause-game : goal.returns-clause-game
returns-clause-game g c =
    subst (λ (t : AtHand g.row.R.Denot). TakesGame (λ (s : AtHand g.row.R.Denot) bytes u. Came g.R.Source.gives g.R.Source.failed s bytes u) unread (λ s. s.has_ended ≡ true) (λ s. s.has_ended ≡ true → g.R.Source.ended s.source) (λ s. s.reads)
    (λ s u. Breaks g.R.Source.gives g.R.Source.failed s u) t c.take_game.new.text c.take_game.result) (ap (λ (x : Games g.row.R.Denot). x.text) c.self.view_is) c.take_game.ensures.game

pub returns-clause-halts : goal.returns-clause-halts
returns-clause-halts g c =
    subst (λ (t : AtHand g.row.R.Denot). HaltsAt (λ (s : AtHand g.row.R.Denot) bytes u. Came g.R.Source.gives g.R.Source.failed s bytes u) unread (λ s. s.has_ended ≡ true) (λ s. s.reads) t c.take_game.new.text c.take_game.new.halt c.take_game.result)
    (ap (λ (x : Games g.row.R.Denot). x.text) c.self.view_is) c.take_game.ensures.halts
