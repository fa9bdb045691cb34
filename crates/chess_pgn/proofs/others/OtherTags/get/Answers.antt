use Rattle.std.proofs.Common.{ap, ◌∙◌, Some, List, ℕ}
use Rattle.std.specs.Prelude.{Vec, option_map}
use Rattle.std.specs.Borrow.{Bor}
use Rattle.chess_pgn.specs.Games.{tag_in}
use Rattle.chess_pgn.proofs.TagLemmas.{tag_is}
use Rattle.chess_pgn.proofs.others.OtherTags.get.Goals as goal

pub returns-in-Some : goal.returns-in-Some
returns-in-Some g c =
    ap (λ (x : List ℕ). Some x) c.as_slice.ensures.value
    ∙ ap (option_map (λ (v : Vec ℕ (Bor g.row.A.Denot)). v.items)) c.in-Some.ensures.value
    ∙ tag_is c.args.name.now c.self.inside.values.entries ∙ ap (tag_in c.args.name.now) c.self.view_is

pub returns-in-None : goal.returns-in-None
returns-in-None g c =
    ap (option_map (λ (v : Vec ℕ (Bor g.row.A.Denot)). v.items)) c.in-None.ensures.value
    ∙ tag_is c.args.name.now c.self.inside.values.entries ∙ ap (tag_in c.args.name.now) c.self.view_is
