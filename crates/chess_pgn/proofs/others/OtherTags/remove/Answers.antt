use Rattle.std.proofs.Common.{ap, ◌∙◌, subst, List, ℕ, None}
use Rattle.std.specs.Prelude.{Vec, option_map}
use Rattle.std.specs.Borrow.{Bor}
use Rattle.chess_pgn.specs.Games.{tag_in}
use Rattle.chess_pgn.specs.steps.OtherCode.{Sets, shown}
use Rattle.chess_pgn.proofs.TagLemmas.{ascend, sets, tag_is}
use Rattle.chess_pgn.proofs.others.OtherTags.remove.Goals as goal

pub returns-clause-value : goal.returns-clause-value
returns-clause-value g c =
    ap (option_map (λ (v : Vec ℕ (Bor g.row.A.Denot)). v.items)) c.remove.ensures.value
    ∙ tag_is c.args.name.now c.self.inside.values.entries ∙ ap (tag_in c.args.name.now) c.self.view_is

pub returns-clause-ascend : goal.returns-clause-ascend
returns-clause-ascend g c = ascend c.remove.new.self c.remove.ensures.ordered

pub returns-clause-removed : goal.returns-clause-removed
returns-clause-removed g c =
    subst (λ (old : List (List ℕ × List ℕ)). Sets c.args.name.now None old (shown c.remove.new.self.entries)) c.self.view_is
    (sets c.args.name.now c.self.inside.values c.remove.new.self None c.remove.ensures.updates)
