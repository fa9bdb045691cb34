use Rattle.std.proofs.Common.{subst, List, ℕ, Some}
use Rattle.chess_pgn.specs.steps.OtherCode.{Sets, shown}
use Rattle.chess_pgn.proofs.TagLemmas.{ascend, sets}
use Rattle.chess_pgn.proofs.others.OtherTags.insert.Goals as goal

pub returns-in-Ok-clause-ok : goal.returns-in-Ok-clause-ok
returns-in-Ok-clause-ok g c =
    subst (λ (old : List (List ℕ × List ℕ)). Sets c.args.name.items (Some c.args.value.items) old (shown c.insert.new.self.entries)) c.self.view_is
    (sets c.args.name.items c.self.inside.values c.insert.new.self (Some c.args.value) c.in-Ok.ensures.updates)

pub returns-in-Ok-clause-ascend : goal.returns-in-Ok-clause-ascend
returns-in-Ok-clause-ascend g c = ascend c.insert.new.self c.insert.ensures.ordered

pub returns-clause-ascend : goal.returns-clause-ascend
returns-clause-ascend g c = ascend c.insert.new.self c.insert.ensures.ordered
