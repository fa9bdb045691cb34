use Rattle.std.proofs.Common.{Ok, ap, rules, subst, sym}
use Rattle.chess_items.specs.Abandoned.{GivesUpInPart}
use Rattle.chess_items.specs.Coming.{AtHand}
use Rattle.chess_items.specs.declared.at_hand.Fault.{Fault}
use Rattle.chess_pgn.specs.Sources.{Games, IsGivenUp}
use Rattle.chess_pgn.proofs.SourceLemmas.{gives_up, in_part}
use Rattle.chess_pgn.proofs.games.Games.pass.Goals as goal

-- the items of the bad game are passed over, and the bytes after them
pub returns-in-Ok-clause-gives_up : goal.returns-in-Ok-clause-gives_up
returns-in-Ok-clause-gives_up g c = λ fault before is leaves.
    subst (λ (t : AtHand g.row.R.Denot). IsGivenUp g.R.Source.gives g.R.Source.failed before t) (sym (ap (λ (x : Games g.row.R.Denot). x.text) c.self.view_is))
    (gives_up {E = Fault} g.R.Source.gives g.R.Source.failed c.args.self.now.text c.go_on.new.self.text (Ok c.in-Ok.count) before c.args.self.now.fault c.args.self.now.halt c.in-Ok.ensures.passes c.in-Ok.ensures.gives_up fault is leaves)

-- there was no memory, or a read failed
pub returns-in-Err-Memory-clause-in_part : goal.returns-in-Err-Memory-clause-in_part
returns-in-Err-Memory-clause-in_part g c = λ fault before is leaves. (
  search rules,
  subst (λ (f : Fault). GivesUpInPart g.R.Source.gives g.R.Source.failed before c.go_on.new.self.text f) c.in-Err-Memory.field-0-is
      (in_part g.R.Source.gives g.R.Source.failed c.args.self.now.text c.go_on.new.self.text c.in-Err-Memory.field-0 before c.args.self.now.fault c.args.self.now.halt c.in-Err-Memory.ensures.stops c.in-Err-Memory.ensures.in_part fault is leaves),
)

pub returns-in-Err-Read-clause-in_part : goal.returns-in-Err-Read-clause-in_part
returns-in-Err-Read-clause-in_part g c = λ fault before is leaves.
    subst (λ (f : Fault). GivesUpInPart g.R.Source.gives g.R.Source.failed before c.go_on.new.self.text f) c.in-Err-Read.field-0-is
    (in_part g.R.Source.gives g.R.Source.failed c.args.self.now.text c.go_on.new.self.text c.in-Err-Read.field-0 before c.args.self.now.fault c.args.self.now.halt c.in-Err-Read.ensures.stops c.in-Err-Read.ensures.in_part fault is leaves)
