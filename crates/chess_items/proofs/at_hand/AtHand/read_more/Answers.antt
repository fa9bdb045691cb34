use Rattle.std.proofs.Common.{rules, sym, subst}
use Rattle.chess_items.proofs.BreakLemmas.{has_read}
use Rattle.chess_items.proofs.SeekLemmas.{broke_by, broke_many, not_prolonged, prolonged}
use Rattle.std.proofs.Common.{Bool, not}
use Rattle.chess_items.specs.steps.Seeking.{HasProlonged}
use Rattle.chess_items.proofs.at_hand.AtHand.read_more.Goals as goal

pub returns-then-is_at_end-clause-prolonged : goal.returns-then-is_at_end-clause-prolonged
returns-then-is_at_end-clause-prolonged g c = not_prolonged g.R.Source.gives g.R.Source.ended g.R.Source.failed c.args.self.now (search rules) c.requires.ended

pub returns-then-reads_left-eq0-clause-broken : goal.returns-then-reads_left-eq0-clause-broken
returns-then-reads_left-eq0-clause-broken g c = broke_many g.R.Source.gives g.R.Source.ended g.R.Source.failed c.args.self.now (search rules) (search rules)

pub returns-in-Err-clause-broken : goal.returns-in-Err-clause-broken
returns-in-Err-clause-broken g c = broke_by g.R.Source.gives g.R.Source.ended g.R.Source.failed c.args.self.now c.read_on.new.self c.in-Err.fault (search rules) c.in-Err.ensures

pub returns-clause-prolonged : goal.returns-clause-prolonged
returns-clause-prolonged g c =
    subst (λ (b : Bool). HasProlonged {R = g.row.R.Denot} g.R.Source.gives g.R.Source.ended g.R.Source.failed c.args.self.now c.read_on.new.self (not b)) (sym c.is_at_end-2.ensures)
    (prolonged g.R.Source.gives g.R.Source.ended g.R.Source.failed c.args.self.now c.read_on.new.self (search rules) (has_read g.R.Source.gives g.R.Source.ended g.R.Source.failed c.args.self.now c.read_on.new.self c.in_default.ensures))
