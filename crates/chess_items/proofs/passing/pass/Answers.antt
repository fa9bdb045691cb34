use Rattle.std.proofs.Common.{rules, Bool, Ok, subst}
use Rattle.chess_items.specs.steps.Skipping.{Skips}
use Rattle.chess_items.proofs.PassLemmas.{ended_white, passed_white, passed_other, passed_broken, run_broken}
use Rattle.chess_items.proofs.passing.pass.Goals as goal

pub returns-in-End-clause-passes : goal.returns-in-End-clause-passes
returns-in-End-clause-passes g c = ended_white g.X.Text.comes g.X.Text.at_hand g.X.Text.all g.X.Text.sound g.X.Text.reads g.T.Taker.takes c.args.limit c.args.text.now c.args.taker.now c.run.new.text c.run.new.taker c.in-Ok.stopped c.in-Ok.ensures.ran c.in-End.is (search rules)

pub returns-in-Err-clause-broken : goal.returns-in-Err-clause-broken
returns-in-Err-clause-broken g c = run_broken g.X.Text.comes g.X.Text.at_hand g.X.Text.all g.X.Text.sound g.X.Text.reads g.T.Taker.takes c.args.limit c.args.text.now c.args.taker.now g.X.Text.breaks c.run.new.text c.in-Err.fault c.in-Err.ensures.broken

pub returns-in-Err-skip_white-clause-broken : goal.returns-in-Err-skip_white-clause-broken
returns-in-Err-skip_white-clause-broken g c = passed_broken g.X.Text.comes g.X.Text.at_hand g.X.Text.all g.X.Text.sound g.X.Text.reads g.T.Taker.takes c.args.limit c.args.text.now c.args.taker.now c.run.new.text c.run.new.taker c.in-Ok.stopped c.in-Ok.ensures.ran g.X.Text.breaks c.skip_white.new.text c.in-Err-skip_white.fault c.in-TooLarge.is (search rules) c.in-Err-skip_white.ensures.broken

pub returns-in-Ok-true-clause-passes : goal.returns-in-Ok-true-clause-passes
returns-in-Ok-true-clause-passes g c = passed_white g.X.Text.comes g.X.Text.at_hand g.X.Text.all g.X.Text.sound g.X.Text.reads g.T.Taker.takes c.args.limit c.args.text.now c.args.taker.now c.run.new.text c.run.new.taker c.in-Ok.stopped c.in-Ok.ensures.ran c.skip_white.new.text c.in-TooLarge.is (search rules) (subst (λ (b : Bool). Skips {X = g.row.X.Denot} g.X.Text.comes g.X.Text.at_hand g.X.Text.all g.X.Text.sound g.X.Text.reads c.in-Ok.stopped.place c.run.new.text c.skip_white.new.text (Ok b)) c.in-Ok-true.field-0-test c.in-Ok-true.ensures.skips)

pub returns-in-Ok-false-clause-passes : goal.returns-in-Ok-false-clause-passes
returns-in-Ok-false-clause-passes g c = passed_other g.X.Text.comes g.X.Text.at_hand g.X.Text.all g.X.Text.sound g.X.Text.reads g.T.Taker.takes c.args.limit c.args.text.now c.args.taker.now c.run.new.text c.run.new.taker c.in-Ok.stopped c.in-Ok.ensures.ran c.skip_white.new.text c.in-TooLarge.is (search rules) (subst (λ (b : Bool). Skips {X = g.row.X.Denot} g.X.Text.comes g.X.Text.at_hand g.X.Text.all g.X.Text.sound g.X.Text.reads c.in-Ok.stopped.place c.run.new.text c.skip_white.new.text (Ok b)) c.in-Ok-false.field-0-test c.in-Ok-false.ensures.skips)
