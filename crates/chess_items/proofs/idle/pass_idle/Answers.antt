use Rattle.std.proofs.Common.{rules, refl}
use Rattle.chess_items.proofs.IdleLemmas.{idle_within, passes_idle, passes_none}
use Rattle.chess_items.proofs.idle.pass_idle.Goals as goal

pub returns-then-white : goal.returns-then-white
returns-then-white g c = passes_none g.X.Text.comes g.X.Text.at_hand g.X.Text.all g.X.Text.sound g.X.Text.reads g.T.Taker.takes c.args.spot.at c.args.spot.most c.args.spot.place c.args.white c.args.text.now c.args.taker.now c.requires

pub overflow_sub-used : goal.overflow_sub-used
overflow_sub-used g c = idle_within 0 c.args.spot.place _ _ _ (c.idle_run-next.ensures 0)

pub returns : goal.returns
returns g c = passes_idle g.X.Text.comes g.X.Text.at_hand g.X.Text.all g.X.Text.sound g.X.Text.reads g.T.Taker.takes c.args.spot.at c.args.spot.most c.args.spot.place c.args.white c.args.text.now c.keep.new.self c.args.taker.now _ c.min.result _ _ _ _ c.unread-bytes.ensures (search rules) (c.is_passing.ensures (search rules)) (search rules) (c.idle_run-next.ensures c.args.spot.at) refl refl c.keep.ensures
