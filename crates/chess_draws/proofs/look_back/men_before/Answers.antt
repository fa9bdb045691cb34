use Rattle.std.proofs.Common.{◌≡◌, ◌+◌, ◌-◌, ◌++◌, suc, subst, arith}
use Rattle.std.proofs.lemmas.List.{length-append}
use Rattle.chess_draws.specs.steps.LookBack.{AreMenAt}
use Rattle.chess_draws.proofs.TrackLemmas.{later, men_back}
use Rattle.chess_draws.proofs.look_back.men_before.Goals as goal

pub loop-back-preserved : goal.loop-back-preserved
loop-back-preserved c = record {
  men = λ start here track are.
      let plies = c.args.plies.now ++ c.args.looked.now in
      let place = c.args.known - (c.loop-back.back + 1) in
      let next : c.args.known - c.loop-back.back ≡ suc place = omega (arith, c.loop-back-test.true) in
      men_back (later place track (omega (arith, c.loop-back-test.true)))
      (omega (arith, c.loop-back-test.true, c.requires.within, length-append c.args.plies.now c.args.looked.now))
      c.move_at.result c.move_at.ensures c.loop-back.earlier c.before-earlier.result c.before-earlier.ensures
      (subst (AreMenAt start plies here c.loop-back.earlier) next (c.loop-back.invariant.men start here track are));
}

pub returns : goal.returns
returns c = λ start here track are.
    subst (AreMenAt start (c.args.plies.now ++ c.args.looked.now) here c.loop-back.earlier) (omega (arith, c.loop-back-test.false, c.loop-back.auto.back-end, c.requires.order))
    (c.loop-back.invariant.men start here track are)
