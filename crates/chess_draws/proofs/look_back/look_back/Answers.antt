use Rattle.std.proofs.Common.{◌≡◌, ◌+◌, ◌-◌, ◌*◌, ◌++◌, ℕ, length, map, suc, subst, arith}
use Rattle.std.proofs.lemmas.List.{length-append, length-map}
use Rattle.chess_types.specs.board.Position.{PositionParts}
use Rattle.chess_types.specs.board.Lines.{play}
use Rattle.chess_types.specs.board.Repetition.{is_same}
use Rattle.chess_draws.specs.steps.Plies.{move_of}
use Rattle.chess_draws.specs.steps.LookBack.{IsBehind, IsTrack, position_at}
use Rattle.chess_draws.proofs.TrackLemmas.{later, one_more, one_less}
use Rattle.chess_draws.proofs.look_back.look_back.Goals as goal
use Rattle.chess_draws.proofs.look_back.look_back.Goals.{then-comes_up, else-comes_up}

module _ (c : goal.Joined-comes_up) (start : PositionParts)
    (track : IsTrack start (c.args.plies.now ++ c.args.looked.now) c.args.here.now (length (c.args.plies.now ++ c.args.looked.now) - c.args.clock)) where
  abbrev place : ℕ
  place = length c.args.plies.now + length c.args.looked.now - 2 * (c.loop-back.back + 1)

  there : IsTrack start (c.args.plies.now ++ c.args.looked.now) c.args.here.now place
  there = later place track (omega (arith, c.loop-back-test.true, c.min-most.ensures, length-append c.args.plies.now c.args.looked.now))

  before : IsBehind start (c.args.plies.now ++ c.args.looked.now) c.args.here.now c.loop-back.behind (place + 2)
  before =
      subst (IsBehind start (c.args.plies.now ++ c.args.looked.now) c.args.here.now c.loop-back.behind) (omega (arith, c.loop-back-test.true, c.min-most.ensures))
      (c.loop-back.invariant.behind start track)

  now : IsBehind start (c.args.plies.now ++ c.args.looked.now) c.args.here.now c.comes_up.new.behind place
  now = c.comes_up.ensures.behind start there before

  same : c.comes_up.result ≡ is_same (play start (map move_of (c.args.plies.now ++ c.args.looked.now))) (position_at start (map move_of (c.args.plies.now ++ c.args.looked.now)) place)
  same = c.comes_up.ensures.same start there before

  long : place ≡ length (map move_of (c.args.plies.now ++ c.args.looked.now)) - 2 * suc c.loop-back.back
  long = omega (arith, length-append c.args.plies.now c.args.looked.now, length-map (c.args.plies.now ++ c.args.looked.now) move_of)

pub loop-back-preserved : goal.loop-back-preserved
loop-back-preserved c = record {
  low = omega (arith, c.comes_up.ensures.low, c.loop-back-test.true, c.min-most.ensures);
  high = omega (arith, c.comes_up.ensures.high, c.loop-back.invariant.high);
  at_least = elim c.if-comes_up.branch [
    | then-comes_up w ↦ omega (arith, w.count-is, c.loop-back.invariant.at_least)
    | else-comes_up w ↦ omega (arith, w.count-is, c.loop-back.invariant.at_least)
  ];
  behind = λ start track. now c start track;
  count = λ start track. elim c.if-comes_up.branch [
    | then-comes_up w ↦ one_more start (map move_of (c.args.plies.now ++ c.args.looked.now)) _ _ (same c start track) w.if-comes_up.true (long c start track) (c.loop-back.invariant.count start track) w.count-is
    | else-comes_up w ↦ one_less start (map move_of (c.args.plies.now ++ c.args.looked.now)) _ _ (same c start track) w.if-comes_up.false (long c start track) (c.loop-back.invariant.count start track) w.count-is
  ];
}
