use Rattle.std.proofs.Common.{◌-◌, ◌++◌}
use Rattle.chess_types.specs.board.Position.{PositionParts}
use Rattle.chess_draws.specs.declared.repetition_key.RepetitionKey.{RepetitionKey}
use Rattle.chess_draws.specs.steps.LookBack.{AreMenAt, IsTrack}
use Rattle.chess_draws.proofs.look_back.men_before.Given as goal

abbrev pub invariant-loop-back : goal.invariant-loop-back
invariant-loop-back l = record {
  men : (start : PositionParts) (here : RepetitionKey) → IsTrack start (l.plies ++ l.looked) here l.at →
      AreMenAt start (l.plies ++ l.looked) here l.initial.earlier l.known → AreMenAt start (l.plies ++ l.looked) here l.earlier (l.known - l.back);
}
