use Rattle.std.proofs.Common.{sym, subst}
use Rattle.chess_types.specs.board.Position.{PositionParts}
use Rattle.chess_play.specs.Records.{IsBefore}
use Rattle.chess_board_tests.proofs.tests.live.moves_taken_back_in_turn.Goals as goal

pub undo-requires : goal.undo-requires
undo-requires g c =
    let before : IsBefore c.there_and_back.new.live.position c.make-first.result c.new-live.result.position =
    subst (λ (now : PositionParts). IsBefore now c.make-first.result c.new-live.result.position) (sym c.there_and_back.ensures) c.make-first.ensures in
    record { fits = record { before = c.new-live.result.position; is_before = before } }
