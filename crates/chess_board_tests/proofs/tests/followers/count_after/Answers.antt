use Rattle.std.proofs.Common.{◌≡◌, sym, subst, ◌∙◌}
use Rattle.chess_types.specs.board.Position.{PositionParts}
use Rattle.chess_play.specs.Records.{IsBefore}
use Rattle.chess_board_tests.proofs.tests.followers.count_after.Goals as goal

pub undo-requires : goal.undo-requires
undo-requires g c =
    let same : c.has_legal.new.live.position ≡ c.make-made.new.self.position = c.has_legal.ensures.position ∙ c.count_legal-count.ensures.position in
    let before : IsBefore c.has_legal.new.live.position c.make-made.result c.args.live.now.position =
    subst (λ (now : PositionParts). IsBefore now c.make-made.result c.args.live.now.position) (sym same) c.make-made.ensures.is_before in
    record { fits = record { before = c.args.live.now.position; is_before = before } }
