use Rattle.std.proofs.Common.{sym, ap, ◌∙◌, arith}
use Rattle.std.specs.FinSet.{contains}
use Rattle.chess_types.specs.board.Position.{PositionParts, man_on}
use Rattle.chess_attack.proofs.Lifted.{OnlyKing, only_king}
use Rattle.chess_moves.specs.steps.PawnCounts.{pawn_moves_to}
use Rattle.chess_moves.proofs.SetCounts.{plain_count, pawn_count}
use Rattle.chess_moves.proofs.counting.count_from.Goals as goal

pub returns-then-is_pawn-clause-count : goal.returns-then-is_pawn-clause-count
returns-then-is_pawn-clause-count g c =
    let p : PositionParts = c.args.live.now.position in
    let setup = c.position.ensures.setup in
    let same = c.behind-live.view_is ∙ c.position.ensures.value in
    let king : OnlyKing (man_on p) p.side c.args.guard.now.king =
    only_king p.placement p.side c.args.guard.now.king (setup.kings p.side) c.requires.guard.on_board c.requires.guard.king in
    pawn_count p setup c.own_kind-kind.result c.args.from c.args.guard.now.king (omega arith) c.own_kind-kind.ensures king c.targets-squares.result c.targets-squares.ensures.is_legal_target
    c.pawn_moves_to.result (sym c.is_pawn.ensures ∙ c.if-is_pawn.true)
    (c.pawn_moves_to.ensures.value ∙ ap (λ (q : PositionParts). pawn_moves_to q.side (contains c.targets-squares.result)) same)

pub returns-else-is_pawn-clause-count : goal.returns-else-is_pawn-clause-count
returns-else-is_pawn-clause-count g c =
    let p : PositionParts = c.args.live.now.position in
    let setup = c.position.ensures.setup in
    let king : OnlyKing (man_on p) p.side c.args.guard.now.king =
    only_king p.placement p.side c.args.guard.now.king (setup.kings p.side) c.requires.guard.on_board c.requires.guard.king in
    plain_count p setup c.own_kind-kind.result c.args.from c.args.guard.now.king (omega arith) c.own_kind-kind.ensures king c.targets-squares.result c.targets-squares.ensures.is_legal_target
    c.len.result (sym c.is_pawn.ensures ∙ c.if-is_pawn.false) c.len.ensures.counted
