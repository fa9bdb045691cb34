use Rattle.std.proofs.Common.{◌≡◌, ◌&&◌, false, sym, ap, ◌∙◌, arith}
use Rattle.std.specs.FinSet.{contains, contains-intersection}
use Rattle.std.proofs.lemmas.Cmp.{nat_cmp_total}
use Rattle.chess_types.specs.board.Men.{is_king, is_pawn}
use Rattle.chess_types.specs.board.Position.{PositionParts, man_on}
use Rattle.chess_attack.proofs.Lifted.{OnlyKing, only_king}
use Rattle.chess_moves.specs.steps.Targets.{is_plain_target}
use Rattle.chess_moves.proofs.LegalTargets.{man_lands, man_go}
use Rattle.chess_moves.proofs.KindCounts.{piece_parts}
use Rattle.chess_moves.proofs.targets.piece_targets.Goals as goal

pub returns : goal.returns
returns g c = λ to ht.
    let p : PositionParts = c.args.live.now.position in
    let setup = c.position.ensures.setup in
    let king : OnlyKing (man_on p) p.side c.args.guard.now.king =
    only_king p.placement p.side c.args.guard.now.king (setup.kings p.side) c.requires.stands.guard.on_board c.requires.stands.guard.king in
    let not_king : is_king c.args.kind ≡ false = (piece_parts c.args.kind c.requires.piece).1 in
    let not_pawn : is_pawn c.args.kind ≡ false = (piece_parts c.args.kind c.requires.piece).0 in
    ap (λ s. contains s to) c.intersection.ensures
    ∙ contains-intersection nat_cmp_total c.plain_targets-plain.result c.guarded-allowed.result to
    ∙ (λ i. (c.plain_targets-plain.ensures to ht ∙ ap (λ (q : PositionParts). is_plain_target q c.args.kind c.args.from to) c.position.ensures.value) i && c.guarded-allowed.ensures to ht i)
    ∙ sym (man_lands p setup c.args.from to (omega arith) ht c.args.kind c.args.guard.now.king c.requires.stands.here king not_king not_pawn
    (man_go p setup c.args.from to (omega arith) ht c.args.kind not_king not_pawn))
