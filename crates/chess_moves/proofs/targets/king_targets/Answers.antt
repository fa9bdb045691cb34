use Rattle.std.proofs.Common.{◌≡◌, true, ◌&&◌, sym, ap, ◌∙◌, refl, arith}
use Rattle.chess_types.specs.declared.board.man.Kind.TheVariants.{King}
use Rattle.chess_types.specs.declared.board.position.Wing.TheVariants.{KingSide, QueenSide}
use Rattle.chess_types.specs.board.Men.{is_king_of}
use Rattle.chess_types.specs.board.Position.{PositionParts, man_on}
use Rattle.chess_types.specs.board.Pseudo.{reached}
use Rattle.chess_types.proofs.SameLemmas.{same_self}
use Rattle.chess_attack.proofs.Lifted.{OnlyKing, only_king}
use Rattle.chess_moves.specs.steps.Guarded.{is_safe_step}
use Rattle.chess_moves.specs.steps.Targets.{is_plain_target}
use Rattle.chess_moves.proofs.LegalTargets.{king_set, king_lands}
use Rattle.chess_moves.proofs.targets.king_targets.Goals as goal

pub returns : goal.returns
returns g c = λ to ht.
    let p : PositionParts = c.args.live.now.position in
    let same = c.setup.view_is ∙ c.position-setup.ensures.value in
    let setup = c.position-setup.ensures.setup in
    let stands : is_king_of p.side (man_on p c.args.from) ≡ true = rw (c.requires.here, same_self p.side) refl in
    let king : OnlyKing (man_on p) p.side c.args.from = only_king p.placement p.side c.args.from (setup.kings p.side) (omega arith) stands in
    let k : c.args.guard.now.king ≡ c.args.from = king.only c.args.guard.now.king c.requires.guard.on_board c.requires.guard.king in
    king_set p c.args.from to c.reached.result c.reached-2.result (is_plain_target p King c.args.from to && is_safe_step p c.args.from to)
    c.may_castle_from-short.result c.may_castle_from-long.result c.safe_steps-targets.result c.insert_if.new.self c.insert_if-2.new.self
    (c.safe_steps-targets.ensures to ht
    ∙ (λ i. (c.plain_targets-steps.ensures to ht ∙ ap (λ (q : PositionParts). is_plain_target q King c.args.from to) c.position-setup.ensures.value) i && is_safe_step p (k i) to))
    (c.reached.ensures ∙ ap (λ (q : PositionParts). reached q.side KingSide) same) (c.reached-2.ensures ∙ ap (λ (q : PositionParts). reached q.side QueenSide) same)
    c.may_castle_from-short.ensures c.may_castle_from-long.ensures c.insert_if.ensures c.insert_if-2.ensures
    ∙ sym (king_lands p setup c.args.from to (omega arith) ht c.requires.here king)
