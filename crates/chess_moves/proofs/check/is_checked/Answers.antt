use Rattle.std.proofs.Common.{◌≡◌, ℕ, true, ap, subst, ◌∙◌, arith}
use Rattle.chess_types.specs.board.Attack.{is_attacked}
use Rattle.chess_types.specs.board.Men.{is_king_of}
use Rattle.chess_types.specs.board.Position.{PositionParts, man_on}
use Rattle.chess_attack.proofs.Kings.{checked_at}
use Rattle.chess_moves.proofs.check.is_checked.Goals as goal

pub returns : goal.returns
returns g c =
    let p : PositionParts = c.args.live.now.position in
    let k : ℕ = c.king_square-king.result in
    let here : is_king_of c.args.colour (man_on p k) ≡ true =
    subst (λ (q : PositionParts). is_king_of c.args.colour (man_on q k) ≡ true) (c.behind-live.view_is ∙ c.position.ensures.value) c.king_square-king.ensures in
    c.is_attacked.ensures ∙ ap (λ colour. is_attacked (man_on p) colour k) c.opponent.ensures
    ∙ checked_at p.placement c.args.colour k (c.position.ensures.setup.kings c.args.colour) (omega arith) here
