use Rattle.std.proofs.Common.{sym, ap, subst, ◌∙◌}
use Rattle.chess_types.specs.declared.board.man.Kind.TheVariants.{Pawn}
use Rattle.chess_types.specs.board.Men.{is_man, opponent}
use Rattle.chess_types.specs.board.Position.{PositionParts, man_on}
use Rattle.chess_types.specs.steps.KeptSets.{Gathers}
use Rattle.chess_moves.proofs.CountSplit.{free_none, free_some}
use Rattle.chess_moves.proofs.counting.free_pawns.Goals as goal

pub returns-in-Some : goal.returns-in-Some
returns-in-Some g c =
    let p : PositionParts = c.args.live.now.position in
    let same = c.setup.view_is ∙ c.position-setup.ensures.value in
    let of_pawns : Gathers c.of_kind-pawns.result (λ there. is_man there p.side Pawn) (man_on p) =
    subst (λ (q : PositionParts). Gathers c.of_kind-pawns.result (λ there. is_man there q.side Pawn) (man_on q)) same c.of_kind-pawns.ensures in
    free_some p c.position-setup.ensures.setup c.of_kind-pawns.result c.args.guard.now.pinned c.difference-loose.result of_pawns c.requires.guard.pinned c.difference-loose.ensures
    c.in-Some.target c.opponent.result c.leap_squares.result c.difference.result
    (ap (λ (q : PositionParts). q.target) (sym same) ∙ c.in-Some.is) (c.opponent.ensures ∙ ap (λ (q : PositionParts). opponent q.side) same) c.leap_squares.ensures c.difference.ensures

pub returns-in-None : goal.returns-in-None
returns-in-None g c =
    let p : PositionParts = c.args.live.now.position in
    let same = c.setup.view_is ∙ c.position-setup.ensures.value in
    let of_pawns : Gathers c.of_kind-pawns.result (λ there. is_man there p.side Pawn) (man_on p) =
    subst (λ (q : PositionParts). Gathers c.of_kind-pawns.result (λ there. is_man there q.side Pawn) (man_on q)) same c.of_kind-pawns.ensures in
    free_none p c.position-setup.ensures.setup c.of_kind-pawns.result c.args.guard.now.pinned c.difference-loose.result of_pawns c.requires.guard.pinned c.difference-loose.ensures
    (ap (λ (q : PositionParts). q.target) (sym same) ∙ c.in-None.is)
