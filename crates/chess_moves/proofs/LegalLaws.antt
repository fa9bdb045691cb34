-- What a legal move is, and which moves the list of them has.
use Rattle.std.proofs.Common.{◌≡◌, ◌<◌, true, Option, Some, refl, ap, ◌∙◌}
use Rattle.std.specs.List.{All, AllPass, Contains}
use Rattle.std.proofs.lemmas.List.Elements.{filter_passes, All-filter, All-contains}
use Rattle.std.proofs.lemmas.Bool.{and_parts, not-true}
use Rattle.chess_types.specs.declared.board.man.Colour.{Colour}
use Rattle.chess_types.specs.declared.board.man.Colour.TheVariants.{White, Black}
use Rattle.chess_types.specs.declared.board.man.Man.{Man}
use Rattle.chess_types.specs.board.Men.{opponent}
use Rattle.chess_types.specs.board.Attack.{in_check}
use Rattle.chess_types.specs.board.MoveParts.{MoveParts}
use Rattle.chess_types.specs.board.Position.{PositionParts, IsSetup, OpponentNotInCheck, IsWellFormed, man_on}
use Rattle.chess_types.specs.board.After.{after, after_by}
use Rattle.chess_types.specs.board.Legal.{is_legal, all_moves, legal_moves}
use Rattle.chess_types.proofs.AllMoves.{IsMove, all_on_board, passing_listed}
use Rattle.chess_types.proofs.MoveLemmas.{pseudo_man, legal_pseudo}
use Rattle.chess_play.proofs.Setups.{setup_after_move}
use Rattle.chess_moves.proofs.Candidates.{pseudo_names}

twice : (c : Colour) → opponent (opponent c) ≡ c
twice White = refl
twice Black = refl

side_after : (p : PositionParts) (there : Option Man) (m : MoveParts) (man : Man) → there ≡ Some man → (after_by p there m).side ≡ opponent p.side
side_after p there m man is = ap (λ x. (after_by p x m).side) is

-- after it the side that has moved isn't in check
pub legal_quiet : (p : PositionParts) (m : MoveParts) → is_legal p m ≡ true → OpponentNotInCheck (after p m)
unfolding is_legal after
legal_quiet p m h =
    let a = and_parts _ _ h in
    let (man, here) : (man : Man) × (man_on p m.from ≡ Some man) = pseudo_man p m a.0 in
    let side : opponent (after_by p (man_on p m.from) m).side ≡ p.side = ap opponent (side_after p (man_on p m.from) m man here) ∙ twice p.side in
    ap (in_check (man_on (after_by p (man_on p m.from) m))) side ∙ not-true _ a.1

-- and the position is well formed
pub legal_well_formed : (p : PositionParts) (m : MoveParts) → IsSetup p → m.from < 64 → m.to < 64 → is_legal p m ≡ true → IsWellFormed (after p m)
legal_well_formed p m setup from to h = record {
  setup = setup_after_move p m setup from to (legal_pseudo p m h);
  quiet = legal_quiet p m h;
}

-- each move of the list is legal
pub moves_legal : (p : PositionParts) → AllPass (is_legal p) (legal_moves p)
unfolding legal_moves
moves_legal p = filter_passes (is_legal p) all_moves

-- and goes between squares of the board
pub moves_on_board : (p : PositionParts) → All IsMove (legal_moves p)
unfolding legal_moves
moves_on_board p = All-filter (is_legal p) IsMove all_moves all_on_board

-- so a move of the list is legal
pub listed_legal : (p : PositionParts) (m : MoveParts) → Contains (legal_moves p) m → IsMove m × (is_legal p m ≡ true)
listed_legal p m h = (
  All-contains IsMove (legal_moves p) m (moves_on_board p) h,
  All-contains (λ x. is_legal p x ≡ true) (legal_moves p) m (moves_legal p) h,
)

-- and each legal move between squares of the board is in the list
pub legal_listed : (p : PositionParts) (m : MoveParts) → IsMove m → is_legal p m ≡ true → Contains (legal_moves p) m
unfolding legal_moves
legal_listed p m on_board h = passing_listed (is_legal p) m on_board (pseudo_names p m (legal_pseudo p m h)) h
