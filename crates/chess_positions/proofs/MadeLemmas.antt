-- The last move of a line.
use Rattle.std.proofs.Common.{◌≡◌, ℕ, ◌-◌, true, Bool, List, [], ◌∷◌, ◌++◌, length, Some, refl, sym, ap, subst, ◌∙◌, arith, length-append}
use Rattle.std.specs.Prelude.{option_map, take}
use Rattle.std.specs.List.{slice_get}
use Rattle.std.proofs.Math.Seq.{take-append_seam}
use Rattle.chess_types.specs.board.MoveParts.{MoveParts}
use Rattle.chess_types.specs.board.Position.{PositionParts}
use Rattle.chess_types.specs.board.After.{after}
use Rattle.chess_types.specs.board.Lines.{Line, extended, last}
use Rattle.chess_types.proofs.PlayLaws.{last_extended}
use Rattle.chess_san.specs.Writing.{mark_text, san}
use Rattle.chess_positions.specs.Columns.{before, last_move, san_of}

at_seam : (ms : List MoveParts) (m : MoveParts) → slice_get (ms ++ m ∷ []) (length ms) ≡ Some m
at_seam [] m = refl
at_seam (x ∷ ms) m = at_seam ms m

one_less : (ms : List MoveParts) (m : MoveParts) → length (ms ++ m ∷ []) - 1 ≡ length ms
one_less ms m = (let e = length-append ms (m ∷ []) in omega (arith, e))

-- it is the one that was added
last_of : (line : Line) (m : MoveParts) → last_move (extended line m) ≡ Some m
last_of line m = ap (slice_get (line.moves ++ m ∷ [])) (one_less line.moves m) ∙ at_seam line.moves m

before_of : (line : Line) (m : MoveParts) → before (extended line m) ≡ line
before_of line m =
    ap (λ (n : ℕ). record { start = line.start; moves = take n (line.moves ++ m ∷ []) }) (one_less line.moves m)
    ∙ ap (λ (ms : List MoveParts). record { start = line.start; moves = ms }) (take-append_seam line.moves (m ∷ []))

-- the last move, and its text where it is asked for
pub reached : (line line' : Line) (m : MoveParts) (with_san : Bool) (unmarked : List ℕ) → line' ≡ extended line m → (with_san ≡ true → unmarked ++ mark_text (after (last line) m) ≡ san (last line) m)
    → (last_move line' ≡ Some m) × (with_san ≡ true → san_of line' ≡ Some (unmarked ++ mark_text (last line')))
reached line line' m with_san unmarked is text =
    subst (λ (l : Line). (last_move l ≡ Some m) × (with_san ≡ true → san_of l ≡ Some (unmarked ++ mark_text (last l)))) (sym is) (
      last_of line m,
      λ asked.
          ap (λ (l : Line). option_map (san (last l)) (last_move (extended line m))) (before_of line m) ∙ ap (option_map (san (last line))) (last_of line m)
          ∙ ap Some (sym (text asked) ∙ ap (λ (p : PositionParts). unmarked ++ mark_text p) (sym (last_extended line m))),
    )
