-- Who isn't in line with his king is not pinned.
use Rattle.std.proofs.Common.{◌≡◌, ℕ, ◌<◌, true, false, refl, sym, ◌∙◌, inl, inr, arith}
use Rattle.std.proofs.lemmas.Bool.{and_parts, cases_Bool, true≢false}
use Rattle.std.proofs.lemmas.Bool.Decides.{nat_tests}
use Rattle.chess_types.specs.declared.board.axis.Axis.{Axis}
use Rattle.chess_types.specs.declared.board.axis.Axis.TheVariants.{Rank, File, Rising, Falling}
use Rattle.chess_types.specs.declared.board.man.Colour.{Colour}
use Rattle.chess_types.specs.board.Board.{Men}
use Rattle.chess_types.specs.board.Squares.{on_axis, squares}
use Rattle.chess_types.specs.board.Bits.{word_where, table_of}
use Rattle.chess_attack.specs.declared.way.Way.{Way}
use Rattle.chess_attack.specs.Pins.{is_pinned}
use Rattle.chess_attack.specs.steps.Halves.{on_half}
use Rattle.chess_attack.specs.steps.PinHalves.{pinned_on}
use Rattle.chess_attack.proofs.Lifted.{OnlyKing}
use Rattle.chess_attack.proofs.PinHalves.{pinned_is, round_at}
use Rattle.chess_moves.specs.declared.in_line.TheConstants.{IN_LINE}
use Rattle.chess_moves.specs.steps.Guarded.{in_line}

pub lines_are : IN_LINE ≡ table_of in_line
unfolding table_of word_where squares in_line
lines_are = refl

on_one : (axis : Axis) (a b : ℕ) → on_axis axis a b ≡ true → in_line a b ≡ true
unfolding in_line
on_one Rank a b h = rw h refl
on_one File a b h = grind (arith, h)
on_one Rising a b h = grind (arith, h)
on_one Falling a b h = grind (arith, h)

-- a square is in line with itself
pub in_line_here : (a : ℕ) → in_line a a ≡ true
in_line_here a = on_one Rank a a (grind (arith, nat_tests))

pub unpinned_aside : (man_on : Men) (c : Colour) (k s : ℕ) → OnlyKing man_on c k → s < 64 → in_line k s ≡ false → is_pinned man_on c s ≡ false
unfolding on_half
unpinned_aside man_on c k s king hs aside =
    elim (cases_Bool (is_pinned man_on c s)) [
      | inr e ↦ e
      | inl e ↦
          let (axis, (way, on)) : (axis : Axis) × ((way : Way) × (pinned_on man_on c k s axis way ≡ true)) =
          round_at (pinned_on man_on c k s) (sym (pinned_is man_on c k s king hs) ∙ e) in
          let half : on_half axis way k s ≡ true = (and_parts _ _ (and_parts _ _ on).0).0 in
          absurd (true≢false (sym (on_one axis k s (and_parts _ _ half).0) ∙ aside))
    ]
