-- The sets of squares that are kept as a game begins, which the checker computes.
use Rattle.std.proofs.Common.{◌≡◌, ℕ, ◌&&◌, ltb, Bool, false, Option, None, refl, ap, ◌∙◌, arith, inl, inr}
use Rattle.std.proofs.lemmas.Bool.Decides.{nat_tests}
use Rattle.std.proofs.lemmas.Bool.{cases_lt}
use Rattle.std.specs.FinSet.{contains}
use Rattle.chess_types.specs.declared.board.man.Man.{Man}
use Rattle.chess_types.specs.declared.board.man.Colour.TheVariants.{White, Black}
use Rattle.chess_types.specs.declared.board.man.Kind.TheVariants.{Pawn, Knight}
use Rattle.chess_types.specs.board.Bits.{set_of, word_where}
use Rattle.chess_types.specs.board.Board.{man_at}
use Rattle.chess_types.specs.board.Cells.{board_of}
use Rattle.chess_types.specs.board.Men.{is_of}
use Rattle.chess_types.specs.board.Position.{start_cells}
use Rattle.chess_types.specs.board.Squares.{squares}
use Rattle.chess_types.specs.steps.KeptSets.{Gathers, holds_kind, holds_king, holds_straight, holds_diagonal}
use Rattle.chess_types.proofs.BitLemmas.{contains-word_where}
use Rattle.chess_types.proofs.StartLemmas.{start_look, start_cell, start_past}

-- the word of the squares that pass a test of what stands on them, read as a set of squares, is the set that is kept
pub gathers : (test : Option Man → Bool) (bits : ℕ) → test None ≡ false → bits ≡ word_where (λ s. test (start_look s)) →
    Gathers (set_of bits) test (man_at (board_of start_cells))
gathers test bits nobody is s =
    let listed : contains (set_of bits) s ≡ (ltb s 64 && test (start_look s)) = rw is (contains-word_where (λ q. test (start_look q)) s) in
    let here : test (man_at (board_of start_cells) s) ≡ test (start_look s) = ap test (start_cell s) in
    elim (cases_lt s 64) [
      | inl lt ↦ grind (arith, nat_tests, listed, here)
      | inr ge ↦
          let none : test (start_look s) ≡ false = ap test (start_past s ge) ∙ nobody in
          grind (arith, nat_tests, listed, here, none)
    ]

pub white : 65535 ≡ word_where (λ s. is_of White (start_look s))
unfolding word_where squares start_look start_cells
white = refl

pub black : 18446462598732840960 ≡ word_where (λ s. is_of Black (start_look s))
unfolding word_where squares start_look start_cells
black = refl

pub pawns : 71776119061282560 ≡ word_where (λ s. holds_kind Pawn (start_look s))
unfolding word_where squares start_look start_cells
pawns = refl

pub knights : 4755801206503243842 ≡ word_where (λ s. holds_kind Knight (start_look s))
unfolding word_where squares start_look start_cells
knights = refl

pub kings : 1152921504606846992 ≡ word_where (λ s. holds_king (start_look s))
unfolding word_where squares start_look start_cells
kings = refl

pub straight : 9871890383196127369 ≡ word_where (λ s. holds_straight (start_look s))
unfolding word_where squares start_look start_cells
straight = refl

pub diagonal : 3170534137668829228 ≡ word_where (λ s. holds_diagonal (start_look s))
unfolding word_where squares start_look start_cells
diagonal = refl
