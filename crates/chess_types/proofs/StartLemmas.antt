-- The position in which a game begins is a setup, and quiet.
use Rattle.std.proofs.Common.{◌≡◌, ℕ, ◌<◌, get_or, length, ◌≤◌, Option, None, Bool, true, false, refl, ◌∙◌, ap, arith}
use Rattle.std.specs.Prelude.{count_by, not, ◌&&◌, ◌||◌, nat_lt}
use Rattle.std.specs.List.{list_all}
use Rattle.std.proofs.lemmas.Bool.Decides.{nat_tests}
use Rattle.std.proofs.lemmas.List.{get_or_past}
use Rattle.chess_types.specs.declared.board.man.Colour.{Colour}
use Rattle.chess_types.specs.declared.board.man.Colour.TheVariants.{White, Black}
use Rattle.chess_types.specs.declared.board.position.Wing.{Wing}
use Rattle.chess_types.specs.declared.board.position.Wing.TheVariants.{KingSide, QueenSide}
use Rattle.chess_types.specs.board.Cells.{board_of}
use Rattle.chess_types.specs.board.Board.{Men, man_at}
use Rattle.chess_types.specs.board.Squares.{squares, is_between, rank_of}
use Rattle.chess_types.specs.board.Men.{count_squares, is_of, is_king_of, AtMost16, holds_pawn}
use Rattle.chess_types.specs.board.Attack.{in_check, count, attacks_as, is_clear, slides_to, slides, leaps}
use Rattle.chess_types.specs.board.Position.{start, start_cells, IsSetup, OpponentNotInCheck, king_home, rook_home, cell_of}
use Rattle.chess_types.specs.declared.board.man.Man.{Man}
use Rattle.chess_types.specs.declared.board.man.Kind.TheVariants.{King, Rook}
use Rattle.chess_types.proofs.CellLemmas.{get-board_of}
use Rattle.chess_types.proofs.MenLemmas.{count_squares-board_of}
use Rattle.chess_types.proofs.SquareLemmas.{every_square}

-- what stands on the squares, as a list gives it
unfoldable pub start_look : Men
start_look s = get_or start_cells s None

pub start_cell : (s : ℕ) → man_at (board_of start_cells) s ≡ start_look s
unfolding start_look
start_cell s = get-board_of start_cells s

start_look-is : man_at (board_of start_cells) ≡ start_look
start_look-is i s = start_cell s i

pub start_placed : man_at start.placement ≡ start_look
unfolding start
start_placed = start_look-is

pub start_length : length start_cells ≡ 64
unfolding start_cells
start_length = refl

pub start_past : (s : ℕ) → 64 ≤ s → start_look s ≡ None
unfolding start_look
start_past s ge = get_or_past start_cells s None (rw start_length ge)

start_census : (test : Option Man → Bool) → count_squares test (board_of start_cells) ≡ count_by test start_cells
start_census test = count_squares-board_of test start_cells (unfold start_cells in refl)

pub start_few : AtMost16 start_cells
unfolding start_cells
start_few White = omega arith
start_few Black = omega arith

pub start_kings : (c : Colour) → count_by (is_king_of c) start_cells ≡ 1
unfolding start_cells
start_kings White = refl
start_kings Black = refl

pawn_fits : ℕ → Bool
pawn_fits s = not (holds_pawn (start_look s)) || (nat_lt 0 (rank_of s) && nat_lt (rank_of s) 7)

pawns_fit : list_all pawn_fits squares ≡ true
unfolding pawn_fits start_look start_cells squares
pawns_fit = refl

start_pawns : (s : ℕ) → s < 64 → holds_pawn (start_look s) ≡ true → (0 < rank_of s) × (rank_of s < 7)
unfolding pawn_fits
start_pawns s low h =
    let fits : pawn_fits s ≡ true = every_square pawn_fits pawns_fit s low in
    (grind (arith, nat_tests, fits), grind (arith, nat_tests, fits))

start_king_home : (c : Colour) → start_look (king_home c) ≡ cell_of c King
unfolding start_look start_cells
start_king_home White = refl
start_king_home Black = refl

start_rook_home : (c : Colour) (w : Wing) → start_look (rook_home c w) ≡ cell_of c Rook
unfolding start_look start_cells
start_rook_home White KingSide = refl
start_rook_home White QueenSide = refl
start_rook_home Black KingSide = refl
start_rook_home Black QueenSide = refl

quiet_cells : in_check start_look Black ≡ false
unfolding start_look start_cells in_check count attacks_as is_clear slides_to slides leaps is_between squares
quiet_cells = refl

pub start_quiet : OpponentNotInCheck start
unfolding start
start_quiet = ap (λ man_on. in_check man_on Black) start_look-is ∙ quiet_cells

pub start_setup : IsSetup start
unfolding start
start_setup = record {
  kings = λ c. start_census (is_king_of c) ∙ start_kings c;
  few = λ c. rw (start_census (is_of c)) (start_few c);
  pawns = λ s low h. start_pawns s low (rw start_look-is at h);
  king_at_home = λ c w held. get-board_of start_cells (king_home c) ∙ unfold start_look in start_king_home c;
  rook_at_home = λ c w held. get-board_of start_cells (rook_home c w) ∙ unfold start_look in start_rook_home c w;
  target = λ t h. absurd (cc);
  number = omega arith;
}
