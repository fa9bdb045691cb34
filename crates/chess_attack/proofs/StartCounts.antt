-- The attack counts of the placement in which a game begins, which the checker computes.
use Rattle.std.proofs.Common.{◌≡◌, ℕ, ◌<◌, List, map, refl, arith}
use Rattle.std.specs.Prelude.{slice_index}
use Rattle.std.proofs.lemmas.List.FromFn.{get_or-map-range_with_len}
use Rattle.chess_types.specs.declared.board.man.Colour.{Colour}
use Rattle.chess_types.specs.declared.board.man.Colour.TheVariants.{White, Black}
use Rattle.chess_types.specs.board.Board.{man_at}
use Rattle.chess_types.specs.board.Squares.{squares, is_between}
use Rattle.chess_types.specs.board.Attack.{count, attacks_as, is_clear, slides_to, slides, leaps}
use Rattle.chess_types.specs.board.Position.{start, start_cells}
use Rattle.chess_attack.specs.declared.tally.TheConstants.{WHITE_AT_START, BLACK_AT_START}
use Rattle.chess_types.proofs.StartLemmas.{start_look, start_placed}

white_counted : WHITE_AT_START ≡ map (count start_look White) squares
unfolding start_look start_cells count attacks_as is_clear slides_to slides leaps is_between squares
white_counted = refl

black_counted : BLACK_AT_START ≡ map (count start_look Black) squares
unfolding start_look start_cells count attacks_as is_clear slides_to slides leaps is_between squares
black_counted = refl

-- one number of such a list
entry : (counts : List ℕ) (colour : Colour) (s : ℕ) → counts ≡ map (count start_look colour) squares → s < 64 →
    slice_index counts s ≡ count (man_at start.placement) colour s
unfolding squares
entry counts colour s is low =
    rw (start_placed, is) (get_or-map-range_with_len (count start_look colour) 0 64 s s 0 low (omega arith))

pub white_is : (s : ℕ) → s < 64 → slice_index WHITE_AT_START s ≡ count (man_at start.placement) White s
white_is s = entry WHITE_AT_START White s white_counted

pub black_is : (s : ℕ) → s < 64 → slice_index BLACK_AT_START s ≡ count (man_at start.placement) Black s
black_is s = entry BLACK_AT_START Black s black_counted
