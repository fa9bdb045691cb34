-- The men are read back from what is written of them.
use Rattle.std.proofs.Common.{◌≡◌, ℕ, zero, suc, ◌+◌, ◌-◌, ◌*◌, ◌<◌, ◌≤◌, ◌==◌, true, false, ◌&&◌, ◌||◌, List, [], ◌∷◌, ◌++◌, length, map, replicate, Option, Some, None, refl, sym, ap, ◌∙◌, append-nil, length-append, arith}
use Rattle.std.specs.List.{AllByRecursion}
use Rattle.std.proofs.lemmas.Bool.Decides.{nat_tests}
use Rattle.std.proofs.lemmas.List.FromFn.{length-map-range_with_len}
use Rattle.chess_types.specs.declared.board.man.Colour.{Colour}
use Rattle.chess_types.specs.declared.board.man.Colour.TheVariants.{White, Black}
use Rattle.chess_types.specs.declared.board.man.Kind.{Kind}
use Rattle.chess_types.specs.declared.board.man.Kind.TheVariants.{Pawn}
use Rattle.chess_types.specs.declared.board.man.Man.{Man}
use Rattle.chess_types.specs.board.Board.{Men}
use Rattle.chess_types.specs.board.Squares.{squares}
use Rattle.chess_types.specs.board.Texts.{man_letter, man_of_letter}
use Rattle.chess_fen.specs.Ranks.{stands_for_empty, cells_of_byte, cells_of, starts_with_digit, has_adjacent_digits, rank_cells, cells_of_ranks, board_cells, ranks}
use Rattle.chess_fen.specs.Writing.{run_text, cells_text, rank_squares, rank_text, placement_text}
use Rattle.chess_fen.proofs.PartLemmas.{Above, Above-append, Above-less, Above-joined, IsWord, slice_split-joined}

abbrev none : Option Man
none = None

-- a man's letter is no digit, and names him
record IsLetter (man : Man) : Type 0 where
  plain : stands_for_empty (man_letter man) ≡ false
  means : man_of_letter (man_letter man) ≡ Some man
  high : 47 < man_letter man

letters : (colour : Colour) (kind : Kind) → IsLetter (record { colour = colour; kind = kind })
letters White Pawn = record { plain = refl; means = refl; high = omega arith }
letters Black Pawn = record { plain = refl; means = refl; high = omega arith }
letters _ _ = record { plain = refl; means = refl; high = omega arith }

letter : (man : Man) → IsLetter man
letter man = letters man.colour man.kind

run_text-some : (n : ℕ) → run_text (suc n) ≡ (48 + suc n) ∷ []
run_text-some n = let some : (suc n == 0) ≡ false = grind (arith, nat_tests) in rw some refl

-- no digit comes after a run
run_text-apart : (run : ℕ) (rest : List ℕ) → starts_with_digit rest ≡ false → has_adjacent_digits rest ≡ false → has_adjacent_digits (run_text run ++ rest) ≡ false
run_text-apart zero rest starts others = others
run_text-apart (suc n) rest starts others =
    rw (run_text-some n) (elim (stands_for_empty (48 + suc n)) as (λ d. ((d && starts_with_digit rest) || has_adjacent_digits rest) ≡ false) [ true ↦ rw (starts, others) refl | false ↦ others ])

cells_text-apart : (run : ℕ) (cells : List (Option Man)) → has_adjacent_digits (cells_text run cells) ≡ false
cells_text-apart run [] = ap has_adjacent_digits (sym (append-nil (run_text run))) ∙ run_text-apart run [] refl refl
cells_text-apart run (None ∷ cells) = cells_text-apart (run + 1) cells
cells_text-apart run (Some man ∷ cells) =
    let plain = (letter man).plain in
    run_text-apart run (man_letter man ∷ cells_text 0 cells) plain (rw plain (cells_text-apart 0 cells))

digit_cells : (n : ℕ) → suc n ≤ 8 → cells_of_byte (48 + suc n) ≡ Some (replicate (suc n) none)
digit_cells n few =
    let digit : stands_for_empty (48 + suc n) ≡ true = grind (arith, nat_tests) in
    let count : 48 + suc n - 48 ≡ suc n = omega arith in
    rw (digit, count) refl

-- a run and the cells after it
run_text-cells : (run : ℕ) (rest : List ℕ) (cells : List (Option Man)) → run ≤ 8 → cells_of rest ≡ Some cells → cells_of (run_text run ++ rest) ≡ Some (replicate run none ++ cells)
unfolding cells_of
run_text-cells zero rest cells few is = is
run_text-cells (suc n) rest cells few is = let digit = digit_cells n few in rw (run_text-some n, digit, is) refl

one_more_empty : (run : ℕ) (cells : List (Option Man)) → none ∷ replicate run none ++ cells ≡ replicate run none ++ none ∷ cells
one_more_empty zero cells = refl
one_more_empty (suc n) cells = ap (λ others. none ∷ others) (one_more_empty n cells)

cells_text-cells : (run : ℕ) (cells : List (Option Man)) → run + length cells ≤ 8 → cells_of (cells_text run cells) ≡ Some (replicate run none ++ cells)
unfolding cells_of
cells_text-cells run [] few = ap cells_of (sym (append-nil (run_text run))) ∙ run_text-cells run [] [] (omega arith) refl
cells_text-cells run (None ∷ cells) few =
    let next : run + 1 ≡ suc run = omega arith in
    cells_text-cells (run + 1) cells (omega arith) ∙ rw next (ap (λ (found : List (Option Man)). Some found) (one_more_empty run cells))
cells_text-cells run (Some man ∷ cells) few =
    let plain = (letter man).plain in
    let means = (letter man).means in
    let others = cells_text-cells 0 cells (omega arith) in
    run_text-cells run (man_letter man ∷ cells_text 0 cells) (Some man ∷ cells) (omega arith) (rw (plain, means, others) refl)

rank_cells-text : (cells : List (Option Man)) → length cells ≡ 8 → rank_cells (cells_text 0 cells) ≡ Some cells
unfolding rank_cells
rank_cells-text cells eight = rw (cells_text-apart 0 cells, cells_text-cells 0 cells (omega arith), eight) refl

run_text-above : (run : ℕ) → Above 47 (run_text run)
run_text-above zero = tt
run_text-above (suc n) = rw (run_text-some n) (omega arith, tt)

cells_text-above : (run : ℕ) (cells : List (Option Man)) → Above 47 (cells_text run cells)
cells_text-above run [] = run_text-above run
cells_text-above run (None ∷ cells) = cells_text-above (run + 1) cells
cells_text-above run (Some man ∷ cells) =
    Above-append 47 (run_text run) (man_letter man ∷ cells_text 0 cells) (run_text-above run) ((letter man).high, cells_text-above 0 cells)

-- the ranks
module _ (man_on : Men) where
  rank_text-above : (rank : ℕ) → Above 47 (rank_text man_on rank)
  unfolding rank_text
  rank_text-above rank = cells_text-above 0 (map man_on (rank_squares rank))

  rank_text-cells : (rank : ℕ) → rank_cells (rank_text man_on rank) ≡ Some (map man_on (rank_squares rank))
  unfolding rank_text
  rank_text-cells rank = rank_cells-text (map man_on (rank_squares rank)) (length-map-range_with_len man_on (8 * rank) 8)

  above_all : (n : ℕ) → n ≤ 47 → (numbers : List ℕ) → AllByRecursion (Above n) (map (rank_text man_on) numbers)
  above_all n less [] = tt
  above_all n less (rank ∷ others) = (Above-less n 47 (rank_text man_on rank) less (rank_text-above rank), above_all n less others)

  ranks-text : ranks (placement_text man_on) ≡ map (rank_text man_on) (7 ∷ 6 ∷ 5 ∷ 4 ∷ 3 ∷ 2 ∷ 1 ∷ 0 ∷ [])
  unfolding placement_text
  ranks-text = slice_split-joined (rank_text man_on 7) (map (rank_text man_on) (6 ∷ 5 ∷ 4 ∷ 3 ∷ 2 ∷ 1 ∷ 0 ∷ [])) (above_all 47 (omega arith) (7 ∷ 6 ∷ 5 ∷ 4 ∷ 3 ∷ 2 ∷ 1 ∷ 0 ∷ []))

  all_ranks : cells_of_ranks (map (rank_text man_on) (7 ∷ 6 ∷ 5 ∷ 4 ∷ 3 ∷ 2 ∷ 1 ∷ 0 ∷ [])) ≡ Some (map man_on squares)
  unfolding cells_of_ranks squares
  all_ranks =
      rw (rank_text-cells 0, rank_text-cells 1, rank_text-cells 2, rank_text-cells 3, rank_text-cells 4, rank_text-cells 5, rank_text-cells 6, rank_text-cells 7) refl

  pub board_cells-text : board_cells (placement_text man_on) ≡ Some (map man_on squares)
  unfolding board_cells
  board_cells-text = rw ranks-text all_ranks

  pub placement_text-word : IsWord (placement_text man_on)
  unfolding placement_text
  placement_text-word =
      let numbers : List ℕ = 7 ∷ 6 ∷ 5 ∷ 4 ∷ 3 ∷ 2 ∷ 1 ∷ 0 ∷ [] in
      (simp length-append (omega arith), Above-joined 32 47 (map (rank_text man_on) numbers) (omega arith) (above_all 32 (omega arith) numbers))
