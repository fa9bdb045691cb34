-- Texts as far as they are written.
use Rattle.std.proofs.Common.{◌≡◌, ℕ, zero, suc, ◌+◌, ◌-◌, ◌*◌, ◌<◌, ◌≤◌, List, [], ◌∷◌, ◌++◌, length, map, take, drop, get_or, Option, None, Some, refl, sym, true, is_none, ap, ◌∙◌, append-nil, append_assoc, arith}
use Rattle.std.specs.List.{range_with_len, join_with_byte, list_all}
use Rattle.std.proofs.lemmas.Bool.{true≢false}
use Rattle.std.proofs.lemmas.List.{drop_more}
use Rattle.std.proofs.lemmas.Grind.{common_steps}
use Rattle.chess_types.specs.declared.board.man.Man.{Man}
use Rattle.chess_types.specs.board.Board.{Men, man_at}
use Rattle.chess_types.specs.board.Cells.{board_of}
use Rattle.chess_types.proofs.CellLemmas.{get-board_of}
use Rattle.chess_fen.specs.Writing.{cells_text, rank_text, run_text, placement_text}

-- the ranks below, each after a slash
abbrev pub below : (ℕ → List ℕ) → ℕ → List ℕ
below text zero = []
below text (suc rank) = 47 ∷ text rank ++ below text rank

pub placement_text-ranks : (man_on : Men) → rank_text man_on 7 ++ below (rank_text man_on) 7 ≡ placement_text man_on
unfolding placement_text
placement_text-ranks man_on = simp append-nil

-- what stands on squares that follow one another
map-board_of : (cells : List (Option Man)) (from n : ℕ) → from + n ≤ length cells → map (man_at (board_of cells)) (range_with_len from n) ≡ take n (drop from cells)
map-board_of cells from zero within = refl
map-board_of cells from (suc n) within =
    let here : man_at (board_of cells) from ≡ get_or cells from None = get-board_of cells from in
    let others = map-board_of cells (from + 1) n (omega arith) in
    let cut : drop from cells ≡ get_or cells from None ∷ drop (from + 1) cells = drop_more cells from None (omega arith) in
    rw (cut, here, others) refl

module _ (cells : List (Option Man)) (len : length cells ≡ 64) where
  rank_text-cells : (rank : ℕ) → rank < 8 → rank_text (man_at (board_of cells)) rank ≡ cells_text 0 (take 8 (drop (8 * rank) cells))
  unfolding rank_text
  rank_text-cells rank low = ap (cells_text 0) (map-board_of cells (8 * rank) 8 (omega arith))

  pub off_board : (s : ℕ) → 64 ≤ s → man_at (board_of cells) s ≡ None
  off_board s high = get-board_of cells s ∙ grind (arith, common_steps)

  pub begun : (old new : List ℕ) → old ≡ [] → new ≡ old ++ cells_text 0 (take 8 (drop 56 cells)) →
      new ++ below (rank_text (man_at (board_of cells))) 7 ≡ placement_text (man_at (board_of cells))
  begun old new empty is =
      rw (is, empty, ← rank_text-cells 7 (omega arith)) (placement_text-ranks (man_at (board_of cells)))

  pub one_more : (rank from n : ℕ) (old mid new : List ℕ) → 0 < rank → rank ≤ 7 → from ≡ 8 * (rank - 1) → n ≡ 8 →
      old ++ below (rank_text (man_at (board_of cells))) rank ≡ placement_text (man_at (board_of cells)) → mid ≡ old ++ 47 ∷ [] → new ≡ mid ++ cells_text 0 (take n (drop from cells)) →
      new ++ below (rank_text (man_at (board_of cells))) (rank - 1) ≡ placement_text (man_at (board_of cells))
  one_more zero from n old mid new some low start eight so_far slash is = absurd (omega arith)
  one_more (suc rank) from n old mid new some low start eight so_far slash is =
      let here : suc rank - 1 ≡ rank = omega arith in
      let first : from ≡ 8 * rank = omega arith in
      rw (here, is, slash, eight, first, ← rank_text-cells rank (omega arith))
      (simp append_assoc so_far)

-- squares without a man, after so many others
cells_text-empty : (run : ℕ) (cells : List (Option Man)) → list_all is_none cells ≡ true → cells_text run cells ≡ run_text (run + length cells)
cells_text-empty run [] are = ap run_text (omega arith)
cells_text-empty run (None ∷ cells) are = cells_text-empty (run + 1) cells are ∙ ap run_text (omega arith)
cells_text-empty run (Some man ∷ cells) are = absurd (true≢false (sym are))

pub eight_empty : (cells : List (Option Man)) → length cells ≡ 8 → list_all is_none cells ≡ true → cells_text 0 cells ≡ 56 ∷ []
eight_empty cells eight are =
    let run : 0 + length cells ≡ 8 = omega (arith, eight) in
    cells_text-empty 0 cells are ∙ ap run_text run

-- two fields after the first four
pub two_more : (t0 t1 t2 t3 t4 a b c d e f : List ℕ) → t0 ≡ join_with_byte 32 (a ∷ b ∷ c ∷ d ∷ []) → t1 ≡ t0 ++ 32 ∷ [] → t2 ≡ t1 ++ e → t3 ≡ t2 ++ 32 ∷ [] → t4 ≡ t3 ++ f
    → t4 ≡ join_with_byte 32 (a ∷ b ∷ c ∷ d ∷ e ∷ f ∷ [])
two_more t0 t1 t2 t3 t4 a b c d e f e0 e1 e2 e3 e4 =
    let first : List ℕ = a ++ 32 ∷ (b ++ 32 ∷ (c ++ 32 ∷ d)) in
    let rest : List ℕ = 32 ∷ (e ++ 32 ∷ f) in
    e4 ∙ ap (λ (t : List ℕ). t ++ f) (e3 ∙ ap (λ (t : List ℕ). t ++ 32 ∷ []) (e2 ∙ ap (λ (t : List ℕ). t ++ e) (e1 ∙ ap (λ (t : List ℕ). t ++ 32 ∷ []) e0)))
    ∙ append_assoc ((first ++ 32 ∷ []) ++ e) (32 ∷ []) f ∙ append_assoc (first ++ 32 ∷ []) e (32 ∷ f) ∙ append_assoc first (32 ∷ []) (e ++ 32 ∷ f)
    ∙ append_assoc a (32 ∷ (b ++ 32 ∷ (c ++ 32 ∷ d))) rest
    ∙ ap (λ (t : List ℕ). a ++ 32 ∷ t) (append_assoc b (32 ∷ (c ++ 32 ∷ d)) rest ∙ ap (λ (t : List ℕ). b ++ 32 ∷ t) (append_assoc c (32 ∷ d) rest))
