-- Reading a rank byte by byte, and the ranks one by one.
use Rattle.std.proofs.Common.{◌≡◌, ℕ, ◌<◌, ◌≤◌, false, List, [], ◌∷◌, length, get_or, take, drop, replicate, Option, Some, None, refl, sym, ap, ◌∙◌, arith}
use Rattle.std.proofs.lemmas.Grind.{common_steps}
use Rattle.std.proofs.lemmas.List.{take-replicate}
use Rattle.chess_types.specs.declared.board.man.Man.{Man}
use Rattle.chess_fen.specs.Ranks.{both_cells, at_most, of_length, cells_of_byte, cells_of, rank_cells, has_adjacent_digits}

abbrev none : Option Man
none = None

-- what a run of empty squares is cut from
pub empty_run : (run : ℕ) → run ≤ 8 → take run (replicate 8 none) ≡ replicate run none
empty_run run h = take-replicate run 8 none h

-- the bytes of a rank from which no squares come, or too many
abbrev pub Fails : Option (List (Option Man)) → Type 0
Fails cells = (more : Option (List (Option Man))) → of_length 8 (both_cells cells more) ≡ None

joined_too_long : (cells : List (Option Man)) → 8 < length cells → Fails (Some cells)
joined_too_long cells long None = refl
joined_too_long cells long (Some more) = grind (arith, common_steps)

pub too_long : (cells : Option (List (Option Man))) → at_most 8 cells ≡ None → Fails cells
too_long None h = λ more. refl
too_long (Some cells) h = joined_too_long cells (grind (arith, common_steps))

pub joined_assoc : (a b c : Option (List (Option Man))) → both_cells (both_cells a b) c ≡ both_cells a (both_cells b c)
joined_assoc None b c = refl
joined_assoc (Some a) None c = refl
joined_assoc (Some a) (Some b) None = refl
joined_assoc (Some a) (Some b) (Some c) = grind (arith, common_steps)

at_most_some : (n : ℕ) (x : Option (List (Option Man))) (cells : List (Option Man)) → Some cells ≡ at_most n x → x ≡ Some cells
at_most_some n None cells h = absurd (cc)
at_most_some n (Some xs) cells h = grind (arith, common_steps)

-- one byte more of a rank, after which these squares are there
module _ (text rest : List ℕ) (cells : List (Option Man)) (some : 1 ≤ length rest) (so_far : both_cells (Some cells) (cells_of rest) ≡ cells_of text) where
  one_more : both_cells (both_cells (Some cells) (cells_of_byte (get_or rest 0 0))) (cells_of (drop 1 rest)) ≡ cells_of text
  unfolding cells_of
  one_more = elim rest as (λ r. 1 ≤ length r → both_cells (Some cells) (cells_of r) ≡ cells_of text → both_cells (both_cells (Some cells) (cells_of_byte (get_or r 0 0))) (cells_of (drop 1 r)) ≡ cells_of text) [
    | [] ↦ λ h e. absurd (omega arith)
    | b ∷ bs ↦ λ h e. joined_assoc (Some cells) (cells_of_byte b) (cells_of bs) ∙ e
  ] some so_far

  pub stopped : has_adjacent_digits text ≡ false → None ≡ at_most 8 (both_cells (Some cells) (cells_of_byte (get_or rest 0 0))) → None ≡ rank_cells text
  unfolding rank_cells
  stopped apart over =
      let fails = too_long (both_cells (Some cells) (cells_of_byte (get_or rest 0 0))) (sym over) (cells_of (drop 1 rest)) in
      rw (apart, ← one_more) (sym fails)

  pub went_on : (new : List (Option Man)) → Some new ≡ at_most 8 (both_cells (Some cells) (cells_of_byte (get_or rest 0 0))) → both_cells (Some new) (cells_of (drop 1 rest)) ≡ cells_of text
  went_on new added = ap (λ x. both_cells x (cells_of (drop 1 rest))) (sym (at_most_some 8 _ new added)) ∙ one_more

-- at the end of a rank
pub finished : (text : List ℕ) (cells : List (Option Man)) → has_adjacent_digits text ≡ false → Some cells ≡ cells_of text → rank_cells text ≡ of_length 8 (Some cells)
unfolding rank_cells
finished text cells apart all = rw (apart, ← all) refl
