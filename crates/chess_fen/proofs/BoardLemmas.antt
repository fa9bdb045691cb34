-- Reading the ranks one by one.
use Rattle.std.proofs.Common.{◌≡◌, ◌≢◌, ℕ, ◌+◌, ◌<◌, ◌≤◌, ◌==◌, true, false, cond, eq-eqb, List, [], ◌∷◌, ◌++◌, length, get_or, take, drop, Option, Some, None, refl, sym, ap, ◌∙◌, take-append-drop, length-take-le, arith}
use Rattle.std.proofs.lemmas.Grind.{common_steps}
use Rattle.std.proofs.lemmas.List.{drop_more, drop-drop}
use Rattle.std.proofs.Math.Seq.{drop-append_seam}
use borrow.Rule.Slice.PartMut.{put_mid}
use Rattle.std.proofs.lemmas.Bool.{ne_eqb}
use Rattle.chess_types.specs.declared.board.man.Man.{Man}
use Rattle.chess_fen.specs.Ranks.{both_cells, rank_cells, cells_of_ranks, ranks, board_cells}
use Rattle.chess_fen.proofs.RankLemmas.{joined_assoc}

joined_nothing : (cells : Option (List (Option Man))) → both_cells cells (Some []) ≡ cells
joined_nothing None = refl
joined_nothing (Some cells) = grind (arith, common_steps)

joined_none : (cells : Option (List (Option Man))) → both_cells cells None ≡ None
joined_none None = refl
joined_none (Some cells) = refl

cells_of_ranks-append : (upper lower : List (List ℕ)) → cells_of_ranks (upper ++ lower) ≡ both_cells (cells_of_ranks lower) (cells_of_ranks upper)
unfolding cells_of_ranks
cells_of_ranks-append [] lower = sym (joined_nothing (cells_of_ranks lower))
cells_of_ranks-append (rank ∷ upper) lower =
    ap (λ cells. both_cells cells (rank_cells rank)) (cells_of_ranks-append upper lower) ∙ joined_assoc (cells_of_ranks lower) (cells_of_ranks upper) (rank_cells rank)

cells_of_ranks-one : (rank : List ℕ) → cells_of_ranks (rank ∷ []) ≡ rank_cells rank
unfolding cells_of_ranks
cells_of_ranks-one rank = elim (rank_cells rank) as (λ cells. both_cells (Some []) cells ≡ cells) [ None ↦ refl | Some cells ↦ grind (arith, common_steps) ]

pub no_ranks : Some [] ≡ cells_of_ranks []
unfolding cells_of_ranks
no_ranks = refl

-- one rank more, below the others
pub cells_of_ranks-push : (upper : List (List ℕ)) (rank : List ℕ) (lower above : List (Option Man)) → Some above ≡ cells_of_ranks upper → Some lower ≡ rank_cells rank →
    Some (lower ++ above) ≡ cells_of_ranks (upper ++ rank ∷ [])
cells_of_ranks-push upper rank lower above up low =
    rw (cells_of_ranks-append upper (rank ∷ []), cells_of_ranks-one rank, ← up, ← low) refl

-- a rank that stands for no eight squares
bad_rank : (parts : List (List ℕ)) (k : ℕ) (rank : List ℕ) → k < length parts → rank ≡ get_or parts k rank → None ≡ rank_cells rank → cells_of_ranks parts ≡ None
unfolding cells_of_ranks
bad_rank parts k rank within is bad =
    let cut : parts ≡ take k parts ++ rank ∷ drop (k + 1) parts = sym (take-append-drop k parts) ∙ ap (λ xs. take k parts ++ xs) (drop_more parts k rank within ∙ ap (λ x. x ∷ drop (k + 1) parts) (sym is)) in
    let here : cells_of_ranks (rank ∷ drop (k + 1) parts) ≡ None = ap (both_cells (cells_of_ranks (drop (k + 1) parts))) (sym bad) ∙ joined_none (cells_of_ranks (drop (k + 1) parts)) in
    ap cells_of_ranks cut ∙ cells_of_ranks-append (take k parts) (rank ∷ drop (k + 1) parts) ∙ ap (λ cells. both_cells cells (cells_of_ranks (take k parts))) here

abbrev nothing : Option (List (Option Man))
nothing = None

pub board_cells-bad : (field : List ℕ) (k : ℕ) (rank : List ℕ) → k < length (ranks field) → rank ≡ get_or (ranks field) k rank → None ≡ rank_cells rank → None ≡ board_cells field
unfolding board_cells
board_cells-bad field k rank within is bad =
    rw (bad_rank (ranks field) k rank within is bad) (elim (length (ranks field) == 8) as (λ b. nothing ≡ cond b nothing nothing) [ true ↦ refl | false ↦ refl ])

pub board_cells-other : (field : List ℕ) → length (ranks field) ≢ 8 → None ≡ board_cells field
unfolding board_cells
board_cells-other field other = rw (ne_eqb (length (ranks field)) 8 other) refl

pub board_cells-all : (field : List ℕ) (cells : List (Option Man)) → length (ranks field) ≡ 8 → Some cells ≡ cells_of_ranks (ranks field) → Some cells ≡ board_cells field
unfolding board_cells
board_cells-all field cells eight all = rw (eq-eqb (length (ranks field)) 8 eight) all

-- a rank written below the ranks that are there
pub placed : (cells rank : List (Option Man)) (at run from : ℕ) → from ≡ at + run → from ≤ length cells → drop at (put_mid at run cells rank) ≡ rank ++ drop from cells
placed cells rank at run from is within =
    let prefix : length (take at cells) ≡ at = length-take-le at cells (omega arith) in
    ap (λ n. drop n (put_mid at run cells rank)) (sym prefix) ∙ drop-append_seam (take at cells) (rank ++ drop run (drop at cells))
    ∙ ap (λ others. rank ++ others) (drop-drop run at cells ∙ ap (λ n. drop n cells) (sym is))
