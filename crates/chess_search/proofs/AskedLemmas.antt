-- How many positions plain minimax asks for.
use Rattle.std.proofs.Common.{◌≡◌, ℕ, zero, suc, ◌-◌, ◌<◌, ◌≤◌, Bool, true, false, List, [], ◌∷◌, length, get_or, take, drop, refl, sym, ap, ◌∙◌, arith}
use Rattle.std.specs.Prelude.{if◌then◌else◌}
use Rattle.std.specs.List.{sum_by}
use Rattle.std.specs.List.Sorted.{IsPermutation}
use Rattle.std.proofs.lemmas.List.Sorted.{sum_by-IsPermutation}
use Rattle.std.proofs.lemmas.List.Sums.{sum_by-cons}
use Rattle.chess_types.specs.board.MoveParts.{MoveParts}
use Rattle.chess_types.specs.board.Legal.{legal_moves}
use Rattle.chess_types.specs.board.Lines.{Line, last}
use Rattle.chess_search.specs.Value.{counts_drawn}
use Rattle.chess_search.specs.Asked.{tree_size, tree_below, trees_below}

one_or_more : (drawn : Bool) (n : ℕ) → 1 ≤ (if drawn then 1 else suc n)
one_or_more true n = omega arith
one_or_more false n = omega arith

-- a line is asked for itself
pub tree_some : (claims : Bool) (depth : ℕ) (line : Line) → 1 ≤ tree_size claims depth line
tree_some claims zero line = omega arith
tree_some claims (suc depth) line = one_or_more (counts_drawn claims line) (trees_below claims depth line (legal_moves (last line)))

tree_suc : (claims : Bool) (depth : ℕ) (line : Line) → counts_drawn claims line ≡ false →
    tree_size claims (suc depth) line ≡ suc (trees_below claims depth line (legal_moves (last line)))
tree_suc claims depth line playing = rw playing refl

ones : (f : MoveParts → ℕ) (ms : List MoveParts) → ((m : MoveParts) → f m ≡ 1) → sum_by f ms ≡ length ms
ones f [] each = refl
ones f (m ∷ ms) each = omega (arith, sum_by-cons f m ms, each m, ones f ms each)

-- one ply deep, where play goes on, the line and each of its moves
pub tree_one : (claims : Bool) (line : Line) → counts_drawn claims line ≡ false → tree_size claims 1 line ≡ suc (length (legal_moves (last line)))
tree_one claims line playing = tree_suc claims 0 line playing ∙ ap suc (ones (tree_below claims 0 line) (legal_moves (last line)) (λ m. refl))

-- where play goes on, with the moves in any order
pub tree_any_order : (claims : Bool) (depth : ℕ) (line : Line) (order : List MoveParts) → counts_drawn claims line ≡ false → 0 < depth →
    IsPermutation (legal_moves (last line)) order → tree_size claims depth line ≡ suc (trees_below claims (depth - 1) line order)
tree_any_order claims depth line order playing deep p =
    let deeper : depth ≡ suc (depth - 1) = omega arith in
    ap (λ n. tree_size claims n line) deeper ∙ tree_suc claims (depth - 1) line playing
    ∙ ap suc (sym (sum_by-IsPermutation (tree_below claims (depth - 1) line) (legal_moves (last line)) order p))

-- the next of some moves, as a list of moves
pub next_tree : (f : MoveParts → ℕ) (ms : List MoveParts) (i : ℕ) (m : MoveParts) → i < length ms → m ≡ get_or ms i m → sum_by f (take 1 (drop i ms)) ≡ f m
next_tree f [] i m h is = absurd (omega arith)
next_tree f (x ∷ xs) zero m h is = omega (arith, sum_by-cons f x [], ap f is)
next_tree f (x ∷ xs) (suc i) m h is = next_tree f xs i m (omega arith) is
