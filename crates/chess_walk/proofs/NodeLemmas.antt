-- The node at a path, one place of it after another.
use Rattle.std.proofs.Common.{◌≡◌, ℕ, zero, suc, ◌+◌, ◌<◌, ◌≤◌, List, length, get_or, drop, Option, Some, sym, ap, ◌∙◌, drop-cons, arith}
use Rattle.std.specs.Prelude.{unwrap_or}
use Rattle.chess_tree.specs.Forest.{Forest, Bare, Node, NodeParts, child, height}
use Rattle.chess_walk.specs.Order.{from_child, node_along}
use Rattle.chess_walk.proofs.TodoLemmas.{nothing}

pub gone_down : (path : List ℕ) (i : ℕ) (node root next : NodeParts) → i < length path → node_along (drop i path) node ≡ node_along path root →
    Some next ≡ child (get_or path i 0) node.below → node_along (drop (i + 1) path) next ≡ node_along path root
gone_down path i node root next within leads is =
    let more : i + 1 ≡ suc i = omega arith in
    ap (λ (k : ℕ). node_along (drop k path) next) more
    ∙ ap (λ (o : Option NodeParts). from_child (node_along (drop (suc i) path)) o) is
    ∙ sym (ap (λ (p : List ℕ). node_along p node) (drop-cons path i 0 within))
    ∙ leads

-- what is below a child is less high
pub lower : (k : ℕ) (f : Forest) (next : NodeParts) → Some next ≡ child k f → height f ≤ 20000 → height next.below ≤ 20000
lower k Bare next is high = absurd (nothing next is)
lower zero (Node m nags comment below others) next is high =
    let same : height next.below ≡ height below = ap (λ (o : Option NodeParts). height (unwrap_or o next).below) is in
    omega arith
lower (suc k) (Node m nags comment below others) next is high = lower k others next is (omega arith)
