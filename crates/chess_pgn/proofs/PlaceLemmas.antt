-- The edits at a cursor as parts that are added at a path, and the moves on the way to a place, which stay what they are.
use Rattle.std.proofs.Common.{◌≡◌, ℕ, zero, suc, ◌<◌, List, [], ◌∷◌, ◌++◌, Option, unwrap_or, refl, sym, ap, ◌∙◌, arith}
use Rattle.std.proofs.lemmas.List.{append-nil}
use Rattle.std.specs.Option.{option_to_list}
use Rattle.chess_types.specs.board.MoveParts.{MoveParts}
use Rattle.chess_types.specs.board.Position.{PositionParts}
use Rattle.chess_types.specs.board.After.{after}
use Rattle.chess_tree.specs.Comments.{IsComment}
use Rattle.chess_tree.specs.Forest.{Forest, Bare, Node, NodeParts, append, count, child, below_child}
use Rattle.chess_tree.specs.Edits.{annotated, change_below, change_node, commented, inside, with_move}
use Rattle.chess_tree.specs.GameTree.{move_of, moves_along, node_of}
use Rattle.chess_tree.specs.WellFormed.{AreSound, Leads}
use Rattle.chess_pgn.specs.Grammar.{Addition, comments_joined}
use Rattle.chess_pgn.specs.steps.Hanging.{hang, leaf, nag, say, on_node}
use Rattle.chess_pgn.proofs.HangLemmas.{append-bare, joined-nil, inside-same, inside-on_node}
use Rattle.chess_pgn.proofs.KeepLemmas.{child-append}

-- ---- edits

-- a move more
pub added_is : (p : List ℕ) (m : MoveParts) (f : Forest) → change_below (with_move m) p f ≡ hang p (leaf m) f
added_is [] m f = refl
added_is (i ∷ []) m f = inside-on_node i (leaf m) (with_move m) f refl refl refl ∙ sym (append-bare (on_node i (leaf m) f))
added_is (i ∷ j ∷ p) m f = inside-same i (change_below (with_move m) (j ∷ p)) (hang (j ∷ p) (leaf m)) f (added_is (j ∷ p) m (below_child i f))

annotated_node : (k n : ℕ) (f : Forest) → annotated n k f ≡ on_node k (nag n) f
annotated_node k n Bare = refl
annotated_node zero n (Node m nags c b next) = rw (joined-nil c, append-bare b) refl
annotated_node (suc k) n (Node m nags c b next) = ap (λ (x : Forest). Node m nags c b x) (annotated_node k n next)

-- an annotation number more
pub annotated_is : (k : ℕ) (p : List ℕ) (n : ℕ) (f : Forest) → change_node (annotated n) (k ∷ p) f ≡ hang (k ∷ p) (nag n) f
annotated_is k [] n f = annotated_node k n f ∙ sym (append-bare (on_node k (nag n) f))
annotated_is k (j ∷ p) n f = inside-same k (change_node (annotated n) (j ∷ p)) (hang (j ∷ p) (nag n)) f (annotated_is j p n (below_child k f))

commented_node : (k : ℕ) (t : List ℕ) (f : Forest) (n : NodeParts) → k < count f → commented (comments_joined (unwrap_or (child k f) n).comment t) k f ≡ on_node k (say t) f
commented_node k t Bare n h = absurd (omega arith)
commented_node zero t (Node m nags c b next) n h = rw (append-nil nags, append-bare b) refl
commented_node (suc k) t (Node m nags c b next) n h = ap (λ (x : Forest). Node m nags c b x) (commented_node k t next n (omega arith))

child_below : (k : ℕ) (f : Forest) (n : NodeParts) → k < count f → (unwrap_or (child k f) n).below ≡ below_child k f
child_below k Bare n h = absurd (omega arith)
child_below zero (Node m nags c b next) n h = refl
child_below (suc k) (Node m nags c b next) n h = child_below k next n (omega arith)

-- a comment after the one that is there
pub commented_is : (k : ℕ) (p : List ℕ) (t : List ℕ) (n : NodeParts) → Leads (k ∷ p) n.below
    → change_node (commented (comments_joined (node_of (k ∷ p) n).comment t)) (k ∷ p) n.below ≡ hang (k ∷ p) (say t) n.below
commented_is k [] t n at = commented_node k t n.below n at.0 ∙ sym (append-bare (on_node k (say t) n.below))
commented_is k (j ∷ p) t n at =
    let below = child_below k n.below n at.0 in
    let c : NodeParts = unwrap_or (child k n.below) n in
    let again : change_node (commented (comments_joined (node_of (j ∷ p) c).comment t)) (j ∷ p) c.below ≡ hang (j ∷ p) (say t) c.below =
    commented_is j p t c (rw below at.1) in
    inside-same k (change_node (commented (comments_joined (node_of (j ∷ p) c).comment t)) (j ∷ p)) (hang (j ∷ p) (say t)) n.below
    (ap (change_node (commented (comments_joined (node_of (j ∷ p) c).comment t)) (j ∷ p)) (sym below) ∙ again ∙ ap (hang (j ∷ p) (say t)) below)

-- ---- comments of a game tree

pub record IsSoundNode (n : NodeParts) : Type 0 where
  pub comment : IsComment n.comment
  pub from : PositionParts
  pub below : AreSound from n.below

child_sound : (k : ℕ) (f : Forest) (n : NodeParts) (q : PositionParts) → AreSound q f → k < count f → IsSoundNode (unwrap_or (child k f) n)
child_sound k Bare n q sound h = absurd (omega arith)
child_sound zero (Node m nags c b next) n q sound h = record { comment = sound.1; from = after q m; below = sound.2 }
child_sound (suc k) (Node m nags c b next) n q sound h = child_sound k next n q sound.3 (omega arith)

pub node_sound : (p : List ℕ) (n : NodeParts) → IsSoundNode n → Leads p n.below → IsComment (node_of p n).comment
node_sound [] n sound at = sound.comment
node_sound (k ∷ p) n sound at =
    node_sound p (unwrap_or (child k n.below) n) (child_sound k n.below n sound.from sound.below at.0) (rw (child_below k n.below n at.0) at.1)

-- ---- the moves on the way to a place

move-append : (k : ℕ) (f g : Forest) → k < count f → move_of k (append f g) ≡ move_of k f
move-append k Bare g h = absurd (omega arith)
move-append zero (Node m n c b next) g h = refl
move-append (suc k) (Node m n c b next) g h = move-append k next g (omega arith)

move-on_node : (i k : ℕ) (r : Addition) (f : Forest) → move_of k (on_node i r f) ≡ move_of k f
move-on_node i k r Bare = refl
move-on_node zero zero r (Node m n c b next) = refl
move-on_node zero (suc k) r (Node m n c b next) = refl
move-on_node (suc i) zero r (Node m n c b next) = refl
move-on_node (suc i) (suc k) r (Node m n c b next) = move-on_node i k r next

move-inside : (i k : ℕ) (g : Forest → Forest) (f : Forest) → move_of k (inside i g f) ≡ move_of k f
move-inside i k g Bare = refl
move-inside zero zero g (Node m n c b next) = refl
move-inside zero (suc k) g (Node m n c b next) = refl
move-inside (suc i) zero g (Node m n c b next) = refl
move-inside (suc i) (suc k) g (Node m n c b next) = move-inside i k g next

moves-append : (q : List ℕ) (f g : Forest) → Leads q f → moves_along q (append f g) ≡ moves_along q f
moves-append [] f g at = refl
moves-append (j ∷ q) f g at = rw (move-append j f g at.0, child-append j f g at.0) refl

moves-on_node : (i j : ℕ) (q : List ℕ) (r : Addition) (f : Forest) → Leads q (below_child j f) → moves_along q (below_child j (on_node i r f)) ≡ moves_along q (below_child j f)
moves-on_node i j q r Bare at = refl
moves-on_node zero zero q r (Node m n c b next) at = moves-append q b r.below at
moves-on_node zero (suc j) q r (Node m n c b next) at = refl
moves-on_node (suc i) zero q r (Node m n c b next) at = refl
moves-on_node (suc i) (suc j) q r (Node m n c b next) at = moves-on_node i j q r next at

moves-inside : (i j : ℕ) (q : List ℕ) (g : Forest → Forest) (f : Forest) → (Leads q (below_child i f) → moves_along q (g (below_child i f)) ≡ moves_along q (below_child i f))
    → Leads q (below_child j f) → moves_along q (below_child j (inside i g f)) ≡ moves_along q (below_child j f)
moves-inside i j q g Bare k at = refl
moves-inside zero zero q g (Node m n c b next) k at = k at
moves-inside zero (suc j) q g (Node m n c b next) k at = refl
moves-inside (suc i) zero q g (Node m n c b next) k at = refl
moves-inside (suc i) (suc j) q g (Node m n c b next) k at = moves-inside i j q g next k at

both : (a b : Option MoveParts) (c d : List MoveParts) → a ≡ b → c ≡ d → option_to_list a ++ c ≡ option_to_list b ++ d
both a b c d e h = rw (e, h) refl

-- what is added at a path changes no move on the way to a place
pub moves_kept : (p q : List ℕ) (r : Addition) (f : Forest) → Leads q f → moves_along q (hang p r f) ≡ moves_along q f
moves_kept [] q r f at = moves-append q f r.below at
moves_kept (i ∷ []) [] r f at = refl
moves_kept (i ∷ []) (j ∷ q) r f at =
    let on : j < count (on_node i r f) = at_on i j r f at.0 in
    both (move_of j (append (on_node i r f) r.beside)) (move_of j f) (moves_along q (below_child j (append (on_node i r f) r.beside))) (moves_along q (below_child j f))
    (move-append j (on_node i r f) r.beside on ∙ move-on_node i j r f)
    (ap (moves_along q) (child-append j (on_node i r f) r.beside on) ∙ moves-on_node i j q r f at.1)
  where
    at_on : (i j : ℕ) (r : Addition) (f : Forest) → j < count f → j < count (on_node i r f)
    at_on i j r Bare h = h
    at_on zero j r (Node m n c b next) h = h
    at_on (suc i) zero r (Node m n c b next) h = omega arith
    at_on (suc i) (suc j) r (Node m n c b next) h = let k = at_on i j r next (omega arith) in omega (arith, k)
moves_kept (i ∷ k ∷ p) [] r f at = refl
moves_kept (i ∷ k ∷ p) (j ∷ q) r f at =
    both (move_of j (inside i (hang (k ∷ p) r) f)) (move_of j f) (moves_along q (below_child j (inside i (hang (k ∷ p) r) f))) (moves_along q (below_child j f))
    (move-inside i j (hang (k ∷ p) r) f)
    (moves-inside i j q (hang (k ∷ p) r) f (moves_kept (k ∷ p) q r (below_child i f)) at.1)
