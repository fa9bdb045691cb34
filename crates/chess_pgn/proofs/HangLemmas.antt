-- A part of a line is added at a place of the tree; adding two is adding both at once.
use Rattle.std.proofs.Common.{◌≡◌, ℕ, zero, suc, ◌<◌, List, [], ◌∷◌, ◌++◌, refl, sym, ap, ◌∙◌, append_assoc, arith}
use Rattle.std.proofs.lemmas.List.{append-nil}
use Rattle.chess_types.specs.board.MoveParts.{MoveParts}
use Rattle.chess_tree.specs.Forest.{Forest, Bare, Node, append, count, below_at, below_child}
use Rattle.chess_tree.specs.Edits.{inside}
use Rattle.chess_tree.specs.WellFormed.{Leads}
use Rattle.chess_pgn.specs.Grammar.{Addition, nothing, comments_joined}
use Rattle.chess_pgn.specs.steps.Hanging.{plus, beside, below, on_node, hang, leaf, grown}

-- ---- forests and comments side by side

pub append-bare : (f : Forest) → append f Bare ≡ f
append-bare Bare = refl
append-bare (Node m n c below next) = ap (λ (x : Forest). Node m n c below x) (append-bare next)

pub append-assoc : (f g h : Forest) → append (append f g) h ≡ append f (append g h)
append-assoc Bare g h = refl
append-assoc (Node m n c below next) g h = ap (λ (x : Forest). Node m n c below x) (append-assoc next g h)

pub joined-nil : (a : List ℕ) → comments_joined a [] ≡ a
joined-nil [] = refl
joined-nil (x ∷ a) = refl

pub joined-assoc : (a b c : List ℕ) → comments_joined (comments_joined a b) c ≡ comments_joined a (comments_joined b c)
joined-assoc [] b c = refl
joined-assoc (x ∷ a) [] c = refl
joined-assoc (x ∷ a) (y ∷ b) [] = refl
joined-assoc (x ∷ a) (y ∷ b) (z ∷ c) = ap (λ (w : List ℕ). x ∷ w) (append_assoc a (32 ∷ y ∷ b) (32 ∷ z ∷ c))

-- ---- adding twice

on_node-twice : (i : ℕ) (r s : Addition) (f g : Forest) → i < count f → on_node i s (append (on_node i r f) g) ≡ append (on_node i (plus r s) f) g
on_node-twice i r s Bare g h = absurd (omega arith)
on_node-twice zero r s (Node m n c b next) g h = rw (append_assoc n r.nags s.nags, joined-assoc c r.comment s.comment, append-assoc b r.below s.below) refl
on_node-twice (suc i) r s (Node m n c b next) g h = ap (λ (x : Forest). Node m n c b x) (on_node-twice i r s next g (omega arith))

inside-then : (i : ℕ) (g h k : Forest → Forest) (f : Forest) → g (h (below_child i f)) ≡ k (below_child i f) → i < count f → inside i g (inside i h f) ≡ inside i k f
inside-then i g h k Bare e l = refl
inside-then zero g h k (Node m n c b next) e l = ap (λ (x : Forest). Node m n c x next) e
inside-then (suc i) g h k (Node m n c b next) e l = ap (λ (x : Forest). Node m n c b x) (inside-then i g h k next e (omega arith))

pub inside-same : (i : ℕ) (g h : Forest → Forest) (f : Forest) → g (below_child i f) ≡ h (below_child i f) → inside i g f ≡ inside i h f
inside-same i g h Bare e = refl
inside-same zero g h (Node m n c b next) e = ap (λ (x : Forest). Node m n c x next) e
inside-same (suc i) g h (Node m n c b next) e = ap (λ (x : Forest). Node m n c b x) (inside-same i g h next e)

pub hang-twice : (p : List ℕ) (r s : Addition) (f : Forest) → Leads p f → hang p s (hang p r f) ≡ hang p (plus r s) f
hang-twice [] r s f at = append-assoc f r.below s.below
hang-twice (i ∷ []) r s f at = ap (λ (x : Forest). append x s.beside) (on_node-twice i r s f r.beside at.0) ∙ append-assoc (on_node i (plus r s) f) r.beside s.beside
hang-twice (i ∷ j ∷ p) r s f at = inside-then i (hang (j ∷ p) s) (hang (j ∷ p) r) (hang (j ∷ p) (plus r s)) f (hang-twice (j ∷ p) r s (below_child i f) at.1) at.0

-- ---- a new node, and what is added at it

at-end : (m : MoveParts) (r : Addition) (f : Forest) → append (on_node (count f) r (append f (Node m [] [] Bare Bare))) r.beside ≡ append f (Node m r.nags r.comment r.below r.beside)
at-end m r Bare = refl
at-end m r (Node m' n c' b next) = ap (λ (x : Forest). Node m' n c' b x) (at-end m r next)

on_node-inside : (i : ℕ) (r s : Addition) (g : Forest → Forest) (f : Forest) → r.nags ≡ s.nags → r.comment ≡ s.comment → g (append (below_child i f) r.below) ≡ append (below_child i f) s.below → inside i g (on_node i r f) ≡ on_node i s f
on_node-inside i r s g Bare e1 e2 e = refl
on_node-inside zero r s g (Node m n c b next) e1 e2 e = rw (e1, e2, e) refl
on_node-inside (suc i) r s g (Node m n c b next) e1 e2 e = ap (λ (x : Forest). Node m n c b x) (on_node-inside i r s g next e1 e2 e)

pub hang-down : (p : List ℕ) (m : MoveParts) (r : Addition) (f : Forest) → Leads p f → hang (p ++ count (below_at p f) ∷ []) r (hang p (leaf m) f) ≡ hang p (grown m r) f
hang-down [] m r f at = at-end m r f
hang-down (i ∷ []) m r f at =
    rw (append-bare (on_node i (leaf m) f), append-bare (on_node i (grown m r) f))
    (on_node-inside i (leaf m) (grown m r) (hang (count (below_child i f) ∷ []) r) f refl refl (at-end m r (below_child i f)))
hang-down (i ∷ j ∷ p) m r f at =
    inside-then i (hang ((j ∷ p) ++ count (below_at (j ∷ p) (below_child i f)) ∷ []) r) (hang (j ∷ p) (leaf m)) (hang (j ∷ p) (grown m r)) f (hang-down (j ∷ p) m r (below_child i f) at.1) at.0

-- ---- beside a node is below its parent

pub on_node-nothing : (i : ℕ) (g : Forest) (f : Forest) → on_node i (beside g) f ≡ f
on_node-nothing i g Bare = refl
on_node-nothing zero g (Node m n c b next) = rw (append-nil n, joined-nil c, append-bare b) refl
on_node-nothing (suc i) g (Node m n c b next) = ap (λ (x : Forest). Node m n c b x) (on_node-nothing i g next)

pub inside-on_node : (i : ℕ) (r : Addition) (g : Forest → Forest) (f : Forest) → r.nags ≡ [] → r.comment ≡ [] → g (below_child i f) ≡ append (below_child i f) r.below → inside i g f ≡ on_node i r f
inside-on_node i r g Bare e1 e2 e = refl
inside-on_node zero r g (Node m n c b next) e1 e2 e = rw (e1, e2, e, append-nil n, joined-nil c) refl
inside-on_node (suc i) r g (Node m n c b next) e1 e2 e = ap (λ (x : Forest). Node m n c b x) (inside-on_node i r g next e1 e2 e)

pub hang-up : (q : List ℕ) (i : ℕ) (g f : Forest) → hang q (below g) f ≡ hang (q ++ i ∷ []) (beside g) f
hang-up [] i g f = rw (on_node-nothing i g f) refl
hang-up (j ∷ []) i g f =
    rw (append-bare (on_node j (below g) f)) (sym (inside-on_node j (below g) (hang (i ∷ []) (beside g)) f refl refl (rw (on_node-nothing i g (below_child j f)) refl)))
hang-up (j ∷ k ∷ q) i g f = inside-same j (hang (k ∷ q) (below g)) (hang ((k ∷ q) ++ i ∷ []) (beside g)) f (hang-up (k ∷ q) i g (below_child j f))

inside-id : (i : ℕ) (g : Forest → Forest) (f : Forest) → g (below_child i f) ≡ below_child i f → inside i g f ≡ f
inside-id i g Bare e = refl
inside-id zero g (Node m n c b next) e = ap (λ (x : Forest). Node m n c x next) e
inside-id (suc i) g (Node m n c b next) e = ap (λ (x : Forest). Node m n c b x) (inside-id i g next e)

pub hang-nothing : (p : List ℕ) (f : Forest) → hang p nothing f ≡ f
hang-nothing [] f = append-bare f
hang-nothing (i ∷ []) f = append-bare (on_node i nothing f) ∙ on_node-nothing i Bare f
hang-nothing (i ∷ j ∷ p) f = inside-id i (hang (j ∷ p) nothing) f (hang-nothing (j ∷ p) (below_child i f))
