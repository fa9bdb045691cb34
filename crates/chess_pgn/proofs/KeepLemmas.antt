-- A place that is there stays there.
use Rattle.std.proofs.Common.{◌≡◌, ℕ, zero, suc, ◌+◌, ◌<◌, List, [], ◌∷◌, ◌++◌, refl, ap, arith}
use Rattle.chess_types.specs.board.MoveParts.{MoveParts}
use Rattle.chess_tree.specs.Forest.{Forest, Bare, Node, append, count, below_at, below_child}
use Rattle.chess_tree.specs.Edits.{inside}
use Rattle.chess_tree.specs.WellFormed.{Leads}
use Rattle.chess_pgn.specs.Grammar.{Addition}
use Rattle.chess_pgn.specs.steps.Hanging.{on_node, hang, leaf}
use Rattle.chess_pgn.proofs.HangLemmas.{append-bare}

count-append : (f g : Forest) → count (append f g) ≡ count f + count g
count-append Bare g = omega arith
count-append (Node m n c b next) g = omega (arith, count-append next g)

pub child-append : (i : ℕ) (f g : Forest) → i < count f → below_child i (append f g) ≡ below_child i f
child-append i Bare g h = absurd (omega arith)
child-append zero (Node m n c b next) g h = refl
child-append (suc i) (Node m n c b next) g h = child-append i next g (omega arith)

at-append : (q : List ℕ) (f g : Forest) → Leads q f → Leads q (append f g)
at-append [] f g at = tt
at-append (j ∷ q) f g at = (omega (arith, count-append f g, at.0), rw (child-append j f g at.0) at.1)

count-on_node : (i : ℕ) (r : Addition) (f : Forest) → count (on_node i r f) ≡ count f
count-on_node i r Bare = refl
count-on_node zero r (Node m n c b next) = refl
count-on_node (suc i) r (Node m n c b next) = ap suc (count-on_node i r next)

count-inside : (i : ℕ) (g : Forest → Forest) (f : Forest) → count (inside i g f) ≡ count f
count-inside i g Bare = refl
count-inside zero g (Node m n c b next) = refl
count-inside (suc i) g (Node m n c b next) = ap suc (count-inside i g next)

pub child-on_node : (i : ℕ) (r : Addition) (f : Forest) → i < count f → below_child i (on_node i r f) ≡ append (below_child i f) r.below
child-on_node i r Bare h = absurd (omega arith)
child-on_node zero r (Node m n c b next) h = refl
child-on_node (suc i) r (Node m n c b next) h = child-on_node i r next (omega arith)

pub child-inside : (i : ℕ) (g : Forest → Forest) (f : Forest) → i < count f → below_child i (inside i g f) ≡ g (below_child i f)
child-inside i g Bare h = absurd (omega arith)
child-inside zero g (Node m n c b next) h = refl
child-inside (suc i) g (Node m n c b next) h = child-inside i g next (omega arith)

-- the nodes below one stay below it, or are more
below-on_node : (i j : ℕ) (q : List ℕ) (r : Addition) (f : Forest) → Leads q (below_child j f) → Leads q (below_child j (on_node i r f))
below-on_node i j q r Bare at = at
below-on_node zero zero q r (Node m n c b next) at = at-append q b r.below at
below-on_node zero (suc j) q r (Node m n c b next) at = at
below-on_node (suc i) zero q r (Node m n c b next) at = at
below-on_node (suc i) (suc j) q r (Node m n c b next) at = below-on_node i j q r next at

below-inside : (i j : ℕ) (q : List ℕ) (g : Forest → Forest) (f : Forest) → (Leads q (below_child i f) → Leads q (g (below_child i f))) → Leads q (below_child j f) → Leads q (below_child j (inside i g f))
below-inside i j q g Bare k at = at
below-inside zero zero q g (Node m n c b next) k at = k at
below-inside zero (suc j) q g (Node m n c b next) k at = at
below-inside (suc i) zero q g (Node m n c b next) k at = at
below-inside (suc i) (suc j) q g (Node m n c b next) k at = below-inside i j q g next k at

pub keeps : (p q : List ℕ) (r : Addition) (f : Forest) → Leads q f → Leads q (hang p r f)
keeps [] q r f at = at-append q f r.below at
keeps (i ∷ []) [] r f at = tt
keeps (i ∷ []) (j ∷ q) r f at = at-append (j ∷ q) (on_node i r f) r.beside (rw (count-on_node i r f) (at.0), below-on_node i j q r f at.1)
keeps (i ∷ k ∷ p) [] r f at = tt
keeps (i ∷ k ∷ p) (j ∷ q) r f at =
    (rw (count-inside i (hang (k ∷ p) r) f) (at.0), below-inside i j q (hang (k ∷ p) r) f (keeps (k ∷ p) q r (below_child i f)) at.1)

pub new-there : (p : List ℕ) (m : MoveParts) (f : Forest) → Leads p f → Leads (p ++ count (below_at p f) ∷ []) (hang p (leaf m) f)
new-there [] m f at = (omega (arith, count-append f (Node m [] [] Bare Bare)), tt)
new-there (i ∷ []) m f at =
    rw (append-bare (on_node i (leaf m) f), count-on_node i (leaf m) f, child-on_node i (leaf m) f at.0) (at.0, new-there [] m (below_child i f) tt)
new-there (i ∷ j ∷ p) m f at =
    rw (count-inside i (hang (j ∷ p) (leaf m)) f, child-inside i (hang (j ∷ p) (leaf m)) f at.0) (at.0, new-there (j ∷ p) m (below_child i f) at.1)
