-- What an edit of a forest leaves: how high it is, how many moves it holds, and where its paths lead.
use Rattle.std.proofs.Common.{◌≡◌, ℕ, zero, suc, max, ◌+◌, ◌-◌, ◌<◌, ◌≤◌, List, [], ◌∷◌, ◌++◌, length, refl, ap, ◌∙◌, arith}
use Rattle.chess_types.specs.board.MoveParts.{MoveParts}
use Rattle.chess_tree.specs.Forest.{Forest, Bare, Node, append, below_at, below_child, count, height, moves_held}
use Rattle.chess_tree.specs.Edits.{annotated, unannotated, change_below, change_node, commented, in_front, inside, parent, promoted, with_move, without_node}
use Rattle.chess_tree.specs.WellFormed.{Leads}

-- ---- heights

height_append : (f g : Forest) → height (append f g) ≡ max (height f) (height g)
height_append Bare g = omega arith
height_append (Node m nags comment below next) g = omega (arith, height_append next g)

height_below_child : (k : ℕ) (f : Forest) → height (below_child k f) ≤ height f - 1
height_below_child k Bare = omega arith
height_below_child zero (Node m nags comment below next) = omega arith
height_below_child (suc k) (Node m nags comment below next) = omega (arith, height_below_child k next)

height_inside : (k : ℕ) (change : Forest → Forest) (f : Forest) → height (inside k change f) ≤ max (height f) (1 + height (change (below_child k f)))
height_inside k change Bare = omega arith
height_inside zero change (Node m nags comment below next) = omega arith
height_inside (suc k) change (Node m nags comment below next) = omega (arith, height_inside k change next)

height_inside_le : (k : ℕ) (change : Forest → Forest) (f : Forest) → height (change (below_child k f)) ≤ height (below_child k f)
    → height (inside k change f) ≤ height f
height_inside_le k change Bare h = omega arith
height_inside_le zero change (Node m nags comment below next) h = omega arith
height_inside_le (suc k) change (Node m nags comment below next) h = omega (arith, height_inside_le k change next h)

pub height_with_move : (m : MoveParts) (path : List ℕ) (f : Forest) → height (change_below (with_move m) path f) ≤ max (height f) (length path + 1)
height_with_move m [] f = omega (arith, height_append f (Node m [] [] Bare Bare))
height_with_move m (k ∷ path) f =
    omega (arith, height_inside k (change_below (with_move m) path) f, height_with_move m path (below_child k f), height_below_child k f)

pub height_node : (g : ℕ → Forest → Forest) (path : List ℕ) (f : Forest) → ((k : ℕ) (x : Forest) → height (g k x) ≤ height x)
    → height (change_node g path f) ≤ height f
height_node g [] f h = omega arith
height_node g (k ∷ []) f h = h k f
height_node g (k ∷ j ∷ path) f h = height_inside_le k (change_node g (j ∷ path)) f (height_node g (j ∷ path) (below_child k f) h)

pub height_without : (k : ℕ) (f : Forest) → height (without_node k f) ≤ height f
height_without k Bare = omega arith
height_without zero (Node m nags comment below next) = omega arith
height_without (suc k) (Node m nags comment below next) = omega (arith, height_without k next)

height_in_front : (k : ℕ) (f others : Forest) → height (in_front k f others) ≤ max (height f) (height others)
height_in_front k Bare others = omega arith
height_in_front zero (Node m nags comment below next) others = omega arith
height_in_front (suc k) (Node m nags comment below next) others = omega (arith, height_in_front k next others)

pub height_promoted : (k : ℕ) (f : Forest) → height (promoted k f) ≤ height f
height_promoted k f = omega (arith, height_in_front k f (without_node k f), height_without k f)

pub height_commented : (text : List ℕ) (k : ℕ) (f : Forest) → height (commented text k f) ≤ height f
height_commented text k Bare = omega arith
height_commented text zero (Node m nags comment below next) = omega arith
height_commented text (suc k) (Node m nags comment below next) = omega (arith, height_commented text k next)

pub height_annotated : (nag k : ℕ) (f : Forest) → height (annotated nag k f) ≤ height f
height_annotated nag k Bare = omega arith
height_annotated nag zero (Node m nags comment below next) = omega arith
height_annotated nag (suc k) (Node m nags comment below next) = omega (arith, height_annotated nag k next)

pub height_unannotated : (k : ℕ) (f : Forest) → height (unannotated k f) ≤ height f
height_unannotated k Bare = omega arith
height_unannotated zero (Node m nags comment below next) = omega arith
height_unannotated (suc k) (Node m nags comment below next) = omega (arith, height_unannotated k next)

-- a node is as deep as its path is long
pub path_le_height : (path : List ℕ) (f : Forest) → Leads path f → length path + height (below_at path f) ≤ height f
path_le_height [] f h = omega arith
path_le_height (k ∷ path) Bare h = absurd (omega (arith, h.0))
path_le_height (k ∷ path) (Node m nags comment below next) h =
    let some : 1 ≤ height (Node m nags comment below next) = omega arith in
    omega (arith, some, path_le_height path (below_child k (Node m nags comment below next)) h.1, height_below_child k (Node m nags comment below next))

pub deeper : (f : Forest) → 0 < count f → 1 ≤ height f
deeper Bare h = absurd (omega arith)
deeper (Node m nags comment below next) h = omega arith

-- ---- how many moves

count_append : (f g : Forest) → count (append f g) ≡ count f + count g
count_append Bare g = omega arith
count_append (Node m nags comment below next) g = omega (arith, count_append next g)

pub count_le : (f : Forest) → count f ≤ moves_held f
count_le Bare = omega arith
count_le (Node m nags comment below next) = omega (arith, count_le next)

held_below_child : (k : ℕ) (f : Forest) → moves_held (below_child k f) ≤ moves_held f
held_below_child k Bare = omega arith
held_below_child zero (Node m nags comment below next) = omega arith
held_below_child (suc k) (Node m nags comment below next) = omega (arith, held_below_child k next)

pub held_below_at : (path : List ℕ) (f : Forest) → moves_held (below_at path f) ≤ moves_held f
held_below_at [] f = omega arith
held_below_at (k ∷ path) f = omega (arith, held_below_at path (below_child k f), held_below_child k f)

held_append : (f g : Forest) → moves_held (append f g) ≡ moves_held f + moves_held g
held_append Bare g = omega arith
held_append (Node m nags comment below next) g = omega (arith, held_append next g)

held_inside : (k : ℕ) (change : Forest → Forest) (f : Forest) → k < count f
    → moves_held (inside k change f) + moves_held (below_child k f) ≡ moves_held f + moves_held (change (below_child k f))
held_inside k change Bare h = absurd (omega arith)
held_inside zero change (Node m nags comment below next) h = omega arith
held_inside (suc k) change (Node m nags comment below next) h = omega (arith, held_inside k change next (omega arith))

held_inside_same : (k : ℕ) (change : Forest → Forest) (f : Forest) → moves_held (change (below_child k f)) ≡ moves_held (below_child k f)
    → moves_held (inside k change f) ≡ moves_held f
held_inside_same k change Bare h = refl
held_inside_same zero change (Node m nags comment below next) h = omega (arith, h)
held_inside_same (suc k) change (Node m nags comment below next) h = omega (arith, held_inside_same k change next h)

pub held_with_move : (m : MoveParts) (path : List ℕ) (f : Forest) → Leads path f → moves_held (change_below (with_move m) path f) ≡ moves_held f + 1
held_with_move m [] f h = omega (arith, held_append f (Node m [] [] Bare Bare))
held_with_move m (k ∷ path) f h =
    omega (arith, held_inside k (change_below (with_move m) path) f h.0, held_with_move m path (below_child k f) h.1)

pub held_node : (g : ℕ → Forest → Forest) (path : List ℕ) (f : Forest) → ((k : ℕ) (x : Forest) → moves_held (g k x) ≡ moves_held x)
    → moves_held (change_node g path f) ≡ moves_held f
held_node g [] f h = refl
held_node g (k ∷ []) f h = h k f
held_node g (k ∷ j ∷ path) f h = held_inside_same k (change_node g (j ∷ path)) f (held_node g (j ∷ path) (below_child k f) h)

held_in_front : (k : ℕ) (f others : Forest) → moves_held (in_front k f others) + moves_held (without_node k f) ≡ moves_held f + moves_held others
held_in_front k Bare others = omega arith
held_in_front zero (Node m nags comment below next) others = omega arith
held_in_front (suc k) (Node m nags comment below next) others = omega (arith, held_in_front k next others)

pub held_promoted : (k : ℕ) (f : Forest) → moves_held (promoted k f) ≡ moves_held f
held_promoted k f = omega (arith, held_in_front k f (without_node k f))

pub held_commented : (text : List ℕ) (k : ℕ) (f : Forest) → moves_held (commented text k f) ≡ moves_held f
held_commented text k Bare = refl
held_commented text zero (Node m nags comment below next) = refl
held_commented text (suc k) (Node m nags comment below next) = omega (arith, held_commented text k next)

pub held_annotated : (nag k : ℕ) (f : Forest) → moves_held (annotated nag k f) ≡ moves_held f
held_annotated nag k Bare = refl
held_annotated nag zero (Node m nags comment below next) = refl
held_annotated nag (suc k) (Node m nags comment below next) = omega (arith, held_annotated nag k next)

pub held_unannotated : (k : ℕ) (f : Forest) → moves_held (unannotated k f) ≡ moves_held f
held_unannotated k Bare = refl
held_unannotated zero (Node m nags comment below next) = refl
held_unannotated (suc k) (Node m nags comment below next) = omega (arith, held_unannotated k next)

held_without_one : (k : ℕ) (f : Forest) → k < count f → moves_held (without_node k f) + (1 + moves_held (below_child k f)) ≡ moves_held f
held_without_one k Bare h = absurd (omega arith)
held_without_one zero (Node m nags comment below next) h = omega arith
held_without_one (suc k) (Node m nags comment below next) h = omega (arith, held_without_one k next (omega arith))

pub held_without : (path : List ℕ) (f : Forest) → Leads path f → 0 < length path
    → moves_held (change_node without_node path f) + (1 + moves_held (below_at path f)) ≡ moves_held f
held_without [] f h l = absurd (omega arith)
held_without (k ∷ []) f h l = held_without_one k f h.0
held_without (k ∷ j ∷ path) f h l =
    omega (arith, held_inside k (change_node without_node (j ∷ path)) f h.0, held_without (j ∷ path) (below_child k f) h.1 (omega arith))

-- ---- where paths lead

count_inside : (k : ℕ) (change : Forest → Forest) (f : Forest) → count (inside k change f) ≡ count f
count_inside k change Bare = refl
count_inside zero change (Node m nags comment below next) = refl
count_inside (suc k) change (Node m nags comment below next) = ap (λ (x : ℕ). suc x) (count_inside k change next)

pub below_inside : (k : ℕ) (change : Forest → Forest) (f : Forest) → k < count f → below_child k (inside k change f) ≡ change (below_child k f)
below_inside k change Bare h = absurd (omega arith)
below_inside zero change (Node m nags comment below next) h = refl
below_inside (suc k) change (Node m nags comment below next) h = below_inside k change next (omega arith)

-- a path goes on where what is inside does
leads_inside : (k : ℕ) (path : List ℕ) (change : Forest → Forest) (f : Forest) → k < count f → Leads path (change (below_child k f))
    → Leads (k ∷ path) (inside k change f)
leads_inside k path change f h rest = (rw (count_inside k change f) h, rw (below_inside k change f h) rest)

pub leads_on : (path : List ℕ) (k : ℕ) (f : Forest) → Leads path f → k < count (below_at path f) → Leads (path ++ k ∷ []) f
leads_on [] k f h l = (l, tt)
leads_on (j ∷ path) k f h l = (h.0, leads_on path k (below_child j f) h.1 l)

pub leads_parent : (path : List ℕ) (f : Forest) → Leads path f → Leads (parent path) f
leads_parent [] f h = tt
leads_parent (k ∷ []) f h = tt
leads_parent (k ∷ j ∷ path) f h = (h.0, leads_parent (j ∷ path) (below_child k f) h.1)

pub leads_added : (m : MoveParts) (path : List ℕ) (f : Forest) → Leads path f
    → Leads (path ++ count (below_at path f) ∷ []) (change_below (with_move m) path f)
leads_added m [] f h = (omega (arith, count_append f (Node m [] [] Bare Bare)), tt)
leads_added m (k ∷ path) f h = leads_inside k (path ++ count (below_at path (below_child k f)) ∷ []) (change_below (with_move m) path) f h.0 (leads_added m path (below_child k f) h.1)

pub below_changed : (change : Forest → Forest) (path : List ℕ) (f : Forest) → Leads path f
    → below_at path (change_below change path f) ≡ change (below_at path f)
below_changed change [] f h = refl
below_changed change (k ∷ path) f h = ap (below_at path) (below_inside k (change_below change path) f h.0) ∙ below_changed change path (below_child k f) h.1

-- the new child comes after those that were there
pub place_added : (m : MoveParts) (path : List ℕ) (f : Forest) → Leads path f
    → count (below_at path f) < count (below_at path (change_below (with_move m) path f))
place_added m path f h =
    omega (arith, ap count (below_changed (with_move m) path f h), count_append (below_at path f) (Node m [] [] Bare Bare))

pub leads_deleted : (path : List ℕ) (f : Forest) → Leads path f → Leads (parent path) (change_node without_node path f)
leads_deleted [] f h = tt
leads_deleted (k ∷ []) f h = tt
leads_deleted (k ∷ j ∷ path) f h = leads_inside k (parent (j ∷ path)) (change_node without_node (j ∷ path)) f h.0 (leads_deleted (j ∷ path) (below_child k f) h.1)

count_in_front : (k : ℕ) (f others : Forest) → k < count f → count (in_front k f others) ≡ suc (count others)
count_in_front k Bare others h = absurd (omega arith)
count_in_front zero (Node m nags comment below next) others h = refl
count_in_front (suc k) (Node m nags comment below next) others h = count_in_front k next others (omega arith)

pub leads_promoted : (path : List ℕ) (f : Forest) → Leads path f → 0 < length path → Leads (parent path ++ 0 ∷ []) (change_node promoted path f)
leads_promoted [] f h l = absurd (omega arith)
leads_promoted (k ∷ []) f h l = (omega (arith, count_in_front k f (without_node k f) h.0), tt)
leads_promoted (k ∷ j ∷ path) f h l =
    leads_inside k (parent (j ∷ path) ++ 0 ∷ []) (change_node promoted (j ∷ path)) f h.0 (leads_promoted (j ∷ path) (below_child k f) h.1 (omega arith))

pub leads_node : (g : ℕ → Forest → Forest) (path : List ℕ) (f : Forest) → ((k : ℕ) (x : Forest) → count (g k x) ≡ count x) → Leads path f
    → Leads path (change_node g path f)
leads_node g [] f same h = tt
leads_node g (k ∷ []) f same h = (rw (same k f) h.0, tt)
leads_node g (k ∷ j ∷ path) f same h = leads_inside k (j ∷ path) (change_node g (j ∷ path)) f h.0 (leads_node g (j ∷ path) (below_child k f) same h.1)

pub count_commented : (text : List ℕ) (k : ℕ) (f : Forest) → count (commented text k f) ≡ count f
count_commented text k Bare = refl
count_commented text zero (Node m nags comment below next) = refl
count_commented text (suc k) (Node m nags comment below next) = ap (λ (x : ℕ). suc x) (count_commented text k next)

pub count_annotated : (nag k : ℕ) (f : Forest) → count (annotated nag k f) ≡ count f
count_annotated nag k Bare = refl
count_annotated nag zero (Node m nags comment below next) = refl
count_annotated nag (suc k) (Node m nags comment below next) = ap (λ (x : ℕ). suc x) (count_annotated nag k next)

pub count_unannotated : (k : ℕ) (f : Forest) → count (unannotated k f) ≡ count f
count_unannotated k Bare = refl
count_unannotated zero (Node m nags comment below next) = refl
count_unannotated (suc k) (Node m nags comment below next) = ap (λ (x : ℕ). suc x) (count_unannotated k next)
