-- A tree at one of its limits, with a move more, is too large, however the reading goes on.
use Rattle.std.proofs.Common.{◌≡◌, ◌⊎◌, ℕ, zero, suc, ◌+◌, ◌<◌, ◌≤◌, Bool, true, false, List, [], ◌∷◌, ◌++◌, length, Some, None, refl, sym, subst, ap, ◌∙◌, arith, length-append}
use Rattle.std.specs.Prelude.{IfOk, Option, Result, Ok, Err, OnOk, if◌then◌else◌}
use mathlib.Core.Logic.{inl, inr}
use Rattle.chess_types.specs.board.MoveParts.{MoveParts}
use Rattle.chess_types.specs.board.Position.{PositionParts}
use Rattle.chess_types.specs.board.After.{after}
use Rattle.chess_types.specs.board.Legal.{is_legal}
use Rattle.chess_types.specs.board.Lines.{Line, last}
use Rattle.chess_items.specs.declared.fault.FaultKind.{FaultKind}
use Rattle.chess_items.specs.declared.fault.FaultKind.TheVariants.{Memory, TooLarge}
use Rattle.chess_tree.specs.Edits.{inside}
use Rattle.chess_tree.specs.Forest.{Forest, Bare, Node, append, below_at, count, height, moves_held}
use Rattle.chess_tree.specs.GameTree.{TreeParts, at_path, line_to, moves_along}
use Rattle.chess_tree.specs.WellFormed.{IsGameTree, Leads}
use Rattle.chess_tree.proofs.EditLemmas.{held_with_move, path_le_height}
use Rattle.chess_pgn.specs.Grammar.{Element, Number, Annotation, Remark, Open, Close, Text, Addition, comments_joined, move_in, ◌>>=◌}
use Rattle.chess_pgn.specs.steps.Elements.{Frame, Last, end_of, last_of, run}
use Rattle.chess_pgn.specs.steps.Hanging.{hang, leaf, nag, on_node, say}
use Rattle.chess_pgn.specs.steps.Readings.{AtLimit, HoldsReading, IsRoomFault, Reading, forest_at, goes_on, said_here}
use Rattle.chess_pgn.specs.declared.reader.moves.Interrupted.{Interrupted}
use Rattle.chess_pgn.proofs.KeepLemmas.{keeps, new-there}
use Rattle.chess_pgn.proofs.PlaceLemmas.{added_is, moves_kept}
use Rattle.chess_pgn.proofs.StepLemmas.{state}

-- its cursor may stand at the root
pub at_root : (t u : TreeParts) → u ≡ at_path [] t → IsGameTree t → IsGameTree u
at_root t u e h =
    subst IsGameTree (sym e) (record { start = h.start; clock = h.clock; number = h.number; comment = h.comment; moves = h.moves; deep = h.deep; many = h.many; cursor = tt })

-- ---- what reading on keeps

abbrev pair : List ℕ → Forest → Option (List ℕ × Forest)
pair c f = Some (c, f)

second_is : (c d : List ℕ) (f g : Forest) → pair c f ≡ pair d g → f ≡ g
second_is c d f g e = ap (λ (x : List ℕ × Forest). x.1) (some_is (c, f) (d, g) e)
  where
    some_is : (x y : List ℕ × Forest) → Some x ≡ Some y → x ≡ y
    some_is x y k = cc

none_some : {P : Type 0} (x : List ℕ × Forest) → None ≡ Some x → P
none_some x e = absurd cc

bound : (o : Option MoveParts) (next : MoveParts → Option (List ℕ × Forest)) (x : List ℕ × Forest) → (o >>= next) ≡ Some x → (m : MoveParts) × (next m ≡ Some x)
bound None next x e = absurd cc
bound (Some m) next x e = (m, e)

module _ (P : Forest → Type 0) (kept : (p : List ℕ) (r : Addition) (f : Forest) → P f → P (hang p r f)) where
  run_keeps : (es : List Element) (c : List ℕ) (f : Forest) (up : List ℕ) (l : Last) (here : PositionParts) (lead : List ℕ) (st : List Frame) (d : List ℕ) (g : Forest)
      → run es c f up l here lead st ≡ Some (d, g) → P f → P g
  run_keeps [] c f up None here lead [] d g e h = subst P (second_is (comments_joined c lead) d f g e) h
  run_keeps [] c f up (Some x) here lead [] d g e h =
      let p : List ℕ = up ++ x.0 ∷ [] in
      subst P (second_is c d (hang p (say lead) f) g e) (kept p (say lead) f h)
  run_keeps [] c f up l here lead (x ∷ xs) d g e h = none_some (d, g) e
  run_keeps (Number ∷ es) c f up l here lead st d g e h = run_keeps es c f up l here lead st d g e h
  run_keeps (Annotation n ∷ es) c f up None here lead st d g e h = run_keeps es c f up None here lead st d g e h
  run_keeps (Annotation n ∷ es) c f up (Some x) here lead st d g e h =
      run_keeps es c (hang (up ++ x.0 ∷ []) (nag n) f) up (Some x) here lead st d g e (kept (up ++ x.0 ∷ []) (nag n) f h)
  run_keeps (Remark t ∷ es) c f up l here lead st d g e h = run_keeps es c f up l here (comments_joined lead t) st d g e h
  run_keeps (Text w ∷ es) c f up None here lead [] d g e h =
      let b = bound (move_in here w) _ (d, g) e in
      run_keeps es (comments_joined c lead) (hang up (leaf b.0) f) up (Some (count (below_at up f), here)) (after here b.0) [] [] d g b.1 (kept up (leaf b.0) f h)
  run_keeps (Text w ∷ es) c f up None here lead (x ∷ xs) d g e h =
      let b = bound (move_in here w) _ (d, g) e in
      run_keeps es c (hang up (leaf b.0) f) up (Some (count (below_at up f), here)) (after here b.0) lead (x ∷ xs) d g b.1 (kept up (leaf b.0) f h)
  run_keeps (Text w ∷ es) c f up (Some x) here lead st d g e h =
      let p : List ℕ = up ++ x.0 ∷ [] in
      let k : Forest = hang p (say lead) f in
      let b = bound (move_in here w) _ (d, g) e in
      run_keeps es c (hang p (leaf b.0) k) p (Some (count (below_at p k), here)) (after here b.0) [] st d g b.1 (kept p (leaf b.0) k (kept p (say lead) f h))
  run_keeps (Open ∷ es) c f up None here lead st d g e h = none_some (d, g) e
  run_keeps (Open ∷ es) c f up (Some x) here lead st d g e h =
      run_keeps es c f up None x.1 [] (record { up = up; place = x.0; before = x.1; here = here; lead = lead } ∷ st) d g e h
  run_keeps (Close ∷ es) c f up l here lead [] d g e h = none_some (d, g) e
  run_keeps (Close ∷ es) c f up None here lead (x ∷ xs) d g e h = run_keeps es c f x.up (last_of x) x.here (comments_joined x.lead lead) xs d g e h
  run_keeps (Close ∷ es) c f up (Some y) here lead (x ∷ xs) d g e h =
      run_keeps es c (hang (up ++ y.0 ∷ []) (say lead) f) x.up (last_of x) x.here x.lead xs d g e (kept (up ++ y.0 ∷ []) (say lead) f h)

-- ---- how many moves a tree has

pub held_append : (f g : Forest) → moves_held (append f g) ≡ moves_held f + moves_held g
held_append Bare g = omega arith
held_append (Node m n c b next) g = omega (arith, held_append next g)

held_on_node : (i : ℕ) (r : Addition) (f : Forest) → moves_held f ≤ moves_held (on_node i r f)
held_on_node i r Bare = omega arith
held_on_node zero r (Node m n c b next) = omega (arith, held_append b r.below)
held_on_node (suc i) r (Node m n c b next) = omega (arith, held_on_node i r next)

held_inside : (i : ℕ) (g : Forest → Forest) (f : Forest) → ((x : Forest) → moves_held x ≤ moves_held (g x)) → moves_held f ≤ moves_held (inside i g f)
held_inside i g Bare h = omega arith
held_inside zero g (Node m n c b next) h = omega (arith, h b)
held_inside (suc i) g (Node m n c b next) h = omega (arith, held_inside i g next h)

-- a part that is added takes none away
held_hang : (p : List ℕ) (r : Addition) (f : Forest) → moves_held f ≤ moves_held (hang p r f)
held_hang [] r f = omega (arith, held_append f r.below)
held_hang (i ∷ []) r f = omega (arith, held_on_node i r f, held_append (on_node i r f) r.beside)
held_hang (i ∷ j ∷ p) r f = held_inside i (hang (j ∷ p) r) f (held_hang (j ∷ p) r)

same_on_node : (i : ℕ) (text : List ℕ) (f : Forest) → moves_held (on_node i (say text) f) ≡ moves_held f
same_on_node i text Bare = refl
same_on_node zero text (Node m n c b next) = omega (arith, held_append b Bare)
same_on_node (suc i) text (Node m n c b next) = omega (arith, same_on_node i text next)

same_inside : (i : ℕ) (g : Forest → Forest) (f : Forest) → ((x : Forest) → moves_held (g x) ≡ moves_held x) → moves_held (inside i g f) ≡ moves_held f
same_inside i g Bare h = refl
same_inside zero g (Node m n c b next) h = omega (arith, h b)
same_inside (suc i) g (Node m n c b next) h = omega (arith, same_inside i g next h)

-- a comment is no move
same_said : (p text : List ℕ) (f : Forest) → moves_held (hang p (say text) f) ≡ moves_held f
same_said [] text f = omega (arith, held_append f Bare)
same_said (i ∷ []) text f = omega (arith, same_on_node i text f, held_append (on_node i (say text) f) Bare)
same_said (i ∷ j ∷ p) text f = same_inside i (hang (j ∷ p) (say text)) f (same_said (j ∷ p) text)

held_new : (p : List ℕ) (m : MoveParts) (f : Forest) → Leads p f → moves_held (hang p (leaf m) f) ≡ moves_held f + 1
held_new p m f at = ap moves_held (sym (added_is p m f)) ∙ held_with_move m p f at

-- ---- a move more

-- so many moves, and the way to that place
record Grown (n : ℕ) (q : List ℕ) (f : Forest) : Type 0 where
  held : n ≤ moves_held f
  there : Leads q f

grown_kept : (n : ℕ) (q p : List ℕ) (r : Addition) (f : Forest) → Grown n q f → Grown n q (hang p r f)
grown_kept n q p r f g = record { held = (let a = g.held in let b = held_hang p r f in omega (arith, a, b)); there = keeps p q r f g.there }

grown_new : (p : List ℕ) (m : MoveParts) (f : Forest) → Leads p f → Grown (moves_held f + 1) (p ++ count (below_at p f) ∷ []) (hang p (leaf m) f)
grown_new p m f at = record { held = (let a = held_new p m f at in omega (arith, a)); there = new-there p m f at }

abbrev Larger : ℕ → ℕ → Forest → Type 0
Larger n deep f = (n < moves_held f) × (deep < height f)

larger : (n k : ℕ) (p : List ℕ) (i : ℕ) (g : Forest) → n ≤ k → Grown (k + 1) (p ++ i ∷ []) g → Larger n (length p) g
larger n k p i g le h = (
  (let a = h.held in omega (arith, a, le)),
  (let a = path_le_height (p ++ i ∷ []) g h.there in let b = length-append p (i ∷ []) in omega (arith, a, b)),
)

-- after a move of a line, the tree is larger at the end than before it
text_grows : (w : List ℕ) (es : List Element) (start : PositionParts) (c : List ℕ) (f : Forest) (up : List ℕ) (l : Last) (here : PositionParts) (lead : List ℕ) (st : List Frame) (d : List ℕ) (g : Forest)
    → Leads (end_of up l) f → goes_on (Text w ∷ es) (state start c f up l here lead st) ≡ Some (d, g) → Larger (moves_held f) (length (end_of up l)) g
text_grows w es start c f up None here lead [] d g at e =
    let b = bound (move_in here w) _ (d, g) e in
    let i = count (below_at up f) in
    let q : List ℕ = up ++ i ∷ [] in
    larger (moves_held f) (moves_held f) up i g (omega arith)
    (run_keeps (Grown (moves_held f + 1) q) (grown_kept (moves_held f + 1) q) es (comments_joined c lead) (hang up (leaf b.0) f) up (Some (i, here)) (after here b.0) [] [] d g b.1 (grown_new up b.0 f at))
text_grows w es start c f up None here lead (x ∷ xs) d g at e =
    let b = bound (move_in here w) _ (d, g) e in
    let i = count (below_at up f) in
    let q : List ℕ = up ++ i ∷ [] in
    larger (moves_held f) (moves_held f) up i g (omega arith)
    (run_keeps (Grown (moves_held f + 1) q) (grown_kept (moves_held f + 1) q) es c (hang up (leaf b.0) f) up (Some (i, here)) (after here b.0) lead (x ∷ xs) d g b.1 (grown_new up b.0 f at))
text_grows w es start c f up (Some x) here lead st d g at e =
    let p : List ℕ = up ++ x.0 ∷ [] in
    let k : Forest = hang p (say lead) f in
    let b = bound (move_in here w) _ (d, g) e in
    let i = count (below_at p k) in
    let n = moves_held k + 1 in
    larger (moves_held f) (moves_held k) p i g (held_hang p (say lead) f)
    (run_keeps (Grown n (p ++ i ∷ [])) (grown_kept n (p ++ i ∷ [])) es c (hang p (leaf b.0) k) p (Some (i, here)) (after here b.0) [] st d g b.1 (grown_new p b.0 k (keeps p p (say lead) f at)))

-- ---- at a limit

same_said_at : (p text : List ℕ) (f : Forest) → moves_held (forest_at p text f) ≡ moves_held f
same_said_at [] text f = refl
same_said_at (k ∷ p) text f = same_said (k ∷ p) text f

-- a comment more at the cursor doesn't matter
limit_said : (t t1 : TreeParts) (text : List ℕ) (due : Bool) → t1 ≡ (if due then said_here text t else t) → AtLimit t1 → AtLimit t
limit_said t t1 text true e full = by (subst AtLimit e full)
  where
    by : AtLimit (said_here text t) → AtLimit t
    by (inl deep) = inl deep
    by (inr many) = inr (let a = same_said_at t.path text t.tree.below in omega (arith, a, many))
limit_said t t1 text false e full = subst AtLimit e full

same_moves : (p text : List ℕ) (f : Forest) → Leads p f → moves_along p (forest_at p text f) ≡ moves_along p f
same_moves [] text f at = refl
same_moves (k ∷ p) text f at = moves_kept (k ∷ p) (k ∷ p) (say text) f at

-- nor does it for what is legal there
same_line : (t t1 : TreeParts) (text : List ℕ) (due : Bool) → t1 ≡ (if due then said_here text t else t) → Leads t.path t.tree.below → line_to t1 ≡ line_to t
same_line t t1 text true e at = ap line_to e ∙ ap (λ (z : List MoveParts). along z) (same_moves t.path text t.tree.below at)
  where
    along : List MoveParts → Line
    along z = record { start = t.tree.start; moves = z }
same_line t t1 text false e at = ap line_to e

-- what a text gives that names a legal move is too large
text_exceeds : (t t1 : TreeParts) (lines : List Interrupted) (played due : Bool) (comments : List ℕ) (from : ℕ) (w text : List ℕ) (m : MoveParts) → t1 ≡ (if due then said_here text t else t)
    → is_legal (last (line_to t)) m ≡ true → (is_legal (last (line_to t1)) m ≡ true → AtLimit t1)
    → (s : Reading) → HoldsReading t lines played comments from s → (es : List Element) (d : List ℕ) (g : Forest) → goes_on (Text w ∷ es) s ≡ Some (d, g) → (20000 < height g) ⊎ (1000000 < moves_held g)
text_exceeds t t1 lines played due comments from w text m e1 legal full s h es d g e =
    by (limit_said t t1 text due e1 (full (ap (λ (z : Line). is_legal (last z) m) (same_line t t1 text due e1 there) ∙ legal)))
  where
    there : Leads t.path t.tree.below
    there = subst (λ (p : List ℕ). Leads p t.tree.below) (sym h.path) (subst (Leads (end_of s.up s.last_move)) (sym h.forest) h.there)

    grows : Larger (moves_held s.forest) (length (end_of s.up s.last_move)) g
    grows = text_grows w es s.start s.comment s.forest s.up s.last_move s.here s.lead s.interrupted d g h.there e

    by : AtLimit t → (20000 < height g) ⊎ (1000000 < moves_held g)
    by (inl deep) = inl (let a = grows.1 in let b = ap length h.path in omega (arith, a, b, deep))
    by (inr many) = inr (let a = grows.0 in let b = ap moves_held h.forest in omega (arith, a, b, many))

-- why no move was added, after a text that names a legal one
pub room_exceeds : (t t1 : TreeParts) (lines : List Interrupted) (played due : Bool) (comments : List ℕ) (from : ℕ) (w text : List ℕ) (m : MoveParts) (kind : FaultKind) → t1 ≡ (if due then said_here text t else t)
    → is_legal (last (line_to t)) m ≡ true → IsRoomFault kind (is_legal (last (line_to t1)) m) t1
    → (kind ≡ Memory) ⊎ ((kind ≡ TooLarge)
    × ((s : Reading) → HoldsReading t lines played comments from s → (es : List Element) (d : List ℕ) (g : Forest) → goes_on (Text w ∷ es) s ≡ Some (d, g) → (20000 < height g) ⊎ (1000000 < moves_held g)))
room_exceeds t t1 lines played due comments from w text m kind e1 legal (inl memory) = inl memory
room_exceeds t t1 lines played due comments from w text m kind e1 legal (inr full) = inr (full.0, text_exceeds t t1 lines played due comments from w text m e1 legal full.1)

-- what didn't fail is done
pub ok_of : {A E P : Type 0} (r : Result A E) → ((fault : E) → r ≡ Err fault → ⊥) → OnOk r P → P
ok_of (Ok x) none h = h
ok_of (Err fault) none h = absurd (none fault refl)

-- what holds of every value that there may be, of the one that there is
pub legal_of : {A E : Type 0} (r : Result A E) (m : A) (P : A → Type 0) → IfOk r P → r ≡ Ok m → P m
legal_of r m P h e = subst (λ (x : Result _ _). IfOk x P) e h
