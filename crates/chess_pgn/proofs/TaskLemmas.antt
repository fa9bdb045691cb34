-- What each task writes, and the tasks that it leaves.
use Rattle.std.proofs.Common.{◌≡◌, ◌≤◌, ◌<◌, ◌+◌, ℕ, Bool, true, false, not, ◌||◌, List, [], ◌∷◌, ◌++◌, length, map, Option, Some, None, refl, sym, ap, subst, ◌∙◌, arith, append_assoc, append-nil, codes, length-append}
use Rattle.std.specs.Prelude.{Result, Ok, Err, OnOk, MatchOption, is_none}
use Rattle.std.proofs.lemmas.List.{reverse-append}
use Rattle.chess_types.specs.declared.board.man.Colour.{Colour}
use Rattle.chess_types.specs.board.MoveParts.{MoveParts}
use Rattle.chess_types.specs.board.Position.{PositionParts}
use Rattle.chess_types.specs.board.After.{after}
use Rattle.chess_types.specs.board.Legal.{is_legal}
use Rattle.chess_types.specs.board.Lines.{Line, extended, last}
use Rattle.chess_types.proofs.PlayLaws.{last_extended}
use Rattle.chess_san.specs.Writing.{san}
use Rattle.chess_tree.specs.Forest.{Forest, Bare, Node, NodeParts, child, height}
use Rattle.chess_tree.specs.Edits.{without_node}
use Rattle.chess_tree.specs.WellFormed.{AreSound}
use Rattle.chess_pgn.specs.Written.{comment_text, is_noted, moves_text, nags_text, node_text, number_text}
use Rattle.chess_pgn.specs.steps.Adding.{Adds}
use Rattle.chess_pgn.specs.steps.Spelling.{spoken_text}
use Rattle.chess_pgn.specs.steps.Tasks.{Todo, Moves, Variations, Below, Close, Back, shortened, without_last, tasks_text, AreTasks}
use Rattle.chess_pgn.specs.steps.TaskCode.{Writes, WritesSome, Done, returning, todo, todos}
use Rattle.chess_pgn.proofs.AddLemmas.{adds_none, adds_on, adds_same}
use Rattle.chess_pgn.specs.declared.lines.Lines.{Lines}
use Rattle.chess_pgn.specs.declared.movetext.Task.{Task}

without_last-append : (moves : List MoveParts) (m : MoveParts) → without_last (moves ++ m ∷ []) ≡ moves
without_last-append [] m = refl
without_last-append (n ∷ []) m = refl
without_last-append (n ∷ k ∷ moves) m = ap (λ (x : List MoveParts). n ∷ x) (without_last-append (k ∷ moves) m)

pub shortened_extended : (line : Line) (m : MoveParts) → shortened (extended line m) ≡ line
shortened_extended line m = ap (λ (x : List MoveParts). record { start = line.start; moves = x }) (without_last-append line.moves m)

three : (x y z t : List ℕ) → (x ++ (y ++ z)) ++ t ≡ x ++ (y ++ (z ++ t))
three x y z t = append_assoc x (y ++ z) t ∙ ap (λ (s : List ℕ). x ++ s) (append_assoc y z t)

-- a node that is written
pub node_written : {A : Type 0} (l0 l1 l2 l3 : Lines A) (opening : List ℕ) (due : Bool) (p : PositionParts) (m : MoveParts) (nags comment : List ℕ)
    → Adds l0 l1 (spoken_text opening due p m) → Adds l1 l2 (nags_text nags) → Adds l2 l3 (comment_text comment) → Adds l0 l3 (node_text opening due p m nags comment)
node_written l0 l1 l2 l3 opening due p m nags comment a0 a1 a2 =
    adds_same l0 l3 _ _ (three opening (number_text due p.side p.number) (san p m) (nags_text nags ++ comment_text comment)) (adds_on l0 l1 l3 (spoken_text opening due p m) (nags_text nags ++ comment_text comment) a0 (adds_on l1 l2 l3 (nags_text nags) (comment_text comment) a1 a2))

-- a move that is written, its text in two parts
pub spoken_whole : {A : Type 0} (l0 l1 l2 : Lines A) (opening : List ℕ) (due : Bool) (side : Colour) (number : ℕ) (text mark : List ℕ) (p : PositionParts) (m : MoveParts) → side ≡ p.side → number ≡ p.number → text ++ mark ≡ san p m
    → Adds l0 l1 (opening ++ (number_text due side number ++ text)) → Adds l1 l2 mark → Adds l0 l2 (spoken_text opening due p m)
spoken_whole l0 l1 l2 opening due side number text mark p m e h k a0 a1 =
    adds_same l0 l2 _ _ (three opening (number_text due side number) text mark ∙ (λ i. opening ++ (number_text due (e i) (h i) ++ k i))) (adds_on l0 l1 l2 (opening ++ (number_text due side number ++ text)) mark a0 a1)

-- the end of a variation
pub step_close : {A E : Type 0} (r : Result (Unit {0}) E) (old new : Lines A) (line : Line) (ts : List Todo) → AreTasks line ts → OnOk r (Adds old new (codes ")")) → OnOk r (WritesSome old new line line (Close ∷ ts) ts)
step_close (Ok x) old new line ts are adds = record { more = codes ")"; adds = adds; text = refl; tasks = are; smaller = omega arith }
step_close (Err x) old new line ts are adds = tt

none_taken : (line line' : Line) → line.moves ≡ [] → line' ≡ line → line' ≡ shortened line
none_taken line line' none same = same ∙ ap (λ (x : List MoveParts). record { start = line.start; moves = x }) (none ∙ sym (ap without_last none))

pub popped : (o : Option MoveParts) (line line' : Line) → MatchOption o ((line.moves ≡ []) × (line' ≡ line)) (λ m. line ≡ extended line' m) → line' ≡ shortened line
popped None line line' e = none_taken line line' e.0 e.1
popped (Some m) line line' e = sym (ap shortened e ∙ shortened_extended line' m)

-- a move taken back
pub step_back : {A : Type 0} (lines : Lines A) (line line' : Line) (ts : List Todo) → AreTasks (shortened line) ts → line' ≡ shortened line → Adds lines lines [] → WritesSome lines lines line line' (Back ∷ ts) ts
step_back lines line line' ts are same adds =
    record { more = []; adds = adds; text = ap (λ (l : Line). tasks_text l ts) (sym same); tasks = subst (λ (l : Line). AreTasks l ts) (sym same) are; smaller = omega arith }

-- nothing is left side by side
pub no_nodes : (f : Forest) → None ≡ child 0 f → f ≡ Bare
no_nodes Bare e = refl
no_nodes (Node m nags comment below next) e = absurd cc

-- the first of some nodes
pub record First (f : Forest) (m : MoveParts) (nags comment : List ℕ) (below rest : Forest) : Type 0 where
  pub is : f ≡ Node m nags comment below rest

pub first_node : {f rest below : Forest} {found : Option NodeParts} {n : NodeParts} {played : Option MoveParts} {m : MoveParts} {nags comment : List ℕ} → found ≡ Some n → found ≡ child 0 f → rest ≡ without_node 0 f
    → played ≡ Some m → played ≡ n.move → nags ≡ n.nags → comment ≡ n.comment → below ≡ n.below → First f m nags comment below rest
first_node {f} {rest} {below} {n = n} {m = m} {nags = nags} {comment = comment} some is others move moved e1 e2 e3 = by f n rest m nags comment below (sym some ∙ is) others (sym move ∙ moved) e1 e2 e3
  where
    some_is : (x y : NodeParts) → Some x ≡ Some y → x ≡ y
    some_is x y e = cc

    some_move : (x y : MoveParts) → Some x ≡ Some y → x ≡ y
    some_move x y e = cc

    parts : (k m : MoveParts) (a b c d : List ℕ) (p q s t : Forest) → k ≡ m → a ≡ b → c ≡ d → p ≡ q → s ≡ t → Node k a c p s ≡ Node m b d q t
    parts k m a b c d p q s t e1 e2 e3 e4 e5 = cc

    by : (f : Forest) (n : NodeParts) (rest : Forest) (m : MoveParts) (nags comment : List ℕ) (below : Forest) → Some n ≡ child 0 f → rest ≡ without_node 0 f → Some m ≡ n.move
        → nags ≡ n.nags → comment ≡ n.comment → below ≡ n.below → First f m nags comment below rest
    by Bare n rest m a c b e r h e1 e2 e3 = absurd cc
    by (Node k nags comment below next) n rest m a c b e r h e1 e2 e3 =
        let s : n ≡ record { move = Some k; nags = nags; comment = comment; below = below } = some_is n _ e in
        let km : m ≡ k = some_move m k (h ∙ ap (λ (x : NodeParts). x.move) s) in
        record { is = parts k m nags a comment c below b next rest (sym km) (sym (e1 ∙ ap (λ (x : NodeParts). x.nags) s)) (sym (e2 ∙ ap (λ (x : NodeParts). x.comment) s)) (sym (e3 ∙ ap (λ (x : NodeParts). x.below) s)) (sym r) }

-- each node has a move
pub has_move : (f : Forest) {found : Option NodeParts} {n : NodeParts} {played : Option MoveParts} → found ≡ Some n → found ≡ child 0 f → played ≡ None → played ≡ n.move → ⊥
has_move f {n = n} some is none move = by f n (sym some ∙ is) (sym none ∙ move)
  where
    by : (f : Forest) (n : NodeParts) → Some n ≡ child 0 f → None ≡ n.move → ⊥
    by Bare n e h = cc
    by (Node k nags comment below next) n e h = cc

pub first_few : (p : PositionParts) (f : Forest) (m : MoveParts) (nags comment : List ℕ) (below rest : Forest) (n : ℕ) → First f m nags comment below rest → n + height f ≤ 20000 → n < 20000
first_few p f m nags comment below rest n first deep = (let h : height f ≡ height (Node m nags comment below rest) = ap height first.is in omega (arith, deep, h))

pub first_legal : (p : PositionParts) (f : Forest) (m : MoveParts) (nags comment : List ℕ) (below rest : Forest) → First f m nags comment below rest → AreSound p f → is_legal p m ≡ true
first_legal p f m nags comment below rest first are =
    let a : AreSound p (Node m nags comment below rest) = subst (λ (x : Forest). AreSound p x) first.is are in
    a.0

four : (x y z u t : List ℕ) → (x ++ (y ++ (z ++ u))) ++ t ≡ x ++ (y ++ (z ++ (u ++ t)))
four x y z u t = append_assoc x (y ++ (z ++ u)) t ∙ ap (λ (s : List ℕ). x ++ s) (three y z u t)

-- what is below a move that is made
step_below : {A : Type 0} (lines : Lines A) (line : Line) (ts : List Todo) (m : MoveParts) (nodes : Forest) (due : Bool) → AreTasks line (Below m nodes due ∷ ts) → Adds lines lines []
    → WritesSome lines lines line (extended line m) (Below m nodes due ∷ ts) (Moves nodes due ∷ Back ∷ ts)
step_below lines line ts m nodes due are adds =
    let next = extended line m in
    let here : last next ≡ after (last line) m = last_extended line m in
    let back : shortened next ≡ line = shortened_extended line m in
    record {
      more = [];
      adds = adds;
      text = rw (here, back) refl;
      tasks = (subst (λ (x : PositionParts). AreSound x nodes) (sym here) are.1, omega (arith, are.2, length-append line.moves (m ∷ [])), subst (λ (x : Line). AreTasks x ts) (sym back) are.3);
      smaller = omega arith;
    }

-- the same where nothing is after it
step_last : {A : Type 0} (lines : Lines A) (line : Line) (m : MoveParts) (nodes : Forest) (due : Bool) → AreTasks line (Below m nodes due ∷ []) → Adds lines lines []
    → WritesSome lines lines line (extended line m) (Below m nodes due ∷ []) (Moves nodes due ∷ [])
step_last lines line m nodes due are adds =
    let here : last (extended line m) ≡ after (last line) m = last_extended line m in
    record {
      more = [];
      adds = adds;
      text = rw here refl;
      tasks = (subst (λ (x : PositionParts). AreSound x nodes) (sym here) are.1, omega (arith, are.2, length-append line.moves (m ∷ [])), tt);
      smaller = omega arith;
    }

pub step_made : {A : Type 0} (lines : Lines A) (line : Line) (items : List (Task A)) (m : MoveParts) (nodes : Forest) (due : Bool) → AreTasks line (Below m nodes due ∷ todos items) → Adds lines lines []
    → WritesSome lines lines line (extended line m) (Below m nodes due ∷ todos items) (Moves nodes due ∷ returning items)
step_made lines line [] m nodes due are adds = step_last lines line m nodes due are adds
step_made lines line (t ∷ ts) m nodes due are adds = step_below lines line (todos (t ∷ ts)) m nodes due are adds

-- some steps and others
steps_then : {A : Type 0} (least first second : ℕ) → least ≤ first + second → (old mid new : Lines A) (line line1 line2 : Line) (ts ts1 ts2 : List Todo) → Writes first old mid line line1 ts ts1 → Writes second mid new line1 line2 ts1 ts2
    → Writes least old new line line2 ts ts2
steps_then least first second enough old mid new line line1 line2 ts ts1 ts2 s t = record {
  more = s.more ++ t.more;
  adds = adds_on old mid new s.more t.more s.adds t.adds;
  text = s.text ∙ ap (λ (x : List ℕ). s.more ++ x) t.text ∙ sym (append_assoc s.more t.more (tasks_text line2 ts2));
  tasks = t.tasks;
  smaller = omega (arith, s.smaller, t.smaller, enough);
}

-- some tasks are after another
pub returning_pushed : {A : Type 0} (items : List (Task A)) (t : Task A) → returning (items ++ t ∷ []) ≡ Back ∷ todos (items ++ t ∷ [])
returning_pushed [] t = refl
returning_pushed (u ∷ items) t = refl

-- the next nodes are none
pub step_none : {A : Type 0} (lines : Lines A) (line : Line) (ts : List Todo) (f : Forest) (due : Bool) → None ≡ child 0 f → AreTasks line (Moves f due ∷ ts) → Adds lines lines [] → WritesSome lines lines line line (Moves f due ∷ ts) ts
step_none lines line ts f due e are adds =
    let bare = no_nodes f e in
    record { more = []; adds = adds; text = rw bare refl; tasks = are.2; smaller = omega arith }

-- the line and the tasks under other names
pub steps_as : {A : Type 0} {old new : Lines A} {line line1 line2 : Line} {ts ts1 ts2 : List Todo} → line2 ≡ line1 → ts2 ≡ ts1 → WritesSome old new line line1 ts ts1 → WritesSome old new line line2 ts ts2
steps_as {old = old} {new} {line} {line1} {ts = ts} {ts2 = ts2} e h s =
    subst (λ (l : Line). WritesSome old new line l ts ts2) (sym e) (subst (λ (x : List Todo). WritesSome old new line line1 ts x) (sym h) s)

pub lines_as : {A : Type 0} {old new1 new2 : Lines A} {line line1 : Line} {ts ts1 : List Todo} → new2 ≡ new1 → WritesSome old new1 line line1 ts ts1 → WritesSome old new2 line line1 ts ts1
lines_as {A = A} {old = old} {line = line} {line1 = line1} {ts = ts} {ts1 = ts1} e s = subst (λ (x : Lines A). WritesSome old x line line1 ts ts1) (sym e) s

pub todos_push : {A : Type 0} (items : List (Task A)) (t : Task A) → todos (items ++ t ∷ []) ≡ todo t ∷ todos items
todos_push {A} items t = ap (λ (x : List (Task A)). map todo x) (reverse-append items (t ∷ []))

pub no_variations : {A : Type 0} (lines : Lines A) (line : Line) (ts : List Todo) (f : Forest) → None ≡ child 0 f → AreTasks line (Variations f ∷ ts) → Adds lines lines [] → WritesSome lines lines line line (Variations f ∷ ts) ts
no_variations lines line ts f e are adds =
    let bare = no_nodes f e in
    record { more = []; adds = adds; text = rw bare refl; tasks = are.2; smaller = omega arith }

module _ {A : Type 0} {old new : Lines A} {line : Line} {f : Forest} {m : MoveParts} {nags comment : List ℕ} {below rest : Forest} {due_below : Bool} (first : First f m nags comment below rest) where
  -- a first node of a line, what is below it, and the others
  pub step_moves : {ts : List Todo} {due : Bool} → due_below ≡ is_noted nags comment || not (is_none (child 0 rest)) → AreTasks line (Moves f due ∷ ts)
      → Adds old new (node_text (codes " ") due (last line) m nags comment) → WritesSome old new line line (Moves f due ∷ ts) (Variations rest ∷ Below m below due_below ∷ ts)
  step_moves {ts} {due} e are adds =
      let p = last line in
      let a : AreTasks line (Moves (Node m nags comment below rest) due ∷ ts) = subst (λ (x : Forest). AreTasks line (Moves x due ∷ ts)) first.is are in
      record {
        more = node_text (codes " ") due p m nags comment;
        adds = adds;
        text = ap (λ (x : Forest). moves_text false due p x ++ tasks_text line ts) first.is
            ∙ rw e (three (node_text (codes " ") due p m nags comment) (moves_text true true p rest) (moves_text false (is_noted nags comment || not (is_none (child 0 rest))) (after p m) below) (tasks_text line ts));
        tasks = (a.0.3, omega (arith, a.1), (a.0.0, a.0.2, omega (arith, a.1), a.2));
        smaller = rw first.is (omega arith);
      }

  -- the only one of some nodes, whose move is made
  pub step_only : (items : List (Task A)) {due : Bool} → None ≡ child 0 rest → due_below ≡ is_noted nags comment || not (is_none (child 0 rest)) → AreTasks line (Moves f due ∷ todos items)
      → Adds old new (node_text (codes " ") due (last line) m nags comment) → WritesSome old new line (extended line m) (Moves f due ∷ todos items) (Moves below due_below ∷ returning items)
  step_only items {due} none e are adds =
      let ts = todos items in
      let one = step_moves e are adds in
      let two = no_variations new line (Below m below due_below ∷ ts) rest none one.tasks (adds_none new) in
      let three = step_made new line items m below due_below two.tasks (adds_none new) in
      steps_then 1 1 1 (omega arith) old new new line line (extended line m) (Moves f due ∷ ts) (Variations rest ∷ Below m below due_below ∷ ts) (Moves below due_below ∷ returning items) one
      (steps_then 1 1 1 (omega arith) new new new line line (extended line m) (Variations rest ∷ Below m below due_below ∷ ts) (Below m below due_below ∷ ts) (Moves below due_below ∷ returning items) two three)

  -- a first variation, what is below its move, and the others
  pub step_variation : {ts : List Todo} → due_below ≡ is_noted nags comment → AreTasks line (Variations f ∷ ts)
      → Adds old new (node_text (codes " (") true (last line) m nags comment) → WritesSome old new line (extended line m) (Variations f ∷ ts) (Moves below due_below ∷ Back ∷ Close ∷ Variations rest ∷ ts)
  step_variation {ts} e are adds =
      let p = last line in
      let next = extended line m in
      let here : last next ≡ after p m = last_extended line m in
      let back : shortened next ≡ line = shortened_extended line m in
      let a : AreTasks line (Variations (Node m nags comment below rest) ∷ ts) = subst (λ (x : Forest). AreTasks line (Variations x ∷ ts)) first.is are in
      let b : AreTasks line (Close ∷ Variations rest ∷ ts) = (a.0.3, omega (arith, a.1), a.2) in
      record {
        more = node_text (codes " (") true p m nags comment;
        adds = adds;
        text = ap (λ (x : Forest). moves_text true true p x ++ tasks_text line ts) first.is
            ∙ four (node_text (codes " (") true p m nags comment) (moves_text false (is_noted nags comment) (after p m) below) (codes ")") (moves_text true true p rest) (tasks_text line ts)
            ∙ rw (e, here, back) refl;
        tasks = (subst (λ (x : PositionParts). AreSound x below) (sym here) a.0.2, omega (arith, a.1, length-append line.moves (m ∷ [])), subst (λ (x : Line). AreTasks x (Close ∷ Variations rest ∷ ts)) (sym back) b);
        smaller = rw first.is (omega arith);
      }

-- a move that is made and taken back
pub taken_back : (line made line' : Line) (m : MoveParts) → made ≡ extended line m → line' ≡ shortened made → line' ≡ line
taken_back line made line' m e h = h ∙ ap shortened e ∙ shortened_extended line m

pub todos_pushed : {A : Type 0} (items items' : List (Task A)) (t : Task A) → items' ≡ items ++ t ∷ [] → todos items' ≡ todo t ∷ todos items
todos_pushed {A} items items' t e = ap (λ (x : List (Task A)). todos x) e ∙ todos_push items t

-- the same of a call that may fail
pub on_as : {A : Type 0} {E : Type 0} (r : Result (Unit {0}) E) (x y z : A) → OnOk r (x ≡ y) → y ≡ z → OnOk r (x ≡ z)
on_as (Ok u) x y z e h = e ∙ h
on_as (Err u) x y z e h = tt

pub on_ok : {E P : Type 0} (r : Result (Unit {0}) E) → P → OnOk r P
on_ok (Ok u) h = h
on_ok (Err u) h = tt

pub none_is : {A : Type 0} (o : Option A) (b : Bool) → b ≡ is_none o → b ≡ true → None ≡ o
none_is None b e h = refl
none_is (Some x) b e h = absurd (let k : true ≡ false = sym h ∙ e in cc)

pub steps_on : {A E : Type 0} (r : Result (Unit {0}) E) {old new1 new2 : Lines A} {line line1 : Line} (line2 : Line) {ts ts1 : List Todo} (ts2 : List Todo) → new2 ≡ new1 → OnOk r (line2 ≡ line1) → OnOk r (ts2 ≡ ts1) → WritesSome old new1 line line1 ts ts1
    → OnOk r (WritesSome old new2 line line2 ts ts2)
steps_on {A} (Ok u) {old = old} {line = line} line2 {ts = ts} ts2 e h k s = subst (λ (x : Lines A). WritesSome old x line line2 ts ts2) (sym e) (steps_as h k s)
steps_on (Err u) line2 ts2 e h k s = tt

-- ---- all the tasks

pub done_none : {A : Type 0} (lines : Lines A) (line : Line) (ts : List Todo) → AreTasks line ts → Adds lines lines [] → Done lines lines line line ts ts
done_none lines line ts are adds = record { more = []; adds = adds; text = refl; tasks = are; smaller = omega arith }

pub done_on : {A : Type 0} (old mid new : Lines A) (line line1 line2 : Line) (ts ts1 ts2 : List Todo) → Done old mid line line1 ts ts1 → WritesSome mid new line1 line2 ts1 ts2 → Done old new line line2 ts ts2
done_on = steps_then 0 0 1 (omega arith)

pub done_last : {A : Type 0} {old mid new : Lines A} {line line1 line2 : Line} {ts ts1 ts2 : List Todo} → Done old mid line line1 ts ts1 → WritesSome mid new line1 line2 ts1 ts2 → WritesSome old new line line2 ts ts2
done_last = steps_then 1 0 1 (omega arith) _ _ _ _ _ _ _ _ _

pub done_all : {A : Type 0} (old new : Lines A) (line line' : Line) (ts ts' : List Todo) → Done old new line line' ts ts' → ts' ≡ [] → Adds old new (tasks_text line ts)
done_all old new line line' ts ts' d e = adds_same old new d.more (tasks_text line ts) (sym (d.text ∙ ap (λ (x : List Todo). d.more ++ tasks_text line' x) e ∙ append-nil d.more)) d.adds

-- ---- where a game begins

module _ (line : Line) (p start : PositionParts) (f below : Forest) (ts : List Todo) (e : line ≡ record { start = p; moves = [] }) (h : p ≡ start) (k : f ≡ below) (t : ts ≡ Moves f true ∷ []) where
  first_last : last line ≡ start
  unfolding last
  first_last = ap last e ∙ h

  pub begins : AreSound start below → height below ≤ 20000 → AreTasks line ts
  begins are deep = rw (t, k) (rw first_last are, omega (arith, deep, ap (λ (l : Line). length l.moves) e), tt)

  pub begins_text : tasks_text line ts ≡ moves_text false true start below
  begins_text = rw (t, k, first_last) (append-nil (moves_text false true start below))
