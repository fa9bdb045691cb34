-- What each step of a reader of movetext does to the state of reading.
use Rattle.std.proofs.Common.{◌≡◌, ◌≢◌, ◌⊎◌, ℕ, suc, ◌-◌, ◌<◌, ◌≤◌, min, Bool, true, false, List, [], ◌∷◌, ◌++◌, length, take, drop, reverse, Some, None, refl, sym, subst, ap, ◌∙◌, arith, append_assoc}
use Rattle.std.specs.Prelude.{Result, Ok, Err, OnOk, MatchResult, if◌then◌else◌, ◌||◌, nat_lt, slice_get, unwrap_or}
use Rattle.std.proofs.lemmas.List.{append-nil, length-append, take_at, drop_at, length-reverse, reverse-append, reverse-reverse}
use mathlib.Core.Logic.{inl, inr}
use Rattle.chess_types.specs.board.MoveParts.{MoveParts}
use Rattle.chess_types.specs.board.Position.{PositionParts}
use Rattle.chess_types.specs.board.After.{after}
use Rattle.chess_types.specs.board.Lines.{extended, last}
use Rattle.chess_types.proofs.PlayLaws.{last_extended}
use Rattle.chess_san.specs.Naming.{san_reading}
use Rattle.chess_tree.specs.Comments.{normalised}
use Rattle.chess_tree.specs.Forest.{Forest, Bare, count, below_at, below_child}
use Rattle.chess_tree.specs.GameTree.{TreeParts, added, annotated_here, at_path, line_to}
use Rattle.chess_tree.specs.Edits.{annotated, change_node, parent}
use Rattle.chess_tree.specs.WellFormed.{Leads}
use Rattle.chess_pgn.specs.Grammar.{Element, Annotation, Remark, Open, Close, Text, Addition, few_are_open, comments_joined, move_in, ok_move}
use Rattle.chess_pgn.specs.steps.Hanging.{hang, leaf, nag, say}
use Rattle.chess_pgn.specs.steps.Elements.{Frame, Last, path_of, last_of, end_of}
use Rattle.chess_pgn.specs.steps.Readings.{Goes, Reading, fresh, goes_on, HoldsReading, IsSpaced, is_nil, Pends, AreFrames, Nested, position_at, said_here, comment_at, forest_at}
use Rattle.chess_pgn.specs.declared.reader.moves.Interrupted.{Interrupted}
use Rattle.chess_tree.specs.declared.fault.TreeFault.{TreeFault}
use Rattle.chess_tree.specs.declared.fault.TreeFault.TheVariants.{AtRoot, NoSuch}
use Rattle.chess_pgn.proofs.KeepLemmas.{keeps, new-there}
use Rattle.chess_pgn.proofs.MeetLemmas.{at-prefix}
use Rattle.chess_pgn.proofs.PlaceLemmas.{added_is, annotated_is, moves_kept}
use Rattle.chess_pgn.proofs.RemarkLemmas.{normalised_append, normalised_none, normalised_separated, spaced_append}

-- what a step gives
abbrev pub Next : Element → TreeParts → List Interrupted → Bool → List ℕ → ℕ → Reading → Type 0
Next e t lines played comments from s =
    (s' : Reading) × HoldsReading t lines played comments from s' × Goes (e ∷ []) s s'

-- ---- what stays

position_kept : (start : PositionParts) (p q : List ℕ) (r : Addition) (f : Forest) → Leads q f → position_at start (hang p r f) q ≡ position_at start f q
position_kept start p q r f at = ap (λ (ms : List MoveParts). last (record { start = start; moves = ms })) (moves_kept p q r f at)

leads_front : (q : List ℕ) (i : ℕ) (f : Forest) → Leads (q ++ i ∷ []) f → Leads q f
leads_front = at-prefix

pub frames_kept : (start : PositionParts) (p : List ℕ) (r : Addition) (f : Forest) (st : List Frame) → AreFrames start f st → AreFrames start (hang p r f) st
frames_kept start p r f [] all = tt
frames_kept start p r f (x ∷ xs) all = (
  record {
    there = keeps p (path_of x) r f all.0.there;
    here = all.0.here ∙ sym (position_kept start p (path_of x) r f all.0.there);
    before = all.0.before ∙ sym (position_kept start p x.up r f (at-prefix x.up x.place f all.0.there));
  },
  frames_kept start p r f xs all.1,
)

nested-more : (up k : List ℕ) (st : List Frame) → Nested up st → Nested (up ++ k) st
nested-more up k [] n = tt
nested-more up k (x ∷ xs) n = ((n.0.0 ++ k, ap (λ (z : List ℕ). z ++ k) n.0.1 ∙ append_assoc x.up n.0.0 k), n.1)

-- ---- comments

cut_is : (outer text : List ℕ) (from : ℕ) → from ≡ length outer → min from (length (outer ++ text)) ≡ length outer
cut_is outer text from e = omega (arith, e, length-append outer text)

-- the comments of the line, and those around it
pub cut_parts : (outer text comments : List ℕ) (from : ℕ) → comments ≡ outer ++ text → from ≡ length outer
    → (drop (min from (length comments)) comments ≡ text) × (take (min from (length comments)) comments ≡ outer)
cut_parts outer text comments from e h =
    rw (e, cut_is outer text from h) (drop_at outer text (length outer) refl, take_at outer text (length outer) refl)

-- a comment more is waiting
abbrev pub remarked : List ℕ → Reading → Reading
remarked text s =
    record { start = s.start; comment = s.comment; forest = s.forest; up = s.up; last_move = s.last_move; here = s.here; lead = comments_joined s.lead (normalised text); interrupted = s.interrupted }

remark_held : (t : TreeParts) (lines : List Interrupted) (played : Bool) (comments comments' text : List ℕ) (from : ℕ) (s : Reading)
    → comments' ≡ comments ++ 32 ∷ text → HoldsReading t lines played comments from s → HoldsReading t lines played comments' from (remarked text s)
remark_held t lines played comments comments' text from s e h = record {
  start = h.start;
  comment = h.comment;
  forest = h.forest;
  path = h.path;
  played = h.played;
  here = h.here;
  before = h.before;
  begins = h.begins;
  nested = h.nested;
  there = h.there;
  frames = h.frames;
  outer = h.outer;
  text = h.text ++ 32 ∷ text;
  parts = e ∙ ap (λ (z : List ℕ). z ++ 32 ∷ text) h.parts ∙ append_assoc h.outer h.text (32 ∷ text);
  from = h.from;
  spaced = spaced_append h.text (32 ∷ text) h.spaced refl;
  lead = ap (λ (z : List ℕ). comments_joined z (normalised text)) h.lead ∙ sym (normalised_separated h.text text);
  pends = h.pends;
}

pub remark_goes : (t : TreeParts) (lines : List Interrupted) (played : Bool) (comments comments' text : List ℕ) (from : ℕ) (s : Reading)
    → comments' ≡ comments ++ 32 ∷ text → HoldsReading t lines played comments from s → Next (Remark (normalised text)) t lines played comments' from s
remark_goes t lines played comments comments' text from s e h =
    (remarked text s, remark_held t lines played comments comments' text from s e h, record { start = refl; given = λ es. refl; few = λ es. refl })

pub no_lines : (texts : List ℕ) (lines : List Interrupted) → Pends texts [] (reverse lines) → lines ≡ []
no_lines texts lines h = by (reverse lines) refl h
  where
    by : (is : List Interrupted) → reverse lines ≡ is → Pends texts [] is → lines ≡ []
    by [] e h = sym (reverse-reverse lines) ∙ ap reverse e
    by (i ∷ is) e h = absurd h

abbrev pub state : PositionParts → List ℕ → Forest → List ℕ → Last → PositionParts → List ℕ → List Frame → Reading
state start c f up last_move here lead st = record { start = start; comment = c; forest = f; up = up; last_move = last_move; here = here; lead = lead; interrupted = st }

-- a path that ends with a place isn't empty
cons_of : (up : List ℕ) (i : ℕ) → (k : ℕ) × (p : List ℕ) × (up ++ i ∷ [] ≡ k ∷ p)
cons_of [] i = (i, [], refl)
cons_of (j ∷ up) i = (j, up ++ i ∷ [], refl)

-- ---- annotations

annotated_path : (up : List ℕ) (i n : ℕ) (f : Forest) → change_node (annotated n) (up ++ i ∷ []) f ≡ hang (up ++ i ∷ []) (nag n) f
annotated_path [] i n f = annotated_is i [] n f
annotated_path (j ∷ up) i n f = annotated_is j (up ++ i ∷ []) n f

pub nag_goes : (t t' : TreeParts) (lines : List Interrupted) (played : Bool) (comments : List ℕ) (from n : ℕ) (start : PositionParts) (c : List ℕ) (f : Forest) (up : List ℕ) (l : Last) (here : PositionParts) (lead : List ℕ) (st : List Frame)
    → played ≡ true → t' ≡ annotated_here n t → HoldsReading t lines played comments from (state start c f up l here lead st) → Next (Annotation n) t' lines played comments from (state start c f up l here lead st)
nag_goes t t' lines played comments from n start c f up None here lead st some e h = absurd (let k : true ≡ false = sym some ∙ h.played in cc)
nag_goes t t' lines played comments from n start c f up (Some x) here lead st some e h =
    let p : List ℕ = up ++ x.0 ∷ [] in (
      state start c (hang p (nag n) f) up (Some x) here lead st,
      record {
        start = ap (λ (z : TreeParts). z.tree.start) e ∙ h.start;
        comment = ap (λ (z : TreeParts). z.tree.comment) e ∙ h.comment;
        forest = ap (λ (z : TreeParts). z.tree.below) e ∙ rw (h.path, h.forest) (annotated_path up x.0 n f);
        path = ap (λ (z : TreeParts). z.path) e ∙ h.path;
        played = h.played;
        here = h.here ∙ sym (position_kept start p p (nag n) f h.there);
        before = h.before ∙ sym (position_kept start p up (nag n) f (at-prefix up x.0 f h.there));
        begins = tt;
        nested = h.nested;
        there = keeps p p (nag n) f h.there;
        frames = frames_kept start p (nag n) f st h.frames;
        outer = h.outer;
        text = h.text;
        parts = h.parts;
        from = h.from;
        spaced = h.spaced;
        lead = h.lead;
        pends = h.pends;
      },
      record { start = refl; given = λ es. refl; few = λ es. refl },
    )

pub nag_ignored : (t : TreeParts) (lines : List Interrupted) (played : Bool) (comments : List ℕ) (from n : ℕ) (start : PositionParts) (c : List ℕ) (f : Forest) (up : List ℕ) (l : Last) (here : PositionParts) (lead : List ℕ) (st : List Frame)
    → played ≡ false → HoldsReading t lines played comments from (state start c f up l here lead st) → Next (Annotation n) t lines played comments from (state start c f up l here lead st)
nag_ignored t lines played comments from n start c f up None here lead st none h = (state start c f up None here lead st, h, record { start = refl; given = λ es. refl; few = λ es. refl })
nag_ignored t lines played comments from n start c f up (Some x) here lead st none h = absurd (let k : false ≡ true = sym none ∙ h.played in cc)

-- ---- moves

moved : (p : PositionParts) (w : List ℕ) (m : MoveParts) → san_reading p w ≡ Ok m → move_in p w ≡ Some m
moved p w m e = ap ok_move e

-- a move after the place to which a path leads
module _ (t t' : TreeParts) (m : MoveParts) (start : PositionParts) (f : Forest) (p : List ℕ) (es : t.tree.start ≡ start) (ef : t.tree.below ≡ f) (ep : t.path ≡ p) (e : t' ≡ added m t) (el : line_to t' ≡ extended (line_to t) m) where
  added_forest : t'.tree.below ≡ hang p (leaf m) f
  added_forest = ap (λ (z : TreeParts). z.tree.below) e ∙ rw (ep, ef) (added_is p m f)

  added_path : t'.path ≡ p ++ count (below_at p f) ∷ []
  added_path = ap (λ (z : TreeParts). z.path) e ∙ rw (ep, ef) refl

  added_start : t'.tree.start ≡ start
  added_start = ap (λ (z : TreeParts). z.tree.start) e ∙ es

  added_here : (here : PositionParts) → here ≡ position_at start f p → after here m ≡ position_at start (hang p (leaf m) f) (p ++ count (below_at p f) ∷ [])
  added_here here eh =
      let at_t : position_at start f p ≡ last (line_to t) = rw (es, ef, ep) refl in
      let at_t' : last (line_to t') ≡ position_at start (hang p (leaf m) f) (p ++ count (below_at p f) ∷ []) = rw (added_start, added_forest, added_path) refl in
      ap (λ (z : PositionParts). after z m) (eh ∙ at_t) ∙ sym (last_extended (line_to t) m) ∙ sym (ap last el) ∙ at_t'

  -- what is held after the move
  pub move_held : (lines : List Interrupted) (comments : List ℕ) (from : ℕ) (c : List ℕ) (here : PositionParts) (lead : List ℕ) (st : List Frame) (outer text : List ℕ)
      → t.tree.comment ≡ c → here ≡ position_at start f p → Leads p f → Nested p st → AreFrames start f st
      → comments ≡ outer ++ text → from ≡ length outer → IsSpaced text → lead ≡ normalised text → Pends outer st (reverse lines)
      → HoldsReading t' lines true comments from (state start c (hang p (leaf m) f) p (Some (count (below_at p f), here)) (after here m) lead st)
  move_held lines comments from c here lead st outer text said eh there nested frames parts behind spaced el pends = record {
    start = added_start;
    comment = ap (λ (z : TreeParts). z.tree.comment) e ∙ said;
    forest = added_forest;
    path = added_path;
    played = refl;
    here = added_here here eh;
    before = eh ∙ sym (position_kept start p p (leaf m) f there);
    begins = tt;
    nested = nested;
    there = new-there p m f there;
    frames = frames_kept start p (leaf m) f st frames;
    outer = outer;
    text = text;
    parts = parts;
    from = behind;
    spaced = spaced;
    lead = el;
    pends = pends;
  }

said_root : (t t1 : TreeParts) (text : List ℕ) → t.path ≡ [] → t1 ≡ said_here text t
    → (t1.tree.start ≡ t.tree.start) × (t1.tree.comment ≡ comments_joined t.tree.comment text) × (t1.tree.below ≡ t.tree.below) × (t1.path ≡ [])
said_root t t1 text ep e = (
  ap (λ (z : TreeParts). z.tree.start) e,
  ap (λ (z : TreeParts). z.tree.comment) e ∙ ap (λ (z : List ℕ). comment_at z t.tree.comment text) ep,
  ap (λ (z : TreeParts). z.tree.below) e ∙ ap (λ (z : List ℕ). forest_at z text t.tree.below) ep,
  ap (λ (z : TreeParts). z.path) e ∙ ep,
)

comment_cons : (up : List ℕ) (i : ℕ) (c text : List ℕ) → comment_at (up ++ i ∷ []) c text ≡ c
comment_cons [] i c text = refl
comment_cons (j ∷ up) i c text = refl

forest_cons : (up : List ℕ) (i : ℕ) (text : List ℕ) (f : Forest) → forest_at (up ++ i ∷ []) text f ≡ hang (up ++ i ∷ []) (say text) f
forest_cons [] i text f = refl
forest_cons (j ∷ up) i text f = refl

said_node : (t t1 : TreeParts) (text up : List ℕ) (i : ℕ) → t.path ≡ up ++ i ∷ [] → t1 ≡ said_here text t
    → (t1.tree.start ≡ t.tree.start) × (t1.tree.comment ≡ t.tree.comment) × (t1.tree.below ≡ hang (up ++ i ∷ []) (say text) t.tree.below) × (t1.path ≡ up ++ i ∷ [])
said_node t t1 text up i ep e = (
  ap (λ (z : TreeParts). z.tree.start) e,
  ap (λ (z : TreeParts). z.tree.comment) e ∙ ap (λ (z : List ℕ). comment_at z t.tree.comment text) ep ∙ comment_cons up i t.tree.comment text,
  ap (λ (z : TreeParts). z.tree.below) e ∙ ap (λ (z : List ℕ). forest_at z text t.tree.below) ep ∙ forest_cons up i text t.tree.below,
  ap (λ (z : TreeParts). z.path) e ∙ ep,
)

pub no_frames : (texts : List ℕ) (x : Frame) (xs : List Frame) (lines : List Interrupted) → lines ≡ [] → Pends texts (x ∷ xs) (reverse lines) → ⊥
no_frames texts x xs lines e h = rw e at h

-- a move of a line that has one, or of the game's own line
pub word_goes : (t t1 t2 : TreeParts) (lines : List Interrupted) (played : Bool) (comments comments' : List ℕ) (from : ℕ) (w : List ℕ) (m : MoveParts)
    → san_reading (last (line_to t)) w ≡ Ok m
    → t1 ≡ said_here (normalised (drop (min from (length comments)) comments)) t → comments' ≡ take (min from (length comments)) comments
    → t2 ≡ added m t1 → line_to t2 ≡ extended (line_to t1) m
    → (played ≡ true) ⊎ (lines ≡ [])
    → (start : PositionParts) (c : List ℕ) (f : Forest) (up : List ℕ) (l : Last) (here : PositionParts) (lead : List ℕ) (st : List Frame)
    → HoldsReading t lines played comments from (state start c f up l here lead st) → Next (Text w) t2 lines true comments' from (state start c f up l here lead st)
word_goes t t1 t2 lines played comments comments' from w m er e1 ec e2 el which start c f up (Some x) here lead st h =
    let p : List ℕ = up ++ x.0 ∷ [] in
    let cut = cut_parts h.outer h.text comments from h.parts h.from in
    let el1 : normalised (drop (min from (length comments)) comments) ≡ lead = ap normalised cut.0 ∙ sym h.lead in
    let said = said_node t t1 lead up x.0 h.path (e1 ∙ ap (λ (z : List ℕ). said_here z t) el1) in
    let g : Forest = hang p (say lead) f in
    let ef : t1.tree.below ≡ g = said.2 ∙ ap (hang p (say lead)) h.forest in
    let es : t1.tree.start ≡ start = said.0 ∙ h.start in
    let eh : here ≡ position_at start g p = h.here ∙ sym (position_kept start p p (say lead) f h.there) in
    let er' : move_in here w ≡ Some m = ap (λ (z : PositionParts). move_in z w) (h.here ∙ rw (h.start, h.forest, h.path) refl) ∙ moved (last (line_to t)) w m er in (
      state start c (hang p (leaf m) g) p (Some (count (below_at p g), here)) (after here m) [] st,
      move_held t1 t2 m start g p es ef said.3 e2 el lines comments' from c here [] st h.outer [] (said.1 ∙ h.comment) eh (keeps p p (say lead) f h.there) (nested-more up (x.0 ∷ []) st h.nested)
          (frames_kept start p (say lead) f st h.frames) (ec ∙ cut.1 ∙ sym (append-nil h.outer)) h.from tt (sym normalised_none) h.pends,
      record { start = refl; given = λ es. rw er' refl; few = λ es. refl },
    )
word_goes t t1 t2 lines played comments comments' from w m er e1 ec e2 el (inl k) start c f up None here lead (y ∷ ys) h = absurd (let z : true ≡ false = sym k ∙ h.played in cc)
word_goes t t1 t2 lines played comments comments' from w m er e1 ec e2 el (inr k) start c f up None here lead (y ∷ ys) h = absurd (no_frames h.outer y ys lines k h.pends)
word_goes t t1 t2 lines played comments comments' from w m er e1 ec e2 el which start c f up None here lead [] h =
    let cut = cut_parts h.outer h.text comments from h.parts h.from in
    let el1 : normalised (drop (min from (length comments)) comments) ≡ lead = ap normalised cut.0 ∙ sym h.lead in
    let root : up ≡ [] = h.begins in
    let said = said_root t t1 lead (h.path ∙ root) (e1 ∙ ap (λ (z : List ℕ). said_here z t) el1) in
    let ef : t1.tree.below ≡ f = said.2 ∙ h.forest in
    let es : t1.tree.start ≡ start = said.0 ∙ h.start in
    let ep : t1.path ≡ up = said.3 ∙ sym root in
    let er' : move_in here w ≡ Some m = ap (λ (z : PositionParts). move_in z w) (h.here ∙ rw (h.start, h.forest, h.path) refl) ∙ moved (last (line_to t)) w m er in (
      state start (comments_joined c lead) (hang up (leaf m) f) up (Some (count (below_at up f), here)) (after here m) [] [],
      move_held t1 t2 m start f up es ef ep e2 el lines comments' from (comments_joined c lead) here [] [] h.outer [] (said.1 ∙ ap (λ (z : List ℕ). comments_joined z lead) h.comment) h.here h.there tt tt
          (ec ∙ cut.1 ∙ sym (append-nil h.outer)) h.from tt (sym normalised_none) h.pends,
      record { start = refl; given = λ es. rw er' refl; few = λ es. refl },
    )

-- the first move of a variation
pub first_goes : (t t' : TreeParts) (lines : List Interrupted) (played : Bool) (comments : List ℕ) (from : ℕ) (w : List ℕ) (m : MoveParts)
    → san_reading (last (line_to t)) w ≡ Ok m → t' ≡ added m t → line_to t' ≡ extended (line_to t) m → played ≡ false → lines ≢ []
    → (start : PositionParts) (c : List ℕ) (f : Forest) (up : List ℕ) (l : Last) (here : PositionParts) (lead : List ℕ) (st : List Frame)
    → HoldsReading t lines played comments from (state start c f up l here lead st) → Next (Text w) t' lines true comments from (state start c f up l here lead st)
first_goes t t' lines played comments from w m er e el none some start c f up (Some x) here lead st h = absurd (let k : false ≡ true = sym none ∙ h.played in cc)
first_goes t t' lines played comments from w m er e el none some start c f up None here lead [] h = absurd (some (no_lines h.outer lines h.pends))
first_goes t t' lines played comments from w m er e el none some start c f up None here lead (y ∷ ys) h =
    let er' : move_in here w ≡ Some m = ap (λ (z : PositionParts). move_in z w) (h.here ∙ rw (h.start, h.forest, h.path) refl) ∙ moved (last (line_to t)) w m er in (
      state start c (hang up (leaf m) f) up (Some (count (below_at up f), here)) (after here m) lead (y ∷ ys),
      move_held t t' m start f up h.start h.forest h.path e el lines comments from c here lead (y ∷ ys) h.outer h.text h.comment h.here h.there h.nested h.frames h.parts h.from h.spaced h.lead h.pends,
      record { start = refl; given = λ es. rw er' refl; few = λ es. refl },
    )

-- a move, whose line has one, or is the game's own, or is a variation without one so far
pub text_goes : (t t1 t2 : TreeParts) (lines : List Interrupted) (played due : Bool) (comments comments' : List ℕ) (from : ℕ) (w : List ℕ) (m : MoveParts)
    → san_reading (last (line_to t)) w ≡ Ok m → due ≡ (played || is_nil lines)
    → t1 ≡ (if due then said_here (normalised (drop (min from (length comments)) comments)) t else t)
    → comments' ≡ (if due then take (min from (length comments)) comments else comments)
    → t2 ≡ added m t1 → line_to t2 ≡ extended (line_to t1) m
    → (s : Reading) → HoldsReading t lines played comments from s → Next (Text w) t2 lines true comments' from s
text_goes t t1 t2 lines true true comments comments' from w m er ed e1 ec e2 el s h =
    word_goes t t1 t2 lines true comments comments' from w m er e1 ec e2 el (inl refl) s.start s.comment s.forest s.up s.last_move s.here s.lead s.interrupted h
text_goes t t1 t2 lines true false comments comments' from w m er ed e1 ec e2 el s h = absurd cc
text_goes t t1 t2 [] false true comments comments' from w m er ed e1 ec e2 el s h =
    word_goes t t1 t2 [] false comments comments' from w m er e1 ec e2 el (inr refl) s.start s.comment s.forest s.up s.last_move s.here s.lead s.interrupted h
text_goes t t1 t2 [] false false comments comments' from w m er ed e1 ec e2 el s h = absurd cc
text_goes t t1 t2 (i ∷ is) false true comments comments' from w m er ed e1 ec e2 el s h = absurd cc
text_goes t t1 t2 (i ∷ is) false false comments comments' from w m er ed e1 ec e2 el s h =
    subst (λ (z : List ℕ). Next (Text w) t2 (i ∷ is) true z from s) (sym ec)
    (first_goes t t2 (i ∷ is) false comments from w m er (e2 ∙ ap (added m) e1) (el ∙ ap (λ (z : TreeParts). extended (line_to z) m) e1) refl (λ n. let z : i ∷ is ≡ [] = n in cc)
    s.start s.comment s.forest s.up s.last_move s.here s.lead s.interrupted h)

-- ---- variations

parent_last : (up : List ℕ) (i : ℕ) → parent (up ++ i ∷ []) ≡ up
parent_last [] i = refl
parent_last (j ∷ []) i = refl
parent_last (j ∷ k ∷ up) i = ap (λ (z : List ℕ). j ∷ z) (parent_last (k ∷ up) i)

place_last : (up : List ℕ) (i : ℕ) → unwrap_or (slice_get (up ++ i ∷ []) (length up)) 0 ≡ i
place_last [] i = refl
place_last (j ∷ up) i = place_last up i

not_nil : (up : List ℕ) (i : ℕ) → up ++ i ∷ [] ≡ [] → ⊥
not_nil [] i e = cc
not_nil (j ∷ up) i e = cc

pub stepped_back : {P : Type 0} (r : Result (Unit {0}) TreeFault) (path : List ℕ) → OnOk r P → MatchResult r (λ _. 0 < length path) (λ fault. (fault ≡ AtRoot) × (path ≡ [])) → path ≢ [] → P
stepped_back (Ok u) path ok at some = ok
stepped_back (Err fault) path ok at some = absurd (some at.1)

pub stepped_down : {P : Type 0} (r : Result (Unit {0}) TreeFault) (place n : ℕ) → OnOk r P → MatchResult r (λ _. place < n) (λ fault. (fault ≡ NoSuch) × (n ≤ place)) → place < n → P
stepped_down (Ok u) place n ok at few = ok
stepped_down (Err fault) place n ok at few = absurd (omega (arith, at.1, few))

-- as many frames as lines that are interrupted
pub frames_long : (texts : List ℕ) (xs : List Frame) (is : List Interrupted) → Pends texts xs is → length xs ≡ length is
frames_long texts [] [] h = refl
frames_long texts [] (i ∷ is) h = absurd h
frames_long texts (x ∷ xs) [] h = absurd h
frames_long texts (x ∷ xs) (i ∷ is) h = ap (λ (n : ℕ). suc n) (frames_long h.0 xs is h.8)

lt_true : (a b : ℕ) → a < b → nat_lt a b ≡ true
lt_true a b h = grind (arith, h)

-- another may be open
has_room : (texts : List ℕ) (xs : List Frame) (lines : List Interrupted) → Pends texts xs (reverse lines) → length lines < 128 → nat_lt (length xs) 128 ≡ true
has_room texts xs lines h few = (let e = frames_long texts xs (reverse lines) h in let r = length-reverse lines in lt_true (length xs) 128 (omega (arith, e, r, few)))

less_one : (n : ℕ) → suc n - 1 ≡ n
less_one n = omega arith

pub open_goes : (t t' : TreeParts) (lines lines' : List Interrupted) (played : Bool) (comments : List ℕ) (from from' depth place known : ℕ)
    → length lines < 128 → played ≡ true → depth ≡ length t.path - 1 → place ≡ unwrap_or (slice_get t.path depth) 0
    → lines' ≡ lines ++ record { depth = depth; place = place; known = known; from = from } ∷ [] → (t.path ≢ [] → t' ≡ at_path (parent t.path) t) → from' ≡ length comments
    → (start : PositionParts) (c : List ℕ) (f : Forest) (up : List ℕ) (l : Last) (here : PositionParts) (lead : List ℕ) (st : List Frame)
    → HoldsReading t lines played comments from (state start c f up l here lead st) → Next Open t' lines' false comments from' (state start c f up l here lead st)
open_goes t t' lines lines' played comments from from' depth place known few some ed epl el back ef start c f up None here lead st h = absurd (let k : true ≡ false = sym some ∙ h.played in cc)
open_goes t t' lines lines' played comments from from' depth place known few some ed epl el back ef start c f up (Some x) here lead st h =
    let i : Interrupted = record { depth = depth; place = place; known = known; from = from } in
    let y : Frame = record { up = up; place = x.0; before = x.1; here = here; lead = lead } in
    let et : t' ≡ at_path (parent t.path) t = back (λ z. not_nil up x.0 (sym h.path ∙ z)) in
    let deep : depth ≡ length up = ed ∙ ap (λ (z : List ℕ). length z - 1) h.path ∙ omega (arith, length-append up (x.0 ∷ [])) in
    let at : place ≡ x.0 = epl ∙ rw (deep, h.path) (place_last up x.0) in
    let room = has_room h.outer st lines h.pends few in (
      state start c f up None x.1 [] (y ∷ st),
      record {
        start = ap (λ (z : TreeParts). z.tree.start) et ∙ h.start;
        comment = ap (λ (z : TreeParts). z.tree.comment) et ∙ h.comment;
        forest = ap (λ (z : TreeParts). z.tree.below) et ∙ h.forest;
        path = ap (λ (z : TreeParts). z.path) et ∙ ap parent h.path ∙ parent_last up x.0;
        played = refl;
        here = h.before;
        before = tt;
        begins = tt;
        nested = (([], sym (append-nil up)), h.nested);
        there = at-prefix up x.0 f h.there;
        frames = (record { there = h.there; here = h.here; before = h.before }, h.frames);
        outer = comments;
        text = [];
        parts = sym (append-nil comments);
        from = ef;
        spaced = tt;
        lead = sym normalised_none;
        pends = subst (λ (z : List Interrupted). Pends comments (y ∷ st) z) (sym (ap reverse el ∙ reverse-append lines (i ∷ [])))
            (h.outer, h.text, h.parts, h.from, h.spaced, h.lead, deep, at, h.pends);
      },
      record { start = refl; given = λ es. refl; few = λ es. rw room refl },
    )

at_prefix : (u more : List ℕ) → take (length u) (u ++ more) ≡ u
at_prefix u more = take_at u more (length u) refl

-- as far back as the line that is interrupted
above : (x : Frame) (up : List ℕ) (l : Last) → ((more : List ℕ) × (up ≡ x.up ++ more)) → take (length x.up) (end_of up l) ≡ x.up
above x up None n = rw n.1 (at_prefix x.up n.0)
above x up (Some y) n = rw (n.1, append_assoc x.up n.0 (y.0 ∷ [])) (at_prefix x.up (n.0 ++ y.0 ∷ []))

last_there : (q : List ℕ) (i : ℕ) (f : Forest) → Leads (q ++ i ∷ []) f → i < count (below_at q f)
last_there [] i f at = at.0
last_there (j ∷ q) i f at = last_there q i (below_child j f) at.1

-- the cursor is at the last move of the line that was interrupted
closes : (t1 t2 : TreeParts) (line : Interrupted) (x : Frame) (f : Forest) {path : List ℕ} → t1.tree.below ≡ f → t1.path ≡ path → take (length x.up) path ≡ x.up
    → line.depth ≡ length x.up → line.place ≡ x.place → Leads (path_of x) f
    → (line.place < count (below_at (take line.depth t1.path) t1.tree.below) → t2 ≡ at_path (take line.depth t1.path ++ line.place ∷ []) t1)
    → t2 ≡ at_path (path_of x) t1
closes t1 t2 line x f {path} ef ep eu ed el there e2 =
    let u : take line.depth t1.path ≡ x.up = ap (λ (z : ℕ). take z t1.path) ed ∙ ap (take (length x.up)) ep ∙ eu in
    let more : line.place < count (below_at (take line.depth t1.path) t1.tree.below) = rw (u, ef, el) (last_there x.up x.place f there) in
    e2 more ∙ rw (u, el) refl

pub close_goes : (t t1 t2 : TreeParts) (lines rest : List Interrupted) (line : Interrupted) (played : Bool) (comments comments' : List ℕ) (from from' : ℕ)
    → lines ≡ rest ++ line ∷ []
    → t1 ≡ (if played then said_here (normalised (drop (min from (length comments)) comments)) t else t)
    → comments' ≡ (if played then take (min from (length comments)) comments else comments)
    → (line.place < count (below_at (take line.depth t1.path) t1.tree.below) → t2 ≡ at_path (take line.depth t1.path ++ line.place ∷ []) t1)
    → from' ≡ line.from
    → (start : PositionParts) (c : List ℕ) (f : Forest) (up : List ℕ) (l : Last) (here : PositionParts) (lead : List ℕ) (st : List Frame)
    → HoldsReading t lines played comments from (state start c f up l here lead st) → Next Close t2 rest true comments' from' (state start c f up l here lead st)
close_goes t t1 t2 lines rest line played comments comments' from from' el e1 ec e2 ef start c f up l here lead [] h =
    absurd (subst (λ (z : List Interrupted). Pends h.outer [] z) (ap reverse el ∙ reverse-append rest (line ∷ [])) h.pends)
close_goes t t1 t2 lines rest line played comments comments' from from' el e1 ec e2 ef start c f up None here lead (x ∷ xs) h =
    let e1' : t1 ≡ t = e1 ∙ ap (λ (z : Bool). if z then said_here (normalised (drop (min from (length comments)) comments)) t else t) h.played in
    let ec' : comments' ≡ comments = ec ∙ ap (λ (z : Bool). if z then take (min from (length comments)) comments else comments) h.played in
    let n : Pends h.outer (x ∷ xs) (line ∷ reverse rest) = subst (λ (z : List Interrupted). Pends h.outer (x ∷ xs) z) (ap reverse el ∙ reverse-append rest (line ∷ [])) h.pends in
    let g = closes t1 t2 line x f (ap (λ (z : TreeParts). z.tree.below) e1' ∙ h.forest) (ap (λ (z : TreeParts). z.path) e1' ∙ h.path) (above x up None h.nested.0) n.6 n.7 h.frames.0.there e2 in (
      state start c f x.up (last_of x) x.here (comments_joined x.lead lead) xs,
      record {
        start = ap (λ (z : TreeParts). z.tree.start) g ∙ ap (λ (z : TreeParts). z.tree.start) e1' ∙ h.start;
        comment = ap (λ (z : TreeParts). z.tree.comment) g ∙ ap (λ (z : TreeParts). z.tree.comment) e1' ∙ h.comment;
        forest = ap (λ (z : TreeParts). z.tree.below) g ∙ ap (λ (z : TreeParts). z.tree.below) e1' ∙ h.forest;
        path = ap (λ (z : TreeParts). z.path) g;
        played = refl;
        here = h.frames.0.here;
        before = h.frames.0.before;
        begins = tt;
        nested = h.nested.1;
        there = h.frames.0.there;
        frames = h.frames.1;
        outer = n.0;
        text = n.1 ++ h.text;
        parts = ec' ∙ h.parts ∙ ap (λ (z : List ℕ). z ++ h.text) n.2 ∙ append_assoc n.0 n.1 h.text;
        from = ef ∙ n.3;
        spaced = spaced_append n.1 h.text n.4 h.spaced;
        lead = ap (λ (z : List ℕ). comments_joined z lead) n.5 ∙ ap (comments_joined (normalised n.1)) h.lead ∙ sym (normalised_append n.1 h.text h.spaced);
        pends = n.8;
      },
      record { start = refl; given = λ es. refl; few = λ es. ap (λ (n : ℕ). few_are_open n es) (less_one (length xs)) },
    )
close_goes t t1 t2 lines rest line played comments comments' from from' el e1 ec e2 ef start c f up (Some y) here lead (x ∷ xs) h =
    let p : List ℕ = up ++ y.0 ∷ [] in
    let cut = cut_parts h.outer h.text comments from h.parts h.from in
    let el1 : normalised (drop (min from (length comments)) comments) ≡ lead = ap normalised cut.0 ∙ sym h.lead in
    let e1' : t1 ≡ said_here lead t = e1 ∙ ap (λ (z : Bool). if z then said_here (normalised (drop (min from (length comments)) comments)) t else t) h.played ∙ ap (λ (z : List ℕ). said_here z t) el1 in
    let ec' : comments' ≡ h.outer = ec ∙ ap (λ (z : Bool). if z then take (min from (length comments)) comments else comments) h.played ∙ cut.1 in
    let said = said_node t t1 lead up y.0 h.path e1' in
    let n : Pends h.outer (x ∷ xs) (line ∷ reverse rest) = subst (λ (z : List Interrupted). Pends h.outer (x ∷ xs) z) (ap reverse el ∙ reverse-append rest (line ∷ [])) h.pends in
    let frames = frames_kept start p (say lead) f (x ∷ xs) h.frames in
    let g = closes t1 t2 line x (hang p (say lead) f) (said.2 ∙ ap (hang p (say lead)) h.forest) said.3 (above x up (Some y) h.nested.0) n.6 n.7 frames.0.there e2 in (
      state start c (hang p (say lead) f) x.up (last_of x) x.here x.lead xs,
      record {
        start = ap (λ (z : TreeParts). z.tree.start) g ∙ said.0 ∙ h.start;
        comment = ap (λ (z : TreeParts). z.tree.comment) g ∙ said.1 ∙ h.comment;
        forest = ap (λ (z : TreeParts). z.tree.below) g ∙ said.2 ∙ ap (hang p (say lead)) h.forest;
        path = ap (λ (z : TreeParts). z.path) g;
        played = refl;
        here = frames.0.here;
        before = frames.0.before;
        begins = tt;
        nested = h.nested.1;
        there = frames.0.there;
        frames = frames.1;
        outer = n.0;
        text = n.1;
        parts = ec' ∙ n.2;
        from = ef ∙ n.3;
        spaced = n.4;
        lead = n.5;
        pends = n.8;
      },
      record { start = refl; given = λ es. refl; few = λ es. ap (λ (n : ℕ). few_are_open n es) (less_one (length xs)) },
    )

-- ---- the end

pub ends_read : (t t1 t2 : TreeParts) (lines : List Interrupted) (played : Bool) (comments : List ℕ) (from : ℕ)
    → t1 ≡ said_here (normalised (drop (min from (length comments)) comments)) t → t2 ≡ at_path [] t1 → lines ≡ []
    → (start : PositionParts) (c : List ℕ) (f : Forest) (up : List ℕ) (l : Last) (here : PositionParts) (lead : List ℕ) (st : List Frame)
    → HoldsReading t lines played comments from (state start c f up l here lead st)
    → (goes_on [] (state start c f up l here lead st) ≡ Some (t2.tree.comment, t2.tree.below)) × (t2.tree.start ≡ start) × (t2.path ≡ [])
ends_read t t1 t2 lines played comments from e1 e2 el start c f up l here lead (x ∷ xs) h = absurd (no_frames h.outer x xs lines el h.pends)
ends_read t t1 t2 lines played comments from e1 e2 el start c f up None here lead [] h =
    let cut = cut_parts h.outer h.text comments from h.parts h.from in
    let el1 : normalised (drop (min from (length comments)) comments) ≡ lead = ap normalised cut.0 ∙ sym h.lead in
    let said = said_root t t1 lead (h.path ∙ h.begins) (e1 ∙ ap (λ (z : List ℕ). said_here z t) el1) in
    (rw (e2, said.1, said.2, h.comment, h.forest) refl, ap (λ (z : TreeParts). z.tree.start) e2 ∙ said.0 ∙ h.start, ap (λ (z : TreeParts). z.path) e2)
ends_read t t1 t2 lines played comments from e1 e2 el start c f up (Some y) here lead [] h =
    let cut = cut_parts h.outer h.text comments from h.parts h.from in
    let el1 : normalised (drop (min from (length comments)) comments) ≡ lead = ap normalised cut.0 ∙ sym h.lead in
    let said = said_node t t1 lead up y.0 h.path (e1 ∙ ap (λ (z : List ℕ). said_here z t) el1) in
    (rw (e2, said.1, said.2, h.comment, h.forest) refl, ap (λ (z : TreeParts). z.tree.start) e2 ∙ said.0 ∙ h.start, ap (λ (z : TreeParts). z.path) e2)

-- ---- before any movetext

pub remark_leads : (t : TreeParts) (lines : List Interrupted) (played : Bool) (comments comments' text : List ℕ) (from : ℕ) (start : PositionParts) (before : List ℕ)
    → comments' ≡ comments ++ 32 ∷ text → HoldsReading t lines played comments from (fresh start before) → HoldsReading t lines played comments' from (fresh start (comments_joined before (normalised text)))
remark_leads t lines played comments comments' text from start before e h = remark_held t lines played comments comments' text from (fresh start before) e h

starts_there : (start : PositionParts) → start ≡ position_at start Bare []
unfolding last
starts_there start = refl

-- a tree without moves, and the comments before them
fresh_held : (t : TreeParts) (lines : List Interrupted) (played : Bool) (comments outer text : List ℕ) (from : ℕ) (start : PositionParts) (before : List ℕ)
    → t ≡ record { tree = record { start = start; comment = []; below = Bare }; path = [] } → played ≡ false → comments ≡ outer ++ text → from ≡ length outer → IsSpaced text → before ≡ normalised text
    → Pends outer [] (reverse lines) → HoldsReading t lines played comments from (fresh start before)
fresh_held t lines played comments outer text from start before e none parts behind spaced lead pends = record {
  start = ap (λ (z : TreeParts). z.tree.start) e;
  comment = ap (λ (z : TreeParts). z.tree.comment) e;
  forest = ap (λ (z : TreeParts). z.tree.below) e;
  path = ap (λ (z : TreeParts). z.path) e;
  played = none;
  here = starts_there start;
  before = tt;
  begins = refl;
  nested = tt;
  there = tt;
  frames = tt;
  outer = outer;
  text = text;
  parts = parts;
  from = behind;
  spaced = spaced;
  lead = lead;
  pends = pends;
}

pub begins_in : (t t' : TreeParts) (lines : List Interrupted) (played : Bool) (comments : List ℕ) (from : ℕ) (first start : PositionParts) (before : List ℕ)
    → t' ≡ record { tree = record { start = start; comment = []; below = Bare }; path = [] } → HoldsReading t lines played comments from (fresh first before) → HoldsReading t' lines played comments from (fresh start before)
begins_in t t' lines played comments from first start before e h =
    fresh_held t' lines played comments h.outer h.text from start before e h.played h.parts h.from h.spaced h.lead h.pends

pub starts : (t : TreeParts) (lines : List Interrupted) (comments : List ℕ) (start : PositionParts)
    → t ≡ record { tree = record { start = start; comment = []; below = Bare }; path = [] } → lines ≡ [] → comments ≡ [] → HoldsReading t lines false comments 0 (fresh start [])
starts t lines comments start e el ec =
    fresh_held t lines false comments [] [] 0 start [] e refl ec refl tt (sym normalised_none) (subst (λ (z : List Interrupted). Pends [] [] z) (sym (ap reverse el)) tt)
