-- What is true of the moves and the comments that the elements of a line derive.
use Rattle.std.proofs.Common.{◌≡◌, ℕ, suc, ◌<◌, ◌≤◌, ◌+◌, ◌-◌, max, ◌==◌, Bool, true, false, ◌||◌, List, [], ◌∷◌, ◌++◌, filter, refl, sym, ap, subst, ◌∙◌, append_assoc, append-nil, arith}
use Rattle.std.specs.Prelude.{Option, Some, None, Result, Ok, Err, nat_lt}
use Rattle.std.specs.List.{AllByRecursion, Contains}
use Rattle.std.specs.Result.{IfOk}
use Rattle.std.proofs.lemmas.List.Elements.{All-filter, All-contains}
use Rattle.std.proofs.lemmas.Bool.{and_parts, ltb-true}
use Rattle.chess_types.specs.board.After.{after}
use Rattle.chess_types.specs.board.Legal.{is_legal, legal_moves}
use Rattle.chess_types.specs.board.MoveParts.{MoveParts}
use Rattle.chess_types.specs.board.Position.{PositionParts}
use Rattle.chess_types.proofs.AllMoves.{IsMove}
use Rattle.chess_items.specs.Items as items
use Rattle.chess_items.specs.Items.{Item}
use Rattle.chess_moves.proofs.LegalLaws.{moves_on_board}
use Rattle.chess_tree.specs.Comments.{IsComment, has_brace, normalised}
use Rattle.chess_tree.specs.Forest.{Forest, Bare, Node, append}
use Rattle.chess_tree.specs.WellFormed.{AreSound}
use Rattle.chess_tree.proofs.CommentLemmas.{is_comment}
use Rattle.chess_san.specs.declared.fault.SanFault.{SanFault}
use Rattle.chess_san.specs.declared.form.Form.{Form}
use Rattle.chess_san.specs.Forms.{form_in}
use Rattle.chess_san.specs.Naming.{names, san_reading, reading_by, the_one}
use Rattle.chess_san.proofs.GoesLemmas.{read_legal}
use Rattle.chess_pgn.specs.Grammar.{Derives, Element, Annotation, Remark, Close, LineSyntax, End, Skip, Annotate, Say, Play, Vary, Addition, with_annotation, element, elements, elements_of, few_are_open, with_opening_comment, comments_joined, meaning, ok_move, nothing, with_move_first, said, varied, ◌>>=◌}
use Rattle.chess_pgn.specs.Laws.{AreNoted, nesting}
use Rattle.chess_pgn.specs.Reading.{lead_after, remarks}
use Rattle.chess_pgn.proofs.RemarkLemmas.{normalised_separated}
use Rattle.chess_pgn.proofs.SoundItemLemmas.{AreSoundItems, IsSound}

-- ---- comments

pub no_comment : IsComment []
unfolding normalised
no_comment = record { normal = refl; no_brace = refl }

brace_append : (a b : List ℕ) → has_brace a ≡ false → has_brace b ≡ false → has_brace (a ++ b) ≡ false
brace_append [] b e h = h
brace_append (x ∷ a) b e h = step (x == 125) (has_brace a) (has_brace (a ++ b)) e (λ k. brace_append a b k h)
  where
    step : (v w u : Bool) → (v || w) ≡ false → (w ≡ false → u ≡ false) → (v || u) ≡ false
    step true w u e f = e
    step false w u e f = f e

joined_comment : (a b : List ℕ) → IsComment a → IsComment b → IsComment (comments_joined a b)
joined_comment [] b p q = q
joined_comment (x ∷ a) [] p q = p
joined_comment (x ∷ a) (y ∷ b) p q = record {
  normal = normalised_separated (x ∷ a) (y ∷ b) ∙ ap (λ (z : List ℕ). comments_joined z (normalised (y ∷ b))) p.normal ∙ ap (comments_joined (x ∷ a)) q.normal;
  no_brace = brace_append (x ∷ a) (32 ∷ y ∷ b) p.no_brace q.no_brace;
}

-- the comments before the movetext
pub remarks_comment : (lead : List ℕ) (is : List Item) → IsComment lead → AreSoundItems is → IsComment (remarks lead is)
remarks_comment lead [] p sound = p
remarks_comment lead (item ∷ is) p sound = remarks_comment (lead_after lead item) is (after_item item sound.0) sound.1
  where
    after_item : (item : Item) → IsSound item → IsComment (lead_after lead item)
    after_item (items.Comment text) h = joined_comment lead (normalised text) p (is_comment text h)
    after_item _ h = p

-- ---- elements

abbrev IsSoundElement : Element → Type 0
IsSoundElement (Annotation n) = n < 256
IsSoundElement (Remark text) = IsComment text
IsSoundElement _ = Unit {0}

abbrev AreSoundElements : List Element → Type 0
AreSoundElements = AllByRecursion IsSoundElement

sound_elements : (is : List Item) → AreSoundItems is → AreSoundElements (elements is)
sound_elements [] sound = tt
sound_elements (item ∷ is) sound = one item sound.0 (sound_elements is sound.1)
  where
    one : (item : Item) → IsSound item → AreSoundElements (elements is) → AreSoundElements (element item ++ elements is)
    one (items.Comment text) h more = (is_comment text h, more)
    one (items.Nag n) h more = (h, more)
    one items.Skipped h more = (tt, more)
    one items.Open h more = (tt, more)
    one items.Close h more = (tt, more)
    one (items.Word w) h more = (tt, more)
    one _ h more = more

element_parts : (a b : List Element) → AreSoundElements (a ++ b) → AreSoundElements a × AreSoundElements b
element_parts [] b h = (tt, h)
element_parts (x ∷ a) b h = let r = element_parts a b h.1 in ((h.0, r.0), r.1)

-- ---- moves

one_in : (xs : List MoveParts) (m : MoveParts) → the_one xs ≡ Ok m → Contains xs m
one_in [] m h = absurd cc
one_in (x ∷ []) m h = let e : x ≡ m = cc in (0, omega arith, e)
one_in (x ∷ y ∷ rest) m h = absurd cc

one_on : (p : PositionParts) (f : Option Form) (m : MoveParts) → reading_by p f ≡ Ok m → IsMove m
one_on p None m h = absurd cc
one_on p (Some form) m h =
    All-contains IsMove (filter (names p form) (legal_moves p)) m (All-filter (names p form) IsMove (legal_moves p) (moves_on_board p)) (one_in (filter (names p form) (legal_moves p)) m h)

-- a text that names a move names one between two squares
read_on : (p : PositionParts) (text : List ℕ) (m : MoveParts) → san_reading p text ≡ Ok m → IsMove m
unfolding san_reading
read_on p text m h = one_on p (form_in text) m h

if_ok : {E : Type 0} (P : MoveParts → Type 0) (r : Result MoveParts E) (m : MoveParts) → r ≡ Ok m → IfOk r P → P m
if_ok P r m e h = subst (λ (x : Result MoveParts _). IfOk x P) e h

-- what a stretch of a line adds: beside the move before it, and below it
abbrev BesideSound : Option PositionParts → Forest → Type 0
BesideSound None f = f ≡ Bare
BesideSound (Some p) f = AreSound p f × AreNoted f

record IsSoundPart (before : Option PositionParts) (here : PositionParts) (r : Addition) : Type 0 where
  nags : AllByRecursion (λ n. n < 256) r.nags
  comment : IsComment r.comment
  beside : BesideSound before r.beside
  below : AreSound here r.below
  noted : AreNoted r.below

none_beside : (before : Option PositionParts) → BesideSound before Bare
none_beside None = refl
none_beside (Some p) = (tt, tt)

part_of : (o : Option Addition) (f : Addition → Addition) (r : Addition) → (o >>= λ (x : Addition). Some (f x)) ≡ Some r → (x : Addition) × (o ≡ Some x) × (f x ≡ r)
part_of None f r e = absurd cc
part_of (Some x) f r e = (x, refl, some_is (f x) r e)
  where
    some_is : (x y : Addition) → Some x ≡ Some y → x ≡ y
    some_is x y h = cc

two_of : (o : Option Addition) (next : Addition → Option Addition) (r : Addition) → (o >>= next) ≡ Some r → (x : Addition) × (o ≡ Some x) × (next x ≡ Some r)
two_of None next r e = absurd cc
two_of (Some x) next r e = (x, refl, e)

move_of : (o : Result MoveParts SanFault) (next : MoveParts → Option Addition) (r : Addition) → (ok_move o >>= next) ≡ Some r → (m : MoveParts) × (o ≡ Ok m) × (next m ≡ Some r)
move_of (Ok m) next r e = (m, refl, e)
move_of (Err fault) next r e = absurd cc

sound_append : (p : PositionParts) (f g : Forest) → AreSound p f → AreSound p g → AreSound p (append f g)
sound_append p Bare g h k = k
sound_append p (Node m nags comment b next) g h k = (h.0, h.1, h.2, sound_append p next g h.3 k)

noted_append : (f g : Forest) → AreNoted f → AreNoted g → AreNoted (append f g)
noted_append Bare g h k = k
noted_append (Node m nags comment b next) g h k = (h.0, h.1, h.2, h.3, noted_append next g h.4 k)

varied_sound : (p here : PositionParts) (f : Forest) (text : List ℕ) (x : Addition) → AreSound p f → AreNoted f → IsComment text → IsSoundPart (Some p) here x → IsSoundPart (Some p) here (varied f text x)
varied_sound p here Bare text x sound noted is s = record { nags = s.nags; comment = joined_comment text x.comment is s.comment; beside = s.beside; below = s.below; noted = s.noted }
varied_sound p here (Node m nags comment b next) text x sound noted is s = record {
  nags = s.nags;
  comment = s.comment;
  beside = (
    sound_append p (Node m nags (comments_joined text comment) b next) x.beside (sound.0, joined_comment text comment is sound.1, sound.2, sound.3) s.beside.0,
    noted_append (Node m nags (comments_joined text comment) b next) x.beside noted s.beside.1,
  );
  below = s.below;
  noted = s.noted;
}

line_sound : (l : LineSyntax) (before : Option PositionParts) (here : PositionParts) (r : Addition) → AreSoundElements (elements_of l) → meaning l before here ≡ Some r → IsSoundPart before here r
line_sound End before here r sound e = subst (IsSoundPart before here) (some_is nothing r e) (record { nags = tt; comment = no_comment; beside = none_beside before; below = tt; noted = tt })
  where
    some_is : (x y : Addition) → Some x ≡ Some y → x ≡ y
    some_is x y h = cc
line_sound (Skip l) before here r sound e = line_sound l before here r sound.1 e
line_sound (Annotate n l) before here r sound e =
    let x = part_of (meaning l before here) (with_annotation n) r e in
    let s = line_sound l before here x.0 sound.1 x.1 in
    subst (IsSoundPart before here) x.2 (record { nags = (sound.0, s.nags); comment = s.comment; beside = s.beside; below = s.below; noted = s.noted })
line_sound (Say text l) before here r sound e =
    let x = part_of (meaning l before here) (said text) r e in
    let s = line_sound l before here x.0 sound.1 x.1 in
    subst (IsSoundPart before here) x.2 (record { nags = s.nags; comment = joined_comment text x.0.comment sound.0 s.comment; beside = s.beside; below = s.below; noted = s.noted })
line_sound (Play word l) before here r sound e =
    let a = move_of (san_reading here word) (λ m. meaning l (Some here) (after here m) >>= λ (x : Addition). Some (with_move_first m x)) r e in
    let m : MoveParts = a.0 in
    let x = part_of (meaning l (Some here) (after here m)) (with_move_first m) r a.2 in
    let s = line_sound l (Some here) (after here m) x.0 sound.1 x.1 in
    let on = read_on here word m a.1 in
    let legal : is_legal here m ≡ true = if_ok (λ n. is_legal here n ≡ true) (san_reading here word) m a.1 (read_legal here word (san_reading here word) refl) in
    subst (IsSoundPart before here) x.2 (record {
      nags = tt;
      comment = no_comment;
      beside = none_beside before;
      below = (legal, s.comment, s.below, s.beside.0);
      noted = (on.from, on.to, s.nags, s.noted, s.beside.1);
    })
line_sound (Vary v l) None here r sound e = absurd cc
line_sound (Vary v l) (Some p) here r sound e =
    let a = two_of (meaning v None p) (λ w. meaning l (Some p) here >>= λ (x : Addition). Some (varied w.below w.comment x)) r e in
    let x = part_of (meaning l (Some p) here) (varied a.0.below a.0.comment) r a.2 in
    let parts = element_parts (elements_of v) (Close ∷ elements_of l) sound.1 in
    let w = line_sound v None p a.0 parts.0 a.1 in
    let s = line_sound l (Some p) here x.0 parts.1.1 x.1 in
    subst (IsSoundPart (Some p) here) x.2 (varied_sound p here a.0.below a.0.comment x.0 w.below w.noted w.comment s)

-- ---- how many variations they open

abbrev Within : ℕ → Addition → Type 0
Within n r = (n + nesting false r.below ≤ 128) × (n + nesting true r.beside ≤ 128)

nesting_append : (f g : Forest) → nesting true (append f g) ≡ max (nesting true f) (nesting true g)
nesting_append Bare g = omega arith
nesting_append (Node m nags comment b next) g = omega (arith, nesting_append next g)

as_variations : (f : Forest) → nesting true f ≤ 1 + nesting false f
as_variations Bare = omega arith
as_variations (Node m nags comment b next) = omega arith

front_nesting : (text : List ℕ) (f : Forest) → nesting true (with_opening_comment text f) ≡ nesting true f
front_nesting text Bare = refl
front_nesting text (Node m nags comment b next) = refl

varied_within : (n : ℕ) (f : Forest) (text : List ℕ) (x : Addition) → suc n + nesting false f ≤ 128 → Within n x → Within n (varied f text x)
varied_within n Bare text x few w = w
varied_within n (Node m nags comment b next) text x few w =
    (w.0, omega (arith, w.1, few, nesting_append (Node m nags (comments_joined text comment) b next) x.beside, as_variations (Node m nags comment b next), front_nesting text (Node m nags comment b next)))

line_within : (l : LineSyntax) (before : Option PositionParts) (here : PositionParts) (r : Addition) (n : ℕ) (us : List Element) → n ≤ 128 → few_are_open n (elements_of l ++ us) ≡ true → meaning l before here ≡ Some r → Within n r × (few_are_open n us ≡ true)
line_within End before here r n us low few e = (subst (Within n) (some_is nothing r e) (omega (arith, low), omega (arith, low)), few)
  where
    some_is : (x y : Addition) → Some x ≡ Some y → x ≡ y
    some_is x y h = cc
line_within (Skip l) before here r n us low few e = line_within l before here r n us low few e
line_within (Annotate k l) before here r n us low few e =
    let x = part_of (meaning l before here) (with_annotation k) r e in
    let w = line_within l before here x.0 n us low few x.1 in
    (subst (Within n) x.2 w.0, w.1)
line_within (Say text l) before here r n us low few e =
    let x = part_of (meaning l before here) (said text) r e in
    let w = line_within l before here x.0 n us low few x.1 in
    (subst (Within n) x.2 w.0, w.1)
line_within (Play word l) before here r n us low few e =
    let a = move_of (san_reading here word) (λ m. meaning l (Some here) (after here m) >>= λ (x : Addition). Some (with_move_first m x)) r e in
    let x = part_of (meaning l (Some here) (after here a.0)) (with_move_first a.0) r a.2 in
    let w = line_within l (Some here) (after here a.0) x.0 n us low few x.1 in
    (subst (Within n) x.2 (omega (arith, w.0.0, w.0.1), omega (arith, low)), w.1)
line_within (Vary v l) None here r n us low few e = absurd cc
line_within (Vary v l) (Some p) here r n us low few e =
    let a = two_of (meaning v None p) (λ w. meaning l (Some p) here >>= λ (x : Addition). Some (varied w.below w.comment x)) r e in
    let x = part_of (meaning l (Some p) here) (varied a.0.below a.0.comment) r a.2 in
    let both = and_parts (nat_lt n 128) (few_are_open (suc n) ((elements_of v ++ Close ∷ elements_of l) ++ us)) few in
    let under = line_within v None p a.0 (suc n) (Close ∷ (elements_of l ++ us)) (omega (arith, ltb-true n 128 both.0)) (sym (ap (few_are_open (suc n)) (append_assoc (elements_of v) (Close ∷ elements_of l) us)) ∙ both.1) a.1 in
    let back : suc n - 1 ≡ n = omega arith in
    let w = line_within l (Some p) here x.0 n us low (sym (ap (λ (k : ℕ). few_are_open k (elements_of l ++ us)) back) ∙ under.1) x.1 in
    (subst (Within n) x.2 (varied_within n a.0.below a.0.comment x.0 under.0.0 w.0), w.1)

-- ---- a game's moves

pub record AreMoves (start : PositionParts) (comment : List ℕ) (moves : Forest) : Type 0 where
  pub is_comment : IsComment comment
  pub sound : AreSound start moves
  pub noted : AreNoted moves
  pub few : nesting false moves ≤ 128

pub derived_moves : (is : List Item) (start : PositionParts) (before comment : List ℕ) (moves : Forest) → AreSoundItems is → IsComment before → few_are_open 0 (elements is) ≡ true → Derives (elements is) start before comment moves
    → AreMoves start comment moves
derived_moves is start before comment moves sound said few d =
    let all = subst AreSoundElements d.spelled (sound_elements is sound) in
    let s = line_sound d.line None start d.part all d.means in
    let w = line_within d.line None start d.part 0 [] (omega arith) (ap (few_are_open 0) (append-nil (elements_of d.line) ∙ sym d.spelled) ∙ few) d.means in
    record {
      is_comment = subst IsComment (sym d.remarks) (joined_comment before d.part.comment said s.comment);
      sound = subst (AreSound start) (sym d.tree) s.below;
      noted = subst AreNoted (sym d.tree) s.noted;
      few = subst (λ (f : Forest). nesting false f ≤ 128) (sym d.tree) (omega (arith, w.0.0));
    }
