-- An item that is not open is decided.
use Rattle.std.proofs.Common.{◌≡◌, ◌≤◌, ◌⊎◌, inl, inr, ℕ, ◌+◌, ◌-◌, ◌*◌, Bool, true, false, cond, eqb, ltb, ◌&&◌, List, [], ◌∷◌, ◌++◌, length, take, drop, Option, Some, None, refl, sym, ap, subst, ◌∙◌, arith, append_assoc, append-nil}
use Rattle.std.specs.List.{prefix_len, list_all}
use Rattle.std.proofs.lemmas.Bool.{ltb-false}
use Rattle.std.proofs.lemmas.Bool.Decides.{nat_tests}
use Rattle.std.proofs.lemmas.List.{take-append-drop}
use Rattle.chess_items.specs.Items.{Blank, Each, digits_value, glyph_value, in_braces, in_line, is_blank, is_digit, is_escapable, is_glyph, is_name_byte, is_plain, is_word_byte}
use Rattle.chess_items.specs.steps.ItemAt.{Found, run_at, word_found, nag_found, small, digits_found, glyph_found, hidden_found, line_found, braces_found, name_found, stretch_found, hidden_at, sign_at, outside_at, tag_at, escaped_at, value_at, mark_at, item_at}
use Rattle.chess_items.specs.steps.Deciding.{longer, Decides, sign_open, outside_open, tag_open, escape_open, value_open, mark_open, is_open}
use Rattle.chess_items.specs.declared.place.Place.{Place}
use Rattle.chess_items.specs.declared.place.Place.TheVariants.{GameStart, LineStart, InLine, TagLineStart, InTag, InValue}
use Rattle.chess_items.proofs.RunLemmas.{run_found, prefix_each, prefix_stops}
use Rattle.chess_items.proofs.ItemLemmas.{plain_byte}

-- a run that stops: its text, and the byte at which it stops
abbrev Parted : (ℕ → Bool) → List ℕ → Type 0
Parted p bytes = (text : List ℕ) × (c : ℕ) × (next : List ℕ) × (bytes ≡ text ++ c ∷ next) × Each p text × (p c ≡ false)

part_step : (p : ℕ → Bool) (b : ℕ) (bytes : List ℕ) (v : Bool) → p b ≡ v → v && list_all p bytes ≡ false → (list_all p bytes ≡ false → Parted p bytes) → Parted p (b ∷ bytes)
part_step p b bytes false e h k = ([], b, bytes, refl, tt, e)
part_step p b bytes true e h k = let r = k h in (b ∷ r.0, r.1, r.2, ap (λ (x : List ℕ). b ∷ x) r.3, (e, r.4), r.5)

parted : (p : ℕ → Bool) (bytes : List ℕ) → list_all p bytes ≡ false → Parted p bytes
parted p [] h = absurd cc
parted p (b ∷ bytes) h = part_step p b bytes (p b) refl h (parted p bytes)

-- what f makes of a run and what follows does not depend on what comes later
abbrev Natural : (List ℕ → List ℕ → Found) → Type 0
Natural f = (text : List ℕ) (c : ℕ) (next more : List ℕ) → f text ((c ∷ next) ++ more) ≡ longer (f text (c ∷ next)) more

closed_at : (p : ℕ → Bool) (f : List ℕ → List ℕ → Found) (text : List ℕ) (c : ℕ) (next more : List ℕ) → Natural f → Each p text → p c ≡ false → run_at p f ((text ++ c ∷ next) ++ more) ≡ longer (run_at p f (text ++ c ∷ next)) more
closed_at p f text c next more natural each stop =
    rw (append_assoc text (c ∷ next) more) (run_found p f text (c ∷ (next ++ more)) each stop ∙ natural text c next more ∙ ap (λ (x : Found). longer x more) (sym (run_found p f text (c ∷ next) each stop)))

run_closed : (p : ℕ → Bool) (f : List ℕ → List ℕ → Found) (bytes more : List ℕ) → Natural f → list_all p bytes ≡ false → run_at p f (bytes ++ more) ≡ longer (run_at p f bytes) more
run_closed p f bytes more natural h =
    let r = parted p bytes h in
    subst (λ (x : List ℕ). run_at p f (x ++ more) ≡ longer (run_at p f x) more) (sym r.3) (closed_at p f r.0 r.1 r.2 more natural r.4 r.5)

word_natural : Natural word_found
word_natural text c next more = refl

nag_natural : (o : Option ℕ) (next more : List ℕ) → nag_found o (next ++ more) ≡ longer (nag_found o next) more
nag_natural None next more = refl
nag_natural (Some n) next more = refl

glyph_natural : Natural glyph_found
glyph_natural text c next more = nag_natural (glyph_value text) (c ∷ next) more

digits_natural : Natural digits_found
digits_natural [] c next more = refl
digits_natural (d ∷ ds) c next more = nag_natural (small (digits_value 0 (d ∷ ds))) (c ∷ next) more

hidden_natural : Natural hidden_found
hidden_natural text c next more = refl

line_natural : Natural line_found
line_natural text c next more = refl

braces_natural : Natural braces_found
braces_natural text c next more = refl

name_natural : Natural name_found
name_natural text c next more = refl

stretch_natural : Natural stretch_found
stretch_natural text c next more = refl

-- each byte of an open run
each_step : (p : ℕ → Bool) (b : ℕ) (bytes : List ℕ) (v : Bool) → p b ≡ v → v && list_all p bytes ≡ true → (list_all p bytes ≡ true → Each p bytes) → Each p (b ∷ bytes)
each_step p b bytes true e h k = (e, k h)
each_step p b bytes false e h k = absurd cc

pub all_each : (p : ℕ → Bool) (bytes : List ℕ) → list_all p bytes ≡ true → Each p bytes
all_each p [] h = tt
all_each p (b ∷ bytes) h = each_step p b bytes (p b) refl h (all_each p bytes)

-- two chains of tests that go together
agree : (v o1 o2 : Bool) (x1 x2 y1 y2 : Found) (more : List ℕ) → cond v o1 o2 ≡ false → (v ≡ true → o1 ≡ false → x1 ≡ longer y1 more) → (v ≡ false → o2 ≡ false → x2 ≡ longer y2 more)
    → cond v x1 x2 ≡ longer (cond v y1 y2) more
agree true o1 o2 x1 x2 y1 y2 more e f g = f refl e
agree false o1 o2 x1 x2 y1 y2 more e f g = g refl e

and_false : (a b : Bool) → a && b ≡ false → (a ≡ false) ⊎ ((a ≡ true) × (b ≡ false))
and_false true b e = inr (refl, e)
and_false false b e = inl refl

and-false : (a : Bool) → a && false ≡ false
and-false true = refl
and-false false = refl

-- a run of three or more glyphs is no annotation
three_glyphs : (a b c : ℕ) (w : List ℕ) → glyph_value (a ∷ b ∷ c ∷ w) ≡ None
unfolding glyph_value
three_glyphs a b c w = simp and-false

-- digits only add to a number
grows : (n : ℕ) (ds : List ℕ) → n ≤ digits_value n ds
grows n [] = omega arith
grows n (d ∷ ds) = omega (arith, grows (10 * n + (d - 48)) ds)

pub digits-append : (n : ℕ) (ds es : List ℕ) → digits_value n (ds ++ es) ≡ digits_value (digits_value n ds) es
digits-append n [] es = refl
digits-append n (d ∷ ds) es = digits-append (10 * n + (d - 48)) ds es

-- a run before anything
pub each-append : (p : ℕ → Bool) (xs ys : List ℕ) → Each p xs → Each p ys → Each p (xs ++ ys)
each-append p [] ys h k = k
each-append p (x ∷ xs) ys h k = (h.0, each-append p xs ys h.1 k)

run_on : (p : ℕ → Bool) (f : List ℕ → List ℕ → Found) (bytes more : List ℕ) → Each p bytes → (text next : List ℕ) × (run_at p f (bytes ++ more) ≡ f (bytes ++ text) next)
run_on p f bytes more each =
    let n = prefix_len p more in
    let text = take n more in
    let next = drop n more in
    let whole : Each p (bytes ++ text) = each-append p bytes text each (prefix_each p more) in (
      text,
      next,
      subst (λ (x : List ℕ). run_at p f (bytes ++ x) ≡ f (bytes ++ text) next) (take-append-drop n more)
          (subst (λ (x : List ℕ). run_at p f x ≡ f (bytes ++ text) next) (append_assoc bytes text next) (run_found p f (bytes ++ text) next whole (prefix_stops p more))),
    )

three_found : (a b c : ℕ) (w next : List ℕ) → glyph_found (a ∷ b ∷ c ∷ w) next ≡ None
three_found a b c w next = rw (three_glyphs a b c w) refl

glyphs_fault : (b : ℕ) (bytes more : List ℕ) → is_glyph b ≡ true → list_all is_glyph bytes ≡ true → ltb (length bytes) 2 ≡ false → run_at is_glyph glyph_found (b ∷ bytes ++ more) ≡ None
glyphs_fault b [] more e h k = absurd cc
glyphs_fault b (c ∷ []) more e h k = absurd cc
glyphs_fault b (c ∷ d ∷ bytes) more e h k =
    let r = run_on is_glyph glyph_found (b ∷ c ∷ d ∷ bytes) more (e, all_each is_glyph (c ∷ d ∷ bytes) h) in
    r.2 ∙ three_found b c d (bytes ++ r.0) r.1

small_none : (n : ℕ) → 256 ≤ n → small n ≡ None
small_none n h = grind (arith, nat_tests)

digits_none : (ds next : List ℕ) → 256 ≤ digits_value 0 ds → digits_found ds next ≡ None
digits_none [] next h = refl
digits_none (d ∷ ds) next h = rw (small_none _ h) refl

digits_fault : (bytes more : List ℕ) → list_all is_digit bytes ≡ true → ltb (digits_value 0 bytes) 256 ≡ false → run_at is_digit digits_found (bytes ++ more) ≡ None
digits_fault bytes more h k =
    let r = run_on is_digit digits_found bytes more (all_each is_digit bytes h) in
    let big : 256 ≤ digits_value 0 bytes = ltb-false _ _ k in
    r.2 ∙ digits_none (bytes ++ r.0) r.1 (rw (digits-append 0 bytes r.0) (omega (arith, grows (digits_value 0 bytes) r.0)))

-- a fault for what is at hand, and for all that is longer
fault_closed : (p : ℕ → Bool) (f : List ℕ → List ℕ → Found) (bytes more : List ℕ) → ((more : List ℕ) → run_at p f (bytes ++ more) ≡ None) → run_at p f (bytes ++ more) ≡ longer (run_at p f bytes) more
fault_closed p f bytes more none =
    let here : run_at p f bytes ≡ None = subst (λ (x : List ℕ). run_at p f x ≡ None) (append-nil bytes) (none []) in
    rw (none more, here) refl

glyph_closed : (b : ℕ) (bytes more : List ℕ) → is_glyph b ≡ true → list_all is_glyph bytes && ltb (length bytes) 2 ≡ false → run_at is_glyph glyph_found (b ∷ bytes ++ more) ≡ longer (run_at is_glyph glyph_found (b ∷ bytes)) more
glyph_closed b bytes more e h = elim (and_false _ _ h) [
  | inl k ↦ run_closed is_glyph glyph_found (b ∷ bytes) more glyph_natural (rw e k)
  | inr k ↦ fault_closed is_glyph glyph_found (b ∷ bytes) more (λ more. glyphs_fault b bytes more e k.0 k.1)
]

digits_closed : (bytes more : List ℕ) → list_all is_digit bytes && ltb (digits_value 0 bytes) 256 ≡ false → run_at is_digit digits_found (bytes ++ more) ≡ longer (run_at is_digit digits_found bytes) more
digits_closed bytes more h = elim (and_false _ _ h) [
  | inl k ↦ run_closed is_digit digits_found bytes more digits_natural k
  | inr k ↦ fault_closed is_digit digits_found bytes more (λ more. digits_fault bytes more k.0 k.1)
]

hidden_closed : (start : Bool) (bytes more : List ℕ) → start && list_all in_line bytes ≡ false → hidden_at start (bytes ++ more) ≡ longer (hidden_at start bytes) more
hidden_closed true bytes more h = run_closed in_line hidden_found bytes more hidden_natural h
hidden_closed false bytes more h = refl

one_more : (v : Bool) (x1 x2 y1 y2 : Found) (more : List ℕ) → x1 ≡ longer y1 more → x2 ≡ longer y2 more → cond v x1 x2 ≡ longer (cond v y1 y2) more
one_more true x1 x2 y1 y2 more f g = f
one_more false x1 x2 y1 y2 more f g = g

mark_closed : (bytes more : List ℕ) → mark_open bytes ≡ false → mark_at (bytes ++ more) ≡ longer (mark_at bytes) more
mark_closed [] more e = absurd cc
mark_closed (b ∷ []) [] e = refl
mark_closed (b ∷ []) (c ∷ more) e = rw e refl
mark_closed (b ∷ c ∷ bytes) more e = one_more (eqb b 187) _ _ _ _ more (one_more (eqb c 191) _ _ _ _ more refl refl) refl

sign_closed : (start : Bool) (b : ℕ) (bytes more : List ℕ) → sign_open start b bytes ≡ false → sign_at start b (bytes ++ more) ≡ longer (sign_at start b bytes) more
unfolding sign_open sign_at
sign_closed start b bytes more e =
    agree (eqb b 37) _ _ _ _ _ _ more e (λ w h. hidden_closed start bytes more h) (λ w e.
    agree (eqb b 59) _ _ _ _ _ _ more e (λ w h. run_closed in_line line_found bytes more line_natural h) (λ w e.
    agree (eqb b 123) _ _ _ _ _ _ more e (λ w h. run_closed in_braces braces_found bytes more braces_natural h) (λ w e.
    agree (eqb b 36) _ _ _ _ _ _ more e (λ w h. digits_closed bytes more h) (λ w e.
    one_more (eqb b 40) _ _ _ _ more refl (one_more (eqb b 41) _ _ _ _ more refl (one_more (eqb b 42) _ _ _ _ more refl (one_more (eqb b 46) _ _ _ _ more refl (one_more (eqb b 91) _ _ _ _ more refl (agree (eqb b 239) _ _ _ _ _ _ more e (λ w h. mark_closed bytes more h) (λ w h. refl))))))))))

-- a run of a class, a blank, or what else begins with the byte
run_or_closed : (p : ℕ → Bool) (f : List ℕ → List ℕ → Found) → Natural f → (b : ℕ) (bytes more : List ℕ) (o : Bool) (x y : Found) → cond (p b) (list_all p bytes) (cond (is_blank b) false o) ≡ false → (o ≡ false → x ≡ longer y more)
    → cond (p b) (run_at p f (b ∷ bytes ++ more)) (cond (is_blank b) (Some (Blank b, bytes ++ more)) x) ≡ longer (cond (p b) (run_at p f (b ∷ bytes)) (cond (is_blank b) (Some (Blank b, bytes)) y)) more
run_or_closed p f natural b bytes more o x y e other =
    agree (p b) _ _ _ _ _ _ more e (λ w h. run_closed p f (b ∷ bytes) more natural (rw w h)) (λ w e.
    agree (is_blank b) _ _ _ _ _ _ more e (λ w h. refl) (λ w h. other h))

outside_closed : (start : Bool) (prefix more : List ℕ) → outside_open start prefix ≡ false → outside_at start (prefix ++ more) ≡ longer (outside_at start prefix) more
unfolding outside_open outside_at
outside_closed start [] more e = absurd cc
outside_closed start (b ∷ bytes) more e =
    run_or_closed is_word_byte word_found word_natural b bytes more _ _ _ e (λ e.
    agree (is_glyph b) _ _ _ _ _ _ more e (λ w h. glyph_closed b bytes more w h) (λ w e. sign_closed start b bytes more e))

tag_closed : (start : Bool) (prefix more : List ℕ) → tag_open start prefix ≡ false → tag_at start (prefix ++ more) ≡ longer (tag_at start prefix) more
unfolding tag_open tag_at
tag_closed start [] more e = absurd cc
tag_closed start (b ∷ bytes) more e =
    run_or_closed is_name_byte name_found name_natural b bytes more _ _ _ e (λ e.
    agree (eqb b 34) _ _ _ _ _ _ more e (λ w h. refl) (λ w e.
    agree (eqb b 93) _ _ _ _ _ _ more e (λ w h. refl) (λ w e.
    agree (eqb b 37) _ _ _ _ _ _ more e (λ w h. hidden_closed start bytes more h) (λ w e. refl))))

escape_closed : (bytes more : List ℕ) → escape_open bytes ≡ false → escaped_at (bytes ++ more) ≡ longer (escaped_at bytes) more
escape_closed [] more e = absurd cc
escape_closed (b ∷ bytes) more e = one_more (is_escapable b) _ _ _ _ more refl refl

value_closed : (prefix more : List ℕ) → value_open prefix ≡ false → value_at (prefix ++ more) ≡ longer (value_at prefix) more
unfolding value_open value_at
value_closed [] more e = absurd cc
value_closed (b ∷ bytes) more e =
    agree (eqb b 34) _ _ _ _ _ _ more e (λ w h. refl) (λ w1 e.
    agree (eqb b 92) _ _ _ _ _ _ more e (λ w h. escape_closed bytes more h) (λ w2 e.
    agree (eqb b 10) _ _ _ _ _ _ more e (λ w h. refl) (λ w3 h. run_closed is_plain stretch_found (b ∷ bytes) more stretch_natural (rw (plain_byte b w1 w2 w3) h))))

pub closed_decides : (place : Place) (prefix : List ℕ) → is_open place prefix ≡ false → Decides place prefix
unfolding is_open item_at
closed_decides GameStart prefix e = λ more. outside_closed true prefix more e
closed_decides LineStart prefix e = λ more. outside_closed true prefix more e
closed_decides InLine prefix e = λ more. outside_closed false prefix more e
closed_decides TagLineStart prefix e = λ more. tag_closed true prefix more e
closed_decides InTag prefix e = λ more. tag_closed false prefix more e
closed_decides InValue prefix e = λ more. value_closed prefix more e
