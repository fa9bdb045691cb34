-- The code finds exactly the items of the definition: what spells an item is found.
use Rattle.std.proofs.Common.{◌≡◌, ◌≢◌, ◌<◌, ◌≤◌, ◌⊎◌, inl, inr, ℕ, Bool, true, false, eqb, List, [], ◌∷◌, ◌++◌, Option, Some, refl, sym, subst, ap, ◌∙◌, arith, append_assoc, ◌||◌}
use Rattle.std.proofs.lemmas.Bool.{eqb-true, false≢true, lt-ltb}
use Rattle.std.proofs.lemmas.Bool.Decides.{nat_tests}
use Rattle.chess_items.specs.Items.{Item, Mark, Blank, Hidden, Comment, Skipped, Word, Nag, Open, Close, Marker, TagOpen, TagClose, Name, Quote, Stretch, Escaped}
use Rattle.chess_items.specs.Items.{Each, EndsRun, IsRun, IsSpelled, IsItem, digits_value, glyph_value, in_braces, in_line, is_blank, is_digit, is_escapable, is_glyph, is_name_byte, is_plain, is_word_byte, word_item, may_stand}
use Rattle.chess_items.specs.steps.ItemAt.{run_at, word_found, nag_found, digits_found, glyph_found, hidden_found, line_found, braces_found, name_found, stretch_found, sign_at, outside_at, tag_at, value_at, item_at}
use Rattle.chess_items.specs.declared.place.Place.{Place}
use Rattle.chess_items.specs.declared.place.Place.TheVariants.{GameStart, LineStart, InLine, TagLineStart, InTag, InValue}
use Rattle.chess_items.proofs.RunLemmas.{run_found}

pub or_cases : (a b : Bool) → a || b ≡ true → (a ≡ true) ⊎ (b ≡ true)
or_cases true b e = inl refl
or_cases false b e = inr e

-- ---- bytes of one kind are of no other

blank_low : (b : ℕ) → is_blank b ≡ true → b ≤ 32
unfolding is_blank
blank_low b e = grind (arith, nat_tests)

word_high : (b : ℕ) → b ≤ 34 → is_word_byte b ≡ false
unfolding is_word_byte is_name_byte is_digit
word_high b e = grind (arith, nat_tests)

name_high : (b : ℕ) → b ≤ 34 → is_name_byte b ≡ false
unfolding is_name_byte is_digit
name_high b e = grind (arith, nat_tests)

pub glyph_is : (b : ℕ) → is_glyph b ≡ true → (b ≡ 33) ⊎ (b ≡ 63)
unfolding is_glyph
glyph_is b e = elim (or_cases (eqb b 33) (eqb b 63) e) [ inl h ↦ inl (eqb-true _ _ h) | inr h ↦ inr (eqb-true _ _ h) ]

-- ---- outside of tags

word_goes : (start : Bool) (text next : List ℕ) (item : Item) → IsRun is_word_byte text next → word_item text ≡ item → outside_at start (text ++ next) ≡ Some (item, next)
unfolding outside_at
word_goes start [] next item run e = absurd (run.some refl)
word_goes start (b ∷ text) next item run e = rw (run.each.0) (run_found is_word_byte word_found (b ∷ text) next run.each run.stops ∙ ap (λ (i : Item). Some (i, next)) e)

at_glyph : (start : Bool) (b : ℕ) (bytes : List ℕ) → (b ≡ 33) ⊎ (b ≡ 63) → outside_at start (b ∷ bytes) ≡ run_at is_glyph glyph_found (b ∷ bytes)
unfolding outside_at is_word_byte is_name_byte is_digit is_blank is_glyph
at_glyph start b bytes (inl e) = rw e refl
at_glyph start b bytes (inr e) = rw e refl

glyph_goes : (start : Bool) (text next : List ℕ) (n : ℕ) → IsRun is_glyph text next → glyph_value text ≡ Some n → outside_at start (text ++ next) ≡ Some (Nag n, next)
glyph_goes start [] next n run e = absurd (run.some refl)
glyph_goes start (b ∷ text) next n run e =
    at_glyph start b (text ++ next) (glyph_is b run.each.0) ∙ run_found is_glyph glyph_found (b ∷ text) next run.each run.stops ∙ ap (λ (o : Option ℕ). nag_found o next) e

dollar_goes : (start : Bool) (ds next : List ℕ) (n : ℕ) → IsRun is_digit ds next → n ≡ digits_value 0 ds → n < 256 → outside_at start (36 ∷ ds ++ next) ≡ Some (Nag n, next)
unfolding outside_at sign_at is_word_byte is_name_byte is_digit is_blank is_glyph
dollar_goes start [] next n run e lt = absurd (run.some refl)
dollar_goes start (d ∷ ds) next n run e lt =
    run_found is_digit digits_found (d ∷ ds) next run.each run.stops ∙ rw (← e, lt-ltb n 256 lt) refl

braces_go : (start : Bool) (t next : List ℕ) → Each in_braces t → outside_at start ((123 ∷ t ++ 125 ∷ []) ++ next) ≡ Some (Comment t, next)
unfolding outside_at sign_at is_word_byte is_name_byte is_digit is_blank is_glyph
braces_go start t next each =
    rw (append_assoc t (125 ∷ []) next) (run_found in_braces braces_found t (125 ∷ next) each refl)

blank_goes : (start : Bool) (b : ℕ) (next : List ℕ) → is_blank b ≡ true → outside_at start (b ∷ next) ≡ Some (Blank b, next)
unfolding outside_at
blank_goes start b next e =
    let low = blank_low b e in
    rw (word_high b (omega arith), e) refl

-- what may stand outside of tags; a hidden line only in the first column
abbrev pub stands_outside : Bool → Item → Bool
stands_outside start Hidden = start
stands_outside start TagClose = false
stands_outside start (Name t) = false
stands_outside start Quote = false
stands_outside start (Stretch t) = false
stands_outside start (Escaped b) = false
stands_outside start _ = true

pub outside_goes : (start : Bool) (item : Item) (text next : List ℕ) → stands_outside start item ≡ true → IsSpelled item text next → outside_at start (text ++ next) ≡ Some (item, next)
unfolding outside_at sign_at is_word_byte is_name_byte is_digit is_blank is_glyph
outside_goes start Mark text next s p = rw p refl
outside_goes start (Blank b) text next s p = rw p.1 (blank_goes start b next p.0)
outside_goes start Hidden text next s p = rw (p.1, s) (run_found in_line hidden_found p.0 next p.2.each p.2.stops)
outside_goes start Skipped text next s (inl e) = rw e refl
outside_goes start Skipped text next s (inr p) = word_goes start text next Skipped p.0 p.1
outside_goes start (Comment t) text next s (inl p) = rw p.0 (braces_go start t next p.1)
outside_goes start (Comment t) text next s (inr p) = rw (p.1, p.3) (run_found in_line line_found p.0 next p.2.each p.2.stops)
outside_goes start (Nag n) text next s (inl p) = rw p.1 (dollar_goes start p.0 next n p.2 p.3 p.4)
outside_goes start (Nag n) text next s (inr p) = glyph_goes start text next n p.0 p.1
outside_goes start Open text next s p = rw p refl
outside_goes start Close text next s p = rw p refl
outside_goes start (Marker o) text next s (inl p) = rw (p.0, p.1) refl
outside_goes start (Marker o) text next s (inr p) = word_goes start text next (Marker o) p.0 p.1
outside_goes start TagOpen text next s p = rw p refl
outside_goes start (Word w) text next s p = word_goes start text next (Word w) p.0 p.1
outside_goes start _ text next s p = absurd cc

-- ---- between the parts of a tag

name_goes : (start : Bool) (text next : List ℕ) → IsRun is_name_byte text next → tag_at start (text ++ next) ≡ Some (Name text, next)
unfolding tag_at
name_goes start [] next run = absurd (run.some refl)
name_goes start (b ∷ text) next run = rw (run.each.0) (run_found is_name_byte name_found (b ∷ text) next run.each run.stops)

tag_blank_goes : (start : Bool) (b : ℕ) (next : List ℕ) → is_blank b ≡ true → tag_at start (b ∷ next) ≡ Some (Blank b, next)
unfolding tag_at
tag_blank_goes start b next e =
    let low = blank_low b e in
    rw (name_high b (omega arith), e) refl

abbrev pub stands_in_tag : Bool → Item → Bool
stands_in_tag start (Blank b) = true
stands_in_tag start Hidden = start
stands_in_tag start TagClose = true
stands_in_tag start (Name t) = true
stands_in_tag start Quote = true
stands_in_tag start _ = false

pub tag_goes : (start : Bool) (item : Item) (text next : List ℕ) → stands_in_tag start item ≡ true → IsSpelled item text next → tag_at start (text ++ next) ≡ Some (item, next)
unfolding tag_at is_name_byte is_digit is_blank
tag_goes start (Blank b) text next s p = rw p.1 (tag_blank_goes start b next p.0)
tag_goes start Hidden text next s p = rw (p.1, s) (run_found in_line hidden_found p.0 next p.2.each p.2.stops)
tag_goes start TagClose text next s p = rw p refl
tag_goes start (Name t) text next s p = rw p.1 (name_goes start text next p.0)
tag_goes start Quote text next s p = rw p refl
tag_goes start _ text next s p = absurd cc

-- ---- in a tag's value

pub no_eqb : (a b : ℕ) → a ≢ b → eqb a b ≡ false
no_eqb a b h = grind (arith, nat_tests)

pub plain_byte : (b : ℕ) → eqb b 34 ≡ false → eqb b 92 ≡ false → eqb b 10 ≡ false → is_plain b ≡ true
unfolding is_plain
plain_byte b h1 h2 h3 = rw (h1, h2, h3) refl

plain_is : (b : ℕ) → is_plain b ≡ true → (b ≢ 34) × (b ≢ 92) × (b ≢ 10)
unfolding is_plain
plain_is b e = grind (arith, nat_tests)

plain_goes : (text next : List ℕ) → IsRun is_plain text next → value_at (text ++ next) ≡ Some (Stretch text, next)
unfolding value_at
plain_goes [] next run = absurd (run.some refl)
plain_goes (b ∷ text) next run =
    let not = plain_is b run.each.0 in
    rw (no_eqb b 34 not.0, no_eqb b 92 not.1, no_eqb b 10 not.2) (run_found is_plain stretch_found (b ∷ text) next run.each run.stops)

slash_goes : (next : List ℕ) → EndsRun is_escapable next → value_at (92 ∷ next) ≡ Some (Stretch (92 ∷ []), next)
unfolding value_at
slash_goes [] h = refl
slash_goes (b ∷ next) h = rw h refl

escape_goes : (b : ℕ) (next : List ℕ) → is_escapable b ≡ true → value_at (92 ∷ b ∷ next) ≡ Some (Escaped b, next)
unfolding value_at
escape_goes b next h = rw h refl

abbrev pub stands_in_value : Item → Bool
stands_in_value Quote = true
stands_in_value (Stretch t) = true
stands_in_value (Escaped b) = true
stands_in_value _ = false

pub value_goes : (item : Item) (text next : List ℕ) → stands_in_value item ≡ true → IsSpelled item text next → value_at (text ++ next) ≡ Some (item, next)
unfolding value_at
value_goes Quote text next s p = rw p refl
value_goes (Stretch t) text next s (e, inl run) = rw e (plain_goes text next run)
value_goes (Stretch t) text next s (e, inr p) = rw (e, p.0) (slash_goes next p.1)
value_goes (Escaped b) text next s p = rw p.1 (escape_goes b next p.0)
value_goes _ text next s p = absurd cc

-- ---- anywhere

-- what may stand at a place
abbrev pub stands_at : Place → Item → Bool
stands_at GameStart = stands_outside true
stands_at LineStart = stands_outside true
stands_at InLine = stands_outside false
stands_at TagLineStart = stands_in_tag true
stands_at InTag = stands_in_tag false
stands_at InValue = stands_in_value

pub may_stand_is : (place : Place) (item : Item) → may_stand place item ≡ stands_at place item
may_stand_is GameStart Mark = refl
may_stand_is _ _ = refl

-- what may stand at a place is found there
pub item_goes : (place : Place) (item : Item) (text next : List ℕ) → IsItem place item text next → item_at place (text ++ next) ≡ Some (item, next)
unfolding item_at
item_goes GameStart item text next p = outside_goes true item text next (sym (may_stand_is GameStart item) ∙ p.stands) p.spelled
item_goes LineStart item text next p = outside_goes true item text next (sym (may_stand_is LineStart item) ∙ p.stands) p.spelled
item_goes InLine item text next p = outside_goes false item text next (sym (may_stand_is InLine item) ∙ p.stands) p.spelled
item_goes TagLineStart item text next p = tag_goes true item text next (sym (may_stand_is TagLineStart item) ∙ p.stands) p.spelled
item_goes InTag item text next p = tag_goes false item text next (sym (may_stand_is InTag item) ∙ p.stands) p.spelled
item_goes InValue item text next p = value_goes item text next (sym (may_stand_is InValue item) ∙ p.stands) p.spelled

-- no number and no marker begins with another byte than a digit
pub letter_word : (text rest : List ℕ) (b : ℕ) → text ≡ b ∷ rest → is_digit b ≡ false → Word text ≡ word_item text
unfolding word_item is_digit
letter_word text rest b e h =
    subst (λ (x : List ℕ). Word x ≡ word_item x) (sym e) (rw (h, no_eqb b 49 (λ k. one k), no_eqb b 48 (λ k. nought k)) refl)
  where
    one : b ≡ 49 → ⊥
    one k = false≢true (sym h ∙ ap is_digit k)

    nought : b ≡ 48 → ⊥
    nought k = false≢true (sym h ∙ ap is_digit k)
