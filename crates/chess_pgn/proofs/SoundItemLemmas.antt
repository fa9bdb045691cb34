-- What is true of the items of a text, and of the tags among them.
use Rattle.std.proofs.Common.{◌≡◌, ◌≢◌, inl, inr, ℕ, ◌<◌, ◌==◌, Bool, true, false, not, if◌then◌else◌, List, [], ◌∷◌, ◌++◌, map, codes, bytes_eq, refl, sym, ap, subst, ◌∙◌, arith}
use Rattle.std.specs.Prelude.{Option, Some, None, unwrap_or}
use Rattle.std.specs.Cmp.Lexicographic.{bytes_decides, nat_list_eq_equiv, slice_cmp}
use Rattle.std.specs.List.{AllByRecursion}
use Rattle.std.specs.List.Sorted.{IsStrictlySortedBy}
use Rattle.std.specs.Ordering.{is_eq, nat_cmp}
use Rattle.std.specs.declared.cmp.Ordering.TheVariants.{Less}
use Rattle.std.proofs.lemmas.Bool.{false≢true}
use Rattle.std.proofs.lemmas.Bool.Decides.{nat_tests}
use Rattle.std.proofs.lemmas.Map.Text.{is_eq-slice_cmp}
use Rattle.chess_items.specs.Items as items
use Rattle.chess_items.specs.Items.{Item, Each, IsSpelled, Spells, in_braces, in_line, is_escapable, is_plain, place_after, without_brace}
use Rattle.chess_items.specs.declared.place.Place.{Place}
use Rattle.chess_tree.specs.Comments.{has_brace}
use Rattle.chess_pgn.specs.Games.{Tags, tag_in}
use Rattle.chess_pgn.specs.Laws.{HasTagTexts, IsOther, IsTagValue}
use Rattle.chess_pgn.specs.Tags.{AreTags, AreValueParts, Ascend, HasTags, IsTag, is_own, is_value_part, part_text, value_in, value_text}
use Rattle.chess_pgn.proofs.TagTextLemmas.{AreGood, IsGood, IsName}

-- ---- items

abbrev pub IsSound : Item → Type 0
IsSound (items.Comment text) = has_brace text ≡ false
IsSound (items.Nag n) = n < 256
IsSound (items.Name name) = IsName name
IsSound (items.Stretch text) = IsTagValue text
IsSound (items.Escaped b) = in_line b ≡ true
IsSound _ = Unit {0}

abbrev pub AreSoundItems : List Item → Type 0
AreSoundItems = AllByRecursion IsSound

no_brace : (text : List ℕ) → Each in_braces text → has_brace text ≡ false
no_brace [] e = refl
no_brace (b ∷ text) e = rw (not_true (b == 125) e.0) (no_brace text e.1)
  where
    not_true : (v : Bool) → not v ≡ true → v ≡ false
    not_true true h = absurd (false≢true h)
    not_true false h = refl

replaced_brace : (b : ℕ) → (without_brace b == 125) ≡ false
replaced_brace b = step (b == 125) refl
  where
    step : (v : Bool) → (b == 125) ≡ v → ((if v then 41 else b) == 125) ≡ false
    step true e = refl
    step false e = e

no_brace_line : (line : List ℕ) → has_brace (map without_brace line) ≡ false
no_brace_line [] = refl
no_brace_line (b ∷ line) = rw (replaced_brace b) (no_brace_line line)

plain_in_line : (b : ℕ) → is_plain b ≡ true → in_line b ≡ true
unfolding is_plain
plain_in_line b e = grind (arith, nat_tests, e)

plain_value : (text : List ℕ) → Each is_plain text → IsTagValue text
plain_value [] e = tt
plain_value (b ∷ text) e = (plain_in_line b e.0, plain_value text e.1)

escapable_in_line : (b : ℕ) → is_escapable b ≡ true → in_line b ≡ true
escapable_in_line b e = grind (arith, nat_tests, e)

some_is : (x y : ℕ) → Some x ≡ Some y → x ≡ y
some_is x y e = cc

-- what glyphs stand for is small
glyph_small : (text : List ℕ) (n : ℕ) → items.glyph_value text ≡ Some n → n < 256
unfolding items.glyph_value
glyph_small text n e =
    step (bytes_eq text (codes "!")) 1 _ (omega arith)
    (step (bytes_eq text (codes "?")) 2 _ (omega arith)
    (step (bytes_eq text (codes "!!")) 3 _ (omega arith)
    (step (bytes_eq text (codes "??")) 4 _ (omega arith)
    (step (bytes_eq text (codes "!?")) 5 _ (omega arith)
    (step (bytes_eq text (codes "?!")) 6 None (omega arith) (λ m h. absurd cc)))))) n e
  where
    step : (v : Bool) (k : ℕ) (other : Option ℕ) → k < 256 → ((m : ℕ) → other ≡ Some m → m < 256) → (m : ℕ) → (if v then Some k else other) ≡ Some m → m < 256
    step true k other small f m h = subst (λ (x : ℕ). x < 256) (some_is k m h) small
    step false k other small f m h = f m h

item_sound : (item : Item) (text next : List ℕ) → IsSpelled item text next → IsSound item
item_sound (items.Comment t) text next (inl e) = no_brace t e.1
item_sound (items.Comment t) text next (inr e) = subst (λ (x : List ℕ). has_brace x ≡ false) (sym e.3) (no_brace_line e.0)
item_sound (items.Nag n) text next (inl e) = e.4
item_sound (items.Nag n) text next (inr e) = glyph_small text n e.1
item_sound (items.Name name) text next e = record { some = subst (λ (x : List ℕ). x ≢ []) (sym e.1) e.0.some; each = subst (Each items.is_name_byte) (sym e.1) e.0.each }
item_sound (items.Stretch t) text next (e, inl run) = subst IsTagValue (sym e) (plain_value text run.each)
item_sound (items.Stretch t) text next (e, inr slash) = subst IsTagValue (sym (e ∙ slash.0)) (refl, tt)
item_sound (items.Escaped b) text next e = escapable_in_line b e.0
item_sound _ text next e = tt

pub spelled_sound : (place : Place) (input : List ℕ) (is : List Item) (rest : List ℕ) → Spells place input is rest → AreSoundItems is
spelled_sound place input [] rest s = tt
spelled_sound place input (item ∷ is) rest s = (item_sound item s.0 s.1 s.3.spelled, spelled_sound (place_after place item) s.1 is rest s.4)

pub sound_parts : (prefix is : List Item) → AreSoundItems (prefix ++ is) → AreSoundItems prefix × AreSoundItems is
sound_parts [] is h = (tt, h)
sound_parts (item ∷ prefix) is h = let r = sound_parts prefix is h.1 in ((h.0, r.0), r.1)

-- ---- the tags among them

value_sound : (parts : List Item) → AreValueParts parts → AreSoundItems parts → IsTagValue (value_text parts)
value_sound [] are sound = tt
value_sound (item ∷ parts) are sound = value_append (part_text item) (value_text parts) (part_value item are.0 sound.0) (value_sound parts are.1 sound.1)
  where
    value_append : (a b : List ℕ) → IsTagValue a → IsTagValue b → IsTagValue (a ++ b)
    value_append [] b h k = k
    value_append (x ∷ a) b h k = (h.0, value_append a b h.1 k)

    part_value : (item : Item) → is_value_part item ≡ true → IsSound item → IsTagValue (part_text item)
    part_value (items.Stretch text) e h = h
    part_value (items.Escaped b) e h = (h, tt)
    part_value _ e h = absurd (false≢true e)

tag_good : (own : List Item) (name value : List ℕ) → IsTag own name value → AreSoundItems own → IsGood (name, value)
tag_good own name value is sound =
    let all = subst AreSoundItems is.spelled sound in
    let a = sound_parts is.before_name _ all.1 in
    let b = sound_parts is.behind_name _ a.1.1 in
    let c = sound_parts is.parts _ b.1.1 in
    (a.1.0, subst IsTagValue (sym is.value_is) (value_sound is.parts is.of_value c.0))

pub tags_good : (is : List Item) (given : List (List ℕ × List ℕ)) → AreTags is given → AreSoundItems is → AreGood given
tags_good is [] h sound = tt
tags_good is (tag ∷ given) h sound =
    let all = subst AreSoundItems h.3 sound in
    let a = sound_parts h.0 (h.1 ++ h.2) all in
    let b = sound_parts h.1 h.2 a.1 in
    (tag_good h.1 tag.0 tag.1 h.5 b.0, tags_good h.2 given h.6 b.1)

-- ---- the tags of the game

found_good : (name value : List ℕ) (given : List (List ℕ × List ℕ)) → AreGood given → tag_in name given ≡ Some value → IsGood (name, value)
found_good name value [] good e = absurd cc
found_good name value (tag ∷ given) good e = step (bytes_eq name tag.0) refl e (λ h. found_good name value given good.1 h)
  where
    value_is : (x y : List ℕ) → Some x ≡ Some y → x ≡ y
    value_is x y h = cc

    step : (v : Bool) → bytes_eq name tag.0 ≡ v → (if v then Some tag.1 else tag_in name given) ≡ Some value → (tag_in name given ≡ Some value → IsGood (name, value)) → IsGood (name, value)
    step true h k on = subst (λ (n : List ℕ). IsGood (n, value)) (sym ((bytes_decides name tag.0).0 h)) (good.0.0, subst IsTagValue (value_is tag.1 value k) good.0.1)
    step false h k on = on k

or_value : (found : Option (List ℕ)) (text : List ℕ) → ((value : List ℕ) → found ≡ Some value → IsTagValue value) → IsTagValue text → IsTagValue (unwrap_or found text)
or_value None text f h = h
or_value (Some value) text f h = f value refl

own_value : (given : List (List ℕ × List ℕ)) (name text value : List ℕ) → AreGood given → IsTagValue text → value ≡ value_in given name text → IsTagValue value
own_value given name text value good known e = subst IsTagValue (sym e) (or_value (tag_in name given) text (λ v h. (found_good name v given good h).1) known)

-- a name that is found after another ascends
found_less : (first name value : List ℕ) (tags : List (List ℕ × List ℕ)) → AllByRecursion (λ y. slice_cmp nat_cmp first y ≡ Less) (map (λ (tag : List ℕ × List ℕ). tag.0) tags) → tag_in name tags ≡ Some value → slice_cmp nat_cmp first name ≡ Less
found_less first name value [] all e = absurd cc
found_less first name value (tag ∷ tags) all e = step (bytes_eq name tag.0) refl e (λ h. found_less first name value tags all.1 h)
  where
    step : (v : Bool) → bytes_eq name tag.0 ≡ v → (if v then Some tag.1 else tag_in name tags) ≡ Some value → (tag_in name tags ≡ Some value → slice_cmp nat_cmp first name ≡ Less) → slice_cmp nat_cmp first name ≡ Less
    step true h k on = ap (slice_cmp nat_cmp first) ((bytes_decides name tag.0).0 h) ∙ all.0
    step false h k on = on k

less_apart : (first name : List ℕ) → slice_cmp nat_cmp first name ≡ Less → bytes_eq name first ≡ false
less_apart first name e = nat_list_eq_equiv.symm name first ∙ sym (is_eq-slice_cmp first name) ∙ ap is_eq e

abbrev Tells : List (List ℕ × List ℕ) → List (List ℕ × List ℕ) → Type 0
Tells others given = (name value : List ℕ) → tag_in name others ≡ Some value → (is_own name ≡ false) × (tag_in name given ≡ Some value)

others_good : (others given : List (List ℕ × List ℕ)) → Ascend others → Tells others given → AreGood given → AllByRecursion IsOther others
unfolding IsStrictlySortedBy
others_good [] given up tells good = tt
others_good (tag ∷ others) given up tells good =
    let here = tells tag.0 tag.1 (rw ((bytes_decides tag.0 tag.0).1 refl) refl) in
    let one = found_good tag.0 tag.1 given good here.1 in
    let behind : Tells others given = λ name value e. tells name value (rw (less_apart tag.0 name (found_less tag.0 name value others up.0 e)) e) in
    ((one.0.some, one.0.each, here.0, one.1), others_good others given up.1 behind good)

told_by : (v : Bool) (found : Option (List ℕ)) (value : List ℕ) → (if v then None else found) ≡ Some value → (v ≡ false) × (found ≡ Some value)
told_by true found value e = absurd cc
told_by false found value e = (refl, e)

pub has_texts : (given : List (List ℕ × List ℕ)) (tags : Tags) → HasTags given tags → AreGood given → HasTagTexts tags
has_texts given tags has good = record {
  event = own_value given (codes "Event") (codes "?") tags.event good (refl, tt) has.event;
  site = own_value given (codes "Site") (codes "?") tags.site good (refl, tt) has.site;
  date = own_value given (codes "Date") (codes "????.??.??") tags.date good (refl, (refl, (refl, (refl, (refl, (refl, (refl, (refl, (refl, (refl, tt)))))))))) has.date;
  round = own_value given (codes "Round") (codes "?") tags.round good (refl, tt) has.round;
  white = own_value given (codes "White") (codes "?") tags.white good (refl, tt) has.white;
  black = own_value given (codes "Black") (codes "?") tags.black good (refl, tt) has.black;
  others = others_good tags.others given has.ascend (λ name value e. told_by (is_own name) (tag_in name given) value (sym (has.others name) ∙ e)) good;
  ascend = has.ascend;
}
