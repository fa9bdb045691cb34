-- Items within a line that are known by their first byte.
use Rattle.std.proofs.Common.{◌≡◌, ◌≢◌, ◌<◌, ◌≤◌, inr, ℕ, List, [], ◌∷◌, ◌++◌, take, drop, length, Some, true, false, refl, sym, ap, ◌∙◌, arith}
use Rattle.std.specs.List.{list_all, prefix_len}
use Rattle.std.proofs.lemmas.List.{take-append-drop}
use Rattle.chess_items.specs.Items.{Item, Blank, Skipped, Word, Each, IsRun, is_blank, is_digit, is_glyph, is_name_byte, is_word_byte, word_item}
use Rattle.chess_items.specs.steps.ItemAt.{item_at, outside_at, sign_at}
use Rattle.chess_items.specs.steps.Firsts.{IsFirst, IsFollowed, IsWithin}
use Rattle.chess_items.specs.declared.place.Place.{Place}
use Rattle.chess_items.specs.declared.place.Place.TheVariants.{InLine}
use Rattle.chess_items.proofs.FoundLemmas.{run_of}
use Rattle.chess_items.proofs.ItemLemmas.{item_goes, letter_word}
use Rattle.chess_items.proofs.RunLemmas.{prefix_each}
use Rattle.chess_items.proofs.OfferLemmas.{found_within}

-- ---- one byte

by_byte : (place : Place) (b c left : ℕ) (bytes hand : List ℕ) (item : Item) → ((rest : List ℕ) → item_at InLine (c ∷ rest) ≡ Some (item, rest)) → bytes ≡ hand → b ≡ c → IsWithin place b left bytes → IsFirst hand item left
by_byte place b c left bytes hand item is same e w =
    let whole : hand ≡ c ∷ w.rest = sym same ∙ w.is ∙ ap (λ (x : ℕ). x ∷ w.rest) e in
    record { rest = w.rest; followed = record { found = sym (ap (item_at InLine) whole ∙ is w.rest); some = w.some }; counted = w.counted }

space : (rest : List ℕ) → item_at InLine (32 ∷ rest) ≡ Some (Blank 32, rest)
unfolding item_at outside_at is_word_byte is_name_byte is_digit is_blank
space rest = refl

pub period : (rest : List ℕ) → item_at InLine (46 ∷ rest) ≡ Some (Skipped, rest)
unfolding item_at outside_at sign_at is_word_byte is_name_byte is_digit is_blank is_glyph
period rest = refl

pub space_first : {place : Place} {b left : ℕ} {bytes hand : List ℕ} → bytes ≡ hand → b ≡ 32 → IsWithin place b left bytes → IsFirst hand (Blank 32) left
space_first {place} {b} {left} {bytes} {hand} same e w = by_byte place b 32 left bytes hand (Blank 32) space same e w

pub period_first : {place : Place} {b left : ℕ} {bytes hand : List ℕ} → bytes ≡ hand → b ≡ 46 → IsWithin place b left bytes → IsFirst hand Skipped left
period_first {place} {b} {left} {bytes} {hand} same e w = by_byte place b 46 left bytes hand Skipped period same e w

-- ---- runs

head : {a b : ℕ} {xs ys : List ℕ} → a ∷ xs ≡ b ∷ ys → a ≡ b
head e = cc

-- a move's text begins with no digit
word_goes : (b : ℕ) (more word rest : List ℕ) → b ∷ more ≡ word ++ rest → is_digit b ≡ false → IsRun is_word_byte word rest → item_at InLine (word ++ rest) ≡ Some (Word word, rest)
word_goes b more [] rest e letter run = absurd (run.some refl)
word_goes b more (c ∷ word) rest e letter run =
    item_goes InLine (Word (c ∷ word)) (c ∷ word) rest
    (record { stands = refl; spelled = (run, sym (letter_word (c ∷ word) word b (ap (λ (x : ℕ). x ∷ word) (sym (head e))) letter)) })

pub word_first : {bytes more word rest : List ℕ} {b n : ℕ} → bytes ≡ b ∷ more → is_word_byte b ≡ true → is_digit b ≡ false → n ≡ prefix_len is_word_byte bytes
    → word ≡ take n bytes → rest ≡ drop n bytes → 0 < length rest → IsFollowed bytes (Word word) rest
word_first {bytes} {more} {word} {rest} {b} {n} e is letter en ew er some =
    let k = prefix_len is_word_byte (b ∷ more) in
    let kn : n ≡ k = en ∙ ap (prefix_len is_word_byte) e in
    let w : word ≡ take k (b ∷ more) = rw (ew, kn, e) refl in
    let r : rest ≡ drop k (b ∷ more) = rw (er, kn, e) refl in
    let whole : bytes ≡ take k (b ∷ more) ++ drop k (b ∷ more) = e ∙ sym (take-append-drop k (b ∷ more)) in
    let goes = word_goes b more (take k (b ∷ more)) (drop k (b ∷ more)) (sym (take-append-drop k (b ∷ more))) letter (run_of is_word_byte b more is) in
    record { found = rw (w, r) (sym (ap (item_at InLine) whole ∙ goes)); some = some }

-- digits alone are a number
digits_are_words : (text : List ℕ) → Each is_digit text → Each is_word_byte text
unfolding is_word_byte is_name_byte
digits_are_words [] each = tt
digits_are_words (b ∷ text) each = (rw each.0 refl, digits_are_words text each.1)

all_digits : (text : List ℕ) → Each is_digit text → list_all is_digit text ≡ true
all_digits [] each = refl
all_digits (b ∷ text) each = rw (each.0, all_digits text each.1) refl

number_goes : (text rest : List ℕ) (b : ℕ) (more : List ℕ) → text ≢ [] → Each is_digit text → rest ≡ b ∷ more → is_word_byte b ≡ false → item_at InLine (text ++ rest) ≡ Some (Skipped, rest)
unfolding word_item
number_goes text rest b more some each e not =
    item_goes InLine Skipped text rest
    (record { stands = refl; spelled = inr (record { some = some; each = digits_are_words text each; stops = rw (e, not) refl }, rw (all_digits text each) refl) })

pub number_first : {bytes digits rest more : List ℕ} {b n : ℕ} → n ≡ prefix_len is_digit bytes → digits ≡ take n bytes → rest ≡ drop n bytes → rest ≡ b ∷ more → digits ≢ [] → is_word_byte b ≡ false
    → IsFollowed bytes Skipped rest
number_first {bytes} {digits} {rest} {more} {b} {n} en ed er e some not =
    let whole : bytes ≡ digits ++ rest = rw (ed, er) (sym (take-append-drop n bytes)) in
    let each : Each is_digit digits = rw (ed, en) (prefix_each is_digit bytes) in
    record { found = sym (ap (item_at InLine) whole ∙ number_goes digits rest b more some each e not); some = (let l = ap length e in omega (arith, l)) }

-- what is left is a part of the bytes
pub left_within : {hand again : List ℕ} {item : Item} {left : ℕ} → IsFirst hand item left → again ≡ hand → left ≤ length again
left_within {hand} {again} {item} {left} first once_more =
    let w = found_within InLine refl first.followed.found once_more in
    omega (arith, w, first.counted)
