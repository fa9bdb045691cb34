-- The code finds exactly the items of the definition: what is found is an item.
use Rattle.std.proofs.Common.{◌≡◌, ◌≢◌, ◌<◌, inl, inr, ℕ, ◌+◌, Bool, true, false, cond, eqb, ltb, List, [], ◌∷◌, ◌++◌, take, drop, map, Option, Some, None, refl, sym, ap, subst, ◌∙◌, arith, append_assoc, codes, bytes_eq}
use Rattle.std.specs.List.{prefix_len, list_all}
use Rattle.std.proofs.lemmas.Bool.{eqb-true, ltb-true}
use Rattle.std.proofs.lemmas.Bool.Decides.{nat_tests}
use Rattle.std.proofs.Math.Numerals.{one-add}
use Rattle.std.proofs.lemmas.List.{take-append-drop}
use Rattle.chess_items.specs.Items.{Item, Mark, Blank, Hidden, Comment, Skipped, Word, Nag, Open, Close, Marker, TagOpen, TagClose, Name, Quote, Stretch, Escaped}
use Rattle.chess_items.specs.Items.{Each, EndsRun, IsRun, IsToLineEnd, IsSpelled, IsItem, digits_value, glyph_value, in_braces, in_line, is_blank, is_digit, is_escapable, is_glyph, is_name_byte, is_plain, is_word_byte, without_brace, word_item, may_stand}
use Rattle.chess_items.specs.steps.ItemAt.{Found, run_at, nag_found, small, digits_found, glyph_found, hidden_found, line_found, braces_found, hidden_at, sign_at, outside_at, tag_at, escaped_at, value_at, mark_at, item_at}
use Rattle.chess_items.specs.declared.outcome.Outcome.TheVariants.{WhiteWins, BlackWins, Draw, Unfinished}
use Rattle.chess_items.specs.declared.place.Place.{Place}
use Rattle.chess_items.specs.declared.place.Place.TheVariants.{GameStart, LineStart, InLine, TagLineStart, InTag, InValue}
use Rattle.chess_items.proofs.RunLemmas.{prefix_each, prefix_stops}
use Rattle.chess_items.proofs.ItemLemmas.{may_stand_is, plain_byte, stands_outside, stands_in_tag, stands_in_value}

-- the beginning of the input, and its item, which may be there
abbrev pub Parted : (Item → Bool) → List ℕ → Item → List ℕ → Type 0
Parted stands input item next = (text : List ℕ) × (input ≡ text ++ next) × (stands item ≡ true) × IsSpelled item text next

-- what was found by a test
by_test : {A C : Type 0} (v : Bool) (x y z : A) → cond v x y ≡ z → (v ≡ true → x ≡ z → C) → (v ≡ false → y ≡ z → C) → C
by_test true x y z e f g = f refl e
by_test false x y z e f g = g refl e

abbrev pub the : Item → List ℕ → Found
the i rest = Some (i, rest)

pub some_is : {A : Type 0} (x y : A) → Some x ≡ Some y → x ≡ y
some_is x y e = cc

-- a fact of a value holds of what equals it
at_pair : (stands : Item → Bool) (input text : List ℕ) (i item : Item) (rest next : List ℕ) → the i rest ≡ the item next → input ≡ text ++ rest → stands i ≡ true → IsSpelled i text rest → Parted stands input item next
at_pair stands input text i item rest next e parts s spelled =
    let p = some_is {A = Item × List ℕ} (i, rest) (item, next) e in
    subst (λ (x : Item × List ℕ). Parted stands input x.0 x.1) p (text, parts, s, spelled)

-- an item of one byte
one_byte : (stands : Item → Bool) (b c : ℕ) (bytes : List ℕ) (i item : Item) (next : List ℕ) → eqb b c ≡ true → stands i ≡ true → IsSpelled i (c ∷ []) bytes → the i bytes ≡ the item next → Parted stands (b ∷ bytes) item next
one_byte stands b c bytes i item next e s spelled found = at_pair stands (b ∷ bytes) (c ∷ []) i item bytes next found (rw (eqb-true _ _ e) refl) s spelled

headed : (stands : Item → Bool) (b c : ℕ) (bytes : List ℕ) (item : Item) (next : List ℕ) → eqb b c ≡ true → Parted stands (c ∷ bytes) item next → Parted stands (b ∷ bytes) item next
headed stands b c bytes item next e t = rw (eqb-true _ _ e) t

-- ---- runs

run_is : (p : ℕ → Bool) (f : List ℕ → List ℕ → Found) (bytes : List ℕ) (found : Found) → run_at p f bytes ≡ found → f (take (prefix_len p bytes) bytes) (drop (prefix_len p bytes) bytes) ≡ found
unfolding run_at
run_is p f bytes found e = e

run_some : (p : ℕ → Bool) (b : ℕ) (bytes : List ℕ) → p b ≡ true → take (prefix_len p (b ∷ bytes)) (b ∷ bytes) ≢ []
run_some p b bytes e h = (let h1 : take (1 + prefix_len p bytes) (b ∷ bytes) ≡ [] = rw e at h in let h2 = rw one-add at h1 in cc)

pub run_of : (p : ℕ → Bool) (b : ℕ) (bytes : List ℕ) → p b ≡ true → IsRun p (take (prefix_len p (b ∷ bytes)) (b ∷ bytes)) (drop (prefix_len p (b ∷ bytes)) (b ∷ bytes))
run_of p b bytes e = record { some = run_some p b bytes e; each = prefix_each p (b ∷ bytes); stops = prefix_stops p (b ∷ bytes) }

-- a run, whatever item it is
taken_run : (stands : Item → Bool) (p : ℕ → Bool) (g : List ℕ → Item) (b : ℕ) (bytes : List ℕ) (item : Item) (next : List ℕ)
    → ((text rest : List ℕ) → IsRun p text rest → (stands (g text) ≡ true) × IsSpelled (g text) text rest) → p b ≡ true → run_at p (λ text rest. Some (g text, rest)) (b ∷ bytes) ≡ Some (item, next) → Parted stands (b ∷ bytes) item next
taken_run stands p g b bytes item next is e found =
    let n = prefix_len p (b ∷ bytes) in
    let text = take n (b ∷ bytes) in
    let rest = drop n (b ∷ bytes) in
    let k = is text rest (run_of p b bytes e) in
    at_pair stands (b ∷ bytes) text (g text) item rest next (run_is p (λ text rest. Some (g text, rest)) (b ∷ bytes) _ found) (sym (take-append-drop n (b ∷ bytes))) k.0 k.1

-- a byte and the longest run after it, whatever is found there
run_behind : (stands : Item → Bool) (b : ℕ) (p : ℕ → Bool) (f : List ℕ → List ℕ → Found)
    → ((text rest : List ℕ) (item : Item) (next : List ℕ) → Each p text → EndsRun p rest → f text rest ≡ Some (item, next) → Parted stands (b ∷ text ++ rest) item next)
    → (bytes : List ℕ) (item : Item) (next : List ℕ) → run_at p f bytes ≡ Some (item, next) → Parted stands (b ∷ bytes) item next
run_behind stands b p f ends bytes item next found =
    let n = prefix_len p bytes in
    let e : b ∷ take n bytes ++ drop n bytes ≡ b ∷ bytes = ap (λ (x : List ℕ). b ∷ x) (take-append-drop n bytes) in
    subst (λ (x : List ℕ). Parted stands x item next) e (ends (take n bytes) (drop n bytes) item next (prefix_each p bytes) (prefix_stops p bytes) (run_is p f bytes _ found))

-- ---- words, numbers and comments

word_spelled : (start : Bool) (w next : List ℕ) → IsRun is_word_byte w next → (stands_outside start (word_item w) ≡ true) × IsSpelled (word_item w) w next
unfolding word_item
word_spelled start w next run = go (list_all is_digit w) (bytes_eq w (codes "1-0")) (bytes_eq w (codes "0-1")) (bytes_eq w (codes "1/2-1/2")) refl
  where
    go : (a b c d : Bool) → word_item w ≡ cond a Skipped (cond b (Marker WhiteWins) (cond c (Marker BlackWins) (cond d (Marker Draw) (Word w))))
        → (stands_outside start (cond a Skipped (cond b (Marker WhiteWins) (cond c (Marker BlackWins) (cond d (Marker Draw) (Word w))))) ≡ true) × IsSpelled (cond a Skipped (cond b (Marker WhiteWins) (cond c (Marker BlackWins) (cond d (Marker Draw) (Word w))))) w next
    go true b c d e = (refl, inr (run, e))
    go false true c d e = (refl, inr (run, e))
    go false false true d e = (refl, inr (run, e))
    go false false false true e = (refl, inr (run, e))
    go false false false false e = (refl, (run, e))

nag_taken : (start : Bool) (input text : List ℕ) (o : Option ℕ) (item : Item) (rest next : List ℕ) → nag_found o rest ≡ Some (item, next) → input ≡ text ++ rest → ((n : ℕ) → o ≡ Some n → IsSpelled (Nag n) text rest) → Parted (stands_outside start) input item next
nag_taken start input text None item rest next e parts spelled = absurd cc
nag_taken start input text (Some n) item rest next e parts spelled = at_pair (stands_outside start) input text (Nag n) item rest next e parts refl (spelled n refl)

glyph_taken : (start : Bool) (b : ℕ) (bytes : List ℕ) (item : Item) (next : List ℕ) → is_glyph b ≡ true → run_at is_glyph glyph_found (b ∷ bytes) ≡ Some (item, next) → Parted (stands_outside start) (b ∷ bytes) item next
glyph_taken start b bytes item next e found =
    let n = prefix_len is_glyph (b ∷ bytes) in
    let w = take n (b ∷ bytes) in
    let rest = drop n (b ∷ bytes) in
    nag_taken start (b ∷ bytes) w (glyph_value w) item rest next (run_is is_glyph glyph_found (b ∷ bytes) _ found) (sym (take-append-drop n (b ∷ bytes))) (λ k h. inr (run_of is_glyph b bytes e, h))

small_is : (v n : ℕ) → small v ≡ Some n → (n ≡ v) × (n < 256)
small_is v n e = by_test (ltb v 256) _ _ _ e (λ w h. let s : v ≡ n = some_is _ _ h in (sym s, omega (arith, ltb-true _ _ w))) (λ w h. absurd cc)

dollar_ends : (start : Bool) (ds rest : List ℕ) (item : Item) (next : List ℕ) → Each is_digit ds → EndsRun is_digit rest → digits_found ds rest ≡ Some (item, next) → Parted (stands_outside start) (36 ∷ ds ++ rest) item next
dollar_ends start [] rest item next each stops found = absurd cc
dollar_ends start (d ∷ ds) rest item next each stops found =
    nag_taken start (36 ∷ (d ∷ ds) ++ rest) (36 ∷ d ∷ ds) (small (digits_value 0 (d ∷ ds))) item rest next found refl
    (λ n h. let s = small_is (digits_value 0 (d ∷ ds)) n h in inl (d ∷ ds, refl, record { some = λ z. cc; each = each; stops = stops }, s.0, s.1))

dollar_taken : (start : Bool) (bytes : List ℕ) (item : Item) (next : List ℕ) → run_at is_digit digits_found bytes ≡ Some (item, next) → Parted (stands_outside start) (36 ∷ bytes) item next
dollar_taken start = run_behind (stands_outside start) 36 is_digit digits_found (dollar_ends start)

brace_stop : (b : ℕ) → in_braces b ≡ false → b ≡ 125
brace_stop b e = grind (arith, nat_tests)

brace_ends : (start : Bool) (t rest : List ℕ) (item : Item) (next : List ℕ) → Each in_braces t → EndsRun in_braces rest → braces_found t rest ≡ Some (item, next) → Parted (stands_outside start) (123 ∷ t ++ rest) item next
brace_ends start t [] item next each stops found = absurd cc
brace_ends start t (b ∷ rest) item next each stops found =
    at_pair (stands_outside start) (123 ∷ t ++ b ∷ rest) (123 ∷ t ++ 125 ∷ []) (Comment t) item rest next found
    (rw (brace_stop b stops) (ap (λ (x : List ℕ). 123 ∷ x) (sym (append_assoc t (125 ∷ []) rest)))) refl (inl (refl, each))

brace_taken : (start : Bool) (bytes : List ℕ) (item : Item) (next : List ℕ) → run_at in_braces braces_found bytes ≡ Some (item, next) → Parted (stands_outside start) (123 ∷ bytes) item next
brace_taken start = run_behind (stands_outside start) 123 in_braces braces_found (brace_ends start)

line_of : (bytes : List ℕ) → IsToLineEnd (take (prefix_len in_line bytes) bytes) (drop (prefix_len in_line bytes) bytes)
line_of bytes = record { each = prefix_each in_line bytes; stops = prefix_stops in_line bytes }

line_taken : (start : Bool) (bytes : List ℕ) (item : Item) (next : List ℕ) → run_at in_line line_found bytes ≡ Some (item, next) → Parted (stands_outside start) (59 ∷ bytes) item next
line_taken start bytes item next found =
    let n = prefix_len in_line bytes in
    at_pair (stands_outside start) (59 ∷ bytes) (59 ∷ take n bytes) (Comment (map without_brace (take n bytes))) item (drop n bytes) next (run_is in_line line_found bytes _ found)
    (ap (λ (x : List ℕ). 59 ∷ x) (sym (take-append-drop n bytes))) refl (inr (take n bytes, refl, line_of bytes, refl))

hidden_taken : (stands : Item → Bool) (start : Bool) (bytes : List ℕ) (item : Item) (next : List ℕ) → stands Hidden ≡ start → hidden_at start bytes ≡ Some (item, next) → Parted stands (37 ∷ bytes) item next
hidden_taken stands false bytes item next s found = absurd cc
hidden_taken stands true bytes item next s found =
    let n = prefix_len in_line bytes in
    at_pair stands (37 ∷ bytes) (37 ∷ take n bytes) Hidden item (drop n bytes) next (run_is in_line hidden_found bytes _ found)
    (ap (λ (x : List ℕ). 37 ∷ x) (sym (take-append-drop n bytes))) s (take n bytes, refl, line_of bytes)

-- ---- outside of tags

mark_taken : (start : Bool) (bytes : List ℕ) (item : Item) (next : List ℕ) → mark_at bytes ≡ Some (item, next) → Parted (stands_outside start) (239 ∷ bytes) item next
mark_taken start [] item next e = absurd cc
mark_taken start (b ∷ []) item next e = absurd cc
mark_taken start (b ∷ c ∷ bytes) item next e =
    by_test (eqb b 187) _ _ _ e (λ w e.
    by_test (eqb c 191) _ _ _ e (λ v h. at_pair (stands_outside start) (239 ∷ b ∷ c ∷ bytes) (239 ∷ 187 ∷ 191 ∷ []) Mark item bytes next h (rw (eqb-true _ _ w, eqb-true _ _ v) refl) refl refl) (λ v h. absurd cc)) (λ w h. absurd cc)

sign_taken : (start : Bool) (b : ℕ) (bytes : List ℕ) (item : Item) (next : List ℕ) → sign_at start b bytes ≡ Some (item, next) → Parted (stands_outside start) (b ∷ bytes) item next
unfolding sign_at
sign_taken start b bytes item next e =
    let at = stands_outside start in
    by_test (eqb b 37) _ _ _ e (λ w h. headed at b 37 bytes item next w (hidden_taken at start bytes item next refl h)) (λ w e.
    by_test (eqb b 59) _ _ _ e (λ w h. headed at b 59 bytes item next w (line_taken start bytes item next h)) (λ w e.
    by_test (eqb b 123) _ _ _ e (λ w h. headed at b 123 bytes item next w (brace_taken start bytes item next h)) (λ w e.
    by_test (eqb b 36) _ _ _ e (λ w h. headed at b 36 bytes item next w (dollar_taken start bytes item next h)) (λ w e.
    by_test (eqb b 40) _ _ _ e (λ w h. one_byte at b 40 bytes Open item next w refl refl h) (λ w e.
    by_test (eqb b 41) _ _ _ e (λ w h. one_byte at b 41 bytes Close item next w refl refl h) (λ w e.
    by_test (eqb b 42) _ _ _ e (λ w h. one_byte at b 42 bytes (Marker Unfinished) item next w refl (inl (refl, refl)) h) (λ w e.
    by_test (eqb b 46) _ _ _ e (λ w h. one_byte at b 46 bytes Skipped item next w refl (inl refl) h) (λ w e.
    by_test (eqb b 91) _ _ _ e (λ w h. one_byte at b 91 bytes TagOpen item next w refl refl h) (λ w e.
    by_test (eqb b 239) _ _ _ e (λ w h. headed at b 239 bytes item next w (mark_taken start bytes item next h)) (λ w e. absurd cc))))))))))

blank_taken : (stands : Item → Bool) (b : ℕ) (bytes : List ℕ) (item : Item) (next : List ℕ) → stands (Blank b) ≡ true → is_blank b ≡ true → the (Blank b) bytes ≡ the item next → Parted stands (b ∷ bytes) item next
blank_taken stands b bytes item next s h e = at_pair stands (b ∷ bytes) (b ∷ []) (Blank b) item bytes next e refl s (h, refl)

pub outside_taken : (start : Bool) (input : List ℕ) (item : Item) (next : List ℕ) → outside_at start input ≡ Some (item, next) → Parted (stands_outside start) input item next
unfolding outside_at
outside_taken start [] item next e = absurd cc
outside_taken start (b ∷ bytes) item next e =
    let at = stands_outside start in
    by_test (is_word_byte b) _ _ _ e (λ w h. taken_run at is_word_byte word_item b bytes item next (word_spelled start) w h) (λ w e.
    by_test (is_blank b) _ _ _ e (λ w h. blank_taken at b bytes item next refl w h) (λ w e.
    by_test (is_glyph b) _ _ _ e (λ w h. glyph_taken start b bytes item next w h) (λ w e. sign_taken start b bytes item next e)))

-- ---- between the parts of a tag, and in its value

pub tag_taken : (start : Bool) (input : List ℕ) (item : Item) (next : List ℕ) → tag_at start input ≡ Some (item, next) → Parted (stands_in_tag start) input item next
unfolding tag_at
tag_taken start [] item next e = absurd cc
tag_taken start (b ∷ bytes) item next e =
    let at = stands_in_tag start in
    by_test (is_name_byte b) _ _ _ e (λ w h. taken_run at is_name_byte Name b bytes item next (λ text rest run. (refl, (run, refl))) w h) (λ w e.
    by_test (is_blank b) _ _ _ e (λ w h. blank_taken at b bytes item next refl w h) (λ w e.
    by_test (eqb b 34) _ _ _ e (λ w h. one_byte at b 34 bytes Quote item next w refl refl h) (λ w e.
    by_test (eqb b 93) _ _ _ e (λ w h. one_byte at b 93 bytes TagClose item next w refl refl h) (λ w e.
    by_test (eqb b 37) _ _ _ e (λ w h. headed at b 37 bytes item next w (hidden_taken at start bytes item next refl h)) (λ w e. absurd cc)))))

escaped_taken : (bytes : List ℕ) (item : Item) (next : List ℕ) → escaped_at bytes ≡ Some (item, next) → Parted stands_in_value (92 ∷ bytes) item next
escaped_taken [] item next e = at_pair stands_in_value (92 ∷ []) (92 ∷ []) (Stretch (92 ∷ [])) item [] next e refl refl (refl, inr (refl, tt))
escaped_taken (b ∷ bytes) item next e =
    by_test (is_escapable b) _ _ _ e (λ w h. at_pair stands_in_value (92 ∷ b ∷ bytes) (92 ∷ b ∷ []) (Escaped b) item bytes next h refl refl (w, refl))
    (λ w h. at_pair stands_in_value (92 ∷ b ∷ bytes) (92 ∷ []) (Stretch (92 ∷ [])) item (b ∷ bytes) next h refl refl (refl, inr (refl, w)))

pub value_taken : (input : List ℕ) (item : Item) (next : List ℕ) → value_at input ≡ Some (item, next) → Parted stands_in_value input item next
unfolding value_at
value_taken [] item next e = absurd cc
value_taken (b ∷ bytes) item next e =
    by_test (eqb b 34) _ _ _ e (λ w h. one_byte stands_in_value b 34 bytes Quote item next w refl refl h) (λ w1 e.
    by_test (eqb b 92) _ _ _ e (λ w h. headed stands_in_value b 92 bytes item next w (escaped_taken bytes item next h)) (λ w2 e.
    by_test (eqb b 10) _ _ _ e (λ w h. absurd cc) (λ w3 h.
    taken_run stands_in_value is_plain Stretch b bytes item next (λ text rest run. (refl, (refl, inl run))) (plain_byte b w1 w2 w3) h)))

-- ---- anywhere

-- the beginning of the input is the text of the item
abbrev pub Taken : Place → List ℕ → Item → List ℕ → Type 0
Taken place input item next = (text : List ℕ) × (input ≡ text ++ next) × IsItem place item text next

at_place : (place : Place) (stands : Item → Bool) (input : List ℕ) (item : Item) (next : List ℕ) → ((i : Item) → stands i ≡ true → may_stand place i ≡ true) → Parted stands input item next → Taken place input item next
at_place place stands input item next f p = (p.0, p.1, record { stands = f item p.2; spelled = p.3 })

-- what is found at a place is an item that may be there
pub item_taken : (place : Place) (input : List ℕ) (item : Item) (next : List ℕ) → item_at place input ≡ Some (item, next) → Taken place input item next
unfolding item_at
item_taken GameStart input item next e = at_place GameStart (stands_outside true) input item next (λ i s. may_stand_is GameStart i ∙ s) (outside_taken true input item next e)
item_taken LineStart input item next e = at_place LineStart (stands_outside true) input item next (λ i s. may_stand_is LineStart i ∙ s) (outside_taken true input item next e)
item_taken InLine input item next e = at_place InLine (stands_outside false) input item next (λ i s. may_stand_is InLine i ∙ s) (outside_taken false input item next e)
item_taken TagLineStart input item next e = at_place TagLineStart (stands_in_tag true) input item next (λ i s. may_stand_is TagLineStart i ∙ s) (tag_taken true input item next e)
item_taken InTag input item next e = at_place InTag (stands_in_tag false) input item next (λ i s. may_stand_is InTag i ∙ s) (tag_taken false input item next e)
item_taken InValue input item next e = at_place InValue stands_in_value input item next (λ i s. may_stand_is InValue i ∙ s) (value_taken input item next e)
