-- An open item is not decided.
use Rattle.std.proofs.Common.{◌≡◌, ◌<◌, ◌-◌, ◌⊎◌, inl, inr, ℕ, zero, suc, take, nat_lt, Bool, true, false, cond, eqb, eqb-true, ◌&&◌, List, [], ◌∷◌, ◌++◌, length, map, Option, Some, None, refl, sym, ap, subst, ◌∙◌, MatchBool, arith, append-nil}
use Rattle.std.specs.List.{list_all}
use Rattle.std.proofs.lemmas.Bool.{ltb-true, lt-ltb}
use Rattle.chess_items.specs.Items.{Item, Blank, Hidden, Comment, Nag, Marker, Name, Stretch, Escaped, Mark, Quote}
use Rattle.chess_items.specs.Items.{digits_value, glyph_value, in_braces, in_line, is_blank, is_digit, is_glyph, is_name_byte, is_plain, is_word_byte, word_item, without_brace}
use Rattle.chess_items.specs.steps.ItemAt.{Found, run_at, word_found, nag_found, small, digits_found, glyph_found, hidden_found, line_found, braces_found, name_found, stretch_found, hidden_at, sign_at, outside_at, tag_at, escaped_at, value_at, mark_at, item_at}
use Rattle.chess_items.specs.steps.Deciding.{longer, Decides, sign_open, outside_open, tag_open, escape_open, value_open, mark_open, is_open}
use Rattle.chess_items.specs.declared.outcome.Outcome.TheVariants.{Unfinished}
use Rattle.chess_items.specs.declared.place.Place.{Place}
use Rattle.chess_items.specs.declared.place.Place.TheVariants.{GameStart, LineStart, InLine, TagLineStart, InTag, InValue}
use Rattle.chess_items.proofs.RunLemmas.{run_found}
use Rattle.chess_items.proofs.ItemLemmas.{glyph_is, plain_byte}
use Rattle.chess_items.proofs.FoundLemmas.{the, some_is}
use Rattle.chess_items.proofs.ClosedLemmas.{all_each, each-append, closed_decides}

-- two findings are not one, the second after these bytes
abbrev Differs : Found → Found → List ℕ → Type 0
Differs x y more = x ≡ longer y more → ⊥

-- some bytes after the prefix make a difference
abbrev Grows : (List ℕ → Found) → List ℕ → Type 0
Grows at prefix = (c : List ℕ) × Differs (at (prefix ++ c)) (at prefix) c

-- a run that reaches the end
pub run_whole : (p : ℕ → Bool) (f : List ℕ → List ℕ → Found) (bytes : List ℕ) → list_all p bytes ≡ true → run_at p f bytes ≡ f bytes []
run_whole p f bytes h = subst (λ (x : List ℕ). run_at p f x ≡ f bytes []) (append-nil bytes) (run_found p f bytes [] (all_each p bytes h) tt)

-- with another byte of the run
run_longer : (p : ℕ → Bool) (f : List ℕ → List ℕ → Found) (bytes : List ℕ) (c : ℕ) → p c ≡ true → list_all p bytes ≡ true → run_at p f (bytes ++ c ∷ []) ≡ f (bytes ++ c ∷ []) []
run_longer p f bytes c e h =
    subst (λ (x : List ℕ). run_at p f x ≡ f (bytes ++ c ∷ []) []) (append-nil (bytes ++ c ∷ []))
    (run_found p f (bytes ++ c ∷ []) [] (each-append p bytes (c ∷ []) (all_each p bytes h) (e, tt)) tt)

-- what is found with nothing after it is not what is found with a byte after it
ends : (i j : Item) (c : ℕ) → Some (i, []) ≡ longer (Some (j, [])) (c ∷ []) → ⊥
ends i j c e =
    let p = some_is {A = Item × List ℕ} (i, []) (j, c ∷ []) e in
    let q : [] ≡ c ∷ [] = ap (λ (z : Item × List ℕ). z.1) p in
    cc

apart : (item : Item) (rest : List ℕ) → the item rest ≡ None → ⊥
apart item rest e = cc

-- a run that is some item, however long
run_grows : (p : ℕ → Bool) (f : List ℕ → List ℕ → Found) (g : List ℕ → Item) (bytes : List ℕ) (c : ℕ) → ((w : List ℕ) → f w [] ≡ Some (g w, [])) → p c ≡ true → list_all p bytes ≡ true → Differs (run_at p f (bytes ++ c ∷ [])) (run_at p f bytes) (c ∷ [])
run_grows p f g bytes c some e h d =
    let a : run_at p f (bytes ++ c ∷ []) ≡ Some (g (bytes ++ c ∷ []), []) = run_longer p f bytes c e h ∙ some (bytes ++ c ∷ []) in
    let b : run_at p f bytes ≡ Some (g bytes, []) = run_whole p f bytes h ∙ some bytes in
    ends (g (bytes ++ c ∷ [])) (g bytes) c (sym a ∙ d ∙ ap (λ (x : Found). longer x (c ∷ [])) b)

braces_grow : (bytes : List ℕ) → list_all in_braces bytes ≡ true → Differs (run_at in_braces braces_found (bytes ++ 125 ∷ [])) (run_at in_braces braces_found bytes) (125 ∷ [])
braces_grow bytes h d =
    let a : run_at in_braces braces_found (bytes ++ 125 ∷ []) ≡ Some (Comment bytes, []) = run_found in_braces braces_found bytes (125 ∷ []) (all_each in_braces bytes h) refl in
    let b : run_at in_braces braces_found bytes ≡ None = run_whole in_braces braces_found bytes h in
    apart (Comment bytes) [] (sym a ∙ d ∙ ap (λ (x : Found). longer x (125 ∷ [])) b)

small_some : (n : ℕ) → n < 256 → small n ≡ Some n
small_some n h = rw (lt-ltb n 256 h) refl

-- no annotation ends sooner than its run
nag_ends : (o : Option ℕ) (n : ℕ) (c : ℕ) → nag_found o [] ≡ longer (Some (Nag n, [])) (c ∷ []) → ⊥
nag_ends None n c e = cc
nag_ends (Some m) n c e = ends (Nag m) (Nag n) c e

digits_end : (ds : List ℕ) (n c : ℕ) → digits_found ds [] ≡ longer (Some (Nag n, [])) (c ∷ []) → ⊥
digits_end [] n c e = cc
digits_end (d ∷ ds) n c e = nag_ends (small (digits_value 0 (d ∷ ds))) n c e

digits_grow : (bytes : List ℕ) → list_all is_digit bytes ≡ true → digits_value 0 bytes < 256 → Differs (run_at is_digit digits_found (bytes ++ 49 ∷ [])) (run_at is_digit digits_found bytes) (49 ∷ [])
unfolding is_digit
digits_grow [] h low d =
    let a : run_at is_digit digits_found (49 ∷ []) ≡ the (Nag 1) [] = run_longer is_digit digits_found [] 49 refl refl in
    let b : run_at is_digit digits_found [] ≡ None = run_whole is_digit digits_found [] refl in
    apart (Nag 1) [] (sym a ∙ d ∙ ap (λ (x : Found). longer x (49 ∷ [])) b)
digits_grow (x ∷ xs) h low d =
    let bytes = x ∷ xs in
    let a : run_at is_digit digits_found (bytes ++ 49 ∷ []) ≡ digits_found (bytes ++ 49 ∷ []) [] = run_longer is_digit digits_found bytes 49 refl h in
    let b : run_at is_digit digits_found bytes ≡ Some (Nag (digits_value 0 bytes), []) = run_whole is_digit digits_found bytes h ∙ ap (λ (o : Option ℕ). nag_found o []) (small_some (digits_value 0 bytes) low) in
    digits_end (bytes ++ 49 ∷ []) (digits_value 0 bytes) 49 (sym a ∙ d ∙ ap (λ (x : Found). longer x (49 ∷ [])) b)

one_glyph : (b : ℕ) → (b ≡ 33) ⊎ (b ≡ 63) → (n : ℕ) × (glyph_value (b ∷ []) ≡ Some n)
unfolding glyph_value
one_glyph b (inl e) = (1, rw e refl)
one_glyph b (inr e) = (2, rw e refl)

two_glyphs : (b c : ℕ) → (b ≡ 33) ⊎ (b ≡ 63) → (c ≡ 33) ⊎ (c ≡ 63) → (n : ℕ) × (glyph_value (b ∷ c ∷ []) ≡ Some n)
unfolding glyph_value
two_glyphs b c (inl e) (inl h) = (3, rw (e, h) refl)
two_glyphs b c (inr e) (inr h) = (4, rw (e, h) refl)
two_glyphs b c (inl e) (inr h) = (5, rw (e, h) refl)
two_glyphs b c (inr e) (inl h) = (6, rw (e, h) refl)

one_true : (a : Bool) → a && true ≡ true → a ≡ true
one_true true e = refl
one_true false e = e

few_glyphs : (b : ℕ) (bytes : List ℕ) → is_glyph b ≡ true → list_all is_glyph bytes ≡ true → length bytes < 2 → (n : ℕ) × (glyph_value (b ∷ bytes) ≡ Some n)
few_glyphs b [] e h k = one_glyph b (glyph_is b e)
few_glyphs b (c ∷ []) e h k = two_glyphs b c (glyph_is b e) (glyph_is c (one_true _ h))
few_glyphs b (c ∷ d ∷ bytes) e h k = absurd (omega arith)

glyphs_grow : (b : ℕ) (bytes : List ℕ) → is_glyph b ≡ true → list_all is_glyph bytes ≡ true → length bytes < 2 → Differs (run_at is_glyph glyph_found (b ∷ bytes ++ b ∷ [])) (run_at is_glyph glyph_found (b ∷ bytes)) (b ∷ [])
glyphs_grow b bytes e h k d =
    let few = few_glyphs b bytes e h k in
    let whole : list_all is_glyph (b ∷ bytes) ≡ true = rw (e, h) refl in
    let a : run_at is_glyph glyph_found (b ∷ bytes ++ b ∷ []) ≡ glyph_found (b ∷ bytes ++ b ∷ []) [] = run_longer is_glyph glyph_found (b ∷ bytes) b e whole in
    let r : run_at is_glyph glyph_found (b ∷ bytes) ≡ Some (Nag few.0, []) = run_whole is_glyph glyph_found (b ∷ bytes) whole ∙ ap (λ (o : Option ℕ). nag_found o []) few.1 in
    nag_ends (glyph_value (b ∷ bytes ++ b ∷ [])) few.0 b (sym a ∙ d ∙ ap (λ (x : Found). longer x (b ∷ [])) r)

both : (a b : Bool) → a && b ≡ true → (a ≡ true) × (b ≡ true)
both true b e = (refl, e)
both false b e = absurd cc

hidden_grows : (start : Bool) (bytes : List ℕ) → start && list_all in_line bytes ≡ true → Differs (hidden_at start (bytes ++ 37 ∷ [])) (hidden_at start bytes) (37 ∷ [])
hidden_grows true bytes h d = run_grows in_line hidden_found (λ w. Hidden) bytes 37 (λ w. refl) refl h d
hidden_grows false bytes h d = absurd cc

-- the bytes after a prefix that begins as a mark does
mark_grows : (bytes : List ℕ) → mark_open bytes ≡ true → (more : List ℕ) × Differs (mark_at (bytes ++ more)) (mark_at bytes) more
mark_grows [] e = (187 ∷ 191 ∷ [], apart Mark [])
mark_grows (b ∷ []) e = (191 ∷ [], λ d. apart Mark [] (rw e at d))
mark_grows (b ∷ c ∷ bytes) e = absurd cc

-- a chain of tests goes together with another: what is open is a finding that grows
choose : (v o1 o2 : Bool) (x1 x2 : List ℕ → Found) (y1 y2 : Found) → cond v o1 o2 ≡ true → (v ≡ true → o1 ≡ true → (c : List ℕ) × Differs (x1 c) y1 c) → (v ≡ false → o2 ≡ true → (c : List ℕ) × Differs (x2 c) y2 c)
    → (c : List ℕ) × Differs (cond v (x1 c) (x2 c)) (cond v y1 y2) c
choose true o1 o2 x1 x2 y1 y2 e f g = f refl e
choose false o1 o2 x1 x2 y1 y2 e f g = g refl e

mark_sign : (start : Bool) (bytes : List ℕ) → sign_open start 239 bytes ≡ true → (c : List ℕ) × Differs (sign_at start 239 (bytes ++ c)) (sign_at start 239 bytes) c
unfolding sign_open sign_at
mark_sign start bytes e = mark_grows bytes e

other_sign : (start : Bool) (b : ℕ) (bytes : List ℕ) → eqb b 239 ≡ false → sign_open start b bytes ≡ true → (c : List ℕ) × Differs (sign_at start b (bytes ++ c)) (sign_at start b bytes) c
unfolding sign_open sign_at
other_sign start b bytes other e =
    choose (eqb b 37) _ _ _ _ _ _ e (λ w h. (37 ∷ [], hidden_grows start bytes h)) (λ w e.
    choose (eqb b 59) _ _ _ _ _ _ e (λ w h. (37 ∷ [], run_grows in_line line_found (λ w. Comment (map without_brace w)) bytes 37 (λ w. refl) refl h)) (λ w e.
    choose (eqb b 123) _ _ _ _ _ _ e (λ w h. (125 ∷ [], braces_grow bytes h)) (λ w e.
    choose (eqb b 36) _ _ _ _ _ _ e (λ w h. (let two = both _ _ h in (49 ∷ [], digits_grow bytes two.0 (ltb-true _ _ two.1)))) (λ w e. absurd (let z = rw other at e in cc)))))

sign_grows : (start : Bool) (b : ℕ) (bytes : List ℕ) → sign_open start b bytes ≡ true → (c : List ℕ) × Differs (sign_at start b (bytes ++ c)) (sign_at start b bytes) c
sign_grows start b bytes e = go (eqb b 239) refl
  where
    go : (v : Bool) → eqb b 239 ≡ v → (c : List ℕ) × Differs (sign_at start b (bytes ++ c)) (sign_at start b bytes) c
    go true h = subst (λ (x : ℕ). sign_open start x bytes ≡ true → (c : List ℕ) × Differs (sign_at start x (bytes ++ c)) (sign_at start x bytes) c) (sym (eqb-true b 239 h)) (mark_sign start bytes) e
    go false h = other_sign start b bytes h e

-- a run of a class, or what else begins with the byte, but for a blank
run_or_grows : (p : ℕ → Bool) (f : List ℕ → List ℕ → Found) (g : List ℕ → Item) → ((w : List ℕ) → f w [] ≡ Some (g w, [])) → (b : ℕ) (bytes : List ℕ) (o : Bool) (x : List ℕ → Found) (y : Found)
    → cond (p b) (list_all p bytes) (cond (is_blank b) false o) ≡ true → (o ≡ true → (c : List ℕ) × Differs (x c) y c)
    → (c : List ℕ) × Differs (cond (p b) (run_at p f (b ∷ bytes ++ c)) (cond (is_blank b) (Some (Blank b, bytes ++ c)) (x c))) (cond (p b) (run_at p f (b ∷ bytes)) (cond (is_blank b) (Some (Blank b, bytes)) y)) c
run_or_grows p f g some b bytes o x y e other =
    choose (p b) _ _ _ _ _ _ e (λ w h. (b ∷ [], run_grows p f g (b ∷ bytes) b some w (rw (w, h) refl))) (λ w e.
    choose (is_blank b) _ _ _ _ _ _ e (λ w h. absurd cc) (λ w h. other h))

nothing_outside : (start : Bool) → Grows (outside_at start) []
unfolding outside_at sign_at is_word_byte is_name_byte is_digit is_blank is_glyph
nothing_outside start = (42 ∷ [], apart (Marker Unfinished) [])

outside_grows : (start : Bool) (prefix : List ℕ) → outside_open start prefix ≡ true → Grows (outside_at start) prefix
unfolding outside_open outside_at
outside_grows start [] e = nothing_outside start
outside_grows start (b ∷ bytes) e =
    run_or_grows is_word_byte word_found word_item (λ w. refl) b bytes _ _ _ e (λ e.
    choose (is_glyph b) _ _ _ _ _ _ e (λ w h. (let two = both _ _ h in (b ∷ [], glyphs_grow b bytes w two.0 (ltb-true _ _ two.1)))) (λ w e. sign_grows start b bytes e))

nothing_in_tag : (start : Bool) → Grows (tag_at start) []
unfolding tag_at is_name_byte is_digit is_blank
nothing_in_tag start = (34 ∷ [], apart Quote [])

tag_grows : (start : Bool) (prefix : List ℕ) → tag_open start prefix ≡ true → Grows (tag_at start) prefix
unfolding tag_open tag_at
tag_grows start [] e = nothing_in_tag start
tag_grows start (b ∷ bytes) e =
    run_or_grows is_name_byte name_found Name (λ w. refl) b bytes _ _ _ e (λ e.
    choose (eqb b 34) _ _ _ _ _ _ e (λ w h. absurd cc) (λ w e.
    choose (eqb b 93) _ _ _ _ _ _ e (λ w h. absurd cc) (λ w e.
    choose (eqb b 37) _ _ _ _ _ _ e (λ w h. (37 ∷ [], hidden_grows start bytes h)) (λ w e. absurd cc))))

escape_grows : (bytes : List ℕ) → escape_open bytes ≡ true → Grows escaped_at bytes
escape_grows [] e = (34 ∷ [], ends (Escaped 34) (Stretch (92 ∷ [])) 34)
escape_grows (b ∷ bytes) e = absurd cc

value_grows : (prefix : List ℕ) → value_open prefix ≡ true → Grows value_at prefix
unfolding value_open value_at
value_grows [] e = (34 ∷ [], apart Quote [])
value_grows (b ∷ bytes) e =
    choose (eqb b 34) _ _ _ _ _ _ e (λ w h. absurd cc) (λ w1 e.
    choose (eqb b 92) _ _ _ _ _ _ e (λ w h. escape_grows bytes h) (λ w2 e.
    choose (eqb b 10) _ _ _ _ _ _ e (λ w h. absurd cc) (λ w3 h.
    let p = plain_byte b w1 w2 w3 in (b ∷ [], run_grows is_plain stretch_found Stretch (b ∷ bytes) b (λ w. refl) p (rw (p, h) refl)))))

pub open_undecided : (place : Place) (prefix : List ℕ) → is_open place prefix ≡ true → Decides place prefix → ⊥
unfolding is_open item_at
open_undecided GameStart prefix e d = (let g = outside_grows true prefix e in g.1 (d g.0))
open_undecided LineStart prefix e d = (let g = outside_grows true prefix e in g.1 (d g.0))
open_undecided InLine prefix e d = (let g = outside_grows false prefix e in g.1 (d g.0))
open_undecided TagLineStart prefix e d = (let g = tag_grows true prefix e in g.1 (d g.0))
open_undecided InTag prefix e d = (let g = tag_grows false prefix e in g.1 (d g.0))
open_undecided InValue prefix e d = (let g = value_grows prefix e in g.1 (d g.0))

starts_open : (place : Place) → is_open place [] ≡ true
unfolding is_open outside_open tag_open value_open
starts_open GameStart = refl
starts_open _ = refl

-- No bytes decide nothing.
pub nothing_undecided : (place : Place) → Decides place [] → ⊥
nothing_undecided place = open_undecided place [] (starts_open place)

pub open_if : (place : Place) (prefix : List ℕ) → (Decides place prefix → ⊥) → is_open place prefix ≡ true
open_if place prefix h = go (is_open place prefix) refl
  where
    go : (v : Bool) → is_open place prefix ≡ v → is_open place prefix ≡ true
    go true e = e
    go false e = absurd (h (closed_decides place prefix e))

pub decided_so : (place : Place) (prefix : List ℕ) (v : Bool) → v ≡ is_open place prefix → MatchBool v (Decides place prefix → ⊥) (Decides place prefix)
decided_so place prefix true e = open_undecided place prefix (sym e)
decided_so place prefix false e = closed_decides place prefix (sym e)

-- ---- what was looked at after a first byte

one_less : (seen n : ℕ) → seen ≡ suc n - 1 → seen ≡ n
one_less seen n e = omega (arith, e)

none_seen : (seen : ℕ) → seen ≡ 0 - 1 → seen ≡ 0
none_seen seen e = omega (arith, e)

seen_list : (p : ℕ → Bool) (start : Bool) (c : ℕ) → ((xs : List ℕ) → outside_open start (c ∷ xs) ≡ true → list_all p xs ≡ true) → (looked seen : ℕ) (rest : List ℕ) → seen ≡ looked - 1 → outside_open start (take looked (c ∷ rest)) ≡ true → list_all p (take seen rest) ≡ true
seen_list p start c is zero seen rest e h = subst (λ (k : ℕ). list_all p (take k rest) ≡ true) (sym (none_seen seen e)) refl
seen_list p start c is (suc n) seen rest e h = subst (λ (k : ℕ). list_all p (take k rest) ≡ true) (sym (one_less seen n e)) (is (take n rest) h)

open_brace : (start : Bool) (xs : List ℕ) → outside_open start (123 ∷ xs) ≡ true → list_all in_braces xs ≡ true
unfolding outside_open sign_open is_word_byte is_name_byte is_digit is_blank is_glyph
open_brace start xs h = h

open_digits : (start : Bool) (xs : List ℕ) → outside_open start (36 ∷ xs) ≡ true → list_all is_digit xs && nat_lt (digits_value 0 xs) 256 ≡ true
unfolding outside_open sign_open is_word_byte is_name_byte is_digit is_blank is_glyph
open_digits start xs h = h

module _ (start : Bool) (looked : ℕ) {seen b : ℕ} {bytes rest : List ℕ} where
  pub brace_seen : bytes ≡ b ∷ rest → b ≡ 123 → seen ≡ looked - 1 → outside_open start (take looked bytes) ≡ true → list_all in_braces (take seen rest) ≡ true
  brace_seen e h n o = seen_list in_braces start 123 (open_brace start) looked seen rest n (subst (λ (x : List ℕ). outside_open start (take looked x) ≡ true) (e ∙ ap (λ (x : ℕ). x ∷ rest) h) o)

  pub digits_seen : bytes ≡ b ∷ rest → b ≡ 36 → seen ≡ looked - 1 → outside_open start (take looked bytes) ≡ true → list_all is_digit (take seen rest) ≡ true
  digits_seen e h n o = seen_list is_digit start 36 (λ xs k. (both _ _ (open_digits start xs k)).0) looked seen rest n (subst (λ (x : List ℕ). outside_open start (take looked x) ≡ true) (e ∙ ap (λ (x : ℕ). x ∷ rest) h) o)

  pub small_seen : bytes ≡ b ∷ rest → b ≡ 36 → seen ≡ looked - 1 → outside_open start (take looked bytes) ≡ true → digits_value 0 (take seen rest) < 256
  small_seen e h n o = go looked n (subst (λ (x : List ℕ). outside_open start (take looked x) ≡ true) (e ∙ ap (λ (x : ℕ). x ∷ rest) h) o)
    where
      go : (looked : ℕ) → seen ≡ looked - 1 → outside_open start (take looked (36 ∷ rest)) ≡ true → digits_value 0 (take seen rest) < 256
      go zero n k = subst (λ (k : ℕ). digits_value 0 (take k rest) < 256) (sym (none_seen seen n)) (omega arith)
      go (suc m) n k = subst (λ (k : ℕ). digits_value 0 (take k rest) < 256) (sym (one_less seen m n)) (ltb-true _ _ (both _ _ (open_digits start (take m rest) k)).1)
