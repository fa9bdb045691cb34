-- An item that ends before a byte does not depend on what is after that byte.
use Rattle.std.proofs.Common.{◌≡◌, ◌<◌, ◌≤◌, ◌⊎◌, inl, inr, ℕ, suc, ◌+◌, Bool, List, [], ◌∷◌, ◌++◌, length, refl, sym, ap, subst, ◌∙◌, arith, append_assoc, append-nil, length-append}
use Rattle.chess_items.specs.Items.{Item, Mark, Blank, Hidden, Comment, Skipped, Word, Nag, Open, Close, Marker, TagOpen, TagClose, Name, Quote, Stretch, Escaped}
use Rattle.chess_items.specs.Items.{IsRun, IsToLineEnd, IsSpelled, IsItem, is_digit, is_glyph, is_name_byte, is_plain, is_word_byte}
use Rattle.chess_items.specs.steps.ItemAt.{Found, item_at}
use Rattle.chess_items.specs.steps.Deciding.{longer, Decides}
use Rattle.chess_items.specs.declared.place.Place.{Place}
use Rattle.chess_items.proofs.ItemLemmas.{item_goes}
use Rattle.chess_items.proofs.FoundLemmas.{the, item_taken, some_is}

run_local : (p : ℕ → Bool) (text : List ℕ) (c : ℕ) (n1 n2 : List ℕ) → IsRun p text (c ∷ n1) → IsRun p text (c ∷ n2)
run_local p text c n1 n2 r = record { some = r.some; each = r.each; stops = r.stops }

run_end : (p : ℕ → Bool) (text next : List ℕ) → IsRun p text next → IsRun p text []
run_end p text next r = record { some = r.some; each = r.each; stops = tt }

line_local : (line : List ℕ) (c : ℕ) (n1 n2 : List ℕ) → IsToLineEnd line (c ∷ n1) → IsToLineEnd line (c ∷ n2)
line_local line c n1 n2 l = record { each = l.each; stops = l.stops }

spelled_local : (item : Item) (text : List ℕ) (c : ℕ) (n1 n2 : List ℕ) → IsSpelled item text (c ∷ n1) → IsSpelled item text (c ∷ n2)
spelled_local Mark text c n1 n2 p = p
spelled_local (Blank b) text c n1 n2 p = p
spelled_local Hidden text c n1 n2 p = (p.0, p.1, line_local p.0 c n1 n2 p.2)
spelled_local (Comment t) text c n1 n2 (inl p) = inl p
spelled_local (Comment t) text c n1 n2 (inr p) = inr (p.0, p.1, line_local p.0 c n1 n2 p.2, p.3)
spelled_local Skipped text c n1 n2 (inl e) = inl e
spelled_local Skipped text c n1 n2 (inr p) = inr (run_local is_word_byte text c n1 n2 p.0, p.1)
spelled_local (Word w) text c n1 n2 p = (run_local is_word_byte text c n1 n2 p.0, p.1)
spelled_local (Nag n) text c n1 n2 (inl p) = inl (p.0, p.1, run_local is_digit p.0 c n1 n2 p.2, p.3, p.4)
spelled_local (Nag n) text c n1 n2 (inr p) = inr (run_local is_glyph text c n1 n2 p.0, p.1)
spelled_local Open text c n1 n2 p = p
spelled_local Close text c n1 n2 p = p
spelled_local (Marker o) text c n1 n2 (inl e) = inl e
spelled_local (Marker o) text c n1 n2 (inr p) = inr (run_local is_word_byte text c n1 n2 p.0, p.1)
spelled_local TagOpen text c n1 n2 p = p
spelled_local TagClose text c n1 n2 p = p
spelled_local (Name t) text c n1 n2 p = (run_local is_name_byte text c n1 n2 p.0, p.1)
spelled_local Quote text c n1 n2 p = p
spelled_local (Stretch t) text c n1 n2 (e, inl run) = (e, inl (run_local is_plain text c n1 n2 run))
spelled_local (Stretch t) text c n1 n2 (e, inr p) = (e, inr p)
spelled_local (Escaped b) text c n1 n2 p = p

item_local : (place : Place) (item : Item) (text : List ℕ) (c : ℕ) (n1 n2 : List ℕ) → IsItem place item text (c ∷ n1) → IsItem place item text (c ∷ n2)
item_local place item text c n1 n2 p = record { stands = p.stands; spelled = spelled_local item text c n1 n2 p.spelled }

-- text before a byte decides its item
text_decides : (place : Place) (item : Item) (text : List ℕ) (c : ℕ) (n1 n2 : List ℕ) → IsItem place item text (c ∷ n1) → Decides place (text ++ c ∷ n2)
text_decides place item text c n1 n2 is = λ more.
    let longer_one : item_at place ((text ++ c ∷ n2) ++ more) ≡ the item (c ∷ (n2 ++ more)) =
    rw (append_assoc text (c ∷ n2) more) (item_goes place item text (c ∷ (n2 ++ more)) (item_local place item text c n1 (n2 ++ more) is)) in
    let short_one : item_at place (text ++ c ∷ n2) ≡ the item (c ∷ n2) = item_goes place item text (c ∷ n2) (item_local place item text c n1 n2 is) in
    longer_one ∙ ap (λ (x : Found). longer x more) (sym short_one)

-- either the item's text ends in the prefix, or it reaches its end
abbrev Ends : List ℕ → List ℕ → List ℕ → List ℕ → Type 0
Ends prefix p text next = ((c : ℕ) × (s : List ℕ) × (prefix ≡ text ++ c ∷ s) × (next ≡ c ∷ (s ++ p))) ⊎ (length next ≤ length p)

tail_is : (a b : ℕ) (s t : List ℕ) → a ∷ s ≡ b ∷ t → (a ≡ b) × (s ≡ t)
tail_is a b s t e = (cc, cc)

where_ends : (prefix p text next : List ℕ) → prefix ++ p ≡ text ++ next → Ends prefix p text next
where_ends [] p text next e = inr (let h : length p ≡ length text + length next = ap length e ∙ length-append text next in omega arith)
where_ends (b ∷ prefix) p [] next e = inl (b, prefix, refl, sym e)
where_ends (b ∷ prefix) p (c ∷ text) next e =
    let t = tail_is b c (prefix ++ p) (text ++ next) e in
    elim (where_ends prefix p text next t.1) [
      | inl h ↦ inl (h.0, h.1, rw (t.0, h.2) refl, h.3)
      | inr h ↦ inr h
    ]

-- Where the prefix does not decide the item, the item takes the whole prefix.
pub undecided_taken : (place : Place) (prefix p : List ℕ) (item : Item) (next : List ℕ) → (Decides place prefix → ⊥) → item_at place (prefix ++ p) ≡ the item next → length next ≤ length p
undecided_taken place prefix p item next undecided e =
    let t = item_taken place (prefix ++ p) item next e in
    elim (where_ends prefix p t.0 next t.1) [
      | inl h ↦ absurd (undecided (rw (h.2) (text_decides place item t.0 h.0 (h.1 ++ p) h.1 (subst (λ (x : List ℕ). IsItem place item t.0 x) h.3 t.2))))
      | inr h ↦ h
    ]

some_text : (item : Item) (next : List ℕ) → IsSpelled item [] next → ⊥
some_text Mark next p = cc
some_text (Blank b) next p = (let h = p.1 in cc)
some_text Hidden next p = (let h = p.1 in cc)
some_text (Comment t) next (inl p) = (let h = p.0 in cc)
some_text (Comment t) next (inr p) = (let h = p.1 in cc)
some_text Skipped next (inl p) = cc
some_text Skipped next (inr p) = p.0.some refl
some_text (Word w) next p = p.0.some refl
some_text (Nag n) next (inl p) = (let h = p.1 in cc)
some_text (Nag n) next (inr p) = p.0.some refl
some_text Open next p = cc
some_text Close next p = cc
some_text (Marker o) next (inl p) = (let h = p.0 in cc)
some_text (Marker o) next (inr p) = p.0.some refl
some_text TagOpen next p = cc
some_text TagClose next p = cc
some_text (Name t) next p = p.0.some refl
some_text Quote next p = cc
some_text (Stretch t) next (e, inl run) = run.some refl
some_text (Stretch t) next (e, inr p) = (let h = p.0 in cc)
some_text (Escaped b) next p = (let h = p.1 in cc)

-- An item has a byte.
pub text_shorter : (place : Place) (item : Item) (text input next : List ℕ) → input ≡ text ++ next → IsItem place item text next → length next < length input
text_shorter place item (b ∷ text) input next e p = (let h : length input ≡ suc (length text) + length next = ap length e ∙ length-append (b ∷ text) next in omega arith)
text_shorter place item [] input next e p = absurd (some_text item next p.spelled)

pub item_shorter : (place : Place) (input : List ℕ) (item : Item) (next : List ℕ) → item_at place input ≡ the item next → length next < length input
item_shorter place input item next e =
    let t = item_taken place input item next e in
    text_shorter place item t.0 input next t.1 t.2

-- An item that ends before some bytes ends where there are none.
spelled_end : (item : Item) (text next : List ℕ) → IsSpelled item text next → IsSpelled item text []
spelled_end Mark text next p = p
spelled_end (Blank b) text next p = p
spelled_end Hidden text next p = (p.0, p.1, record { each = p.2.each; stops = tt })
spelled_end (Comment t) text next (inl p) = inl p
spelled_end (Comment t) text next (inr p) = inr (p.0, p.1, record { each = p.2.each; stops = tt }, p.3)
spelled_end Skipped text next (inl e) = inl e
spelled_end Skipped text next (inr p) = inr (run_end is_word_byte text next p.0, p.1)
spelled_end (Word w) text next p = (run_end is_word_byte text next p.0, p.1)
spelled_end (Nag n) text next (inl p) = inl (p.0, p.1, run_end is_digit p.0 next p.2, p.3, p.4)
spelled_end (Nag n) text next (inr p) = inr (run_end is_glyph text next p.0, p.1)
spelled_end Open text next p = p
spelled_end Close text next p = p
spelled_end (Marker o) text next (inl e) = inl e
spelled_end (Marker o) text next (inr p) = inr (run_end is_word_byte text next p.0, p.1)
spelled_end TagOpen text next p = p
spelled_end TagClose text next p = p
spelled_end (Name t) text next p = (run_end is_name_byte text next p.0, p.1)
spelled_end Quote text next p = p
spelled_end (Stretch t) text next (e, inl run) = (e, inl (run_end is_plain text next run))
spelled_end (Stretch t) text next (e, inr p) = (e, inr (p.0, tt))
spelled_end (Escaped b) text next p = p

item_is : (found : Found) (i j : Item) (r q : List ℕ) → found ≡ the i r → found ≡ the j q → i ≡ j
item_is found i j r q e h = ap (λ (z : Item × List ℕ). z.0) (some_is {A = Item × List ℕ} (i, r) (j, q) (sym e ∙ h))

-- two texts after which equally many bytes stand
same_front : (xs ys p q : List ℕ) → xs ++ p ≡ ys ++ q → length p ≡ length q → (xs ≡ ys) × (p ≡ q)
same_front [] [] p q e n = (refl, e)
same_front [] (y ∷ ys) p q e n = absurd (let l = ap length e ∙ length-append (y ∷ ys) q in omega (arith, l, n))
same_front (x ∷ xs) [] p q e n = absurd (let l = sym (length-append (x ∷ xs) p) ∙ ap length e in omega (arith, l, n))
same_front (x ∷ xs) (y ∷ ys) p q e n =
    let t = tail_is x y (xs ++ p) (ys ++ q) e in
    let s = same_front xs ys p q t.1 n in
    (rw (t.0, s.0) refl, s.1)

-- An item that takes these bytes and no more, whatever follows, is decided by them.
pub decided_so_far : (place : Place) (prefix : List ℕ) (k : Item) → item_at place prefix ≡ the k [] → ((more : List ℕ) → (j : Item) × (item_at place (prefix ++ more) ≡ the j more)) → Decides place prefix
decided_so_far place prefix k e f = λ more.
    let g = f more in
    let t = item_taken place (prefix ++ more) g.0 more g.1 in
    let whole : prefix ≡ t.0 = (same_front prefix t.0 more more t.1 refl).0 in
    let ends : IsItem place g.0 prefix [] = subst (λ (x : List ℕ). IsItem place g.0 x []) (sym whole) (record { stands = t.2.stands; spelled = spelled_end g.0 t.0 more t.2.spelled }) in
    let alone : item_at place prefix ≡ the g.0 [] = subst (λ (x : List ℕ). item_at place x ≡ the g.0 []) (append-nil prefix) (item_goes place g.0 prefix [] ends) in
    let same : g.0 ≡ k = item_is (item_at place prefix) g.0 k [] [] alone e in
    g.1 ∙ ap (λ (i : Item). the i more) same ∙ ap (λ (x : Found). longer x more) (sym e)

-- The bytes that follow an item with equally many bytes after it.
pub next_is : (prefix more text next : List ℕ) → prefix ++ more ≡ text ++ next → length next ≡ length more → next ≡ more
next_is prefix more text next e n = sym (same_front prefix text more next e (sym n)).1
