-- The marks of check and mate after a text are dropped, and no other byte.
use Rattle.std.proofs.Common.{◌≡◌, ℕ, Bool, true, false, cond, List, [], ◌∷◌, ◌++◌, reverse, refl, sym, ap, ◌∙◌}
use Rattle.std.specs.Prelude.{codes}
use Rattle.std.proofs.lemmas.List.{reverse-append, reverse-reverse}
use Rattle.byte_streams.specs.Words.{is_gap, skip_gaps, without_last_gaps}
use Rattle.chess_san.specs.Forms.{marks}

-- the text ends in a byte that is no mark
abbrev pub Unmarked : List ℕ → Type 0
Unmarked [] = ⊥
Unmarked (b ∷ []) = is_gap marks b ≡ false
Unmarked (b ∷ c ∷ rest) = Unmarked (c ∷ rest)

pub unmarked_cons : (b : ℕ) (rest : List ℕ) → Unmarked rest → Unmarked (b ∷ rest)
unmarked_cons b [] h = absurd h
unmarked_cons b (c ∷ rest) h = h

pub unmarked_append : (xs ys : List ℕ) → Unmarked ys → Unmarked (xs ++ ys)
unmarked_append [] ys h = h
unmarked_append (x ∷ xs) ys h = unmarked_cons x (xs ++ ys) (unmarked_append xs ys h)

record Ended (text : List ℕ) : Type 0 where
  before : List ℕ
  last : ℕ
  is : text ≡ before ++ last ∷ []
  plain : is_gap marks last ≡ false

ended : (text : List ℕ) → Unmarked text → Ended text
ended [] h = absurd h
ended (b ∷ []) h = record { before = []; last = b; is = refl; plain = h }
ended (b ∷ c ∷ rest) h =
    let e = ended (c ∷ rest) h in
    record { before = b ∷ e.before; last = e.last; is = ap (λ (l : List ℕ). b ∷ l) e.is; plain = e.plain }

kept_at : (xs : List ℕ) (b : ℕ) → is_gap marks b ≡ false → skip_gaps marks (reverse (xs ++ b ∷ [])) ≡ reverse (xs ++ b ∷ [])
kept_at xs b h =
    let e : reverse (xs ++ b ∷ []) ≡ b ∷ reverse xs = reverse-append xs (b ∷ []) in
    let skip : skip_gaps marks (b ∷ reverse xs) ≡ b ∷ reverse xs = rw h refl in
    ap (skip_gaps marks) e ∙ skip ∙ sym e

kept : (text : List ℕ) → Unmarked text → skip_gaps marks (reverse text) ≡ reverse text
kept text h =
    let e = ended text h in
    ap (λ (l : List ℕ). skip_gaps marks (reverse l)) e.is ∙ kept_at e.before e.last e.plain ∙ ap reverse (sym e.is)

plus_last : (text : List ℕ) → reverse (text ++ 43 ∷ []) ≡ 43 ∷ reverse text
plus_last text = reverse-append text (43 ∷ [])

hash_last : (text : List ℕ) → reverse (text ++ 35 ∷ []) ≡ 35 ∷ reverse text
hash_last text = reverse-append text (35 ∷ [])

bare_kept : (text : List ℕ) → Unmarked text → without_last_gaps marks text ≡ text
bare_kept text h = ap reverse (kept text h) ∙ reverse-reverse text

nil_last : (text : List ℕ) → text ++ [] ≡ text
nil_last [] = refl
nil_last (b ∷ rest) = ap (λ (l : List ℕ). b ∷ l) (nil_last rest)

pub mark_dropped : (text : List ℕ) → Unmarked text → (check none : Bool) → without_last_gaps marks (text ++ cond check (cond none (codes "#") (codes "+")) []) ≡ text
mark_dropped text h true true = ap (λ (l : List ℕ). reverse (skip_gaps marks l)) (hash_last text) ∙ bare_kept text h
mark_dropped text h true false = ap (λ (l : List ℕ). reverse (skip_gaps marks l)) (plus_last text) ∙ bare_kept text h
mark_dropped text h false none = ap (without_last_gaps marks) (nil_last text) ∙ bare_kept text h
