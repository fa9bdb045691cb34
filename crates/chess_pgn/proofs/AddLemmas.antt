-- What is added part by part.
use Rattle.std.proofs.Common.{◌≡◌, ◌≢◌, ℕ, ◌+◌, ◌<◌, List, [], ◌∷◌, ◌++◌, length, take, get_or, refl, sym, ap, subst, ◌∙◌, append_assoc, append-nil, codes, decimal}
use Rattle.std.specs.Prelude.{Result, Ok, Err, OnOk}
use Rattle.std.proofs.lemmas.List.{take_more}
use Rattle.chess_pgn.specs.Written.{comment_text, nags_text}
use Rattle.chess_pgn.specs.steps.Adding.{Adds}
use Rattle.chess_pgn.specs.declared.lines.Lines.{Lines}

pub adds_none : {A : Type 0} (a : Lines A) → Adds a a []
adds_none a = λ before text l. rw (append-nil text) l

pub adds_on : {A : Type 0} (a b c : Lines A) (p q : List ℕ) → Adds a b p → Adds b c q → Adds a c (p ++ q)
adds_on a b c p q f g = λ before text l. rw (sym (append_assoc text p q)) (g before (text ++ p) (f before text l))

pub adds_same : {A : Type 0} (a b : Lines A) (p q : List ℕ) → p ≡ q → Adds a b p → Adds a b q
adds_same a b p q e f = subst (λ (x : List ℕ). Adds a b x) e f

-- the last of some parts may fail
pub adds_last : {A E : Type 0} (r : Result (Unit {0}) E) (a b c : Lines A) (p q whole : List ℕ) → p ++ q ≡ whole → Adds a b p → OnOk r (Adds b c q) → OnOk r (Adds a c whole)
adds_last (Ok x) a b c p q whole e f g = adds_same a c (p ++ q) whole e (adds_on a b c p q f g)
adds_last (Err x) a b c p q whole e f g = tt

pub nags_append : (xs ys : List ℕ) → nags_text (xs ++ ys) ≡ nags_text xs ++ nags_text ys
nags_append [] ys = refl
nags_append (n ∷ xs) ys = rw (nags_append xs ys) (again (codes " $") (decimal n) (nags_text xs) (nags_text ys))
  where
    again : (a b c d : List ℕ) → a ++ (b ++ (c ++ d)) ≡ (a ++ (b ++ c)) ++ d
    again a b c d = sym (append_assoc a (b ++ c) d ∙ ap (λ (x : List ℕ). a ++ x) (append_assoc b c d))

-- one annotation number more
pub nags_more : (nags : List ℕ) (i : ℕ) → i < length nags → nags_text (take i nags) ++ (codes " $" ++ decimal (get_or nags i 0)) ≡ nags_text (take (i + 1) nags)
nags_more nags i h = sym (ap nags_text (take_more nags i 0 h) ∙ nags_append (take i nags) (get_or nags i 0 ∷ []) ∙ ap (λ (x : List ℕ). nags_text (take i nags) ++ (codes " $" ++ x)) (append-nil (decimal (get_or nags i 0))))

pub comment_whole : (text : List ℕ) → text ≢ [] → (codes " {" ++ text) ++ codes "}" ≡ comment_text text
comment_whole [] some = absurd (some refl)
comment_whole (b ∷ text) some = refl
