-- Calls go on by calls.
use Rattle.std.proofs.Common.{◌≡◌, ℕ, List, [], ◌∷◌, ◌++◌, refl, ap, sym, subst, ◌∙◌, append_assoc, append-nil}
use Rattle.byte_streams.specs.Calls.{Calls, Carries, joined}

pub joined-append : (xs ys : List (List ℕ)) → joined (xs ++ ys) ≡ joined xs ++ joined ys
joined-append [] ys = refl
joined-append (x ∷ xs) ys = rw (joined-append xs ys) (sym (append_assoc x (joined xs) (joined ys)))

module _ {S : Type 0} (call : S → List ℕ → S → Type 0) where
  pub Calls-append : (s m t : S) (ps qs : List (List ℕ)) → Calls call s ps m → Calls call m qs t → Calls call s (ps ++ qs) t
  Calls-append s m t [] qs first second = subst (λ x. Calls call x qs t) (sym first) second
  Calls-append s m t (p ∷ ps) qs first second = (first.0, first.1, Calls-append first.0 m t ps qs first.2 second)

  pub Calls-more : (s m t : S) (ps : List (List ℕ)) (p : List ℕ) → Calls call s ps m → call m p t → Calls call s (ps ++ p ∷ []) t
  Calls-more s m t ps p first last = Calls-append s m t ps (p ∷ []) first (t, last, refl)

  pub joined-more : (ps : List (List ℕ)) (p : List ℕ) → joined (ps ++ p ∷ []) ≡ joined ps ++ p
  joined-more ps p = joined-append ps (p ∷ []) ∙ ap (λ (q : List ℕ). joined ps ++ q) (append-nil p)

  pub Carries-none : (s : S) → Carries call s [] s
  Carries-none s = record { pieces = []; calls = refl; whole = refl }

  pub Carries-append : (s m t : S) (a b : List ℕ) → Carries call s a m → Carries call m b t → Carries call s (a ++ b) t
  Carries-append s m t a b first second = record {
    pieces = first.pieces ++ second.pieces;
    calls = Calls-append s m t first.pieces second.pieces first.calls second.calls;
    whole = rw (joined-append first.pieces second.pieces, first.whole, second.whole) refl;
  }

  pub Carries-more : (s m t : S) (a p : List ℕ) → Carries call s a m → call m p t → Carries call s (a ++ p) t
  Carries-more s m t a p first last = record {
    pieces = first.pieces ++ p ∷ [];
    calls = Calls-more s m t first.pieces p first.calls last;
    whole = rw (joined-more first.pieces p, first.whole) refl;
  }

-- Each call takes its piece off the beginning of what is left, and so do all.
pub Calls-left : {S : Type 0} (call : S → List ℕ → S → Type 0) (left : S → List ℕ) → ((s t : S) (p : List ℕ) → call s p t → left s ≡ p ++ left t) → (s t : S) (ps : List (List ℕ)) → Calls call s ps t → left s ≡ joined ps ++ left t
Calls-left call left one s t [] calls = ap left calls
Calls-left call left one s t (p ∷ ps) calls =
    one s calls.0 p calls.1 ∙ rw (Calls-left call left one calls.0 t ps calls.2) (sym (append_assoc p (joined ps) (left t)))

-- Each call adds its piece to what is taken, and so do all.
pub Calls-taken : {S : Type 0} (call : S → List ℕ → S → Type 0) (taken : S → List ℕ) → ((s t : S) (p : List ℕ) → call s p t → taken t ≡ taken s ++ p) → (s t : S) (ps : List (List ℕ)) → Calls call s ps t → taken t ≡ taken s ++ joined ps
Calls-taken call taken one s t [] calls = ap taken (sym calls) ∙ sym (append-nil (taken s))
Calls-taken call taken one s t (p ∷ ps) calls =
    Calls-taken call taken one calls.0 t ps calls.2 ∙ rw (one s calls.0 p calls.1) (append_assoc (taken s) p (joined ps))
