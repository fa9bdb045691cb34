-- Runs go on by runs, and are given by other steps.
use Rattle.std.proofs.Common.{ℕ, List, [], ◌∷◌, ◌++◌, refl, sym, ap, ◌∙◌, subst, append_assoc, append-nil}
use Rattle.byte_streams.specs.Calls.{joined}
use Rattle.chess_loop.specs.Runs.{Runs, InOne, Whole, Counted}

module _ {S : Type 0} (step : S → List ℕ → List ℕ → S → Type 0) where
  pub Runs-none : (s : S) → Runs step s [] [] s
  Runs-none s = (refl, refl)

  pub Runs-one : (s t : S) (line text : List ℕ) → step s line text t → Runs step s (line ∷ []) text t
  Runs-one s t line text one = (text, [], t, one, (refl, refl), sym (append-nil text))

  pub Runs-append : (s m t : S) (xs ys : List (List ℕ)) (a b : List ℕ) → Runs step s xs a m → Runs step m ys b t → Runs step s (xs ++ ys) (a ++ b) t
  Runs-append s m t [] ys a b first second =
      let same : Runs step s ys b t = subst (λ x. Runs step x ys b t) first.1 second in
      rw first.0 same
  Runs-append s m t (x ∷ xs) ys a b first second = (
    first.0,
    first.1 ++ b,
    first.2,
    first.3,
    Runs-append first.2 m t xs ys first.1 b first.4 second,
    rw (first.5) (append_assoc first.0 first.1 b),
  )

  pub Runs-more : (s m t : S) (xs : List (List ℕ)) (line a b : List ℕ) → Runs step s xs a m → step m line b t → Runs step s (xs ++ line ∷ []) (a ++ b) t
  Runs-more s m t xs line a b first last = Runs-append s m t xs (line ∷ []) a b first (Runs-one m t line b last)

-- each step is one of others, whose states are read off
runs_as : {S T : Type 0} (f : S → List ℕ → List ℕ → S → Type 0) (g : T → List ℕ → List ℕ → T → Type 0) (see : S → T) →
    ((s t : S) (line text : List ℕ) → f s line text t → g (see s) line text (see t)) → (s t : S) (lines : List (List ℕ)) (text : List ℕ) → Runs f s lines text t → Runs g (see s) lines text (see t)
runs_as f g see one s t [] text runs = (runs.0, ap see runs.1)
runs_as f g see one s t (line ∷ lines) text runs =
    (runs.0, runs.1, see runs.2, one s runs.2 line runs.0 runs.3, runs_as f g see one runs.2 t lines runs.1 runs.4, runs.5)

-- without the numbers
pub uncounted : {S : Type 0} (step : S → List ℕ → List (List ℕ) → S → Type 0) (x y : S × ℕ) (lines : List (List ℕ)) (text : List ℕ) → Runs (Counted step) x lines text y → Runs (Whole step) x.0 lines text y.0
uncounted {S} step x y lines text runs = runs_as (Counted step) (Whole step) (λ (z : S × ℕ). z.0) (λ s t line answer is. (is.0, is.1, is.2)) x y lines text runs

one_text : {S : Type 0} (step : S → List ℕ → List ℕ → S → Type 0) (s t : S) (line text : List ℕ) → Whole (InOne step) s line text t → step s line text t
one_text step s t line text (parts, (answer, is, one), whole) =
    subst (λ (x : List ℕ). step s line x t) (sym (whole ∙ ap joined one ∙ append-nil answer)) is

-- without the parts
pub in_one : {S : Type 0} (step : S → List ℕ → List ℕ → S → Type 0) (s t : S) (lines : List (List ℕ)) (text : List ℕ) → Runs (Whole (InOne step)) s lines text t → Runs step s lines text t
in_one {S} step s t lines text runs = runs_as (Whole (InOne step)) step (λ (z : S). z) (one_text step) s t lines text runs
