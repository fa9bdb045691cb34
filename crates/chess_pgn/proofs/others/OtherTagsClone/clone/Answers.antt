use Rattle.std.proofs.Common.{◌≡◌, ◌∙◌, ℕ, List, [], ◌∷◌, ap, refl, Vec}
use Rattle.std.specs.List.{AllZip}
use Rattle.std.specs.Prelude.{vec_len}
use Rattle.chess_pgn.specs.steps.OtherCode.{shown}
use Rattle.chess_pgn.proofs.others.OtherTagsClone.clone.Goals as goal

abbrev Copied : ℕ → ℕ → Type 0
Copied x y = y ≡ x

-- a copied text
abbrev CopiedText : {A : Type 0} → Vec ℕ A → Vec ℕ A → Type 0
CopiedText v w = AllZip Copied v.items w.items × (vec_len w ≡ vec_len v)

same_text : (xs ys : List ℕ) → AllZip Copied xs ys → ys ≡ xs
same_text [] [] h = refl
same_text [] (y ∷ ys) h = absurd h
same_text (x ∷ xs) [] h = absurd h
same_text (x ∷ xs) (y ∷ ys) h = ap (λ z. z ∷ ys) h.0 ∙ ap (λ zs. x ∷ zs) (same_text xs ys h.1)

same_shown : {A : Type 0} → (xs ys : List (Vec ℕ A × Vec ℕ A)) → AllZip (λ p q. CopiedText p.0 q.0 × CopiedText p.1 q.1) xs ys → shown ys ≡ shown xs
same_shown [] [] h = refl
same_shown [] (y ∷ ys) h = absurd h
same_shown (x ∷ xs) [] h = absurd h
same_shown (x ∷ xs) (y ∷ ys) h =
    ap (λ (z : List ℕ × List ℕ). z ∷ shown ys) (λ i. (same_text x.0.items y.0.items h.0.0.0 i, same_text x.1.items y.1.items h.0.1.0 i))
    ∙ ap (λ zs. (x.0.items, x.1.items) ∷ zs) (same_shown xs ys h.1)

pub returns : goal.returns
returns g c = record { cases = same_shown c.self.inside.values.entries c.in_ok-clone.field-0.entries c.in_ok-clone.ensures.cases ∙ c.self.view_is }
