-- The names of tags, by their places.
use Rattle.std.proofs.Common.{◌≡◌, ℕ, zero, suc, ◌-◌, ◌≤◌, List, [], ◌∷◌, ◌++◌, Some, None, length, map, ap, arith, refl}
use Rattle.std.specs.Prelude.{Vec, slice_get}
use Rattle.chess_pgn.specs.Games.{Tags}
use Rattle.chess_pgn.specs.steps.OtherCode.{shown}
use Rattle.chess_bindings.specs.Headings.{tag_names}

-- the one after so many
pub name_after : {A : Type 0} → (done : List (Vec ℕ A × Vec ℕ A)) → (entry : Vec ℕ A × Vec ℕ A) → (rest : List (Vec ℕ A × Vec ℕ A))
    → slice_get (map (λ tag. tag.0) (shown (done ++ entry ∷ rest))) (length done) ≡ Some entry.0.items
name_after [] entry rest = refl
name_after (first ∷ done) entry rest = name_after done entry rest

-- there is none after all
pub no_name : {A : Type 0} → (done : List (Vec ℕ A × Vec ℕ A)) → (place : ℕ) → length done ≤ place → slice_get (map (λ tag. tag.0) (shown done)) place ≡ None
no_name [] place le = refl
no_name (first ∷ done) zero le = absurd (omega arith)
no_name (first ∷ done) (suc place) le = no_name done place (omega arith)

-- after the six that each game has come the others
pub name_of_others : (tags : Tags) → (place : ℕ) → 6 ≤ place → slice_get (map (λ tag. tag.0) tags.others) (place - 6) ≡ slice_get (tag_names tags) place
name_of_others tags zero le = absurd (omega arith)
name_of_others tags (suc zero) le = absurd (omega arith)
name_of_others tags (suc (suc zero)) le = absurd (omega arith)
name_of_others tags (suc (suc (suc zero))) le = absurd (omega arith)
name_of_others tags (suc (suc (suc (suc zero)))) le = absurd (omega arith)
name_of_others tags (suc (suc (suc (suc (suc zero))))) le = absurd (omega arith)
name_of_others tags (suc (suc (suc (suc (suc (suc place)))))) le =
    let past : suc (suc (suc (suc (suc (suc place))))) - 6 ≡ place = omega arith in
    ap (slice_get (map (λ tag. tag.0) tags.others)) past
