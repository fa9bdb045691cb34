-- What repairs replace, and what is read after them.
use Rattle.std.proofs.Common.{◌≡◌, ◌⊎◌, inl, inr, ℕ, ◌+◌, ◌-◌, ◌≤◌, List, [], ◌∷◌, ◌++◌, length, take, drop, refl, sym, ap, subst, ◌∙◌, arith, length-take-le, length-drop, take-append-drop, take_all, Option, Some, None, Result, Ok}
use Rattle.std.specs.Prelude.{IfNone, IfSome}
use Rattle.chess_items.specs.declared.fault.FaultKind.TheVariants.{Memory}
use Rattle.chess_items.specs.declared.fault.PgnFault.{PgnFault}
use Rattle.chess_pgn.specs.Games.{Game}
use Rattle.chess_pgn.specs.Reading.{BeginsWithGame, HasNoGame, IsAnswered}
use Rattle.chess_pgn.specs.declared.game.Game as code
use Rattle.chess_repair.specs.Repairs.{Rewrites}
use Rattle.chess_repair.specs.declared.repair.Repair.{Repair}
use Rattle.chess_salvage.specs.Salvaging.{HoldsFound, CutsOff, found_in}

-- a text up to a place, and after it
pub parted : (n : ℕ) (text : List ℕ) → n ≤ length text → (text ≡ take n text ++ take (length text - n) (drop n text)) × (length (take n text) ≡ n)
parted n text fits = (
  sym (take-append-drop n text) ∙ ap (λ (rest : List ℕ). take n text ++ rest) (sym (take_all (length text - n) (drop n text) (omega (arith, length-drop n text)))),
  length-take-le n text fits,
)

module _ (text : List ℕ) where
  pub none_read : {A : Type 0} (result : Result (Option (code.Game A × ℕ)) PgnFault) → result ≡ Ok None → ((game : Game) (used : ℕ) → BeginsWithGame text game used → IsAnswered game used result) → HasNoGame text
  none_read result is only game used b = subst (λ r. IsAnswered game used r) is (only game used b)

  pub fault_read : (fault : PgnFault) → (fault.kind ≡ Memory → ⊥) → (fault.kind ≡ Memory) ⊎ HasNoGame text → HasNoGame text
  fault_read fault not (inl is) = absurd (not is)
  fault_read fault not (inr none) = none

-- one cut more
pub cut_more : (text mid last : List ℕ) (cuts : List Repair) (cut : Repair) → CutsOff text cuts mid → Rewrites (length mid) mid (cut ∷ []) last [] → CutsOff text (cuts ++ cut ∷ []) last
cut_more text mid last [] cut c r = (last, subst (λ (t : List ℕ). Rewrites (length t) t (cut ∷ []) last []) (sym c) r, refl)
cut_more text mid last (first ∷ cuts) cut c r = (c.0, c.1, cut_more c.0 mid last cuts cut c.2 r)

pub length-more : {X : Type 0} (xs : List X) (x : X) → length (xs ++ x ∷ []) ≡ length xs + 1
length-more [] x = refl
length-more (y ∷ xs) x = omega (arith, length-more xs x)

-- nothing is left of a text that is used to its end
pub nothing_left : (rest : List ℕ) → length rest ≡ 0 → rest ≡ []
nothing_left [] e = refl
nothing_left (b ∷ rest) e = absurd (let none : ⊥ = omega (arith, e) in none)

-- what is read of a text with no cut is read of it with some
pub widened : (last : List ℕ) (cuts : List Repair) (found : Option Game) → HoldsFound last [] found → HoldsFound last cuts found
widened last cuts (Some game) h = h
widened last cuts None (inl none) = inl none
widened last cuts None (inr many) = absurd (let none : ⊥ = omega (arith, many) in none)

-- none is found
pub none_found : {A : Type 0} (last : List ℕ) (cuts : List Repair) (game : Option (code.Game A)) → game ≡ None → HasNoGame last → HoldsFound last cuts (found_in game)
none_found last cuts game is none = subst (λ g. HoldsFound last cuts (found_in g)) (sym is) (inl (inl none))

-- of a fault that was found, or wasn't
pub if_none : {X : Type 0} (P : Type 0) (found : Option X) → found ≡ None → IfNone found P → P
if_none P found is h = subst (λ f. IfNone f P) is h

pub if_some : {X : Type 0} (P : Type 0) (found : Option X) (x : X) → found ≡ Some x → IfSome found (λ _. P) → P
if_some P found x is h = subst (λ f. IfSome f (λ _. P)) is h
