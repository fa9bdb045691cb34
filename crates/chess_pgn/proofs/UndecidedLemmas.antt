-- Where bytes don't decide the next item, no one game is at their start, whatever follows.
use Rattle.std.proofs.Common.{◌≡◌, ◌⊎◌, ◌<◌, ℕ, ◌+◌, true, List, [], ◌∷◌, ◌++◌, length, refl, sym, ap, subst, ◌∙◌, arith, append-nil, length-append}
use Rattle.std.specs.Str.{byte}
use mathlib.Core.Logic.{inl, inr}
use Rattle.chess_items.specs.Items.{Item, Spells, is_outside, place_after, place_behind}
use Rattle.chess_items.specs.steps.Deciding.{Decides, longer}
use Rattle.chess_items.specs.steps.ItemAt.{Found, item_at}
use Rattle.chess_items.specs.declared.place.Place.{Place}
use Rattle.chess_items.specs.declared.place.Place.TheVariants.{GameStart}
use Rattle.chess_items.proofs.FoundLemmas.{the}
use Rattle.chess_items.proofs.LocalLemmas.{decided_so_far, next_is, text_shorter, undecided_taken}
use Rattle.chess_items.proofs.SpellLemmas.{first_found, one_spelling}
use Rattle.chess_pgn.specs.Games.{Game}
use Rattle.chess_pgn.specs.Reading.{Gives, BeginsWithGame}
use Rattle.chess_pgn.specs.declared.reader.Reader.{Reader}
use Rattle.chess_pgn.proofs.ChainLemmas.{Progress}
use Rattle.chess_pgn.proofs.NoGameLemmas.{closes, progress_parts, spelled_shorter}
use Rattle.chess_pgn.proofs.OneGameLemmas.{InParts, either, no_more}
use Rattle.chess_pgn.proofs.SplitLemmas.{bracket_found}

-- a game ends after these items, or goes on there
abbrev Ahead : List Item → List ℕ → Game → List ℕ → Type 0
Ahead is rest g last = ((last ≡ rest) × Gives is rest g) ⊎ ((k : Item) × (ks : List Item) × Spells (place_behind GameStart is) rest (k ∷ ks) last)

same_game : (is js : List Item) (rest last : List ℕ) (g : Game) → js ≡ is → last ≡ rest → Gives js last g → Gives is rest g
same_game is js rest last g e h x = subst (λ (z : List Item). Gives z rest g) e (subst (λ (z : List ℕ). Gives js z g) h x)

ahead_short : (is js ks : List Item) (rest last : List ℕ) (g : Game) → InParts is → is ≡ js ++ ks → Spells (place_behind GameStart js) last ks rest → Gives js last g → Ahead is rest g last
ahead_short is js [] rest last g y e s x = inl (s, same_game is js rest last g (sym (append-nil js) ∙ sym e) s x)
ahead_short is js (k ∷ ks) rest last g y e s x = absurd (no_more js k ks last g x (subst InParts e y) rest s)

ahead_long : (is js ks : List Item) (rest last : List ℕ) (g : Game) → js ≡ is ++ ks → Spells (place_behind GameStart is) rest ks last → Gives js last g → Ahead is rest g last
ahead_long is js [] rest last g e s x = inl (sym s, same_game is js rest last g (e ∙ append-nil is) (sym s) x)
ahead_long is js (k ∷ ks) rest last g e s x = inr (k, ks, s)

ahead : (is : List Item) (input rest : List ℕ) (g : Game) (n : ℕ) → InParts is → Spells GameStart input is rest → (x : BeginsWithGame input g n) → Ahead is rest g x.rest
ahead is input rest g n y s x = elim (either (length x.items) (length is)) [
  | inl le ↦ (let c = one_spelling GameStart input x.items is x.rest rest x.spelled s le in ahead_short is x.items c.0 rest x.rest g y c.1 c.2 x.gives)
  | inr le ↦ (let c = one_spelling GameStart input is x.items rest x.rest s x.spelled le in ahead_long is x.items c.0 rest x.rest g c.1 c.2 x.gives)
]

empty_or : (xs : List ℕ) → (xs ≡ []) ⊎ ((b : ℕ) × (bs : List ℕ) × (xs ≡ b ∷ bs))
empty_or [] = inl refl
empty_or (b ∷ bs) = inr (b, bs, refl)

same_first : (b c : ℕ) (bs cs : List ℕ) → b ∷ bs ≡ c ∷ cs → b ≡ c
same_first b c bs cs e = cc

-- a bracket decides its item
bracket_decides : (place : Place) (bs : List ℕ) → is_outside place ≡ true → Decides place (byte "[" ∷ bs)
bracket_decides place bs out = λ more.
    bracket_found place out (bs ++ more) ∙ ap (λ (x : Found). longer x more) (sym (bracket_found place out bs))

module _ {A : Type 0} (is : List Item) (t : Reader A) (p : Progress is t) (prefix rest : List ℕ) (spelled : (more : List ℕ) → Spells GameStart (prefix ++ more) is (rest ++ more)) (undecided : Decides (place_behind GameStart is) rest → ⊥)
    (g : Game) (n : ℕ) (x : (more : List ℕ) → BeginsWithGame (prefix ++ more) g n) where
  abbrev place : Place
  place = place_behind GameStart is

  there : (more : List ℕ) → Ahead is (rest ++ more) g (x more).rest
  there more = ahead is (prefix ++ more) (rest ++ more) g n (progress_parts is t p) (spelled more) (x more)

  counted : (more : List ℕ) → n + length (x more).rest ≡ length prefix + length more
  counted more = (x more).counted ∙ length-append prefix more

  -- it ends there
  here : (more : List ℕ) → (x more).rest ≡ rest ++ more → n + length rest ≡ length prefix
  here more e = (let a = ap length e in let b = length-append rest more in let c = counted more in omega (arith, a, b, c))

  -- it goes on there
  beyond : (more : List ℕ) (k : Item) (ks : List Item) → Spells place (rest ++ more) (k ∷ ks) (x more).rest → length prefix < n + length rest
  beyond more k ks s =
      let a = text_shorter place k s.0 (rest ++ more) s.1 s.2 s.3 in
      let b = spelled_shorter (place_after place k) s.1 ks (x more).rest s.4 in
      let c = counted more in
      let d = length-append rest more in
      omega (arith, a, b, c, d)

  -- bytes that are there and are no bracket
  not_closed : (b : ℕ) (bs more : List ℕ) → rest ++ more ≡ b ∷ bs → (is_outside place ≡ true → b ≡ byte "[" → ⊥) → Gives is (rest ++ more) g → ⊥
  not_closed b bs more e other gives = by (closes is t (rest ++ more) g gives p)
    where
      by : (rest ++ more ≡ []) ⊎ ((t.moving ≡ true) × (is_outside place ≡ true) × (next : List ℕ) × (rest ++ more ≡ byte "[" ∷ next)) → ⊥
      by (inl none) = (let z : b ∷ bs ≡ [] = sym e ∙ none in cc)
      by (inr (moved, out, next, h)) = other out (same_first b (byte "[") bs next (sym e ∙ h))

  ends_nowhere : Gives is (rest ++ 32 ∷ []) g → ⊥
  ends_nowhere gives = elim (empty_or rest) [
    | inl none ↦ not_closed 32 [] (32 ∷ []) (ap (λ (z : List ℕ). z ++ 32 ∷ []) none) (λ out h. cc) gives
    | inr some ↦ not_closed some.0 (some.1 ++ 32 ∷ []) (32 ∷ []) (ap (λ (z : List ℕ). z ++ 32 ∷ []) some.2)
        (λ out h. undecided (subst (Decides place) (sym (some.2 ∙ ap (λ (b : ℕ). b ∷ some.1) h)) (bracket_decides place some.1 out))) gives
  ]

  -- so it goes on there, whatever follows
  goes_on : (more : List ℕ) → (k : Item) × (ks : List Item) × Spells place (rest ++ more) (k ∷ ks) (x more).rest
  goes_on more = by (there more) (there (32 ∷ []))
    where
      by : Ahead is (rest ++ more) g (x more).rest → Ahead is (rest ++ 32 ∷ []) g (x (32 ∷ [])).rest → (k : Item) × (ks : List Item) × Spells place (rest ++ more) (k ∷ ks) (x more).rest
      by (inr s) other = s
      by (inl e) (inl h) = absurd (ends_nowhere h.1)
      by (inl e) (inr s) = absurd (let a = here more e.0 in let b = beyond (32 ∷ []) s.0 s.1 s.2 in omega (arith, a, b))

  -- its item takes all of these bytes
  first_rest : length (x []).rest ≡ 0
  first_rest =
      let s = goes_on [] in
      let a = undecided_taken place rest [] s.0 s.2.1 undecided (first_found place (rest ++ []) s.0 s.1 (x []).rest s.2) in
      let b = spelled_shorter (place_after place s.0) s.2.1 s.1 (x []).rest s.2.4 in
      omega (arith, a, b)

  takes_all : (more : List ℕ) → (k : Item) × (item_at place (rest ++ more) ≡ the k more)
  takes_all more =
      let s = goes_on more in
      let found = first_found place (rest ++ more) s.0 s.1 (x more).rest s.2 in
      let a = undecided_taken place rest more s.0 s.2.1 undecided found in
      let b = spelled_shorter (place_after place s.0) s.2.1 s.1 (x more).rest s.2.4 in
      let c = counted more in
      let d = counted [] in
      let next : s.2.1 ≡ more = next_is rest more s.2.0 s.2.1 s.2.2 (omega (arith, a, b, c, d, first_rest)) in
      (s.0, found ∙ ap (λ (z : List ℕ). the s.0 z) next)

  pub undecided_none : ⊥
  undecided_none =
      let first = takes_all [] in
      undecided (decided_so_far place rest first.0 (ap (item_at place) (sym (append-nil rest)) ∙ first.1) takes_all)
