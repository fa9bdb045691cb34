-- Where the reading of a game stops with a fault, no game stands.
use Rattle.std.proofs.Common.{◌≡◌, ◌≤◌, ◌<◌, ◌⊎◌, ℕ, ◌+◌, ◌-◌, Bool, true, List, [], ◌∷◌, ◌++◌, length, take, None, Ok, Err, refl, sym, ap, subst, ◌∙◌, arith, append-nil, length-append}
use Rattle.std.specs.Prelude.{MatchOption}
use Rattle.std.specs.Str.{byte}
use mathlib.Core.Logic.{inl, inr}
use Rattle.chess_items.specs.Items as items
use Rattle.chess_items.specs.Items.{Item, Spells, is_outside, place_after, place_behind}
use Rattle.chess_items.specs.steps.Deciding.{Decides}
use Rattle.chess_items.specs.steps.ItemAt.{Found, item_at}
use Rattle.chess_items.specs.steps.Texts.{Oversized}
use Rattle.chess_items.specs.declared.fault.PgnFault.{PgnFault}
use Rattle.chess_items.specs.declared.fault.FaultKind.TheVariants.{Memory}
use Rattle.chess_items.specs.declared.place.Place.{Place}
use Rattle.chess_items.specs.declared.place.Place.TheVariants.{GameStart}
use Rattle.chess_items.specs.declared.taker.Taken.TheVariants.{GoesOn, Ends as AtEnd}
use Rattle.chess_items.proofs.FoundLemmas.{some_is, the}
use Rattle.chess_items.proofs.SpellLemmas.{first_found, one_spelling}
use Rattle.chess_pgn.specs.Games.{Game}
use Rattle.chess_pgn.specs.Reading.{Ends, Gives, HasBegun, BeginsWithGame, is_heading, is_movetext}
use Rattle.chess_pgn.specs.steps.ReaderCode.{Ended, MayNotEnd, Read, TakesItem, takes_when}
use Rattle.chess_pgn.specs.declared.reader.Reader.{Reader}
use Rattle.chess_pgn.proofs.ChainLemmas.{InHead, Moving, Progress}
use Rattle.chess_pgn.proofs.CountLemmas.{fits}
use Rattle.chess_pgn.proofs.OneGameLemmas.{InParts, either, ends_outside, given_parts, no_more, same_parts}
use Rattle.chess_pgn.proofs.RefusedLemmas.{refused_bracket, refused_more, unended}
use Rattle.chess_pgn.proofs.SplitLemmas.{all_of, begun_halts, bracket_found, none_some, nothing_found}

-- ---- what was taken, in parts

abbrev head_parts : {A : Type 0} (is : List Item) (r : Reader A) → InHead is r → InParts is
head_parts is r h = record {
  head = is;
  movetext = [];
  ending = [];
  parts = sym (append-nil is);
  heading = all_of is_heading is h.heading;
  moving = tt;
  starts = tt;
  ends = inl refl;
}

abbrev moving_parts : {A : Type 0} (is : List Item) (r : Reader A) → Moving is r → InParts is
moving_parts is r h = record {
  head = h.head;
  movetext = h.movetext;
  ending = [];
  parts = h.parts ∙ ap (λ (z : List Item). h.head ++ z) (sym (append-nil h.movetext));
  heading = all_of is_heading h.head h.there.heading;
  moving = all_of is_movetext h.movetext h.there.stands;
  starts = begun_halts h.movetext [] h.begun;
  ends = inl refl;
}

marker_some : (o : items.Item) (e : List Item) → e ≡ o ∷ [] → e ≡ [] → ⊥
marker_some o e h k = (let z : o ∷ [] ≡ [] = sym h ∙ k in cc)

not_begun : (m : List Item) → HasBegun m → m ≡ [] → ⊥
not_begun m h e = subst HasBegun e h

module _ {A : Type 0} (is : List Item) (r : Reader A) (rest : List ℕ) (g : Game) (x : Gives is rest g) where
  -- at the end of the text, or once the movetext has begun before a bracket
  abbrev pub Closes : Type 0
  Closes = (rest ≡ []) ⊎ ((r.moving ≡ true) × (is_outside (place_behind GameStart is) ≡ true) × (more : List ℕ) × (rest ≡ byte "[" ∷ more))

  no_ending : Progress is r → x.ending ≡ []
  no_ending (inl h) = (same_parts is is refl (given_parts is rest g x) (head_parts is r h)).2
  no_ending (inr h) = (same_parts is is refl (given_parts is rest g x) (moving_parts is r h)).2

  has_moved : Progress is r → HasBegun x.movetext → r.moving ≡ true
  has_moved (inl h) begun = absurd (not_begun x.movetext begun (same_parts is is refl (given_parts is rest g x) (head_parts is r h)).1)
  has_moved (inr h) begun = h.there.moving

  closes_by : Progress is r → Ends x.movetext x.ending g.outcome rest → Closes
  closes_by p (inl e) = absurd (marker_some (items.Marker g.outcome) x.ending e (no_ending p))
  closes_by p (inr (e, o, inl none)) = inl none
  closes_by p (inr (e, o, inr (begun, more, bracket))) = inr (has_moved p begun, ends_outside is rest g x e begun, more, bracket)

  -- so ends a game of what was taken
  pub closes : Progress is r → Closes
  closes p = closes_by p x.ends

-- ---- a game at the beginning, and what was taken

abbrev pub progress_parts : {A : Type 0} (is : List Item) (r : Reader A) → Progress is r → InParts is
progress_parts is r (inl h) = head_parts is r h
progress_parts is r (inr h) = moving_parts is r h

-- it ends where the reading has stopped, or goes on there
abbrev pub There : List Item → List ℕ → Game → List ℕ → Type 0
There is rest g last = Gives is rest g ⊎ ((k : Item) × (ks : List Item) × Spells (place_behind GameStart is) rest (k ∷ ks) last × Gives (is ++ k ∷ ks) last g)

same_game : (is js : List Item) (rest last : List ℕ) (g : Game) → js ≡ is → last ≡ rest → Gives js last g → Gives is rest g
same_game is js rest last g e h x = subst (λ (z : List Item). Gives z rest g) e (subst (λ (z : List ℕ). Gives js z g) h x)

there_short : (is js ks : List Item) (rest last : List ℕ) (g : Game) → InParts is → is ≡ js ++ ks → Spells (place_behind GameStart js) last ks rest → Gives js last g → There is rest g last
there_short is js [] rest last g y e s x = inl (same_game is js rest last g (sym (append-nil js) ∙ sym e) s x)
there_short is js (k ∷ ks) rest last g y e s x = absurd (no_more js k ks last g x (subst InParts e y) rest s)

there_long : (is js ks : List Item) (rest last : List ℕ) (g : Game) → js ≡ is ++ ks → Spells (place_behind GameStart is) rest ks last → Gives js last g → There is rest g last
there_long is js [] rest last g e s x = inl (same_game is js rest last g (e ∙ append-nil is) (sym s) x)
there_long is js (k ∷ ks) rest last g e s x = inr (k, ks, s, subst (λ (z : List Item). Gives z last g) e x)

pub game_there : (is : List Item) (input rest : List ℕ) (g : Game) (n : ℕ) → InParts is → Spells GameStart input is rest → (x : BeginsWithGame input g n) → There is rest g x.rest
game_there is input rest g n y s x = elim (either (length x.items) (length is)) [
  | inl le ↦ (let c = one_spelling GameStart input x.items is x.rest rest x.spelled s le in there_short is x.items c.0 rest x.rest g y c.1 c.2 x.gives)
  | inr le ↦ (let c = one_spelling GameStart input is x.items rest x.rest s x.spelled le in there_long is x.items c.0 rest x.rest g c.1 c.2 x.gives)
]

nothing_at : (place : Place) (rest : List ℕ) → rest ≡ [] → item_at place rest ≡ None
nothing_at place rest e = ap (item_at place) e ∙ nothing_found place

bracket_at : (place : Place) (rest more : List ℕ) → is_outside place ≡ true → rest ≡ byte "[" ∷ more → item_at place rest ≡ the items.TagOpen more
bracket_at place rest more out e = ap (item_at place) e ∙ bracket_found place out more

item_is : (found : Found) (i j : Item) (r q : List ℕ) → found ≡ the i r → found ≡ the j q → i ≡ j
item_is found i j r q e h = ap (λ (z : Item × List ℕ). z.0) (some_is {A = Item × List ℕ} (i, r) (j, q) (sym e ∙ h))

-- ---- the next item is refused

module _ {A : Type 0} (is : List Item) (item : Item) (fault : PgnFault) (t u : Reader A) (p : Progress is t) (taken : TakesItem t item (Err fault) u) (kind : fault.kind ≡ Memory → ⊥)
    (input rest next : List ℕ) (spelled : Spells GameStart input is rest) (found : item_at (place_behind GameStart is) rest ≡ the item next) (g : Game) (n : ℕ) (x : BeginsWithGame input g n) where
  refused_by : There is rest g x.rest → ⊥
  refused_by (inl gives) = by (closes is t rest g gives p)
    where
      by : Closes is t rest g gives → ⊥
      by (inl none) = none_some (item, next) (item_at (place_behind GameStart is) rest) found (nothing_at (place_behind GameStart is) rest none)
      by (inr (moved, out, more, e)) =
          refused_bracket is item fault t u p taken kind (item_is (item_at (place_behind GameStart is) rest) item items.TagOpen next more found (bracket_at (place_behind GameStart is) rest more out e)) rest more e g gives
  refused_by (inr (k, ks, s, gives)) =
      let e = item_is (item_at (place_behind GameStart is) rest) k item s.1 next (first_found (place_behind GameStart is) rest k ks x.rest s) found in
      refused_more is item fault t u p taken kind ks x.rest g (fits input g n x) (subst (λ (i : Item). Gives (is ++ i ∷ ks) x.rest g) e gives)

  pub none_refused : ⊥
  none_refused = refused_by (game_there is input rest g n (progress_parts is t p) spelled x)

-- ---- what comes next is no item

module _ {A : Type 0} (is : List Item) (t : Reader A) (p : Progress is t) (input rest : List ℕ) (spelled : Spells GameStart input is rest) (none : item_at (place_behind GameStart is) rest ≡ None) (some : rest ≡ [] → ⊥)
    (g : Game) (n : ℕ) (x : BeginsWithGame input g n) where
  aground_by : There is rest g x.rest → ⊥
  aground_by (inl gives) = by (closes is t rest g gives p)
    where
      by : Closes is t rest g gives → ⊥
      by (inl e) = some e
      by (inr (moved, out, more, e)) = none_some (items.TagOpen, more) (item_at (place_behind GameStart is) rest) (bracket_at (place_behind GameStart is) rest more out e) none
  aground_by (inr (k, ks, s, gives)) = none_some (k, s.1) (item_at (place_behind GameStart is) rest) (first_found (place_behind GameStart is) rest k ks x.rest s) none

  pub none_aground : ⊥
  none_aground = aground_by (game_there is input rest g n (progress_parts is t p) spelled x)

-- ---- the text has ended

module _ {A : Type 0} (is : List Item) (t : Reader A) (p : Progress is t) (not_yet : MayNotEnd t) (input rest : List ℕ) (spelled : Spells GameStart input is rest) (ended : rest ≡ []) (g : Game) (n : ℕ) (x : BeginsWithGame input g n) where
  out_by : There is rest g x.rest → ⊥
  out_by (inl gives) = unended is t p not_yet g (subst (λ (z : List ℕ). Gives is z g) ended gives)
  out_by (inr (k, ks, s, gives)) = none_some (k, s.1) (item_at (place_behind GameStart is) rest) (first_found (place_behind GameStart is) rest k ks x.rest s) (nothing_at (place_behind GameStart is) rest ended)

  pub none_out : ⊥
  none_out = out_by (game_there is input rest g n (progress_parts is t p) spelled x)

-- ---- what comes next is too long

pub spelled_shorter : (place : Place) (input : List ℕ) (is : List Item) (rest : List ℕ) → Spells place input is rest → length rest ≤ length input
spelled_shorter place input [] rest s = (let l = ap length s in omega (arith, l))
spelled_shorter place input (i ∷ is) rest s = (let r = spelled_shorter (place_after place i) s.1 is rest s.4 in let l = ap length s.2 in let m = length-append s.0 s.1 in omega (arith, r, l, m))

-- the first item is longer than the limit
pub too_long : (most : ℕ) (place : Place) (rest : List ℕ) (k : Item) (next : List ℕ) → Oversized most place rest → item_at place rest ≡ the k next → most + length next < length rest
too_long most place rest k next o e =
    subst (λ (f : Found). MatchOption f (Decides place (take (most + 1) rest) → ⊥) (λ (z : Item × List ℕ). most + length z.1 < length rest)) e o.1

module _ {A : Type 0} (t u : Reader A) where
  -- a reader of movetext takes no bracket
  takes_none : t.moving ≡ true → TakesItem t items.TagOpen (Ok GoesOn) u ⊎ TakesItem t items.TagOpen (Ok AtEnd) u → ⊥
  takes_none m (inl k) = (let r : Read items.TagOpen t u = subst (λ (b : Bool). takes_when b items.TagOpen (Ok GoesOn) t u) m k.0 in let e = r.stands in cc)
  takes_none m (inr k) = (let r : Ended items.TagOpen t u = subst (λ (b : Bool). takes_when b items.TagOpen (Ok AtEnd) t u) m k.0 in let e = r.marker in cc)

module _ {A : Type 0} (is : List Item) (t u : Reader A) (p : Progress is t) (at : ℕ) (few : at ≤ 1048576) (input rest : List ℕ) (spelled : Spells GameStart input is rest) (counted : at + length rest ≡ length input)
    (over : Oversized (1048576 - at) (place_behind GameStart is) rest)
    (bracket : (next : List ℕ) → item_at (place_behind GameStart is) rest ≡ the items.TagOpen next → TakesItem t items.TagOpen (Ok GoesOn) u ⊎ TakesItem t items.TagOpen (Ok AtEnd) u) (g : Game) (n : ℕ) (x : BeginsWithGame input g n) where
  over_by : There is rest g x.rest → ⊥
  over_by (inl gives) = by (closes is t rest g gives p)
    where
      by : Closes is t rest g gives → ⊥
      by (inl e) = (let l = ap length e in let o = over.0 in omega (arith, l, o))
      by (inr (moved, out, more, e)) = takes_none t u moved (bracket more (bracket_at (place_behind GameStart is) rest more out e))
  over_by (inr (k, ks, s, gives)) =
      let long = too_long (1048576 - at) (place_behind GameStart is) rest k s.1 over (first_found (place_behind GameStart is) rest k ks x.rest s) in
      let shorter = spelled_shorter (place_after (place_behind GameStart is) k) s.1 ks x.rest s.4 in
      omega (arith, long, shorter, few, counted, x.counted, x.few)

  pub none_over : ⊥
  none_over = over_by (game_there is input rest g n (progress_parts is t p) spelled x)
