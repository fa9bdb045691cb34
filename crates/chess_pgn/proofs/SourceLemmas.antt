-- Games of a whole text, and of a source.
use Rattle.std.proofs.Common.{◌≡◌, ℕ, ◌+◌, ◌-◌, ◌≤◌, ◌<◌, Bool, true, false, List, [], ◌∷◌, ◌++◌, length, refl, sym, subst, ap, ◌∙◌, arith, append-nil, length-append}
use Rattle.std.specs.List.{list_all}
use mathlib.Core.Logic.{inl, inr}
use Rattle.std.specs.Prelude.{Result, Ok, Err, Option, Some, None, IfErr, IfOk, IfSome}
use Rattle.byte_streams.specs.Calls.{Calls, joined}
use Rattle.chess_items.specs.Items.{Item, Spells, is_white, place_after}
use Rattle.chess_items.specs.Abandoned.{GivesUpFrom, GivesUpInPart, Halts}
use Rattle.chess_items.specs.Coming.{AtHand, unread}
use Rattle.chess_items.specs.Sections.{PassesOver}
use Rattle.chess_items.specs.declared.at_hand.Fault.{Fault}
use Rattle.chess_items.specs.declared.at_hand.Fault.TheVariants as off
use Rattle.chess_items.specs.declared.skimming.Halt.{Halt}
use Rattle.chess_items.specs.steps.Seeking.{GiveUpBreaks, SeekBreaks}
use Rattle.chess_items.specs.declared.place.Place.{Place}
use Rattle.chess_items.specs.declared.place.Place.TheVariants.{GameStart}
use Rattle.chess_items.proofs.FoundLemmas.{some_is}
use Rattle.chess_items.proofs.BreakLemmas.{all_came, brings, has_all, reads_left}
use Rattle.chess_items.proofs.GiveUpLemmas.{gives_up_all, sought_part}
use Rattle.chess_items.proofs.LastLemmas.{came_where}
use Rattle.chess_items.proofs.LocalLemmas.{text_shorter}
use Rattle.chess_pgn.specs.Games as games
use Rattle.chess_pgn.specs.Reading.{BeginsWithGame, HasNoGameYet, IsWhite}
use Rattle.chess_pgn.specs.Sources.{Games, HasFault, HasGame, HasNone, IsGivenUp, IsGivenUpInPart, IsPlaced, IsSound, Leaves, MayGoOn, NextGame, NotGivenUp, ReadsNext, seeks}
use Rattle.chess_pgn.specs.steps.GameAt.{FoundGame, HasCome, NoneCame}
use Rattle.chess_pgn.specs.steps.GameCode.{game_of}
use Rattle.chess_pgn.specs.steps.Next.{HasKind}
use Rattle.chess_pgn.specs.declared.game.Game.{Game}
use Rattle.chess_pgn.specs.declared.games.GamesFault.{GamesFault}
use Rattle.chess_pgn.specs.declared.games.GamesFault.TheVariants.{Pgn, Read}

-- ---- a whole text

pub no_bytes : {X : Type 0} (s t : X) (pieces : List (List ℕ)) → Calls (λ x bytes y. bytes ≡ []) s pieces t → joined pieces ≡ []
no_bytes s t [] c = refl
no_bytes s t (p ∷ ps) c = rw (c.1, no_bytes c.0 t ps c.2) refl

module _ {X : Type 0} (at_hand : X → List ℕ) (all : X → Type 0) (reads : X → ℕ) (old new : X) where
  none_white : NoneCame (λ x bytes y. bytes ≡ []) at_hand all reads old new → IsWhite (at_hand old)
  none_white h = subst (λ (z : List ℕ). IsWhite z) (ap (λ (z : List ℕ). at_hand old ++ z) (no_bytes old new h.pieces h.came) ∙ append-nil (at_hand old)) h.white

  pub whole_game : {A : Type 0} (found : Option (Game A × ℕ)) → FoundGame (λ x bytes y. bytes ≡ []) at_hand all reads old new found → IfSome found (λ x. BeginsWithGame (at_hand old) (game_of x.0) x.1)
  whole_game (Some x) h =
      subst (λ (z : List ℕ). BeginsWithGame z (game_of x.0) x.1) (ap (λ (z : List ℕ). at_hand old ++ (z ++ [])) (no_bytes old new h.pieces h.came) ∙ append-nil (at_hand old)) (h.reads [] (λ e. refl))
  whole_game None h = tt

  pub whole_none : {A : Type 0} (found : Option (Game A × ℕ)) → FoundGame (λ x bytes y. bytes ≡ []) at_hand all reads old new found → found ≡ None → IsWhite (at_hand old)
  whole_none (Some x) h e = absurd cc
  whole_none None h e = none_white h

pub ok_is : {A E : Type 0} (x y : A) → ◌≡◌ {A = Result A E} (Ok x) (Ok y) → x ≡ y
ok_is x y e = cc

-- ---- a source

-- a game has items, so it has bytes
spells_shorter : (place : Place) (input : List ℕ) (is : List Item) (rest : List ℕ) → Spells place input is rest → length rest ≤ length input
spells_shorter place input [] rest s = (let n = ap length s in omega (arith, n))
spells_shorter place input (item ∷ is) rest s =
    let first = text_shorter place item s.0 input s.1 s.2 s.3 in
    let others = spells_shorter (place_after place item) s.1 is rest s.4 in
    omega (arith, first, others)

items_some : (input : List ℕ) (is : List Item) (rest : List ℕ) → Spells GameStart input is rest → list_all is_white is ≡ false → length rest < length input
items_some input [] rest s e = absurd cc
items_some input (item ∷ is) rest s e =
    let first = text_shorter GameStart item s.0 input s.1 s.2 s.3 in
    let others = spells_shorter (place_after GameStart item) s.1 is rest s.4 in
    omega (arith, first, others)

front_some : (input : List ℕ) (game : games.Game) (used : ℕ) → BeginsWithGame input game used → 0 < used
front_some input game used f = (let k = items_some input f.items f.rest f.spelled f.some in omega (arith, k, f.counted))

module _ {R : Type 0} (gives : R → List ℕ → R → Type 0) (failed : R → Bool) where
  one_game : {B : Type 0} (old new : AtHand R) (game : Game B) (used : ℕ) → HasCome (brings gives failed) unread (has_all gives failed) (reads_left gives failed) old new game used → HasGame gives failed old new (game_of game)
  one_game old new game used h = let c = came_where HasNoGameYet gives failed old new h.pieces (all_came gives failed old new h.pieces h.came) h.needed in record {
    bytes = joined h.pieces;
    came = c.came;
    text = h.text;
    some = (let k = front_some _ (game_of game) used (h.reads [] (λ e. refl)) in omega (arith, k, h.counted));
    parts = h.parts;
    reads = λ more none. subst (λ (n : ℕ). BeginsWithGame (unread old ++ (joined h.pieces ++ more)) (game_of game) n) (sym h.counted) (h.reads more none);
    near = h.near;
    needed = c.asked;
    still = h.still;
  }

  no_game : (old new : AtHand R) → NoneCame (brings gives failed) unread (has_all gives failed) (reads_left gives failed) old new → HasNone gives failed old new
  no_game old new h = record {
    bytes = joined h.pieces;
    came = all_came gives failed old new h.pieces h.came;
    ended = h.ended;
    used = h.nothing;
    white = h.white;
    still = h.still;
  }

  taken : {B : Type 0} (old new : AtHand R) (found : Option (Game B × ℕ)) (game : Game B) (used : ℕ) → FoundGame (brings gives failed) unread (has_all gives failed) (reads_left gives failed) old new found → found ≡ Some (game, used) → HasCome (brings gives failed) unread (has_all gives failed) (reads_left gives failed) old new game used
  taken old new found game used h e = subst (λ o. FoundGame (brings gives failed) unread (has_all gives failed) (reads_left gives failed) old new o) e h

  module _ {B : Type 0} (old new : AtHand R) (found : Option (Game B × ℕ)) (game : Game B) (used : ℕ) (h : FoundGame (brings gives failed) unread (has_all gives failed) (reads_left gives failed) old new found) (e : found ≡ Some (game, used)) where
    pub source_game : HasGame gives failed old new (game_of game)
    source_game = one_game old new game used (taken old new found game used h e)

  pub source_none : {B : Type 0} (old new : AtHand R) (found : Option (Game B × ℕ)) → FoundGame (brings gives failed) unread (has_all gives failed) (reads_left gives failed) old new found → found ≡ None → HasNone gives failed old new
  source_none old new found h e = no_game old new (subst (λ o. FoundGame (brings gives failed) unread (has_all gives failed) (reads_left gives failed) old new o) e h)

-- ---- games, one after another

module _ {R : Type 0} (gives : R → List ℕ → R → Type 0) (failed : R → Bool) where
  -- its bytes are used
  pub next_game : {B : Type 0} (old new : Games R) (found : Option (Game B × ℕ)) (game : Game B) (used : ℕ) → FoundGame (brings gives failed) unread (has_all gives failed) (reads_left gives failed) old.text new.text found → found ≡ Some (game, used) → NextGame gives failed old new (game_of game)
  next_game old new found game used h e =
      let took = source_game gives failed old.text new.text found game used h e in
      record {
        took = took;
        used = (let a = length-append (unread old.text) took.bytes in let b = length-append took.text (unread new.text) in let c = ap length took.parts in omega (arith, a, b, c, took.came.placed));
      }

-- where reading may go on after a fault, the source has ended where its end was seen
module _ {R : Type 0} (gives : R → List ℕ → R → Type 0) (failed : R → Bool) (ended : R → Type 0) where
  pub fault_sound : (old : AtHand R) (new : Games R) (fault : GamesFault) → new.fault ≡ Some fault → HasFault gives failed ended old new.text fault → IsSound ended new
  fault_sound old new fault e h = record { ended_so = λ on. by fault (subst (λ (f : Option GamesFault). MayGoOn f) e on) h }
    where
      by : (fault : GamesFault) → MayGoOn (Some fault) → HasFault gives failed ended old new.text fault → new.text.has_ended ≡ true → ended new.text.source
      by Read on h = absurd on
      by (Pgn f) on (inl k) = absurd (on k.0)
      by (Pgn f) on (inr k) = k.1.ended_so

  -- and such a fault stays where bytes can't be passed over
  pub not_passed_sound : (old : AtHand R) (new : Games R) (fault : GamesFault) → new.fault ≡ Some fault → NotGivenUp gives failed old new.text fault → IsSound ended new
  not_passed_sound old new fault e h = record { ended_so = λ on. by fault (subst (λ (f : Option GamesFault). MayGoOn f) e on) h }
    where
      by : (fault : GamesFault) → MayGoOn (Some fault) → NotGivenUp gives failed old new.text fault → new.text.has_ended ≡ true → ended new.text.source
      by Read on h = absurd on
      by (Pgn f) on h = absurd (on h.0)

-- what a call for the next game does, as it ends
module _ {R A : Type 0} (gives : R → List ℕ → R → Type 0) (failed : R → Bool) (ended : R → Type 0) (old : Games R) where
  -- a fault came before
  pub again_reads : (fault : GamesFault) → old.fault ≡ Some fault → IsSound ended old → ReadsNext {A = A} gives failed ended old old (Err fault)
  again_reads fault e sound = record {
    sound = sound;
    again = λ other h. rw (some_is {A = GamesFault} fault other (sym e ∙ h)) refl;
    untouched = λ other h. refl;
    sticky = e;
    good = tt;
    game = tt;
    cursor = tt;
    none = λ h. absurd cc;
    fault = λ h. absurd (let k = sym e ∙ h in cc);
    place = λ h. absurd (let k = sym e ∙ h in cc);
    leaves = λ h. absurd (let k = sym e ∙ h in cc);
  }

  -- none came before
  pub first_reads : (new : Games R) (result : Result (Option (Game A)) GamesFault) → old.fault ≡ None → IsSound ended new → IfErr result (λ fault. new.fault ≡ Some fault) → IfOk result (λ _. new.fault ≡ None)
      → IfOk result (λ found. IfSome found (λ game. NextGame gives failed old new (game_of game))) → IfOk result (λ found. IfSome found (λ game. game.tree.path ≡ [])) → (result ≡ Ok None → HasNone gives failed old.text new.text)
      → IfErr result (λ fault. HasFault gives failed ended old.text new.text fault) → IfErr result (λ fault. IsPlaced old.text.used fault)
      → IfErr result (λ fault. MayGoOn (Some fault) → Leaves gives failed old.text new.text new.halt) → ReadsNext gives failed ended old new result
  first_reads new result came sound sticky good game cursor none fault place leaves = record {
    sound = sound;
    again = λ before h. absurd (let k = sym came ∙ h in cc);
    untouched = λ before h. absurd (let k = sym came ∙ h in cc);
    sticky = sticky;
    good = good;
    game = game;
    cursor = cursor;
    none = none;
    fault = λ h. fault;
    place = λ h. place;
    leaves = λ h. leaves;
  }

-- ---- a bad game

module _ {R E : Type 0} (gives : R → List ℕ → R → Type 0) (failed : R → Bool) (old new : AtHand R) (result : Result ℕ E) where
  if_ok : (P : ℕ → Type 0) (Q : Type 0) → ((count : ℕ) → P count → Q) → (r : Result ℕ E) → IfOk r P → IfOk r (λ _. Q)
  if_ok P Q f (Ok count) h = f count h
  if_ok P Q f (Err e) h = tt

  -- where no fault came, reading goes on at once
  pub passes_on : (fault : Option GamesFault) (halt : Option Halt) → (seeks fault halt ≡ None → IfOk result (λ count. PassesOver gives failed old new count)) → fault ≡ None → IfOk result (λ count. PassesOver gives failed old new count)
  passes_on fault halt passes none = passes (ap (λ (f : Option GamesFault). seeks f halt) none)

  pub stops_on : (P : Type 0) (fault : Option GamesFault) (halt : Option Halt) → (seeks fault halt ≡ None → P) → fault ≡ None → P
  stops_on P fault halt stops none = stops (ap (λ (f : Option GamesFault). seeks f halt) none)

  -- and else after the items of the bad game
  pub gives_up : (before : AtHand R) (fault : Option GamesFault) (halt : Option Halt) → (seeks fault halt ≡ None → IfOk result (λ count. PassesOver gives failed old new count))
      → ((h : Halt) (before : AtHand R) → seeks fault halt ≡ Some h → Halts gives failed before old h → IfOk result (λ count. GivesUpFrom gives failed before new (h.at + count)))
      → (why : GamesFault) → fault ≡ Some why → Leaves gives failed before old halt → IfOk result (λ _. IsGivenUp gives failed before new)
  gives_up before None halt passes up why is leaves = absurd (let e = is in cc)
  gives_up before (Some fault) None passes up why is leaves = if_ok (λ count. PassesOver gives failed old new count) (IsGivenUp gives failed before new) (λ count p. (new.used - before.used, gives_up_all gives failed before old new leaves count p)) result (passes refl)
  gives_up before (Some fault) (Some h) passes up why is leaves = if_ok (λ count. GivesUpFrom gives failed before new (h.at + count)) (IsGivenUp gives failed before new) (λ count p. (h.at + count, p)) result (up h before refl leaves)

-- a bad game that can't be given up
module _ {R : Type 0} (gives : R → List ℕ → R → Type 0) (failed : R → Bool) (old new : AtHand R) (off : Fault) where
  pub in_part : (before : AtHand R) (fault : Option GamesFault) (halt : Option Halt) → (seeks fault halt ≡ None → SeekBreaks gives failed old new off)
      → ((h : Halt) (before : AtHand R) → seeks fault halt ≡ Some h → Halts gives failed before old h → GivesUpInPart gives failed before new off) → (why : GamesFault) → fault ≡ Some why → Leaves gives failed before old halt → GivesUpInPart gives failed before new off
  in_part before None halt stops part why is leaves = absurd (let e = is in cc)
  in_part before (Some fault) None stops part why is leaves = sought_part gives failed before old leaves new off (stops refl)
  in_part before (Some fault) (Some h) stops part why is leaves = part h before refl leaves

-- wherever the fault is placed
pub part_placed : {R : Type 0} (gives : R → List ℕ → R → Type 0) (failed : R → Bool) (before new : AtHand R) (fault placed : GamesFault) → HasKind fault placed → IsGivenUpInPart gives failed before new fault → IsGivenUpInPart gives failed before new placed
part_placed gives failed before new (Pgn fault) (Pgn placed) e h = (e ∙ h.0, h.1)
part_placed gives failed before new (Pgn fault) Read e h = absurd e
part_placed gives failed before new Read (Pgn placed) e h = absurd e
part_placed gives failed before new Read Read e h = h

-- a search that broke off
pub seek_off : {R : Type 0} (gives : R → List ℕ → R → Type 0) (failed : R → Bool) (old new : AtHand R) (fault : Fault) → SeekBreaks gives failed old new fault → GiveUpBreaks gives failed old new fault
seek_off gives failed old new off.Memory b = (b.bytes, b.came)
seek_off gives failed old new off.Read b = record { bytes = b.bytes; before = b.before; came = b.came; breaks = b.breaks; not_ended = b.not_ended; none = tt }

pub seek_broken : {R : Type 0} (gives : R → List ℕ → R → Type 0) (failed : R → Bool) (old new : AtHand R) (result : Result ℕ Fault) → IfErr result (λ fault. SeekBreaks gives failed old new fault) → IfErr result (λ fault. GiveUpBreaks gives failed old new fault)
seek_broken gives failed old new (Ok count) b = tt
seek_broken gives failed old new (Err fault) b = seek_off gives failed old new fault b
