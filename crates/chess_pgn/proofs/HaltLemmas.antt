-- How far the items of a bad game were used: no tag begins among them after movetext, and the reader knows whether that has begun.
use Rattle.std.proofs.Common.{◌≡◌, ◌⊎◌, ℕ, ◌≤◌, Bool, true, false, ◌&&◌, ◌||◌, not, List, [], ◌∷◌, ◌++◌, Option, Some, Ok, refl, sym, ap, subst, ◌∙◌, arith, append_assoc}
use Rattle.std.specs.Prelude.{IfSome, Result}
use Rattle.std.specs.List.{list_all}
use mathlib.Core.Logic.{inl, inr}
use Rattle.byte_streams.specs.Calls.{Calls, joined}
use Rattle.chess_items.specs.Abandoned.{HaltsIn, MayUse, UsesAllIn, has_begun, is_bracket, is_one, moves_begin}
use Rattle.chess_items.specs.Items as items
use Rattle.chess_items.specs.Items.{Item, Spells, is_white, place_behind}
use Rattle.chess_items.specs.steps.Passing.{NotWhite, Passed, Passes}
use Rattle.chess_items.specs.steps.Taking.{AfterRun, Asked, Brackets, Ran, RanOver, Takes, Took}
use Rattle.chess_items.specs.steps.Deciding.{Decides}
use Rattle.chess_items.specs.steps.Texts.{LastSince}
use Rattle.chess_items.specs.declared.fault.FaultKind.{FaultKind}
use Rattle.chess_items.specs.declared.fault.FaultKind.TheVariants.{Memory}
use Rattle.chess_items.specs.declared.fault.PgnFault.{PgnFault}
use Rattle.chess_items.specs.declared.place.Place.{Place}
use Rattle.chess_items.specs.declared.place.Place.TheVariants.{GameStart}
use Rattle.chess_items.specs.declared.skimming.Halt.{Halt}
use Rattle.chess_items.specs.declared.taker.Taken.{Taken}
use Rattle.chess_items.specs.declared.taker.Taken.TheVariants.{Ends as AtEnd, GoesOn}
use Rattle.chess_items.specs.declared.taking.Stop.{Stop}
use Rattle.chess_items.specs.declared.taking.Stop.TheVariants as stop
use Rattle.chess_items.specs.declared.taking.Stopped.{Stopped}
use Rattle.chess_items.proofs.DecideLemmas.{is_decided}
use Rattle.chess_items.proofs.SkimLemmas.{skimmed_white}
use Rattle.chess_items.proofs.TakingLemmas.{bare, few_after, spells_bare}
use Rattle.chess_pgn.specs.Reading.{HasBegun, is_heading, is_movetext}
use Rattle.chess_pgn.specs.steps.GameAt.{LeavesIn, halt_at, is_flood}
use Rattle.chess_pgn.specs.steps.ReaderCode.{IsNew, TakesItem, Unanswered, takes_when}
use Rattle.chess_pgn.specs.declared.reader.Reader.{Reader}
use Rattle.chess_pgn.proofs.ChainLemmas.{Progress, progress_all, progress_new}
use Rattle.chess_pgn.proofs.FrontLemmas.{behind_bare, whites_bare}

-- ---- items of one game

head_begins : (i : Item) → moves_begin i ≡ not (is_heading i)
head_begins items.Skipped = refl
head_begins (items.Word word) = refl
head_begins (items.Nag n) = refl
head_begins items.Open = refl
head_begins items.Close = refl
head_begins (items.Marker outcome) = refl
head_begins _ = refl

no_bracket : (i : Item) → is_movetext i ≡ true → is_bracket i ≡ false
no_bracket items.TagOpen e = absurd cc
no_bracket _ e = refl

front_true : (a b : Bool) → a && b ≡ true → a ≡ true
front_true true b e = refl
front_true false b e = absurd cc

back_true : (a b : Bool) → a && b ≡ true → b ≡ true
back_true true b e = e
back_true false b e = absurd cc

and_false : (a : Bool) → a && false ≡ false
and_false true = refl
and_false false = refl

or_true : (a : Bool) → a || true ≡ true
or_true true = refl
or_true false = refl

movetext_one : (begun : Bool) (is : List Item) → list_all is_movetext is ≡ true → is_one begun is ≡ true
movetext_one begun [] e = refl
movetext_one begun (i ∷ is) e =
    ap (λ (v : Bool). not (begun && v) && is_one (begun || moves_begin i) is) (no_bracket i (front_true (is_movetext i) (list_all is_movetext is) e))
    ∙ ap (λ (v : Bool). not v && is_one (begun || moves_begin i) is) (and_false begun)
    ∙ movetext_one (begun || moves_begin i) is (back_true (is_movetext i) (list_all is_movetext is) e)

still_begun : (is : List Item) → has_begun true is ≡ true
still_begun [] = refl
still_begun (i ∷ is) = still_begun is

movetext_begun : (is : List Item) → HasBegun is → has_begun false is ≡ true
movetext_begun [] h = absurd h
movetext_begun (i ∷ is) h = ap (λ (v : Bool). has_begun v is) (head_begins i ∙ ap not h) ∙ still_begun is

-- a head before other items changes nothing
behind_head : (head is : List Item) → list_all is_heading head ≡ true → (is_one false (head ++ is) ≡ is_one false is) × (has_begun false (head ++ is) ≡ has_begun false is)
behind_head [] is e = (refl, refl)
behind_head (i ∷ head) is e =
    let none : moves_begin i ≡ false = head_begins i ∙ ap not (front_true (is_heading i) (list_all is_heading head) e) in
    let r = behind_head head is (back_true (is_heading i) (list_all is_heading head) e) in
    (ap (λ (v : Bool). is_one v (head ++ is)) none ∙ r.0, ap (λ (v : Bool). has_begun v (head ++ is)) none ∙ r.1)

head_alone : (is : List Item) → list_all is_heading is ≡ true → (is_one false is ≡ true) × (has_begun false is ≡ false)
head_alone [] e = (refl, refl)
head_alone (i ∷ is) e =
    let none : moves_begin i ≡ false = head_begins i ∙ ap not (front_true (is_heading i) (list_all is_heading is) e) in
    let r = head_alone is (back_true (is_heading i) (list_all is_heading is) e) in
    (ap (λ (v : Bool). is_one v is) none ∙ r.0, ap (λ (v : Bool). has_begun v is) none ∙ r.1)

one_game : {A : Type 0} (is : List Item) (r : Reader A) → Progress is r → (is_one false is ≡ true) × (r.moving ≡ has_begun false is)
one_game is r (inl h) = (let o = head_alone is h.heading in (o.0, h.moving ∙ sym o.1))
one_game is r (inr m) =
    let o = behind_head m.head m.movetext m.there.heading in (
      ap (is_one false) m.parts ∙ o.0 ∙ movetext_one false m.movetext m.there.stands,
      m.there.moving ∙ sym (ap (has_begun false) m.parts ∙ o.1 ∙ movetext_begun m.movetext m.begun),
    )

-- ---- what was offered beyond the limit

ok_is : (a b : Taken) → ◌≡◌ {A = Result Taken PgnFault} (Ok a) (Ok b) → a ≡ b
ok_is a b e = cc

offered_still : {A : Type 0} (t u : Reader A) → TakesItem t items.TagOpen (Ok GoesOn) u ⊎ TakesItem t items.TagOpen (Ok AtEnd) u → u.moving ≡ t.moving
offered_still t u (inl k) = by t.moving k.0
  where
    by : (v : Bool) → takes_when v items.TagOpen (Ok GoesOn) t u → u.moving ≡ t.moving
    by true r = r.moving
    by false (inl h) = h.1.moving
    by false (inr h) = absurd (let e = h.0 in cc)
offered_still t u (inr k) = by t.moving k.0
  where
    by : (v : Bool) → takes_when v items.TagOpen (Ok AtEnd) t u → u.moving ≡ t.moving
    by true r = absurd (let e = r.marker in cc)
    by false (inl h) = absurd (let e = ok_is AtEnd GoesOn h.0 in cc)
    by false (inr h) = absurd (let e = h.0 in cc)

-- ---- the game that can't be read

is_memory : (k : FaultKind) → (k ≡ Memory) ⊎ (k ≡ Memory → ⊥)
is_memory Memory = inl refl
is_memory _ = inr (λ e. cc)

module _ {X A : Type 0} (comes : X → List ℕ → X → Type 0) (at_hand : X → List ℕ) (all sound : X → Type 0) (reads : X → ℕ) (old : X) (t u : Reader A) (new_reader : IsNew t) where
  abbrev takes : Reader A → ℕ → Item → Result Taken PgnFault → Reader A → Type 0
  takes s at item result v = TakesItem s item result v

  -- the last read was made where the bytes before it don't decide the next item
  asked_use : (came : List ℕ) (new : X) (is : List (ℕ × Item)) → Asked comes at_hand all sound reads takes 1048576 old came new t is → LastSince comes at_hand all reads MayUse old came new
  asked_use came new is (inl same) = inl same
  asked_use came new is (inr r) =
      let begun = joined r.split.earlier in
      inr (
        r.not_yet,
        r.split,
        record {
          items = bare r.items;
          rest = r.rest;
          spelled = λ more.
              subst (λ (z : List ℕ). Spells GameStart z (bare r.items) (r.rest ++ more)) (sym (append_assoc (at_hand old) begun more))
              (spells_bare 0 GameStart (at_hand old ++ (begun ++ more)) r.items (r.rest ++ more) (r.spelled more));
          one = (one_game (bare r.items) r.last (progress_all [] r.items t r.last (progress_new t new_reader) r.taken)).0;
          few = inr r.few;
          undecided = λ d. r.undecided (subst (λ (p : Place). Decides p r.rest) (sym (behind_bare GameStart r.items)) (is_decided (place_behind GameStart (bare r.items)) r.rest d));
        },
      )

  module _ (pieces : List (List ℕ)) (new : X) (came : Calls comes old pieces new) (at : ℕ) (place : Place) (white : Bool) where
    abbrev halt : Halt
    halt = record { place = place; at = at; begun = u.moving; white = white }

    halts_after : (is : List (ℕ × Item)) (r : Reader A) → Asked comes at_hand all sound reads takes 1048576 old (joined pieces) new t is → Took comes at_hand all sound reads takes 1048576 old pieces new is at place white → Takes takes t is r → u.moving ≡ r.moving → HaltsIn comes at_hand all reads old new halt
    halts_after is r asked took taken same =
        let one = one_game (bare is) r (progress_all [] is t r (progress_new t new_reader) taken) in
        record {
          pieces = pieces;
          came = came;
          items = bare is;
          spelled = λ more so. spells_bare 0 GameStart (at_hand old ++ (joined pieces ++ more)) is (at_hand new ++ more) (took.spelled more so);
          one = one.0;
          begun = same ∙ one.1;
          white = took.whites ∙ whites_bare is;
          stands = took.stands ∙ behind_bare GameStart is;
          counted = (let c = took.counted in omega (arith, c));
          few = took.few;
          asked = asked_use (joined pieces) new is asked;
          still = took.at_end;
        }

    moving_over : (mid : Reader A) → (u ≡ mid) ⊎ Brackets takes at mid u → u.moving ≡ mid.moving
    moving_over mid (inl e) = ap (λ (r : Reader A). r.moving) e
    moving_over mid (inr b) = offered_still mid u b

    halts_run : (why : Stop) (fault : PgnFault) → (fault.kind ≡ Memory → ⊥) → AfterRun comes at_hand all sound reads takes 1048576 old pieces new t u at place white why → Unanswered why u fault → HaltsIn comes at_hand all reads old new halt
    halts_run stop.Full fault kind r a = absurd (kind a)
    halts_run stop.Left fault kind r a = absurd (kind a)
    halts_run (stop.Refused why) fault kind r a = halts_after r.items r.mid r.asked r.took r.taken r.answered.1
    halts_run stop.End fault kind r a = halts_after r.items u r.asked r.took r.taken refl
    halts_run stop.NoItem fault kind r a = halts_after r.items u r.asked r.took r.taken refl
    halts_run stop.TooLarge fault kind r a = halts_after r.items r.mid r.asked r.took r.taken (moving_over r.mid r.exceeds.same)

  module _ (s : Stopped) (mid new : X) (r : Ran comes at_hand all sound reads takes 1048576 old mid t u (Ok s)) (w : NotWhite comes at_hand all sound reads takes s mid new) where
    over : RanOver comes at_hand all sound reads takes 1048576 old r.pieces mid t u s.at s.place s.white
    over = subst (λ (y : Stop). AfterRun comes at_hand all sound reads takes 1048576 old r.pieces mid t u s.at s.place s.white y) w.over r.after

    flooded : UsesAllIn comes at_hand all reads old new
    flooded =
        let halts = halts_after r.pieces mid r.came s.at s.place s.white over.items over.mid over.asked over.took over.taken (moving_over r.pieces mid r.came s.at s.place s.white over.mid over.exceeds.same) in
        skimmed_white comes at_hand all sound reads old mid s.place s.at (record { begun = u.moving }) s.white halts w.white over.exceeds.over new w.skipped

  pub leaves_come : (new : X) (found : Option Stopped) (s : Stopped) (fault : PgnFault) → Passes comes at_hand all sound reads takes 1048576 old new t u (Ok found) → found ≡ Some s → Unanswered s.why u fault
      → (fault.kind ≡ Memory) ⊎ LeavesIn comes at_hand all reads old new (halt_at (is_flood s.why s.white) (record { place = s.place; at = s.at; begun = u.moving; white = s.white }))
  leaves_come new found s fault h e a = by (is_memory fault.kind)
    where
      here : Halt
      here = record { place = s.place; at = s.at; begun = u.moving; white = s.white }

      flood : s.why ≡ stop.TooLarge → s.white ≡ true → is_flood s.why s.white ≡ true
      flood why white = ap (λ (w : Stop). is_flood w s.white) why ∙ white

      dry : (why : Stop) (white : Bool) → (why ≡ stop.TooLarge → white ≡ false) → is_flood why white ≡ false
      dry stop.TooLarge white k = k refl
      dry _ white k = refl

      p : Passed comes at_hand all sound reads takes 1048576 old new t u s
      p = subst (λ (o : Option Stopped). Passes comes at_hand all sound reads takes 1048576 old new t u (Ok o)) e h

      by : (fault.kind ≡ Memory) ⊎ (fault.kind ≡ Memory → ⊥) → (fault.kind ≡ Memory) ⊎ LeavesIn comes at_hand all reads old new (halt_at (is_flood s.why s.white) here)
      by (inl k) = inl k
      by (inr k) = inr (elim p.after [
        | inl same ↦
            subst (λ (b : Bool). LeavesIn comes at_hand all reads old new (halt_at b here)) (sym (dry s.why s.white same.1))
            (subst (λ (x : X). HaltsIn comes at_hand all reads old x here) (sym same.0) (halts_run p.ran.pieces p.mid p.ran.came s.at s.place s.white s.why fault k p.ran.after a))
        | inr w ↦ subst (λ (b : Bool). LeavesIn comes at_hand all reads old new (halt_at b here)) (sym (flood w.over w.white)) (flooded s p.mid new p.ran w)
      ])

  pub few_come : (new : X) (found : Option Stopped) (s : Stopped) → Passes comes at_hand all sound reads takes 1048576 old new t u (Ok found) → found ≡ Some s → IfSome (halt_at (is_flood s.why s.white) (record { place = s.place; at = s.at; begun = u.moving; white = s.white })) (λ halt. halt.at ≤ 1048576)
  few_come new found s h e =
      let p : Passed comes at_hand all sound reads takes 1048576 old new t u s = subst (λ (o : Option Stopped). Passes comes at_hand all sound reads takes 1048576 old new t u (Ok o)) e h in
      by (is_flood s.why s.white) (few_after comes at_hand all sound reads takes 1048576 old t p.mid u p.ran.pieces s.at s.place s.white s.why p.ran.after)
    where
      by : (b : Bool) → s.at ≤ 1048576 → IfSome (halt_at b (record { place = s.place; at = s.at; begun = u.moving; white = s.white })) (λ halt. halt.at ≤ 1048576)
      by true few = tt
      by false few = few
