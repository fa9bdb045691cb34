-- Why the reading of a game stops with a fault: no game is there, whatever follows.
use Rattle.std.proofs.Common.{◌≡◌, ◌⊎◌, ◌<◌, ◌≤◌, ℕ, ◌+◌, ◌-◌, Bool, true, false, List, [], ◌∷◌, ◌++◌, length, Option, Some, None, Ok, Err, refl, sym, ap, subst, ◌∙◌, arith, append_assoc, append-nil, length-append}
use Rattle.std.specs.List.{list_all}
use Rattle.std.specs.Prelude.{Result}
use mathlib.Core.Logic.{inl, inr}
use Rattle.byte_streams.specs.Calls.{Calls, joined}
use Rattle.byte_streams.proofs.CallLemmas.{Calls-append, joined-append}
use Rattle.chess_items.specs.Items as items
use Rattle.chess_items.specs.Items.{Item, Spells, is_white, place_behind}
use Rattle.chess_items.specs.steps.ItemAt.{item_at}
use Rattle.chess_items.specs.steps.Deciding.{Decides}
use Rattle.chess_items.specs.steps.Passing.{NotWhite, PassBreaks, Passed, Passes}
use Rattle.chess_items.specs.steps.Skipping.{MaySkip}
use Rattle.chess_items.specs.steps.Taking.{AfterRun, Asked, Ran, RanAground, RanOut, RanOver, RanUpTo, RunBroke, Takes, Took}
use Rattle.chess_items.specs.steps.Texts.{BrokeWhile, LastSince, Oversized, ShortWhile}
use Rattle.chess_items.specs.declared.at_hand.Fault.TheVariants.{Read, Memory as Short}
use Rattle.chess_items.specs.declared.fault.PgnFault.{PgnFault}
use Rattle.chess_items.specs.declared.fault.FaultKind.{FaultKind}
use Rattle.chess_items.specs.declared.fault.FaultKind.TheVariants.{Memory}
use Rattle.chess_items.specs.declared.place.Place.{Place}
use Rattle.chess_items.specs.declared.place.Place.TheVariants.{GameStart}
use Rattle.chess_items.specs.declared.taker.Taken.{Taken}
use Rattle.chess_items.specs.declared.taking.Stop.{Stop}
use Rattle.chess_items.specs.declared.taking.Stop.TheVariants as stop
use Rattle.chess_items.specs.declared.taking.Stopped.{Stopped}
use Rattle.chess_items.proofs.AskedLemmas.{since_on}
use Rattle.chess_items.proofs.BlankLemmas.{place_on, white_join}
use Rattle.chess_items.proofs.DecideLemmas.{is_decided}
use Rattle.chess_items.proofs.FoundLemmas.{the}
use Rattle.chess_items.proofs.SpellLemmas.{spells_on}
use Rattle.chess_items.proofs.TakingLemmas.{bare, ended_after, spells_bare}
use Rattle.chess_pgn.specs.Games.{Game}
use Rattle.chess_pgn.specs.Reading.{HasNoGameYet, BeginsWithGame, IsWhite, MayBegin}
use Rattle.chess_pgn.specs.Sources.{EndsOpen, EndsWithin}
use Rattle.chess_pgn.specs.steps.GameAt.{HasBroken, HasStarved, IsUnread, NotCome}
use Rattle.chess_pgn.specs.steps.ReaderCode.{IsNew, MayNotEnd, TakesItem, Unanswered}
use Rattle.chess_pgn.specs.declared.reader.Reader.{Reader}
use Rattle.chess_pgn.proofs.ChainLemmas.{Progress, progress_all, progress_new}
use Rattle.chess_pgn.proofs.DarkLemmas.{dark_aground, dark_beyond, dark_refused, dark_taken}
use Rattle.chess_pgn.proofs.FrontLemmas.{behind_bare, whites_bare}
use Rattle.chess_pgn.proofs.MayBeginLemmas.{may_begin, white_begins}
use Rattle.chess_pgn.proofs.NoGameLemmas.{none_aground, none_out, none_over, none_refused}
use Rattle.chess_pgn.proofs.UndecidedLemmas.{undecided_none}

-- ---- why the reading stops

front_nil : (xs ys : List ℕ) → xs ++ ys ≡ [] → xs ≡ []
front_nil [] ys e = refl
front_nil (x ∷ xs) ys e = absurd cc

is_memory : (k : FaultKind) → (k ≡ Memory) ⊎ (k ≡ Memory → ⊥)
is_memory Memory = inl refl
is_memory _ = inr (λ e. cc)

module _ {X A : Type 0} (comes : X → List ℕ → X → Type 0) (at_hand : X → List ℕ) (all sound : X → Type 0) (reads : X → ℕ) (old : X) (t u : Reader A) (new_reader : IsNew t) where
  abbrev takes : Reader A → ℕ → Item → Result Taken PgnFault → Reader A → Type 0
  takes s at item result v = TakesItem s item result v

  abbrev limit : ℕ
  limit = 1048576

  -- the items that are used where the reading stops with a fault
  record IsStopped (pieces : List (List ℕ)) (new : X) (at : ℕ) (place : Place) (white : Bool) : Type 0 where
    pub items : List (ℕ × Item)
    pub begins : MayBegin (bare items)
    pub took : Took comes at_hand all sound reads takes limit old pieces new items at place white
    pub asked : Asked comes at_hand all sound reads takes limit old (joined pieces) new t items

  begins_so : (is : List (ℕ × Item)) (r : Reader A) → Takes takes t is r → MayBegin (bare is)
  begins_so is r k = may_begin (bare is) r (progress_all [] is t r (progress_new t new_reader) k)

  stopped_at : (pieces : List (List ℕ)) (new : X) (at : ℕ) (place : Place) (white : Bool) (why : Stop) (fault : PgnFault) → (fault.kind ≡ Memory → ⊥) → AfterRun comes at_hand all sound reads takes limit old pieces new t u at place white why → Unanswered why u fault
      → IsStopped pieces new at place white
  stopped_at pieces new at place white stop.Full fault kind r a = absurd (kind a)
  stopped_at pieces new at place white stop.Left fault kind r a = absurd (kind a)
  stopped_at pieces new at place white (stop.Refused why) fault kind r a = record { items = r.items; begins = begins_so r.items r.mid r.taken; took = r.took; asked = r.asked }
  stopped_at pieces new at place white stop.End fault kind r a = record { items = r.items; begins = begins_so r.items u r.taken; took = r.took; asked = r.asked }
  stopped_at pieces new at place white stop.NoItem fault kind r a = record { items = r.items; begins = begins_so r.items u r.taken; took = r.took; asked = r.asked }
  stopped_at pieces new at place white stop.TooLarge fault kind r a = record { items = r.items; begins = begins_so r.items r.mid r.taken; took = r.took; asked = r.asked }

  -- some bytes end within an item after these
  pub open_at : (is : List (ℕ × Item)) (r : Reader A) → Takes takes t is r → (begun rest : List ℕ) → ((more : List ℕ) → Spells GameStart (begun ++ more) (bare is) (rest ++ more)) → length begun ≤ limit → (Decides (place_behind GameStart (bare is)) rest → ⊥) → EndsOpen begun
  open_at is r taken begun rest spelled few undecided = record {
    items = bare is;
    begins = begins_so is r taken;
    rest = rest;
    spelled = spelled;
    few = inl few;
    undecided = λ d. undecided (is_decided (place_behind GameStart (bare is)) rest d);
  }

  -- so do those before the last read, and they have no one game
  pub asked_both : (came : List ℕ) (new : X) (is : List (ℕ × Item)) → Asked comes at_hand all sound reads takes limit old came new t is → LastSince comes at_hand all reads IsUnread old came new
  asked_both came new is (inl same) = inl same
  asked_both came new is (inr r) =
      let begun = joined r.split.earlier in
      let spelled : (more : List ℕ) → Spells GameStart ((at_hand old ++ begun) ++ more) (bare r.items) (r.rest ++ more) =
      λ more. subst (λ (z : List ℕ). Spells GameStart z (bare r.items) (r.rest ++ more)) (sym (append_assoc (at_hand old) begun more)) (spells_bare 0 GameStart (at_hand old ++ (begun ++ more)) r.items (r.rest ++ more) (r.spelled more)) in
      let undecided = subst (λ (p : Place). Decides p r.rest → ⊥) (behind_bare GameStart r.items) r.undecided in
      inr (
        r.not_yet,
        r.split,
        (
          (λ g n x. undecided_none (bare r.items) r.last (progress_all [] r.items t r.last (progress_new t new_reader) r.taken) (at_hand old ++ begun) r.rest spelled undecided g n x),
          open_at r.items r.last r.taken (at_hand old ++ begun) r.rest spelled r.few undecided,
        ),
      )

  since_open : (came : List ℕ) (new : X) → LastSince comes at_hand all reads IsUnread old came new → LastSince comes at_hand all reads EndsOpen old came new
  since_open came new (inl same) = inl same
  since_open came new (inr l) = inr (l.0, l.1, l.2.1)

  -- whatever it stops with
  run_both : (pieces : List (List ℕ)) (new : X) (at : ℕ) (place : Place) (white : Bool) (why : Stop) → AfterRun comes at_hand all sound reads takes limit old pieces new t u at place white why → LastSince comes at_hand all reads IsUnread old (joined pieces) new
  run_both pieces new at place white stop.Full r = asked_both (joined pieces) new r.items r.asked
  run_both pieces new at place white _ r = asked_both (joined pieces) new r.items r.asked

  module _ (pieces : List (List ℕ)) (new : X) (at : ℕ) (place : Place) (white : Bool) (more : List ℕ) (none : all new → more ≡ []) where
    abbrev whole : List ℕ
    whole = at_hand old ++ (joined pieces ++ more)

    abbrev rest : List ℕ
    rest = at_hand new ++ more

    module _ (is : List (ℕ × Item)) (took : Took comes at_hand all sound reads takes limit old pieces new is at place white) where
      spelled : Spells GameStart whole (bare is) rest
      spelled = spells_bare 0 GameStart whole is rest (took.spelled more none)

      there : place ≡ place_behind GameStart (bare is)
      there = took.stands ∙ behind_bare GameStart is

      counted : at + length rest ≡ length whole
      counted =
          let a = length-append (at_hand new) more in
          let b = length-append (at_hand old) (joined pieces ++ more) in
          let c = length-append (joined pieces) more in
          omega (arith, a, b, c, took.counted)

    taken_so : (is : List (ℕ × Item)) (r : Reader A) → Takes takes t is r → Progress (bare is) r
    taken_so is r k = progress_all [] is t r (progress_new t new_reader) k

    module _ (g : Game) (n : ℕ) (x : BeginsWithGame whole g n) where
      run_refused : (fault : PgnFault) → (fault.kind ≡ Memory → ⊥) → RanUpTo comes at_hand all sound reads takes limit old pieces new t u at place white (Err fault) → ⊥
      run_refused fault kind r =
          let is = bare r.items in
          none_refused is r.item fault r.mid u (taken_so r.items r.mid r.taken) r.answered kind whole rest (r.rest ++ more) (spelled r.items r.took)
          (subst (λ (p : Place). item_at p rest ≡ the r.item (r.rest ++ more)) (there r.items r.took) (r.found more none)) g n x

      run_out : MayNotEnd u → RanOut comes at_hand all sound reads takes limit old pieces new t u at place white → ⊥
      run_out not_yet r =
          none_out (bare r.items) u (taken_so r.items u r.taken) not_yet whole rest (spelled r.items r.took) (ap (λ (z : List ℕ). z ++ more) r.nothing ∙ none r.ended) g n x

      run_aground : RanAground comes at_hand all sound reads takes limit old pieces new t u at place white → ⊥
      run_aground r =
          none_aground (bare r.items) u (taken_so r.items u r.taken) whole rest (spelled r.items r.took)
          (subst (λ (p : Place). item_at p rest ≡ None) (there r.items r.took) (r.none.none more none)) (λ e. r.none.some (front_nil (at_hand new) more e)) g n x

      run_over : RanOver comes at_hand all sound reads takes limit old pieces new t u at place white → ⊥
      run_over r =
          none_over (bare r.items) r.mid u (taken_so r.items r.mid r.taken) at r.took.few whole rest (spelled r.items r.took) (counted r.items r.took)
          (subst (λ (p : Place). Oversized (limit - at) p rest) (there r.items r.took) (r.exceeds.over more none))
          (λ next e. r.exceeds.bracket more none next (subst (λ (p : Place). item_at p rest ≡ the items.TagOpen next) (sym (there r.items r.took)) e)) g n x

      run_none : (why : Stop) (fault : PgnFault) → (fault.kind ≡ Memory → ⊥) → AfterRun comes at_hand all sound reads takes limit old pieces new t u at place white why → Unanswered why u fault → ⊥
      run_none stop.Full fault kind r a = kind a
      run_none stop.Left fault kind r a = kind a
      run_none (stop.Refused why) fault kind r a = run_refused why (λ e. kind (ap (λ (f : PgnFault). f.kind) a ∙ e)) r
      run_none stop.End fault kind r (inl e) = kind e
      run_none stop.End fault kind r (inr e) = run_out e r
      run_none stop.NoItem fault kind r a = run_aground r
      run_none stop.TooLarge fault kind r a = run_over r

    module _ (w : IsWhite whole) where
      run_dark : (why : Stop) (fault : PgnFault) → (fault.kind ≡ Memory → ⊥) → AfterRun comes at_hand all sound reads takes limit old pieces new t u at place white why → Unanswered why u fault
          → (why ≡ stop.End → white ≡ false) → (why ≡ stop.TooLarge → white ≡ false) → ⊥
      run_dark stop.Full fault kind r a end over = kind a
      run_dark stop.Left fault kind r a end over = kind a
      run_dark (stop.Refused why) fault kind r a end over =
          dark_refused (bare r.items) whole rest (spelled r.items r.took) w r.item why r.mid u (r.rest ++ more) (taken_so r.items r.mid r.taken) r.answered (λ e. kind (ap (λ (f : PgnFault). f.kind) a ∙ e))
          (subst (λ (p : Place). item_at p rest ≡ the r.item (r.rest ++ more)) (there r.items r.took) (r.found more none))
      run_dark stop.End fault kind r a end over = dark_taken (bare r.items) whole rest (spelled r.items r.took) w (sym (whites_bare r.items) ∙ sym r.took.whites ∙ end refl)
      run_dark stop.NoItem fault kind r a end over =
          dark_aground (bare r.items) whole rest (spelled r.items r.took) w (subst (λ (p : Place). item_at p rest ≡ None) (there r.items r.took) (r.none.none more none)) (λ e. r.none.some (front_nil (at_hand new) more e))
      run_dark stop.TooLarge fault kind r a end over = dark_taken (bare r.items) whole rest (spelled r.items r.took) w (sym (whites_bare r.items) ∙ sym r.took.whites ∙ over refl)

      -- after white space beyond the limit
      over_dark : (ks : List Item) (last : List ℕ) → RanOver comes at_hand all sound reads takes limit old pieces new t u at place white → Spells place rest ks last
          → ((item : Item) (next : List ℕ) → item_at (place_behind place ks) last ≡ the item next → is_white item ≡ false) → (last ≡ [] → ⊥) → ⊥
      over_dark ks last r s other some =
          dark_beyond (bare r.items) ks whole rest last (spelled r.items r.took) (subst (λ (p : Place). Spells p rest ks last) (there r.items r.took) s) w
          (λ item next e. other item next (subst (λ (p : Place). item_at (place_behind p ks) last ≡ the item next) (sym (there r.items r.took)) e)) some

  -- white space beyond the limit
  module _ (pieces : List (List ℕ)) (mid : X) (at : ℕ) (place : Place) (white : Bool) (over : RanOver comes at_hand all sound reads takes limit old pieces mid t u at place white) (is_white_all : white ≡ true) where
    abbrev pub white_items : list_all is_white (bare over.items) ≡ true
    white_items = sym (whites_bare over.items) ∙ sym over.took.whites ∙ is_white_all

    module _ (begun : List ℕ) (not_yet : all mid → ⊥) (q : MaySkip place (at_hand mid ++ begun)) where
      abbrev pub open_white : EndsOpen (at_hand old ++ (joined pieces ++ begun))
      open_white = record {
        items = bare over.items ++ q.items;
        begins = white_begins (bare over.items ++ q.items) (white_join (bare over.items) q.items white_items q.white);
        rest = q.rest;
        spelled = λ more.
            spells_on GameStart ((at_hand old ++ (joined pieces ++ begun)) ++ more) (bare over.items) q.items (at_hand mid ++ (begun ++ more)) (q.rest ++ more)
            (subst (λ (z : List ℕ). Spells GameStart z (bare over.items) (at_hand mid ++ (begun ++ more)))
            (ap (λ (z : List ℕ). at_hand old ++ z) (sym (append_assoc (joined pieces) begun more)) ∙ sym (append_assoc (at_hand old) (joined pieces ++ begun) more))
            (spells_bare 0 GameStart (at_hand old ++ (joined pieces ++ (begun ++ more))) over.items (at_hand mid ++ (begun ++ more)) (over.took.spelled (begun ++ more) (λ e. absurd (not_yet e)))))
            (subst (λ (p : Place). Spells p (at_hand mid ++ (begun ++ more)) q.items (q.rest ++ more)) (over.took.stands ∙ behind_bare GameStart over.items)
            (subst (λ (z : List ℕ). Spells place z q.items (q.rest ++ more)) (append_assoc (at_hand mid) begun more) (q.spelled more)));
        few = inr (white_join (bare over.items) q.items white_items q.white);
        undecided = λ d.
            q.undecided (subst (λ (p : Place). Decides p q.rest) (place_on GameStart (bare over.items) q.items ∙ ap (λ (p : Place). place_behind p q.items) (sym (over.took.stands ∙ behind_bare GameStart over.items)))
            (is_decided (place_behind GameStart (bare over.items ++ q.items)) q.rest d));
      }

      pub none_white : HasNoGameYet (at_hand old ++ (joined pieces ++ begun))
      none_white g n x = run_over pieces mid at place white begun (λ e. absurd (not_yet e)) g n (subst (λ (z : List ℕ). BeginsWithGame z g n) (append-nil (at_hand old ++ (joined pieces ++ begun))) (x [])) over

      pub both_white : IsUnread (at_hand old ++ (joined pieces ++ begun))
      both_white = (none_white, open_white)

    pub white_long : (begun : List ℕ) → limit < length (at_hand old ++ (joined pieces ++ begun))
    white_long begun =
        let n = (over.exceeds.over [] (λ e. refl)).0 in
        let m = length-append (at_hand mid) [] in
        let c = length-append (at_hand old) (joined pieces ++ begun) in
        let d = length-append (joined pieces) begun in
        omega (arith, n, m, c, d, over.took.counted)

  module _ (s : Stopped) (fault : PgnFault) (kind : fault.kind ≡ Memory → ⊥) (a : Unanswered s.why u fault) (mid : X) (r : Ran comes at_hand all sound reads takes limit old mid t u (Ok s)) where
    still_there : all old → (joined r.pieces ≡ []) × all mid
    still_there = ended_after comes at_hand all sound reads takes limit old t mid u r.pieces s.at s.place s.white s.why r.after

    -- the items that are used
    here : IsStopped r.pieces mid s.at s.place s.white
    here = stopped_at r.pieces mid s.at s.place s.white s.why fault kind r.after a

    here_none : (s.why ≡ stop.End → s.white ≡ false) → (s.why ≡ stop.TooLarge → s.white ≡ false) → sound mid → NotCome comes at_hand all sound reads old mid
    here_none end over well = record {
      pieces = r.pieces;
      came = r.came;
      items = bare here.items;
      begins = here.begins;
      used = λ more none. spells_bare 0 GameStart (at_hand old ++ (joined r.pieces ++ more)) here.items (at_hand mid ++ more) (here.took.spelled more none);
      needed = since_open (joined r.pieces) mid (asked_both (joined r.pieces) mid here.items here.asked);
      sound_still = well;
      none = λ more none g n x. run_none r.pieces mid s.at s.place s.white more none g n x s.why fault kind r.after a;
      dark = λ more none w. run_dark r.pieces mid s.at s.place s.white more none w s.why fault kind r.after a end over;
      still = still_there;
    }

    -- after white space beyond the limit
    beyond_none : (new : X) → NotWhite comes at_hand all sound reads takes s mid new → sound new → NotCome comes at_hand all sound reads old new
    beyond_none new w well =
        let k = w.skipped in
        let pieces = r.pieces ++ k.pieces in
        let regroup : (more : List ℕ) → at_hand old ++ (joined pieces ++ more) ≡ at_hand old ++ (joined r.pieces ++ (joined k.pieces ++ more)) =
        λ more. ap (λ (z : List ℕ). at_hand old ++ z) (ap (λ (z : List ℕ). z ++ more) (joined-append r.pieces k.pieces) ∙ append_assoc (joined r.pieces) (joined k.pieces) more)
        in
        let none_before : (more : List ℕ) → (all new → more ≡ []) → all mid → joined k.pieces ++ more ≡ [] = λ more none e. let b = k.still e in ap (λ (z : List ℕ). z ++ more) b.0 ∙ none b.1 in
        record {
          pieces = pieces;
          came = Calls-append comes old mid new r.pieces k.pieces r.came k.came;
          items = bare over.items ++ k.items;
          begins = white_begins (bare over.items ++ k.items) (white_join (bare over.items) k.items (sym (whites_bare over.items) ∙ sym over.took.whites ∙ w.white) k.white);
          used = λ more none.
              subst (λ (z : List ℕ). Spells GameStart z (bare over.items ++ k.items) (at_hand new ++ more)) (sym (regroup more))
              (spells_on GameStart _ (bare over.items) k.items (at_hand mid ++ (joined k.pieces ++ more)) (at_hand new ++ more)
              (spells_bare 0 GameStart _ over.items _ (over.took.spelled (joined k.pieces ++ more) (none_before more none)))
              (subst (λ (p : Place). Spells p (at_hand mid ++ (joined k.pieces ++ more)) k.items (at_hand new ++ more)) (over.took.stands ∙ behind_bare GameStart over.items) (k.spelled more none)));
          needed =
              since_on comes at_hand all reads EndsOpen old mid r.pieces r.came (λ e. (still_there e).1) k.pieces new k.came (MaySkip s.place) k.asked (open_white r.pieces mid s.at s.place s.white over w.white)
              (since_open (joined r.pieces) mid (asked_both (joined r.pieces) mid over.items over.asked));
          sound_still = well;
          none = λ more none g n x.
              run_none r.pieces mid s.at s.place s.white (joined k.pieces ++ more) (none_before more none) g n (subst (λ (z : List ℕ). BeginsWithGame z g n) (regroup more) x) s.why fault kind r.after a;
          dark = λ more none white.
              over_dark r.pieces mid s.at s.place s.white (joined k.pieces ++ more) (none_before more none) (subst (λ (z : List ℕ). IsWhite z) (regroup more) white) k.items (at_hand new ++ more)
              (subst (λ (y : Stop). AfterRun comes at_hand all sound reads takes limit old r.pieces mid t u s.at s.place s.white y) w.over r.after) (k.spelled more none) (λ item next e. k.last more none item next e) (λ e. w.other (front_nil (at_hand new) more e));
          still = λ e. let b = still_there e in let c = k.still b.1 in (joined-append r.pieces k.pieces ∙ ap (λ (z : List ℕ). z ++ joined k.pieces) b.0 ∙ c.0, c.1);
        }
      where
        over : RanOver comes at_hand all sound reads takes limit old r.pieces mid t u s.at s.place s.white
        over = subst (λ (y : Stop). AfterRun comes at_hand all sound reads takes limit old r.pieces mid t u s.at s.place s.white y) w.over r.after

  module _ (s : Stopped) (new : X) (p : Passed comes at_hand all sound reads takes limit old new t u s) (well : sound new) where
    still_mid : all old → (joined p.ran.pieces ≡ []) × all p.mid
    still_mid = ended_after comes at_hand all sound reads takes limit old t p.mid u p.ran.pieces s.at s.place s.white s.why p.ran.after

    -- there was no memory for what was read
    starved : HasStarved comes at_hand all sound reads old new
    starved = elim p.after [
      | inl same ↦ record {
        pieces = p.ran.pieces;
        came = subst (λ (x : X). Calls comes old p.ran.pieces x) (sym same.0) p.ran.came;
        needed = subst (λ (x : X). LastSince comes at_hand all reads IsUnread old (joined p.ran.pieces) x) (sym same.0) (run_both p.ran.pieces p.mid s.at s.place s.white s.why p.ran.after);
        still = λ h. ((still_mid h).0, subst all (sym same.0) (still_mid h).1, well);
      }
      | inr w ↦ record {
        pieces = p.ran.pieces ++ w.skipped.pieces;
        came = Calls-append comes old p.mid new p.ran.pieces w.skipped.pieces p.ran.came w.skipped.came;
        needed =
            since_on comes at_hand all reads IsUnread old p.mid p.ran.pieces p.ran.came (λ e. (still_mid e).1) w.skipped.pieces new w.skipped.came (MaySkip s.place) w.skipped.asked
            (both_white p.ran.pieces p.mid s.at s.place s.white (subst (λ (y : Stop). AfterRun comes at_hand all sound reads takes limit old p.ran.pieces p.mid t u s.at s.place s.white y) w.over p.ran.after) w.white)
            (run_both p.ran.pieces p.mid s.at s.place s.white s.why p.ran.after);
        still = λ h. let b = still_mid h in (joined-append p.ran.pieces w.skipped.pieces ∙ ap (λ (z : List ℕ). z ++ joined w.skipped.pieces) b.0 ∙ (w.skipped.still b.1).0, (w.skipped.still b.1).1, well);
      }
    ]

  pub no_game_come : (new : X) (found : Option Stopped) (s : Stopped) (fault : PgnFault) → Passes comes at_hand all sound reads takes 1048576 old new t u (Ok found) → found ≡ Some s → Unanswered s.why u fault → sound new
      → ((fault.kind ≡ Memory) × HasStarved comes at_hand all sound reads old new) ⊎ ((fault.kind ≡ Memory → ⊥) × NotCome comes at_hand all sound reads old new)
  no_game_come new found s fault h e a well = by (is_memory fault.kind)
    where
      p : Passed comes at_hand all sound reads takes limit old new t u s
      p = subst (λ (o : Option Stopped). Passes comes at_hand all sound reads takes limit old new t u (Ok o)) e h

      by : (fault.kind ≡ Memory) ⊎ (fault.kind ≡ Memory → ⊥) → ((fault.kind ≡ Memory) × HasStarved comes at_hand all sound reads old new) ⊎ ((fault.kind ≡ Memory → ⊥) × NotCome comes at_hand all sound reads old new)
      by (inl k) = inl (k, starved s new p well)
      by (inr k) = inr (
        k,
        elim p.after [
          | inl same ↦ subst (λ (x : X). NotCome comes at_hand all sound reads old x) (sym same.0) (here_none s fault k a p.mid p.ran p.more same.1 (subst sound same.0 well))
          | inr w ↦ beyond_none s fault k a p.mid p.ran new w well
        ],
      )

-- ---- a read broke off

module _ {X A : Type 0} (comes : X → List ℕ → X → Type 0) (at_hand : X → List ℕ) (all sound : X → Type 0) (reads : X → ℕ) (breaks : X → X → Type 0) (old new : X) (t : Reader A) (new_reader : IsNew t) where
  abbrev takes_item : Reader A → ℕ → Item → Result Taken PgnFault → Reader A → Type 0
  takes_item s at item result v = TakesItem s item result v

  front_is : (pieces : List (List ℕ)) (more : List ℕ) → at_hand old ++ (joined pieces ++ more) ≡ (at_hand old ++ joined pieces) ++ more
  front_is pieces more = sym (append_assoc (at_hand old) (joined pieces) more)

  -- where an item isn't decided
  run_none_yet : (r : RunBroke comes at_hand all sound reads takes_item 1048576 breaks old new t) → HasNoGameYet (at_hand old ++ joined r.pieces)
  run_none_yet r = λ g n x.
      let ended : (more : List ℕ) → all r.mid → more ≡ [] = λ more e. absurd (r.not_all e) in
      undecided_none (bare r.items) r.last (progress_all [] r.items t r.last (progress_new t new_reader) r.taken) (at_hand old ++ joined r.pieces) (at_hand r.mid)
      (λ more. subst (λ (z : List ℕ). Spells GameStart z (bare r.items) (at_hand r.mid ++ more)) (front_is r.pieces more) (spells_bare 0 GameStart (at_hand old ++ (joined r.pieces ++ more)) r.items (at_hand r.mid ++ more) (r.took.spelled more (ended more))))
      (subst (λ (p : Place). Decides p (at_hand r.mid) → ⊥) (r.took.stands ∙ behind_bare GameStart r.items) r.undecided) g n x

  run_within : (r : RunBroke comes at_hand all sound reads takes_item 1048576 breaks old new t) → EndsWithin (at_hand old ++ joined r.pieces) (at_hand r.mid)
  unfolding open_at
  run_within r = record {
    ends = open_at comes at_hand all sound reads old t t new_reader r.items r.last r.taken (at_hand old ++ joined r.pieces) (at_hand r.mid)
        (λ more. subst (λ (z : List ℕ). Spells GameStart z (bare r.items) (at_hand r.mid ++ more)) (front_is r.pieces more)
        (spells_bare 0 GameStart (at_hand old ++ (joined r.pieces ++ more)) r.items (at_hand r.mid ++ more) (r.took.spelled more (λ e. absurd (r.not_all e)))))
        (let a = length-append (at_hand old) (joined r.pieces) in omega (arith, a, r.within, r.took.counted))
        (subst (λ (p : Place). Decides p (at_hand r.mid) → ⊥) (r.took.stands ∙ behind_bare GameStart r.items) r.undecided);
    kept = inl refl;
  }

  -- after white space beyond the limit
  module _ (s : Stopped) (mid : X) (last : Reader A) (ran : Ran comes at_hand all sound reads takes_item 1048576 old mid t last (Ok s)) (why : s.why ≡ stop.TooLarge) (w : s.white ≡ true) where
    over : RanOver comes at_hand all sound reads takes_item 1048576 old ran.pieces mid t last s.at s.place s.white
    over = subst (λ (y : Stop). AfterRun comes at_hand all sound reads takes_item 1048576 old ran.pieces mid t last s.at s.place s.white y) why ran.after

    ended_so : all old → all mid
    ended_so e = (ended_after comes at_hand all sound reads takes_item 1048576 old t mid last ran.pieces s.at s.place s.white s.why ran.after e).1

    white_broke : BrokeWhile comes at_hand breaks all (MaySkip s.place) mid new → HasBroken comes at_hand all sound reads breaks old new
    white_broke b = record {
      pieces = ran.pieces ++ b.pieces;
      mid = b.mid;
      came = Calls-append comes old mid b.mid ran.pieces b.pieces ran.came b.came;
      breaks_off = b.breaks_off;
      not_yet = λ e. b.not_yet (ended_so e);
      not_all = b.not_all;
      none = subst (λ (z : List ℕ). HasNoGameYet (at_hand old ++ z)) (sym (joined-append ran.pieces b.pieces)) (none_white comes at_hand all sound reads old t last new_reader ran.pieces mid s.at s.place s.white over w (joined b.pieces) b.not_yet b.asked);
      within = subst (λ (z : List ℕ). EndsWithin (at_hand old ++ z) (at_hand b.mid)) (sym (joined-append ran.pieces b.pieces)) (record {
        ends = open_white comes at_hand all sound reads old t last new_reader ran.pieces mid s.at s.place s.white over w (joined b.pieces) b.not_yet b.asked;
        kept = inr (
          white_join (bare over.items) b.asked.items (white_items comes at_hand all sound reads old t last new_reader ran.pieces mid s.at s.place s.white over w) b.asked.white,
          white_long comes at_hand all sound reads old t last new_reader ran.pieces mid s.at s.place s.white over w (joined b.pieces),
        );
      });
    }

    white_short : ShortWhile comes at_hand all reads (MaySkip s.place) mid new → HasStarved comes at_hand all sound reads old new
    white_short b = record {
      pieces = ran.pieces ++ b.pieces;
      came = Calls-append comes old mid new ran.pieces b.pieces ran.came b.came;
      needed =
          since_on comes at_hand all reads IsUnread old mid ran.pieces ran.came ended_so b.pieces new b.came (MaySkip s.place) b.asked
          (both_white comes at_hand all sound reads old t last new_reader ran.pieces mid s.at s.place s.white over w)
          (run_both comes at_hand all sound reads old t last new_reader ran.pieces mid s.at s.place s.white s.why ran.after);
      still = λ e. absurd (b.not_yet (ended_so e));
    }

  pub broken_come : PassBreaks comes at_hand all sound reads takes_item 1048576 breaks old new t Read → HasBroken comes at_hand all sound reads breaks old new
  broken_come (inl r) = record { pieces = r.pieces; mid = r.mid; came = r.came; breaks_off = r.breaks_off; not_yet = r.not_yet; not_all = r.not_all; none = run_none_yet r; within = run_within r }
  broken_come (inr w) = white_broke w.stopped w.mid w.last w.ran w.over w.white w.broke

  -- there was no memory to read on
  pub short_come : PassBreaks comes at_hand all sound reads takes_item 1048576 breaks old new t Short → HasStarved comes at_hand all sound reads old new
  short_come (inl r) = record { pieces = r.pieces; came = r.came; needed = asked_both comes at_hand all sound reads old t t new_reader (joined r.pieces) new r.items r.asked; still = λ e. absurd (r.not_yet e) }
  short_come (inr w) = white_short w.stopped w.mid w.last w.ran w.over w.white w.broke
