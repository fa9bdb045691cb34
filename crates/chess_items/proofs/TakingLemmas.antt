-- Items are taken, one after another.
use Rattle.std.proofs.Common.{◌≡◌, ◌≢◌, inl, inr, ℕ, ◌+◌, ◌-◌, ◌≤◌, arith, length-append, Bool, true, false, ◌&&◌, List, [], ◌∷◌, ◌++◌, length, refl, sym, ap, subst, ◌∙◌, append_assoc, append-nil, Ok}
use Rattle.byte_streams.specs.Calls.{Calls, joined}
use Rattle.byte_streams.proofs.CallLemmas.{Calls-append, joined-append}
use Rattle.chess_items.specs.Items.{Item, Spells, is_white, place_after}
use Rattle.chess_items.specs.steps.Deciding.{Decides}
use Rattle.chess_items.specs.steps.Idle.{PassesIdle}
use Rattle.chess_items.specs.steps.Taking.{TakesOne, SpellsFrom, Takes, behind, all_white, Asked, UsesItem, Rests, AfterStop, Steps, Took, AfterRun, Ran, RunBreaks}
use Rattle.chess_items.specs.steps.Texts.{BreaksAt, Needs, size}
use Rattle.chess_items.specs.declared.at_hand.Fault.{Fault}
use Rattle.chess_items.specs.declared.at_hand.Fault.TheVariants.{Memory, Read}
use Rattle.chess_items.specs.declared.place.Place.{Place}
use Rattle.chess_items.specs.declared.place.Place.TheVariants.{GameStart}
use Rattle.chess_items.specs.declared.taker.Taken.TheVariants.{GoesOn, Ends}
use Rattle.chess_items.specs.declared.taking.Stop.{Stop}
use Rattle.chess_items.specs.declared.taking.Stop.TheVariants as stop
use Rattle.chess_items.specs.declared.taking.Step.TheVariants as step
use Rattle.chess_items.proofs.FoundLemmas.{Taken, item_taken}

pub behind-more : (place : Place) (items : List (ℕ × Item)) (x : ℕ × Item) → behind place (items ++ x ∷ []) ≡ place_after (behind place items) x.1
behind-more place [] x = refl
behind-more place (y ∷ items) x = behind-more (place_after place y.1) items x

white_more : (v a b : Bool) → v && (a && b) ≡ (v && a) && b
white_more true a b = refl
white_more false a b = refl

white_one : (a : Bool) → a && true ≡ a
white_one true = refl
white_one false = refl

pub white-more : (items : List (ℕ × Item)) (x : ℕ × Item) → all_white (items ++ x ∷ []) ≡ all_white items && is_white x.1
white-more [] x = white_one (is_white x.1)
white-more (y ∷ items) x = ap (λ (b : Bool). is_white y.1 && b) (white-more items x) ∙ white_more (is_white y.1) (all_white items) (is_white x.1)

-- one item more, after as many bytes as were before it
pub spells_more : (at : ℕ) (place : Place) (input : List ℕ) (items : List (ℕ × Item)) (mid : List ℕ) (item : Item) (next : List ℕ) (here : ℕ) → here + length mid ≡ at + length input → SpellsFrom at place input items mid
    → Taken (behind place items) mid item next → SpellsFrom at place input (items ++ (here, item) ∷ []) next
spells_more at place input [] mid item next here n s t = (t.0, next, s ∙ t.1, (let l = ap length s in omega (arith, n, l)), t.2, refl)
spells_more at place input (x ∷ items) mid item next here n s t =
    let l : length input ≡ length s.0 + length s.1 = ap length s.2 ∙ length-append s.0 s.1 in
    (s.0, s.1, s.2, s.3, s.4, spells_more (at + length s.0) (place_after place x.1) s.1 items mid item next here (omega (arith, n, l)) s.5 t)

-- more items, after as many bytes as were before them
spells_others : (at : ℕ) (place : Place) (input : List ℕ) (items : List (ℕ × Item)) (mid : List ℕ) (others : List (ℕ × Item)) (rest : List ℕ) (here : ℕ) → here + length mid ≡ at + length input → SpellsFrom at place input items mid
    → SpellsFrom here (behind place items) mid others rest → SpellsFrom at place input (items ++ others) rest
spells_others at place input [] mid others rest here n s t =
    let l = ap length s in
    let e : here ≡ at = omega (arith, n, l) in
    subst (λ (k : ℕ). SpellsFrom k place input others rest) e (subst (λ (x : List ℕ). SpellsFrom here place x others rest) (sym s) t)
spells_others at place input (x ∷ items) mid others rest here n s t =
    let l : length input ≡ length s.0 + length s.1 = ap length s.2 ∙ length-append s.0 s.1 in
    (s.0, s.1, s.2, s.3, s.4, spells_others (at + length s.0) (place_after place x.1) s.1 items mid others rest here (omega (arith, n, l)) s.5 t)

behind-others : (place : Place) (items others : List (ℕ × Item)) → behind place (items ++ others) ≡ behind (behind place items) others
behind-others place [] others = refl
behind-others place (x ∷ items) others = behind-others (place_after place x.1) items others

white_two : (a b c : Bool) → a && (b && c) ≡ (a && b) && c
white_two true b c = refl
white_two false b c = refl

white-others : (items others : List (ℕ × Item)) → all_white (items ++ others) ≡ all_white items && all_white others
white-others [] others = refl
white-others (x ∷ items) others = ap (λ (b : Bool). is_white x.1 && b) (white-others items others) ∙ white_two (is_white x.1) (all_white items) (all_white others)

-- some of them were used, so that fewer bytes are at hand
nearer_on : (items others : List (ℕ × Item)) (n m : ℕ) → (items ≢ [] → n ≤ 65536) → n ≤ 65537 → (others ≢ [] → m + 1 ≤ n) → m ≤ n → items ++ others ≢ [] → m ≤ 65536
nearer_on [] [] n m few near fewer no_more some = absurd (some refl)
nearer_on [] (x ∷ others) n m few near fewer no_more some = (let f = fewer (λ e. cc) in omega (arith, f, near))
nearer_on (x ∷ items) others n m few near fewer no_more some = (let f = few (λ e. cc) in omega (arith, f, no_more))

-- the items alone, without the number of bytes before each
abbrev pub bare : List (ℕ × Item) → List Item
bare [] = []
bare (x ∷ items) = x.1 ∷ bare items

pub spells_bare : (at : ℕ) (place : Place) (input : List ℕ) (items : List (ℕ × Item)) (rest : List ℕ) → SpellsFrom at place input items rest → Spells place input (bare items) rest
spells_bare at place input [] rest s = s
spells_bare at place input (x ∷ items) rest s = (s.0, s.1, s.2, s.4, spells_bare (at + length s.0) (place_after place x.1) s.1 items rest s.5)

module _ {T : Type 0} (takes : TakesOne T) where
  pub takes_more : (t m u : T) (items : List (ℕ × Item)) (x : ℕ × Item) → Takes takes t items m → takes m x.0 x.1 (Ok GoesOn) u → Takes takes t (items ++ x ∷ []) u
  takes_more t m u [] x s one = (u, subst (λ y. takes y x.0 x.1 (Ok GoesOn) u) (sym s) one, refl)
  takes_more t m u (y ∷ items) x s one = (s.0, s.1, takes_more s.0 m u items x s.2 one)

  takes_others : (t m u : T) (items others : List (ℕ × Item)) → Takes takes t items m → Takes takes m others u → Takes takes t (items ++ others) u
  takes_others t m u [] others s more = subst (λ y. Takes takes y others u) (sym s) more
  takes_others t m u (y ∷ items) others s more = (s.0, s.1, takes_others s.0 m u items others s.2 more)

module _ {X T : Type 0} (comes : X → List ℕ → X → Type 0) (at_hand : X → List ℕ) (all sound : X → Type 0) (reads : X → ℕ) (takes : TakesOne T) (limit : ℕ) (old : X) (t : T) where
  -- So far these items were taken, and the taker wants another.
  pub record Underway (at : ℕ) (place : Place) (white : Bool) (now : X) (u : T) : Type 0 where
    pub pieces : List (List ℕ)
    pub came : Calls comes old pieces now
    pub items : List (ℕ × Item)
    pub took : Took comes at_hand all sound reads takes limit old pieces now items at place white
    pub taken : Takes takes t items u
    pub asked : Asked comes at_hand all sound reads takes limit old (joined pieces) now t items
    pub near : length (at_hand old) ≤ 65537 → length (at_hand now) ≤ 65537
    pub nearer : items ≢ [] → length (at_hand old) ≤ 65537 → length (at_hand now) ≤ 65536

  pub underway_start : sound old → Underway 0 GameStart true old t
  underway_start so = record {
    pieces = [];
    came = refl;
    items = [];
    took = record {
      spelled = (λ more none. refl);
      counted = omega arith;
      few = omega arith;
      stands = refl;
      whites = refl;
      at_end = (λ e. (refl, e));
      sound_still = so;
    };
    taken = refl;
    asked = inl refl;
    near = (λ h. h);
    nearer = (λ some h. absurd (some refl));
  }

  module _ (at : ℕ) (place : Place) (white : Bool) (now : X) (u : T) (w : Underway at place white now u) (ps : List (List ℕ)) (new : X) (came : Calls comes now ps new) where
    all_came : Calls comes old (w.pieces ++ ps) new
    all_came = Calls-append comes old now new w.pieces ps w.came came

    -- the pieces that came first, then those that came next
    regroup : (more : List ℕ) → at_hand old ++ (joined (w.pieces ++ ps) ++ more) ≡ at_hand old ++ (joined w.pieces ++ (joined ps ++ more))
    regroup more = ap (λ (x : List ℕ). at_hand old ++ x) (ap (λ (x : List ℕ). x ++ more) (joined-append w.pieces ps) ∙ append_assoc (joined w.pieces) (joined ps) more)

    none_before : (more : List ℕ) → (all now → (joined ps ≡ []) × all new) → (all new → more ≡ []) → all now → joined ps ++ more ≡ []
    none_before more at_end none h = (let e = at_end h in rw (e.0) (none e.1))

    spelled_before : (more : List ℕ) → (all now → (joined ps ≡ []) × all new) → (all new → more ≡ []) → SpellsFrom 0 GameStart (at_hand old ++ (joined (w.pieces ++ ps) ++ more)) w.items (at_hand now ++ (joined ps ++ more))
    spelled_before more at_end none =
        subst (λ (x : List ℕ). SpellsFrom 0 GameStart x w.items (at_hand now ++ (joined ps ++ more))) (sym (regroup more)) (w.took.spelled (joined ps ++ more) (none_before more at_end none))

    joined_len : length (joined (w.pieces ++ ps)) ≡ length (joined w.pieces) + length (joined ps)
    joined_len = ap length (joined-append w.pieces ps) ∙ length-append (joined w.pieces) (joined ps)

    ended_so : (all now → (joined ps ≡ []) × all new) → all old → (joined (w.pieces ++ ps) ≡ []) × all new
    ended_so at_end e =
        let a = w.took.at_end e in
        let b = at_end a.1 in
        (rw (joined-append w.pieces ps, a.0) b.0, b.1)

    -- no more reads were made
    still_asked : reads new ≡ reads now → Asked comes at_hand all sound reads takes limit old (joined w.pieces) now t w.items → Asked comes at_hand all sound reads takes limit old (joined (w.pieces ++ ps)) new t w.items
    still_asked same (inl a) = inl (same ∙ a)
    still_asked same (inr r) =
        let s = r.split in
        inr (record {
          split = record {
            earlier = s.earlier;
            before = s.before;
            first = s.first;
            last = s.last ++ ps;
            brought = Calls-append comes s.before now new s.last ps s.brought came;
            once = ap (λ (n : ℕ). n + 1) same ∙ s.once;
            parts = joined-append w.pieces ps ∙ ap (λ (x : List ℕ). x ++ joined ps) s.parts ∙ append_assoc (joined s.earlier) (joined s.last) (joined ps) ∙ ap (λ (x : List ℕ). joined s.earlier ++ x) (sym (joined-append s.last ps));
          };
          few = r.few;
          items = r.items;
          others = r.others;
          front = r.front;
          rest = r.rest;
          last = r.last;
          spelled = r.spelled;
          taken = r.taken;
          undecided = r.undecided;
          not_yet = r.not_yet;
        })

    asked_on : Needs comes at_hand all reads (limit - at) place now (joined ps) new → Asked comes at_hand all sound reads takes limit old (joined (w.pieces ++ ps)) new t w.items
    asked_on (inl n) = still_asked n w.asked
    asked_on (inr n) =
        let s = n.came in
        inr (record {
          split = record {
            earlier = w.pieces ++ s.earlier;
            before = s.before;
            first = Calls-append comes old now s.before w.pieces s.earlier w.came s.first;
            last = s.last;
            brought = s.brought;
            once = s.once;
            parts = joined-append w.pieces ps ∙ ap (λ (x : List ℕ). joined w.pieces ++ x) s.parts ∙ sym (append_assoc (joined w.pieces) (joined s.earlier) (joined s.last)) ∙ ap (λ (x : List ℕ). x ++ joined s.last) (sym (joined-append w.pieces s.earlier));
          };
          few =
              (let a = length-append (at_hand old) (joined (w.pieces ++ s.earlier)) in
              let b = ap length (joined-append w.pieces s.earlier) ∙ length-append (joined w.pieces) (joined s.earlier) in
              let c = length-append (at_hand now) (joined s.earlier) in
              omega (arith, a, b, c, n.few, w.took.few, w.took.counted));
          items = w.items;
          others = [];
          front = sym (append-nil w.items);
          rest = at_hand now ++ joined s.earlier;
          last = u;
          spelled = λ more. rw (joined-append w.pieces s.earlier, append_assoc (joined w.pieces) (joined s.earlier) more, append_assoc (at_hand now) (joined s.earlier) more) (w.took.spelled (joined s.earlier ++ more) (λ e. absurd (n.not_yet e)));
          taken = w.taken;
          undecided = subst (λ (p : Place). Decides p (at_hand now ++ joined s.earlier) → ⊥) w.took.stands n.undecided;
          not_yet = λ e. n.not_yet (w.took.at_end e).1;
        })

    -- with more items
    asked_others : (came : List ℕ) (more : List (ℕ × Item)) → Asked comes at_hand all sound reads takes limit old came new t w.items → Asked comes at_hand all sound reads takes limit old came new t (w.items ++ more)
    asked_others came more (inl a) = inl a
    asked_others came more (inr r) = inr (record {
      split = r.split;
      few = r.few;
      items = r.items;
      others = r.others ++ more;
      front = ap (λ (z : List (ℕ × Item)). z ++ more) r.front ∙ append_assoc r.items r.others more;
      rest = r.rest;
      last = r.last;
      spelled = r.spelled;
      taken = r.taken;
      undecided = r.undecided;
      not_yet = r.not_yet;
    })

    module _ (item : Item) (used : ℕ) (one : UsesItem comes at_hand all sound reads takes (limit - at) place now ps new item used) where
      here : (more : List ℕ) → at + length (at_hand now ++ (joined ps ++ more)) ≡ 0 + length (at_hand old ++ (joined (w.pieces ++ ps) ++ more))
      here more =
          let a = length-append (at_hand now) (joined ps ++ more) in
          let b = length-append (joined ps) more in
          let c = length-append (at_hand old) (joined (w.pieces ++ ps) ++ more) in
          let d = length-append (joined (w.pieces ++ ps)) more in
          omega (arith, a, b, c, d, joined_len, w.took.counted)

      spelled_now : (more : List ℕ) → (all new → more ≡ []) → SpellsFrom 0 GameStart (at_hand old ++ (joined (w.pieces ++ ps) ++ more)) (w.items ++ (at, item) ∷ []) (at_hand new ++ more)
      spelled_now more none =
          let mid = at_hand now ++ (joined ps ++ more) in
          let next = at_hand new ++ more in
          spells_more 0 GameStart _ w.items mid item next at (here more) (spelled_before more one.at_end none)
          (subst (λ (s : Place). Taken s mid item next) w.took.stands (item_taken place mid item next (one.found more none)))

      took_one : (next : Place) (is : Bool) → next ≡ place_after place item → is ≡ is_white item → Took comes at_hand all sound reads takes limit old (w.pieces ++ ps) new (w.items ++ (at, item) ∷ []) (at + used) next (white && is)
      took_one next is e h = record {
        spelled = spelled_now;
        counted = omega (arith, joined_len, one.counted, w.took.counted);
        few = omega (arith, one.few, w.took.few);
        stands = e ∙ ap (λ (s : Place). place_after s item) w.took.stands ∙ sym (behind-more GameStart w.items (at, item));
        whites = rw (w.took.whites, h) (sym (white-more w.items (at, item)));
        at_end = ended_so one.at_end;
        sound_still = one.sound_still;
      }

      pub underway_on : (v : T) (next : Place) (is : Bool) → takes u at item (Ok GoesOn) v → next ≡ place_after place item → is ≡ is_white item → Underway (at + used) next (white && is) new v
      underway_on v next is taken e h = record {
        pieces = w.pieces ++ ps;
        came = all_came;
        items = w.items ++ (at, item) ∷ [];
        took = took_one next is e h;
        taken = takes_more takes t u v w.items (at, item) w.taken taken;
        asked = asked_others (joined (w.pieces ++ ps)) ((at, item) ∷ []) (asked_on one.asked);
        near = (λ h. let n = one.near (w.near h) in omega (arith, n));
        nearer = (λ some h. one.near (w.near h));
      }

      pub ran_full : (v : T) (next : Place) (is : Bool) → takes u at item (Ok Ends) v → next ≡ place_after place item → is ≡ is_white item
          → Ran comes at_hand all sound reads takes limit old new t v (Ok (record { why = stop.Full; at = at + used; place = next; white = white && is }))
      ran_full v next is taken e h = record {
        pieces = w.pieces ++ ps;
        came = all_came;
        after = record {
          items = w.items;
          last = (at, item);
          took = took_one next is e h;
          mid = u;
          taken = w.taken;
          ends = taken;
          asked = asked_on one.asked;
          near = (λ h. one.near (w.near h));
        };
      }

    module _ (rests : Rests comes at_hand all sound reads takes now ps new) where
      spelled_rest : (more : List ℕ) → (all new → more ≡ []) → SpellsFrom 0 GameStart (at_hand old ++ (joined (w.pieces ++ ps) ++ more)) w.items (at_hand new ++ more)
      spelled_rest more none =
          let e : at_hand now ++ (joined ps ++ more) ≡ at_hand new ++ more = sym (append_assoc (at_hand now) (joined ps) more) ∙ ap (λ (x : List ℕ). x ++ more) (sym rests.longer) in
          subst (λ (x : List ℕ). SpellsFrom 0 GameStart (at_hand old ++ (joined (w.pieces ++ ps) ++ more)) w.items x) e (spelled_before more rests.at_end none)

      took_rest : Took comes at_hand all sound reads takes limit old (w.pieces ++ ps) new w.items at place white
      took_rest = record {
        spelled = spelled_rest;
        counted = (let n = ap length rests.longer ∙ length-append (at_hand now) (joined ps) in omega (arith, joined_len, n, w.took.counted));
        few = w.took.few;
        stands = w.took.stands;
        whites = w.took.whites;
        at_end = ended_so rests.at_end;
        sound_still = rests.sound_still;
      }

      after_stop : (v : T) (why : Stop) → AfterStop comes at_hand all sound reads takes at (limit - at) place now new u v why → Needs comes at_hand all reads (limit - at) place now (joined ps) new → AfterRun comes at_hand all sound reads takes limit old (w.pieces ++ ps) new t v at place white why
      after_stop v stop.Full a n = absurd a
      after_stop v stop.Left a n = record { items = w.items; took = took_rest; mid = u; taken = w.taken; item = a.0; rest = a.1.rest; found = a.1.found; answered = a.2; asked = asked_on n; near = (λ h. a.1.near (w.near h)); bracket = (λ e some h. a.1.bracket e (w.nearer some h)) }
      after_stop v (stop.Refused fault) a n = record { items = w.items; took = took_rest; mid = u; taken = w.taken; item = a.0; rest = a.1.rest; found = a.1.found; answered = a.2; asked = asked_on n; near = (λ h. a.1.near (w.near h)); bracket = (λ e some h. a.1.bracket e (w.nearer some h)) }
      after_stop v stop.End a n = record { items = w.items; took = took_rest; taken = subst (λ x. Takes takes t w.items x) (sym a.2) w.taken; asked = asked_on n; ended = a.0; nothing = a.1 }
      after_stop v stop.NoItem a n = record { items = w.items; took = took_rest; taken = subst (λ x. Takes takes t w.items x) (sym a.1) w.taken; none = a.0; asked = asked_on n }
      after_stop v stop.TooLarge a n = record { items = w.items; took = took_rest; mid = u; taken = w.taken; exceeds = a; asked = asked_on n }

  -- whitespace, periods and move numbers were passed over
  pub passed_on : (at : ℕ) (place : Place) (white : Bool) (now new : X) (u : T) (next : Place) (used : ℕ) → Underway at place white now u → PassesIdle comes at_hand all sound reads takes at (limit - at) place white now new u next used
      → Underway (at + used) next white new u
  passed_on at place white now new u next used w p =
      let ps = p.pieces in
      let ends : all now → (joined ps ≡ []) × all new = λ e. (p.nothing, p.at_end e) in
      let len = joined_len at place white now u w ps new p.came in
      let none = ap length p.nothing in
      record {
        pieces = w.pieces ++ ps;
        came = all_came at place white now u w ps new p.came;
        items = w.items ++ p.items;
        took = record {
          spelled = (λ more over.
              let mid = at_hand now ++ (joined ps ++ more) in
              let input = at_hand old ++ (joined (w.pieces ++ ps) ++ more) in
              let a = length-append (at_hand now) (joined ps ++ more) in
              let b = length-append (joined ps) more in
              let c = length-append (at_hand old) (joined (w.pieces ++ ps) ++ more) in
              let d = length-append (joined (w.pieces ++ ps)) more in
              let rest : SpellsFrom at (behind GameStart w.items) mid p.items (at_hand new ++ more) =
              subst (λ (q : Place). SpellsFrom at q mid p.items (at_hand new ++ more)) w.took.stands (subst (λ (x : List ℕ). SpellsFrom at place (at_hand now ++ (x ++ more)) p.items (at_hand new ++ more)) (sym p.nothing) (p.spelled more)) in
              spells_others 0 GameStart input w.items mid p.items (at_hand new ++ more) at (omega (arith, a, b, c, d, len, w.took.counted)) (spelled_before at place white now u w ps new p.came more ends over) rest);
          counted = omega (arith, len, none, p.counted, w.took.counted);
          few = omega (arith, p.few, w.took.few);
          stands = p.stands ∙ ap (λ (q : Place). behind q p.items) w.took.stands ∙ sym (behind-others GameStart w.items p.items);
          whites = sym p.whites ∙ ap (λ (b : Bool). b && all_white p.items) w.took.whites ∙ sym (white-others w.items p.items);
          at_end = ended_so at place white now u w ps new p.came ends;
          sound_still = p.sound_still;
        };
        taken = takes_others takes t u u w.items p.items w.taken p.taken;
        asked = asked_others at place white now u w ps new p.came (joined (w.pieces ++ ps)) p.items (still_asked at place white now u w ps new p.came p.no_read w.asked);
        near = (λ h. let n = w.near h in omega (arith, n, p.counted));
        nearer = (λ some h. nearer_on w.items p.items (length (at_hand now)) (length (at_hand new)) (λ s. w.nearer s h) (w.near h) p.shorter (omega (arith, p.counted)) some);
      }

  pub ran : (at : ℕ) (place : Place) (white : Bool) (now new : X) (u v : T) (why : Stop) → Underway at place white now u → Steps comes at_hand all sound reads takes at (limit - at) place now new u v (Ok (step.Stops why))
      → Ran comes at_hand all sound reads takes limit old new t v (Ok (record { why = why; at = at; place = place; white = white }))
  ran at place white now new u v why w s = record {
    pieces = w.pieces ++ s.pieces;
    came = all_came at place white now u w s.pieces new s.came;
    after = after_stop at place white now u w s.pieces new s.came s.after.0 v why s.after.1 s.after.2;
  }

  pub ran_ends : (at : ℕ) (place : Place) (white : Bool) (now new : X) (u v : T) (next : Place) (used : ℕ) (is : Bool) → Underway at place white now u → Steps comes at_hand all sound reads takes at (limit - at) place now new u v (Ok (step.Full next used is))
      → Ran comes at_hand all sound reads takes limit old new t v (Ok (record { why = stop.Full; at = at + used; place = next; white = white && is }))
  ran_ends at place white now new u v next used is w s = ran_full at place white now u w s.pieces new s.came s.after.0 used s.after.1 v next is s.after.2 s.after.3 s.after.4

  pub ran_broken : (breaks : X → X → Type 0) (at : ℕ) (place : Place) (white : Bool) (now new : X) (u : T) (e : Fault) → Underway at place white now u → BreaksAt comes at_hand breaks all sound reads (limit - at) place now new e
      → RunBreaks comes at_hand all sound reads takes limit breaks old new t e
  ran_broken breaks at place white now new u Memory w b = record {
    pieces = w.pieces ++ b.pieces;
    came = all_came at place white now u w b.pieces new b.came;
    items = w.items;
    asked = asked_on at place white now u w b.pieces new b.came b.asked;
    not_yet = λ e. b.not_yet (w.took.at_end e).1;
  }
  ran_broken breaks at place white now new u Read w b = record {
    pieces = w.pieces ++ b.pieces;
    mid = b.mid;
    came = all_came at place white now u w b.pieces b.mid b.came;
    items = w.items;
    at = at;
    place = place;
    white = white;
    took = took_rest at place white now u w b.pieces b.mid b.came (record { longer = b.longer; at_end = λ e. absurd (b.not_yet e); sound_still = b.sound_still });
    last = u;
    taken = w.taken;
    undecided = b.undecided;
    within = omega (arith, b.few, w.took.few);
    not_yet = λ e. b.not_yet (w.took.at_end e).1;
    not_all = b.not_all;
    breaks_off = b.breaks_off;
  }

  pub goes_on : (at : ℕ) (place : Place) (white : Bool) (now new : X) (u v : T) (next : Place) (used : ℕ) (is : Bool) → Underway at place white now u → Steps comes at_hand all sound reads takes at (limit - at) place now new u v (Ok (step.On next used is))
      → Underway (at + used) next (white && is) new v
  goes_on at place white now new u v next used is w s = underway_on at place white now u w s.pieces new s.came s.after.0 used s.after.1 v next is s.after.2 s.after.3 s.after.4

  pub falls : (at : ℕ) (place : Place) (now new : X) (u v : T) (next : Place) (used : ℕ) (is : Bool) → Steps comes at_hand all sound reads takes at (limit - at) place now new u v (Ok (step.On next used is)) → size at_hand reads new + 1 ≤ size at_hand reads now
  falls at place now new u v next used is s = (s.after.1).smaller

  -- whatever stopped it, it took some items
  took_after : (new : X) (u : T) (pieces : List (List ℕ)) (at : ℕ) (place : Place) (white : Bool) (why : Stop) → AfterRun comes at_hand all sound reads takes limit old pieces new t u at place white why → (items : List (ℕ × Item)) × Took comes at_hand all sound reads takes limit old pieces new items at place white
  took_after new u pieces at place white stop.Full a = (_, a.took)
  took_after new u pieces at place white _ a = (_, a.took)

  pub sound_after : (new : X) (u : T) (pieces : List (List ℕ)) (at : ℕ) (place : Place) (white : Bool) (why : Stop) → AfterRun comes at_hand all sound reads takes limit old pieces new t u at place white why → sound new
  sound_after new u pieces at place white why a = (took_after new u pieces at place white why a).1.sound_still

  pub ended_after : (new : X) (u : T) (pieces : List (List ℕ)) (at : ℕ) (place : Place) (white : Bool) (why : Stop) → AfterRun comes at_hand all sound reads takes limit old pieces new t u at place white why → all old → (joined pieces ≡ []) × all new
  ended_after new u pieces at place white why a = (took_after new u pieces at place white why a).1.at_end

  -- it used no more than the limit
  pub few_after : (new : X) (u : T) (pieces : List (List ℕ)) (at : ℕ) (place : Place) (white : Bool) (why : Stop) → AfterRun comes at_hand all sound reads takes limit old pieces new t u at place white why → at ≤ limit
  few_after new u pieces at place white why a = (took_after new u pieces at place white why a).1.few
