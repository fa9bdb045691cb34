-- One item is offered.
use Rattle.std.proofs.Common.{◌<◌, take, drop, ◌+◌, ◌-◌, ◌≡◌, ◌≢◌, ℕ, length-append, ◌≤◌, ◌⊎◌, inl, inr, Bool, true, false, List, [], ◌∷◌, ◌++◌, length, Some, None, refl, sym, ap, subst, ◌∙◌, arith, append_assoc, append-nil, Ok}
use Rattle.std.proofs.lemmas.List.{take-append-drop, take-append-le}
use Rattle.std.specs.Str.{byte}
use Rattle.byte_streams.specs.Calls.{Calls, joined}
use Rattle.byte_streams.proofs.CallLemmas.{Calls-more, joined-more}
use Rattle.chess_items.specs.Items.{Item, TagOpen, may_stand}
use Rattle.chess_items.specs.steps.ItemAt.{Found, item_at}
use Rattle.chess_items.specs.steps.Deciding.{longer, Decides, is_open}
use Rattle.chess_items.specs.steps.Firsts.{IsFirst}
use Rattle.chess_items.specs.steps.Texts.{Oversized, Near, Needs, MadeReady, IsReady, Keeps}
use Rattle.chess_items.specs.steps.Taking.{TakesOne, Brackets, Offered, UsesItem, Next, AfterStop, Settles, Steps}
use Rattle.chess_items.specs.declared.place.Place.{Place}
use Rattle.chess_items.specs.declared.place.Place.TheVariants.{InLine}
use Rattle.chess_items.specs.declared.taking.Stop.{Stop}
use Rattle.chess_items.specs.declared.taking.Stop.TheVariants as stop
use Rattle.chess_items.specs.declared.taking.Step.{Step}
use Rattle.chess_items.specs.declared.taking.Step.TheVariants as step
use Rattle.chess_items.proofs.FoundLemmas.{the, item_taken, some_is}
use Rattle.chess_items.proofs.ItemLemmas.{item_goes}
use Rattle.chess_items.proofs.ClosedLemmas.{closed_decides}
use Rattle.chess_items.proofs.OpenLemmas.{nothing_undecided, open_undecided}
use Rattle.chess_items.proofs.LocalLemmas.{undecided_taken, item_shorter}

decided_item : (place : Place) (hand more : List ℕ) (found : Found) (A : Type 0) → Decides place hand ⊎ A → (A → more ≡ []) → item_at place hand ≡ found → item_at place (hand ++ more) ≡ longer found more
decided_item place hand more found A (inl d) none e = d more ∙ ap (λ (x : Found). longer x more) e
decided_item place hand more found A (inr all) none e =
    subst (λ (x : List ℕ). item_at place (hand ++ x) ≡ longer found x) (sym (none all)) (ap (item_at place) (append-nil hand) ∙ e ∙ whole found)
  where
    whole : (f : Found) → f ≡ longer f []
    whole None = refl
    whole (Some x) = ap (λ (y : List ℕ). Some (x.0, y)) (sym (append-nil x.1))

near_item : (place : Place) (old hand rest : List ℕ) (item : Item) → Near place old hand → item_at place hand ≡ the item rest → length old ≤ 65537 → length rest ≤ 65536
near_item place old hand rest item (inl e) found small = (let s = item_shorter place hand item rest found in let l = ap length e in omega (arith, s, l))
near_item place old hand rest item (inr h) found small =
    (let s = undecided_taken place h.0 h.1 item rest h.4 (subst (λ (x : List ℕ). item_at place x ≡ the item rest) h.2 found) in omega (arith, s, h.3))

none_is_some : (rest : List ℕ) → None ≡ the TagOpen rest → ⊥
none_is_some rest e = cc

same_item : (i j : Item) (r q : List ℕ) → the i r ≡ the j q → i ≡ j
same_item i j r q e = ap (λ (x : Item × List ℕ). x.0) (some_is {A = Item × List ℕ} (i, r) (j, q) e)

first : (a b : ℕ) (xs ys : List ℕ) → a ∷ xs ≡ b ∷ ys → a ≡ b
first a b xs ys e = cc

-- one byte decides a bracket
bracket_decided : (place : Place) (prefix : List ℕ) → may_stand place TagOpen ≡ true → Decides place (byte "[" ∷ prefix)
bracket_decided place prefix e = λ more.
    item_goes place TagOpen (byte "[" ∷ []) (prefix ++ more) (record { stands = e; spelled = refl })
    ∙ ap (λ (x : Found). longer x more) (sym (item_goes place TagOpen (byte "[" ∷ []) prefix (record { stands = e; spelled = refl })))

-- so bytes that don't decide the item that they begin with are no bracket's
undecided_bracket : (place : Place) (hand more rest : List ℕ) → 0 < length hand → (Decides place hand → ⊥) → item_at place (hand ++ more) ≡ the TagOpen rest → ⊥
undecided_bracket place [] more rest some undecided found = omega (arith, some)
undecided_bracket place (b ∷ hand) more rest some undecided found =
    let t = item_taken place (b ∷ hand ++ more) TagOpen rest found in
    let k : b ≡ byte "[" = first b (byte "[") (hand ++ more) rest (t.1 ∙ ap (λ (x : List ℕ). x ++ rest) t.2.spelled) in
    undecided (subst (λ (x : ℕ). Decides place (x ∷ hand)) (sym k) (bracket_decided place hand t.2.stands))

-- so it was brought by a read for which nothing was at hand
near_bracket : (place : Place) (old hand rest : List ℕ) → Near place old hand → item_at place hand ≡ the TagOpen rest → length old ≤ 65536 → length hand ≤ 65536
near_bracket place old hand rest (inl e) found small = (let l = ap length e in omega (arith, l, small))
near_bracket place old hand rest (inr h) found small = (let t = item_taken place hand TagOpen rest found in by h.0 h.1 h.2 h.3 h.4 t.2.stands (t.1 ∙ ap (λ (x : List ℕ). x ++ rest) t.2.spelled))
  where
    by : (prefix piece : List ℕ) → hand ≡ prefix ++ piece → length piece ≤ 65536 → (Decides place prefix → ⊥) → may_stand place TagOpen ≡ true → hand ≡ byte "[" ∷ rest → length hand ≤ 65536
    by [] piece e few undecided stands is = (let l = ap length e in omega (arith, l, few))
    by (b ∷ prefix) piece e few undecided stands is =
        (let k : b ≡ byte "[" = first b (byte "[") (prefix ++ piece) rest (sym e ∙ is) in absurd (undecided (subst (λ (x : ℕ). Decides place (x ∷ prefix)) (sym k) (bracket_decided place prefix stands))))

-- a longer prefix decides too
pub decides_longer : (place : Place) (prefix more : List ℕ) → Decides place prefix → Decides place (prefix ++ more)
decides_longer place prefix more d = λ further.
    ap (item_at place) (append_assoc prefix more further) ∙ d (more ++ further) ∙ longer_twice (item_at place prefix) more further ∙ ap (λ (x : Found). longer x further) (sym (d more))
  where
    longer_twice : (f : Found) (more further : List ℕ) → longer f (more ++ further) ≡ longer (longer f more) further
    longer_twice None more further = refl
    longer_twice (Some x) more further = ap (λ (y : List ℕ). Some (x.0, y)) (sym (append_assoc x.1 more further))

none_sized : (most : ℕ) (place : Place) (input : List ℕ) (found : Found) → item_at place input ≡ found → most < length input → (found ≡ None → Decides place (take (most + 1) input) → ⊥) → ((i : Item) (rest : List ℕ) → found ≡ the i rest → most + length rest < length input) → Oversized most place input
none_sized most place input None e over f g = (over, rw e (f refl))
none_sized most place input (Some x) e over f g = (over, rw e (g x.0 x.1 refl))

undecided_front : (most : ℕ) (place : Place) (hand more : List ℕ) → most < length hand → (Decides place (take (most + 1) hand) → ⊥) → Decides place (take (most + 1) (hand ++ more)) → ⊥
undecided_front most place hand more over undecided d = undecided (subst (λ (x : List ℕ). Decides place x) (take-append-le (most + 1) hand more (omega arith)) d)

none_oversized : (most : ℕ) (place : Place) (hand more : List ℕ) → most < length hand → (Decides place (take (most + 1) hand) → ⊥) → item_at place (hand ++ more) ≡ None → Oversized most place (hand ++ more)
none_oversized most place hand more over undecided e =
    let l = length-append hand more in
    none_sized most place (hand ++ more) None e (omega (arith, l)) (λ h. undecided_front most place hand more over undecided) (λ i rest h. absurd (none_the i rest h))
  where
    none_the : (i : Item) (rest : List ℕ) → None ≡ the i rest → ⊥
    none_the i rest h = cc

long_oversized : (most : ℕ) (place : Place) (hand more : List ℕ) (item : Item) (rest : List ℕ) → most + length rest < length hand → item_at place (hand ++ more) ≡ the item (rest ++ more) → Oversized most place (hand ++ more)
long_oversized most place hand more item rest long e =
    let l = length-append hand more in
    let m = length-append rest more in
    (omega (arith, l), rw e (omega (arith, l, m)))

over_oversized : (most : ℕ) (place : Place) (hand more : List ℕ) → most < length hand → (Decides place hand → ⊥) → Oversized most place (hand ++ more)
over_oversized most place hand more over undecided =
    let l = length-append hand more in
    let shorter : Decides place (take (most + 1) hand) → ⊥ = λ d. undecided (subst (λ (x : List ℕ). Decides place x) (take-append-drop (most + 1) hand) (decides_longer place (take (most + 1) hand) (drop (most + 1) hand) d)) in
    none_sized most place (hand ++ more) (item_at place (hand ++ more)) refl (omega (arith, l)) (λ h. undecided_front most place hand more over shorter)
    (λ i rest h. let s = undecided_taken place hand more i rest undecided h in omega (arith, l, s))

-- where a byte follows the item, the bytes decide it
pub found_decides : (place : Place) (hand : List ℕ) (item : Item) (rest : List ℕ) → item_at place hand ≡ the item rest → 0 < length rest → Decides place hand
found_decides place hand item rest found some = go (is_open place hand) refl
  where
    go : (v : Bool) → is_open place hand ≡ v → Decides place hand
    go false e = closed_decides place hand e
    go true e =
        (let h = undecided_taken place hand [] item rest (open_undecided place hand e) (ap (item_at place) (append-nil hand) ∙ found) in absurd (omega (arith, h, some)))

-- what follows the item that is found is a part of the bytes
pub found_within : (place : Place) {hand bytes again : List ℕ} {item : Item} {rest : List ℕ} → bytes ≡ hand → the item rest ≡ item_at place bytes → again ≡ hand → length rest ≤ length again
found_within place {hand} {bytes} {again} {item} {rest} same man_on once_more =
    let s = item_shorter place bytes item rest (sym man_on) in
    let n = ap length once_more in
    let m = ap length same in
    omega (arith, s, n, m)

-- bytes came, and those at hand decide the item that they begin with, or all have come
pub record Seen {X : Type 0} (comes : X → List ℕ → X → Type 0) (at_hand : X → List ℕ) (all sound : X → Type 0) (reads : X → ℕ) (most : ℕ) (place : Place) (old mid : X) : Type 0 where
  pub pieces : List (List ℕ)
  pub came : Calls comes old pieces mid
  pub after : IsReady comes at_hand all sound reads most place old (joined pieces) mid

module _ {X : Type 0} {comes : X → List ℕ → X → Type 0} {at_hand : X → List ℕ} {all sound : X → Type 0} {reads : X → ℕ} {most : ℕ} {place : Place} where
  module _ {old mid : X} {is_ready : Bool} (made : MadeReady comes at_hand all sound reads most place old mid (Ok is_ready)) where
    made_as : (b : Bool) → is_ready ≡ b → MadeReady comes at_hand all sound reads most place old mid (Ok b)
    made_as b e = subst (λ (b : Bool). MadeReady comes at_hand all sound reads most place old mid (Ok b)) e made

    -- too many bytes don't decide the item
    pub step_undecided : {T : Type 0} {takes : TakesOne T} {at : ℕ} {t : T} → is_ready ≡ false → Steps comes at_hand all sound reads takes at most place old mid t t (Ok (step.Stops stop.TooLarge))
    step_undecided not =
        let r = made_as false not in
        let a = r.after in
        record {
          pieces = r.more ∷ [];
          came = (mid, r.came, refl);
          after = (
            record { longer = a.longer ∙ ap (λ (x : List ℕ). at_hand old ++ x) (sym (append-nil r.more)); at_end = (λ h. (append-nil r.more ∙ (a.at_end h).0, (a.at_end h).1)); sound_still = a.sound_still },
            record {
              over = λ further none. over_oversized most place (at_hand mid) further a.over a.undecided;
              bracket = λ further none rest found. absurd (undecided_bracket place (at_hand mid) further rest (omega (arith, a.over)) a.undecided found);
              same = inl refl;
            },
            subst (λ (x : List ℕ). Needs comes at_hand all reads most place old x mid) (sym (append-nil r.more)) a.asked,
            a.no_larger,
          );
        }

    pub seen_read : is_ready ≡ true → Seen comes at_hand all sound reads most place old mid
    seen_read ok =
        let r = made_as true ok in
        record {
          pieces = r.more ∷ [];
          came = (mid, r.came, refl);
          after = subst (λ (x : List ℕ). IsReady comes at_hand all sound reads most place old x mid) (sym (append-nil r.more)) r.after;
        }

  -- nothing came
  pub seen_at_once : {old : X} {bytes : List ℕ} {item : Item} {rest : List ℕ} → sound old → bytes ≡ at_hand old → the item rest ≡ item_at place bytes → 0 < length rest → Seen comes at_hand all sound reads most place old old
  seen_at_once {old = old} {item = item} {rest = rest} sure same man_on some = record {
    pieces = [];
    came = refl;
    after = record {
      longer = sym (append-nil (at_hand old));
      decided = inl (found_decides place (at_hand old) item rest (ap (item_at place) (sym same) ∙ sym man_on) some);
      near = inl refl;
      asked = inl refl;
      at_end = λ h. (refl, h);
      sound_still = sure;
      no_larger = omega arith;
      held = λ h. h;
    };
  }

module _ {X : Type 0} {comes : X → List ℕ → X → Type 0} {at_hand : X → List ℕ} {all sound : X → Type 0} {reads : X → ℕ} {most : ℕ} {place : Place} {old mid : X}
    (ready : Seen comes at_hand all sound reads most place old mid) where
  sound_still : sound mid
  sound_still = ready.after.sound_still

  -- nothing is used
  stops : {T : Type 0} {takes : TakesOne T} {at : ℕ} {t : T} (why : Stop) (u : T) → AfterStop comes at_hand all sound reads takes at most place old mid t u why → Steps comes at_hand all sound reads takes at most place old mid t u (Ok (step.Stops why))
  stops why u after =
      record { pieces = ready.pieces; came = ready.came; after = (record { longer = ready.after.longer; at_end = ready.after.at_end; sound_still = sound_still }, after, ready.after.asked, ready.after.no_larger) }

  all_came : (hand : List ℕ) → hand ≡ [] → Decides place hand ⊎ all mid → all mid
  all_came hand e (inl d) = absurd (nothing_undecided place (subst (λ (x : List ℕ). Decides place x) e d))
  all_came hand e (inr h) = h

  pub step_end : {T : Type 0} {takes : TakesOne T} {at : ℕ} {t : T} → at_hand mid ≡ [] → Steps comes at_hand all sound reads takes at most place old mid t t (Ok (step.Stops stop.End))
  step_end {t = t} e = stops stop.End t (all_came (at_hand mid) e ready.after.decided, e, refl)

  -- what is found at the beginning is found whatever follows
  module _ {bytes : List ℕ} (same : bytes ≡ at_hand mid) where
    finds : (found : Found) → found ≡ item_at place bytes → (more : List ℕ) → (all mid → more ≡ []) → item_at place (at_hand mid ++ more) ≡ longer found more
    finds found man_on more none = decided_item place (at_hand mid) more found (all mid) ready.after.decided none (ap (item_at place) (sym same) ∙ sym man_on)

    -- no item
    module _ (man_on : None ≡ item_at place bytes) {seen : List ℕ} (as_seen : seen ≡ at_hand mid) {T : Type 0} {takes : TakesOne T} {at : ℕ} {t : T} where
      -- and too many bytes for its fault
      pub step_exceeds : (most < length seen) × (Decides place (take (most + 1) seen) → ⊥) → Steps comes at_hand all sound reads takes at most place old mid t t (Ok (step.Stops stop.TooLarge))
      step_exceeds exceeds =
          let both = subst (λ (x : List ℕ). (most < length x) × (Decides place (take (most + 1) x) → ⊥)) as_seen exceeds in
          stops stop.TooLarge t (record {
            over = λ more none. none_oversized most place (at_hand mid) more both.0 both.1 (finds None man_on more none);
            bracket = λ more none rest found. absurd (none_is_some rest (sym (finds None man_on more none) ∙ found));
            same = inl refl;
          })

      pub step_none : at_hand mid ≢ [] → (most < length seen → Decides place (take (most + 1) seen)) → Steps comes at_hand all sound reads takes at most place old mid t t (Ok (step.Stops stop.NoItem))
      step_none some within =
          stops stop.NoItem t
          (record { none = finds None man_on; decided = ready.after.decided; within = subst (λ (x : List ℕ). most < length x → Decides place (take (most + 1) x)) as_seen within; some = some }, refl)

    module _ {item : Item} {rest : List ℕ} (man_on : the item rest ≡ item_at place bytes) {again : List ℕ} (once_more : again ≡ at_hand mid) where
      found : item_at place (at_hand mid) ≡ the item rest
      found = ap (item_at place) (sym same) ∙ sym man_on

      found_on : (more : List ℕ) → (all mid → more ≡ []) → item_at place (at_hand mid ++ more) ≡ the item (rest ++ more)
      found_on = finds (the item rest) man_on

      rest_within : length rest ≤ length again
      rest_within = found_within place same man_on once_more

      abbrev used : ℕ
      used = length again - length rest

      counts : used + length rest ≡ length (at_hand mid)
      counts = (let w = rest_within in let n = ap length once_more in omega (arith, w, n))

      next_item : {T : Type 0} {takes : TakesOne T} → Next comes at_hand all sound reads takes place old mid item
      next_item = record {
        rest = rest;
        found = found_on;
        near = (λ small. near_item place (at_hand old) (at_hand mid) rest item ready.after.near found small);
        bracket = (λ e small. near_bracket place (at_hand old) (at_hand mid) rest ready.after.near (subst (λ (i : Item). item_at place (at_hand mid) ≡ the i rest) e found) small);
      }

      module _ {T : Type 0} {takes : TakesOne T} {at : ℕ} {t : T} where
        -- the item is too long
        step_over : most < used → (u : T) → (item ≡ TagOpen → Brackets takes at t u) → (u ≡ t) ⊎ Brackets takes at t u → Steps comes at_hand all sound reads takes at most place old mid t u (Ok (step.Stops stop.TooLarge))
        step_over long u bracket same =
            stops stop.TooLarge u (record {
              over = λ more none. long_oversized most place (at_hand mid) more item rest (omega (arith, counts, long)) (found_on more none);
              bracket = λ more none other is. bracket (same_item item TagOpen (rest ++ more) other (sym (found_on more none) ∙ is));
              same = same;
            })

        -- it isn't used
        step_stops : (why : Stop) (u : T) → Offered takes at most place item used t u (step.Stops why) → Steps comes at_hand all sound reads takes at most place old mid t u (Ok (step.Stops why))
        step_stops stop.Left u o = stops stop.Left u (item, next_item, o)
        step_stops (stop.Refused fault) u o = stops (stop.Refused fault) u (item, next_item, o)
        step_stops stop.TooLarge u o = step_over o.0 u o.1 o.2
        step_stops stop.Full u o = absurd o
        step_stops stop.End u o = absurd o
        step_stops stop.NoItem u o = absurd o

      module _ {new : X} (k : Keeps comes at_hand all sound reads (length rest) mid new) where
        left : at_hand new ≡ rest
        left = (let t = item_taken place (at_hand mid) item rest found in k.kept t.0 rest t.1 refl)

        abbrev pieces : List (List ℕ)
        pieces = ready.pieces ++ [] ∷ []

        no_more : joined pieces ≡ joined ready.pieces
        no_more = joined-more comes ready.pieces [] ∙ append-nil (joined ready.pieces)

        finds_left : (more : List ℕ) → (all new → more ≡ []) → item_at place (at_hand old ++ (joined pieces ++ more)) ≡ Some (item, at_hand new ++ more)
        finds_left more none =
            let e : at_hand mid ++ more ≡ at_hand old ++ (joined pieces ++ more) =
            ap (λ (x : List ℕ). x ++ more) ready.after.longer ∙ append_assoc (at_hand old) (joined ready.pieces) more ∙ ap (λ (x : List ℕ). at_hand old ++ (x ++ more)) (sym no_more) in
            ap (item_at place) (sym e) ∙ found_on more (λ h. none (k.at_end h)) ∙ ap (λ (x : List ℕ). the item (x ++ more)) (sym left)

        asks : Needs comes at_hand all reads most place old (joined ready.pieces) mid → Needs comes at_hand all reads most place old (joined pieces) new
        asks (inl same) = inl (k.no_read ∙ same)
        asks (inr n) =
            let s = n.came in
            inr (record {
              came = record {
                earlier = s.earlier;
                before = s.before;
                first = s.first;
                last = s.last ++ [] ∷ [];
                brought = Calls-more comes s.before mid new s.last [] s.brought k.came;
                once = ap (λ (m : ℕ). m + 1) k.no_read ∙ s.once;
                parts = no_more ∙ s.parts ∙ ap (λ (x : List ℕ). joined s.earlier ++ x) (sym (joined-more comes s.last [] ∙ append-nil (joined s.last)));
              };
              few = n.few;
              undecided = n.undecided;
              not_yet = n.not_yet;
            })

        counted : length (at_hand old) + length (joined pieces) ≡ length (at_hand new) + used
        counted =
            let e = ap length ready.after.longer in
            let l = length-append (at_hand old) (joined ready.pieces) in
            let j = ap length no_more in
            let n = ap length left in
            omega (arith, e, l, j, n, counts)

        uses : {T : Type 0} {takes : TakesOne T} → used ≤ most → UsesItem comes at_hand all sound reads takes most place old pieces new item used
        uses few = record {
          found = finds_left;
          asked = asks ready.after.asked;
          near = (λ small. rw left (near_item place (at_hand old) (at_hand mid) rest item ready.after.near found small));
          at_end = (λ h. (no_more ∙ (ready.after.at_end h).0, k.at_end (ready.after.at_end h).1));
          sound_still = k.sound_still;
          smaller = (let s = item_shorter place (at_hand mid) item rest found in omega (arith, s, k.smaller, ready.after.no_larger));
          counted = counted;
          few = few;
        }

        all_calls : Calls comes old pieces new
        all_calls = Calls-more comes old mid new ready.pieces [] ready.came k.came

        uses_as : {T : Type 0} {takes : TakesOne T} (len : ℕ) → used ≤ most → len ≡ used → UsesItem comes at_hand all sound reads takes most place old pieces new item len
        uses_as {takes = takes} len few e = subst (λ (n : ℕ). UsesItem comes at_hand all sound reads takes most place old pieces new item n) (sym e) (uses few)

      module _ {T : Type 0} {takes : TakesOne T} {at : ℕ} {t u : T} where
        settles : {new : X} (one : Step) → Offered takes at most place item used t u one → Settles comes at_hand all sound reads (length rest) one mid new → Steps comes at_hand all sound reads takes at most place old new t u (Ok one)
        settles {new} (step.On next len white) o k = record { pieces = pieces k; came = all_calls k; after = (item, uses_as k len o.1 o.2, o.0, o.3, o.4) }
        settles {new} (step.Full next len white) o k = record { pieces = pieces k; came = all_calls k; after = (item, uses_as k len o.1 o.2, o.0, o.3, o.4) }
        settles {new} (step.Stops why) o k = subst (λ (x : X). Steps comes at_hand all sound reads takes at most place old x t u (Ok (step.Stops why))) (sym k) (step_stops why u o)

        pub step_settled : {new : X} {one : Step} (offered : Step) → Offered takes at most place item used t u offered → one ≡ offered → Settles comes at_hand all sound reads (length rest) offered mid new
            → Steps comes at_hand all sound reads takes at most place old new t u (Ok one)
        step_settled {new} offered o is k = subst (λ (x : Step). Steps comes at_hand all sound reads takes at most place old new t u (Ok x)) (sym is) (settles offered o k)

-- the first item within a line, at once
pub step_first : {X T : Type 0} {comes : X → List ℕ → X → Type 0} {at_hand : X → List ℕ} {all sound : X → Type 0} {reads : X → ℕ} {takes : TakesOne T} {at most : ℕ} {place : Place} {old new : X} {t u : T} {item : Item} {again : List ℕ} {left : ℕ} {one : Step}
    (first : IsFirst (at_hand old) item left) → sound old → place ≡ InLine → again ≡ at_hand old → (offered : Step)
    → Offered takes at most place item (length again - left) t u offered → one ≡ offered → Settles comes at_hand all sound reads left offered old new
    → Steps comes at_hand all sound reads takes at most place old new t u (Ok one)
step_first {comes = comes} {at_hand} {all} {sound} {reads} {takes} {at} {most} {place} {old} {new} {t} {u} {item} {again} {left} {one} first sure here once_more offered =
    let followed = first.followed in
    subst (λ (p : Place). Offered takes at most p item (length again - left) t u offered → one ≡ offered → Settles comes at_hand all sound reads left offered old new → Steps comes at_hand all sound reads takes at most p old new t u (Ok one)) (sym here)
    (subst (λ (n : ℕ). Offered takes at most InLine item (length again - n) t u offered → one ≡ offered → Settles comes at_hand all sound reads n offered old new → Steps comes at_hand all sound reads takes at most InLine old new t u (Ok one))
    (sym first.counted) (λ o is k. step_settled (seen_at_once sure refl followed.found followed.some) refl followed.found once_more offered o is k))
