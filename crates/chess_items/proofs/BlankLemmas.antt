-- White items and hidden lines, one after another.
use Rattle.std.proofs.Common.{◌≡◌, ◌≢◌, ◌⊎◌, inl, inr, ℕ, ◌+◌, ◌-◌, ◌≤◌, ◌<◌, ◌&&◌, eqb, eqb-true, Bool, true, false, List, [], ◌∷◌, ◌++◌, length, refl, sym, ap, subst, ◌∙◌, arith, append_assoc, append-nil, length-append, length-drop, drop, take, Ok, MatchBool, MatchOption, Result}
use Rattle.std.specs.List.{list_all, prefix_len}
use Rattle.std.proofs.lemmas.List.{take-append-drop}
use Rattle.byte_streams.specs.Calls.{Calls, joined}
use Rattle.byte_streams.proofs.CallLemmas.{Calls-append, Calls-more, joined-append, joined-more}
use Rattle.chess_items.specs.Items as items
use Rattle.chess_items.specs.Items.{Each, EndsRun, Item, IsItem, Spells, in_line, is_blank, is_digit, is_glyph, is_name_byte, is_white, is_word_byte, place_after, place_behind, starts_line}
use Rattle.chess_items.specs.steps.Deciding.{Decides, is_open, outside_open, sign_open, tag_open}
use Rattle.chess_items.specs.steps.ItemAt.{item_at}
use Rattle.chess_items.specs.steps.Skipping.{BeginsHidden, HidesLine, MaySkip, SkippedWhite, TakesWhite}
use Rattle.chess_items.specs.steps.Taking.{AfterStop, Steps}
use Rattle.chess_items.specs.steps.Texts.{BreaksAt, BreaksWhile, Keeps, LastSince, Needs, Oversized, RefillBreaks, Refills, size}
use Rattle.chess_items.specs.declared.at_hand.Fault.{Fault}
use Rattle.chess_items.specs.declared.at_hand.Fault.TheVariants.{Memory, Read}
use Rattle.chess_items.specs.declared.fault.PgnFault.{PgnFault}
use Rattle.chess_items.specs.declared.place.Place.{Place}
use Rattle.chess_items.specs.declared.place.Place.TheVariants.{GameStart, LineStart, TagLineStart}
use Rattle.chess_items.specs.declared.taker.Taken.{Taken}
use Rattle.chess_items.specs.declared.taking.Step.TheVariants as step
use Rattle.chess_items.specs.declared.taking.Stop.{Stop}
use Rattle.chess_items.specs.declared.taking.Stop.TheVariants as stop
use Rattle.chess_items.proofs.AskedLemmas.{breaks_since, since_on, since_still}
use Rattle.chess_items.proofs.ClosedLemmas.{each-append}
use Rattle.chess_items.proofs.FoundLemmas.{the, item_taken, some_is}
use Rattle.chess_items.proofs.ItemLemmas.{item_goes}
use Rattle.chess_items.proofs.LocalLemmas.{item_shorter}
use Rattle.chess_items.proofs.OpenLemmas.{open_undecided}
use Rattle.chess_items.proofs.ReadLemmas.{empty_is}
use Rattle.chess_items.proofs.RunLemmas.{prefix_each, prefix_stops}
use Rattle.chess_items.proofs.SpellLemmas.{spells_on}

pub white_more : (is : List Item) (item : Item) → list_all is_white is ≡ true → is_white item ≡ true → list_all is_white (is ++ item ∷ []) ≡ true
white_more [] item e h = rw h refl
white_more (i ∷ is) item e h = (let two = both (is_white i) (list_all is_white is) e in and_true (is_white i) (list_all is_white (is ++ item ∷ [])) two.0 (white_more is item two.1 h))
  where
    both : (a b : Bool) → a && b ≡ true → (a ≡ true) × (b ≡ true)
    both true b e = (refl, e)
    both false b e = absurd cc

    and_true : (a b : Bool) → a ≡ true → b ≡ true → a && b ≡ true
    and_true a b e h = rw e h

pub behind_more : (place : Place) (is : List Item) (item : Item) → place_behind place (is ++ item ∷ []) ≡ place_after (place_behind place is) item
behind_more place [] item = refl
behind_more place (i ∷ is) item = behind_more (place_after place i) is item

pub white_join : (is ks : List Item) → list_all is_white is ≡ true → list_all is_white ks ≡ true → list_all is_white (is ++ ks) ≡ true
white_join [] ks e h = h
white_join (i ∷ is) ks e h = by (is_white i) e (λ k. white_join is ks k h)
  where
    by : (v : Bool) → v && list_all is_white is ≡ true → (list_all is_white is ≡ true → list_all is_white (is ++ ks) ≡ true) → v && list_all is_white (is ++ ks) ≡ true
    by true e f = f e
    by false e f = absurd cc

pub place_on : (place : Place) (is ks : List Item) → place_behind place (is ++ ks) ≡ place_behind (place_behind place is) ks
place_on place [] ks = refl
place_on place (i ∷ is) ks = place_on (place_after place i) is ks

-- ---- bytes that don't decide an item

each_all : (p : ℕ → Bool) (xs : List ℕ) → Each p xs → list_all p xs ≡ true
each_all p [] h = refl
each_all p (x ∷ xs) h = rw (h.0, each_all p xs h.1) refl

-- a hidden line so far
line_open : (here : Place) (xs : List ℕ) → starts_line here ≡ true → list_all in_line xs ≡ true → is_open here (37 ∷ xs) ≡ true
unfolding is_open outside_open tag_open sign_open is_word_byte is_name_byte is_digit is_blank is_glyph
line_open GameStart xs s e = e
line_open LineStart xs s e = e
line_open TagLineStart xs s e = e
line_open _ xs s e = absurd cc

line_undecided : (here : Place) (hand begun : List ℕ) → BeginsHidden here hand true → Each in_line (hand ++ begun) → Decides here (hand ++ begun) → ⊥
line_undecided here hand begun b each =
    let e : hand ++ begun ≡ 37 ∷ (b.1 ++ begun) = ap (λ (x : List ℕ). x ++ begun) b.2 in
    let all : Each in_line (37 ∷ (b.1 ++ begun)) = subst (λ (x : List ℕ). Each in_line x) e each in
    subst (λ (x : List ℕ). Decides here x → ⊥) (sym e) (open_undecided here (37 ∷ (b.1 ++ begun)) (line_open here (b.1 ++ begun) b.0 (each_all in_line (b.1 ++ begun) all.1)))

-- no item is passed over yet
pub nothing_yet : (here : Place) (begun : List ℕ) → (Decides here begun → ⊥) → MaySkip here begun
nothing_yet here begun undecided = record { items = []; rest = begun; white = refl; spelled = λ more. refl; undecided = undecided }

-- an item of white space that isn't within three bytes is a hidden line
long_white : (place : Place) (input : List ℕ) (item : Item) (rest : List ℕ) → Oversized 3 place input → item_at place input ≡ the item rest → (starts_line place ≡ true → (more : List ℕ) → input ≡ 37 ∷ more → ⊥) → is_white item ≡ false
long_white place input item rest o found hidden = by item (item_taken place input item rest found).0 refl (item_taken place input item rest found).1 (item_taken place input item rest found).2
  where
    far : 3 + length rest < length input
    far = subst (λ z. MatchOption z (Decides place (take 4 input) → ⊥) (λ (x : Item × List ℕ). 3 + length x.1 < length input)) found o.1

    by : (i : Item) (text : List ℕ) → i ≡ item → input ≡ text ++ rest → IsItem place item text rest → is_white i ≡ false
    by items.Mark text e parts is = absurd (let s = subst (λ (k : Item). IsItem place k text rest) (sym e) is in let n = ap length parts ∙ length-append text rest in let t = ap length s.spelled in omega (arith, far, n, t))
    by (items.Blank b) text e parts is = absurd (let s = subst (λ (k : Item). IsItem place k text rest) (sym e) is in let n = ap length parts ∙ length-append text rest in let t = ap length s.spelled.1 in omega (arith, far, n, t))
    by items.Hidden text e parts is = (let s = subst (λ (k : Item). IsItem place k text rest) (sym e) is in absurd (hidden s.stands (s.spelled.0 ++ rest) (parts ∙ ap (λ (x : List ℕ). x ++ rest) s.spelled.1)))
    by _ text e parts is = refl

module _ {X : Type 0} (comes : X → List ℕ → X → Type 0) (at_hand : X → List ℕ) (all sound : X → Type 0) (reads : X → ℕ) where
  abbrev takes : {T : Type 0} → T → ℕ → Item → Result Taken PgnFault → T → Type 0
  takes old at item result new = TakesWhite item result

  -- ---- a hidden line

  -- so far all bytes are of the line
  pub record Hiding (old now : X) : Type 0 where
    pub pieces : List (List ℕ)
    pub came : Calls comes old pieces now
    pub line : List ℕ
    pub used : at_hand old ++ joined pieces ≡ line ++ at_hand now
    pub each : Each in_line line
    pub asked : LastSince comes at_hand all reads (Each in_line) old (joined pieces) now
    pub smaller : size at_hand reads now + length line ≤ size at_hand reads old
    pub still : all old → (joined pieces ≡ []) × all now
    pub sound_still : sound now

  pub hiding_start : (old : X) → sound old → Hiding old old
  hiding_start old so = record { pieces = []; came = refl; line = []; used = append-nil (at_hand old); each = tt; asked = inl refl; smaller = omega arith; still = λ e. (refl, e); sound_still = so }

  module _ (old now : X) (h : Hiding old now) where
    -- the bytes at hand that are of the line are used
    module _ (hand two : List ℕ) (e : hand ≡ at_hand now) (f : two ≡ at_hand now) (n : ℕ) (run : n ≡ prefix_len in_line hand) (new : X) (k : Keeps comes at_hand all sound reads (length two - n) now new) where
      abbrev text : List ℕ
      text = take n hand

      abbrev rest : List ℕ
      rest = drop n hand

      parts : at_hand now ≡ text ++ rest
      parts = sym e ∙ sym (take-append-drop n hand)

      rest_len : length rest ≡ length two - n
      rest_len = (let l = length-drop n hand in let t = ap length f in let h = ap length e in omega (arith, l, t, h))

      pub left_now : at_hand new ≡ drop n hand
      left_now = k.kept text rest parts rest_len

      pub line_stops : EndsRun in_line (at_hand new)
      line_stops = subst (λ (x : List ℕ). EndsRun in_line x) (ap (λ (m : ℕ). drop m hand) (sym run) ∙ sym left_now) (prefix_stops in_line hand)

      pub left_len : length (at_hand new) ≡ length two - n
      left_len = ap length left_now ∙ rest_len

      pub now_smaller : size at_hand reads new ≤ size at_hand reads now
      now_smaller = (let p = ap length parts ∙ length-append text rest in let r = rest_len in omega (arith, p, r, k.smaller))

      pub hiding_on : Hiding old new
      hiding_on = record {
        pieces = h.pieces ++ [] ∷ [];
        came = Calls-more comes old now new h.pieces [] h.came k.came;
        line = h.line ++ text;
        used =
            ap (λ (x : List ℕ). at_hand old ++ x) (joined-more comes h.pieces [] ∙ append-nil (joined h.pieces)) ∙ h.used ∙ ap (λ (x : List ℕ). h.line ++ x) (parts ∙ ap (λ (x : List ℕ). text ++ x) (sym left_now)) ∙ sym (append_assoc h.line text (at_hand new));
        each = each-append in_line h.line text h.each (subst (λ (m : ℕ). Each in_line (take m hand)) (sym run) (prefix_each in_line hand));
        asked = since_still comes at_hand all reads (Each in_line) old now h.pieces h.came (λ a. (h.still a).1) ([] ∷ []) new (new, k.came, refl) k.no_read h.asked;
        smaller =
            (let l = length-append h.line text in
            let p = ap length parts ∙ length-append text rest in
            let r = rest_len in
            let f = h.smaller in
            omega (arith, l, p, r, f, k.smaller));
        still = λ a. (let b = h.still a in (joined-more comes h.pieces [] ∙ append-nil (joined h.pieces) ∙ b.0, k.at_end b.1));
        sound_still = k.sound_still;
      }

  some_line : (hand more line rest r : List ℕ) → hand ≡ 37 ∷ r → hand ++ more ≡ line ++ rest → EndsRun in_line rest → 1 ≤ length line
  some_line hand more (b ∷ line) rest r e used stops = omega arith
  some_line hand more [] rest r e used stops =
      let starts : rest ≡ 37 ∷ (r ++ more) = sym used ∙ ap (λ (x : List ℕ). x ++ more) e in
      absurd (let wrong : EndsRun in_line (37 ∷ (r ++ more)) = subst (λ (x : List ℕ). EndsRun in_line x) starts stops in cc)

  -- another byte comes after the line
  pub hides_at : (old new : X) (r : List ℕ) → at_hand old ≡ 37 ∷ r → Hiding old new → EndsRun in_line (at_hand new) → 0 < length (at_hand new) → HidesLine comes at_hand all sound reads old new
  hides_at old new r begins h stops some = record {
    pieces = h.pieces;
    came = h.came;
    line = h.line;
    used = h.used;
    each = h.each;
    stops = stops;
    ended = λ e. absurd (let n = ap length e in omega (arith, n, some));
    asked = h.asked;
    smaller = (let l = some_line (at_hand old) (joined h.pieces) h.line (at_hand new) r begins h.used stops in omega (arith, l, h.smaller));
    still = h.still;
    sound_still = h.sound_still;
  }

  -- all bytes so far are of the line, and then one read is made
  module _ (old now : X) (h : Hiding old now) (none : at_hand now ≡ []) where
    all_line : Each in_line (at_hand old ++ joined h.pieces)
    all_line = subst (λ (x : List ℕ). Each in_line x) (sym (h.used ∙ ap (λ (x : List ℕ). h.line ++ x) none ∙ append-nil h.line)) h.each

    one_read : (ps : List (List ℕ)) (new : X) → Calls comes now ps new → reads new + 1 ≡ reads now → (all now → ⊥) → LastSince comes at_hand all reads (Each in_line) old (joined (h.pieces ++ ps)) new
    one_read ps new came once not_yet =
        inr (
          (λ a. not_yet (h.still a).1),
          record { earlier = h.pieces; before = now; first = h.came; last = ps; brought = came; once = once; parts = joined-append h.pieces ps },
          all_line,
        )

    at_most_one : (ps : List (List ℕ)) (new : X) → Calls comes now ps new → (reads new ≡ reads now) ⊎ ((reads new + 1 ≡ reads now) × (all now → ⊥)) → LastSince comes at_hand all reads (Each in_line) old (joined (h.pieces ++ ps)) new
    at_most_one ps new came (inl same) = since_still comes at_hand all reads (Each in_line) old now h.pieces h.came (λ a. (h.still a).1) ps new came same h.asked
    at_most_one ps new came (inr o) = one_read ps new came o.0 o.1

    with_not_yet : (new : X) → (all now → ⊥) → (reads new ≡ reads now) ⊎ (reads new + 1 ≡ reads now) → (reads new ≡ reads now) ⊎ ((reads new + 1 ≡ reads now) × (all now → ⊥))
    with_not_yet new not_yet (inl same) = inl same
    with_not_yet new not_yet (inr once) = inr (once, not_yet)

    pub hiding_broken : (breaks : X → X → Type 0) (new : X) (fault : Fault) → RefillBreaks comes breaks all reads now new fault → BreaksWhile comes at_hand breaks all reads (Each in_line) old new fault
    hiding_broken breaks new Memory b = record {
      pieces = h.pieces ++ b.1;
      came = Calls-append comes old now new h.pieces b.1 h.came b.2;
      not_yet = λ a. b.0 (h.still a).1;
      asked = at_most_one b.1 new b.2 (with_not_yet new b.0 b.3);
    }
    hiding_broken breaks new Read b = record {
      pieces = h.pieces ++ [] ∷ [];
      mid = b.1;
      came = Calls-more comes old now b.1 h.pieces [] h.came b.2;
      not_yet = λ a. b.0 (h.still a).1;
      not_all = b.4;
      breaks_off = b.3;
      asked = subst (λ (x : List ℕ). Each in_line (at_hand old ++ x)) (sym (joined-more comes h.pieces [] ∙ append-nil (joined h.pieces))) all_line;
    }

  -- all bytes at hand were of it, and more come, or none do
  module _ (old now new : X) (h : Hiding old now) (none : at_hand now ≡ []) (r : Refills comes at_hand all sound reads now new (Ok true)) where
    pub hiding_more : Hiding old new
    hiding_more = record {
      pieces = h.pieces ++ r.more ∷ [];
      came = Calls-more comes old now new h.pieces r.more h.came r.came;
      line = h.line;
      used =
          ap (λ (x : List ℕ). at_hand old ++ x) (joined-more comes h.pieces r.more) ∙ sym (append_assoc (at_hand old) (joined h.pieces) r.more) ∙ ap (λ (x : List ℕ). x ++ r.more) (h.used ∙ ap (λ (x : List ℕ). h.line ++ x) none ∙ append-nil h.line)
          ∙ ap (λ (x : List ℕ). h.line ++ x) (sym r.after.0);
      each = h.each;
      asked = one_read old now h none (r.more ∷ []) new (new, r.came, refl) r.after.4 r.after.3;
      smaller = (let f = h.smaller in omega (arith, f, r.after.2));
      still = λ a. absurd (r.after.3 (h.still a).1);
      sound_still = r.after.1;
    }

    pub hiding_falls : size at_hand reads new + 1 ≤ size at_hand reads now
    hiding_falls = r.after.2

  pub hides_all : (old now new : X) (r : List ℕ) → at_hand old ≡ 37 ∷ r → Hiding old now → at_hand now ≡ [] → Refills comes at_hand all sound reads now new (Ok false) → HidesLine comes at_hand all sound reads old new
  hides_all old now new r begins h none f =
      let same : at_hand old ++ joined (h.pieces ++ f.more ∷ []) ≡ h.line ++ at_hand new =
      ap (λ (x : List ℕ). at_hand old ++ x) (joined-more comes h.pieces f.more ∙ ap (λ (x : List ℕ). joined h.pieces ++ x) f.after.1 ∙ append-nil (joined h.pieces)) ∙ h.used ∙ ap (λ (x : List ℕ). h.line ++ x) (none ∙ sym f.after.0) in
      let stops : EndsRun in_line (at_hand new) = subst (λ (x : List ℕ). EndsRun in_line x) (sym f.after.0) tt in
      record {
        pieces = h.pieces ++ f.more ∷ [];
        came = Calls-more comes old now new h.pieces f.more h.came f.came;
        line = h.line;
        used = same;
        each = h.each;
        stops = stops;
        ended = λ e. f.after.2;
        asked = at_most_one old now h none (f.more ∷ []) new (new, f.came, refl) f.after.5;
        smaller = (let l = some_line (at_hand old) (joined (h.pieces ++ f.more ∷ [])) h.line (at_hand new) r begins same stops in let k = h.smaller in omega (arith, l, k, f.after.4));
        still = λ a. (joined-more comes h.pieces f.more ∙ ap (λ (x : List ℕ). x ++ f.more) (h.still a).0 ∙ f.after.1, f.after.2);
        sound_still = f.after.3;
      }

  -- ---- white items, one after another

  pub record Skipping (place : Place) (old : X) (here : Place) (now : X) : Type 0 where
    pub pieces : List (List ℕ)
    pub came : Calls comes old pieces now
    pub items : List Item
    pub white : list_all is_white items ≡ true
    pub spelled : (more : List ℕ) → (all now → more ≡ []) → Spells place (at_hand old ++ (joined pieces ++ more)) items (at_hand now ++ more)
    pub stands : here ≡ place_behind place items
    pub asked : LastSince comes at_hand all reads (MaySkip place) old (joined pieces) now
    pub still : all old → (joined pieces ≡ []) × all now
    pub sound_still : sound now

  pub skipping_start : (place : Place) (old : X) → sound old → Skipping place old place old
  skipping_start place old so = record { pieces = []; came = refl; items = []; white = refl; spelled = λ more so. refl; stands = refl; asked = inl refl; still = λ e. (refl, e); sound_still = so }

  needs_skip : (most : ℕ) (here : Place) (now : X) (more : List ℕ) (new : X) → Needs comes at_hand all reads most here now more new → LastSince comes at_hand all reads (MaySkip here) now more new
  needs_skip most here now more new (inl same) = inl same
  needs_skip most here now more new (inr n) = inr (n.not_yet, n.came, nothing_yet here (at_hand now ++ joined n.came.earlier) n.undecided)

  line_skip : (here : Place) (now : X) (more : List ℕ) (new : X) → BeginsHidden here (at_hand now) true → LastSince comes at_hand all reads (Each in_line) now more new → LastSince comes at_hand all reads (MaySkip here) now more new
  line_skip here now more new b (inl same) = inl same
  line_skip here now more new b (inr l) = inr (l.0, l.1, nothing_yet here (at_hand now ++ joined l.1.earlier) (line_undecided here (at_hand now) (joined l.1.earlier) b l.2))

  pub line_broken : (breaks : X → X → Type 0) (here : Place) (now new : X) (fault : Fault) → BeginsHidden here (at_hand now) true → BreaksWhile comes at_hand breaks all reads (Each in_line) now new fault → BreaksWhile comes at_hand breaks all reads (MaySkip here) now new fault
  line_broken breaks here now new Memory b k = record { pieces = k.pieces; came = k.came; not_yet = k.not_yet; asked = line_skip here now (joined k.pieces) new b k.asked }
  line_broken breaks here now new Read b k = record {
    pieces = k.pieces;
    mid = k.mid;
    came = k.came;
    not_yet = k.not_yet;
    not_all = k.not_all;
    breaks_off = k.breaks_off;
    asked = nothing_yet here (at_hand now ++ joined k.pieces) (line_undecided here (at_hand now) (joined k.pieces) b k.asked);
  }

  -- what comes after white items may be passed over with them
  module _ (place : Place) (old : X) (here : Place) (now : X) (s : Skipping place old here now) where
    goes_on : (begun : List ℕ) → (all now → ⊥) → MaySkip here (at_hand now ++ begun) → MaySkip place (at_hand old ++ (joined s.pieces ++ begun))
    goes_on begun not_yet q = record {
      items = s.items ++ q.items;
      rest = q.rest;
      white = white_join s.items q.items s.white q.white;
      spelled = λ more.
          spells_on place ((at_hand old ++ (joined s.pieces ++ begun)) ++ more) s.items q.items (at_hand now ++ (begun ++ more)) (q.rest ++ more)
          (subst (λ (x : List ℕ). Spells place x s.items (at_hand now ++ (begun ++ more)))
          (ap (λ (x : List ℕ). at_hand old ++ x) (sym (append_assoc (joined s.pieces) begun more)) ∙ sym (append_assoc (at_hand old) (joined s.pieces ++ begun) more)) (s.spelled (begun ++ more) (λ e. absurd (not_yet e))))
          (subst (λ (p : Place). Spells p (at_hand now ++ (begun ++ more)) q.items (q.rest ++ more)) s.stands
          (subst (λ (x : List ℕ). Spells here x q.items (q.rest ++ more)) (append_assoc (at_hand now) begun more) (q.spelled more)));
      undecided = λ d. q.undecided (subst (λ (p : Place). Decides p q.rest) (place_on place s.items q.items ∙ ap (λ (p : Place). place_behind p q.items) (sym s.stands)) d);
    }

    pub skipping_broken : (breaks : X → X → Type 0) (new : X) (fault : Fault) → BreaksWhile comes at_hand breaks all reads (MaySkip here) now new fault → BreaksWhile comes at_hand breaks all reads (MaySkip place) old new fault
    skipping_broken breaks new fault b = breaks_since comes at_hand all reads (MaySkip place) old now s.pieces s.came (λ e. (s.still e).1) breaks (MaySkip here) new fault b goes_on s.asked

    pub skipping_stopped : (breaks : X → X → Type 0) (new : X) (fault : Fault) → BreaksAt comes at_hand breaks all sound reads 3 here now new fault → BreaksWhile comes at_hand breaks all reads (MaySkip place) old new fault
    skipping_stopped breaks new fault b = skipping_broken breaks new fault (off fault b)
      where
        off : (fault : Fault) → BreaksAt comes at_hand breaks all sound reads 3 here now new fault → BreaksWhile comes at_hand breaks all reads (MaySkip here) now new fault
        off Memory b = record { pieces = b.pieces; came = b.came; not_yet = b.not_yet; asked = needs_skip 3 here now (joined b.pieces) new b.asked }
        off Read b = record {
          pieces = b.pieces;
          mid = b.mid;
          came = b.came;
          not_yet = b.not_yet;
          not_all = b.not_all;
          breaks_off = b.breaks_off;
          asked = nothing_yet here (at_hand now ++ joined b.pieces) (λ d. b.undecided (subst (λ (x : List ℕ). Decides here x) (sym b.longer) d));
        }

  module _ (place : Place) (old : X) (here : Place) (now : X) (s : Skipping place old here now) (ps : List (List ℕ)) (new : X) (came : Calls comes now ps new) (still : all now → (joined ps ≡ []) × all new) (so : sound new) (asked : LastSince comes at_hand all reads (MaySkip here) now (joined ps) new) where
    asked_now : LastSince comes at_hand all reads (MaySkip place) old (joined (s.pieces ++ ps)) new
    asked_now = since_on comes at_hand all reads (MaySkip place) old now s.pieces s.came (λ e. (s.still e).1) ps new came (MaySkip here) asked (goes_on place old here now s) s.asked

    no_more : (more : List ℕ) → (all new → more ≡ []) → all now → joined ps ++ more ≡ []
    no_more more none e = (let k = still e in ap (λ (x : List ℕ). x ++ more) k.0 ∙ none k.1)

    before : (more : List ℕ) → (all new → more ≡ []) → Spells place (at_hand old ++ (joined (s.pieces ++ ps) ++ more)) s.items (at_hand now ++ (joined ps ++ more))
    before more none =
        subst (λ (x : List ℕ). Spells place (at_hand old ++ x) s.items (at_hand now ++ (joined ps ++ more)))
        (sym (append_assoc (joined s.pieces) (joined ps) more) ∙ ap (λ (x : List ℕ). x ++ more) (sym (joined-append s.pieces ps))) (s.spelled (joined ps ++ more) (no_more more none))

    all_still : all old → (joined (s.pieces ++ ps) ≡ []) × all new
    all_still e = (let a = s.still e in let b = still a.1 in (joined-append s.pieces ps ∙ ap (λ (x : List ℕ). x ++ joined ps) a.0 ∙ b.0, b.1))

    -- a white item more
    pub skipping_item : (item : Item) → is_white item ≡ true → ((more : List ℕ) → (all new → more ≡ []) → item_at here (at_hand now ++ (joined ps ++ more)) ≡ the item (at_hand new ++ more)) → (next : Place) → next ≡ place_after here item → Skipping place old next new
    skipping_item item is found next e = record {
      pieces = s.pieces ++ ps;
      came = Calls-append comes old now new s.pieces ps s.came came;
      items = s.items ++ item ∷ [];
      white = white_more s.items item s.white is;
      spelled = λ more none.
          let mid = at_hand now ++ (joined ps ++ more) in
          let t = item_taken here mid item (at_hand new ++ more) (found more none) in
          let last : Spells here mid (item ∷ []) (at_hand new ++ more) = (t.0, at_hand new ++ more, t.1, t.2, refl) in
          spells_on place (at_hand old ++ (joined (s.pieces ++ ps) ++ more)) s.items (item ∷ []) mid (at_hand new ++ more) (before more none)
          (subst (λ (p : Place). Spells p mid (item ∷ []) (at_hand new ++ more)) s.stands last);
      stands = e ∙ ap (λ (p : Place). place_after p item) s.stands ∙ sym (behind_more place s.items item);
      asked = asked_now;
      still = all_still;
      sound_still = so;
    }

    -- nothing is used
    pub skipping_rests : at_hand new ≡ at_hand now ++ joined ps → Skipping place old here new
    skipping_rests longer = record {
      pieces = s.pieces ++ ps;
      came = Calls-append comes old now new s.pieces ps s.came came;
      items = s.items;
      white = s.white;
      spelled = λ more none.
          let e : at_hand now ++ (joined ps ++ more) ≡ at_hand new ++ more = sym (append_assoc (at_hand now) (joined ps) more) ∙ ap (λ (x : List ℕ). x ++ more) (sym longer) in
          subst (λ (x : List ℕ). Spells place (at_hand old ++ (joined (s.pieces ++ ps) ++ more)) s.items x) e (before more none);
      stands = s.stands;
      asked = asked_now;
      still = all_still;
      sound_still = so;
    }

  pub skipping_on : {T : Type 0} (place : Place) (old : X) (here next : Place) (now new : X) (used : ℕ) (white : Bool) (t u : T) → Skipping place old here now → Steps comes at_hand all sound reads takes 0 3 here now new t u (Ok (step.On next used white)) → Skipping place old next new
  skipping_on place old here next now new used white t u s k =
      let one = k.after.1 in skipping_item place old here now s k.pieces new k.came one.at_end one.sound_still (needs_skip 3 here now (joined k.pieces) new one.asked) k.after.0 k.after.2 one.found next k.after.3

  pub skipping_falls : {T : Type 0} (here next : Place) (now new : X) (used : ℕ) (white : Bool) (t u : T) → Steps comes at_hand all sound reads takes 0 3 here now new t u (Ok (step.On next used white)) → size at_hand reads new + 1 ≤ size at_hand reads now
  skipping_falls here next now new used white t u k = (let one = k.after.1 in one.smaller)

  pub skipping_full : {T : Type 0} (here next : Place) (now new : X) (used : ℕ) (white : Bool) (t u : T) → Steps comes at_hand all sound reads takes 0 3 here now new t u (Ok (step.Full next used white)) → ⊥
  skipping_full here next now new used white t u k = k.after.2

  -- a hidden line more
  pub skipping_line : (place : Place) (old : X) (here : Place) (now new : X) (next : Place) → Skipping place old here now → BeginsHidden here (at_hand now) true → HidesLine comes at_hand all sound reads now new → next ≡ place_after here items.Hidden → Skipping place old next new
  skipping_line place old here now new next s b h e = skipping_item place old here now s h.pieces new h.came h.still h.sound_still (line_skip here now (joined h.pieces) new b h.asked) items.Hidden refl found next e
    where
      tail : (x : ℕ) (xs ys : List ℕ) (a : ℕ) (zs : List ℕ) → x ∷ xs ≡ a ∷ zs → a ≡ x
      tail x xs ys a zs e = cc

      by : (line : List ℕ) → h.line ≡ line → 1 ≤ length line → (more : List ℕ) → (all new → more ≡ []) → item_at here (at_hand now ++ (joined h.pieces ++ more)) ≡ the items.Hidden (at_hand new ++ more)
      by [] e some more none = absurd (omega (arith, some))
      by (c ∷ line) e some more none =
          let used : at_hand now ++ joined h.pieces ≡ (c ∷ line) ++ at_hand new = h.used ∙ ap (λ (x : List ℕ). x ++ at_hand new) e in
          let first : c ≡ 37 = tail 37 (b.1 ++ joined h.pieces) [] c (line ++ at_hand new) (ap (λ (x : List ℕ). x ++ joined h.pieces) (sym b.2) ∙ used) in
          let each : Each in_line (c ∷ line) = subst (λ (x : List ℕ). Each in_line x) e h.each in
          let stops : EndsRun in_line (at_hand new ++ more) = stops_on (at_hand new) refl more none in
          let is : IsItem here items.Hidden (37 ∷ line) (at_hand new ++ more) = record { stands = b.0; spelled = (line, refl, record { each = each.1; stops = stops }) } in
          let whole : at_hand now ++ (joined h.pieces ++ more) ≡ (37 ∷ line) ++ (at_hand new ++ more) =
          sym (append_assoc (at_hand now) (joined h.pieces) more) ∙ ap (λ (x : List ℕ). x ++ more) (used ∙ ap (λ (x : ℕ). (x ∷ line) ++ at_hand new) first) ∙ append_assoc (37 ∷ line) (at_hand new) more in
          ap (item_at here) whole ∙ item_goes here items.Hidden (37 ∷ line) (at_hand new ++ more) is
        where
          stops_on : (hand : List ℕ) → at_hand new ≡ hand → (more : List ℕ) → (all new → more ≡ []) → EndsRun in_line (at_hand new ++ more)
          stops_on [] e more none = subst (λ (x : List ℕ). EndsRun in_line x) (sym (ap (λ (x : List ℕ). x ++ more) e ∙ none (h.ended e))) tt
          stops_on (d ∷ hand) e more none = subst (λ (x : List ℕ). EndsRun in_line x) (sym (ap (λ (x : List ℕ). x ++ more) e)) (subst (λ (x : List ℕ). EndsRun in_line x) e h.stops)

      some : 1 ≤ length h.line
      some = some_line (at_hand now) (joined h.pieces) h.line (at_hand new) b.1 b.2 h.used h.stops

      found : (more : List ℕ) → (all new → more ≡ []) → item_at here (at_hand now ++ (joined h.pieces ++ more)) ≡ the items.Hidden (at_hand new ++ more)
      found more none = by h.line refl some more none

  -- ---- what comes after them

  module _ {T : Type 0} (place : Place) (old : X) (here : Place) (now new : X) (why : Stop) (t u : T) (k : Steps comes at_hand all sound reads takes 0 3 here now new t u (Ok (step.Stops why))) where
    pub skipping_stops : Skipping place old here now → Skipping place old here new
    skipping_stops s = (let r = k.after.0 in skipping_rests place old here now s k.pieces new k.came r.at_end r.sound_still (needs_skip 3 here now (joined k.pieces) new k.after.2) r.longer)

    pub sound_there : sound new
    sound_there = (let r = k.after.0 in r.sound_still)

    pub no_larger_there : size at_hand reads new ≤ size at_hand reads now
    no_larger_there = k.after.3

    -- what comes next isn't white, where it is no hidden line
    not_white : (why : Stop) → AfterStop comes at_hand all sound reads takes 0 3 here now new t u why → BeginsHidden here (at_hand new) false → (more : List ℕ) → (all new → more ≡ []) → (item : Item) (rest : List ℕ) → item_at here (at_hand new ++ more) ≡ the item rest → is_white item ≡ false
    not_white stop.Full a b more none item rest found = absurd a
    not_white (stop.Refused fault) a b more none item rest found = absurd a.2
    not_white stop.Left a b more none item rest found =
        let e = some_is {A = Item × List ℕ} (item, rest) (a.0, a.1.rest ++ more) (sym found ∙ a.1.found more none) in
        ap is_white (ap (λ (z : Item × List ℕ). z.0) e) ∙ a.2
    not_white stop.End a b more none item rest found =
        let short = item_shorter here (at_hand new ++ more) item rest found in
        let n = ap length a.1 in
        let m = ap length (none a.0) in
        let l = length-append (at_hand new) more in
        absurd (omega (arith, short, n, m, l))
    not_white stop.NoItem a b more none item rest found = absurd (let e = sym (a.0.none more none) ∙ found in cc)
    not_white stop.TooLarge a b more none item rest found = long_white here (at_hand new ++ more) item rest (a.over more none) found (λ starts xs e. hidden starts (at_hand new) refl xs e)
      where
        big : 3 < length (at_hand new ++ [])
        big = (a.over [] (λ e. refl)).0

        hidden : starts_line here ≡ true → (hand : List ℕ) → at_hand new ≡ hand → (xs : List ℕ) → at_hand new ++ more ≡ 37 ∷ xs → ⊥
        hidden starts [] h xs e = (let n = ap (λ (x : List ℕ). length (x ++ [])) h in absurd (omega (arith, big, n)))
        hidden starts (c ∷ hand) h xs e =
            let first : c ∷ (hand ++ more) ≡ 37 ∷ xs = ap (λ (x : List ℕ). x ++ more) (sym h) ∙ e in
            b starts hand (h ∙ ap (λ (x : ℕ). x ∷ hand) (head c 37 (hand ++ more) xs first))
          where
            head : (a b : ℕ) (xs ys : List ℕ) → a ∷ xs ≡ b ∷ ys → a ≡ b
            head a b xs ys e = cc

    -- nothing is at hand at the end alone
    ended_there : (why : Stop) → AfterStop comes at_hand all sound reads takes 0 3 here now new t u why → at_hand new ≡ [] → all new
    ended_there stop.Full a e = absurd a
    ended_there (stop.Refused fault) a e = absurd a.2
    ended_there stop.Left a e =
        let found = a.1.found [] (λ h. refl) in
        let short = item_shorter here (at_hand new ++ []) a.0 (a.1.rest ++ []) found in
        let n = ap (λ (x : List ℕ). length (x ++ [])) e in
        absurd (omega (arith, short, n))
    ended_there stop.End a e = a.0
    ended_there stop.NoItem a e = absurd (a.0.some e)
    ended_there stop.TooLarge a e = (let big = (a.over [] (λ h. refl)).0 in let n = ap (λ (x : List ℕ). length (x ++ [])) e in absurd (omega (arith, big, n)))

    pub skipped : Skipping place old here now → BeginsHidden here (at_hand new) false → SkippedWhite comes at_hand all sound reads place old new
    skipped before b =
        let s = skipping_stops before in
        record {
          pieces = s.pieces;
          came = s.came;
          items = s.items;
          white = s.white;
          spelled = s.spelled;
          last = λ more none item rest found. not_white why k.after.1 b more none item rest (ap (λ (p : Place). item_at p (at_hand new ++ more)) s.stands ∙ found);
          ended = ended_there why k.after.1;
          asked = s.asked;
          still = s.still;
          sound_still = s.sound_still;
        }

pub empty_or : (hand seen : List ℕ) (b : Bool) → seen ≡ hand → b ≡ eqb (length seen) 0 → MatchBool b (hand ≡ []) (hand ≢ [])
empty_or hand seen b e h = by b (h ∙ ap (λ (x : List ℕ). eqb (length x) 0) e)
  where
    by : (v : Bool) → v ≡ eqb (length hand) 0 → MatchBool v (hand ≡ []) (hand ≢ [])
    by true k = empty_is hand (eqb-true (length hand) 0 (sym k))
    by false k = λ e. (let n = k ∙ ap (λ (x : List ℕ). eqb (length x) 0) e in cc)
