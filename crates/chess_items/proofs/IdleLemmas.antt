-- Whitespace, periods and move numbers, passed over one after another.
use Rattle.std.proofs.Common.{◌≡◌, ◌<◌, ◌≤◌, ℕ, ◌+◌, ◌-◌, ◌==◌, Bool, true, false, ◌&&◌, List, [], ◌∷◌, ◌++◌, length, take, drop, Some, Ok, refl, sym, ap, subst, ◌∙◌, append_assoc, append-nil, length-append, arith}
use Rattle.std.proofs.lemmas.List.{length-take, take-append-drop}
use Rattle.chess_items.specs.Items.{Item, Blank, Skipped, is_blank, is_in_tag, is_outside, may_stand, place_after, place_after_blank}
use Rattle.chess_items.specs.steps.Deciding.{longer}
use Rattle.chess_items.specs.steps.Firsts.{IsFollowed}
use Rattle.chess_items.specs.steps.Idle.{is_idle, all_idle, IsIdle, IsIdleRun, PassesIdle}
use Rattle.chess_items.specs.steps.ItemAt.{Found, item_at}
use Rattle.chess_items.specs.steps.Taking.{TakesOne, SpellsFrom, Takes}
use Rattle.chess_items.specs.steps.Texts.{Keeps}
use Rattle.chess_items.specs.declared.place.Place.{Place}
use Rattle.chess_items.specs.declared.place.Place.TheVariants.{GameStart, LineStart, InLine, TagLineStart, InTag, InValue}
use Rattle.chess_items.specs.declared.taker.Taken.TheVariants.{GoesOn}
use Rattle.chess_items.proofs.FirstLemmas.{period}
use Rattle.chess_items.proofs.FoundLemmas.{Taken, item_taken}
use Rattle.chess_items.proofs.ItemLemmas.{item_goes}
use Rattle.chess_items.proofs.LocalLemmas.{item_shorter}
use Rattle.chess_items.proofs.OfferLemmas.{found_decides}
use Rattle.chess_items.proofs.TakingLemmas.{behind-more, spells_more}

-- ---- the same items at each place outside of tags

out_of_tag : (place : Place) → is_outside place ≡ true → is_in_tag place ≡ false
out_of_tag GameStart o = refl
out_of_tag LineStart o = refl
out_of_tag InLine o = refl
out_of_tag TagLineStart o = absurd cc
out_of_tag InTag o = absurd cc
out_of_tag InValue o = absurd cc

may_be : (place : Place) (item : Item) → is_outside place ≡ true → is_idle item ≡ true → may_stand place item ≡ true
may_be place (Blank b) o i = rw o refl
may_be place Skipped o i = o
may_be place _ o i = absurd cc

same_after : (place : Place) (item : Item) → is_outside place ≡ true → is_idle item ≡ true → place_after place item ≡ place_after InLine item
same_after place (Blank b) o i = rw (out_of_tag place o) refl
same_after place Skipped o i = refl
same_after place _ o i = absurd cc

after_blank : (v : Bool) → is_outside (place_after_blank false v) ≡ true
after_blank true = refl
after_blank false = refl

still_outside : (item : Item) → is_idle item ≡ true → is_outside (place_after InLine item) ≡ true
still_outside (Blank b) i = after_blank (b == 10)
still_outside Skipped i = refl
still_outside _ i = absurd cc

anywhere : (place : Place) (item : Item) (bytes rest : List ℕ) → is_outside place ≡ true → is_idle item ≡ true → item_at InLine bytes ≡ Some (item, rest) → Taken place bytes item rest
anywhere place item bytes rest o i found = (let t = item_taken InLine bytes item rest found in (t.0, t.1, record { stands = may_be place item o i; spelled = t.2.spelled }))

-- ---- one item

pub idle_blank : {bytes rest : List ℕ} {b : ℕ} {next : Place} → bytes ≡ b ∷ rest → is_blank b ≡ true → next ≡ place_after InLine (Blank b) → IsIdle bytes next rest
idle_blank {bytes} {rest} {b} {next} e is after = record {
  item = Blank b;
  idle = refl;
  found = λ more. rw e (item_goes InLine (Blank b) (b ∷ []) (rest ++ more) (record { stands = refl; spelled = (is, refl) }));
  after = after;
}

pub idle_period : {bytes rest : List ℕ} {b : ℕ} → bytes ≡ b ∷ rest → b ≡ 46 → IsIdle bytes InLine rest
idle_period {bytes} {rest} {b} e is = record { item = Skipped; idle = refl; found = (λ more. rw (e, is) (period (rest ++ more))); after = refl }

pub idle_number : {bytes rest : List ℕ} → IsFollowed bytes Skipped rest → IsIdle bytes InLine rest
idle_number {bytes} {rest} f = record { item = Skipped; idle = refl; found = (λ more. found_decides InLine bytes Skipped rest (sym f.found) f.some more ∙ ap (λ (x : Found). longer x more) (sym f.found)); after = refl }

-- ---- a run of them

idle_on : (items : List (ℕ × Item)) (x : ℕ × Item) → all_idle items ≡ true → is_idle x.1 ≡ true → all_idle (items ++ x ∷ []) ≡ true
idle_on [] x is one = rw one refl
idle_on (y ∷ items) x is one = idle_both (is_idle y.1) (all_idle items) is (λ i. idle_on items x i one)
  where
    idle_both : (a b : Bool) {c : Bool} → a && b ≡ true → (b ≡ true → c ≡ true) → a && c ≡ true
    idle_both true b is f = f is
    idle_both false b is f = absurd cc

pub idle_none : (at : ℕ) (place : Place) (bytes : List ℕ) → is_outside place ≡ true → IsIdleRun at place bytes place bytes
idle_none at place bytes o = record { items = []; spelled = (λ more. refl); idle = refl; stands = refl; outside = o; front = []; parts = refl; shorter = (λ some. absurd (some refl)) }

pub idle_more : (at : ℕ) (place : Place) (bytes : List ℕ) (next : Place) (rest : List ℕ) (after : Place) (others : List ℕ) → IsIdleRun at place bytes next rest → IsIdle rest after others → IsIdleRun at place bytes after others
idle_more at place bytes next rest after others r one =
    let here = at + (length bytes - length rest) in
    let found : item_at InLine rest ≡ Some (one.item, others) = ap (item_at InLine) (sym (append-nil rest)) ∙ one.found [] ∙ ap (λ (x : List ℕ). Some (one.item, x)) (append-nil others) in
    let t = item_taken InLine rest one.item others found in
    let s = item_shorter InLine rest one.item others found in
    let l : length bytes ≡ length r.front + length rest = ap length r.parts ∙ length-append r.front rest in
    record {
      items = r.items ++ (here, one.item) ∷ [];
      spelled = (λ more.
          let a = length-append bytes more in
          let b = length-append rest more in
          spells_more at place (bytes ++ more) r.items (rest ++ more) one.item (others ++ more) here (omega (arith, a, b, l)) (r.spelled more)
          (subst (λ (p : Place). Taken p (rest ++ more) one.item (others ++ more)) r.stands (anywhere next one.item (rest ++ more) (others ++ more) r.outside one.idle (one.found more))));
      idle = idle_on r.items (here, one.item) r.idle one.idle;
      stands = one.after ∙ sym (same_after next one.item r.outside one.idle) ∙ ap (λ (p : Place). place_after p one.item) r.stands ∙ sym (behind-more place r.items (here, one.item));
      outside = rw one.after (still_outside one.item one.idle);
      front = r.front ++ t.0;
      parts = r.parts ∙ ap (λ (x : List ℕ). r.front ++ x) t.1 ∙ sym (append_assoc r.front t.0 others);
      shorter = λ some. omega (arith, s, l);
    }

-- what follows them is a part of the bytes
pub idle_within : (at : ℕ) (place : Place) (bytes : List ℕ) (next : Place) (rest : List ℕ) → IsIdleRun at place bytes next rest → length rest ≤ length bytes
idle_within at place bytes next rest r = (let l = ap length r.parts ∙ length-append r.front rest in omega (arith, l))

pub idle_falls : (bytes : List ℕ) (next : Place) (rest : List ℕ) → IsIdle bytes next rest → length rest < length bytes
idle_falls bytes next rest one =
    item_shorter InLine bytes one.item rest (ap (item_at InLine) (sym (append-nil bytes)) ∙ one.found [] ∙ ap (λ (x : List ℕ). Some (one.item, x)) (append-nil rest))

-- ---- at hand

module _ {X T : Type 0} (comes : X → List ℕ → X → Type 0) (at_hand : X → List ℕ) (all sound : X → Type 0) (reads : X → ℕ) (takes : TakesOne T) where
  white_one : (a : Bool) → a && true ≡ a
  white_one true = refl
  white_one false = refl

  -- nothing is passed over
  pub passes_none : (at most : ℕ) (place : Place) (white : Bool) (now : X) (t : T) → sound now → PassesIdle comes at_hand all sound reads takes at most place white now now t place 0
  passes_none at most place white now t so = record {
    pieces = [];
    came = refl;
    nothing = refl;
    items = [];
    spelled = λ more. refl;
    taken = refl;
    stands = refl;
    whites = white_one white;
    counted = omega arith;
    few = omega arith;
    shorter = λ some. absurd (some refl);
    at_end = λ e. e;
    no_read = refl;
    sound_still = so;
    no_larger = omega arith;
  }

  takes_idle : (t : T) (items : List (ℕ × Item)) → ((at : ℕ) (item : Item) → is_idle item ≡ true → takes t at item (Ok GoesOn) t) → all_idle items ≡ true → Takes takes t items t
  takes_idle t [] passing is = refl
  takes_idle t (x ∷ items) passing is = (let b = idle_parts (is_idle x.1) (all_idle items) is in (t, passing x.0 x.1 b.0, takes_idle t items passing b.1))
    where
      idle_parts : (a b : Bool) → a && b ≡ true → (a ≡ true) × (b ≡ true)
      idle_parts true b e = (refl, e)
      idle_parts false b e = absurd cc

  pub passes_idle : (at most : ℕ) (place : Place) (white : Bool) (now new : X) (t : T) (next : Place) (n left used : ℕ) (bytes rest : List ℕ) → bytes ≡ at_hand now → white ≡ false → ((at : ℕ) (item : Item) → is_idle item ≡ true → takes t at item (Ok GoesOn) t)
      → n ≤ most → IsIdleRun at place (take n bytes) next rest → used ≡ length (take n bytes) - length rest → left ≡ length bytes - used → Keeps comes at_hand all sound reads left now new
      → PassesIdle comes at_hand all sound reads takes at most place white now new t next used
  passes_idle at most place white now new t next n left used bytes rest same dark passing few r eu el k =
      let within = take n bytes in
      let beyond = drop n bytes in
      let hand : at_hand now ≡ within ++ beyond = sym same ∙ sym (take-append-drop n bytes) in
      let whole : at_hand now ≡ r.front ++ (rest ++ beyond) = hand ∙ ap (λ (x : List ℕ). x ++ beyond) r.parts ∙ append_assoc r.front rest beyond in
      let a = ap length hand ∙ length-append within beyond in
      let b = length-append rest beyond in
      let c = ap length r.parts ∙ length-append r.front rest in
      let is : at_hand new ≡ rest ++ beyond = k.kept r.front (rest ++ beyond) whole (let m = ap length same in omega (arith, a, b, c, m, eu, el)) in
      let d = ap length is in
      let m = ap length same in
      let f = length-take n bytes in
      record {
        pieces = [] ∷ [];
        came = (new, k.came, refl);
        nothing = refl;
        items = r.items;
        spelled = (λ more.
            subst (λ (x : List ℕ). SpellsFrom at place x r.items (at_hand new ++ more)) (sym (append_assoc within beyond more) ∙ ap (λ (x : List ℕ). x ++ more) (sym hand))
            (subst (λ (x : List ℕ). SpellsFrom at place (within ++ (beyond ++ more)) r.items x) (sym (append_assoc rest beyond more) ∙ ap (λ (x : List ℕ). x ++ more) (sym is)) (r.spelled (beyond ++ more))));
        taken = takes_idle t r.items passing r.idle;
        stands = r.stands;
        whites = rw dark refl;
        counted = omega (arith, a, b, c, d, eu);
        few = omega (arith, few, eu, f);
        shorter = (λ some. let s = r.shorter some in omega (arith, a, b, c, d, s));
        at_end = k.at_end;
        no_read = k.no_read;
        sound_still = k.sound_still;
        no_larger = (let s = k.smaller in omega (arith, s, a, c, m, eu, el));
      }
