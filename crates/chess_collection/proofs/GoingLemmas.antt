-- Stretches of a collection one after another.
use Rattle.std.proofs.Common.{◌≡◌, ◌⊎◌, inl, inr, ℕ, suc, ◌+◌, ◌*◌, ◌≤◌, ◌<◌, Bool, true, false, if◌then◌else◌, List, [], ◌∷◌, ◌++◌, length, take, drop, refl, sym, ap, subst, ◌∙◌, arith, append_assoc, append-nil, length-append, length-take-le, take-append-drop, Option, Some}
use Rattle.std.specs.Prelude.{IfErr, IfOk, IfSome, Result, Ok, Err}
use Rattle.byte_streams.specs.Calls.{Calls}
use Rattle.chess_loop.specs.RunEnds.{Broken}
use Rattle.chess_loop.specs.steps.Sending.{Sent}
use Rattle.chess_loop.proofs.SendingLemmas.{sent_start, sent_whole}
use Rattle.chess_command_line.specs.declared.collection.Failure.{Failure}
use Rattle.chess_command_line.specs.declared.collection.Failure.TheVariants as by
use Rattle.chess_collection.specs.declared.going.Totals.{Totals}
use Rattle.chess_collection.specs.declared.handler.Fate.{Fate}
use Rattle.chess_collection.specs.declared.handler.Fate.TheVariants.{Read, Saved, Lost, Left}
use Rattle.chess_collection.specs.Handling.{GoesOver, Handles, IsCutShort, IsEarly, IsOpenEnd, IsSentWhole, Reaches, ReachesOn, Stretch, Tiles, TilesLast, bad_in, bad_of, most_handled, passed_in, passed_of, written_of}
use Rattle.chess_collection.specs.steps.Going.{BreaksOff, ComesFew, Fills, FillsAll, Finishes, IsBroken, IsEnough, IsLast, IsSent, has_broken}
use Rattle.chess_collection.specs.Windows.{AreFew, Comes, ComesSome, ReadEnds, HasRun, IsLookedAt, IsWide, KnowsItsEnd, Loses, NoMore, StayFew, Window}
use Rattle.chess_collection.proofs.WindowLemmas.{comes_on, then_comes}

-- ---- stretches

pub length-more : {X : Type 0} (xs : List X) (x : X) → length (xs ++ x ∷ []) ≡ length xs + 1
length-more [] x = refl
length-more (y ∷ xs) x = (let l = length-more xs x in omega (arith, l))

written-more : (ss : List Stretch) (s : Stretch) → written_of (ss ++ s ∷ []) ≡ written_of ss ++ s.text
written-more [] s = append-nil s.text
written-more (first ∷ ss) s = ap (λ (t : List ℕ). first.text ++ t) (written-more ss s) ∙ sym (append_assoc first.text (written_of ss) s.text)

bad-more : (ss : List Stretch) (s : Stretch) → bad_in (ss ++ s ∷ []) ≡ bad_in ss + bad_of s.fate
bad-more [] s = omega arith
bad-more (first ∷ ss) s = (let l = bad-more ss s in omega (arith, l))

passed-more : (ss : List Stretch) (s : Stretch) → passed_in (ss ++ s ∷ []) ≡ passed_in ss + passed_of s.fate (length s.bytes)
passed-more [] s = omega arith
passed-more (first ∷ ss) s = (let l = passed-more ss s in omega (arith, l))

written-both : (ss ts : List Stretch) → written_of (ss ++ ts) ≡ written_of ss ++ written_of ts
written-both [] ts = refl
written-both (s ∷ ss) ts = ap (λ (t : List ℕ). s.text ++ t) (written-both ss ts) ∙ sym (append_assoc s.text (written_of ss) (written_of ts))

tiles-more : (handles : Handles) (white : List ℕ → Type 0) (whole : List ℕ) (number offset : ℕ) (text : List ℕ) (ss : List Stretch) (s : Stretch) (rest window after : List ℕ) (here : ℕ) → offset + length text ≡ here + length rest
    → Tiles handles white whole number offset text ss rest → IsLookedAt white whole window rest (IsEarly window (length s.bytes) s.fate) → handles (number + length ss) here window (length s.bytes) s.fate s.text → rest ≡ s.bytes ++ after
    → Tiles handles white whole number offset text (ss ++ s ∷ []) after
tiles-more handles white whole number offset text [] s rest window after here placed t looked handled parts =
    let same : offset ≡ here = (let l = ap length t in omega (arith, l, placed)) in
    let first : number + length {A = Stretch} [] ≡ number = omega arith in
    (window, after, subst (λ (x : List ℕ). IsLookedAt white whole window x (IsEarly window (length s.bytes) s.fate)) (sym t) looked, subst (λ (n : ℕ). handles n offset window (length s.bytes) s.fate s.text) first (subst (λ (n : ℕ). handles (number + length {A = Stretch} []) n window (length s.bytes) s.fate s.text) (sym same) handled), t ∙ parts, refl)
tiles-more handles white whole number offset text (first ∷ ss) s rest window after here placed (w, a, l, e, p, t) looked handled parts =
    let place : number + length (first ∷ ss) ≡ suc number + length ss = omega arith in (
      w,
      a,
      l,
      e,
      p,
      tiles-more handles white whole (suc number) (offset + length first.bytes) a ss s rest window after here (let n = ap length p in let m = length-append first.bytes a in omega (arith, n, m, placed)) t looked
          (subst (λ (n : ℕ). handles n here window (length s.bytes) s.fate s.text) place handled) parts,
    )

-- stretches are of the first bytes
tiles_front : (handles : Handles) (white : List ℕ → Type 0) (whole : List ℕ) (number offset : ℕ) (left : List ℕ) (ss : List Stretch) (rest : List ℕ) → Tiles handles white whole number offset left ss rest → (front : List ℕ) × (left ≡ front ++ rest)
tiles_front handles white whole number offset left [] rest t = ([], t)
tiles_front handles white whole number offset left (s ∷ ss) rest (w, a, l, e, p, t) =
    let more = tiles_front handles white whole (suc number) (offset + length s.bytes) a ss rest t in
    (s.bytes ++ more.0, p ∙ ap (λ (z : List ℕ). s.bytes ++ z) more.1 ∙ sym (append_assoc s.bytes more.0 rest))

-- of the last bytes that came
last-more : (handles : Handles) (number offset : ℕ) (left : List ℕ) (ss : List Stretch) (s : Stretch) (rest after : List ℕ) (here : ℕ) → offset + length left ≡ here + length rest → TilesLast handles number offset left ss rest
    → handles (number + length ss) here rest (length s.bytes) s.fate s.text → rest ≡ s.bytes ++ after → 0 < length after → TilesLast handles number offset left (ss ++ s ∷ []) after
last-more handles number offset left [] s rest after here placed t handled parts ahead =
    let same : offset ≡ here = (let l = ap length t in omega (arith, l, placed)) in
    let first : number + length {A = Stretch} [] ≡ number = omega arith in (
      subst (λ (x : List ℕ). handles number offset x (length s.bytes) s.fate s.text) (sym t)
          (subst (λ (n : ℕ). handles n offset rest (length s.bytes) s.fate s.text) first (subst (λ (n : ℕ). handles (number + length {A = Stretch} []) n rest (length s.bytes) s.fate s.text) (sym same) handled)),
      after,
      t ∙ parts,
      ahead,
      refl,
    )
last-more handles number offset left (first ∷ ss) s rest after here placed (e, a, p, o, t) handled parts ahead =
    let place : number + length (first ∷ ss) ≡ suc number + length ss = omega arith in (
      e,
      a,
      p,
      o,
      last-more handles (suc number) (offset + length first.bytes) a ss s rest after here (let n = ap length p in let m = length-append first.bytes a in omega (arith, n, m, placed)) t
          (subst (λ (n : ℕ). handles n here rest (length s.bytes) s.fate s.text) place handled) parts ahead,
    )

pub some_holds : {X : Type 0} (P : X → Type 0) (found : Option X) (x : X) → found ≡ Some x → IfSome found P → P x
some_holds P found x is h = subst (λ f. IfSome f P) is h

-- ---- bytes at hand

-- bytes that are looked at are more with those that come
pub wide_on : {R : Type 0} (gives : R → List ℕ → R → Type 0) (failed : R → Bool) (w v : Window R) → Comes gives failed w v → IsWide w → IsWide v
wide_on gives failed w v c (inl wide) = inl (let l = ap length c.whole in let n = length-append w.bytes c.bytes in omega (arith, l, n, wide))
wide_on gives failed w v c (inr over) = inr (c.still over).1

-- fewer reads may come
pub fewer : {R : Type 0} (gives : R → List ℕ → R → Type 0) (failed : R → Bool) (w m v : Window R) → w.has_ended ≡ false → (m.has_ended ≡ true) ⊎ (m.reads < w.reads) → Comes gives failed m v
    → (if v.has_ended then 0 else v.reads + 1) < (if w.has_ended then 0 else w.reads + 1)
fewer gives failed w m v on (inl over) c =
    subst (λ (b : Bool). (if v.has_ended then 0 else v.reads + 1) < (if b then 0 else w.reads + 1)) (sym on)
    (subst (λ (b : Bool). (if b then 0 else v.reads + 1) < w.reads + 1) (sym (c.still over).1) (omega arith))
fewer gives failed w m v on (inr less) c =
    subst (λ (b : Bool). (if v.has_ended then 0 else v.reads + 1) < (if b then 0 else w.reads + 1)) (sym on) (any v.has_ended)
  where
    any : (b : Bool) → (if b then 0 else v.reads + 1) < w.reads + 1
    any true = omega arith
    any false = (let n = c.counted in omega (arith, n, less))

-- the same bytes of a source, but for those that are used
pub sound_on : {R : Type 0} (ended : R → Type 0) (w v : Window R) → v.source ≡ w.source → v.has_ended ≡ w.has_ended → v.seen ≡ w.seen → KnowsItsEnd ended w → KnowsItsEnd ended v
sound_on ended w v same ends sees s = (sees ∙ s.0 ∙ sym ends, λ e. subst ended (sym same) (s.1 (sym ends ∙ e)))

-- ---- few bytes at hand

-- a run of white is still there where bytes come behind it
run_on : (white : List ℕ → Type 0) (text more : List ℕ) (count : ℕ) → HasRun white text count → HasRun white (text ++ more) count
run_on white text more count h = record {
  before = h.before;
  run = h.run;
  after = h.after ++ more;
  parts = ap (λ (z : List ℕ). z ++ more) h.parts ∙ append_assoc h.before (h.run ++ h.after) more ∙ ap (λ (z : List ℕ). h.before ++ z) (append_assoc h.run h.after more);
  is_white = h.is_white;
  long = h.long;
}

run_less : (white : List ℕ → Type 0) (text : List ℕ) (count less : ℕ) → less ≤ count → HasRun white text count → HasRun white text less
run_less white text count less le h = record { before = h.before; run = h.run; after = h.after; parts = h.parts; is_white = h.is_white; long = (let l = h.long in omega (arith, l, le)) }

run_behind : (white : List ℕ → Type 0) (front text : List ℕ) (count : ℕ) → HasRun white text count → HasRun white (front ++ text) count
run_behind white front text count h = record {
  before = front ++ h.before;
  run = h.run;
  after = h.after;
  parts = ap (λ (z : List ℕ). front ++ z) h.parts ∙ sym (append_assoc front h.before (h.run ++ h.after));
  is_white = h.is_white;
  long = h.long;
}

few_on : (white : List ℕ → Type 0) (text more bytes : List ℕ) → AreFew white text bytes → AreFew white (text ++ more) bytes
few_on white text more bytes (inl few) = inl few
few_on white text more bytes (inr run) = inr (run_on white text more (length bytes) run)

few_less : (white : List ℕ → Type 0) (text bytes fewer : List ℕ) → length fewer ≤ length bytes → AreFew white text bytes → AreFew white text fewer
few_less white text bytes fewer le (inl few) = inl (omega (arith, le, few))
few_less white text bytes fewer le (inr run) = inr (run_less white text (length bytes) (length fewer) le run)

-- bytes that come behind a text's last ones
few_came : (white : List ℕ → Type 0) (text more front old new : List ℕ) → text ++ more ≡ front ++ new → AreFew white text old → StayFew white old new → AreFew white (text ++ more) new
few_came white text more front old new parts few (inl no_more) = few_less white (text ++ more) old new no_more (few_on white text more old few)
few_came white text more front old new parts few (inr (inl now)) = inl now
few_came white text more front old new parts few (inr (inr run)) = inr (subst (λ (z : List ℕ). HasRun white z (length new)) (sym parts) (run_behind white front new (length new) run))

-- white bytes are at hand, and at most as many again
pub few_after_white : (white : List ℕ → Type 0) (old seen more new : List ℕ) → white seen → new ≡ seen ++ more → length new ≤ 2 * length seen + 65536 → StayFew white old new
few_after_white white old seen more new is parts few = inr (inr (record { before = []; run = seen; after = more; parts = parts; is_white = is; long = few }))

-- more bytes came, and few are at hand
pub comes_few : {R : Type 0} (gives : R → List ℕ → R → Type 0) (failed : R → Bool) (ended : R → Type 0) (white : List ℕ → Type 0) (a b : Window R) → Comes gives failed a b → KnowsItsEnd ended b → StayFew white a.bytes b.bytes → ComesFew gives failed ended white a b
comes_few gives failed ended white a b comes knows few = record { comes = comes; sound = knows.1; few = few }

-- reading on broke off
pub broken_off : {R : Type 0} (gives : R → List ℕ → R → Type 0) (failed : R → Bool) (ended : R → Type 0) (white : List ℕ → Type 0) (holds : List ℕ → Type 0) (a b c : Window R) (failure : Failure) → Comes gives failed a b
    → ((more : List ℕ) → holds (b.bytes ++ more) → StayFew white a.bytes (b.bytes ++ more)) → NoMore gives failed holds b c failure → BreaksOff gives failed ended white a c failure
broken_off {R} gives failed ended white holds a b c failure f few n = any failure n
  where
    some_few : (last : Window R) → ComesSome gives failed holds b last → ComesFew gives failed ended white a last
    some_few last some = record {
      comes = comes_on gives failed a b last f some.comes;
      sound = λ e. (let n = ap {B = ℕ} (λ (b : Bool). if b then 1 else 0) (sym some.goes_on ∙ e) in absurd (let none : ⊥ = omega (arith, n) in none));
      few = subst (λ (z : List ℕ). StayFew white a.bytes z) (sym some.comes.whole) (few some.comes.bytes (subst holds some.comes.whole some.so));
    }

    any : (failure : Failure) → NoMore gives failed holds b c failure → BreaksOff gives failed ended white a c failure
    any by.Read (last, some, kept, fails) = (last, some_few last some, some.goes_on, kept, fails)
    any by.Write n = absurd n
    any by.Memory (last, some, loses) = (last, some_few last some, loses)

-- what follows of an answer without an error
pub on_both : {A E : Type 0} {P Q S : Type 0} (told : Result A E) → (P → Q → S) → IfOk told (λ _. P) → IfOk told (λ _. Q) → IfOk told (λ _. S)
on_both (Ok x) follows p q = follows p q
on_both (Err e) follows p q = p

-- of an error
pub on_err : {A E : Type 0} {P Q : E → Type 0} (told : Result A E) → ((e : E) → P e → Q e) → IfErr told P → IfErr told Q
on_err (Ok x) follows p = p
on_err (Err e) follows p = follows e p

-- few bytes are at hand, and then no more than are few
pub both_few : (white : List ℕ → Type 0) (a b c : List ℕ) → StayFew white a b → (more : List ℕ) → c ≡ b ++ more → StayFew white b c → StayFew white a c
both_few white a b c (inl less) more is (inl same) = inl (omega (arith, less, same))
both_few white a b c (inr few) more is (inl same) = inr (subst (λ (z : List ℕ). AreFew white z c) (sym is) (few_on white b more c (few_less white b c c (omega arith) (few_less white b b c same few))))
both_few white a b c one more is (inr few) = inr few

-- bytes came, and then no more
pub both_off : {R : Type 0} (gives : R → List ℕ → R → Type 0) (failed : R → Bool) (ended : R → Type 0) (white : List ℕ → Type 0) (a b c : Window R) (failure : Failure) → Comes gives failed a b → StayFew white a.bytes b.bytes → BreaksOff gives failed ended white b c failure
    → BreaksOff gives failed ended white a c failure
both_off {R} gives failed ended white a b c failure f few n = any failure n
  where
    on : (last : Window R) → ComesFew gives failed ended white b last → ComesFew gives failed ended white a last
    on last some = record { comes = comes_on gives failed a b last f some.comes; sound = some.sound; few = both_few white a.bytes b.bytes last.bytes few some.comes.bytes some.comes.whole some.few }

    any : (failure : Failure) → BreaksOff gives failed ended white b c failure → BreaksOff gives failed ended white a c failure
    any by.Read (last, some, goes_on, kept, fails) = (last, on last some, goes_on, kept, fails)
    any by.Write n = absurd n
    any by.Memory (last, some, loses) = (last, on last some, loses)

-- the handler's memory ran out
pub starved : {R : Type 0} (gives : R → List ℕ → R → Type 0) (failed : R → Bool) (ended : R → Type 0) (white : List ℕ → Type 0) (a b : Window R) (failure : Failure) → Comes gives failed a b → KnowsItsEnd ended b → StayFew white a.bytes b.bytes → failure ≡ by.Memory
    → BreaksOff gives failed ended white a b failure
starved gives failed ended white a b failure comes knows few is =
    subst (λ f. BreaksOff gives failed ended white a b f) (sym is) (b, record { comes = comes; sound = knows.1; few = few }, ([], record { pieces = []; calls = refl; whole = refl }, omega arith, refl))

-- ---- the run

-- what is read so far, and put on the page or written
pub record SoFar {R W : Type 0} (gives : R → List ℕ → R → Type 0) (failed : R → Bool) (handles : Handles) (white : List ℕ → Type 0) (takes : W → List ℕ → W → Type 0) (write_failed : W → Bool) (ended : R → Type 0) (old : Window R) (page0 : List ℕ) (w0 : W) (now : Window R) (page : List ℕ) (w : W) (before bytes passed bad : ℕ) : Type 0 where
  pub ss : List Stretch
  pub text : List ℕ
  pub front : List ℕ
  pub parts : text ≡ front ++ now.bytes
  pub reaches : Reaches gives failed handles white ended old.reads old.source ss text now
  pub sent : IsSent handles takes write_failed page0 w0 ss page w
  pub counted : before ≡ length ss
  pub placed : bytes + length now.bytes ≡ length text
  pub passed_so : passed ≡ passed_in ss
  pub bad_so : bad ≡ bad_in ss
  pub within : passed ≤ bytes
  pub few : bad ≤ before
  pub sized : length text + 65536 * now.reads ≤ 72057594037927936

module _ {R W : Type 0} (gives : R → List ℕ → R → Type 0) (failed : R → Bool) (handles : Handles) (white : List ℕ → Type 0) (takes : W → List ℕ → W → Type 0) (write_failed : W → Bool) (ended : R → Type 0) (old : Window R) (page0 : List ℕ) (w0 : W) where
  abbrev State : Window R → List ℕ → W → ℕ → ℕ → ℕ → ℕ → Type 0
  State now page w before bytes passed bad = SoFar gives failed handles white takes write_failed ended old page0 w0 now page w before bytes passed bad

  pub nothing_yet : old.bytes ≡ [] → old.reads ≤ 1099511627776 → KnowsItsEnd ended old → (bytes passed bad : ℕ) → bytes ≡ 0 → passed ≡ 0 → bad ≡ 0 → State old page0 w0 0 bytes passed bad
  nothing_yet none few knows bytes passed bad b p d = record {
    ss = [];
    text = [];
    front = [];
    parts = sym none;
    reaches = record {
      came = record { pieces = []; calls = refl; whole = refl };
      well_read = refl;
      counted = omega arith;
      sound = knows.1;
      few = inl (let n = ap length none in omega (arith, n));
      tiles = λ more _. ap (λ (z : List ℕ). z ++ more) (sym none);
    };
    sent = λ start head sent. subst (λ (t : List ℕ). Sent takes write_failed start t page0 w0) (sym (append-nil head)) sent;
    counted = refl;
    placed = (let n = ap length none in omega (arith, n, b));
    passed_so = p;
    bad_so = d;
    within = omega (arith, p);
    few = omega (arith, d);
    sized = omega (arith, few);
  }

  -- more is written of the page
  pub more_written : (now : Window R) (page page1 : List ℕ) (w w1 : W) (before bytes passed bad : ℕ) → State now page w before bytes passed bad
      → ((start : W) (text : List ℕ) → Sent takes write_failed start text page w → Sent takes write_failed start text page1 w1) → State now page1 w1 before bytes passed bad
  more_written now page page1 w w1 before bytes passed bad f flows = record {
    ss = f.ss;
    text = f.text;
    front = f.front;
    parts = f.parts;
    reaches = f.reaches;
    sent = λ start head sent. flows start (head ++ written_of f.ss) (f.sent start head sent);
    counted = f.counted;
    placed = f.placed;
    passed_so = f.passed_so;
    bad_so = f.bad_so;
    within = f.within;
    few = f.few;
    sized = f.sized;
  }

  -- more bytes came
  pub more_at_hand : (u v : Window R) (page : List ℕ) (w : W) (before bytes passed bad : ℕ) → State u page w before bytes passed bad → ComesFew gives failed ended white u v → State v page w before bytes passed bad
  unfolding then_comes
  more_at_hand u v page w before bytes passed bad f comes =
      let c = comes.comes in
      let parts : f.text ++ c.bytes ≡ f.front ++ v.bytes = ap (λ (z : List ℕ). z ++ c.bytes) f.parts ∙ append_assoc f.front u.bytes c.bytes ∙ ap (λ (z : List ℕ). f.front ++ z) (sym c.whole) in
      record {
        ss = f.ss;
        text = f.text ++ c.bytes;
        front = f.front;
        parts = parts;
        reaches = record {
          came = then_comes gives failed old.source u.source v.source f.text c.bytes f.reaches.came c.came;
          well_read = c.well ∙ f.reaches.well_read;
          counted = (let n = length-append f.reaches.came.pieces c.came.pieces in let x = f.reaches.counted in let y = c.counted in omega (arith, n, x, y));
          sound = comes.sound;
          few = few_came white f.text c.bytes f.front u.bytes v.bytes parts f.reaches.few comes.few;
          tiles = λ more ends.
              subst (λ (z : List ℕ). Tiles handles white z 1 0 z f.ss (v.bytes ++ more)) (sym (append_assoc f.text c.bytes more))
              (subst (λ (z : List ℕ). Tiles handles white (f.text ++ (c.bytes ++ more)) 1 0 (f.text ++ (c.bytes ++ more)) f.ss z) (sym (append_assoc u.bytes c.bytes more) ∙ ap (λ (z : List ℕ). z ++ more) (sym c.whole))
              (f.reaches.tiles (c.bytes ++ more) (λ e. (let s = c.still e in ap (λ (z : List ℕ). z ++ more) s.0 ∙ ends s.1))));
        };
        sent = f.sent;
        counted = f.counted;
        placed = (let p = f.placed in let l = ap length c.whole in let n = length-append u.bytes c.bytes in let m = length-append f.text c.bytes in omega (arith, p, l, n, m));
        passed_so = f.passed_so;
        bad_so = f.bad_so;
        within = f.within;
        few = f.few;
        sized = (let a = f.sized in let b = c.sized in let d = c.counted in let m = length-append f.text c.bytes in omega (arith, a, b, d, m));
      }

  loses_none : (r : R) → Loses gives failed r r
  loses_none r = ([], record { pieces = []; calls = refl; whole = refl }, omega arith, refl)

  -- nothing more is handled
  no_later : (ss : List Stretch) (text : List ℕ) (last : Window R) (new : R) (bytes : ℕ) → bytes + length last.bytes ≡ length text → Reaches gives failed handles white ended old.reads old.source ss text last → Loses gives failed last.source new
      → ReachesOn gives failed handles white ended old.reads old.source ss last.bytes new
  no_later ss text last new bytes placed reaches loses = record {
    first = ss;
    text = text;
    last = last;
    reaches = reaches;
    late = [];
    all = sym (append-nil ss);
    offset = bytes;
    placed = placed;
    tiles = refl;
    stops = inl (refl, loses);
  }

  looked_at : (whole : List ℕ) (u : Window R) (more : List ℕ) (enough : Type 0) → IsWide u ⊎ enough → (u.has_ended ≡ true → more ≡ []) → AreFew white whole u.bytes → IsLookedAt white whole u.bytes (u.bytes ++ more) enough
  looked_at whole u more enough (inl (inl wide)) ends few = record { more = more; parts = refl; wide = inl wide; few = few }
  looked_at whole u more enough (inl (inr over)) ends few = record { more = more; parts = refl; wide = inr (inl (ends over)); few = few }
  looked_at whole u more enough (inr early) ends few = record { more = more; parts = refl; wide = inr (inr early); few = few }

  -- a stretch more is reached
  module _ (u v : Window R) (page : List ℕ) (w : W) (before bytes passed bad used : ℕ) (fate : Fate) (text : List ℕ) (f : State u page w before bytes passed bad) (wide : IsEnough u used fate) (fits : used ≤ length u.bytes)
      (handled : handles (before + 1) bytes u.bytes used fate text) (left : v.bytes ≡ drop used u.bytes) (same : v.source ≡ u.source) (ends_as : v.has_ended ≡ u.has_ended) (reads : v.reads ≡ u.reads) where
    one : Stretch
    one = record { bytes = take used u.bytes; fate = fate; text = text }

    here : handles (1 + length f.ss) bytes u.bytes (length (take used u.bytes)) fate text
    here =
        subst (λ (n : ℕ). handles (1 + length f.ss) bytes u.bytes n fate text) (sym (length-take-le used u.bytes fits))
        (subst (λ (n : ℕ). handles n bytes u.bytes used fate text) (let x = f.counted in let e : before + 1 ≡ 1 + length f.ss = omega (arith, x) in e) handled)

    enough : IsWide u ⊎ IsEarly u.bytes (length (take used u.bytes)) fate
    enough = subst (λ (n : ℕ). IsWide u ⊎ IsEarly u.bytes n fate) (sym (length-take-le used u.bytes fits)) wide

    rest_is : u.bytes ≡ take used u.bytes ++ v.bytes
    rest_is = sym (take-append-drop used u.bytes) ∙ ap (λ (z : List ℕ). take used u.bytes ++ z) (sym left)

    less : length v.bytes ≤ length u.bytes
    less = (let n = ap length rest_is in let m = length-append (take used u.bytes) v.bytes in omega (arith, n, m))

    reached : Reaches gives failed handles white ended old.reads old.source (f.ss ++ one ∷ []) f.text v
    unfolding one
    reached = record {
      came = record { pieces = f.reaches.came.pieces; calls = subst (λ (x : R). Calls gives old.source f.reaches.came.pieces x) (sym same) f.reaches.came.calls; whole = f.reaches.came.whole };
      well_read = ap failed same ∙ f.reaches.well_read;
      counted = (let x = f.reaches.counted in omega (arith, x, reads));
      sound = λ e. subst ended (sym same) (f.reaches.sound (sym ends_as ∙ e));
      few = few_less white f.text u.bytes v.bytes less f.reaches.few;
      tiles = λ rest ends.
          let over = λ (e : u.has_ended ≡ true). ends (ends_as ∙ e) in
          tiles-more handles white (f.text ++ rest) 1 0 (f.text ++ rest) f.ss one (u.bytes ++ rest) u.bytes (v.bytes ++ rest) bytes (let x = f.placed in let n = length-append f.text rest in let m = length-append u.bytes rest in omega (arith, x, n, m)) (f.reaches.tiles rest over)
          (looked_at (f.text ++ rest) u rest (IsEarly u.bytes (length (take used u.bytes)) fate) enough over (few_on white f.text rest u.bytes f.reaches.few)) here
          (ap (λ (z : List ℕ). z ++ rest) rest_is ∙ append_assoc (take used u.bytes) v.bytes rest);
    }

    at_most : (f : Fate) → passed_of f used ≤ used
    at_most Read = omega arith
    at_most Saved = omega arith
    at_most Lost = omega arith
    at_most Left = omega arith

    at_most_one : (f : Fate) → bad_of f ≤ 1
    at_most_one Read = omega arith
    at_most_one Saved = omega arith
    at_most_one Lost = omega arith
    at_most_one Left = omega arith

    pub one_stretch : (page1 : List ℕ) (w1 : W) (bytes1 passed1 bad1 : ℕ) → ((start : W) (t : List ℕ) → Sent takes write_failed start t page w → Sent takes write_failed start (t ++ text) page1 w1)
        → bytes1 ≡ bytes + used → passed1 ≡ passed + passed_of fate used → bad1 ≡ bad + bad_of fate → State v page1 w1 (before + 1) bytes1 passed1 bad1
    unfolding one
    one_stretch page1 w1 bytes1 passed1 bad1 sends b p d = record {
      ss = f.ss ++ one ∷ [];
      text = f.text;
      front = f.front ++ take used u.bytes;
      parts = f.parts ∙ ap (λ (z : List ℕ). f.front ++ z) rest_is ∙ sym (append_assoc f.front (take used u.bytes) v.bytes);
      reaches = reached;
      sent = λ start head sent.
          subst (λ (t : List ℕ). Sent takes write_failed start t page1 w1) (append_assoc head (written_of f.ss) text ∙ ap (λ (t : List ℕ). head ++ t) (sym (written-more f.ss one)))
          (sends start (head ++ written_of f.ss) (f.sent start head sent));
      counted = (let x = f.counted in let l = length-more f.ss one in omega (arith, x, l));
      placed = (let x = f.placed in let y = ap length left in let z = ap length (take-append-drop used u.bytes) in let l = length-append (take used u.bytes) (drop used u.bytes) in let k = length-take-le used u.bytes fits in omega (arith, x, y, z, l, k, b));
      passed_so = p ∙ ap (λ (n : ℕ). n + passed_of fate used) f.passed_so ∙ ap (λ (n : ℕ). passed_in f.ss + passed_of fate n) (sym (length-take-le used u.bytes fits)) ∙ sym (passed-more f.ss one);
      bad_so = d ∙ ap (λ (n : ℕ). n + bad_of fate) f.bad_so ∙ sym (bad-more f.ss one);
      within = (let x = f.within in let y = at_most fate in omega (arith, x, y, b, p));
      few = (let x = f.few in let y = at_most_one fate in omega (arith, x, y, d));
      sized = (let x = f.sized in omega (arith, x, reads));
    }

    -- writing what is written of it broke off
    pub part_of_one : (w1 : W) → ((start : W) (t : List ℕ) → Sent takes write_failed start t page w → Broken takes write_failed start (t ++ text) w1)
        → (ss : List Stretch) × (rest : List ℕ) × ReachesOn gives failed handles white ended old.reads old.source ss rest v.source × IsBroken handles takes write_failed page0 w0 ss w1
    unfolding one
    part_of_one w1 breaks = (
      f.ss ++ one ∷ [],
      v.bytes,
      no_later (f.ss ++ one ∷ []) f.text v v.source (bytes + used)
          (let x = f.placed in let y = ap length left in let z = ap length (take-append-drop used u.bytes) in let l = length-append (take used u.bytes) (drop used u.bytes) in let k = length-take-le used u.bytes fits in omega (arith, x, y, z, l, k)) reached
          (loses_none v.source),
      λ start head sent.
          subst (λ (t : List ℕ). Broken takes write_failed start t w1) (append_assoc head (written_of f.ss) text ∙ ap (λ (t : List ℕ). head ++ t) (sym (written-more f.ss one)))
          (breaks start (head ++ written_of f.ss) (f.sent start head sent)),
    )

  -- writing what is on the page broke off
  pub part_of : (u : Window R) (page : List ℕ) (w w1 : W) (before bytes passed bad : ℕ) → State u page w before bytes passed bad → ((start : W) (t : List ℕ) → Sent takes write_failed start t page w → Broken takes write_failed start t w1)
      → (ss : List Stretch) × (rest : List ℕ) × ReachesOn gives failed handles white ended old.reads old.source ss rest u.source × IsBroken handles takes write_failed page0 w0 ss w1
  unfolding no_later loses_none
  part_of u page w w1 before bytes passed bad f breaks =
      (f.ss, u.bytes, no_later f.ss f.text u u.source bytes f.placed f.reaches (loses_none u.source), λ start head sent. breaks start (head ++ written_of f.ss) (f.sent start head sent))

  abbrev Ends : Window R → List ℕ → W → Result Totals Failure → Type 0
  Ends new page w result = Fills handles takes write_failed gives failed ended white old page0 w0 new page w result

  -- there was no memory
  pub ends_short : (u new : Window R) (page : List ℕ) (w : W) (before bytes passed bad : ℕ) → State u page w before bytes passed bad → BreaksOff gives failed ended white u new by.Memory → Ends new page w (Err by.Memory)
  unfolding no_later
  ends_short u new page w before bytes passed bad f (last, comes, loses) =
      let g = more_at_hand u last page w before bytes passed bad f comes in
      (g.ss, last.bytes, no_later g.ss g.text last new.source bytes g.placed g.reaches loses, g.sent)

  -- after a failed read: stretches of the bytes at hand
  module _ (u mid new : Window R) (page page1 : List ℕ) (w w1 : W) (before bytes passed bad : ℕ) (f : State u page w before bytes passed bad) (breaks : BreaksOff gives failed ended white u mid by.Read) (same : new.source ≡ mid.source) where
    came : State breaks.0 page w before bytes passed bad
    came = more_at_hand u breaks.0 page w before bytes passed bad f breaks.1

    -- what is at hand isn't too long to be counted
    pub fits_at_hand : bytes + length mid.bytes < 18446744073709551616
    unfolding came
    fits_at_hand = (let x = came.placed in let y = came.sized in let z = ap length breaks.3 in omega (arith, x, y, z))

    on : (late : List Stretch) (rest : List ℕ) → TilesLast handles (suc before) bytes mid.bytes late rest → ReachesOn gives failed handles white ended old.reads old.source (came.ss ++ late) rest new.source
    on late rest tiles = record {
      first = came.ss;
      text = came.text;
      last = breaks.0;
      reaches = came.reaches;
      late = late;
      all = refl;
      offset = bytes;
      placed = came.placed;
      tiles = subst (λ (n : ℕ). TilesLast handles (suc n) bytes breaks.0.bytes late rest) came.counted (subst (λ (z : List ℕ). TilesLast handles (suc before) bytes z late rest) breaks.3 tiles);
      stops = inr (subst (λ (x : R). ReadEnds gives failed breaks.0 x) (sym same) breaks.4);
    }

    sent_on : (late : List Stretch) → IsSent handles takes write_failed page w late page1 w1 → IsSent handles takes write_failed page0 w0 (came.ss ++ late) page1 w1
    sent_on late sends = λ start head sent.
        subst (λ (t : List ℕ). Sent takes write_failed start t page1 w1) (append_assoc head (written_of came.ss) (written_of late) ∙ ap (λ (t : List ℕ). head ++ t) (sym (written-both came.ss late)))
        (sends start (head ++ written_of came.ss) (came.sent start head sent))

    broken_on : (late : List Stretch) → IsBroken handles takes write_failed page w late w1 → IsBroken handles takes write_failed page0 w0 (came.ss ++ late) w1
    broken_on late breaks = λ start head sent.
        subst (λ (t : List ℕ). Broken takes write_failed start t w1) (append_assoc head (written_of came.ss) (written_of late) ∙ ap (λ (t : List ℕ). head ++ t) (sym (written-both came.ss late)))
        (breaks start (head ++ written_of came.ss) (came.sent start head sent))

    left_on : (late : List Stretch) (rest : List ℕ) → IsLast handles takes write_failed white before bytes mid.bytes late rest
        → IsCutShort gives failed handles white ended old.reads (came.ss ++ late) rest came.text breaks.0 new.source
    left_on late rest l = record {
      fails = subst (λ (x : R). ReadEnds gives failed breaks.0 x) (sym same) breaks.4;
      offset = l.place;
      placed = (let x = l.placed in let y = came.placed in let z = ap length breaks.3 in omega (arith, x, y, z));
      left = subst (λ (n : ℕ). IsOpenEnd handles white n l.place rest) (let x = came.counted in let n = length-append came.ss late in let e : suc (before + length late) ≡ suc (length (came.ss ++ late)) = omega (arith, x, n) in e) l.left_so;
    }

    pub finished : (failure : Failure) → Finishes handles takes write_failed white before bytes mid.bytes page w page1 w1 failure → Ends new page1 w1 (Err failure)
    unfolding on
    finished by.Read (late, rest, tiles, sent, inl left) = (came.ss ++ late, rest, on late rest tiles, sent_on late sent, inl (left_on late rest left))
    finished by.Read (late, rest, tiles, sent, inr many) = (came.ss ++ late, rest, on late rest tiles, sent_on late sent, inr (let x = came.counted in let n = length-append came.ss late in omega (arith, x, n, many)))
    finished by.Write (late, rest, tiles, broken) = (came.ss ++ late, rest, on late rest tiles, broken_on late broken)
    finished by.Memory (late, rest, tiles, sent) = (came.ss ++ late, rest, on late rest tiles, sent_on late sent)

  -- there were as many as may be
  pub ends_many : (u : Window R) (page : List ℕ) (w : W) (before bytes passed bad : ℕ) → before ≡ most_handled → State u page w before bytes passed bad → Ends u page w (Err by.Read)
  unfolding no_later loses_none
  ends_many u page w before bytes passed bad many f = (f.ss, u.bytes, no_later f.ss f.text u u.source bytes f.placed f.reaches (loses_none u.source), f.sent, inr (sym f.counted ∙ many))

  -- nothing but white space is left
  pub ends_all : (u : Window R) (page : List ℕ) (w : W) (before bytes passed bad : ℕ) (totals : Totals) → State u page w before bytes passed bad → u.has_ended ≡ true → ended u.source → white u.bytes
      → totals.games ≡ before → totals.bytes ≡ bytes + length u.bytes → totals.passed ≡ passed → totals.bad ≡ bad → Ends u page w (Ok totals)
  ends_all u page w before bytes passed bad totals f over is_over rest g b p d = record {
    ss = f.ss;
    text = f.text;
    reaches = f.reaches;
    ends = (over, is_over);
    rest = rest;
    totals_are = record { games = g ∙ f.counted; bytes = b ∙ f.placed; passed = p ∙ f.passed_so; bad = d ∙ f.bad_so };
    sent = f.sent;
  }

-- ---- after a failed read

-- the stretches so far of the bytes at hand
pub record LateSoFar {W : Type 0} (handles : Handles) (takes : W → List ℕ → W → Type 0) (write_failed : W → Bool) (before offset : ℕ) (left page0 : List ℕ) (w0 : W) (done at : ℕ) (now page : List ℕ) (w : W) : Type 0 where
  pub late : List Stretch
  pub tiles : TilesLast handles (suc before) offset left late now
  pub sent : IsSent handles takes write_failed page0 w0 late page w
  pub counted : done ≡ before + length late
  pub placed : at + length now ≡ offset + length left

module _ {W : Type 0} (handles : Handles) (takes : W → List ℕ → W → Type 0) (write_failed : W → Bool) (white : List ℕ → Type 0) (before offset : ℕ) (left page0 : List ℕ) (w0 : W) where
  abbrev Late : ℕ → ℕ → List ℕ → List ℕ → W → Type 0
  Late done at now page w = LateSoFar handles takes write_failed before offset left page0 w0 done at now page w

  abbrev Finish : List ℕ → W → Failure → Type 0
  Finish page w failure = Finishes handles takes write_failed white before offset left page0 w0 page w failure

  pub none_late : Late before offset left page0 w0
  none_late = record {
    late = [];
    tiles = refl;
    sent = λ start head sent. subst (λ (t : List ℕ). Sent takes write_failed start t page0 w0) (sym (append-nil head)) sent;
    counted = omega arith;
    placed = refl;
  }

  module _ (done at : ℕ) (now page : List ℕ) (w : W) (f : Late done at now page w) where
    -- nothing is left but white
    pub late_white : white now → Finish page w by.Read
    late_white is = (f.late, now, f.tiles, f.sent, inl (record { place = at; placed = f.placed; left_so = inl is }))

    pub late_short : Finish page w by.Memory
    late_short = (f.late, now, f.tiles, f.sent)

    pub late_many : done ≡ most_handled → Finish page w by.Read
    late_many many = (f.late, now, f.tiles, f.sent, inr (sym f.counted ∙ many))

    module _ (used : ℕ) (fate : Fate) (text : List ℕ) (fits : used ≤ length now) (handled : handles (done + 1) at now used fate text) where
      here_at : (n : ℕ) → n ≡ suc (before + length f.late) → handles n at now used fate text
      here_at n is = subst (λ (n : ℕ). handles n at now used fate text) (let x = f.counted in let e : done + 1 ≡ n = omega (arith, x, is) in e) handled

      -- a stretch reaches the last byte
      pub late_whole : length now ≤ used → Finish page w by.Read
      late_whole all = (
        f.late,
        now,
        f.tiles,
        f.sent,
        inl (record { place = at; placed = f.placed; left_so = inr (fate, text, subst (λ (n : ℕ). handles (suc (before + length f.late)) at now n fate text) (let e : used ≡ length now = omega (arith, all, fits) in e) (here_at (suc (before + length f.late)) refl)) }),
      )

      late_one : Stretch
      late_one = record { bytes = take used now; fate = fate; text = text }

      late_tiles : (v : List ℕ) → used < length now → v ≡ drop used now → TilesLast handles (suc before) offset left (f.late ++ late_one ∷ []) v
      unfolding late_one
      late_tiles v less is =
          last-more handles (suc before) offset left f.late late_one now v at (sym f.placed) f.tiles (subst (λ (n : ℕ). handles (suc before + length f.late) at now n fate text) (sym (length-take-le used now fits)) (here_at (suc before + length f.late) (omega arith)))
          (sym (take-append-drop used now) ∙ ap (λ (z : List ℕ). take used now ++ z) (sym is)) (let y = ap length is in let z = ap length (take-append-drop used now) in let l = length-append (take used now) (drop used now) in let k = length-take-le used now fits in omega (arith, y, z, l, k, less))

      -- writing what is written of it broke off
      pub late_broken : used < length now → (w1 : W) → ((start : W) (t : List ℕ) → Sent takes write_failed start t page w → Broken takes write_failed start (t ++ text) w1) → (page1 : List ℕ) → Finish page1 w1 by.Write
      unfolding late_one
      late_broken less w1 breaks page1 = (
        f.late ++ late_one ∷ [],
        drop used now,
        late_tiles (drop used now) less refl,
        λ start head sent.
            subst (λ (t : List ℕ). Broken takes write_failed start t w1) (append_assoc head (written_of f.late) text ∙ ap (λ (t : List ℕ). head ++ t) (sym (written-more f.late late_one)))
            (breaks start (head ++ written_of f.late) (f.sent start head sent)),
      )

      -- a stretch more
      pub late_more : used < length now → (v page1 : List ℕ) (w1 : W) (at1 : ℕ) → v ≡ drop used now → at1 ≡ at + used → ((start : W) (t : List ℕ) → Sent takes write_failed start t page w → Sent takes write_failed start (t ++ text) page1 w1)
          → Late (done + 1) at1 v page1 w1
      unfolding late_one
      late_more less v page1 w1 at1 is place sends = record {
        late = f.late ++ late_one ∷ [];
        tiles = late_tiles v less is;
        sent = λ start head sent.
            subst (λ (t : List ℕ). Sent takes write_failed start t page1 w1) (append_assoc head (written_of f.late) text ∙ ap (λ (t : List ℕ). head ++ t) (sym (written-more f.late late_one)))
            (sends start (head ++ written_of f.late) (f.sent start head sent));
        counted = (let x = f.counted in let l = length-more f.late late_one in omega (arith, x, l));
        placed = (let x = f.placed in let y = ap length is in let z = ap length (take-append-drop used now) in let l = length-append (take used now) (drop used now) in let k = length-take-le used now fits in omega (arith, x, y, z, l, k, place));
      }

-- ---- from beginning to end

module _ {R W : Type 0} (gives : R → List ℕ → R → Type 0) (failed : R → Bool) (handles : Handles) (white : List ℕ → Type 0) (ended : R → Type 0) (takes : W → List ℕ → W → Type 0) (write_failed : W → Bool) (head : List ℕ) (old new : Window R) (w : W) where
  abbrev Over : W → Result Totals Failure → Type 0
  Over w1 result = GoesOver gives failed handles white ended old.reads takes write_failed head old.source new w w1 result

  abbrev Filled : List ℕ → W → List ℕ → W → Result Totals Failure → Type 0
  Filled page w1 page1 w2 result = Fills handles takes write_failed gives failed ended white old page w1 new page1 w2 result

  -- the text before all broke off
  pub head_breaks : old.bytes ≡ [] → KnowsItsEnd ended old → new.source ≡ old.source → (w1 : W) → Broken takes write_failed w head w1 → Over w1 (Err by.Write)
  head_breaks none knows same w1 broken = (
    [],
    old.bytes,
    record {
      first = [];
      text = [];
      last = old;
      reaches = record {
        came = record { pieces = []; calls = refl; whole = refl };
        well_read = refl;
        counted = omega arith;
        sound = knows.1;
        few = inl (let n = ap length none in omega (arith, n));
        tiles = λ more _. ap (λ (z : List ℕ). z ++ more) (sym none);
      };
      late = [];
      all = refl;
      offset = 0;
      placed = (let n = ap length none in omega (arith, n));
      tiles = refl;
      stops = inl (refl, subst (λ (x : R). Loses gives failed old.source x) (sym same) ([], record { pieces = []; calls = refl; whole = refl }, omega arith, refl));
    },
    subst (λ (t : List ℕ). Broken takes write_failed w t w1) (sym (append-nil head)) broken,
  )

  -- what is written of the stretches did
  pub part_breaks : (page page1 : List ℕ) (w1 w2 : W) (result : Result Totals Failure) → has_broken result ≡ true → Sent takes write_failed w head page w1 → Filled page w1 page1 w2 result → Over w2 result
  part_breaks page page1 w1 w2 (Err by.Write) is sent (ss, rest, reaches, broken) = (ss, rest, reaches, broken w head sent)
  part_breaks page page1 w1 w2 _ is sent f = absurd cc

  module _ (page page1 : List ℕ) (w1 w2 w3 : W) (sent : Sent takes write_failed w head page w1) where
    written : (ss : List Stretch) → Sent takes write_failed w (head ++ written_of ss) [] w3 → IsSentWhole takes write_failed w (head ++ written_of ss) w3
    written ss out = (sent_whole takes write_failed w w3 (head ++ written_of ss) out, out.well)

    -- all that is gathered is written
    pub all_flushed : (result : Result Totals Failure) → has_broken result ≡ false → ((start : W) (text : List ℕ) → Sent takes write_failed start text page1 w2 → Sent takes write_failed start text [] w3) → Filled page w1 page1 w2 result → Over w3 result
    all_flushed (Ok totals) not out f = record { ss = f.ss; text = f.text; reaches = f.reaches; writes = written f.ss (out w (head ++ written_of f.ss) (f.sent w head sent)); ends = f.ends; rest = f.rest; totals_are = f.totals_are }
    all_flushed (Err by.Read) not out (ss, rest, reaches, sends, short) = (ss, rest, reaches, written ss (out w (head ++ written_of ss) (sends w head sent)), short)
    all_flushed (Err by.Write) not out f = absurd cc
    all_flushed (Err by.Memory) not out (ss, rest, reaches, sends) = inl (ss, rest, reaches, written ss (out w (head ++ written_of ss) (sends w head sent)))

    fronts : {totals : Totals} → (f : FillsAll handles takes write_failed gives failed ended white old new page w1 page1 w2 totals) → (front : List ℕ) × (f.text ++ [] ≡ front ++ (new.bytes ++ []))
    fronts f = tiles_front handles white (f.text ++ []) 1 0 (f.text ++ []) f.ss (new.bytes ++ []) (f.reaches.tiles [] (λ _. refl))

    -- it isn't
    pub flush_breaks : (result : Result Totals Failure) → has_broken result ≡ false → ((start : W) (text : List ℕ) → Sent takes write_failed start text page1 w2 → Broken takes write_failed start text w3) → Filled page w1 page1 w2 result → Over w3 (Err by.Write)
    flush_breaks (Ok totals) not out f = (
      f.ss,
      new.bytes,
      record {
        first = f.ss;
        text = f.text;
        last = new;
        reaches = f.reaches;
        late = [];
        all = sym (append-nil f.ss);
        offset = length (fronts f).0;
        placed = (let n = ap length (fronts f).1 in let a = length-append f.text [] in let b = length-append (fronts f).0 (new.bytes ++ []) in let c = length-append new.bytes [] in omega (arith, n, a, b, c));
        tiles = refl;
        stops = inl (refl, ([], record { pieces = []; calls = refl; whole = refl }, omega arith, refl));
      },
      out w (head ++ written_of f.ss) (f.sent w head sent),
    )
    flush_breaks (Err by.Read) not out (ss, rest, reaches, sends, short) = (ss, rest, reaches, out w (head ++ written_of ss) (sends w head sent))
    flush_breaks (Err by.Write) not out f = absurd cc
    flush_breaks (Err by.Memory) not out (ss, rest, reaches, sends) = (ss, rest, reaches, out w (head ++ written_of ss) (sends w head sent))

-- a text that is put on an empty page is sent
pub first_sent : {W : Type 0} (takes : W → List ℕ → W → Type 0) (failed : W → Bool) (w w1 : W) (page page1 head : List ℕ) → page ≡ [] → ((start : W) (text : List ℕ) → Sent takes failed start text page w → Sent takes failed start (text ++ head) page1 w1) → Sent takes failed w head page1 w1
first_sent takes failed w w1 page page1 head none sends = sends w [] (subst (λ (t : List ℕ). Sent takes failed w [] t w) (sym none) (sent_start takes failed w []))

pub first_broken : {W : Type 0} (takes : W → List ℕ → W → Type 0) (failed : W → Bool) (w w1 : W) (page head : List ℕ) → page ≡ [] → ((start : W) (text : List ℕ) → Sent takes failed start text page w → Broken takes failed start (text ++ head) w1) → Broken takes failed w head w1
first_broken takes failed w w1 page head none breaks = breaks w [] (subst (λ (t : List ℕ). Sent takes failed w [] t w) (sym none) (sent_start takes failed w []))
