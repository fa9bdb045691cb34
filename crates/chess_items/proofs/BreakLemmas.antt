-- Reads that went well, one after another, and the one that didn't.
use Rattle.std.proofs.Common.{◌≡◌, ◌<◌, ◌≤◌, ℕ, ◌+◌, ◌*◌, inl, inr, Bool, true, false, List, [], ◌∷◌, ◌++◌, length, refl, sym, ap, subst, ◌∙◌, arith, append-nil, length-append, Ok, Err}
use Rattle.std.specs.List.{AllByRecursion}
use Rattle.std.proofs.lemmas.Bool.{false≢true}
use Rattle.std.specs.Prelude.{Result}
use Rattle.byte_streams.specs.Calls.{Calls, joined}
use Rattle.byte_streams.proofs.CallLemmas.{Calls-append, joined-append}
use Rattle.chess_items.specs.Coming.{AtHand, Breaks, Came, EachBrings, unread}
use Rattle.chess_items.specs.steps.AtHands.{Reads, Tries}
use Rattle.chess_items.specs.steps.Deciding.{Decides}
use Rattle.chess_items.specs.steps.Texts.{BreaksAt, BreaksOff, Needs}
use Rattle.chess_items.specs.declared.place.Place.{Place}
use Rattle.chess_items.specs.declared.at_hand.Fault.{Fault}
use Rattle.chess_items.specs.declared.at_hand.Fault.TheVariants.{Memory, Read}

-- pieces that gave a byte each, and more of them
pub each_append : (a b : List (List ℕ)) → AllByRecursion (λ piece. 0 < length piece) a → AllByRecursion (λ piece. 0 < length piece) b → AllByRecursion (λ piece. 0 < length piece) (a ++ b)
each_append [] b x y = y
each_append (p ∷ ps) b x y = (x.0, each_append ps b x.1 y)

pub all_bring : (pieces : List (List ℕ)) → EachBrings false pieces → AllByRecursion (λ piece. 0 < length piece) pieces
all_bring [] x = tt
all_bring (p ∷ ps) (inl k, x) = (k, all_bring ps x)
all_bring (p ∷ ps) (inr k, x) = absurd (false≢true k.1)

pub brings_all : (ended : Bool) (pieces : List (List ℕ)) → AllByRecursion (λ piece. 0 < length piece) pieces → EachBrings ended pieces
brings_all ended [] x = tt
brings_all ended (p ∷ ps) x = (inl x.0, brings_all ended ps x.1)

-- where the end was seen no more were read
pub brings_append : (v w : Bool) (a b : List (List ℕ)) → EachBrings v a → EachBrings w b → (v ≡ true → (b ≡ []) × (w ≡ true)) → EachBrings w (a ++ b)
brings_append true w a b x y still =
    let k = still refl in
    subst (λ (z : List (List ℕ)). EachBrings w z) (sym (ap (λ (z : List (List ℕ)). a ++ z) k.0 ∙ append-nil a)) (subst (λ (e : Bool). EachBrings e a) (sym k.1) x)
brings_append false w a b x y still = on a (all_bring a x)
  where
    on : (a : List (List ℕ)) → AllByRecursion (λ piece. 0 < length piece) a → EachBrings w (a ++ b)
    on [] x = y
    on (p ∷ ps) x = (inl x.0, on ps x.1)

pub one_brings : (ended : Bool) (piece : List ℕ) → (ended ≡ false → 0 < length piece) → EachBrings ended (piece ∷ [])
one_brings true piece some = (inr (refl, refl), tt)
one_brings false piece some = (inl (some refl), tt)

pub both_none : (a b : List (List ℕ)) → a ≡ [] → b ≡ [] → a ++ b ≡ []
both_none a b x y = rw x y

-- pieces that are no longer than a read's, and more of them
abbrev pub Sized : List (List ℕ) → Type 0
Sized pieces = AllByRecursion (λ piece. length piece ≤ 65536) pieces

pub sized_append : (a b : List (List ℕ)) → Sized a → Sized b → Sized (a ++ b)
sized_append [] b x y = y
sized_append (p ∷ ps) b x y = (x.0, sized_append ps b x.1 y)

pub sized_joined : (pieces : List (List ℕ)) → Sized pieces → length (joined pieces) ≤ 65536 * length pieces
sized_joined [] x = omega arith
sized_joined (p ∷ ps) x = (let n = length-append p (joined ps) in let k = sized_joined ps x.1 in omega (arith, n, k, x.0))

-- so many bytes came at most
pub came_small : {R : Type 0} {gives : R → List ℕ → R → Type 0} {failed : R → Bool} {old new : AtHand R} {bytes : List ℕ} (came : Came gives failed old bytes new) → length bytes ≤ 65536 * length came.pieces
came_small came = (let n = ap length came.whole in let k = sized_joined came.pieces came.sized in omega (arith, n, k))

module _ {R : Type 0} (gives : R → List ℕ → R → Type 0) (failed : R → Bool) where
  -- bytes at hand as a text
  abbrev pub brings : AtHand R → List ℕ → AtHand R → Type 0
  brings s bytes t = Came gives failed s bytes t

  abbrev pub breaking : AtHand R → AtHand R → Type 0
  breaking s t = Breaks gives failed s t

  abbrev pub has_all : AtHand R → Type 0
  has_all s = s.has_ended ≡ true

  abbrev pub ends_truly : (R → Type 0) → AtHand R → Type 0
  ends_truly ended s = s.has_ended ≡ true → ended s.source

  abbrev pub reads_left : AtHand R → ℕ
  reads_left s = s.reads

  -- no read was made
  pub came_none : (s t : AtHand R) → t.source ≡ s.source → t.reads ≡ s.reads → t.has_ended ≡ s.has_ended → t.used + length (unread t) ≡ s.used + length (unread s) → Came gives failed s [] t
  came_none s t source reads ended placed = record {
    pieces = [];
    calls = sym source;
    whole = refl;
    counted = omega (arith, reads);
    sized = tt;
    placed = omega (arith, placed);
    well = ap failed source;
    each = tt;
    ended_still = λ e. (refl, ended ∙ e);
  }

  pub came_append : (s m t : AtHand R) (a b : List ℕ) → Came gives failed s a m → Came gives failed m b t → Came gives failed s (a ++ b) t
  came_append s m t a b first second = record {
    pieces = first.pieces ++ second.pieces;
    calls = Calls-append gives s.source m.source t.source first.pieces second.pieces first.calls second.calls;
    whole = rw (joined-append first.pieces second.pieces, first.whole, second.whole) refl;
    counted = (let n = length-append first.pieces second.pieces in omega (arith, n, first.counted, second.counted));
    sized = sized_append first.pieces second.pieces first.sized second.sized;
    placed = (let k = length-append a b in omega (arith, k, first.placed, second.placed));
    well = second.well ∙ first.well;
    each = brings_append m.has_ended t.has_ended first.pieces second.pieces first.each second.each second.ended_still;
    ended_still = λ e. let a = first.ended_still e in let b = second.ended_still a.1 in (both_none first.pieces second.pieces a.0 b.0, b.1);
  }

  pub all_came : (s t : AtHand R) (pieces : List (List ℕ)) → Calls (λ x bytes y. Came gives failed x bytes y) s pieces t → Came gives failed s (joined pieces) t
  all_came s t [] c = came_none s t (ap (λ (x : AtHand R). x.source) (sym c)) (ap (λ (x : AtHand R). x.reads) (sym c)) (ap (λ (x : AtHand R). x.has_ended) (sym c)) (ap (λ (x : AtHand R). x.used + length (unread x)) (sym c))
  all_came s t (p ∷ ps) c = came_append s c.0 t p (joined ps) c.1 (all_came c.0 t ps c.2)

-- one read more
pub read_came : {R : Type 0} {gives : R → List ℕ → R → Type 0} {failed : R → Bool} {now : AtHand R} (goes : now.has_ended ≡ false) (ended : R → Type 0) (new : AtHand R) (r : Reads gives ended failed now new (Ok tt)) → Came gives failed now r.piece new
read_came goes ended new r = record {
  pieces = r.piece ∷ [];
  calls = (new.source, r.call, refl);
  whole = append-nil r.piece;
  counted = r.counted;
  sized = (r.small, tt);
  placed = r.placed;
  well = r.after.3;
  each = one_brings new.has_ended r.piece r.after.4;
  ended_still = λ e. absurd (false≢true (sym goes ∙ e));
}

pub err_is : (a b : Fault) → ◌≡◌ {A = Result (Unit {0}) Fault} (Err a) (Err b) → a ≡ b
err_is a b e = cc

-- these bytes came, and the source has not ended
module _ {R : Type 0} {gives : R → List ℕ → R → Type 0} {failed : R → Bool} {old now : AtHand R} {bytes : List ℕ} (came : Came gives failed old bytes now) (goes : now.has_ended ≡ false) where
  not_all : now.has_ended ≡ true → ⊥
  not_all e = false≢true (sym goes ∙ e)

  not_ended : old.has_ended ≡ true → ⊥
  not_ended e = not_all (came.ended_still e).1

  -- there may be no more reads
  many : (new : AtHand R) → new ≡ now → now.reads ≡ 0 → Breaks gives failed now new
  many new same none = (inr (ap (λ (x : AtHand R). x.source) same, none), ap (λ (x : AtHand R). unread x) same, ap (λ (x : AtHand R). x.used) same)

  fails : (ended : R → Type 0) (new : AtHand R) → Reads gives ended failed now new (Err Read) → Breaks gives failed now new
  fails ended new r = (
    inl (subst (λ (p : List ℕ). gives now.source p new.source) r.after.1 r.call, r.after.0),
    r.after.2,
    (let n = ap length r.after.1 in let k = ap length r.after.2 in omega (arith, n, k, r.placed)),
  )

  -- a read for whose bytes there was no memory
  lost : (ended : R → Type 0) (new : AtHand R) (r : Reads gives ended failed now new (Err Memory)) → Came gives failed now r.piece new
  lost ended new r = record { pieces = r.piece ∷ []; calls = (new.source, r.call, refl); whole = append-nil r.piece; counted = r.counted; sized = (r.small, tt); placed = r.placed; well = r.after.0; each = (inl r.after.1, tt); ended_still = λ e. absurd (not_all e) }

  -- the bytes at hand don't decide the item that they begin with, and are no more than may be
  module _ (ended : R → Type 0) (most : ℕ) (place : Place) (longer : unread now ≡ unread old ++ bytes) (undecided : Decides place (unread now) → ⊥) (few : length (unread now) ≤ most)
      (asked : Needs (brings gives failed) unread (has_all gives failed) (reads_left gives failed) most place old bytes now) where
    abbrev At : AtHand R → Fault → Type 0
    At new fault = BreaksAt (brings gives failed) unread (breaking gives failed) (has_all gives failed) (ends_truly gives failed ended) (reads_left gives failed) most place old new fault

    broke : (new : AtHand R) → Breaks gives failed now new → At new Read
    broke new b = record {
      pieces = bytes ∷ [];
      mid = now;
      came = (now, came, refl);
      longer = longer ∙ ap (λ (x : List ℕ). unread old ++ x) (sym (append-nil bytes));
      undecided = undecided;
      few = few;
      not_yet = not_ended;
      not_all = not_all;
      sound_still = λ e. absurd (not_all e);
      breaks_off = b;
    }

    -- no buffer could be made
    poor : (new : AtHand R) → new ≡ now → At new Memory
    poor new same = record {
      pieces = bytes ∷ [];
      came = (now, came, sym same);
      asked = subst (λ (x : AtHand R). Needs (brings gives failed) unread (has_all gives failed) (reads_left gives failed) most place old (bytes ++ []) x) (sym same)
          (subst (λ (x : List ℕ). Needs (brings gives failed) unread (has_all gives failed) (reads_left gives failed) most place old x now) (sym (append-nil bytes)) asked);
      not_yet = not_ended;
    }

    whole : unread old ++ (bytes ++ []) ≡ unread now
    whole = ap (λ (x : List ℕ). unread old ++ x) (append-nil bytes) ∙ sym longer

    short : (new : AtHand R) → Reads gives ended failed now new (Err Memory) → At new Memory
    short new r = record {
      pieces = bytes ∷ r.piece ∷ [];
      came = (now, came, (new, lost ended new r, refl));
      asked = inr (record {
        came = record {
          earlier = bytes ∷ [];
          before = now;
          first = (now, came, refl);
          last = r.piece ∷ [];
          brought = (new, lost ended new r, refl);
          once = r.counted;
          parts = ap (λ (x : List ℕ). x ++ (r.piece ++ [])) (sym (append-nil bytes));
        };
        few = subst (λ (x : List ℕ). length x ≤ most) (sym whole) few;
        undecided = subst (λ (x : List ℕ). Decides place x → ⊥) (sym whole) undecided;
        not_yet = not_ended;
      });
      not_yet = not_ended;
    }

    pub at_many : now.reads ≡ 0 → At now Read
    at_many none = broke now (many now refl none)

    pub at_fault : (new : AtHand R) (e : Fault) → Tries gives ended failed now new (Err e) → At new e
    at_fault new Read (inl p) = (let wrong : Read ≡ Memory = err_is Read Memory p.0 in cc)
    at_fault new Read (inr r) = broke new (fails ended new r)
    at_fault new Memory (inl p) = poor new p.1
    at_fault new Memory (inr r) = short new r

-- a read that went well
pub has_read : {R : Type 0} (gives : R → List ℕ → R → Type 0) (ended : R → Type 0) (failed : R → Bool) (now new : AtHand R) → Tries gives ended failed now new (Ok tt) → Reads gives ended failed now new (Ok tt)
has_read gives ended failed now new (inl p) = (let wrong = p.0 in cc)
has_read gives ended failed now new (inr r) = r

-- what came first, and then no more
module _ {X : Type 0} (comes : X → List ℕ → X → Type 0) (breaks : X → X → Type 0) (all : X → Type 0) (old now new : X) (pieces : List (List ℕ)) (came : Calls comes old pieces now) (still : all old → all now) where
  pub breaks_later : (fault : Fault) → BreaksOff comes breaks all now new fault → BreaksOff comes breaks all old new fault
  breaks_later Memory b = ((λ e. b.0 (still e)), pieces ++ b.1, Calls-append comes old now new pieces b.1 came b.2)
  breaks_later Read b = ((λ e. b.0 (still e)), pieces ++ b.1, b.2, Calls-append comes old now b.2 pieces b.1 came b.3, b.4, b.5)
