-- All bytes at hand are used, and one read brings more.
use Rattle.std.proofs.Common.{◌≡◌, ◌⊎◌, ◌≤◌, inl, inr, ℕ, ◌+◌, Bool, true, false, List, [], ◌∷◌, ◌++◌, length, refl, sym, ap, subst, ◌∙◌, arith, Result, Ok, Err}
use Rattle.std.specs.Prelude.{IfErr}
use Rattle.std.proofs.lemmas.Bool.{false≢true}
use Rattle.byte_streams.specs.Calls.{Calls, joined}
use Rattle.chess_items.specs.Coming.{AtHand, Came, unread}
use Rattle.chess_items.specs.steps.AtHands.{AfterReading, HasRefilled, Refilled}
use Rattle.chess_items.specs.steps.Seeking.{HasProlonged, Prolonged, ReadBreaks}
use Rattle.chess_items.specs.steps.Texts.{RefillBreaks, Refills}
use Rattle.chess_items.specs.steps.Texts as texts
use Rattle.chess_items.specs.declared.at_hand.Fault.{Fault}
use Rattle.chess_items.specs.declared.at_hand.Fault.TheVariants.{Memory, Read}
use Rattle.chess_items.proofs.BreakLemmas.{breaking, brings, came_none, ends_truly, has_all, reads_left, sized_joined}
use Rattle.chess_items.proofs.ReadLemmas.{empty_is}

-- so many bytes are left
pub placed_now : (used left len before : ℕ) → len ≡ left → used + left ≡ before → used + len ≡ before
placed_now used left len before e h = omega (arith, e, h)

-- nothing is at hand, and then a read brings more bytes, or breaks off
module _ {R : Type 0} (gives : R → List ℕ → R → Type 0) (ended : R → Type 0) (failed : R → Bool) (old mid new : AtHand R) (source : mid.source ≡ old.source) (reads : mid.reads ≡ old.reads) (has_ended : mid.has_ended ≡ old.has_ended)
    (placed : mid.used + length (unread mid) ≡ old.used + length (unread old)) where
  refill_after : (has_more : Bool) (h : HasProlonged gives ended failed mid new has_more) → length (unread mid) ≡ 0 → AfterReading ended h.came.pieces new has_more
  refill_after true h none =
      (h.longer ∙ ap (λ (x : List ℕ). x ++ h.bytes) (empty_is (unread mid) none) ∙ sym h.came.whole, (let f = h.fewer refl in omega (arith, f, h.came.counted)), h.goes_on refl)
  refill_after false h none =
      let e = h.ended_now refl in
      (h.longer ∙ rw (empty_is (unread mid) none) e.1, h.came.whole ∙ e.1, h.at_most, e.0, h.ended_so e.0)

  pub refilled : (result : Result Bool Fault) → length (unread mid) ≡ 0 → Prolonged gives ended failed mid new result → Refilled gives ended failed old new result
  refilled (Err e) none p = tt
  refilled (Ok has_more) none h = record {
    pieces = h.came.pieces;
    calls = subst (λ (x : R). Calls gives x h.came.pieces new.source) source h.came.calls;
    counted = omega (arith, h.came.counted, reads);
    sized = h.came.sized;
    placed = (let n = ap length h.came.whole in omega (arith, n, h.came.placed, placed));
    well = h.came.well ∙ ap failed source;
    at_end = λ e. (empty_is h.came.pieces (let n = h.no_read (has_ended ∙ e) in omega (arith, n, h.came.counted)), (h.at_end (has_ended ∙ e)).1);
    each = h.came.each;
    after = refill_after has_more h none;
  }

  first : Came gives failed old [] mid
  first = came_none gives failed old mid source reads has_ended placed

  not_ended : mid.has_ended ≡ false → mid.has_ended ≡ true → ⊥
  not_ended goes e = false≢true (sym goes ∙ e)

  -- at most one read was made
  once_or_none : (pieces : List (List ℕ)) → length pieces ≤ 1 → new.reads + length pieces ≡ old.reads → (new.reads ≡ old.reads) ⊎ (new.reads + 1 ≡ old.reads)
  once_or_none [] few n = inl (omega (arith, n))
  once_or_none (p ∷ []) few n = inr (omega (arith, n))
  once_or_none (p ∷ q ∷ ps) few n = absurd (omega (arith, few))

  off : (fault : Fault) → ReadBreaks gives failed mid new fault → RefillBreaks (brings gives failed) (breaking gives failed) (has_all gives failed) (reads_left gives failed) old new fault
  off Memory b = ((λ e. not_ended b.0 (has_ended ∙ e)), [] ∷ b.1 ∷ [], (mid, first, (new, b.2, refl)), once_or_none b.2.pieces b.3 (b.2.counted ∙ reads))
  off Read b = ((λ e. not_ended b.0 (has_ended ∙ e)), mid, first, b.1, not_ended b.0)

  pub broken : (result : Result Bool Fault) → IfErr result (λ fault. ReadBreaks gives failed mid new fault) → IfErr result (λ fault. RefillBreaks (brings gives failed) (breaking gives failed) (has_all gives failed) (reads_left gives failed) old new fault)
  broken (Ok has_more) b = tt
  broken (Err fault) b = off fault b

module _ {R : Type 0} (gives : R → List ℕ → R → Type 0) (ended : R → Type 0) (failed : R → Bool) (old new : AtHand R) where
  some_pieces : (pieces : List (List ℕ)) → length pieces ≡ 1 → pieces ≡ [] → ⊥
  some_pieces pieces some e = (let n = ap length e in omega (arith, n, some))

  last_one : (pieces : List (List ℕ)) → length pieces ≤ 1 → new.reads + length pieces ≡ old.reads → (old.has_ended ≡ true → pieces ≡ []) → (new.reads ≡ old.reads) ⊎ ((new.reads + 1 ≡ old.reads) × (old.has_ended ≡ true → ⊥))
  last_one [] few n e = inl (omega (arith, n))
  last_one (p ∷ []) few n e = inr (omega (arith, n), λ h. (let z = e h in cc))
  last_one (p ∷ q ∷ ps) few n e = absurd (omega (arith, few))

  refills_after : (has_more : Bool) (r : HasRefilled gives ended failed old new has_more) → texts.AfterRefill (brings gives failed) unread (has_all gives failed) (ends_truly gives failed ended) (reads_left gives failed) old (joined r.pieces) new has_more
  refills_after false r = (
    r.after.0,
    r.after.1,
    r.after.3,
    (λ e. r.after.4),
    (let n = ap length r.after.0 in omega (arith, n, r.counted)),
    last_one r.pieces r.after.2 r.counted (λ e. (r.at_end e).0),
  )
  refills_after true r = (
    r.after.0,
    (λ e. absurd (false≢true (sym r.after.2 ∙ e))),
    (let n = ap length r.after.0 in let s = sized_joined r.pieces r.sized in omega (arith, n, s, r.after.1, r.counted)),
    (λ e. some_pieces r.pieces r.after.1 (r.at_end e).0),
    omega (arith, r.after.1, r.counted),
  )

  pub refills : (result : Result Bool Fault) → Refilled gives ended failed old new result → Refills (brings gives failed) unread (has_all gives failed) (ends_truly gives failed ended) (reads_left gives failed) old new result
  refills (Err e) r = tt
  refills (Ok has_more) r = record {
    more = joined r.pieces;
    came = record { pieces = r.pieces; calls = r.calls; whole = refl; counted = r.counted; sized = r.sized; placed = r.placed; well = r.well; each = r.each; ended_still = r.at_end };
    after = refills_after has_more r;
  }

module _ {R : Type 0} (gives : R → List ℕ → R → Type 0) (ended : R → Type 0) (failed : R → Bool) (old new : AtHand R) (source : new.source ≡ old.source) (reads : new.reads ≡ old.reads) (same : new.has_ended ≡ old.has_ended)
    (placed : new.used + length (unread new) ≡ old.used + length (unread old)) where
  -- the first bytes are used
  pub keeps : (left : ℕ) → ((text rest : List ℕ) → unread old ≡ text ++ rest → length rest ≡ left → unread new ≡ rest) → (old.has_ended ≡ true → ended old.source) → length (unread new) ≡ left
      → texts.Keeps (brings gives failed) unread (has_all gives failed) (ends_truly gives failed ended) (reads_left gives failed) left old new
  keeps left kept so len = record {
    kept = kept;
    came = came_none gives failed old new source reads same placed;
    at_end = λ e. same ∙ e;
    not_yet = λ e. sym same ∙ e;
    sound_still = λ e. subst ended (sym source) (so (sym same ∙ e));
    no_read = reads;
    smaller = omega (arith, reads, len);
  }
