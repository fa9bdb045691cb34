-- Bytes at hand of a source are a text.
use Rattle.std.proofs.Common.{◌≡◌, ℕ, ◌+◌, ◌≤◌, inl, inr, Bool, true, false, List, [], ◌∷◌, ◌++◌, length, ap, subst, ◌∙◌, arith, append_assoc, append-nil, length-append, Result, Ok, Err}
use Rattle.byte_streams.specs.Calls.{joined}
use Rattle.chess_items.specs.steps.Deciding.{Decides}
use Rattle.chess_items.specs.Coming.{AtHand, unread}
use Rattle.chess_items.specs.steps.AtHands.{Needed, HasRead, Readied}
use Rattle.chess_items.specs.steps.Texts.{Near, AfterCame, MadeReady, size}
use Rattle.chess_items.specs.declared.at_hand.Fault.{Fault}
use Rattle.chess_items.specs.declared.place.Place.{Place}
use Rattle.chess_items.proofs.BreakLemmas.{brings, ends_truly, has_all, reads_left}
use Rattle.chess_items.proofs.ReadLemmas.{joined_small}
use Rattle.chess_items.proofs.ReadyLemmas.{so_far}

near_on : (place : Place) (prefix p all : List ℕ) → length p ≤ 65536 → (Decides place prefix → ⊥) → Near place (prefix ++ p) all → Near place prefix all
near_on place prefix p all small undecided (inl e) = inr (prefix, p, e, small, undecided)
near_on place prefix p all small undecided (inr h) = inr h

near_of : (most : ℕ) (place : Place) (prefix : List ℕ) (pieces : List (List ℕ)) → Needed most place prefix pieces → Near place prefix (prefix ++ joined pieces)
near_of most place prefix [] n = inl (append-nil prefix)
near_of most place prefix (p ∷ pieces) n =
    near_on place prefix p (prefix ++ (p ++ joined pieces)) n.2 n.0
    (subst (λ (x : List ℕ). Near place (prefix ++ p) x) (append_assoc prefix p (joined pieces)) (near_of most place (prefix ++ p) pieces n.3))

-- What is held stays below the most that is asked for, and one piece.
held_of : (most : ℕ) (place : Place) (prefix : List ℕ) (pieces : List (List ℕ)) → Needed most place prefix pieces → length prefix ≤ most + 65536 → length (prefix ++ joined pieces) ≤ most + 65536
held_of most place prefix [] n few = rw (append-nil prefix) few
held_of most place prefix (p ∷ pieces) n few =
    let l = length-append prefix p in
    subst (λ (x : List ℕ). length x ≤ most + 65536) (append_assoc prefix p (joined pieces)) (held_of most place (prefix ++ p) pieces n.3 (omega (arith, l, n.1, n.2)))

module _ {R : Type 0} (gives : R → List ℕ → R → Type 0) (ended : R → Type 0) (failed : R → Bool) (most : ℕ) (place : Place) (old new : AtHand R) where
  size_falls : (pieces : List (List ℕ)) → Needed most place (unread old) pieces → new.reads + length pieces ≡ old.reads → unread new ≡ unread old ++ joined pieces → size unread (reads_left gives failed) new ≤ size unread (reads_left gives failed) old
  size_falls pieces n counted e =
      let k = joined_small most place (unread old) pieces n in
      let l : length (unread new) ≡ length (unread old) + length (joined pieces) = ap length e ∙ length-append (unread old) (joined pieces) in
      omega (arith, k, l, counted)

  came_after : (is_ready : Bool) (r : HasRead gives ended failed most place old new is_ready) → AfterCame (brings gives failed) unread (has_all gives failed) (ends_truly gives failed ended) (reads_left gives failed) most place old (joined r.brought.pieces) new is_ready
  came_after false r = record {
    longer = r.brought.whole;
    over = r.after.0;
    undecided = r.after.1;
    asked = r.brought.asked;
    at_end = λ e. (ap joined (r.brought.at_end e).0, (r.brought.at_end e).1);
    sound_still = r.brought.ended_so;
    no_larger = size_falls r.brought.pieces r.brought.needed r.brought.counted r.brought.whole;
    held = (λ few. rw (r.brought.whole) (held_of most place (unread old) r.brought.pieces r.brought.needed few));
  }
  came_after true r = record {
    longer = r.brought.whole;
    decided = r.after;
    near = rw (r.brought.whole) (near_of most place (unread old) r.brought.pieces r.brought.needed);
    asked = r.brought.asked;
    at_end = λ e. (ap joined (r.brought.at_end e).0, (r.brought.at_end e).1);
    sound_still = r.brought.ended_so;
    no_larger = size_falls r.brought.pieces r.brought.needed r.brought.counted r.brought.whole;
    held = (λ few. rw (r.brought.whole) (held_of most place (unread old) r.brought.pieces r.brought.needed few));
  }

  pub made_ready : (result : Result Bool Fault) → Readied gives ended failed most place old new result → MadeReady (brings gives failed) unread (has_all gives failed) (ends_truly gives failed ended) (reads_left gives failed) most place old new result
  made_ready (Err e) r = tt
  made_ready (Ok is_ready) r = record {
    more = joined r.brought.pieces;
    came = so_far r.brought;
    after = came_after is_ready r;
  }
