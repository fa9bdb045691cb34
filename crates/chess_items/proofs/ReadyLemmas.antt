-- Reads until an item is decided.
use Rattle.std.proofs.Common.{◌≡◌, ℕ, ◌+◌, ◌≤◌, inl, inr, Bool, true, false, List, [], ◌∷◌, ◌++◌, length, take, refl, sym, ap, subst, ◌∙◌, arith, append_assoc, append-nil, length-append, Ok}
use Rattle.std.proofs.lemmas.Bool.{false≢true}
use Rattle.byte_streams.specs.Calls.{joined}
use Rattle.byte_streams.proofs.CallLemmas.{Calls-more, joined-more}
use Rattle.chess_items.specs.steps.Deciding.{Decides}
use Rattle.chess_items.specs.Coming.{AtHand, Came, unread}
use Rattle.chess_items.specs.steps.AtHands.{Brought, Reads}
use Rattle.chess_items.specs.declared.place.Place.{Place}
use Rattle.chess_items.proofs.BreakLemmas.{brings_append, one_brings, read_came}
use Rattle.chess_items.proofs.ReadLemmas.{needed_more, needed_sized, take_front}

-- So far each read was needed, and the bytes that were looked at don't decide the item.
pub record Going {R : Type 0} (gives : R → List ℕ → R → Type 0) (ended : R → Type 0) (failed : R → Bool) (most : ℕ) (place : Place) (looked : ℕ) (old now : AtHand R) : Type 0 where
  pub brought : Brought gives ended failed most place old now
  pub within : looked ≤ length (unread now)
  pub undecided : Decides place (take looked (unread now)) → ⊥

-- what came so far
module _ {R : Type 0} {gives : R → List ℕ → R → Type 0} {ended : R → Type 0} {failed : R → Bool} {most : ℕ} {place : Place} {old now : AtHand R} (b : Brought gives ended failed most place old now) where
  pub so_far : Came gives failed old (joined b.pieces) now
  so_far = record { pieces = b.pieces; calls = b.calls; whole = refl; counted = b.counted; sized = needed_sized most place (unread old) b.pieces b.needed; placed = b.placed; well = b.well; each = b.each; ended_still = b.at_end }

module _ {R : Type 0} (gives : R → List ℕ → R → Type 0) (ended : R → Type 0) (failed : R → Bool) (most : ℕ) (place : Place) (old : AtHand R) where
  pub going_start : (looked : ℕ) → looked ≤ length (unread old) → (Decides place (take looked (unread old)) → ⊥) → (old.has_ended ≡ true → ended old.source) → Going gives ended failed most place looked old old
  going_start looked within undecided so = record {
    brought = record {
      pieces = [];
      calls = refl;
      needed = tt;
      counted = omega arith;
      well = refl;
      placed = omega arith;
      at_end = λ e. (refl, e);
      asked = inl refl;
      each = tt;
      whole = sym (append-nil (unread old));
      ended_so = so;
    };
    within = within;
    undecided = undecided;
  }

  -- one read more
  pub going_on : (looked : ℕ) (now new : AtHand R) → Going gives ended failed most place looked old now → now.has_ended ≡ false → (Decides place (unread now) → ⊥) → length (unread now) ≤ most
      → Reads gives ended failed now new (Ok tt) → Going gives ended failed most place (length (unread now)) old new
  going_on looked now new g goes undecided few r =
      let b = g.brought in
      let first : unread new ≡ unread now ++ r.piece = r.after.0 in
      record {
        brought = record {
          pieces = b.pieces ++ r.piece ∷ [];
          calls = Calls-more gives old.source now.source new.source b.pieces r.piece b.calls r.call;
          needed = needed_more most place (unread old) b.pieces r.piece b.needed (subst (λ (x : List ℕ). Decides place x → ⊥) b.whole undecided) (subst (λ (x : List ℕ). length x ≤ most) b.whole few) r.small;
          counted = (let n = length-append b.pieces (r.piece ∷ []) in omega (arith, n, r.counted, b.counted));
          well = r.after.3 ∙ b.well;
          placed = (let j = ap length (joined-more gives b.pieces r.piece) in let n = length-append (joined b.pieces) r.piece in omega (arith, j, n, r.placed, b.placed));
          at_end = λ e. absurd (false≢true (sym goes ∙ (b.at_end e).1));
          asked = inr (record {
            came = record {
              earlier = joined b.pieces ∷ [];
              before = now;
              first = (now, so_far b, refl);
              last = r.piece ∷ [];
              brought = (new, read_came goes ended new r, refl);
              once = r.counted;
              parts = joined-more gives b.pieces r.piece ∙ rw (append-nil (joined b.pieces), append-nil r.piece) refl;
            };
            few = rw (append-nil (joined b.pieces)) (subst (λ (x : List ℕ). length x ≤ most) b.whole few);
            undecided = rw (append-nil (joined b.pieces)) (subst (λ (x : List ℕ). Decides place x → ⊥) b.whole undecided);
            not_yet = λ e. false≢true (sym goes ∙ (b.at_end e).1);
          });
          each = brings_append now.has_ended new.has_ended b.pieces (r.piece ∷ []) b.each (one_brings new.has_ended r.piece r.after.4) (λ e. absurd (false≢true (sym goes ∙ e)));
          whole = first ∙ ap (λ (x : List ℕ). x ++ r.piece) b.whole ∙ append_assoc (unread old) (joined b.pieces) r.piece ∙ ap (λ (x : List ℕ). unread old ++ x) (sym (joined-more gives b.pieces r.piece));
          ended_so = r.after.1;
        };
        within = (let n : length (unread new) ≡ length (unread now) + length r.piece = ap length first ∙ length-append (unread now) r.piece in omega (arith, n));
        undecided = subst (λ (x : List ℕ). Decides place (take (length (unread now)) x) → ⊥) (sym first) (subst (λ (x : List ℕ). Decides place x → ⊥) (sym (take_front (unread now) r.piece)) undecided);
      }
