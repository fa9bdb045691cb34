-- The last of the reads that brought some bytes.
use Rattle.std.proofs.Common.{◌≡◌, ◌⊎◌, ◌≤◌, ℕ, ◌+◌, inl, inr, Bool, List, [], ◌∷◌, ◌++◌, length, refl, sym, ap, subst, ◌∙◌, arith, length-append}
use Rattle.byte_streams.specs.Calls.{joined}
use Rattle.byte_streams.proofs.CallLemmas.{Calls-append, joined-append}
use Rattle.chess_items.specs.Coming.{AtHand, Came, LastReadWhere, unread}
use Rattle.chess_items.specs.steps.Texts.{LastWhere}
use Rattle.chess_items.proofs.BreakLemmas.{Sized, all_came, both_none, brings, brings_append, reads_left, sized_append}
use Rattle.chess_items.proofs.ReadLemmas.{empty_is}

-- bytes that came, the last read of which was made where this holds
pub record CameWhere {R : Type 0} (P : List ℕ → Type 0) (gives : R → List ℕ → R → Type 0) (failed : R → Bool) (old : AtHand R) (bytes : List ℕ) (new : AtHand R) : Type 0 where
  pub came : Came gives failed old bytes new
  pub asked : LastReadWhere P (unread old) came.pieces

one_piece : (pieces : List (List ℕ)) → length pieces ≡ 1 → (piece : List ℕ) × (pieces ≡ piece ∷ [])
one_piece [] e = absurd (omega (arith, e))
one_piece (p ∷ []) e = (p, refl)
one_piece (p ∷ q ∷ pieces) e = absurd (omega (arith, e))

pub last_of : (pieces : List (List ℕ)) → Sized pieces → (pieces ≡ []) ⊎ ((before : List (List ℕ)) × (piece : List ℕ) × (pieces ≡ before ++ piece ∷ []) × (length piece ≤ 65536))
last_of [] s = inl refl
last_of (p ∷ ps) s = inr (elim (last_of ps s.1) [ inl e ↦ ([], p, ap (λ (x : List (List ℕ)). p ∷ x) e, s.0) | inr l ↦ (p ∷ l.0, l.1, ap (λ (x : List (List ℕ)). p ∷ x) l.2, l.3) ])

-- reads, and then others
module _ {R : Type 0} (gives : R → List ℕ → R → Type 0) (failed : R → Bool) (old new : AtHand R) where
  abbrev pub joins : (mid : AtHand R) (a b bytes : List ℕ) → Came gives failed old a mid → Came gives failed mid b new → bytes ≡ a ++ b → Came gives failed old bytes new
  joins mid a b bytes first second parts = record {
    pieces = first.pieces ++ second.pieces;
    calls = Calls-append gives old.source mid.source new.source first.pieces second.pieces first.calls second.calls;
    whole = joined-append first.pieces second.pieces ∙ rw (first.whole, second.whole) (sym parts);
    counted = (let n = length-append first.pieces second.pieces in omega (arith, n, first.counted, second.counted));
    sized = sized_append first.pieces second.pieces first.sized second.sized;
    placed = (let k = length-append a b in let m = ap length parts in omega (arith, k, m, first.placed, second.placed));
    well = second.well ∙ first.well;
    each = brings_append mid.has_ended new.has_ended first.pieces second.pieces first.each second.each second.ended_still;
    ended_still = λ e. let a = first.ended_still e in let b = second.ended_still a.1 in (both_none first.pieces second.pieces a.0 b.0, b.1);
  }

module _ {R : Type 0} (P : List ℕ → Type 0) (gives : R → List ℕ → R → Type 0) (failed : R → Bool) (old new : AtHand R) where
  -- one read more
  came_one : (mid : AtHand R) (a b bytes : List ℕ) → Came gives failed old a mid → (second : Came gives failed mid b new) → new.reads + 1 ≡ mid.reads → bytes ≡ a ++ b → P (unread old ++ a) → CameWhere P gives failed old bytes new
  came_one mid a b bytes first second once parts holds =
      let one = one_piece second.pieces (omega (arith, once, second.counted)) in
      record {
        came = joins gives failed old new mid a b bytes first second parts;
        asked = inr (
          first.pieces,
          one.0,
          ap (λ (x : List (List ℕ)). first.pieces ++ x) one.1,
          (subst Sized one.1 second.sized).0,
          subst (λ (x : List ℕ). P (unread old ++ x)) (sym first.whole) holds,
        );
      }

  none_came : (bytes : List ℕ) (came : Came gives failed old bytes new) → new.reads ≡ old.reads → CameWhere P gives failed old bytes new
  none_came bytes came same = record { came = came; asked = inl (empty_is came.pieces (omega (arith, same, came.counted))) }

  pub came_where : (pieces : List (List ℕ)) → Came gives failed old (joined pieces) new → LastWhere (brings gives failed) unread (reads_left gives failed) P old (joined pieces) new → CameWhere P gives failed old (joined pieces) new
  came_where pieces came (inl same) = none_came (joined pieces) came same
  came_where pieces came (inr l) =
      came_one l.0.before (joined l.0.earlier) (joined l.0.last) (joined pieces) (all_came gives failed old l.0.before l.0.earlier l.0.first) (all_came gives failed l.0.before new l.0.last l.0.brought) l.0.once l.0.parts l.1
