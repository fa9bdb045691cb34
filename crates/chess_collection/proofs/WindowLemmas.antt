-- Bytes that come and are at hand, read after read.
use Rattle.std.proofs.Common.{◌≡◌, ◌⊎◌, inl, inr, ℕ, ◌+◌, Bool, true, false, if◌then◌else◌, List, [], ◌∷◌, ◌++◌, length, refl, sym, ap, subst, ◌∙◌, arith, append_assoc, append-nil, length-append}
use Rattle.std.specs.Prelude.{◌≤◌, ◌*◌, Result, Ok, Err, IfErr, IsErrAnd}
use Rattle.std.specs.List.{AllByRecursion}
use Rattle.byte_streams.specs.Calls.{Calls, Carries, joined}
use Rattle.byte_streams.proofs.CallLemmas.{Calls-append, Carries-none, Carries-append, joined-append}
use Rattle.chess_items.specs.Coming.{AtHand, Breaks, Came, unread}
use Rattle.chess_items.specs.steps.AtHands.{HasRefilled}
use Rattle.chess_items.specs.steps.Texts.{RefillBreaks}
use Rattle.chess_items.specs.declared.at_hand.Fault.TheVariants.{Memory, Read}
use Rattle.chess_command_line.specs.declared.collection.Failure.{Failure}
use Rattle.chess_command_line.specs.declared.collection.Failure.TheVariants as by
use Rattle.chess_collection.specs.Windows.{Comes, ComesSome, NoMore, Window}

-- what holds of a fault holds of it as it is handed on
pub handed_on : {A E : Type 0} (P : E → Type 0) (told : Result A E) (fault : E) → IsErrAnd told (λ f. f ≡ fault) → P fault → IfErr told P
handed_on P (Ok x) fault same h = absurd same
handed_on P (Err f) fault same h = subst P (sym same) h

-- pieces of at most 65,536 bytes
joined_sized : (pieces : List (List ℕ)) → AllByRecursion (λ piece. length piece ≤ 65536) pieces → length (joined pieces) ≤ 65536 * length pieces
joined_sized [] each = omega arith
joined_sized (p ∷ ps) each = (let n = length-append p (joined ps) in let m = joined_sized ps each.1 in let k = each.0 in omega (arith, n, m, k))

module _ {R : Type 0} (gives : R → List ℕ → R → Type 0) (failed : R → Bool) where
  pub comes_none : (w : Window R) → Comes gives failed w w
  comes_none w = record {
    bytes = [];
    came = record { pieces = []; calls = refl; whole = refl };
    well = refl;
    whole = sym (append-nil w.bytes);
    counted = omega arith;
    sized = omega arith;
    still = λ e. (refl, e);
  }

  unfoldable pub then_comes : (a b c : R) (xs ys : List ℕ) → Carries gives a xs b → Carries gives b ys c → Carries gives a (xs ++ ys) c
  then_comes a b c xs ys f s = record {
    pieces = f.pieces ++ s.pieces;
    calls = Calls-append gives a b c f.pieces s.pieces f.calls s.calls;
    whole = joined-append f.pieces s.pieces ∙ ap (λ (z : List ℕ). z ++ joined s.pieces) f.whole ∙ ap (λ (z : List ℕ). xs ++ z) s.whole;
  }

  pub comes_on : (a b c : Window R) → Comes gives failed a b → Comes gives failed b c → Comes gives failed a c
  unfolding then_comes
  comes_on a b c f s = record {
    bytes = f.bytes ++ s.bytes;
    came = then_comes a.source b.source c.source f.bytes s.bytes f.came s.came;
    well = s.well ∙ f.well;
    whole = s.whole ∙ ap (λ (x : List ℕ). x ++ s.bytes) f.whole ∙ append_assoc a.bytes f.bytes s.bytes;
    counted = (let n = length-append f.came.pieces s.came.pieces in let x = f.counted in let y = s.counted in omega (arith, n, x, y));
    sized = (let n = length-append f.came.pieces s.came.pieces in let m = length-append f.bytes s.bytes in let x = f.sized in let y = s.sized in omega (arith, n, m, x, y));
    still = λ e. (let x = f.still e in let y = s.still x.1 in (ap (λ (z : List ℕ). z ++ s.bytes) x.0 ∙ y.0, y.1));
  }

  pub comes_broken : (P Q : List ℕ → Type 0) (a b c : Window R) (failure : Failure) → Comes gives failed a b → ((bytes : List ℕ) → P bytes → Q bytes) → NoMore gives failed P b c failure → NoMore gives failed Q a c failure
  comes_broken P Q a b c by.Read f so (last, some, kept, fails) = (last, record { comes = comes_on a b last f some.comes; goes_on = some.goes_on; so = so last.bytes some.so }, kept, fails)
  comes_broken P Q a b c by.Write f so n = absurd n
  comes_broken P Q a b c by.Memory f so (last, some, loses) = (last, record { comes = comes_on a b last f some.comes; goes_on = some.goes_on; so = so last.bytes some.so }, loses)

  came_all : (s t : AtHand R) (ps : List (List ℕ)) → Calls (λ s bytes t. Came gives failed s bytes t) s ps t
      → (bytes : List ℕ) × Carries gives s.source bytes t.source × (failed t.source ≡ failed s.source) × (length bytes + 65536 * t.reads ≤ 65536 * s.reads)
  came_all s t [] c = (
    [],
    subst (λ (x : AtHand R). Carries gives s.source [] x.source) c (Carries-none gives s.source),
    ap (λ (x : AtHand R). failed x.source) (sym c),
    (let n = ap (λ (x : AtHand R). x.reads) c in omega (arith, n)),
  )
  came_all s t (p ∷ ps) c =
      let more = came_all c.0 t ps c.2 in (
        p ++ more.0,
        Carries-append gives s.source c.0.source t.source p more.0 (record { pieces = c.1.pieces; calls = c.1.calls; whole = c.1.whole }) more.1,
        more.2 ∙ c.1.well,
        (let n = length-append p more.0 in let m = ap length c.1.whole in let k = joined_sized c.1.pieces c.1.sized in let x = c.1.counted in let y = more.3 in omega (arith, n, m, k, x, y)),
      )

  module _ (old new : AtHand R) (w : Window R) (from : w.source ≡ old.source) (may : w.reads ≡ old.reads) where
    -- a piece came
    pub piece_comes : (ended : R → Type 0) (v : Window R) → HasRefilled gives ended failed old new true → w.has_ended ≡ false → v.source ≡ new.source → v.reads ≡ new.reads → v.bytes ≡ w.bytes ++ unread new → Comes gives failed w v
    piece_comes ended v h on to left bytes = record {
      bytes = unread new;
      came = record {
        pieces = h.pieces;
        calls = subst (λ (x : R). Calls gives x h.pieces v.source) (sym from) (subst (λ (x : R). Calls gives old.source h.pieces x) (sym to) h.calls);
        whole = sym h.after.0;
      };
      well = ap failed to ∙ h.well ∙ ap failed (sym from);
      whole = bytes;
      counted = (let n = h.counted in omega (arith, n, may, left));
      sized = (let n = ap length h.after.0 in let m = joined_sized h.pieces h.sized in omega (arith, n, m));
      still = λ e. (let n = ap {B = ℕ} (λ (b : Bool). if b then 1 else 0) (sym on ∙ e) in absurd (let none : ⊥ = omega (arith, n) in none));
    }

    -- none came, and the source has ended
    pub end_comes : (ended : R → Type 0) (v : Window R) → HasRefilled gives ended failed old new false → v.source ≡ new.source → v.reads ≡ new.reads → v.bytes ≡ w.bytes → v.has_ended ≡ true → Comes gives failed w v
    end_comes ended v h to left bytes is = record {
      bytes = [];
      came = record {
        pieces = h.pieces;
        calls = subst (λ (x : R). Calls gives x h.pieces v.source) (sym from) (subst (λ (x : R). Calls gives old.source h.pieces x) (sym to) h.calls);
        whole = h.after.1;
      };
      well = ap failed to ∙ h.well ∙ ap failed (sym from);
      whole = bytes ∙ sym (append-nil w.bytes);
      counted = (let n = h.counted in omega (arith, n, may, left));
      sized = omega arith;
      still = λ e. (refl, is);
    }

    -- no more than a piece came
    pub few_come : (ended : R → Type 0) (now : List ℕ) → HasRefilled gives ended failed old new true → now ≡ w.bytes ++ unread new → length now ≤ length w.bytes + 65536
    few_come ended now h bytes =
        (let n = ap length bytes in let l = length-append w.bytes (unread new) in let m = joined_sized h.pieces h.sized in let k = ap length h.after.0 in let one = h.after.1 in omega (arith, n, l, m, k, one))

    none_came : w.has_ended ≡ false → ComesSome gives failed (λ bytes. length bytes ≤ length w.bytes) w w
    none_came on = record { comes = comes_none w; goes_on = on; so = omega arith }

    -- a read failed, or there may be no more
    pub read_breaks : (v : Window R) → w.has_ended ≡ false → v.source ≡ new.source → v.bytes ≡ w.bytes
        → RefillBreaks (λ s bytes t. Came gives failed s bytes t) (λ s t. Breaks gives failed s t) (λ s. s.has_ended ≡ true) (λ s. s.reads) old new Read
        → NoMore gives failed (λ bytes. length bytes ≤ length w.bytes) w v by.Read
    read_breaks v on to kept b =
        let came = b.2 in
        let last : Window R = record { source = b.1.source; bytes = w.bytes; has_ended = w.has_ended; seen = w.seen; reads = b.1.reads } in (
          last,
          record {
            comes = record {
              bytes = [];
              came = record { pieces = came.pieces; calls = subst (λ (x : R). Calls gives x came.pieces b.1.source) (sym from) came.calls; whole = came.whole };
              well = came.well ∙ ap failed (sym from);
              whole = sym (append-nil w.bytes);
              counted = came.counted ∙ sym may;
              sized = omega arith;
              still = λ e. (refl, e);
            };
            goes_on = on;
            so = omega arith;
          },
          kept,
          subst (λ (x : R). (gives b.1.source [] x × (failed x ≡ true)) ⊎ ((x ≡ b.1.source) × (b.1.reads ≡ 0))) (sym to) b.3.0,
        )

    -- there was no memory
    pub memory_breaks : (v : Window R) → w.has_ended ≡ false → v.source ≡ new.source → RefillBreaks (λ s bytes t. Came gives failed s bytes t) (λ s t. Breaks gives failed s t) (λ s. s.has_ended ≡ true) (λ s. s.reads) old new Memory
        → NoMore gives failed (λ bytes. length bytes ≤ length w.bytes) w v by.Memory
    unfolding none_came
    memory_breaks v on to b =
        let all = came_all old new b.1 b.2 in
        (w, none_came on, (all.0, subst (λ (x : R). Carries gives w.source all.0 x) (sym to) (subst (λ (x : R). Carries gives x all.0 new.source) (sym from) all.1), few b.3, ap failed to ∙ all.2 ∙ ap failed (sym from)))
      where
        few : (new.reads ≡ old.reads) ⊎ (new.reads + 1 ≡ old.reads) → length (came_all old new b.1 b.2).0 ≤ 65536
        few (inl none) = (let n = (came_all old new b.1 b.2).3 in omega (arith, n, none))
        few (inr one) = (let n = (came_all old new b.1 b.2).3 in omega (arith, n, one))

    -- there was none for what came
    pub piece_lost : (ended : R → Type 0) (v : Window R) → w.has_ended ≡ false → v.source ≡ new.source → HasRefilled gives ended failed old new true → NoMore gives failed (λ bytes. length bytes ≤ length w.bytes) w v by.Memory
    unfolding none_came
    piece_lost ended v on to h = (
      w,
      none_came on,
      (
        unread new,
        record { pieces = h.pieces; calls = subst (λ (x : R). Calls gives x h.pieces v.source) (sym from) (subst (λ (x : R). Calls gives old.source h.pieces x) (sym to) h.calls); whole = sym h.after.0 },
        (let m = joined_sized h.pieces h.sized in let k = ap length h.after.0 in let one = h.after.1 in omega (arith, m, k, one)),
        ap failed to ∙ h.well ∙ ap failed (sym from),
      ),
    )
