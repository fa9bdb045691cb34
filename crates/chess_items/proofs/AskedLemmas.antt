-- The last of the reads, where others were made before it or bytes came after it without one.
use Rattle.std.proofs.Common.{◌≡◌, ◌≤◌, ℕ, ◌+◌, inl, inr, List, [], ◌++◌, length, refl, sym, ap, subst, ◌∙◌, append_assoc}
use Rattle.byte_streams.specs.Calls.{Calls, joined}
use Rattle.byte_streams.proofs.CallLemmas.{Calls-append, joined-append}
use Rattle.chess_items.specs.steps.Deciding.{Decides}
use Rattle.chess_items.specs.steps.Texts.{BreaksOff, BreaksWhile, LastCame, LastSince, Needs}
use Rattle.chess_items.specs.declared.at_hand.Fault.{Fault}
use Rattle.chess_items.specs.declared.at_hand.Fault.TheVariants.{Memory, Read}
use Rattle.chess_items.specs.declared.place.Place.{Place}

module _ {X : Type 0} (comes : X → List ℕ → X → Type 0) (at_hand : X → List ℕ) (all : X → Type 0) (reads : X → ℕ) where
  -- some bytes that don't decide an item, and are no more than so many
  abbrev pub Open : ℕ → Place → List ℕ → Type 0
  Open most place begun = (length begun ≤ most) × (Decides place begun → ⊥)

  pub needs_since : (most : ℕ) (place : Place) (now : X) (more : List ℕ) (new : X) → Needs comes at_hand all reads most place now more new → LastSince comes at_hand all reads (Open most place) now more new
  needs_since most place now more new (inl same) = inl same
  needs_since most place now more new (inr n) = inr (n.not_yet, n.came, (n.few, n.undecided))

  -- no read was made so far
  pub none_since : (P : List ℕ → Type 0) (old : X) → LastSince comes at_hand all reads P old [] old
  none_since P old = inl refl

  module _ (P : List ℕ → Type 0) (old now : X) (pieces : List (List ℕ)) (came : Calls comes old pieces now) (ended : all old → all now) where
    abbrev So : List ℕ → X → Type 0
    So bytes new = LastSince comes at_hand all reads P old bytes new

    module _ (ps : List (List ℕ)) (new : X) (more_came : Calls comes now ps new) where
      abbrev same_last : (l : LastCame comes reads old (joined pieces) now) → reads new ≡ reads now → LastCame comes reads old (joined (pieces ++ ps)) new
      same_last l same = record {
        earlier = l.earlier;
        before = l.before;
        first = l.first;
        last = l.last ++ ps;
        brought = Calls-append comes l.before now new l.last ps l.brought more_came;
        once = ap (λ (n : ℕ). n + 1) same ∙ l.once;
        parts =
            joined-append pieces ps ∙ ap (λ (x : List ℕ). x ++ joined ps) l.parts ∙ append_assoc (joined l.earlier) (joined l.last) (joined ps)
            ∙ ap (λ (x : List ℕ). joined l.earlier ++ x) (sym (joined-append l.last ps));
      }

      abbrev later_last : LastCame comes reads now (joined ps) new → LastCame comes reads old (joined (pieces ++ ps)) new
      later_last l = record {
        earlier = pieces ++ l.earlier;
        before = l.before;
        first = Calls-append comes old now l.before pieces l.earlier came l.first;
        last = l.last;
        brought = l.brought;
        once = l.once;
        parts =
            joined-append pieces ps ∙ ap (λ (x : List ℕ). joined pieces ++ x) l.parts ∙ sym (append_assoc (joined pieces) (joined l.earlier) (joined l.last))
            ∙ ap (λ (x : List ℕ). x ++ joined l.last) (sym (joined-append pieces l.earlier));
      }

      -- no more were made
      pub since_still : reads new ≡ reads now → So (joined pieces) now → So (joined (pieces ++ ps)) new
      since_still same (inl a) = inl (same ∙ a)
      since_still same (inr r) = inr (r.0, same_last r.1 same, r.2)

      -- what holds of the bytes since then holds of all of them
      pub since_on : (Q : List ℕ → Type 0) → LastSince comes at_hand all reads Q now (joined ps) new → ((begun : List ℕ) → (all now → ⊥) → Q (at_hand now ++ begun) → P (at_hand old ++ (joined pieces ++ begun))) → So (joined pieces) now → So (joined (pieces ++ ps)) new
      since_on Q (inl same) goes a = since_still same a
      since_on Q (inr n) goes a =
          inr (
            (λ e. n.0 (ended e)),
            later_last n.1,
            subst (λ (x : List ℕ). P (at_hand old ++ x)) (sym (joined-append pieces n.1.earlier)) (goes (joined n.1.earlier) n.0 n.2),
          )

    -- reads that broke off later
    pub breaks_since : (breaks : X → X → Type 0) (Q : List ℕ → Type 0) (new : X) (fault : Fault) → BreaksWhile comes at_hand breaks all reads Q now new fault → ((begun : List ℕ) → (all now → ⊥) → Q (at_hand now ++ begun) → P (at_hand old ++ (joined pieces ++ begun)))
        → So (joined pieces) now → BreaksWhile comes at_hand breaks all reads P old new fault
    breaks_since breaks Q new Memory b goes a = record { pieces = pieces ++ b.pieces; came = Calls-append comes old now new pieces b.pieces came b.came; not_yet = λ e. b.not_yet (ended e); asked = since_on b.pieces new b.came Q b.asked goes a }
    breaks_since breaks Q new Read b goes a = record {
      pieces = pieces ++ b.pieces;
      mid = b.mid;
      came = Calls-append comes old now b.mid pieces b.pieces came b.came;
      not_yet = λ e. b.not_yet (ended e);
      not_all = b.not_all;
      breaks_off = b.breaks_off;
      asked = subst (λ (x : List ℕ). P (at_hand old ++ x)) (sym (joined-append pieces b.pieces)) (goes (joined b.pieces) b.not_yet b.asked);
    }

  -- with no word about why the reads were made
  pub broke_off : (breaks : X → X → Type 0) (Q : List ℕ → Type 0) (now new : X) (fault : Fault) → BreaksWhile comes at_hand breaks all reads Q now new fault → BreaksOff comes breaks all now new fault
  broke_off breaks Q now new Memory b = (b.not_yet, b.pieces, b.came)
  broke_off breaks Q now new Read b = (b.not_yet, b.pieces, b.mid, b.came, b.breaks_off, b.not_all)
