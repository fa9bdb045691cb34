-- A record that fits: what the man on the move's last square and the record say of the position before.
use Rattle.std.proofs.Common.{◌≡◌, ◌≤◌, ◌<◌, ℕ, Option, Some, None, refl, sym, ap, subst, ◌∙◌, arith}
use Rattle.chess_types.specs.declared.board.man.Colour.{Colour}
use Rattle.chess_types.specs.declared.board.man.Colour.TheVariants.{White, Black}
use Rattle.chess_types.specs.declared.board.man.Man.{Man}
use Rattle.chess_types.specs.board.Board.{Board, man_at}
use Rattle.chess_types.specs.board.MoveParts.{MoveParts}
use Rattle.chess_types.specs.board.Position.{PositionParts, IsSetup, man_on}
use Rattle.chess_types.specs.board.After.{captured_at, moved_man, placement_after, number_after, after_by, after}
use Rattle.chess_types.proofs.MoveLemmas.{pseudo_man}
use Rattle.chess_play.specs.steps.Boards.{CanTakeBack, carried_back}
use Rattle.chess_play.specs.Records.{RecordParts, captured_by, IsBefore}
use Rattle.chess_play.specs.steps.Undo.{mover, number_before, before_by}
use Rattle.chess_play.proofs.Facts.{Facts, facts}
use Rattle.chess_play.proofs.BackSteps.{back_by_facts}
use Rattle.chess_play.proofs.MoveLemmas.{can_take_back, all_is_back}

abbrev man_or : Man → Option Man → Man
man_or other None = other
man_or other (Some man) = man

same_man : (a b : Man) → Some a ≡ Some b → a ≡ b
same_man a b e = ap (man_or a) e

-- What is known when the man who moved is found:
--   man_is   he is known by the man on the last square
--   mine     his colour was to move
--   board, taken, target   what the position and the record hold
pub record Found (now p : PositionParts) (kept : RecordParts) (man : Man) : Type 0 where
  pub here : man_on p kept.played.from ≡ Some man
  pub facts : Facts p man kept.played
  pub now_is : now ≡ after_by p (Some man) kept.played
  pub taken : kept.captured ≡ man_on p (captured_at p.target man kept.played)
  pub rights : kept.rights ≡ p.rights
  pub target : kept.target ≡ p.target
  pub clock : kept.clock ≡ p.clock

found : (now p : PositionParts) (kept : RecordParts) → kept.played.from < 64 → kept.played.to < 64 → IsBefore now kept p →
    (man : Man) × Found now p kept man
unfolding after
found now p kept from to before =
    let q = pseudo_man p kept.played before.pseudo in
    let f = facts p kept.played before.setup from to q.0 q.1 before.pseudo in (
      q.0,
      record {
        here = q.1;
        facts = f;
        now_is = before.now_is ∙ ap (λ o. after_by p o kept.played) q.1;
        taken = ap (λ (r : RecordParts). r.captured) before.kept_is ∙ ap (λ o. captured_by p o kept.played) q.1;
        rights = ap (λ (r : RecordParts). r.rights) before.kept_is;
        target = ap (λ (r : RecordParts). r.target) before.kept_is;
        clock = ap (λ (r : RecordParts). r.clock) before.kept_is;
      },
    )

number_is_back : (side : Colour) (number : ℕ) → number_before side (number_after side number) ≡ number
number_is_back White number = refl
number_is_back Black number = omega arith

number_grows : (side : Colour) (number : ℕ) → 1 ≤ number → 1 ≤ number_after side number
number_grows White number h = h
number_grows Black number h = omega arith

-- taking back the record's move is possible, and leads to the position before
pub record Undoing (now p : PositionParts) (kept : RecordParts) (there : Man) : Type 0 where
  pub can : CanTakeBack kept.target (mover kept.played.promo there) kept.played kept.captured now.placement
  pub before : before_by now kept (mover kept.played.promo there) ≡ p
  pub number : 1 ≤ now.number

undoing_by : (now p : PositionParts) (kept : RecordParts) (there man : Man) → kept.played.from < 64 → kept.played.to < 64 → IsSetup p →
    man_on now kept.played.to ≡ Some there → Found now p kept man → Undoing now p kept there
undoing_by now p kept there man from to setup stands known =
    let m : MoveParts = kept.played in
    let b = back_by_facts p man m setup from to known.facts in
    let board : now.placement ≡ placement_after p man m = ap (λ (s : PositionParts). s.placement) known.now_is in
    let arrived : there ≡ moved_man man m.promo = same_man there (moved_man man m.promo) (sym stands ∙ ap (λ (s : Board). man_at s m.to) board ∙ b.there) in
    let man_is : mover m.promo there ≡ man = ap (mover m.promo) arrived ∙ b.mover in
    let number : now.number ≡ number_after p.side p.number = ap (λ (s : PositionParts). s.number) known.now_is in
    let whole : carried_back kept.target (mover m.promo there) m kept.captured now.placement ≡ p.placement =
    (λ i. carried_back (known.target i) (man_is i) m (known.taken i) (board i)) ∙ all_is_back p man m setup from to known.facts in
    let side : (mover m.promo there).colour ≡ p.side = ap (λ (x : Man). x.colour) man_is ∙ b.mine in
    let before_number : number_before (mover m.promo there).colour now.number ≡ p.number =
    (λ i. number_before (side i) (number i)) ∙ number_is_back p.side p.number in
    record {
      can = (rw (known.target, man_is, known.taken, board) (can_take_back p man m setup from to known.facts));
      before = λ i. record { placement = whole i; side = side i; rights = known.rights i; target = known.target i; clock = known.clock i; number = before_number i };
      number = subst (λ n. 1 ≤ n) (sym number) (number_grows p.side p.number setup.number);
    }

pub undoing : (now p : PositionParts) (kept : RecordParts) (there : Man) → kept.played.from < 64 → kept.played.to < 64 → IsBefore now kept p →
    man_on now kept.played.to ≡ Some there → Undoing now p kept there
undoing now p kept there from to before stands =
    let f = found now p kept from to before in
    undoing_by now p kept there f.0 from to before.setup stands f.1

-- a man stands on the last square
pub stands_there : (now p : PositionParts) (kept : RecordParts) → kept.played.from < 64 → kept.played.to < 64 → IsBefore now kept p →
    (there : Man) × (man_on now kept.played.to ≡ Some there)
stands_there now p kept from to before =
    let f = found now p kept from to before in
    let b = back_by_facts p f.0 kept.played before.setup from to f.1.facts in
    (moved_man f.0 kept.played.promo, ap (λ (s : PositionParts). man_on s kept.played.to) f.1.now_is ∙ b.there)
