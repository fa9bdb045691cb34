-- The board with its files turned round.
use Rattle.std.proofs.Common.{◌≡◌, ℕ, ◌<◌, ◌==◌, true, false, not, ◌&&◌, Option, Some, None, refl, sym, ap, subst, ◌∙◌, arith}
use Rattle.std.specs.List.{Contains}
use Rattle.std.proofs.lemmas.Bool.{false_from_ne_true, true≢false}
use Rattle.std.proofs.lemmas.Bool.Decides.{nat_tests}
use Rattle.chess_types.specs.declared.board.axis.Axis.{Axis}
use Rattle.chess_types.specs.declared.board.axis.Axis.TheVariants.{Rank}
use Rattle.chess_types.specs.declared.board.man.Colour.{Colour}
use Rattle.chess_types.specs.declared.board.man.Colour.TheVariants.{White, Black}
use Rattle.chess_types.specs.declared.board.man.Man.{Man}
use Rattle.chess_types.specs.declared.board.position.Wing.{Wing}
use Rattle.chess_types.specs.declared.board.position.Wing.TheVariants.{KingSide, QueenSide}
use Rattle.chess_types.specs.board.Board.{Board, man_at}
use Rattle.chess_types.specs.board.Squares.{rank_of, is_between_on, squares}
use Rattle.chess_types.specs.board.MoveParts.{MoveParts}
use Rattle.chess_types.specs.board.Attack.{leaps, slides, slides_to, in_check}
use Rattle.chess_types.specs.board.Position.{PositionParts, IsSetup, holds, man_on}
use Rattle.chess_types.specs.board.Pseudo.{castles, is_pseudo, last_rank}
use Rattle.chess_types.specs.board.After.{after, after_by, is_castling, placement_after, moved_board}
use Rattle.chess_types.specs.board.Legal.{is_legal, legal_moves}
use Rattle.chess_types.proofs.Sums.{total}
use Rattle.chess_types.proofs.MoveLemmas.{legal_pseudo, pseudo_man}
use Rattle.chess_play.proofs.CastlingSquares.{castling_parts}
use Rattle.chess_play.proofs.Facts.{Facts, facts}
use Rattle.chess_play.proofs.Setups.{untouched}
use Rattle.chess_moves.proofs.LegalLaws.{listed_legal}
use Rattle.chess_theorems.specs.DeadLaws.{is_mate}
use Rattle.chess_theorems.specs.FlipLaws.{flip, flipped, IsFlipped}
use Rattle.chess_theorems.proofs.Symmetry.{Symmetry, IsSeen, recolour}
use Rattle.chess_theorems.proofs.SymmetryTables.{symmetry, other_axis}
use Rattle.chess_theorems.proofs.SeenAttacks.{check_across, there_across}
use Rattle.chess_theorems.proofs.SeenMoves.{and_if, pseudo_seen}
use Rattle.chess_theorems.proofs.SeenAfter.{AreSeen, moved, seen_by}
use Rattle.chess_theorems.proofs.SeenLegal.{none_seen}

-- colours stay
abbrev pub own : Colour → Colour
own c = c

flip_inside : (s : ℕ) → s < 64 → flip s < 64
flip_inside s h = omega arith

last_flip : (c : Colour) (a : ℕ) → a < 64 → (rank_of (flip a) == last_rank c) ≡ (rank_of a == last_rank c)
last_flip White a h = grind (arith, nat_tests)
last_flip Black a h = grind (arith, nat_tests)

-- along a rank and the diagonals the order is the other one
between_axis : (axis : Axis) (a b t : ℕ) → a < 64 → b < 64 → t < 64 → is_between_on (other_axis axis) (flip a) (flip b) (flip t) ≡ is_between_on axis a b t
between_axis Rank a b t ha hb ht = grind (arith, nat_tests)
between_axis _ a b t ha hb ht = grind (arith, nat_tests)

-- so it is a symmetry
pub over_files : Symmetry flip own
unfolding squares leaps slides_to slides total
over_files = symmetry flip own
    (record { inside = flip_inside; twice = λ s h. omega arith; sums = λ f. omega arith; files = λ a b ha hb. grind (arith, nat_tests); corner = λ a b ha hb. omega arith; between = between_axis })
    (record { colours = λ c d. refl; others = λ c. refl; last = last_flip })
    (record { leap = refl; slide = refl; ahead = refl; two = refl; advance = refl })

same_man_seen : (there : Option Man) → there ≡ recolour own there
same_man_seen None = refl
same_man_seen (Some man) = refl

pub seen : {p q : PositionParts} → IsFlipped p q → IsSeen flip own p q
seen {p} {q} both = record {
  board = λ s h. both.board s h ∙ same_man_seen (man_on p (flip s));
  side = both.side;
  target = both.target;
  clock = both.clock;
}

-- without a right nobody castles
no_castles : (p : PositionParts) → ((c : Colour) (w : Wing) → holds p.rights c w ≡ false) → (w : Wing) (m : MoveParts) → castles p w m ≡ false
no_castles p none w m = false_from_ne_true _ (λ h. true≢false (sym (castling_parts p w m h).right ∙ none p.side w))

-- so no king's move takes a rook along
plain_move : (p : PositionParts) (man : Man) (m : MoveParts) → ((c : Colour) (w : Wing) → holds p.rights c w ≡ false) → Facts p man m →
    placement_after p man m ≡ moved_board p man m
plain_move p man m none its =
    let no : (w : Wing) → is_castling man w m ≡ false =
    λ w. false_from_ne_true _ (λ h. true≢false (sym (its.castling w h) ∙ no_castles p none w m)) in
    rw (no KingSide, no QueenSide) refl

-- and no right is won
none_after : (p : PositionParts) (man : Man) (m : MoveParts) → ((c : Colour) (w : Wing) → holds p.rights c w ≡ false) → (c : Colour) (w : Wing) →
    holds (after_by p (Some man) m).rights c w ≡ false
none_after p man m none c w = false_from_ne_true _ (λ h. true≢false (sym (untouched p c w m h).right ∙ none c w))

module _ (p q : PositionParts) (setup : IsSetup p) (there : IsSetup q) (both : IsFlipped p q) (m : MoveParts) (from : m.from < 64) (to : m.to < 64) where
  pub pseudo_flips : is_pseudo q (flipped m) ≡ is_pseudo p m
  pseudo_flips =
      pseudo_seen flip own over_files p q setup (seen both) m from to
      (λ w. no_castles q both.none_there w (flipped m) ∙ sym (no_castles p both.none w m))

  by_man : (man : Man) → man_on p m.from ≡ Some man → is_pseudo p m ≡ true → IsFlipped (after_by p (Some man) m) (after_by q (Some man) (flipped m))
  by_man man here pseudo =
      let here_too : man_on q (flip m.from) ≡ Some man =
      there_across flip own over_files (man_on p) (man_on q) (seen both).board m.from from ∙ sym (same_man_seen (man_on p m.from)) ∙ here in
      let ours : placement_after p man m ≡ moved_board p man m = plain_move p man m both.none (facts p m setup from to man here pseudo) in
      let theirs : placement_after q man (flipped m) ≡ moved_board q man (flipped m) =
      plain_move q man (flipped m) both.none_there
      (facts q (flipped m) there (flip_inside m.from from) (flip_inside m.to to) man here_too (pseudo_flips ∙ pseudo)) in
      let placed : AreSeen flip own (placement_after p man m) (placement_after q man (flipped m)) =
      subst (λ (B : Board). AreSeen flip own B (placement_after q man (flipped m))) (sym ours)
      (subst (λ (C : Board). AreSeen flip own (moved_board p man m) C) (sym theirs) (moved flip own over_files p q setup (seen both) m from to man)) in
      let x = seen_by flip own over_files p q setup (seen both) m from to man placed in
      record {
        board = λ s h. x.board s h ∙ sym (same_man_seen (man_at (placement_after p man m) (flip s)));
        side = x.side;
        none = none_after p man m both.none;
        none_there = none_after q man (flipped m) both.none_there;
        target = x.target;
        clock = x.clock;
      }

  after_by_flips : is_pseudo p m ≡ true → IsFlipped (after p m) (after q (flipped m))
  unfolding after
  after_by_flips pseudo =
      let (man, here) : (man : Man) × (man_on p m.from ≡ Some man) = pseudo_man p m pseudo in
      let here_too : man_on q (flip m.from) ≡ Some man =
      there_across flip own over_files (man_on p) (man_on q) (seen both).board m.from from ∙ sym (same_man_seen (man_on p m.from)) ∙ here in
      subst (λ (o : Option Man). IsFlipped (after_by p o m) (after_by q (man_on q (flip m.from)) (flipped m))) (sym here)
      (subst (λ (o : Option Man). IsFlipped (after_by p (Some man) m) (after_by q o (flipped m))) (sym here_too) (by_man man here pseudo))

  pub legal_flips : is_legal q (flipped m) ≡ is_legal p m
  unfolding is_legal
  legal_flips =
      and_if (is_pseudo p m) (is_pseudo q (flipped m)) (not (in_check (man_on (after p m)) p.side)) (not (in_check (man_on (after q (flipped m))) q.side)) pseudo_flips
      (λ pseudo i. not ((ap (in_check (man_on (after q (flipped m)))) both.side
      ∙ check_across flip own over_files (man_on p_after) (man_on (after q (flipped m))) (seen (after_by_flips pseudo)).board p.side) i))
    where
      p_after : PositionParts
      p_after = after p m

pub after_flips : (p q : PositionParts) → IsSetup p → IsSetup q → IsFlipped p q → (m : MoveParts) → Contains (legal_moves p) m → IsFlipped (after p m) (after q (flipped m))
after_flips p q setup there both m listed =
    let (on, legal) = listed_legal p m listed in
    after_by_flips p q setup there both m on.from on.to (legal_pseudo p m legal)

pub mate_flips : (p q : PositionParts) → IsSetup p → IsSetup q → IsFlipped p q → is_mate q ≡ is_mate p
mate_flips p q setup there both = λ i.
    none_seen flip own over_files p q (legal_flips p q setup there both) i
    && (ap (in_check (man_on q)) both.side ∙ check_across flip own over_files (man_on p) (man_on q) (seen both).board p.side) i
