-- A position that is the same as the one that some moves lead to lies at most so many moves back as the halfmove clock then says, since
-- a pawn never goes back and a captured man never returns (FIDE Laws, articles 9.2 and 9.3).
use Rattle.std.proofs.Common.{◌≡◌, ◌+◌, ◌<◌, ◌≤◌, true, ◌||◌, List, [], ◌∷◌, length, Some, is_some, refl, arith, ◌⊎◌, inl, inr}
use Rattle.std.specs.Prelude.{⊤}
use Rattle.std.proofs.lemmas.Bool.{cases_Bool}
use Rattle.chess_types.specs.declared.board.man.Man.{Man}
use Rattle.chess_types.specs.board.Men.{is_pawn}
use Rattle.chess_types.specs.board.MoveParts.{MoveParts}
use Rattle.chess_types.specs.board.Position.{PositionParts, IsSetup, man_on}
use Rattle.chess_types.specs.board.Pseudo.{is_pseudo}
use Rattle.chess_types.specs.board.After.{after, after_by, clock_after}
use Rattle.chess_types.specs.board.Legal.{is_legal}
use Rattle.chess_types.specs.board.Lines.{play, AreLegal}
use Rattle.chess_types.specs.board.Repetition.{is_same}
use Rattle.chess_types.proofs.MoveLemmas.{pseudo_man, legal_pseudo}
use Rattle.chess_play.proofs.Facts.{Facts, facts}
use Rattle.chess_play.proofs.Setups.{setup_by_facts}
use Rattle.chess_draws.proofs.RepetitionKeyLemmas.{same_parts}
use Rattle.chess_draws.proofs.Weights.{weight, weight_same, Loses, loses}

-- the moves are between squares of the board
abbrev pub AreOnBoard : List MoveParts → Type 0
AreOnBoard [] = ⊤
AreOnBoard (m ∷ moves) = (m.from < 64) × (m.to < 64) × AreOnBoard moves

-- one legal move: a setup after it; the weight doesn't rise, and falls where the clock doesn't rise
record Stepped (p q : PositionParts) : Type 0 where
  pub setup : IsSetup q
  pub never_more : weight (man_on q) ≤ weight (man_on p)
  pub clock : (q.clock ≡ p.clock + 1) ⊎ (weight (man_on q) < weight (man_on p))

stepped_by : (p : PositionParts) (m : MoveParts) (man : Man) → man_on p m.from ≡ Some man → is_pseudo p m ≡ true → IsSetup p → m.from < 64 → m.to < 64 →
    Stepped p (after p m)
unfolding after
stepped_by p m man here pseudo setup from to =
    let f : Facts p man m = facts p m setup from to man here pseudo in
    let l : Loses p man m = loses p man m setup from to f in
    rw here (record {
      setup = setup_by_facts p man m setup from to f;
      never_more = l.never_more;
      clock =
          elim (cases_Bool (is_pawn man.kind || is_some (man_on p m.to))) as (λ _. (clock_after p man m ≡ p.clock + 1) ⊎ (weight (man_on (after_by p (Some man) m)) < weight (man_on p))) [
            | inl loud ↦ inr (l.less loud)
            | inr quiet ↦ inl (rw quiet refl)
          ];
    })

stepped : (p : PositionParts) (m : MoveParts) → is_legal p m ≡ true → IsSetup p → m.from < 64 → m.to < 64 → Stepped p (after p m)
stepped p m legal setup from to =
    let pseudo = legal_pseudo p m legal in
    let mover = pseudo_man p m pseudo in
    stepped_by p m mover.0 mover.1 pseudo setup from to

record Played (p : PositionParts) (moves : List MoveParts) : Type 0 where
  pub never_more : weight (man_on (play p moves)) ≤ weight (man_on p)
  pub clock : ((play p moves).clock ≡ p.clock + length moves) ⊎ (weight (man_on (play p moves)) < weight (man_on p))

played : (p : PositionParts) (moves : List MoveParts) → IsSetup p → AreLegal p moves → AreOnBoard moves → Played p moves
played p [] setup legal on = record { never_more = omega arith; clock = inl (omega arith) }
played p (m ∷ moves) setup legal on =
    let one : Stepped p (after p m) = stepped p m legal.0 setup on.0 on.1 in
    let rest : Played (after p m) moves = played (after p m) moves one.setup legal.1 on.2 in
    record {
      never_more = omega (arith, one.never_more, rest.never_more);
      clock = elim one.clock [
        | inr falls ↦ inr (omega (arith, rest.never_more))
        | inl e ↦ elim rest.clock [
          | inr falls ↦ inr (omega (arith, one.never_more))
          | inl f ↦ inl (omega arith)
        ]
      ];
    }

same_weight : (p q : PositionParts) → is_same p q ≡ true → weight (man_on p) ≡ weight (man_on q)
same_weight p q h = weight_same (man_on p) (man_on q) (same_parts p q h).men

-- the law: a position that is the same as the last lies no further back than the clock says
pub as_far_as_clock : (p : PositionParts) (moves : List MoveParts) → IsSetup p → AreLegal p moves → AreOnBoard moves → is_same (play p moves) p ≡ true →
    length moves ≤ (play p moves).clock
as_far_as_clock p moves setup legal on same =
    let e = same_weight (play p moves) p same in
    elim (played p moves setup legal on).clock [ inl f ↦ omega arith | inr falls ↦ absurd (omega arith) ]
