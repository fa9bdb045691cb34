-- A king alone gives no check, so a side with nothing else doesn't mate; and it never has anything else again.
use Rattle.std.proofs.Common.{◌≡◌, ℕ, ◌<◌, ◌≤◌, true, false, List, [], ◌∷◌, Some, refl, sym, ap, subst, ◌∙◌, arith, inl, inr}
use Rattle.std.proofs.lemmas.Option.{same_Some}
use Rattle.std.proofs.Math.Bool.{and-false}
use Rattle.std.proofs.lemmas.Bool.{or_cases, cases_Bool, eqb-true, true≢false, false_from_ne_true}
use Rattle.chess_types.specs.declared.board.man.Colour.{Colour}
use Rattle.chess_types.specs.declared.board.man.Kind.TheVariants.{King}
use Rattle.chess_types.specs.declared.board.man.Man.{Man}
use Rattle.chess_types.specs.board.Board.{Men}
use Rattle.chess_types.specs.board.Men.{opponent, same_colour, is_of, count_squares, men_of}
use Rattle.chess_types.specs.board.MoveParts.{MoveParts}
use Rattle.chess_types.specs.board.Attack.{attacks_as, attacks_for, in_check}
use Rattle.chess_types.specs.board.Position.{PositionParts, IsWellFormed, man_on}
use Rattle.chess_types.specs.board.After.{after}
use Rattle.chess_types.specs.board.Lines.{play}
use Rattle.chess_types.specs.board.Legal.{legal_moves}
use Rattle.chess_types.specs.board.Mating.{cannot_mate}
use Rattle.chess_types.specs.board.Outcome.{is_without}
use Rattle.chess_types.proofs.SameLemmas.{same_self, same_is}
use Rattle.chess_attack.proofs.KingSteps.{check_there}
use Rattle.chess_attack.proofs.Lifted.{OnlyKing}
use Rattle.chess_theorems.specs.DeadLaws.{AreListed}
use Rattle.chess_theorems.specs.MatingLaws.{mates}
use Rattle.chess_theorems.proofs.SquareColours.{beside}
use Rattle.chess_theorems.proofs.ListedLemmas.{stays_well, twice}
use Rattle.chess_theorems.proofs.ArmyLemmas.{men_never_rise}
use Rattle.chess_theorems.proofs.EscapeLemmas.{alone, attacker, attacking, dead_forever, king_is, king_of, king_reach, kings_far}

-- the side to move is not in check by a king alone
unchecked : (p : PositionParts) → IsWellFormed p → men_of p.placement (opponent p.side) ≤ 1 → in_check (man_on p) p.side ≡ false
unfolding count_squares
unchecked p well few =
    let c : Colour = p.side in
    let men : Men = man_on p in
    false_from_ne_true _ (λ checked.
    let (k, own) : (k : ℕ) × OnlyKing men c k = king_of p.placement c (well.setup.kings c) in
    let (j, theirs) : (j : ℕ) × OnlyKing men (opponent c) j = king_of p.placement (opponent c) (well.setup.kings (opponent c)) in
    let far : beside j k ≡ false = kings_far p k j well own theirs in
    let (x, hx, attack) : (x : ℕ) × (x < 64) × (attacks_for (men x) (opponent c) men x k ≡ true) =
    attacker men (opponent c) k (sym (check_there men c k own) ∙ checked) in
    let (man, here, colour, attacks) : (man : Man) × (men x ≡ Some man) × (man.colour ≡ opponent c) × (attacks_as man men x k ≡ true) =
    attacking (men x) (opponent c) men x k attack in
    let king : men j ≡ Some (record { colour = opponent c; kind = King }) = king_is (opponent c) (men j) theirs.here in
    let of_x : is_of (opponent c) (men x) ≡ true = ap (is_of (opponent c)) here ∙ ap (λ d. same_colour d (opponent c)) colour ∙ same_self (opponent c) in
    let of_j : is_of (opponent c) (men j) ≡ true = ap (is_of (opponent c)) king ∙ same_self (opponent c) in
    let same : x ≡ j = alone (λ s. is_of (opponent c) (men s)) few x j hx theirs.on_board of_x of_j in
    let is : man ≡ record { colour = opponent c; kind = King } = same_Some man (record { colour = opponent c; kind = King }) (sym here ∙ ap men same ∙ king) in
    let near : beside x k ≡ true = sym (king_reach (opponent c) men x k) ∙ sym (ap (λ m. attacks_as m men x k) is) ∙ attacks in
    true≢false (sym near ∙ ap (λ s. beside s k) same ∙ far))

-- a side with one man at most mates nobody
few_mate : (p : PositionParts) (side : Colour) → IsWellFormed p → men_of p.placement side ≤ 1 → mates side p ≡ false
few_mate p side well few =
    elim (cases_Bool (same_colour p.side (opponent side))) [
      | inr other ↦ rw other refl
      | inl there ↦
          let is : opponent p.side ≡ side = ap opponent (same_is p.side (opponent side) there) ∙ twice side in
          let safe : in_check (man_on p) p.side ≡ false = unchecked p well (subst (λ (c : Colour). men_of p.placement c ≤ 1) (sym is) few) in
          rw (there, safe) (and-false (is_without (legal_moves p)))
    ]

-- whatever moves are made
few_never_mate : (p : PositionParts) (side : Colour) (moves : List MoveParts) → IsWellFormed p → men_of p.placement side ≤ 1 → AreListed p moves →
    mates side (play p moves) ≡ false
few_never_mate p side [] well few h = few_mate p side well few
few_never_mate p side (m ∷ moves) well few h =
    few_never_mate (after p m) side moves (stays_well p m well h.0) (omega (arith, men_never_rise p m well h.0 side, few)) h.1

pub never_mates : (p : PositionParts) (side : Colour) (moves : List MoveParts) → IsWellFormed p → cannot_mate p side ≡ true → AreListed p moves →
    mates side (play p moves) ≡ false
unfolding cannot_mate
never_mates p side moves well cannot h =
    elim (or_cases _ _ cannot) [
      | inl bare ↦
          let one : men_of p.placement side ≡ 1 = eqb-true _ _ bare in
          few_never_mate p side moves well (omega arith) h
      | inr dead ↦ rw (dead_forever p moves well dead h) (and-false (same_colour (play p moves).side (opponent side)))
    ]
