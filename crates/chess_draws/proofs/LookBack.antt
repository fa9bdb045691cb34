-- How often a line has come to its last position, seen from its end: every second ply, as far back as the halfmove clock says.
use Rattle.std.proofs.Common.{◌≡◌, ℕ, zero, suc, ◌+◌, ◌-◌, ◌*◌, ◌<◌, ◌≤◌, ◌/◌, min, Bool, true, false, List, [], ◌∷◌, length, map, take, drop, refl, sym, ap, ◌∙◌, arith}
use Rattle.std.specs.List.{count_by}
use Rattle.std.proofs.lemmas.Bool.{false_from_ne_true, true≢false}
use Rattle.std.proofs.lemmas.List.Sums.{sum_by-cons}
use Rattle.chess_types.specs.declared.board.man.Colour.{Colour}
use Rattle.chess_types.specs.declared.board.man.Colour.TheVariants.{White, Black}
use Rattle.chess_types.specs.board.Men.{same_colour, opponent}
use Rattle.chess_types.specs.board.MoveParts.{MoveParts}
use Rattle.chess_types.specs.board.Position.{PositionParts, IsSetup}
use Rattle.chess_types.specs.board.After.{after, after_by}
use Rattle.chess_types.specs.board.Legal.{is_legal}
use Rattle.chess_types.specs.board.Lines.{play, AreLegal, positions_from}
use Rattle.chess_types.specs.board.Repetition.{is_same}
use Rattle.chess_types.proofs.MoveLemmas.{pseudo_man, legal_pseudo}
use Rattle.chess_moves.proofs.LegalLaws.{legal_well_formed}
use Rattle.chess_draws.specs.steps.KeptPlies.{PlyParts}
use Rattle.chess_draws.specs.steps.Plies.{ArePlies, move_of}
use Rattle.chess_draws.specs.steps.LookBack.{came_back}
use Rattle.chess_draws.proofs.SameLemmas.{is_same_self, other_side, sides_differ}
use Rattle.chess_draws.proofs.PlyLemmas.{one_if}
use Rattle.chess_draws.proofs.Repeats.{AreOnBoard, as_far_as_clock}

-- how many positions from the k-th on are the same as q
abbrev pub from_place : PositionParts → PositionParts → List MoveParts → ℕ → ℕ
from_place q start ms k = count_by (is_same q) (positions_from (play start (take k ms)) (drop k ms))

at_most_one : (b : Bool) → one_if b ≤ 1
at_most_one true = omega arith
at_most_one false = omega arith

-- one place less
one_back : (q start : PositionParts) (ms : List MoveParts) (k : ℕ) → k < length ms →
    from_place q start ms k ≡ one_if (is_same q (play start (take k ms))) + from_place q start ms (suc k)
one_back q start [] k h = absurd (omega arith)
one_back q start (m ∷ ms) zero h = sum_by-cons (λ (s : PositionParts). one_if (is_same q s)) start (positions_from (after start m) ms)
one_back q start (m ∷ ms) (suc k) h = one_back q (after start m) ms k (omega arith)

-- at the end the last position is left
at_end : (q start : PositionParts) (ms : List MoveParts) → q ≡ play start ms → from_place q start ms (length ms) ≡ 1
at_end q start [] is =
    let one : one_if (is_same q start) ≡ 1 = ap (λ (s : PositionParts). one_if (is_same q s)) (sym is) ∙ ap one_if (is_same_self q) in
    omega (arith, one, sum_by-cons (λ (s : PositionParts). one_if (is_same q s)) start [])
at_end q start (m ∷ ms) is = at_end q (after start m) ms is

-- a place divides the line
pub rest_plays : (start : PositionParts) (ms : List MoveParts) (k : ℕ) → play (play start (take k ms)) (drop k ms) ≡ play start ms
rest_plays start ms zero = refl
rest_plays start [] (suc k) = refl
rest_plays start (m ∷ ms) (suc k) = rest_plays (after start m) ms k

-- what holds from there on
record Rest (p : PositionParts) (ms : List MoveParts) (n : ℕ) : Type 0 where
  pub setup : IsSetup p
  pub legal : AreLegal p ms
  pub on_board : AreOnBoard ms
  pub many : length ms ≡ n

rest_of : (start : PositionParts) (ms : List MoveParts) (k : ℕ) → IsSetup start → AreLegal start ms → AreOnBoard ms → k ≤ length ms →
    Rest (play start (take k ms)) (drop k ms) (length ms - k)
rest_of start ms zero setup legal on h = record { setup = setup; legal = legal; on_board = on; many = omega arith }
rest_of start [] (suc k) setup legal on h = absurd (omega arith)
rest_of start (m ∷ ms) (suc k) setup legal on h =
    let rest : Rest (play (after start m) (take k ms)) (drop k ms) (length ms - k) =
    rest_of (after start m) ms k (legal_well_formed start m setup on.0 on.1 legal.0).setup legal.1 on.2 (omega arith) in
    record { setup = rest.setup; legal = rest.legal; on_board = rest.on_board; many = omega (arith, rest.many) }

-- the side that has the move after some moves
abbrev turned : ℕ → Colour → Colour
turned zero c = c
turned (suc n) c = turned n (opponent c)

pub side_then : (p : PositionParts) (m : MoveParts) → is_legal p m ≡ true → (after p m).side ≡ opponent p.side
unfolding after
side_then p m legal =
    let mover = pseudo_man p m (legal_pseudo p m legal) in
    ap (λ x. (after_by p x m).side) mover.1

side_at : (p : PositionParts) (ms : List MoveParts) → AreLegal p ms → (play p ms).side ≡ turned (length ms) p.side
side_at p [] legal = refl
side_at p (m ∷ ms) legal = side_at (after p m) ms legal.1 ∙ ap (turned (length ms)) (side_then p m legal.0)

pub twice : (c : Colour) → opponent (opponent c) ≡ c
twice White = refl
twice Black = refl

turned_odd : (half n : ℕ) (c : Colour) → n ≡ 2 * half + 1 → turned n c ≡ opponent c
turned_odd half zero c is = absurd (omega arith)
turned_odd half (suc zero) c is = refl
turned_odd zero (suc (suc n)) c is = absurd (omega arith)
turned_odd (suc half) (suc (suc n)) c is = ap (turned n) (twice c) ∙ turned_odd half n c (omega arith)

-- an odd number of moves back the other side has the move
odd_differs : (p : PositionParts) (ms : List MoveParts) (half : ℕ) → AreLegal p ms → length ms ≡ 2 * half + 1 → is_same (play p ms) p ≡ false
odd_differs p ms half legal odd =
    sides_differ (play p ms) p
    (ap (λ c. same_colour c p.side) (side_at p ms legal ∙ turned_odd half (length ms) p.side odd) ∙ other_side p.side)

module _ (start : PositionParts) (ms : List MoveParts) (setup : IsSetup start) (legal : AreLegal start ms) (on : AreOnBoard ms) where
  -- a place an odd number of moves before the end
  odd_place : (k half : ℕ) → k ≤ length ms → length ms - k ≡ 2 * half + 1 → is_same (play start ms) (play start (take k ms)) ≡ false
  odd_place k half within odd =
      let rest = rest_of start ms k setup legal on within in
      ap (λ (q : PositionParts). is_same q (play start (take k ms))) (sym (rest_plays start ms k))
      ∙ odd_differs (play start (take k ms)) (drop k ms) half rest.legal (rest.many ∙ odd)

  -- a place where the position is the same is no further back than the clock says
  pub within_clock : (k : ℕ) → k ≤ length ms → is_same (play start ms) (play start (take k ms)) ≡ true → length ms - k ≤ (play start ms).clock
  within_clock k within same =
      let rest = rest_of start ms k setup legal on within in
      let there : is_same (play (play start (take k ms)) (drop k ms)) (play start (take k ms)) ≡ true =
      ap (λ (q : PositionParts). is_same q (play start (take k ms))) (rest_plays start ms k) ∙ same in
      let far = as_far_as_clock (play start (take k ms)) (drop k ms) rest.setup rest.legal rest.on_board there in
      let clock : (play (play start (take k ms)) (drop k ms)).clock ≡ (play start ms).clock = ap (λ (q : PositionParts). q.clock) (rest_plays start ms k) in
      omega (arith, far, clock, rest.many)

  -- two places less
  two_back : (k half : ℕ) → k + 2 ≤ length ms → length ms - (k + 1) ≡ 2 * half + 1 →
      from_place (play start ms) start ms k ≡ one_if (is_same (play start ms) (play start (take k ms))) + from_place (play start ms) start ms (k + 2)
  two_back k half within odd =
      let none : one_if (is_same (play start ms) (play start (take (suc k) ms))) ≡ 0 = ap one_if (odd_place (suc k) half (omega arith) (omega (arith, odd))) in
      let two : suc (suc k) ≡ k + 2 = omega arith in
      let next : from_place (play start ms) start ms (suc (suc k)) ≡ from_place (play start ms) start ms (k + 2) =
      ap (from_place (play start ms) start ms) two in
      omega (arith, none, next, one_back (play start ms) start ms k (omega arith), one_back (play start ms) start ms (suc k) (omega arith))

  -- where nothing before a place is the same
  none_before : (k : ℕ) → k ≤ length ms → ((j : ℕ) → j < k → is_same (play start ms) (play start (take j ms)) ≡ false) →
      from_place (play start ms) start ms 0 ≡ from_place (play start ms) start ms k
  none_before zero within none = refl
  none_before (suc k) within none =
      let zero_there : one_if (is_same (play start ms) (play start (take k ms))) ≡ 0 = ap one_if (none k (omega arith)) in
      omega (
        arith,
        zero_there,
        none_before k (omega arith) (λ j low. none j (omega arith)),
        one_back (play start ms) start ms k (omega arith),
      )

  -- so it's enough to look back as far as the clock says
  far_enough : (half clock : ℕ) → clock ≡ (play start ms).clock → 2 * half ≤ length ms → ((n : ℕ) → n ≤ clock → n ≤ length ms → n ≤ 2 * half + 1) →
      from_place (play start ms) start ms 0 ≡ from_place (play start ms) start ms (length ms - 2 * half)
  far_enough half clock is within reaches =
      none_before (length ms - 2 * half) (omega arith) (λ j low.
      false_from_ne_true (is_same (play start ms) (play start (take j ms))) (λ same.
      let far : length ms - j ≤ clock = omega (arith, is, within_clock j (omega arith) same) in
      let near = reaches (length ms - j) far (omega arith) in
      true≢false (sym same ∙ odd_place j half (omega arith) (omega (arith, near, low)))))

  -- so far back there are no more of them than every second place
  few_from : (half : ℕ) → 2 * half ≤ length ms → from_place (play start ms) start ms (length ms - 2 * half) ≤ half + 1
  few_from zero within =
      let end : length ms - 2 * 0 ≡ length ms = omega arith in
      omega (arith, ap (from_place (play start ms) start ms) end, at_end (play start ms) start ms refl)
  few_from (suc half) within =
      let two : length ms - 2 * suc half + 2 ≡ length ms - 2 * half = omega arith in
      let next : from_place (play start ms) start ms (length ms - 2 * suc half + 2) ≡ from_place (play start ms) start ms (length ms - 2 * half) =
      ap (from_place (play start ms) start ms) two in
      let back = two_back (length ms - 2 * suc half) half (omega arith) (omega arith) in
      omega (arith, next, back, at_most_one (is_same (play start ms) (play start (take (length ms - 2 * suc half) ms))), few_from half (omega arith))

  -- the positions that are compared, and the last one
  came : (half : ℕ) → 2 * half ≤ length ms → came_back start ms half + 1 ≡ from_place (play start ms) start ms (length ms - 2 * half)
  came zero within =
      let end : length ms - 2 * 0 ≡ length ms = omega arith in
      sym (ap (from_place (play start ms) start ms) end ∙ at_end (play start ms) start ms refl)
  came (suc half) within =
      let two : length ms - 2 * suc half + 2 ≡ length ms - 2 * half = omega arith in
      let next : from_place (play start ms) start ms (length ms - 2 * suc half + 2) ≡ from_place (play start ms) start ms (length ms - 2 * half) =
      ap (from_place (play start ms) start ms) two in
      let back = two_back (length ms - 2 * suc half) half (omega arith) (omega arith) in
      omega (arith, next, back, came half (omega arith))

  -- are all that are the same
  pub looked_back : (half clock : ℕ) → clock ≡ (play start ms).clock → 2 * half ≤ length ms → ((n : ℕ) → n ≤ clock → n ≤ length ms → n ≤ 2 * half + 1) →
      came_back start ms half + 1 ≡ count_by (is_same (play start ms)) (positions_from start ms)
  looked_back half clock is within reaches = came half within ∙ sym (far_enough half clock is within reaches)

  -- the halfmove clock bounds how often the last position came up
  pub few_same : count_by (is_same (play start ms)) (positions_from start ms) ≤ (play start ms).clock / 2 + 1
  few_same =
      let half = min (length ms) (play start ms).clock / 2 in
      let all = far_enough half (play start ms).clock refl (omega arith) (λ n low high. omega arith) in
      omega (arith, all, few_from half (omega arith))

-- the plies' moves
pub plies_on_board : (start : PositionParts) (plies : List PlyParts) → ArePlies start plies → AreOnBoard (map move_of plies)
plies_on_board start [] are = tt
plies_on_board start (ply ∷ plies) are = (are.0.from, are.0.to, plies_on_board (after start ply.past.played) plies are.1)
