-- A line that one move decides, before the others are looked at.
use Rattle.std.proofs.Common.{◌≡◌, ℕ, ◌<◌, ◌≤◌, Bool, true, false, length, refl, sym, subst, arith, ℤ, ◌<ℤ◌, ◌≤ℤ◌, map}
use Rattle.std.proofs.lemmas.Int.{ints}
use Rattle.chess_types.specs.board.MoveParts.{MoveParts}
use Rattle.chess_types.specs.board.Lines.{Line, last}
use Rattle.chess_types.specs.board.Legal.{is_legal, legal_moves}
use Rattle.chess_moves.proofs.LegalLaws.{legal_listed}
use Rattle.chess_search.specs.Value.{counts_drawn, greatest, value, worth}
use Rattle.chess_search.specs.Asked.{tree_size}
use Rattle.chess_search.specs.steps.Windows.{FitsWindow}
use Rattle.chess_search.proofs.WindowLemmas.{same_window, value-suc, within_greatest}
use Rattle.chess_search.proofs.AskedLemmas.{tree_one}

-- a legal move is one of some
pub one_of : (line : Line) (m : MoveParts) → m.from < 64 → m.to < 64 → is_legal (last line) m ≡ true → 0 < length (legal_moves (last line))
one_of line m from to legal =
    let (place, inside, found) = legal_listed (last line) m (record { from = from; to = to }) legal in
    omega (arith, inside)

-- and worth no more than the line
pub at_least_one : (claims : Bool) (line : Line) (distance : ℕ) (m : MoveParts) → counts_drawn claims line ≡ false → m.from < 64 → m.to < 64 →
    is_legal (last line) m ≡ true → worth claims 0 line distance m ≤ℤ value claims 1 line distance
at_least_one claims line distance m playing from to legal =
    let moves = legal_moves (last line) in
    let (place, inside, found) = legal_listed (last line) m (record { from = from; to = to }) legal in
    let value_is : value claims 1 line distance ≡ greatest (map (worth claims 0 line distance) moves) =
    value-suc claims 0 line distance (one_of line m from to legal) playing in
    subst (λ v. worth claims 0 line distance m ≤ℤ v) (sym value_is) (within_greatest (worth claims 0 line distance) moves place m inside (sym found))

-- so an answer for what it's worth, no less than beta, is one for the line
pub cut : (alpha beta answer w v : ℤ) → alpha <ℤ beta → beta ≤ℤ answer → w ≤ℤ v → FitsWindow alpha beta w answer → FitsWindow alpha beta v answer
cut alpha beta answer w v wide over most fits = record {
  upper = λ under. omega (arith, ints);
  lower = λ above. omega (arith, ints, fits.lower (omega (arith, ints)));
}

-- by other names of the depth and of the window
pub named : (claims : Bool) (depth : ℕ) (line : Line) (distance : ℕ) (alpha beta answer a b : ℤ) → 1 ≡ depth → a ≡ alpha → b ≡ beta →
    FitsWindow a b (value claims 1 line distance) answer → FitsWindow alpha beta (value claims depth line distance) answer
named claims depth line distance alpha beta answer a b one e f fits =
    subst (λ d. FitsWindow alpha beta (value claims d line distance) answer) one (same_window alpha beta _ answer a b _ answer e f refl refl fits)

-- the line and one of its moves are asked for
pub two_asked : (claims : Bool) (line : Line) → counts_drawn claims line ≡ false → 0 < length (legal_moves (last line)) → 2 ≤ tree_size claims 1 line
two_asked claims line playing some = rw (tree_one claims line playing) (omega (arith, some))
