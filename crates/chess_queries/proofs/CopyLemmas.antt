-- A line copied move by move: each move is legal after those before it; and each move of the list is legal.
use Rattle.std.proofs.Common.{◌≡◌, ℕ, zero, suc, ◌+◌, ◌<◌, true, List, [], ◌∷◌, ◌++◌, length, get_or, take, Option, Some, None, sym, ap, subst, ◌∙◌, arith}
use Rattle.std.specs.List.{slice_get}
use Rattle.std.specs.Prelude.{is_none, unwrap_or}
use Rattle.std.proofs.lemmas.Bool.{true≢false}
use Rattle.chess_types.specs.board.MoveParts.{MoveParts}
use Rattle.chess_types.specs.board.Position.{PositionParts}
use Rattle.chess_types.specs.board.After.{after}
use Rattle.chess_types.specs.board.Legal.{is_legal, legal_moves}
use Rattle.chess_types.specs.board.Lines.{AreLegal, Line, extended, last, play}
use Rattle.chess_moves.proofs.LegalLaws.{listed_legal}
use Rattle.std.specs.List.{Contains}
use Rattle.std.proofs.lemmas.List.Elements.{Contains-get_or}

-- the move at a place is the one that the list has there
at_is : (x m : MoveParts) → Some x ≡ Some m → x ≡ m
at_is x m at = ap (λ (o : Option MoveParts). unwrap_or o x) at

none_there : (m : MoveParts) → None ≡ Some m → ⊥
none_there m at = true≢false (ap is_none at)

pub legal_at : (p : PositionParts) (ms : List MoveParts) (k : ℕ) (m : MoveParts) → AreLegal p ms → slice_get ms k ≡ Some m → is_legal (play p (take k ms)) m ≡ true
legal_at p [] k m legal at = absurd (none_there m at)
legal_at p (x ∷ ms) zero m legal at = subst (λ (y : MoveParts). is_legal p y ≡ true) (at_is x m at) legal.0
legal_at p (x ∷ ms) (suc k) m legal at = legal_at (after p x) ms k m legal.1 at

pub one_more : (ms : List MoveParts) (k : ℕ) (m : MoveParts) → slice_get ms k ≡ Some m → take (k + 1) ms ≡ take k ms ++ m ∷ []
one_more [] k m at = absurd (none_there m at)
one_more (x ∷ ms) zero m at = ap (λ (y : MoveParts). y ∷ []) (at_is x m at)
one_more (x ∷ ms) (suc k) m at =
    let more : suc k + 1 ≡ suc (k + 1) = omega arith in
    ap (λ (n : ℕ). take n (x ∷ ms)) more ∙ ap (λ (ys : List MoveParts). x ∷ ys) (one_more ms k m at)

-- of a line as far as a ply
pub legal_here : (line : Line) (copy : Line) (k : ℕ) (m : MoveParts) → AreLegal line.start line.moves → slice_get line.moves k ≡ Some m →
    copy ≡ record { start = line.start; moves = take k line.moves } → is_legal (last copy) m ≡ true
unfolding last
legal_here line copy k m legal at is = ap (λ (l : Line). is_legal (play l.start l.moves) m) is ∙ legal_at line.start line.moves k m legal at

pub line_on : (line copy after_it : Line) (k : ℕ) (m : MoveParts) → slice_get line.moves k ≡ Some m → copy ≡ record { start = line.start; moves = take k line.moves } →
    after_it ≡ extended copy m → after_it ≡ record { start = line.start; moves = take (k + 1) line.moves }
line_on line copy after_it k m at is on =
    on ∙ ap (λ (l : Line). extended l m) is ∙ ap (λ (ms : List MoveParts). record { start = line.start; moves = ms }) (sym (one_more line.moves k m at))

-- ---- moves of the list of legal moves

pub listed_here : (line here : Line) (xs : List MoveParts) (i : ℕ) (m : MoveParts) → xs ≡ legal_moves (last line) → here ≡ line → i < length xs → m ≡ get_or xs i m →
    is_legal (last here) m ≡ true
listed_here line here xs i m all same within at =
    let there : Contains (legal_moves (last line)) m =
    subst (λ (ms : List MoveParts). Contains ms m) all (subst (Contains xs) (sym at) (Contains-get_or xs i m within)) in
    subst (λ (l : Line). is_legal (last l) m ≡ true) (sym same) (listed_legal (last line) m there).1
