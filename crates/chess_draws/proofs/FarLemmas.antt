-- A line far from a draw: by its halfmove clock alone no position has come up often enough, with one move more (FIDE Laws, articles 9.2 and 9.6).
use Rattle.std.proofs.Common.{◌≡◌, ℕ, ◌+◌, ◌<◌, ◌≤◌, ◌/◌, Bool, true, false, ◌&&◌, ◌||◌, if◌then◌else◌, nat_le, nat_lt, List, [], ◌∷◌, ◌++◌, refl, ap, subst, arith, inl, inr}
use Rattle.std.proofs.lemmas.Bool.{cases_Bool, lt-leb}
use Rattle.chess_types.specs.board.MoveParts.{MoveParts}
use Rattle.chess_types.specs.board.Position.{PositionParts, IsSetup}
use Rattle.chess_types.specs.board.After.{after}
use Rattle.chess_types.specs.board.Dead.{is_dead}
use Rattle.chess_types.specs.board.Legal.{is_legal}
use Rattle.chess_types.specs.board.Lines.{Line, play, AreLegal, last, positions, extended}
use Rattle.chess_types.specs.board.Repetition.{repetitions}
use Rattle.chess_types.proofs.Counters.{clock_more}
use Rattle.chess_types.proofs.PlayLaws.{last_extended}
use Rattle.chess_draws.specs.steps.KeptPlies.{PlyParts}
use Rattle.chess_draws.specs.steps.Plies.{IsLine}
use Rattle.chess_play.specs.LiveParts.{LiveParts}
use Rattle.chess_draws.specs.declared.repetition_key.RepetitionKey.{RepetitionKey}
use Rattle.chess_draws.specs.Draws.{is_drawn, is_claimable}
use Rattle.chess_draws.specs.LineParts.{LineParts}
use Rattle.chess_draws.proofs.Repeats.{AreOnBoard}
use Rattle.chess_draws.proofs.LookBack.{few_same, plies_on_board}
use Rattle.chess_draws.proofs.LineLemmas.{line_of, seen, here_legal}

-- how often a line has come to its last position
few_repetitions : (line : Line) → IsSetup line.start → AreLegal line.start line.moves → AreOnBoard line.moves → repetitions line ≤ (last line).clock / 2 + 1
unfolding repetitions last positions
few_repetitions line setup legal on = few_same line.start line.moves setup legal on

-- one legal move more
legal_more : (p : PositionParts) (ms : List MoveParts) (m : MoveParts) → AreLegal p ms → is_legal (play p ms) m ≡ true → AreLegal p (ms ++ m ∷ [])
legal_more p [] m are legal = (legal, tt)
legal_more p (n ∷ ms) m are legal = (are.0, legal_more (after p n) ms m are.1 legal)

on_board_more : (ms : List MoveParts) (m : MoveParts) → AreOnBoard ms → m.from < 64 → m.to < 64 → AreOnBoard (ms ++ m ∷ [])
on_board_more [] m on from to = (from, to, tt)
on_board_more (n ∷ ms) m on from to = (on.0, on.1, on_board_more ms m on.2 from to)

-- so few times it counts as drawn only where it is dead
counts_none : (claims : Bool) (line : Line) → repetitions line ≤ (last line).clock / 2 + 1 → (last line).clock ≤ (if claims then 3 else 7) →
    (is_drawn line || (claims && is_claimable line)) ≡ is_dead (last line)
unfolding is_drawn is_claimable
counts_none false line few clock =
    let five : nat_le 5 (repetitions line) ≡ false = lt-leb 5 (repetitions line) (omega arith) in
    let many : nat_le 150 (last line).clock ≡ false = lt-leb 150 (last line).clock (omega arith) in
    elim (cases_Bool (is_dead (last line))) [ inl e ↦ rw e refl | inr e ↦ rw (e, five, many) refl ]
counts_none true line few clock =
    let five : nat_le 5 (repetitions line) ≡ false = lt-leb 5 (repetitions line) (omega arith) in
    let three : nat_le 3 (repetitions line) ≡ false = lt-leb 3 (repetitions line) (omega arith) in
    let many : nat_le 150 (last line).clock ≡ false = lt-leb 150 (last line).clock (omega arith) in
    let fifty : nat_le 100 (last line).clock ≡ false = lt-leb 100 (last line).clock (omega arith) in
    elim (cases_Bool (is_dead (last line))) [ inl e ↦ rw e refl | inr e ↦ rw (e, five, three, many, fifty) refl ]

-- one more than a small clock
next_clock : (claims : Bool) (clock next : ℕ) → clock < (if claims then 3 else 7) → next ≤ clock + 1 → next ≤ (if claims then 3 else 7)
next_clock false clock next low more = omega arith
next_clock true clock next low more = omega arith

pub below : (bound here clock : ℕ) → here ≡ clock → nat_lt here bound ≡ true → clock < bound
below bound here clock same low = grind (arith, same, low)

-- no legal move leads to a draw other than a dead position
pub far_from_draw : {start : PositionParts} {plies : List PlyParts} {live : LiveParts} {here : RepetitionKey} {looked room compared : ℕ} {parts : LineParts} →
    IsLine start plies live here → seen start plies looked live room compared ≡ parts → (claims : Bool) →
    (last parts.line).clock < (if claims then 3 else 7) → (m : MoveParts) → m.from < 64 → m.to < 64 → is_legal (last parts.line) m ≡ true →
    (is_drawn (extended parts.line m) || (claims && is_claimable (extended parts.line m))) ≡ is_dead (last (extended parts.line m))
unfolding last
far_from_draw {start = start} {plies = plies} {parts = parts} line is claims low m from to legal =
    let same : line_of start plies ≡ parts.line = ap (λ (l : LineParts). l.line) is in
    let setup : IsSetup parts.line.start = subst (λ (l : Line). IsSetup l.start) same line.well_formed.setup in
    let are : AreLegal parts.line.start parts.line.moves = subst (λ (l : Line). AreLegal l.start l.moves) same (here_legal line) in
    let on : AreOnBoard parts.line.moves = subst (λ (l : Line). AreOnBoard l.moves) same (plies_on_board start plies line.are_plies) in
    let few =
    few_repetitions (extended parts.line m) setup (legal_more parts.line.start parts.line.moves m are legal) (on_board_more parts.line.moves m on from to) in
    let next : (last (extended parts.line m)).clock ≡ (after (last parts.line) m).clock = ap (λ (s : PositionParts). s.clock) (last_extended parts.line m) in
    counts_none claims (extended parts.line m) few (next_clock claims (last parts.line).clock _ low (omega (arith, next, clock_more (last parts.line) m)))
