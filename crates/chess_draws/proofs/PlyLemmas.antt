-- What the plies of a line say of the positions that it comes to.
use Rattle.std.proofs.Common.{◌≡◌, ℕ, ◌+◌, ◌≤◌, cond, if◌then◌else◌, Bool, true, false, Option, Some, None, is_some, List, [], ◌∷◌, ◌++◌, length, map, refl, ◌∙◌, arith}
use Rattle.chess_types.specs.board.MoveParts.{MoveParts}
use Rattle.chess_types.specs.board.Position.{PositionParts, IsWellFormed}
use Rattle.chess_types.specs.board.After.{after}
use Rattle.chess_types.specs.board.Lines.{play, AreLegal}
use Rattle.chess_types.specs.board.Repetition.{counting_target, target_counts}
use Rattle.chess_types.proofs.Counters.{clock_more, number_more}
use Rattle.chess_moves.proofs.LegalLaws.{legal_well_formed}
use Rattle.chess_draws.specs.steps.KeptPlies.{PlyParts}
use Rattle.chess_draws.specs.steps.Plies.{IsPly, ArePlies, move_of}

-- one ply more
pub plies_on : (p : PositionParts) (plies : List PlyParts) (ply : PlyParts) → ArePlies p plies → IsPly (play p (map move_of plies)) ply →
    ArePlies p (plies ++ ply ∷ [])
plies_on p [] ply are is = (is, tt)
plies_on p (first ∷ plies) ply are is = (are.0, plies_on (after p first.past.played) plies ply are.1 is)

-- the plies but the last, and the last one
pub record Parted (p : PositionParts) (plies : List PlyParts) (ply : PlyParts) : Type 0 where
  pub rest : ArePlies p plies
  pub last : IsPly (play p (map move_of plies)) ply

pub plies_separated : (p : PositionParts) (plies : List PlyParts) (ply : PlyParts) → ArePlies p (plies ++ ply ∷ []) → Parted p plies ply
plies_separated p [] ply are = record { rest = tt; last = are.0 }
plies_separated p (first ∷ plies) ply are =
    let parted : Parted (after p first.past.played) plies ply = plies_separated (after p first.past.played) plies ply are.1 in
    record { rest = (are.0, parted.rest); last = parted.last }

-- their moves are legal
pub plies_legal : (p : PositionParts) (plies : List PlyParts) → ArePlies p plies → AreLegal p (map move_of plies)
plies_legal p [] are = tt
plies_legal p (ply ∷ plies) are = (are.0.legal, plies_legal (after p ply.past.played) plies are.1)

-- and lead from a well-formed position to another
pub plies_well_formed : (p : PositionParts) (plies : List PlyParts) → IsWellFormed p → ArePlies p plies → IsWellFormed (play p (map move_of plies))
plies_well_formed p [] h are = h
plies_well_formed p (ply ∷ plies) h are =
    plies_well_formed (after p ply.past.played) plies (legal_well_formed p ply.past.played h.setup are.0.from are.0.to are.0.legal) are.1

-- each move adds at most one to each counter
pub clock_on : (p : PositionParts) (ms : List MoveParts) → (play p ms).clock ≤ p.clock + length ms
clock_on p [] = omega arith
clock_on p (m ∷ ms) = omega (arith, clock_on (after p m) ms, clock_more p m)

pub number_on : (p : PositionParts) (ms : List MoveParts) → (play p ms).number ≤ p.number + length ms
number_on p [] = omega arith
number_on p (m ∷ ms) = omega (arith, number_on (after p m) ms, number_more p m)

abbrev pub one_if : Bool → ℕ
one_if b = cond b 1 0

-- where the target before a move counted, it is the record's
pub target_kept : (p : PositionParts) (counting target : Option ℕ) → counting ≡ counting_target p → target ≡ p.target →
    (if is_some counting then target else None) ≡ counting_target p
unfolding counting_target
target_kept p counting target is kept =
    (λ i. if is_some (is i) then kept i else None) ∙ twice (target_counts p) p.target
  where
    twice : (counts : Bool) (t : Option ℕ) → (if is_some (if counts then t else None) then t else None) ≡ (if counts then t else None)
    twice true (Some s) = refl
    twice true None = refl
    twice false (Some s) = refl
    twice false None = refl
