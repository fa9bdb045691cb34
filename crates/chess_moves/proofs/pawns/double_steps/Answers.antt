use Rattle.std.proofs.Common.{◌≡◌, ℕ, ◌==◌, not, ◌&&◌, ltb, ap, ◌∙◌, ◌<◌}
use Rattle.std.specs.FinSet.{contains, intersection}
use Rattle.chess_types.specs.board.Pseudo.{pawn_rank}
use Rattle.chess_types.specs.board.Squares.{rank_of}
use Rattle.chess_moves.specs.steps.PawnCounts.{shifted}
use Rattle.chess_moves.proofs.PawnShifts.{steps_twice}
use Rattle.chess_moves.proofs.pawns.double_steps.Goals as goal

pub returns : goal.returns
returns c = λ b hb.
    let of_pawn_rank : (s : ℕ) → contains c.rank.result s ≡ (ltb s 64 && (rank_of s == pawn_rank c.args.side)) =
    λ s. c.rank.ensures s ∙ ap (λ r. ltb s 64 && (rank_of s == r)) c.pawn_rank.ensures in
    let once : (m : ℕ) → m < 64 → contains c.forward.result m ≡ shifted c.args.side 8 (contains (intersection c.args.pawns c.rank.result)) m =
    λ m hm. c.forward.ensures m hm ∙ ap (λ s. shifted c.args.side 8 (contains s) m) c.intersection-start.ensures in
    c.single_steps.ensures b hb
    ∙ ap (λ x. x && (not (contains c.args.occupied b) && contains c.args.mask b))
    (steps_twice c.args.side c.args.pawns c.rank.result c.forward.result c.difference-first.result c.args.occupied b hb of_pawn_rank once c.difference-first.ensures)
