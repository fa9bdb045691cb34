use Rattle.std.proofs.Common.{◌==◌, ◌&&◌, ap, not, ◌∙◌, filter, length, ltb}
use Rattle.std.specs.Ordering.{nat_cmp}
use Rattle.std.specs.FinSet.{FinSet, contains}
use Rattle.chess_types.specs.board.Squares.{rank_of, squares}
use Rattle.chess_san.proofs.ListLemmas.{any_common}
use Rattle.chess_san.proofs.writer.share_rank.Goals as goal

pub returns : goal.returns
returns c =
    ap not (c.are_none.ensures ∙ ap (λ (common : FinSet nat_cmp). length (filter (contains common) squares) == 0) c.intersection.ensures)
    ∙ any_common (λ s. rank_of s == rank_of c.args.from) c.args.others c.rank-2.result (λ s. c.rank-2.ensures s ∙ ap (λ n. ltb s 64 && (rank_of s == n)) c.rank.ensures.value)
