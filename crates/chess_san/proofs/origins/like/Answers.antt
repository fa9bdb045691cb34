use Rattle.std.proofs.Common.{ap, sym, ◌∙◌}
use Rattle.std.specs.FinSet.{contains}
use Rattle.chess_types.specs.declared.board.man.Kind.{Kind}
use Rattle.chess_types.specs.board.Board.{man_at}
use Rattle.chess_san.specs.Naming.{is_kind}
use Rattle.chess_san.proofs.OriginLemmas.{queens_in}
use Rattle.chess_san.proofs.origins.like.Goals as goal

pub returns-in-Queen : goal.returns-in-Queen
returns-in-Queen c = λ s h.
    ap (λ x. contains x s) c.intersection.ensures
    ∙ queens_in c.straight-in-Queen.result c.diagonal-in-Queen.result (man_at c.args.placement.now) c.straight-in-Queen.ensures c.diagonal-in-Queen.ensures s
    (ap (λ (k : Kind). is_kind k (man_at c.args.placement.now s)) (sym c.in-Queen.is) ∙ h)
