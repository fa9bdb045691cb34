use Rattle.chess_types.specs.board.Board.{man_at}
use Rattle.chess_types.specs.declared.board.man.Colour.TheVariants.{White, Black}
use Rattle.chess_types.specs.declared.board.man.Kind.TheVariants.{Pawn}
use Rattle.chess_types.specs.board.Men.{is_man, holds_pawn}
use Rattle.chess_draws.proofs.SetLemmas.{both_gather, pawns_there}
use Rattle.chess_draws.proofs.men.both_pawns.Goals as goal

pub returns : goal.returns
returns c =
    both_gather (λ there. is_man there White Pawn) (λ there. is_man there Black Pawn) holds_pawn c.of_kind.result c.of_kind-2.result c.union.result
    (man_at c.args.placement.now) c.of_kind.ensures c.of_kind-2.ensures pawns_there c.union.ensures
