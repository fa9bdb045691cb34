use Rattle.chess_types.specs.board.Board.{man_at}
use Rattle.chess_types.specs.declared.board.man.Colour.TheVariants.{White, Black}
use Rattle.chess_types.specs.board.Men.{is_king_of}
use Rattle.chess_types.specs.steps.KeptSets.{holds_king}
use Rattle.chess_draws.proofs.SetLemmas.{both_gather, kings_there}
use Rattle.chess_draws.proofs.men.both_kings.Goals as goal

pub returns : goal.returns
returns c =
    both_gather (is_king_of White) (is_king_of Black) holds_king c.king.result c.king-2.result c.union.result (man_at c.args.placement.now) c.king.ensures c.king-2.ensures kings_there c.union.ensures
