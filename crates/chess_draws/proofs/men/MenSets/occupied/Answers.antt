use Rattle.std.proofs.Common.{is_some}
use Rattle.chess_types.specs.declared.board.man.Colour.TheVariants.{White, Black}
use Rattle.chess_types.specs.board.Men.{is_of}
use Rattle.chess_draws.proofs.SetLemmas.{both_gather, of_one}
use Rattle.chess_draws.proofs.men.MenSets.occupied.Goals as goal

pub returns : goal.returns
returns c = λ men are.
    both_gather (is_of White) (is_of Black) is_some c.args.self.now.white c.args.self.now.black c.union.result men are.white are.black of_one c.union.ensures
