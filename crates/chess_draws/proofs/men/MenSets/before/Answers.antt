use Rattle.std.proofs.Common.{refl}
use Rattle.chess_types.specs.declared.board.man.Colour.TheVariants.{White, Black}
use Rattle.chess_types.specs.board.Men.{is_of}
use Rattle.chess_types.specs.steps.KeptSets.{holds_diagonal}
use Rattle.chess_draws.specs.steps.RepetitionKeys.{holds_straight_or_king, holds_short}
use Rattle.chess_draws.proofs.men.MenSets.before.Goals as goal

pub returns : goal.returns
returns c = λ before after step are. record {
  white = c.set_before.ensures before after (is_of White) step refl are.white;
  black = c.set_before-2.ensures before after (is_of Black) step refl are.black;
  straight = c.set_before-3.ensures before after holds_straight_or_king step refl are.straight;
  diagonal = c.set_before-4.ensures before after holds_diagonal step refl are.diagonal;
  short = c.set_before-5.ensures before after holds_short step refl are.short;
}
