use Rattle.std.proofs.Common.{◌-◌, arith}
use Rattle.std.proofs.lemmas.Grind.{common_steps}
use Rattle.chess_fen.proofs.RankLemmas.{empty_run}
use Rattle.chess_fen.proofs.ranks.push_cells.Goals as goal

pub returns-then-stands_for_empty : goal.returns-then-stands_for_empty
returns-then-stands_for_empty c =
    let run = empty_run (c.args.byte - 48) (grind (arith, common_steps)) in
    grind (arith, common_steps, run)
