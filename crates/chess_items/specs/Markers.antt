-- How a text says how its game ended.
use Rattle.std.specs.Prelude.{ℕ, List, codes}
use Rattle.chess_items.specs.declared.outcome.Outcome.{Outcome}
use Rattle.chess_items.specs.declared.outcome.Outcome.TheVariants.{WhiteWins, BlackWins, Draw, Unfinished}

-- the game termination marker (PGN 8.2.6)
abbrev pub outcome_text : Outcome → List ℕ
outcome_text WhiteWins = codes "1-0"
outcome_text BlackWins = codes "0-1"
outcome_text Draw = codes "1/2-1/2"
outcome_text Unfinished = codes "*"
