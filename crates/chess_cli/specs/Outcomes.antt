-- How the board writes the draws that may be claimed.
use Rattle.std.specs.Prelude.{ℕ, Bool, true, false, List, codes}
use Rattle.chess_types.specs.declared.board.outcome.Claims.{Claims}

-- by what may be claimed: three times the same position, 50 moves
abbrev pub claims_text_by : (threefold fifty : Bool) → List ℕ
claims_text_by false false = codes "none"
claims_text_by true false = codes "threefold"
claims_text_by false true = codes "fifty"
claims_text_by true true = codes "threefold fifty"

-- the words of the draws that may be claimed
abbrev pub claims_text : Claims → List ℕ
claims_text claims = claims_text_by claims.threefold claims.fifty
