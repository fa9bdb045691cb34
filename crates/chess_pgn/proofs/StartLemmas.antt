-- The position in which a game begins, by what its tags tell.
use Rattle.std.proofs.Common.{◌≡◌, ℕ, List, refl, Some}
use Rattle.std.specs.Prelude.{Option, None, Result, Ok, Err}
use Rattle.chess_types.specs.board.Position.{PositionParts, start}
use Rattle.chess_fen.specs.Reading.{fen_reading}
use Rattle.chess_fen.specs.declared.fault.FenFault.{FenFault}
use Rattle.chess_pgn.specs.Tags.{position_in, start_by}
use Rattle.chess_pgn.specs.steps.HeaderCode.{start_read, start_told}

read_usual : (at : ℕ) (r : Result PositionParts FenFault) → start_read at r ≡ Ok None → position_in r ≡ Some start
read_usual at (Ok p) e = absurd cc
read_usual at (Err fault) e = absurd cc

-- the usual one, where they give none
pub usual : (at : ℕ) (told : Option (List ℕ)) → start_told at told ≡ Ok None → start_by told ≡ Some start
usual at None e = refl
usual at (Some fen) e = read_usual at (fen_reading fen) e

read_position : (at : ℕ) (r : Result PositionParts FenFault) (p : PositionParts) → start_read at r ≡ Ok (Some p) → position_in r ≡ Some p
read_position at (Ok q) p e = cc
read_position at (Err fault) p e = absurd cc

-- or the one that they give
pub told : (at : ℕ) (fen : Option (List ℕ)) (p : PositionParts) → start_told at fen ≡ Ok (Some p) → start_by fen ≡ Some p
told at None p e = absurd cc
told at (Some fen) p e = read_position at (fen_reading fen) p e
