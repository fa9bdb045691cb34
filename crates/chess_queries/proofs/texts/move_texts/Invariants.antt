use Rattle.std.proofs.Common.{◌≡◌, ◌≤◌, length, take, map}
use Rattle.std.specs.Prelude.{vec_capacity}
use Rattle.chess_types.specs.board.Lines.{last}
use Rattle.chess_san.specs.Writing.{san}
use Rattle.chess_draws.specs.LineParts.{IsAsBefore}
use Rattle.chess_queries.specs.Texts.{moves_of, texts_of}
use Rattle.chess_queries.proofs.texts.move_texts.Given as goal

-- the moves so far, with their texts
abbrev pub invariant-loop-played : goal.invariant-loop-played
invariant-loop-played g l = record {
  moves : moves_of l.found.items ≡ take l.played-index l.played-items;
  texts : texts_of l.found.items ≡ map (san (last l.fn.line.line)) (take l.played-index l.played-items);
  as_before : IsAsBefore l.fn.line l.line;
  room : length l.played-items ≤ vec_capacity l.found;
}
