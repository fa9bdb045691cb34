-- What a move is: from where, to where, and what a pawn becomes on the last rank (FIDE Laws, articles 3.1 and 3.7.3.3).
use Rattle.std.specs.Prelude.{ℕ, Option}
use Rattle.chess_types.specs.declared.board.man.Kind.{Kind}

-- a move: the square that it begins on, the square that it ends on, and what a pawn becomes
pub record MoveParts : Type 0 where
  pub from : ℕ
  pub to : ℕ
  pub promo : Option Kind
