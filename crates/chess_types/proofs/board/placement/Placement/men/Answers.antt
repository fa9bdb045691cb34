use Rattle.std.proofs.Common.{◌≡◌, List, Option, length, refl, arith, ◌∙◌}
use Rattle.std.specs.FinSet.{FinSet, len}
use Rattle.std.specs.Ordering.{nat_cmp}
use Rattle.chess_types.specs.declared.board.man.Colour.{Colour}
use Rattle.chess_types.specs.declared.board.man.Colour.TheVariants.{White, Black}
use Rattle.chess_types.specs.declared.board.man.Man.{Man}
use Rattle.chess_types.specs.board.Board.{man_at}
use Rattle.chess_types.specs.board.Cells.{board_of}
use Rattle.chess_types.specs.board.Men.{count_squares, is_of}
use Rattle.chess_types.specs.steps.KeptSets.{Gathers}
use Rattle.chess_types.proofs.MenLemmas.{men_of-board_of}
use Rattle.chess_types.proofs.KeptLemmas.{len_gathers, outside_board_of}
use Rattle.chess_types.proofs.board.placement.Placement.men.Goals as goal

-- a colour's men are as many as the squares of its set
counted : (cells : List (Option Man)) (colour : Colour) (set : FinSet nat_cmp) → length cells ≡ 64 → Gathers set (is_of colour) (man_at (board_of cells)) → len set ≡ count_squares (is_of colour) (board_of cells)
counted cells colour set len kept = len_gathers set (is_of colour) (board_of cells) refl (outside_board_of cells len) kept

pub returns-in-White : goal.returns-in-White
returns-in-White c =
    let men = counted c.self.inside.cells White c.self.inside.kept.white c.self.invariant.2 c.self.invariant.1.white in
    record { value = rw (← c.self.view_is, c.in-White.is) (c.len.ensures.value ∙ men); at_most = omega (arith, c.len.ensures.value, men, men_of-board_of c.self.inside.cells White c.self.invariant.2, c.self.invariant.0 White) }

pub returns-in-Black : goal.returns-in-Black
returns-in-Black c =
    let men = counted c.self.inside.cells Black c.self.inside.kept.black c.self.invariant.2 c.self.invariant.1.black in
    record { value = rw (← c.self.view_is, c.in-Black.is) (c.len-in-Black.ensures.value ∙ men); at_most = omega (arith, c.len-in-Black.ensures.value, men, men_of-board_of c.self.inside.cells Black c.self.invariant.2, c.self.invariant.0 Black) }
