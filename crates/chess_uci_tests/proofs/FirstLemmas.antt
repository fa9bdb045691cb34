-- The first of some roots are legal where all are.
use Rattle.std.proofs.Common.{◌≡◌, ℕ, true, List, take, sym, subst}
use Rattle.std.specs.List.{All}
use Rattle.std.proofs.lemmas.List.Elements.{All-take}
use Rattle.chess_types.specs.board.MoveParts.{MoveParts}
use Rattle.chess_types.specs.board.Legal.{is_legal}
use Rattle.chess_types.specs.board.Lines.{Line, last}

pub first_legal : (line : Line) (roots first : List MoveParts) (k : ℕ) → first ≡ take k roots → All (λ m. is_legal (last line) m ≡ true) roots → All (λ m. is_legal (last line) m ≡ true) first
first_legal line roots first k e legal =
    subst (All (λ m. is_legal (last line) m ≡ true)) (sym e) (All-take (λ m. is_legal (last line) m ≡ true) k roots legal)
