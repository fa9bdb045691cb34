-- What texts are read as, where they are read into a result.
--   ReadsSquare   a square from its name (PGN 8.2.3.2), and an error from any other text
--   ReadsMove     a move from its text in the long algebraic notation of UCI, and an error from any other
use Rattle.std.specs.Prelude.{◌≡◌, ℕ, ◌<◌, List, Result, Ok, IfOk}
use Rattle.chess_types.specs.board.MoveParts.{MoveParts}
use Rattle.chess_types.specs.board.Texts.{IsPromotion, move_text, square_text}

-- exactly the text of a square is read, as that square
pub record ReadsSquare {E : Type 0} (text : List ℕ) (read : Result ℕ E) : Type 0 where
  pub sound : IfOk read (λ square. text ≡ square_text square)
  pub complete : (square : ℕ) → square < 64 → text ≡ square_text square → read ≡ Ok square

-- exactly the text of a move is read, as that move
pub record ReadsMove {E : Type 0} (text : List ℕ) (read : Result MoveParts E) : Type 0 where
  pub promotion : IfOk read (λ m. IsPromotion m.promo)
  pub sound : IfOk read (λ m. text ≡ move_text m)
  pub complete : (m : MoveParts) → m.from < 64 → m.to < 64 → IsPromotion m.promo → text ≡ move_text m → read ≡ Ok m
