-- How C sees a move: three numbers.
--   promotion_code, promotion_of_code  what a pawn becomes: 0 for no promotion, else 1 to 4 for knight, bishop, rook and queen; and read back
--   move_shown, move_meant             a move as three numbers, and read back: squares are below 64
--   IsWrittenLong                      the text of a move in the long algebraic notation of UCI
--   IsTextOf, IsParsed   a text is that of a move; the move whose text it is
use Rattle.std.specs.Prelude.{◌≡◌, ◌⊎◌, ◌<◌, ℕ, ◌==◌, nat_lt, ◌&&◌, if◌then◌else◌, List, Option, Some, None}
use Rattle.chess_types.specs.declared.board.man.Kind.{Kind}
use Rattle.chess_types.specs.declared.board.man.Kind.TheVariants.{Knight, Bishop, Rook, Queen}
use Rattle.chess_types.specs.board.MoveParts.{MoveParts}
use Rattle.chess_types.specs.board.Texts.{IsPromotion, move_text}
use Rattle.chess_cli.specs.declared.board_command.refusal.Refusal.TheVariants.{Argument, Form}
use Rattle.chess_bindings.specs.Codes.{ok}
use Rattle.chess_bindings.specs.Handed.{IsHanded}
use Rattle.chess_c.specs.Codes.{refusal_code}
use Rattle.chess_c.specs.declared.moves.CMove.{CMove}

-- the number of what a pawn becomes
abbrev pub promotion_code : Option Kind → ℕ
promotion_code (Some Knight) = 1
promotion_code (Some Bishop) = 2
promotion_code (Some Rook) = 3
promotion_code (Some Queen) = 4
promotion_code _ = 0

-- what a number says that a pawn becomes
abbrev pub promotion_of_code : ℕ → Option (Option Kind)
promotion_of_code code =
    if code == 0 then Some None else if code == 1 then Some (Some Knight) else if code == 2 then Some (Some Bishop) else if code == 3 then Some (Some Rook)
    else if code == 4 then Some (Some Queen) else None

-- a move as C sees it
abbrev pub move_shown : MoveParts → CMove
move_shown m = record { from = m.from; to = m.to; promotion = promotion_code m.promo }

-- between those squares
abbrev pub move_between : ℕ → ℕ → Option (Option Kind) → Option MoveParts
move_between from to None = None
move_between from to (Some promo) = Some (record { from = from; to = to; promo = promo })

-- the move that C means, if it is one
abbrev pub move_meant : CMove → Option MoveParts
move_meant m = if nat_lt m.from 64 && nat_lt m.to 64 then move_between m.from m.to (promotion_of_code m.promotion) else None

-- the long text of a move is written, or the numbers are no move
abbrev pub IsWrittenLong : Option MoveParts → (code count count' : ℕ) → (old new : List ℕ) → Type 0
IsWrittenLong None code count count' old new = (code ≡ refusal_code Argument) × (count' ≡ count) × (new ≡ old)
IsWrittenLong (Some m) code count count' old new = IsHanded (move_text m) code count' old new

-- the long text of a move of the board, which names nothing or a promotion
abbrev pub IsTextOf : List ℕ → MoveParts → Type 0
IsTextOf text m = (m.from < 64) × (m.to < 64) × IsPromotion m.promo × (text ≡ move_text m)

-- the move that has that text is written, or no move has it
abbrev pub IsParsed : List ℕ → ℕ → (said said' : CMove) → Type 0
IsParsed text code said said' =
    ((code ≡ ok) × (m : MoveParts) × IsTextOf text m × (said' ≡ move_shown m))
    ⊎ ((code ≡ refusal_code Form) × (said' ≡ said) × ((m : MoveParts) → IsTextOf text m → ⊥))
