-- What a pawn becomes, as the one byte that is kept of it.
--   kind_promoted   what it becomes, if anything
--   promotion_of    its byte; kind_byte, that of a kind
use Rattle.std.specs.Prelude.{◌≡◌, Option, Some, None, refl}
use Rattle.chess_types.specs.declared.board.kept_move.Promotion.{Promotion}
use Rattle.chess_types.specs.declared.board.kept_move.Promotion.TheVariants as become
use Rattle.chess_types.specs.declared.board.man.Kind.{Kind}
use Rattle.chess_types.specs.declared.board.man.Kind.TheVariants as kinds

abbrev pub kind_promoted : Promotion → Option Kind
kind_promoted become.Nothing = None
kind_promoted become.Pawn = Some kinds.Pawn
kind_promoted become.Knight = Some kinds.Knight
kind_promoted become.Bishop = Some kinds.Bishop
kind_promoted become.Rook = Some kinds.Rook
kind_promoted become.Queen = Some kinds.Queen
kind_promoted become.King = Some kinds.King

-- the byte of a kind
abbrev pub kind_byte : Kind → Promotion
kind_byte kinds.Pawn = become.Pawn
kind_byte kinds.Knight = become.Knight
kind_byte kinds.Bishop = become.Bishop
kind_byte kinds.Rook = become.Rook
kind_byte kinds.Queen = become.Queen
kind_byte kinds.King = become.King

abbrev pub promotion_of : Option Kind → Promotion
promotion_of None = become.Nothing
promotion_of (Some kind) = kind_byte kind

-- a byte is that of what it stands for
abbrev pub promotion_of-kind : (p : Promotion) → promotion_of (kind_promoted p) ≡ p
promotion_of-kind become.Nothing = refl
promotion_of-kind become.Pawn = refl
promotion_of-kind become.Knight = refl
promotion_of-kind become.Bishop = refl
promotion_of-kind become.Rook = refl
promotion_of-kind become.Queen = refl
promotion_of-kind become.King = refl
