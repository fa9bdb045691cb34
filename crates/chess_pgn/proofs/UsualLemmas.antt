-- The FEN of the position in which a game begins, and a game without moves.
use Rattle.std.proofs.Common.{◌≡◌, ℕ, Bool, Ok, sym, true, false, get_or, List, [], ◌∷◌, None, refl, ap, ◌∙◌, arith}
use Rattle.std.specs.Prelude.{bytes_eq, codes, decimal}
use Rattle.std.proofs.lemmas.Slice.Eq.{bytes_eq-Decides}
use Rattle.std.specs.Fmt.{digits}
use Rattle.std.specs.List.{join_with_byte}
use Rattle.std.specs.Str.{byte}
use Rattle.chess_types.specs.board.Board.{Men}
use Rattle.chess_types.specs.board.Position.{PositionParts, man_on, start, start_cells}
use Rattle.chess_types.specs.declared.board.man.Colour.TheVariants.{White}
use Rattle.chess_types.proofs.CellLemmas.{get-board_of}
use Rattle.chess_tree.specs.Forest.{Forest, Bare, Node, count}
use Rattle.chess_fen.specs.Reading.{fen_reading}
use Rattle.chess_fen.specs.Writing.{placement_text, rank_text, rights_text, side_text, target_text, written}
use Rattle.chess_pgn.specs.Written.{moves_text}
use Rattle.chess_pgn.proofs.FenTextLemmas.{usual}

-- what stands on the squares, as a list gives it
start_look : Men
start_look s = get_or start_cells s None

start_look-is : man_on start ≡ start_look
unfolding start start_look
start_look-is i s = get-board_of start_cells s i

start_text : Men → List ℕ
start_text l = join_with_byte (byte " ") (placement_text l ∷ side_text White ∷ rights_text start.rights ∷ target_text None ∷ decimal 0 ∷ decimal 1 ∷ [])

written_start : written start ≡ start_text (man_on start)
unfolding written start start_text
written_start = refl

computed : start_text start_look ≡ codes "rnbqkbnr/pppppppp/8/8/8/8/PPPPPPPP/RNBQKBNR w KQkq - 0 1"
unfolding start_text start_look start start_cells placement_text rank_text rights_text target_text digits
computed = refl

pub start_written : written start ≡ codes "rnbqkbnr/pppppppp/8/8/8/8/PPPPPPPP/RNBQKBNR w KQkq - 0 1"
start_written = written_start ∙ ap start_text start_look-is ∙ computed

pub no_moves : (p : PositionParts) (f : Forest) → count f ≡ 0 → moves_text false true p f ≡ []
no_moves p Bare e = refl
no_moves p (Node m nags comment below next) e = absurd (omega (arith, e))

-- a position whose FEN is that of the usual one is that
pub is_start : (p q : PositionParts) (bytes slice : List ℕ) (r : Bool) → p ≡ q → bytes ≡ written p → slice ≡ bytes → fen_reading bytes ≡ Ok p → r ≡ bytes_eq slice (written start) → r ≡ true → q ≡ start
is_start p q bytes slice r same b e read eq holds =
    sym same ∙ usual p (sym (ap fen_reading b) ∙ read) (sym b ∙ sym e ∙ (bytes_eq-Decides slice (written start)).0 (sym eq ∙ holds))
