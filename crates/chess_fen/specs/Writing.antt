-- The one text of a position, its FEN (PGN 16.1.3): six fields separated by one space.
--   placement_text   the men (PGN 16.1.3.1): rank 8 first, in each rank file a first
--   side_text        the side to move (PGN 16.1.3.2)
--   rights_text      the castling rights held (PGN 16.1.3.3)
--   target_text      the en passant target (PGN 16.1.3.4)
--   four_fields      the first four of them, with that target
--   identity         the text by which the Laws tell positions apart (FIDE Laws 9.2.3)
--   written          the whole text, with the halfmove clock and the fullmove number (PGN 16.1.3.5 and 16.1.3.6)
use Rattle.std.specs.Prelude.{ℕ, ◌+◌, ◌*◌, ◌==◌, Bool, if◌then◌else◌, List, [], ◌∷◌, ◌++◌, map, Option, Some, None, codes, decimal}
use Rattle.std.specs.List.{range_with_len, join_with_byte}
use Rattle.std.specs.Str.{byte}
use Rattle.chess_types.specs.declared.board.man.Colour.{Colour}
use Rattle.chess_types.specs.declared.board.man.Colour.TheVariants.{White, Black}
use Rattle.chess_types.specs.declared.board.man.Man.{Man}
use Rattle.chess_types.specs.declared.board.position.Rights.{Rights}
use Rattle.chess_types.specs.board.Board.{Men}
use Rattle.chess_types.specs.board.Position.{PositionParts, man_on}
use Rattle.chess_types.specs.board.Repetition.{counting_target}
use Rattle.chess_types.specs.board.Texts.{man_letter, square_text}

-- the digit of so many empty squares, up to eight; nothing for none
abbrev pub run_text : ℕ → List ℕ
run_text run = if run == 0 then [] else (byte "0" + run) ∷ []

-- what stands on some squares, one after the other, before the first of which stand so many empty ones
abbrev pub cells_text : ℕ → List (Option Man) → List ℕ
cells_text run [] = run_text run
cells_text run (None ∷ cells) = cells_text (run + 1) cells
cells_text run (Some man ∷ cells) = run_text run ++ man_letter man ∷ cells_text 0 cells

-- the squares of a rank, from file a
abbrev pub rank_squares : ℕ → List ℕ
rank_squares rank = range_with_len (8 * rank) 8

-- the text of a rank
unfoldable pub rank_text : Men → ℕ → List ℕ
rank_text man_on rank = cells_text 0 (map man_on (rank_squares rank))

-- the ranks, separated by slashes
unfoldable pub placement_text : Men → List ℕ
placement_text man_on = join_with_byte (byte "/") (map (rank_text man_on) (7 ∷ 6 ∷ 5 ∷ 4 ∷ 3 ∷ 2 ∷ 1 ∷ 0 ∷ []))

-- `w` or `b`
abbrev pub side_text : Colour → List ℕ
side_text White = codes "w"
side_text Black = codes "b"

-- the letter, where the right is held
abbrev pub right_text : Bool → ℕ → List ℕ
right_text held letter = if held then letter ∷ [] else []

-- the text, and a dash for none
abbrev pub or_dash : List ℕ → List ℕ
or_dash [] = codes "-"
or_dash (letter ∷ letters) = letter ∷ letters

-- the letters of the rights held, in the order KQkq
unfoldable pub rights_text : Rights → List ℕ
rights_text rights =
    or_dash (right_text rights.white_king (byte "K") ++ right_text rights.white_queen (byte "Q") ++ right_text rights.black_king (byte "k") ++
    right_text rights.black_queen (byte "q"))

-- the target's square, or `-`
unfoldable pub target_text : Option ℕ → List ℕ
target_text None = codes "-"
target_text (Some square) = square_text square

-- the men, the side to move, the castling rights, and that target in place of the position's own
unfoldable pub four_fields : PositionParts → Option ℕ → List ℕ
four_fields p target = join_with_byte (byte " ") (placement_text (man_on p) ∷ side_text p.side ∷ rights_text p.rights ∷ target_text target ∷ [])

-- the same with the target where a pawn can be captured there, else with none
abbrev pub identity : PositionParts → List ℕ
identity p = four_fields p (counting_target p)

-- the FEN of a position
unfoldable pub written : PositionParts → List ℕ
written p =
    join_with_byte (byte " ") (placement_text (man_on p) ∷ side_text p.side ∷ rights_text p.rights ∷ target_text p.target ∷ decimal p.clock ∷ decimal p.number ∷ [])
