-- A position's FEN as a tag's value: it stands in one line, and reads as that position.
use Rattle.std.proofs.Common.{◌≡◌, ℕ, ◌<◌, ◌≤◌, Bool, true, false, List, [], ◌∷◌, decimal, sym, ap, ◌∙◌, arith}
use Rattle.std.specs.Prelude.{Option, Some, None, Ok, Result}
use Rattle.std.specs.Str.Parse.{AllDigits}
use Rattle.std.proofs.lemmas.Bool.Decides.{nat_tests}
use Rattle.std.proofs.lemmas.Fmt.{decimal_is_IsNumeral}
use Rattle.std.proofs.lemmas.List.{get_or_past}
use Rattle.std.proofs.lemmas.Str.Parse.{digit_from_value}
use Rattle.chess_types.specs.declared.board.man.Colour.{Colour}
use Rattle.chess_types.specs.declared.board.man.Colour.TheVariants.{White, Black}
use Rattle.chess_types.specs.declared.board.position.Rights.{Rights}
use Rattle.chess_types.specs.board.Board.{man_at}
use Rattle.chess_types.specs.board.Position.{PositionParts, man_on, start, start_cells}
use Rattle.chess_types.proofs.CellLemmas.{get-board_of}
use Rattle.chess_types.proofs.StartLemmas.{start_quiet, start_setup}
use Rattle.chess_items.specs.Items.{in_line}
use Rattle.chess_fen.specs.Reading.{fen_reading}
use Rattle.chess_fen.specs.Writing.{or_dash, placement_text, right_text, rights_text, side_text, target_text, written}
use Rattle.chess_fen.specs.declared.fault.FenFault.{FenFault}
use Rattle.chess_fen.proofs.BackLemmas.{read_back}
use Rattle.chess_fen.proofs.PartLemmas.{Above, Above-append, Above-joined, Above-less}
use Rattle.chess_fen.proofs.PlacementLemmas.{placement_text-word}
use Rattle.chess_pgn.specs.Laws.{IsTagValue}

-- ---- no part of it has a line feed

side_above : (side : Colour) → Above 31 (side_text side)
side_above White = (omega arith, tt)
side_above Black = (omega arith, tt)

right_above : (held : Bool) (letter : ℕ) → 31 < letter → Above 31 (right_text held letter)
right_above true letter high = (high, tt)
right_above false letter high = tt

dash_above : (letters : List ℕ) → Above 31 letters → Above 31 (or_dash letters)
dash_above [] high = (omega arith, tt)
dash_above (letter ∷ letters) high = high

rights_above : (rights : Rights) → Above 31 (rights_text rights)
unfolding rights_text
rights_above rights =
    let king = right_above rights.white_king 75 (omega arith) in
    let queen = right_above rights.white_queen 81 (omega arith) in
    let other_king = right_above rights.black_king 107 (omega arith) in
    let other_queen = right_above rights.black_queen 113 (omega arith) in
    dash_above _ (Above-append 31 _ _ (Above-append 31 _ _ (Above-append 31 _ _ king queen) other_king) other_queen)

target_above : (target : Option ℕ) → Above 31 (target_text target)
unfolding target_text
target_above None = (omega arith, tt)
target_above (Some t) = (omega arith, (omega arith, tt))

digits_above : (digits : List ℕ) → AllDigits 10 digits → Above 31 digits
digits_above [] all = tt
digits_above (digit ∷ digits) all = let range = digit_from_value digit all.0 in (omega arith, digits_above digits all.1)

decimal_above : (n : ℕ) → n ≤ 99999 → Above 31 (decimal n)
decimal_above n small = digits_above (decimal n) (decimal_is_IsNumeral n (omega arith)).0.1

written_above : (p : PositionParts) → p.clock ≤ 99999 → p.number ≤ 99999 → Above 31 (written p)
unfolding written
written_above p clock number =
    Above-joined 31 32 (placement_text (man_on p) ∷ side_text p.side ∷ rights_text p.rights ∷ target_text p.target ∷ decimal p.clock ∷ decimal p.number ∷ []) (omega arith) (
      Above-less 31 32 (placement_text (man_on p)) (omega arith) (placement_text-word (man_on p)).1,
      (side_above p.side, (rights_above p.rights, (target_above p.target, (decimal_above p.clock clock, (decimal_above p.number number, tt))))),
    )

above_in_line : (b : ℕ) → 31 < b → in_line b ≡ true
above_in_line b high = grind (arith, nat_tests, high)

above_value : (text : List ℕ) → Above 31 text → IsTagValue text
above_value [] high = tt
above_value (b ∷ text) high = (above_in_line b high.0, above_value text high.1)

pub fen_value : (p : PositionParts) → p.clock ≤ 99999 → p.number ≤ 99999 → IsTagValue (written p)
fen_value p clock number = above_value (written p) (written_above p clock number)

-- ---- it is read again

pub start_on_board : (s : ℕ) → 64 ≤ s → man_at start.placement s ≡ None
unfolding start
start_on_board s high = get-board_of start_cells s ∙ get_or_past start_cells s None (unfold start_cells in omega (arith, high))

start_read : fen_reading (written start) ≡ Ok start
start_read = read_back start (unfold start in omega arith) (unfold start in omega arith) (record { setup = start_setup; quiet = start_quiet }) start_on_board

ok_is : (p q : PositionParts) → ◌≡◌ {A = Result PositionParts FenFault} (Ok p) (Ok q) → p ≡ q
ok_is p q e = cc

-- where the usual position's FEN is written, it is the usual position
pub usual : (p : PositionParts) → fen_reading (written p) ≡ Ok p → written p ≡ written start → p ≡ start
usual p r e = ok_is p start (sym r ∙ ap fen_reading e ∙ start_read)
