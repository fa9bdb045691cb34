-- The start that tags tell is a position whose counters are small and whose men stand on the board.
use Rattle.std.proofs.Common.{◌≡◌, ℕ, ◌+◌, ◌*◌, ◌≤◌, ◌==◌, max, Bool, true, false, not, if◌then◌else◌, List, [], ◌∷◌, ◌++◌, length, length-append, refl, sym, ap, subst, ◌∙◌, arith}
use Rattle.std.specs.Prelude.{Option, Some, None, Result, Ok, Err, ok_or}
use Rattle.std.proofs.lemmas.Bool.{eqb-true}
use Rattle.std.proofs.lemmas.List.{get_or_past}
use Rattle.chess_types.specs.declared.board.man.Man.{Man}
use Rattle.chess_types.specs.board.Attack.{in_check}
use Rattle.chess_types.specs.board.Board.{Board, man_at}
use Rattle.chess_types.specs.board.Cells.{board_of}
use Rattle.chess_types.specs.board.Men.{opponent}
use Rattle.chess_types.specs.board.Position.{PositionParts, IsWellFormed, start}
use Rattle.chess_types.proofs.CellLemmas.{get-board_of}
use Rattle.chess_types.proofs.StartLemmas.{start_quiet, start_setup}
use Rattle.chess_fen.specs.declared.fault.FenFault.{FenFault}
use Rattle.chess_fen.specs.declared.fault.FenFault.TheVariants.{InCheck, Kings, PawnRank, Placement, TooManyMen}
use Rattle.chess_fen.specs.Ranks.{board_cells, both_cells, cells_of, cells_of_ranks, has_adjacent_digits, of_length, rank_cells, ranks}
use Rattle.chess_fen.specs.Reading.{◌>>=◌, FieldTexts, board_in, castling_in, counter_in, demand, fields_in, has_at_most_16_each, has_one_king_each, has_pawn_on_edge, fen_reading, side_in, target_in}
use Rattle.chess_fen.proofs.FieldLemmas.{counter_small}
use Rattle.chess_fen.proofs.SetupLemmas.{good_men, setup_read}
use Rattle.chess_pgn.specs.Tags.{position_in, start_by}
use Rattle.chess_pgn.proofs.FenTextLemmas.{start_on_board}

-- ---- 64 squares

abbrev Cells : Type 0
Cells = List (Option Man)

of_eight : (cells : Option Cells) (found : Cells) → of_length 8 cells ≡ Some found → length found ≡ 8
of_eight None found e = absurd cc
of_eight (Some cells) found e = step (length cells == 8) refl e
  where
    some_is : (x y : Cells) → Some x ≡ Some y → x ≡ y
    some_is x y h = cc

    step : (v : Bool) → (length cells == 8) ≡ v → (if v then Some cells else None) ≡ Some found → length found ≡ 8
    step true h k = ap length (sym (some_is cells found k)) ∙ eqb-true _ _ h
    step false h k = absurd cc

rank_eight : (bytes : List ℕ) (found : Cells) → rank_cells bytes ≡ Some found → length found ≡ 8
unfolding rank_cells
rank_eight bytes found e = step (has_adjacent_digits bytes) e
  where
    step : (v : Bool) → (if v then None else of_length 8 (cells_of bytes)) ≡ Some found → length found ≡ 8
    step true h = absurd cc
    step false h = of_eight (cells_of bytes) found h

both_long : (a b : Option Cells) (m n : ℕ) (found : Cells) → ((x : Cells) → a ≡ Some x → length x ≡ m) → ((x : Cells) → b ≡ Some x → length x ≡ n) → both_cells a b ≡ Some found → length found ≡ m + n
both_long None b m n found f g e = absurd cc
both_long (Some x) None m n found f g e = absurd cc
both_long (Some x) (Some y) m n found f g e = ap length (sym (some_is (x ++ y) found e)) ∙ omega (arith, length-append x y, f x refl, g y refl)
  where
    some_is : (x y : Cells) → Some x ≡ Some y → x ≡ y
    some_is x y h = cc

ranks_long : (texts : List (List ℕ)) (found : Cells) → cells_of_ranks texts ≡ Some found → length found ≡ 8 * length texts
unfolding cells_of_ranks
ranks_long [] found e = ap length (sym (some_is [] found e))
  where
    some_is : (x y : Cells) → Some x ≡ Some y → x ≡ y
    some_is x y h = cc
ranks_long (text ∷ texts) found e =
    both_long (cells_of_ranks texts) (rank_cells text) (8 * length texts) 8 found (ranks_long texts) (rank_eight text) e ∙ omega arith

cells_long : (field : List ℕ) (found : Cells) → board_cells field ≡ Some found → length found ≡ 64
unfolding board_cells
cells_long field found e = step (length (ranks field) == 8) refl e
  where
    step : (v : Bool) → (length (ranks field) == 8) ≡ v → (if v then cells_of_ranks (ranks field) else None) ≡ Some found → length found ≡ 64
    step true h k = omega (arith, ranks_long (ranks field) found k, eqb-true _ _ h)
    step false h k = absurd cc

-- ---- the parts of what is read

bound : {A B : Type 0} (r : Result A FenFault) (next : A → Result B FenFault) (y : B) → r >>= next ≡ Ok y → (x : A) × (r ≡ Ok x) × (next x ≡ Ok y)
bound (Ok x) next y e = (x, refl, e)
bound (Err fault) next y e = absurd cc

found_cells : (cells : Option Cells) (x : Cells) → ok_or cells Placement ≡ Ok x → cells ≡ Some x
found_cells None x e = absurd cc
found_cells (Some cells) x e = ap (λ (c : Cells). Some c) (ok_is cells x e)
  where
    ok_is : (x y : Cells) → ◌≡◌ {A = Result Cells FenFault} (Ok x) (Ok y) → x ≡ y
    ok_is x y h = cc

board_on : (field : List ℕ) (board : Board) → board_in field ≡ Ok board → (s : ℕ) → 64 ≤ s → man_at board s ≡ None
unfolding board_in
board_on field board e s high =
    let a = bound (ok_or (board_cells field) Placement) _ board e in
    let b = bound (demand (has_one_king_each (board_of a.0)) Kings) _ board a.2 in
    let c = bound (demand (not (has_pawn_on_edge (man_at (board_of a.0)))) PawnRank) _ board b.2 in
    let d = bound (demand (has_at_most_16_each (board_of a.0)) TooManyMen) _ board c.2 in
    let long = cells_long field a.0 (found_cells (board_cells field) a.0 a.1) in
    ap (λ (x : Board). man_at x s) (sym (board_is (board_of a.0) board d.2)) ∙ get-board_of a.0 s ∙ get_or_past a.0 s None (omega (arith, long, high))
  where
    board_is : (x y : Board) → ◌≡◌ {A = Result Board FenFault} (Ok x) (Ok y) → x ≡ y
    board_is x y h = cc

-- what is true of the position in which a game begins
pub record IsStart (p : PositionParts) : Type 0 where
  pub well : IsWellFormed p
  pub on_board : (s : ℕ) → 64 ≤ s → man_at p.placement s ≡ None
  pub clock : p.clock ≤ 99999
  pub number : p.number ≤ 99999

not_false : (v : Bool) (x : Unit {0}) → demand (not v) InCheck ≡ Ok x → v ≡ false
not_false true x e = absurd cc
not_false false x e = refl

state_is : (x y : PositionParts) → ◌≡◌ {A = Result PositionParts FenFault} (Ok x) (Ok y) → x ≡ y
state_is x y h = cc

one_at_least : (n : ℕ) → 1 ≤ max n 1
one_at_least n = omega arith

still_small : (n : ℕ) → n ≤ 99999 → max n 1 ≤ 99999
still_small n small = omega (arith, small)

read_start : (text : List ℕ) (p : PositionParts) → fen_reading text ≡ Ok p → IsStart p
unfolding fen_reading
read_start text p e =
    let a = bound (fields_in text) _ p e in
    let fields : FieldTexts = a.0 in
    let b = bound (board_in fields.placement) _ p a.2 in
    let c = bound (side_in fields.side) _ p b.2 in
    let d = bound (castling_in fields.castling) _ p c.2 in
    let f = bound (target_in fields.target) _ p d.2 in
    let g = bound (counter_in fields.clock) _ p f.2 in
    let h = bound (counter_in fields.number) _ p g.2 in
    let i = bound (demand (not (in_check (man_at b.0) (opponent c.0))) InCheck) _ p h.2 in
    let good = good_men fields.placement b.0 (sym b.1) in
    subst IsStart (state_is _ p i.2) (record {
      well = record { setup = setup_read b.0 c.0 d.0 f.0 g.0 (max h.0 1) good (one_at_least h.0); quiet = not_false (in_check (man_at b.0) (opponent c.0)) i.0 i.1 };
      on_board = board_on fields.placement b.0 b.1;
      clock = counter_small fields.clock g.0 (sym g.1);
      number = still_small h.0 (counter_small fields.number h.0 (sym h.1));
    })

usual_start : IsStart start
unfolding start
usual_start = record { well = record { setup = start_setup; quiet = start_quiet }; on_board = start_on_board; clock = omega arith; number = omega arith }

by_reading : (r : Result PositionParts FenFault) (p : PositionParts) → position_in r ≡ Some p → r ≡ Ok p
by_reading (Ok q) p e = ap (λ (x : PositionParts). Ok x) (some_is q p e)
  where
    some_is : (x y : PositionParts) → Some x ≡ Some y → x ≡ y
    some_is x y h = cc
by_reading (Err fault) p e = absurd cc

pub told_start : (fen : Option (List ℕ)) (p : PositionParts) → start_by fen ≡ Some p → IsStart p
told_start None p e = subst IsStart (some_is start p e) usual_start
  where
    some_is : (x y : PositionParts) → Some x ≡ Some y → x ≡ y
    some_is x y h = cc
told_start (Some fen) p e = read_start fen p (by_reading (fen_reading fen) p e)
