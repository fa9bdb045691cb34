-- What is read without a fault makes a setup of a position.
use Rattle.std.proofs.Common.{◌≡◌, ℕ, ◌≤◌, Bool, true, false, not, List, Option, Some, None, Ok, refl, sym, ap, subst, ◌∙◌}
use Rattle.std.specs.Prelude.{ok_or}
use Rattle.std.proofs.lemmas.Bool.{and_parts}
use Rattle.std.proofs.lemmas.Option.{cond_some}
use Rattle.chess_types.specs.declared.board.man.Colour.{Colour}
use Rattle.chess_types.specs.declared.board.man.Colour.TheVariants.{White, Black}
use Rattle.chess_types.specs.declared.board.man.Kind.TheVariants.{King, Rook}
use Rattle.chess_types.specs.declared.board.man.Man.{Man}
use Rattle.chess_types.specs.declared.board.position.Rights.{Rights}
use Rattle.chess_types.specs.declared.board.position.Wing.{Wing}
use Rattle.chess_types.specs.declared.board.position.Wing.TheVariants.{KingSide, QueenSide}
use Rattle.chess_types.specs.board.Board.{Board, Men, man_at}
use Rattle.chess_types.specs.board.Cells.{board_of}
use Rattle.chess_types.specs.board.Position.{IsSetup, is_explained, holds}
use Rattle.chess_fen.specs.declared.fault.FenFault.TheVariants.{Placement, Kings, PawnRank, TooManyMen}
use Rattle.chess_types.specs.declared.board.faults.PositionFault.{PositionFault}
use Rattle.chess_types.specs.declared.board.faults.PositionFault.TheVariants as Position
use Rattle.chess_types.specs.board.Faults.{men_fault}
use Rattle.chess_fen.specs.declared.fault.FenFault.{FenFault}
use Rattle.chess_fen.specs.Faults.{fault_of}
use Rattle.std.proofs.Common.{cond, Result, Err}
use Rattle.chess_fen.specs.Ranks.{board_cells}
use Rattle.chess_fen.specs.Reading.{◌>>=◌, demand, has_one_king_each, has_pawn_on_edge, has_at_most_16_each, board_in, is_home, kept_rights, kept_target}
use Rattle.chess_types.proofs.SameLemmas.{is_man_is}
use Rattle.chess_types.proofs.FaultLemmas.{one_king_each, few_each, inner_pawns}
pub use Rattle.chess_types.proofs.FaultLemmas.{HasGoodMen}

-- the board, or the fault of a FEN that its men have
abbrev pub refused_by : Option PositionFault → Board → Result Board FenFault
refused_by None board = Ok board
refused_by (Some fault) board = Err (fault_of fault)

tests_are_demands : (kings pawns few : Bool) (board : Board) →
    refused_by (cond (not kings) (Some Position.Kings) (cond pawns (Some Position.PawnRank) (cond (not few) (Some Position.TooManyMen) None))) board
    ≡ (do
      _ ← demand kings Kings
      _ ← demand (not pawns) PawnRank
      _ ← demand few TooManyMen
      Ok board)
tests_are_demands true true few board = refl
tests_are_demands true false true board = refl
tests_are_demands true false false board = refl
tests_are_demands false pawns few board = refl

there : (cells : Option (List (Option Man))) (found : List (Option Man)) → Ok found ≡ ok_or cells Placement → cells ≡ Some found
there None found h = absurd (cc)
there (Some cells) found h = cc

-- what is read of a field that stands for 64 squares
pub men_read : (field : List ℕ) (cells : List (Option Man)) → Ok cells ≡ ok_or (board_cells field) Placement → board_in field ≡ refused_by (men_fault (board_of cells)) (board_of cells)
unfolding board_in men_fault
men_read field cells h =
    rw (there (board_cells field) cells h) (sym (tests_are_demands (has_one_king_each (board_of cells)) (has_pawn_on_edge (man_at (board_of cells))) (has_at_most_16_each (board_of cells)) (board_of cells)))

demands_met : (kings pawns few : Bool) (was board : Board) → Ok board ≡ (do
  _ ← demand kings Kings
  _ ← demand (not pawns) PawnRank
  _ ← demand few TooManyMen
  Ok was) → (kings ≡ true) × (pawns ≡ false) × (few ≡ true) × (was ≡ board)
demands_met false pawns few was board h = absurd (cc)
demands_met true true few was board h = absurd (cc)
demands_met true false false was board h = absurd (cc)
demands_met true false true was board h = (refl, refl, refl, cc)

good_men_if_read : (cells : Option (List (Option Man))) (board : Board) → Ok board ≡ (do
  found ← ok_or cells Placement
  _ ← demand (has_one_king_each (board_of found)) Kings
  _ ← demand (not (has_pawn_on_edge (man_at (board_of found)))) PawnRank
  _ ← demand (has_at_most_16_each (board_of found)) TooManyMen
  Ok (board_of found)) → HasGoodMen board
good_men_if_read None board h = absurd (cc)
good_men_if_read (Some cells) board h =
    let met = demands_met (has_one_king_each (board_of cells)) (has_pawn_on_edge (man_at (board_of cells))) (has_at_most_16_each (board_of cells)) (board_of cells) board h in
    subst HasGoodMen met.3 (record { kings = met.0; pawns = met.1; few = met.2 })

pub good_men : (field : List ℕ) (board : Board) → Ok board ≡ board_in field → HasGoodMen board
unfolding board_in
good_men field board h = good_men_if_read (board_cells field) board h

kept_home : (man_on : Men) (rights : Rights) (c : Colour) (w : Wing) → holds (kept_rights man_on rights) c w ≡ true → is_home man_on c w ≡ true
unfolding kept_rights
kept_home man_on rights White KingSide h = (and_parts _ _ h).1
kept_home man_on rights White QueenSide h = (and_parts _ _ h).1
kept_home man_on rights Black KingSide h = (and_parts _ _ h).1
kept_home man_on rights Black QueenSide h = (and_parts _ _ h).1

kept_explained : (side : Colour) (man_on : Men) (written : Option ℕ) (t : ℕ) → kept_target side man_on written ≡ Some t → is_explained side man_on t ≡ true
unfolding kept_target
kept_explained side man_on None t h = absurd (cc)
kept_explained side man_on (Some s) t h =
    let kept = cond_some _ _ _ h in
    ap (is_explained side man_on) (sym kept.1) ∙ kept.0

pub setup_read : (board : Board) (side : Colour) (rights : Rights) (target : Option ℕ) (clock number : ℕ) → HasGoodMen board → 1 ≤ number →
    IsSetup (record { placement = board; side = side; rights = kept_rights (man_at board) rights; target = kept_target side (man_at board) target; clock = clock; number = number })
setup_read board side rights target clock number good one = record {
  kings = one_king_each board good;
  few = few_each board good;
  pawns = inner_pawns (man_at board) good.pawns;
  king_at_home = λ c w h. is_man_is _ c King (and_parts _ _ (kept_home (man_at board) rights c w h)).0;
  rook_at_home = λ c w h. is_man_is _ c Rook (and_parts _ _ (kept_home (man_at board) rights c w h)).1;
  target = kept_explained side (man_at board) target;
  number = one;
}
