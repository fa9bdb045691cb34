-- Tests of the squares of the men are tests of their board, and what they find wrong; fields without a fault make a setup.
use Rattle.std.proofs.Common.{◌≡◌, ℕ, ◌+◌, ◌<◌, ◌≤◌, nat_le, Bool, true, ◌&&◌, ◌||◌, arith, List, length, Option, None, refl, sym, ◌∙◌, ap}
use Rattle.std.specs.Prelude.{count_by}
use Rattle.std.proofs.lemmas.Bool.{and_parts, leb-true}
use Rattle.chess_types.specs.declared.board.man.Colour.{Colour}
use Rattle.chess_types.specs.declared.board.man.Colour.TheVariants.{White, Black}
use Rattle.chess_types.specs.declared.board.man.Man.{Man}
use Rattle.chess_types.specs.board.Squares.{squares}
use Rattle.chess_types.specs.board.Board.{man_at}
use Rattle.chess_types.specs.board.Cells.{board_of}
use Rattle.chess_types.specs.board.Men.{holds_pawn, is_of, men_of}
use Rattle.chess_types.proofs.MenLemmas.{count_squares-board_of}
use Rattle.chess_types.specs.board.Faults.{has_one_king_each, is_edge, has_pawn_on_edge, has_at_most_16_each, men_fault, is_home, are_home, is_explained_if, fields_fault, with_cell}
use Rattle.chess_types.specs.declared.board.faults.PositionFault.{PositionFault}
use Rattle.chess_types.specs.declared.board.man.Kind.TheVariants.{King, Rook}
use Rattle.chess_types.specs.declared.board.position.Rights.{Rights}
use Rattle.chess_types.specs.declared.board.position.Wing.{Wing}
use Rattle.chess_types.specs.declared.board.position.Wing.TheVariants.{KingSide, QueenSide}
use Rattle.chess_types.specs.board.Board.{Board, Men}
use Rattle.chess_types.specs.board.Men.{kings_of}
use Rattle.chess_types.specs.board.Squares.{rank_of}
use Rattle.chess_types.specs.board.Position.{IsSetup, is_explained, holds, PositionParts, man_on}
use Rattle.chess_types.proofs.CellLemmas.{board_of-set, board_of-set_none}
use Rattle.chess_types.proofs.Runs.{list_any_at, list_any_from}
use Rattle.chess_types.proofs.SameLemmas.{is_man_is}
use Rattle.std.proofs.Common.{◌==◌, not, cond, false, Some, set}
use Rattle.std.proofs.Common.{ltb, inl, inr}
use Rattle.std.proofs.lemmas.Bool.{and_from, cases_Bool, eqb-true, lt-ltb, true≢false, false_from_ne_true}
use Rattle.std.proofs.lemmas.Cmp.{nat_cmp_total}
use Rattle.std.specs.Ordering.{nat_cmp}
use Rattle.std.specs.FinSet.{FinSet, contains, intersection, union, contains-intersection, contains-union}
use Rattle.chess_types.specs.board.Men.{count_squares, is_pawn, same_kind}
use Rattle.chess_types.specs.declared.board.man.Kind.{Kind}
use Rattle.chess_types.specs.declared.board.man.Kind.TheVariants.{Pawn}
use Rattle.chess_types.specs.steps.KeptSets.{Gathers, holds_kind}
use Rattle.std.proofs.lemmas.Bool.Decides.{nat_tests}

-- as many squares as a set has pass its test
pub count_gathered : (board : Board) (test : Option Man → Bool) (set : FinSet nat_cmp) → Gathers set test (man_at board) →
    count_by (contains set) squares ≡ count_squares test board
unfolding count_squares
count_gathered board test set are = λ i. count_by (λ s. are s i) squares

-- a pawn on rank 1 or 8 is in both sets
edge_is : (a b : Bool) (at : ℕ) → (ltb at 64 && a || ltb at 64 && b) ≡ (ltb at 64 && (a || b))
edge_is a b at = elim (ltb at 64) as (λ t. (t && a || t && b) ≡ (t && (a || b))) [ true ↦ refl | false ↦ refl ]

pawn_is : (o : Option Man) → holds_kind Pawn o ≡ holds_pawn o
pawn_is None = refl
pawn_is (Some man) = by_kind man.kind
  where
    by_kind : (kind : Kind) → same_kind kind Pawn ≡ is_pawn kind
    by_kind Pawn = refl
    by_kind _ = refl

on_edge : (man_on : Men) (pawns first last : FinSet nat_cmp) → Gathers pawns (holds_kind Pawn) man_on →
    ((s : ℕ) → contains first s ≡ (ltb s 64 && (rank_of s == 0))) → ((s : ℕ) → contains last s ≡ (ltb s 64 && (rank_of s == 7))) →
    (s : ℕ) → contains (intersection pawns (union first last)) s ≡ (holds_pawn (man_on s) && (ltb s 64 && is_edge s))
on_edge man_on pawns first last are ones eights s =
    contains-intersection nat_cmp_total pawns (union first last) s
    ∙ (λ i. (are s ∙ pawn_is (man_on s)) i && (contains-union nat_cmp_total first last s ∙ (λ j. ones s j || eights s j) ∙ edge_is (rank_of s == 0) (rank_of s == 7) s) i)

pub pawn_on_edge : (man_on : Men) (pawns first last : FinSet nat_cmp) → Gathers pawns (holds_kind Pawn) man_on →
    ((s : ℕ) → contains first s ≡ (ltb s 64 && (rank_of s == 0))) → ((s : ℕ) → contains last s ≡ (ltb s 64 && (rank_of s == 7))) →
    (set : FinSet nat_cmp) → set ≡ intersection pawns (union first last) → (at : ℕ) → at < 64 → contains set at ≡ true → true ≡ has_pawn_on_edge man_on
unfolding squares
pawn_on_edge man_on pawns first last are ones eights set is at inside held =
    let both : (holds_pawn (man_on at) ≡ true) × ((ltb at 64 && is_edge at) ≡ true) =
    and_parts _ _ (sym (ap (λ x. contains x at) is ∙ on_edge man_on pawns first last are ones eights at) ∙ held) in
    let edge : (ltb at 64 ≡ true) × (is_edge at ≡ true) = and_parts _ _ both.1 in
    sym (list_any_from (λ s. is_edge s && holds_pawn (man_on s)) 0 64 at (omega arith) inside (and_from _ _ edge.1 both.0))

pub no_pawn_on_edge : (man_on : Men) (pawns first last : FinSet nat_cmp) → Gathers pawns (holds_kind Pawn) man_on →
    ((s : ℕ) → contains first s ≡ (ltb s 64 && (rank_of s == 0))) → ((s : ℕ) → contains last s ≡ (ltb s 64 && (rank_of s == 7))) →
    (set : FinSet nat_cmp) → set ≡ intersection pawns (union first last) → ((s : ℕ) → contains set s ≡ false) → false ≡ has_pawn_on_edge man_on
unfolding squares
no_pawn_on_edge man_on pawns first last are ones eights set is none =
    elim (cases_Bool (has_pawn_on_edge man_on)) [
      | inr e ↦ sym e
      | inl h ↦
          let (s, low, high, e) : (s : ℕ) × (0 ≤ s) × (s < 0 + 64) × ((is_edge s && holds_pawn (man_on s)) ≡ true) =
          list_any_at (λ s. is_edge s && holds_pawn (man_on s)) 0 64 h in
          let both : (is_edge s ≡ true) × (holds_pawn (man_on s) ≡ true) = and_parts _ _ e in
          absurd (true≢false (sym (and_from _ _ both.1 (and_from _ _ (lt-ltb s 64 (omega arith)) both.0))
          ∙ sym (ap (λ x. contains x s) is ∙ on_edge man_on pawns first last are ones eights s) ∙ none s))
    ]

pub few_of_each : (cells : List (Option Man)) → length cells ≡ 64 → has_at_most_16_each (board_of cells) ≡ true → (colour : Colour) → count_by (is_of colour) cells ≤ 16
few_of_each cells len few White =
    let both : (nat_le (men_of (board_of cells) White) 16 ≡ true) × (nat_le (men_of (board_of cells) Black) 16 ≡ true) = and_parts _ _ few in
    let white : men_of (board_of cells) White ≤ 16 = leb-true _ _ both.0 in
    omega (arith, count_squares-board_of (is_of White) cells len)
few_of_each cells len few Black =
    let both : (nat_le (men_of (board_of cells) White) 16 ≡ true) × (nat_le (men_of (board_of cells) Black) 16 ≡ true) = and_parts _ _ few in
    let black : men_of (board_of cells) Black ≤ 16 = leb-true _ _ both.1 in
    omega (arith, count_squares-board_of (is_of Black) cells len)

pub board_of-with_cell : (cells : List (Option Man)) (at : ℕ) (cell : Option Man) → at < length cells → board_of (set cells at cell) ≡ with_cell (board_of cells) at cell
board_of-with_cell cells at None within = board_of-set_none cells at within
board_of-with_cell cells at (Some man) within = board_of-set cells at man within

-- what the tests of the men leave
pub record HasGoodMen (board : Board) : Type 0 where
  pub kings : has_one_king_each board ≡ true
  pub pawns : has_pawn_on_edge (man_at board) ≡ false
  pub few : has_at_most_16_each board ≡ true

-- no test fails
abbrev chosen : Bool → Bool → Bool → PositionFault → PositionFault → PositionFault → Option PositionFault
chosen a b c x y z = cond (not a) (Some x) (cond b (Some y) (cond (not c) (Some z) None))

none_chosen : (a b c : Bool) (x y z : PositionFault) → chosen a b c x y z ≡ None → (a ≡ true) × (b ≡ false) × (c ≡ true)
none_chosen true true c x y z h = absurd (cc)
none_chosen true false true x y z h = (refl, refl, refl)
none_chosen true false false x y z h = absurd (cc)
none_chosen false b c x y z h = absurd (cc)

pub good_men : (board : Board) → men_fault board ≡ None → HasGoodMen board
unfolding men_fault
good_men board h =
    let met = none_chosen (has_one_king_each board) (has_pawn_on_edge (man_at board)) (has_at_most_16_each board) _ _ _ h in
    record { kings = met.0; pawns = met.1; few = met.2 }

pub one_king_each : (board : Board) → HasGoodMen board → (c : Colour) → kings_of board c ≡ 1
one_king_each board good White = let both : (kings_of board White == 1) ≡ true × (kings_of board Black == 1) ≡ true = and_parts _ _ good.kings in eqb-true _ _ both.0
one_king_each board good Black = let both : (kings_of board White == 1) ≡ true × (kings_of board Black == 1) ≡ true = and_parts _ _ good.kings in eqb-true _ _ both.1

pub few_each : (board : Board) → HasGoodMen board → (c : Colour) → men_of board c ≤ 16
few_each board good White = let both : (nat_le (men_of board White) 16 ≡ true) × (nat_le (men_of board Black) 16 ≡ true) = and_parts _ _ good.few in leb-true _ _ both.0
few_each board good Black = let both : (nat_le (men_of board White) 16 ≡ true) × (nat_le (men_of board Black) 16 ≡ true) = and_parts _ _ good.few in leb-true _ _ both.1

pub inner_pawns : (man_on : Men) → has_pawn_on_edge man_on ≡ false → (s : ℕ) → s < 64 → holds_pawn (man_on s) ≡ true → (0 < rank_of s) × (rank_of s < 7)
unfolding squares
inner_pawns man_on none s inside pawn =
    let here : (is_edge s && holds_pawn (man_on s)) ≡ false =
    false_from_ne_true _ (λ e. true≢false (sym (list_any_from (λ x. is_edge x && holds_pawn (man_on x)) 0 64 s (omega arith) (omega arith) e) ∙ none)) in
    (grind (arith, nat_tests), grind (arith, nat_tests))

-- ---- the other fields

home_if : (held home : Bool) → (not held || home) ≡ true → held ≡ true → home ≡ true
home_if true home h held = h
home_if false home h held = absurd (true≢false (sym held))

home_held : (man_on : Men) (rights : Rights) → are_home man_on rights ≡ true → (c : Colour) (w : Wing) → holds rights c w ≡ true → is_home man_on c w ≡ true
home_held man_on rights h White KingSide held = home_if _ _ (and_parts _ _ (and_parts _ _ h).0).0 held
home_held man_on rights h White QueenSide held = home_if _ _ (and_parts _ _ (and_parts _ _ h).0).1 held
home_held man_on rights h Black KingSide held = home_if _ _ (and_parts _ _ (and_parts _ _ h).1).0 held
home_held man_on rights h Black QueenSide held = home_if _ _ (and_parts _ _ (and_parts _ _ h).1).1 held

explained_if : (side : Colour) (man_on : Men) (target : Option ℕ) → is_explained_if side man_on target ≡ true → (t : ℕ) → target ≡ Some t → is_explained side man_on t ≡ true
explained_if side man_on None h t is = absurd (cc)
explained_if side man_on (Some s) h t is = ap (λ x. is_explained_if side man_on x) (sym is) ∙ h

abbrev chosen_fields : Bool → Bool → Bool → PositionFault → PositionFault → PositionFault → Option PositionFault
chosen_fields a b c x y z = cond (not a) (Some x) (cond (not b) (Some y) (cond c (Some z) None))

none_of_fields : (a b c : Bool) (x y z : PositionFault) → chosen_fields a b c x y z ≡ None → (a ≡ true) × (b ≡ true) × (c ≡ false)
none_of_fields true true true x y z h = absurd (cc)
none_of_fields true true false x y z h = (refl, refl, refl)
none_of_fields true false c x y z h = absurd (cc)
none_of_fields false b c x y z h = absurd (cc)

pub faultless : (p : PositionParts) → men_fault p.placement ≡ None → fields_fault (man_on p) p.side p.rights p.target p.number ≡ None → IsSetup p
unfolding fields_fault
faultless p men fields =
    let good = good_men p.placement men in
    let met = none_of_fields (are_home (man_on p) p.rights) (is_explained_if p.side (man_on p) p.target) (p.number == 0) _ _ _ fields in
    let home = home_held (man_on p) p.rights met.0 in
    record {
      kings = one_king_each p.placement good;
      few = few_each p.placement good;
      pawns = inner_pawns (man_on p) good.pawns;
      king_at_home = λ c w h. is_man_is _ c King (and_parts _ _ (home c w h)).0;
      rook_at_home = λ c w h. is_man_is _ c Rook (and_parts _ _ (home c w h)).1;
      target = explained_if p.side (man_on p) p.target met.1;
      number = grind (arith, nat_tests, met.2);
    }
