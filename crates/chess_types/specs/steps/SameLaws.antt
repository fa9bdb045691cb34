-- Equality of boards and of positions is an equivalence: each is equal to itself, and equals are equal to the same ones.
use Rattle.std.specs.Prelude.{◌≡◌, ℕ, ◌&&◌, Bool, true, false, List, [], ◌∷◌, refl}
use Rattle.std.specs.List.{list_all}
use Rattle.std.specs.Bool.{Decides}
use Rattle.std.specs.Cmp.Lexicographic.{options_equiv}
use Rattle.std.specs.Cmp.{IsEquivalence, decided, and_equiv, on_equiv, nat_eq_equiv}
use Rattle.std.proofs.Common.{sym, ap}
use Rattle.std.proofs.lemmas.Bool.{true≢false}
use Rattle.chess_types.specs.declared.board.man.Colour.{Colour}
use Rattle.chess_types.specs.declared.board.man.Colour.TheVariants.{White, Black}
use Rattle.chess_types.specs.declared.board.man.Man.{Man}
use Rattle.chess_types.specs.declared.board.position.Rights.{Rights}
use Rattle.chess_types.specs.board.Squares.{squares}
use Rattle.chess_types.specs.board.Board.{Board, man_at}
use Rattle.chess_types.specs.board.Men.{same_colour, same_kind, kind_number}
use Rattle.chess_types.specs.board.Position.{PositionParts}
use Rattle.chess_types.specs.board.Repetition.{same_bool, same_man, same_rights, same_target}
use Rattle.chess_types.specs.board.Equality.{same_board, same_state}

-- equality of colours
colour_laws : IsEquivalence same_colour
colour_laws = decided same_colour equal
  where
    equal : (c d : Colour) → Decides (same_colour c d) (c ≡ d)
    equal White White = (λ _. refl, λ _. refl)
    equal White Black = (λ h. absurd (true≢false (sym h)), λ e. ap (same_colour White) (sym e))
    equal Black White = (λ h. absurd (true≢false (sym h)), λ e. ap (same_colour Black) (sym e))
    equal Black Black = (λ _. refl, λ _. refl)

-- equality of truth values
bool_laws : IsEquivalence same_bool
bool_laws = decided same_bool equal
  where
    equal : (b c : Bool) → Decides (same_bool b c) (b ≡ c)
    equal true c = (sym, sym)
    equal false true = (λ h. h, λ e. e)
    equal false false = (λ _. refl, λ _. refl)

-- equality of men by colour and kind
men_laws : IsEquivalence (λ (m n : Man). same_colour m.colour n.colour && same_kind m.kind n.kind)
men_laws = and_equiv (on_equiv (λ m. m.colour) colour_laws) (on_equiv (λ m. kind_number m.kind) nat_eq_equiv)

-- equality of what is on a square
man_laws : IsEquivalence same_man
man_laws = options_equiv men_laws

-- equality of targets
target_laws : IsEquivalence same_target
target_laws = options_equiv nat_eq_equiv

-- equality of rights
rights_laws : IsEquivalence same_rights
rights_laws = record {
  refl = λ r. all.refl r;
  symm = λ r s. all.symm r s;
  congr = λ r s t h. all.congr r s t h;
}
  where
    all : IsEquivalence (λ (r s : Rights). same_rights r s)
    all =
        and_equiv
        (and_equiv
        (and_equiv (on_equiv (λ (r : Rights). r.white_king) bool_laws) (on_equiv (λ (r : Rights). r.white_queen) bool_laws))
        (on_equiv (λ (r : Rights). r.black_king) bool_laws))
        (on_equiv (λ (r : Rights). r.black_queen) bool_laws)

-- equality on all of some squares
on_all : (over : List ℕ) → IsEquivalence (λ (a b : Board). list_all (λ s. same_man (man_at a s) (man_at b s)) over)
on_all [] = record { refl = λ _. refl; symm = λ _ _. refl; congr = λ _ _ _ _. refl }
on_all (s ∷ over) = and_equiv (on_equiv (λ (a : Board). man_at a s) man_laws) (on_all over)

-- boards are equal exactly where `same_board` says so
pub same_board-laws : IsEquivalence same_board
unfolding same_board
same_board-laws = on_all squares

-- positions are equal exactly where `same_state` says so
pub same_state-laws : IsEquivalence same_state
unfolding same_state
same_state-laws =
    and_equiv (on_equiv (λ (p : PositionParts). p.placement) same_board-laws)
    (and_equiv (on_equiv (λ (p : PositionParts). p.side) colour_laws)
    (and_equiv (on_equiv (λ (p : PositionParts). p.rights) rights_laws)
    (and_equiv (on_equiv (λ (p : PositionParts). p.target) target_laws)
    (and_equiv (on_equiv (λ (p : PositionParts). p.clock) nat_eq_equiv) (on_equiv (λ (p : PositionParts). p.number) nat_eq_equiv)))))
