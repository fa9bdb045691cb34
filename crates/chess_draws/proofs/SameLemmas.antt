-- Which positions are the same: each is the same as itself, and none as the one that a move makes of it.
use Rattle.std.proofs.Common.{◌≡◌, ℕ, ◌==◌, true, false, List, [], ◌∷◌, Option, Some, None, refl, ap, ◌∙◌}
use Rattle.std.specs.List.{list_all}
use Rattle.std.proofs.lemmas.Bool.{eq-eqb}
use Rattle.chess_types.specs.declared.board.man.Colour.{Colour}
use Rattle.chess_types.specs.declared.board.man.Colour.TheVariants.{White, Black}
use Rattle.chess_types.specs.declared.board.man.Man.{Man}
use Rattle.chess_types.specs.declared.board.position.Rights.{Rights}
use Rattle.chess_types.specs.board.Squares.{squares}
use Rattle.chess_types.specs.board.Men.{same_colour, opponent}
use Rattle.chess_types.specs.board.Board.{Men}
use Rattle.chess_types.specs.board.MoveParts.{MoveParts}
use Rattle.chess_types.specs.board.Position.{PositionParts, man_on}
use Rattle.chess_types.specs.board.After.{after, after_by}
use Rattle.chess_types.specs.board.Legal.{is_legal}
use Rattle.chess_types.specs.board.Repetition.{same_man, same_rights, same_target, counting_target, is_same}
use Rattle.chess_types.proofs.SameLemmas.{same_self}
use Rattle.chess_types.proofs.MoveLemmas.{pseudo_man, legal_pseudo}
use Rattle.chess_draws.proofs.RepetitionKeyLemmas.{man_self, bool_self}

men_self : (men : Men) (squares : List ℕ) → list_all (λ s. same_man (men s) (men s)) squares ≡ true
men_self men [] = refl
men_self men (s ∷ squares) = rw (man_self (men s), men_self men squares) refl

rights_self : (r : Rights) → same_rights r r ≡ true
rights_self r = rw (bool_self r.white_king, bool_self r.white_queen, bool_self r.black_king, bool_self r.black_queen) refl

number_self : (n : ℕ) → (n == n) ≡ true
number_self n = eq-eqb n n refl

target_self : (t : Option ℕ) → same_target t t ≡ true
target_self None = refl
target_self (Some t) = number_self t

-- a position is the same as itself
pub is_same_self : (p : PositionParts) → is_same p p ≡ true
unfolding is_same
is_same_self p = rw (same_self p.side, men_self (man_on p) squares, rights_self p.rights, target_self (counting_target p)) refl

pub other_side : (c : Colour) → same_colour (opponent c) c ≡ false
other_side White = refl
other_side Black = refl

pub sides_differ : (p q : PositionParts) → same_colour p.side q.side ≡ false → is_same p q ≡ false
unfolding is_same
sides_differ p q h = rw h refl

side_on : (p : PositionParts) (there : Option Man) (m : MoveParts) (man : Man) → there ≡ Some man → same_colour (after_by p there m).side p.side ≡ false
side_on p there m man is = ap (λ x. same_colour (after_by p x m).side p.side) is ∙ other_side p.side

-- after a legal move the other side has the move
pub same_after : (p : PositionParts) (m : MoveParts) → is_legal p m ≡ true → is_same (after p m) p ≡ false
unfolding after
same_after p m h =
    let (man, here) : (man : Man) × (man_on p m.from ≡ Some man) = pseudo_man p m (legal_pseudo p m h) in
    sides_differ (after p m) p (side_on p (man_on p m.from) m man here)
