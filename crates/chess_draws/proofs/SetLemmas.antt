-- The five sets of a board, by those that it keeps.
use Rattle.std.proofs.Common.{◌≡◌, Bool, true, false, ◌&&◌, ◌||◌, Option, Some, None, is_some, refl, ap, ◌∙◌}
use Rattle.std.specs.Ordering.{nat_cmp}
use Rattle.std.specs.FinSet.{FinSet, contains, union, contains-union}
use Rattle.std.proofs.lemmas.Cmp.{nat_cmp_total}
use Rattle.chess_types.specs.declared.board.man.Colour.{Colour}
use Rattle.chess_types.specs.declared.board.man.Colour.TheVariants.{White, Black}
use Rattle.chess_types.specs.declared.board.man.Man.{Man}
use Rattle.chess_types.specs.declared.board.man.Kind.{Kind}
use Rattle.chess_types.specs.declared.board.man.Kind.TheVariants.{Pawn}
use Rattle.chess_types.specs.board.Board.{Men}
use Rattle.chess_types.specs.board.Men.{same_colour, same_kind, is_of, is_man, is_king_of, is_pawn, is_king, holds_pawn}
use Rattle.chess_types.specs.steps.KeptSets.{Gathers, holds_king, holds_straight}
use Rattle.chess_draws.specs.steps.RepetitionKeys.{holds_straight_or_king, holds_short}

-- two sets as one, by a test that holds where either does
pub both_gather : (f g h : Option Man → Bool) (a b both : FinSet nat_cmp) (man_on : Men) → Gathers a f man_on → Gathers b g man_on →
    ((there : Option Man) → (f there || g there) ≡ h there) → both ≡ union a b → Gathers both h man_on
both_gather f g h a b both man_on are_a are_b either is s =
    ap (λ (x : FinSet nat_cmp). contains x s) is ∙ contains-union nat_cmp_total a b s ∙ (λ i. are_a s i || are_b s i) ∙ either (man_on s)

kind_pawn : (kind : Kind) → same_kind kind Pawn ≡ is_pawn kind
kind_pawn Pawn = refl
kind_pawn _ = refl

of_either : (c : Colour) (is : Bool) → ((same_colour c White && is) || (same_colour c Black && is)) ≡ is
of_either White true = refl
of_either White false = refl
of_either Black true = refl
of_either Black false = refl

-- the kings of both colours
pub kings_there : (there : Option Man) → (is_king_of White there || is_king_of Black there) ≡ holds_king there
kings_there None = refl
kings_there (Some man) = of_either man.colour (is_king man.kind)

-- the pawns of both colours
pub pawns_there : (there : Option Man) → (is_man there White Pawn || is_man there Black Pawn) ≡ holds_pawn there
pawns_there None = refl
pawns_there (Some man) = of_either man.colour (same_kind man.kind Pawn) ∙ kind_pawn man.kind

pub straight_or_king : (there : Option Man) → (holds_straight there || holds_king there) ≡ holds_straight_or_king there
straight_or_king None = refl
straight_or_king (Some man) = refl

pub pawn_or_king : (there : Option Man) → (holds_pawn there || holds_king there) ≡ holds_short there
pawn_or_king None = refl
pawn_or_king (Some man) = refl

-- each man is of one of the colours
pub of_one : (there : Option Man) → (is_of White there || is_of Black there) ≡ is_some there
of_one None = refl
of_one (Some man) = one_colour man.colour
  where
    one_colour : (c : Colour) → (same_colour c White || same_colour c Black) ≡ true
    one_colour White = refl
    one_colour Black = refl
