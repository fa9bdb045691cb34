-- Tests of colours, kinds and men: what passes as the same is the same, and each passes as itself; a pawn is no king.
use Rattle.std.proofs.Common.{◌≡◌, true, Option, Some, None, refl, sym, ap, ◌∙◌, false}
use Rattle.std.specs.Prelude.{is_none}
use Rattle.std.proofs.lemmas.Bool.{and_parts, true≢false, eqb-true}
use Rattle.chess_types.specs.declared.board.man.Colour.{Colour}
use Rattle.chess_types.specs.declared.board.man.Colour.TheVariants.{White, Black}
use Rattle.chess_types.specs.declared.board.man.Kind.{Kind}
use Rattle.chess_types.specs.declared.board.man.Kind.TheVariants.{Pawn, King}
use Rattle.chess_types.specs.declared.board.man.Man.{Man}
use Rattle.chess_types.specs.board.Men.{kind_number, same_colour, same_kind, is_pawn, is_king, is_man}
use Rattle.chess_types.specs.steps.ManCode.{kind_of, kind_of-number}

pub same_self : (colour : Colour) → same_colour colour colour ≡ true
same_self White = refl
same_self Black = refl

pub same_is : (a b : Colour) → same_colour a b ≡ true → a ≡ b
same_is White White h = refl
same_is White Black h = absurd (true≢false (sym h))
same_is Black White h = absurd (true≢false (sym h))
same_is Black Black h = refl

pub kind_self : (k : Kind) → same_kind k k ≡ true
kind_self Pawn = refl
kind_self _ = refl

pub kind_is : (k l : Kind) → same_kind k l ≡ true → k ≡ l
kind_is k l h = sym (kind_of-number k) ∙ ap kind_of (eqb-true (kind_number k) (kind_number l) h) ∙ kind_of-number l

pub is_man_is : (cell : Option Man) (c : Colour) (k : Kind) → is_man cell c k ≡ true → cell ≡ Some (record { colour = c; kind = k })
is_man_is None c k h = absurd (true≢false (sym h))
is_man_is (Some man) c k h =
    let both = and_parts _ _ h in
    let colour : man.colour ≡ c = same_is man.colour c both.0 in
    let kind : man.kind ≡ k = kind_is man.kind k both.1 in
    λ i. Some (record { colour = colour i; kind = kind i })

pub is_man-own : (c : Colour) (k : Kind) → is_man (Some (record { colour = c; kind = k })) c k ≡ true
is_man-own c k = rw (same_self c, kind_self k) refl

-- an option that tests as empty is None
pub none_is : {A : Type 0} (o : Option A) → is_none o ≡ true → o ≡ None
none_is None h = refl
none_is (Some x) h = absurd (true≢false (sym h))

-- a pawn is no king
pub pawn_no_king : (k : Kind) → is_pawn k ≡ true → is_king k ≡ false
pawn_no_king King h = absurd (true≢false (sym h))
pawn_no_king _ h = refl

pub king_no_pawn : (kind : Kind) → is_king kind ≡ true → is_pawn kind ≡ false
king_no_pawn Pawn h = absurd (true≢false (sym h))
king_no_pawn _ h = refl
