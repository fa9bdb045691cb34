-- Which moves of a man of the side to move are pseudo-legal, and which moves are not legal.
use Rattle.std.proofs.Common.{◌≡◌, ℕ, zero, suc, drop, get_or, ◌+◌, ◌/◌, ◌<◌, ◌==◌, Bool, true, false, ◌&&◌, ◌||◌, [], ◌∷◌, filter, Option, Some, None, refl, sym, ap, ◌∙◌, arith, inl, inr}
use Rattle.std.proofs.lemmas.Bool.{and_parts, cases_Bool, true≢false, or_cases, or_left, or_right, eqb-true, eq-eqb}
use Rattle.chess_types.specs.declared.board.man.Colour.{Colour}
use Rattle.chess_types.specs.declared.board.man.Colour.TheVariants.{White, Black}
use Rattle.chess_types.specs.declared.board.man.Kind.{Kind}
use Rattle.chess_types.specs.declared.board.man.Kind.TheVariants.{Pawn, Knight, Bishop, Rook, Queen, King}
use Rattle.chess_types.specs.declared.board.man.Man.{Man}
use Rattle.chess_types.specs.declared.board.position.Wing.TheVariants.{KingSide, QueenSide}
use Rattle.chess_types.specs.board.Squares.{squares}
use Rattle.chess_types.specs.board.Men.{same_colour, is_of}
use Rattle.chess_types.specs.board.Attack.{leaps, attacks_as, slides_to, is_clear}
use Rattle.chess_types.specs.board.MoveParts.{MoveParts}
use Rattle.chess_types.specs.board.Texts.{names_promotion}
use Rattle.chess_types.specs.board.Position.{PositionParts, man_on, cell_of}
use Rattle.chess_types.specs.board.Pseudo.{is_ahead, reached, castles, moves_as_it_attacks, steps_one, steps_two, pawn_takes, moves_as, moves_man, is_pseudo}
use Rattle.chess_types.specs.board.Legal.{is_legal, promotions, moves_between, moves_from}
use Rattle.chess_types.proofs.SameLemmas.{same_self, same_is, none_is}
use Rattle.chess_play.proofs.CastlingSquares.{castling_parts}
use Rattle.chess_moves.specs.steps.Targets.{move_to, is_forward, attacks_from, is_candidate, is_pseudo_target, promotes, promotion_fits, promotion_kinds, promotions_between}
use Rattle.chess_moves.proofs.Pieces.{Splits, pieces_none, from_pieces}

-- a man of the side moves so where it goes so, and the move names what fits
moves_as_is : (p : PositionParts) (kind : Kind) (m : MoveParts) → moves_as p kind m ≡ (is_pseudo_target p kind m.from m.to && promotion_fits p.side kind m)
unfolding moves_as is_pseudo_target
moves_as_is p Pawn m = refl
moves_as_is p _ m = refl

-- so its moves are pseudo-legal
pub pseudo_is : (p : PositionParts) (kind : Kind) (m : MoveParts) → man_on p m.from ≡ cell_of p.side kind → is_pseudo p m ≡ (is_pseudo_target p kind m.from m.to && promotion_fits p.side kind m)
pseudo_is p kind m here = rw (here, same_self p.side) (moves_as_is p kind m)

single : (c : Colour) (a b : ℕ) → is_ahead c a b ≡ true → is_forward c 8 a b ≡ true
single White a b h = h
single Black a b h = h

named_kind : (side : Colour) (kind : Kind) (m : MoveParts) → promotion_fits side kind m ≡ true → names_promotion m.promo ≡ true
named_kind side kind m h =
    elim (cases_Bool (promotes side kind m.to)) [
      | inl last ↦ (and_parts _ _ (rw last at h)).1
      | inr stays ↦ ap names_promotion (none_is m.promo (rw stays at h))
    ]

named_by : (p : PositionParts) (there : Option Man) (m : MoveParts) → moves_man p there m ≡ true → names_promotion m.promo ≡ true
named_by p None m h = absurd (true≢false (sym h))
named_by p (Some man) m h = named_kind p.side man.kind m (and_parts _ _ (sym (moves_as_is p man.kind m) ∙ (and_parts _ _ h).1)).1

-- a pseudo-legal move names nothing, or what a pawn may become
pub pseudo_names : (p : PositionParts) (m : MoveParts) → is_pseudo p m ≡ true → names_promotion m.promo ≡ true
pseudo_names p m h = named_by p (man_on p m.from) m h

double : (c : Colour) (a b : ℕ) → is_ahead c a ((a + b) / 2) ≡ true → is_ahead c ((a + b) / 2) b ≡ true → is_forward c 16 a b ≡ true
double White a b g h = eq-eqb b (a + 16) (omega (arith, eqb-true ((a + b) / 2) (a + 8) g, eqb-true b ((a + b) / 2 + 8) h))
double Black a b g h = eq-eqb a (b + 16) (omega (arith, eqb-true a ((a + b) / 2 + 8) g, eqb-true ((a + b) / 2) (b + 8) h))

pawn_attacks : (p : PositionParts) (a b : ℕ) → leaps p.side Pawn a b ≡ true → attacks_from p Pawn a b ≡ true
unfolding attacks_as
pawn_attacks p a b h = or_left _ (slides_to Pawn a b && is_clear (man_on p) a b) h

-- a man goes only where it might
pub go_reach : (p : PositionParts) (kind : Kind) (a b : ℕ) → is_pseudo_target p kind a b ≡ true → is_candidate p kind a b ≡ true
unfolding is_pseudo_target is_candidate
go_reach p Pawn a b h =
    elim (or_cases (steps_one p (move_to a b None) || steps_two p (move_to a b None)) (pawn_takes p (move_to a b None)) h) [
      | inl s ↦ elim (or_cases (steps_one p (move_to a b None)) (steps_two p (move_to a b None)) s) [
        | inl x ↦ or_left _ (is_forward p.side 16 a b) (or_right (attacks_from p Pawn a b) (is_forward p.side 8 a b) (single p.side a b (and_parts _ _ x).0))
        | inr x ↦
            let c = and_parts _ _ x in
            let d = and_parts _ _ c.0 in
            let e = and_parts _ _ d.0 in
            let f = and_parts _ _ e.0 in
            or_right (attacks_from p Pawn a b || is_forward p.side 8 a b) _ (double p.side a b f.1 e.1)
      ]
      | inr x ↦ or_left _ (is_forward p.side 16 a b) (or_left _ (is_forward p.side 8 a b) (pawn_attacks p a b (and_parts _ _ x).0))
    ]
go_reach p King a b h =
    elim (or_cases (moves_as_it_attacks p King (move_to a b None) || castles p KingSide (move_to a b None)) (castles p QueenSide (move_to a b None)) h) [
      | inl s ↦ or_left _ (reached p.side QueenSide == b) (elim (or_cases (moves_as_it_attacks p King (move_to a b None)) (castles p KingSide (move_to a b None)) s) [
        | inl x ↦ or_left _ (reached p.side KingSide == b) (and_parts _ _ x).0
        | inr x ↦ or_right (attacks_from p King a b) _ (eq-eqb (reached p.side KingSide) b (sym (castling_parts p KingSide (move_to a b None) x).to))
      ])
      | inr x ↦ or_right (attacks_from p King a b || reached p.side KingSide == b) _ (eq-eqb (reached p.side QueenSide) b (sym (castling_parts p QueenSide (move_to a b None) x).to))
    ]
go_reach p _ a b h = (and_parts _ _ h).0

-- what is not pseudo-legal is not legal
pub not_pseudo : (p : PositionParts) (m : MoveParts) → is_pseudo p m ≡ false → is_legal p m ≡ false
unfolding is_legal
not_pseudo p m h = rw h refl

never_and : (b : Bool) → (b && false) ≡ false
never_and true = refl
never_and false = refl

-- where no promotion passes
none_of : (test : MoveParts → Bool) (a b : ℕ) → ((promo : Option Kind) → test (move_to a b promo) ≡ false) → filter test (moves_between a b) ≡ []
unfolding promotions
none_of test a b none = rw (none None, none (Some Queen), none (Some Rook), none (Some Bishop), none (Some Knight)) refl

-- where only the move that names nothing may pass
plain_of : (test : MoveParts → Bool) (a b : ℕ) → ((kind : Kind) → test (move_to a b (Some kind)) ≡ false) → filter test (moves_between a b) ≡ filter test (move_to a b None ∷ [])
unfolding promotions
plain_of test a b none = rw (none Queen, none Rook, none Bishop, none Knight) refl

-- where only those that name a kind may pass
promoted_of : (test : MoveParts → Bool) (a b : ℕ) → test (move_to a b None) ≡ false → filter test (moves_between a b) ≡ filter test (promotions_between a b)
unfolding promotions promotion_kinds
promoted_of test a b none = rw none refl

module _ (p : PositionParts) (kind : Kind) (a b : ℕ) (here : man_on p a ≡ cell_of p.side kind) where
  -- and a move that names what doesn't fit is not legal
  misnamed : (promo : Option Kind) → promotion_fits p.side kind (move_to a b promo) ≡ false → is_legal p (move_to a b promo) ≡ false
  misnamed promo named = not_pseudo p _ (pseudo_is p kind (move_to a b promo) here ∙ rw named (never_and (is_pseudo_target p kind a b)))

  -- where the man doesn't go, no move is legal
  pub between_none : is_pseudo_target p kind a b ≡ false → filter (is_legal p) (moves_between a b) ≡ []
  between_none stay = none_of (is_legal p) a b (λ promo. not_pseudo p _ (pseudo_is p kind (move_to a b promo) here ∙ rw stay refl))

  -- where it doesn't promote, at most the move that names nothing
  pub between_plain : promotes p.side kind b ≡ false → filter (is_legal p) (moves_between a b) ≡ filter (is_legal p) (move_to a b None ∷ [])
  between_plain stays = plain_of (is_legal p) a b (λ other. misnamed (Some other) (rw stays refl))

  -- where it promotes, only those that name what it becomes
  pub between_promoted : promotes p.side kind b ≡ true → filter (is_legal p) (moves_between a b) ≡ filter (is_legal p) (promotions_between a b)
  between_promoted last = promoted_of (is_legal p) a b (misnamed None (rw last refl))

not_own : (p : PositionParts) (there : Option Man) (m : MoveParts) → is_of p.side there ≡ false → moves_man p there m ≡ false
not_own p None m h = refl
not_own p (Some man) m h = rw h refl

-- where no man of the side to move stands, no move is legal
pub from_other : (p : PositionParts) (a : ℕ) → is_of p.side (man_on p a) ≡ false → filter (is_legal p) (moves_from a) ≡ []
from_other p a other =
    from_pieces (is_legal p) a
    ∙ pieces_none (is_legal p) (moves_between a) squares (λ b. none_of (is_legal p) a b (λ promo. not_pseudo p _ (not_own p (man_on p a) (move_to a b promo) other)))

-- a man of the side to move, by its kind
pub own_cell : (side : Colour) (man : Man) → same_colour man.colour side ≡ true → Some man ≡ cell_of side man.kind
own_cell side man own = ap (λ c. cell_of c man.kind) (same_is man.colour side own)

-- the next of the promotions
pub promotions_next : (a b i : ℕ) → i < 4 →
    Splits (drop i (promotions_between a b)) (move_to a b (Some (get_or (Queen ∷ Rook ∷ Bishop ∷ Knight ∷ []) i Pawn)) ∷ []) (drop (i + 1) (promotions_between a b))
unfolding promotion_kinds
promotions_next a b zero h = record { is = refl }
promotions_next a b (suc zero) h = record { is = refl }
promotions_next a b (suc (suc zero)) h = record { is = refl }
promotions_next a b (suc (suc (suc zero))) h = record { is = refl }
promotions_next a b (suc (suc (suc (suc i)))) h = absurd (omega arith)

pub promotions_end : (a b i : ℕ) → i ≡ 4 → drop i (promotions_between a b) ≡ []
unfolding promotion_kinds
promotions_end a b i e = rw e refl
