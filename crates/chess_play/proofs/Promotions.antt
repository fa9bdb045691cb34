-- What becomes of the man that moves: a pawn that promotes is a queen, rook, bishop or knight of its colour (FIDE Laws, article 3.7.3.3).
use Rattle.std.proofs.Common.{◌≡◌, ◌≢◌, ℕ, ◌<◌, ◌==◌, true, false, ◌&&◌, Option, Some, None, is_none, is_some, refl, sym, ◌∙◌, arith, inl, inr}
use Rattle.std.proofs.lemmas.Bool.{cases_Bool, true≢false, eq-eqb, ne_eqb}
use Rattle.chess_types.specs.declared.board.man.Colour.{Colour}
use Rattle.chess_types.specs.declared.board.man.Colour.TheVariants.{White, Black}
use Rattle.chess_types.specs.declared.board.man.Kind.{Kind}
use Rattle.chess_types.specs.declared.board.man.Kind.TheVariants.{Pawn, King}
use Rattle.chess_types.specs.declared.board.man.Man.{Man}
use Rattle.chess_types.specs.board.Board.{Men}
use Rattle.chess_types.specs.board.Squares.{rank_of}
use Rattle.chess_types.specs.board.MoveParts.{MoveParts}
use Rattle.chess_types.specs.board.Texts.{names_promotion}
use Rattle.chess_types.specs.board.Men.{is_king, is_pawn}
use Rattle.chess_types.specs.board.Pseudo.{last_rank, pawn_promotion_fits}
use Rattle.chess_types.specs.board.After.{moved_man}
use Rattle.chess_types.proofs.SameLemmas.{none_is}
use Rattle.chess_play.specs.steps.Undo.{mover}
use Rattle.chess_play.proofs.Pawns.{Two, Further}

-- the man that arrives has the mover's colour
pub colour_kept : (man : Man) (promo : Option Kind) → (moved_man man promo).colour ≡ man.colour
colour_kept man None = refl
colour_kept man (Some other) = refl

-- without a promotion the man that arrives is the mover
pub stays : (man : Man) (promo : Option Kind) → is_none promo ≡ true → moved_man man promo ≡ man
stays man promo h = rw (none_is promo h) refl

-- a pawn is known by what is on its last square and the promotion
pub mover_pawn : (c : Colour) (promo : Option Kind) → mover promo (moved_man (record { colour = c; kind = Pawn }) promo) ≡ record { colour = c; kind = Pawn }
mover_pawn c None = refl
mover_pawn c (Some other) = refl

-- and any man that does not promote
pub mover_plain : (man : Man) (promo : Option Kind) → is_none promo ≡ true → mover promo (moved_man man promo) ≡ man
mover_plain man promo h = rw (none_is promo h) refl

promoted_king : (c : Colour) (promo : Option Kind) → (is_some promo && names_promotion promo) ≡ true →
    is_king (moved_man (record { colour = c; kind = Pawn }) promo).kind ≡ false
promoted_king c (Some King) h = absurd (true≢false (sym h))
promoted_king c _ h = refl

promoted_pawn : (c : Colour) (promo : Option Kind) → (is_some promo && names_promotion promo) ≡ true →
    is_pawn (moved_man (record { colour = c; kind = Pawn }) promo).kind ≡ false
promoted_pawn c None h = absurd (true≢false (sym h))
promoted_pawn c (Some Pawn) h = absurd (true≢false (sym h))
promoted_pawn c (Some King) h = absurd (true≢false (sym h))
promoted_pawn c _ h = refl

-- a pawn never becomes a king
pub pawn_king : (c : Colour) (m : MoveParts) → pawn_promotion_fits c m ≡ true → is_king (moved_man (record { colour = c; kind = Pawn }) m.promo).kind ≡ false
pawn_king c m h =
    elim (cases_Bool (rank_of m.to == last_rank c)) [
      | inl last ↦ promoted_king c m.promo (rw last at h)
      | inr short ↦ rw (none_is m.promo (rw short at h)) refl
    ]

not_last : (c : Colour) (a b : ℕ) → b < 64 → (0 < rank_of a) × (rank_of a < 7) → Further c a b → rank_of b ≢ last_rank c →
    (0 < rank_of b) × (rank_of b < 7)
not_last White a b inside from h other = (omega arith, omega arith)
not_last Black a b inside from h other = (omega arith, omega arith)

-- a pawn that stays one isn't on its last rank
pub pawn_stays : (c : Colour) (m : MoveParts) → m.to < 64 → (0 < rank_of m.from) × (rank_of m.from < 7) → Further c m.from m.to →
    pawn_promotion_fits c m ≡ true → is_pawn (moved_man (record { colour = c; kind = Pawn }) m.promo).kind ≡ true → (0 < rank_of m.to) × (rank_of m.to < 7)
pawn_stays c m inside from on h still =
    elim (cases_Bool (rank_of m.to == last_rank c)) [
      | inl last ↦ absurd (true≢false (sym still ∙ promoted_pawn c m.promo (rw last at h)))
      | inr short ↦ not_last c m.from m.to inside from on (λ e. true≢false (sym (eq-eqb _ _ e) ∙ short))
    ]

two_short : (c : Colour) (man_on : Men) (a b : ℕ) → Two c man_on a b → rank_of b ≢ last_rank c
two_short White man_on a b x = λ e. omega arith
two_short Black man_on a b x = λ e. omega arith

-- a pawn that advances two squares stays a pawn
pub two_plain : (c : Colour) (man_on : Men) (m : MoveParts) → Two c man_on m.from m.to → pawn_promotion_fits c m ≡ true → m.promo ≡ None
two_plain c man_on m x h = none_is m.promo (rw (ne_eqb _ _ (two_short c man_on m.from m.to x)) at h)
