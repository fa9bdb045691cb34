-- The castling rook: it stands at home, and its new square is empty (FIDE Laws, article 3.8.2).
use Rattle.std.proofs.Common.{◌≡◌, ◌≢◌, ◌<◌, ◌≤◌, Bool, true, false, Option, Some, None, refl, sym, ap, ◌∙◌, arith, inl, inr}
use Rattle.std.proofs.lemmas.Bool.{and_parts, cases_Bool}
use Rattle.std.specs.FinMap.{remove}
use Rattle.chess_types.specs.declared.board.man.Colour.{Colour}
use Rattle.chess_types.specs.declared.board.man.Man.{Man}
use Rattle.chess_types.specs.declared.board.position.Wing.{Wing}
use Rattle.chess_types.specs.declared.board.position.Wing.TheVariants.{KingSide, QueenSide}
use Rattle.chess_types.specs.board.Board.{man_at}
use Rattle.chess_types.specs.board.MoveParts.{MoveParts}
use Rattle.chess_types.specs.board.Men.{same_colour, is_of, count_squares, men_of}
use Rattle.chess_types.specs.board.Position.{PositionParts, IsSetup, rook_home}
use Rattle.chess_types.specs.board.Pseudo.{crossed}
use Rattle.chess_types.specs.board.After.{moved_man, moved_board, is_castling, with_rook, rook_of, placement_after}
use Rattle.chess_types.proofs.Sums.{bit}
use Rattle.chess_play.proofs.Census.{clear_there, census_put, census_clear}
use Rattle.chess_play.proofs.Promotions.{colour_kept}
use Rattle.chess_play.proofs.CastlingSquares.{rook_edge, rook_inside, crossed_inside, apart, same_wing, castles_where, IsCastling, castling_parts, crossed_free}
use Rattle.chess_play.proofs.Facts.{Facts}
use Rattle.chess_play.proofs.Carried.{carried_edge, carried_census}

-- before the castling rook moves: it stands at home, and the square that the king crossed is empty
pub record Ready (p : PositionParts) (man : Man) (m : MoveParts) (w : Wing) : Type 0 where
  pub castling : IsCastling p w m
  pub rook : man_at (moved_board p man m) (rook_home p.side w) ≡ Some (rook_of p.side)
  pub free : man_at (remove (moved_board p man m) (rook_home p.side w)) (crossed p.side w) ≡ None

of_test : (c : Colour) (a b : Man) → a.colour ≡ b.colour → is_of c (Some a) ≡ is_of c (Some b)
of_test c a b e = ap (λ x. same_colour x c) e

module _ (p : PositionParts) (man : Man) (m : MoveParts) (setup : IsSetup p) (from : m.from < 64) (to : m.to < 64) (facts : Facts p man m) where
  -- the carried board has at most 16 men of a colour
  pub few_carried : (c : Colour) → men_of (moved_board p man m) c ≤ 16
  few_carried c =
      let n = carried_census p man m from to facts (is_of c) refl in
      let e : bit (is_of c (Some (moved_man man m.promo))) ≡ bit (is_of c (Some man)) =
      ap bit (of_test c (moved_man man m.promo) man (colour_kept man m.promo)) in
      omega (arith, setup.few c)

  -- where the king castles, the rook is ready
  pub ready : (w : Wing) → is_castling man w m ≡ true → Ready p man m w
  ready w h =
      let c = castling_parts p w m (facts.castling w h) in
      let a = apart p.side w in
      let rook_from : rook_home p.side w ≢ m.from = λ e. a.rook_king (e ∙ c.from) in
      let rook_to : rook_home p.side w ≢ m.to = λ e. a.rook_reached (e ∙ c.to) in
      let cross_from : crossed p.side w ≢ m.from = λ e. a.crossed_king (e ∙ c.from) in
      let cross_to : crossed p.side w ≢ m.to = λ e. a.crossed_reached (e ∙ c.to) in
      record {
        castling = c;
        rook = carried_edge p man m from to facts (rook_home p.side w) (rook_edge p.side w) rook_from rook_to ∙ setup.rook_at_home p.side w c.right;
        free =
            clear_there (moved_board p man m) (rook_home p.side w) (crossed p.side w) (λ e. a.rook_crossed (sym e))
            ∙ carried_edge p man m from to facts (crossed p.side w) a.crossed_edge cross_from cross_to ∙ crossed_free p w m c;
      }

module _ (p : PositionParts) (man : Man) (m : MoveParts) where
  -- no test of the squares holds more or less often once the rook has moved
  pub rook_census : (test : Option Man → Bool) → test None ≡ false → (w : Wing) → Ready p man m w →
      count_squares test (with_rook p.side w (moved_board p man m)) ≡ count_squares test (moved_board p man m)
  rook_census test none w r =
      let a = census_clear test (moved_board p man m) (rook_home p.side w) (rook_inside p.side w) in
      let b = census_put test (remove (moved_board p man m) (rook_home p.side w)) (crossed p.side w) (rook_of p.side) (crossed_inside p.side w) in
      let n : bit (test None) ≡ 0 = ap bit none in
      let x : bit (test (man_at (moved_board p man m) (rook_home p.side w))) ≡ bit (test (Some (rook_of p.side))) = ap (λ o. bit (test o)) r.rook in
      let y : bit (test (man_at (remove (moved_board p man m) (rook_home p.side w)) (crossed p.side w))) ≡ bit (test None) = ap (λ o. bit (test o)) r.free in
      omega arith

-- the square that the king reaches gives the wing
pub one_wing : (man : Man) (m : MoveParts) (w v : Wing) → is_castling man w m ≡ true → is_castling man v m ≡ true → w ≡ v
one_wing man m w v h k =
    let a = and_parts _ _ h in
    let b = and_parts _ _ k in
    same_wing man.colour w v (sym (castles_where man.colour w m a.1).1 ∙ (castles_where man.colour v m b.1).1)

-- the board after a move that castles
pub placement_castled : (p : PositionParts) (man : Man) (m : MoveParts) (w : Wing) → is_castling man w m ≡ true →
    placement_after p man m ≡ with_rook man.colour w (moved_board p man m)
placement_castled p man m KingSide h = rw h refl
placement_castled p man m QueenSide h =
    let other : is_castling man KingSide m ≡ false =
    elim (cases_Bool (is_castling man KingSide m)) [ inl k ↦ absurd (let e = one_wing man m KingSide QueenSide k h in cc) | inr k ↦ k ] in
    rw (other, h) refl

-- and after one that does not
pub placement_plain : (p : PositionParts) (man : Man) (m : MoveParts) → is_castling man KingSide m ≡ false → is_castling man QueenSide m ≡ false →
    placement_after p man m ≡ moved_board p man m
placement_plain p man m king queen = rw (king, queen) refl
