-- Making a move, step by step: the captured man is cleared, the mover is cleared, the man that arrives is put, and then the
-- castling rook is cleared and put. Each step finds the man that it clears, and an empty square and room for the man that it puts.
use Rattle.std.proofs.Common.{◌≡◌, ◌<◌, true, Some, None, refl, sym, ap, subst, arith}
use Rattle.std.specs.FinMap.{remove}
use Rattle.chess_types.specs.declared.board.man.Colour.{Colour}
use Rattle.chess_types.specs.declared.board.man.Man.{Man}
use Rattle.chess_types.specs.declared.board.position.Wing.{Wing}
use Rattle.chess_types.specs.board.Board.{man_at}
use Rattle.chess_types.specs.board.MoveParts.{MoveParts}
use Rattle.chess_types.specs.board.Men.{is_of, men_of}
use Rattle.chess_types.specs.board.Position.{PositionParts, IsSetup, man_on, rook_home}
use Rattle.chess_types.specs.board.Pseudo.{crossed, is_pseudo}
use Rattle.chess_types.specs.board.After.{captured_at, moved_man, moved_board, is_castling, rook_of}
use Rattle.chess_types.proofs.Sums.{bit}
use Rattle.chess_types.proofs.SameLemmas.{same_self}
use Rattle.chess_play.proofs.Census.{clear_room}
use Rattle.chess_play.proofs.Promotions.{colour_kept}
use Rattle.chess_play.proofs.CastlingSquares.{rook_inside}
use Rattle.chess_play.proofs.Facts.{Facts, facts}
use Rattle.chess_play.proofs.Carried.{cap, first_from, second_to, second_census}
use Rattle.chess_play.proofs.Castled.{few_carried, ready}

-- What each step finds:
--   inside      the captured man's square is on the board
--   here        once it is cleared, the mover stands where it stood
--   free, room  once that is cleared too, the square to which the mover goes is empty, and there is room for a man of its colour
--   colour      which is the colour of the man that arrives
--   room_arriving   so there is room for that man
--   rook        where the king castles, the rook stands at home
--   crossed_free, crossed_room   once it is cleared, the square that the king crossed is empty, and there is room for the rook
pub record Steps (p : PositionParts) (man : Man) (m : MoveParts) : Type 0 where
  pub inside : captured_at p.target man m < 64
  pub here : man_at (remove p.placement (captured_at p.target man m)) m.from ≡ Some man
  pub free : man_at (remove (remove p.placement (captured_at p.target man m)) m.from) m.to ≡ None
  pub room : men_of (remove (remove p.placement (captured_at p.target man m)) m.from) man.colour < 16
  pub colour : (moved_man man m.promo).colour ≡ man.colour
  pub room_arriving : men_of (remove (remove p.placement (captured_at p.target man m)) m.from) (moved_man man m.promo).colour < 16
  pub rook : (w : Wing) → is_castling man w m ≡ true → man_at (moved_board p man m) (rook_home man.colour w) ≡ Some (rook_of man.colour)
  pub crossed_free : (w : Wing) → is_castling man w m ≡ true → man_at (remove (moved_board p man m) (rook_home man.colour w)) (crossed man.colour w) ≡ None
  pub crossed_room : (w : Wing) → is_castling man w m ≡ true → men_of (remove (moved_board p man m) (rook_home man.colour w)) man.colour < 16

module _ (p : PositionParts) (man : Man) (m : MoveParts) (setup : IsSetup p) (from : m.from < 64) (to : m.to < 64) (facts : Facts p man m) where
  -- once the captured man and the mover are gone there is room for a man of the mover's colour
  pub mover_room : men_of (remove (remove p.placement (captured_at p.target man m)) m.from) man.colour < 16
  mover_room =
      let n = second_census p man m from to facts (is_of man.colour) refl in
      let one : bit (is_of man.colour (Some man)) ≡ 1 = ap bit (same_self man.colour) in
      omega (arith, setup.few man.colour)

  -- where the king castles, the rook stands at home
  pub rook_there : (w : Wing) → is_castling man w m ≡ true → man_at (moved_board p man m) (rook_home man.colour w) ≡ Some (rook_of man.colour)
  rook_there w h =
      subst (λ (c : Colour). man_at (moved_board p man m) (rook_home c w) ≡ Some (rook_of c)) (sym facts.mine) (ready p man m setup from to facts w h).rook

  -- and the square that the king crossed is empty
  pub rook_free : (w : Wing) → is_castling man w m ≡ true → man_at (remove (moved_board p man m) (rook_home man.colour w)) (crossed man.colour w) ≡ None
  rook_free w h =
      subst (λ (c : Colour). man_at (remove (moved_board p man m) (rook_home c w)) (crossed c w) ≡ None) (sym facts.mine)
      (ready p man m setup from to facts w h).free

  -- what each step of making the move finds, from the facts of the move
  pub steps_by_facts : Steps p man m
  steps_by_facts =
      let room : men_of (remove (remove p.placement (captured_at p.target man m)) m.from) man.colour < 16 = mover_room in
      record {
        inside = (cap p man m from to facts).inside;
        here = first_from p man m from to facts;
        free = second_to p man m from to facts;
        room = room;
        colour = colour_kept man m.promo;
        room_arriving =
            subst (λ (c : Colour). men_of (remove (remove p.placement (captured_at p.target man m)) m.from) c < 16) (sym (colour_kept man m.promo)) room;
        rook = rook_there;
        crossed_free = rook_free;
        crossed_room = λ w h.
            clear_room (moved_board p man m) (rook_home man.colour w) (rook_of man.colour) (rook_inside man.colour w) (rook_there w h)
            (few_carried p man m setup from to facts man.colour);
      }

-- what each step of making a pseudo-legal move finds
pub steps : (p : PositionParts) (m : MoveParts) (man : Man) → IsSetup p → m.from < 64 → m.to < 64 → man_on p m.from ≡ Some man → is_pseudo p m ≡ true →
    Steps p man m
steps p m man setup from to here pseudo = steps_by_facts p man m setup from to (facts p m setup from to man here pseudo)
