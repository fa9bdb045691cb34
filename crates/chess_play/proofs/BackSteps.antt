-- Taking a move back, step by step: the castling rook is cleared and put at home, what stands on the last square is cleared, the
-- mover is put on the first square, and the captured man where it stood. What each step finds, and which board it leaves.
use Rattle.std.proofs.Common.{◌≡◌, ◌<◌, true, false, Some, None, sym, ap, subst, ◌∙◌, inl, inr}
use Rattle.std.proofs.lemmas.Bool.{and_parts, cases_Bool}
use Rattle.std.specs.FinMap.{insert, remove}
use Rattle.chess_types.specs.declared.board.man.Man.{Man}
use Rattle.chess_types.specs.declared.board.position.Wing.{Wing}
use Rattle.chess_types.specs.declared.board.position.Wing.TheVariants.{KingSide, QueenSide}
use Rattle.chess_types.specs.board.Board.{Board, man_at}
use Rattle.chess_types.specs.board.MoveParts.{MoveParts}
use Rattle.chess_types.specs.board.Men.{men_of}
use Rattle.chess_types.specs.board.Position.{PositionParts, IsSetup, man_on, rook_home}
use Rattle.chess_types.specs.board.Pseudo.{crossed, is_pseudo}
use Rattle.chess_types.specs.board.After.{captured_at, moved_man, moved_board, is_castling, with_rook, placement_after, rook_of}
use Rattle.chess_types.proofs.BoardLaws.{clear-none, clear-put, put-clear}
use Rattle.chess_play.specs.steps.Undo.{mover}
use Rattle.chess_play.proofs.Census.{put_here, put_there, clear_here, clear_there, clear_room}
use Rattle.chess_play.proofs.CastlingSquares.{apart, castles_where}
use Rattle.chess_play.proofs.Facts.{Facts, facts}
use Rattle.chess_play.proofs.Carried.{carried_here, first_from, second_to}
use Rattle.chess_play.proofs.Castled.{placement_castled, placement_plain}
use Rattle.chess_play.proofs.MakeSteps.{Steps, steps_by_facts}

-- What each step finds and leaves:
--   mover        the mover is known by the promotion and what stands on the last square
--   mine         its colour was to move
--   there        what stands on the last square after the move
--   castled, plain   the board after a move that castles, and after one that does not
-- where the king castled, on the board after the move:
--   rook         the rook stands on the square that the king crossed
--   home_free, home_room   once it is cleared, its home is empty, and there is room for it
--   rook_lifted  the board is then the carried one without the rook at home
--   rook_back    and once the rook is put there, the carried one
-- on the carried board:
--   arrived      what stands on the last square
--   from_free, from_room   once it is cleared, the first square is empty, and there is room for the mover
--   lifted       the board is then the one before the move without the captured man and the mover
--   man_back     and once the mover is put there, the one without the captured man
-- on that board:
--   taken_free, taken_room   the captured man's square is empty, and there is room for him if there was one
--   taken_back   once he is put there, the board is the one before the move
--   none_back    which it is already, if there was none
pub record Back (p : PositionParts) (man : Man) (m : MoveParts) : Type 0 where
  pub mover : mover m.promo (moved_man man m.promo) ≡ man
  pub mine : man.colour ≡ p.side
  pub there : man_at (placement_after p man m) m.to ≡ Some (moved_man man m.promo)
  pub castled : (w : Wing) → is_castling man w m ≡ true → placement_after p man m ≡ with_rook man.colour w (moved_board p man m)
  pub plain : is_castling man KingSide m ≡ false → is_castling man QueenSide m ≡ false → placement_after p man m ≡ moved_board p man m
  pub rook : (w : Wing) → is_castling man w m ≡ true → man_at (placement_after p man m) (crossed man.colour w) ≡ Some (rook_of man.colour)
  pub home_free : (w : Wing) → is_castling man w m ≡ true → man_at (remove (placement_after p man m) (crossed man.colour w)) (rook_home man.colour w) ≡ None
  pub home_room : (w : Wing) → is_castling man w m ≡ true → men_of (remove (placement_after p man m) (crossed man.colour w)) man.colour < 16
  pub rook_lifted : (w : Wing) → is_castling man w m ≡ true →
      remove (placement_after p man m) (crossed man.colour w) ≡ remove (moved_board p man m) (rook_home man.colour w)
  pub rook_back : (w : Wing) → is_castling man w m ≡ true →
      insert (remove (placement_after p man m) (crossed man.colour w)) (rook_home man.colour w) (rook_of man.colour) ≡ moved_board p man m
  pub arrived : man_at (moved_board p man m) m.to ≡ Some (moved_man man m.promo)
  pub from_free : man_at (remove (moved_board p man m) m.to) m.from ≡ None
  pub from_room : men_of (remove (moved_board p man m) m.to) man.colour < 16
  pub lifted : remove (moved_board p man m) m.to ≡ remove (remove p.placement (captured_at p.target man m)) m.from
  pub man_back : insert (remove (moved_board p man m) m.to) m.from man ≡ remove p.placement (captured_at p.target man m)
  pub taken_free : man_at (remove p.placement (captured_at p.target man m)) (captured_at p.target man m) ≡ None
  pub taken_room : (taken : Man) → man_on p (captured_at p.target man m) ≡ Some taken →
      men_of (remove p.placement (captured_at p.target man m)) taken.colour < 16
  pub taken_back : (taken : Man) → man_on p (captured_at p.target man m) ≡ Some taken →
      insert (remove p.placement (captured_at p.target man m)) (captured_at p.target man m) taken ≡ p.placement
  pub none_back : man_on p (captured_at p.target man m) ≡ None → remove p.placement (captured_at p.target man m) ≡ p.placement

module _ (p : PositionParts) (man : Man) (m : MoveParts) (setup : IsSetup p) (from : m.from < 64) (to : m.to < 64) (facts : Facts p man m) where
  abbrev first : Board
  first = remove p.placement (captured_at p.target man m)

  abbrev second : Board
  second = remove (remove p.placement (captured_at p.target man m)) m.from

  steps : Steps p man m
  steps = steps_by_facts p man m setup from to facts

  module _ (w : Wing) (h : is_castling man w m ≡ true) where
    castled : placement_after p man m ≡ with_rook man.colour w (moved_board p man m)
    castled = placement_castled p man m w h

    rook_lifted : remove (placement_after p man m) (crossed man.colour w) ≡ remove (moved_board p man m) (rook_home man.colour w)
    rook_lifted =
        ap (λ (b : Board). remove b (crossed man.colour w)) castled
        ∙ clear-put (remove (moved_board p man m) (rook_home man.colour w)) (crossed man.colour w) (rook_of man.colour) (steps.crossed_free w h)

    rook_back : insert (remove (placement_after p man m) (crossed man.colour w)) (rook_home man.colour w) (rook_of man.colour) ≡ moved_board p man m
    rook_back =
        ap (λ (b : Board). insert b (rook_home man.colour w) (rook_of man.colour)) rook_lifted
        ∙ put-clear (moved_board p man m) (rook_home man.colour w) (rook_of man.colour) (steps.rook w h)

    -- the king stands where it came to, whatever the rook does
    castled_there : man_at (placement_after p man m) m.to ≡ Some (moved_man man m.promo)
    castled_there =
        let a = and_parts _ _ h in
        let where_to : m.to ≡ _ = (castles_where man.colour w m a.1).1 in
        let squares = apart man.colour w in
        ap (λ (b : Board). man_at b m.to) castled
        ∙ put_there (remove (moved_board p man m) (rook_home man.colour w)) (crossed man.colour w) (rook_of man.colour) m.to
        (λ e. squares.crossed_reached (sym e ∙ where_to))
        ∙ clear_there (moved_board p man m) (rook_home man.colour w) m.to (λ e. squares.rook_reached (sym e ∙ where_to))
        ∙ carried_here p man m from to facts

  lifted : remove (moved_board p man m) m.to ≡ second
  lifted = clear-put second m.to (moved_man man m.promo) (second_to p man m from to facts)

  there : man_at (placement_after p man m) m.to ≡ Some (moved_man man m.promo)
  there =
      elim (cases_Bool (is_castling man KingSide m)) [
        | inl x ↦ castled_there KingSide x
        | inr x ↦ elim (cases_Bool (is_castling man QueenSide m)) [
          | inl y ↦ castled_there QueenSide y
          | inr y ↦ ap (λ (b : Board). man_at b m.to) (placement_plain p man m x y) ∙ carried_here p man m from to facts
        ]
      ]

  -- what each step of taking the move back finds and leaves, from the facts of the move
  pub back_by_facts : Back p man m
  back_by_facts = record {
    mover = facts.mover;
    mine = facts.mine;
    there = there;
    castled = castled;
    plain = placement_plain p man m;
    rook = λ w h.
        ap (λ (b : Board). man_at b (crossed man.colour w)) (castled w h)
        ∙ put_here (remove (moved_board p man m) (rook_home man.colour w)) (crossed man.colour w) (rook_of man.colour);
    home_free = λ w h.
        ap (λ (b : Board). man_at b (rook_home man.colour w)) (rook_lifted w h) ∙ clear_here (moved_board p man m) (rook_home man.colour w);
    home_room = λ w h. subst (λ (b : Board). men_of b man.colour < 16) (sym (rook_lifted w h)) (steps.crossed_room w h);
    rook_lifted = rook_lifted;
    rook_back = rook_back;
    arrived = carried_here p man m from to facts;
    from_free = ap (λ (b : Board). man_at b m.from) lifted ∙ clear_here first m.from;
    from_room = subst (λ (b : Board). men_of b man.colour < 16) (sym lifted) steps.room;
    lifted = lifted;
    man_back = ap (λ (b : Board). insert b m.from man) lifted ∙ put-clear first m.from man (first_from p man m from to facts);
    taken_free = clear_here p.placement (captured_at p.target man m);
    taken_room = λ taken here. clear_room p.placement (captured_at p.target man m) taken steps.inside here (setup.few taken.colour);
    taken_back = λ taken here. put-clear p.placement (captured_at p.target man m) taken here;
    none_back = λ none. clear-none p.placement (captured_at p.target man m) none;
  }

-- what each step of taking a pseudo-legal move back finds and leaves
pub back : (p : PositionParts) (m : MoveParts) (man : Man) → IsSetup p → m.from < 64 → m.to < 64 → man_on p m.from ≡ Some man → is_pseudo p m ≡ true →
    Back p man m
back p m man setup from to here pseudo = back_by_facts p man m setup from to (facts p m setup from to man here pseudo)
