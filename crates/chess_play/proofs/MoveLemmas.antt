-- A move made and taken back: the men stand so that each step can be done, and the steps lead where the definitions say.
use Rattle.std.proofs.Common.{◌≡◌, ℕ, ◌<◌, true, false, Option, Some, None, option_map, IsSome, IfSome, refl, sym, ap, subst, ◌∙◌, inl, inr}
use Rattle.std.proofs.lemmas.Bool.{and_parts, cases_Bool}
use Rattle.std.specs.FinMap.{remove}
use Rattle.chess_types.specs.declared.board.man.Colour.{Colour}
use Rattle.chess_types.specs.declared.board.man.Man.{Man}
use Rattle.chess_types.specs.declared.board.position.Rights.{Rights}
use Rattle.chess_types.specs.declared.board.position.Wing.{Wing}
use Rattle.chess_types.specs.declared.board.position.Wing.TheVariants.{KingSide, QueenSide}
use Rattle.chess_types.specs.board.Board.{Board, man_at}
use Rattle.chess_types.specs.board.MoveParts.{MoveParts}
use Rattle.chess_types.specs.board.Men.{men_of, opponent, is_pawn}
use Rattle.chess_types.specs.board.Position.{PositionParts, IsSetup, man_on}
use Rattle.chess_types.specs.board.After.{captured_at, moved_man, moved_board, is_castling, placement_after, rights_after, target_after, clock_after, number_after, after_by, rook_of}
use Rattle.chess_types.proofs.SameLemmas.{king_no_pawn}
use Rattle.chess_play.specs.declared.steps.Way.{Way}
use Rattle.chess_play.specs.steps.Boards.{CanShift, CanMake, CanTakeBack, back, carried_back, carried_on, moved, restored, rook_back, rook_way, rook_to, shifted}
use Rattle.chess_play.proofs.CastlingSquares.{castling_parts, reached_free}
use Rattle.chess_play.proofs.Facts.{Facts}
use Rattle.chess_play.proofs.MakeSteps.{Steps, steps_by_facts}
use Rattle.chess_play.proofs.BackSteps.{Back, back_by_facts}

some_is : (o : Option Man) (man : Man) → o ≡ Some man → IsSome o
some_is o man e = rw e refl

king_side_back : (man : Man) (m : MoveParts) (board : Board) → is_castling man KingSide m ≡ true →
    rook_back man m board ≡ shifted (Some (back (rook_to man.colour KingSide))) board
king_side_back man m board h = rw h refl

queen_side_back : (man : Man) (m : MoveParts) (board : Board) → is_castling man KingSide m ≡ false → is_castling man QueenSide m ≡ true →
    rook_back man m board ≡ shifted (Some (back (rook_to man.colour QueenSide))) board
queen_side_back man m board h k = rw (h, k) refl

plain_back : (man : Man) (m : MoveParts) (board : Board) → is_castling man KingSide m ≡ false → is_castling man QueenSide m ≡ false →
    rook_back man m board ≡ board
plain_back man m board h k = rw (h, k) refl

-- what holds of each wing's rook holds of the rook that castles
for_rook : (man : Man) (m : MoveParts) (P : Way → Type 0) → ((wing : Wing) → is_castling man wing m ≡ true → P (rook_to man.colour wing)) →
    IfSome (rook_way man m) P
for_rook man m P each =
    elim (cases_Bool (is_castling man KingSide m)) [
      | inl x ↦ rw x (each KingSide x)
      | inr x ↦ elim (cases_Bool (is_castling man QueenSide m)) [
        | inl y ↦ rw (x, y) (each QueenSide y)
        | inr y ↦ rw (x, y) tt
      ]
    ]

-- and so on his way back
for_back : (rook : Option Way) (P : Way → Type 0) → IfSome rook (λ s. P (back s)) → IfSome (option_map back rook) P
for_back None P h = tt
for_back (Some s) P h = h

-- the board after the move is what its steps make of it
carried_on_is : (p : PositionParts) (man : Man) (m : MoveParts) → carried_on p.target man m p.placement ≡ placement_after p man m
carried_on_is p man m =
    elim (cases_Bool (is_castling man KingSide m)) [
      | inl x ↦ rw x refl
      | inr x ↦ elim (cases_Bool (is_castling man QueenSide m)) [
        | inl y ↦ rw (x, y) refl
        | inr y ↦ rw (x, y) refl
      ]
    ]

module _ (p : PositionParts) (man : Man) (m : MoveParts) (setup : IsSetup p) (from : m.from < 64) (to : m.to < 64) (facts : Facts p man m) where
  abbrev at : ℕ
  at = captured_at p.target man m

  abbrev there : Board
  there = placement_after p man m

  steps : Steps p man m
  steps = steps_by_facts p man m setup from to facts

  backward : Back p man m
  backward = back_by_facts p man m setup from to facts

  -- castling captures nothing
  castling_takes_none : (wing : Wing) → is_castling man wing m ≡ true → man_on p at ≡ None
  castling_takes_none wing h =
      let a = and_parts _ _ h in
      let no_pawn : is_pawn man.kind ≡ false = king_no_pawn man.kind a.0 in
      let c = castling_parts p wing m (facts.castling wing h) in
      let on : at ≡ m.to = rw no_pawn refl in
      ap (man_on p) (on ∙ c.to) ∙ reached_free p wing m c

  pub can_make : CanMake p.target man m p.placement
  can_make = record {
    man_goes = record { here = some_is _ man steps.here; free = steps.free; room = steps.room_arriving };
    rook_goes = for_rook man m (λ s. CanShift (moved_board p man m) s.from s.to s.man) (λ wing h. record {
      here = some_is _ (rook_of man.colour) (steps.rook wing h);
      free = steps.crossed_free wing h;
      room = steps.crossed_room wing h;
    });
    either = castling_takes_none;
  }

  -- the rook goes back, where it castled
  rook_is_back : rook_back man m there ≡ moved_board p man m
  rook_is_back =
      elim (cases_Bool (is_castling man KingSide m)) [
        | inl x ↦ king_side_back man m there x ∙ backward.rook_back KingSide x
        | inr x ↦ elim (cases_Bool (is_castling man QueenSide m)) [
          | inl y ↦ queen_side_back man m there x y ∙ backward.rook_back QueenSide y
          | inr y ↦ plain_back man m there x y ∙ backward.plain x y
        ]
      ]

  -- and the man with him
  man_is_back : moved m.to m.from man (rook_back man m there) ≡ remove p.placement at
  man_is_back = ap (λ (b : Board). moved m.to m.from man b) rook_is_back ∙ backward.man_back

  room_for : (taken : Option Man) → man_on p at ≡ taken → IfSome taken (λ other. men_of (remove p.placement at) other.colour < 16)
  room_for None h = tt
  room_for (Some other) h = backward.taken_room other h

  pub can_take_back : CanTakeBack p.target man m (man_on p at) there
  can_take_back = record {
    rook_goes = for_back (rook_way man m) (λ s. CanShift there s.from s.to s.man) (for_rook man m (λ s. CanShift there s.to s.from s.man) (λ wing h. record {
      here = some_is _ (rook_of man.colour) (backward.rook wing h);
      free = backward.home_free wing h;
      room = backward.home_room wing h;
    }));
    man_goes = subst (λ (b : Board). CanShift b m.to m.from man) (sym rook_is_back)
        (record { here = some_is _ (moved_man man m.promo) backward.arrived; free = backward.from_free; room = backward.from_room });
    free = ap (λ (b : Board). man_at b at) man_is_back ∙ backward.taken_free;
    room = subst (λ (b : Board). IfSome (man_on p at) (λ other. men_of b other.colour < 16)) (sym man_is_back) (room_for (man_on p at) refl);
    either = castling_takes_none;
  }

  given_back : (taken : Option Man) → man_on p at ≡ taken → restored at taken (remove p.placement at) ≡ p.placement
  given_back None h = backward.none_back h
  given_back (Some other) h = backward.taken_back other h

  -- the board is that before the move again
  pub all_is_back : carried_back p.target man m (man_on p at) there ≡ p.placement
  all_is_back = ap (λ (b : Board). restored at (man_on p at) b) man_is_back ∙ given_back (man_on p at) refl

-- the position after the move, field by field
pub after_is :
    (p : PositionParts) (man : Man) (m : MoveParts) (placement : Board) (side : Colour) (rights : Rights) (target : Option ℕ) (clock number : ℕ) →
    placement ≡ carried_on p.target man m p.placement → side ≡ opponent p.side → rights ≡ rights_after p.rights m → target ≡ target_after man m →
    clock ≡ clock_after p man m → number ≡ number_after p.side p.number →
    after_by p (Some man) m
    ≡ record { placement = placement; side = side; rights = rights; target = target; clock = clock; number = number }
after_is p man m placement side rights target clock number a b c d e f = λ i.
    record { placement = sym (a ∙ carried_on_is p man m) i; side = sym b i; rights = sym c i; target = sym d i; clock = sym e i; number = sym f i }
