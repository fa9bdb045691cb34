-- The board when the captured man has left it and the mover stands on its new square: what stands where, and how many men there are.
use Rattle.std.proofs.Common.{◌≡◌, ◌≢◌, ℕ, ◌+◌, ◌<◌, Bool, true, false, Option, Some, None, refl, sym, ap, ◌∙◌, arith, inl, inr}
use Rattle.std.proofs.lemmas.Bool.{and_parts, and_right, cases_Bool, cases_eq, not-true}
use Rattle.std.specs.FinMap.{remove}
use Rattle.chess_types.specs.declared.board.man.Colour.{Colour}
use Rattle.chess_types.specs.declared.board.man.Colour.TheVariants.{White, Black}
use Rattle.chess_types.specs.declared.board.man.Kind.TheVariants.{Pawn}
use Rattle.chess_types.specs.declared.board.man.Man.{Man}
use Rattle.chess_types.specs.board.Board.{Board, man_at}
use Rattle.chess_types.specs.board.Squares.{rank_of}
use Rattle.chess_types.specs.board.MoveParts.{MoveParts}
use Rattle.chess_types.specs.board.Men.{opponent, same_colour, is_king, is_king_of, holds_pawn, count_squares}
use Rattle.chess_types.specs.board.Position.{PositionParts, man_on}
use Rattle.chess_types.specs.board.Pseudo.{may_enter}
use Rattle.chess_types.specs.board.After.{is_en_passant, captured_at, moved_man, moved_board}
use Rattle.chess_types.proofs.Sums.{bit}
use Rattle.chess_play.proofs.Census.{put_here, put_there, clear_here, clear_there, census_put, census_clear}
use Rattle.chess_play.proofs.CastlingSquares.{OnEdge}
use Rattle.chess_play.proofs.Facts.{Facts, never}

enter_king : (c d : Colour) (o : Option Man) → may_enter c o ≡ true → is_king_of d o ≡ false
enter_king c d None h = refl
enter_king c d (Some man) h =
    let a = and_parts _ _ h in
    let k : is_king man.kind ≡ false = not-true _ a.1 in
    and_right (same_colour man.colour d) (is_king man.kind) k

pawn_king : (c d : Colour) → is_king_of d (Some (record { colour = c; kind = Pawn })) ≡ false
pawn_king White White = refl
pawn_king White Black = refl
pawn_king Black White = refl
pawn_king Black Black = refl

-- The captured man's square: on the board, not the one that the mover leaves; no king stands there; if it isn't the one that the
-- mover comes to, then that one is empty, and it is on an inner rank.
pub record Captured (p : PositionParts) (man : Man) (m : MoveParts) (s : ℕ) : Type 0 where
  pub inside : s < 64
  pub away : s ≢ m.from
  pub king : (c : Colour) → is_king_of c (man_on p s) ≡ false
  pub free : s ≢ m.to → man_on p m.to ≡ None
  pub far : s ≢ m.to → (0 < rank_of s) × (rank_of s < 7)

-- the square that a pseudo-legal move captures on is such a square
pub captured : (p : PositionParts) (man : Man) (m : MoveParts) → m.to < 64 → Facts p man m → Captured p man m (captured_at p.target man m)
captured p man m to facts =
    elim (cases_Bool (is_en_passant p.target man m)) [
      | inl yes_passing ↦
          let f = facts.passing yes_passing in
          rw yes_passing (record {
            inside = omega arith;
            away = f.away;
            king = λ c. ap (is_king_of c) f.man ∙ pawn_king (opponent p.side) c;
            free = λ _. f.free;
            far = λ _. f.inside;
          })
      | inr not_passing ↦
          rw not_passing (record {
            inside = to;
            away = λ e. facts.apart (sym e);
            king = λ c. enter_king p.side c (man_on p m.to) facts.enter;
            free = λ ne. absurd (ne refl);
            far = λ ne. absurd (ne refl);
          })
    ]

module _ (p : PositionParts) (man : Man) (m : MoveParts) (from : m.from < 64) (to : m.to < 64) (facts : Facts p man m) where
  abbrev s : ℕ
  s = captured_at p.target man m

  abbrev first : Board
  first = remove p.placement (captured_at p.target man m)

  abbrev second : Board
  second = remove (remove p.placement (captured_at p.target man m)) m.from

  -- what is known of the captured man's square
  pub cap : Captured p man m (captured_at p.target man m)
  cap = captured p man m to facts

  -- the mover still stands there after the capture
  pub first_from : man_at first m.from ≡ Some man
  first_from = clear_there p.placement s m.from (λ e. cap.away (sym e)) ∙ facts.here

  -- the square to which it goes is empty then
  pub second_to : man_at second m.to ≡ None
  second_to =
      clear_there first m.from m.to (λ e. facts.apart (sym e))
      ∙ elim (cases_eq m.to s) [
        | inl same ↦ ap (man_at first) same ∙ clear_here p.placement s
        | inr other ↦ clear_there p.placement s m.to other ∙ cap.free (λ e. other (sym e))
      ]

  -- on how many squares a test holds: the captured man and the mover are gone
  module _ (test : Option Man → Bool) (none : test None ≡ false) where
    pub second_census : count_squares test second + bit (test (man_on p s)) + bit (test (Some man)) ≡ count_squares test p.placement
    second_census =
        let a = census_clear test p.placement s cap.inside in
        let b = census_clear test first m.from from in
        let c : bit (test (man_at first m.from)) ≡ bit (test (Some man)) = ap (λ o. bit (test o)) first_from in
        let n : bit (test None) ≡ 0 = ap bit none in
        omega arith

    -- and the man that arrives is there
    pub carried_census : count_squares test (moved_board p man m) + bit (test (man_on p s)) + bit (test (Some man))
        ≡ count_squares test p.placement + bit (test (Some (moved_man man m.promo)))
    carried_census =
        let a = second_census in
        let b = census_put test second m.to (moved_man man m.promo) to in
        let c : bit (test (man_at second m.to)) ≡ bit (test None) = ap (λ o. bit (test o)) second_to in
        let n : bit (test None) ≡ 0 = ap bit none in
        omega arith

  -- the man that arrives stands on the last square
  pub carried_here : man_at (moved_board p man m) m.to ≡ Some (moved_man man m.promo)
  carried_here = put_here second m.to (moved_man man m.promo)

  -- the other squares are as before
  pub carried_there : (q : ℕ) → q ≢ m.from → q ≢ m.to → q ≢ s → man_at (moved_board p man m) q ≡ man_on p q
  carried_there q a b c = put_there second m.to (moved_man man m.promo) q b ∙ clear_there first m.from q a ∙ clear_there p.placement s q c

  -- the first square is empty
  pub carried_from : man_at (moved_board p man m) m.from ≡ None
  carried_from = put_there second m.to (moved_man man m.promo) m.from facts.apart ∙ clear_here first m.from

  -- on rank 1 and 8 nothing but the first and the last square of the move changes
  pub carried_edge : (q : ℕ) → OnEdge q → q ≢ m.from → q ≢ m.to → man_at (moved_board p man m) q ≡ man_on p q
  carried_edge q edge a b = carried_there q a b (λ e.
      let f = cap.far (λ h. b (e ∙ h)) in
      let g : rank_of s ≡ rank_of q = ap rank_of (sym e) in
      elim edge [ inl low ↦ omega arith | inr high ↦ omega arith ])

  -- no pawn stands on rank 1 or 8
  pub carried_pawns : ((q : ℕ) → q < 64 → holds_pawn (man_on p q) ≡ true → (0 < rank_of q) × (rank_of q < 7)) →
      (q : ℕ) → q < 64 → holds_pawn (man_at (moved_board p man m) q) ≡ true → (0 < rank_of q) × (rank_of q < 7)
  carried_pawns before q inside h =
      elim (cases_eq q m.to) [
        | inl same ↦
            let still : holds_pawn (Some (moved_man man m.promo)) ≡ true =
            ap holds_pawn (sym carried_here) ∙ ap (λ x. holds_pawn (man_at (moved_board p man m) x)) (sym same) ∙ h in
            let r = facts.pawn still in
            (rw same r.0, rw same r.1)
        | inr a ↦ elim (cases_eq q m.from) [
          | inl same ↦ never (ap holds_pawn (sym carried_from) ∙ ap (λ x. holds_pawn (man_at (moved_board p man m) x)) (sym same) ∙ h)
          | inr b ↦ elim (cases_eq q s) [
            | inl same ↦
                never
                (ap holds_pawn
                (sym (put_there second m.to (moved_man man m.promo) q a ∙ clear_there first m.from q b ∙ ap (man_at first) same ∙ clear_here p.placement s))
                ∙ h)
            | inr c ↦ before q inside (ap holds_pawn (sym (carried_there q b a c)) ∙ h)
          ]
        ]
      ]

  -- where nothing stood, nothing stands, but on the square reached
  pub carried_none : (q : ℕ) → q ≢ m.to → man_on p q ≡ None → man_at (moved_board p man m) q ≡ None
  carried_none q other none =
      put_there second m.to (moved_man man m.promo) q other
      ∙ elim (cases_eq q m.from) [
        | inl same ↦ ap (man_at second) same ∙ clear_here first m.from
        | inr b ↦
            clear_there first m.from q b
            ∙ elim (cases_eq q s) [ inl same ↦ ap (man_at first) same ∙ clear_here p.placement s | inr c ↦ clear_there p.placement s q c ∙ none ]
      ]
