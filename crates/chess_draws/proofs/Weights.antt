-- A weight of the men on the board that no move makes greater, and that each pawn move and each capture makes less: a pawn never goes
-- back, and a captured man never returns.
use Rattle.std.proofs.Common.{◌≡◌, ◌≢◌, ℕ, ◌+◌, ◌-◌, ◌<◌, ◌≤◌, true, false, ◌||◌, Option, Some, None, is_some, refl, sym, ap, subst, ◌∙◌, arith, inl, inr}
use Rattle.std.proofs.lemmas.Bool.{cases_Bool, true≢false}
use Rattle.std.specs.FinMap.{insert, remove}
use Rattle.chess_types.specs.declared.board.man.Colour.{Colour}
use Rattle.chess_types.specs.declared.board.man.Colour.TheVariants.{White, Black}
use Rattle.chess_types.specs.declared.board.man.Kind.{Kind}
use Rattle.chess_types.specs.declared.board.man.Kind.TheVariants.{Pawn}
use Rattle.chess_types.specs.declared.board.man.Man.{Man}
use Rattle.chess_types.specs.declared.board.position.Wing.{Wing}
use Rattle.chess_types.specs.declared.board.position.Wing.TheVariants.{KingSide, QueenSide}
use Rattle.chess_types.specs.board.Board.{Board, Men, man_at}
use Rattle.chess_types.specs.board.Squares.{rank_of}
use Rattle.chess_types.specs.board.MoveParts.{MoveParts}
use Rattle.chess_types.specs.board.Men.{is_pawn}
use Rattle.chess_types.specs.board.Position.{PositionParts, IsSetup, man_on, rook_home}
use Rattle.chess_types.specs.board.Pseudo.{crossed}
use Rattle.chess_types.specs.board.After.{captured_at, moved_man, moved_board, is_castling, with_rook, rook_of, placement_after}
use Rattle.chess_types.proofs.Sums.{total, total-one, total-agree}
use Rattle.chess_play.proofs.Census.{put_here, put_there, clear_here, clear_there}
use Rattle.chess_play.proofs.Facts.{Facts}
use Rattle.chess_play.proofs.Carried.{Captured, captured, second_to, first_from}
use Rattle.chess_play.proofs.Pawns.{Further}
use Rattle.chess_play.proofs.Promotions.{colour_kept}
use Rattle.chess_play.proofs.CastlingSquares.{rook_inside, crossed_inside}
use Rattle.chess_play.proofs.Castled.{ready, placement_castled, placement_plain}

-- a man counts 1, and a pawn 2 and the ranks before it
abbrev pub steps_left : Colour → ℕ → ℕ
steps_left White s = 7 - rank_of s
steps_left Black s = rank_of s

abbrev pub man_weight : Kind → Colour → ℕ → ℕ
man_weight Pawn c s = 2 + steps_left c s
man_weight _ c s = 1

abbrev pub weight_at : Option Man → ℕ → ℕ
weight_at None s = 0
weight_at (Some man) s = man_weight man.kind man.colour s

unfoldable pub weight : Men → ℕ
weight men = total (λ s. weight_at (men s) s) 0 64

-- boards with the same men weigh the same
pub weight_same : (a b : Men) → ((s : ℕ) → s < 64 → a s ≡ b s) → weight a ≡ weight b
unfolding weight
weight_same a b same = total-agree (λ s. weight_at (a s) s) (λ s. weight_at (b s) s) 0 64 (λ s low high. ap (λ o. weight_at o s) (same s high))

weight_one : (a b : Board) (at : ℕ) → at < 64 → ((q : ℕ) → q ≢ at → man_at a q ≡ man_at b q) →
    weight (man_at a) + weight_at (man_at b at) at ≡ weight (man_at b) + weight_at (man_at a at) at
unfolding weight
weight_one a b at inside same =
    total-one (λ s. weight_at (man_at a s) s) (λ s. weight_at (man_at b s) s) at 0 64 (omega arith) inside (λ x low high other. ap (λ o. weight_at o x) (same x other))

weight_put : (board : Board) (at : ℕ) (man : Man) → at < 64 → weight (man_at (insert board at man)) + weight_at (man_at board at) at ≡ weight (man_at board) + weight_at (Some man) at
weight_put board at man inside =
    weight_one (insert board at man) board at inside (put_there board at man) ∙ ap (λ o. weight (man_at board) + weight_at o at) (put_here board at man)

weight_clear : (board : Board) (at : ℕ) → at < 64 → weight (man_at (remove board at)) + weight_at (man_at board at) at ≡ weight (man_at board)
weight_clear board at inside =
    let e = weight_one (remove board at) board at inside (clear_there board at) in
    let n : weight_at (man_at (remove board at) at) at ≡ 0 = ap (λ o. weight_at o at) (clear_here board at) in
    omega arith

module _ (p : PositionParts) (man : Man) (m : MoveParts) (setup : IsSetup p) (from : m.from < 64) (to : m.to < 64) (facts : Facts p man m) where
  cap : Captured p man m (captured_at p.target man m)
  cap = captured p man m to facts

  carried_weight : weight (man_at (moved_board p man m)) + weight_at (man_on p (captured_at p.target man m)) (captured_at p.target man m) + weight_at (Some man) m.from
      ≡ weight (man_on p) + weight_at (Some (moved_man man m.promo)) m.to
  carried_weight =
      let a = weight_clear p.placement (captured_at p.target man m) cap.inside in
      let b = weight_clear (remove p.placement (captured_at p.target man m)) m.from from in
      let c : weight_at (man_at (remove p.placement (captured_at p.target man m)) m.from) m.from ≡ weight_at (Some man) m.from = ap (λ o. weight_at o m.from) (first_from p man m from to facts) in
      let d = weight_put (remove (remove p.placement (captured_at p.target man m)) m.from) m.to (moved_man man m.promo) to in
      let e : weight_at (man_at (remove (remove p.placement (captured_at p.target man m)) m.from) m.to) m.to ≡ 0 = ap (λ o. weight_at o m.to) (second_to p man m from to facts) in
      omega arith

  rook_weight : (w : Wing) → is_castling man w m ≡ true → weight (man_at (with_rook p.side w (moved_board p man m))) ≡ weight (man_at (moved_board p man m))
  rook_weight w h =
      let r = ready p man m setup from to facts w h in
      let a = weight_clear (moved_board p man m) (rook_home p.side w) (rook_inside p.side w) in
      let b = weight_put (remove (moved_board p man m) (rook_home p.side w)) (crossed p.side w) (rook_of p.side) (crossed_inside p.side w) in
      let x : weight_at (man_at (moved_board p man m) (rook_home p.side w)) (rook_home p.side w) ≡ 1 = ap (λ o. weight_at o (rook_home p.side w)) r.rook in
      let y : weight_at (man_at (remove (moved_board p man m) (rook_home p.side w)) (crossed p.side w)) (crossed p.side w) ≡ 0 = ap (λ o. weight_at o (crossed p.side w)) r.free in
      omega arith

  castled_weight : (w : Wing) → is_castling man w m ≡ true → weight (man_at (placement_after p man m)) ≡ weight (man_at (moved_board p man m))
  castled_weight w h =
      ap (λ (b : Board). weight (man_at b)) (placement_castled p man m w h ∙ ap (λ (c : Colour). with_rook c w (moved_board p man m)) facts.mine)
      ∙ rook_weight w h

  pub weight_after : weight (man_at (placement_after p man m)) + weight_at (man_on p (captured_at p.target man m)) (captured_at p.target man m) + weight_at (Some man) m.from
      ≡ weight (man_on p) + weight_at (Some (moved_man man m.promo)) m.to
  weight_after =
      let same : weight (man_at (placement_after p man m)) ≡ weight (man_at (moved_board p man m)) =
      elim (cases_Bool (is_castling man KingSide m)) [
        | inl x ↦ castled_weight KingSide x
        | inr x ↦ elim (cases_Bool (is_castling man QueenSide m)) [
          | inl y ↦ castled_weight QueenSide y
          | inr y ↦ ap (λ (b : Board). weight (man_at b)) (placement_plain p man m x y)
        ]
      ] in
      omega (arith, same, carried_weight)

positive : (o : Option Man) (s : ℕ) → is_some o ≡ true → 1 ≤ weight_at o s
positive None s h = absurd (true≢false (sym h))
positive (Some man) s h = one_at_least man.kind
  where
    one_at_least : (k : Kind) → 1 ≤ man_weight k man.colour s
    one_at_least Pawn = omega arith
    one_at_least _ = omega arith

heaviest : (k : Kind) (c : Colour) (s : ℕ) → man_weight k c s ≤ 2 + steps_left c s
heaviest Pawn c s = omega arith
heaviest _ c s = omega arith

pawn_weight : (k : Kind) (c : Colour) (s : ℕ) → is_pawn k ≡ true → man_weight k c s ≡ 2 + steps_left c s
pawn_weight Pawn c s h = refl
pawn_weight _ c s h = absurd (true≢false (sym h))

piece_weight : (k : Kind) (c : Colour) (s : ℕ) → is_pawn k ≡ false → man_weight k c s ≡ 1
piece_weight Pawn c s h = absurd (true≢false h)
piece_weight _ c s h = refl

fewer_left : (c : Colour) (a b : ℕ) → a < 64 → b < 64 → Further c a b → steps_left c b < steps_left c a
fewer_left White a b ha hb h = omega arith
fewer_left Black a b ha hb h = omega arith

pub record Loses (p : PositionParts) (man : Man) (m : MoveParts) : Type 0 where
  pub never_more : weight (man_at (placement_after p man m)) ≤ weight (man_on p)
  pub less : (is_pawn man.kind || is_some (man_on p m.to)) ≡ true → weight (man_at (placement_after p man m)) < weight (man_on p)

pub loses : (p : PositionParts) (man : Man) (m : MoveParts) → IsSetup p → m.from < 64 → m.to < 64 → Facts p man m → Loses p man m
loses p man m setup from to facts =
    let e = weight_after p man m setup from to facts in
    elim (cases_Bool (is_pawn man.kind)) [
      | inl yes_pawn ↦
          let f : steps_left man.colour m.to < steps_left man.colour m.from = fewer_left man.colour m.from m.to from to (subst (λ (c : Colour). Further c m.from m.to) (sym facts.mine) (facts.onward yes_pawn)) in
          let g : weight_at (Some (moved_man man m.promo)) m.to ≤ 2 + steps_left man.colour m.to =
          subst (λ (c : Colour). man_weight (moved_man man m.promo).kind (moved_man man m.promo).colour m.to ≤ 2 + steps_left c m.to) (colour_kept man m.promo) (heaviest (moved_man man m.promo).kind (moved_man man m.promo).colour m.to) in
          let h : weight_at (Some man) m.from ≡ 2 + steps_left man.colour m.from = pawn_weight man.kind man.colour m.from yes_pawn in
          let lt : weight (man_at (placement_after p man m)) < weight (man_on p) = omega arith in
          record { never_more = omega arith; less = λ _. lt }
      | inr no_pawn ↦
          let a : weight_at (Some (moved_man man m.promo)) m.to ≡ 1 = ap (λ (x : Man). weight_at (Some x) m.to) (facts.same no_pawn) ∙ piece_weight man.kind man.colour m.to no_pawn in
          let b : weight_at (Some man) m.from ≡ 1 = piece_weight man.kind man.colour m.from no_pawn in
          let at : captured_at p.target man m ≡ m.to = rw no_pawn refl in
          let c : weight_at (man_on p (captured_at p.target man m)) (captured_at p.target man m) ≡ weight_at (man_on p m.to) m.to = ap (λ (s : ℕ). weight_at (man_on p s) s) at in
          record {
            never_more = omega arith;
            less = λ h.
                let d = positive (man_on p m.to) m.to (sym (rw no_pawn refl) ∙ h) in
                omega arith;
          }
    ]
