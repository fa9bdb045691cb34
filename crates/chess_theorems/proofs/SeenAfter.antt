-- The position after a move seen otherwise.
use Rattle.std.proofs.Common.{◌≡◌, ◌≢◌, ℕ, ◌+◌, ◌*◌, ◌<◌, ◌==◌, Bool, true, false, not, ◌&&◌, ◌||◌, Option, Some, None, is_some, if◌then◌else◌, refl, sym, ap, subst, ◌∙◌, arith, inl, inr}
use Rattle.std.specs.Prelude.{option_map}
use Rattle.std.specs.FinMap.{insert, remove}
use Rattle.std.proofs.lemmas.Bool.{cases_eq}
use Rattle.chess_types.specs.declared.board.man.Colour.{Colour}
use Rattle.chess_types.specs.declared.board.man.Kind.{Kind}
use Rattle.chess_types.specs.declared.board.man.Man.{Man}
use Rattle.chess_types.specs.board.Board.{Board, man_at}
use Rattle.chess_types.specs.board.Squares.{file_of, rank_of}
use Rattle.chess_types.specs.board.Men.{opponent, is_pawn}
use Rattle.chess_types.specs.board.MoveParts.{MoveParts}
use Rattle.chess_types.specs.board.Position.{PositionParts, IsSetup, man_on}
use Rattle.chess_types.specs.board.Pseudo.{is_target, midway}
use Rattle.chess_types.specs.board.After.{after_by, moved_man, captured_at, clock_after, is_en_passant, placement_after, target_after, moved_board}
use Rattle.chess_play.proofs.Census.{put_here, put_there, clear_here, clear_there}
use Rattle.chess_theorems.proofs.Symmetry.{Symmetry, IsSeen, recolour, seen_move}
use Rattle.chess_theorems.proofs.SeenAttacks.{there_across}
use Rattle.chess_theorems.proofs.SeenMoves.{target_across, target_inside}

-- the man in the colour so seen
abbrev pub seen_man : (Colour → Colour) → Man → Man
seen_man κ man = record man { colour = κ man.colour }

-- one board is another one so seen
abbrev pub AreSeen : (ℕ → ℕ) → (Colour → Colour) → Board → Board → Type 0
AreSeen σ κ B C = (s : ℕ) → s < 64 → man_at C s ≡ recolour κ (man_at B (σ s))

-- a man is put on both boards
pub seen_put : (σ : ℕ → ℕ) (κ : Colour → Colour) → Symmetry σ κ → (B C : Board) (x y : ℕ) (man : Man) → x < 64 → y ≡ σ x → AreSeen σ κ B C →
    AreSeen σ κ (insert B x man) (insert C y (seen_man κ man))
seen_put σ κ law B C x y man hx is mirror s hs =
    elim (cases_eq s y) [
      | inl same ↦
          let e : σ s ≡ x = ap σ (same ∙ is) ∙ law.twice x hx in
          ap (man_at (insert C y (seen_man κ man))) same ∙ put_here C y (seen_man κ man)
          ∙ sym (ap (recolour κ) (ap (man_at (insert B x man)) e ∙ put_here B x man))
      | inr other ↦
          let away : σ s ≢ x = λ e. other (sym (law.twice s hs) ∙ ap σ e ∙ sym is) in
          put_there C y (seen_man κ man) s other ∙ mirror s hs ∙ sym (ap (recolour κ) (put_there B x man (σ s) away))
    ]

-- a square is cleared on both
pub seen_clear : (σ : ℕ → ℕ) (κ : Colour → Colour) → Symmetry σ κ → (B C : Board) (x y : ℕ) → x < 64 → y ≡ σ x → AreSeen σ κ B C → AreSeen σ κ (remove B x) (remove C y)
seen_clear σ κ law B C x y hx is mirror s hs =
    elim (cases_eq s y) [
      | inl same ↦
          let e : σ s ≡ x = ap σ (same ∙ is) ∙ law.twice x hx in
          ap (man_at (remove C y)) same ∙ clear_here C y ∙ sym (ap (recolour κ) (ap (man_at (remove B x)) e ∙ clear_here B x))
      | inr other ↦
          let away : σ s ≢ x = λ e. other (sym (law.twice s hs) ∙ ap σ e ∙ sym is) in
          clear_there C y s other ∙ mirror s hs ∙ sym (ap (recolour κ) (clear_there B x (σ s) away))
    ]

arriving_seen : (κ : Colour → Colour) (man : Man) (promo : Option Kind) → moved_man (seen_man κ man) promo ≡ seen_man κ (moved_man man promo)
arriving_seen κ man None = refl
arriving_seen κ man (Some into) = refl

some_recoloured : (κ : Colour → Colour) (there : Option Man) → is_some (recolour κ there) ≡ is_some there
some_recoloured κ None = refl
some_recoloured κ (Some man) = refl

module _ (σ : ℕ → ℕ) (κ : Colour → Colour) (law : Symmetry σ κ) (p q : PositionParts) (setup : IsSetup p) (both : IsSeen σ κ p q) (m : MoveParts) (from : m.from < 64) (to : m.to < 64) (man : Man) where
  pub seen_passing : is_en_passant q.target (seen_man κ man) (seen_move σ m) ≡ is_en_passant p.target man m
  seen_passing = λ i.
      is_pawn man.kind && (ap (λ t. is_target_at t) both.target ∙ target_across σ κ law p.target m.to (target_inside p setup) to) i && not (law.files m.from m.to from to i)
    where
      is_target_at : Option ℕ → Bool
      is_target_at t = is_target t (σ m.to)

  captured : captured_at q.target (seen_man κ man) (seen_move σ m) ≡ σ (captured_at p.target man m)
  captured =
      ap (λ b. if b then 8 * rank_of (σ m.from) + file_of (σ m.to) else σ m.to) seen_passing ∙ by_test (is_en_passant p.target man m)
    where
      by_test : (b : Bool) → (if b then 8 * rank_of (σ m.from) + file_of (σ m.to) else σ m.to) ≡ σ (if b then 8 * rank_of m.from + file_of m.to else m.to)
      by_test true = law.corner m.from m.to from to
      by_test false = refl

  captured_inside : captured_at p.target man m < 64
  captured_inside = by_test (is_en_passant p.target man m)
    where
      by_test : (b : Bool) → (if b then 8 * rank_of m.from + file_of m.to else m.to) < 64
      by_test true = omega arith
      by_test false = to

  pub moved : AreSeen σ κ (moved_board p man m) (moved_board q (seen_man κ man) (seen_move σ m))
  moved =
      subst (λ (x : Man). AreSeen σ κ (moved_board p man m) (insert (remove (remove q.placement (captured_at q.target (seen_man κ man) (seen_move σ m))) (σ m.from)) (σ m.to) x))
      (sym (arriving_seen κ man m.promo))
      (seen_put σ κ law (remove (remove p.placement (captured_at p.target man m)) m.from)
      (remove (remove q.placement (captured_at q.target (seen_man κ man) (seen_move σ m))) (σ m.from)) m.to (σ m.to) (moved_man man m.promo) to refl
      (seen_clear σ κ law (remove p.placement (captured_at p.target man m)) (remove q.placement (captured_at q.target (seen_man κ man) (seen_move σ m))) m.from (σ m.from) from refl
      (seen_clear σ κ law p.placement q.placement (captured_at p.target man m) (captured_at q.target (seen_man κ man) (seen_move σ m)) captured_inside captured both.board)))

  target_then : target_after (seen_man κ man) (seen_move σ m) ≡ option_map σ (target_after man m)
  target_then =
      ap (λ b. if is_pawn man.kind && b then Some (midway (seen_move σ m)) else None) (law.advance m.from m.to from to).0
      ∙ by_test (is_pawn man.kind) (m.to == m.from + 16 || m.from == m.to + 16) (law.advance m.from m.to from to).1
    where
      by_test : (pawn b : Bool) → (b ≡ true → midway (seen_move σ m) ≡ σ (midway m)) →
          (if pawn && b then Some (midway (seen_move σ m)) else None) ≡ option_map σ (if pawn && b then Some (midway m) else None)
      by_test true true f = ap (λ x. Some x) (f refl)
      by_test true false f = refl
      by_test false b f = refl

  clock_then : clock_after q (seen_man κ man) (seen_move σ m) ≡ clock_after p man m
  clock_then = λ i.
      if is_pawn man.kind || (ap is_some (there_across σ κ law (man_on p) (man_on q) both.board m.to to) ∙ some_recoloured κ (man_on p m.to)) i then 0 else both.clock i + 1

  -- so the position after the move is the one so seen, once the boards are
  pub seen_by : AreSeen σ κ (placement_after p man m) (placement_after q (seen_man κ man) (seen_move σ m)) →
      IsSeen σ κ (after_by p (Some man) m) (after_by q (Some (seen_man κ man)) (seen_move σ m))
  seen_by placed = record {
    board = placed;
    side = ap opponent both.side ∙ law.others p.side;
    target = target_then;
    clock = clock_then;
  }
