-- A free pawn: while it is there and the square ahead of it is empty, its side has a legal move, and the position isn't dead.
use Rattle.std.proofs.Common.{◌≡◌, ℕ, ◌<◌, ◌+◌, ◌==◌, Bool, true, false, not, ◌&&◌, ◌||◌, length, Some, None, refl, sym, ap, ◌∙◌, arith, inl, inr}
use Rattle.std.specs.List.{list_all}
use Rattle.std.proofs.lemmas.Bool.{cases_Bool, true≢false, and_from, eqb-true, eq-eqb}
use Rattle.std.proofs.Math.Bool.{and-false}
use Rattle.chess_types.specs.declared.board.man.Colour.{Colour}
use Rattle.chess_types.specs.declared.board.man.Colour.TheVariants.{White, Black}
use Rattle.chess_types.specs.board.Board.{Men}
use Rattle.chess_types.specs.board.MoveParts.{MoveParts}
use Rattle.chess_types.specs.board.Men.{is_king_of, is_of, opponent, same_colour}
use Rattle.chess_types.specs.board.Attack.{in_check, is_attacked}
use Rattle.chess_types.specs.board.Position.{PositionParts, IsSetup, man_on}
use Rattle.chess_types.specs.board.Pseudo.{is_pseudo, is_ahead, is_target, moves_as}
use Rattle.chess_types.specs.board.After.{after, is_en_passant}
use Rattle.chess_types.specs.board.Dead.{is_dead, is_other, others, holds_bishop, holds_minor}
use Rattle.chess_types.specs.board.Legal.{is_legal, legal_moves}
use Rattle.chess_types.specs.board.Squares.{file_of, squares}
use Rattle.chess_types.proofs.SameLemmas.{same_self}
use Rattle.chess_types.proofs.SquareLemmas.{every_square}
use Rattle.chess_attack.proofs.Lifted.{OnlyKing}
use Rattle.chess_attack.proofs.KingSteps.{check_there}
use Rattle.chess_attack.proofs.PinLines.{unpinned}
use Rattle.chess_play.proofs.Facts.{Facts, facts}
use Rattle.chess_moves.specs.steps.Guarded.{in_line}
use Rattle.chess_moves.proofs.GuardLemmas.{list_all-filter, permits_all}
use Rattle.chess_moves.proofs.LegalLaws.{legal_listed}
use Rattle.chess_moves.proofs.LineLemmas.{unpinned_aside}
use Rattle.chess_moves.proofs.PinLaws.{safe_move}
use Rattle.chess_search.specs.steps.Frontiers.{pawn_of, IsStep}

-- ---- not dead

-- a test of the men other than kings that one of them fails
fails : (test : ℕ → Bool) (men : Men) (a : ℕ) → a < 64 → is_other (men a) ≡ true → test a ≡ false → list_all test (others men) ≡ false
fails test men a ha other none =
    elim (cases_Bool (list_all test (others men))) [
      | inr e ↦ e
      | inl e ↦
          let each : list_all (λ s. not (is_other (men s)) || test s) squares ≡ true = sym (list_all-filter test (λ s. is_other (men s)) squares) ∙ e in
          let here : (not (is_other (men a)) || test a) ≡ true = every_square (λ s. not (is_other (men s)) || test s) each a ha in
          absurd (true≢false (sym here ∙ (λ i. not (other i) || none i)))
    ]

-- where a pawn is on the board
pub alive : (q : PositionParts) (a : ℕ) (c : Colour) → a < 64 → man_on q a ≡ Some (pawn_of c) → is_dead q ≡ false
unfolding is_dead
alive q a c ha here =
    let other : is_other (man_on q a) ≡ true = ap is_other here in
    let minor : list_all (λ s. holds_minor (man_on q s)) (others (man_on q)) ≡ false = fails (λ s. holds_minor (man_on q s)) (man_on q) a ha other (ap holds_minor here) in
    let bishop : list_all (λ s. holds_bishop (man_on q s)) (others (man_on q)) ≡ false = fails (λ s. holds_bishop (man_on q s)) (man_on q) a ha other (ap holds_bishop here) in
    rw (minor, bishop) refl

-- ---- not stalemated

-- the pawn's step
abbrev pub step_of : ℕ → ℕ → MoveParts
step_of at ahead = record { from = at; to = ahead; promo = None }

step_pseudo : (q : PositionParts) (at ahead : ℕ) → man_on q at ≡ Some (pawn_of q.side) → man_on q ahead ≡ None → IsStep q.side at ahead → is_pseudo q (step_of at ahead) ≡ true
unfolding moves_as
step_pseudo q at ahead here empty step = rw (here, same_self q.side, step.forward, empty, step.short) refl

-- it stays on its file
same_file : (c : Colour) (at ahead : ℕ) → is_ahead c at ahead ≡ true → file_of at ≡ file_of ahead
same_file White at ahead h = let e : ahead ≡ at + 8 = eqb-true ahead (at + 8) h in omega (arith, e)
same_file Black at ahead h = let e : at ≡ ahead + 8 = eqb-true at (ahead + 8) h in omega (arith, e)

passes_none : (q : PositionParts) (at ahead : ℕ) → IsStep q.side at ahead → is_en_passant q.target (pawn_of q.side) (step_of at ahead) ≡ false
passes_none q at ahead step =
    let same : (file_of at == file_of ahead) ≡ true = eq-eqb (file_of at) (file_of ahead) (same_file q.side at ahead step.forward) in
    rw same (and-false (is_target q.target ahead))

module _ (q : PositionParts) (k at ahead : ℕ) (setup : IsSetup q) (king : OnlyKing (man_on q) q.side k) (quiet : in_check (man_on q) q.side ≡ false)
    (on_board : at < 64) (here : man_on q at ≡ Some (pawn_of q.side)) (aside : in_line k at ≡ false) (step : IsStep q.side at ahead) (empty : man_on q ahead ≡ None) where
  step_legal : is_legal q (step_of at ahead) ≡ true
  unfolding is_legal
  step_legal =
      let pseudo = step_pseudo q at ahead here empty step in
      let f : Facts q (pawn_of q.side) (step_of at ahead) = facts q (step_of at ahead) setup on_board step.on_board (pawn_of q.side) here pseudo in
      let mine : is_of q.side (man_on q at) ≡ true = rw here (same_self q.side) in
      let other : is_king_of q.side (man_on q at) ≡ false = rw here (and-false (same_colour q.side q.side)) in
      let unattacked : is_attacked (man_on q) (opponent q.side) k ≡ false = sym (check_there (man_on q) q.side k king) ∙ quiet in
      let safe : not (in_check (man_on (after q (step_of at ahead))) q.side) ≡ true =
      safe_move q (pawn_of q.side) (step_of at ahead) setup on_board step.on_board f (passes_none q at ahead step) k king refl
      ∙ (λ i. permits_all (man_on q) q.side k ahead king unattacked i
      && unpinned (man_on q) q.side at k ahead mine other (unpinned_aside (man_on q) q.side k at king on_board aside) i) in
      and_from _ _ pseudo safe

  -- so there is a legal move
  pub can_move : 0 < length (legal_moves q)
  can_move =
      let (place, inside, found) = legal_listed q (step_of at ahead) (record { from = on_board; to = step.on_board }) step_legal in
      omega (arith, inside)
