use Rattle.std.proofs.Common.{◌≡◌, ℕ, ◌<◌, false, ◌&&◌, sym, ap, subst, ◌∙◌, arith}
use Rattle.std.proofs.lemmas.Bool.{lt-ltb}
use Rattle.std.specs.FinSet.{contains, contains-empty}
use Rattle.std.specs.Ordering.{nat_cmp}
use Rattle.chess_types.specs.board.Position.{PositionParts, man_on}
use Rattle.chess_types.specs.board.Men.{opponent}
use Rattle.chess_types.specs.board.Attack.{checks_from, is_attacked}
use Rattle.chess_attack.specs.Pins.{is_pinned}
use Rattle.chess_attack.specs.steps.PinHalves.{round, shaded_on}
use Rattle.chess_attack.proofs.Lifted.{OnlyKing, only_king}
use Rattle.chess_attack.proofs.StopSets.{no_shade}
use Rattle.chess_moves.proofs.GuardLemmas.{permits_is, permits_all}
use Rattle.chess_moves.proofs.guard.check_info_by.Goals as goal

pub returns-then-not-attacked : goal.returns-then-not-attacked
returns-then-not-attacked g c =
    let p : PositionParts = c.args.live.now.position in
    let k : ℕ = c.args.king in
    let same = c.setup.view_is ∙ c.position-setup.ensures.value in
    let king : OnlyKing (man_on p) p.side k = only_king p.placement p.side k (c.position-setup.ensures.setup.kings p.side) (omega arith) c.requires.king in
    let quiet : is_attacked (man_on p) (opponent p.side) k ≡ false = sym c.requires.attacked ∙ c.if-not-attacked.true in
    record {
      on_board = omega arith;
      king = c.requires.king;
      check_mask = λ to ht. c.all.ensures to ∙ lt-ltb to 64 ht ∙ sym (permits_all (man_on p) p.side k to king quiet);
      xray_squares = λ to ht. ap (λ s. contains s to) c.empty.ensures ∙ contains-empty nat_cmp to ∙ sym (no_shade (man_on p) p.side k to (omega arith) quiet);
      pinned = subst (λ (q : PositionParts). (s : ℕ) → s < 64 → contains c.pinned_to-pinned.result s ≡ is_pinned (man_on q) q.side s) same c.pinned_to-pinned.ensures;
    }

pub returns : goal.returns
returns g c =
    let p : PositionParts = c.args.live.now.position in
    let k : ℕ = c.args.king in
    let same = c.setup.view_is ∙ c.position-setup.ensures.value in
    record {
      on_board = omega arith;
      king = c.requires.king;
      check_mask = λ to ht.
          c.check_masks.ensures to ht
          ∙ permits_is (man_on p) p.side k to c.checkers.result
          (subst (λ (q : PositionParts). (a : ℕ) → a < 64 → contains c.checkers.result a ≡ checks_from (man_on q) q.side a) same c.checkers.ensures);
      xray_squares = λ to ht.
          c.xray_squares.ensures to ∙ (λ i. lt-ltb to 64 ht i && round (shaded_on (man_on (same i)) (same i).side k to));
      pinned = subst (λ (q : PositionParts). (s : ℕ) → s < 64 → contains c.pinned_to-pinned.result s ≡ is_pinned (man_on q) q.side s) same c.pinned_to-pinned.ensures;
    }
