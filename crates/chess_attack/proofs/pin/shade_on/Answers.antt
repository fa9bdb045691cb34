use Rattle.std.proofs.Common.{◌≡◌, ◌&&◌, true, false, ltb, sym, ap, ◌∙◌}
use Rattle.std.proofs.Math.Bool.{and-false}
use Rattle.std.specs.FinSet.{contains, contains-empty}
use Rattle.std.specs.Ordering.{nat_cmp}
use Rattle.chess_types.specs.board.Board.{Men, man_at}
use Rattle.chess_types.specs.board.Men.{opponent}
use Rattle.chess_attack.specs.steps.Halves.{opposite}
use Rattle.chess_attack.specs.steps.Marks.{reaches}
use Rattle.chess_attack.specs.steps.Through.{is_attacked_along}
use Rattle.chess_attack.proofs.pin.shade_on.Goals as goal

pub returns-then-sees_slider : goal.returns-then-sees_slider
returns-then-sees_slider c = λ s.
    let man_on : Men = man_at c.args.placement.now in
    let seen : is_attacked_along man_on c.args.axis (opposite c.args.way) c.args.king (opponent c.args.colour) ≡ true =
    (λ i. is_attacked_along man_on c.args.axis (sym c.opposite.ensures i) c.args.king (sym c.opponent.ensures i)) ∙ sym c.sees_slider.ensures ∙ c.if-sees_slider.true in
    c.reach.ensures s ∙ ap (λ b. ltb s 64 && (b && reaches man_on c.args.axis c.args.way c.args.king s)) (sym seen)

pub returns-else-sees_slider : goal.returns-else-sees_slider
returns-else-sees_slider c = λ s.
    let man_on : Men = man_at c.args.placement.now in
    let seen : is_attacked_along man_on c.args.axis (opposite c.args.way) c.args.king (opponent c.args.colour) ≡ false =
    (λ i. is_attacked_along man_on c.args.axis (sym c.opposite.ensures i) c.args.king (sym c.opponent.ensures i)) ∙ sym c.sees_slider.ensures ∙ c.if-sees_slider.false in
    ap (λ x. contains x s) c.empty.ensures ∙ contains-empty nat_cmp s ∙ sym (and-false (ltb s 64))
    ∙ ap (λ b. ltb s 64 && (b && reaches man_on c.args.axis c.args.way c.args.king s)) (sym seen)
