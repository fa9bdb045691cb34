use Rattle.std.proofs.Common.{◌≡◌, Some, sym, subst, ◌∙◌}
use Rattle.chess_types.specs.board.Board.{Men, man_at}
use Rattle.chess_attack.specs.steps.Halves.{opposite}
use Rattle.chess_attack.specs.KeptCounts.{count_in}
use Rattle.chess_attack.specs.steps.Marks.{swept}
use Rattle.chess_attack.specs.steps.Through.{IsFirstAt, IsBare, cut_on}
use Rattle.chess_attack.proofs.Amounts.{moved_none, moves_by, room_by}
use Rattle.chess_attack.proofs.XRays.{relit, unlit, unlit_bare}
use Rattle.chess_attack.proofs.Work.{worked_none}
use Rattle.chess_attack.proofs.x_rays.update_x_rays_half.Goals as goal
use Rattle.chess_attack.proofs.x_rays.update_x_rays_half.Goals.{After-slides}

-- the first man on the other half
first : (c : After-slides) → IsFirstAt (man_at c.args.placement.now) c.args.axis (opposite c.args.way) c.args.at c.in-Some.square
first c = subst (λ w. IsFirstAt (man_at c.args.placement.now) c.args.axis w c.args.at c.in-Some.square) c.opposite-other.ensures c.in-Some.ensures.found

holds : (c : After-slides) → man_at c.args.placement.now c.in-Some.square ≡ Some c.in-Some-get.man
holds c = sym c.get.ensures ∙ c.in-Some-get.is

pub sweep-requires : goal.sweep-requires
sweep-requires c =
    let man_on : Men = man_at c.args.placement.now in
    let at = (goal.at.sweep-requires c).After-slides in
    record {
      room = room_by c.args.change c.args.tally.now (cut_on man_on c.args.axis c.args.way c.args.at)
          (swept c.in-Some-get.man.colour man_on c.args.axis c.args.way c.args.at) c.requires.room (λ k s hs.
          sym (relit man_on c.args.axis c.args.way c.args.at c.in-Some.square c.in-Some-get.man (first at) (holds at) (sym c.slides.ensures ∙ c.if-slides.true) k s));
    }

pub returns-then-slides-clause-counts : goal.returns-then-slides-clause-counts
returns-then-slides-clause-counts c =
    let man_on : Men = man_at c.args.placement.now in
    let at = (goal.at.returns-then-slides-clause-counts c).After-slides in
    moves_by c.args.change c.args.tally.now c.sweep.new.tally (swept c.in-Some-get.man.colour man_on c.args.axis c.args.way c.args.at)
    (cut_on man_on c.args.axis c.args.way c.args.at) c.sweep.ensures.counts (λ k s hs.
    relit man_on c.args.axis c.args.way c.args.at c.in-Some.square c.in-Some-get.man (first at) (holds at) (sym c.slides.ensures ∙ c.if-slides.true) k s)

pub returns-else-slides-clause-counts : goal.returns-else-slides-clause-counts
returns-else-slides-clause-counts c =
    let at = (goal.at.returns-else-slides-clause-counts c).After-slides in
    λ k s hs. moved_none c.args.change (count_in c.args.tally.now k s) _
    (unlit (man_at c.args.placement.now) c.args.axis c.args.way c.args.at c.in-Some.square c.in-Some-get.man (first at) (holds at) (sym c.slides.ensures ∙ c.if-slides.false) k s)

pub returns-in_default-clause-counts : goal.returns-in_default-clause-counts
returns-in_default-clause-counts c =
    let man_on : Men = man_at c.args.placement.now in
    let bare : IsBare man_on c.args.axis (opposite c.args.way) c.args.at =
    subst (λ w. IsBare man_on c.args.axis w c.args.at) c.opposite-other.ensures c.in_default.ensures.none in
    λ k s hs. moved_none c.args.change (count_in c.args.tally.now k s) _ (unlit_bare man_on c.args.axis c.args.way c.args.at bare k s)

pub returns-then-is_quiet-clause-worked : goal.returns-then-is_quiet-clause-worked
returns-then-is_quiet-clause-worked c = worked_none _ _

pub returns-else-slides-clause-worked : goal.returns-else-slides-clause-worked
returns-else-slides-clause-worked c = worked_none _ _

pub returns-in_default-clause-worked : goal.returns-in_default-clause-worked
returns-in_default-clause-worked c = worked_none _ _
