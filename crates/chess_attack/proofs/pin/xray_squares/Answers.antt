use Rattle.std.proofs.Common.{Bool, ◌||◌, ltb, ◌∙◌}
use Rattle.chess_types.specs.declared.board.axis.Axis.{Axis}
use Rattle.chess_types.specs.declared.board.axis.Axis.TheVariants.{Rank, File, Rising, Falling}
use Rattle.chess_types.specs.board.Board.{man_at}
use Rattle.chess_attack.specs.steps.PinHalves.{along, shaded_on}
use Rattle.chess_attack.proofs.StopSets.{four_tests, four_sets}
use Rattle.chess_attack.proofs.pin.xray_squares.Goals as goal

pub returns : goal.returns
returns c = λ s.
    let test : Axis → Bool = λ axis. along (shaded_on (man_at c.args.placement.now) c.args.colour c.args.king s) axis in
    rw (c.union-3.ensures, c.union-2.ensures, c.union.ensures)
    (four_sets c.shade_along-ranks.result c.shade_along-files.result c.shade_along-rising.result c.shade_along-falling.result s
    ∙ (λ i. ((c.shade_along-ranks.ensures s i || c.shade_along-files.ensures s i) || c.shade_along-rising.ensures s i) || c.shade_along-falling.ensures s i)
    ∙ four_tests (ltb s 64) (test Rank) (test File) (test Rising) (test Falling))
