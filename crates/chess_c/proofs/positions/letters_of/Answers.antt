use Rattle.std.proofs.Common.{◌∙◌, ℕ, ap, refl, replicate}
use Rattle.chess_types.specs.board.Board.{man_at}
use Rattle.chess_c.specs.Positions.{letter_of}
use Rattle.chess_c.proofs.PutLemmas.{put_start, put_square, put_squares}
use Rattle.chess_c.proofs.positions.letters_of.Goals as goal

pub loop-number-init : goal.loop-number-init
loop-number-init c = put_start _ _

pub loop-number-preserved : goal.loop-number-preserved
loop-number-preserved c =
    put_square (λ (square : ℕ). letter_of (man_at c.args.placement.now square)) (replicate 64 0) c.loop-number.letters c.loop-number.number c.letter_of.result c.loop-number-test.true refl
    (c.letter_of.ensures ∙ ap letter_of c.get.ensures ∙ ap (λ (square : ℕ). letter_of (man_at c.args.placement.now square)) c.from_index.ensures) c.loop-number.invariant

pub returns : goal.returns
returns c =
    put_squares (λ (square : ℕ). letter_of (man_at c.args.placement.now square)) (replicate 64 0) c.loop-number.letters c.loop-number.number c.loop-number-test.false c.loop-number.auto.number-end refl c.loop-number.invariant
