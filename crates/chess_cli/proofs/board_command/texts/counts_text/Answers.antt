use Rattle.std.proofs.Common.{◌++◌, List, ℕ, [], ap, ◌∙◌, arith, refl}
use Rattle.std.specs.Prelude.{codes}
use Rattle.chess_cli.specs.Answers.{rank_numbers, counts_text}
use Rattle.chess_cli.proofs.TextLemmas.{run-next, run-whole}
use Rattle.chess_cli.proofs.board_command.texts.counts_text.Goals as goal

pub loop-rank-preserved : goal.loop-rank-preserved
loop-rank-preserved g c = record {
  bytes = run-next (codes " / ") (rank_numbers (g.K.Kept.counts c.args.kept.now c.args.colour)) c.loop-rank.rank
      c.push_rank.new.text.bytes c.loop-rank.text.bytes c.push_str.new.self.bytes c.push_rank-in-loop-rank.new.text.bytes
      (rank_numbers (g.K.Kept.counts c.args.kept.now c.args.colour) c.loop-rank.rank) (omega arith)
      c.loop-rank.invariant.bytes c.push_str.ensures.bytes c.push_rank-in-loop-rank.ensures.bytes refl;
  len = omega arith;
}

pub returns : goal.returns
unfolding counts_text
returns g c =
    run-whole (codes " / ") (rank_numbers (g.K.Kept.counts c.args.kept.now c.args.colour)) c.loop-rank.rank
    [] c.push_rank.new.text.bytes c.loop-rank.text.bytes (omega arith)
    (c.push_rank.ensures.bytes ∙ ap (λ (t : List ℕ). t ++ rank_numbers (g.K.Kept.counts c.args.kept.now c.args.colour) 0) c.new-text.ensures)
    c.loop-rank.invariant.bytes
