use Rattle.std.proofs.Common.{ℕ, ◌+◌, ◌*◌, ◌++◌, ◌≡◌, ap, ◌∙◌, arith}
use Rattle.std.specs.Prelude.{codes, decimal}
use Rattle.chess_cli.specs.Answers.{rank_numbers}
use Rattle.chess_cli.proofs.TextLemmas.{run-next, run-whole}
use Rattle.chess_cli.proofs.board_command.texts.push_rank.Goals as goal

pub loop-file-preserved : goal.loop-file-preserved
loop-file-preserved g c =
    let number : c.count-in-loop-file.result ≡ g.K.Kept.counts c.args.kept.now c.args.colour (8 * c.args.rank + c.loop-file.file) =
    c.count-in-loop-file.ensures ∙ ap (g.K.Kept.counts c.args.kept.now c.args.colour) c.from_index-in-loop-file.ensures in
    record {
      bytes = run-next (codes " ") (λ file. decimal (g.K.Kept.counts c.args.kept.now c.args.colour (8 * c.args.rank + file))) c.loop-file.file
          c.push_number.new.text.bytes c.loop-file.text.bytes c.push_str.new.self.bytes c.push_number-in-loop-file.new.text.bytes
          (decimal c.count-in-loop-file.result) (omega arith)
          c.loop-file.invariant.bytes c.push_str.ensures.bytes c.push_number-in-loop-file.ensures.bytes (ap decimal number);
      len = omega arith;
    }

pub returns-clause-bytes : goal.returns-clause-bytes
unfolding rank_numbers
returns-clause-bytes g c =
    let number : c.count.result ≡ g.K.Kept.counts c.args.kept.now c.args.colour (8 * c.args.rank + 0) =
    c.count.ensures ∙ ap (g.K.Kept.counts c.args.kept.now c.args.colour) (c.from_index.ensures ∙ omega arith) in
    run-whole (codes " ") (λ file. decimal (g.K.Kept.counts c.args.kept.now c.args.colour (8 * c.args.rank + file))) c.loop-file.file
    c.args.text.now.bytes c.push_number.new.text.bytes c.loop-file.text.bytes (omega arith)
    (c.push_number.ensures.bytes ∙ ap (λ (n : ℕ). c.args.text.now.bytes ++ decimal n) number) c.loop-file.invariant.bytes
