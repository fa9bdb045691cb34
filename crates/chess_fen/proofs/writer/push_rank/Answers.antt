use Rattle.std.proofs.Common.{◌+◌, ◌++◌, ◌∷◌, List, ℕ, drop, sym, ap, ◌∙◌, arith}
use Rattle.std.proofs.lemmas.List.{drop_more}
use Rattle.std.specs.Prelude.{Option}
use Rattle.chess_types.specs.declared.board.man.Man.{Man}
use Rattle.chess_fen.specs.Writing.{cells_text}
use Rattle.chess_fen.proofs.WriteLemmas.{eight_empty}
use Rattle.chess_fen.proofs.writer.push_rank.Goals as goal

pub loop-cell-preserved : goal.loop-cell-preserved
loop-cell-preserved c =
    let cells = c.args.cells.now in
    let at = c.loop-cell.cell-index in
    let next = drop_more cells at c.cell-item.result (omega arith) in
    let item = ap (λ (cell : Option Man). c.loop-cell.text.bytes ++ cells_text c.loop-cell.run (cell ∷ drop (at + 1) cells)) c.cell-item.is in
    let same = ap (λ rest. c.loop-cell.text.bytes ++ cells_text c.loop-cell.run rest) (sym next) in
    record {
      bytes = c.push_cell-run.ensures.bytes (drop (at + 1) cells) ∙ item ∙ same ∙ c.loop-cell.invariant.bytes;
      len = omega (arith, c.push_cell-run.ensures.len);
      run = omega (arith, c.push_cell-run.ensures.grows);
    }

pub returns-then-are_empty-clause-bytes : goal.returns-then-are_empty-clause-bytes
returns-then-are_empty-clause-bytes c =
    c.push_ascii.ensures.bytes ∙ ap (λ (rank : List ℕ). c.args.text.now.bytes ++ rank) (sym (eight_empty c.args.cells.now c.requires.eight (sym c.are_empty.ensures ∙ c.if-are_empty.true)))
