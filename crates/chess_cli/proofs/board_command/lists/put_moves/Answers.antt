use Rattle.std.proofs.Common.{◌++◌, refl, sym, ◌∙◌, append_assoc, arith}
use Rattle.std.specs.Prelude.{codes}
use Rattle.chess_types.specs.board.Texts.{move_text}
use Rattle.chess_cli.proofs.ListLemmas.{move_next}
use Rattle.chess_cli.proofs.board_command.lists.put_moves.Goals as goal

pub loop-m-preserved : goal.loop-m-preserved
loop-m-preserved g c =
    let so_far = c.loop-m.page ++ c.loop-m.text.bytes in
    record {
      bytes = move_next c.args.page.now so_far (so_far ++ codes " ") (c.gather.new.page ++ c.gather.new.text.bytes) c.args.moves.now c.in-Some.others.now c.loop-m.m-index _ c.m-item.result _
          c.in-Some.ensures.cases.0 c.loop-m.invariant.bytes (omega arith) refl
          (c.gather.ensures.bytes ∙ sym (append_assoc so_far (codes " ") (move_text c.m-item.result))) c.m-item.is;
      len = omega (arith, c.gather.ensures.len, c.loop-m.invariant.len);
    }
