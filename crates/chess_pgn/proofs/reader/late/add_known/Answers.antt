use Rattle.std.proofs.Common.{◌∙◌, ap}
use Rattle.chess_types.specs.board.Lines.{extended, last}
use Rattle.chess_types.specs.board.Position.{PositionParts}
use Rattle.chess_tree.specs.GameTree.{TreeParts, line_to}
use Rattle.chess_pgn.specs.steps.KnownTexts.{line_at}
use Rattle.chess_pgn.proofs.KnownLemmas.{marked_text}
use Rattle.chess_pgn.proofs.reader.late.add_known.Goals as goal

pub add-requires-clause-known : goal.add-requires-clause-known
add-requires-clause-known g c =
    let here = c.setup.view_is ∙ c.position-setup.ensures.value ∙ c.live.ensures.position ∙ ap last c.requires.follows in
    record {
      text = marked_text (line_to c.args.analysis.now) (line_to c.add_legal.new.self) (line_at c.args.texts.now c.args.before) c.args.m c.before-text.result.1 c.before-text.result.0.bytes c.marked-text.result.bytes
          (c.in_default.ensures.line ∙ ap (λ (t : TreeParts). extended (line_to t) c.args.m) c.before-text.ensures.as_before) c.requires.follows c.before-text.ensures.unmarked c.before-text.ensures.whole c.marked-text.ensures.text;
      side = ap (λ (p : PositionParts). p.side) here;
      number = ap (λ (p : PositionParts). p.number) here;
    }
