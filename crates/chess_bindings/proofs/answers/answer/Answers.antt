use Rattle.std.proofs.Common.{rules}
use Rattle.chess_bindings.proofs.TextLemmas.{handed_answer}
use Rattle.chess_bindings.proofs.answers.answer.Goals as goal

pub returns-clause-answered : goal.returns-clause-answered
returns-clause-answered g c =
    let answers = c.put_whole_answer-answered.ensures.answers in
    handed_answer c.put_whole_answer-answered.result c.new-gathered.result c.put_whole_answer-answered.new.writer answers.0 _ c.put_whole_answer-answered.new.page (search rules) (search rules) answers.2 _ _ _ _ _ (search rules)
    c.args.line.now _ _ (search rules) (search rules)
