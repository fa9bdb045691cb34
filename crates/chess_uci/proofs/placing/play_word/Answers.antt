use Rattle.std.proofs.Common.{Err, subst}
use Rattle.chess_draws.specs.declared.fault.LineFault.{LineFault}
use Rattle.chess_draws.specs.declared.fault.LineFault.TheVariants.{Illegal, TooLong}
use Rattle.chess_draws.specs.Pushes.{AnswersPush}
use Rattle.chess_uci.proofs.PlaceLemmas.{word_unread, word_played, word_illegal, word_too_long, word_grows, pushed_ok, pushed_refused}
use Rattle.chess_uci.proofs.placing.play_word.Goals as goal

pub returns-in_default-clause-played : goal.returns-in_default-clause-played
returns-in_default-clause-played g c = word_unread c.args.line.now.line c.args.word.now c.in_default.ensures.complete

pub returns-in-Ok-clause-played : goal.returns-in-Ok-clause-played
returns-in-Ok-clause-played g c =
    word_played c.args.line.now.line c.push.new.self.line c.args.word.now c.in-Some.m c.in-Some.ensures.complete c.in-Some.ensures.sound
    c.in-Some.ensures.on_board.0 c.in-Some.ensures.on_board.1 (pushed_ok c.args.line.now c.in-Some.m c.in-Ok.ensures.answer) c.in-Ok.ensures.line

pub returns-in-Err-Illegal-clause-played : goal.returns-in-Err-Illegal-clause-played
returns-in-Err-Illegal-clause-played g c =
    word_illegal c.args.line.now.line c.args.word.now c.in-Some.m c.in-Some.ensures.complete
    (pushed_refused c.args.line.now c.in-Some.m Illegal (subst (λ (fault : LineFault). AnswersPush c.args.line.now c.in-Some.m (Err fault)) c.in-Err-Illegal.field-0-is c.in-Err-Illegal.ensures.answer) (λ e. cc))

pub returns-in-Err-TooLong-clause-played : goal.returns-in-Err-TooLong-clause-played
returns-in-Err-TooLong-clause-played g c =
    word_too_long c.args.line.now.line c.args.word.now c.in-Some.m c.in-Some.ensures.complete c.in-Some.ensures.sound
    c.in-Some.ensures.on_board.0 c.in-Some.ensures.on_board.1
    (pushed_refused c.args.line.now c.in-Some.m TooLong (subst (λ (fault : LineFault). AnswersPush c.args.line.now c.in-Some.m (Err fault)) c.in-Err-TooLong.field-0-is c.in-Err-TooLong.ensures.answer) (λ e. cc))

pub returns-in-Err-Memory-clause-played : goal.returns-in-Err-Memory-clause-played
returns-in-Err-Memory-clause-played g c =
    word_grows c.args.line.now c.args.word.now c.in-Some.m c.in-Some.ensures.complete c.in-Some.ensures.sound c.in-Some.ensures.on_board.0 c.in-Some.ensures.on_board.1
    (subst (λ (fault : LineFault). AnswersPush c.args.line.now c.in-Some.m (Err fault)) c.in-Err-Memory.field-0-is c.in-Err-Memory.ensures.answer)
