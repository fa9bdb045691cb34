use Rattle.byte_streams.proofs.CallLemmas.{Carries-append}
use Rattle.std.proofs.Common.{[], ◌∷◌, ◌++◌, ◌∙◌}
use Rattle.chess_loop.specs.RunEnds.{Broken}
use Rattle.chess_games.proofs.MarkedLemmas.{broken_first, broken_second, handed_on}
use Rattle.chess_games.proofs.cut.put_border.Goals as goal

pub returns-clause-all : goal.returns-clause-all
returns-clause-all g c = Carries-append g.W.Sink.takes c.args.writer.now c.put.new.writer c.put-2.new.writer c.args.bytes.now (0 ∷ []) c.in_ok-put.ensures.all c.in_ok-put-2.ensures.all

pub returns-clause-well : goal.returns-clause-well
returns-clause-well g c = c.in_ok-put-2.ensures.well ∙ c.in_ok-put.ensures.well

-- the bytes are written in part
pub returns-in_err-put-clause-broken : goal.returns-in_err-put-clause-broken
returns-in_err-put-clause-broken g c =
    handed_on (λ _. Broken g.W.Sink.takes g.W.Sink.failed c.args.writer.now (c.args.bytes.now ++ 0 ∷ []) c.put.new.writer) c.from_residual.result c.in_err-put.field-0.0 c.from_residual.ensures.1
    (broken_first g.W.Sink.takes g.W.Sink.failed c.args.writer.now c.put.new.writer c.args.bytes.now (0 ∷ []) c.in_err-put.ensures.broken)

-- the zero byte isn't written
pub returns-in_err-put-2-clause-broken : goal.returns-in_err-put-2-clause-broken
returns-in_err-put-2-clause-broken g c =
    handed_on (λ _. Broken g.W.Sink.takes g.W.Sink.failed c.args.writer.now (c.args.bytes.now ++ 0 ∷ []) c.put-2.new.writer) c.from_residual-in_err-put-2.result c.in_err-put-2.field-0.0 c.from_residual-in_err-put-2.ensures.1
    (broken_second g.W.Sink.takes g.W.Sink.failed c.args.writer.now c.put.new.writer c.put-2.new.writer c.args.bytes.now (0 ∷ []) c.in_ok-put.ensures.all c.in_ok-put.ensures.well c.in_err-put-2.ensures.broken)
