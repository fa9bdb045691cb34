use Rattle.std.proofs.Common.{◌⊎◌, inl}
use Rattle.chess_games.specs.Filtered.{IsFiltered, IsFilteredInPart, IsUnwritten}
use Rattle.chess_games.specs.Forms.{IsHeaded, head_in}
use Rattle.chess_games.proofs.FilteredLemmas.{handed_on}
use Rattle.chess_games.proofs.HeadLemmas.{headed, headed_short}
use Rattle.chess_games.proofs.filter.filter.Goals as goal

pub returns-clause-good : goal.returns-clause-good
returns-clause-good g c =
    headed g.W.Sink.takes g.W.Sink.failed c.args.wanted.form c.args.writer.now c.put_head.new.writer c.in_ok-put_head.ensures.all c.in_ok-put_head.ensures.well
    (λ bad mid. IsFiltered g.R.Source.gives g.R.Source.failed g.R.Source.ended g.W.Sink.takes g.W.Sink.failed c.args.wanted.form c.args.wanted.part c.args.reader mid c.filter_games.new.writer bad) c.filter_games.result c.filter_games.ensures.good

pub returns-clause-short : goal.returns-clause-short
returns-clause-short g c =
    headed_short g.W.Sink.takes g.W.Sink.failed c.args.wanted.form c.args.writer.now c.put_head.new.writer c.in_ok-put_head.ensures.all c.in_ok-put_head.ensures.well
    (λ failure. IsUnwritten g.W.Sink.takes g.W.Sink.failed (head_in c.args.wanted.form) c.args.writer.now c.filter_games.new.writer failure)
    (λ failure mid. IsFilteredInPart g.R.Source.gives g.R.Source.failed g.R.Source.ended g.W.Sink.takes g.W.Sink.failed c.args.wanted.form c.args.wanted.part c.args.reader mid c.filter_games.new.writer failure) c.filter_games.result
    c.filter_games.ensures.short

-- the head isn't written whole
pub returns-in_err-put_head-clause-short : goal.returns-in_err-put_head-clause-short
returns-in_err-put_head-clause-short g c =
    handed_on
    (λ f. IsUnwritten g.W.Sink.takes g.W.Sink.failed (head_in c.args.wanted.form) c.args.writer.now c.put_head.new.writer f
    ⊎ IsHeaded g.W.Sink.takes g.W.Sink.failed c.args.wanted.form c.args.writer.now
    (λ mid. IsFilteredInPart g.R.Source.gives g.R.Source.failed g.R.Source.ended g.W.Sink.takes g.W.Sink.failed c.args.wanted.form c.args.wanted.part c.args.reader mid c.put_head.new.writer f))
    c.from_residual.result c.in_err-put_head.field-0.0 c.from_residual.ensures.1 (inl c.in_err-put_head.ensures.unwritten)
