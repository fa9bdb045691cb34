use Rattle.std.proofs.Common.{ℕ, List, take, drop, length, ap, subst, ◌∙◌, rules}
use Rattle.byte_streams.specs.Calls.{Carries}
use Rattle.chess_games.specs.Pieces.{IsCutInPart, IsMarked, IsStopped}
use Rattle.chess_games.specs.declared.cut.CutFault.{CutFault}
use Rattle.chess_games.proofs.MarkedLemmas.{handed_on, has_failed, length_taken, short_at_once, short_in_piece, short_of_reads, short_unread, so_far_all, so_far_more, so_far_none, still_well, written_back}
use Rattle.chess_games.proofs.cut.cut.Goals as goal

pub loop-reads-init : goal.loop-reads-init
loop-reads-init g c = (c.in-Ok.ensures, so_far_none g.R.Source.gives g.R.Source.failed g.W.Sink.takes g.W.Sink.failed c.args.reader c.args.writer.now)

-- there is no memory
pub returns-in_default-clause-short : goal.returns-in_default-clause-short
returns-in_default-clause-short g c = short_at_once g.R.Source.gives g.R.Source.failed g.W.Sink.takes g.W.Sink.failed c.args.reader c.args.writer.now

-- nothing more comes
pub returns-in-Ok-eq0-clause-good : goal.returns-in-Ok-eq0-clause-good
returns-in-Ok-eq0-clause-good g c =
    let none = ap (λ (n : ℕ). take n c.read.new.buf) c.in-Ok-eq0.field-0-test in
    so_far_all g.R.Source.gives g.R.Source.failed g.W.Sink.takes g.W.Sink.failed g.R.Source.ended c.args.reader c.loop-reads.reader c.read.new.self c.args.writer.now c.loop-reads.writer c.loop-reads.reads (take c.in-Ok-eq0.field-0 c.read.new.buf)
    c.loop-reads.invariant.1 c.in-Ok-eq0.ensures.gives (still_well _ _ c.in-Ok-eq0.ensures.failed) none (c.in-Ok-eq0.ensures.ended c.in-Ok-eq0.field-0-test (search rules))

-- a piece isn't written whole
pub returns-in_err-put_piece-in-Ok-read-clause-short : goal.returns-in_err-put_piece-in-Ok-read-clause-short
returns-in_err-put_piece-in-Ok-read-clause-short g c =
    let piece = take c.in-Ok-read.count c.read.new.buf in
    let fault = c.in_err-put_piece-in-Ok-read.field-0.0 in
    handed_on (λ (f : CutFault). IsCutInPart g.R.Source.gives g.R.Source.failed g.W.Sink.takes g.W.Sink.failed c.args.reader c.args.writer.now c.put_piece.new.writer f) c.from_residual.result fault c.from_residual.ensures.1
    (short_in_piece g.R.Source.gives g.R.Source.failed g.W.Sink.takes g.W.Sink.failed c.args.reader c.loop-reads.reader c.read.new.self c.args.writer.now c.loop-reads.writer c.put_piece.new.writer c.loop-reads.reads piece fault
    c.loop-reads.invariant.1 c.in-Ok-read.ensures.gives (still_well _ _ c.in-Ok-read.ensures.failed)
    (subst (λ (bytes : List ℕ). IsStopped g.W.Sink.takes g.W.Sink.failed (take c.in-Ok-read.count bytes) c.loop-reads.writer c.put_piece.new.writer fault)
    (c.deref.ensures.value ∙ written_back c.loop-reads.buffer.len c.read.new.buf (drop (length c.read.new.buf) c.loop-reads.buffer.items) (search rules)) c.in_err-put_piece-in-Ok-read.ensures.stopped))

-- a read failed
pub returns-in-Err-clause-short : goal.returns-in-Err-clause-short
returns-in-Err-clause-short g c =
    short_unread g.R.Source.gives g.R.Source.failed g.W.Sink.takes g.W.Sink.failed c.args.reader c.loop-reads.reader c.read.new.self c.args.writer.now c.loop-reads.writer c.loop-reads.reads c.loop-reads.invariant.1 c.in-Err.ensures.gives
    (has_failed _ _ c.in-Err.ensures.failed)

-- there were as many as there may be
pub returns-clause-short : goal.returns-clause-short
returns-clause-short g c =
    short_of_reads g.R.Source.gives g.R.Source.failed g.W.Sink.takes g.W.Sink.failed c.args.reader c.loop-reads.reader c.args.writer.now c.loop-reads.writer c.loop-reads.reads c.loop-reads.invariant.1 (search rules)

-- what was read is written
pub loop-reads-preserved : goal.loop-reads-preserved
loop-reads-preserved g c =
    let bytes_is = c.deref.ensures.value ∙ written_back c.loop-reads.buffer.len c.read.new.buf (drop (length c.read.new.buf) c.loop-reads.buffer.items) (search rules) in
    let ensures = c.in_ok-put_piece-in-Ok-read.ensures in (
      c.loop-reads.invariant.0,
      so_far_more g.R.Source.gives g.R.Source.failed g.W.Sink.takes g.W.Sink.failed c.args.reader c.loop-reads.reader c.read.new.self c.args.writer.now c.loop-reads.writer c.put_piece.new.writer c.loop-reads.reads
          (take c.in-Ok-read.count c.read.new.buf) c.loop-reads.invariant.1 c.in-Ok-read.ensures.gives (still_well _ _ c.in-Ok-read.ensures.failed)
          (length_taken c.in-Ok-read.count c.read.new.buf c.in-Ok-read.ensures.bound (search rules))
          (subst (λ (bytes : List ℕ). (x : List ℕ) × Carries g.W.Sink.takes c.loop-reads.writer x c.put_piece.new.writer × IsMarked (take c.in-Ok-read.count bytes) x) bytes_is ensures.all)
          ensures.well,
    )
