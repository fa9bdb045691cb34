use Rattle.std.proofs.Common.{◌∙◌, sym}
use Rattle.arbiter.proofs.RowLemmas.{fault_found}
use Rattle.arbiter.proofs.judge.RowMaker.spelt.Goals as goal

pub unread-requires : goal.unread-requires
unread-requires c = record {
  none = fault_found c.args.bytes.now c.in-Err.fault c.in_default.not-Memory c.in-Err.ensures.fault;
  kind = λ is. c.in_default.not-Memory (sym c.placed.ensures.kind ∙ is);
  place = c.placed.ensures.place;
}
