use Rattle.std.proofs.Common.{subst}
use Rattle.std.specs.Prelude.{IfSome}
use Rattle.chess_repair.specs.Letters.{IsInLetters}
use Rattle.arbiter.specs.Collections.{IsRow}
use Rattle.arbiter.proofs.RowLemmas.{row_in}
use Rattle.arbiter.proofs.judge.RowMakerGameHandler.early.Goals as goal

-- a row of a text with letters written otherwise
pub returns-in-Ok-Some-early_spelt-clause-handled : goal.returns-in-Ok-Some-early_spelt-clause-handled
returns-in-Ok-Some-early_spelt-clause-handled c =
    row_in c.args.self.now.asked c.args.place.number c.args.place.offset c.args.bytes.now c.in-Ok-Some.respelled.text.items c.as_slice.result.now c.in-Ok-Some-early_spelt.handled.used c.in-Ok-Some-early_spelt.handled.fate
    c.in-Ok-Some-early_spelt.handled.text.items c.as_slice.ensures.value
    (subst (λ found. IfSome found (λ r. IsInLetters c.args.self.now.asked.letters c.args.bytes.now r.text.items)) c.in-Ok-Some.field-0-is c.in-Ok-Some.ensures.spelt)
    (subst (λ found. IfSome found (λ h. IsRow c.args.self.now.asked c.args.place.number c.args.place.offset c.as_slice.result.now h.used h.fate h.text.items)) c.in-Ok-Some-early_spelt.field-0-is c.in-Ok-Some-early_spelt.ensures.row)
