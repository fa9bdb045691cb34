use Rattle.std.proofs.Common.{subst}
use Rattle.std.specs.Prelude.{IfSome}
use Rattle.chess_repair.specs.Letters.{IsInLetters}
use Rattle.chess_games.specs.Salvaged.{IsSavedAs}
use Rattle.chess_games.proofs.SavingLemmas.{saved_in, saved_so}
use Rattle.chess_games.proofs.salvaging.SaverGameHandler.handle.Goals as goal

-- what is said of a text with letters written otherwise
pub returns-in-Ok-Some-spelt-clause-handled : goal.returns-in-Ok-Some-spelt-clause-handled
returns-in-Ok-Some-spelt-clause-handled c =
    let wanted = c.args.self.now.wanted.now in
    let h = c.in-Ok-Some-spelt.handled in
    saved_so wanted.letters wanted.form wanted.part c.args.place.number c.args.place.offset c.args.bytes.now h.used c.with_letters.result.used h.fate c.with_letters.result.fate h.text.items c.with_letters.result.text.items c.with_letters.ensures.used
    c.with_letters.ensures.fate c.with_letters.ensures.text
    (saved_in wanted.letters wanted.form wanted.part c.args.place.number c.args.place.offset c.args.bytes.now c.in-Ok-Some.respelled.text.items c.as_slice.result.now h.used h.fate h.text.items c.as_slice.ensures.value
    (subst (λ found. IfSome found (λ r. IsInLetters wanted.letters c.args.bytes.now r.text.items)) c.in-Ok-Some.field-0-is c.in-Ok-Some.ensures.spelt)
    (subst (λ found. IfSome found (λ h. IsSavedAs wanted.form wanted.part c.args.place.number c.args.place.offset c.as_slice.result.now h.used h.fate h.text.items)) c.in-Ok-Some-spelt.field-0-is c.in-Ok-Some-spelt.ensures.row))
