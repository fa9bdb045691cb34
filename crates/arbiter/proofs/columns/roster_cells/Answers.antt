use Rattle.std.proofs.Common.{◌∙◌, ap, codes, refl}
use Rattle.arbiter.specs.Cells.{Truth}
use Rattle.arbiter.proofs.CellLemmas.{next}
use Rattle.arbiter.proofs.columns.roster_cells.Goals as goal

pub returns : goal.returns
returns c =
    next c.number.ensures (next c.number-2.ensures (next c.any_text.ensures (next c.any_text-2.ensures (next c.any_text-3.ensures (next c.any_text-4.ensures (next c.any_text-5.ensures
    (next c.any_text-6.ensures (next c.any_text-7.ensures (next c.any_text-8.ensures (next c.any_text-9.ensures
    (next (c.truth.ensures ∙ ap (λ b. (codes "other_variant", Truth b)) c.is_other_variant.ensures) refl)))))))))))
