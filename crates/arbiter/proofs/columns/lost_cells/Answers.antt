use Rattle.std.proofs.Common.{◌∙◌, ℕ, List, ap, codes, refl}
use Rattle.arbiter.specs.Cells.{Text}
use Rattle.arbiter.proofs.CellLemmas.{next}
use Rattle.arbiter.proofs.columns.lost_cells.Goals as goal

pub returns : goal.returns
returns c =
    next c.nothing.ensures (next c.nothing-2.ensures (next c.nothing-3.ensures (next c.nothing-4.ensures (next c.any_text.ensures (next c.nothing-5.ensures (next c.nothing-6.ensures (next c.nothing-7.ensures (next c.nothing-8.ensures (next c.nothing-9.ensures (next c.nothing-10.ensures (next c.nothing-11.ensures (next c.nothing-12.ensures (next c.nothing-13.ensures (next c.nothing-14.ensures (next c.nothing-15.ensures (next c.nothing-16.ensures (next c.nothing-17.ensures (next c.nothing-18.ensures (next c.nothing-19.ensures (next c.nothing-20.ensures (next c.nothing-21.ensures (next c.number.ensures (next (c.word.ensures ∙ ap (λ (t : List ℕ). (codes "fault", Text t)) c.name.ensures) refl)))))))))))))))))))))))
