use Rattle.std.proofs.Common.{sym, ◌∙◌}
use Rattle.chess_items.proofs.IdleLemmas.{idle_blank, idle_number, idle_period}
use Rattle.chess_items.proofs.idle.idle_first.Goals as goal

pub returns-then-is_blank : goal.returns-then-is_blank
returns-then-is_blank c = idle_blank c.in_ok-b.ensures.cases.0 (sym c.is_blank.ensures ∙ c.if-is_blank.true) c.after.ensures

pub returns-then-b-eq46 : goal.returns-then-b-eq46
returns-then-b-eq46 c = idle_period c.in_ok-b.ensures.cases.0 c.if-b-eq46.true

pub returns : goal.returns
returns c = idle_number c.in_ok-behind_number.ensures
