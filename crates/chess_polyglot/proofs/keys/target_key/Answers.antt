use Rattle.std.proofs.Common.{refl, sym, ◌∙◌}
use Rattle.chess_polyglot.proofs.keys.target_key.Goals as goal

pub returns-then-is_beside : goal.returns-then-is_beside
returns-then-is_beside c = rw (c.number_at.ensures, c.file.ensures.value, c.in-Some.is, sym c.is_beside.ensures ∙ c.if-is_beside.true) refl

pub returns-else-is_beside : goal.returns-else-is_beside
returns-else-is_beside c = rw (c.in-Some.is, sym c.is_beside.ensures ∙ c.if-is_beside.false) refl
