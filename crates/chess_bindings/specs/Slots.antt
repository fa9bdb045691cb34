-- What a slot owns: the block of its value, and the right to free it; or nothing.
--   slot_owns   by the right to free a block, and by what the slot holds
use Rattle.std.specs.Prelude.{Option, Some, None}
use base.Fml.{Fml, ftrue}
use denote.RattleType.{RattleType}
use denote.RawPtr.{Ptr}
use mir.Syntax.{Ty}
use Rattle.std_alloc.specs.Box.Ownership.{box_owns}

-- the block of its value, or nothing
abbrev pub slot_owns : (Ty → Ptr → Fml) → (R : RattleType) → Option R.Denot → Ptr → Fml
slot_owns may_free R (Some x) p = box_owns (λ ty q. may_free ty q) R p x
slot_owns may_free R None p = ftrue
