-- What is lent where the keys are filled.
--   IsTooSmall   it is too small for a heap, which nothing is here: C's heap needs none
use Rattle.std.specs.contracts.alloc.Global as heap

-- it is too small for a heap
abbrev pub IsTooSmall : (heap.the_row).Denot → Type 0
IsTooSmall lent = ⊥
