-- What a clause reads of a `Heap`.
use Rattle.std.specs.Prelude.{ℕ, ◌-◌, List}
use Rattle.lent_heap.specs.Region.{Region}
use Rattle.lent_heap.specs.Holes.{Span}
use Rattle.lent_heap.specs.declared.heap.Heap.{Heap}

-- the free parts, by address
abbrev pub heap_holes : Heap → List Span
heap_holes h = h.holes.holes

-- the memory that it manages
abbrev pub heap_region : Heap → Region
heap_region h = h.holes.region

-- `heap.size()`
abbrev pub heap_size : Heap → ℕ
heap_size h = h.bytes - 16
