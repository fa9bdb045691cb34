-- A handle may go to another thread: what it owns is the block of a flag that any thread may set.
use Rattle.std.specs.Prelude.{Option, Some, None}
use mir.Raw.{raw}
use base.Shift.{Keyless}
use denote.RawPtr.{Ptr}
use denote.Memory.{lone}
use denote.Struct.Struct.{exits_of}
use denote.Struct.Owning.{shape, fields, to}
use denote.Param.Send.{IsSend, AllSend, owning_send, struct_send, sendable}
use Rattle.std.proofs.Crossing as heap
use Rattle.std_alloc.proofs.SendSync.{quiet, lies}
use Rattle.chess_bindings.specs.Slots.{slot_owns}
use Rattle.chess_memory.specs.Kept.{may_free}
use Rattle.chess_c.specs.contracts.flag.Flag as flag
use Rattle.chess_c.proofs.flag.Flag.TheSendSync.{the_send as flag_send}
use Rattle.chess_c.specs.contracts.stop.Stop.{the_row, the_type}

owned : (held : Option (flag.the_row).Denot) (p : Ptr) → Keyless (slot_owns may_free flag.the_row held p)
owned None p = tt
owned (Some x) p = (lies flag.the_row flag_send p x, heap.frees.frees (record { memory = record { seal = tt } }) (raw (lone (flag.the_row).mir)) p)

pub send : IsSend the_row
send =
    let all : AllSend (fields the_type) = (search sendable, (search sendable, tt)) in
    owning_send the_type all (λ d. owned d.held d.at) (λ k. quiet (to the_type) (exits_of k (fields the_type)) ((struct_send (shape the_type) all).leaving k))
