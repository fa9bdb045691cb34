-- A board may go to another thread: what it owns is the block of a session, of which no part belongs to a thread.
use Rattle.std.specs.Prelude.{Option, Some, None}
use mir.Raw.{raw}
use base.Shift.{Keyless}
use denote.RawPtr.{Ptr}
use denote.Memory.{lone}
use denote.Struct.Struct.{exits_of}
use denote.Struct.Owning.{shape, fields, to}
use denote.Param.Send.{IsSend, AllSend, owning_send, struct_send, sendable}
use Rattle.std.proofs.Crossing as heap
use Rattle.std_alloc.proofs.SendSync.{quiet, lies}
use Rattle.chess_bindings.specs.Slots.{slot_owns}
use Rattle.chess_memory.specs.Kept.{may_free}
use Rattle.chess_c.specs.contracts.session.Session as session
use Rattle.chess_c.proofs.session.Session.TheSendSync.{the_send as session_send}
use Rattle.chess_c.specs.contracts.slot.Slot.{the_row, the_type}

owned : (held : Option (session.the_row).Denot) (p : Ptr) → Keyless (slot_owns may_free session.the_row held p)
owned None p = tt
owned (Some x) p = (lies session.the_row session_send p x, heap.frees.frees (record { memory = record { seal = tt } }) (raw (lone (session.the_row).mir)) p)

pub send : IsSend the_row
send =
    let all : AllSend (fields the_type) = (search sendable, (search sendable, tt)) in
    owning_send the_type all (λ d. owned d.held d.at) (λ k. quiet (to the_type) (exits_of k (fields the_type)) ((struct_send (shape the_type) all).leaving k))
