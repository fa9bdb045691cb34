-- `into_inner` unwraps the heap. Assumes `Logic`.
use Rattle.std.proofs.Common.{[], ◌∷◌, ◌++◌, refl}
use mir.Syntax.{Fn}
use types.Kit.{◌$◌, !, by, move, drop, fsplit, fjoin}
use types.Part.{whole, sub}
use types.Run.{stop, fld, of_opd, returns}
use types.ByLocal.{alloc_all, pass_all, free_all, look_at, get, get_in, sets}
use denote.Steps.{nothing}
use Rattle.std_alloc.proofs.ResultValues.{and_tt}
use Rattle.std.proofs.raw_atomic.Walks.{leaves}
use Rattle.lent_heap.proofs.Cell.{contents_out}
use Rattle.lent_heap.proofs.Walks.{used_up, walks, enters, alone}
use Rattle.lent_heap.specs.contracts.slot.Slot.into_inner.{ended, clauses}
use Rattle.lent_heap.specs.contracts.slot.Slot.into_inner.Key.{name as #self}
use Rattle.lent_heap.proofs.slot.Slot.into_inner.Statement.{statement}
use Rattle.lent_heap.proofs.slot.Slot.into_inner.Code as compiled

pub into_inner_spec : {M : Type 1} → statement M
into_inner_spec 𝓤 𝓛 𝓜 𝓡 wired =
    let c = clauses 𝓛 𝓜.mem 𝓡.returns in let fn : Fn = compiled.function in
    walks 𝓛 ended c 𝓜 𝓡 (λ κs x f. tt, tt) #self fn (compiled.unfolded 𝓤 𝓛.H 𝓜 𝓡 wired) (λ z are.
    alone ! $ fsplit ! $ drop ! $ contents_out z.0.3.0 ! z.0.4.0 (λ x v over typed told. enters ! fn (λ i. told i ++ []) $
    alloc_all ! (λ l. pass_all ! refl ((and_tt _ ((typed).0), ((typed).1, tt)), tt) $
    sets ! (of_opd ! (get_in ! (fld ! refl (stop !)) (sub ! 0 refl (whole !)))) refl typed $
    sets ! (of_opd ! (get ! refl)) refl typed $
    returns ! (look_at ! 0 refl) $ free_all ! refl $
    nothing ! $ nothing ! $ nothing ! $ fjoin ! $ move ! (3 ∷ 0 ∷ 2 ∷ 1 ∷ []) $
    by ! (leaves 𝓛 ended (used_up ended) c z (v) (x) (tt, tt) (tt, tt)))))
