-- `into_raw_parts` hands over what the block owns. Assumes `Logic`.
use Rattle.std.proofs.Common.{◌≡◌, ◌^◌, List, [], ◌∷◌, ◌++◌, refl, w64}
use mir.Syntax.{Fn}
use mir.Val.{Val, vint}
use base.Logic.{emp}
use contract.Monad.{fact, fact_i}
use types.Kit.{‵, raw, ◌$◌, !, by, move, drop, use0, use2, join, fsplit, fjoin, feq_i, flt_i}
use types.Part.{whole, sub, agg}
use types.Run.{stop, fld, of_opd, no_more, and_then, returns}
use types.ByLocal.{alloc_all, pass_all, free_all, look_at, get, get_in, sets}
use denote.Builtin.{usize}
use denote.RawPtr.{RawPtr, ptr_val}
use denote.Steps.{nothing}
use denote.Struct.Tuple.{Tuple}
use Rattle.std_alloc.proofs.ResultValues.{and_tt}
use Rattle.std_alloc.proofs.Pairs.{pair_of, pair_val}
use Rattle.std.proofs.raw_atomic.Walks.{leaves}
use Rattle.lent_heap.proofs.Values.{ptr_typed, sized_told}
use Rattle.lent_heap.specs.Region.{IsBlock}
use Rattle.lent_heap.proofs.Walks.{used_up, walks, enters, alone}
use Rattle.lent_heap.specs.contracts.block.Block.into_raw_parts.{ended, clauses}
use Rattle.lent_heap.specs.contracts.block.Block.into_raw_parts.Key.{name as #self}
use Rattle.lent_heap.proofs.block.Block.into_raw_parts.Statement.{statement}
use Rattle.lent_heap.proofs.block.Block.into_raw_parts.Code as compiled

pub into_raw_parts_spec : {M : Type 1} → statement M
into_raw_parts_spec 𝓤 𝓛 𝓜 𝓡 wired =
    let c = clauses 𝓛 𝓜.mem 𝓡.returns in let fn : Fn = compiled.function in
    walks 𝓛 ended c 𝓜 𝓡 (λ κs x f. tt, tt) #self fn (compiled.unfolded 𝓤 𝓛.H 𝓜 𝓡 wired) (λ z are.
    let x = z.0.3.0 in let n = x.size in let told = sized_told x.ptr n z.0.4.0 are.0.0 in let fits = told.1 in
    let Said : Type 0 = IsBlock x.region x.ptr x.at n × (n ≡ n) in
    alone ! $ fsplit ! $ drop ! $ enters ! fn (λ i. told.0 i ++ []) $
    alloc_all ! (λ l. pass_all ! refl ((and_tt _ ((ptr_typed x.ptr).0), ((ptr_typed x.ptr).1, (record { fits = fits }, tt))), tt) $
    sets ! (of_opd ! (get_in ! (fld ! refl (stop !)) (sub ! 0 refl (whole !)))) refl (ptr_typed x.ptr) $
    sets ! (of_opd ! (get_in ! (fld ! refl (stop !)) (sub ! 1 refl (whole !)))) refl (tt, record { fits = fits }) $
    sets ! (agg ! (and_then ! (get ! refl) (and_then ! (get ! refl) (no_more !)))) refl (and_tt _ ((ptr_typed x.ptr).0), ((ptr_typed x.ptr).1, (record { fits = fits }, tt))) $
    returns ! (look_at ! 0 refl) $ free_all ! refl $
    use0 𝓛 (raw (fact 𝓤 Said)) (fact_i 𝓤 Said (emp 𝓤) (x.placed, refl)) $ join ! $ flt_i ! n (2 ^ 64) fits $ feq_i ! (List Val) (vint w64 n ∷ []) (vint w64 n ∷ []) refl $ fjoin ! $ feq_i ! (List Val) (ptr_val x.ptr ∷ []) (ptr_val x.ptr ∷ []) refl $ use2 𝓛 (‵ ((Tuple (RawPtr ∷ usize ∷ [])).own_val (x.ptr, n) (pair_val (ptr_val x.ptr) (vint w64 n) ∷ []))) (pair_of 𝓛 (RawPtr) (usize) (x.ptr) (n) (ptr_val x.ptr) (vint w64 n)) $ nothing ! $ nothing ! $ fjoin ! $ move ! (3 ∷ 0 ∷ 1 ∷ 2 ∷ []) $
    by ! (leaves 𝓛 ended (used_up ended) c z (pair_val (ptr_val x.ptr) (vint w64 n)) (x.ptr, n) (tt, tt) (tt, tt))))
