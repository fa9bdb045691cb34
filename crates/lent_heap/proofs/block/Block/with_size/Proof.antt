-- `with_size` reads a field. Assumes `Logic`.
use Rattle.std.proofs.Common.{◌≡◌, ◌^◌, List, [], ◌∷◌, ◌++◌, refl, w64}
use mir.Syntax.{Fn}
use mir.Val.{Val, vint}
use base.Logic.{emp}
use contract.Monad.{fact, fact_i}
use types.Kit.{‵, raw, ◌$◌, !, by, move, drop, use0, use2, fsplit, fjoin, feq_i, flt_i}
use types.Part.{whole, sub, agg}
use types.Run.{stop, fld, of_opd, no_more, and_then, returns}
use types.ByLocal.{alloc_all, pass_all, free_all, look_at, get, get_in, sets}
use denote.Builtin.{usize}
use denote.Steps.{nothing}
use denote.Struct.Tuple.{Tuple}
use Rattle.std_alloc.proofs.ResultValues.{and_tt}
use Rattle.std_alloc.proofs.Pairs.{pair_of, pair_val}
use Rattle.std.proofs.raw_atomic.Walks.{leaves}
use Rattle.lent_heap.proofs.Values.{ptr_typed, sized_val, sized_own, sized_told, sized_made}
use Rattle.lent_heap.proofs.Walks.{used_up, walks, enters, alone}
use Rattle.lent_heap.specs.contracts.block.Block as block
use Rattle.lent_heap.specs.contracts.block.Block.with_size.{ended, clauses}
use Rattle.lent_heap.specs.contracts.block.Block.with_size.Key.{name as #self}
use Rattle.lent_heap.proofs.block.Block.with_size.Statement.{statement}
use Rattle.lent_heap.proofs.block.Block.with_size.Code as compiled

pub with_size_spec : {M : Type 1} → statement M
with_size_spec 𝓤 𝓛 𝓜 𝓡 wired =
    let c = clauses 𝓛 𝓜.mem 𝓡.returns in let fn : Fn = compiled.function in
    walks 𝓛 ended c 𝓜 𝓡 (λ κs x f. tt, tt) #self fn (compiled.unfolded 𝓤 𝓛.H 𝓜 𝓡 wired) (λ z are.
    let x = z.0.3.0 in let n = x.size in let told = sized_told x.ptr n z.0.4.0 are.0.0 in let fits = told.1 in
    alone ! $ fsplit ! $ drop ! $ enters ! fn (λ i. told.0 i ++ []) $
    alloc_all ! (λ l. pass_all ! refl ((and_tt _ ((ptr_typed x.ptr).0), ((ptr_typed x.ptr).1, (record { fits = fits }, tt))), tt) $
    sets ! (of_opd ! (get_in ! (fld ! refl (stop !)) (sub ! 0 refl (whole !)))) refl (ptr_typed x.ptr) $
    sets ! (of_opd ! (get_in ! (fld ! refl (stop !)) (sub ! 1 refl (whole !)))) refl (tt, record { fits = fits }) $
    sets ! (agg ! (and_then ! (get ! refl) (and_then ! (get ! refl) (no_more !)))) refl (and_tt _ ((ptr_typed x.ptr).0), ((ptr_typed x.ptr).1, (record { fits = fits }, tt))) $
    sets ! (agg ! (and_then ! (get ! refl) (and_then ! (get ! refl) (no_more !)))) refl (and_tt _ (and_tt _ ((ptr_typed x.ptr).0)), (record { fits = fits }, (((ptr_typed x.ptr).1, (record { fits = fits }, tt)), tt))) $
    returns ! (look_at ! 0 refl) $ free_all ! refl $
    use0 𝓛 (‵ (sized_own x.ptr n (sized_val x.ptr n ∷ []))) (sized_made 𝓛 x.ptr n fits) $ fjoin ! $ flt_i ! n (2 ^ 64) fits $ feq_i ! (List Val) (vint w64 n ∷ []) (vint w64 n ∷ []) refl $ fjoin ! $ use2 𝓛 (‵ ((Tuple (usize ∷ block.the_row ∷ [])).own_val (n, x) (pair_val (vint w64 n) (sized_val x.ptr n) ∷ []))) (pair_of 𝓛 (usize) (block.the_row) (n) (x) (vint w64 n) (sized_val x.ptr n)) $ use0 𝓛 (raw (fact 𝓤 ((n ≡ n) × (x ≡ x)))) (fact_i 𝓤 ((n ≡ n) × (x ≡ x)) (emp 𝓤) (refl, refl)) $ nothing ! $ nothing ! $ fjoin ! $ move ! (3 ∷ 0 ∷ 2 ∷ 1 ∷ []) $
    by ! (leaves 𝓛 ended (used_up ended) c z (pair_val (vint w64 n) (sized_val x.ptr n)) ((n, x)) (tt, tt) (tt, tt))))
