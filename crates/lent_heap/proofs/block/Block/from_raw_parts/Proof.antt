-- `from_raw_parts` takes over what the caller owns. Assumes `Logic`.
use Rattle.std.proofs.Common.{◌≡◌, [], ◌∷◌, ◌++◌, refl}
use mir.Syntax.{Fn}
use base.Logic.{emp, id⊢}
use contract.Monad.{fact, fact_i}
use types.Kit.{‵, raw, ◌⊛◌, ◌$◌, !, by, move, keep, use0, split, use1, fjoin}
use types.Part.{agg}
use types.Run.{no_more, and_then, returns}
use types.ByLocal.{alloc_all, pass_all, free_all, look_at, get, sets}
use denote.Steps.{nothing, heard}
use Rattle.std_alloc.proofs.ResultValues.{and_tt}
use Rattle.std.proofs.raw_atomic.Walks.{leaves}
use Rattle.lent_heap.proofs.Values.{ptr_typed, sized_val, sized_own, sized_made}
use Rattle.lent_heap.specs.Region.{IsBlock}
use Rattle.lent_heap.specs.Ownership.{bytes_at}
use Rattle.lent_heap.proofs.Walks.{used_up, walks, enters}
use Rattle.lent_heap.specs.contracts.block.Block as block
use Rattle.lent_heap.specs.contracts.block.Block.from_raw_parts.{ended, clauses}
use Rattle.lent_heap.specs.contracts.block.Block.from_raw_parts.Key.{name as #self}
use Rattle.lent_heap.proofs.block.Block.from_raw_parts.Statement.{statement}
use Rattle.lent_heap.proofs.block.Block.from_raw_parts.Code as compiled

pub from_raw_parts_spec : {M : Type 1} → statement M
from_raw_parts_spec 𝓤 𝓛 𝓜 𝓡 wired =
    let c = clauses 𝓛 𝓜.mem 𝓡.returns in let fn : Fn = compiled.function in
    walks 𝓛 ended c 𝓜 𝓡 (λ κs x f. tt, (λ κs x f. tt, tt)) #self fn (compiled.unfolded 𝓤 𝓛.H 𝓜 𝓡 wired) (λ z are.
    let p = z.0.3.0 in let n = z.0.3.1.0 in let fits = are.1.0.1 in let Asked : Type 0 = IsBlock z.1.0 p z.1.1 n in
    move ! (1 ∷ []) $ use1 𝓛 (raw (fact 𝓤 Asked) ⊛ ‵ (bytes_at p n)) (id⊢ 𝓤 _) $ split ! $ heard ! Asked (λ asked. keep ! (0 ∷ 2 ∷ []) $
    let x : (block.the_row).Denot = record { ptr = p; size = n; region = z.1.0; at = z.1.1; placed = asked } in
    enters ! fn (λ i. are.0 i ++ (are.1.0.0 i ++ [])) $
    alloc_all ! (λ l. pass_all ! refl ((ptr_typed p), ((tt, record { fits = fits }), tt)) $
    sets ! (agg ! (and_then ! (get ! refl) (and_then ! (get ! refl) (no_more !)))) refl (and_tt _ ((ptr_typed p).0), ((ptr_typed p).1, (record { fits = fits }, tt))) $
    returns ! (look_at ! 0 refl) $ free_all ! refl $
    use0 𝓛 (‵ (sized_own x.ptr n (sized_val x.ptr n ∷ []))) (sized_made 𝓛 x.ptr n fits) $ fjoin ! $ use0 𝓛 (raw (fact 𝓤 ((z.1.0 ≡ z.1.0) × (z.1.1 ≡ z.1.1) × (n ≡ n)))) (fact_i 𝓤 ((z.1.0 ≡ z.1.0) × (z.1.1 ≡ z.1.1) × (n ≡ n)) (emp 𝓤) (refl, refl, refl)) $ nothing ! $ nothing ! $ fjoin ! $ nothing ! $ fjoin ! $ move ! (3 ∷ 0 ∷ 2 ∷ 1 ∷ []) $
    by ! (leaves 𝓛 ended (used_up ended) c z (sized_val p n) (x) (tt, (tt, tt)) (tt, (tt, tt))))))
