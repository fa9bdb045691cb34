-- `into_list` joins the nodes behind the cursor to those ahead. Assumes `Logic`.
use Rattle.std.proofs.Common.{◌≡◌, List, [], ◌∷◌, ◌++◌, refl, sym}
use mir.Syntax.{Fn}
use base.Logic.{emp}
use contract.Monad.{fact, fact_i}
use types.Kit.{‵, raw, ◌$◌, !, by, move, use0, use1, rewrite, fjoin}
use types.Part.{whole, sub, agg}
use types.Run.{stop, fld, of_opd, no_more, and_then, returns}
use types.ByLocal.{alloc_all, pass_all, free_all, look_at, get, get_in, sets}
use denote.RawPtr.{Ptr, null_ptr}
use denote.Steps.{nothing}
use Rattle.std.proofs.raw_atomic.Walks.{leaves}
use Rattle.lent_heap.proofs.Values.{list_val, list_own, list_made}
use Rattle.lent_heap.proofs.Order.{holes_of, listed}
use Rattle.lent_heap.proofs.Nodes.{links_append}
use Rattle.lent_heap.specs.Region.{Region}
use Rattle.lent_heap.specs.Holes.{Span}
use Rattle.lent_heap.specs.Ownership.{chain}
use Rattle.lent_heap.proofs.Walks.{used_up, walks, enters, alone}
use Rattle.lent_heap.proofs.Cursors.{start_of, cursor_is, cursor_out}
use Rattle.lent_heap.specs.contracts.hole.HoleList as list
use Rattle.lent_heap.specs.contracts.hole.Cursor.into_list.{ended, clauses}
use Rattle.lent_heap.specs.contracts.hole.Cursor.into_list.Key.{name as #self}
use Rattle.lent_heap.proofs.hole.Cursor.into_list.Statement.{statement}
use Rattle.lent_heap.proofs.hole.Cursor.into_list.Code as compiled

pub into_list_spec : {M : Type 1} → statement M
into_list_spec 𝓤 𝓛 𝓜 𝓡 wired =
    let c = clauses 𝓛 𝓜.mem 𝓡.returns in let fn : Fn = compiled.function in
    walks 𝓛 ended c 𝓜 𝓡 (λ κs x f. tt, tt) #self fn (compiled.unfolded 𝓤 𝓛.H 𝓜 𝓡 wired) (λ z are.
    let x = z.0.3.0 in let r : Region = x.region in let b = r.block in let u : Span = x.current in let start : Ptr = start_of x in
    let all = listed r x.before u x.after x.sorted in let holes : List Span = holes_of x.before u x.after in
    alone ! $ cursor_out ! x z.0.4.0 $ enters ! fn (λ i. cursor_is x z.0.4.0 are.0.0 i ++ []) $
    use1 𝓛 (‵ (chain b (x.before ++ u ∷ x.after))) (links_append 𝓛 b x.before u x.after null_ptr) $ rewrite ! 0 (λ (l : List Span). ‵ (chain b l)) (sym all.0) refl $
    alloc_all ! (λ l. pass_all ! refl ((tt, (tt, (tt, tt))), tt) $
    sets ! (of_opd ! (get_in ! (fld ! refl (stop !)) (sub ! 0 refl (whole !)))) refl (tt, tt) $
    sets ! (agg ! (and_then ! (get ! refl) (no_more !))) refl (tt, (tt, tt)) $
    returns ! (look_at ! 0 refl) $ free_all ! refl $
    let y : (list.the_row).Denot = record { first = start; region = r; holes = holes; placed = (refl, x.placed.2); sorted = all.1 } in
    use0 𝓛 (‵ (list_own start (list_val start ∷ []))) (list_made 𝓛 start tt) $ fjoin ! $ use0 𝓛 (raw (fact 𝓤 ((r ≡ r) × ((r.start, 0) ∷ holes ≡ x.before ++ u ∷ x.after)))) (fact_i 𝓤 ((r ≡ r) × ((r.start, 0) ∷ holes ≡ x.before ++ u ∷ x.after)) (emp 𝓤) (refl, all.0)) $ nothing ! $ nothing ! $ fjoin ! $ move ! (3 ∷ 0 ∷ 2 ∷ 1 ∷ []) $
    by ! (leaves 𝓛 ended (used_up ended) c z (list_val start) (y) (tt, tt) (tt, tt))))
