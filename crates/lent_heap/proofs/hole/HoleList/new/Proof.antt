-- `new` writes the dummy and one hole. Assumes `Logic`.
use Rattle.std.proofs.Common.{◌≡◌, ◌+◌, ◌-◌, ◌^◌, ◌<◌, ◌≤◌, [], ◌∷◌, ◌++◌, refl, sym, ap, subst, ◌∙◌, arith, lit<}
use mir.Syntax.{Fn}
use mir.Val.{Val, vptr}
use base.Fraction.{full_share}
use base.Logic.{SProp, emp, never, id⊢}
use base.Fml.{fat, froom}
use prog.Wp.{Env}
use contract.Monad.{fact, fact_i}
use contract.Running.{tables}
use types.Kit.{‵, raw, ◌⊛◌, at_ret, ◌$◌, !, by, move, drop, use0, use1, split, join, fsplit, fjoin}
use types.Part.{whole, sub, agg}
use types.Run.{stop, fld, init, lit, bin, of_opd, no_more, and_then, assigns, first, blocks, exec, returns}
use types.ByLocal.{alloc_all, pass_all, free_all, look_at, get, get_in, through, sets, sets_last, is, env}
use denote.RawPtr.{Ptr, block_ptr, null_ptr, in_a_block, count_of}
use denote.Steps.{nothing, heard}
use denote.Triple.Walked.{walk_of}
use Rattle.core.proofs.alloc.Shapes.{after}
use Rattle.std.proofs.raw_atomic.Walks.{leaves}
use Rattle.lent_heap.proofs.Cursors.{named_hole}
use Rattle.lent_heap.proofs.Values.{list_val, list_own, list_made, sized_val, sized_told}
use Rattle.lent_heap.proofs.Order.{order_in}
use Rattle.lent_heap.proofs.Nodes.{cuts, resized, forms}
use Rattle.lent_heap.specs.Region.{Region, region_of}
use Rattle.lent_heap.specs.Holes.{Span, extent}
use Rattle.lent_heap.specs.Ownership.{bytes_at, hole_type, hole_val, behind}
use borrow.Author.Tests.{le-leb}
use Rattle.lent_heap.proofs.Walks.{used_up, walks, enters}
use Rattle.lent_heap.specs.contracts.hole.HoleList as list
use Rattle.lent_heap.specs.contracts.hole.HoleList.new.{ended, clauses}
use Rattle.lent_heap.specs.contracts.hole.HoleList.new.Key.{name as #self}
use Rattle.lent_heap.proofs.hole.HoleList.new.Statement.{statement}
use Rattle.lent_heap.proofs.hole.HoleList.new.Code as compiled

pub new_spec : {M : Type 1} → statement M
new_spec 𝓤 𝓛 𝓜 𝓡 wired =
    let 𝓣 = tables 𝓤 𝓛.H 𝓜 𝓡 𝓡.env in let c = clauses 𝓛 𝓜.mem 𝓡.returns in let fn : Fn = compiled.function in
    walks 𝓛 ended c 𝓜 𝓡 (λ κs x f. tt, tt) #self fn (compiled.unfolded 𝓤 𝓛.H 𝓜 𝓡 wired) (λ z are.
    let Post : Val → SProp 𝓤 = (walk_of 𝓛 ended (used_up ended) c).post z in
    let x = z.0.3.0 in let n = x.size in let told = sized_told x.ptr n z.0.4.0 are.0.0 in let fits = told.1 in
    let even = x.fits.0 in let Asked : Type 0 = 32 ≤ n in
    move ! (1 ∷ []) $ heard ! Asked (λ asked. fsplit ! $ move ! (1 ∷ []) $ drop ! $ fsplit ! $ drop ! $
    in_a_block ! x.ptr (λ p. bytes_at p n) (id⊢ 𝓤 (never 𝓤)) (λ b o at.
    let start : Ptr = block_ptr b o in let r : Region = region_of start n in let d : Span = (o, 0) in let h : Span = (o + 16, n - 16) in let next : Ptr = block_ptr b h.0 in
    let top : o + n < 2 ^ 63 = subst (λ (p : Ptr). count_of p + n < 2 ^ 63) at x.below in let large = asked in
    use1 𝓛 (‵ (bytes_at start (16 + extent h.1))) (resized 𝓛 b o n (16 + extent h.1) (omega arith)) $ use1 𝓛 (‵ (bytes_at start 16) ⊛ ‵ (bytes_at next (extent h.1))) (cuts 𝓛 b o 16 (extent h.1) refl) $ split ! $
    use1 𝓛 (‵ (froom hole_type b o) ⊛ ‵ (behind b d)) (forms 𝓛 b d) $ split ! $ use1 𝓛 (‵ (froom named_hole b o)) (𝓛.laws.raw-room named_hole b o) $ move ! (2 ∷ []) $
    use1 𝓛 (‵ (froom hole_type b h.0) ⊛ ‵ (behind b h)) (forms 𝓛 b h) $ split ! $ use1 𝓛 (‵ (froom named_hole b h.0)) (𝓛.laws.raw-room named_hole b h.0) $
    enters ! fn (λ i. (told.0 ∙ ap (λ (p : Ptr). sized_val p n ∷ []) at) i ++ []) $
    alloc_all ! (λ l. pass_all ! refl ((tt, (tt, (record { fits = fits }, tt))), tt) $ let En : Env 𝓤 𝓛.H = env fn.locals l in
    sets ! (of_opd ! (get_in ! (fld ! refl (stop !)) (sub ! 0 refl (whole !)))) refl (tt, tt) $ sets ! (of_opd ! (get_in ! (fld ! refl (stop !)) (sub ! 1 refl (whole !)))) refl (tt, record { fits = fits }) $
    first ! $ blocks ! $
    sets ! (of_opd ! (get ! refl)) refl (tt, tt) $
    sets ! (is ! (bin ! (get ! refl) (lit ! tt) tt) (ap (vptr b) (omega arith))) refl (tt, tt) $
    sets ! (of_opd ! (get ! refl)) refl (tt, tt) $
    sets ! (bin ! (get ! refl) (lit ! tt) (omega arith)) refl (tt, record { fits = omega arith }) $
    sets ! (agg ! (and_then ! (get ! refl) (and_then ! (lit ! tt) (no_more !)))) refl (tt, (record { fits = omega arith }, (record { fits = lit< tt }, tt))) $
    assigns ! (of_opd ! (get ! refl)) (through ! refl (stop !)) (init ! 0 refl (tt, (record { fits = omega arith }, (record { fits = lit< tt }, tt)))) $
    sets ! (agg ! (and_then ! (lit ! tt) (and_then ! (get ! refl) (no_more !)))) refl (tt, (record { fits = lit< tt }, (tt, tt))) $
    assigns ! (of_opd ! (get ! refl)) (through ! refl (stop !)) (init ! 2 refl (tt, (record { fits = lit< tt }, (tt, tt)))) $
    sets_last ! (agg ! (and_then ! (get ! refl) (no_more !))) refl (tt, (tt, tt)) $
    exec ! 𝓣.C 𝓣.Λ En (after 3 fn.body) (at_ret En Post) $
    sets ! (of_opd ! (get ! refl)) refl (tt, (tt, tt)) $
    returns ! (look_at ! 0 refl) $ free_all ! refl $
    use1 𝓛 (‵ (fat full_share hole_type b h.0 (hole_val h.1 null_ptr))) (𝓛.laws.at_raw full_share named_hole b h.0 (hole_val h.1 null_ptr)) $ fjoin ! $ nothing ! $ move ! (1 ∷ 0 ∷ []) $ fjoin ! $ move ! (1 ∷ []) $ use1 𝓛 (‵ (fat full_share hole_type b o (hole_val 0 next))) (𝓛.laws.at_raw full_share named_hole b o (hole_val 0 next)) $ move ! (0 ∷ 2 ∷ []) $ fjoin ! $ fjoin ! $
    let y : (list.the_row).Denot = record { first = start; region = r; holes = h ∷ []; placed = (refl, (top, omega arith)); sorted = order_in o (o + n) d (h ∷ []) (omega arith) refl (order_in (o + 16) (o + n) h [] (omega arith) (omega arith) (le-leb (h.0 + extent h.1) (o + n) (omega arith))) } in
    use0 𝓛 (‵ (list_own start (list_val start ∷ []))) (list_made 𝓛 start tt) $ fjoin ! $ use0 𝓛 (raw (fact 𝓤 (h ∷ [] ≡ h ∷ []))) (fact_i 𝓤 (h ∷ [] ≡ h ∷ []) (emp 𝓤) refl) $ use0 𝓛 (raw (fact 𝓤 (x.ptr ≡ start))) (fact_i 𝓤 (x.ptr ≡ start) (emp 𝓤) at) $ join ! $
    use0 𝓛 (raw (fact 𝓤 (r ≡ region_of x.ptr n))) (fact_i 𝓤 (r ≡ region_of x.ptr n) (emp 𝓤) (ap (λ (p : Ptr). region_of p n) (sym at))) $ join ! $ nothing ! $ nothing ! $ fjoin ! $ move ! (3 ∷ 0 ∷ 2 ∷ 1 ∷ []) $
    by ! (leaves 𝓛 ended (used_up ended) c z (list_val start) y (tt, tt) (tt, tt))))))
