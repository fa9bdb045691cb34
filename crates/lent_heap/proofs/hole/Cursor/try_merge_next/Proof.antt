-- `try_merge_next` adds the next node's bytes to those behind this one's header, where they touch. Assumes `Logic`.
use Rattle.std.proofs.Common.{◌≡◌, ◌+◌, [], ◌∷◌, ◌++◌, refl, sym, ap, subst, ◌∙◌, arith, eqb→eq, Bool, cond}
use mir.Syntax.{Fn}
use mir.Val.{Val}
use base.Logic.{SProp, emp}
use prog.Wp.{Env}
use contract.Monad.{fact, fact_i}
use contract.Running.{tables}
use types.Kit.{‵, raw, at_ret, ◌$◌, !, by, move, use0, use2, fsplit, fjoin}
use types.Part.{whole, sub, agg, look_in, store_in}
use types.Run.{stop, fld, load, bin, of_opd, no_more, and_then, assigns, first, blocks, skips, branches, exec, returns_within}
use types.ByLocal.{alloc_all, pass_all, free_all, look_at, get, get_in, through, sets, env}
use denote.RawPtr.{Ptr, block_ptr, null_ptr, tests_same}
use denote.Steps.{nothing}
use denote.Triple.Walked.{walk_of}
use Rattle.core.proofs.alloc.Shapes.{after, head, inside}
use Rattle.std.proofs.raw_atomic.Walks.{leaves}
use Rattle.lent_heap.proofs.Walks.{used_up, apart, then_runs, out_of_block, walks, enters, alone}
use Rattle.lent_heap.proofs.Cursors.{Cursor, start_of, here_of, cursor_is, moved, cursor_out, stands, moves_on}
use Rattle.lent_heap.proofs.Stretches.{looks_on, hands_out}
use Rattle.lent_heap.proofs.Values.{ptr_typed, cursor_val}
use Rattle.lent_heap.proofs.Order.{current_facts, next_facts, absorbed}
use Rattle.lent_heap.proofs.Nodes.{absorbs}
use Rattle.lent_heap.specs.Region.{Region}
use Rattle.lent_heap.specs.Holes.{Span, IsCursor, merged}
use Rattle.lent_heap.specs.Ownership.{behind, first_or}
use borrow.Author.Tests.{eq-eqb, ne_eqb}
use Rattle.lent_heap.specs.contracts.hole.Cursor.try_merge_next.{ended, clauses}
use Rattle.lent_heap.specs.contracts.hole.Cursor.try_merge_next.Key.{name as #self}
use Rattle.lent_heap.proofs.hole.Cursor.try_merge_next.Statement.{statement}
use Rattle.lent_heap.proofs.hole.Cursor.try_merge_next.Code as compiled

pub try_merge_next_spec : {M : Type 1} → statement M
try_merge_next_spec 𝓤 𝓛 𝓜 𝓡 wired =
    let 𝓣 = tables 𝓤 𝓛.H 𝓜 𝓡 𝓡.env in let c = clauses 𝓛 𝓜.mem 𝓡.returns in let fn : Fn = compiled.function in
    walks 𝓛 ended c 𝓜 𝓡 (λ κs x f. tt, tt) #self fn (compiled.unfolded 𝓤 𝓛.H 𝓜 𝓡 wired) (λ z are.
    let Post : Val → SProp 𝓤 = (walk_of 𝓛 ended (used_up ended) c).post z in
    let x = z.0.3.0 in let r : Region = x.region in let b = r.block in let u : Span = x.current in let start : Ptr = start_of x in let here : Ptr = here_of x in
    let top = x.placed.2.0 in let below = (current_facts r x.before u x.after x.sorted).2 in
    let whole' = (current_facts r x.before u x.after x.sorted).1 in
    alone ! $ cursor_out ! x z.0.4.0 $ enters ! fn (λ i. cursor_is x z.0.4.0 are.0.0 i ++ []) $
    alloc_all ! (λ l. pass_all ! refl ((tt, (tt, (tt, tt))), tt) $ let En : Env 𝓤 𝓛.H = env fn.locals l in
    sets ! (of_opd ! (get_in ! (fld ! refl (stop !)) (sub ! 0 refl (whole !)))) refl (tt, tt) $ sets ! (of_opd ! (get_in ! (fld ! refl (stop !)) (sub ! 1 refl (whole !)))) refl (tt, tt) $
    first ! $ blocks ! $ looks_on ! x 3 4 8 En (refl, (refl, refl), (refl, refl)) (refl, refl)
    (λ none. sets ! (agg ! (and_then ! (get ! refl) (and_then ! (get ! refl) (no_more !)))) refl (tt, (tt, (tt, tt))) $
    returns_within ! Post refl (look_at ! 0 refl) $ free_all ! refl $
    let y : Cursor.Denot = record { first = start; hole = here; region = r; before = x.before; current = u; after = []; placed = (refl, refl, x.placed.2); sorted = subst (IsCursor r x.before u) none x.sorted } in
    stands ! y [] refl $ use0 𝓛 (raw (fact 𝓤 ((r ≡ r) × ((x.before, u, []) ≡ merged x.before u x.after)))) (fact_i 𝓤 ((r ≡ r) × ((x.before, u, []) ≡ merged x.before u x.after)) (emp 𝓤) (refl, sym (ap (merged x.before u) none))) $ nothing ! $ nothing ! $ fjoin ! $ move ! (3 ∷ 0 ∷ 2 ∷ 1 ∷ []) $
    by ! (leaves 𝓛 ended (used_up ended) c z (cursor_val start here) (y) (tt, tt) (tt, tt)))
    (λ h hs more.
    let sorted : IsCursor r x.before u (h ∷ hs) = subst (IsCursor r x.before u) more x.sorted in let ahead = next_facts r x.before u h hs sorted in let gap = ahead.0 in let units = ahead.1 in let under = ahead.2 in
    let next : Ptr = block_ptr b h.0 in
    skips ! $ exec ! 𝓣.C 𝓣.Λ En (after 3 (inside (head (after 2 fn.body)))) (out_of_block 𝓛 (then_runs 𝓛 𝓣.C 𝓣.Λ En (after 3 fn.body) (at_ret En Post))) $
    sets ! (of_opd ! (load ! (through ! refl (fld ! refl (stop !))) (look_in ! 0 (sub ! 0 refl (whole !))))) refl (tt, record { fits = omega arith }) $
    sets ! (of_opd ! (get ! refl)) refl (tt, tt) $
    sets ! (bin ! (get ! refl) (get ! refl) tt) refl (tt, tt) $
    sets ! (of_opd ! (get ! refl)) refl (tt, tt) $
    sets ! (bin ! (get ! refl) (get ! refl) (tests_same b (u.1 + u.0) h.0 (omega arith) (omega arith))) refl (tt, tt) $
    first ! $ branches ! (get ! refl)
    (λ y1. let touch : u.0 + u.1 ≡ h.0 = omega (arith, eqb→eq (u.1 + u.0) h.0 y1) in let far : Ptr = first_or b hs null_ptr in
    move ! (2 ∷ []) $ fsplit ! $ fsplit ! $ move ! (3 ∷ 4 ∷ []) $
    sets ! (of_opd ! (load ! (through ! refl (fld ! refl (stop !))) (look_in ! 2 (sub ! 0 refl (whole !))))) refl (tt, record { fits = omega arith }) $
    sets ! (bin ! (get ! refl) (get ! refl) (record { fits = omega arith })) refl (tt, record { fits = omega arith }) $
    assigns ! (of_opd ! (get ! refl)) (through ! refl (fld ! refl (stop !))) (store_in ! 0 (sub ! 0 refl (whole !)) (tt, record { fits = omega arith })) $
    sets ! (of_opd ! (load ! (through ! refl (fld ! refl (stop !))) (look_in ! 2 (sub ! 1 refl (whole !))))) refl (ptr_typed far) $
    assigns ! (of_opd ! (get ! refl)) (through ! refl (fld ! refl (stop !))) (store_in ! 0 (sub ! 1 refl (whole !)) (ptr_typed far)) $
    hands_out ! 11 7 En Post (agg ! (and_then ! (get ! refl) (and_then ! (get ! refl) (no_more !)))) ((refl, refl), ((refl, refl), (refl, refl))) (refl, refl) (tt, (tt, (tt, tt))) $ free_all ! refl $
    let y : Cursor.Denot = record { first = start; hole = here; region = r; before = x.before; current = (u.0, u.1 + h.1); after = hs; placed = (refl, refl, x.placed.2); sorted = absorbed r x.before u h hs sorted touch } in
    move ! (2 ∷ 3 ∷ []) $ fjoin ! $ move ! (2 ∷ 0 ∷ []) $ use2 𝓛 (‵ (behind b (u.0, u.1 + h.1))) (absorbs 𝓛 b u h far touch (omega arith) whole' units) $ move ! (1 ∷ 0 ∷ []) $ stands ! y hs refl $ use0 𝓛 (raw (fact 𝓤 ((r ≡ r) × ((x.before, (u.0, u.1 + h.1), hs) ≡ merged x.before u x.after)))) (fact_i 𝓤 ((r ≡ r) × ((x.before, (u.0, u.1 + h.1), hs) ≡ merged x.before u x.after)) (emp 𝓤) (refl, sym (ap (merged x.before u) more ∙ ap (λ (t : Bool). cond t (x.before, (u.0, u.1 + h.1), hs) (x.before ++ u ∷ [], h, hs)) (eq-eqb (u.0 + u.1) h.0 touch)))) $ nothing ! $ nothing ! $ fjoin ! $ move ! (3 ∷ 0 ∷ 2 ∷ 1 ∷ []) $
    by ! (leaves 𝓛 ended (used_up ended) c z (cursor_val start here) (y) (tt, tt) (tt, tt)))
    (λ n1. hands_out ! 11 7 En Post (agg ! (and_then ! (get ! refl) (and_then ! (get ! refl) (no_more !)))) ((refl, refl), ((refl, refl), (refl, refl))) (refl, refl) (tt, (tt, (tt, tt))) $ free_all ! refl $
    moves_on ! x h hs more $ use0 𝓛 (raw (fact 𝓤 ((r ≡ r) × ((x.before ++ u ∷ [], h, hs) ≡ merged x.before u x.after)))) (fact_i 𝓤 ((r ≡ r) × ((x.before ++ u ∷ [], h, hs) ≡ merged x.before u x.after)) (emp 𝓤) (refl, sym (ap (merged x.before u) more ∙ ap (λ (t : Bool). cond t (x.before, (u.0, u.1 + h.1), hs) (x.before ++ u ∷ [], h, hs)) (ne_eqb (u.0 + u.1) h.0 (λ touch. apart (u.1 + u.0) h.0 n1 (omega arith)))))) $ nothing ! $ nothing ! $ fjoin ! $ move ! (3 ∷ 0 ∷ 2 ∷ 1 ∷ []) $
    by ! (leaves 𝓛 ended (used_up ended) c z (cursor_val start next) (moved x h hs more) (tt, tt) (tt, tt))))))
