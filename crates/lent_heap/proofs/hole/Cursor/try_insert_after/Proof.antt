-- `try_insert_after` makes a node of the block. What it owns overlaps neither node beside it. Assumes `Logic`.
use Rattle.std.proofs.Common.{◌≡◌, ◌+◌, ◌<◌, ◌≤◌, List, [], ◌∷◌, ◌++◌, refl, sym, ap, subst, ◌∙◌, arith, lit<, ltb→lt, nltb→le, Ok, Err}
use mir.Syntax.{Fn}
use mir.Val.{Val, vcons, vnil}
use base.Fraction.{full_share}
use base.Logic.{SProp, emp}
use base.Fml.{fat, froom}
use prog.Wp.{Env}
use contract.Monad.{fact, fact_i}
use contract.Running.{tables}
use types.Kit.{‵, raw, ◌⊛◌, at_ret, ◌$◌, !, by, move, drop, use0, use1, use2, split, rewrite, fsplit, fsplit3, fjoin}
use types.Part.{whole, sub, agg, store_in}
use types.Match.{live}
use types.Run.{stop, fld, init, lit, bin, of_opd, no_more, and_then, assigns, first, blocks, skips, branches, exec}
use types.ByLocal.{alloc_all, pass_all, free_all, get, get_in, through, sets, sets_last, env}
use denote.RattleType.{RattleType}
use denote.RawPtr.{Ptr, block_ptr, null_ptr, tests_order}
use denote.Signature.{type_at}
use denote.Steps.{nothing, heard}
use denote.Struct.Tuple.{Tuple}
use denote.Triple.Walked.{walk_of}
use Rattle.core.proofs.alloc.Shapes.{after, head, inside}
use Rattle.std_alloc.proofs.ResultValues.{ok_of, err_of}
use Rattle.std_alloc.proofs.Pairs.{pair_of, pair_val}
use Rattle.std.proofs.raw_atomic.Walks.{leaves}
use Rattle.lent_heap.proofs.Walks.{used_up, then_runs, out_of_block, learns, walks, enters}
use Rattle.lent_heap.proofs.Cursors.{named_hole, Cursor, start_of, here_of, cursor_is, moved, cursor_out, stands, moves_on}
use Rattle.lent_heap.proofs.Stretches.{looks_on, hands_out}
use Rattle.lent_heap.proofs.Blocks.{Block, block_in}
use Rattle.lent_heap.proofs.Values.{cursor_val, sized_val, sized_told}
use Rattle.lent_heap.proofs.Order.{current_facts, inserted_last, next_facts, inserted}
use Rattle.lent_heap.proofs.Nodes.{resized, forms, node_ends_before, block_ends_before}
use Rattle.lent_heap.specs.Region.{Region}
use Rattle.lent_heap.specs.Holes.{Span, extent, IsCursor, Advances, Inserts}
use Rattle.lent_heap.specs.Ownership.{bytes_at, hole_type, hole_val, behind}
use Rattle.lent_heap.specs.contracts.hole.Cursor.try_insert_after.{ended, clauses}
use Rattle.lent_heap.specs.contracts.hole.Cursor.try_insert_after.Key.{name as #self}
use Rattle.lent_heap.proofs.hole.Cursor.try_insert_after.Statement.{statement}
use Rattle.lent_heap.proofs.hole.Cursor.try_insert_after.Code as compiled

pub try_insert_after_spec : {M : Type 1} → statement M
try_insert_after_spec 𝓤 𝓛 𝓜 𝓡 wired =
    let 𝓣 = tables 𝓤 𝓛.H 𝓜 𝓡 𝓡.env in let c = clauses 𝓛 𝓜.mem 𝓡.returns in let fn : Fn = compiled.function in
    walks 𝓛 ended c 𝓜 𝓡 (λ κs x f. tt, (λ κs x f. tt, tt)) #self fn (compiled.unfolded 𝓤 𝓛.H 𝓜 𝓡 wired) (λ z are.
    let Post : Val → SProp 𝓤 = (walk_of 𝓛 ended (used_up ended) c).post z in let Out : RattleType = type_at ended.signature.result z.0.0 in
    let x = z.0.3.0 in let r : Region = x.region in let b = r.block in let u : Span = x.current in let start : Ptr = start_of x in let here : Ptr = here_of x in
    let top = x.placed.2.0 in let below = (current_facts r x.before u x.after x.sorted).2 in
    let w = z.0.3.1.0 in let n = w.size in let s : Span = (w.at, n) in let from : Ptr = block_ptr b s.0 in let sized = sized_told w.ptr n z.0.4.1.0 are.1.0.0 in let fits = sized.1 in
    let large = w.placed.4.0 in let even = w.placed.4.1 in let whole' = (current_facts r x.before u x.after x.sorted).1 in
    let Asked : Type 0 = (w.region ≡ r) × (u.0 ≤ w.at) in
    move ! (1 ∷ []) $ heard ! Asked (λ asked.
    let lies : w.ptr ≡ from = w.placed.0 ∙ ap (λ (g : Region). block_ptr g.block w.at) asked.0 in let inside' : s.0 + n ≤ r.end = subst (λ (g : Region). s.0 + n ≤ g.end) asked.0 w.placed.2 in
    fsplit3 ! $ move ! (2 ∷ []) $ drop ! $ move ! (1 ∷ []) $ fsplit ! $ drop ! $ rewrite ! 0 (λ (p : Ptr). ‵ (bytes_at p n)) lies refl $ move ! (1 ∷ []) $ cursor_out ! x z.0.4.0 $
    enters ! fn (λ i. cursor_is x z.0.4.0 are.0.0 i ++ ((sized.0 ∙ ap (λ (p : Ptr). sized_val p n ∷ []) lies) i ++ [])) $
    alloc_all ! (λ l. pass_all ! refl ((tt, (tt, (tt, tt))), ((tt, (tt, (record { fits = fits }, tt))), tt)) $ let En : Env 𝓤 𝓛.H = env fn.locals l in
    sets ! (of_opd ! (get_in ! (fld ! refl (stop !)) (sub ! 0 refl (whole !)))) refl (tt, tt) $ sets ! (of_opd ! (get_in ! (fld ! refl (stop !)) (sub ! 1 refl (whole !)))) refl (tt, tt) $
    sets ! (of_opd ! (get_in ! (fld ! refl (stop !)) (sub ! 0 refl (whole !)))) refl (tt, tt) $ sets ! (of_opd ! (get_in ! (fld ! refl (stop !)) (sub ! 1 refl (whole !)))) refl (tt, record { fits = fits }) $
    first ! $ blocks ! $ sets ! (of_opd ! (get ! refl)) refl (tt, tt) $ looks_on ! x 4 8 11 En (refl, (refl, refl), (refl, refl)) (refl, refl)
    (λ none.
    move ! (0 ∷ 1 ∷ 4 ∷ []) $ learns ! 3 (u.0 + extent u.1 ≤ s.0) (node_ends_before 𝓛 b 𝓜 u null_ptr s.0 n whole' w.placed.4 asked.1) (λ above. move ! (0 ∷ 1 ∷ 3 ∷ 4 ∷ []) $
    skips ! $ exec ! 𝓣.C 𝓣.Λ En (after 4 (inside (head (after 4 fn.body)))) (out_of_block 𝓛 (then_runs 𝓛 𝓣.C 𝓣.Λ En (after 5 fn.body) (at_ret En Post))) $
    sets ! (of_opd ! (get ! refl)) refl (tt, tt) $
    first ! $ branches ! (get ! refl)
    (λ y1. move ! (4 ∷ []) $ use1 𝓛 (‵ (bytes_at from (extent n))) (resized 𝓛 b s.0 n (extent n) (omega arith)) $ use1 𝓛 (‵ (froom hole_type b s.0) ⊛ ‵ (behind b s)) (forms 𝓛 b s) $ split ! $ use1 𝓛 (‵ (froom named_hole b s.0)) (𝓛.laws.raw-room named_hole b s.0) $
    sets ! (agg ! (and_then ! (get ! refl) (and_then ! (get ! refl) (no_more !)))) refl (tt, (record { fits = fits }, (record { fits = lit< tt }, tt))) $
    assigns ! (of_opd ! (get ! refl)) (through ! refl (stop !)) (init ! 0 refl (tt, (record { fits = fits }, (record { fits = lit< tt }, tt)))) $
    use1 𝓛 (‵ (fat full_share hole_type b s.0 (hole_val n null_ptr))) (𝓛.laws.at_raw full_share named_hole b s.0 (hole_val n null_ptr)) $
    assigns ! (of_opd ! (get ! refl)) (through ! refl (fld ! refl (stop !))) (store_in ! 2 (sub ! 1 refl (whole !)) (tt, tt)) $
    sets ! (agg ! (and_then ! (get ! refl) (and_then ! (get ! refl) (no_more !)))) refl (tt, (tt, (tt, tt))) $
    hands_out ! 12 9 En Post (agg ! (and_then ! (lit ! tt) (and_then ! (get ! refl) (no_more !)))) ((refl, refl), ((refl, refl), (refl, refl))) (refl, refl) (tt, (record { fits = lit< tt }, ((tt, (tt, tt)), tt))) $ free_all ! refl $
    fjoin ! $ move ! (0 ∷ 3 ∷ []) $ fjoin ! $ move ! (1 ∷ 2 ∷ []) $ let y : Cursor.Denot = record { first = start; hole = here; region = r; before = x.before; current = u; after = s ∷ []; placed = (refl, refl, x.placed.2); sorted = inserted_last r x.before u s (subst (IsCursor r x.before u) none x.sorted) w.placed.4 above inside' } in
    stands ! y (s ∷ []) refl $ use1 𝓛 (‵ (Out.own_val (Ok y) (live 0 (vcons (cursor_val start here) vnil) ∷ []))) (ok_of 𝓛 Cursor (Tuple (Cursor ∷ Block ∷ [])) y (cursor_val start here)) $ use0 𝓛 (raw (fact 𝓤 ((r ≡ r) × (x.before ≡ x.before) × (u ≡ u) × Inserts s u x.after (s ∷ [])))) (fact_i 𝓤 ((r ≡ r) × (x.before ≡ x.before) × (u ≡ u) × Inserts s u x.after (s ∷ [])) (emp 𝓤) (refl, refl, refl, subst (λ (l : List Span). Inserts s u l (s ∷ [])) (sym none) (refl, above, tt))) $ nothing ! $ nothing ! $ fjoin ! $ nothing ! $ fjoin ! $ move ! (3 ∷ 0 ∷ 2 ∷ 1 ∷ []) $
    by ! (leaves 𝓛 ended (used_up ended) c z (live 0 (vcons (cursor_val start here) vnil)) (Ok y) (tt, (tt, tt)) (tt, (tt, tt))))
    (λ n1. absurd n1)))
    (λ h hs more.
    let sorted : IsCursor r x.before u (h ∷ hs) = subst (IsCursor r x.before u) more x.sorted in let ahead = next_facts r x.before u h hs sorted in let gap = ahead.0 in let units = ahead.1 in let under = ahead.2 in
    let next : Ptr = block_ptr b h.0 in
    move ! (0 ∷ 1 ∷ 4 ∷ []) $ learns ! 3 (u.0 + extent u.1 ≤ s.0) (node_ends_before 𝓛 b 𝓜 u next s.0 n whole' w.placed.4 asked.1) (λ above. move ! (0 ∷ 1 ∷ 3 ∷ 4 ∷ []) $
    sets_last ! (bin ! (get ! refl) (get ! refl) (tests_order b s.0 h.0 (omega arith) (omega arith))) refl (tt, tt) $
    exec ! 𝓣.C 𝓣.Λ En (after 4 (inside (head (after 4 fn.body)))) (out_of_block 𝓛 (then_runs 𝓛 𝓣.C 𝓣.Λ En (after 5 fn.body) (at_ret En Post))) $
    sets ! (of_opd ! (get ! refl)) refl (tt, tt) $
    first ! $ branches ! (get ! refl)
    (λ y1. let before : s.0 < h.0 = ltb→lt s.0 h.0 y1 in
    move ! (4 ∷ 2 ∷ []) $ learns ! 2 (s.0 + n ≤ h.0) (block_ends_before 𝓛 b 𝓜 s.0 n h hs null_ptr even units (omega arith)) (λ ends.
    move ! (2 ∷ 3 ∷ 1 ∷ 4 ∷ []) $ move ! (4 ∷ []) $ use1 𝓛 (‵ (bytes_at from (extent n))) (resized 𝓛 b s.0 n (extent n) (omega arith)) $ use1 𝓛 (‵ (froom hole_type b s.0) ⊛ ‵ (behind b s)) (forms 𝓛 b s) $ split ! $ use1 𝓛 (‵ (froom named_hole b s.0)) (𝓛.laws.raw-room named_hole b s.0) $
    sets ! (agg ! (and_then ! (get ! refl) (and_then ! (get ! refl) (no_more !)))) refl (tt, (record { fits = fits }, (tt, tt))) $
    assigns ! (of_opd ! (get ! refl)) (through ! refl (stop !)) (init ! 0 refl (tt, (record { fits = fits }, (tt, tt)))) $
    use1 𝓛 (‵ (fat full_share hole_type b s.0 (hole_val n next))) (𝓛.laws.at_raw full_share named_hole b s.0 (hole_val n next)) $
    assigns ! (of_opd ! (get ! refl)) (through ! refl (fld ! refl (stop !))) (store_in ! 2 (sub ! 1 refl (whole !)) (tt, tt)) $
    sets ! (agg ! (and_then ! (get ! refl) (and_then ! (get ! refl) (no_more !)))) refl (tt, (tt, (tt, tt))) $
    hands_out ! 12 9 En Post (agg ! (and_then ! (lit ! tt) (and_then ! (get ! refl) (no_more !)))) ((refl, refl), ((refl, refl), (refl, refl))) (refl, refl) (tt, (record { fits = lit< tt }, ((tt, (tt, tt)), tt))) $ free_all ! refl $
    fjoin ! $ move ! (0 ∷ 3 ∷ []) $ fjoin ! $ move ! (1 ∷ 2 ∷ []) $ let y : Cursor.Denot = record { first = start; hole = here; region = r; before = x.before; current = u; after = s ∷ h ∷ hs; placed = (refl, refl, x.placed.2); sorted = inserted r x.before u h hs sorted s w.placed.4 above ends } in
    stands ! y (s ∷ h ∷ hs) refl $ use1 𝓛 (‵ (Out.own_val (Ok y) (live 0 (vcons (cursor_val start here) vnil) ∷ []))) (ok_of 𝓛 Cursor (Tuple (Cursor ∷ Block ∷ [])) y (cursor_val start here)) $ use0 𝓛 (raw (fact 𝓤 ((r ≡ r) × (x.before ≡ x.before) × (u ≡ u) × Inserts s u x.after (s ∷ h ∷ hs)))) (fact_i 𝓤 ((r ≡ r) × (x.before ≡ x.before) × (u ≡ u) × Inserts s u x.after (s ∷ h ∷ hs)) (emp 𝓤) (refl, refl, refl, subst (λ (l : List Span). Inserts s u l (s ∷ h ∷ hs)) (sym more) (refl, above, before))) $ nothing ! $ nothing ! $ fjoin ! $ nothing ! $ fjoin ! $ move ! (3 ∷ 0 ∷ 2 ∷ 1 ∷ []) $
    by ! (leaves 𝓛 ended (used_up ended) c z (live 0 (vcons (cursor_val start here) vnil)) (Ok y) (tt, (tt, tt)) (tt, (tt, tt)))))
    (λ n1. sets ! (agg ! (and_then ! (get ! refl) (and_then ! (get ! refl) (no_more !)))) refl (tt, (tt, (tt, tt))) $
    sets ! (agg ! (and_then ! (get ! refl) (and_then ! (get ! refl) (no_more !)))) refl (tt, (tt, (record { fits = fits }, tt))) $
    sets ! (agg ! (and_then ! (get ! refl) (and_then ! (get ! refl) (no_more !)))) refl (tt, ((tt, (tt, tt)), ((tt, (record { fits = fits }, tt)), tt))) $
    hands_out ! 12 9 En Post (agg ! (and_then ! (lit ! tt) (and_then ! (get ! refl) (no_more !)))) ((refl, refl), ((refl, refl), (refl, refl))) (refl, refl) (tt, (record { fits = lit< tt }, (((tt, (tt, tt)), ((tt, (record { fits = fits }, tt)), tt)), tt))) $ free_all ! refl $
    let y : Cursor.Denot = moved x h hs more in moves_on ! x h hs more $ move ! (1 ∷ []) $ rewrite ! 0 (λ (p : Ptr). ‵ (bytes_at p n)) (sym lies) refl $
    block_in ! w sized.1 $ rewrite ! 0 (λ (p : Ptr). ‵ (Block.own_val w (sized_val p n ∷ []))) lies refl $ move ! (1 ∷ 0 ∷ []) $ use2 𝓛 (‵ ((Tuple (Cursor ∷ Block ∷ [])).own_val (y, w) (pair_val (cursor_val start next) (sized_val from n) ∷ []))) (pair_of 𝓛 Cursor Block (y) (w) (cursor_val start next) (sized_val from n)) $ let v : Val = pair_val (cursor_val start next) (sized_val from n) in
    use1 𝓛 (‵ (Out.own_val (Err (y, w)) (live 1 (vcons (v) vnil) ∷ []))) (err_of 𝓛 Cursor (Tuple (Cursor ∷ Block ∷ [])) (y, w) (v)) $ use0 𝓛 (raw (fact 𝓤 ((r ≡ r) × (w ≡ w) × (h.0 ≤ w.at) × Advances x.before u x.after (x.before ++ u ∷ []) h hs))) (fact_i 𝓤 ((r ≡ r) × (w ≡ w) × (h.0 ≤ w.at) × Advances x.before u x.after (x.before ++ u ∷ []) h hs) (emp 𝓤) (refl, refl, nltb→le s.0 h.0 n1, (refl, more))) $ nothing ! $ nothing ! $ fjoin ! $ nothing ! $ fjoin ! $ move ! (3 ∷ 0 ∷ 2 ∷ 1 ∷ []) $
    by ! (leaves 𝓛 ended (used_up ended) c z (live 1 (vcons (v) vnil)) (Err (y, w)) (tt, (tt, tt)) (tt, (tt, tt)))))))))
