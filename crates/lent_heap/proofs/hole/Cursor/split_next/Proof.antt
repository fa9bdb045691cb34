-- `split_next` takes the next hole apart: the block, and a hole of what is left. Assumes `Logic`.
use Rattle.std.proofs.Common.{◌≡◌, ◌+◌, ◌-◌, ◌≤◌, List, [], ◌∷◌, ◌++◌, refl, sym, ap, subst, arith, lit<, eqb→eq, ltb→lt, nltb→le, Ok, Err, Bool, cond}
use mir.Syntax.{Fn}
use mir.Val.{Val, vptr, vcons, vnil}
use base.Fraction.{full_share}
use base.Logic.{SProp, emp}
use base.Fml.{fat, froom}
use prog.Wp.{Env}
use contract.Monad.{fact, fact_i}
use contract.Running.{tables}
use types.Kit.{‵, raw, ◌⊛◌, at_ret, ◌$◌, !, by, move, drop, use0, use1, use2, split, fsplit, fjoin}
use types.Part.{whole, sub, agg, look_in, store_in}
use types.Match.{live}
use types.Run.{stop, fld, load, init, lit, bin, of_opd, no_more, and_then, assigns, assigns_last, first, blocks, skips, branches, exec, returns_within}
use types.ByLocal.{alloc_all, pass_all, free_all, look_at, get, get_in, through, sets, is, env}
use denote.RattleType.{RattleType}
use denote.RawPtr.{Ptr, block_ptr, null_ptr}
use denote.Signature.{type_at}
use denote.Steps.{nothing, heard}
use denote.Struct.Tuple.{Tuple}
use denote.Triple.Walked.{walk_of}
use Rattle.core.proofs.alloc.Shapes.{after, head, inside}
use Rattle.std_alloc.proofs.ResultValues.{and_tt, ok_of, err_of}
use Rattle.std_alloc.proofs.Pairs.{pair_of, pair_val}
use Rattle.std.proofs.raw_atomic.Walks.{leaves}
use Rattle.lent_heap.proofs.Walks.{used_up, apart, then_runs, out_of_block, walks, enters}
use Rattle.lent_heap.proofs.Cursors.{named_hole, Cursor, start_of, here_of, cursor_is, cursor_out, stands}
use Rattle.lent_heap.proofs.Stretches.{looks_on, hands_back}
use Rattle.lent_heap.proofs.Blocks.{Block, block_in}
use Rattle.lent_heap.proofs.Values.{ptr_typed, cursor_val, sized_val}
use Rattle.lent_heap.proofs.Order.{next_facts, unlinked, replaced}
use Rattle.lent_heap.proofs.Nodes.{cuts, resized, dissolves, forms}
use Rattle.lent_heap.specs.Region.{Region, IsBlockSize}
use Rattle.lent_heap.specs.Holes.{Span, extent, IsCursor, Skips, Splits}
use Rattle.lent_heap.specs.Ownership.{bytes_at, hole_type, hole_val, behind, first_or}
use borrow.Author.Tests.{eq-eqb, ne_eqb}
use Rattle.lent_heap.specs.contracts.hole.Cursor.split_next.{ended, clauses}
use Rattle.lent_heap.specs.contracts.hole.Cursor.split_next.Key.{name as #self}
use Rattle.lent_heap.proofs.hole.Cursor.split_next.Statement.{statement}
use Rattle.lent_heap.proofs.hole.Cursor.split_next.Code as compiled

pub split_next_spec : {M : Type 1} → statement M
split_next_spec 𝓤 𝓛 𝓜 𝓡 wired =
    let 𝓣 = tables 𝓤 𝓛.H 𝓜 𝓡 𝓡.env in let c = clauses 𝓛 𝓜.mem 𝓡.returns in let fn : Fn = compiled.function in
    walks 𝓛 ended c 𝓜 𝓡 (λ κs x f. tt, (λ κs x f. tt, tt)) #self fn (compiled.unfolded 𝓤 𝓛.H 𝓜 𝓡 wired) (λ z are.
    let Post : Val → SProp 𝓤 = (walk_of 𝓛 ended (used_up ended) c).post z in let Out : RattleType = type_at ended.signature.result z.0.0 in
    let x = z.0.3.0 in let r : Region = x.region in let b = r.block in let u : Span = x.current in let start : Ptr = start_of x in let here : Ptr = here_of x in
    let top = x.placed.2.0 in
    let n = z.0.3.1.0 in let Asked : Type 0 = IsBlockSize n in
    move ! (1 ∷ []) $ heard ! Asked (λ asked. let large = asked.0 in let even = asked.1 in
    fsplit ! $ move ! (1 ∷ []) $ drop ! $ cursor_out ! x z.0.4.0 $ enters ! fn (λ i. cursor_is x z.0.4.0 are.0.0 i ++ (are.1.0.0 i ++ [])) $
    alloc_all ! (λ l. pass_all ! refl ((tt, (tt, (tt, tt))), ((tt, record { fits = are.1.0.1 }), tt)) $ let En : Env 𝓤 𝓛.H = env fn.locals l in
    sets ! (of_opd ! (get_in ! (fld ! refl (stop !)) (sub ! 0 refl (whole !)))) refl (tt, tt) $ sets ! (of_opd ! (get_in ! (fld ! refl (stop !)) (sub ! 1 refl (whole !)))) refl (tt, tt) $
    first ! $ blocks ! $ looks_on ! x 4 5 11 En (refl, (refl, refl), (refl, refl)) (refl, refl)
    (λ none. sets ! (agg ! (and_then ! (get ! refl) (and_then ! (get ! refl) (no_more !)))) refl (tt, (tt, (tt, tt))) $
    sets ! (agg ! (and_then ! (lit ! tt) (and_then ! (get ! refl) (no_more !)))) refl (tt, (record { fits = lit< tt }, ((tt, (tt, tt)), tt))) $
    returns_within ! Post refl (look_at ! 0 refl) $ free_all ! refl $
    stands ! x [] none $
    use1 𝓛 (‵ (Out.own_val (Err x) (live 1 (vcons (cursor_val start here) vnil) ∷ []))) (err_of 𝓛 (Tuple (Block ∷ Cursor ∷ [])) Cursor x (cursor_val start here)) $ use0 𝓛 (raw (fact 𝓤 ((x ≡ x) × Skips n x.after))) (fact_i 𝓤 ((x ≡ x) × Skips n x.after) (emp 𝓤) (refl, subst (Skips n) (sym none) (tt))) $ nothing ! $ nothing ! $ fjoin ! $ nothing ! $ fjoin ! $ move ! (3 ∷ 0 ∷ 2 ∷ 1 ∷ []) $
    by ! (leaves 𝓛 ended (used_up ended) c z (live 1 (vcons (cursor_val start here) vnil)) (Err x) (tt, (tt, tt)) (tt, (tt, tt))))
    (λ h hs more.
    let sorted : IsCursor r x.before u (h ∷ hs) = subst (IsCursor r x.before u) more x.sorted in let ahead = next_facts r x.before u h hs sorted in let gap = ahead.0 in let units = ahead.1 in let under = ahead.2 in
    let next : Ptr = block_ptr b h.0 in let far : Ptr = first_or b hs null_ptr in
    skips ! $ exec ! 𝓣.C 𝓣.Λ En (after 3 (inside (head (after 2 fn.body)))) (out_of_block 𝓛 (then_runs 𝓛 𝓣.C 𝓣.Λ En (after 3 fn.body) (at_ret En Post))) $
    move ! (2 ∷ []) $ fsplit ! $ fsplit ! $ move ! (3 ∷ 4 ∷ []) $
    sets ! (of_opd ! (load ! (through ! refl (fld ! refl (stop !))) (look_in ! 2 (sub ! 0 refl (whole !))))) refl (tt, record { fits = omega arith }) $
    sets ! (bin ! (get ! refl) (get ! refl) tt) refl (tt, tt) $
    first ! $ branches ! (get ! refl)
    (λ y1. sets ! (agg ! (and_then ! (get ! refl) (and_then ! (get ! refl) (no_more !)))) refl (tt, (tt, (tt, tt))) $
    sets ! (agg ! (and_then ! (lit ! tt) (and_then ! (get ! refl) (no_more !)))) refl (tt, (record { fits = lit< tt }, ((tt, (tt, tt)), tt))) $
    move ! (2 ∷ 3 ∷ []) $ fjoin ! $ move ! (0 ∷ 3 ∷ []) $ fjoin ! $ move ! (1 ∷ 2 ∷ []) $
    returns_within ! Post refl (look_at ! 0 refl) $ free_all ! refl $
    stands ! x (h ∷ hs) more $
    use1 𝓛 (‵ (Out.own_val (Err x) (live 1 (vcons (cursor_val start here) vnil) ∷ []))) (err_of 𝓛 (Tuple (Block ∷ Cursor ∷ [])) Cursor x (cursor_val start here)) $ use0 𝓛 (raw (fact 𝓤 ((x ≡ x) × Skips n x.after))) (fact_i 𝓤 ((x ≡ x) × Skips n x.after) (emp 𝓤) (refl, subst (Skips n) (sym more) (ltb→lt h.1 n y1))) $ nothing ! $ nothing ! $ fjoin ! $ nothing ! $ fjoin ! $ move ! (3 ∷ 0 ∷ 2 ∷ 1 ∷ []) $
    by ! (leaves 𝓛 ended (used_up ended) c z (live 1 (vcons (cursor_val start here) vnil)) (Err x) (tt, (tt, tt)) (tt, (tt, tt))))
    (λ n1. let enough : n ≤ h.1 = nltb→le h.1 n n1 in
    skips ! $ exec ! 𝓣.C 𝓣.Λ En (after 6 (inside (head (after 2 fn.body)))) (out_of_block 𝓛 (then_runs 𝓛 𝓣.C 𝓣.Λ En (after 3 fn.body) (at_ret En Post))) $
    sets ! (of_opd ! (load ! (through ! refl (fld ! refl (stop !))) (look_in ! 2 (sub ! 1 refl (whole !))))) refl (ptr_typed far) $
    move ! (2 ∷ 3 ∷ []) $ use2 𝓛 (‵ (bytes_at next (extent h.1))) (dissolves 𝓛 b h far) $
    sets ! (of_opd ! (get ! refl)) refl (tt, tt) $
    sets ! (bin ! (get ! refl) (get ! refl) tt) refl (tt, tt) $
    first ! $ branches ! (get ! refl)
    (λ y2. let exact : h.1 ≡ n = eqb→eq h.1 n y2 in use1 𝓛 (‵ (bytes_at next n)) (resized 𝓛 b h.0 (extent h.1) n (omega arith)) $
    assigns_last ! (of_opd ! (get ! refl)) (through ! refl (fld ! refl (stop !))) (store_in ! 1 (sub ! 1 refl (whole !)) (ptr_typed far)) $
    exec ! 𝓣.C 𝓣.Λ En (after 10 (inside (head (after 2 fn.body)))) (out_of_block 𝓛 (then_runs 𝓛 𝓣.C 𝓣.Λ En (after 3 fn.body) (at_ret En Post))) $
    sets ! (agg ! (and_then ! (get ! refl) (and_then ! (get ! refl) (no_more !)))) refl (tt, (tt, (record { fits = are.1.0.1 }, tt))) $
    sets ! (agg ! (and_then ! (get ! refl) (and_then ! (get ! refl) (no_more !)))) refl (tt, (tt, (tt, tt))) $
    sets ! (agg ! (and_then ! (get ! refl) (and_then ! (get ! refl) (no_more !)))) refl (tt, ((tt, (record { fits = are.1.0.1 }, tt)), ((tt, (tt, tt)), tt))) $
    hands_back ! 10 En Post (agg ! (and_then ! (lit ! tt) (and_then ! (get ! refl) (no_more !)))) ((refl, refl), (refl, refl)) refl (tt, (record { fits = lit< tt }, (((tt, (record { fits = are.1.0.1 }, tt)), ((tt, (tt, tt)), tt)), tt))) $ free_all ! refl $
    move ! (1 ∷ 2 ∷ 3 ∷ 4 ∷ []) $ let w : Block.Denot = record { ptr = next; size = n; region = r; at = h.0; placed = (refl, ahead.3, omega arith, top, asked) } in
    let y : Cursor.Denot = record { first = start; hole = here; region = r; before = x.before; current = u; after = hs; placed = (refl, refl, x.placed.2); sorted = unlinked r x.before u h hs sorted } in
    stands ! y hs refl $ move ! (1 ∷ []) $ block_in ! w are.1.0.1 $ use2 𝓛 (‵ ((Tuple (Block ∷ Cursor ∷ [])).own_val (w, y) (pair_val (sized_val next n) (cursor_val start here) ∷ []))) (pair_of 𝓛 Block Cursor (w) (y) (sized_val next n) (cursor_val start here)) $ let v : Val = pair_val (sized_val next n) (cursor_val start here) in
    use1 𝓛 (‵ (Out.own_val (Ok (w, y)) (live 0 (vcons (v) vnil) ∷ []))) (ok_of 𝓛 (Tuple (Block ∷ Cursor ∷ [])) Cursor (w, y) (v)) $ use0 𝓛 (raw (fact 𝓤 ((r ≡ r) × (n ≡ n) × (r ≡ r) × (x.before ≡ x.before) × (u ≡ u) × Splits n x.after h.0 (hs)))) (fact_i 𝓤 ((r ≡ r) × (n ≡ n) × (r ≡ r) × (x.before ≡ x.before) × (u ≡ u) × Splits n x.after h.0 (hs)) (emp 𝓤) (refl, refl, refl, refl, refl, subst (λ (l : List Span). Splits n l h.0 (hs)) (sym more) (enough, refl, sym (ap (λ (t : Bool). cond t hs ((h.0 + n, h.1 - n) ∷ hs)) (eq-eqb h.1 n exact))))) $ nothing ! $ nothing ! $ fjoin ! $ nothing ! $ fjoin ! $ move ! (3 ∷ 0 ∷ 2 ∷ 1 ∷ []) $
    by ! (leaves 𝓛 ended (used_up ended) c z (live 0 (vcons (v) vnil)) (Ok (w, y)) (tt, (tt, tt)) (tt, (tt, tt))))
    (λ n2. let other = apart h.1 n n2 in let left : Span = (h.0 + n, h.1 - n) in let back : Ptr = block_ptr b (h.0 + n) in
    use1 𝓛 (‵ (bytes_at next (n + extent left.1))) (resized 𝓛 b h.0 (extent h.1) (n + extent left.1) (omega arith)) $
    use1 𝓛 (‵ (bytes_at next n) ⊛ ‵ (bytes_at back (extent left.1))) (cuts 𝓛 b h.0 n (extent left.1) even) $ split ! $ move ! (1 ∷ []) $
    use1 𝓛 (‵ (froom hole_type b left.0) ⊛ ‵ (behind b left)) (forms 𝓛 b left) $ split ! $ use1 𝓛 (‵ (froom named_hole b left.0)) (𝓛.laws.raw-room named_hole b left.0) $
    sets ! (is ! (bin ! (get ! refl) (get ! refl) tt) (ap (vptr b) (omega arith))) refl (tt, tt) $
    sets ! (of_opd ! (get ! refl)) refl (tt, tt) $
    sets ! (bin ! (get ! refl) (get ! refl) (omega arith)) refl (tt, record { fits = omega arith }) $
    sets ! (agg ! (and_then ! (get ! refl) (and_then ! (get ! refl) (no_more !)))) refl (and_tt _ ((ptr_typed far).0), (record { fits = omega arith }, ((ptr_typed far).1, tt))) $
    assigns ! (of_opd ! (get ! refl)) (through ! refl (stop !)) (init ! 0 refl (and_tt _ ((ptr_typed far).0), (record { fits = omega arith }, ((ptr_typed far).1, tt)))) $
    use1 𝓛 (‵ (fat full_share hole_type b left.0 (hole_val left.1 far))) (𝓛.laws.at_raw full_share named_hole b left.0 (hole_val left.1 far)) $
    assigns_last ! (of_opd ! (get ! refl)) (through ! refl (fld ! refl (stop !))) (store_in ! 3 (sub ! 1 refl (whole !)) (tt, tt)) $
    exec ! 𝓣.C 𝓣.Λ En (after 10 (inside (head (after 2 fn.body)))) (out_of_block 𝓛 (then_runs 𝓛 𝓣.C 𝓣.Λ En (after 3 fn.body) (at_ret En Post))) $
    sets ! (agg ! (and_then ! (get ! refl) (and_then ! (get ! refl) (no_more !)))) refl (tt, (tt, (record { fits = are.1.0.1 }, tt))) $
    sets ! (agg ! (and_then ! (get ! refl) (and_then ! (get ! refl) (no_more !)))) refl (tt, (tt, (tt, tt))) $
    sets ! (agg ! (and_then ! (get ! refl) (and_then ! (get ! refl) (no_more !)))) refl (tt, ((tt, (record { fits = are.1.0.1 }, tt)), ((tt, (tt, tt)), tt))) $
    hands_back ! 10 En Post (agg ! (and_then ! (lit ! tt) (and_then ! (get ! refl) (no_more !)))) ((refl, refl), (refl, refl)) refl (tt, (record { fits = lit< tt }, (((tt, (record { fits = are.1.0.1 }, tt)), ((tt, (tt, tt)), tt)), tt))) $ free_all ! refl $
    fjoin ! $ move ! (0 ∷ 4 ∷ []) $ fjoin ! $ move ! (2 ∷ 3 ∷ 0 ∷ 4 ∷ []) $ let w : Block.Denot = record { ptr = next; size = n; region = r; at = h.0; placed = (refl, ahead.3, omega arith, top, asked) } in
    let y : Cursor.Denot = record { first = start; hole = here; region = r; before = x.before; current = u; after = left ∷ hs; placed = (refl, refl, x.placed.2); sorted = replaced r x.before u h hs sorted n asked (omega arith) } in
    stands ! y (left ∷ hs) refl $ move ! (1 ∷ []) $ block_in ! w are.1.0.1 $ use2 𝓛 (‵ ((Tuple (Block ∷ Cursor ∷ [])).own_val (w, y) (pair_val (sized_val next n) (cursor_val start here) ∷ []))) (pair_of 𝓛 Block Cursor (w) (y) (sized_val next n) (cursor_val start here)) $ let v : Val = pair_val (sized_val next n) (cursor_val start here) in
    use1 𝓛 (‵ (Out.own_val (Ok (w, y)) (live 0 (vcons (v) vnil) ∷ []))) (ok_of 𝓛 (Tuple (Block ∷ Cursor ∷ [])) Cursor (w, y) (v)) $ use0 𝓛 (raw (fact 𝓤 ((r ≡ r) × (n ≡ n) × (r ≡ r) × (x.before ≡ x.before) × (u ≡ u) × Splits n x.after h.0 (left ∷ hs)))) (fact_i 𝓤 ((r ≡ r) × (n ≡ n) × (r ≡ r) × (x.before ≡ x.before) × (u ≡ u) × Splits n x.after h.0 (left ∷ hs)) (emp 𝓤) (refl, refl, refl, refl, refl, subst (λ (l : List Span). Splits n l h.0 (left ∷ hs)) (sym more) (enough, refl, sym (ap (λ (t : Bool). cond t hs ((h.0 + n, h.1 - n) ∷ hs)) (ne_eqb h.1 n other))))) $ nothing ! $ nothing ! $ fjoin ! $ nothing ! $ fjoin ! $ move ! (3 ∷ 0 ∷ 2 ∷ 1 ∷ []) $
    by ! (leaves 𝓛 ended (used_up ended) c z (live 0 (vcons (v) vnil)) (Ok (w, y)) (tt, (tt, tt)) (tt, (tt, tt)))))))))
