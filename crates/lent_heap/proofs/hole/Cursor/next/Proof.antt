-- `next` follows the link, and adds the node to those behind. Assumes `Logic`.
use Rattle.std.proofs.Common.{◌≡◌, [], ◌∷◌, ◌++◌, refl, lit<, Ok, Err}
use mir.Syntax.{Fn}
use mir.Val.{Val, vcons, vnil}
use base.Logic.{SProp, emp}
use prog.Wp.{Env}
use contract.Monad.{fact, fact_i}
use types.Kit.{‵, raw, ◌$◌, !, by, move, use0, use1, fjoin}
use types.Part.{whole, sub, agg}
use types.Match.{live}
use types.Run.{stop, fld, lit, of_opd, no_more, and_then, first, blocks}
use types.ByLocal.{alloc_all, pass_all, free_all, get, get_in, sets, env}
use denote.RattleType.{RattleType}
use denote.RawPtr.{block_ptr}
use denote.Signature.{type_at}
use denote.Steps.{nothing}
use denote.Triple.Walked.{walk_of}
use Rattle.std_alloc.proofs.ResultValues.{ok_of, err_of}
use Rattle.std.proofs.raw_atomic.Walks.{leaves}
use Rattle.lent_heap.proofs.Walks.{used_up, walks, enters, alone}
use Rattle.lent_heap.proofs.Stretches.{looks_on, hands_out}
use Rattle.lent_heap.proofs.Values.{cursor_val}
use Rattle.lent_heap.proofs.Cursors.{Cursor, start_of, here_of, cursor_is, moved, cursor_out, stands, moves_on}
use Rattle.lent_heap.specs.Region.{Region}
use Rattle.lent_heap.specs.Holes.{Span, Advances}
use Rattle.lent_heap.specs.contracts.hole.Cursor.next.{ended, clauses}
use Rattle.lent_heap.specs.contracts.hole.Cursor.next.Key.{name as #self}
use Rattle.lent_heap.proofs.hole.Cursor.next.Statement.{statement}
use Rattle.lent_heap.proofs.hole.Cursor.next.Code as compiled

pub next_spec : {M : Type 1} → statement M
next_spec 𝓤 𝓛 𝓜 𝓡 wired =
    let c = clauses 𝓛 𝓜.mem 𝓡.returns in let fn : Fn = compiled.function in
    walks 𝓛 ended c 𝓜 𝓡 (λ κs x f. tt, tt) #self fn (compiled.unfolded 𝓤 𝓛.H 𝓜 𝓡 wired) (λ z are.
    let Post : Val → SProp 𝓤 = (walk_of 𝓛 ended (used_up ended) c).post z in let Out : RattleType = type_at ended.signature.result z.0.0 in
    let x = z.0.3.0 in let r : Region = x.region in let b = r.block in let u : Span = x.current in
    let v : Val = cursor_val (start_of x) (here_of x) in
    alone ! $ cursor_out ! x z.0.4.0 $ enters ! fn (λ i. cursor_is x z.0.4.0 are.0.0 i ++ []) $
    alloc_all ! (λ l. pass_all ! refl ((tt, (tt, (tt, tt))), tt) $ let En : Env 𝓤 𝓛.H = env fn.locals l in
    sets ! (of_opd ! (get_in ! (fld ! refl (stop !)) (sub ! 0 refl (whole !)))) refl (tt, tt) $ sets ! (of_opd ! (get_in ! (fld ! refl (stop !)) (sub ! 1 refl (whole !)))) refl (tt, tt) $
    first ! $ blocks ! $ looks_on ! x 3 4 6 En (refl, (refl, refl), (refl, refl)) (refl, refl)
    (λ none. sets ! (agg ! (and_then ! (get ! refl) (and_then ! (get ! refl) (no_more !)))) refl (tt, (tt, (tt, tt))) $
    hands_out ! 7 5 En Post (agg ! (and_then ! (lit ! tt) (and_then ! (get ! refl) (no_more !)))) ((refl, refl), ((refl, refl), (refl, refl))) (refl, refl) (tt, (record { fits = lit< tt }, ((tt, (tt, tt)), tt))) $ free_all ! refl $
    stands ! x [] none $ use1 𝓛 (‵ (Out.own_val (Err x) (live 1 (vcons v vnil) ∷ []))) (err_of 𝓛 Cursor Cursor x v) $
    use0 𝓛 (raw (fact 𝓤 ((x ≡ x) × (x.after ≡ [])))) (fact_i 𝓤 ((x ≡ x) × (x.after ≡ [])) (emp 𝓤) (refl, none)) $ nothing ! $ nothing ! $ fjoin ! $ move ! (3 ∷ 0 ∷ 2 ∷ 1 ∷ []) $
    by ! (leaves 𝓛 ended (used_up ended) c z (live 1 (vcons v vnil)) (Err x) (tt, tt) (tt, tt)))
    (λ h hs more. let w : Val = cursor_val (start_of x) (block_ptr b h.0) in let y : Cursor.Denot = moved x h hs more in
    sets ! (agg ! (and_then ! (get ! refl) (and_then ! (get ! refl) (no_more !)))) refl (tt, (tt, (tt, tt))) $
    hands_out ! 7 5 En Post (agg ! (and_then ! (lit ! tt) (and_then ! (get ! refl) (no_more !)))) ((refl, refl), ((refl, refl), (refl, refl))) (refl, refl) (tt, (record { fits = lit< tt }, ((tt, (tt, tt)), tt))) $ free_all ! refl $
    moves_on ! x h hs more $ use1 𝓛 (‵ (Out.own_val (Ok y) (live 0 (vcons w vnil) ∷ []))) (ok_of 𝓛 Cursor Cursor y w) $
    use0 𝓛 (raw (fact 𝓤 ((r ≡ r) × Advances x.before u x.after (x.before ++ u ∷ []) h hs))) (fact_i 𝓤 ((r ≡ r) × Advances x.before u x.after (x.before ++ u ∷ []) h hs) (emp 𝓤) (refl, (refl, more))) $ nothing ! $ nothing ! $ fjoin ! $ move ! (3 ∷ 0 ∷ 2 ∷ 1 ∷ []) $
    by ! (leaves 𝓛 ended (used_up ended) c z (live 0 (vcons w vnil)) (Ok y) (tt, tt) (tt, tt)))))
