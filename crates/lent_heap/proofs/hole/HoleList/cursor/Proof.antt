-- `cursor` stands at the dummy. Assumes `Logic`.
use Rattle.std.proofs.Common.{◌≡◌, [], ◌∷◌, ◌++◌, refl, ap, ◌∙◌, arith}
use mir.Syntax.{Fn}
use base.Logic.{emp}
use contract.Monad.{fact, fact_i}
use types.Kit.{raw, ◌$◌, !, by, move, drop, use0, fsplit, fjoin}
use types.Part.{whole, sub, agg}
use types.Run.{stop, fld, of_opd, no_more, and_then, returns}
use types.ByLocal.{alloc_all, pass_all, free_all, look_at, get, get_in, sets}
use denote.RawPtr.{Ptr, block_ptr}
use denote.Steps.{nothing}
use Rattle.std.proofs.raw_atomic.Walks.{leaves}
use Rattle.lent_heap.proofs.Values.{list_val, list_told, cursor_val}
use Rattle.lent_heap.specs.Region.{Region}
use borrow.Author.Tests.{le-leb}
use Rattle.lent_heap.proofs.Walks.{used_up, walks, enters, alone}
use Rattle.lent_heap.proofs.Cursors.{Cursor, cursor_in}
use Rattle.lent_heap.specs.contracts.hole.HoleList.cursor.{ended, clauses}
use Rattle.lent_heap.specs.contracts.hole.HoleList.cursor.Key.{name as #self}
use Rattle.lent_heap.proofs.hole.HoleList.cursor.Statement.{statement}
use Rattle.lent_heap.proofs.hole.HoleList.cursor.Code as compiled

pub cursor_spec : {M : Type 1} → statement M
cursor_spec 𝓤 𝓛 𝓜 𝓡 wired =
    let c = clauses 𝓛 𝓜.mem 𝓡.returns in let fn : Fn = compiled.function in
    walks 𝓛 ended c 𝓜 𝓡 (λ κs x f. tt, tt) #self fn (compiled.unfolded 𝓤 𝓛.H 𝓜 𝓡 wired) (λ z are.
    let x = z.0.3.0 in let r : Region = x.region in let start : Ptr = block_ptr r.block r.start in
    let told : z.0.4.0 ≡ list_val start ∷ [] = (list_told x.first z.0.4.0 are.0.0).0 ∙ ap (λ (p : Ptr). list_val p ∷ []) x.placed.0 in
    alone ! $ fsplit ! $ drop ! $ enters ! fn (λ i. told i ++ []) $
    alloc_all ! (λ l. pass_all ! refl ((tt, (tt, tt)), tt) $
    sets ! (of_opd ! (get_in ! (fld ! refl (stop !)) (sub ! 0 refl (whole !)))) refl (tt, tt) $
    sets ! (agg ! (and_then ! (get ! refl) (and_then ! (get ! refl) (no_more !)))) refl (tt, (tt, (tt, tt))) $
    returns ! (look_at ! 0 refl) $ free_all ! refl $
    let y : Cursor.Denot = record { first = start; hole = start; region = r; before = []; current = (r.start, 0); after = x.holes; placed = (refl, refl, x.placed.1); sorted = (le-leb r.start r.start (omega arith), x.sorted, refl) } in
    nothing ! $ fjoin ! $ cursor_in ! y $ use0 𝓛 (raw (fact 𝓤 ((r ≡ r) × (y.before ≡ []) × ((r.start, 0) ≡ (r.start, 0)) × (x.holes ≡ x.holes)))) (fact_i 𝓤 ((r ≡ r) × (y.before ≡ []) × ((r.start, 0) ≡ (r.start, 0)) × (x.holes ≡ x.holes)) (emp 𝓤) (refl, refl, refl, refl)) $ nothing ! $ nothing ! $ fjoin ! $ move ! (3 ∷ 0 ∷ 2 ∷ 1 ∷ []) $
    by ! (leaves 𝓛 ended (used_up ended) c z (cursor_val start start) (y) (tt, tt) (tt, tt))))
