-- `new` wraps the heap. Assumes `Logic`.
use Rattle.std.proofs.Common.{◌≡◌, List, [], ◌∷◌, ◌++◌, refl, lit<, Some}
use mir.Syntax.{Fn}
use mir.Val.{Val, vcons, vnil}
use base.Logic.{emp}
use base.Fml.{ftrue}
use contract.Monad.{fact, fact_i}
use types.Kit.{‵, raw, ◌$◌, !, by, move, use0, use1, rewrite, fjoin, fpack}
use types.Part.{agg}
use types.Match.{live}
use types.Run.{lit, of_opd, no_more, and_then, returns}
use types.ByLocal.{alloc_all, pass_all, free_all, look_at, get, sets}
use denote.Exit.{rest, yes}
use denote.Param.{layout}
use denote.Steps.{nothing}
use Rattle.core.proofs.cell.Inside.{one, round}
use Rattle.core.proofs.option.Made.{Some-of}
use Rattle.std_alloc.proofs.ResultValues.{and_tt}
use Rattle.std.proofs.raw_atomic.Walks.{leaves}
use Rattle.lent_heap.specs.Region.{Region}
use Rattle.lent_heap.proofs.Cell.{Held, Fields, contents_in}
use denote.Laws.{Typed}
use Rattle.lent_heap.proofs.Walks.{used_up, walks, enters, alone}
use Rattle.lent_heap.specs.contracts.heap.Heap as heap
use Rattle.lent_heap.proofs.heap.Heap.TheLaws as heap_laws
use Rattle.lent_heap.specs.contracts.slot.Slot.new.{ended, clauses}
use Rattle.lent_heap.specs.contracts.slot.Slot.new.Key.{name as #self}
use Rattle.lent_heap.proofs.slot.Slot.new.Statement.{statement}
use Rattle.lent_heap.proofs.slot.Slot.new.Code as compiled

pub new_spec : {M : Type 1} → statement M
new_spec 𝓤 𝓛 𝓜 𝓡 wired =
    let c = clauses 𝓛 𝓜.mem 𝓡.returns in let fn : Fn = compiled.function in
    walks 𝓛 ended c 𝓜 𝓡 (λ κs x f. tt, tt) #self fn (compiled.unfolded 𝓤 𝓛.H 𝓜 𝓡 wired) (λ z are.
    let x = z.0.3.0 in let r : Region = x.holes.region in
    let got = one (layout heap.the_row) z.0.4.0 (((heap_laws.the_row_laws).lawful 𝓛).typed x z.0.4.0 are.0) in
    let w : Val = got.0 in let good = got.2 in let v : Val = live 1 (vcons w vnil) in
    alone ! $ rewrite ! 0 (λ (us : List Val). ‵ ((heap.the_row).own_val x us)) got.1 refl $ enters ! fn (λ i. got.1 i ++ []) $
    alloc_all ! (λ l. pass_all ! refl (good, tt) $
    sets ! (of_opd ! (get ! refl)) refl good $
    sets ! (agg ! (and_then ! (lit ! tt) (and_then ! (get ! refl) (no_more !)))) refl (and_tt _ ((good).0), (record { fits = lit< tt }, ((good).1, tt))) $
    sets ! (agg ! (and_then ! (get ! refl) (no_more !))) refl (and_tt _ (and_tt _ ((good).0)), ((record { fits = lit< tt }, ((good).1, tt)), tt)) $
    returns ! (look_at ! 0 refl) $ free_all ! refl $
    use1 𝓛 (‵ (Held.own_val (Some x) (v ∷ []))) (Some-of 𝓛 heap.the_row x w) $ contents_in r ! (Some x) v refl $ nothing ! $ fpack ! (Typed Fields.mir (round v ∷ [])) (λ _. ftrue) ((and_tt _ (and_tt _ ((good).0)), ((record { fits = lit< tt }, ((good).1, tt)), tt)), tt) $ fjoin ! $ use0 𝓛 (raw (fact 𝓤 (r ≡ r))) (fact_i 𝓤 (r ≡ r) (emp 𝓤) (refl)) $ nothing ! $ nothing ! $ fjoin ! $ move ! (3 ∷ 0 ∷ 2 ∷ 1 ∷ []) $
    by ! (leaves 𝓛 ended (used_up ended) c z (round v) r (rest ((heap.the_row).exit yes) x, tt) (tt, tt))))
