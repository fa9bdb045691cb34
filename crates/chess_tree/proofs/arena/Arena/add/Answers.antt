use Rattle.std.proofs.Common.{ℕ, List, length, [], ◌∷◌, ◌++◌, sym, subst, ap, ◌∙◌, arith}
use Rattle.std.specs.Prelude.{vec_capacity}
use Rattle.chess_tree.specs.steps.Entries.{Entry, with_parent}
use Rattle.chess_tree.specs.steps.Laid.{IsArena, seen}
use Rattle.chess_tree.specs.steps.Notes.{noted_in}
use Rattle.chess_tree.proofs.ArenaCalls.{here_few, here_range, put_back, put_now, put_room, put_there}
use Rattle.chess_tree.proofs.arena.Arena.add.Goals as goal

pub child_count-place-requires-clause-there : goal.child_count-place-requires-clause-there
child_count-place-requires-clause-there g c = here_range _ _ _ _ _ _ _ c.self.invariant c.self.view_is

pub child_count-place-requires-clause-few : goal.child_count-place-requires-clause-few
child_count-place-requires-clause-few g c = here_few _ _ _ _ _ _ _ c.self.invariant c.self.view_is

pub put-requires-clause-room : goal.put-requires-clause-room
put-requires-clause-room g c = put_room _ _ _ _ _ _ _ c.self.invariant c.self.view_is c.requires

pub push_child-requires : goal.push_child-requires
push_child-requires g c = (put_there _ _ _ _ _ _ _ c.self.invariant c.self.view_is c.put.new.nodes c.put.new.free c.in_ok-number.number c.args.played c.child_count-place.result c.in_ok-number.ensures.ok).0

pub let_go-requires : goal.let_go-requires
let_go-requires g c =
    omega (arith, (put_there _ _ _ _ _ _ _ c.self.invariant c.self.view_is c.put.new.nodes c.put.new.free c.in_ok-number.number c.args.played c.child_count-place.result c.in_ok-number.ensures.ok).1, ap (λ (x : List Entry). length x) c.in-Err.ensures.err)

pub invariant_of-self-in-Err : goal.invariant_of-self-in-Err
invariant_of-self-in-Err g c =
    let nodes = c.let_go.ensures.nodes ∙ ap (with_parent c.in_ok-number.number c.put.new.free) c.in-Err.ensures.err in
    let left = with_parent c.in_ok-number.number c.put.new.free c.put.new.nodes in
    let on = put_back _ _ _ _ _ _ _ c.self.invariant c.self.view_is c.put.new.nodes c.args.played c.child_count-place.result c.put.new.free c.in_ok-number.number (vec_capacity c.make_room.new.items) c.put.ensures.few c.in_ok-number.ensures.ok c.make_room.ensures.kept in
    subst (λ (x : List Entry). IsArena x (noted_in c.self.inside.notes.items) c.let_go.new.free c.self.inside.here c.make_room.new.items.items (vec_capacity c.make_room.new.items)) (sym nodes)
    (subst (λ (x : ℕ). IsArena left (noted_in c.self.inside.notes.items) x c.self.inside.here c.make_room.new.items.items (vec_capacity c.make_room.new.items)) (sym c.let_go.ensures.free)
    (subst (λ (x : List ℕ). IsArena left (noted_in c.self.inside.notes.items) c.in_ok-number.number c.self.inside.here x (vec_capacity c.make_room.new.items)) (sym c.make_room.ensures.items) on.0))

pub returns-in-Err-clause-err : goal.returns-in-Err-clause-err
returns-in-Err-clause-err g c =
    let nodes = c.let_go.ensures.nodes ∙ ap (with_parent c.in_ok-number.number c.put.new.free) c.in-Err.ensures.err in
    let on = put_back _ _ _ _ _ _ _ c.self.invariant c.self.view_is c.put.new.nodes c.args.played c.child_count-place.result c.put.new.free c.in_ok-number.number (vec_capacity c.make_room.new.items) c.put.ensures.few c.in_ok-number.ensures.ok c.make_room.ensures.kept in
    ap (λ (x : List Entry). seen x (noted_in c.self.inside.notes.items) c.self.inside.here) nodes ∙ on.1

pub invariant_of-self-2 : goal.invariant_of-self-2
invariant_of-self-2 g c =
    let on = put_now _ _ _ _ _ _ _ c.self.invariant c.self.view_is c.put.new.nodes _ c.args.played c.child_count-place.result c.put.new.free c.in_ok-number.number _ (vec_capacity c.push.new.self) c.put.ensures.few c.child_count-place.ensures c.in_ok-number.ensures.ok c.forget.ensures
    (c.in-Ok.ensures.items ∙ ap (λ (t : List ℕ). t ++ c.in_ok-number.number ∷ []) c.make_room.ensures.items)
    (omega (arith, c.make_room.ensures.kept, c.in-Ok.ensures.capacity)) (omega (arith, c.in_ok-make_room.ensures.ok, ap (λ (t : List ℕ). length t) c.make_room.ensures.items, c.in-Ok.ensures.capacity, c.self.inside.trail.ok.0)) in
    subst (λ (x : List Entry). IsArena x (noted_in c.forget.new.notes.items) c.put.new.free c.in_ok-number.number c.push.new.self.items (vec_capacity c.push.new.self)) (sym c.in_default.ensures.ok) on.0

pub returns-clause-ok : goal.returns-clause-ok
returns-clause-ok g c =
    let on = put_now _ _ _ _ _ _ _ c.self.invariant c.self.view_is c.put.new.nodes _ c.args.played c.child_count-place.result c.put.new.free c.in_ok-number.number _ (vec_capacity c.push.new.self) c.put.ensures.few c.child_count-place.ensures c.in_ok-number.ensures.ok c.forget.ensures
    (c.in-Ok.ensures.items ∙ ap (λ (t : List ℕ). t ++ c.in_ok-number.number ∷ []) c.make_room.ensures.items)
    (omega (arith, c.make_room.ensures.kept, c.in-Ok.ensures.capacity)) (omega (arith, c.in_ok-make_room.ensures.ok, ap (λ (t : List ℕ). length t) c.make_room.ensures.items, c.in-Ok.ensures.capacity, c.self.inside.trail.ok.0)) in
    ap (λ (x : List Entry). seen x (noted_in c.forget.new.notes.items) c.in_ok-number.number) c.in_default.ensures.ok ∙ on.1
