use Rattle.std.proofs.Common.{◌≡◌, ℕ, List, [], ◌∷◌, ◌++◌, length, set, sym, subst, ◌∙◌, arith}
use Rattle.std.proofs.lemmas.Bool.Decides.{nat_tests}
use Rattle.chess_tree.specs.steps.Grove.{Empty}
use Rattle.chess_tree.specs.steps.Laid.{Laid}
use Rattle.chess_tree.specs.steps.Entries.{Entry, leaf_entry}
use Rattle.chess_tree.specs.steps.Freed.{Put}
use Rattle.chess_tree.proofs.FreedLemmas.{put_grown, put_taken}
use Rattle.chess_tree.proofs.arena.free.put.Goals as goal

pub returns-then-eq-clause-ok : goal.returns-then-eq-clause-ok
returns-then-eq-clause-ok g c = λ game freed laid.
    let s = leaf_entry c.args.played c.args.parent c.args.place in
    let test = c.eq.ensures in
    let root = c.root.ensures in
    let none : c.args.free.now ≡ 0 = grind (arith, nat_tests) in
    let new : c.push.new.self ≡ c.args.nodes.now ++ s ∷ [] = c.in_ok-push.ensures.ok in
    let number : c.new-number.result ≡ length c.args.nodes.now = c.new-number.ensures ∙ c.len.ensures.length in
    subst (λ (x : ℕ). Put s c.push.new.self x c.new-number.result game) (sym none)
    (subst (λ (x : ℕ). Put s c.push.new.self 0 x game) (sym number)
    (subst (λ (x : List Entry). Put s x 0 (length c.args.nodes.now) game) (sym new)
    (put_grown c.args.nodes.now s game freed (subst (λ (x : ℕ). Laid c.args.nodes.now x game freed Empty) none laid))))

pub returns-clause-ok : goal.returns-clause-ok
returns-clause-ok g c = λ game freed laid.
    let s = leaf_entry c.args.played c.args.parent c.args.place in
    subst (λ (x : List Entry). Put s x c.parent.result c.loosen-number.result game) (sym c.write.ensures)
    (subst (λ (x : ℕ). Put s (set c.loosen-number.new.nodes c.loosen-number.result s) x c.loosen-number.result game) (sym c.parent.ensures)
    (put_taken c.loosen-number.new.nodes c.loosen-number.result s game (c.loosen-number.ensures.nodes game freed laid)))
