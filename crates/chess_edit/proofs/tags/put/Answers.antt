use Rattle.std.proofs.Common.{◌≡◌, Some, sym, subst, ◌∙◌}
use Rattle.chess_pgn.specs.steps.OtherCode.{Sets}
use Rattle.chess_pgn.specs.steps.GameCode.{tags_of}
use Rattle.chess_edit.proofs.SetLemmas.{set_event, set_site, set_date, set_round, set_white, set_black, set_other}
use Rattle.chess_edit.proofs.tags.put.Goals as goal

pub returns-then-is-clause-ok : goal.returns-then-is-clause-ok
returns-then-is-clause-ok g c =
    set_event c.args.name.now c.args.value.items (tags_of c.args.tags.now)
    (sym c.is.ensures ∙ c.if-is.true)

pub returns-then-is-2-clause-ok : goal.returns-then-is-2-clause-ok
returns-then-is-2-clause-ok g c =
    set_site c.args.name.now c.args.value.items (tags_of c.args.tags.now)
    (sym c.is.ensures ∙ c.if-is.false) (sym c.is-else-is.ensures ∙ c.if-is-2.true)

pub returns-then-is-3-clause-ok : goal.returns-then-is-3-clause-ok
returns-then-is-3-clause-ok g c =
    set_date c.args.name.now c.args.value.items (tags_of c.args.tags.now)
    (sym c.is.ensures ∙ c.if-is.false) (sym c.is-else-is.ensures ∙ c.if-is-2.false) (sym c.is-else-is-2.ensures ∙ c.if-is-3.true)

pub returns-then-is-4-clause-ok : goal.returns-then-is-4-clause-ok
returns-then-is-4-clause-ok g c =
    set_round c.args.name.now c.args.value.items (tags_of c.args.tags.now)
    (sym c.is.ensures ∙ c.if-is.false) (sym c.is-else-is.ensures ∙ c.if-is-2.false) (sym c.is-else-is-2.ensures ∙ c.if-is-3.false) (sym c.is-else-is-3.ensures ∙ c.if-is-4.true)

pub returns-then-is-5-clause-ok : goal.returns-then-is-5-clause-ok
returns-then-is-5-clause-ok g c =
    set_white c.args.name.now c.args.value.items (tags_of c.args.tags.now)
    (sym c.is.ensures ∙ c.if-is.false) (sym c.is-else-is.ensures ∙ c.if-is-2.false) (sym c.is-else-is-2.ensures ∙ c.if-is-3.false) (sym c.is-else-is-3.ensures ∙ c.if-is-4.false) (sym c.is-else-is-4.ensures ∙ c.if-is-5.true)

pub returns-then-is-6-clause-ok : goal.returns-then-is-6-clause-ok
returns-then-is-6-clause-ok g c =
    set_black c.args.name.now c.args.value.items (tags_of c.args.tags.now)
    (sym c.is.ensures ∙ c.if-is.false) (sym c.is-else-is.ensures ∙ c.if-is-2.false) (sym c.is-else-is-2.ensures ∙ c.if-is-3.false) (sym c.is-else-is-3.ensures ∙ c.if-is-4.false) (sym c.is-else-is-4.ensures ∙ c.if-is-5.false) (sym c.is-else-is-5.ensures ∙ c.if-is-6.true)

pub returns-in_ok-insert-clause-ok : goal.returns-in_ok-insert-clause-ok
returns-in_ok-insert-clause-ok g c =
    let name : c.in_ok-name.name.items ≡ c.args.name.now = c.in_ok-name.ensures in
    set_other c.args.name.now (Some c.args.value.items) (tags_of c.args.tags.now) c.insert.new.self
    (sym c.is.ensures ∙ c.if-is.false) (sym c.is-else-is.ensures ∙ c.if-is-2.false) (sym c.is-else-is-2.ensures ∙ c.if-is-3.false) (sym c.is-else-is-3.ensures ∙ c.if-is-4.false) (sym c.is-else-is-4.ensures ∙ c.if-is-5.false) (sym c.is-else-is-5.ensures ∙ c.if-is-6.false)
    (subst (λ n. Sets n (Some c.args.value.items) c.args.tags.now.others c.insert.new.self) name c.in_ok-insert.ensures.ok) c.in_ok-insert.ensures.ascend
