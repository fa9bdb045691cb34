use Rattle.std.proofs.Common.{◌≡◌, Some, None, OnOk, refl, ap, subst, ◌∙◌}
use Rattle.chess_pgn.specs.Games.{tag_value, unknown}
use Rattle.chess_pgn.specs.steps.GameCode.{tags_of}
use Rattle.chess_edit.specs.SetTags.{IsSet}
use Rattle.chess_edit.proofs.SetLemmas.{cleared_other}
use Rattle.chess_edit.proofs.tags.clear_tag.Goals as goal

pub returns-clause-ok : goal.returns-clause-ok
returns-clause-ok g c =
    let told : Some c.in-Some.value.now ≡ tag_value c.args.name.now unknown = rw c.in-Some.is at c.unknown_value.ensures in
    let is : Some c.in_ok-value.value.items ≡ tag_value c.args.name.now unknown = ap (λ v. Some v) c.in_ok-value.ensures ∙ told in
    subst (λ v. OnOk c.put.result (IsSet c.args.name.now v (tags_of c.args.tags.now) (tags_of c.put.new.tags))) is c.put.ensures.ok

pub returns-in_default-clause-ok : goal.returns-in_default-clause-ok
returns-in_default-clause-ok g c =
    let told : None ≡ tag_value c.args.name.now unknown = rw c.in_default.is at c.unknown_value.ensures in
    cleared_other c.args.name.now None (tags_of c.args.tags.now) c.remove-gone.new.self refl told c.remove-gone.ensures.removed c.remove-gone.ensures.ascend
