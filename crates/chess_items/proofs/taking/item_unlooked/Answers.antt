use Rattle.std.proofs.Common.{sym, subst}
use Rattle.chess_items.specs.steps.Unended.{BeginsComment}
use Rattle.chess_items.specs.declared.cut.Comment.{Comment}
use Rattle.chess_items.proofs.UnendedLemmas.{braces_none}
use Rattle.chess_items.proofs.taking.item_unlooked.Goals as goal

pub returns-then-looked-bytes : goal.returns-then-looked-bytes
returns-then-looked-bytes c =
    sym (braces_none c.args.place c.args.bytes.now c.args.looked (subst (λ (k : Comment). BeginsComment k c.args.place c.args.bytes.now) c.in-Some-Braces.field-0-is c.in-Some-Braces.ensures) c.requires.looked c.if-looked-bytes.true)
