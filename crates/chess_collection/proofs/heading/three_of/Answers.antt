use Rattle.std.proofs.Common.{◌∙◌, inl, sym, subst, Ok}
use Rattle.chess_items.specs.steps.Passing.{Passes}
use Rattle.chess_items.specs.declared.text.Whole.{Whole}
use Rattle.chess_collection.specs.declared.heading.Heads.{Heads}
use Rattle.chess_collection.specs.Headings.{three_among}
use Rattle.chess_collection.proofs.HeadingLemmas.{all, at_hand, comes, head_found, heads_take, reads, same_three}
use Rattle.chess_collection.proofs.heading.three_of.Goals as goal

-- the items of the head were looked at
pub returns-else-is_refused : goal.returns-else-is_refused
returns-else-is_refused c =
    let old : Whole = record { left = c.args.text } in
    let t : Heads = record { first = c.new.result; second = c.new-2.result; third = c.new-3.result } in
    let f =
    head_found old c.pass.new.text t c.pass.new.taker c.in-Ok-Some.stopped (subst (λ o. Passes comes at_hand all all reads heads_take 1048576 old c.pass.new.text t c.pass.new.taker (Ok o)) c.in-Ok-Some.field-0-is c.in-Ok-Some.ensures.passes)
    (sym c.is_refused.ensures ∙ c.if-is_refused.false) in
    inl (
      f.is,
      f.head,
      same_three c.of.result (three_among c.args.first.now c.args.second.now c.args.third.now f.is) (c.of.ensures.first ∙ f.first ∙ c.new.ensures f.is) (c.of.ensures.second ∙ f.second ∙ c.new-2.ensures f.is) (c.of.ensures.third ∙ f.third ∙ c.new-3.ensures f.is),
    )
