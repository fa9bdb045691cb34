use Rattle.std.proofs.Common.{◌≡◌, ◌∙◌, IfOk, ap, subst, sym}
use Rattle.chess_pgn.specs.Written.{game_text}
use Rattle.chess_bindings.specs.Headings.{HeadingParts}
use Rattle.chess_bindings.specs.steps.HeadingCode.{tags_or_unknown}
use Rattle.chess_bindings.proofs.heading.Heading.write.Goals as goal

pub returns-in-Some : goal.returns-in-Some
returns-in-Some g c =
    let same = ap (λ tags. record { tags = tags_or_unknown tags; outcome = c.self.inside.outcome }) (sym c.in-Some.is) ∙ c.self.view_is in
    subst (λ (h : HeadingParts). IfOk c.write_as.result (λ text. text.items ≡ game_text (record { tags = h.tags; outcome = h.outcome; tree = c.args.tree.now.tree }))) same c.write_as.ensures.ok
