use Rattle.std.proofs.Common.{◌∙◌, rules}
use Rattle.chess_bindings.proofs.HeadingLemmas.{name_of_others}
use Rattle.chess_bindings.proofs.heading.Heading.name_at.Goals as goal

pub returns-in_default : goal.returns-in_default
returns-in_default g c = c.other_at.ensures ∙ name_of_others c.args.self.now.tags c.args.place (search rules)
