use Rattle.std.proofs.Common.{Option, ℕ, length, ap, not, subst, ◌∙◌}
use Rattle.chess_tree.specs.GameTree.{TreeParts, line_to}
use Rattle.chess_pgn.specs.steps.Following.{Follows}
use Rattle.chess_pgn.proofs.KnownLemmas.{some_if, stepped}
use Rattle.chess_pgn.proofs.reader.late.step_known.Goals as goal

pub returns-clause-follows : goal.returns-clause-follows
returns-clause-follows g c =
    let ks = c.args.texts.now in
    let old = c.args.analysis.now in
    let here = subst (λ (x : Option ℕ). Follows x ks old) c.in-Some.is c.requires.follows in
    let found = c.is_none.ensures ∙ ap not c.if-is_none.false in
    let depth = c.depth-depth.ensures.line ∙ ap (λ (t : TreeParts). length (line_to t).moves) c.tree.ensures.tree in (
      stepped c.in-Some.before c.args.known ks old c.step.new.self c.depth-depth.result c.played.result c.in-Some-played.played c.in_default.ensures.line here.0 depth c.played.ensures.value c.in-Some-played.is
          (some_if c.find.result found c.find.ensures.line),
      some_if c.find.result found c.find.ensures.within,
    )
