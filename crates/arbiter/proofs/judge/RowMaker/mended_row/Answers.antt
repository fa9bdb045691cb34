use Rattle.std.proofs.Common.{◌≡◌, ◌∙◌, IfOk, List, ℕ, sym, subst}
use Rattle.chess_pgn.specs.steps.GameCode.{game_of}
use Rattle.chess_tree.proofs.SoundLemmas.{legal_along}
use Rattle.chess_tree.specs.GameTree.{main_line}
use Rattle.arbiter.proofs.RowLemmas.{mended_says}
use Rattle.arbiter.proofs.judge.RowMaker.mended_row.Goals as goal

pub returns : goal.returns
returns c =
    let tree = c.args.game.now.tree.tree in
    let legal = legal_along tree.start (main_line tree.below) tree.below c.position-start.ensures.game.moves in
    subst (λ (t : List ℕ). IfOk c.game_row.result (λ row. row.items ≡ t))
    (sym (mended_says c.in_ok-report.report (game_of c.args.game.now) c.in_ok-report.ensures legal c.args.self.now.asked c.args.place.number c.args.place.offset c.args.heading.now c.args.fault c.position-start.result.now c.as_str-first.result.now c.position-start.ensures.start (c.as_str-first.ensures.value ∙ c.write-fen.ensures.bytes)))
    c.game_row.ensures
