use Rattle.std.proofs.Common.{ℕ, ◌∙◌, rules}
use Rattle.chess_types.specs.board.Attack.{attacks_for}
use Rattle.chess_types.specs.board.Position.{man_on}
use Rattle.chess_c.proofs.WordLemmas.{word_is}
use Rattle.chess_c.proofs.asked.attacking.Goals as goal

pub returns : goal.returns
returns c =
    let at = man_on c.args.live.now.position in
    word_is c.word_of.result (search rules) (λ (a : ℕ). attacks_for (at a) c.args.colour at a c.args.square) (λ a on_board. c.word_of.ensures a on_board ∙ c.attackers_in.ensures a on_board)
