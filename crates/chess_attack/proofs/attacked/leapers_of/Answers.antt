use Rattle.std.proofs.Common.{◌≡◌, ℕ, ◌&&◌, ltb, ap, ◌∙◌}
use Rattle.std.specs.FinSet.{contains}
use Rattle.chess_types.specs.board.Board.{man_at}
use Rattle.chess_types.specs.board.Men.{opponent}
use Rattle.chess_types.specs.board.Attack.{leaps}
use Rattle.chess_attack.proofs.AttackSets.{leapers_are}
use Rattle.chess_attack.proofs.attacked.leapers_of.Goals as goal

pub returns : goal.returns
returns c =
    let back : (s : ℕ) → contains c.leap_squares-back.result s ≡ (ltb s 64 && leaps (opponent c.args.colour) c.args.kind c.args.at s) =
    λ s. c.leap_squares-back.ensures s ∙ ap (λ colour. ltb s 64 && leaps colour c.args.kind c.args.at s) c.opponent.ensures in
    rw c.intersection.ensures
    (leapers_are c.args.colour c.args.kind (man_at c.args.placement.now) c.args.at c.leap_squares-back.result c.of_kind.result back c.of_kind.ensures)
