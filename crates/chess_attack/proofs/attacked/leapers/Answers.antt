use Rattle.chess_types.specs.board.Board.{man_at}
use Rattle.chess_attack.proofs.AttackSets.{leapers_all}
use Rattle.chess_attack.proofs.attacked.leapers.Goals as goal

pub returns : goal.returns
returns c =
    rw (c.union-2.ensures, c.union.ensures)
    (leapers_all (man_at c.args.placement.now) c.args.colour c.args.at c.leapers_of-pawns.result c.leapers_of-knights.result c.leapers_of-kings.result
    c.leapers_of-pawns.ensures c.leapers_of-knights.ensures c.leapers_of-kings.ensures)
