use Rattle.chess_types.proofs.board.faults.men.Goals as goal

pub returns-in-White : goal.returns-in-White
returns-in-White c = λ man_on are. rw c.in-White.is are.white

pub returns-in-Black : goal.returns-in-Black
returns-in-Black c = λ man_on are. rw c.in-Black.is are.black
