use Rattle.std.proofs.Common.{◌≡◌, true, sym, subst}
use Rattle.std.specs.List.{All}
use Rattle.chess_types.specs.board.Legal.{is_legal}
use Rattle.chess_types.specs.board.Lines.{last}
use Rattle.chess_moves.proofs.LegalLaws.{moves_legal}
use Rattle.chess_c.proofs.search.best_of_all.Goals as goal

pub best_within-requires : goal.best_within-requires
best_within-requires g c =
    let p = last c.args.line.now.line in
    record { asked = record { root = c.requires.root; legal = subst (All (λ m. is_legal p m ≡ true)) (sym c.requires.all) (moves_legal p) } }
