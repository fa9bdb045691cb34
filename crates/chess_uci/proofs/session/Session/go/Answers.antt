use Rattle.std.proofs.Common.{◌≡◌, ◌<◌, ◌⊎◌, inl, inr, true, length, arith}
use Rattle.std.proofs.lemmas.Bool.Decides.{nat_tests}
use Rattle.chess_types.specs.board.Texts.{move_text}
use Rattle.byte_streams.specs.Words.{words}
use Rattle.chess_uci.specs.Commands.{gaps}
use Rattle.chess_uci.specs.Go.{is_listed}
use Rattle.chess_uci.proofs.GoingLemmas.{going_starts}
use Rattle.chess_uci.proofs.session.Session.go.Goals as goal
use Rattle.chess_uci.proofs.session.Session.go.Goals.{else-is_empty-via-then-is_empty+else-not-fields, else-is_empty-via-else-is_empty}

pub invariant_of-self-2 : goal.invariant_of-self-2
invariant_of-self-2 g c =
    let moves = c.moves-moves.result.items in
    let some : (0 < length moves) ⊎ (c.read_fields-fields.result.infinite ≡ true) =
    elim c.else-is_empty.branch [
      | else-is_empty-via-then-is_empty+else-not-fields w ↦ inr (grind (arith, nat_tests, w.if-not-fields.false))
      | else-is_empty-via-else-is_empty w ↦ inl (grind (arith, nat_tests))
    ] in (
      going_starts c.self.inside.line.line c.moves-moves.new.self.line c.self.inside.claims (λ m. is_listed (move_text m) (words gaps c.after_searchmoves.result.now)) moves _
          c.moves-moves.ensures.listed c.moves-moves.ensures.as_before.line
          (rw c.roots_among.ensures at c.start.ensures) c.last_depth.ensures.deep c.last_depth.ensures.shallow some,
      omega arith,
      omega (arith, c.moves-moves.ensures.as_before.looked, c.self.invariant.2),
    )
