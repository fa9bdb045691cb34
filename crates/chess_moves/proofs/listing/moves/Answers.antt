use Rattle.std.proofs.Common.{ℕ, ◌≢◌, ◌<◌, List, length, get_or, sym, subst}
use Rattle.std.specs.List.{Contains}
use Rattle.chess_types.specs.board.MoveParts.{MoveParts}
use Rattle.chess_moves.proofs.LegalLaws.{listed_legal, legal_listed}
use Rattle.chess_moves.proofs.Order.{moves_apart}
use Rattle.chess_moves.proofs.listing.moves.Goals as goal

pub returns-clause-once : goal.returns-clause-once
returns-clause-once g c =
    subst (λ (ms : List MoveParts). (i j : ℕ) (m : MoveParts) → i < j → j < length ms → get_or ms i m ≢ get_or ms j m)
    (sym c.moves_into.ensures.listed) (moves_apart c.args.live.now.position)

pub returns-clause-sound : goal.returns-clause-sound
returns-clause-sound g c = λ m listed.
    (listed_legal c.args.live.now.position m (subst (λ (ms : List MoveParts). Contains ms m) c.moves_into.ensures.listed listed)).1

pub returns-clause-complete : goal.returns-clause-complete
returns-clause-complete g c = λ m from to legal.
    subst (λ (ms : List MoveParts). Contains ms m) (sym c.moves_into.ensures.listed)
    (legal_listed c.args.live.now.position m (record { from = from; to = to }) legal)
