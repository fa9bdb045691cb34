use Rattle.std.proofs.Common.{◌≡◌, ℕ, ◌<◌, ◌∙◌, ap, subst, sym}
use Rattle.std.specs.FinSet.{contains}
use Rattle.chess_types.specs.board.Men.{opponent}
use Rattle.chess_types.specs.board.Attack.{leaps}
use Rattle.chess_types.specs.declared.board.man.Kind.TheVariants.{Pawn}
use Rattle.chess_types.specs.board.Position.{PositionParts}
use Rattle.chess_san.specs.steps.Origins.{Comes}
use Rattle.chess_san.proofs.OriginLemmas.{pawn_comes, within}
use Rattle.chess_san.proofs.origins.pawn_origins.Goals as goal

pub returns : goal.returns
returns c =
    let p : PositionParts = record { placement = c.setup.inside.placement; side = c.setup.inside.side; rights = c.setup.inside.rights; target = c.setup.inside.target; clock = c.setup.inside.clock; number = c.setup.inside.number } in
    let leap : (s : ℕ) → s < 64 → contains c.leap_squares-aside.result s ≡ leaps (opponent c.setup.inside.side) Pawn c.args.to s =
    λ s hs. c.leap_squares-aside.ensures s ∙ within s (leaps c.opponent.result Pawn c.args.to s) hs ∙ ap (λ o. leaps o Pawn c.args.to s) c.opponent.ensures in
    subst (λ (q : PositionParts). Comes c.intersection.result q Pawn c.args.to) c.setup.view_is
    (subst (λ x. Comes x p Pawn c.args.to) (sym c.intersection.ensures)
    (pawn_comes p c.args.to c.leap_squares-aside.result c.with_behind-one.result c.with_behind-two.result c.of.result leap c.with_behind-one.ensures c.with_behind-two.ensures c.of.ensures))
