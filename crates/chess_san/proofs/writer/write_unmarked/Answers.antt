use Rattle.std.proofs.Common.{◌≡◌, None, sym, ap, ◌∙◌}
use Rattle.chess_types.specs.board.Position.{PositionParts, man_on}
use Rattle.chess_san.proofs.WriteLemmas.{man_there}
use Rattle.chess_san.proofs.writer.write_unmarked.Goals as goal

pub unreachable-requires : goal.unreachable-requires
unreachable-requires g c =
    let none : man_on c.args.live.now.position c.args.m.from ≡ None =
    ap (λ (p : PositionParts). man_on p c.args.m.from) (sym c.position.ensures.value) ∙ sym c.man_of.ensures ∙ c.in-None.is in
    man_there c.args.live.now.position c.args.m c.requires.legal none
