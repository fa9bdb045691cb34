use Rattle.std.proofs.Common.{ap, ◌∙◌}
use Rattle.chess_types.specs.board.Board.{man_at}
use Rattle.chess_polyglot.specs.Keys.{polyglot_key, men_key, rights_key, target_key, side_key}
use Rattle.chess_polyglot.proofs.Xors.{four}
use Rattle.chess_polyglot.proofs.keys.key.Goals as goal

pub returns : goal.returns
unfolding polyglot_key
returns c =
    let p = c.setup.inside in
    rw (c.men_key-men.ensures, c.rights_key.ensures, c.target_key-target.ensures, c.side_key.ensures)
    (four (men_key (man_at p.placement)) (rights_key p.rights) (target_key (man_at p.placement) p.side p.target) (side_key p.side))
    ∙ ap polyglot_key c.setup.view_is
