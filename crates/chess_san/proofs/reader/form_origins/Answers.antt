use Rattle.std.proofs.Common.{subst, sym}
use Rattle.chess_types.specs.board.Position.{PositionParts}
use Rattle.chess_san.specs.declared.form.Form.{Form}
use Rattle.chess_san.specs.steps.Origins.{ComesBy}
use Rattle.chess_san.proofs.OriginLemmas.{castles_comes, piece_comes_by}
use Rattle.chess_san.proofs.reader.form_origins.Goals as goal

pub returns-in-Castles : goal.returns-in-Castles
returns-in-Castles c =
    let p : PositionParts = record { placement = c.setup.inside.placement; side = c.setup.inside.side; rights = c.setup.inside.rights; target = c.setup.inside.target; clock = c.setup.inside.clock; number = c.setup.inside.number } in
    subst (λ (q : PositionParts). ComesBy c.king.result q c.args.form.now) c.setup.view_is
    (subst (λ (f : Form). ComesBy c.king.result p f) (sym c.in-Castles.is) (castles_comes p c.in-Castles.field-0 c.king.result c.king.ensures))

pub returns-in-Piece : goal.returns-in-Piece
returns-in-Piece c =
    subst (λ (f : Form). ComesBy c.origins.result c.args.setup.now f) (sym c.in-Piece.is)
    (piece_comes_by c.args.setup.now c.in-Piece.kind c.in-Piece.course c.origins.result c.origins.ensures)
