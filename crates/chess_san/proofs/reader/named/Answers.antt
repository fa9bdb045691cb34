use Rattle.std.proofs.Common.{◌≡◌, true, sym, ap, ◌∙◌}
use Rattle.chess_types.specs.board.Position.{PositionParts}
use Rattle.chess_types.specs.board.Pseudo.{reached}
use Rattle.chess_san.specs.declared.form.Form.{Form}
use Rattle.chess_san.specs.declared.form.Form.TheVariants.{Castles, Piece, Plain}
use Rattle.chess_san.specs.Naming.{names}
use Rattle.chess_san.proofs.GoesLemmas.{castles_goes, piece_goes, plain_goes}
use Rattle.chess_san.proofs.reader.named.Goals as goal

pub only_named-requires-clause-goes : goal.only_named-requires-clause-goes
only_named-requires-clause-goes g c = λ m h legal.
    let named : names c.args.live.now.position (Castles c.in-Castles.wing) m ≡ true =
    ap (λ (f : Form). names c.args.live.now.position f m) (sym c.in-Castles.is) ∙ h in
    let g = castles_goes c.args.live.now.position c.in-Castles.wing m named legal in
    (g.0 ∙ ap (λ (p : PositionParts). reached p.side c.in-Castles.wing) (sym c.position.ensures.value ∙ sym c.behind-live.view_is) ∙ sym c.reached-to.ensures, g.1)

pub only_named-requires-in-Piece-clause-goes : goal.only_named-requires-in-Piece-clause-goes
only_named-requires-in-Piece-clause-goes g c = λ m h legal.
    let named : names c.args.live.now.position (Piece c.in-Piece.field-0 c.in-Piece.course) m ≡ true =
    ap (λ (f : Form). names c.args.live.now.position f m) (sym c.in-Piece.is) ∙ h in
    piece_goes c.args.live.now.position c.in-Piece.field-0 c.in-Piece.course m named legal

pub only_named-requires-in-Plain-clause-goes : goal.only_named-requires-in-Plain-clause-goes
only_named-requires-in-Plain-clause-goes g c = λ m h legal.
    let named : names c.args.live.now.position (Plain c.in-Plain.course) m ≡ true =
    ap (λ (f : Form). names c.args.live.now.position f m) (sym c.in-Plain.is) ∙ h in
    plain_goes c.args.live.now.position c.in-Plain.course m named legal
