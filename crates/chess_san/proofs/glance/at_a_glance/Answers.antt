use Rattle.std.proofs.Common.{◌∙◌, sym, arith}
use Rattle.std.proofs.lemmas.Slice.Eq.{bytes_eq-Decides}
use Rattle.chess_san.proofs.GlanceLemmas.{king_whole, pawn_whole, piece_whole}
use Rattle.chess_san.proofs.glance.at_a_glance.Goals as goal

pub returns-then-is_pawn-clause-text : goal.returns-then-is_pawn-clause-text
returns-then-is_pawn-clause-text c =
    pawn_whole c.args.setup.now c.args.m c.in-Some.man c.text_by-text.result.bytes (sym c.man_of.ensures ∙ c.in-Some.is) c.text_by-text.ensures.bytes (sym c.is_pawn.ensures ∙ c.if-is_pawn.true)

pub returns-then-is_king-clause-text : goal.returns-then-is_king-clause-text
returns-then-is_king-clause-text c =
    king_whole c.args.setup.now c.args.m c.in-Some.man c.text_by-text.result.bytes (sym c.man_of.ensures ∙ c.in-Some.is) c.text_by-text.ensures.bytes (sym c.is_king.ensures ∙ c.if-is_king.true) c.requires.setup (omega arith) c.requires.legal

pub returns-then-eq-clause-text : goal.returns-then-eq-clause-text
returns-then-eq-clause-text c =
    piece_whole c.args.setup.now c.args.m c.in-Some.man c.text_by-text.result.bytes c.args.read.now (sym c.man_of.ensures ∙ c.in-Some.is) c.text_by-text.ensures.bytes
    (sym c.is_pawn.ensures ∙ c.if-is_pawn.false) (sym c.is_king.ensures ∙ c.if-is_king.false) (omega arith) c.requires.read
    (sym c.without_marks.ensures ∙ (bytes_eq-Decides _ _).0 (sym c.eq.ensures ∙ c.if-eq.true) ∙ (c.as_bytes.ensures.value ∙ c.deref.ensures.0))
