use Rattle.std.proofs.Common.{refl, sym, ap, ◌∙◌}
use Rattle.std.specs.Prelude.{Ok}
use Rattle.chess_types.specs.board.Position.{start}
use Rattle.chess_pgn.specs.Tags.{fen_in}
use Rattle.chess_pgn.proofs.StartLemmas.{told, usual}
use Rattle.chess_pgn.proofs.reader.Reader.begin_moves.Goals as goal

pub returns-in_default-clause-begins : goal.returns-in_default-clause-begins
returns-in_default-clause-begins g c = record {
  outside = c.requires;
  header = refl;
  moves = λ read finds. (start, usual c.args.self.now.header.fen_at (fen_in read) (sym (c.start.ensures.start read finds) ∙ c.in_ok-start.was ∙ ap Ok c.in_default.is), λ lead h. h);
  moving = refl;
  outcome = refl;
}

pub returns-clause-begins : goal.returns-clause-begins
returns-clause-begins g c = record {
  outside = c.requires;
  header = refl;
  moves = λ read finds. (
    c.in-Some.start,
    told c.args.self.now.header.fen_at (fen_in read) c.in-Some.start (sym (c.start.ensures.start read finds) ∙ c.in_ok-start.was ∙ ap Ok c.in-Some.is),
    λ lead h. c.begin_in.ensures start lead h,
  );
  moving = refl;
  outcome = refl;
}
