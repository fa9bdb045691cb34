use Rattle.chess_cli.proofs.LentLemmas.{ends_now, still_named}
use Rattle.chess_cli.proofs.pgn_command.write_lent.Goals as goal

pub returns : goal.returns
returns g c = record {
  same = still_named (λ s. s.reader.now) (λ s. s.reader.ghost_name) g.R.Source c.args.games.now.text.source c.write_games.new.games.text.source g.W.Sink c.args.writer.now c.write_games.new.writer
      c.write_games.result c.write_games.ensures;
  ends = ends_now (λ s. s.reader.now) (λ s. s.reader.ghost_name) g.R.Source c.args.games.now.text.source c.write_games.new.games.text.source g.W.Sink c.args.writer.now c.write_games.new.writer
      c.write_games.result c.write_games.ensures;
}
