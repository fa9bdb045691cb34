use Rattle.std.proofs.Common.{rules, ap, ◌∙◌, Some, Ok, Err}
use Rattle.chess_pgn.specs.steps.GameCode.{game_of}
use Rattle.chess_pgn.specs.declared.games.GamesFault.TheVariants.{Pgn, Read}
use Rattle.chess_cli.proofs.CollectionLemmas.{ends_at, ends_at_fault, ends_unread, ends_whole, if_ok, none_yet, not_so_many, one_more, read_fault, read_one, still_on}
use Rattle.chess_cli.proofs.pgn_command.write_games.Goals as goal

pub loop-game-init : goal.loop-game-init
loop-game-init g c = record {
  sound = c.requires.sound;
  none = c.requires.none;
  written = none_yet g.R.Source g.W.Sink c.args.games.now.text c.args.writer.now c.requires.writer;
}

pub returns-in-Ok-None : goal.returns-in-Ok-None
returns-in-Ok-None g c =
    let none = c.next_with.ensures.none (c.in-Ok-None.is ∙ ap Ok c.in-Ok-None.field-0-is) in
    ends_whole g.R.Source g.W.Sink c.loop-game._game c.args.games.now.text c.requires.nothing c.requires.reader c.loop-game.games.text c.next_with.new.self.text c.args.writer.now c.loop-game.writer
    c.loop-game.invariant.written none (c.next_with.ensures.sound.ended_so (still_on _ (if_ok _ c.next_with.result c.in-Ok-None.field-0 c.in-Ok-None.is c.next_with.ensures.good)) none.ended)

pub returns-in-Err-Pgn : goal.returns-in-Err-Pgn
returns-in-Err-Pgn g c =
    ends_at_fault g.R.Source g.W.Sink c.loop-game._game c.args.games.now.text c.requires.nothing c.requires.reader c.loop-game.games.text c.next_with.new.self.text c.args.writer.now c.loop-game.writer c.in-Err-Pgn.fault
    c.ended_by.result c.loop-game.invariant.written
    (read_fault g.R.Source.gives g.R.Source.failed g.R.Source.ended c.loop-game.games.text c.next_with.new.self.text c.next_with.result (Pgn c.in-Err-Pgn.fault) (c.in-Err-Pgn.is ∙ ap Err c.in-Err-Pgn.field-0-is) (c.next_with.ensures.fault c.loop-game.invariant.none))
    c.ended_by.ensures

pub returns-in-Err-Read : goal.returns-in-Err-Read
returns-in-Err-Read g c =
    ends_unread g.R.Source g.W.Sink c.loop-game._game c.args.games.now.text c.requires.nothing c.requires.reader c.loop-game.games.text c.next_with.new.self.text c.args.writer.now c.loop-game.writer
    c.requires.reads c.loop-game.invariant.written
    (read_fault g.R.Source.gives g.R.Source.failed g.R.Source.ended c.loop-game.games.text c.next_with.new.self.text c.next_with.result Read (c.in-Err-Read.is ∙ ap Err c.in-Err-Read.field-0-is) (c.next_with.ensures.fault c.loop-game.invariant.none))

pub returns-in-Err : goal.returns-in-Err
returns-in-Err g c =
    ends_at g.R.Source g.W.Sink c.loop-game._game c.args.games.now.text c.requires.nothing c.requires.reader c.loop-game.games.text c.next_with.new.self.text c.args.writer.now c.loop-game.writer c.write_one.new.writer
    (game_of c.in-Ok-Some.game) c.in-Err.ended
    (c.next_with.ensures.sound.ended_so (still_on _ (if_ok _ c.next_with.result (Some c.in-Ok-Some.game) (c.in-Ok-Some.is ∙ ap Ok c.in-Ok-Some.field-0-is) c.next_with.ensures.good))) c.requires.writer c.loop-game.invariant.written
    (read_one g.R.Source.gives g.R.Source.failed c.loop-game.games c.next_with.new.self c.next_with.result c.in-Ok-Some.game (c.in-Ok-Some.is ∙ ap Ok c.in-Ok-Some.field-0-is) c.next_with.ensures.game) c.in-Err.ensures

pub loop-game-preserved : goal.loop-game-preserved
loop-game-preserved g c = record {
  sound = c.next_with.ensures.sound;
  none = if_ok _ c.next_with.result (Some c.in-Ok-Some.game) (c.in-Ok-Some.is ∙ ap Ok c.in-Ok-Some.field-0-is) c.next_with.ensures.good;
  written =
      one_more g.R.Source g.W.Sink c.loop-game._game c.args.games.now.text c.loop-game.games.text c.next_with.new.self.text c.args.writer.now c.loop-game.writer c.write_one.new.writer
      (game_of c.in-Ok-Some.game) c.loop-game.invariant.written
      (read_one g.R.Source.gives g.R.Source.failed c.loop-game.games c.next_with.new.self c.next_with.result c.in-Ok-Some.game (c.in-Ok-Some.is ∙ ap Ok c.in-Ok-Some.field-0-is) c.next_with.ensures.game) c.in_default.ensures;
}

pub returns : goal.returns
returns g c =
    absurd (not_so_many g.R.Source g.W.Sink c.loop-game._game c.args.games.now.text c.requires.nothing c.requires.reader c.loop-game.games.text c.args.writer.now c.loop-game.writer
    c.requires.reads c.loop-game.invariant.written (search rules))
