use Rattle.byte_streams.specs.Words.{words}
use Rattle.chess_uci.specs.Commands.{gaps}
use Rattle.chess_uci.proofs.PlaceLemmas.{played_all, played_on, played_start, words_refused}
use Rattle.chess_uci.proofs.placing.play.Goals as goal

pub loop-word-init : goal.loop-word-init
loop-word-init g c = record { looked = c.requires.none; played = played_start c.args.line.now.line (words gaps c.args.moves.now) }

pub returns-in-Err-clause-played : goal.returns-in-Err-clause-played
returns-in-Err-clause-played g c =
    words_refused (Unit {0}) (Unit {0}) c.args.line.now.line c.loop-word.line.line c.play_word.new.line.line c.play_word.new.line.line c.in-Some.word.now
    (words gaps c.args.moves.now) (words gaps c.loop-word.rest.now) (words gaps c.in-Some.others.now) c.in-Err.fault c.loop-word.invariant.played c.in-Some.ensures.some c.in-Err.ensures.played

pub loop-word-preserved : goal.loop-word-preserved
loop-word-preserved g c = record {
  looked = c.in_default-play_word.ensures.looked;
  played = played_on c.args.line.now.line c.loop-word.line.line c.play_word.new.line.line c.in-Some.word.now
      (words gaps c.args.moves.now) (words gaps c.loop-word.rest.now) (words gaps c.in-Some.others.now) c.loop-word.invariant.played c.in-Some.ensures.some c.in_default-play_word.ensures.played;
}

pub returns-clause-played : goal.returns-clause-played
returns-clause-played g c =
    played_all c.args.line.now.line c.loop-word.line.line (words gaps c.args.moves.now) (words gaps c.loop-word.rest.now) c.loop-word.invariant.played c.in_default.ensures.none
