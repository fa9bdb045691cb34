use Rattle.byte_streams.specs.Words.{words}
use Rattle.chess_uci.specs.Commands.{gaps}
use Rattle.chess_uci.proofs.PlaceLemmas.{beginning_refused}
use Rattle.chess_uci.proofs.placing.place.Goals as goal

pub returns : goal.returns
returns g c = record { placed = beginning_refused (words gaps c.args.text.now) c.in-Err.fault c.in-Err.ensures.begun }
