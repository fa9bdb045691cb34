use Rattle.std.proofs.Common.{◌∙◌, sym, arith}
use Rattle.chess_cli.proofs.PlaceLemmas.{places_start, places_on, places_broken, places_whole}
use Rattle.chess_cli.proofs.board_command.path.write_path.Goals as goal

pub loop-ply-init : goal.loop-ply-init
loop-ply-init g c = record {
  sent = places_start g.W.Sink.takes g.W.Sink.failed c.args.page.now c.args.writer.now c.args.tree.now.path;
  room = omega arith;
}

pub returns-in-Err : goal.returns-in-Err
returns-in-Err g c =
    places_broken g.W.Sink.takes g.W.Sink.failed c.args.page.now c.args.writer.now c.args.tree.now.path c.loop-ply.ply c.loop-ply.page c.loop-ply.writer c.make_room.new.self c.make_room.new.writer
    c.in-Err.failed c.loop-ply.invariant.sent c.in-Err.ensures.flows (omega arith)

pub loop-ply-preserved : goal.loop-ply-preserved
loop-ply-preserved g c = record {
  sent = places_on g.W.Sink.takes g.W.Sink.failed c.args.page.now c.args.writer.now c.args.tree.now.path c.loop-ply.ply c.in-Some.place c.loop-ply.page c.loop-ply.writer c.make_room.new.self c.make_room.new.writer
      c.put_place.new.page c.loop-ply.invariant.sent (sym c.path_at.ensures ∙ c.in-Some.is) c.in_default.ensures.flows c.put_place.ensures.bytes;
  room = omega (arith, c.in_default.ensures.room, c.put_place.ensures.len);
}

pub returns : goal.returns
returns g c =
    places_whole g.W.Sink.takes g.W.Sink.failed c.args.page.now c.args.writer.now c.args.tree.now.path c.loop-ply.ply c.loop-ply.page c.loop-ply.writer c.put-2.new.self
    c.loop-ply.invariant.sent (omega arith) (omega arith) c.put-2.ensures
