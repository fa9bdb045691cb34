use Rattle.std.proofs.Common.{arith, sym, ◌∙◌}
use Rattle.chess_queries.proofs.CopyLemmas.{legal_here, line_on}
use Rattle.chess_queries.proofs.copy.copy_line.Goals as goal

pub push_prepared-requires-clause-legal : goal.push_prepared-requires-clause-legal
push_prepared-requires-clause-legal g c =
    legal_here c.args.line.now.line c.loop-ply.copy.line c.loop-ply.ply c.in-Some.m c.root.ensures.legal (sym c.played.ensures.value ∙ c.in-Some.is) c.loop-ply.invariant.line

pub loop-ply-preserved : goal.loop-ply-preserved
loop-ply-preserved g c =
    record {
      line = line_on c.args.line.now.line c.loop-ply.copy.line c.push_prepared.new.self.line c.loop-ply.ply c.in-Some.m (sym c.played.ensures.value ∙ c.in-Some.is)
          c.loop-ply.invariant.line c.push_prepared.ensures.line;
      still = c.push_prepared.ensures.looked;
      room = omega (arith, c.push_prepared.ensures.room, c.loop-ply.invariant.room);
    }
