use Rattle.chess_pgn.proofs.HeaderLemmas.{opens}
use Rattle.chess_pgn.proofs.reader.header.Header.open.Goals as goal

pub returns-clause-opens : goal.returns-clause-opens
returns-clause-opens g c = λ out read finds. (read, opens c.args.self.now.part read c.args.self.now.name.items c.args.self.now.value.items out, finds)
