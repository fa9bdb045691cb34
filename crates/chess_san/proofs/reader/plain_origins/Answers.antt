use Rattle.chess_san.proofs.OriginLemmas.{without_file, without_rank, square_comes_by}
use Rattle.chess_san.proofs.reader.plain_origins.Goals as goal

pub returns-in_default : goal.returns-in_default
returns-in_default c = without_file c.args.setup.now c.args.course.now c.origins.result c.in_default.is c.origins.ensures

pub returns-in_default-rank : goal.returns-in_default-rank
returns-in_default-rank c = without_rank c.args.setup.now c.args.course.now c.origins-in_default-rank.result c.in_default-rank.is c.origins-in_default-rank.ensures

pub returns : goal.returns
returns c = square_comes_by c.args.setup.now c.args.course.now c.in-Some.file c.in-Some-rank.rank c.square_on.result c.in-Some.is c.in-Some-rank.is c.square_on.ensures
