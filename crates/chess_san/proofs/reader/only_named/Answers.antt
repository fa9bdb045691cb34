use Rattle.std.proofs.Common.{◌∙◌, ap, arith}
use Rattle.chess_san.specs.Naming.{names, the_one}
use Rattle.chess_san.proofs.ListLemmas.{begun}
use Rattle.chess_san.proofs.reader.only_named.Goals as goal

pub returns-clause-value : goal.returns-clause-value
returns-clause-value g c =
    c.only_from.ensures
    ∙ ap the_one
    (begun c.args.live.now.position (names c.args.live.now.position c.args.form.now) c.args.to c.args.promo c.named_from-from.result (omega arith) c.named_from-from.ensures.named c.requires.goes)
