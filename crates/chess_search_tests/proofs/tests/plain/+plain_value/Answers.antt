use Rattle.std.proofs.Common.{◌≡◌, arith}
use Rattle.std.proofs.lemmas.List.Sorted.{IsPermutation-refl}
use Rattle.chess_search.proofs.WindowLemmas.{legal_at}
use Rattle.chess_search_tests.proofs.tests.plain.+plain_value.Goals as goal

pub plain_value-plain_worth-worth-requires : goal.plain_value-plain_worth-worth-requires
plain_value-plain_worth-worth-requires g t c κs within =
    let i = c.loop-m.invariant.line in
    let d = c.decreases in
    let looked : c.loop-m.line.looked ≡ c.args.line.now.looked = i.looked in
    let legal = legal_at c.args.line.now.line _ c.moves-moves.result.items c.as_slice-m-items.result.now c.loop-m.m-index c.m-item.result c.moves-moves.ensures.listed
    (rw c.as_slice-m-items.ensures.value (IsPermutation-refl _)) (omega arith) c.m-item.is i.line in
    (omega arith, (within, (legal, (omega arith, omega arith))))
