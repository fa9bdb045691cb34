use Rattle.std.proofs.Common.{◌∙◌, arith}
use Rattle.chess_types.specs.board.Board.{Men, man_at}
use Rattle.chess_attack.proofs.Lifted.{OnlyKing, only_king}
use Rattle.chess_attack.proofs.PinLines.{on_some_half, first_there, keeps_is}
use Rattle.chess_attack.proofs.pin.pin_line.Goals as goal

pub unreachable-requires : goal.unreachable-requires
unreachable-requires c =
    let man_on : Men = man_at c.args.placement.now in
    let king : OnlyKing man_on c.args.colour c.args.king =
    only_king c.args.placement.now c.args.colour c.args.king c.requires.king (omega arith) c.requires.there in
    on_some_half man_on c.args.colour c.args.king c.args.from king (omega arith) c.requires.pinned c.in_default.ensures.none

pub unreachable-requires-in-None : goal.unreachable-requires-in-None
unreachable-requires-in-None c =
    let man_on : Men = man_at c.args.placement.now in
    let king : OnlyKing man_on c.args.colour c.args.king =
    only_king c.args.placement.now c.args.colour c.args.king c.requires.king (omega arith) c.requires.there in
    first_there man_on c.args.colour c.args.king c.args.from king (omega arith) c.requires.pinned c.in-Some.axis c.in-Some.way c.in-Some.ensures.found
    c.in-None.ensures.none

pub returns : goal.returns
returns c = λ to ht.
    let man_on : Men = man_at c.args.placement.now in
    let king : OnlyKing man_on c.args.colour c.args.king =
    only_king c.args.placement.now c.args.colour c.args.king c.requires.king (omega arith) c.requires.there in
    c.check_mask.ensures to ht
    ∙ keeps_is man_on c.args.colour c.args.king c.args.from king (omega arith) c.requires.pinned c.in-Some.axis c.in-Some.way c.in-Some-first.pinning to
    c.in-Some.ensures.found c.in-Some-first.ensures.found
