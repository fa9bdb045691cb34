use Rattle.std.proofs.Common.{sym, subst}
use Rattle.chess_play.specs.Records.{RecordParts, IsBefore}
use Rattle.chess_board_tests.proofs.tests.live.there_and_back.Goals as goal

pub take_back-requires : goal.take_back-requires
take_back-requires g c =
    let before : IsBefore c.make.new.live.position c.keep-past.result c.args.live.now.position =
    subst (λ (r : RecordParts). IsBefore c.make.new.live.position r c.args.live.now.position) (sym c.keep-past.ensures) c.make.ensures in
    record { fits = record { before = c.args.live.now.position; is_before = before } }
