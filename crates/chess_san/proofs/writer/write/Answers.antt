use Rattle.std.proofs.Common.{◌≡◌, true, sym, ap, subst, ◌∙◌, arith, rules}
use Rattle.chess_types.specs.board.Position.{PositionParts}
use Rattle.chess_types.specs.board.Pseudo.{is_pseudo}
use Rattle.chess_play.specs.Records.{IsBefore}
use Rattle.chess_types.proofs.MoveLemmas.{legal_pseudo}
use Rattle.chess_types.specs.board.Legal.{is_legal}
use Rattle.chess_types.proofs.AllMoves.{IsMove}
use Rattle.chess_san.specs.Naming.{named, san_reading}
use Rattle.chess_san.specs.Writing.{san}
use Rattle.chess_san.proofs.LawLemmas.{named_back, read_back}
use Rattle.chess_san.proofs.WriteLemmas.{clock_room, number_room}
use Rattle.chess_san.proofs.writer.write.Goals as goal

pub make-made-requires-clause-pseudo : goal.make-made-requires-clause-pseudo
make-made-requires-clause-pseudo g c =
    subst (λ (p : PositionParts). is_pseudo p c.args.m ≡ true) (sym c.write_unmarked-text.ensures.position) (legal_pseudo c.args.live.now.position c.args.m c.requires.legal)

pub write_mark-mark-requires-clause-clock : goal.write_mark-mark-requires-clause-clock
write_mark-mark-requires-clause-clock g c =
    clock_room c.args.live.now.position c.write_unmarked-text.new.live.position c.make-made.new.self.position c.args.m c.write_unmarked-text.ensures.position c.make-made.ensures.position (omega arith)

pub write_mark-mark-requires-clause-number : goal.write_mark-mark-requires-clause-number
write_mark-mark-requires-clause-number g c =
    number_room c.args.live.now.position c.write_unmarked-text.new.live.position c.make-made.new.self.position c.args.m c.write_unmarked-text.ensures.position c.make-made.ensures.position (omega arith)

pub undo-requires : goal.undo-requires
undo-requires g c =
    let before : IsBefore c.write_mark-mark.new.live.position c.make-made.result c.write_unmarked-text.new.live.position =
    subst (λ (now : PositionParts). IsBefore now c.make-made.result c.write_unmarked-text.new.live.position) (sym c.write_mark-mark.ensures.position) c.make-made.ensures.is_before in
    record { fits = record { before = c.write_unmarked-text.new.live.position; is_before = before } }

pub returns-clause-bytes : goal.returns-clause-bytes
unfolding san
returns-clause-bytes g c = search rules

pub returns-clause-named : goal.returns-clause-named
returns-clause-named g c =
    let legal : is_legal c.args.live.now.position c.args.m ≡ true = c.requires.legal in
    let on : IsMove c.args.m = record { from = omega arith; to = omega arith } in
    ap (named c.args.live.now.position) (returns-clause-bytes g c) ∙ named_back c.args.live.now.position c.args.m on legal

pub returns-clause-read_back : goal.returns-clause-read_back
returns-clause-read_back g c =
    let legal : is_legal c.args.live.now.position c.args.m ≡ true = c.requires.legal in
    let on : IsMove c.args.m = record { from = omega arith; to = omega arith } in
    ap (san_reading c.args.live.now.position) (returns-clause-bytes g c) ∙ read_back c.args.live.now.position c.args.m on legal
