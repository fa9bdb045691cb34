use Rattle.std.proofs.Common.{◌≡◌, ◌+◌, if◌then◌else◌, [], Ok, Some, rules, sym, ap, subst, ◌∙◌}
use Rattle.byte_streams.specs.Calls.{Carries}
use Rattle.chess_pgn.specs.Sources.{HasFault, IsSound, MayGoOn}
use Rattle.chess_pgn.specs.steps.GameCode.{game_of}
use Rattle.chess_games.specs.Forms.{text_in}
use Rattle.chess_games.specs.Filtered.{IsLeftOff}
use Rattle.chess_games.proofs.FilteredLemmas.{SoFar, one_good, one_bad, all_read, err_holds, handed_on, off_at_game, off_at_most, off_at_next, read_one, read_fault, if_ok, left_off, not_memory, still_on, stops_past, stops_there}
use Rattle.chess_games.proofs.filter.write_good.Goals as goal
use Rattle.chess_games.proofs.filter.write_good.Goals.{in-Ok-Some+in_ok-write_if-in-Ok-Some, in-Err+in_ok-fault-in-Err+in_ok-pass-in-Err}

-- no game is left
pub returns-in-Ok-None-clause-good : goal.returns-in-Ok-None-clause-good
returns-in-Ok-None-clause-good g c =
    let none = c.next_with.ensures.none (c.in-Ok-None.is ∙ ap Ok c.in-Ok-None.field-0-is) in
    all_read g.R.Source.gives g.R.Source.failed g.R.Source.ended g.W.Sink.takes g.W.Sink.failed c.args.wanted.now.form c.args.wanted.now.part c.args.games.now.text c.loop-before.games.text c.next_with.new.self.text c.args.writer.now c.loop-before.writer c.loop-before.bad c.loop-before.before
    c.loop-before.invariant.so_far none
    (c.next_with.ensures.sound.ended_so (still_on _ (if_ok _ c.next_with.result c.in-Ok-None.field-0 c.in-Ok-None.is c.next_with.ensures.good)) none.ended)

-- it isn't written whole
pub returns-in_err-write_if-in-Ok-Some-clause-off : goal.returns-in_err-write_if-in-Ok-Some-clause-off
returns-in_err-write_if-in-Ok-Some-clause-off g c =
    let failure = c.in_err-write_if-in-Ok-Some.field-0.0 in
    let ensures = c.in_err-write_if-in-Ok-Some.ensures in
    handed_on (λ f. IsLeftOff g.R.Source.gives g.R.Source.failed g.R.Source.ended g.W.Sink.takes g.W.Sink.failed c.args.wanted.now.form c.args.wanted.now.part c.args.games.now.text c.args.writer.now c.write_if.new.writer f) c.from_residual.result failure c.from_residual.ensures.1
    (off_at_game g.R.Source.gives g.R.Source.failed g.R.Source.ended g.W.Sink.takes g.W.Sink.failed c.args.wanted.now.form c.args.wanted.now.part c.args.games.now.text c.loop-before.games.text c.args.writer.now c.loop-before.writer c.loop-before.bad c.loop-before.before
    c.loop-before.invariant.so_far c.next_with.new.self.text c.write_if.new.writer (game_of c.in-Ok-Some.game) failure
    (read_one g.R.Source.gives g.R.Source.failed c.loop-before.games c.next_with.new.self c.next_with.result c.in-Ok-Some.game (c.in-Ok-Some.is ∙ ap Ok c.in-Ok-Some.field-0-is) c.next_with.ensures.game)
    c.has-is_asked.result c.has-is_asked.ensures ensures.asked ensures.unwritten)

-- it can't be read, and reading ends with that
pub returns-in_err-fault-in-Err-clause-off : goal.returns-in_err-fault-in-Err-clause-off
returns-in_err-fault-in-Err-clause-off g c =
    let failure = c.in_err-fault-in-Err.field-0.0 in
    let refused = read_fault g.R.Source.gives g.R.Source.failed g.R.Source.ended c.loop-before.games.text c.next_with.new.self.text c.next_with.result c.in-Err.fault c.in-Err.is (c.next_with.ensures.fault c.loop-before.invariant.none) in
    handed_on (λ f. IsLeftOff g.R.Source.gives g.R.Source.failed g.R.Source.ended g.W.Sink.takes g.W.Sink.failed c.args.wanted.now.form c.args.wanted.now.part c.args.games.now.text c.args.writer.now c.loop-before.writer f) c.from_residual-in_err-fault-in-Err.result failure
    c.from_residual-in_err-fault-in-Err.ensures.1
    (off_at_next g.R.Source.gives g.R.Source.failed g.R.Source.ended g.W.Sink.takes g.W.Sink.failed c.args.wanted.now.form c.args.wanted.now.part c.args.games.now.text c.loop-before.games.text c.args.writer.now c.loop-before.writer c.loop-before.bad c.loop-before.before
    c.loop-before.invariant.so_far c.next_with.new.self.text failure
    (stops_there g.R.Source.gives g.R.Source.failed g.R.Source.ended c.loop-before.games.text c.next_with.new.self.text c.in-Err.fault failure c.in_err-fault-in-Err.ensures.failure refused))

-- it is bad, and can't be passed over
pub returns-in_err-pass-in-Err-clause-off : goal.returns-in_err-pass-in-Err-clause-off
returns-in_err-pass-in-Err-clause-off g c =
    let failure = c.in_err-pass-in-Err.field-0.0 in
    let fault = c.in_ok-fault-in-Err.fault in
    let refused = read_fault g.R.Source.gives g.R.Source.failed g.R.Source.ended c.loop-before.games.text c.next_with.new.self.text c.next_with.result c.in-Err.fault c.in-Err.is (c.next_with.ensures.fault c.loop-before.invariant.none) in
    let is = subst (λ x. HasFault g.R.Source.gives g.R.Source.failed g.R.Source.ended c.loop-before.games.text c.next_with.new.self.text x) c.in_ok-fault-in-Err.ensures.fault refused in
    let kept = err_holds (λ f. c.next_with.new.self.fault ≡ Some f) c.next_with.result c.in-Err.fault c.in-Err.is c.next_with.ensures.sticky in
    let on = subst (λ f. MayGoOn f) (sym kept) c.in_ok-fault-in-Err.ensures.goes_on in
    let left = left_off g.R.Source.gives g.R.Source.failed c.loop-before.games c.next_with.new.self c.next_with.result c.in-Err.fault c.in-Err.is c.next_with.ensures.sticky on (c.next_with.ensures.leaves c.loop-before.invariant.none) in
    let real = not_memory c.next_with.new.self.fault c.in-Err.fault fault kept c.in_ok-fault-in-Err.ensures.fault on in
    handed_on (λ f. IsLeftOff g.R.Source.gives g.R.Source.failed g.R.Source.ended g.W.Sink.takes g.W.Sink.failed c.args.wanted.now.form c.args.wanted.now.part c.args.games.now.text c.args.writer.now c.loop-before.writer f) c.from_residual-in_err-pass-in-Err.result failure
    c.from_residual-in_err-pass-in-Err.ensures.1
    (off_at_next g.R.Source.gives g.R.Source.failed g.R.Source.ended g.W.Sink.takes g.W.Sink.failed c.args.wanted.now.form c.args.wanted.now.part c.args.games.now.text c.loop-before.games.text c.args.writer.now c.loop-before.writer c.loop-before.bad c.loop-before.before
    c.loop-before.invariant.so_far c.pass.new.games.text failure
    (stops_past g.R.Source.gives g.R.Source.failed g.R.Source.ended c.loop-before.games.text c.next_with.new.self.text c.pass.new.games.text fault failure is real (c.in_err-pass-in-Err.ensures.in_part c.in-Err.fault c.loop-before.games.text left.0 c.in_ok-fault-in-Err.ensures.goes_on left.1)))

-- there were too many
pub returns-clause-off : goal.returns-clause-off
returns-clause-off g c =
    off_at_most g.R.Source.gives g.R.Source.failed g.R.Source.ended g.W.Sink.takes g.W.Sink.failed c.args.wanted.now.form c.args.wanted.now.part c.args.games.now.text c.loop-before.games.text c.args.writer.now c.loop-before.writer c.loop-before.bad c.loop-before.before
    c.loop-before.invariant.so_far (search rules)

-- a game more, good or bad
pub loop-before-preserved : goal.loop-before-preserved
loop-before-preserved g c =
    let form = c.args.wanted.now.form in
    let part = c.args.wanted.now.part in
    let before = c.loop-before.before in
    elim c.match-next_with.branch [
      | in-Ok-Some+in_ok-write_if-in-Ok-Some w ↦
          let game = w.in-Ok-Some.game in
          let is = w.in-Ok-Some.is ∙ ap Ok w.in-Ok-Some.field-0-is in
          let read = read_one g.R.Source.gives g.R.Source.failed c.loop-before.games c.next_with.new.self c.next_with.result game is c.next_with.ensures.game in
          let written = subst (λ asked. Carries g.W.Sink.takes c.loop-before.writer (if asked then text_in form before (game_of game) else []) w.write_if.new.writer) c.has-is_asked.ensures w.in_ok-write_if-in-Ok-Some.ensures.all in
          let there = one_good g.R.Source.gives g.R.Source.failed g.R.Source.ended g.W.Sink.takes g.W.Sink.failed form part c.args.games.now.text c.loop-before.games.text c.next_with.new.self.text c.args.writer.now c.loop-before.writer w.write_if.new.writer c.loop-before.bad before (game_of game)
          c.loop-before.invariant.so_far read written w.in_ok-write_if-in-Ok-Some.ensures.well in
          record {
            sound = subst (λ x. IsSound g.R.Source.ended x) (sym w.games-is) c.next_with.ensures.sound;
            none = ap (λ x. x.fault) w.games-is ∙ if_ok _ c.next_with.result (Some game) is c.next_with.ensures.good;
            so_far =
                subst (λ x. SoFar g.R.Source.gives g.R.Source.failed g.R.Source.ended g.W.Sink.takes g.W.Sink.failed form part c.args.games.now.text x.text c.args.writer.now c.match-next_with.writer c.match-next_with.bad (before + 1)) (sym w.games-is)
                (subst (λ x. SoFar g.R.Source.gives g.R.Source.failed g.R.Source.ended g.W.Sink.takes g.W.Sink.failed form part c.args.games.now.text c.next_with.new.self.text c.args.writer.now x c.match-next_with.bad (before + 1)) (sym w.writer-is)
                (subst (λ x. SoFar g.R.Source.gives g.R.Source.failed g.R.Source.ended g.W.Sink.takes g.W.Sink.failed form part c.args.games.now.text c.next_with.new.self.text c.args.writer.now w.write_if.new.writer x (before + 1)) (sym w.bad-is) there));
          }
      | in-Err+in_ok-fault-in-Err+in_ok-pass-in-Err w ↦
          let fault = w.in_ok-fault-in-Err.fault in
          let refused = read_fault g.R.Source.gives g.R.Source.failed g.R.Source.ended c.loop-before.games.text c.next_with.new.self.text c.next_with.result w.in-Err.fault w.in-Err.is (c.next_with.ensures.fault c.loop-before.invariant.none) in
          let is = subst (λ x. HasFault g.R.Source.gives g.R.Source.failed g.R.Source.ended c.loop-before.games.text c.next_with.new.self.text x) w.in_ok-fault-in-Err.ensures.fault refused in
          let left = left_off g.R.Source.gives g.R.Source.failed c.loop-before.games c.next_with.new.self c.next_with.result w.in-Err.fault w.in-Err.is c.next_with.ensures.sticky w.in_ok-pass-in-Err.ensures.goes_on (c.next_with.ensures.leaves c.loop-before.invariant.none) in
          let real = not_memory c.next_with.new.self.fault w.in-Err.fault fault left.0 w.in_ok-fault-in-Err.ensures.fault w.in_ok-pass-in-Err.ensures.goes_on in
          let passes = w.in_ok-pass-in-Err.ensures.gives_up w.in-Err.fault c.loop-before.games.text left.0 left.1 in
          let counts = subst (λ asked. w.report_if-bad.result ≡ (if asked then 1 else 0)) c.has-is_asked.ensures w.report_if-bad.ensures.count in
          let there = one_bad g.R.Source.gives g.R.Source.failed g.R.Source.ended g.W.Sink.takes g.W.Sink.failed form part c.args.games.now.text c.loop-before.games.text c.next_with.new.self.text w.pass.new.games.text c.args.writer.now c.loop-before.writer c.loop-before.bad w.report_if-bad.result before fault
          c.loop-before.invariant.so_far is real passes counts w.report_if-bad.ensures.one in
          record {
            sound = subst (λ x. IsSound g.R.Source.ended x) (sym w.games-is) w.in_ok-pass-in-Err.ensures.sound;
            none = ap (λ x. x.fault) w.games-is ∙ w.in_ok-pass-in-Err.ensures.good;
            so_far =
                subst (λ x. SoFar g.R.Source.gives g.R.Source.failed g.R.Source.ended g.W.Sink.takes g.W.Sink.failed form part c.args.games.now.text x.text c.args.writer.now c.match-next_with.writer c.match-next_with.bad (before + 1)) (sym w.games-is)
                (subst (λ x. SoFar g.R.Source.gives g.R.Source.failed g.R.Source.ended g.W.Sink.takes g.W.Sink.failed form part c.args.games.now.text w.pass.new.games.text c.args.writer.now x c.match-next_with.bad (before + 1)) (sym w.writer-is)
                (subst (λ x. SoFar g.R.Source.gives g.R.Source.failed g.R.Source.ended g.W.Sink.takes g.W.Sink.failed form part c.args.games.now.text w.pass.new.games.text c.args.writer.now c.loop-before.writer x (before + 1)) (sym w.bad-is) there));
          }
    ]
