use Rattle.std.proofs.Common.{◌≡◌, ◌++◌, ◌∷◌, [], List, ℕ, refl, sym, ap, ◌∙◌, append-nil, append_assoc}
use Rattle.byte_streams.specs.Calls.{joined}
use Rattle.byte_streams.specs.Lent.{Left, Written}
use Rattle.byte_streams.proofs.CallLemmas.{Calls-left, Calls-taken}
use Rattle.chess_cli.specs.Answers.{Answers, new_tree}
use Rattle.chess_loop.specs.InputLines.{ended_lines}
use Rattle.chess_loop.proofs.RunLemmas.{Runs-append}
use Rattle.chess_loop.proofs.RunEndLemmas.{lines_first, left_after, many_or}
use Rattle.chess_cli.proofs.board_command.over_bytes.board_over_bytes.Goals as goal

pub returns-clause-good : goal.returns-clause-good
returns-clause-good g c = λ is.
    let how = c.board.ensures.good is in
    let end = how.1 in
    let left : c.args.reader.now.left ≡ joined end.pieces ++ c.board.new.reader.left =
    Calls-left _ (λ (s : Left). s.left) (λ s t p h. h) _ _ end.pieces end.reads in
    let taken : c.board.new.writer.taken ≡ c.args.writer.now.taken ++ joined end.writes.pieces =
    Calls-taken _ (λ (s : Written). s.taken) (λ s t p h. h) _ _ end.writes.pieces end.writes.calls in
    let all : joined end.pieces ≡ c.args.reader.now.left =
    sym (append-nil (joined end.pieces)) ∙ ap (λ (x : List ℕ). joined end.pieces ++ x) (sym end.all) ∙ sym left in
    (end.text, how.0, rw all at end.answers, taken ∙ rw end.writes.whole refl, end.well_read, end.well_written)

pub returns-clause-read_fault : goal.returns-clause-read_fault
returns-clause-read_fault g c = λ is.
    let how = c.board.ensures.read_fault is in
    let end = how.1 in
    let left : c.args.reader.now.left ≡ joined end.pieces ++ c.board.new.reader.left =
    left_after (λ (s : Left) (p : List ℕ) (t : Left). s.left ≡ p ++ t.left) (λ (s : Left). s.left) (λ (s : Left). s.failed) _ end.pieces _ _ _ (λ s t p h. h) end.reads end.cause in
    let taken : c.board.new.writer.taken ≡ c.args.writer.now.taken ++ joined end.writes.pieces =
    Calls-taken _ (λ (s : Written). s.taken) (λ s t p h. h) _ _ end.writes.pieces end.writes.calls in
    (joined end.pieces, end.text, how.0, left, many_or (λ (s : Left) (p : List ℕ) (t : Left). s.left ≡ p ++ t.left) (λ (s : Left). s.failed) _ end.pieces end.before c.board.new.reader end.each end.cause, end.answers, taken ∙ rw end.writes.whole refl, end.well_written)

pub returns-clause-write_fault : goal.returns-clause-write_fault
returns-clause-write_fault g c = λ is.
    let how = c.board.ensures.write_fault is in
    let end = how.1 in
    let earlier = end.earlier in
    let broken = end.broken in
    let given = earlier.pieces ++ earlier.piece ∷ [] in
    let left : c.args.reader.now.left ≡ joined given ++ c.board.new.reader.left =
    Calls-left _ (λ (s : Left). s.left) (λ s t p h. h) _ _ given earlier.reads in
    let before : end.before.taken ≡ c.args.writer.now.taken ++ joined end.writes.pieces =
    Calls-taken _ (λ (s : Written). s.taken) (λ s t p h. h) _ _ end.writes.pieces end.writes.calls in
    let then : broken.before.taken ≡ end.before.taken ++ joined broken.calls.pieces =
    Calls-taken _ (λ (s : Written). s.taken) (λ s t p h. h) _ _ broken.calls.pieces broken.calls.calls in
    let last : c.board.new.writer.taken ≡ broken.before.taken ++ [] = broken.last in
    let taken : c.board.new.writer.taken ≡ c.args.writer.now.taken ++ (earlier.text ++ broken.prefix) =
    last ∙ append-nil broken.before.taken ∙ then ∙ ap (λ (x : List ℕ). x ++ joined broken.calls.pieces) (before ∙ ap (λ (x : List ℕ). c.args.writer.now.taken ++ x) end.writes.whole)
    ∙ append_assoc c.args.writer.now.taken earlier.text (joined broken.calls.pieces) ∙ ap (λ (x : List ℕ). c.args.writer.now.taken ++ (earlier.text ++ x)) broken.calls.whole in (
      joined given,
      ended_lines [] (joined earlier.pieces) ++ end.lines,
      earlier.text ++ end.more,
      earlier.text ++ broken.prefix,
      broken.rest,
      how.0,
      left,
      lines_first (λ (s : Left). s.left ≡ []) earlier.pieces earlier.piece end.lines c.board.new.reader end.awaited,
      Runs-append Answers new_tree earlier.middle how.0 (ended_lines [] (joined earlier.pieces)) end.lines earlier.text end.more earlier.answers end.answers_last,
      ap (λ (x : List ℕ). earlier.text ++ x) (sym broken.whole) ∙ sym (append_assoc earlier.text broken.prefix broken.rest),
      broken.unwritten,
      taken,
      earlier.well_read,
      broken.fails,
    )
