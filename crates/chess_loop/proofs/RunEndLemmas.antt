-- How a run ends whose handler always takes lines, and answers a line whole even where its text isn't written whole.
use Rattle.std.specs.List.{AllByRecursion}
use Rattle.std.proofs.Common.{◌≡◌, ℕ, ◌<◌, ◌≤◌, ◌⊎◌, Bool, true, false, true≢false, inl, inr, List, [], ◌∷◌, ◌++◌, length, sym, ap, ◌∙◌, append_assoc, append-nil, arith}
use Rattle.byte_streams.specs.Calls.{Calls, joined}
use Rattle.byte_streams.specs.declared.source.Source.{Ghosts as Source}
use Rattle.byte_streams.specs.declared.sink.Sink.{Ghosts as Sink}
use Rattle.byte_streams.proofs.CallLemmas.{joined-append, Calls-left}
use Rattle.chess_loop.specs.RunEnds.{Awaited, Handler, IsPrefix, EndsGood, EndsOver, EndsReadFault, EndsWriteFault, UpToLast, in_parts, in_texts}
use Rattle.chess_loop.specs.InputLines.{ended_lines, last_line, lines_of, line_buffer}
use Rattle.chess_loop.proofs.EndLemmas.{length-joined}
use Rattle.chess_loop.proofs.LineLemmas.{ended_lines-append}
use Rattle.chess_loop.specs.Runs.{Counted, InOne, Partly, Runs}
use Rattle.chess_loop.proofs.RunLemmas.{Runs-more, in_one, uncounted}

-- a handler that answers each line in one part
abbrev pub one_part : {S : Type 0} → (S → List ℕ → List ℕ → S → Type 0) → S → Handler S
one_part step beginning = in_parts (InOne step) (InOne step) (λ _. false) beginning

module _ {S R W : Type 0} (step : S → List ℕ → List ℕ → S → Type 0) (beginning : S) (source : Source R) (sink : Sink W) where
  pub never_over : (state : S) (r r' : R) (w w' : W)
      → EndsGood (one_part step beginning) source sink state r r' w w'
      ⊎ EndsOver (one_part step beginning) source sink state r r' w w'
      → EndsGood (in_texts step beginning) source sink state r r' w w'
  never_over state r r' w w' (inl good) = record {
    pieces = good.pieces;
    text = good.text;
    reads = good.reads;
    well_read = good.well_read;
    all = good.all;
    answers = in_one step beginning state (lines_of (joined good.pieces)) good.text good.answers;
    awake = good.awake;
    writes = good.writes;
    well_written = good.well_written;
  }
  never_over state r r' w w' (inr over) = absurd (true≢false (sym over.is_over))

  pub unread_ends : (most : ℕ) (state : S) (r r' : R) (w w' : W)
      → EndsReadFault (one_part step beginning) source sink most state r r' w w'
      → EndsReadFault (in_texts step beginning) source sink most state r r' w w'
  unread_ends most state r r' w w' end = record {
    pieces = end.pieces;
    text = end.text;
    before = end.before;
    reads = end.reads;
    well_read = end.well_read;
    each = end.each;
    cause = end.cause;
    answers = in_one step beginning state (ended_lines [] (joined end.pieces)) end.text end.answers;
    awake = end.awake;
    writes = end.writes;
    well_written = end.well_written;
  }

  -- lines whose last was broken off are answered whole, too
  whole_lines : (old new : S) (lines : List (List ℕ)) (text rest : List ℕ) → Partly (InOne step) (InOne step) old lines text rest new → Runs step old lines text new
  whole_lines old new lines text rest (most, few, inl runs) =
      in_one step old new lines text (uncounted (InOne step) (old, 0) (new, most) lines text runs)
  whole_lines old new lines text rest (most, few, inr broken) =
      let all = Runs-more (Counted (InOne step)) (old, 0) broken.state (new, most) broken.done broken.line broken.answers broken.begun broken.runs broken.last in
      rw (broken.lines_are, broken.text_is)
      (in_one step old new (broken.done ++ broken.line ∷ []) (broken.answers ++ broken.begun) (uncounted (InOne step) (old, 0) (new, most) (broken.done ++ broken.line ∷ []) (broken.answers ++ broken.begun) all))

  abbrev earlier_lines : (r r' : R) → UpToLast (one_part step beginning) source r r' → UpToLast (in_texts step beginning) source r r'
  earlier_lines r r' u = record {
    pieces = u.pieces;
    piece = u.piece;
    text = u.text;
    middle = u.middle;
    reads = u.reads;
    well_read = u.well_read;
    answers = in_one step beginning u.middle (ended_lines [] (joined u.pieces)) u.text u.answers;
    awake = u.awake;
  }

  pub whole_ends : (state : S) (r r' : R) (w w' : W)
      → EndsWriteFault (one_part step beginning) source sink state r r' w w'
      → EndsWriteFault (in_texts step beginning) source sink state r r' w w'
  whole_ends state r r' w w' end = record {
    earlier = earlier_lines r r' end.earlier;
    before = end.before;
    lines = end.lines;
    more = end.more;
    writes = end.writes;
    well_written = end.well_written;
    awaited = end.awaited;
    broken = end.broken;
    answers_last = whole_lines end.earlier.middle state end.lines end.more end.broken.rest end.answers_last;
  }

-- the lines that were answered before the last read and since are the first of all
pub lines_first : {R : Type 0} (ended : R → Type 0) (pieces : List (List ℕ)) (piece : List ℕ) (lines : List (List ℕ)) (r : R) → Awaited ended (line_buffer [] (joined pieces)) piece lines r
    → IsPrefix (ended_lines [] (joined pieces) ++ lines) (lines_of (joined (pieces ++ piece ∷ [])))
lines_first ended pieces piece lines r (inl prefix) =
    let more : joined (pieces ++ piece ∷ []) ≡ joined pieces ++ piece = joined-append pieces (piece ∷ []) ∙ ap (λ (q : List ℕ). joined pieces ++ q) (append-nil piece) in
    let last = last_line (line_buffer [] (joined (pieces ++ piece ∷ []))) in
    record {
      others = prefix.others ++ last;
      whole = append_assoc (ended_lines [] (joined pieces)) lines (prefix.others ++ last)
          ∙ ap (λ (ls : List (List ℕ)). ended_lines [] (joined pieces) ++ ls) (sym (append_assoc lines prefix.others last) ∙ ap (λ (ls : List (List ℕ)). ls ++ last) prefix.whole)
          ∙ sym (append_assoc (ended_lines [] (joined pieces)) (ended_lines (line_buffer [] (joined pieces)) piece) last)
          ∙ ap (λ (ls : List (List ℕ)). ls ++ last) (sym (ended_lines-append [] (joined pieces) piece) ∙ ap (ended_lines []) (sym more));
    }
lines_first ended pieces piece lines r (inr end) =
    let more : joined (pieces ++ piece ∷ []) ≡ joined pieces =
    joined-append pieces (piece ∷ []) ∙ ap (λ (q : List ℕ). joined pieces ++ (q ++ [])) end.0 ∙ append-nil (joined pieces) in
    record {
      others = [];
      whole = append-nil (ended_lines [] (joined pieces) ++ lines) ∙ ap (λ (ls : List (List ℕ)). ended_lines [] (joined pieces) ++ ls) end.1 ∙ ap lines_of (sym more);
    }

-- a failure, or so many bytes
pub many_or : {R : Type 0} (gives : R → List ℕ → R → Type 0) (failed : R → Bool) (most : ℕ) (pieces : List (List ℕ)) (before r : R) → AllByRecursion (λ p. 0 < length p) pieces
    → (gives before [] r × (failed r ≡ true)) ⊎ ((before ≡ r) × (length pieces ≡ most)) → (failed r ≡ true) ⊎ (most ≤ length (joined pieces))
many_or gives failed most pieces before r each (inl is) = inl is.1
many_or gives failed most pieces before r each (inr many) = inr (omega (arith, many.1, length-joined pieces each))

-- what is left after the last call
pub left_after : {R : Type 0} (gives : R → List ℕ → R → Type 0) (left : R → List ℕ) (failed : R → Bool) (most : ℕ) (pieces : List (List ℕ)) (r before r' : R)
    → ((s t : R) (p : List ℕ) → gives s p t → left s ≡ p ++ left t) → Calls gives r pieces before → (gives before [] r' × (failed r' ≡ true)) ⊎ ((before ≡ r') × (length pieces ≡ most))
    → left r ≡ joined pieces ++ left r'
left_after gives left failed most pieces r before r' one calls (inl is) =
    Calls-left gives left one r before pieces calls ∙ ap (λ (x : List ℕ). joined pieces ++ x) (one before r' [] is.0)
left_after {R} gives left failed most pieces r before r' one calls (inr many) =
    Calls-left gives left one r before pieces calls ∙ ap (λ (x : R). joined pieces ++ left x) many.0
