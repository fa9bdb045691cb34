use Rattle.std.proofs.Common.{refl}
use Rattle.chess_pgn.proofs.reader.Reader.movetext.Goals as goal

pub returns-in-Mark-clause-moved : goal.returns-in-Mark-clause-moved
returns-in-Mark-clause-moved g c = rw c.in-Mark.is (record { stands = refl; moves = λ s h. (s, h, record { start = refl; given = λ es. refl; few = λ es. refl }); moving = refl; outcome = refl; header = refl })

pub returns-in-Blank-clause-moved : goal.returns-in-Blank-clause-moved
returns-in-Blank-clause-moved g c = rw c.in-Blank.is (record { stands = refl; moves = λ s h. (s, h, record { start = refl; given = λ es. refl; few = λ es. refl }); moving = refl; outcome = refl; header = refl })

pub returns-in-Hidden-clause-moved : goal.returns-in-Hidden-clause-moved
returns-in-Hidden-clause-moved g c = rw c.in-Hidden.is (record { stands = refl; moves = λ s h. (s, h, record { start = refl; given = λ es. refl; few = λ es. refl }); moving = refl; outcome = refl; header = refl })

pub returns-in-Skipped-clause-moved : goal.returns-in-Skipped-clause-moved
returns-in-Skipped-clause-moved g c = rw c.in-Skipped.is (record { stands = refl; moves = λ s h. (s, h, record { start = refl; given = λ es. refl; few = λ es. refl }); moving = refl; outcome = refl; header = refl })

pub returns-in_ok-comment-in-Braced-clause-moved : goal.returns-in_ok-comment-in-Braced-clause-moved
returns-in_ok-comment-in-Braced-clause-moved g c = rw c.in-Braced.is (record { stands = refl; moves = c.in_ok-comment-in-Braced.ensures.steps; moving = refl; outcome = refl; header = refl })

pub returns-in_ok-line_comment-in-Line-clause-moved : goal.returns-in_ok-line_comment-in-Line-clause-moved
returns-in_ok-line_comment-in-Line-clause-moved g c = rw c.in-Line.is (record { stands = refl; moves = c.in_ok-line_comment-in-Line.ensures.steps; moving = refl; outcome = refl; header = refl })

pub returns-in_ok-nag-in-Nag-clause-moved : goal.returns-in_ok-nag-in-Nag-clause-moved
returns-in_ok-nag-in-Nag-clause-moved g c = rw c.in-Nag.is (record { stands = refl; moves = c.in_ok-nag-in-Nag.ensures; moving = refl; outcome = refl; header = refl })

pub returns-in_ok-open-in-Open-clause-moved : goal.returns-in_ok-open-in-Open-clause-moved
returns-in_ok-open-in-Open-clause-moved g c = rw c.in-Open.is (record { stands = refl; moves = c.in_ok-open-in-Open.ensures.steps; moving = refl; outcome = refl; header = refl })

pub returns-in_ok-close-in-Close-clause-moved : goal.returns-in_ok-close-in-Close-clause-moved
returns-in_ok-close-in-Close-clause-moved g c = rw c.in-Close.is (record { stands = refl; moves = c.in_ok-close-in-Close.ensures.steps; moving = refl; outcome = refl; header = refl })

pub returns-in_ok-word-in-Word-clause-moved : goal.returns-in_ok-word-in-Word-clause-moved
returns-in_ok-word-in-Word-clause-moved g c = rw c.in-Word.is (record { stands = refl; moves = c.in_ok-word-in-Word.ensures.steps; moving = refl; outcome = refl; header = refl })
