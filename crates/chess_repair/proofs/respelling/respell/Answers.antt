use Rattle.chess_repair.proofs.LetterLemmas.{in_letters_same, respelled_length}
use Rattle.chess_repair.proofs.respelling.respell.Goals as goal

pub returns-in_err-places-clause-same : goal.returns-in_err-places-clause-same
returns-in_err-places-clause-same g c = in_letters_same c.args.letters c.args.text.now

pub returns-in_err-found-clause-same : goal.returns-in_err-found-clause-same
returns-in_err-found-clause-same g c = in_letters_same c.args.letters c.args.text.now

pub returns-then-is_empty-clause-same : goal.returns-then-is_empty-clause-same
returns-then-is_empty-clause-same g c = in_letters_same c.args.letters c.args.text.now

-- as many bytes are written
pub returns-clause-length : goal.returns-clause-length
returns-clause-length g c = respelled_length c.in-Some.letters c.args.text.now c.in_ok-found.found.text.items c.in_ok-found.ensures

pub returns-clause-same : goal.returns-clause-same
returns-clause-same g c = in_letters_same c.args.letters c.args.text.now
