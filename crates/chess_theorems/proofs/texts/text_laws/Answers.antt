use Rattle.chess_theorems.proofs.TextLemmas.{one_text_one_move, texts_are_short}
use Rattle.chess_theorems.proofs.texts.text_laws.Goals as goal

pub returns : goal.returns
returns c = record { one_move = one_text_one_move; short = texts_are_short }
