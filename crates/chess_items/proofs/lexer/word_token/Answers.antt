use Rattle.std.proofs.Common.{rules}
use Rattle.chess_items.proofs.ItemLemmas.{letter_word}
use Rattle.chess_items.proofs.lexer.word_token.Goals as goal

pub returns-then-not-has : goal.returns-then-not-has
returns-then-not-has c = letter_word _ _ _ c.in-Some.ensures.cases.0 (search rules)
