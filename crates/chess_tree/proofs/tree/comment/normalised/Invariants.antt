use Rattle.std.proofs.Common.{◌≡◌, length}
use Rattle.byte_streams.specs.Words.{words}
use Rattle.chess_tree.specs.Comments.{blanks, normalised}
use Rattle.chess_tree.proofs.CommentLemmas.{behind}
use Rattle.chess_tree.proofs.tree.comment.normalised.Given as goal

abbrev pub invariant-loop-word : goal.invariant-loop-word
invariant-loop-word g l = behind l.comment.items (words blanks l.rest) ≡ normalised l.text

abbrev pub decreases-loop-word : goal.decreases-loop-word
decreases-loop-word g l = length (words blanks l.rest)
