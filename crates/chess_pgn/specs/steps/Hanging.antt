-- Where a part of a line is added to a forest: at the end of a path.
--   plus   two parts, one after the other
--   hang   a forest with a part added at a path; at the root only what is below counts
use Rattle.std.specs.Prelude.{ℕ, zero, suc, List, [], ◌∷◌, ◌++◌}
use Rattle.chess_types.specs.board.MoveParts.{MoveParts}
use Rattle.chess_tree.specs.Forest.{Forest, Bare, Node, append}
use Rattle.chess_tree.specs.Edits.{inside}
use Rattle.chess_pgn.specs.Grammar.{Addition, comments_joined}

abbrev pub plus : Addition → Addition → Addition
plus r s = record { nags = r.nags ++ s.nags; comment = comments_joined r.comment s.comment; beside = append r.beside s.beside; below = append r.below s.below }

-- an annotation number
abbrev pub nag : ℕ → Addition
nag n = record { nags = n ∷ []; comment = []; beside = Bare; below = Bare }

-- a comment
abbrev pub say : List ℕ → Addition
say text = record { nags = []; comment = text; beside = Bare; below = Bare }

-- nodes beside the one at the path
abbrev pub beside : Forest → Addition
beside f = record { nags = []; comment = []; beside = f; below = Bare }

-- nodes below it
abbrev pub below : Forest → Addition
below f = record { nags = []; comment = []; beside = Bare; below = f }

-- a move below it
abbrev pub leaf : MoveParts → Addition
leaf m = below (Node m [] [] Bare Bare)

-- the same with what follows the move
abbrev pub grown : MoveParts → Addition → Addition
grown m r = below (Node m r.nags r.comment r.below r.beside)

-- the node at a place, with what it becomes
abbrev pub on_node : ℕ → Addition → Forest → Forest
on_node i r Bare = Bare
on_node zero r (Node m n c b next) = Node m (n ++ r.nags) (comments_joined c r.comment) (append b r.below) next
on_node (suc i) r (Node m n c b next) = Node m n c b (on_node i r next)

abbrev pub hang : List ℕ → Addition → Forest → Forest
hang [] r f = append f r.below
hang (i ∷ []) r f = append (on_node i r f) r.beside
hang (i ∷ j ∷ p) r f = inside i (hang (j ∷ p) r) f
