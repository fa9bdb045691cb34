-- The export form of a game (PGN 3.2, 8.2).
--   others_text       the tags whose names are within two bounds
--   other_tags_text   the tags after the seven
--   tags_text         the tags, each on a line of its own (PGN 8.1.1)
--   node_text         a move with its number, where it is due, and its notes
--   moves_text        moves and variations, each after a space
--   movetext          the movetext on one line
--   game_text         the whole
-- A game's text is its tags, an empty line, the movetext in lines of at most 79 bytes, and an empty line.
use Rattle.std.specs.Prelude.{ℕ, ◌||◌, ◌&&◌, not, if◌then◌else◌, Bool, true, false, List, [], ◌∷◌, ◌++◌, Option, Some, None, is_none, codes, bytes_eq, decimal}
use Rattle.std.specs.Cmp.Lexicographic.{slice_cmp}
use Rattle.std.specs.Ordering.{is_lt, nat_cmp}
use Rattle.std.specs.Str.{byte}
use Rattle.chess_types.specs.declared.board.man.Colour.{Colour}
use Rattle.chess_types.specs.declared.board.man.Colour.TheVariants.{White, Black}
use Rattle.chess_types.specs.board.MoveParts.{MoveParts}
use Rattle.chess_types.specs.board.Position.{PositionParts, start}
use Rattle.chess_types.specs.board.After.{after}
use Rattle.chess_items.specs.Items.{is_escapable}
use Rattle.chess_items.specs.declared.outcome.Outcome.{Outcome}
use Rattle.chess_items.specs.Markers.{outcome_text}
use Rattle.chess_tree.specs.Forest.{Forest, Bare, Node, child}
use Rattle.chess_tree.specs.GameTree.{GameTree}
use Rattle.chess_fen.specs.Writing.{written}
use Rattle.chess_san.specs.Writing.{san}
use Rattle.chess_pgn.specs.Games.{Tags, Game}
use Rattle.chess_pgn.specs.Layout.{in_lines}

-- ---- tags

-- a quotation mark and a backslash are written after a backslash (PGN 7)
abbrev pub escaped : List ℕ → List ℕ
escaped [] = []
escaped (b ∷ value) = if is_escapable b then byte "\\" ∷ b ∷ escaped value else b ∷ escaped value

-- a tag in export form (PGN 8.1): `[Name "value"]` and a line feed
abbrev pub tag_text : List ℕ → List ℕ → List ℕ
tag_text name value = codes "[" ++ (name ++ (codes " \"" ++ (escaped value ++ codes "\"]\n")))

-- in ASCII order
abbrev pub is_before : List ℕ → List ℕ → Bool
is_before name next = is_lt (slice_cmp nat_cmp name next)

-- whether a name is this one or comes after it, and comes before the other, if there is one
abbrev pub is_within : (from : List ℕ) → (to : Option (List ℕ)) → List ℕ → Bool
is_within from None name = not (is_before name from)
is_within from (Some to) name = not (is_before name from) && is_before name to

-- those of the tags whose names are within those bounds
abbrev pub others_text : (from : List ℕ) → (to : Option (List ℕ)) → List (List ℕ × List ℕ) → List ℕ
others_text from to [] = []
others_text from to (tag ∷ tags) = (if is_within from to tag.0 then tag_text tag.0 tag.1 else []) ++ others_text from to tags

-- The tags after the seven, by their names in ASCII order (PGN 8.1.1): the others, and the position in which a game begins, unless it is the
-- usual one (PGN 9.7).
abbrev pub other_tags_text : List (List ℕ × List ℕ) → List ℕ → List ℕ
other_tags_text others fen =
    if bytes_eq fen (written start) then others_text [] None others
    else others_text [] (Some (codes "FEN")) others
    ++ (tag_text (codes "FEN") fen
    ++ (others_text (codes "FEN") (Some (codes "SetUp")) others
    ++ (tag_text (codes "SetUp") (codes "1")
    ++ others_text (codes "SetUp") None others)))

-- in the order of PGN 8.1.1, the others after them
abbrev pub tags_text : Tags → Outcome → PositionParts → List ℕ
tags_text tags outcome p =
    tag_text (codes "Event") tags.event
    ++ (tag_text (codes "Site") tags.site
    ++ (tag_text (codes "Date") tags.date
    ++ (tag_text (codes "Round") tags.round
    ++ (tag_text (codes "White") tags.white
    ++ (tag_text (codes "Black") tags.black
    ++ (tag_text (codes "Result") (outcome_text outcome) ++ other_tags_text tags.others (written p)))))))

-- ---- moves

-- one period after White's number, three after Black's, who has one only where it is due (PGN 8.2.2.2)
abbrev pub number_text : Bool → Colour → ℕ → List ℕ
number_text due White number = decimal number ++ codes ". "
number_text true Black number = decimal number ++ codes "... "
number_text false Black number = []

-- annotation numbers (PGN 8.2.4)
abbrev pub nags_text : List ℕ → List ℕ
nags_text [] = []
nags_text (n ∷ nags) = codes " $" ++ (decimal n ++ nags_text nags)

-- a comment, unless it is empty (PGN 5)
abbrev pub comment_text : List ℕ → List ℕ
comment_text [] = []
comment_text (b ∷ text) = codes " {" ++ ((b ∷ text) ++ codes "}")

-- after a space, or a space and a parenthesis
abbrev pub node_text : List ℕ → Bool → PositionParts → MoveParts → List ℕ → List ℕ → List ℕ
node_text opening due p m nags comment = opening ++ (number_text due p.side p.number ++ (san p m ++ (nags_text nags ++ comment_text comment)))

-- a list that isn't empty
abbrev pub is_some_text : List ℕ → Bool
is_some_text [] = false
is_some_text (b ∷ text) = true

-- a move with annotations or a comment
abbrev pub is_noted : List ℕ → List ℕ → Bool
is_noted nags comment = is_some_text nags || is_some_text comment

-- Nodes side by side: the main continuation, the others as variations, and what follows the main continuation; or all of them as
-- variations. A number is due at the beginning, and where something is between two moves.
abbrev pub moves_text : (as_variations : Bool) → (due : Bool) → PositionParts → Forest → List ℕ
moves_text as_variations due p Bare = []
moves_text false due p (Node m nags comment below next) =
    node_text (codes " ") due p m nags comment
    ++ (moves_text true true p next ++ moves_text false (is_noted nags comment || not (is_none (child 0 next))) (after p m) below)
moves_text true due p (Node m nags comment below next) =
    node_text (codes " (") true p m nags comment
    ++ (moves_text false (is_noted nags comment) (after p m) below ++ (codes ")" ++ moves_text true true p next))

-- the comment before the first move, the moves, and how the game ended
abbrev pub movetext : GameTree → Outcome → List ℕ
movetext tree outcome = comment_text tree.comment ++ (moves_text false true tree.start tree.below ++ (codes " " ++ outcome_text outcome))

-- ---- the whole

abbrev pub game_text : Game → List ℕ
game_text game = tags_text game.tags game.outcome game.tree.start ++ 10 ∷ (in_lines (movetext game.tree game.outcome) ++ 10 ∷ 10 ∷ [])
