-- A walk with the moves made.
--   Played        a visit, and the line before its move
--   main_played   the moves of a main line alone, from the line before them
--   replays       moves side by side and all that follows them, in the order of a PGN text, each after the line that leads to it
--   Shows         what a step of the walk gives of one
--   GivesPlayed   what one step gives
use Rattle.std.specs.Prelude.{◌≡◌, ℕ, ◌+◌, Bool, true, false, List, [], ◌∷◌, ◌++◌, Option, Some, None, Result, Ok, Err, IfSome}
use Rattle.chess_types.specs.board.MoveParts.{MoveParts}
use Rattle.chess_types.specs.board.Position.{PositionParts}
use Rattle.chess_types.specs.board.After.{after}
use Rattle.chess_types.specs.board.Lines.{Line, extended, last}
use Rattle.chess_san.specs.Writing.{san}
use Rattle.chess_tree.specs.Forest.{Forest, Bare, Node, NodeParts}
use Rattle.chess_walk.specs.Order.{Visit, resumed}

-- a node, and the line that its move goes on from
pub record Played : Type 0 where
  pub before : Line
  pub visit : Visit

-- the main line alone
abbrev pub main_played : Line → (depth : ℕ) → Forest → List Played
main_played line depth Bare = []
main_played line depth (Node m nags comment below next) =
    record {
      before = line;
      visit = record { depth = depth; level = 0; begins = false; again = None; node = record { move = Some m; nags = nags; comment = comment; below = below } };
    }
    ∷ main_played (extended line m) (depth + 1) below

-- Moves side by side, each made after the line. As a line: the first, the others as variations, and what follows the first. As variations:
-- each with all that follows it, before the next.
abbrev pub replays : (as_variations : Bool) → Line → (depth level : ℕ) → Option MoveParts → Forest → List Played
replays as_variations line depth level again Bare = []
replays false line depth level again (Node m nags comment below next) =
    record {
      before = line;
      visit = record { depth = depth; level = level; begins = false; again = again; node = record { move = Some m; nags = nags; comment = comment; below = below } };
    }
    ∷ (replays true line depth (level + 1) None next ++ replays false (extended line m) (depth + 1) level (resumed m next) below)
replays true line depth level again (Node m nags comment below next) =
    record {
      before = line;
      visit = record { depth = depth; level = level; begins = true; again = None; node = record { move = Some m; nags = nags; comment = comment; below = below } };
    }
    ∷ (replays false (extended line m) (depth + 1) level None below ++ replays true line depth level None next)

-- what is given of it: its numbers and its node, the text of its move in standard algebraic notation (PGN 8.2.3), and the position after the move
pub record Shows (depth level : ℕ) (begins : Bool) (node : NodeParts) (text : List ℕ) (position : PositionParts) (p : Played) : Type 0 where
  pub depth_is : depth ≡ p.visit.depth
  pub level_is : level ≡ p.visit.level
  pub begins_is : begins ≡ p.visit.begins
  pub node_is : node ≡ p.visit.node
  pub text_is : IfSome p.visit.node.move (λ m. text ≡ san (last p.before) m)
  pub position_is : IfSome p.visit.node.move (λ m. position ≡ after (last p.before) m)

-- The first of the moves that are left, or none where none is. Where there is no memory to go on with, the walk is over.
abbrev pub GivesPlayed : {V E : Type 0} → (V → Played → Type 0) → List Played → Option (Result V E) → List Played → Type 0
GivesPlayed shows left None rest = (left ≡ []) × (rest ≡ [])
GivesPlayed shows left (Some (Ok given)) rest = (p : Played) × (left ≡ p ∷ rest) × shows given p
GivesPlayed shows left (Some (Err fault)) rest = rest ≡ []
