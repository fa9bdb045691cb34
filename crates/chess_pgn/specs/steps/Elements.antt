-- Elements from left to right, with a place in the tree and the lines that are open.
--   Frame   a line that a variation interrupts
--   run     what the elements from a moment on give: the comment before the first move, and the moves
use Rattle.std.specs.Prelude.{ℕ, List, [], ◌∷◌, ◌++◌, Option, Some, None}
use Rattle.chess_types.specs.board.Position.{PositionParts}
use Rattle.chess_types.specs.board.After.{after}
use Rattle.chess_tree.specs.Forest.{Forest, below_at, count}
use Rattle.chess_pgn.specs.Grammar.{Element, Number, Annotation, Remark, Open, Close, Text, comments_joined, move_in, ◌>>=◌}
use Rattle.chess_pgn.specs.steps.Hanging.{hang, leaf, nag, say}

-- where its last move is, the positions before and after it, and its comments, which it doesn't have yet
pub record Frame : Type 0 where
  pub up : List ℕ
  pub place : ℕ
  pub before : PositionParts
  pub here : PositionParts
  pub lead : List ℕ

-- the path to the last move of an interrupted line
abbrev pub path_of : Frame → List ℕ
path_of x = x.up ++ x.place ∷ []

-- the last move of a line, by its place and the position before it
abbrev pub Last : Type 0
Last = Option (ℕ × PositionParts)

-- that move
abbrev pub last_of : Frame → Last
last_of x = Some (x.place, x.before)

-- the path to the last move, or to where its line begins
abbrev pub end_of : List ℕ → Last → List ℕ
end_of up None = up
end_of up (Some x) = up ++ x.0 ∷ []

-- the position before the last move of a line, where it has one
abbrev pub before_of : Last → Option PositionParts
before_of None = None
before_of (Some x) = Some x.1

-- The comment before the first move, the moves, the path to the parent of the last move, that move, the position here, its comments, and the
-- open lines.
abbrev pub run : List Element → List ℕ → Forest → List ℕ → Last → PositionParts → List ℕ → List Frame → Option (List ℕ × Forest)
run [] c f up None here lead [] = Some (comments_joined c lead, f)
run [] c f up (Some x) here lead [] = Some (c, hang (up ++ x.0 ∷ []) (say lead) f)
run [] c f up last here lead (x ∷ xs) = None
run (Number ∷ es) c f up last here lead st = run es c f up last here lead st
run (Annotation n ∷ es) c f up None here lead st = run es c f up None here lead st
run (Annotation n ∷ es) c f up (Some x) here lead st = run es c (hang (up ++ x.0 ∷ []) (nag n) f) up (Some x) here lead st
run (Remark t ∷ es) c f up last here lead st = run es c f up last here (comments_joined lead t) st
run (Text w ∷ es) c f up None here lead [] =
    move_in here w >>= λ m. run es (comments_joined c lead) (hang up (leaf m) f) up (Some (count (below_at up f), here)) (after here m) [] []
run (Text w ∷ es) c f up None here lead (x ∷ xs) =
    move_in here w >>= λ m. run es c (hang up (leaf m) f) up (Some (count (below_at up f), here)) (after here m) lead (x ∷ xs)
run (Text w ∷ es) c f up (Some x) here lead st =
    let p : List ℕ = up ++ x.0 ∷ [] in
    let g : Forest = hang p (say lead) f in
    move_in here w >>= λ m. run es c (hang p (leaf m) g) p (Some (count (below_at p g), here)) (after here m) [] st
run (Open ∷ es) c f up None here lead st = None
run (Open ∷ es) c f up (Some x) here lead st = run es c f up None x.1 [] (record { up = up; place = x.0; before = x.1; here = here; lead = lead } ∷ st)
run (Close ∷ es) c f up last here lead [] = None
run (Close ∷ es) c f up None here lead (x ∷ xs) = run es c f x.up (last_of x) x.here (comments_joined x.lead lead) xs
run (Close ∷ es) c f up (Some y) here lead (x ∷ xs) = run es c (hang (up ++ y.0 ∷ []) (say lead) f) x.up (last_of x) x.here x.lead xs
