-- What a reader of movetext keeps, and the state of reading that it stands for.
--   Reading     a state of reading; goes_on, what the elements give from there
--   said_here   a comment added after the one at the cursor
--   Pends       the comments of the lines that are open, one after the other
--   Stands      the reader is in that state
--   fresh       the state before any movetext, after some comments
--   Goes        from one state, after some elements, the others give what they give from another
--   StepsOn     whatever the state was, it is one after that element
--   FailsWith   whatever the state was, nothing is derived with some elements before, or too many variations are open
--   Exceeds     whatever the state was, only a game too large to be read is derived with some elements before
--   AtLimit     no move can be added at the cursor
--   RefusesElements  so it is, by the kind of the fault, unless there was no memory
use Rattle.std.specs.Prelude.{◌≡◌, ◌⊎◌, ◌<◌, ◌≤◌, ℕ, Bool, true, false, is_some, List, [], ◌∷◌, ◌++◌, length, reverse, Option, Some, None, IfSome, ⊤}
use Rattle.chess_types.specs.board.Position.{PositionParts}
use Rattle.chess_types.specs.board.Lines.{last}
use Rattle.chess_items.specs.declared.fault.FaultKind.{FaultKind}
use Rattle.chess_items.specs.declared.fault.FaultKind.TheVariants.{Memory, TooLarge}
use Rattle.chess_draws.specs.Pushes.{most_plies}
use Rattle.chess_tree.specs.Forest.{Forest, Bare, height, moves_held, most_moves}
use Rattle.chess_tree.specs.Comments.{normalised}
use Rattle.chess_tree.specs.GameTree.{TreeParts, moves_along}
use Rattle.chess_tree.specs.WellFormed.{Leads}
use Rattle.chess_pgn.specs.Grammar.{Element, few_are_open, comments_joined}
use Rattle.chess_pgn.specs.steps.Hanging.{hang, say}
use Rattle.chess_pgn.specs.steps.Elements.{Frame, Last, path_of, end_of, run}
use Rattle.chess_pgn.specs.declared.reader.moves.Interrupted.{Interrupted}
use Rattle.chess_pgn.specs.declared.reader.moves.Moves.{Moves}

pub record Reading : Type 0 where
  pub start : PositionParts
  pub comment : List ℕ
  pub forest : Forest
  pub up : List ℕ
  pub last_move : Last
  pub here : PositionParts
  pub lead : List ℕ
  pub interrupted : List Frame

-- what the elements give from a state of reading
abbrev pub goes_on : List Element → Reading → Option (List ℕ × Forest)
goes_on es s = run es s.comment s.forest s.up s.last_move s.here s.lead s.interrupted

-- no line is interrupted
abbrev pub is_nil : List Interrupted → Bool
is_nil [] = true
is_nil (i ∷ is) = false

-- ---- comments

-- at the root, or at a node
abbrev pub comment_at : List ℕ → List ℕ → List ℕ → List ℕ
comment_at [] comment text = comments_joined comment text
comment_at (k ∷ path) comment text = comment

-- the same below the root
abbrev pub forest_at : List ℕ → List ℕ → Forest → Forest
forest_at [] text f = f
forest_at (k ∷ path) text f = hang (k ∷ path) (say text) f

abbrev pub said_here : List ℕ → TreeParts → TreeParts
said_here text t =
    record { tree = record { start = t.tree.start; comment = comment_at t.path t.tree.comment text; below = forest_at t.path text t.tree.below }; path = t.path }

-- each comment is after a space
abbrev pub IsSpaced : List ℕ → Type 0
IsSpaced [] = ⊤
IsSpaced (b ∷ text) = b ≡ 32

-- the comments of the open lines, the innermost last, with what else is kept of each
abbrev pub Pends : List ℕ → List Frame → List Interrupted → Type 0
Pends texts [] [] = ⊤
Pends texts [] (i ∷ is) = ⊥
Pends texts (x ∷ xs) [] = ⊥
Pends texts (x ∷ xs) (i ∷ is) =
    (outer text : List ℕ) × (texts ≡ outer ++ text) × (i.from ≡ length outer) × IsSpaced text × (x.lead ≡ normalised text)
    × (i.depth ≡ length x.up) × (i.place ≡ x.place) × Pends outer xs is

-- ---- places

-- the position after the moves on the way to a place
abbrev pub position_at : PositionParts → Forest → List ℕ → PositionParts
position_at start f path = last (record { start = start; moves = moves_along path f })

-- an interrupted line is in the tree
pub record IsFrame (start : PositionParts) (f : Forest) (x : Frame) : Type 0 where
  pub there : Leads (path_of x) f
  pub here : x.here ≡ position_at start f (path_of x)
  pub before : x.before ≡ position_at start f x.up

-- each of them is
abbrev pub AreFrames : PositionParts → Forest → List Frame → Type 0
AreFrames start f [] = ⊤
AreFrames start f (x ∷ xs) = IsFrame start f x × AreFrames start f xs

-- each open line goes on from a place below the one that it interrupts
abbrev pub Nested : List ℕ → List Frame → Type 0
Nested up [] = ⊤
Nested up (x ∷ xs) = ((more : List ℕ) × (up ≡ x.up ++ more)) × Nested x.up xs

-- the game's own line begins at the root
abbrev pub BeginsAtRoot : Last → List Frame → List ℕ → Type 0
BeginsAtRoot (Some x) st up = ⊤
BeginsAtRoot None [] up = up ≡ []
BeginsAtRoot None (x ∷ xs) up = ⊤

-- ---- the reader

-- what the reader keeps is that state of reading
pub record HoldsReading (t : TreeParts) (lines : List Interrupted) (has_move : Bool) (comments : List ℕ) (behind : ℕ) (s : Reading) : Type 0 where
  pub start : t.tree.start ≡ s.start
  pub comment : t.tree.comment ≡ s.comment
  pub forest : t.tree.below ≡ s.forest
  pub path : t.path ≡ end_of s.up s.last_move
  pub played : has_move ≡ is_some s.last_move
  pub here : s.here ≡ position_at s.start s.forest (end_of s.up s.last_move)
  pub before : IfSome s.last_move (λ x. x.1 ≡ position_at s.start s.forest s.up)
  pub begins : BeginsAtRoot s.last_move s.interrupted s.up
  pub nested : Nested s.up s.interrupted
  pub there : Leads (end_of s.up s.last_move) s.forest
  pub frames : AreFrames s.start s.forest s.interrupted
  pub outer : List ℕ
  pub text : List ℕ
  pub parts : comments ≡ outer ++ text
  pub from : behind ≡ length outer
  pub spaced : IsSpaced text
  pub lead : s.lead ≡ normalised text
  pub pends : Pends outer s.interrupted (reverse lines)

abbrev pub Stands : {A : Type 0} → Moves A → Reading → Type 0
Stands moves s = HoldsReading moves.analysis moves.interrupted.items moves.played moves.comments.items moves.from s

pub record Goes (some : List Element) (s s' : Reading) : Type 0 where
  pub start : s'.start ≡ s.start
  pub given : (es : List Element) → goes_on (some ++ es) s ≡ goes_on es s'
  pub few : (es : List Element) → few_are_open (length s.interrupted) (some ++ es) ≡ few_are_open (length s'.interrupted) es

abbrev pub FailsWith : {A : Type 0} → List Element → Moves A → Type 0
FailsWith some moves = (s : Reading) → Stands moves s → (es : List Element) → (goes_on (some ++ es) s ≡ None) ⊎ (few_are_open (length s.interrupted) (some ++ es) ≡ false)

abbrev pub Exceeds : {A : Type 0} → List Element → Moves A → Type 0
Exceeds some moves =
    (s : Reading) → Stands moves s → (es : List Element) (c : List ℕ) (f : Forest) → goes_on (some ++ es) s ≡ Some (c, f) → (most_plies < height f) ⊎ (most_moves < moves_held f)

abbrev pub RefusesElements : {A : Type 0} → List Element → FaultKind → Moves A → Type 0
RefusesElements some Memory moves = ⊤
RefusesElements some TooLarge moves = Exceeds some moves
RefusesElements some kind moves = FailsWith some moves

-- no move is added at the cursor: it is as deep as any, or the tree holds as many as any
abbrev pub AtLimit : TreeParts → Type 0
AtLimit t = (most_plies ≤ length t.path) ⊎ (most_moves ≤ moves_held t.tree.below)

-- why a move isn't added that is legal
abbrev pub IsRoomFault : FaultKind → Bool → TreeParts → Type 0
IsRoomFault kind legal t = (kind ≡ Memory) ⊎ ((kind ≡ TooLarge) × (legal ≡ true → AtLimit t))

-- a variation is open
abbrev pub FailsHere : {A : Type 0} → Moves A → Type 0
FailsHere moves = (s : Reading) → Stands moves s → goes_on [] s ≡ None

abbrev pub StepsOn : {A : Type 0} → Element → Moves A → Moves A → Type 0
StepsOn e old new = (s : Reading) → Stands old s → (s' : Reading) × Stands new s' × Goes (e ∷ []) s s'

-- The tree of a reader at the end of all lines but the game's own.
abbrev pub IsRead : {A : Type 0} → Moves A → TreeParts → Type 0
IsRead moves t =
    (s : Reading) → Stands moves s → moves.interrupted.items ≡ []
    → (goes_on [] s ≡ Some (t.tree.comment, t.tree.below)) × (t.tree.start ≡ s.start) × (t.path ≡ [])

abbrev pub fresh : PositionParts → List ℕ → Reading
fresh start lead = record { start = start; comment = []; forest = Bare; up = []; last_move = None; here = start; lead = lead; interrupted = [] }

-- a comment before any movetext
abbrev pub IsLed : {A : Type 0} → List ℕ → Moves A → Moves A → Type 0
IsLed text old new = (start : PositionParts) (lead : List ℕ) → Stands old (fresh start lead) → Stands new (fresh start (comments_joined lead text))
