-- Movetext: a line of moves with its annotations, comments and variations, and what it adds to a game (PGN 8.2).
--   Element      what a line is made of, the blanks apart
--   elements     the elements among some items
--   LineSyntax   the syntax of a line; elements_of, its elements
--   Addition     what a stretch of a line adds at the move before it
--   meaning      what a line adds, by the positions before its last move and after it
--   Derives      the elements of a game's own line give its comment and its moves
--   few_are_open no more than 128 variations are open at once
-- A variation replaces the last move of the line around it: its first move is a further child of the same parent. Children are in
-- the order in which their moves begin.
use Rattle.std.specs.Prelude.{◌≡◌, ℕ, suc, ◌-◌, nat_lt, ◌&&◌, Bool, true, List, [], ◌∷◌, ◌++◌, Option, Some, None, Result, Ok, Err}
use Rattle.std.specs.List.{flat_map}
use Rattle.chess_types.specs.board.MoveParts.{MoveParts}
use Rattle.chess_types.specs.board.Position.{PositionParts}
use Rattle.chess_types.specs.board.After.{after}
use Rattle.chess_items.specs.Items as items
use Rattle.chess_items.specs.Items.{Item}
use Rattle.chess_san.specs.declared.fault.SanFault.{SanFault}
use Rattle.chess_san.specs.Naming.{san_reading}
use Rattle.chess_tree.specs.Forest.{Forest, Bare, Node, append}
use Rattle.chess_tree.specs.Comments.{normalised}

-- ---- syntax

pub data Element : Type 0 where
  -- a move number or a period
  Number : Element
  Annotation : ℕ → Element
  -- a comment, in which each run of whitespace is one space
  Remark : List ℕ → Element
  -- the parentheses of a variation
  Open : Element
  Close : Element
  -- a move's text
  Text : List ℕ → Element

-- the element of movetext that an item is
abbrev pub element : Item → List Element
element items.Skipped = Number ∷ []
element (items.Nag n) = Annotation n ∷ []
element (items.Comment text) = Remark (normalised text) ∷ []
element items.Open = Open ∷ []
element items.Close = Close ∷ []
element (items.Word word) = Text word ∷ []
element _ = []

abbrev pub elements : List Item → List Element
elements is = flat_map element is

pub data LineSyntax : Type 0 where
  End : LineSyntax
  Skip : LineSyntax → LineSyntax
  Annotate : ℕ → LineSyntax → LineSyntax
  Say : List ℕ → LineSyntax → LineSyntax
  Play : List ℕ → LineSyntax → LineSyntax
  -- a variation, and the rest of the line around it
  Vary : LineSyntax → LineSyntax → LineSyntax

-- the elements of a line, one after another
abbrev pub elements_of : LineSyntax → List Element
elements_of End = []
elements_of (Skip line) = Number ∷ elements_of line
elements_of (Annotate n line) = Annotation n ∷ elements_of line
elements_of (Say text line) = Remark text ∷ elements_of line
elements_of (Play word line) = Text word ∷ elements_of line
elements_of (Vary variation line) = Open ∷ (elements_of variation ++ Close ∷ elements_of line)

-- `n` are open already
abbrev pub few_are_open : ℕ → List Element → Bool
few_are_open n [] = true
few_are_open n (Open ∷ es) = nat_lt n 128 && few_are_open (suc n) es
few_are_open n (Close ∷ es) = few_are_open (n - 1) es
few_are_open n (Number ∷ es) = few_are_open n es
few_are_open n (Annotation m ∷ es) = few_are_open n es
few_are_open n (Remark text ∷ es) = few_are_open n es
few_are_open n (Text word ∷ es) = few_are_open n es

-- ---- meaning

-- two comments of one move, one after the other
abbrev pub comments_joined : List ℕ → List ℕ → List ℕ
comments_joined [] other = other
comments_joined (b ∷ text) [] = b ∷ text
comments_joined (b ∷ text) (c ∷ other) = (b ∷ text) ++ 32 ∷ c ∷ other

-- Annotations and a comment of the move before, further children beside it, and what follows it.
pub record Addition : Type 0 where
  pub nags : List ℕ
  pub comment : List ℕ
  pub beside : Forest
  pub below : Forest

-- nothing after the move before
abbrev pub nothing : Addition
nothing = record { nags = []; comment = []; beside = Bare; below = Bare }

-- an annotation number before the others
abbrev pub with_annotation : ℕ → Addition → Addition
with_annotation n r = record { nags = n ∷ r.nags; comment = r.comment; beside = r.beside; below = r.below }

-- a comment before the others
abbrev pub said : List ℕ → Addition → Addition
said text r = record { nags = r.nags; comment = comments_joined text r.comment; beside = r.beside; below = r.below }

-- a move, with what its line has after it
abbrev pub with_move_first : MoveParts → Addition → Addition
with_move_first m r = record { nags = []; comment = []; beside = Bare; below = Node m r.nags r.comment r.below r.beside }

-- a comment before the first move's
abbrev pub with_opening_comment : List ℕ → Forest → Forest
with_opening_comment text Bare = Bare
with_opening_comment text (Node m nags comment below next) = Node m nags (comments_joined text comment) below next

-- A variation: its moves, with the comments before the first of them before that move's. One without a move is dropped, and its comments
-- go to the move before it. Annotations before its first move are ignored.
abbrev pub varied : Forest → List ℕ → Addition → Addition
varied Bare text r = said text r
varied (Node m nags comment below next) text r =
    record { nags = r.nags; comment = r.comment; beside = append (with_opening_comment text (Node m nags comment below next)) r.beside; below = r.below }

-- the rest, where the first part has a meaning
infixl 10 ◌>>=◌
abbrev pub ◌>>=◌ : {A B : Type 0} → Option A → (A → Option B) → Option B
(Some x) >>= next = next x
None >>= next = None

-- the move, where a text names one
abbrev pub ok_move : Result MoveParts SanFault → Option MoveParts
ok_move (Ok m) = Some m
ok_move (Err fault) = None

-- the move that a text names (PGN 8.2.3)
abbrev pub move_in : PositionParts → List ℕ → Option MoveParts
move_in p word = ok_move (san_reading p word)

-- There is no position before the last move where the line has none so far; no variation may come there.
abbrev pub meaning : LineSyntax → Option PositionParts → PositionParts → Option Addition
meaning End before here = Some nothing
meaning (Skip line) before here = meaning line before here
meaning (Annotate n line) before here = meaning line before here >>= λ r. Some (with_annotation n r)
meaning (Say text line) before here = meaning line before here >>= λ r. Some (said text r)
meaning (Play word line) before here =
    move_in here word >>= λ m. meaning line (Some here) (after here m) >>= λ r. Some (with_move_first m r)
meaning (Vary variation line) None here = None
meaning (Vary variation line) (Some p) here =
    meaning variation None p >>= λ v. meaning line (Some p) here >>= λ r. Some (varied v.below v.comment r)

-- The game's own line, in the position in which it begins and after the comments before its movetext, gives the comment before the first move
-- and the moves.
pub record Derives (es : List Element) (start : PositionParts) (before comment : List ℕ) (moves : Forest) : Type 0 where
  pub line : LineSyntax
  pub spelled : es ≡ elements_of line
  pub part : Addition
  pub means : meaning line None start ≡ Some part
  pub remarks : comment ≡ comments_joined before part.comment
  pub tree : moves ≡ part.below
