-- The moves of many pawns, counted at once: their squares shifted.
--   shifted      a square lies so much forward of one that passes a test
--   left_file, right_file   the file at a side's left, and at its right: 7, or 9 numbers forward from there lead over the edge
--   square_ahead      the square one ahead; may_step_two, a pawn that begins on its rank, with no man there
--   single_steps, double_steps, left_captures, right_captures   the squares to which one of the pawns steps, steps twice, captures
--   pair      a pawn and a square to which it goes, not en passant; pairs, how many there are; plain_moves, how many moves these are
--   size      how many squares pass a test; pawn_moves_to, how many moves of pawns go to these
--   AreFree   pawns of the side to move that aren't pinned and take nothing en passant
use Rattle.std.specs.Prelude.{ℕ, ◌≡◌, ◌+◌, ◌-◌, ◌*◌, ◌==◌, ◌<◌, nat_le, nat_lt, Bool, true, false, not, ◌&&◌, cond, is_none, sum_by}
use Rattle.chess_types.specs.declared.board.man.Colour.{Colour}
use Rattle.chess_types.specs.declared.board.man.Colour.TheVariants.{White, Black}
use Rattle.chess_types.specs.declared.board.man.Kind.TheVariants.{Pawn}
use Rattle.chess_types.specs.board.Squares.{file_of, rank_of, squares}
use Rattle.chess_types.specs.board.Position.{PositionParts, man_on, cell_of}
use Rattle.chess_types.specs.board.Pseudo.{is_capturable, pawn_rank}
use Rattle.chess_moves.specs.steps.Targets.{is_plain_target, is_passing_target, promotes}
use Rattle.chess_attack.specs.Pins.{is_pinned}

-- the square so much behind b is on the board and passes the test
abbrev pub shifted : Colour → ℕ → (ℕ → Bool) → ℕ → Bool
shifted White by test b = nat_le by b && test (b - by)
shifted Black by test b = nat_lt (b + by) 64 && test (b + by)

-- the file at the side's left, from which 7 numbers forward lead over the edge
abbrev pub left_file : Colour → ℕ
left_file White = 0
left_file Black = 7

-- the file at its right, from which 9 numbers forward do
abbrev pub right_file : Colour → ℕ
right_file White = 7
right_file Black = 0

-- the square one ahead, where there is one
abbrev pub square_ahead : Colour → ℕ → ℕ
square_ahead White a = a + 8
square_ahead Black a = a - 8

-- a pawn that begins on its rank, with no man on the square ahead
abbrev pub may_step_two : PositionParts → ℕ → Bool
may_step_two p a = rank_of a == pawn_rank p.side && is_none (man_on p (square_ahead p.side a))

-- the squares to which one of the pawns steps
abbrev pub single_steps : PositionParts → (ℕ → Bool) → (ℕ → Bool) → ℕ → Bool
single_steps p free mask b = shifted p.side 8 free b && (is_none (man_on p b) && mask b)

-- steps twice
abbrev pub double_steps : PositionParts → (ℕ → Bool) → (ℕ → Bool) → ℕ → Bool
double_steps p free mask b = shifted p.side 16 (λ a. free a && may_step_two p a) b && (is_none (man_on p b) && mask b)

-- captures to the left
abbrev pub left_captures : PositionParts → (ℕ → Bool) → (ℕ → Bool) → ℕ → Bool
left_captures p free mask b = shifted p.side 7 (λ a. free a && not (file_of a == left_file p.side)) b && (is_capturable p.side (man_on p b) && mask b)

-- captures to the right
abbrev pub right_captures : PositionParts → (ℕ → Bool) → (ℕ → Bool) → ℕ → Bool
right_captures p free mask b = shifted p.side 9 (λ a. free a && not (file_of a == right_file p.side)) b && (is_capturable p.side (man_on p b) && mask b)

-- a pawn, and a square to which it goes, not en passant
abbrev pub pair : PositionParts → (ℕ → Bool) → (ℕ → Bool) → ℕ → ℕ → Bool
pair p free mask a b = free a && (is_plain_target p Pawn a b && mask b)

-- how many such pairs there are
abbrev pub pairs : PositionParts → (ℕ → Bool) → (ℕ → Bool) → ℕ
pairs p free mask = sum_by (λ a. sum_by (λ b. cond (pair p free mask a b) 1 0) squares) squares

-- and how many moves: four to the last rank
abbrev pub plain_moves : PositionParts → (ℕ → Bool) → (ℕ → Bool) → ℕ
plain_moves p free mask = pairs p free mask + 3 * pairs p free (λ b. mask b && promotes p.side Pawn b)

-- how many squares of the board pass a test
abbrev pub size : (ℕ → Bool) → ℕ
size test = sum_by (λ b. cond (test b) 1 0) squares

-- how many moves of pawns go to these: four to each on the last rank
abbrev pub pawn_moves_to : Colour → (ℕ → Bool) → ℕ
pawn_moves_to side test = size test + 3 * size (λ b. test b && promotes side Pawn b)

-- pawns of the side to move that aren't pinned and take nothing en passant
pub record AreFree (p : PositionParts) (free : ℕ → Bool) : Type 0 where
  pub here : (a : ℕ) → a < 64 → free a ≡ true → man_on p a ≡ cell_of p.side Pawn
  pub unpinned : (a : ℕ) → a < 64 → free a ≡ true → is_pinned (man_on p) p.side a ≡ false
  pub no_passing : (a b : ℕ) → a < 64 → b < 64 → free a ≡ true → is_passing_target p a b ≡ false
