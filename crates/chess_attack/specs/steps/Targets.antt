-- The squares that a man attacks, gathered in a set of squares.
--   Grows                            a set grows by the squares that pass a test
--   lands_aside                     a leap to either side; lands_around, also upwards or downwards
--   lands_king, lands_pawn          one of the leaps of a king and of a pawn
--   slides_along                    a kind slides to a square along an axis; slides_from, along one of the four
use Rattle.std.specs.Prelude.{ℕ, ◌≡◌, ◌<◌, Bool, ◌&&◌, ◌||◌}
use Rattle.std.specs.Ordering.{nat_cmp}
use Rattle.std.specs.FinSet.{FinSet, contains}
use Rattle.chess_types.specs.declared.board.axis.Axis.{Axis}
use Rattle.chess_types.specs.declared.board.axis.Axis.TheVariants.{Rank, File, Rising, Falling}
use Rattle.chess_types.specs.declared.board.man.Colour.{Colour}
use Rattle.chess_types.specs.declared.board.man.Kind.{Kind}
use Rattle.chess_types.specs.board.Board.{Men}
use Rattle.chess_types.specs.board.Attack.{slides}
use Rattle.chess_attack.specs.declared.way.Way.{Way}
use Rattle.chess_attack.specs.declared.way.Way.TheVariants.{Up, Down}
use Rattle.chess_attack.specs.steps.Marks.{reaches}
use Rattle.chess_attack.specs.steps.Leaps.{lands, forward}

-- the new set has the squares of the old, and those that pass the test
abbrev pub Grows : FinSet nat_cmp → FinSet nat_cmp → (ℕ → Bool) → Type 0
Grows old new test = (s : ℕ) → s < 64 → contains new s ≡ (contains old s || test s)

-- s is so many files and ranks from `at`, to either side
abbrev pub lands_aside : ℕ → Way → ℕ → ℕ → ℕ → Bool
lands_aside files along ranks at s = lands Up files along ranks at s || lands Down files along ranks at s

-- to either side, upwards or downwards
abbrev pub lands_around : ℕ → ℕ → ℕ → ℕ → Bool
lands_around files ranks at s = lands_aside files Up ranks at s || lands_aside files Down ranks at s

-- one of the eight squares of a king
abbrev pub lands_king : ℕ → ℕ → Bool
lands_king at s = lands_around 1 1 at s || lands_aside 1 Up 0 at s || lands Up 0 Up 1 at s || lands Up 0 Down 1 at s

-- one of the two squares that a pawn attacks
abbrev pub lands_pawn : Colour → ℕ → ℕ → Bool
lands_pawn colour at s = lands_aside 1 (forward colour) 1 at s

-- the kind moves along the axis, and s is on a half of it, with no man before it
abbrev pub slides_along : Kind → Men → Axis → ℕ → ℕ → Bool
slides_along kind man_on axis at s = slides kind axis && (reaches man_on axis Up at s || reaches man_on axis Down at s)

-- along one of the four axes
abbrev pub slides_from : Kind → Men → ℕ → ℕ → Bool
slides_from kind man_on at s =
    slides_along kind man_on Rank at s || slides_along kind man_on File at s || slides_along kind man_on Rising at s || slides_along kind man_on Falling at s
