-- A search of some roots at one depth, one root after another.
--   Progress    the search as far as it has come
--   IsInRange   what is kept has a value from mated to mating
--   HasBorder   and it's a mate's, or far from any
--   GoesWith    the search is one of a line
--   next_root   the root that is searched next
--   done_of     the best of all roots, once each is searched
use Rattle.std.specs.Prelude.{◌≡◌, ℕ, ◌==◌, Bool, true, if◌then◌else◌, List, length, take, drop, Option, None, IfSome, ℤ}
use Rattle.std.specs.List.{All}
use Rattle.chess_types.specs.board.MoveParts.{MoveParts}
use Rattle.chess_types.specs.board.Legal.{is_legal}
use Rattle.chess_types.specs.board.Lines.{Line, last}
use Rattle.chess_search.specs.Scores.{IsValue, IsApart}
use Rattle.chess_search.specs.Best.{best}

-- a search at one depth: what it searches, how many roots are searched, and the best of them
pub record Progress : Type 0 where
  pub depth : ℕ
  -- draws that may be claimed count as draws
  pub claims : Bool
  pub roots : List MoveParts
  -- how many of the roots were searched, and the best of those with its value
  pub searched : ℕ
  pub kept : Option (MoveParts × ℤ)
  -- how many positions were asked for, with the root of the search
  pub nodes : ℕ

-- what is kept is the value of a position
abbrev pub IsInRange : Option (MoveParts × ℤ) → Type 0
IsInRange kept = IfSome kept (λ k. IsValue k.1)

-- what is kept is clearly a mate, or clearly none
abbrev pub HasBorder : Option (MoveParts × ℤ) → Type 0
HasBorder kept = IfSome kept (λ k. IsApart k.1)

-- the roots are legal moves of the line, and what is kept is the best of those that were searched
pub record GoesWith (line : Line) (p : Progress) : Type 0 where
  pub legal : All (λ m. is_legal (last line) m ≡ true) p.roots
  pub kept : p.kept ≡ best p.claims p.depth line (take p.searched p.roots)

-- alone in a list
abbrev pub next_root : Progress → List MoveParts
next_root p = take 1 (drop p.searched p.roots)

-- the best root, once all are searched
abbrev pub done_of : Progress → Option (MoveParts × ℤ)
done_of p = if p.searched == length p.roots then p.kept else None
