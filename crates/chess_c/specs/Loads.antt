-- A game of a text, loaded into what a slot holds.
--   Loads   the board has the tree of the game at the start of the text, and the heading what the text says beside (`LoadsFrom`); an empty slot is answered so
--   LoadsAsItComes   the same of a text of which only the first bytes are known, or all (`LoadsNext`)
use Rattle.std.specs.Prelude.{◌≡◌, ℕ, Bool, List, Option, Some, None}
use Rattle.chess_tree.specs.GameTree.{TreeParts}
use Rattle.chess_bindings.specs.Codes.{empty_slot}
use Rattle.chess_bindings.specs.Headings.{HeadingParts}
use Rattle.chess_bindings.specs.Loads.{LoadsFrom}
use Rattle.chess_bindings.specs.Next.{LoadsNext}
use Rattle.chess_c.specs.Held.{Held, with_board, with_heading}

-- the game is there, or none is
abbrev pub Loads : List ℕ → Option Held → (code used used' : ℕ) → Option Held → Type 0
Loads text None code used used' new = (code ≡ empty_slot) × (new ≡ None) × (used' ≡ used)
Loads text (Some held) code used used' new =
    (board : TreeParts) × (heading : HeadingParts) × LoadsFrom text held.board held.heading code used used' board heading
    × (new ≡ Some (with_heading heading (with_board board held)))

-- as its bytes come
abbrev pub LoadsAsItComes : List ℕ → Bool → Option Held → (code used used' : ℕ) → Option Held → Type 0
LoadsAsItComes text is_last None code used used' new = (code ≡ empty_slot) × (new ≡ None) × (used' ≡ used)
LoadsAsItComes text is_last (Some held) code used used' new =
    (board : TreeParts) × (heading : HeadingParts) × LoadsNext text is_last held.board held.heading code used used' board heading
    × (new ≡ Some (with_heading heading (with_board board held)))
