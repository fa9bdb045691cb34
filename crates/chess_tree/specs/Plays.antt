-- What playing a move at the cursor returns, and where it leads.
--   add_answer    the answer where there is memory and the move is added whether or not a child has it: the first fault that applies
--   play_answer   the same where a child that has the move is stepped to
--   played        the tree and the cursor once a move is played
--   is_new        no child has the move yet, so that a node is added
--   IsAnswer      `Memory` is returned only where nothing else is wrong
--   done          that it is done, or why not
--   Adds, Plays   what the calls return and leave
use Rattle.std.specs.Prelude.{◌≡◌, ◌⊎◌, ℕ, nat_le, Bool, false, not, is_some, if◌then◌else◌, [], ◌∷◌, ◌++◌, length, Option, None, Some, Result, Ok, Err, IfOk, OnErr, OnOk}
use Rattle.chess_types.specs.board.MoveParts.{MoveParts}
use Rattle.chess_types.specs.board.Legal.{is_legal}
use Rattle.chess_types.specs.board.Lines.{extended, last}
use Rattle.chess_draws.specs.Pushes.{most_plies}
use Rattle.chess_tree.specs.declared.fault.PlayFault.{PlayFault}
use Rattle.chess_tree.specs.declared.fault.PlayFault.TheVariants.{Illegal, TooLong, Full, Memory}
use Rattle.chess_tree.specs.Forest.{moves_held, most_moves}
use Rattle.chess_tree.specs.GameTree.{TreeParts, added, at_path, find, line_to, nodes_here}

-- a legal move by the child that has it: a new one is added to a node less than 20,000 plies deep, in a tree of fewer than 1,000,000 moves
abbrev pub legal_answer : TreeParts → Option ℕ → Result (Unit {0}) PlayFault
legal_answer t (Some place) = Ok tt
legal_answer t None = if nat_le most_plies (length t.path) then Err TooLong else (if nat_le most_moves (moves_held t.tree.below) then Err Full else Ok tt)

-- how `add` is answered where memory is found
abbrev pub add_answer : TreeParts → MoveParts → Result (Unit {0}) PlayFault
add_answer t m = if not (is_legal (last (line_to t)) m) then Err Illegal else legal_answer t None

-- how `play` is answered where memory is found
abbrev pub play_answer : TreeParts → MoveParts → Result (Unit {0}) PlayFault
play_answer t m = if not (is_legal (last (line_to t)) m) then Err Illegal else legal_answer t (find m (nodes_here t))

-- the cursor on the child at that place, else on a new one with the move
abbrev pub led_to : MoveParts → TreeParts → Option ℕ → TreeParts
led_to m t (Some place) = at_path (t.path ++ place ∷ []) t
led_to m t None = added m t

-- to the first child that has the move, else to a new one
abbrev pub played : MoveParts → TreeParts → TreeParts
played m t = led_to m t (find m (nodes_here t))

-- no child has the move yet, so that a node is added
abbrev pub is_new : TreeParts → MoveParts → Bool
is_new t m = not (is_some (find m (nodes_here t)))

-- this answer, or for want of memory `Memory`
abbrev pub IsAnswer : Result (Unit {0}) PlayFault → Result (Unit {0}) PlayFault → Type 0
IsAnswer answer result = (result ≡ answer) ⊎ ((answer ≡ Ok tt) × (result ≡ Err Memory))

-- A move is added and stepped into. All is as before where it is refused.
pub record Adds (m : MoveParts) (old : TreeParts) (result : Result (Unit {0}) PlayFault) (new : TreeParts) : Type 0 where
  pub answer : IsAnswer (add_answer old m) result
  pub ok : OnOk result (new ≡ added m old)
  pub line : OnOk result (line_to new ≡ extended (line_to old) m)
  pub err : OnErr result (new ≡ old)

-- that it is done, or why not
abbrev pub done : Result Bool PlayFault → Result (Unit {0}) PlayFault
done (Ok _) = Ok tt
done (Err fault) = Err fault

-- A move is played, and whether a node was added for it is returned. A step to a child that has it takes no memory. All is as before where it is refused.
pub record Plays (m : MoveParts) (old : TreeParts) (result : Result Bool PlayFault) (new : TreeParts) : Type 0 where
  pub answer : IsAnswer (play_answer old m) (done result)
  pub adds : IfOk result (λ is_added. is_added ≡ is_new old m)
  pub found : (place : ℕ) → find m (nodes_here old) ≡ Some place → result ≡ Ok false
  pub ok : OnOk result (new ≡ played m old)
  pub line : OnOk result (line_to new ≡ extended (line_to old) m)
  pub err : OnErr result (new ≡ old)
