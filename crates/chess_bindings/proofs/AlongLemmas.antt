-- The way from a tree's root to its cursor, move by move.
use Rattle.std.proofs.Common.{◌≡◌, ℕ, zero, suc, ◌+◌, ◌<◌, ◌≤◌, true, List, [], ◌∷◌, ◌++◌, drop, length, Option, Some, None, refl, sym, ap, subst, ◌∙◌, arith, append_assoc, append-nil, length-append}
use Rattle.std.specs.List.{slice_get}
use Rattle.std.specs.Option.{option_to_list}
use Rattle.chess_types.specs.board.MoveParts.{MoveParts}
use Rattle.chess_types.specs.board.Position.{PositionParts}
use Rattle.chess_types.specs.board.After.{after}
use Rattle.chess_types.specs.board.Legal.{is_legal}
use Rattle.chess_types.specs.board.Lines.{Line, extended, last}
use Rattle.chess_types.proofs.PlayLaws.{last_extended}
use Rattle.chess_tree.specs.Forest.{Forest, Bare, Node, NodeParts, below_child, child, count}
use Rattle.chess_tree.specs.GameTree.{TreeParts, line_to, move_of, moves_along, root_node}
use Rattle.chess_tree.specs.WellFormed.{AreSound, IsGameTree, Leads}

-- ---- places of a path

drop_at : (path : List ℕ) (k place : ℕ) → slice_get path k ≡ Some place → drop k path ≡ place ∷ drop (k + 1) path
drop_at [] k place at = absurd cc
drop_at (x ∷ path) zero place at = ap (λ (y : ℕ). y ∷ path) (some_is x place at)
  where
    some_is : (x y : ℕ) → Some x ≡ Some y → x ≡ y
    some_is x y e = cc
drop_at (x ∷ path) (suc k) place at =
    let more : suc k + 1 ≡ suc (k + 1) = omega arith in
    drop_at path k place at ∙ ap (λ (n : ℕ). place ∷ drop n (x ∷ path)) (sym more)

drop_past : (path : List ℕ) (k : ℕ) → length path ≤ k → drop k path ≡ []
drop_past [] zero le = refl
drop_past [] (suc k) le = refl
drop_past (x ∷ path) zero le = absurd (omega (arith, le))
drop_past (x ∷ path) (suc k) le = drop_past path k (omega (arith, le))

pub has_place : (path : List ℕ) (k : ℕ) → k < length path → slice_get path k ≡ None → ⊥
has_place [] k lt none = absurd (omega (arith, lt))
has_place (x ∷ path) zero lt none = absurd cc
has_place (x ∷ path) (suc k) lt none = has_place path k (omega (arith, lt)) none

-- ---- a child, by its place

pub has_child : (k : ℕ) (f : Forest) → k < count f → child k f ≡ None → ⊥
has_child k Bare lt none = absurd (omega (arith, lt))
has_child zero (Node m nags comment below next) lt none = absurd cc
has_child (suc k) (Node m nags comment below next) lt none = has_child k next (omega (arith, lt)) none

some_node : (x y : NodeParts) → Some x ≡ Some y → x ≡ y
some_node x y e = cc

some_move : (x y : MoveParts) → Some x ≡ Some y → x ≡ y
some_move x y e = cc

none_move : (x : MoveParts) → Some x ≡ None → ⊥
none_move x e = absurd cc

-- what a node is among the others
pub record IsChild (p : PositionParts) (k : ℕ) (f : Forest) (n : NodeParts) (m : MoveParts) : Type 0 where
  pub move : move_of k f ≡ Some m
  pub below : below_child k f ≡ n.below
  pub legal : is_legal p m ≡ true
  pub sound : AreSound (after p m) n.below

child_is : (p : PositionParts) (k : ℕ) (f : Forest) (n : NodeParts) (m : MoveParts) → AreSound p f → child k f ≡ Some n → n.move ≡ Some m → IsChild p k f n m
child_is p k Bare n m sound there move = absurd cc
child_is p zero (Node x nags comment below next) n m sound there move =
    let s : record { move = Some x; nags = nags; comment = comment; below = below } ≡ n = some_node _ n there in
    let e : x ≡ m = some_move x m (ap (λ (y : NodeParts). y.move) s ∙ move) in
    record {
      move = ap (λ (y : MoveParts). Some y) e;
      below = ap (λ (y : NodeParts). y.below) s;
      legal = subst (λ (y : MoveParts). is_legal p y ≡ true) e sound.0;
      sound = subst (λ (y : NodeParts). AreSound (after p m) y.below) s (subst (λ (y : MoveParts). AreSound (after p y) below) e sound.2);
    }
child_is p (suc k) (Node x nags comment below next) n m sound there move =
    let c = child_is p k next n m sound.3 there move in
    record { move = c.move; below = c.below; legal = c.legal; sound = c.sound }

pub child_move : (k : ℕ) (f : Forest) (n : NodeParts) → child k f ≡ Some n → n.move ≡ None → ⊥
child_move k Bare n there none = absurd cc
child_move zero (Node x nags comment below next) n there none =
    let s : record { move = Some x; nags = nags; comment = comment; below = below } ≡ n = some_node _ n there in
    none_move x (ap (λ (y : NodeParts). y.move) s ∙ none)
child_move (suc k) (Node x nags comment below next) n there none = child_move k next n there none

-- ---- the way

-- the line has so many moves of the way, and the others lead on from the nodes below
pub record Along (t : TreeParts) (line : Line) (below : Forest) (ply : ℕ) : Type 0 where
  pub rest : line_to t ≡ record { start = line.start; moves = line.moves ++ moves_along (drop ply t.path) below }
  pub sound : AreSound (last line) below
  pub leads : Leads (drop ply t.path) below
  pub size : length line.moves ≡ ply

pub along_start : (t : TreeParts) (line : Line) → line ≡ record { start = t.tree.start; moves = [] } → IsGameTree t → Along t line (root_node t.tree).below 0
unfolding last
along_start t line is game = subst (λ (l : Line). Along t l (root_node t.tree).below 0) (sym is) (record { rest = refl; sound = game.moves; leads = game.cursor; size = refl })

-- the place that comes next is one of a node
pub along_place : (t : TreeParts) (line : Line) (below : Forest) (ply place : ℕ) → slice_get t.path ply ≡ Some place → Along t line below ply → place < count below
along_place t line below ply place at a = (subst (λ (path : List ℕ). Leads path below) (drop_at t.path ply place at) a.leads).0

pub along_legal : (t : TreeParts) (line : Line) (below : Forest) (ply place : ℕ) (n : NodeParts) (m : MoveParts) → child place below ≡ Some n → n.move ≡ Some m → Along t line below ply
    → is_legal (last line) m ≡ true
along_legal t line below ply place n m there move a = (child_is (last line) place below n m a.sound there move).legal

pub along_on : (t : TreeParts) (line : Line) (below : Forest) (ply place : ℕ) (n : NodeParts) (m : MoveParts) → slice_get t.path ply ≡ Some place → child place below ≡ Some n → n.move ≡ Some m
    → Along t line below ply → Along t (extended line m) n.below (ply + 1)
along_on t line below ply place n m at there move a =
    let c = child_is (last line) place below n m a.sound there move in
    let left : drop ply t.path ≡ place ∷ drop (ply + 1) t.path = drop_at t.path ply place at in
    let moves : moves_along (drop ply t.path) below ≡ m ∷ moves_along (drop (ply + 1) t.path) n.below =
    ap (λ (path : List ℕ). moves_along path below) left
    ∙ ap (λ (x : Option MoveParts). option_to_list x ++ moves_along (drop (ply + 1) t.path) (below_child place below)) c.move
    ∙ ap (λ (f : Forest). m ∷ moves_along (drop (ply + 1) t.path) f) c.below in
    record {
      rest = a.rest ∙ ap (λ (ms : List MoveParts). record { start = line.start; moves = line.moves ++ ms }) moves
          ∙ ap (λ (ms : List MoveParts). record { start = line.start; moves = ms }) (sym (append_assoc line.moves (m ∷ []) (moves_along (drop (ply + 1) t.path) n.below)));
      sound = subst (λ (p : PositionParts). AreSound p n.below) (sym (last_extended line m)) c.sound;
      leads = subst (λ (f : Forest). Leads (drop (ply + 1) t.path) f) c.below (subst (λ (path : List ℕ). Leads path below) left a.leads).1;
      size = length-append line.moves (m ∷ []) ∙ ap (λ (k : ℕ). k + 1) a.size;
    }

pub along_end : (t : TreeParts) (line : Line) (below : Forest) (ply : ℕ) → length t.path ≤ ply → Along t line below ply → line ≡ line_to t
along_end t line below ply past a =
    sym (a.rest ∙ ap (λ (path : List ℕ). record { start = line.start; moves = line.moves ++ moves_along path below }) (drop_past t.path ply past)
    ∙ ap (λ (ms : List MoveParts). record { start = line.start; moves = ms }) (append-nil line.moves))
