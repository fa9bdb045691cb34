-- The main line, move by move.
use Rattle.std.proofs.Common.{◌≡◌, ℕ, ◌+◌, ◌<◌, ◌≤◌, true, List, [], ◌∷◌, ◌++◌, length, Some, None, refl, sym, ap, subst, ◌∙◌, arith, append_assoc, append-nil, length-append}
use Rattle.std.proofs.Math.Seq.{take-append_seam}
use Rattle.chess_types.specs.board.MoveParts.{MoveParts}
use Rattle.chess_types.specs.board.Position.{PositionParts}
use Rattle.chess_types.specs.board.Legal.{is_legal}
use Rattle.chess_types.specs.board.Lines.{Line, extended, last}
use Rattle.chess_types.proofs.PlayLaws.{last_extended}
use Rattle.chess_tree.specs.Forest.{Forest, Bare, Node, NodeParts, child, height}
use Rattle.chess_tree.specs.GameTree.{GameTree, main_line, moves_along}
use Rattle.chess_tree.specs.WellFormed.{AreSound}
use Rattle.chess_report.specs.MainLine.{as_far, main}

-- the main line is this line, and goes on with the nodes below
pub record Follows (whole line : Line) (below : Forest) : Type 0 where
  pub rest : whole ≡ record { start = line.start; moves = line.moves ++ moves_along (main_line below) below }
  pub sound : AreSound (last line) below
  pub deep : length line.moves + height below ≤ 20000

pub follows_start : (tree : GameTree) (line : Line) → line ≡ record { start = tree.start; moves = [] } → AreSound tree.start tree.below → height tree.below ≤ 20000
    → Follows (main tree) line tree.below
unfolding last
follows_start tree line e sound deep = subst (λ (l : Line). Follows (main tree) l tree.below) (sym e) (record { rest = refl; sound = sound; deep = omega (arith, deep) })

-- what the first node below says
pub record Next (whole line : Line) (m : MoveParts) (below after_it : Forest) : Type 0 where
  pub legal : is_legal (last line) m ≡ true
  pub few : length line.moves < 20000
  pub follows : Follows whole (extended line m) after_it
  pub smaller : height after_it < height below

next_is : (whole line : Line) (k : MoveParts) (nags comment : List ℕ) (below next : Forest) → Follows whole line (Node k nags comment below next) → Next whole line k (Node k nags comment below next) below
next_is whole line k nags comment below next f = record {
  legal = f.sound.0;
  few = omega (arith, f.deep);
  follows = record {
    rest = f.rest ∙ ap (λ (x : List MoveParts). record { start = line.start; moves = x }) (sym (append_assoc line.moves (k ∷ []) (moves_along (main_line below) below)));
    sound = subst (λ (p : PositionParts). AreSound p below) (sym (last_extended line k)) f.sound.2;
    deep = omega (arith, f.deep, length-append line.moves (k ∷ []));
  };
  smaller = omega arith;
}

pub follows_next : (whole line : Line) (below : Forest) (n : NodeParts) (m : MoveParts) → child 0 below ≡ Some n → n.move ≡ Some m → Follows whole line below → Next whole line m below n.below
follows_next whole line Bare n m c e f = absurd cc
follows_next whole line (Node k nags comment below next) n m c e f =
    let s : record { move = Some k; nags = nags; comment = comment; below = below } ≡ n = some_is _ n c in
    let km : k ≡ m = some_move k m (ap (λ (x : NodeParts). x.move) s ∙ e) in
    subst (λ (x : NodeParts). Next whole line m (Node k nags comment below next) x.below) s
    (subst (λ (x : MoveParts). Next whole line x (Node k nags comment below next) below) km (next_is whole line k nags comment below next f))
  where
    some_is : (x y : NodeParts) → Some x ≡ Some y → x ≡ y
    some_is x y e = cc

    some_move : (x y : MoveParts) → Some x ≡ Some y → x ≡ y
    some_move x y e = cc

-- a node below another has a move
pub has_move : (below : Forest) (n : NodeParts) → child 0 below ≡ Some n → n.move ≡ None → ⊥
has_move Bare n c e = absurd cc
has_move (Node k nags comment below next) n c e =
    let s : record { move = Some k; nags = nags; comment = comment; below = below } ≡ n = some_is _ n c in
    none_is k (ap (λ (x : NodeParts). x.move) s ∙ e)
  where
    some_is : (x y : NodeParts) → Some x ≡ Some y → x ≡ y
    some_is x y e = cc

    none_is : (x : MoveParts) → Some x ≡ None → ⊥
    none_is x e = absurd cc

pub follows_end : (whole line : Line) (below : Forest) → child 0 below ≡ None → Follows whole line below → line ≡ whole
follows_end whole line Bare c f = sym (f.rest ∙ ap (λ (x : List MoveParts). record { start = line.start; moves = x }) (append-nil line.moves))
follows_end whole line (Node k nags comment below next) c f = absurd cc

-- each line on the way is the main line as far as its last ply
pub follows_far : (whole line : Line) (below : Forest) → Follows whole line below → as_far (length line.moves) whole ≡ line
follows_far whole line below f =
    ap (as_far (length line.moves)) f.rest ∙ ap (λ (x : List MoveParts). record { start = line.start; moves = x }) (take-append_seam line.moves (moves_along (main_line below) below))
