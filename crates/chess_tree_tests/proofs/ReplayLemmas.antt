-- The position at the cursor, replayed.
use Rattle.std.proofs.Common.{◌≡◌, ℕ, zero, suc, ◌+◌, ◌<◌, ◌≤◌, List, [], ◌∷◌, ◌++◌, length, get_or, take, Option, None, Some, sym, ap, ◌∙◌, arith}
use Rattle.std.specs.List.{slice_get}
use Rattle.std.specs.Option.{option_to_list}
use Rattle.std.proofs.lemmas.List.{take_more, take_all}
use Rattle.std.proofs.lemmas.Option.{none-some, same_Some}
use Rattle.chess_types.specs.board.MoveParts.{MoveParts}
use Rattle.chess_types.specs.board.Position.{PositionParts}
use Rattle.chess_types.specs.board.After.{after}
use Rattle.chess_types.specs.board.Lines.{Line, extended, last, play}
use Rattle.chess_tree.specs.Forest.{Forest, Bare, Node, NodeParts, below_at, below_child, child}
use Rattle.chess_tree.specs.GameTree.{TreeParts, line_to, move_of, moves_along}
use Rattle.chess_types.proofs.PlayLaws.{last_extended, play_on}
use Rattle.chess_tree.proofs.LineLemmas.{along_on}
use Rattle.chess_tree.proofs.WalkLemmas.{below_at_on}

pub added_position : (m : MoveParts) (old new : Line) (before now : PositionParts) → new ≡ extended old m → before ≡ last old → now ≡ after before m → now ≡ last new
added_position m old new before now e b n = n ∙ ap (λ (p : PositionParts). after p m) b ∙ sym (last_extended old m) ∙ ap last (sym e)

pub place_is : (path : List ℕ) (ply place : ℕ) → slice_get path ply ≡ Some place → (ply < length path) × (place ≡ get_or path ply 0)
place_is [] ply place e = absurd (none-some place e)
place_is (k ∷ path) zero place e = (omega arith, sym (same_Some k place e))
place_is (k ∷ path) (suc ply) place e =
    let rest = place_is path ply place e in
    (omega (arith, rest.0), rest.1)

seen_child : (k : ℕ) (f : Forest) (n : NodeParts) → Some n ≡ child k f → (n.move ≡ move_of k f) × (n.below ≡ below_child k f)
seen_child k Bare n e = absurd (none-some n (sym e))
seen_child zero (Node m nags comment below next) n e =
    (ap move_in e, ap below_in e)
  where
    move_in : Option NodeParts → Option MoveParts
    move_in None = None
    move_in (Some x) = x.move

    below_in : Option NodeParts → Forest
    below_in None = Bare
    below_in (Some x) = x.below
seen_child (suc k) (Node m nags comment below next) n e = seen_child k next n e

pub replayed : (start now later : PositionParts) (path : List ℕ) (ply : ℕ) (below : Forest) (node next : NodeParts) (m : MoveParts)
    → now ≡ play start (moves_along (take ply path) below) → node.below ≡ below_at (take ply path) below
    → ply < length path → Some next ≡ child (get_or path ply 0) node.below → Some m ≡ next.move → later ≡ after now m
    → (later ≡ play start (moves_along (take (ply + 1) path) below)) × (next.below ≡ below_at (take (ply + 1) path) below)
replayed start now later path ply below node next m here b within e s l =
    let path_on : take (ply + 1) path ≡ take ply path ++ get_or path ply 0 ∷ [] = take_more path ply 0 within in
    let seen = seen_child (get_or path ply 0) node.below next e in
    let played : move_of (get_or path ply 0) (below_at (take ply path) below) ≡ Some m = ap (move_of (get_or path ply 0)) (sym b) ∙ sym seen.0 ∙ sym s in
    let moves : moves_along (take (ply + 1) path) below ≡ moves_along (take ply path) below ++ m ∷ [] =
    ap (λ (p : List ℕ). moves_along p below) path_on ∙ along_on (take ply path) (get_or path ply 0) below ∙ ap (λ (o : Option MoveParts). moves_along (take ply path) below ++ option_to_list o) played in (
      l ∙ ap (λ (p : PositionParts). after p m) here ∙ sym (play_on start (moves_along (take ply path) below) m) ∙ ap (play start) (sym moves),
      seen.1 ∙ ap (below_child (get_or path ply 0)) b ∙ sym (below_at_on (take ply path) (get_or path ply 0) below) ∙ ap (λ (p : List ℕ). below_at p below) (sym path_on),
    )

pub replayed_all : (t : TreeParts) (ply : ℕ) (now : PositionParts) → now ≡ play t.tree.start (moves_along (take ply t.path) t.tree.below)
    → length t.path ≤ ply → now ≡ last (line_to t)
unfolding last
replayed_all t ply now here all = here ∙ ap (λ (p : List ℕ). play t.tree.start (moves_along p t.tree.below)) (take_all ply t.path all)
