-- Edits and steps of the cursor leave a game tree.
use Rattle.std.proofs.Common.{◌≡◌, ℕ, ◌<◌, ◌≤◌, true, List, [], ◌∷◌, length, refl, sym, subst, arith}
use Rattle.chess_types.specs.board.MoveParts.{MoveParts}
use Rattle.chess_types.specs.board.Legal.{is_legal}
use Rattle.chess_types.specs.board.Lines.{last}
use Rattle.chess_tree.specs.Forest.{Forest, height, moves_held}
use Rattle.chess_tree.specs.Edits.{annotated, unannotated, change_below, change_node, commented, promoted, with_move, without_node}
use Rattle.chess_tree.specs.Comments.{IsComment}
use Rattle.chess_tree.specs.GameTree.{TreeParts, added, annotated_here, unannotated_here, at_path, changed, commented_here, deleted, line_to, promoted_here}
use Rattle.chess_tree.specs.WellFormed.{AreSound, IsGameTree, Leads}
use Rattle.chess_tree.proofs.EditLemmas as edits
use Rattle.chess_tree.proofs.SoundLemmas.{sound_annotated, sound_unannotated, sound_commented, sound_node, sound_promoted, sound_with_move, sound_without}

-- other moves from the same start, and another cursor
game_changed : (change : Forest → Forest) (path : List ℕ) (t : TreeParts) → IsGameTree t → AreSound t.tree.start (change t.tree.below)
    → height (change t.tree.below) ≤ 20000 → moves_held (change t.tree.below) ≤ 1000000 → Leads path (change t.tree.below)
    → IsGameTree (record { tree = changed change t.tree; path = path })
game_changed change path t game moves deep many cursor = record {
  start = game.start;
  clock = game.clock;
  number = game.number;
  comment = game.comment;
  moves = moves;
  deep = deep;
  many = many;
  cursor = cursor;
}

pub game_at : (path : List ℕ) (t : TreeParts) → IsGameTree t → Leads path t.tree.below → IsGameTree (at_path path t)
game_at path t game leads = game_changed (λ f. f) path t game game.moves game.deep game.many leads

pub game_added : (m : MoveParts) (t : TreeParts) → IsGameTree t → is_legal (last (line_to t)) m ≡ true → length t.path < 20000
    → moves_held t.tree.below < 1000000 → IsGameTree (added m t)
unfolding last
game_added m t game legal shallow few =
    game_changed (change_below (with_move m) t.path) _ t game
    (sound_with_move t.tree.start m t.path t.tree.below legal game.moves)
    (omega (arith, edits.height_with_move m t.path t.tree.below, game.deep))
    (omega (arith, edits.held_with_move m t.path t.tree.below game.cursor))
    (edits.leads_added m t.path t.tree.below game.cursor)

pub game_deleted : (t : TreeParts) → IsGameTree t → 0 < length t.path → IsGameTree (deleted t)
game_deleted t game below =
    game_changed (change_node without_node t.path) _ t game
    (sound_node without_node t.tree.start t.path t.tree.below sound_without game.moves)
    (omega (arith, edits.height_node without_node t.path t.tree.below edits.height_without, game.deep))
    (omega (arith, edits.held_without t.path t.tree.below game.cursor below, game.many))
    (edits.leads_deleted t.path t.tree.below game.cursor)

pub game_promoted : (t : TreeParts) → IsGameTree t → 0 < length t.path → IsGameTree (promoted_here t)
game_promoted t game below =
    game_changed (change_node promoted t.path) _ t game
    (sound_node promoted t.tree.start t.path t.tree.below sound_promoted game.moves)
    (omega (arith, edits.height_node promoted t.path t.tree.below edits.height_promoted, game.deep))
    (omega (arith, edits.held_node promoted t.path t.tree.below edits.held_promoted, game.many))
    (edits.leads_promoted t.path t.tree.below game.cursor below)

pub game_annotated : (nag : ℕ) (t : TreeParts) → IsGameTree t → IsGameTree (annotated_here nag t)
game_annotated nag t game =
    game_changed (change_node (annotated nag) t.path) _ t game
    (sound_node (annotated nag) t.tree.start t.path t.tree.below (sound_annotated nag) game.moves)
    (omega (arith, edits.height_node (annotated nag) t.path t.tree.below (edits.height_annotated nag), game.deep))
    (omega (arith, edits.held_node (annotated nag) t.path t.tree.below (edits.held_annotated nag), game.many))
    (edits.leads_node (annotated nag) t.path t.tree.below (edits.count_annotated nag) game.cursor)

pub game_unannotated : (t : TreeParts) → IsGameTree t → IsGameTree (unannotated_here t)
game_unannotated t game =
    game_changed (change_node unannotated t.path) _ t game
    (sound_node unannotated t.tree.start t.path t.tree.below sound_unannotated game.moves)
    (omega (arith, edits.height_node unannotated t.path t.tree.below edits.height_unannotated, game.deep))
    (omega (arith, edits.held_node unannotated t.path t.tree.below edits.held_unannotated, game.many))
    (edits.leads_node unannotated t.path t.tree.below edits.count_unannotated game.cursor)

commented_from : (text path : List ℕ) (t : TreeParts) → path ≡ t.path → IsComment text → IsGameTree t
    → IsGameTree (commented_here text (at_path path t))
commented_from text [] t e is game = record {
  start = game.start;
  clock = game.clock;
  number = game.number;
  comment = is;
  moves = game.moves;
  deep = game.deep;
  many = game.many;
  cursor = tt;
}
commented_from text (k ∷ path) t e is game =
    game_changed (change_node (commented text) (k ∷ path)) _ t game
    (sound_node (commented text) t.tree.start (k ∷ path) t.tree.below (sound_commented text is) game.moves)
    (omega (arith, edits.height_node (commented text) (k ∷ path) t.tree.below (edits.height_commented text), game.deep))
    (omega (arith, edits.held_node (commented text) (k ∷ path) t.tree.below (edits.held_commented text), game.many))
    (edits.leads_node (commented text) (k ∷ path) t.tree.below (edits.count_commented text) (subst (λ (path : List ℕ). Leads path t.tree.below) (sym e) game.cursor))

pub game_commented : (text : List ℕ) (t : TreeParts) → IsComment text → IsGameTree t → IsGameTree (commented_here text t)
game_commented text t is game = commented_from text t.path t refl is game
