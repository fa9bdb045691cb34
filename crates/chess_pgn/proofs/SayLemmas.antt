-- A comment is added after the one at the cursor.
use Rattle.std.proofs.Common.{◌≡◌, ℕ, List, [], ◌∷◌, ◌++◌, ◌==◌, true, refl, sym, ap, ◌∙◌, arith}
use Rattle.std.proofs.lemmas.Grind.{common_steps}
use Rattle.std.specs.Prelude.{OnOk, Result, Ok, Err, length}
use Rattle.chess_tree.specs.Comments.{normalised}
use Rattle.chess_tree.specs.Forest.{Forest}
use Rattle.chess_tree.specs.GameTree.{GameTree, TreeParts, commented_here, commented_tree, here, node_of, root_node}
use Rattle.chess_tree.specs.WellFormed.{IsGameTree, Leads}
use Rattle.chess_pgn.specs.Grammar.{comments_joined}
use Rattle.chess_pgn.specs.steps.Readings.{said_here}
use Rattle.chess_pgn.proofs.HangLemmas.{hang-nothing, joined-nil}
use Rattle.chess_pgn.proofs.PlaceLemmas.{commented_is, node_sound}
use Rattle.chess_pgn.proofs.RemarkLemmas.{normalised_none, normalised_separated}

said_tree : (tree : GameTree) (path n x : List ℕ) → Leads path tree.below → x ≡ comments_joined (node_of path (root_node tree)).comment n
    → commented_tree x path tree ≡ (said_here n (record { tree = tree; path = path })).tree
said_tree tree [] n x at e = ap (λ (z : List ℕ). record { start = tree.start; comment = z; below = tree.below }) e
said_tree tree (k ∷ path) n x at e =
    ap (λ (z : List ℕ). commented_tree z (k ∷ path) tree) e
    ∙ ap (λ (z : Forest). record { start = tree.start; comment = tree.comment; below = z }) (commented_is k path n (root_node tree) at)

said_as : (t : TreeParts) (n x : List ℕ) → IsGameTree t → x ≡ comments_joined (here t).comment n → commented_here x t ≡ said_here n t
said_as t n x game e = ap (λ (z : GameTree). record { tree = z; path = t.path }) (said_tree t.tree t.path n x game.cursor e)

said_nothing : (t : TreeParts) → t ≡ said_here [] t
said_nothing t = at t.path
  where
    at : (path : List ℕ) → record { tree = t.tree; path = path } ≡ said_here [] (record { tree = t.tree; path = path })
    at [] = ap (λ (z : List ℕ). record { tree = record { start = t.tree.start; comment = z; below = t.tree.below }; path = [] }) (sym (joined-nil t.tree.comment))
    at (k ∷ path) = ap (λ (z : Forest). record { tree = record { start = t.tree.start; comment = t.tree.comment; below = z }; path = k ∷ path }) (sym (hang-nothing (k ∷ path) t.tree.below))

pub nothing_said : (t : TreeParts) (text : List ℕ) → text ≡ [] → t ≡ said_here (normalised text) t
nothing_said t text e = said_nothing t ∙ ap (λ (z : List ℕ). said_here z t) (sym normalised_none ∙ ap normalised (sym e))

-- where there is no comment, and after one
pub first_said : (t : TreeParts) (text said : List ℕ) → IsGameTree t → said ≡ (here t).comment → said ≡ [] → commented_here (normalised text) t ≡ said_here (normalised text) t
first_said t text said game es e = said_as t (normalised text) (normalised text) game (ap (λ (z : List ℕ). comments_joined z (normalised text)) (sym e ∙ es))

pub next_said : (t : TreeParts) (text said both : List ℕ) → IsGameTree t → said ≡ (here t).comment → both ≡ said ++ 32 ∷ text → commented_here (normalised both) t ≡ said_here (normalised text) t
next_said t text said both game es e =
    let sound = node_sound t.path (root_node t.tree) (record { comment = game.comment; from = t.tree.start; below = game.moves }) game.cursor in
    said_as t (normalised text) (normalised both) game
    (ap normalised e ∙ normalised_separated said text ∙ ap (λ (z : List ℕ). comments_joined z (normalised text)) (ap normalised es ∙ sound.normal))

pub then : {P Q : Type 0} {E : Type 0} (r : Result (Unit {0}) E) → OnOk r P → (P → Q) → OnOk r Q
then (Ok u) p f = f p
then (Err e) p f = tt

pub no_bytes : (text : List ℕ) → true ≡ (length text == 0) → text ≡ []
no_bytes [] e = refl
no_bytes (b ∷ text) e = grind (arith, common_steps, e)
