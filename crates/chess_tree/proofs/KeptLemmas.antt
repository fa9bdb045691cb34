-- A tree stays a game tree, call by call, and what each call makes of the line to the cursor.
use Rattle.std.proofs.Common.{◌≡◌, ℕ, ◌<◌, ◌≤◌, Bool, nat_le, nat_lt, true, false, List, [], ◌∷◌, ◌++◌, length, refl, sym, subst, ap, ◌∙◌, arith}
use Rattle.std.specs.Prelude.{Ok}
use Rattle.std.proofs.lemmas.Bool.Decides.{nat_tests}
use Rattle.chess_types.specs.board.MoveParts.{MoveParts}
use Rattle.chess_types.specs.board.Position.{PositionParts, IsSetup, OpponentNotInCheck}
use Rattle.chess_types.specs.board.Legal.{is_legal}
use Rattle.chess_types.specs.board.Lines.{extended, last}
use Rattle.chess_tree.specs.Forest.{below_at, count, moves_held}
use Rattle.chess_tree.specs.Edits.{parent}
use Rattle.chess_tree.specs.Comments.{IsComment}
use Rattle.chess_tree.specs.Calls.{StepsUp}
use Rattle.chess_tree.specs.GameTree.{TreeParts, adding, annotating, unannotating, at_path, commented_here, deleted, deleting, line_to, promoting}
use Rattle.chess_tree.specs.CursorLine.{GoesOn}
use Rattle.chess_tree.specs.WellFormed.{IsGameTree}
use Rattle.chess_tree.specs.steps.Rooted.{Held, Rooted, commented_at, commented_root, edited_root, leaf, parts_of, path_root}
use Rattle.chess_tree.specs.steps.Grove.{no_move}
use Rattle.chess_tree.proofs.EditLemmas.{leads_on, leads_parent, path_le_height}
use Rattle.chess_tree.proofs.SoundLemmas.{no_comment}
use Rattle.chess_tree.proofs.TreeLemmas.{game_added, game_annotated, game_unannotated, game_at, game_commented, game_deleted, game_promoted}
use Rattle.chess_tree.proofs.LineLemmas.{line_added, line_annotated, line_unannotated, line_commented, line_promoted}
use Rattle.chess_tree.proofs.StepLemmas.{goes_down, goes_out, goes_up}

-- a tree with no move
pub kept_new : (start : PositionParts) (z : Rooted) → z ≡ record { root = leaf no_move; path = [] } → IsSetup start → OpponentNotInCheck start
    → start.clock ≤ 99999 → start.number ≤ 99999 → IsGameTree (parts_of start z)
kept_new start z e setup quiet clock number =
    subst (λ (x : Rooted). IsGameTree (parts_of start x)) (sym e)
    (record {
      start = record { setup = setup; quiet = quiet };
      clock = clock;
      number = number;
      comment = no_comment;
      moves = tt;
      deep = omega arith;
      many = omega arith;
      cursor = tt;
    })

comment_parts : (start : PositionParts) (text path : List ℕ) (n : Held) → parts_of start (record { root = commented_at text path n; path = path }) ≡ commented_here text (parts_of start (record { root = n; path = path }))
comment_parts start text [] n = refl
comment_parts start text (k ∷ path) n = refl

module _ (start : PositionParts) (z : Rooted) (game : IsGameTree (parts_of start z)) (w : Rooted) where
  -- ---- steps

  pub kept_down : (place : ℕ) (there : Bool) → there ≡ nat_lt place (count (below_at z.path z.root.below)) → there ≡ true → w ≡ path_root (z.path ++ place ∷ []) z
      → IsGameTree (parts_of start w) × GoesOn (parts_of start z) (parts_of start w)
  kept_down place there is holds e =
      let h : place < count (below_at z.path z.root.below) = grind (arith, nat_tests) in
      subst (λ (x : Rooted). IsGameTree (parts_of start x) × GoesOn (parts_of start z) (parts_of start x)) (sym e)
      (game_at (z.path ++ place ∷ []) (parts_of start z) game (leads_on z.path place z.root.below game.cursor h), goes_down (parts_of start z) place game h)

  pub kept_up : 0 < length z.path → w ≡ path_root (parent z.path) z
      → IsGameTree (parts_of start w) × StepsUp (λ t. at_path (parent t.path) t) (parts_of start z) (Ok tt) (parts_of start w)
  kept_up h e =
      subst (λ (x : Rooted). IsGameTree (parts_of start x) × StepsUp (λ t. at_path (parent t.path) t) (parts_of start z) (Ok tt) (parts_of start x)) (sym e) (
        game_at (parent z.path) (parts_of start z) game (leads_parent z.path z.root.below game.cursor),
        record { ok = refl; line = goes_up (parts_of start z) game h; err = tt; at_root = h },
      )

  -- ---- edits

  pub kept_added : (m : MoveParts) → w ≡ edited_root (adding m) z → is_legal (last (line_to (parts_of start z))) m ≡ true → length z.path < 20000 → moves_held z.root.below < 1000000
      → IsGameTree (parts_of start w)
  kept_added m e legal deep few = subst (λ (x : Rooted). IsGameTree (parts_of start x)) (sym e) (game_added m (parts_of start z) game legal deep few)

  pub kept_line_added : (m : MoveParts) → w ≡ edited_root (adding m) z → line_to (parts_of start w) ≡ extended (line_to (parts_of start z)) m
  kept_line_added m e = ap (λ (x : Rooted). line_to (parts_of start x)) e ∙ line_added m (parts_of start z) game

  pub kept_deleted : 0 < length z.path → w ≡ edited_root deleting z → IsGameTree (parts_of start w) × StepsUp deleted (parts_of start z) (Ok tt) (parts_of start w)
  kept_deleted h e =
      subst (λ (x : Rooted). IsGameTree (parts_of start x) × StepsUp deleted (parts_of start z) (Ok tt) (parts_of start x)) (sym e)
      (game_deleted (parts_of start z) game h, record { ok = refl; line = goes_out (parts_of start z) game h; err = tt; at_root = h })

  pub kept_promoted : 0 < length z.path → w ≡ edited_root promoting z → IsGameTree (parts_of start w) × (line_to (parts_of start w) ≡ line_to (parts_of start z))
  kept_promoted h e =
      subst (λ (x : Rooted). IsGameTree (parts_of start x) × (line_to (parts_of start x) ≡ line_to (parts_of start z))) (sym e)
      (game_promoted (parts_of start z) game h, line_promoted (parts_of start z) game h)

  pub kept_annotated : (nag : ℕ) → w ≡ edited_root (annotating nag) z → IsGameTree (parts_of start w) × (line_to (parts_of start w) ≡ line_to (parts_of start z))
  kept_annotated nag e =
      subst (λ (x : Rooted). IsGameTree (parts_of start x) × (line_to (parts_of start x) ≡ line_to (parts_of start z))) (sym e)
      (game_annotated nag (parts_of start z) game, line_annotated nag (parts_of start z) game)

  pub kept_unannotated : w ≡ edited_root unannotating z → IsGameTree (parts_of start w) × (line_to (parts_of start w) ≡ line_to (parts_of start z))
  kept_unannotated e =
      subst (λ (x : Rooted). IsGameTree (parts_of start x) × (line_to (parts_of start x) ≡ line_to (parts_of start z))) (sym e)
      (game_unannotated (parts_of start z) game, line_unannotated (parts_of start z) game)

  pub comment_is : (text : List ℕ) → w ≡ commented_root text z → parts_of start w ≡ commented_here text (parts_of start z)
  comment_is text e = ap (parts_of start) e ∙ comment_parts start text z.path z.root

  pub kept_commented : (text : List ℕ) → w ≡ commented_root text z → IsComment text → IsGameTree (parts_of start w) × (line_to (parts_of start w) ≡ line_to (parts_of start z))
  kept_commented text e is =
      subst (λ (x : TreeParts). IsGameTree x × (line_to x ≡ line_to (parts_of start z))) (sym (comment_is text e))
      (game_commented text (parts_of start z) is game, line_commented text (parts_of start z) game)

pub shallow : (start : PositionParts) (z : Rooted) → IsGameTree (parts_of start z) → length z.path ≤ 20000
shallow start z game = omega (arith, path_le_height z.path z.root.below game.cursor, game.deep)

pub not_full_less : (held : ℕ) (full : Bool) → full ≡ nat_le 1000000 held → full ≡ false → held < 1000000
not_full_less held full is less = grind (arith, nat_tests)
