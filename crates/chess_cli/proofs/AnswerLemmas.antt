-- What the board may answer.
use Rattle.std.proofs.Common.{◌≡◌, ℕ, ◌<◌, ◌≤◌, ◌++◌, ◌∷◌, [], Bool, List, length, Result, Ok, refl, sym, ap, ◌∙◌, subst, inl, inr}
use Rattle.byte_streams.specs.declared.source.Failed.{Failed}
use Rattle.chess_tree.specs.GameTree.{TreeParts}
use Rattle.chess_cli.specs.declared.board_command.answer.Pending.TheVariants.{Nothing, Path, Game}
use Rattle.chess_loop.specs.InputLines.{line_limit, line_room}
use Rattle.chess_cli.specs.Answers.{Answers, AnswersRequest, IsGranted, effect, takes_memory, tree_after, long_line, memory_refusal}
use Rattle.chess_pgn.specs.Games.{untagged}
use Rattle.chess_pgn.specs.Written.{game_text}
use Rattle.chess_cli.specs.Numbers.{path_text}
use Rattle.chess_cli.specs.steps.Replies.{IsGameText, IsOnPage}
use Rattle.chess_cli.specs.Requests.{Pgn, request}
use Rattle.chess_loop.specs.steps.Sending.{Sends}
use Rattle.chess_loop.proofs.SendingLemmas.{puts}

-- one that found no memory
pub answers_without_memory : (p : TreeParts) (bytes : List ℕ) → line_room < length bytes → length bytes ≤ line_limit → Answers p bytes memory_refusal p
answers_without_memory p bytes long few = inr (inl (few, long, refl, refl))

-- one over the limit is refused
pub answers_long : (p : TreeParts) (bytes : List ℕ) → line_limit < length bytes → Answers p bytes long_line p
answers_long p bytes over = inr (inr (over, refl, refl))

module _ {W : Type 0} (takes : W → List ℕ → W → Type 0) (failed : W → Bool) where
  -- a text that is put on the page
  pub answered_whole : (p q : TreeParts) (line page page1 : List ℕ) (w : W) → (text : List ℕ) × AnswersRequest p (request line) text q × IsOnPage Nothing q page page1 text
      → (text : List ℕ) × AnswersRequest p (request line) text q × Sends takes failed {X = Unit {0}} {E = Failed} page w text page1 w (Ok tt)
  answered_whole p q line page page1 w put = (put.0, put.1, puts takes failed w page put.0 page1 put.2)

  -- the path, which is written afterwards
  pub answered_path : (p q : TreeParts) (line page page1 page2 : List ℕ) (w w1 : W) (result : Result (Unit {0}) Failed) → (text : List ℕ) × AnswersRequest p (request line) text q × IsOnPage Path q page page1 text
      → Sends takes failed page1 w (path_text q.path ++ 10 ∷ []) page2 w1 result
      → (text : List ℕ) × AnswersRequest p (request line) text q × Sends takes failed page w text page2 w1 result
  answered_path p q line page page1 page2 w w1 result put sends =
      (put.0, put.1, subst (λ (x : List ℕ). Sends takes failed page w x page2 w1 result) put.2.1 (subst (λ (x : List ℕ). Sends takes failed x w (path_text q.path ++ 10 ∷ []) page2 w1 result) put.2.0 sends))

  -- the game's text, or that there is no memory for it, answers where either does
  game_or_not : (p q : TreeParts) (line given text : List ℕ) → request line ≡ Pgn → AnswersRequest p (request line) given q → game_text (untagged q.tree) ≡ given → IsGameText q text → AnswersRequest p (request line) text q
  game_or_not p q line given text is (inl asked) game (inl e) = inl (e ∙ game ∙ asked.0, asked.1)
  game_or_not p q line given text is (inl asked) game (inr e) = inr (ap (takes_memory p) is, subst (λ r. IsGranted (effect p r)) (sym is) tt, e, asked.1 ∙ ap (tree_after p) is)
  game_or_not p q line given text is (inr starved) game (inl e) = inr (starved.0, starved.1, e ∙ game ∙ starved.2, starved.3)
  game_or_not p q line given text is (inr starved) game (inr e) = inr (starved.0, starved.1, e, starved.3)

  -- the game, which is written afterwards
  pub answered_game : (p q : TreeParts) (line page page1 page2 : List ℕ) (w w1 : W) (result : Result (Unit {0}) Failed) → request line ≡ Pgn → (text : List ℕ) × AnswersRequest p (request line) text q × IsOnPage Game q page page1 text
      → (text : List ℕ) × IsGameText q text × Sends takes failed page1 w text page2 w1 result
      → (text : List ℕ) × AnswersRequest p (request line) text q × Sends takes failed page w text page2 w1 result
  answered_game p q line page page1 page2 w w1 result is put wrote =
      (wrote.0, game_or_not p q line put.0 wrote.0 is put.1 put.2.1 wrote.1, subst (λ (x : List ℕ). Sends takes failed x w wrote.0 page2 w1 result) put.2.0 wrote.2)
