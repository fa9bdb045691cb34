-- What the board's code puts on the page, and what it does with the word after `goto` or `best`.
--   IsOnPage      this text is put after what was on the page, or is the path to the cursor or the game, which is still to be written
--   best_effect   the best move, as deep as a word writes
--   path_effect   to the node at a path, where a word writes one
--   parts_of      the parts of a word, between its periods; parts_left, of what is left of one, if anything is
--   FindsNode     there is such a node, or `goto` is refused so
use Rattle.std.specs.Prelude.{◌≡◌, ◌⊎◌, ◌==◌, ℕ, false, true, List, [], ◌∷◌, ◌++◌, Option, Some, None, Result, Ok, Err}
use Rattle.std.specs.List.{slice_split}
use Rattle.std.specs.Str.{byte}
use Rattle.chess_types.specs.board.Legal.{legal_moves}
use Rattle.chess_types.specs.board.Lines.{last}
use Rattle.chess_search.specs.Best.{best}
use Rattle.chess_tree.specs.GameTree.{TreeParts, at_path, has, line_to}
use Rattle.chess_pgn.specs.Games.{untagged}
use Rattle.chess_pgn.specs.Written.{game_text}
use Rattle.chess_cli.specs.declared.board_command.answer.Pending.{Pending}
use Rattle.chess_cli.specs.declared.board_command.answer.Pending.TheVariants.{Nothing, Path, Game}
use Rattle.chess_cli.specs.declared.board_command.refusal.Refusal.{Refusal}
use Rattle.chess_cli.specs.declared.board_command.refusal.Refusal.TheVariants.{Argument}
use Rattle.chess_cli.specs.Numbers.{path_in, path_text}
use Rattle.chess_cli.specs.Answers.{Effect, Refuses, best_text, if_it_exists, memory_refusal, says_line}

-- the answer is on the page, but for a path or a game, which may be long
abbrev pub IsOnPage : Pending → TreeParts → List ℕ → List ℕ → List ℕ → Type 0
IsOnPage Nothing t page page1 text = page1 ≡ page ++ text
IsOnPage Path t page page1 text = (page1 ≡ page) × (path_text t.path ++ 10 ∷ [] ≡ text)
IsOnPage Game t page page1 text = (page1 ≡ page) × (game_text (untagged t.tree) ≡ text)

-- the game's text, or that there is no memory for it
abbrev pub IsGameText : TreeParts → List ℕ → Type 0
IsGameText t text = (text ≡ game_text (untagged t.tree)) ⊎ (text ≡ memory_refusal)

-- `goto`: to the node of the path, if there is one
abbrev pub path_effect : TreeParts → Option (List ℕ) → Effect
path_effect t None = Refuses Argument
path_effect t (Some path) = if_it_exists (has path t.tree.below) (at_path path t)

-- the parts of a word, between its periods
abbrev pub parts_of : List ℕ → List (List ℕ)
parts_of word = slice_split (λ b. b == byte ".") word

-- those of what is left of it, if anything is
abbrev pub parts_left : Option (List ℕ) → List (List ℕ)
parts_left None = []
parts_left (Some rest) = parts_of rest

-- the path that a word writes leads to a node, or why `goto` is refused
abbrev pub FindsNode : TreeParts → List ℕ → Result (Unit {0}) Refusal → Type 0
FindsNode t word (Ok _) = (path : List ℕ) × (path_in word ≡ Some path) × (has path t.tree.below ≡ true)
FindsNode t word (Err refusal) = path_effect t (path_in word) ≡ Refuses refusal

-- `best`: the best move to that depth
abbrev pub best_effect : TreeParts → Option ℕ → Effect
best_effect t None = Refuses Argument
best_effect t (Some depth) = says_line (best_text (best false depth (line_to t) (legal_moves (last (line_to t)))))
