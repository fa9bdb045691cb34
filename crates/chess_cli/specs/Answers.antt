-- What the board answers to a line of the input, and its game tree and cursor afterwards. Nothing here keeps a number: the counts, the
-- evaluation, the repetitions and the status are those that the definitions give afresh for the starting position and the moves from the
-- root to the cursor.
use Rattle.std.specs.Prelude.{◌≡◌, ℕ, ◌+◌, ◌*◌, ◌<◌, ◌≤◌, nat_le, nat_lt, Bool, true, false, if◌then◌else◌, ◌⊎◌, ⊤, List, [], ◌∷◌, ◌++◌, length, map, filter, Option, Some, None, Result, Ok, Err, codes, decimal, ℤ}
use Rattle.std.specs.Fmt.{signed_decimal}
use Rattle.std.specs.List.{range_with_len}
use Rattle.chess_types.specs.declared.board.man.Colour.{Colour}
use Rattle.chess_types.specs.declared.board.outcome.Claims.{Claims as DrawClaims}
use Rattle.chess_types.specs.board.Squares.{squares}
use Rattle.chess_types.specs.board.Attack.{count, checks_from}
use Rattle.chess_types.specs.board.Texts.{move_text, square_text}
use Rattle.chess_types.specs.board.MoveParts.{MoveParts}
use Rattle.chess_types.specs.board.Position.{PositionParts, man_on, start}
use Rattle.chess_types.specs.board.Legal.{is_legal, legal_moves}
use Rattle.chess_types.specs.board.Lines.{Line, last}
use Rattle.chess_types.specs.board.Repetition.{repetitions}
use Rattle.chess_types.specs.board.Outcome.{status, status_text, claims, claims_with}
use Rattle.chess_eval.specs.Evaluation.{evaluation}
use Rattle.chess_fen.specs.declared.fault.FenFault.{FenFault}
use Rattle.chess_fen.specs.Reading.{fen_reading}
use Rattle.chess_fen.specs.Writing.{written}
use Rattle.chess_san.specs.declared.fault.SanFault.{SanFault}
use Rattle.chess_san.specs.Naming.{san_reading}
use Rattle.chess_draws.specs.Pushes.{most_plies}
use Rattle.chess_search.specs.Best.{best}
use Rattle.chess_search.specs.Scores.{score_text}
use Rattle.chess_tree.specs.Forest.{Bare, count as count_children, moves_held, most_moves}
use Rattle.chess_tree.specs.Edits.{parent}
use Rattle.chess_tree.specs.Comments.{has_brace, normalised}
use Rattle.chess_tree.specs.GameTree.{TreeParts, added, annotated_here, at_path, commented_here, deleted, find, has, line_to, main_line, nodes_here, promoted_here}
use Rattle.chess_tree.specs.Plays.{is_new}
use Rattle.chess_loop.specs.InputLines.{line_limit, line_room}
use Rattle.chess_pgn.specs.Games.{untagged}
use Rattle.chess_pgn.specs.Written.{game_text}
use Rattle.chess_cli.specs.declared.board_command.refusal.Refusal.{Refusal}
use Rattle.chess_cli.specs.declared.board_command.refusal.Refusal.TheVariants.{Fen as BadFen, NoSuch, Illegal, TooLong, AtRoot, Full, BadComment, Memory, Command, Argument, LongLine}
use Rattle.chess_cli.specs.Refusals.{refusal_number, refusal_name, san_refusal}
use Rattle.chess_cli.specs.Gaps.{separated_by}
use Rattle.chess_cli.specs.Numbers.{path_text}
use Rattle.chess_cli.specs.Outcomes.{claims_text}
use Rattle.chess_cli.specs.Requests.{Request, Blank, New, Set, Counts, Eval, Fen, Moves, Checks, Play, Back, Step, Start, End, Goto, Path, Promote, Delete, Comment, Nag, Count, Status, Claims, Claim, Best, Pgn, Unknown, Malformed, request}

-- the answer where all is done and nothing was asked for
abbrev pub ok_line : List ℕ
ok_line = codes "ok\n"

-- `refused N NAME`
abbrev pub refused : Refusal → List ℕ
refused refusal = codes "refused " ++ decimal (refusal_number refusal) ++ codes " " ++ refusal_name refusal ++ codes "\n"

-- the text, and `none` for no text
abbrev pub or_none : List ℕ → List ℕ
or_none [] = codes "none"
or_none (byte ∷ bytes) = byte ∷ bytes

-- the texts, separated by one space, and `none` where there are none
abbrev pub list_text : List (List ℕ) → List ℕ
list_text texts = or_none (separated_by (codes " ") texts)

-- the numbers of files a to h on a rank, separated by one space
unfoldable pub rank_numbers : (ℕ → ℕ) → ℕ → List ℕ
rank_numbers number rank = separated_by (codes " ") (map (λ file. decimal (number (8 * rank + file))) (range_with_len 0 8))

-- a number for each square: ranks 1 to 8, separated by ` / `
unfoldable pub counts_text : (ℕ → ℕ) → List ℕ
counts_text number = separated_by (codes " / ") (map (rank_numbers number) (range_with_len 0 8))

-- of a call that is done or refused
abbrev pub ok_or_refused : {X : Type 0} → Result X Refusal → List ℕ
ok_or_refused (Ok _) = ok_line
ok_or_refused (Err refusal) = refused refusal

-- the refusal for want of memory
abbrev pub memory_refusal : List ℕ
memory_refusal = refused Memory

-- a tree without a move, and the cursor at its root
abbrev pub tree_from : PositionParts → TreeParts
tree_from p = record { tree = record { start = p; comment = []; below = Bare }; path = [] }

-- the board as it begins
abbrev pub new_tree : TreeParts
new_tree = tree_from start

-- What a request does: it asks for a text, it leads to a tree and a cursor, or it is refused.
pub data Effect : Type 0 where
  Says : List ℕ → Effect
  Does : TreeParts → Effect
  Refuses : Refusal → Effect

-- a text and a line feed
abbrev pub says_line : List ℕ → Effect
says_line text = Says (text ++ 10 ∷ [])

-- `set`: a tree from the position, or the FEN's first fault
abbrev pub set_effect : Result PositionParts FenFault → Effect
set_effect (Ok position) = Does (tree_from position)
set_effect (Err fault) = Refuses (BadFen fault)

-- a legal move leads to the first child that has it, else to a new one: of a node less than 20,000 plies deep, in a tree of fewer than
-- 1,000,000 moves
abbrev pub playing : TreeParts → MoveParts → Option ℕ → Effect
playing t m (Some place) = Does (at_path (t.path ++ place ∷ []) t)
playing t m None =
    if nat_le most_plies (length t.path) then Refuses TooLong
    else (if nat_le most_moves (moves_held t.tree.below) then Refuses Full else Does (added m t))

-- a move is made: to the first child that has it, else to a new one
abbrev pub move_effect : TreeParts → MoveParts → Effect
move_effect t m = if is_legal (last (line_to t)) m then playing t m (find m (nodes_here t)) else Refuses Illegal

-- the move that a text names
abbrev pub play_effect : TreeParts → Result MoveParts SanFault → Effect
play_effect t (Ok m) = move_effect t m
play_effect t (Err fault) = Refuses (san_refusal fault)

-- an effect that the root can't have, by the path to the cursor
abbrev pub not_at_root : List ℕ → TreeParts → Effect
not_at_root [] new = Refuses AtRoot
not_at_root (place ∷ path) new = Does new

-- an effect that there is only where a node is
abbrev pub if_it_exists : Bool → TreeParts → Effect
if_it_exists true new = Does new
if_it_exists false new = Refuses NoSuch

-- `comment`: the text with single spaces between its words, which may have no right brace
abbrev pub comment_effect : TreeParts → List ℕ → Effect
comment_effect t text = if has_brace text then Refuses BadComment else Does (commented_here (normalised text) t)

-- the draws that may be claimed, if the move is legal
abbrev pub claimed : Option DrawClaims → Effect
claimed None = Refuses Illegal
claimed (Some claims) = says_line (claims_text claims)

-- `claim`: those that may be claimed with the move that the text names
abbrev pub claim_effect : Line → Result MoveParts SanFault → Effect
claim_effect line (Ok m) = claimed (claims_with line m)
claim_effect line (Err fault) = Refuses (san_refusal fault)

-- what is asked of a position alone
abbrev pub counts_of : PositionParts → Colour → List ℕ
counts_of p colour = counts_text (count (man_on p) colour)

-- the squares of the men that give check to the side to move
abbrev pub checks_of : PositionParts → List ℕ
checks_of p = list_text (map square_text (filter (checks_from (man_on p) p.side) squares))

-- a move and its score, separated by one space
abbrev pub best_text : Option (MoveParts × ℤ) → List ℕ
best_text None = codes "none"
best_text (Some (m, value)) = move_text m ++ codes " " ++ score_text value

-- what a request does to a tree, where it is asked at the cursor
abbrev pub effect : TreeParts → Request → Effect
effect t Blank = Says []
effect t New = Does new_tree
effect t (Set fen) = set_effect (fen_reading fen)
effect t (Counts colour) = says_line (counts_of (last (line_to t)) colour)
effect t Eval = says_line (signed_decimal (evaluation (man_on (last (line_to t)))))
effect t Fen = says_line (written (last (line_to t)))
effect t Moves = says_line (list_text (map move_text (legal_moves (last (line_to t)))))
effect t Checks = says_line (checks_of (last (line_to t)))
effect t (Play word) = play_effect t (san_reading (last (line_to t)) word)
effect t Back = not_at_root t.path (at_path (parent t.path) t)
effect t (Step place) = if_it_exists (nat_lt place (count_children (nodes_here t))) (at_path (t.path ++ place ∷ []) t)
effect t Start = Does (at_path [] t)
effect t End = Does (at_path (t.path ++ main_line (nodes_here t)) t)
effect t (Goto path) = if_it_exists (has path t.tree.below) (at_path path t)
effect t Path = says_line (path_text t.path)
effect t Promote = not_at_root t.path (promoted_here t)
effect t Delete = not_at_root t.path (deleted t)
effect t (Comment text) = comment_effect t text
effect t (Nag nag) = not_at_root t.path (annotated_here nag t)
effect t Count = says_line (decimal (repetitions (line_to t)))
effect t Status = says_line (status_text (status (line_to t)))
effect t Claims = says_line (claims_text (claims (line_to t)))
effect t (Claim word) = claim_effect (line_to t) (san_reading (last (line_to t)) word)
effect t (Best depth) = says_line (best_text (best false depth (line_to t) (legal_moves (last (line_to t)))))
effect t Pgn = Says (game_text (untagged t.tree))
effect t Unknown = Refuses Command
effect t Malformed = Refuses Argument

-- what is answered
abbrev pub reply : Effect → List ℕ
reply (Says text) = text
reply (Does new) = ok_line
reply (Refuses refusal) = refused refusal

-- the tree and the cursor afterwards
abbrev pub tree_left_by : TreeParts → Effect → TreeParts
tree_left_by old (Says text) = old
tree_left_by old (Does new) = new
tree_left_by old (Refuses refusal) = old

-- what a request is answered
abbrev pub request_answer : TreeParts → Request → List ℕ
request_answer t request = reply (effect t request)

-- the tree and its cursor after a request
abbrev pub tree_after : TreeParts → Request → TreeParts
tree_after t request = tree_left_by t (effect t request)

-- the move that a text names has no node yet, so that one is added
abbrev pub names_new : TreeParts → Result MoveParts SanFault → Bool
names_new t (Ok m) = is_new t m
names_new t (Err fault) = false

-- a comment has a word, so that it is kept
abbrev pub has_words : List ℕ → Bool
has_words text = nat_lt 0 (length (normalised text))

-- the requests that may ask for memory: for a new tree, a new node, a comment, an annotation, or the game's text
abbrev pub takes_memory : TreeParts → Request → Bool
takes_memory t New = true
takes_memory t (Set fen) = true
takes_memory t (Play word) = names_new t (san_reading (last (line_to t)) word)
takes_memory t (Comment text) = has_words text
takes_memory t (Nag nag) = true
takes_memory t Pgn = true
takes_memory t _ = false

-- it isn't refused
abbrev pub IsGranted : Effect → Type 0
IsGranted (Says text) = ⊤
IsGranted (Does new) = ⊤
IsGranted (Refuses refusal) = ⊥

-- What a call that has this effect answers, and what it leaves: the effect is done, or refused; or, where it would be done, may take memory, and
-- there is none for it, refused so, with everything kept.
abbrev pub HasEffect : {X : Type 0} → Bool → Effect → TreeParts → Result X Refusal → TreeParts → Type 0
HasEffect takes effect old (Ok _) new = effect ≡ Does new
HasEffect takes effect old (Err refusal) new = ((effect ≡ Refuses refusal) ⊎ ((takes ≡ true) × IsGranted effect × (refusal ≡ Memory))) × (new ≡ old)

-- The text answers the request, asked of the old tree at its cursor: it says what is asked, or, where that takes memory and there is none, is a refusal
-- that keeps everything.
abbrev pub AnswersRequest : TreeParts → Request → List ℕ → TreeParts → Type 0
AnswersRequest old request text new =
    ((text ≡ request_answer old request) × (new ≡ tree_after old request))
    ⊎ ((takes_memory old request ≡ true) × IsGranted (effect old request) × (text ≡ memory_refusal) × (new ≡ old))

-- the refusal of a line over the limit
abbrev pub long_line : List ℕ
long_line = refused LongLine

-- The text answers a line of the input. One within the limit is answered as it asks; or, where there isn't always room for it, by the refusal for want of
-- memory. One over the limit is refused. What is refused so keeps everything.
abbrev pub Answers : TreeParts → List ℕ → List ℕ → TreeParts → Type 0
Answers old input text new =
    ((length input ≤ line_limit) × AnswersRequest old (request input) text new)
    ⊎ ((length input ≤ line_limit) × (line_room < length input) × (text ≡ memory_refusal) × (new ≡ old))
    ⊎ ((line_limit < length input) × (text ≡ long_line) × (new ≡ old))
