-- What typed calls do and answer, in the words of the board's own answers. Three numbers that are no move are answered as a move that isn't legal. What is
-- written for a caller is named twice, as it was and as it is afterwards: a call that is refused writes nothing.
--   play_in, is_new_in   a move as C sees it is made; a node is added for it
--   SaysAdded    where a move was made, whether a node was added for it
--   IsClaimed    the draws that may be claimed with a move
--   IsRead       the move that a text names, or why it names none
--   IsWritten    the text of a move in standard algebraic notation
--   IsBest       the best move and its value
--   IsBestAt     the same for a depth of 1 to 16 plies
--   IsBestWithin   the same, unless the search for it is abandoned, or there is no memory
--   IsFollowed     the replies that hold a move's value are written, or the call says why it wrote no reply
--   IsMoveHere   the move that leads to a node, or that it is the root
--   is_legal_meant   three numbers are a legal move
--   IsPieceAt    what is on a square, for a number that is one
--   flag         1 for what holds
--   attackers_of   the men of a colour that attack a square, as a word: the bit of each man's square is 1
--   IsAttackedBy   that word, for numbers that are a colour and a square
use Rattle.std.specs.Prelude.{◌≡◌, ◌⊎◌, ◌<◌, ◌≤◌, ℕ, ◌+◌, ◌-◌, ℤ, pos, neg_ℤ, ◌<ℤ◌, IfSome, IsSomeAnd, map, nat_le, nat_lt, ◌==◌, Bool, true, false, ◌&&◌, if◌then◌else◌, List, [], length, Option, Some, None, Result, Ok, Err}
use Rattle.chess_types.specs.declared.board.man.Colour.{Colour}
use Rattle.chess_types.specs.declared.board.man.Man.{Man}
use Rattle.chess_types.specs.declared.board.outcome.Claims.{Claims}
use Rattle.chess_types.specs.board.MoveParts.{MoveParts}
use Rattle.chess_types.specs.board.Position.{PositionParts}
use Rattle.chess_types.specs.board.Attack.{attacks_for}
use Rattle.chess_types.specs.board.Bits.{word_where}
use Rattle.chess_types.specs.board.Legal.{is_legal, legal_moves}
use Rattle.chess_types.specs.board.Lines.{Line, last, extended}
use Rattle.chess_types.specs.board.Outcome.{claims_with}
use Rattle.chess_san.specs.declared.fault.SanFault.{SanFault}
use Rattle.chess_san.specs.Writing.{san}
use Rattle.chess_search.specs.Asked.{trees_below}
use Rattle.chess_search.specs.Best.{best}
use Rattle.chess_search.specs.Replies.{replies_holding}
use Rattle.chess_search.specs.Scores.{IsValue}
use Rattle.chess_search.specs.Watches.{Watched}
use Rattle.chess_tree.specs.GameTree.{TreeParts}
use Rattle.chess_tree.specs.Plays.{is_new}
use Rattle.chess_cli.specs.declared.board_command.refusal.Refusal.TheVariants.{Argument, AtRoot, Illegal}
use Rattle.chess_cli.specs.Refusals.{san_refusal}
use Rattle.chess_cli.specs.Answers.{Effect, Refuses, move_effect}
use Rattle.chess_c.specs.declared.moves.CMove.{CMove}
use Rattle.chess_bindings.specs.Codes.{no_memory, none_best, ok, was_abandoned}
use Rattle.chess_bindings.specs.Handed.{IsHanded}
use Rattle.chess_c.specs.Codes.{claims_code, refusal_code}
use Rattle.chess_c.specs.Held.{Held}
use Rattle.chess_c.specs.Moves.{move_shown}
use Rattle.chess_c.specs.Positions.{letter_of}

-- a move is made, if it is one
abbrev pub play_in : Option MoveParts → TreeParts → Effect
play_in None board = Refuses Illegal
play_in (Some m) board = move_effect board m

-- a node is added for it
abbrev pub is_new_in : Option MoveParts → TreeParts → Bool
is_new_in None board = false
is_new_in (Some m) board = is_new board m

-- where the call is done, whether a node was added is written
abbrev pub SaysAdded : (TreeParts → Bool) → Option Held → (code : ℕ) → (said said' : Bool) → Type 0
SaysAdded is_new None code said said' = said' ≡ said
SaysAdded is_new (Some held) code said said' = said' ≡ (if code == ok then is_new held.board else said)

-- none where the move isn't legal
abbrev pub claims_in : Option MoveParts → Line → Option Claims
claims_in None line = None
claims_in (Some m) line = claims_with line m

-- false if the numbers are no move
abbrev pub is_legal_meant : PositionParts → Option MoveParts → Bool
is_legal_meant p None = false
is_legal_meant p (Some m) = is_legal p m

-- by whether the number is a square
abbrev pub PieceIf : Bool → (ℕ → Option Man) → (square code said said' : ℕ) → Type 0
PieceIf true at square code said said' = (code ≡ ok) × (said' ≡ letter_of (at square))
PieceIf false at square code said said' = (code ≡ refusal_code Argument) × (said' ≡ said)

-- the letter of the man on a square, or 0 for nothing
abbrev pub IsPieceAt : (ℕ → Option Man) → (square code said said' : ℕ) → Type 0
IsPieceAt at square code said said' = PieceIf (nat_lt square 64) at square code said said'

-- the draws that may be claimed are written, or the move isn't legal
abbrev pub IsClaimed : Option Claims → (code said said' : ℕ) → Type 0
IsClaimed None code said said' = (code ≡ refusal_code Illegal) × (said' ≡ said)
IsClaimed (Some claims) code said said' = (code ≡ ok) × (said' ≡ claims_code claims)

-- the move that a text names is written, or why there is none
abbrev pub IsRead : Result MoveParts SanFault → ℕ → (said said' : CMove) → Type 0
IsRead (Ok m) code said said' = (code ≡ ok) × (said' ≡ move_shown m)
IsRead (Err fault) code said said' = (code ≡ refusal_code (san_refusal fault)) × (said' ≡ said)

-- by whether the move is legal
abbrev pub WrittenIf : Bool → PositionParts → MoveParts → (code count count' : ℕ) → (old new : List ℕ) → Type 0
WrittenIf true p m code count count' old new = IsHanded (san p m) code count' old new
WrittenIf false p m code count count' old new = (code ≡ refusal_code Illegal) × (count' ≡ count) × (new ≡ old)

-- the text of a legal move is written
abbrev pub IsWritten : Option MoveParts → PositionParts → (code count count' : ℕ) → (old new : List ℕ) → Type 0
IsWritten None p code count count' old new = (code ≡ refusal_code Illegal) × (count' ≡ count) × (new ≡ old)
IsWritten (Some m) p code count count' old new = WrittenIf (is_legal p m) p m code count count' old new

-- the best move and its value are written, or there is none
abbrev pub IsBest : Option (MoveParts × ℤ) → ℕ → (said said' : CMove) → (value value' : ℤ) → Type 0
IsBest None code said said' value value' = (code ≡ none_best) × (said' ≡ said) × (value' ≡ value)
IsBest (Some (m, worth)) code said said' value value' = (code ≡ ok) × (said' ≡ move_shown m) × (value' ≡ worth)

-- by whether the depth is one
abbrev pub BestIf : Bool → Line → (depth code : ℕ) → (said said' : CMove) → (value value' : ℤ) → Type 0
BestIf true line depth code said said' value value' = IsBest (best false depth line (legal_moves (last line))) code said said' value value'
BestIf false line depth code said said' value value' = (code ≡ refusal_code Argument) × (said' ≡ said) × (value' ≡ value)

-- the same for a depth from 1 to 16
abbrev pub IsBestAt : Line → (depth code : ℕ) → (said said' : CMove) → (value value' : ℤ) → Type 0
IsBestAt line depth code said said' value value' = BestIf (nat_le 1 depth && nat_le depth 16) line depth code said said' value value'

-- what a search of all legal moves asks for: the line itself and each move where it isn't abandoned, and no more than plain minimax
pub record AsksWithin (says : ℕ → Option Bool) (line : Line) (depth : ℕ) (made : Bool) (nodes : ℕ) : Type 0 where
  pub watched : Watched says 1 nodes made
  pub at_least : made ≡ true → length (legal_moves (last line)) + 1 ≤ nodes
  pub at_most : nodes ≤ 1 + trees_below false (depth - 1) line (legal_moves (last line))

-- by whether it was abandoned
abbrev pub BestUnless : Bool → Option (MoveParts × ℤ) → ℕ → (said said' : CMove) → (value value' : ℤ) → Type 0
BestUnless true found code said said' value value' = IsBest found code said said' value value'
BestUnless false found code said said' value value' = (code ≡ was_abandoned) × (said' ≡ said) × (value' ≡ value)

-- the best of all legal moves, of which there are some, and how many positions were asked for
abbrev pub BestFound : (says : ℕ → Option Bool) → Line → (depth code : ℕ) → (said said' : CMove) → (value value' : ℤ) → ℕ → Type 0
BestFound says line depth code said said' value value' nodes =
    (0 < length (legal_moves (last line)))
    × ((made : Bool) × AsksWithin says line depth made nodes × BestUnless made (best false depth line (legal_moves (last line))) code said said' value value')

-- why nothing was searched: the depth is none, there is no legal move, or no memory
abbrev pub IsUnsearched : Line → (depth code : ℕ) → Type 0
IsUnsearched line depth code =
    ((code ≡ refusal_code Argument) × ((depth ≡ 0) ⊎ (16 < depth))) ⊎ ((code ≡ none_best) × (legal_moves (last line) ≡ [])) ⊎ (code ≡ no_memory)

-- the best move at a depth from 1 to 16, unless that is abandoned as a watch says, or nothing is searched
abbrev pub IsBestWithin : (says : ℕ → Option Bool) → Line → (depth code : ℕ) → (said said' : CMove) → (value value' : ℤ) → (nodes nodes' : ℕ) → Type 0
IsBestWithin says line depth code said said' value value' nodes nodes' =
    ((1 ≤ depth) × (depth ≤ 16) × BestFound says line depth code said said' value value' nodes')
    ⊎ (IsUnsearched line depth code × (said' ≡ said) × (value' ≡ value) × (nodes' ≡ nodes))

-- by whether it was abandoned
abbrev pub FollowedUnless : Bool → List MoveParts → (code count count' : ℕ) → (old new : List CMove) → Type 0
FollowedUnless true moves code count count' old new = IsHanded (map move_shown moves) code count' old new
FollowedUnless false moves code count count' old new = (code ≡ was_abandoned) × (count' ≡ count) × (new ≡ old)

-- the call writes the replies to a legal move, and the number of positions that the search asked for
abbrev pub RepliesFound : (says : ℕ → Option Bool) → Line → MoveParts → ℕ → ℤ → (code count count' nodes : ℕ) → (old new : List CMove) → Type 0
RepliesFound says line m depth value code count count' nodes old new =
    (is_legal (last line) m ≡ true)
    × ((made : Bool) × Watched says 1 nodes made × FollowedUnless made (replies_holding false (depth - 1) (extended line m) 1 (neg_ℤ value)) code count count' old new)

-- the call searched nothing: the depth or the value is out of range, the move is illegal, or memory ran out
abbrev pub IsUnfollowed : Line → Option MoveParts → ℕ → ℤ → (code : ℕ) → Type 0
IsUnfollowed line m depth value code =
    ((code ≡ refusal_code Argument) × ((depth ≡ 0) ⊎ (16 < depth) ⊎ (value <ℤ neg_ℤ (pos 30000)) ⊎ (pos 30000 <ℤ value)))
    ⊎ ((code ≡ refusal_code Illegal) × IfSome m (λ found. is_legal (last line) found ≡ false)) ⊎ (code ≡ no_memory)

-- the call writes the replies at a depth from 1 to 16, abandons the search as the watch says, or searches nothing
abbrev pub IsFollowed : (says : ℕ → Option Bool) → Line → Option MoveParts → ℕ → ℤ → (code count count' nodes nodes' : ℕ) → (old new : List CMove) → Type 0
IsFollowed says line m depth value code count count' nodes nodes' old new =
    ((1 ≤ depth) × (depth ≤ 16) × IsValue value × IsSomeAnd m (λ found. RepliesFound says line found depth value code count count' nodes' old new))
    ⊎ (IsUnfollowed line m depth value code × (count' ≡ count) × (nodes' ≡ nodes) × (new ≡ old))

-- the move that leads to a node is written; none leads to the root
abbrev pub IsMoveHere : Option MoveParts → ℕ → (said said' : CMove) → Type 0
IsMoveHere None code said said' = (code ≡ refusal_code AtRoot) × (said' ≡ said)
IsMoveHere (Some m) code said said' = (code ≡ ok) × (said' ≡ move_shown m)

-- a bit for each square with a man of the colour that attacks the square (FIDE Laws 3.1 to 3.8)
abbrev pub attackers_of : (ℕ → Option Man) → Colour → ℕ → ℕ
attackers_of man_on colour square = word_where (λ a. attacks_for (man_on a) colour man_on a square)

-- by whether the number is a square's
abbrev pub AttackedIf : Bool → (ℕ → Option Man) → Colour → (square code said said' : ℕ) → Type 0
AttackedIf true man_on colour square code said said' = (code ≡ ok) × (said' ≡ attackers_of man_on colour square)
AttackedIf false man_on colour square code said said' = (code ≡ refusal_code Argument) × (said' ≡ said)

-- the attackers of a square are written, where the numbers are a colour and a square
abbrev pub IsAttackedBy : (ℕ → Option Man) → Option Colour → (square code said said' : ℕ) → Type 0
IsAttackedBy man_on None square code said said' = (code ≡ refusal_code Argument) × (said' ≡ said)
IsAttackedBy man_on (Some colour) square code said said' = AttackedIf (nat_lt square 64) man_on colour square code said said'

-- 1 where it holds, else 0
abbrev pub flag : Bool → ℕ
flag true = 1
flag false = 0
