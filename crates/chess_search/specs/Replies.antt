-- The line of a score: the moves along which a line reaches what it is worth by a search.
--   first_worth       the first of some moves that is worth at least so much
--   replies_holding   the moves along which a value is held: each is the first that is worth it to its side
--   IsLineOfScore     each move is the first of those that are worth most, and the line's end is worth the score
use Rattle.std.specs.Prelude.{◌≡◌, ◌⊎◌, ℕ, zero, suc, ◌+◌, Bool, true, if◌then◌else◌, List, [], ◌∷◌, Option, Some, None, is_some, unwrap_or, ℤ, neg_ℤ, int_le, find}
use Rattle.std.specs.Option.{option_map}
use Rattle.chess_types.specs.board.MoveParts.{MoveParts}
use Rattle.chess_types.specs.board.Legal.{legal_moves}
use Rattle.chess_types.specs.board.Lines.{Line, last, extended}
use Rattle.chess_search.specs.Best.{best_by}
use Rattle.chess_search.specs.Value.{counts_drawn, ended, value, worth}

-- none where each is worth less
abbrev pub first_worth : (MoveParts → ℤ) → ℤ → List MoveParts → Option MoveParts
first_worth worth least moves = find (λ m. int_le least (worth m)) moves

-- at most `depth` moves from a line that is `distance` moves from the root; no move if the line counts as drawn, or if no move is worth the value
abbrev pub replies_holding : Bool → ℕ → Line → ℕ → ℤ → List MoveParts
replies_holding claims zero line distance v = []
replies_holding claims (suc depth) line distance v =
    if counts_drawn claims line then []
    else unwrap_or
    (option_map (λ m. m ∷ replies_holding claims depth (extended line m) (distance + 1) (neg_ℤ v)) (first_worth (worth claims depth line distance) v (legal_moves (last line)))) []

-- the line ends where the search does or the game is over or drawn, and there it is worth the score; the sides see it with opposite signs
abbrev pub IsLineOfScore : Bool → ℕ → Line → ℕ → ℤ → List MoveParts → Type 0
IsLineOfScore claims depth line distance score [] = ((depth ≡ 0) ⊎ (is_some (ended claims line distance) ≡ true)) × (value claims 0 line distance ≡ score)
IsLineOfScore claims zero line distance score (m ∷ moves) = ⊥
IsLineOfScore claims (suc depth) line distance score (m ∷ moves) =
    (ended claims line distance ≡ None) × (best_by (worth claims depth line distance) (legal_moves (last line)) ≡ Some (m, score))
    × IsLineOfScore claims depth (extended line m) (distance + 1) (neg_ℤ score) moves
