-- Ends that a text lacks, and text that belongs to no game. Each definition looks at the bytes that follow.
--   is_section    a line feed, an empty line and the beginning of a tag follow
--   ends_comment  the text ends here, or a section follows: a comment may be closed here
--   ends_game     after whitespace the text ends, or a tag may begin
--   is_result     the marker of a game's end in any form, or the empty text
--   EndsGame      a game ends after its result or at once: a variation may be closed here
--   is_prose      no line of a text begins with a tag; the last tag may end in the bytes that follow the text
use Rattle.std.specs.Prelude.{◌≡◌, ℕ, Bool, true, false, ◌||◌, ◌&&◌, ◌==◌, not, List, [], ◌∷◌, ◌++◌, codes, bytes_eq}
use Rattle.chess_items.specs.Items.{is_blank}
use Rattle.chess_repair.specs.Runs.{past}
use Rattle.chess_repair.specs.Tags.{begins_tag, opens_tag}
use Rattle.chess_repair.specs.Words.{says_draw, says_loss, says_win}

-- whitespace at the beginning has a line feed
abbrev pub has_feed : List ℕ → Bool
has_feed [] = false
has_feed (b ∷ bs) = b == 10 || (is_blank b && has_feed bs)

abbrev pub is_section : List ℕ → Bool
is_section [] = false
is_section (b ∷ bs) = (b == 10 && has_feed bs) && begins_tag (past is_blank bs)

abbrev pub ends_comment : List ℕ → Bool
ends_comment [] = true
ends_comment (b ∷ bs) = is_section (b ∷ bs)

-- the text ends, or a tag may begin
abbrev pub ends_here : List ℕ → Bool
ends_here [] = true
ends_here (b ∷ bs) = opens_tag (b ∷ bs)

abbrev pub ends_game : List ℕ → Bool
ends_game text = ends_here (past is_blank text)

-- PGN 8.2.6, and other forms
unfoldable pub is_result : List ℕ → Bool
is_result word =
    bytes_eq word [] || bytes_eq word (codes "*") || bytes_eq word (codes "1-0") || bytes_eq word (codes "0-1") || bytes_eq word (codes "1/2-1/2") || says_draw word || says_win word || says_loss word

abbrev pub EndsGame : List ℕ → Type 0
EndsGame text = (word more : List ℕ) × (text ≡ word ++ more) × (is_result word ≡ true) × (ends_game more ≡ true)

-- (the flag: nothing but whitespace comes before on the line)
abbrev pub is_prose : Bool → List ℕ → List ℕ → Bool
is_prose is_first [] others = true
is_prose is_first (b ∷ bs) others = not (is_first && begins_tag ((b ∷ bs) ++ others)) && is_prose (b == 10 || (is_first && is_blank b)) bs others
