-- The first game of bytes of which more may come, whatever comes.
--   MayFollow   of some bytes: nothing, where they are the last of the text, else anything
--   BeginsAnyhow   one game is at the start of the bytes, with the number of its bytes, whatever follows them
--   IsBadAnyhow   no game is there, whatever follows, and these are not white alone; with the number of the bytes that are given up with it, by the text alone
--   IsOpen   the bytes may be the beginning of a game, at most 1,048,576 of them but for white items; or of a bad one that is still given up: more of them decide
--   IsUndecided   they are so, and more may come; or so are the first 2^40 or more of them
--   IsNoNext   no game comes: the end, a bad game, more bytes are wanted, or there is no memory; the number is that of the bytes to pass over, or as it was
--   IsNext   what is answered: of a game the number of its bytes
--   LoadsNext   the same of a board and its heading, which then have the game, the cursor at its root; else both are as they were
use Rattle.std.specs.Prelude.{◌≡◌, ◌⊎◌, ◌≤◌, ℕ, Bool, true, false, List, [], ◌++◌, length}
use Rattle.chess_items.specs.Abandoned.{GivesUp, GoesFurther}
use Rattle.chess_items.specs.declared.fault.FaultKind.{FaultKind}
use Rattle.chess_pgn.specs.Games.{Game}
use Rattle.chess_pgn.specs.Reading.{BeginsWithGame, IsWhite}
use Rattle.chess_pgn.specs.Sources.{EndsOpen}
use Rattle.chess_tree.specs.GameTree.{TreeParts}
use Rattle.chess_cli.specs.Loads.{from_root}
use Rattle.chess_bindings.specs.Codes.{fault_code, no_game, no_memory, ok, wants_more}
use Rattle.chess_bindings.specs.Games.{IsBad, is_of_text}
use Rattle.chess_bindings.specs.Headings.{HeadingParts}
use Rattle.chess_bindings.specs.Loads.{heading_of}

abbrev pub MayFollow : Bool → List ℕ → Type 0
MayFollow is_last more = is_last ≡ true → more ≡ []

abbrev pub BeginsAnyhow : List ℕ → Bool → Game → ℕ → Type 0
BeginsAnyhow text is_last game used = (more : List ℕ) → MayFollow is_last more → BeginsWithGame (text ++ more) game used

abbrev pub IsBadAnyhow : List ℕ → Bool → ℕ → Type 0
IsBadAnyhow text is_last used = (more : List ℕ) → MayFollow is_last more → IsBad (text ++ more) × GivesUp (text ++ more) used

abbrev pub IsOpen : List ℕ → Type 0
IsOpen text = EndsOpen text ⊎ GoesFurther text

-- 2^40 reads were made, each of a byte at least
pub record IsUndecided (text : List ℕ) (is_last : Bool) : Type 0 where
  pub begun : List ℕ
  pub left : List ℕ
  pub parts : text ≡ begun ++ left
  pub undecided : IsOpen begun
  pub all : ((left ≡ []) × (is_last ≡ false)) ⊎ (1099511627776 ≤ length begun)

abbrev pub IsNoNext : List ℕ → Bool → (code used used' : ℕ) → Type 0
IsNoNext text is_last code used used' =
    ((code ≡ no_game) × (is_last ≡ true) × IsWhite text × (used' ≡ length text))
    ⊎ (((kind : FaultKind) × (is_of_text kind ≡ true) × (code ≡ fault_code kind) × IsBadAnyhow text is_last used')
    ⊎ (((code ≡ wants_more) × (used' ≡ used) × IsUndecided text is_last)
    ⊎ ((code ≡ no_memory) × (used' ≡ used))))

abbrev pub IsNext : List ℕ → Bool → (code used used' : ℕ) → Type 0
IsNext text is_last code used used' = ((code ≡ ok) × (game : Game) × BeginsAnyhow text is_last game used') ⊎ IsNoNext text is_last code used used'

abbrev pub LoadsNext : List ℕ → Bool → TreeParts → HeadingParts → (code used used' : ℕ) → TreeParts → HeadingParts → Type 0
LoadsNext text is_last board heading code used used' board' heading' =
    ((code ≡ ok) × (game : Game) × BeginsAnyhow text is_last game used' × (board' ≡ from_root game.tree) × (heading' ≡ heading_of game))
    ⊎ ((board' ≡ board) × (heading' ≡ heading) × IsNoNext text is_last code used used')
