-- How good games are written.
--   head_in   what comes before all games: in rows of comma-separated values a row of the columns' names
--   text_in   what is written of a game after `before` others: its export form, or a row for each ply of its main line, with the game's number from 1
--   IsHeaded  what comes before all games is written, and then it goes on so
use Rattle.std.specs.Prelude.{◌≡◌, ℕ, ◌+◌, Bool, List, []}
use Rattle.byte_streams.specs.Calls.{Carries}
use Rattle.chess_pgn.specs.Games.{Game}
use Rattle.chess_pgn.specs.Written.{game_text}
use Rattle.chess_positions.specs.Rows.{names_text, plies_text}
use Rattle.chess_report.specs.MainLine.{main}
use Rattle.chess_games.specs.declared.form.Form.{Form}
use Rattle.chess_games.specs.declared.form.Form.TheVariants.{Games, Rows}

abbrev pub head_in : Form → List ℕ
head_in Games = []
head_in (Rows layout) = names_text layout.format layout.columns.items

abbrev pub text_in : Form → ℕ → Game → List ℕ
text_in Games before game = game_text game
text_in (Rows layout) before game = plies_text layout.format layout.columns.items (before + 1) game.outcome (main game.tree)

pub record IsHeaded {W : Type 0} (takes : W → List ℕ → W → Type 0) (write_failed : W → Bool) (form : Form) (old : W) (Then : W → Type 0) : Type 0 where
  pub mid : W
  pub writes : Carries takes old (head_in form) mid
  pub well_written : write_failed mid ≡ write_failed old
  pub goes_on : Then mid
