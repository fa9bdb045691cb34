-- What contracts see of a `Line`.
--   LineParts   the line itself, how many of its last moves are only looked at, the words of its key table, the ticks of the last move
--               made or taken back, the room: how many plies it can have without another growth, and how many plies the last count
--               compared
--   comparisons   how many positions a count of repetitions compares with the last one
--   IsAsBefore  all of it but the ticks and the number of plies compared is as it was
use Rattle.std.specs.Prelude.{◌≡◌, ℕ, ◌/◌, min, List, length, refl}
use Rattle.std.specs.Coded.{Coded, code_by, coded×, coded_ℕ, coded_list}
use Rattle.chess_types.specs.board.Lines.{Line, last}
use Rattle.chess_types.specs.steps.LineCode.{coded_line}

-- a line with the plies that are only looked at and the keys' words
pub record LineParts : Type 0 where
  pub line : Line
  pub looked : ℕ
  pub words : List ℕ
  pub ticks : ℕ
  pub room : ℕ
  pub compared : ℕ

-- the parts as a tuple, by which a proof distinguishes them
abbrev pub coded_parts : Coded LineParts
coded_parts =
    code_by ((Line × ℕ) × (List ℕ × (ℕ × (ℕ × ℕ))))
    (coded× (coded× coded_line coded_ℕ) (coded× (coded_list coded_ℕ) (coded× coded_ℕ (coded× coded_ℕ coded_ℕ))))
    (λ l. ((l.line, l.looked), (l.words, (l.ticks, (l.room, l.compared)))))
    (λ p. record { line = p.0.0; looked = p.0.1; words = p.1.0; ticks = p.1.1.0; room = p.1.1.1.0; compared = p.1.1.1.1 })
    (λ _. refl)

-- every second one before it, as far back as the halfmove clock says
abbrev pub comparisons : Line → ℕ
comparisons line = min (length line.moves) (last line).clock / 2

-- nothing has changed but the number of positions compared
pub record IsAsBefore (old new : LineParts) : Type 0 where
  pub line : new.line ≡ old.line
  pub looked : new.looked ≡ old.looked
  pub words : new.words ≡ old.words
  pub room : new.room ≡ old.room
