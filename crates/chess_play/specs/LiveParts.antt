-- What contracts see of a `Live`: its position, the words of its key table and its ticks. Its counts, its evaluation and its
-- key are those of the position.
--   LiveParts   these parts
--   TakesBack   what taking a move back does to them
use Rattle.std.specs.Prelude.{◌≡◌, ℕ, ◌≤◌, List, refl}
use Rattle.std.specs.Coded.{Coded, code_by, coded×, coded_ℕ, coded_list}
use Rattle.chess_types.specs.board.Board.{Board}
use Rattle.chess_types.specs.board.Position.{PositionParts}
use Rattle.chess_types.specs.steps.StateCode.{coded_state}
use Rattle.chess_play.specs.Records.{RecordParts, IsBefore}

-- a position, the keys' words, and the ticks of the last change
pub record LiveParts : Type 0 where
  pub position : PositionParts
  pub words : List ℕ
  pub ticks : ℕ

-- The move of the record is taken back: any position before it is the one now, by the same words; the ticks are at most 216,
-- and suffice for what is kept.
pub record TakesBack (suffices : Board → Board → ℕ → Type 0) (old : LiveParts) (past : RecordParts) (new : LiveParts) : Type 0 where
  pub position : (p : PositionParts) → IsBefore old.position past p → new.position ≡ p
  pub words : new.words ≡ old.words
  pub at_most : new.ticks ≤ 216
  pub at_least : suffices old.position.placement new.position.placement new.ticks

-- the parts as a tuple, by which a proof tells them apart
abbrev pub coded_live : Coded LiveParts
coded_live =
    code_by (PositionParts × (List ℕ × ℕ)) (coded× coded_state (coded× (coded_list coded_ℕ) coded_ℕ))
    (λ l. (l.position, (l.words, l.ticks)))
    (λ p. record { position = p.0; words = p.1.0; ticks = p.1.1 })
    (λ _. refl)
