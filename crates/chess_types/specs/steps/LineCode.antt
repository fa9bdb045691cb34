-- A line as a tuple, by which a proof tells lines apart.
use Rattle.std.specs.Prelude.{ℕ, List, Option, refl}
use Rattle.std.specs.Coded.{Coded, code_by, coded×, coded_ℕ, coded_list, coded_option}
use Rattle.chess_types.specs.declared.board.man.Kind.{Kind}
use Rattle.chess_types.specs.board.Men.{kind_number}
use Rattle.chess_types.specs.steps.ManCode.{kind_of, kind_of-number}
use Rattle.chess_types.specs.board.MoveParts.{MoveParts}
use Rattle.chess_types.specs.board.Position.{PositionParts}
use Rattle.chess_types.specs.steps.StateCode.{coded_state}
use Rattle.chess_types.specs.board.Lines.{Line}

-- a kind as a number
abbrev pub coded_kind : Coded Kind
coded_kind = code_by ℕ coded_ℕ kind_number kind_of kind_of-number

-- a move as a tuple
abbrev pub coded_move : Coded MoveParts
coded_move =
    code_by (ℕ × (ℕ × Option Kind)) (coded× coded_ℕ (coded× coded_ℕ (coded_option coded_kind)))
    (λ m. (m.from, (m.to, m.promo)))
    (λ p. record { from = p.0; to = p.1.0; promo = p.1.1 })
    (λ _. refl)

-- a line as a tuple
abbrev pub coded_line : Coded Line
coded_line =
    code_by (PositionParts × List MoveParts) (coded× coded_state (coded_list coded_move)) (λ l. (l.start, l.moves)) (λ p. record { start = p.0; moves = p.1 }) (λ _. refl)
