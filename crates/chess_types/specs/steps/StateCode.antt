-- A position as a tuple, by which a proof tells positions apart.
use Rattle.std.specs.Prelude.{ℕ, Bool, Option, refl}
use Rattle.std.specs.FinMap as map
use Rattle.std.specs.Coded.{Coded, code_by, coded×, coded_ℕ, coded_bool, coded_option}
use Rattle.chess_types.specs.declared.board.man.Colour.{Colour}
use Rattle.chess_types.specs.declared.board.position.Rights.{Rights}
use Rattle.chess_types.specs.board.Board.{Board}
use Rattle.chess_types.specs.board.Men.{colour_number}
use Rattle.chess_types.specs.steps.ManCode.{coded_man, colour_of, colour_of-number}
use Rattle.chess_types.specs.board.Position.{PositionParts}

-- a colour as a number
abbrev pub coded_colour : Coded Colour
coded_colour = code_by ℕ coded_ℕ colour_number colour_of colour_of-number

-- rights as a tuple
abbrev pub coded_rights : Coded Rights
coded_rights =
    code_by ((Bool × Bool) × (Bool × Bool)) (coded× (coded× coded_bool coded_bool) (coded× coded_bool coded_bool))
    (λ r. ((r.white_king, r.white_queen), (r.black_king, r.black_queen)))
    (λ p. record { white_king = p.0.0; white_queen = p.0.1; black_king = p.1.0; black_queen = p.1.1 })
    (λ _. refl)

-- a board as a list
abbrev pub coded_board : Coded Board
coded_board = map.code coded_ℕ coded_man

-- a position as a tuple
abbrev pub coded_state : Coded PositionParts
coded_state =
    code_by ((Board × Colour) × (Rights × (Option ℕ × (ℕ × ℕ))))
    (coded× (coded× coded_board coded_colour) (coded× coded_rights (coded× (coded_option coded_ℕ) (coded× coded_ℕ coded_ℕ))))
    (λ s. ((s.placement, s.side), (s.rights, (s.target, (s.clock, s.number)))))
    (λ p. record { placement = p.0.0; side = p.0.1; rights = p.1.0; target = p.1.1.0; clock = p.1.1.1.0; number = p.1.1.1.1 })
    (λ _. refl)
