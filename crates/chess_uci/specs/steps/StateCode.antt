-- A session's state as a tuple, by which a proof distinguishes states.
use Rattle.std.specs.Prelude.{ℕ, Bool, List, Option, ℤ, refl}
use Rattle.std.specs.Coded.{Coded, code_by, coded×, coded_ℕ, coded_ℤ, coded_bool, coded_list, coded_option}
use Rattle.chess_types.specs.board.MoveParts.{MoveParts}
use Rattle.chess_types.specs.board.Lines.{Line}
use Rattle.chess_types.specs.steps.LineCode.{coded_line, coded_move}
use Rattle.chess_uci.specs.Machine.{Search, State}

-- a search as a tuple, by which a proof distinguishes searches
abbrev pub coded_search : Coded Search
coded_search =
    code_by (((Bool × Bool) × (List MoveParts × Option ℕ)) × ((ℕ × ℕ) × ((ℕ × ℕ) × Option (MoveParts × ℤ))))
    (coded× (coded× (coded× coded_bool coded_bool) (coded× (coded_list coded_move) (coded_option coded_ℕ))) (coded× (coded× coded_ℕ coded_ℕ) (coded× (coded× coded_ℕ coded_ℕ) (coded_option (coded× coded_move coded_ℤ)))))
    (λ x. (((x.claims, x.infinite), (x.roots, x.end)), ((x.last, x.depth), ((x.searched, x.done), x.completed))))
    (λ p. record { claims = p.0.0.0; infinite = p.0.0.1; roots = p.0.1.0; end = p.0.1.1; last = p.1.0.0; depth = p.1.0.1; searched = p.1.1.0.0; done = p.1.1.0.1; completed = p.1.1.1 })
    (λ _. refl)

-- a state as a tuple, by which a proof distinguishes states
abbrev pub coded_session : Coded State
coded_session =
    code_by ((Line × ℕ) × ((Bool × Bool) × Option Search)) (coded× (coded× coded_line coded_ℕ) (coded× (coded× coded_bool coded_bool) (coded_option coded_search)))
    (λ s. ((s.line, s.moment), ((s.ended, s.claims), s.search)))
    (λ p. record { line = p.0.0; moment = p.0.1; ended = p.1.0.0; claims = p.1.0.1; search = p.1.1 })
    (λ _. refl)
