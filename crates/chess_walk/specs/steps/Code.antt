-- Visits as tuples, by which a proof distinguishes them.
use Rattle.std.specs.Prelude.{ℕ, Bool, Option, refl}
use Rattle.std.specs.Coded.{Coded, code_by, coded×, coded_ℕ, coded_bool, coded_option}
use Rattle.chess_types.specs.board.MoveParts.{MoveParts}
use Rattle.chess_types.specs.steps.LineCode.{coded_move}
use Rattle.chess_tree.specs.Forest.{NodeParts}
use Rattle.chess_tree.specs.steps.ForestCode.{coded_node}
use Rattle.chess_walk.specs.Order.{Visit}

-- a visit as its five parts
abbrev pub coded_visit : Coded Visit
coded_visit =
    code_by (ℕ × (ℕ × (Bool × (Option MoveParts × NodeParts)))) (coded× coded_ℕ (coded× coded_ℕ (coded× coded_bool (coded× (coded_option coded_move) coded_node))))
    (λ v. (v.depth, (v.level, (v.begins, (v.again, v.node)))))
    (λ p. record { depth = p.0; level = p.1.0; begins = p.1.1.0; again = p.1.1.1.0; node = p.1.1.1.1 })
    (λ _. refl)
