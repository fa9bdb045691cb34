-- A tree with its cursor as a tuple, by which a proof distinguishes them.
use Rattle.std.specs.Prelude.{ℕ, List, refl}
use Rattle.std.specs.Coded.{Coded, code_by, coded×, coded_ℕ, coded_list}
use Rattle.chess_types.specs.board.Position.{PositionParts}
use Rattle.chess_types.specs.steps.StateCode.{coded_state}
use Rattle.chess_tree.specs.Forest.{Forest}
use Rattle.chess_tree.specs.steps.ForestCode.{coded_forest}
use Rattle.chess_tree.specs.GameTree.{TreeParts}

-- a tree as a tuple
abbrev pub coded_tree : Coded TreeParts
coded_tree =
    code_by ((PositionParts × (List ℕ × Forest)) × List ℕ) (coded× (coded× coded_state (coded× (coded_list coded_ℕ) coded_forest)) (coded_list coded_ℕ))
    (λ t. ((t.tree.start, (t.tree.comment, t.tree.below)), t.path))
    (λ p. record { tree = record { start = p.0.0; comment = p.0.1.0; below = p.0.1.1 }; path = p.1 })
    (λ _. refl)
