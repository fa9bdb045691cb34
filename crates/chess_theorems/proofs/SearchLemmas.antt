-- The best of all legal moves is worth what the line is worth.
use Rattle.std.proofs.Common.{◌≡◌, ◌<◌, ◌-◌, List, [], ◌∷◌, length, map, Option, Some, None, unwrap_or, ℤ, ap, ◌∙◌, arith}
use Rattle.std.specs.Ordering.{int_eq}
use Rattle.std.specs.Option.{option_map}
use Rattle.std.specs.Prelude.{find}
use Rattle.chess_types.specs.board.MoveParts.{MoveParts}
use Rattle.chess_types.specs.board.Legal.{legal_moves}
use Rattle.chess_types.specs.board.Lines.{last}
use Rattle.chess_search.specs.Best.{best_by}
use Rattle.chess_search.specs.Value.{greatest, worth}
use Rattle.chess_search.proofs.WindowLemmas.{value-play}
use Rattle.chess_theorems.specs.SearchLaws.{BestIsWorth}

-- the number beside what was found
beside : (found : Option MoveParts) (w : ℤ) (m : MoveParts) (v : ℤ) → option_map {U = MoveParts × ℤ} (λ n. (n, w)) found ≡ Some (m, v) → w ≡ v
beside None w m v is = grind (arith, is)
beside (Some n) w m v is = ap (λ (best : Option (MoveParts × ℤ)). (unwrap_or best (m, v)).1) is

-- the best of some moves is worth the greatest worth, and there is one
best_is_greatest : (f : MoveParts → ℤ) (moves : List MoveParts) (m : MoveParts) (v : ℤ) → best_by f moves ≡ Some (m, v) → (0 < length moves) × (greatest (map f moves) ≡ v)
best_is_greatest f [] m v is = grind (arith, is)
best_is_greatest f (move ∷ moves) m v is =
    (omega arith, beside (find (λ n. int_eq (f n) (greatest (map f (move ∷ moves)))) (move ∷ moves)) (greatest (map f (move ∷ moves))) m v is)

pub best_is_worth : BestIsWorth
best_is_worth claims depth line m v deep playing is =
    let found = best_is_greatest (worth claims (depth - 1) line 0) (legal_moves (last line)) m v is in value-play claims depth line 0 found.0 playing deep ∙ found.1
