-- A search of all legal moves, as it begins.
use Rattle.std.proofs.Common.{◌≡◌, ◌<◌, ℕ, List, length, refl, sym, subst}
use Rattle.std.specs.Prelude.{true, false, None}
use Rattle.chess_types.specs.board.MoveParts.{MoveParts}
use Rattle.chess_types.specs.board.Legal.{is_legal, legal_moves}
use Rattle.chess_types.specs.board.Lines.{Line, last}
use Rattle.chess_moves.proofs.LegalLaws.{moves_legal}
use Rattle.std.specs.List.{All}
use Rattle.chess_search.specs.Slices.{Progress}
use Rattle.chess_c.specs.Searches.{IsSearchOf}

pub search_begun : (line before : Line) (p : Progress) (depth : ℕ) (found : List MoveParts)
    → p ≡ record { depth = depth; claims = false; roots = found; searched = 0; kept = None; nodes = 1 } → found ≡ legal_moves (last before) → line ≡ before → 0 < length found → IsSearchOf line p
search_begun line before p depth found is listed same some =
    subst (λ (l : Line). IsSearchOf l p) (sym same) (subst (IsSearchOf before) (sym is) (record {
      goes = record { legal = subst (All (λ m. is_legal (last before) m ≡ true)) (sym listed) (moves_legal (last before)); kept = refl };
      roots = listed;
      claims = refl;
      some = some;
    }))
