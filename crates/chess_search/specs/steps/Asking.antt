-- What a search asks for.
--   Asks   at least `least` and at most `most` positions more, where draws that may be claimed count as before
use Rattle.std.specs.Prelude.{◌≡◌, ℕ, ◌+◌, ◌-◌, ◌≤◌, ◌^◌, min}
use Rattle.chess_search.specs.declared.search.Searcher.{Searcher}

-- from `least` to `most` positions more were asked for, as far as the counter goes
pub record Asks (least most : ℕ) (old new : Searcher) : Type 0 where
  pub at_least : min (old.nodes + least) (2 ^ 64 - 1) ≤ new.nodes
  pub at_most : new.nodes ≤ old.nodes + most
  pub claims : new.claims ≡ old.claims
