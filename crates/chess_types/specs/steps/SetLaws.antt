-- Sets of squares compare as equal exactly where they are one set.
use Rattle.std.specs.Prelude.{◌≡◌, true}
use Rattle.std.specs.Ordering.{nat_cmp}
use Rattle.std.specs.Cmp.{IsEquivalence, decided, both_ways}
use Rattle.std.specs.FinSet.{FinSet, contains, is_subset, is_subset-contains, contains-is_subset, same_set, nat_cmp-IsAntisymmetric}
use Rattle.std.proofs.Common.{sym, ap, ◌∙◌}
use Rattle.std.proofs.lemmas.Bool.{and_parts, and_from}
use Rattle.std.proofs.lemmas.Cmp.{nat_cmp_total}
use Rattle.chess_types.specs.board.Sets.{same_squares}

-- sets with the same squares are equal
pub same_squares-is : (a b : FinSet nat_cmp) → same_squares a b ≡ true → a ≡ b
same_squares-is a b h =
    let both = and_parts _ _ h in
    same_set nat_cmp_total nat_cmp-IsAntisymmetric a b (λ q.
    both_ways (contains a q) (contains b q) (is_subset-contains nat_cmp_total a b both.0 q) (is_subset-contains nat_cmp_total b a both.1 q))

-- a set has its own squares
pub same_squares-self : (a : FinSet nat_cmp) → same_squares a a ≡ true
same_squares-self a =
    let within : is_subset a a ≡ true = contains-is_subset nat_cmp_total a a (λ q h. h) in
    and_from _ _ within within

-- sets are equal exactly where `same_squares` says so
pub same_squares-laws : IsEquivalence same_squares
same_squares-laws = decided same_squares (λ a b. (same_squares-is a b, λ e. ap (same_squares a) (sym e) ∙ same_squares-self a))
