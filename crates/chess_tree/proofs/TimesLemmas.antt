-- How often a number is used.
use Rattle.std.proofs.Common.{◌≡◌, ◌≢◌, ℕ, zero, suc, ◌+◌, ◌<◌, ◌≤◌, refl, ap, List, [], ◌∷◌, ◌++◌, get_or, length, arith}
use Rattle.chess_tree.specs.steps.Grove.{Grove, Empty, Tree, tally, times, size, wide, numbers, join, node_number, grove_move, under, those_before, those_after, within, under_at, change_at, number_at, Ways}

pub tally_same : (j : ℕ) → tally j j ≡ 1
unfolding tally
tally_same j = grind arith

pub tally_other : (j i : ℕ) → j ≢ i → tally j i ≡ 0
unfolding tally
tally_other j i h = grind arith

pub tally_is : (j i : ℕ) → 0 < tally j i → j ≡ i
unfolding tally
tally_is j i h = grind arith

pub times_join : (j : ℕ) (f g : Grove) → times j (join f g) ≡ times j f + times j g
times_join j Empty g = omega arith
times_join j (Tree i m below next) g = omega (arith, times_join j next g)

pub size_join : (f g : Grove) → size (join f g) ≡ size f + size g
size_join Empty g = omega arith
size_join (Tree i m below next) g = omega (arith, size_join next g)

pub wide_join : (f g : Grove) → wide (join f g) ≡ wide f + wide g
wide_join Empty g = omega arith
wide_join (Tree i m below next) g = omega (arith, wide_join next g)

pub wide_le : (g : Grove) → wide g ≤ size g
wide_le Empty = omega arith
wide_le (Tree i m below next) = omega (arith, wide_le next)

-- the numbers side by side
pub numbers_join : (f g : Grove) → numbers (join f g) ≡ numbers f ++ numbers g
numbers_join Empty g = refl
numbers_join (Tree i m below next) g = ap (λ (is : List ℕ). i ∷ is) (numbers_join next g)

pub length_numbers : (g : Grove) → length (numbers g) ≡ wide g
length_numbers Empty = refl
length_numbers (Tree i m below next) = ap suc (length_numbers next)

pub number_get : (d k : ℕ) (g : Grove) → get_or (numbers g) k d ≡ node_number d k g
number_get d k Empty = refl
number_get d zero (Tree i m below next) = refl
number_get d (suc k) (Tree i m below next) = number_get d k next

pub numbers_within : (k : ℕ) (c : Grove → Grove) (g : Grove) → numbers (within k c g) ≡ numbers g
numbers_within k c Empty = refl
numbers_within zero c (Tree i m below next) = refl
numbers_within (suc k) c (Tree i m below next) = ap (λ (is : List ℕ). i ∷ is) (numbers_within k c next)

pub no_numbers : (g : Grove) → numbers g ≡ [] → g ≡ Empty
no_numbers Empty e = refl
no_numbers (Tree i m below next) e = absurd cc

-- how often a number is among some
abbrev pub among : ℕ → List ℕ → ℕ
among j [] = 0
among j (i ∷ is) = tally j i + among j is

pub among_numbers : (j : ℕ) (g : Grove) → among j (numbers g) ≤ times j g
among_numbers j Empty = omega arith
among_numbers j (Tree i m below next) = omega (arith, among_numbers j next)

pub wide_before : (k : ℕ) (g : Grove) → k < wide g → wide (those_before k g) ≡ k
wide_before k Empty h = absurd (omega arith)
wide_before zero (Tree i m below next) h = refl
wide_before (suc k) (Tree i m below next) h = ap suc (wide_before k next (omega arith))

-- one of them, those before it and those after it
pub parted : (k : ℕ) (g : Grove) (d : ℕ) → k < wide g → g ≡ join (those_before k g) (Tree (node_number d k g) (grove_move k g) (under k g) (those_after k g))
parted k Empty d h = absurd (omega arith)
parted zero (Tree i m below next) d h = refl
parted (suc k) (Tree i m below next) d h = ap (λ (g : Grove). Tree i m below g) (parted k next d (omega arith))

pub times_within : (j k : ℕ) (c : Grove → Grove) (g : Grove) → k < wide g
    → times j (within k c g) + times j (under k g) ≡ times j g + times j (c (under k g))
times_within j k c Empty h = absurd (omega arith)
times_within j zero c (Tree i m below next) h = omega arith
times_within j (suc k) c (Tree i m below next) h = omega (arith, times_within j k c next (omega arith))

pub size_within : (k : ℕ) (c : Grove → Grove) (g : Grove) → k < wide g
    → size (within k c g) + size (under k g) ≡ size g + size (c (under k g))
size_within k c Empty h = absurd (omega arith)
size_within zero c (Tree i m below next) h = omega arith
size_within (suc k) c (Tree i m below next) h = omega (arith, size_within k c next (omega arith))

pub times_number : (d k : ℕ) (g : Grove) (j : ℕ) → k < wide g → tally j (node_number d k g) + times j (under k g) ≤ times j g
times_number d k Empty j h = absurd (omega arith)
times_number d zero (Tree i m below next) j h = omega arith
times_number d (suc k) (Tree i m below next) j h = omega (arith, times_number d k next j (omega arith))

pub times_before : (j k : ℕ) (g : Grove) → times j (those_before k g) ≤ times j g
times_before j k Empty = omega arith
times_before j zero (Tree i m below next) = omega arith
times_before j (suc k) (Tree i m below next) = omega (arith, times_before j k next)

pub times_below : (j k : ℕ) (g : Grove) → times j (under k g) ≤ times j g
times_below j k Empty = omega arith
times_below j zero (Tree i m below next) = omega arith
times_below j (suc k) (Tree i m below next) = omega (arith, times_below j k next)

pub times_under : (j : ℕ) (path : List ℕ) (g : Grove) → times j (under_at path g) ≤ times j g
times_under j [] g = omega arith
times_under j (k ∷ path) g = omega (arith, times_under j path (under k g), times_below j k g)

-- the node at a path is among those of the grove, or the one above it
pub times_at : (path : List ℕ) (i : ℕ) (g : Grove) → Ways path g → 0 < tally (number_at path i g) i + times (number_at path i g) g
times_at [] i g h = omega (arith, tally_same i)
times_at (k ∷ path) i g h =
    omega (arith, times_at path (node_number i k g) (under k g) h.1, times_number i k g (number_at path (node_number i k g) (under k g)) h.0)

-- and below the top, among those of the grove
pub times_deep : (k : ℕ) (path : List ℕ) (i : ℕ) (g : Grove) → Ways (k ∷ path) g → 0 < times (number_at (k ∷ path) i g) g
times_deep k path i g h =
    omega (arith, times_at path (node_number i k g) (under k g) h.1, times_number i k g (number_at path (node_number i k g) (under k g)) h.0)

pub times_change : (j : ℕ) (c : Grove → Grove) (path : List ℕ) (g : Grove) → Ways path g
    → times j (change_at c path g) + times j (under_at path g) ≡ times j g + times j (c (under_at path g))
times_change j c [] g h = omega arith
times_change j c (k ∷ path) g h =
    omega (arith, times_within j k (change_at c path) g h.0, times_change j c path (under k g) h.1)

pub size_change : (c : Grove → Grove) (path : List ℕ) (g : Grove) → Ways path g
    → size (change_at c path g) + size (under_at path g) ≡ size g + size (c (under_at path g))
size_change c [] g h = omega arith
size_change c (k ∷ path) g h = omega (arith, size_within k (change_at c path) g h.0, size_change c path (under k g) h.1)

-- the node at a path, and those below it
pub at_le : (j : ℕ) (path : List ℕ) (i : ℕ) (g : Grove) → Ways path g → tally j (number_at path i g) + times j (under_at path g) ≤ tally j i + times j g
at_le j [] i g h = omega arith
at_le j (k ∷ path) i g h = omega (arith, at_le j path (node_number i k g) (under k g) h.1, times_number i k g j h.0)
