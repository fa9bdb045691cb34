-- A set gone through, and those of its squares kept that pass a test.
use Rattle.std.proofs.Common.{◌≡◌, ℕ, ◌<◌, ◌==◌, Bool, true, false, ◌&&◌, ◌||◌, cond, List, [], ◌∷◌, filter, nat_eq, refl, sym, ap, ◌∙◌}
use Rattle.std.specs.List.{list_any}
use Rattle.std.specs.Ordering.{nat_cmp}
use Rattle.std.specs.FinSet.{FinSet, contains, contains-empty, empty, insert}
use Rattle.std.proofs.Math.Bool.{and-true}
use Rattle.std.proofs.lemmas.Bool.{eqb-true}
use Rattle.std.proofs.lemmas.Map.Views.{any-filter_same}
use Rattle.chess_types.specs.board.Squares.{squares}
use Rattle.chess_types.specs.steps.SetWords.{squares-holds}
use Rattle.chess_moves.proofs.LegalTargets.{inserted_if}

-- what a set's squares have is what it holds
pub listed_in : (set : FinSet nat_cmp) (i : ℕ) → i < 64 → list_any (λ y. y == i) (filter (contains set) squares) ≡ contains set i
listed_in set i h =
    any-filter_same (λ y. nat_eq y i) (contains set) (contains set i) (λ k same. ap (contains set) (eqb-true k i same)) squares
    ∙ ap (λ b. contains set i && b) (squares-holds i h)
    ∙ and-true (contains set i)

-- the squares of a set that pass are among those found, and those still to come
pub record FoundAmong (test : ℕ → Bool) (all found : FinSet nat_cmp) (rest : List ℕ) : Type 0 where
  pub is : (s : ℕ) → s < 64 → (contains found s || (list_any (λ u. u == s) rest && test s)) ≡ (contains all s && test s)

-- all squares are still to come
pub found_first : (test : ℕ → Bool) {all found : FinSet nat_cmp} {xs : List ℕ} → found ≡ empty → xs ≡ filter (contains all) squares → FoundAmong test all found xs
found_first test {all} {found} {xs} none squares_is = record {
  is = λ s hs.
      ap (λ (x : FinSet nat_cmp). contains x s || (list_any (λ u. u == s) xs && test s)) none
      ∙ ap (λ b. b || (list_any (λ u. u == s) xs && test s)) (contains-empty nat_cmp s)
      ∙ ap (λ ys. list_any (λ u. u == s) ys && test s) squares_is
      ∙ ap (λ b. b && test s) (listed_in all s hs);
}

step_of : (c b e l t : Bool) → (e ≡ true → t ≡ b) → ((c || (b && e)) || (l && t)) ≡ (c || ((e || l) && t))
step_of true b e l t same = refl
step_of false b true l t same = rw (same refl) (both b l)
  where
    both : (b l : Bool) → ((b && true) || (l && b)) ≡ b
    both true l = refl
    both false true = refl
    both false false = refl
step_of false b false l t same = rest b (l && t)
  where
    rest : (b x : Bool) → ((b && false) || x) ≡ x
    rest true x = refl
    rest false x = refl

-- one square more
pub safe_next :
    (test : ℕ → Bool) (old new : FinSet nat_cmp) (t s : ℕ) (b w : Bool) (xs ys : List ℕ) → new ≡ cond b (insert old t) old → b ≡ test t →
    xs ≡ t ∷ ys → (contains old s || (list_any (λ u. u == s) xs && test s)) ≡ w → (contains new s || (list_any (λ u. u == s) ys && test s)) ≡ w
safe_next test old new t s b w xs ys is passes first rest =
    ap (λ x. x || (list_any (λ u. u == s) ys && test s)) (inserted_if old new t s b is)
    ∙ step_of (contains old s) b (t == s) (list_any (λ u. u == s) ys) (test s) (λ e. sym (passes ∙ ap test (eqb-true t s e)))
    ∙ ap (λ zs. contains old s || (list_any (λ u. u == s) zs && test s)) (sym first)
    ∙ rest

pub found_next : {test : ℕ → Bool} {all old new : FinSet nat_cmp} {t : ℕ} {b : Bool} {xs ys : List ℕ} → FoundAmong test all old xs →
    new ≡ cond b (insert old t) old → b ≡ test t → xs ≡ t ∷ ys → FoundAmong test all new ys
found_next {test} {all} {old} {new} {t} {b} {xs} {ys} so_far more passes first = record {
  is = λ s hs. safe_next test old new t s b _ xs ys more passes first (so_far.is s hs);
}

-- none is still to come
pub found_all : {test : ℕ → Bool} {all found : FinSet nat_cmp} {rest : List ℕ} → FoundAmong test all found rest → rest ≡ [] →
    (s : ℕ) → s < 64 → contains found s ≡ (contains all s && test s)
found_all {test} {all} {found} {rest} so_far none s hs = nothing (contains found s) ∙ ap (λ xs. contains found s || (list_any (λ u. u == s) xs && test s)) (sym none) ∙ so_far.is s hs
  where
    nothing : (b : Bool) → b ≡ (b || false)
    nothing true = refl
    nothing false = refl
