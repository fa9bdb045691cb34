-- Longest runs.
use Rattle.std.proofs.Common.{◌≡◌, ℕ, ◌+◌, Bool, true, false, cond, List, [], ◌∷◌, ◌++◌, length, take, drop, refl, arith}
use Rattle.std.specs.List.{prefix_len}
use Rattle.std.proofs.lemmas.List.{take_at, drop_at}
use Rattle.std.proofs.Math.Numerals.{one-add}
use Rattle.chess_items.specs.Items.{Each, EndsRun}
use Rattle.chess_items.specs.steps.ItemAt.{Found, run_at}

-- a longest run has the prefix's length
pub run_len : (p : ℕ → Bool) (text next : List ℕ) → Each p text → EndsRun p next → prefix_len p (text ++ next) ≡ length text
run_len p [] [] each stops = refl
run_len p [] (b ∷ next) each stops = rw stops refl
run_len p (b ∷ text) next each stops = rw (each.0, run_len p text next each.1 stops) (omega arith)

pub run_found : (p : ℕ → Bool) (f : List ℕ → List ℕ → Found) (text next : List ℕ) → Each p text → EndsRun p next → run_at p f (text ++ next) ≡ f text next
unfolding run_at
run_found p f text next each stops =
    let n = run_len p text next each stops in
    rw (n, take_at text next (length text) refl, drop_at text next (length text) refl) refl

each_more : (p : ℕ → Bool) (b : ℕ) (bytes : List ℕ) (n : ℕ) (v : Bool) → p b ≡ v → Each p (take n bytes) → Each p (take (cond v (1 + n) 0) (b ∷ bytes))
each_more p b bytes n true e h = rw one-add (e, h)
each_more p b bytes n false e h = tt

pub prefix_each : (p : ℕ → Bool) (bytes : List ℕ) → Each p (take (prefix_len p bytes) bytes)
prefix_each p [] = tt
prefix_each p (b ∷ bytes) = each_more p b bytes (prefix_len p bytes) (p b) refl (prefix_each p bytes)

stops_more : (p : ℕ → Bool) (b : ℕ) (bytes : List ℕ) (n : ℕ) (v : Bool) → p b ≡ v → EndsRun p (drop n bytes) → EndsRun p (drop (cond v (1 + n) 0) (b ∷ bytes))
stops_more p b bytes n true e h = rw one-add h
stops_more p b bytes n false e h = e

pub prefix_stops : (p : ℕ → Bool) (bytes : List ℕ) → EndsRun p (drop (prefix_len p bytes) bytes)
prefix_stops p [] = tt
prefix_stops p (b ∷ bytes) = stops_more p b bytes (prefix_len p bytes) (p b) refl (prefix_stops p bytes)
