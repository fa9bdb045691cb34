-- Texts that are separated by a gap, as far as they are written.
use Rattle.std.proofs.Common.{◌≡◌, ℕ, zero, suc, ◌+◌, ◌-◌, ◌≤◌, List, ◌++◌, map, sym, ap, ◌∙◌, append_assoc, append-nil, arith}
use Rattle.std.specs.List.{range_with_len}
use Rattle.chess_cli.specs.Gaps.{gapped, separated_by}

-- the texts of the numbers from a on, n of them, each after a gap
abbrev pub run : List ℕ → (ℕ → List ℕ) → ℕ → ℕ → List ℕ
run gap text a n = gapped gap (map text (range_with_len a n))

-- one more
pub run-more : (gap : List ℕ) (text : ℕ → List ℕ) (a n : ℕ) → run gap text a (suc n) ≡ run gap text a n ++ (gap ++ text (a + n))
run-more gap text a zero =
    let here : text a ≡ text (a + 0) = ap text (omega arith) in
    append-nil (gap ++ text a) ∙ ap (λ (t : List ℕ). gap ++ t) here
run-more gap text a (suc n) =
    let again : run gap text (a + 1) (suc n) ≡ run gap text (a + 1) n ++ (gap ++ text (a + 1 + n)) = run-more gap text (a + 1) n in
    let here : text (a + 1 + n) ≡ text (a + suc n) = ap text (omega arith) in
    ap (λ (t : List ℕ). gap ++ text a ++ t) again ∙ rw here (sym (append_assoc (gap ++ text a) (run gap text (a + 1) n) (gap ++ text (a + suc n))))

-- after the next text is written
pub run-next : (gap : List ℕ) (text : ℕ → List ℕ) (k : ℕ) (before old mid new next : List ℕ) → 1 ≤ k
    → old ≡ before ++ run gap text 1 (k - 1) → mid ≡ old ++ gap → new ≡ mid ++ next → next ≡ text k
    → new ≡ before ++ run gap text 1 (k + 1 - 1)
run-next gap text k before old mid new next some o m n t =
    let one : run gap text 1 (suc (k - 1)) ≡ run gap text 1 (k - 1) ++ (gap ++ text (1 + (k - 1))) = run-more gap text 1 (k - 1) in
    let count : suc (k - 1) ≡ k + 1 - 1 = omega arith in
    let here : 1 + (k - 1) ≡ k = omega arith in
    let all : run gap text 1 (k + 1 - 1) ≡ run gap text 1 (k - 1) ++ (gap ++ text k) =
    ap (run gap text 1) (sym count) ∙ one ∙ ap (λ (x : ℕ). run gap text 1 (k - 1) ++ (gap ++ text x)) here in
    rw (n, m, o, t, all) (append_assoc (before ++ run gap text 1 (k - 1)) gap (text k) ∙ append_assoc before (run gap text 1 (k - 1)) (gap ++ text k))

-- after all eight
pub run-whole : (gap : List ℕ) (text : ℕ → List ℕ) (k : ℕ) (start before old : List ℕ) → k ≡ 8 → before ≡ start ++ text 0
    → old ≡ before ++ run gap text 1 (k - 1) → old ≡ start ++ separated_by gap (map text (range_with_len 0 8))
run-whole gap text k start before old eight b o =
    rw (o, b, eight) (append_assoc start (text 0) (run gap text 1 7))
