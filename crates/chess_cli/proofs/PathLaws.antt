-- The word that writes a path is read as that path.
use Rattle.std.proofs.Common.{◌≡◌, ℕ, ◌<◌, ◌==◌, false, ne_eqb, List, [], ◌∷◌, ◌++◌, length, map, All, Option, Some, None, refl, sym, ap, ◌∙◌, append-nil, arith}
use Rattle.std.specs.Prelude.{bytes_eq, codes, decimal}
use Rattle.std.specs.List.{AllByRecursion}
use Rattle.std.proofs.lemmas.Bool.{false_from_ne_true, le-leb}
use Rattle.std.proofs.lemmas.Fmt.{decimal_is_IsNumeral, length-decimal-le}
use Rattle.std.proofs.lemmas.List.{get_or_default}
use Rattle.std.proofs.lemmas.List.Splits.{slice_split_at, slice_split_none}
use Rattle.std.proofs.lemmas.Slice.Eq.{bytes_eq-Decides}
use Rattle.std.proofs.lemmas.Str.Parse.{not_in_digits}
use Rattle.chess_cli.specs.Gaps.{gapped}
use Rattle.chess_cli.specs.Numbers.{number_in, numbers_in, path_in, path_text}
use Rattle.chess_cli.proofs.NumberLemmas.{digits_own}
use Rattle.chess_cli.specs.steps.Replies.{parts_of}
use Rattle.chess_cli.proofs.PathLemmas.{path_in-root, path_in-parts}

-- a number of at most six digits is read back
number_in-decimal : (n : ℕ) → n < 1000000 → number_in (decimal n) ≡ Some n
unfolding number_in
number_in-decimal n small =
    let numeral = decimal_is_IsNumeral n (omega (arith, small)) in
    let some = le-leb 1 (length (decimal n)) numeral.0.0 in
    let few = le-leb (length (decimal n)) 6 (length-decimal-le 6 n (omega arith) (omega (arith, small)) (omega (arith, small))) in
    let digits = digits_own.from (decimal n) numeral.0.1 in
    rw (digits, some, few, numeral.1) refl

numbers_in-decimals : (ns : List ℕ) → AllByRecursion (λ n. n < 1000000) ns → numbers_in (map decimal ns) ≡ Some ns
numbers_in-decimals [] small = refl
numbers_in-decimals (n ∷ ns) small = rw (number_in-decimal n small.0, numbers_in-decimals ns small.1) refl

-- no period stands in a number
no_period : (n : ℕ) → n < 1000000 → All (λ byte. (byte == 46) ≡ false) (decimal n)
no_period n small =
    let numeral = decimal_is_IsNumeral n (omega (arith, small)) in
    let digits = digits_own.from (decimal n) numeral.0.1 in
    λ k d within. ne_eqb _ 46 (λ same. not_in_digits digits_own (decimal n) 46 digits (λ r. omega (arith, r.0, r.1)) k within (get_or_default (decimal n) k 0 d within ∙ same))

-- at its periods the text of a path falls into its numbers
parts-decimals : (n : ℕ) (ns : List ℕ) → n < 1000000 → AllByRecursion (λ n. n < 1000000) ns → parts_of (decimal n ++ gapped (codes ".") (map decimal ns)) ≡ decimal n ∷ map decimal ns
parts-decimals n [] low small = rw (append-nil (decimal n)) (slice_split_none (λ byte. byte == 46) (decimal n) (no_period n low))
parts-decimals n (m ∷ ns) low small =
    slice_split_at (λ byte. byte == 46) (decimal n) 46 (decimal m ++ gapped (codes ".") (map decimal ns)) (no_period n low) refl
    ∙ ap (λ (parts : List (List ℕ)). decimal n ∷ parts) (parts-decimals m ns small.0 small.1)

-- no text of numbers is `-`
no_root : (n : ℕ) (ns : List ℕ) → n < 1000000 → AllByRecursion (λ n. n < 1000000) ns → bytes_eq (decimal n ++ gapped (codes ".") (map decimal ns)) (codes "-") ≡ false
unfolding number_in
no_root n ns low small = false_from_ne_true _ (λ same.
    let is : decimal n ++ gapped (codes ".") (map decimal ns) ≡ codes "-" = (bytes_eq-Decides _ (codes "-")).0 same in
    let parts : decimal n ∷ map decimal ns ≡ codes "-" ∷ [] = sym (parts-decimals n ns low small) ∙ ap parts_of is in
    let first : decimal n ≡ codes "-" = cc parts in
    let none : ◌≡◌ {A = Option ℕ} None (Some n) = sym (ap number_in first) ∙ number_in-decimal n low in
    absurd (cc none))

pub path_in-path_text : (path : List ℕ) → AllByRecursion (λ n. n < 1000000) path → path_in (path_text path) ≡ Some path
path_in-path_text [] small = path_in-root (codes "-") [] refl refl
path_in-path_text (n ∷ ns) small =
    path_in-parts (decimal n ++ gapped (codes ".") (map decimal ns)) (decimal n ∷ map decimal ns) (n ∷ ns) (no_root n ns small.0 small.1) (sym (parts-decimals n ns small.0 small.1))
    (numbers_in-decimals (n ∷ ns) small)
