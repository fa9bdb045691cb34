-- A row of comma-separated values, a field after another.
use Rattle.std.proofs.Common.{◌≡◌, ◌<◌, ℕ, Bool, true, false, if◌then◌else◌, ◌==◌, ◌-◌, List, [], ◌∷◌, ◌++◌, drop, flat_map, get_or, length, map, take, refl, sym, ap, ◌∙◌, append_assoc, arith}
use Rattle.csv.specs.Writing.{escaped, field_text, fields_text, is_blank, quoted}
use Rattle.arbiter.specs.declared.cell.Cell as declared
use Rattle.arbiter.specs.Cells.{Cell, behind_comma, csv_lines, csv_text, name_and_value, row_text, value_of}
use Rattle.arbiter.specs.declared.row.Format.TheVariants.{Csv}

-- a byte between quotation marks
abbrev pub doubled : ℕ → List ℕ
doubled b = if b == 34 then 34 ∷ b ∷ [] else b ∷ []

by_test : (b : ℕ) (xs ys : List ℕ) (test : Bool) → xs ≡ ys → (if test then 34 ∷ b ∷ xs else b ∷ xs) ≡ (if test then 34 ∷ b ∷ [] else b ∷ []) ++ ys
by_test b xs ys true same = ap (λ (t : List ℕ). 34 ∷ b ∷ t) same
by_test b xs ys false same = ap (λ (t : List ℕ). b ∷ t) same

pub doubled_is : (field : List ℕ) → escaped csv_lines field ≡ flat_map doubled field
unfolding escaped
doubled_is [] = refl
doubled_is (b ∷ rest) = by_test b (escaped csv_lines rest) (flat_map doubled rest) (b == 34) (doubled_is rest)

all : {X : Type 0} (xs : List X) → take (length xs) xs ≡ xs
all [] = refl
all (x ∷ xs) = ap (λ (t : List _). x ∷ t) (all xs)

take_all : {X : Type 0} (xs : List X) (n : ℕ) → n ≡ length xs → take n xs ≡ xs
take_all xs n is = rw is (all xs)

-- what is written between quotation marks
pub quoted_is : (old field new : List ℕ) (n : ℕ) → n ≡ length field → new ≡ (old ++ 34 ∷ []) ++ flat_map doubled (take n field) → new ++ 34 ∷ [] ≡ old ++ quoted csv_lines field
quoted_is old field new n whole is =
    ap (λ (t : List ℕ). t ++ 34 ∷ []) (is ∙ ap (λ (t : List ℕ). (old ++ 34 ∷ []) ++ flat_map doubled t) (take_all field n whole) ∙ append_assoc old (34 ∷ []) (flat_map doubled field))
    ∙ append_assoc old (34 ∷ flat_map doubled field) (34 ∷ []) ∙ ap (λ (t : List ℕ). old ++ 34 ∷ (t ++ 34 ∷ [])) (sym (doubled_is field))

fields_are : (cells : List Cell) → fields_text csv_lines (map (λ cell. csv_text cell.1) cells) ≡ flat_map behind_comma cells
unfolding fields_text
fields_are [] = refl
fields_are (cell ∷ cells) = ap (λ (t : List ℕ). behind_comma cell ++ t) (fields_are cells)

-- a row of two fields or more
row_is : (first next : Cell) (rest : List Cell) → row_text Csv (first ∷ next ∷ rest) ≡ (field_text csv_lines (csv_text first.1) ++ flat_map behind_comma (next ∷ rest)) ++ 13 ∷ 10 ∷ []
unfolding is_blank
row_is first next rest = ap (λ (t : List ℕ). (field_text csv_lines (csv_text first.1) ++ t) ++ 13 ∷ 10 ∷ []) (fields_are (next ∷ rest))

-- what is written of two cells or more
pub written_is : (cells : List declared.Cell) (none : declared.Cell) (before first all : List ℕ) → 1 < length cells → before ≡ [] → first ≡ before ++ field_text csv_lines (csv_text (value_of (get_or cells 0 none).value))
    → all ≡ first ++ flat_map behind_comma (map name_and_value (take (length cells - 1) (drop 1 cells))) → all ++ 13 ∷ 10 ∷ [] ≡ row_text Csv (map name_and_value cells)
written_is [] none before first all more is_empty is_first is_all = absurd (omega (arith, more))
written_is (a ∷ []) none before first all more is_empty is_first is_all = absurd (omega (arith, more))
written_is (a ∷ b ∷ rest) none before first all more is_empty is_first is_all =
    ap (λ (t : List ℕ). t ++ 13 ∷ 10 ∷ [])
    (is_all ∙ ap (λ (cells : List declared.Cell). first ++ flat_map behind_comma (map name_and_value cells)) (take_all (b ∷ rest) (length (a ∷ b ∷ rest) - 1) (omega arith))
    ∙ ap (λ (t : List ℕ). t ++ flat_map behind_comma (map name_and_value (b ∷ rest))) (is_first ∙ ap (λ (t : List ℕ). t ++ field_text csv_lines (csv_text (value_of a.value))) is_empty))
    ∙ sym (row_is (name_and_value a) (name_and_value b) (map name_and_value rest))
