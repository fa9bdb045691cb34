-- Counts of men over the cells and over the board.
use Rattle.std.proofs.Common.{◌≡◌, ℕ, ◌+◌, ◌<◌, ◌≤◌, List, length, get_or, set, map, Option, Some, None, cond, Bool, refl, sym, ◌∙◌, ap, arith}
use Rattle.std.specs.Prelude.{count_by}
use Rattle.std.specs.List.{range_with_len}
use Rattle.std.proofs.lemmas.List.Sums.{sum_by-set, sum_by-cons}
use Rattle.std.proofs.lemmas.List.FromFn.{fill_by_all}
use Rattle.std.specs.FinMap.{get}
use Rattle.chess_types.specs.declared.board.man.Man.{Man}
use Rattle.chess_types.specs.declared.board.man.Colour.{Colour}
use Rattle.chess_types.specs.declared.board.man.Colour.TheVariants.{White, Black}
use Rattle.chess_types.specs.board.Squares.{squares}
use Rattle.chess_types.specs.board.Cells.{board_of}
use Rattle.chess_types.specs.board.Men.{count_squares, men_of, is_of, same_colour, AtMost16}
use Rattle.chess_types.proofs.CellLemmas.{get-board_of}
use Rattle.std.proofs.Common.{[], ◌∷◌}

count_by-map : {X Y : Type 0} (p : Y → Bool) (f : X → Y) (xs : List X) → count_by p (map f xs) ≡ count_by (λ x. p (f x)) xs
count_by-map p f [] = refl
count_by-map p f (x ∷ xs) =
    sum_by-cons (λ y. cond (p y) 1 0) (f x) (map f xs) ∙ ap (λ n. cond (p (f x)) 1 0 + n) (count_by-map p f xs) ∙ sym (sum_by-cons (λ y. cond (p (f y)) 1 0) x xs)

pub count_squares-board_of : (test : Option Man → Bool) (cells : List (Option Man)) → length cells ≡ 64 → count_squares test (board_of cells) ≡ count_by test cells
unfolding count_squares squares
count_squares-board_of test cells len =
    sym (count_by-map test (get (board_of cells)) (range_with_len 0 64))
    ∙ ap (count_by test) (sym (fill_by_all (get (board_of cells)) cells 64 None len (λ k h. sym (get-board_of cells k))))

pub men_of-board_of : (cells : List (Option Man)) (colour : Colour) → length cells ≡ 64 → men_of (board_of cells) colour ≡ count_by (is_of colour) cells
men_of-board_of cells colour = count_squares-board_of (is_of colour) cells

-- one man more of that colour, where the cell was empty
pub count-set_some : (cells : List (Option Man)) (at : ℕ) (man : Man) (colour : Colour) → at < length cells → get_or cells at None ≡ None →
    count_by (is_of colour) (set cells at (Some man)) ≡ count_by (is_of colour) cells + cond (same_colour man.colour colour) 1 0
count-set_some cells at man colour within none =
    let change = sum_by-set (λ x. cond (is_of colour x) 1 0) cells at (Some man) None within in
    let was : ◌≡◌ {A = ℕ} (cond (is_of colour (get_or cells at None)) 1 0) 0 = ap (λ o. cond (is_of colour o) 1 0) none in
    omega (arith, change, was)

pub count-set_none : (cells : List (Option Man)) (at : ℕ) (colour : Colour) → at < length cells →
    count_by (is_of colour) (set cells at None) ≤ count_by (is_of colour) cells
count-set_none cells at colour within =
    let change = sum_by-set (λ x. cond (is_of colour x) 1 0) cells at None None within in
    omega (arith, change)

one_more : (mine colour : Colour) (f : Colour → ℕ) (n : ℕ) → f mine < 16 → f colour ≤ 16 → n ≡ f colour + cond (same_colour mine colour) 1 0 → n ≤ 16
one_more White White f n lt le e = omega arith
one_more White Black f n lt le e = omega arith
one_more Black White f n lt le e = omega arith
one_more Black Black f n lt le e = omega arith

pub AtMost16-set_some : (cells : List (Option Man)) (at : ℕ) (man : Man) → length cells ≡ 64 → at < 64 → get_or cells at None ≡ None →
    men_of (board_of cells) man.colour < 16 → AtMost16 cells → AtMost16 (set cells at (Some man))
AtMost16-set_some cells at man len within none room before = λ colour.
    let inside : at < length cells = omega arith in
    let few : count_by (is_of man.colour) cells < 16 = omega (arith, men_of-board_of cells man.colour len) in
    one_more man.colour colour (λ c. count_by (is_of c) cells) _ few (before colour) (count-set_some cells at man colour inside none)
