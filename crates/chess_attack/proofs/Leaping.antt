-- The leaps of a knight, a king and a pawn, over so many files and ranks, are those of the Laws.
use Rattle.std.proofs.Common.{◌≡◌, ◌==◌, ℕ, ◌+◌, ◌*◌, ◌<◌, Bool, true, false, cond, refl, sym, ap, ◌∙◌, arith, inl, inr, ◌⊎◌}
use Rattle.std.specs.List.{range_with_len, list_all}
use Rattle.std.proofs.lemmas.Bool.{eqb-true}
use Rattle.chess_types.specs.declared.board.man.Colour.{Colour}
use Rattle.chess_types.specs.declared.board.man.Colour.TheVariants.{White, Black}
use Rattle.chess_types.specs.declared.board.man.Kind.{Kind}
use Rattle.chess_types.specs.declared.board.man.Kind.TheVariants.{Pawn, Knight, Bishop, Rook, Queen, King}
use Rattle.chess_types.specs.declared.board.man.Man.{Man}
use Rattle.chess_types.specs.board.Squares.{file_of, rank_of}
use Rattle.chess_types.specs.board.Attack.{leaps}
use Rattle.chess_attack.specs.steps.Marks.{one_if, leap}
use Rattle.chess_attack.specs.steps.Leaps.{lands, leap_king, leap_pawn}
use Rattle.chess_types.proofs.Runs.{list_all_at}

-- a bishop, a rook or a queen; and a pawn, a knight or a king
abbrev pub IsSlider : Kind → Type 0
IsSlider kind = (kind ≡ Bishop) ⊎ ((kind ≡ Rook) ⊎ (kind ≡ Queen))

abbrev pub IsLeaper : Kind → Type 0
IsLeaper kind = (kind ≡ Pawn) ⊎ ((kind ≡ Knight) ⊎ (kind ≡ King))

-- a slider does not leap
pub slider_leaps : (c : Colour) (kind : Kind) (a b : ℕ) → IsSlider kind → leaps c kind a b ≡ false
unfolding leaps
slider_leaps c k a b (inl e) = rw e refl
slider_leaps c k a b (inr (inl e)) = rw e refl
slider_leaps c k a b (inr (inr e)) = rw e refl

-- the square of a file and a rank
place_of : (file rank s : ℕ) → file < 8 → rank * 8 + file ≡ s → (file ≡ file_of s) × (rank ≡ rank_of s)
place_of file rank s small e = (omega arith, omega arith)

-- the test of a table over each pair of squares
abbrev agree : (ℕ → ℕ → ℕ) → (ℕ → ℕ → Bool) → Bool
agree sum test = list_all (λ at. list_all (λ s. sum at s == cond (test at s) 1 0) (range_with_len 0 64)) (range_with_len 0 64)

agree_at : (sum : ℕ → ℕ → ℕ) (test : ℕ → ℕ → Bool) (at s : ℕ) → agree sum test ≡ true → at < 64 → s < 64 → sum at s ≡ cond (test at s) 1 0
agree_at sum test at s h hat hs =
    let row : list_all (λ x. sum at x == cond (test at x) 1 0) (range_with_len 0 64) ≡ true =
    list_all_at (λ y. list_all (λ x. sum y x == cond (test y x) 1 0) (range_with_len 0 64)) 0 64 at h (omega arith) hat in
    eqb-true _ _ (list_all_at (λ x. sum at x == cond (test at x) 1 0) 0 64 s row (omega arith) hs)

king_table : agree (λ at s. leap_king White at White s) (leaps White King) ≡ true
unfolding leaps lands
king_table = refl

white_pawn_table : agree (λ at s. leap_pawn White at White s) (leaps White Pawn) ≡ true
unfolding leaps lands
white_pawn_table = refl

black_pawn_table : agree (λ at s. leap_pawn Black at Black s) (leaps Black Pawn) ≡ true
unfolding leaps lands
black_pawn_table = refl

king_leaps : (colour c : Colour) (at s : ℕ) → at < 64 → s < 64 → leap_king colour at c s ≡ one_if colour c (leaps colour King at s)
unfolding leaps
king_leaps White White at s hat hs = agree_at (λ x y. leap_king White x White y) (leaps White King) at s king_table hat hs
king_leaps Black Black at s hat hs = agree_at (λ x y. leap_king White x White y) (leaps White King) at s king_table hat hs
king_leaps White Black at s hat hs = refl
king_leaps Black White at s hat hs = refl

pawn_leaps : (colour c : Colour) (at s : ℕ) → at < 64 → s < 64 → leap_pawn colour at c s ≡ one_if colour c (leaps colour Pawn at s)
pawn_leaps White White at s hat hs = agree_at (λ x y. leap_pawn White x White y) (leaps White Pawn) at s white_pawn_table hat hs
pawn_leaps Black Black at s hat hs = agree_at (λ x y. leap_pawn Black x Black y) (leaps Black Pawn) at s black_pawn_table hat hs
pawn_leaps White Black at s hat hs = refl
pawn_leaps Black White at s hat hs = refl

pub king_own : (man : Man) (c : Colour) (at s : ℕ) → at < 64 → s < 64 → man.kind ≡ King → leap_king man.colour at c s ≡ leap man at c s
king_own man c at s hat hs is = king_leaps man.colour c at s hat hs ∙ ap (λ x. one_if man.colour c (leaps man.colour x at s)) (sym is)

pub pawn_own : (man : Man) (c : Colour) (at s : ℕ) → at < 64 → s < 64 → man.kind ≡ Pawn → leap_pawn man.colour at c s ≡ leap man at c s
pawn_own man c at s hat hs is = pawn_leaps man.colour c at s hat hs ∙ ap (λ x. one_if man.colour c (leaps man.colour x at s)) (sym is)
