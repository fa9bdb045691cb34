-- The tables hold the worths of the definitions: computed over each whole table, and from there for each man and square.
use Rattle.std.proofs.Common.{◌≡◌, ℕ, ◌+◌, ◌*◌, ◌/◌, ◌%◌, ◌<◌, ℤ, pos, List, [], map, get_or, refl, ap, ◌∙◌, arith}
use Rattle.std.specs.List.{range_with_len}
use Rattle.std.proofs.lemmas.List.FromFn.{get_or-map-range_with_len}
use Rattle.chess_types.specs.declared.board.man.Colour.{Colour}
use Rattle.chess_types.specs.declared.board.man.Colour.TheVariants.{White, Black}
use Rattle.chess_types.specs.declared.board.man.Kind.{Kind}
use Rattle.chess_types.specs.declared.board.man.Kind.TheVariants.{Pawn}
use Rattle.chess_types.specs.declared.board.man.Man.{Man}
use Rattle.chess_types.specs.steps.ManCode.{colour_of, kind_of}
use Rattle.chess_types.specs.board.Squares.{squares}
use Rattle.chess_types.specs.board.Men.{colour_number, kind_number}
use Rattle.chess_eval.specs.declared.worths.TheConstants.{MIDDLE, END}
use Rattle.chess_eval.specs.Worth.{middle_of, end_of}

abbrev man_of : ℕ → Man
man_of n = record { colour = colour_of (n / 6); kind = kind_of (n % 6) }

abbrev number_of : Man → ℕ
number_of man = 6 * colour_number man.colour + kind_number man.kind

-- a row for each of the 12 men, a worth for each square
unfoldable table_of : (Man → ℕ → ℤ) → List (List ℤ)
table_of worth = map (λ n. map (worth (man_of n)) squares) (range_with_len 0 12)

middle_is : MIDDLE ≡ table_of middle_of
unfolding table_of squares middle_of
middle_is = refl

end_is : END ≡ table_of end_of
unfolding table_of squares end_of
end_is = refl

-- a man's number is below 12, and it is the number of no other man
numbered : (colour : Colour) (kind : Kind) → (6 * colour_number colour + kind_number kind < 12) × (man_of (6 * colour_number colour + kind_number kind) ≡ record { colour = colour; kind = kind })
numbered White Pawn = (omega arith, refl)
numbered Black Pawn = (omega arith, refl)
numbered _ _ = (omega arith, refl)

-- the entry of a man and a square
entry : (table : List (List ℤ)) (worth : Man → ℕ → ℤ) (man : Man) (square : ℕ) → table ≡ table_of worth → square < 64 →
    get_or (get_or table (number_of man) []) square (pos 0) ≡ worth man square
unfolding table_of squares
entry table worth man square is h =
    ap (λ t. get_or (get_or t (number_of man) []) square (pos 0)) is
    ∙ ap (λ row. get_or row square (pos 0))
    (get_or-map-range_with_len (λ n. map (worth (man_of n)) (range_with_len 0 64)) 0 12 (number_of man) (number_of man) [] (numbered man.colour man.kind).0 (omega arith))
    ∙ get_or-map-range_with_len (worth (man_of (number_of man))) 0 64 square square (pos 0) h (omega arith)
    ∙ ap (λ m. worth m square) (numbered man.colour man.kind).1

pub middle_entry : {number index : ℕ} (man : Man) (square : ℕ) → square < 64 → number ≡ number_of man → index ≡ square → get_or (get_or MIDDLE number []) index (pos 0) ≡ middle_of man square
middle_entry man square h is at = rw (is, at) (entry MIDDLE middle_of man square middle_is h)

pub end_entry : {number index : ℕ} (man : Man) (square : ℕ) → square < 64 → number ≡ number_of man → index ≡ square → get_or (get_or END number []) index (pos 0) ≡ end_of man square
end_entry man square h is at = rw (is, at) (entry END end_of man square end_is h)
