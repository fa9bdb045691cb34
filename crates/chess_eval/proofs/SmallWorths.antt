-- How small and how large the worths are: a king's for himself, and any other man's.
use Rattle.std.proofs.Common.{◌≡◌, ℕ, ◌*◌, ◌<◌, ◌≤◌, Bool, ℤ, pos, ◌+ℤ◌, ◌-ℤ◌, ◌≤ℤ◌, neg_ℤ, to_z, of_z, w32, Option, Some, None, ap, ◌∙◌, arith}
use Rattle.std.proofs.lemmas.Int.{ints}
use Rattle.chess_types.specs.declared.board.man.Colour.{Colour}
use Rattle.chess_types.specs.declared.board.man.Colour.TheVariants.{White, Black}
use Rattle.chess_types.specs.declared.board.man.Kind.{Kind}
use Rattle.chess_types.specs.declared.board.man.Kind.TheVariants.{Pawn, Knight, Bishop, Rook, Queen, King}
use Rattle.chess_types.specs.declared.board.man.Man.{Man}
use Rattle.chess_types.specs.board.Squares.{file_of}
use Rattle.chess_types.specs.board.Men.{is_king}
use Rattle.chess_types.proofs.Sums.{bit, bit_small}
use Rattle.chess_eval.specs.Worth.{from_edge, own_rank, rook_bonus, middle_of_kind, end_of_kind, middle_of, end_of, weight_of}
use Rattle.chess_eval.specs.Evaluation.{for_white, balance_there, weight_there, IsWithin}

-- In the middlegame a king is worth at most nothing, any other man at least nothing.
pub record IsMiddle (king : Bool) (worth : ℤ) : Type 0 where
  pub low : pos 0 ≤ℤ (worth +ℤ pos (36 * bit king))
  pub high : (worth +ℤ pos (903 * bit king)) ≤ℤ pos 903

-- In the endgame every man is worth at least nothing, a king at most 60.
pub record IsEnd (king : Bool) (worth : ℤ) : Type 0 where
  pub low : pos 0 ≤ℤ worth
  pub high : (worth +ℤ pos (843 * bit king)) ≤ℤ pos 903

near_edge : (line : ℕ) → from_edge line ≤ 3
near_edge line = omega arith

own_rank_below : (colour : Colour) (square : ℕ) → square < 64 → own_rank colour square < 8
own_rank_below White square h = omega arith
own_rank_below Black square h = omega arith

bonus_small : (rank : ℕ) → rook_bonus rank ≤ 10
bonus_small rank = grind arith

middle_of_any : (kind : Kind) (file rank : ℕ) → rank < 8 → IsMiddle (is_king kind) (middle_of_kind kind file rank)
middle_of_any Pawn file rank h = let e = near_edge file in record { low = omega (arith, ints); high = omega (arith, ints) }
middle_of_any Knight file rank h = let e = near_edge file in let d = near_edge rank in record { low = omega (arith, ints); high = omega (arith, ints) }
middle_of_any Bishop file rank h = let e = near_edge file in let d = near_edge rank in record { low = omega (arith, ints); high = omega (arith, ints) }
middle_of_any Rook file rank h = let e = near_edge file in let d = bonus_small rank in record { low = omega (arith, ints); high = omega (arith, ints) }
middle_of_any Queen file rank h = let e = near_edge file in let d = near_edge rank in record { low = omega (arith, ints); high = omega (arith, ints) }
middle_of_any King file rank h = let e = near_edge file in let d = near_edge rank in record { low = omega (arith, ints); high = omega (arith, ints) }

end_of_any : (kind : Kind) (file rank : ℕ) → rank < 8 → IsEnd (is_king kind) (end_of_kind kind file rank)
end_of_any Pawn file rank h = record { low = omega (arith, ints); high = omega (arith, ints) }
end_of_any Knight file rank h = let e = near_edge file in let d = near_edge rank in record { low = omega (arith, ints); high = omega (arith, ints) }
end_of_any Bishop file rank h = let e = near_edge file in let d = near_edge rank in record { low = omega (arith, ints); high = omega (arith, ints) }
end_of_any Rook file rank h = let e = near_edge file in let d = bonus_small rank in record { low = omega (arith, ints); high = omega (arith, ints) }
end_of_any Queen file rank h = let e = near_edge file in let d = near_edge rank in record { low = omega (arith, ints); high = omega (arith, ints) }
end_of_any King file rank h = let e = near_edge file in let d = near_edge rank in record { low = omega (arith, ints); high = omega (arith, ints) }

pub middle_small : (man : Man) (square : ℕ) → square < 64 → IsMiddle (is_king man.kind) (middle_of man square)
unfolding middle_of
middle_small man square h = middle_of_any man.kind (file_of square) (own_rank man.colour square) (own_rank_below man.colour square h)

pub end_small : (man : Man) (square : ℕ) → square < 64 → IsEnd (is_king man.kind) (end_of man square)
unfolding end_of
end_small man square h = end_of_any man.kind (file_of square) (own_rank man.colour square) (own_rank_below man.colour square h)

for_white_within : (colour : Colour) (worth : ℤ) → IsWithin 903 worth → IsWithin 903 (for_white colour worth)
for_white_within White worth s = record { low = omega (arith, ints, s.low); high = omega (arith, ints, s.high) }
for_white_within Black worth s = record { low = omega (arith, ints, s.high); high = omega (arith, ints, s.low) }

-- at least and at most so many
record IsBetween (least most worth : ℤ) : Type 0 where
  low : least ≤ℤ worth
  high : worth ≤ℤ most

middle_bounds : (man : Man) (square : ℕ) → square < 64 → IsBetween (neg_ℤ (pos 36)) (pos 903) (middle_of man square)
middle_bounds man square h =
    let small = middle_small man square h in
    let one = bit_small (is_king man.kind) in
    record { low = omega (arith, ints, small.low); high = omega (arith, ints, small.high) }

end_bounds : (man : Man) (square : ℕ) → square < 64 → IsBetween (pos 0) (pos 903) (end_of man square)
end_bounds man square h =
    let small = end_small man square h in
    record { low = small.low; high = omega (arith, ints, small.high) }

-- what a table of 32-bit numbers has for the worth
pub record IsRead (least most worth read : ℤ) : Type 0 where
  pub value : read ≡ worth
  pub low : least ≤ℤ read
  pub high : read ≤ℤ most

is_read : {least most worth found : ℤ} → IsBetween least most worth → neg_ℤ (pos 36) ≤ℤ least → most ≤ℤ pos 903 → found ≡ worth → IsRead least most worth (to_z w32 (of_z w32 found))
is_read {worth = worth} {found = found} bounds least most same =
    let value : to_z w32 (of_z w32 found) ≡ worth = omega (arith, ints, same, bounds.low, bounds.high, least, most) in
    record { value = value; low = omega (arith, ints, value, bounds.low); high = omega (arith, ints, value, bounds.high) }

pub middle_read : {found : ℤ} (man : Man) (square : ℕ) → square < 64 → found ≡ middle_of man square → IsRead (neg_ℤ (pos 36)) (pos 903) (middle_of man square) (to_z w32 (of_z w32 found))
middle_read man square h same = is_read (middle_bounds man square h) (omega (arith, ints)) (omega (arith, ints)) same

pub end_read : {found : ℤ} (man : Man) (square : ℕ) → square < 64 → found ≡ end_of man square → IsRead (pos 0) (pos 903) (end_of man square) (to_z w32 (of_z w32 found))
end_read man square h same = is_read (end_bounds man square h) (omega (arith, ints)) (omega (arith, ints)) same

-- whatever stands there
balance_within : (worth : Man → ℕ → ℤ) (there : Option Man) (square : ℕ) → ((man : Man) → IsWithin 903 (worth man square)) → IsWithin 903 (balance_there worth there square)
balance_within worth None square small = record { low = omega (arith, ints); high = omega (arith, ints) }
balance_within worth (Some man) square small = for_white_within man.colour (worth man square) (small man)

pub middle_within : (there : Option Man) (square : ℕ) → square < 64 → IsWithin 903 (balance_there middle_of there square)
middle_within there square h =
    balance_within middle_of there square (λ man. let b = middle_bounds man square h in record { low = omega (arith, ints, b.low); high = b.high })

pub end_within : (there : Option Man) (square : ℕ) → square < 64 → IsWithin 903 (balance_there end_of there square)
end_within there square h =
    balance_within end_of there square (λ man. let b = end_bounds man square h in record { low = omega (arith, ints, b.low); high = b.high })

-- the worth as White counts it
pub white_is : {found white : ℤ} (worth : Man → ℕ → ℤ) (man : Man) (square : ℕ) → IsWithin 903 (balance_there worth (Some man) square) → white ≡ for_white man.colour found → found ≡ worth man square →
    to_z w32 (of_z w32 white) ≡ balance_there worth (Some man) square
white_is worth man square small is same = omega (arith, ints, is ∙ ap (for_white man.colour) same, small.low, small.high)

pub record IsWeight (weight : ℤ) : Type 0 where
  pub low : pos 0 ≤ℤ weight
  pub high : weight ≤ℤ pos 4

weight_of_any : (kind : Kind) → IsWeight (weight_of kind)
weight_of_any Pawn = record { low = omega (arith, ints); high = omega (arith, ints) }
weight_of_any _ = record { low = omega (arith, ints); high = omega (arith, ints) }

pub weight_small : (there : Option Man) (square : ℕ) → IsWeight (weight_there there square)
weight_small None square = record { low = omega (arith, ints); high = omega (arith, ints) }
weight_small (Some man) square = weight_of_any man.kind

pub weight_within : (kind : Kind) → IsWithin 903 (weight_of kind)
weight_within kind = let w = weight_of_any kind in record { low = omega (arith, ints, w.low); high = omega (arith, ints, w.high) }

-- the negative of a 32-bit number
abbrev pub negative : ℤ → ℤ
negative n = to_z w32 (of_z w32 (pos 0 -ℤ to_z w32 (of_z w32 n)))

pub negated : {found worth : ℤ} → IsWithin 903 worth → found ≡ worth → negative found ≡ neg_ℤ worth
negated small same = omega (arith, ints, same, small.low, small.high)
