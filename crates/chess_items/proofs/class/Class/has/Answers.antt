use Rattle.std.proofs.Common.{◌≡◌, ℕ, ◌==◌, ◌<◌, Bool, not, map, bit_and, get_or, refl, ap, sym, ◌∙◌, arith}
use Rattle.std.proofs.Math.ListN.{get_or-map}
use Rattle.std.proofs.lemmas.List.FromFn.{get_or-map-range_with_len}
use Rattle.std.specs.List.{range_with_len}
use Rattle.chess_items.specs.Items.{is_digit, is_glyph, is_name_byte, is_plain, is_word_byte}
use Rattle.chess_items.specs.steps.Classes.{bit_of, has_byte}
use Rattle.chess_items.specs.declared.class.Class.{Class}
use Rattle.chess_items.specs.declared.class.Class.TheVariants.{Word}
use Rattle.chess_items.specs.declared.class.TheConstants.{CLASSES}
use Rattle.chess_items.proofs.class.Class.has.Goals as goal

-- whether the bit is set
abbrev test : ℕ → ℕ → Bool
test bit n = not (bit_and n bit == 0)

tables : (class : Class) → map (test (bit_of class)) CLASSES ≡ map (has_byte class) (range_with_len 0 256)
unfolding is_word_byte is_name_byte is_digit is_glyph is_plain
tables Word = refl
tables _ = refl

read : (class : Class) (b : ℕ) → b < 256 → test (bit_of class) (get_or CLASSES b 0) ≡ has_byte class b
read class b h =
    let none = test (bit_of class) 0 in
    sym (get_or-map (test (bit_of class)) CLASSES b 0) ∙ ap (λ t. get_or t b none) (tables class) ∙ get_or-map-range_with_len (has_byte class) 0 256 b b none h (omega arith)

pub returns : goal.returns
returns c = rw (c.from.ensures, c.bit.ensures) (read c.args.self c.args.b (omega arith))
