-- What is UTF-8, and cells one after another.
use Rattle.std.proofs.Common.{◌≡◌, ℕ, Bool, true, false, if◌then◌else◌, List, [], ◌∷◌, ◌++◌, flat_map, map, codes, Option, Some, None, refl, ap, ◌∙◌}
use Rattle.std.specs.Prelude.{option_map}
use Rattle.std.proofs.lemmas.List.{map-append}
use Rattle.std.proofs.lemmas.Str.{IsUtf8-from_is_utf8, is_utf8-from_IsUtf8}
use Rattle.std.specs.Char.{encode_utf8}
use Rattle.std.specs.Str.{IsUtf8, is_utf8}
use Rattle.chess_items.specs.Faults.{name_of}
use Rattle.chess_items.specs.declared.fault.PgnFault.{PgnFault}
use Rattle.arbiter.specs.declared.cell.Cell as declared
use Rattle.arbiter.specs.Cells.{Cell, Number, Text, as_utf8, maybe, name_and_value}
use Rattle.arbiter.specs.Rows.{ending_cells}

-- a text that is UTF-8 is left as it is
pub stays : (text : List ℕ) → IsUtf8 text → as_utf8 text ≡ text
stays text is = ap (λ (b : Bool). if b then text else flat_map encode_utf8 text) (is_utf8-from_IsUtf8 text is)

fails_by : (text : List ℕ) (test : Bool) → is_utf8 text ≡ test → (IsUtf8 text → ⊥) → (if test then text else flat_map encode_utf8 text) ≡ flat_map encode_utf8 text
fails_by text false is not = refl
fails_by text true is not = absurd (not (IsUtf8-from_is_utf8 text is))

-- another is read as ISO 8859-1
pub reads : (text : List ℕ) → (IsUtf8 text → ⊥) → as_utf8 text ≡ flat_map encode_utf8 text
reads text not = fails_by text (is_utf8 text) refl not

-- one cell after another
pub next : {x y : Cell} {xs ys : List Cell} → x ≡ y → xs ≡ ys → x ∷ xs ≡ y ∷ ys
next {x} {y} {xs} {ys} first rest = ap (λ (c : Cell). c ∷ xs) first ∙ ap (λ (cs : List Cell). y ∷ cs) rest

-- where a game's fault is, and what it is
pub ending_is : (fault : Option PgnFault) → (codes "fault_place", maybe Number (option_map (λ f. f.place) fault)) ∷ (codes "fault", maybe Text (option_map (λ f. name_of f.kind) fault)) ∷ [] ≡ ending_cells fault
ending_is None = refl
ending_is (Some fault) = refl

-- the cells of a game, in two parts
pub parts_are : (cells head rest : List declared.Cell) (x y : List Cell) → cells ≡ head ++ rest → map name_and_value head ≡ x → map name_and_value rest ≡ y → map name_and_value cells ≡ x ++ y
parts_are cells head rest x y is first more = ap (λ (cs : List declared.Cell). map name_and_value cs) is ∙ map-append name_and_value head rest ∙ ap (λ (cs : List Cell). cs ++ map name_and_value rest) first ∙ ap (λ (cs : List Cell). x ++ cs) more
