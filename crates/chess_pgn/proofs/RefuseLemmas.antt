-- What a reader of movetext refuses goes on in no way.
use Rattle.std.proofs.Common.{◌≡◌, ◌⊎◌, ℕ, ◌≤◌, Bool, true, false, List, [], ◌∷◌, length, reverse, Some, None, refl, sym, ap, subst, ◌∙◌, arith, ◌&&◌}
use Rattle.std.specs.Prelude.{Result, Ok, Err, nat_lt}
use Rattle.std.proofs.lemmas.List.{length-reverse}
use mathlib.Core.Logic.{inl, inr}
use Rattle.chess_types.specs.board.MoveParts.{MoveParts}
use Rattle.chess_types.specs.board.Position.{PositionParts}
use Rattle.chess_types.specs.board.Lines.{last}
use Rattle.chess_items.specs.declared.fault.FaultKind.{FaultKind}
use Rattle.chess_items.specs.declared.fault.FaultKind.TheVariants.{Memory, TooLarge}
use Rattle.chess_san.specs.declared.fault.SanFault.{SanFault}
use Rattle.chess_san.specs.Naming.{san_reading}
use Rattle.chess_tree.specs.Forest.{Forest}
use Rattle.chess_tree.specs.GameTree.{TreeParts, line_to}
use Rattle.chess_pgn.specs.Grammar.{Element, Open, Close, Text, few_are_open, move_in, ok_move}
use Rattle.chess_pgn.specs.steps.Elements.{Frame, Last}
use Rattle.chess_pgn.specs.steps.Readings.{Exceeds, Reading, RefusesElements, goes_on, HoldsReading, Pends, is_nil}
use Rattle.chess_pgn.specs.declared.reader.moves.Interrupted.{Interrupted}
use Rattle.chess_pgn.specs.declared.reader.moves.Moves.{Moves}
use Rattle.chess_pgn.proofs.StepLemmas.{frames_long, no_frames, no_lines, state}

-- ---- a text that names no move

text_none : (w : List ℕ) (es : List Element) (start : PositionParts) (c : List ℕ) (f : Forest) (up : List ℕ) (l : Last) (here : PositionParts) (lead : List ℕ) (st : List Frame)
    → move_in here w ≡ None → goes_on (Text w ∷ es) (state start c f up l here lead st) ≡ None
text_none w es start c f up None here lead [] e = rw e refl
text_none w es start c f up None here lead (x ∷ xs) e = rw e refl
text_none w es start c f up (Some y) here lead st e = rw e refl

none_read : (r : Result MoveParts SanFault) → ((m : MoveParts) → r ≡ Ok m → ⊥) → ok_move r ≡ None
none_read (Ok m) e = absurd (e m refl)
none_read (Err fault) e = refl

pub text_fails : (t : TreeParts) (lines : List Interrupted) (played : Bool) (comments : List ℕ) (from : ℕ) (w : List ℕ) → ((m : MoveParts) → san_reading (last (line_to t)) w ≡ Ok m → ⊥)
    → (s : Reading) → HoldsReading t lines played comments from s → (es : List Element) → goes_on (Text w ∷ es) s ≡ None
text_fails t lines played comments from w e s h es =
    text_none w es s.start s.comment s.forest s.up s.last_move s.here s.lead s.interrupted
    (ap (λ (z : PositionParts). move_in z w) (h.here ∙ rw (h.start, h.forest, h.path) refl) ∙ none_read (san_reading (last (line_to t)) w) e)

-- ---- a variation that begins

open_none : (t : TreeParts) (lines : List Interrupted) (played : Bool) (comments : List ℕ) (from : ℕ) (es : List Element) (start : PositionParts) (c : List ℕ) (f : Forest) (up : List ℕ) (l : Last) (here : PositionParts) (lead : List ℕ) (st : List Frame)
    → played ≡ false → HoldsReading t lines played comments from (state start c f up l here lead st) → goes_on (Open ∷ es) (state start c f up l here lead st) ≡ None
open_none t lines played comments from es start c f up None here lead st e h = refl
open_none t lines played comments from es start c f up (Some y) here lead st e h = absurd (let k : false ≡ true = sym e ∙ h.played in cc)

pub open_fails : (t : TreeParts) (lines : List Interrupted) (played : Bool) (comments : List ℕ) (from : ℕ) → played ≡ false → (s : Reading) → HoldsReading t lines played comments from s → (es : List Element) → goes_on (Open ∷ es) s ≡ None
open_fails t lines played comments from e s h es = open_none t lines played comments from es s.start s.comment s.forest s.up s.last_move s.here s.lead s.interrupted e h

lt_false : (a b : ℕ) → b ≤ a → nat_lt a b ≡ false
lt_false a b h = grind (arith, h)

and_false : (a b : Bool) → a ≡ false → a && b ≡ false
and_false a b e = rw e refl

pub too_deep : (t : TreeParts) (lines : List Interrupted) (played : Bool) (comments : List ℕ) (from : ℕ) → 128 ≤ length lines → (s : Reading) → HoldsReading t lines played comments from s → (es : List Element)
    → few_are_open (length s.interrupted) (Open ∷ es) ≡ false
too_deep t lines played comments from many s h es =
    let e = frames_long h.outer s.interrupted (reverse lines) h.pends in
    let r = length-reverse lines in
    and_false (nat_lt (length s.interrupted) 128) _ (lt_false (length s.interrupted) 128 (omega (arith, e, r, many)))

-- ---- a variation that ends

close_none : (es : List Element) (start : PositionParts) (c : List ℕ) (f : Forest) (up : List ℕ) (l : Last) (here : PositionParts) (lead : List ℕ) (st : List Frame) → st ≡ [] → goes_on (Close ∷ es) (state start c f up l here lead st) ≡ None
close_none es start c f up l here lead [] e = refl
close_none es start c f up l here lead (x ∷ xs) e = absurd cc

closed_frames : (outer : List ℕ) (st : List Frame) (lines : List Interrupted) → lines ≡ [] → Pends outer st (reverse lines) → st ≡ []
closed_frames outer [] lines e h = refl
closed_frames outer (x ∷ xs) lines e h = absurd (no_frames outer x xs lines e h)

none_long : (lines : List Interrupted) → length lines ≡ 0 → lines ≡ []
none_long [] e = refl
none_long (i ∷ is) e = absurd (omega arith)

pub close_fails : (t : TreeParts) (lines : List Interrupted) (played : Bool) (comments : List ℕ) (from : ℕ) → length lines ≡ 0 → (s : Reading) → HoldsReading t lines played comments from s → (es : List Element) → goes_on (Close ∷ es) s ≡ None
close_fails t lines played comments from e s h es =
    close_none es s.start s.comment s.forest s.up s.last_move s.here s.lead s.interrupted (closed_frames h.outer s.interrupted lines (none_long lines e) h.pends)

-- ---- an end where a variation is open

end_none : (outer : List ℕ) (lines : List Interrupted) (start : PositionParts) (c : List ℕ) (f : Forest) (up : List ℕ) (l : Last) (here : PositionParts) (lead : List ℕ) (st : List Frame)
    → is_nil lines ≡ false → Pends outer st (reverse lines) → goes_on [] (state start c f up l here lead st) ≡ None
end_none outer lines start c f up l here lead [] e h = absurd (let k : true ≡ false = sym (ap is_nil (no_lines outer lines h)) ∙ e in cc)
end_none outer lines start c f up l here lead (x ∷ xs) e h = refl

pub end_fails : (t : TreeParts) (lines : List Interrupted) (played : Bool) (comments : List ℕ) (from : ℕ) → is_nil lines ≡ false → (s : Reading) → HoldsReading t lines played comments from s → goes_on [] s ≡ None
end_fails t lines played comments from e s h = end_none h.outer lines s.start s.comment s.forest s.up s.last_move s.here s.lead s.interrupted e h.pends

-- ---- no memory, or a limit of the tree

pub refuses_room : {A : Type 0} (some : List Element) (kind : FaultKind) (moves : Moves A) → (kind ≡ Memory) ⊎ ((kind ≡ TooLarge) × Exceeds some moves) → RefusesElements some kind moves
refuses_room some kind moves (inl e) = subst (λ (k : FaultKind). RefusesElements some k moves) (sym e) tt
refuses_room some kind moves (inr e) = subst (λ (k : FaultKind). RefusesElements some k moves) (sym e.0) e.1
