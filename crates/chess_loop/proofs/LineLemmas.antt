-- Lines of bytes that come in pieces.
use Rattle.std.proofs.Common.{◌≡◌, ℕ, suc, ◌+◌, ◌<◌, true, false, ◌==◌, List, [], ◌∷◌, ◌++◌, length, take, drop, get_or, Some, refl, ap, sym, ◌∙◌, append-nil, add-one, drop-cons, get_or-take, take-append-drop, length-take-le, eqb-true, arith}
use Rattle.std.proofs.lemmas.Grind.{common_steps}
use Rattle.memchr.specs.Find.{Nowhere, Passes, IsFirstByte, is_byte}
use Rattle.chess_loop.specs.InputLines.{ended_lines, line_buffer}

-- no byte is a line feed
abbrev pub Free : List ℕ → Type 0
Free xs = Nowhere (Passes (is_byte 10) xs) 0 (length xs)

Free-tail : (b : ℕ) (bs : List ℕ) → Free (b ∷ bs) → Free bs
Free-tail b bs free = λ k low high hit. free (suc k) (omega arith) (omega arith) hit

Free-head : (b : ℕ) (bs : List ℕ) → Free (b ∷ bs) → (b == 10) ≡ false
Free-head b bs free = let no : (b == 10) ≡ true → ⊥ = λ e. free 0 (omega arith) (omega arith) e in grind (arith, common_steps, no)

pub ended_lines-append : (begun xs ys : List ℕ) → ended_lines begun (xs ++ ys) ≡ ended_lines begun xs ++ ended_lines (line_buffer begun xs) ys
ended_lines-append begun [] ys = refl
ended_lines-append begun (x ∷ xs) ys =
    let here = ended_lines-append [] xs ys in
    let on = ended_lines-append (begun ++ x ∷ []) xs ys in
    grind (arith, common_steps, here, on)

pub line_buffer-append : (begun xs ys : List ℕ) → line_buffer begun (xs ++ ys) ≡ line_buffer (line_buffer begun xs) ys
line_buffer-append begun [] ys = refl
line_buffer-append begun (x ∷ xs) ys =
    let here = line_buffer-append [] xs ys in
    let on = line_buffer-append (begun ++ x ∷ []) xs ys in
    grind (arith, common_steps, here, on)

pub ended_lines-free : (begun xs : List ℕ) → Free xs → ended_lines begun xs ≡ []
ended_lines-free begun [] free = refl
ended_lines-free begun (x ∷ xs) free =
    let no = Free-head x xs free in
    let on = ended_lines-free (begun ++ x ∷ []) xs (Free-tail x xs free) in
    grind (arith, common_steps, no, on)

pub line_buffer-free : (begun xs : List ℕ) → Free xs → line_buffer begun xs ≡ begun ++ xs
line_buffer-free begun [] free = sym (append-nil begun)
line_buffer-free begun (x ∷ xs) free =
    let no = Free-head x xs free in
    let on = line_buffer-free (begun ++ x ∷ []) xs (Free-tail x xs free) in
    grind (arith, common_steps, no, on)

-- at the first line feed
module _ (begun rest : List ℕ) (at : ℕ) (first : IsFirstByte (is_byte 10) rest (Some at)) where
  front_free : Free (take at rest)
  front_free = λ k low high hit.
      let here : k < at = omega (arith, length-take-le at rest) in
      let same : get_or (take at rest) k 0 ≡ get_or rest k 0 = get_or-take at rest k 0 here in
      first.0.before k low here (rw same at hit)

  at_feed : rest ≡ take at rest ++ 10 ∷ drop (at + 1) rest
  at_feed =
      let inside : at < length rest = first.0.high in
      let byte : get_or rest at 0 ≡ 10 = eqb-true _ _ first.1 in
      let cut : drop at rest ≡ get_or rest at 0 ∷ drop (suc at) rest = drop-cons rest at 0 inside in
      sym (rw (add-one, ← byte, ← cut) (take-append-drop at rest))

  pub ended_lines-at : ended_lines begun rest ≡ (begun ++ take at rest) ∷ ended_lines [] (drop (at + 1) rest)
  ended_lines-at =
      let split = ended_lines-append begun (take at rest) (10 ∷ drop (at + 1) rest) in
      let none = ended_lines-free begun (take at rest) front_free in
      let kept = line_buffer-free begun (take at rest) front_free in
      ap (ended_lines begun) at_feed ∙ split ∙ rw (none, kept) refl

  pub line_buffer-at : line_buffer begun rest ≡ line_buffer [] (drop (at + 1) rest)
  line_buffer-at = ap (line_buffer begun) at_feed ∙ line_buffer-append begun (take at rest) (10 ∷ drop (at + 1) rest)
