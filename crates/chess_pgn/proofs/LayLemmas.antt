-- A text laid in lines byte by byte.
use Rattle.std.proofs.Common.{◌≡◌, ◌≢◌, ◌<◌, ◌≤◌, ℕ, zero, suc, ◌+◌, false, eqb, List, [], ◌∷◌, ◌++◌, length, slice_set, refl, sym, ap, ◌∙◌, arith, append_assoc, append-nil, codes, length-append}
use Rattle.std.specs.Prelude.{Result, Ok, Err, OnOk}
use Rattle.std.proofs.lemmas.Bool.{le-leb, lt-leb}
use Rattle.std.proofs.lemmas.Bool.Decides.{nat_tests}
use Rattle.byte_streams.specs.Words.{words_from}
use Rattle.chess_pgn.specs.Layout.{lay, laid, in_lines, line_width}
use Rattle.chess_pgn.specs.steps.Laying.{Lays}

-- nothing has been written
pub lays_none : (before : List ℕ) → Lays before (before ++ 32 ∷ []) (length before) line_width []
lays_none before = record { done = before; begun = []; parts = refl; place = refl; on = λ rest. refl }

-- a byte of a word
pub lays_byte : (before laid : List ℕ) (space column : ℕ) (text : List ℕ) (b : ℕ) → eqb b 32 ≡ false → Lays before laid space column text → Lays before (laid ++ b ∷ []) space column (text ++ b ∷ [])
lays_byte before laid space column text b other l = record {
  done = l.done;
  begun = l.begun ++ b ∷ [];
  parts = ap (λ (x : List ℕ). x ++ b ∷ []) l.parts ∙ append_assoc l.done (32 ∷ l.begun) (b ∷ []);
  place = l.place;
  on = λ rest.
      ap (λ (x : List ℕ). before ++ lay line_width (words_from (codes " ") [] x)) (append_assoc text (b ∷ []) rest)
      ∙ l.on (b ∷ rest) ∙ ap (λ (x : List (List ℕ)). l.done ++ lay column x) (in_word l.begun b rest other);
}
  where
    in_word : (begun : List ℕ) (b : ℕ) (rest : List ℕ) → eqb b 32 ≡ false → words_from (codes " ") begun (b ∷ rest) ≡ words_from (codes " ") (begun ++ b ∷ []) rest
    in_word begun b rest other = grind (arith, nat_tests, other)

lengths : (laid done begun : List ℕ) → laid ≡ done ++ 32 ∷ begun → length laid ≡ length done + 1 + length begun
lengths laid done begun e = rw e (omega (arith, length-append done (32 ∷ begun)))

no_bytes : (xs : List ℕ) → length xs ≡ 0 → xs ≡ []
no_bytes [] e = refl
no_bytes (x ∷ xs) e = absurd (omega arith)

-- a space where no word has begun
pub lays_gap : (before laid : List ℕ) (space column : ℕ) (text : List ℕ) → length laid ≡ space + 1 → Lays before laid space column text → Lays before laid space column (text ++ 32 ∷ [])
lays_gap before laid space column text len l = record {
  done = l.done;
  begun = l.begun;
  parts = l.parts;
  place = l.place;
  on = λ rest.
      ap (λ (x : List ℕ). before ++ lay line_width (words_from (codes " ") [] x)) (append_assoc text (32 ∷ []) rest)
      ∙ l.on (32 ∷ rest) ∙ ap (λ (x : List (List ℕ)). l.done ++ lay column x) (none l.begun rest (no_bytes l.begun (omega (arith, lengths laid l.done l.begun l.parts, l.place))));
}
  where
    none : (begun rest : List ℕ) → begun ≡ [] → words_from (codes " ") begun (32 ∷ rest) ≡ words_from (codes " ") begun rest
    none begun rest e = rw e refl

-- the text with another byte in place of a space
replaced : (done begun : List ℕ) (b c : ℕ) → slice_set (done ++ b ∷ begun) (length done) c ≡ done ++ c ∷ begun
replaced [] begun b c = refl
replaced (d ∷ done) begun b c = ap (λ (x : List ℕ). d ∷ x) (replaced done begun b c)

-- a word ends: there is room for it in the line, or not
abbrev Fits : ℕ → ℕ → Type 0
Fits column len = column + 1 + len ≤ line_width

word_ends : (begun rest : List ℕ) → 0 < length begun → words_from (codes " ") begun (32 ∷ rest) ≡ begun ∷ words_from (codes " ") [] rest
word_ends [] rest some = absurd (omega arith)
word_ends (b ∷ begun) rest some = refl

pub lays_fits : (before laid : List ℕ) (space column len : ℕ) (text : List ℕ) → length laid ≡ space + 1 + len → 0 < len → column + 1 + len ≤ line_width
    → Lays before laid space column text → Lays before (laid ++ 32 ∷ []) (length laid) (column + 1 + len) (text ++ 32 ∷ [])
lays_fits before laid space column len text size some fits l =
    let n : length l.begun ≡ len = omega (arith, lengths laid l.done l.begun l.parts, l.place, size) in
    record {
      done = laid;
      begun = [];
      parts = refl;
      place = refl;
      on = λ rest.
          ap (λ (x : List ℕ). before ++ lay line_width (words_from (codes " ") [] x)) (append_assoc text (32 ∷ []) rest)
          ∙ l.on (32 ∷ rest) ∙ ap (λ (x : List (List ℕ)). l.done ++ lay column x) (word_ends l.begun rest (omega (arith, n, some)))
          ∙ ap (λ (x : List ℕ). l.done ++ x) (chosen l.begun (words_from (codes " ") [] rest) n)
          ∙ sym (append_assoc l.done (32 ∷ l.begun) _) ∙ ap (λ (x : List ℕ). x ++ lay (column + 1 + len) (words_from (codes " ") [] rest)) (sym l.parts);
    }
  where
    chosen : (begun : List ℕ) (others : List (List ℕ)) → length begun ≡ len → lay column (begun ∷ others) ≡ 32 ∷ (begun ++ lay (column + 1 + len) others)
    chosen begun others n = rw (n, le-leb (column + 1 + len) line_width fits) refl

pub lays_breaks : (before laid : List ℕ) (space column len : ℕ) (text : List ℕ) → length laid ≡ space + 1 + len → 0 < len → line_width < column + 1 + len
    → Lays before laid space column text → Lays before (slice_set laid space 10 ++ 32 ∷ []) (length laid) len (text ++ 32 ∷ [])
lays_breaks before laid space column len text size some over l =
    let n : length l.begun ≡ len = omega (arith, lengths laid l.done l.begun l.parts, l.place, size) in
    let e : slice_set laid space 10 ≡ l.done ++ 10 ∷ l.begun = rw (l.parts, ← l.place) (replaced l.done l.begun 32 10) in
    record {
      done = slice_set laid space 10;
      begun = [];
      parts = refl;
      place = rw e (omega (arith, length-append l.done (10 ∷ l.begun), n, l.place, size));
      on = λ rest.
          ap (λ (x : List ℕ). before ++ lay line_width (words_from (codes " ") [] x)) (append_assoc text (32 ∷ []) rest)
          ∙ l.on (32 ∷ rest) ∙ ap (λ (x : List (List ℕ)). l.done ++ lay column x) (word_ends l.begun rest (omega (arith, n, some)))
          ∙ ap (λ (x : List ℕ). l.done ++ x) (chosen l.begun (words_from (codes " ") [] rest) n)
          ∙ sym (append_assoc l.done (10 ∷ l.begun) _) ∙ ap (λ (x : List ℕ). x ++ lay len (words_from (codes " ") [] rest)) (sym e);
    }
  where
    chosen : (begun : List ℕ) (others : List (List ℕ)) → length begun ≡ len → lay column (begun ∷ others) ≡ 10 ∷ (begun ++ lay len others)
    chosen begun others n = rw (n, lt-leb (column + 1 + len) line_width over) refl

-- the same of a call that may fail
pub breaks_on : {E : Type 0} (r : Result (Unit {0}) E) (laid laid' : List ℕ) (space space' column column' len : ℕ) → OnOk r (laid' ≡ slice_set laid space 10 ++ 32 ∷ []) → OnOk r (space' ≡ length laid) → OnOk r (column' ≡ len)
    → length laid ≡ space + 1 + len → 0 < len → line_width < column + 1 + len → OnOk r ((before text : List ℕ) → Lays before laid space column text → Lays before laid' space' column' (text ++ 32 ∷ []))
breaks_on (Ok x) laid laid' space space' column column' len e1 e2 e3 size some over = λ before text l. rw (e1, e2, e3) (lays_breaks before laid space column len text size some over l)
breaks_on (Err e) laid laid' space space' column column' len e1 e2 e3 size some over = tt

-- ---- the end

space_behind : (begun text : List ℕ) → words_from (codes " ") begun (text ++ 32 ∷ []) ≡ words_from (codes " ") begun text
space_behind [] [] = refl
space_behind (b ∷ begun) [] = refl
space_behind begun (b ∷ text) =
    let here = space_behind [] text in
    let on = space_behind (begun ++ b ∷ []) text in
    grind (arith, nat_tests, here, on)

pub first_line : (ws : List (List ℕ)) → ws ≢ [] → lay line_width ws ≡ 10 ∷ laid ws
first_line [] some = absurd (some refl)
first_line (w ∷ ws) some = rw (lt-leb (line_width + 1 + length w) line_width (omega arith)) refl

pub lays_finish : (before items : List ℕ) (space column : ℕ) (text bytes : List ℕ) → Lays before items space column (text ++ 32 ∷ []) → length items ≡ space + 1 → bytes ≡ slice_set items space 10 ++ 10 ∷ []
    → words_from (codes " ") [] text ≢ [] → bytes ≡ before ++ 10 ∷ (in_lines text ++ 10 ∷ 10 ∷ [])
lays_finish before items space column text bytes l size e some =
    let none : l.begun ≡ [] = no_bytes l.begun (omega (arith, lengths items l.done l.begun l.parts, l.place, size)) in
    let i : items ≡ l.done ++ 32 ∷ [] = l.parts ∙ ap (λ (x : List ℕ). l.done ++ 32 ∷ x) none in
    let set : slice_set items space 10 ≡ l.done ++ 10 ∷ [] = rw (i, ← l.place) (replaced l.done [] 32 10) in
    let on : before ++ lay line_width (words_from (codes " ") [] ((text ++ 32 ∷ []) ++ [])) ≡ l.done ++ lay column (words_from (codes " ") l.begun []) = l.on [] in
    let whole : before ++ 10 ∷ in_lines text ≡ l.done =
    sym (ap (λ (x : List ℕ). before ++ x) (first_line (words_from (codes " ") [] text) some)) ∙ sym (ap (λ (x : List (List ℕ)). before ++ lay line_width x) (ap (words_from (codes " ") []) (append-nil (text ++ 32 ∷ [])) ∙ space_behind [] text))
    ∙ on ∙ ap (λ (x : List ℕ). l.done ++ lay column (words_from (codes " ") x [])) none ∙ append-nil l.done in
    e ∙ rw (set, ← whole) (shift before (in_lines text))
  where
    shift : (xs ys : List ℕ) → ((xs ++ 10 ∷ ys) ++ 10 ∷ []) ++ 10 ∷ [] ≡ xs ++ 10 ∷ (ys ++ 10 ∷ 10 ∷ [])
    shift xs ys = append_assoc (xs ++ 10 ∷ ys) (10 ∷ []) (10 ∷ []) ∙ append_assoc xs (10 ∷ ys) (10 ∷ 10 ∷ [])

set_length : (xs : List ℕ) (k b : ℕ) → length (slice_set xs k b) ≡ length xs
set_length [] k b = refl
set_length (x ∷ xs) zero b = refl
set_length (x ∷ xs) (suc k) b = omega (arith, set_length xs k b)

pub break_ends : {E : Type 0} (r : Result (Unit {0}) E) (laid laid' : List ℕ) (space space' : ℕ) → OnOk r (laid' ≡ slice_set laid space 10 ++ 32 ∷ []) → OnOk r (space' ≡ length laid) → OnOk r (length laid' ≡ space' + 1)
break_ends (Ok x) laid laid' space space' e1 e2 = rw (e1, e2) (omega (arith, length-append (slice_set laid space 10) (32 ∷ []), set_length laid space 10))
break_ends (Err e) laid laid' space space' e1 e2 = tt
