-- A text that is written anew, bit by bit.
use Rattle.std.proofs.Common.{◌≡◌, ℕ, ◌+◌, ◌≤◌, true, List, [], ◌∷◌, ◌++◌, length, take, drop, refl, sym, ap, subst, ◌∙◌, arith, append_assoc, append-nil, length-append, length-take, take-append-drop}
use Rattle.std.specs.List.{list_all}
use Rattle.chess_items.specs.Items.{is_glyph}
use Rattle.chess_repair.specs.declared.repair.RepairKind.TheVariants as k
use Rattle.chess_repair.specs.Repairs.{IsRepair, MayStand, Rewrites, padded}
use Rattle.chess_repair.specs.declared.repair.Repair.{Repair}

-- what is left has no more bytes than the text
pub fits : (size : ℕ) (text : List ℕ) (rs : List Repair) (out rest : List ℕ) → Rewrites size text rs out rest → length rest ≤ length text
fits size text [] out rest r = (let e = ap length r in let n = length-append out rest in omega (arith, e, n))
fits size text (repair ∷ rs) out rest (kept, was, others, now, more, parts, written, place, long, wide, is, r) =
    let below = fits size others rs more rest r in
    let e = ap length parts in
    let a = length-append kept (was ++ others) in
    let b = length-append was others in
    omega (arith, e, a, b, below)

-- bytes that are kept
pub kept_more : (size : ℕ) (text : List ℕ) (rs : List Repair) (out kept rest : List ℕ) → Rewrites size text rs out (kept ++ rest) → Rewrites size text rs (out ++ kept) rest
kept_more size text [] out kept rest r = r ∙ sym (append_assoc out kept rest)
kept_more size text (repair ∷ rs) out more rest (kept, was, others, now, after, parts, written, place, long, wide, is, r) = (
  kept,
  was,
  others,
  now,
  after ++ more,
  parts,
  (ap (λ (z : List ℕ). z ++ more) written ∙ append_assoc kept (padded repair.kind now ++ after) more ∙ ap (λ (z : List ℕ). kept ++ z) (append_assoc (padded repair.kind now) after more)),
  place,
  long,
  wide,
  is,
  kept_more size others rs after more rest r,
)

pub kept_so : (size n : ℕ) (text : List ℕ) (rs : List Repair) (out left front back new : List ℕ) → Rewrites size text rs out left → front ≡ take n left → back ≡ drop n left → new ≡ out ++ front → Rewrites size text rs new back
kept_so size n text rs out left front back new r f b e =
    let whole : left ≡ front ++ back = sym (take-append-drop n left) ∙ ap (λ (z : List ℕ). z ++ drop n left) (sym f) ∙ ap (λ (z : List ℕ). front ++ z) (sym b) in
    subst (λ (z : List ℕ). Rewrites size text rs z back) (sym e) (kept_more size text rs out front back (subst (λ (z : List ℕ). Rewrites size text rs out z) whole r))

-- a repair
pub one_more : (size : ℕ) (text : List ℕ) (rs : List Repair) (out was rest now : List ℕ) (repair : Repair) → Rewrites size text rs out (was ++ rest) → MayStand repair.kind was now rest → repair.place + length (was ++ rest) ≡ size → repair.length ≡ length was
    → repair.written ≡ length (padded repair.kind now) → Rewrites size text (rs ++ repair ∷ []) (out ++ padded repair.kind now) rest
one_more size text [] out was rest now repair r is place long wide = (
  out,
  was,
  rest,
  now,
  [],
  r,
  ap (λ (z : List ℕ). out ++ z) (sym (append-nil (padded repair.kind now))),
  place,
  long,
  wide,
  is,
  refl,
)
one_more size text (first ∷ rs) out was rest now repair (kept, was', others, now', more, parts, written, at, long', wide', is', r) is place long wide = (
  kept,
  was',
  others,
  now',
  more ++ padded repair.kind now,
  parts,
  (ap (λ (z : List ℕ). z ++ padded repair.kind now) written ∙ append_assoc kept (padded first.kind now' ++ more) (padded repair.kind now) ∙ ap (λ (z : List ℕ). kept ++ z) (append_assoc (padded first.kind now') more (padded repair.kind now))),
  at,
  long',
  wide',
  is',
  one_more size others rs more was rest now repair r is place long wide,
)

-- as it is written by the code
pub one_more_so : (size : ℕ) (text : List ℕ) (rs rs' : List Repair) (out out' left was rest now wide : List ℕ) (repair : Repair) → Rewrites size text rs out left → left ≡ was ++ rest → MayStand repair.kind was now rest → repair.place + length left ≡ size
    → repair.length ≡ length was → wide ≡ padded repair.kind now → repair.written ≡ length wide → rs' ≡ rs ++ repair ∷ [] → out' ≡ out ++ wide → Rewrites size text rs' out' rest
one_more_so size text rs rs' out out' left was rest now wide repair r parts is place long pads written listed put =
    let here = subst (λ (z : List ℕ). Rewrites size text rs out z) parts r in
    let at = subst (λ (z : List ℕ). repair.place + length z ≡ size) parts place in
    let more = one_more size text rs out was rest now repair here is at long (written ∙ ap length pads) in
    subst (λ (z : List Repair). Rewrites size text z out' rest) (sym listed)
    (subst (λ (z : List ℕ). Rewrites size text (rs ++ repair ∷ []) z rest) (sym (put ∙ ap (λ (z : List ℕ). out ++ z) pads)) more)

-- the first two signs of annotation
pub first_two : (xs : List ℕ) → 2 ≤ length xs → list_all is_glyph xs ≡ true → IsRepair k.Glyphs xs (take 2 xs)
first_two xs long all = (drop 2 xs, sym (take-append-drop 2 xs), (let e = length-take 2 xs in omega (arith, e, long)), all)

-- the two parts of a text
pub split_so : (text front back : List ℕ) (n : ℕ) → front ≡ take n text → back ≡ drop n text → text ≡ front ++ back
split_so text front back n f b = sym (take-append-drop n text) ∙ ap (λ (z : List ℕ). z ++ drop n text) (sym f) ∙ ap (λ (z : List ℕ). front ++ z) (sym b)
