-- The one syntax of a list of elements, found from its end.
use Rattle.std.proofs.Common.{◌≡◌, ◌≢◌, List, [], ◌∷◌, ◌++◌, refl, sym, ap, ◌∙◌, append_assoc}
use Rattle.std.proofs.lemmas.List.{append-nil}
use Rattle.chess_pgn.specs.Grammar.{Element, Number, Annotation, Remark, Open, Close, Text, LineSyntax, End, Skip, Annotate, Say, Play, Vary, elements_of}

-- the lines that elements end, the innermost first; Bad where a variation is never closed
pub data Lines : Type 0 where
  LastLine : LineSyntax → Lines
  More : LineSyntax → Lines → Lines
  Bad : Lines

abbrev pub first : (LineSyntax → LineSyntax) → Lines → Lines
first f (LastLine l) = LastLine (f l)
first f (More l ls) = More (f l) ls
first f Bad = Bad

abbrev pub open_one : Lines → Lines
open_one (More v (LastLine l)) = LastLine (Vary v l)
open_one (More v (More l ls)) = More (Vary v l) ls
open_one (More v Bad) = Bad
open_one (LastLine l) = Bad
open_one Bad = Bad

abbrev pub close_one : Lines → Lines
close_one (LastLine l) = More End (LastLine l)
close_one (More l ls) = More End (More l ls)
close_one Bad = Bad

abbrev pub parse : List Element → Lines
parse [] = LastLine End
parse (Number ∷ ts) = first Skip (parse ts)
parse (Annotation n ∷ ts) = first (Annotate n) (parse ts)
parse (Remark t ∷ ts) = first (Say t) (parse ts)
parse (Text w ∷ ts) = first (Play w) (parse ts)
parse (Open ∷ ts) = open_one (parse ts)
parse (Close ∷ ts) = close_one (parse ts)

abbrev pub then : LineSyntax → LineSyntax → LineSyntax
then End l = l
then (Skip k) l = Skip (then k l)
then (Annotate n k) l = Annotate n (then k l)
then (Say t k) l = Say t (then k l)
then (Play w k) l = Play w (then k l)
then (Vary v k) l = Vary v (then k l)

then-end : (l : LineSyntax) → then l End ≡ l
then-end End = refl
then-end (Skip l) = ap Skip (then-end l)
then-end (Annotate n l) = ap (Annotate n) (then-end l)
then-end (Say t l) = ap (Say t) (then-end l)
then-end (Play w l) = ap (Play w) (then-end l)
then-end (Vary v l) = ap (Vary v) (then-end l)

first-id : (ls : Lines) → first (λ l. l) ls ≡ ls
first-id (LastLine l) = refl
first-id (More l ls) = refl
first-id Bad = refl

first-first : (f g : LineSyntax → LineSyntax) (ls : Lines) → first f (first g ls) ≡ first (λ l. f (g l)) ls
first-first f g (LastLine l) = refl
first-first f g (More l ls) = refl
first-first f g Bad = refl

open-close : (v : LineSyntax) (ls : Lines) → open_one (first (then v) (close_one ls)) ≡ first (Vary v) ls
open-close v (LastLine l) = ap (λ (x : LineSyntax). LastLine (Vary x l)) (then-end v)
open-close v (More l ls) = ap (λ (x : LineSyntax). More (Vary x l) ls) (then-end v)
open-close v Bad = refl

pub parse-line : (l : LineSyntax) (ts : List Element) → parse (elements_of l ++ ts) ≡ first (then l) (parse ts)
parse-line End ts = sym (first-id (parse ts))
parse-line (Skip l) ts = ap (first Skip) (parse-line l ts) ∙ first-first Skip (then l) (parse ts)
parse-line (Annotate n l) ts = ap (first (Annotate n)) (parse-line l ts) ∙ first-first (Annotate n) (then l) (parse ts)
parse-line (Say t l) ts = ap (first (Say t)) (parse-line l ts) ∙ first-first (Say t) (then l) (parse ts)
parse-line (Play w l) ts = ap (first (Play w)) (parse-line l ts) ∙ first-first (Play w) (then l) (parse ts)
parse-line (Vary v l) ts =
    ap (λ (x : List Element). open_one (parse x)) (append_assoc (elements_of v) (Close ∷ elements_of l) ts)
    ∙ ap open_one (parse-line v (Close ∷ (elements_of l ++ ts)))
    ∙ open-close v (parse (elements_of l ++ ts))
    ∙ ap (first (Vary v)) (parse-line l ts)
    ∙ first-first (Vary v) (then l) (parse ts)

-- a line's elements have that syntax
pub parse-of : (l : LineSyntax) → parse (elements_of l) ≡ LastLine l
parse-of l = ap parse (sym (append-nil (elements_of l))) ∙ parse-line l [] ∙ ap LastLine (then-end l)

-- the elements of lines
abbrev pub yield : Lines → List Element
yield (LastLine l) = elements_of l
yield (More l ls) = elements_of l ++ Close ∷ yield ls
yield Bad = []

yield-open : (ls : Lines) → open_one ls ≢ Bad → yield (open_one ls) ≡ Open ∷ yield ls
yield-open (LastLine l) h = absurd (h refl)
yield-open (More v (LastLine l)) h = refl
yield-open (More v (More l ls)) h = ap (λ (x : List Element). Open ∷ x) (append_assoc (elements_of v) (Close ∷ elements_of l) (Close ∷ yield ls))
yield-open (More v Bad) h = absurd (h refl)
yield-open Bad h = absurd (h refl)

yield-first : (f : LineSyntax → LineSyntax) (t : Element) (ls : Lines) → ((l : LineSyntax) → elements_of (f l) ≡ t ∷ elements_of l) → ls ≢ Bad → yield (first f ls) ≡ t ∷ yield ls
yield-first f t (LastLine l) e h = e l
yield-first f t (More l ls) e h = ap (λ (x : List Element). x ++ Close ∷ yield ls) (e l)
yield-first f t Bad e h = absurd (h refl)

first-bad : (f : LineSyntax → LineSyntax) (ls : Lines) → first f ls ≢ Bad → ls ≢ Bad
first-bad f (LastLine l) h e = cc
first-bad f (More l ls) h e = cc
first-bad f Bad h e = h refl

open-bad : (ls : Lines) → open_one ls ≢ Bad → ls ≢ Bad
open-bad (LastLine l) h e = h refl
open-bad (More v ls) h e = cc
open-bad Bad h e = h refl

close-bad : (ls : Lines) → close_one ls ≢ Bad → ls ≢ Bad
close-bad (LastLine l) h e = cc
close-bad (More v ls) h e = cc
close-bad Bad h e = h refl

yield-close : (ls : Lines) → ls ≢ Bad → yield (close_one ls) ≡ Close ∷ yield ls
yield-close (LastLine l) h = refl
yield-close (More l ls) h = refl
yield-close Bad h = absurd (h refl)

-- elements with a syntax are its elements
pub yield-parse : (ts : List Element) → parse ts ≢ Bad → yield (parse ts) ≡ ts
yield-parse [] h = refl
yield-parse (Number ∷ ts) h = let k = first-bad Skip (parse ts) h in yield-first Skip Number (parse ts) (λ l. refl) k ∙ ap (λ (x : List Element). Number ∷ x) (yield-parse ts k)
yield-parse (Annotation n ∷ ts) h = let k = first-bad (Annotate n) (parse ts) h in yield-first (Annotate n) (Annotation n) (parse ts) (λ l. refl) k ∙ ap (λ (x : List Element). Annotation n ∷ x) (yield-parse ts k)
yield-parse (Remark t ∷ ts) h = let k = first-bad (Say t) (parse ts) h in yield-first (Say t) (Remark t) (parse ts) (λ l. refl) k ∙ ap (λ (x : List Element). Remark t ∷ x) (yield-parse ts k)
yield-parse (Text w ∷ ts) h = let k = first-bad (Play w) (parse ts) h in yield-first (Play w) (Text w) (parse ts) (λ l. refl) k ∙ ap (λ (x : List Element). Text w ∷ x) (yield-parse ts k)
yield-parse (Open ∷ ts) h = let k = open-bad (parse ts) h in yield-open (parse ts) h ∙ ap (λ (x : List Element). Open ∷ x) (yield-parse ts k)
yield-parse (Close ∷ ts) h = let k = close-bad (parse ts) h in yield-close (parse ts) k ∙ ap (λ (x : List Element). Close ∷ x) (yield-parse ts k)

pub parse-back : (ts : List Element) (l : LineSyntax) → parse ts ≡ LastLine l → elements_of l ≡ ts
parse-back ts l e = sym (ap yield e) ∙ yield-parse ts (λ b. not-bad l (sym e ∙ b))
  where
    not-bad : (k : LineSyntax) → LastLine k ≡ Bad → ⊥
    not-bad k h = cc
