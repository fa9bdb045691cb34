-- Lists of texts that are written one after the other.
use Rattle.std.proofs.Common.{◌≡◌, ℕ, ◌+◌, ◌<◌, ◌≤◌, Bool, List, [], ◌∷◌, ◌++◌, map, take, get_or, filter, length, not, refl, sym, ap, ◌∙◌, append_assoc, append-nil, arith}
use Rattle.std.specs.Prelude.{codes}
use Rattle.std.specs.List.{range_with_len}
use Rattle.std.proofs.Math.ListN.{drop_of_length-le}
use Rattle.std.proofs.lemmas.List.{take_more, take-append-drop}
use Rattle.std.proofs.lemmas.List.Filters.{length-filter_both}
use Rattle.chess_types.specs.board.Squares.{squares}
use Rattle.chess_types.specs.board.MoveParts.{MoveParts}
use Rattle.chess_types.specs.board.Texts.{move_text, square_text}
use Rattle.chess_types.proofs.Runs.{filter_agree}
use Rattle.chess_cli.specs.Gaps.{gapped, separated_by}
use Rattle.chess_cli.specs.Answers.{list_text}
use Rattle.chess_cli.specs.steps.Lists.{with_another}

gapped-more : {X : Type 0} (gap : List ℕ) (text : X → List ℕ) (xs : List X) (x : X) →
    gapped gap (map text (xs ++ x ∷ [])) ≡ gapped gap (map text xs) ++ (gap ++ text x)
gapped-more gap text [] x = append-nil (gap ++ text x)
gapped-more gap text (y ∷ ys) x =
    ap (λ (t : List ℕ). gap ++ text y ++ t) (gapped-more gap text ys x)
    ∙ sym (append_assoc (gap ++ text y) (gapped gap (map text ys)) (gap ++ text x))

-- one text more after another
text-more : {X : Type 0} (text : X → List ℕ) (y : X) (ys : List X) (x : X) →
    (text y ++ gapped (codes " ") (map text ys)) ++ 32 ∷ text x ≡ separated_by (codes " ") (map text ((y ∷ ys) ++ x ∷ []))
text-more text y ys x =
    append_assoc (text y) (gapped (codes " ") (map text ys)) (32 ∷ text x)
    ∙ ap (λ (t : List ℕ). text y ++ t) (sym (gapped-more (codes " ") text ys x))

-- one square more
squares-more : (ss : List ℕ) (s : ℕ) →
    with_another (separated_by (codes " ") (map square_text ss)) (square_text s) ≡ separated_by (codes " ") (map square_text (ss ++ s ∷ []))
squares-more [] s = sym (append-nil (square_text s))
squares-more (t ∷ ss) s = text-more square_text t ss s

-- the written text is that of the squares before these last ones
pub record Written (written : List ℕ) (all rest : List ℕ) : Type 0 where
  pub seen : List ℕ
  pub parts : all ≡ seen ++ rest
  pub text : written ≡ separated_by (codes " ") (map square_text seen)

pub written-start : (all : List ℕ) → Written [] all all
written-start all = record { seen = []; parts = refl; text = refl }

pub written-more : (old new all rest : List ℕ) (s : ℕ) → Written old all (s ∷ rest) → new ≡ with_another old (square_text s) → Written new all rest
written-more old new all rest s w e = record {
  seen = w.seen ++ s ∷ [];
  parts = w.parts ∙ sym (append_assoc w.seen (s ∷ []) rest);
  text = e ∙ ap (λ (t : List ℕ). with_another t (square_text s)) w.text ∙ squares-more w.seen s;
}

pub same_squares : (f g : ℕ → Bool) → ((x : ℕ) → x < 64 → f x ≡ g x) → filter f squares ≡ filter g squares
unfolding squares
same_squares f g same = filter_agree f g 0 64 (λ x low high. same x high)

filter-few : (test : ℕ → Bool) (xs : List ℕ) → length (filter test xs) ≤ length xs
filter-few test xs = omega (arith, length-filter_both test (λ x. not (test x)) (λ x. refl) xs)

-- so many squares at most
pub squares_few : (test : ℕ → Bool) → length (filter test squares) ≤ 64
unfolding squares
squares_few test = filter-few test (range_with_len 0 64)

-- one move more after what was there
pub move_put : (prefix page page1 page2 : List ℕ) (ms more : List MoveParts) (m : MoveParts) → 0 < length ms → page ≡ prefix ++ separated_by (codes " ") (map move_text ms)
    → page1 ≡ page ++ codes " " → page2 ≡ page1 ++ move_text m → more ≡ ms ++ m ∷ [] → page2 ≡ prefix ++ separated_by (codes " ") (map move_text more)
move_put prefix page page1 page2 [] more m some first gap next all = absurd (omega (arith, some))
move_put prefix page page1 page2 (n ∷ ms) more m some first gap next all =
    rw (next, gap, first, all)
    (append_assoc (prefix ++ separated_by (codes " ") (map move_text (n ∷ ms))) (codes " ") (move_text m)
    ∙ append_assoc prefix (separated_by (codes " ") (map move_text (n ∷ ms))) (32 ∷ move_text m)
    ∙ ap (λ (t : List ℕ). prefix ++ t) (text-more move_text n ms m))

-- the next move
pub move_next : (prefix page page1 page2 : List ℕ) (moves others : List MoveParts) (n : ℕ) (first m d : MoveParts) → moves ≡ first ∷ others
    → page ≡ prefix ++ separated_by (codes " ") (map move_text (take 1 moves ++ take n others)) → n < length others
    → page1 ≡ page ++ codes " " → page2 ≡ page1 ++ move_text m → m ≡ get_or others n d
    → page2 ≡ prefix ++ separated_by (codes " ") (map move_text (take 1 moves ++ take (n + 1) others))
move_next prefix page page1 page2 moves others n first m d parts so_far within gap put is =
    rw parts
    (move_put prefix page page1 page2 (first ∷ take n others) (first ∷ take (n + 1) others) m (omega arith) (rw parts at so_far) gap put
    (ap (λ (ms : List MoveParts). first ∷ ms) (take_more others n d within ∙ ap (λ (x : MoveParts). take n others ++ x ∷ []) (sym is))))

take_all : (n : ℕ) (xs : List MoveParts) → length xs ≤ n → take n xs ≡ xs
take_all n xs few = sym (append-nil (take n xs)) ∙ ap (λ (ys : List MoveParts). take n xs ++ ys) (sym (drop_of_length-le xs few)) ∙ take-append-drop n xs

-- all of them
pub moves_all : (prefix page : List ℕ) (moves others : List MoveParts) (n : ℕ) (first : MoveParts) → moves ≡ first ∷ others → length others ≤ n
    → page ≡ prefix ++ separated_by (codes " ") (map move_text (take 1 moves ++ take n others)) → page ≡ prefix ++ list_text (map move_text moves)
moves_all prefix page moves others n first parts all so_far =
    let whole : take n others ≡ others = take_all n others all in
    rw (parts) (rw (parts, whole) at so_far)
