-- A text whose words are separated by single spaces, laid in lines: some of its spaces are line feeds, and nothing else changes.
use Rattle.std.proofs.Common.{◌≡◌, ◌≢◌, ◌⊎◌, inl, inr, ℕ, ◌+◌, Bool, true, false, cond, leb, not, ◌&&◌, if◌then◌else◌, List, [], ◌∷◌, ◌++◌, length, refl, sym, ap, ◌∙◌, append_assoc, arith, codes}
use Rattle.std.specs.List.{AllByRecursion}
use Rattle.std.proofs.lemmas.Bool.{false≢true}
use Rattle.std.proofs.lemmas.Bool.Decides.{nat_tests}
use Rattle.byte_streams.specs.Words.{is_gap, words, words_from}
use Rattle.chess_tree.specs.Comments.{blanks, normalised}
use Rattle.std.specs.List.{join_with_byte}
use Rattle.chess_pgn.specs.Layout.{lay, in_lines, line_width}
use Rattle.chess_pgn.proofs.LayLemmas.{first_line}

-- the same byte, or a line feed in place of a space
abbrev pub Fills : ℕ → ℕ → Type 0
Fills x y = (y ≡ x) ⊎ ((x ≡ 32) × (y ≡ 10))

-- some spaces are line feeds
abbrev pub Respaced : List ℕ → List ℕ → Type 0
Respaced [] t = t ≡ []
Respaced (x ∷ a) [] = ⊥
Respaced (x ∷ a) (y ∷ t) = Fills x y × Respaced a t

pub respaced_self : (a : List ℕ) → Respaced a a
respaced_self [] = refl
respaced_self (x ∷ a) = (inl refl, respaced_self a)

pub respaced_on : (a b s t : List ℕ) → Respaced a s → Respaced b t → Respaced (a ++ b) (s ++ t)
respaced_on [] b s t p q = rw p q
respaced_on (x ∷ a) b [] t p q = absurd p
respaced_on (x ∷ a) b (y ∷ s) t p q = (p.0, respaced_on a b s t p.1 q)

pub respaced_parts : (a b t : List ℕ) → Respaced (a ++ b) t → (s u : List ℕ) × (t ≡ s ++ u) × Respaced a s × Respaced b u
respaced_parts [] b t p = ([], t, refl, refl, p)
respaced_parts (x ∷ a) b [] p = absurd p
respaced_parts (x ∷ a) b (y ∷ t) p =
    let r = respaced_parts a b t p.1 in
    (y ∷ r.0, r.1, ap (λ (z : List ℕ). y ∷ z) r.2, (p.0, r.3), r.4)

abbrev pub is_space : ℕ → Bool
is_space b = is_gap (codes " ") b

-- no byte is a space
abbrev pub NoSpace : List ℕ → Type 0
NoSpace = AllByRecursion (λ b. is_space b ≡ false)

space_is_one : (x : ℕ) → x ≡ 32 → is_space x ≡ true
space_is_one x e = rw e refl

-- where there is no space, nothing changes
pub respaced_same : (a t : List ℕ) → NoSpace a → Respaced a t → t ≡ a
respaced_same [] t none p = p
respaced_same (x ∷ a) [] none p = absurd p
respaced_same (x ∷ a) (y ∷ t) none p =
    let r = respaced_same a t none.1 p.1 in
    elim p.0 [ inl e ↦ rw (e, r) refl | inr e ↦ absurd (false≢true (sym none.0 ∙ space_is_one x e.0)) ]

-- ---- words separated by single spaces

-- a space before each word
abbrev pub parted : List (List ℕ) → List ℕ
parted [] = []
parted (w ∷ ws) = 32 ∷ (w ++ parted ws)

space_byte : (b : ℕ) → is_space b ≡ true → b ≡ 32
space_byte b e = grind (arith, nat_tests, e)

lay_step : (v : Bool) (w : List ℕ) (ws : List (List ℕ)) (s t : List ℕ) → Respaced (parted ws) s → Respaced (parted ws) t → Respaced (parted (w ∷ ws)) (cond v (32 ∷ (w ++ s)) (10 ∷ (w ++ t)))
lay_step true w ws s t p q = (inl refl, respaced_on w (parted ws) w s (respaced_self w) p)
lay_step false w ws s t p q = (inr (refl, refl), respaced_on w (parted ws) w t (respaced_self w) q)

respaced_lay : (ws : List (List ℕ)) (column : ℕ) → Respaced (parted ws) (lay column ws)
respaced_lay [] column = refl
respaced_lay (w ∷ ws) column = lay_step (leb (column + 1 + length w) line_width) w ws _ _ (respaced_lay ws (column + 1 + length w)) (respaced_lay ws (length w))

-- Single spaces, and none at the end; where a space stands before the text, none may begin it.
abbrev pub is_single : Bool → List ℕ → Bool
is_single behind [] = not behind
is_single behind (b ∷ text) = if is_space b then not behind && is_single true text else is_single false text

abbrev Parts : List ℕ → Type 0
Parts text =
    (is_single true text ≡ true → parted (words_from (codes " ") [] text) ≡ 32 ∷ text)
    × ((c : ℕ) (begun : List ℕ) → is_single false text ≡ true → parted (words_from (codes " ") (c ∷ begun) text) ≡ 32 ∷ ((c ∷ begun) ++ text))

-- the words of such a text
parts : (text : List ℕ) → Parts text
parts [] = (λ e. absurd (false≢true e), λ c begun e. refl)
parts (b ∷ text) = step (is_space b) refl (parts text)
  where
    step : (v : Bool) → is_space b ≡ v → Parts text → Parts (b ∷ text)
    step true e r = (
      λ one. absurd (false≢true (rw e at one)),
      λ c begun one. rw e (ap (λ (x : List ℕ). 32 ∷ ((c ∷ begun) ++ x)) (r.0 (rw e at one)) ∙ rw (space_byte b e) refl),
    )
    step false e r = (
      λ one. rw e (r.1 b [] (rw e at one)),
      λ c begun one. rw e (r.1 c (begun ++ b ∷ []) (rw e at one) ∙ ap (λ (x : List ℕ). 32 ∷ c ∷ x) (append_assoc begun (b ∷ []) text)),
    )

pub respaced_words : (text : List ℕ) → is_single true text ≡ true → Respaced (32 ∷ text) (lay line_width (words (codes " ") (32 ∷ text)))
respaced_words text one = rw ((parts text).0 one) at (respaced_lay (words (codes " ") text) line_width)

-- The text in lines, after a line feed, is the text respaced.
pub filled : (text : List ℕ) → is_single true text ≡ true → words (codes " ") (32 ∷ text) ≢ [] → Respaced (32 ∷ text) (10 ∷ in_lines (32 ∷ text))
filled text one some = rw (first_line (words (codes " ") (32 ∷ text)) some) at (respaced_words text one)

-- ---- a comment's words

space_blank : (x y : ℕ) → Fills x y → is_gap blanks y ≡ is_gap blanks x
space_blank x y (inl e) = ap (is_gap blanks) e
space_blank x y (inr e) = rw (e.0, e.1) refl

same_words : (begun a t : List ℕ) → Respaced a t → words_from blanks begun t ≡ words_from blanks begun a
same_words begun [] t p = rw p refl
same_words begun (x ∷ a) [] p = absurd p
same_words begun (x ∷ a) (y ∷ t) (inl e, p) = rw (e, same_words [] a t p, same_words (begun ++ x ∷ []) a t p) refl
same_words begun (x ∷ a) (y ∷ t) (inr e, p) = rw (e.0, e.1, same_words [] a t p) refl

pub respaced_normalised : (a t : List ℕ) → Respaced a t → normalised t ≡ normalised a
unfolding normalised
respaced_normalised a t p = ap (join_with_byte 32) (same_words [] a t p)
