-- A game's text, part by part.
use Rattle.std.proofs.Common.{◌≡◌, ◌≢◌, ◌<◌, ℕ, ◌+◌, Bool, true, false, cond, List, [], ◌∷◌, ◌++◌, length, take, get_or, refl, sym, ap, ◌∙◌, append_assoc, append-nil, codes}
use Rattle.std.specs.Prelude.{Result, Ok, Err, OnOk, Option, Vec}
use Rattle.std.proofs.lemmas.List.{take_more}
use Rattle.byte_streams.specs.Words.{after_word, as_word, first_word, is_gap, words, words_from}
use Rattle.byte_streams.proofs.WordLemmas.{words_from-first}
use Rattle.chess_items.specs.Items.{is_escapable}
use Rattle.chess_items.specs.declared.outcome.Outcome.{Outcome}
use Rattle.chess_items.specs.declared.outcome.Outcome.TheVariants.{WhiteWins, BlackWins, Draw, Unfinished}
use Rattle.chess_tree.specs.GameTree.{GameTree}
use Rattle.chess_items.specs.Markers.{outcome_text}
use Rattle.chess_pgn.specs.Written.{comment_text, escaped, is_within, movetext, moves_text, others_text, tag_text}
use Rattle.chess_pgn.specs.steps.OtherCode.{shown}

-- one part after another; the last may fail
pub then : {E : Type 0} (r : Result (Unit {0}) E) (x0 x1 x2 p q : List ℕ) → x1 ≡ x0 ++ p → OnOk r (x2 ≡ x1 ++ q) → OnOk r (x2 ≡ x0 ++ (p ++ q))
then (Ok u) x0 x1 x2 p q e h = h ∙ ap (λ (x : List ℕ). x ++ q) e ∙ append_assoc x0 p q
then (Err u) x0 x1 x2 p q e h = tt

escaped_step : (v : Bool) (b : ℕ) (xs ys all : List ℕ) → all ≡ xs ++ ys → cond v (92 ∷ b ∷ all) (b ∷ all) ≡ cond v (92 ∷ b ∷ xs) (b ∷ xs) ++ ys
escaped_step true b xs ys all e = ap (λ (x : List ℕ). 92 ∷ b ∷ x) e
escaped_step false b xs ys all e = ap (λ (x : List ℕ). b ∷ x) e

escaped_append : (xs ys : List ℕ) → escaped (xs ++ ys) ≡ escaped xs ++ escaped ys
escaped_append [] ys = refl
escaped_append (b ∷ xs) ys = escaped_step (is_escapable b) b (escaped xs) (escaped ys) (escaped (xs ++ ys)) (escaped_append xs ys)

pub escaped_more : (before mid new value : List ℕ) (i : ℕ) → i < length value → mid ≡ before ++ escaped (take i value) → new ≡ mid ++ escaped (get_or value i 0 ∷ []) → new ≡ before ++ escaped (take (i + 1) value)
escaped_more before mid new value i h e k =
    k ∙ ap (λ (x : List ℕ). x ++ escaped (get_or value i 0 ∷ [])) e ∙ append_assoc before (escaped (take i value)) (escaped (get_or value i 0 ∷ []))
    ∙ ap (λ (x : List ℕ). before ++ x) (sym (ap escaped (take_more value i 0 h) ∙ escaped_append (take i value) (get_or value i 0 ∷ [])))

-- ---- the other tags, one by one

module _ (from : List ℕ) (to : Option (List ℕ)) where
  -- what one of them adds
  abbrev pub one_text : List ℕ → List ℕ → List ℕ
  one_text name value = cond (is_within from to name) (tag_text name value) []

  others_end : {A : Type 0} (done : List (Vec ℕ A × Vec ℕ A)) (e : Vec ℕ A × Vec ℕ A) → others_text from to (shown (done ++ e ∷ [])) ≡ others_text from to (shown done) ++ one_text e.0.items e.1.items
  others_end [] e = append-nil (one_text e.0.items e.1.items)
  others_end (d ∷ done) e =
      ap (λ (x : List ℕ). one_text d.0.items d.1.items ++ x) (others_end done e)
      ∙ sym (append_assoc (one_text d.0.items d.1.items) (others_text from to (shown done)) (one_text e.0.items e.1.items))

  pub others_more : {A : Type 0} (before mid new : List ℕ) (done : List (Vec ℕ A × Vec ℕ A)) (e : Vec ℕ A × Vec ℕ A)
      → mid ≡ before ++ others_text from to (shown done) → new ≡ mid ++ one_text e.0.items e.1.items → new ≡ before ++ others_text from to (shown (done ++ e ∷ []))
  others_more before mid new done e h k =
      k ∙ ap (λ (x : List ℕ). x ++ one_text e.0.items e.1.items) h ∙ append_assoc before (others_text from to (shown done)) (one_text e.0.items e.1.items)
      ∙ ap (λ (x : List ℕ). before ++ x) (sym (others_end done e))

-- ---- the movetext has a word

begun_words : (b : ℕ) (begun text : List ℕ) → words_from (codes " ") (b ∷ begun) text ≢ []
begun_words b begun text e =
    let k : ((b ∷ begun ++ first_word (codes " ") text) ∷ words (codes " ") (after_word (codes " ") text)) ≡ [] = sym (words_from-first (codes " ") (b ∷ begun) text) ∙ e in
    cc

some_behind : (xs ys : List (List ℕ)) → ys ≢ [] → xs ++ ys ≢ []
some_behind [] ys h e = h e
some_behind (x ∷ xs) ys h e = cc

-- after a space stands a word
behind_space : (begun text : List ℕ) (b : ℕ) → is_gap (codes " ") b ≡ false → words_from (codes " ") begun (32 ∷ b ∷ text) ≢ []
behind_space begun text b h = some_behind (as_word begun) (words_from (codes " ") [] (b ∷ text)) (λ e. begun_words b [] text (sym one ∙ e))
  where
    one : words_from (codes " ") [] (b ∷ text) ≡ words_from (codes " ") (b ∷ []) text
    one = rw h refl

either_some : (v : Bool) (xs ys : List (List ℕ)) → xs ≢ [] → ys ≢ [] → cond v xs ys ≢ []
either_some true xs ys h k = h
either_some false xs ys h k = k

words_behind : (begun prefix text : List ℕ) (b : ℕ) → is_gap (codes " ") b ≡ false → words_from (codes " ") begun (prefix ++ 32 ∷ b ∷ text) ≢ []
words_behind begun [] text b h = behind_space begun text b h
words_behind begun (c ∷ prefix) text b h =
    either_some (is_gap (codes " ") c) _ _ (some_behind (as_word begun) (words_from (codes " ") [] (prefix ++ 32 ∷ b ∷ text)) (words_behind [] prefix text b h)) (words_behind (begun ++ c ∷ []) prefix text b h)

marker_behind : (prefix : List ℕ) (outcome : Outcome) → words (codes " ") (prefix ++ (codes " " ++ outcome_text outcome)) ≢ []
marker_behind prefix WhiteWins = words_behind [] prefix (codes "-0") 49 refl
marker_behind prefix BlackWins = words_behind [] prefix (codes "-1") 48 refl
marker_behind prefix Draw = words_behind [] prefix (codes "/2-1/2") 49 refl
marker_behind prefix Unfinished = words_behind [] prefix [] 42 refl

pub movetext_words : (tree : GameTree) (outcome : Outcome) → words (codes " ") (movetext tree outcome) ≢ []
movetext_words tree outcome e =
    marker_behind (comment_text tree.comment ++ moves_text false true tree.start tree.below) outcome
    (ap (words (codes " ")) (append_assoc (comment_text tree.comment) (moves_text false true tree.start tree.below) (codes " " ++ outcome_text outcome)) ∙ e)

pub named : (x0 x1 name v w : List ℕ) → x1 ≡ x0 ++ tag_text name v → v ≡ w → x1 ≡ x0 ++ tag_text name w
named x0 x1 name v w e h = e ∙ ap (λ (x : List ℕ). x0 ++ tag_text name x) h
