-- A game of so many bytes has fewer moves than a tree may hold: a byte stands between two words.
use Rattle.std.proofs.Common.{◌≡◌, ◌≤◌, ℕ, suc, ◌+◌, ◌*◌, List, [], ◌∷◌, ◌++◌, length, Option, Some, None, refl, sym, ap, subst, ◌∙◌, arith}
use Rattle.std.proofs.lemmas.Bool.{false≢true}
use Rattle.chess_types.specs.board.After.{after}
use Rattle.chess_types.specs.board.Position.{PositionParts}
use Rattle.chess_items.specs.Items as items
use Rattle.chess_items.specs.Items.{EndsRun, Item, IsRun, Spells, is_word_byte, place_after}
use Rattle.chess_items.specs.declared.place.Place.{Place}
use Rattle.chess_items.specs.declared.place.Place.TheVariants.{GameStart}
use Rattle.chess_items.proofs.LocalLemmas.{text_shorter}
use Rattle.chess_tree.specs.Forest.{Forest, Bare, Node, height, moves_held}
use Rattle.chess_pgn.proofs.ExceedLemmas.{held_append}
use Rattle.chess_pgn.specs.Games.{Game}
use Rattle.chess_pgn.specs.Grammar.{Element, Close, Text, LineSyntax, End, Skip, Annotate, Say, Play, Vary, Addition, elements, elements_of, meaning, move_in, nothing, said, varied, with_annotation, with_move_first, ◌>>=◌}
use Rattle.chess_pgn.specs.Reading.{BeginsWithGame}

-- ---- words

abbrev words : List Item → ℕ
words [] = 0
words (items.Word w ∷ is) = suc (words is)
words (_ ∷ is) = words is

words_append : (is js : List Item) → words (is ++ js) ≡ words is + words js
words_append [] js = omega arith
words_append (items.Word w ∷ is) js = (let h = words_append is js in omega (arith, h))
words_append (_ ∷ is) js = words_append is js

no_word_first : (text next : List ℕ) → IsRun is_word_byte text next → EndsRun is_word_byte (text ++ next) → ⊥
no_word_first [] next r e = r.some refl
no_word_first (b ∷ text) next r e = false≢true (sym e ∙ r.each.0)

-- some of the bytes are between the words; where no word comes first, as many as there are words
both_spaced : (place : Place) (input : List ℕ) (is : List Item) (rest : List ℕ) → Spells place input is rest
    → (2 * words is + length rest ≤ length input + 1) × (EndsRun is_word_byte input → 2 * words is + length rest ≤ length input)
both_spaced place input [] rest s = (let l = ap length s in (omega (arith, l), λ e. omega (arith, l)))
both_spaced place input (items.Word w ∷ is) rest s =
    let more = both_spaced (place_after place (items.Word w)) s.1 is rest s.4 in
    let one = text_shorter place (items.Word w) s.0 input s.1 s.2 s.3 in
    let behind = more.1 s.3.spelled.0.stops in
    (omega (arith, one, behind), λ e. absurd (no_word_first s.0 s.1 s.3.spelled.0 (subst (EndsRun is_word_byte) s.2 e)))
both_spaced place input (_ ∷ is) rest s =
    let more = both_spaced _ s.1 is rest s.4 in
    let one = text_shorter place _ s.0 input s.1 s.2 s.3 in
    (omega (arith, one, more.0), λ e. omega (arith, one, more.0))

-- ---- texts among elements

abbrev texts : List Element → ℕ
texts [] = 0
texts (Text w ∷ es) = suc (texts es)
texts (_ ∷ es) = texts es

texts_append : (es fs : List Element) → texts (es ++ fs) ≡ texts es + texts fs
texts_append [] fs = omega arith
texts_append (Text w ∷ es) fs = (let h = texts_append es fs in omega (arith, h))
texts_append (_ ∷ es) fs = texts_append es fs

texts_words : (is : List Item) → texts (elements is) ≡ words is
texts_words [] = refl
texts_words (items.Word w ∷ is) = ap suc (texts_words is)
texts_words (_ ∷ is) = texts_words is

-- ---- moves

some_is : {A : Type 0} (a b : A) → Some a ≡ Some b → a ≡ b
some_is a b e = cc

bound : {A B : Type 0} (o : Option A) (next : A → Option B) (y : B) → (o >>= next) ≡ Some y → (x : A) × (o ≡ Some x) × (next x ≡ Some y)
bound None next y e = absurd cc
bound (Some x) next y e = (x, refl, e)

abbrev held : Addition → ℕ
held r = moves_held r.beside + moves_held r.below

varied_held : (f : Forest) (text : List ℕ) (r : Addition) → held (varied f text r) ≤ moves_held f + held r
varied_held Bare text r = omega arith
varied_held (Node m nags c below next) text r = (let h = held_append next r.beside in omega (arith, h))

meaning_held : (line : LineSyntax) (before : Option PositionParts) (here : PositionParts) (r : Addition) → meaning line before here ≡ Some r → held r ≤ texts (elements_of line)
meaning_held End before here r e = subst (λ (x : Addition). held x ≤ 0) (some_is nothing r e) (omega arith)
meaning_held (Skip line) before here r e = meaning_held line before here r e
meaning_held (Annotate n line) before here r e =
    let b = bound (meaning line before here) (λ r. Some (with_annotation n r)) r e in
    subst (λ (x : Addition). held x ≤ texts (elements_of line)) (some_is (with_annotation n b.0) r b.2) (meaning_held line before here b.0 b.1)
meaning_held (Say text line) before here r e =
    let b = bound (meaning line before here) (λ r. Some (said text r)) r e in
    subst (λ (x : Addition). held x ≤ texts (elements_of line)) (some_is (said text b.0) r b.2) (meaning_held line before here b.0 b.1)
meaning_held (Play word line) before here r e =
    let a = bound (move_in here word) (λ m. meaning line (Some here) (after here m) >>= λ r. Some (with_move_first m r)) r e in
    let b = bound (meaning line (Some here) (after here a.0)) (λ r. Some (with_move_first a.0 r)) r a.2 in
    let h = meaning_held line (Some here) (after here a.0) b.0 b.1 in
    subst (λ (x : Addition). held x ≤ suc (texts (elements_of line))) (some_is (with_move_first a.0 b.0) r b.2) (omega (arith, h))
meaning_held (Vary variation line) None here r e = absurd cc
meaning_held (Vary variation line) (Some p) here r e =
    let a = bound (meaning variation None p) (λ v. meaning line (Some p) here >>= λ r. Some (varied v.below v.comment r)) r e in
    let b = bound (meaning line (Some p) here) (λ r. Some (varied a.0.below a.0.comment r)) r a.2 in
    let h = meaning_held variation None p a.0 a.1 in
    let k = meaning_held line (Some p) here b.0 b.1 in
    let v = varied_held a.0.below a.0.comment b.0 in
    let t = texts_append (elements_of variation) (Close ∷ elements_of line) in
    subst (λ (x : Addition). held x ≤ texts (elements_of variation ++ Close ∷ elements_of line)) (some_is (varied a.0.below a.0.comment b.0) r b.2) (omega (arith, h, k, v, t))

pub few_moves : (input : List ℕ) (game : Game) (used : ℕ) → BeginsWithGame input game used → moves_held game.tree.below ≤ 524288
few_moves input game used x =
    let g = x.gives in
    let d = g.derives in
    let h = meaning_held d.line None game.tree.start d.part d.means in
    let t = ap moves_held d.tree in
    let s = ap texts d.spelled in
    let w = texts_words g.movetext in
    let b = both_spaced GameStart input x.items x.rest x.spelled in
    let p = ap words g.parts ∙ words_append g.head (g.movetext ++ g.ending) in
    let q = words_append g.movetext g.ending in
    omega (arith, h, t, s, w, b.0, p, q, x.counted, x.few)

-- so it fits into a tree
pub record Fits (game : Game) : Type 0 where
  pub deep : height game.tree.below ≤ 20000
  pub many : moves_held game.tree.below ≤ 1000000

pub fits : (input : List ℕ) (game : Game) (used : ℕ) → BeginsWithGame input game used → Fits game
fits input game used x = record { deep = x.within.deep; many = omega (arith, few_moves input game used x) }
