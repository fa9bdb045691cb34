-- The text of a forest, as a piece of a movetext.
use Rattle.std.proofs.Common.{◌≡◌, ◌≢◌, inl, inr, ℕ, ◌<◌, ◌^◌, Bool, true, false, ◌==◌, ◌||◌, not, List, [], ◌∷◌, ◌++◌, codes, decimal, refl, sym, ap, subst, ◌∙◌, append_assoc}
use Rattle.std.specs.Prelude.{is_none}
use Rattle.std.specs.List.{AllByRecursion, join_with_byte}
use Rattle.std.proofs.lemmas.Bool.{false≢true}
use Rattle.byte_streams.specs.Words.{as_word, is_gap, words, words_from}
use Rattle.chess_types.specs.declared.board.man.Colour.{Colour}
use Rattle.chess_types.specs.declared.board.man.Colour.TheVariants.{White, Black}
use Rattle.chess_types.specs.board.MoveParts.{MoveParts}
use Rattle.chess_types.specs.board.Position.{PositionParts}
use Rattle.chess_types.specs.board.After.{after}
use Rattle.chess_items.specs.Items as items
use Rattle.chess_items.specs.Items.{Each, Item, in_braces}
use Rattle.chess_tree.specs.Comments.{IsComment, blanks, has_brace, normalised}
use Rattle.chess_tree.specs.Forest.{Forest, Bare, Node, child}
use Rattle.chess_san.specs.Writing.{san}
use Rattle.chess_pgn.specs.Grammar.{Element, Number, Annotation, Remark, Open, Close, Text}
use Rattle.chess_pgn.specs.Written.{comment_text, is_noted, moves_text, nags_text, node_text, number_text}
use Rattle.chess_pgn.proofs.NumeralLemmas.{numbered}
use Rattle.chess_pgn.proofs.PieceLemmas.{Everywhere, Goes, IsText, Piece, Words, closed, digits_words, dotted, nag_words, one, opened, piece_none, piece_on, piece_tail, single_run, spaced, text_words, words_on}
use Rattle.chess_pgn.proofs.PieceLemmas.{blank_is, fills_same, out_blank, space_breaks}
use Rattle.chess_pgn.proofs.RespaceLemmas.{Fills, NoSpace, Respaced, is_single, is_space, respaced_normalised, respaced_parts, respaced_same}

-- ---- comments

or_false : (a b : Bool) → (a || b) ≡ false → b ≡ false
or_false true b e = absurd (false≢true (sym e))
or_false false b e = e

each_braces : (c : List ℕ) → has_brace c ≡ false → Each in_braces c
each_braces [] e = tt
each_braces (b ∷ c) e = step (b == 125) refl (λ h. each_braces c h)
  where
    step : (v : Bool) → (b == 125) ≡ v → (has_brace c ≡ false → Each in_braces c) → Each in_braces (b ∷ c)
    step true h on = absurd (false≢true (sym e ∙ rw h refl))
    step false h on = (ap not h, on (or_false (b == 125) (has_brace c) e))

filled_brace : (x y : ℕ) → Fills x y → in_braces x ≡ true → in_braces y ≡ true
filled_brace x y (inl e) h = ap in_braces e ∙ h
filled_brace x y (inr e) h = ap in_braces e.1

respaced_braces : (c d : List ℕ) → Respaced c d → Each in_braces c → Each in_braces d
respaced_braces [] d p e = rw p tt
respaced_braces (x ∷ c) [] p e = absurd p
respaced_braces (x ∷ c) (y ∷ d) p e = (filled_brace x y p.0 e.0, respaced_braces c d p.1 e.1)

-- one byte or more, none of them a space
abbrev IsSolid : List ℕ → Type 0
IsSolid w = (w ≢ []) × NoSpace w

solid_word : (w : List ℕ) → NoSpace w → AllByRecursion IsSolid (as_word w)
solid_word [] n = tt
solid_word (b ∷ w) n = ((λ h. cc, n), tt)

solid_append : (a b : List (List ℕ)) → AllByRecursion IsSolid a → AllByRecursion IsSolid b → AllByRecursion IsSolid (a ++ b)
solid_append [] b p q = q
solid_append (x ∷ a) b p q = (p.0, solid_append a b p.1 q)

no_space_end : (w : List ℕ) (b : ℕ) → NoSpace w → is_space b ≡ false → NoSpace (w ++ b ∷ [])
no_space_end [] b n e = (e, tt)
no_space_end (x ∷ w) b n e = (n.0, no_space_end w b n.1 e)

space_of_blank : (b : ℕ) → is_gap blanks b ≡ false → is_space b ≡ false
space_of_blank b e = or_false (13 == b) _ (or_false (12 == b) _ (or_false (11 == b) _ (or_false (10 == b) _ (or_false (9 == b) _ e))))

solid_words : (begun text : List ℕ) → NoSpace begun → AllByRecursion IsSolid (words_from blanks begun text)
solid_words begun [] n = solid_word begun n
solid_words begun (b ∷ text) n = step (is_gap blanks b) refl (solid_words [] text tt) (λ h. solid_words (begun ++ b ∷ []) text h)
  where
    step : (v : Bool) → is_gap blanks b ≡ v → AllByRecursion IsSolid (words_from blanks [] text) → (NoSpace (begun ++ b ∷ []) → AllByRecursion IsSolid (words_from blanks (begun ++ b ∷ []) text))
        → AllByRecursion IsSolid (words_from blanks begun (b ∷ text))
    step true e here on = rw e (solid_append (as_word begun) (words_from blanks [] text) (solid_word begun n) here)
    step false e here on = rw e (on (no_space_end begun b n (space_of_blank b e)))

joined_single : (behind : Bool) (w : List ℕ) (ws : List (List ℕ)) (more : List ℕ) → IsSolid w → AllByRecursion IsSolid ws → is_single false more ≡ true → is_single behind (join_with_byte 32 (w ∷ ws) ++ more) ≡ true
joined_single behind [] ws more s all e = absurd (s.0 refl)
joined_single behind (b ∷ w) [] more s all e = rw (s.1.0) (single_run w more s.1.1 e)
joined_single behind (b ∷ w) (v ∷ ws) more s all e =
    rw (s.1.0, append_assoc w (32 ∷ join_with_byte 32 (v ∷ ws)) more) (single_run w (32 ∷ (join_with_byte 32 (v ∷ ws) ++ more)) s.1.1 (joined_single true v ws more all.0 all.1 e))

words_single : (ws : List (List ℕ)) (more : List ℕ) → AllByRecursion IsSolid ws → is_single false more ≡ true → is_single false (join_with_byte 32 ws ++ more) ≡ true
words_single [] more all e = e
words_single (w ∷ ws) more all e = joined_single false w ws more all.0 all.1 e

-- the spaces of a normalised text are single
pub normal_single : (c more : List ℕ) → normalised c ≡ c → is_single false more ≡ true → is_single false (c ++ more) ≡ true
unfolding normalised
normal_single c more n e = subst (λ (x : List ℕ). is_single false (x ++ more) ≡ true) n (words_single (words blanks c) more (solid_words [] c tt) e)

abbrev pub remark_of : List ℕ → List Element
remark_of [] = []
remark_of (b ∷ c) = Remark (b ∷ c) ∷ []

no_space_brace : NoSpace (125 ∷ [])
no_space_brace = (refl, tt)

conses : (x y : ℕ) (s t : List ℕ) → x ≡ y → s ≡ t → x ∷ s ≡ y ∷ t
conses x y s t e h = cc

-- a comment in braces
pub braced : (c : List ℕ) → IsComment c → (s : List ℕ) → Respaced (123 ∷ (c ++ 125 ∷ [])) s → (t : List ℕ) × (s ≡ 123 ∷ t ++ 125 ∷ []) × Each in_braces t × (normalised t ≡ c)
braced c is [] p = absurd p
braced c is (y ∷ u) p =
    let r = respaced_parts c (125 ∷ []) u p.1 in
    let e = respaced_same (125 ∷ []) r.1 no_space_brace r.4 in
    (r.0, conses y 123 u (r.0 ++ 125 ∷ []) (fills_same 123 y refl p.0) (r.2 ∙ ap (λ (x : List ℕ). r.0 ++ x) e), respaced_braces c r.0 r.3 (each_braces c is.no_brace), respaced_normalised c r.0 r.3 ∙ is.normal)

pub remark_says : (c t s next : List ℕ) (last : List Item) (rest : List ℕ) (us : List Element) → normalised t ≡ c → Each in_braces t → s ≡ 123 ∷ t ++ 125 ∷ [] → Goes next last rest us → Everywhere (s ++ next) last rest (Remark c ∷ us)
remark_says c t s next last rest us n each e g place out =
    rw (e, ← n) (one place (items.Comment t) (123 ∷ t ++ 125 ∷ []) next last rest us refl refl (record { stands = out; spelled = inl (refl, each) }) g.says)

pub comment_piece : (c : List ℕ) → IsComment c → Piece (comment_text c) (remark_of c)
comment_piece [] is = piece_none
comment_piece (b ∷ c) is = record {
  goes = goes;
  single = λ more e. rw (append_assoc c (125 ∷ []) more) (normal_single (b ∷ c) (125 ∷ more) is.normal e);
}
  where
    goes : (s next : List ℕ) (last : List Item) (rest : List ℕ) (us : List Element) → Respaced (comment_text (b ∷ c)) s → Goes next last rest us → Goes (s ++ next) last rest (Remark (b ∷ c) ∷ us)
    goes [] next last rest us p g = absurd p
    goes (y ∷ s) next last rest us p g = record {
      says = λ place out.
          one place (items.Blank y) (y ∷ []) (s ++ next) last rest (Remark (b ∷ c) ∷ us) refl (out_blank place y out) (blank_is place y (s ++ next) out p.0)
          (λ q o.
          let w = braced (b ∷ c) is s p.1 in
          remark_says (b ∷ c) w.0 s next last rest us w.3 w.2 w.1 g q o);
      breaks = space_breaks y (s ++ next) p.0;
    }

-- ---- annotations, numbers, nodes

abbrev pub AreSmall : List ℕ → Type 0
AreSmall = AllByRecursion (λ n. n < 256)

abbrev pub annotations_of : List ℕ → List Element
annotations_of [] = []
annotations_of (n ∷ nags) = Annotation n ∷ annotations_of nags

pub nags_piece : (nags : List ℕ) → AreSmall nags → Piece (nags_text nags) (annotations_of nags)
nags_piece [] small = piece_none
nags_piece (n ∷ nags) small = spaced (36 ∷ decimal n ++ nags_text nags) (Annotation n ∷ annotations_of nags) (words_on (36 ∷ decimal n) (nags_text nags) (Annotation n ∷ []) (annotations_of nags) (nag_words n small.0) (nags_piece nags small.1))

abbrev pub numbers_of : Bool → Colour → List Element
numbers_of due White = Number ∷ Number ∷ []
numbers_of true Black = Number ∷ Number ∷ Number ∷ Number ∷ []
numbers_of false Black = []

pub numbered_words : (due : Bool) (side : Colour) (n : ℕ) (text : List ℕ) (es : List Element) → n < 2 ^ 64 → Words text es → Words (number_text due side n ++ text) (numbers_of due side ++ es)
numbered_words due White n text es small f =
    rw (append_assoc (decimal n) (codes ". ") text) (digits_words n (decimal n) (32 ∷ text) (Number ∷ es) (numbered n small) (dotted (32 ∷ text) es (piece_tail (32 ∷ text) es (spaced text es f))))
numbered_words true Black n text es small f =
    rw (append_assoc (decimal n) (codes "... ") text)
    (digits_words n (decimal n) (46 ∷ 46 ∷ 32 ∷ text) (Number ∷ Number ∷ Number ∷ es) (numbered n small)
    (dotted (46 ∷ 46 ∷ 32 ∷ text) (Number ∷ Number ∷ es) (dotted (46 ∷ 32 ∷ text) (Number ∷ es) (dotted (32 ∷ text) es (piece_tail (32 ∷ text) es (spaced text es f))))))
numbered_words false Black n text es small f = f

abbrev pub node_elements : Bool → PositionParts → MoveParts → List ℕ → List ℕ → List Element
node_elements due p m nags comment = numbers_of due p.side ++ (Text (san p m) ∷ (annotations_of nags ++ remark_of comment))

-- what is written of a node after its space or parenthesis
pub node_words : (due : Bool) (p : PositionParts) (m : MoveParts) (nags comment : List ℕ) → p.number < 2 ^ 64 → IsText (san p m) → AreSmall nags → IsComment comment
    → Words (node_text [] due p m nags comment) (node_elements due p m nags comment)
node_words due p m nags comment small text are is =
    numbered_words due p.side p.number (san p m ++ (nags_text nags ++ comment_text comment)) (Text (san p m) ∷ (annotations_of nags ++ remark_of comment)) small
    (words_on (san p m) (nags_text nags ++ comment_text comment) (Text (san p m) ∷ []) (annotations_of nags ++ remark_of comment) (text_words (san p m) text)
    (piece_on (nags_text nags) (comment_text comment) (annotations_of nags) (remark_of comment) (nags_piece nags are) (comment_piece comment is)))

-- ---- forests

-- what each move's text and notes have to be
abbrev pub AreWritable : PositionParts → Forest → Type 0
AreWritable p Bare = Unit {0}
AreWritable p (Node m nags comment below next) = (p.number < 2 ^ 64) × IsText (san p m) × AreSmall nags × IsComment comment × AreWritable (after p m) below × AreWritable p next

abbrev pub forest_elements : Bool → Bool → PositionParts → Forest → List Element
forest_elements as_variations due p Bare = []
forest_elements false due p (Node m nags comment below next) =
    node_elements due p m nags comment
    ++ (forest_elements true true p next ++ forest_elements false (is_noted nags comment || not (is_none (child 0 next))) (after p m) below)
forest_elements true due p (Node m nags comment below next) =
    (Open ∷ node_elements true p m nags comment)
    ++ (forest_elements false (is_noted nags comment) (after p m) below ++ (Close ∷ [] ++ forest_elements true true p next))

pub forest_piece : (as_variations due : Bool) (p : PositionParts) (f : Forest) → AreWritable p f → Piece (moves_text as_variations due p f) (forest_elements as_variations due p f)
forest_piece as_variations due p Bare w = piece_none
forest_piece false due p (Node m nags comment below next) w =
    piece_on (node_text (codes " ") due p m nags comment) _ (node_elements due p m nags comment) _
    (spaced (node_text [] due p m nags comment) (node_elements due p m nags comment) (node_words due p m nags comment w.0 w.1 w.2 w.3))
    (piece_on (moves_text true true p next) _ (forest_elements true true p next) _ (forest_piece true true p next w.5)
    (forest_piece false (is_noted nags comment || not (is_none (child 0 next))) (after p m) below w.4))
forest_piece true due p (Node m nags comment below next) w =
    piece_on (node_text (codes " (") true p m nags comment) _ (Open ∷ node_elements true p m nags comment) _
    (spaced (40 ∷ node_text [] true p m nags comment) (Open ∷ node_elements true p m nags comment)
    (opened (node_text [] true p m nags comment) (node_elements true p m nags comment) (node_words true p m nags comment w.0 w.1 w.2 w.3)))
    (piece_on (moves_text false (is_noted nags comment) (after p m) below) _ (forest_elements false (is_noted nags comment) (after p m) below) _
    (forest_piece false (is_noted nags comment) (after p m) below w.4)
    (piece_on (41 ∷ []) (moves_text true true p next) (Close ∷ []) (forest_elements true true p next) closed (forest_piece true true p next w.5)))
