-- Pieces of a movetext as the items that they spell, whichever of their spaces are line feeds.
use Rattle.std.proofs.Common.{◌≡◌, ◌≢◌, inl, inr, ℕ, ◌<◌, Bool, true, false, ◌==◌, List, [], ◌∷◌, ◌++◌, decimal, refl, sym, ap, ◌∙◌, append_assoc, arith}
use Rattle.std.specs.List.{list_all}
use Rattle.std.proofs.lemmas.Bool.{false≢true}
use Rattle.std.proofs.lemmas.Bool.Decides.{nat_tests}
use Rattle.chess_items.specs.Items as items
use Rattle.chess_items.specs.Items.{Item, Each, IsItem, Spells, EndsRun, is_blank, is_digit, is_name_byte, is_outside, is_word_byte, place_after, word_item}
use Rattle.chess_items.specs.declared.place.Place.{Place}
use Rattle.chess_items.specs.declared.place.Place.TheVariants.{GameStart, LineStart, InLine, TagLineStart, InTag, InValue}
use Rattle.chess_pgn.specs.Grammar.{Element, Number, Annotation, Open, Close, Text, element, elements}
use Rattle.chess_pgn.specs.Reading.{Starts, is_heading, is_movetext}
use Rattle.chess_pgn.proofs.NumeralLemmas.{IsNumber, digits_in_word, number_skipped, numbered}
use Rattle.chess_pgn.proofs.RespaceLemmas.{Fills, NoSpace, Respaced, is_single, is_space, respaced_parts, respaced_same}

-- no word and no number goes on in what follows
pub record Breaks (next : List ℕ) : Type 0 where
  pub word : EndsRun is_word_byte next
  pub digit : EndsRun is_digit next

-- The input is items of movetext, the last items and then the rest; the first have these elements.
pub record Says (place : Place) (input : List ℕ) (last : List Item) (rest : List ℕ) (es : List Element) : Type 0 where
  pub is : List Item
  pub spelled : Spells place input (is ++ last) rest
  pub counted : elements is ≡ es
  pub moving : list_all is_movetext is ≡ true

-- the same, and what begins it begins a movetext
pub record Begins (place : Place) (input : List ℕ) (last : List Item) (rest : List ℕ) (es : List Element) : Type 0 where
  pub says : Says place input last rest es
  pub starts : Starts says.is

-- outside of tags
abbrev pub Everywhere : List ℕ → List Item → List ℕ → List Element → Type 0
Everywhere next last rest es = (place : Place) → is_outside place ≡ true → Says place next last rest es

pub record Goes (next : List ℕ) (last : List Item) (rest : List ℕ) (es : List Element) : Type 0 where
  pub says : Everywhere next last rest es
  pub breaks : Breaks next

-- What begins with a space or a parenthesis, or is nothing: before what goes on.
pub record Piece (text : List ℕ) (es : List Element) : Type 0 where
  pub goes : (s next : List ℕ) (last : List Item) (rest : List ℕ) (us : List Element) → Respaced text s → Goes next last rest us → Goes (s ++ next) last rest (es ++ us)
  pub single : (more : List ℕ) → is_single false more ≡ true → is_single false (text ++ more) ≡ true

-- What begins with a word.
pub record Words (text : List ℕ) (es : List Element) : Type 0 where
  pub begins : (s next : List ℕ) (last : List Item) (rest : List ℕ) (us : List Element) → Respaced text s → Goes next last rest us
      → (place : Place) → is_outside place ≡ true → Begins place (s ++ next) last rest (es ++ us)
  pub single : (behind : Bool) (more : List ℕ) → is_single false more ≡ true → is_single behind (text ++ more) ≡ true

-- ---- one item

pub one : (place : Place) (item : Item) (text next : List ℕ) (last : List Item) (rest : List ℕ) (es : List Element) → is_movetext item ≡ true → is_outside (place_after place item) ≡ true
    → IsItem place item text next → Everywhere next last rest es → Says place (text ++ next) last rest (element item ++ es)
one place item text next last rest es m out is all =
    let s = all (place_after place item) out in
    record {
      is = item ∷ s.is;
      spelled = (text, next, refl, is, s.spelled);
      counted = ap (λ (x : List Element). element item ++ x) s.counted;
      moving = rw m (s.moving);
    }

-- an item with which a movetext begins
pub first : (place : Place) (item : Item) (text next : List ℕ) (last : List Item) (rest : List ℕ) (es : List Element) → is_movetext item ≡ true → is_heading item ≡ false → is_outside (place_after place item) ≡ true
    → IsItem place item text next → Everywhere next last rest es → Begins place (text ++ next) last rest (element item ++ es)
first place item text next last rest es m h out is all =
    let s = all (place_after place item) out in
    record {
      says = record {
        is = item ∷ s.is;
        spelled = (text, next, refl, is, s.spelled);
        counted = ap (λ (x : List Element). element item ++ x) s.counted;
        moving = rw m (s.moving);
      };
      starts = h;
    }

behind_outside : (v : Bool) → is_outside (items.place_after_blank false v) ≡ true
behind_outside true = refl
behind_outside false = refl

pub out_blank : (place : Place) (b : ℕ) → is_outside place ≡ true → is_outside (place_after place (items.Blank b)) ≡ true
out_blank GameStart b e = behind_outside (b == 10)
out_blank LineStart b e = behind_outside (b == 10)
out_blank InLine b e = behind_outside (b == 10)
out_blank TagLineStart b e = absurd cc
out_blank InTag b e = absurd cc
out_blank InValue b e = absurd cc

-- ---- pieces after one another

pub piece_none : Piece [] []
piece_none = record { goes = λ s next last rest us p g. rw p g; single = λ more e. e }

pub piece_on : (a b : List ℕ) (es us : List Element) → Piece a es → Piece b us → Piece (a ++ b) (es ++ us)
piece_on a b es us f g = record {
  goes = λ s next last rest ws p all.
      let r = respaced_parts a b s p in
      rw (r.2, append_assoc r.0 r.1 next, append_assoc es us ws) (f.goes r.0 (r.1 ++ next) last rest (us ++ ws) r.3 (g.goes r.1 next last rest ws r.4 all));
  single = λ more e. rw (append_assoc a b more) (f.single (b ++ more) (g.single more e));
}

pub words_on : (a b : List ℕ) (es us : List Element) → Words a es → Piece b us → Words (a ++ b) (es ++ us)
words_on a b es us f g = record {
  begins = λ s next last rest ws p all place out.
      let r = respaced_parts a b s p in
      rw (r.2, append_assoc r.0 r.1 next, append_assoc es us ws) (f.begins r.0 (r.1 ++ next) last rest (us ++ ws) r.3 (g.goes r.1 next last rest ws r.4 all) place out);
  single = λ behind more e. rw (append_assoc a b more) (f.single behind (b ++ more) (g.single more e));
}

pub space_breaks : (y : ℕ) (text : List ℕ) → Fills 32 y → Breaks (y ∷ text)
unfolding is_word_byte is_name_byte is_digit
space_breaks y text (inl e) = record { word = rw e refl; digit = rw e refl }
space_breaks y text (inr e) = record { word = rw e.1 refl; digit = rw e.1 refl }

space_blank : (y : ℕ) → Fills 32 y → is_blank y ≡ true
unfolding is_blank
space_blank y (inl e) = rw e refl
space_blank y (inr e) = rw e.1 refl

pub blank_is : (place : Place) (y : ℕ) (next : List ℕ) → is_outside place ≡ true → Fills 32 y → IsItem place (items.Blank y) (y ∷ []) next
blank_is place y next out f = record { stands = rw out refl; spelled = (space_blank y f, refl) }

-- a byte that is no space stays
pub fills_same : (x y : ℕ) → is_space x ≡ false → Fills x y → y ≡ x
fills_same x y none (inl e) = e
fills_same x y none (inr e) = absurd (false≢true (sym none ∙ space x e.0))
  where
    space : (x : ℕ) → x ≡ 32 → is_space x ≡ true
    space x e = rw e refl

-- after a space
pub spaced : (a : List ℕ) (es : List Element) → Words a es → Piece (32 ∷ a) es
spaced a es f = record { goes = goes; single = λ more e. f.single true more e }
  where
    goes : (s next : List ℕ) (last : List Item) (rest : List ℕ) (us : List Element) → Respaced (32 ∷ a) s → Goes next last rest us → Goes (s ++ next) last rest (es ++ us)
    goes [] next last rest us p g = absurd p
    goes (y ∷ t) next last rest us p g = record {
      says = λ place out. one place (items.Blank y) (y ∷ []) (t ++ next) last rest (es ++ us) refl (out_blank place y out) (blank_is place y (t ++ next) out p.0) (λ q o. (f.begins t next last rest us p.1 g q o).says);
      breaks = space_breaks y (t ++ next) p.0;
    }

-- after a parenthesis
pub opened : (a : List ℕ) (es : List Element) → Words a es → Words (40 ∷ a) (Open ∷ es)
opened a es f = record { begins = begins; single = λ behind more e. f.single false more e }
  where
    begins : (s next : List ℕ) (last : List Item) (rest : List ℕ) (us : List Element) → Respaced (40 ∷ a) s → Goes next last rest us
        → (place : Place) → is_outside place ≡ true → Begins place (s ++ next) last rest (Open ∷ (es ++ us))
    begins [] next last rest us p g place out = absurd p
    begins (y ∷ t) next last rest us p g place out =
        rw (fills_same 40 y refl p.0)
        (first place items.Open (40 ∷ []) (t ++ next) last rest (es ++ us) refl refl refl (record { stands = out; spelled = refl }) (λ q o. (f.begins t next last rest us p.1 g q o).says))

pub closed : Piece (41 ∷ []) (Close ∷ [])
unfolding is_word_byte is_name_byte is_digit
closed = record { goes = goes; single = λ more e. e }
  where
    goes : (s next : List ℕ) (last : List Item) (rest : List ℕ) (us : List Element) → Respaced (41 ∷ []) s → Goes next last rest us → Goes (s ++ next) last rest (Close ∷ us)
    goes [] next last rest us p g = absurd p
    goes (y ∷ t) next last rest us p g = rw (fills_same 41 y refl p.0, p.1) (record {
      says = λ place out. one place items.Close (41 ∷ []) next last rest us refl refl (record { stands = out; spelled = refl }) g.says;
      breaks = record { word = refl; digit = refl };
    })

-- ---- runs without a space

pub single_run : (w more : List ℕ) → NoSpace w → is_single false more ≡ true → is_single false (w ++ more) ≡ true
single_run [] more none e = e
single_run (b ∷ w) more none e = rw (none.0) (single_run w more none.1 e)

pub single_word : (behind : Bool) (w more : List ℕ) → w ≢ [] → NoSpace w → is_single false more ≡ true → is_single behind (w ++ more) ≡ true
single_word behind [] more some none e = absurd (some refl)
single_word behind (b ∷ w) more some none e = rw (none.0) (single_run w more none.1 e)

word_byte_space : (b : ℕ) → is_word_byte b ≡ true → is_space b ≡ false
unfolding is_word_byte is_name_byte is_digit
word_byte_space b e = grind (arith, nat_tests, e)

pub words_no_space : (w : List ℕ) → Each is_word_byte w → NoSpace w
words_no_space [] e = tt
words_no_space (b ∷ w) e = (word_byte_space b e.0, words_no_space w e.1)

-- what may be a move's text
pub record IsText (w : List ℕ) : Type 0 where
  pub some : w ≢ []
  pub each : Each is_word_byte w
  pub item : word_item w ≡ items.Word w

pub text_words : (w : List ℕ) → IsText w → Words w (Text w ∷ [])
text_words w is = record {
  begins = λ s next last rest us p g place out.
      rw (respaced_same w s (words_no_space w is.each) p)
      (first place (items.Word w) w next last rest us refl refl refl (record { stands = out; spelled = (record { some = is.some; each = is.each; stops = g.breaks.word }, is.item) }) g.says);
  single = λ behind more e. single_word behind w more is.some (words_no_space w is.each) e;
}

-- an annotation number
pub nag_words : (n : ℕ) → n < 256 → Words (36 ∷ decimal n) (Annotation n ∷ [])
nag_words n small =
    let is = numbered n (omega arith) in
    let none : NoSpace (36 ∷ decimal n) = (refl, words_no_space (decimal n) (digits_in_word (decimal n) is.each)) in
    record {
      begins = λ s next last rest us p g place out.
          rw (respaced_same (36 ∷ decimal n) s none p)
          (first place (items.Nag n) (36 ∷ decimal n) next last rest us refl refl refl
          (record { stands = out; spelled = inl (decimal n, refl, record { some = is.some; each = is.each; stops = g.breaks.digit }, is.value, small) }) g.says);
      single = λ behind more e. single_word behind (36 ∷ decimal n) more (λ h. cc) none e;
    }

-- ---- move numbers

-- what may follow a number's digits
pub record Tail (text : List ℕ) (es : List Element) : Type 0 where
  pub says : (s next : List ℕ) (last : List Item) (rest : List ℕ) (us : List Element) → Respaced text s → Goes next last rest us → Everywhere (s ++ next) last rest (es ++ us)
  pub single : (more : List ℕ) → is_single false more ≡ true → is_single false (text ++ more) ≡ true

pub piece_tail : (text : List ℕ) (es : List Element) → Piece text es → Tail text es
piece_tail text es f = record { says = λ s next last rest us p g. (f.goes s next last rest us p g).says; single = f.single }

pub dotted : (text : List ℕ) (es : List Element) → Tail text es → Tail (46 ∷ text) (Number ∷ es)
dotted text es f = record { says = says; single = λ more e. f.single more e }
  where
    says : (s next : List ℕ) (last : List Item) (rest : List ℕ) (us : List Element) → Respaced (46 ∷ text) s → Goes next last rest us → Everywhere (s ++ next) last rest (Number ∷ (es ++ us))
    says [] next last rest us p g = absurd p
    says (y ∷ t) next last rest us p g = λ place out.
        rw (fills_same 46 y refl p.0)
        (one place items.Skipped (46 ∷ []) (t ++ next) last rest (es ++ us) refl refl (record { stands = out; spelled = inl refl }) (f.says t next last rest us p.1 g))

pub digits_words : (n : ℕ) (ds text : List ℕ) (es : List Element) → IsNumber n ds → Tail (46 ∷ text) es → Words (ds ++ 46 ∷ text) (Number ∷ es)
unfolding is_word_byte is_name_byte is_digit
digits_words n ds text es is f =
    let none = words_no_space ds (digits_in_word ds is.each) in
    record {
      begins = λ s next last rest us p g place out.
          let r = respaced_parts ds (46 ∷ text) s p in
          rw (r.2, respaced_same ds r.0 none r.3, append_assoc ds r.1 next) (go r.1 next last rest us r.4 g place out);
      single = λ behind more e. rw (append_assoc ds (46 ∷ text) more) (single_word behind ds (46 ∷ (text ++ more)) is.some none (f.single more e));
    }
  where
    go : (u next : List ℕ) (last : List Item) (rest : List ℕ) (us : List Element) → Respaced (46 ∷ text) u → Goes next last rest us
        → (place : Place) → is_outside place ≡ true → Begins place (ds ++ (u ++ next)) last rest (Number ∷ (es ++ us))
    go [] next last rest us p g place out = absurd p
    go (y ∷ t) next last rest us p g place out =
        first place items.Skipped ds ((y ∷ t) ++ next) last rest (es ++ us) refl refl refl
        (record { stands = out; spelled = inr (record { some = is.some; each = digits_in_word ds is.each; stops = rw (fills_same 46 y refl p.0) refl }, number_skipped ds is.each) })
        (f.says (y ∷ t) next last rest us p g)
