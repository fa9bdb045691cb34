-- The text of tags spells those tags.
use Rattle.std.proofs.Common.{◌≡◌, ◌≢◌, inl, ℕ, Bool, true, false, List, [], ◌∷◌, ◌++◌, refl, sym, ap, ◌∙◌, append_assoc, arith}
use Rattle.std.specs.List.{AllByRecursion}
use Rattle.std.proofs.lemmas.Bool.{false≢true}
use Rattle.std.proofs.lemmas.Bool.Decides.{nat_tests}
use Rattle.chess_items.specs.Items as items
use Rattle.chess_items.specs.Items.{Item, Each, Spells, EndsRun, in_line, is_digit, is_escapable, is_name_byte, is_outside, is_plain, place_after}
use Rattle.chess_items.specs.declared.place.Place.{Place}
use Rattle.chess_items.specs.declared.place.Place.TheVariants.{LineStart, InValue}
use Rattle.chess_pgn.specs.Laws.{IsTagValue}
use Rattle.chess_pgn.specs.Reading.{remarks}
use Rattle.chess_pgn.specs.Tags.{AreBetween, AreTags, AreValueParts, IsTag, value_text}
use Rattle.chess_pgn.specs.Written.{escaped, tag_text}
use Rattle.chess_pgn.proofs.PieceLemmas.{out_blank}

-- ---- values

plain_byte : (b : ℕ) → is_escapable b ≡ false → in_line b ≡ true → is_plain b ≡ true
unfolding is_plain
plain_byte b e h = grind (arith, nat_tests, e, h)

-- what spells a value, up to its quotation mark
record HasParts (value text : List ℕ) (tail : List Item) (rest : List ℕ) : Type 0 where
  parts : List Item
  are : AreValueParts parts
  is : value_text parts ≡ value
  spelled : Spells InValue text (parts ++ tail) rest

-- a run of plain bytes before
with_run : (run value text : List ℕ) (tail : List Item) (rest : List ℕ) → Each is_plain run → EndsRun is_plain text → HasParts value text tail rest → HasParts (run ++ value) (run ++ text) tail rest
with_run [] value text tail rest each stops h = h
with_run (b ∷ run) value text tail rest each stops h = record {
  parts = items.Stretch (b ∷ run) ∷ h.parts;
  are = (refl, h.are);
  is = ap (λ (x : List ℕ). (b ∷ run) ++ x) h.is;
  spelled = (b ∷ run, text, refl, record { stands = refl; spelled = (refl, inl (record { some = λ e. cc; each = each; stops = stops })) }, h.spelled);
}

each_end : (p : ℕ → Bool) (run : List ℕ) (b : ℕ) → Each p run → p b ≡ true → Each p (run ++ b ∷ [])
each_end p [] b each e = (e, tt)
each_end p (x ∷ run) b each e = (each.0, each_end p run b each.1 e)

quote_stops : (more : List ℕ) → EndsRun is_plain (34 ∷ more)
unfolding is_plain
quote_stops more = refl

slash_stops : (more : List ℕ) → EndsRun is_plain (92 ∷ more)
unfolding is_plain
slash_stops more = refl

value_spells : (run value more : List ℕ) (tail : List Item) (rest : List ℕ) → Each is_plain run → IsTagValue value → Spells InValue (34 ∷ more) tail rest → HasParts (run ++ value) (run ++ (escaped value ++ 34 ∷ more)) tail rest
value_spells run [] more tail rest each in_it s = with_run run [] (34 ∷ more) tail rest each (quote_stops more) (record { parts = []; are = tt; is = refl; spelled = s })
value_spells run (b ∷ value) more tail rest each in_it s =
    step (is_escapable b) refl (value_spells [] value more tail rest tt in_it.1 s) (λ h. value_spells (run ++ b ∷ []) value more tail rest h in_it.1 s)
  where
    step : (v : Bool) → is_escapable b ≡ v → HasParts value (escaped value ++ 34 ∷ more) tail rest
        → (Each is_plain (run ++ b ∷ []) → HasParts ((run ++ b ∷ []) ++ value) ((run ++ b ∷ []) ++ (escaped value ++ 34 ∷ more)) tail rest)
        → HasParts (run ++ b ∷ value) (run ++ (escaped (b ∷ value) ++ 34 ∷ more)) tail rest
    step true e here on =
        rw e (with_run run (b ∷ value) (92 ∷ b ∷ (escaped value ++ 34 ∷ more)) tail rest each (slash_stops (b ∷ (escaped value ++ 34 ∷ more))) (record {
          parts = items.Escaped b ∷ here.parts;
          are = (refl, here.are);
          is = ap (λ (x : List ℕ). b ∷ x) here.is;
          spelled = (92 ∷ b ∷ [], escaped value ++ 34 ∷ more, refl, record { stands = refl; spelled = (e, refl) }, here.spelled);
        }))
    step false e here on =
        rw (e, ← append_assoc run (b ∷ []) value, ← append_assoc run (b ∷ []) (escaped value ++ 34 ∷ more)) (on (each_end is_plain run b each (plain_byte b e in_it.0)))

-- ---- a tag

-- a name that a tag may have
pub record IsName (name : List ℕ) : Type 0 where
  pub some : name ≢ []
  pub each : Each is_name_byte name

record HasTag (place : Place) (name value next : List ℕ) (more : List Item) (rest : List ℕ) : Type 0 where
  own : List Item
  is_tag : IsTag own name value
  spelled : Spells place (tag_text name value ++ next) (own ++ items.Blank 10 ∷ more) rest
  silent : (lead : List ℕ) (others : List Item) → remarks lead (own ++ others) ≡ remarks lead others

parts_silent : (parts : List Item) → AreValueParts parts → (lead : List ℕ) (others : List Item) → remarks lead (parts ++ others) ≡ remarks lead others
parts_silent [] are lead others = refl
parts_silent (items.Stretch text ∷ parts) are lead others = parts_silent parts are.1 lead others
parts_silent (items.Escaped b ∷ parts) are lead others = parts_silent parts are.1 lead others
parts_silent (_ ∷ parts) are lead others = absurd (false≢true are.0)

space_blank : items.is_blank 32 ≡ true
unfolding items.is_blank
space_blank = refl

feed_blank : items.is_blank 10 ≡ true
unfolding items.is_blank
feed_blank = refl

space_no_name : (more : List ℕ) → EndsRun is_name_byte (32 ∷ more)
unfolding is_name_byte is_digit
space_no_name more = refl

tag_spells : (place : Place) (name value next : List ℕ) (more : List Item) (rest : List ℕ) → is_outside place ≡ true → IsName name → IsTagValue value → Spells LineStart next more rest → HasTag place name value next more rest
tag_spells place name value next more rest out is in_it s =
    let closing : Spells InValue (34 ∷ 93 ∷ 10 ∷ next) (items.Quote ∷ items.TagClose ∷ items.Blank 10 ∷ more) rest = (
      34 ∷ [],
      93 ∷ 10 ∷ next,
      refl,
      record { stands = refl; spelled = refl },
      (93 ∷ [], 10 ∷ next, refl, record { stands = refl; spelled = refl }, (10 ∷ [], next, refl, record { stands = refl; spelled = (feed_blank, refl) }, s)),
    ) in
    let v = value_spells [] value (93 ∷ 10 ∷ next) (items.Quote ∷ items.TagClose ∷ items.Blank 10 ∷ more) rest tt in_it closing in
    record {
      own = items.TagOpen ∷ items.Name name ∷ items.Blank 32 ∷ items.Quote ∷ (v.parts ++ items.Quote ∷ items.TagClose ∷ []);
      is_tag = record { before_name = []; behind_name = items.Blank 32 ∷ []; parts = v.parts; behind_value = []; spelled = refl; gaps = (tt, (refl, tt), tt); of_value = v.are; value_is = sym v.is };
      spelled = (
        91 ∷ [],
        name ++ (32 ∷ 34 ∷ (escaped value ++ 34 ∷ 93 ∷ 10 ∷ next)),
        ap (λ (x : List ℕ). 91 ∷ x) (append_assoc name (32 ∷ 34 ∷ (escaped value ++ 34 ∷ 93 ∷ 10 ∷ [])) next ∙ ap (λ (x : List ℕ). name ++ 32 ∷ 34 ∷ x) (append_assoc (escaped value) (34 ∷ 93 ∷ 10 ∷ []) next)),
        record { stands = out; spelled = refl },
        (
          name,
          32 ∷ 34 ∷ (escaped value ++ 34 ∷ 93 ∷ 10 ∷ next),
          refl,
          record { stands = refl; spelled = (record { some = is.some; each = is.each; stops = space_no_name (34 ∷ (escaped value ++ 34 ∷ 93 ∷ 10 ∷ next)) }, refl) },
          (
            32 ∷ [],
            34 ∷ (escaped value ++ 34 ∷ 93 ∷ 10 ∷ next),
            refl,
            record { stands = refl; spelled = (space_blank, refl) },
            (34 ∷ [], escaped value ++ 34 ∷ 93 ∷ 10 ∷ next, refl, record { stands = refl; spelled = refl }, rw (append_assoc v.parts (items.Quote ∷ items.TagClose ∷ []) (items.Blank 10 ∷ more)) (v.spelled)),
          ),
        ),
      );
      silent = λ lead others. ap (remarks lead) (append_assoc v.parts (items.Quote ∷ items.TagClose ∷ []) others) ∙ parts_silent v.parts v.are lead (items.Quote ∷ items.TagClose ∷ others);
    }

-- ---- tags, one after the other

abbrev pub given_text : List (List ℕ × List ℕ) → List ℕ
given_text [] = []
given_text (tag ∷ tags) = tag_text tag.0 tag.1 ++ given_text tags

abbrev pub IsGood : List ℕ × List ℕ → Type 0
IsGood tag = IsName tag.0 × IsTagValue tag.1

abbrev pub AreGood : List (List ℕ × List ℕ) → Type 0
AreGood = AllByRecursion IsGood

-- white space before tags
blank_front : (b : ℕ) (is : List Item) (tags : List (List ℕ × List ℕ)) → AreTags is tags → AreTags (items.Blank b ∷ is) tags
blank_front b is [] h = (refl, h)
blank_front b is (tag ∷ tags) h = (items.Blank b ∷ h.0, h.1, h.2, ap (λ (xs : List Item). items.Blank b ∷ xs) h.3, (refl, h.4), h.5, h.6)

pub record HasHead (place : Place) (given : List (List ℕ × List ℕ)) (text between : List Item) (input rest : List ℕ) : Type 0 where
  pub head : List Item
  pub are_tags : AreTags head given
  pub spelled : Spells place input (head ++ text) rest
  pub said : remarks [] head ≡ remarks [] between

one_more : (place : Place) (name value : List ℕ) (given : List (List ℕ × List ℕ)) (text between : List Item) (next rest : List ℕ) → is_outside place ≡ true → IsName name → IsTagValue value
    → HasHead LineStart given text between next rest → HasHead place ((name, value) ∷ given) text between (tag_text name value ++ next) rest
one_more place name value given text between next rest out is in_it h =
    let t = tag_spells place name value next (h.head ++ text) rest out is in_it h.spelled in
    record {
      head = t.own ++ items.Blank 10 ∷ h.head;
      are_tags = ([], t.own, items.Blank 10 ∷ h.head, refl, tt, t.is_tag, blank_front 10 h.head given h.are_tags);
      spelled = rw (append_assoc t.own (items.Blank 10 ∷ h.head) text) (t.spelled);
      said = t.silent [] (items.Blank 10 ∷ h.head) ∙ h.said;
    }

given_spells : (given : List (List ℕ × List ℕ)) (text between : List Item) (next rest : List ℕ) → AreGood given → AreBetween between → Spells LineStart next (between ++ text) rest
    → HasHead LineStart given text between (given_text given ++ next) rest
given_spells [] text between next rest good are s = record { head = between; are_tags = are; spelled = s; said = refl }
given_spells (tag ∷ given) text between next rest good are s =
    rw (append_assoc (tag_text tag.0 tag.1) (given_text given) next)
    (one_more LineStart tag.0 tag.1 given text between (given_text given ++ next) rest refl good.0.0 good.0.1 (given_spells given text between next rest good.1 are s))

-- the same at another place
pub tags_spell : (place : Place) (tag : List ℕ × List ℕ) (given : List (List ℕ × List ℕ)) (text between : List Item) (next rest : List ℕ) → is_outside place ≡ true → IsGood tag → AreGood given → AreBetween between
    → Spells LineStart next (between ++ text) rest → HasHead place (tag ∷ given) text between (given_text (tag ∷ given) ++ next) rest
tags_spell place tag given text between next rest out good all are s =
    rw (append_assoc (tag_text tag.0 tag.1) (given_text given) next)
    (one_more place tag.0 tag.1 given text between (given_text given ++ next) rest out good.0 good.1 (given_spells given text between next rest all are s))

-- and after white space
pub behind_blanks : (place : Place) (before : List ℕ) (given : List (List ℕ × List ℕ)) (text between : List Item) (input rest : List ℕ) → is_outside place ≡ true → Each items.is_blank before
    → ((q : Place) → is_outside q ≡ true → HasHead q given text between input rest) → HasHead place given text between (before ++ input) rest
behind_blanks place [] given text between input rest out white h = h place out
behind_blanks place (b ∷ before) given text between input rest out white h =
    let t = behind_blanks (place_after place (items.Blank b)) before given text between input rest (out_blank place b out) white.1 h in
    record {
      head = items.Blank b ∷ t.head;
      are_tags = blank_front b t.head given t.are_tags;
      spelled = (b ∷ [], before ++ input, refl, record { stands = rw out refl; spelled = (white.0, refl) }, t.spelled);
      said = t.said;
    }
