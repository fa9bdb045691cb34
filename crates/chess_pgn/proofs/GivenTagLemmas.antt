-- The tags that the text of a game gives, and what they say.
use Rattle.std.proofs.Common.{◌≡◌, ℕ, Bool, true, false, not, ◌&&◌, ◌||◌, if◌then◌else◌, List, [], ◌∷◌, ◌++◌, codes, bytes_eq, refl, sym, ap, ◌∙◌, append_assoc}
use Rattle.std.specs.Prelude.{Option, Some, None, Ok}
use Rattle.std.specs.Cmp.Lexicographic.{bytes_decides}
use Rattle.std.specs.List.{AllByRecursion, list_all}
use Rattle.std.proofs.lemmas.Bool.{false≢true}
use Rattle.chess_types.specs.board.Position.{PositionParts, start}
use Rattle.chess_items.specs.Items.{Each, is_digit, is_name_byte}
use Rattle.chess_items.specs.declared.outcome.Outcome.{Outcome}
use Rattle.chess_items.specs.declared.outcome.Outcome.TheVariants.{WhiteWins, BlackWins, Draw, Unfinished}
use Rattle.chess_fen.specs.Reading.{fen_reading}
use Rattle.chess_fen.specs.Writing.{written}
use Rattle.chess_pgn.specs.Games.{Tags, tag_in}
use Rattle.chess_pgn.specs.Laws.{HasTagTexts, IsOther, IsTagValue}
use Rattle.chess_pgn.specs.Tags.{HasTags, is_own, start_in}
use Rattle.chess_items.specs.Markers.{outcome_text}
use Rattle.chess_pgn.specs.Written.{other_tags_text, is_before, is_within, others_text, tag_text, tags_text}
use Rattle.chess_pgn.proofs.FenTextLemmas.{usual}
use Rattle.chess_pgn.proofs.SplitLemmas.{both_true}
use Rattle.chess_pgn.proofs.TagTextLemmas.{AreGood, IsGood, IsName, given_text}

abbrev pub Given : Type 0
Given = List (List ℕ × List ℕ)

-- ---- those of the others whose names are within two bounds

abbrev pub within : List ℕ → Option (List ℕ) → Given → Given
within from to [] = []
within from to (tag ∷ tags) = if is_within from to tag.0 then tag ∷ within from to tags else within from to tags

text_step : (v : Bool) (tag : List ℕ × List ℕ) (inside : Given) (text : List ℕ) → given_text inside ≡ text → given_text (if v then tag ∷ inside else inside) ≡ (if v then tag_text tag.0 tag.1 else []) ++ text
text_step true tag inside text e = ap (λ (x : List ℕ). tag_text tag.0 tag.1 ++ x) e
text_step false tag inside text e = e

within_text : (from : List ℕ) (to : Option (List ℕ)) (tags : Given) → given_text (within from to tags) ≡ others_text from to tags
within_text from to [] = refl
within_text from to (tag ∷ tags) = text_step (is_within from to tag.0) tag (within from to tags) (others_text from to tags) (within_text from to tags)

good_step : (v : Bool) (tag : List ℕ × List ℕ) (inside : Given) → IsGood tag → AreGood inside → AreGood (if v then tag ∷ inside else inside)
good_step true tag inside one all = (one, all)
good_step false tag inside one all = all

within_good : (from : List ℕ) (to : Option (List ℕ)) (tags : Given) → AllByRecursion IsOther tags → AreGood (within from to tags)
within_good from to [] are = tt
within_good from to (tag ∷ tags) are =
    good_step (is_within from to tag.0) tag (within from to tags) (record { some = are.0.0; each = are.0.1 }, are.0.3) (within_good from to tags are.1)

abbrev Value : Type 0
Value = Option (List ℕ)

abbrev none_if : Bool → Value
none_if v = if v then None else None

none_either : (v : Bool) → none_if v ≡ None
none_either true = refl
none_either false = refl

-- a name is looked up among them
within_step : (name : List ℕ) (tag : List ℕ × List ℕ) (v w e : Bool) (inside : Given) (found : Value) → bytes_eq name tag.0 ≡ e → (e ≡ true → w ≡ v) → tag_in name inside ≡ (if w then found else None)
    → tag_in name (if v then tag ∷ inside else inside) ≡ (if w then (if e then Some tag.1 else found) else None)
within_step name tag true true true inside found h k i = rw h refl
within_step name tag true false true inside found h k i = absurd (false≢true (k refl))
within_step name tag true w false inside found h k i = rw h (i ∙ by w)
  where
    by : (w : Bool) → (if w then found else None) ≡ (if w then (if false then Some tag.1 else found) else None)
    by w = refl
within_step name tag false true true inside found h k i = absurd (false≢true (sym (k refl)))
within_step name tag false false true inside found h k i = i
within_step name tag false w false inside found h k i = i

found_within : (name from : List ℕ) (to : Option (List ℕ)) (tags : Given) → tag_in name (within from to tags) ≡ (if is_within from to name then tag_in name tags else None)
found_within name from to [] = none (is_within from to name)
  where
    none : (v : Bool) → None ≡ (if v then tag_in name [] else None)
    none true = refl
    none false = refl
found_within name from to (tag ∷ tags) =
    within_step name tag (is_within from to tag.0) (is_within from to name) (bytes_eq name tag.0) (within from to tags) (tag_in name tags) refl (λ e. ap (is_within from to) ((bytes_decides name tag.0).0 e)) (found_within name from to tags)

-- the first that is found
abbrev or_else : Value → Value → Value
or_else (Some x) other = Some x
or_else None other = other

else_step : (v : Bool) (x : List ℕ) (a b c : Value) → c ≡ or_else a b → (if v then Some x else c) ≡ or_else (if v then Some x else a) b
else_step true x a b c e = refl
else_step false x a b c e = e

found_append : (name : List ℕ) (xs ys : Given) → tag_in name (xs ++ ys) ≡ or_else (tag_in name xs) (tag_in name ys)
found_append name [] ys = refl
found_append name (tag ∷ xs) ys = else_step (bytes_eq name tag.0) tag.1 (tag_in name xs) (tag_in name ys) (tag_in name (xs ++ ys)) (found_append name xs ys)

-- no other tag has a name that is the game's own
own_not_other : (name : List ℕ) (tags : Given) → is_own name ≡ true → AllByRecursion IsOther tags → tag_in name tags ≡ None
own_not_other name [] own are = refl
own_not_other name (tag ∷ tags) own are = step (bytes_eq name tag.0) refl (own_not_other name tags own are.1)
  where
    step : (v : Bool) → bytes_eq name tag.0 ≡ v → tag_in name tags ≡ None → (if v then Some tag.1 else tag_in name tags) ≡ None
    step true e n = absurd (false≢true (sym are.0.2 ∙ ap is_own (sym ((bytes_decides name tag.0).0 e)) ∙ own))
    step false e n = n

-- ---- the tags after the seven

abbrev pub behind_given : Given → List ℕ → Given
behind_given others fen =
    if bytes_eq fen (written start) then within [] None others
    else within [] (Some (codes "FEN")) others ++ ((codes "FEN", fen) ∷ (within (codes "FEN") (Some (codes "SetUp")) others ++ ((codes "SetUp", codes "1") ∷ within (codes "SetUp") None others)))

given_append : (xs ys : Given) → given_text (xs ++ ys) ≡ given_text xs ++ given_text ys
given_append [] ys = refl
given_append (tag ∷ xs) ys = ap (λ (x : List ℕ). tag_text tag.0 tag.1 ++ x) (given_append xs ys) ∙ sym (append_assoc (tag_text tag.0 tag.1) (given_text xs) (given_text ys))

behind_is : (others : Given) (fen : List ℕ) → given_text (behind_given others fen) ≡ other_tags_text others fen
behind_is others fen = step (bytes_eq fen (written start))
  where
    step : (v : Bool) → given_text (if v then within [] None others else within [] (Some (codes "FEN")) others ++ ((codes "FEN", fen) ∷ (within (codes "FEN") (Some (codes "SetUp")) others ++ ((codes "SetUp", codes "1") ∷ within (codes "SetUp") None others))))
        ≡ (if v then others_text [] None others
        else others_text [] (Some (codes "FEN")) others ++ (tag_text (codes "FEN") fen ++ (others_text (codes "FEN") (Some (codes "SetUp")) others ++ (tag_text (codes "SetUp") (codes "1") ++ others_text (codes "SetUp") None others))))
    step true = within_text [] None others
    step false =
        given_append (within [] (Some (codes "FEN")) others) _
        ∙ rw (within_text [] (Some (codes "FEN")) others, given_append (within (codes "FEN") (Some (codes "SetUp")) others) ((codes "SetUp", codes "1") ∷ within (codes "SetUp") None others), within_text (codes "FEN") (Some (codes "SetUp")) others, within_text (codes "SetUp") None others) refl

good_append : (xs ys : Given) → AreGood xs → AreGood ys → AreGood (xs ++ ys)
good_append [] ys p q = q
good_append (tag ∷ xs) ys p q = (p.0, good_append xs ys p.1 q)

each_of : (p : ℕ → Bool) (bytes : List ℕ) → list_all p bytes ≡ true → Each p bytes
each_of p [] e = tt
each_of p (b ∷ bytes) e = (let two = both_true (p b) (list_all p bytes) e in (two.0, each_of p bytes two.1))

is_name : (b : ℕ) (bytes : List ℕ) → list_all is_name_byte (b ∷ bytes) ≡ true → IsName (b ∷ bytes)
is_name b bytes e = record { some = λ h. cc; each = each_of is_name_byte (b ∷ bytes) e }

either_good : (v : Bool) (xs ys : Given) → AreGood xs → AreGood ys → AreGood (if v then xs else ys)
either_good true xs ys p q = p
either_good false xs ys p q = q

behind_good : (others : Given) (fen : List ℕ) → AllByRecursion IsOther others → IsTagValue fen → AreGood (behind_given others fen)
unfolding is_name_byte is_digit
behind_good others fen are in_it =
    either_good (bytes_eq fen (written start)) _ _ (within_good [] None others are)
    (good_append (within [] (Some (codes "FEN")) others) _ (within_good [] (Some (codes "FEN")) others are)
    ((is_name _ _ refl, in_it), good_append (within (codes "FEN") (Some (codes "SetUp")) others) _ (within_good (codes "FEN") (Some (codes "SetUp")) others are) ((is_name _ _ refl, (refl, tt)), within_good (codes "SetUp") None others are)))

-- ---- all of them

abbrev pub event_tag : Tags → List ℕ × List ℕ
event_tag tags = (codes "Event", tags.event)

abbrev pub given_of : Tags → Outcome → PositionParts → Given
given_of tags outcome p =
    (codes "Site", tags.site) ∷ (codes "Date", tags.date) ∷ (codes "Round", tags.round) ∷ (codes "White", tags.white) ∷ (codes "Black", tags.black) ∷ (codes "Result", outcome_text outcome)
    ∷ behind_given tags.others (written p)

pub given_is : (tags : Tags) (outcome : Outcome) (p : PositionParts) → given_text (event_tag tags ∷ given_of tags outcome p) ≡ tags_text tags outcome p
given_is tags outcome p =
    ap (λ (x : List ℕ).
    tag_text (codes "Event") tags.event ++ (tag_text (codes "Site") tags.site ++ (tag_text (codes "Date") tags.date ++ (tag_text (codes "Round") tags.round ++ (tag_text (codes "White") tags.white ++ (tag_text (codes "Black") tags.black ++ (tag_text (codes "Result") (outcome_text outcome) ++ x)))))))
    (behind_is tags.others (written p))

outcome_value : (outcome : Outcome) → IsTagValue (outcome_text outcome)
outcome_value WhiteWins = (refl, (refl, (refl, tt)))
outcome_value BlackWins = (refl, (refl, (refl, tt)))
outcome_value Draw = (refl, (refl, (refl, (refl, (refl, (refl, (refl, tt)))))))
outcome_value Unfinished = (refl, tt)

pub event_good : (tags : Tags) → HasTagTexts tags → IsGood (event_tag tags)
unfolding is_name_byte is_digit
event_good tags has = (is_name _ _ refl, has.event)

pub given_good : (tags : Tags) (outcome : Outcome) (p : PositionParts) → HasTagTexts tags → IsTagValue (written p) → AreGood (given_of tags outcome p)
unfolding is_name_byte is_digit
given_good tags outcome p has in_it =
    ((is_name _ _ refl, has.site), ((is_name _ _ refl, has.date), ((is_name _ _ refl, has.round), ((is_name _ _ refl, has.white), ((is_name _ _ refl, has.black), ((is_name _ _ refl, outcome_value outcome), behind_good tags.others (written p) has.others in_it))))))

-- ---- what they say

from_nothing : (name : List ℕ) → is_before name [] ≡ false
from_nothing [] = refl
from_nothing (b ∷ name) = refl

-- of three parts of the others one has the name, if any has
three : (a b : Bool) (x : Value) → or_else (if a then x else None) (or_else (if not a && b then x else None) (if not b then x else None)) ≡ x
three true true (Some x) = refl
three true false (Some x) = refl
three false true (Some x) = refl
three false false (Some x) = refl
three true true None = refl
three true false None = refl
three false true None = refl
three false false None = refl

found_other : (name : List ℕ) (others : Given) (fen : List ℕ) → bytes_eq name (codes "FEN") ≡ false → bytes_eq name (codes "SetUp") ≡ false → tag_in name (behind_given others fen) ≡ tag_in name others
found_other name others fen no_fen no_set_up = step (bytes_eq fen (written start))
  where
    step : (v : Bool) → tag_in name (if v then within [] None others else within [] (Some (codes "FEN")) others ++ ((codes "FEN", fen) ∷ (within (codes "FEN") (Some (codes "SetUp")) others ++ ((codes "SetUp", codes "1") ∷ within (codes "SetUp") None others)))) ≡ tag_in name others
    step true = found_within name [] None others ∙ rw (from_nothing name) refl
    step false =
        found_append name (within [] (Some (codes "FEN")) others) _
        ∙ rw (no_fen, found_append name (within (codes "FEN") (Some (codes "SetUp")) others) ((codes "SetUp", codes "1") ∷ within (codes "SetUp") None others), no_set_up, found_within name [] (Some (codes "FEN")) others, found_within name (codes "FEN") (Some (codes "SetUp")) others, found_within name (codes "SetUp") None others, from_nothing name)
        (three (is_before name (codes "FEN")) (is_before name (codes "SetUp")) (tag_in name others))

-- the tags of the game's own besides
found_own : (name : List ℕ) (others : Given) (fen : List ℕ) → is_own name ≡ true → AllByRecursion IsOther others → (usual : Bool) → bytes_eq fen (written start) ≡ usual
    → tag_in name (behind_given others fen) ≡ (if usual then None else (if bytes_eq name (codes "FEN") then Some fen else (if bytes_eq name (codes "SetUp") then Some (codes "1") else None)))
found_own name others fen own are true e = rw e (found_within name [] None others ∙ rw (own_not_other name others own are) (none_either (is_within [] None name)))
found_own name others fen own are false e =
    rw e (found_append name (within [] (Some (codes "FEN")) others) ((codes "FEN", fen) ∷ (within (codes "FEN") (Some (codes "SetUp")) others ++ ((codes "SetUp", codes "1") ∷ within (codes "SetUp") None others)))
    ∙ rw (
      found_append name (within (codes "FEN") (Some (codes "SetUp")) others) ((codes "SetUp", codes "1") ∷ within (codes "SetUp") None others),
      found_within name [] (Some (codes "FEN")) others,
      found_within name (codes "FEN") (Some (codes "SetUp")) others,
      found_within name (codes "SetUp") None others,
      own_not_other name others own are,
      none_either (is_within [] (Some (codes "FEN")) name),
      none_either (is_within (codes "FEN") (Some (codes "SetUp")) name),
      none_either (is_within (codes "SetUp") None name),
    ) refl)

or_parts : (a b : Bool) → (a || b) ≡ false → (a ≡ false) × (b ≡ false)
or_parts true b e = absurd (false≢true (sym e))
or_parts false b e = (refl, e)

-- a name that isn't the game's own is looked up among the others
found_given : (name : List ℕ) (tags : Tags) (outcome : Outcome) (p : PositionParts) → is_own name ≡ false → tag_in name (event_tag tags ∷ given_of tags outcome p) ≡ tag_in name tags.others
found_given name tags outcome p other =
    let a = or_parts _ (bytes_eq name (codes "Black")) other in
    let b = or_parts _ (bytes_eq name (codes "White")) a.0 in
    let c = or_parts _ (bytes_eq name (codes "Round")) b.0 in
    let d = or_parts _ (bytes_eq name (codes "Date")) c.0 in
    let e = or_parts _ (bytes_eq name (codes "Site")) d.0 in
    let f = or_parts _ (bytes_eq name (codes "Event")) e.0 in
    let g = or_parts _ (bytes_eq name (codes "SetUp")) f.0 in
    let h = or_parts (bytes_eq name (codes "Result")) (bytes_eq name (codes "FEN")) g.0 in
    rw (a.1, b.1, c.1, d.1, e.1, f.1, h.0) (found_other name tags.others (written p) h.1 g.1)

none_or : (name : List ℕ) (tags : Tags) (outcome : Outcome) (p : PositionParts) → HasTagTexts tags → (v : Bool) → is_own name ≡ v → tag_in name tags.others ≡ (if v then None else tag_in name (event_tag tags ∷ given_of tags outcome p))
none_or name tags outcome p has true e = own_not_other name tags.others e has.others
none_or name tags outcome p has false e = sym (found_given name tags outcome p e)

pub given_tags : (tags : Tags) (outcome : Outcome) (p : PositionParts) → HasTagTexts tags → HasTags (event_tag tags ∷ given_of tags outcome p) tags
given_tags tags outcome p has = record {
  event = refl;
  site = refl;
  date = refl;
  round = refl;
  white = refl;
  black = refl;
  others = λ name. none_or name tags outcome p has (is_own name) refl;
  ascend = has.ascend;
}

-- ---- the start

started : (tags : Tags) (outcome : Outcome) (p : PositionParts) (v : Bool) → HasTagTexts tags → fen_reading (written p) ≡ Ok p → bytes_eq (written p) (written start) ≡ v → start_in (event_tag tags ∷ given_of tags outcome p) ≡ Some p
started tags outcome p true has r e =
    rw (found_own (codes "SetUp") tags.others (written p) refl has.others true e, found_own (codes "FEN") tags.others (written p) refl has.others true e)
    (ap (λ (q : PositionParts). Some q) (sym (usual p r ((bytes_decides (written p) (written start)).0 e))))
started tags outcome p false has r e =
    rw (found_own (codes "SetUp") tags.others (written p) refl has.others false e, found_own (codes "FEN") tags.others (written p) refl has.others false e, r) refl

pub given_start : (tags : Tags) (outcome : Outcome) (p : PositionParts) → HasTagTexts tags → fen_reading (written p) ≡ Ok p → start_in (event_tag tags ∷ given_of tags outcome p) ≡ Some p
given_start tags outcome p has r = started tags outcome p (bytes_eq (written p) (written start)) has r refl
