-- The tags that items give, item by item.
use Rattle.std.proofs.Common.{◌≡◌, ℕ, Bool, true, false, List, [], ◌∷◌, ◌++◌, refl, sym, ap, subst, ◌∙◌, append_assoc, append-nil}
use Rattle.std.specs.Prelude.{Option, Some, None, unwrap_or, if◌then◌else◌}
use mathlib.Core.Bool.{false≢true}
use Rattle.chess_items.specs.Items as items
use Rattle.chess_items.specs.Items.{Item}
use Rattle.chess_items.specs.declared.fault.PgnFault.{PgnFault}
use Rattle.chess_pgn.specs.Grammar.{◌>>=◌}
use Rattle.chess_pgn.specs.Tags.{AreBetween, AreGaps, AreTags, AreValueParts, IsTag, may_part_tags, is_tag_gap, is_value_part, part_text, value_text}
use Rattle.chess_pgn.specs.steps.HeaderCode.{HasTaken, Heading, Heads, RefusesTag, fresh, heading, heads_on, is_begun, is_spaced, opened, step, step_in}
use Rattle.chess_pgn.specs.steps.OtherCode.{Finds}
use Rattle.chess_pgn.specs.declared.reader.header.Header.{Header}
use Rattle.chess_pgn.specs.declared.reader.header.Part.{Part}
use Rattle.chess_pgn.specs.declared.reader.header.Part.TheVariants.{Closing, Name, Nothing, Opening, Value}
use Rattle.chess_pgn.proofs.HeaderLemmas.{passed, standing}

-- ---- tags are read

on_by : (h : Heading) (next : Option Heading) (is : List Item) (item : Item) → step h item ≡ next → heads_on h (item ∷ is) ≡ next >>= (λ (n : Heading). heads_on n is)
on_by h next is item e = ap (λ (o : Option Heading). o >>= (λ (n : Heading). heads_on n is)) e

gaps_pass : (h : Heading) → is_spaced h.part ≡ true → (gaps : List Item) → AreGaps gaps → (rest : List Item) → heads_on h (gaps ++ rest) ≡ heads_on h rest
gaps_pass h e [] g rest = refl
gaps_pass h e (i ∷ is) g rest = on_by h _ (is ++ rest) i (passed h i (rw (e, g.0) refl)) ∙ gaps_pass h e is g.1 rest

pub between_pass : (read : List (List ℕ × List ℕ)) (prefix : List Item) → AreBetween prefix → (rest : List Item) → heads_on (fresh read) (prefix ++ rest) ≡ heads_on (fresh read) rest
between_pass read [] g rest = refl
between_pass read (i ∷ is) g rest = on_by (fresh read) (Some (fresh read)) (is ++ rest) i (rw g.0 refl) ∙ between_pass read is g.1 rest

module _ (read : List (List ℕ × List ℕ)) (name : List ℕ) where
  part_step : (value : List ℕ) (item : Item) → is_value_part item ≡ true → step (standing Value read name value) item ≡ Some (standing Value read name (value ++ part_text item))
  part_step value (items.Stretch text) e = refl
  part_step value (items.Escaped b) e = refl
  part_step value _ e = absurd (false≢true e)

  parts_pass : (value : List ℕ) (parts : List Item) → AreValueParts parts → (rest : List Item)
      → heads_on (standing Value read name value) (parts ++ rest) ≡ heads_on (standing Value read name (value ++ value_text parts)) rest
  parts_pass value [] g rest = ap (λ (v : List ℕ). heads_on (standing Value read name v) rest) (sym (append-nil value))
  parts_pass value (i ∷ is) g rest =
      on_by (standing Value read name value) _ (is ++ rest) i (part_step value i g.0) ∙ parts_pass (value ++ part_text i) is g.1 rest
      ∙ ap (λ (v : List ℕ). heads_on (standing Value read name v) rest) (append_assoc value (part_text i) (value_text is))

  tag_pass : (own : List Item) (value : List ℕ) → IsTag own name value → (rest : List Item) → heads_on (fresh read) (own ++ rest) ≡ heads_on (fresh (read ++ (name, value) ∷ [])) rest
  tag_pass own value t rest =
      ap (λ (is : List Item). heads_on (fresh read) (is ++ rest)) t.spelled
      ∙ ap (heads_on (standing Name read [] [])) (append_assoc t.before_name _ rest)
      ∙ gaps_pass (standing Name read [] []) refl t.before_name t.gaps.0 _
      ∙ ap (heads_on (standing Opening read name [])) (append_assoc t.behind_name _ rest)
      ∙ gaps_pass (standing Opening read name []) refl t.behind_name t.gaps.1 _
      ∙ ap (heads_on (standing Value read name [])) (append_assoc t.parts _ rest)
      ∙ parts_pass [] t.parts t.of_value _
      ∙ ap (heads_on (standing Closing read name (value_text t.parts))) (append_assoc t.behind_value _ rest)
      ∙ gaps_pass (standing Closing read name (value_text t.parts)) refl t.behind_value t.gaps.2 _
      ∙ ap (λ (v : List ℕ). heads_on (fresh (read ++ (name, v) ∷ [])) rest) (sym t.value_is)

-- the tags that some items spell are those that are read
pub tags_read : (read tags : List (List ℕ × List ℕ)) (is : List Item) → AreTags is tags → heads_on (fresh read) is ≡ Some (read ++ tags)
tags_read read [] is h =
    ap (heads_on (fresh read)) (sym (append-nil is)) ∙ between_pass read is h [] ∙ ap (λ (all : List (List ℕ × List ℕ)). Some all) (sym (append-nil read))
tags_read read (tag ∷ tags) is h =
    let own = h.1 in
    let rest = h.2 in
    ap (heads_on (fresh read)) h.3 ∙ between_pass read h.0 h.4 (own ++ rest) ∙ tag_pass read tag.0 own tag.1 h.5 rest
    ∙ tags_read (read ++ tag ∷ []) tags rest h.6 ∙ ap (λ (all : List (List ℕ × List ℕ)). Some all) (append_assoc read (tag ∷ []) tags)

-- ---- what is read is spelled

-- what follows outside of tags, and in a tag of which so much was read
record Follow (read : List (List ℕ × List ℕ)) (is : List Item) (all : List (List ℕ × List ℕ)) : Type 0 where
  tags : List (List ℕ × List ℕ)
  given : AreTags is tags
  in_all : all ≡ read ++ tags

record Closes (read : List (List ℕ × List ℕ)) (name value : List ℕ) (is : List Item) (all : List (List ℕ × List ℕ)) : Type 0 where
  gaps : List Item
  rest : List Item
  spelled : is ≡ gaps ++ items.TagClose ∷ rest
  are_gaps : AreGaps gaps
  follow : Follow (read ++ (name, value) ∷ []) rest all

record Goes (read : List (List ℕ × List ℕ)) (name value : List ℕ) (is : List Item) (all : List (List ℕ × List ℕ)) : Type 0 where
  parts : List Item
  rest : List Item
  spelled : is ≡ parts ++ items.Quote ∷ rest
  of_value : AreValueParts parts
  closes : Closes read name (value ++ value_text parts) rest all

record Opens (read : List (List ℕ × List ℕ)) (name value : List ℕ) (is : List Item) (all : List (List ℕ × List ℕ)) : Type 0 where
  gaps : List Item
  rest : List Item
  spelled : is ≡ gaps ++ items.Quote ∷ rest
  are_gaps : AreGaps gaps
  goes : Goes read name value rest all

record Begins (read : List (List ℕ × List ℕ)) (name value : List ℕ) (is : List Item) (all : List (List ℕ × List ℕ)) : Type 0 where
  gaps : List Item
  text : List ℕ
  rest : List Item
  spelled : is ≡ gaps ++ items.Name text ∷ rest
  are_gaps : AreGaps gaps
  opens : Opens read (name ++ text) value rest all

abbrev Rest : Part → List (List ℕ × List ℕ) → List ℕ → List ℕ → List Item → List (List ℕ × List ℕ) → Type 0
Rest Nothing read name value is all = name ≡ [] → value ≡ [] → Follow read is all
Rest Name read name value is all = Begins read name value is all
Rest Opening read name value is all = Opens read name value is all
Rest Value read name value is all = Goes read name value is all
Rest Closing read name value is all = Closes read name value is all

between_more : (i : Item) (is : List Item) (tags : List (List ℕ × List ℕ)) → may_part_tags i ≡ true → AreTags is tags → AreTags (i ∷ is) tags
between_more i is [] g h = (g, h)
between_more i is (tag ∷ tags) g h = (i ∷ h.0, h.1, h.2, ap (λ (xs : List Item). i ∷ xs) h.3, (g, h.4), h.5, h.6)

own_is : (g1 : List Item) (n : List ℕ) (g2 parts g3 rest : List Item)
    → g1 ++ items.Name n ∷ (g2 ++ items.Quote ∷ (parts ++ items.Quote ∷ (g3 ++ items.TagClose ∷ rest)))
    ≡ (g1 ++ items.Name n ∷ (g2 ++ items.Quote ∷ (parts ++ items.Quote ∷ (g3 ++ items.TagClose ∷ [])))) ++ rest
own_is g1 n g2 parts g3 rest =
    sym (append_assoc g1 _ rest
    ∙ ap (λ (xs : List Item). g1 ++ items.Name n ∷ xs) (append_assoc g2 _ rest ∙ ap (λ (xs : List Item). g2 ++ items.Quote ∷ xs) (append_assoc parts _ rest ∙ ap (λ (xs : List Item). parts ++ items.Quote ∷ xs) (append_assoc g3 _ rest))))

tag_made : (read : List (List ℕ × List ℕ)) (is : List Item) (all : List (List ℕ × List ℕ)) → Begins read [] [] is all → Follow read (items.TagOpen ∷ is) all
tag_made read is all b =
    let o = b.opens in
    let v = o.goes in
    let c = v.closes in
    let f = c.follow in
    record {
      tags = (b.text, value_text v.parts) ∷ f.tags;
      given = (
        [],
        items.TagOpen ∷ (b.gaps ++ items.Name b.text ∷ (o.gaps ++ items.Quote ∷ (v.parts ++ items.Quote ∷ (c.gaps ++ items.TagClose ∷ [])))),
        c.rest,
        ap (λ (xs : List Item). items.TagOpen ∷ xs) (b.spelled
            ∙ ap (λ (xs : List Item). b.gaps ++ items.Name b.text ∷ xs) (o.spelled ∙ ap (λ (xs : List Item). o.gaps ++ items.Quote ∷ xs) (v.spelled ∙ ap (λ (xs : List Item). v.parts ++ items.Quote ∷ xs) c.spelled))
            ∙ own_is b.gaps b.text o.gaps v.parts c.gaps c.rest),
        tt,
        record { before_name = b.gaps; behind_name = o.gaps; parts = v.parts; behind_value = c.gaps; spelled = refl; gaps = (b.are_gaps, o.are_gaps, c.are_gaps); of_value = v.of_value; value_is = refl },
        f.given,
      );
      in_all = f.in_all ∙ append_assoc read ((b.text, value_text v.parts) ∷ []) f.tags;
    }

some_is : (x y : List (List ℕ × List ℕ)) → Some x ≡ Some y → x ≡ y
some_is x y e = ap (λ (o : Option (List (List ℕ × List ℕ))). unwrap_or o x) e

-- what follows the next item
module _ (is : List Item) (all : List (List ℕ × List ℕ))
    (next : (part : Part) (read : List (List ℕ × List ℕ)) (name value : List ℕ) → heads_on (standing part read name value) is ≡ Some all → Rest part read name value is all) where
  module _ (read : List (List ℕ × List ℕ)) (name value : List ℕ) where
    abbrev so : Option Heading → Type 0
    so o = o >>= (λ (n : Heading). heads_on n is) ≡ Some all

    name_case : (i : Item) (b : Bool) → is_tag_gap i ≡ b → so (if b then Some (standing Name read name value) else step_in Name (standing Name read name value) i) → Begins read name value (i ∷ is) all
    name_case i true g e =
        let r = next Name read name value e in
        record { gaps = i ∷ r.gaps; text = r.text; rest = r.rest; spelled = ap (λ (xs : List Item). i ∷ xs) r.spelled; are_gaps = (g, r.are_gaps); opens = r.opens }
    name_case (items.Name text) false g e = record { gaps = []; text = text; rest = is; spelled = refl; are_gaps = tt; opens = next Opening read (name ++ text) value e }
    name_case _ false g e = absurd cc

    opening_case : (i : Item) (b : Bool) → is_tag_gap i ≡ b → so (if b then Some (standing Opening read name value) else step_in Opening (standing Opening read name value) i) → Opens read name value (i ∷ is) all
    opening_case i true g e =
        let r = next Opening read name value e in
        record { gaps = i ∷ r.gaps; rest = r.rest; spelled = ap (λ (xs : List Item). i ∷ xs) r.spelled; are_gaps = (g, r.are_gaps); goes = r.goes }
    opening_case items.Quote false g e = record { gaps = []; rest = is; spelled = refl; are_gaps = tt; goes = next Value read name value e }
    opening_case _ false g e = absurd cc

    more_value : (i : Item) → is_value_part i ≡ true → Goes read name (value ++ part_text i) is all → Goes read name value (i ∷ is) all
    more_value i g r =
        record {
          parts = i ∷ r.parts;
          rest = r.rest;
          spelled = ap (λ (xs : List Item). i ∷ xs) r.spelled;
          of_value = (g, r.of_value);
          closes = subst (λ (v : List ℕ). Closes read name v r.rest all) (append_assoc value (part_text i) (value_text r.parts)) r.closes;
        }

    value_case : (i : Item) → so (step_in Value (standing Value read name value) i) → Goes read name value (i ∷ is) all
    value_case (items.Stretch text) e = more_value (items.Stretch text) refl (next Value read name (value ++ text) e)
    value_case (items.Escaped b) e = more_value (items.Escaped b) refl (next Value read name (value ++ b ∷ []) e)
    value_case items.Quote e =
        record { parts = []; rest = is; spelled = refl; of_value = tt; closes = subst (λ (v : List ℕ). Closes read name v is all) (sym (append-nil value)) (next Closing read name value e) }
    value_case _ e = absurd cc

    closing_case : (i : Item) (b : Bool) → is_tag_gap i ≡ b → so (if b then Some (standing Closing read name value) else step_in Closing (standing Closing read name value) i) → Closes read name value (i ∷ is) all
    closing_case i true g e =
        let r = next Closing read name value e in
        record { gaps = i ∷ r.gaps; rest = r.rest; spelled = ap (λ (xs : List Item). i ∷ xs) r.spelled; are_gaps = (g, r.are_gaps); follow = r.follow }
    closing_case items.TagClose false g e = record { gaps = []; rest = is; spelled = refl; are_gaps = tt; follow = next Nothing (read ++ (name, value) ∷ []) [] [] e refl refl }
    closing_case _ false g e = absurd cc

  outside_case : (read : List (List ℕ × List ℕ)) (i : Item) (b : Bool) → may_part_tags i ≡ b → so read [] [] (if b then Some (fresh read) else opened (fresh read) i) → Follow read (i ∷ is) all
  outside_case read i true g e =
      let r = next Nothing read [] [] e refl refl in
      record { tags = r.tags; given = between_more i is r.tags g r.given; in_all = r.in_all }
  outside_case read items.TagOpen false g e = tag_made read is all (next Name read [] [] e)
  outside_case read _ false g e = absurd cc

follows : (is : List Item) (all : List (List ℕ × List ℕ)) (part : Part) (read : List (List ℕ × List ℕ)) (name value : List ℕ) → heads_on (standing part read name value) is ≡ Some all → Rest part read name value is all
follows [] all Nothing read name value e = λ n v. record { tags = []; given = tt; in_all = sym (some_is read all e) ∙ sym (append-nil read) }
follows [] all Name read name value e = absurd cc
follows [] all Opening read name value e = absurd cc
follows [] all Value read name value e = absurd cc
follows [] all Closing read name value e = absurd cc
follows (i ∷ is) all Nothing read name value e = λ n v.
    outside_case is all (follows is all) read i (may_part_tags i) refl
    (subst (λ (x : List ℕ). heads_on (standing Nothing read x []) (i ∷ is) ≡ Some all) n (subst (λ (y : List ℕ). heads_on (standing Nothing read name y) (i ∷ is) ≡ Some all) v e))
follows (i ∷ is) all Name read name value e = name_case is all (follows is all) read name value i (is_tag_gap i) refl e
follows (i ∷ is) all Opening read name value e = opening_case is all (follows is all) read name value i (is_tag_gap i) refl e
follows (i ∷ is) all Value read name value e = value_case is all (follows is all) read name value i e
follows (i ∷ is) all Closing read name value e = closing_case is all (follows is all) read name value i (is_tag_gap i) refl e

-- what is read without a refusal are the tags that the items spell
pub tags_given : (is : List Item) (all : List (List ℕ × List ℕ)) → heads_on (fresh []) is ≡ Some all → AreTags is all
tags_given is all e =
    let f = follows is all Nothing [] [] [] e refl refl in
    subst (AreTags is) (sym f.in_all) f.given

-- ---- what the code's reader of tags has taken

pub took_none : {A : Type 0} (header : Header A) → heading [] header ≡ fresh [] → Finds [] header.found.tags → HasTaken [] header
took_none header e f = ([], f, λ is. ap (λ (h : Heading). heads_on h is) (sym e))

took : {A : Type 0} (taken : List Item) (item : Item) (old new : Header A) (read all : List (List ℕ × List ℕ)) → step (heading read old) item ≡ Some (heading all new)
    → ((is : List Item) → heads_on (fresh []) (taken ++ is) ≡ heads_on (heading read old) is) → (is : List Item) → heads_on (fresh []) ((taken ++ item ∷ []) ++ is) ≡ heads_on (heading all new) is
took taken item old new read all e h is =
    ap (heads_on (fresh [])) (append_assoc taken (item ∷ []) is) ∙ h (item ∷ is) ∙ on_by (heading read old) (Some (heading all new)) is item e

pub took_more : {A : Type 0} (taken : List Item) (item : Item) (old new : Header A) → HasTaken taken old → Heads item old new → HasTaken (taken ++ item ∷ []) new
took_more taken item old new h goes = let more = goes h.0 h.1 in (more.0, more.2, took taken item old new h.0 more.0 more.1 h.2)

-- white space or a comment between tags
passed_over : (part : Part) (read : List (List ℕ × List ℕ)) (name value : List ℕ) (item : Item) → is_begun part ≡ false → may_part_tags item ≡ true
    → step (standing part read name value) item ≡ Some (standing part read name value)
passed_over Nothing read name value item e g = rw g refl
passed_over _ read name value item e g = absurd cc

pub took_between : {A : Type 0} (taken : List Item) (item : Item) (header : Header A) → HasTaken taken header → is_begun header.part ≡ false → may_part_tags item ≡ true → HasTaken (taken ++ item ∷ []) header
took_between taken item header h e g =
    (h.0, h.1, took taken item header header h.0 h.0 (passed_over header.part h.0 header.name.items header.value.items item e g) h.2)

at_end : (h : Heading) → is_begun h.part ≡ false → heads_on h [] ≡ Some h.read
at_end h e = rw e refl

-- outside of tags: the tags that the items spell are those that are kept
pub took_tags : {A : Type 0} (taken : List Item) (header : Header A) → HasTaken taken header → is_begun header.part ≡ false
    → (read : List (List ℕ × List ℕ)) × AreTags taken read × Finds read header.found.tags
took_tags taken header h e =
    (h.0, tags_given taken h.0 (ap (heads_on (fresh [])) (sym (append-nil taken)) ∙ h.2 [] ∙ at_end (heading h.0 header) e), h.1)

-- and they spell no others
pub tags_once : (is : List Item) (tags more : List (List ℕ × List ℕ)) → AreTags is tags → AreTags is more → tags ≡ more
tags_once is tags more h k = some_is tags more (sym (tags_read [] tags is h) ∙ tags_read [] more is k)

-- an item with which no tag goes on stands among no tags
pub none_on : {A : Type 0} (taken : List Item) (item : Item) (old : Header A) → HasTaken taken old → ((read : List (List ℕ × List ℕ)) → step (heading read old) item ≡ None)
    → (more : List Item) (tags : List (List ℕ × List ℕ)) → AreTags (taken ++ item ∷ more) tags → ⊥
none_on taken item old h none more tags given =
    some_none tags (sym (tags_read [] tags (taken ++ item ∷ more) given) ∙ h.2 (item ∷ more) ∙ on_by (heading h.0 old) None more item (none h.0))
  where
    some_none : (all : List (List ℕ × List ℕ)) → Some all ≡ None → ⊥
    some_none all e = cc

-- a malformed tag is a prefix of no tags
pub none_go_on : {A : Type 0} (taken : List Item) (item : Item) (old : Header A) (fault : PgnFault) → HasTaken taken old → is_begun old.part ≡ true → RefusesTag item old fault
    → (more : List Item) (tags : List (List ℕ × List ℕ)) → AreTags (taken ++ item ∷ more) tags → ⊥
none_go_on taken item old fault h begun refuses more tags given = none_on taken item old h (refuses.1 begun) more tags given
