-- Items separated by a test, the place after movetext, and what may come next there.
use Rattle.std.proofs.Common.{◌≡◌, ℕ, Bool, true, false, ◌&&◌, List, [], ◌∷◌, ◌++◌, Option, Some, None, refl, sym, ap, subst, ◌∙◌}
use Rattle.std.specs.Prelude.{⊤}
use Rattle.std.specs.List.{AllByRecursion, list_all}
use Rattle.std.specs.Str.{byte}
use mathlib.Core.Logic.{inl, inr}
use Rattle.chess_items.specs.Items as items
use Rattle.chess_items.specs.Items.{Item, TagOpen, Spells, is_blank, is_digit, is_glyph, is_name_byte, is_in_tag, is_outside, is_word_byte, place_after, place_after_blank, place_behind}
use Rattle.chess_items.specs.steps.ItemAt.{item_at, outside_at, sign_at, tag_at, value_at}
use Rattle.chess_items.specs.declared.outcome.Outcome.{Outcome}
use Rattle.chess_items.specs.declared.place.Place.{Place}
use Rattle.chess_items.specs.declared.place.Place.TheVariants.{GameStart, LineStart, InLine}
use Rattle.chess_items.proofs.FoundLemmas.{some_is}
use Rattle.chess_items.proofs.ItemLemmas.{item_goes}
use Rattle.chess_pgn.specs.Reading.{Ends, HasBegun, Starts, is_heading, is_movetext}
use Rattle.chess_pgn.specs.Tags.{AreGaps, AreTags, IsTag, may_part_tags, is_tag_gap, is_value_part}

-- ---- items separated by a test

abbrev pub All : (Item → Bool) → List Item → Type 0
All p is = AllByRecursion (λ (i : Item). p i ≡ true) is

-- the first doesn't pass
abbrev pub Halts : (Item → Bool) → List Item → Type 0
Halts p [] = ⊤
Halts p (i ∷ is) = p i ≡ false

pub apart : {b : Bool} → b ≡ true → b ≡ false → ⊥
apart {b} e f = (let k : true ≡ false = sym e ∙ f in cc)

pub first_is : (i j : Item) (is js : List Item) → i ∷ is ≡ j ∷ js → i ≡ j
first_is i j is js e = cc

pub rest_is : (i j : Item) (is js : List Item) → i ∷ is ≡ j ∷ js → is ≡ js
rest_is i j is js e = cc

conses : (i j : Item) (is js : List Item) → i ≡ j → is ≡ js → i ∷ is ≡ j ∷ js
conses i j is js e h = cc

-- those that pass, up to the first that doesn't
pub one_split : (p : Item → Bool) (a b xs ys : List Item) → All p a → All p b → Halts p xs → Halts p ys → a ++ xs ≡ b ++ ys → (a ≡ b) × (xs ≡ ys)
one_split p [] [] xs ys ha hb hx hy e = (refl, e)
one_split p [] (j ∷ b) xs ys ha hb hx hy e = absurd (apart hb.0 (subst (Halts p) e hx))
one_split p (i ∷ a) [] xs ys ha hb hx hy e = absurd (apart ha.0 (subst (Halts p) (sym e) hy))
one_split p (i ∷ a) (j ∷ b) xs ys ha hb hx hy e =
    let first = first_is i j (a ++ xs) (b ++ ys) e in
    let c = one_split p a b xs ys ha.1 hb.1 hx hy (rest_is i j (a ++ xs) (b ++ ys) e) in
    (conses i j a b first c.0, c.1)

all_append : (p : Item → Bool) (is js : List Item) → All p is → All p js → All p (is ++ js)
all_append p [] js h k = k
all_append p (i ∷ is) js h k = (h.0, all_append p is js h.1 k)

pub all_imply : (p q : Item → Bool) → ((i : Item) → p i ≡ true → q i ≡ true) → (is : List Item) → All p is → All q is
all_imply p q f [] h = tt
all_imply p q f (i ∷ is) h = (f i h.0, all_imply p q f is h.1)

pub both_true : (a b : Bool) → a && b ≡ true → (a ≡ true) × (b ≡ true)
both_true true b e = (refl, e)
both_true false b e = absurd cc

pub all_of : (p : Item → Bool) (is : List Item) → list_all p is ≡ true → All p is
all_of p [] e = tt
all_of p (i ∷ is) e = (let two = both_true (p i) (list_all p is) e in (two.0, all_of p is two.1))

-- ---- heads

gap_heading : (i : Item) → is_tag_gap i ≡ true → is_heading i ≡ true
gap_heading (items.Blank b) e = refl
gap_heading items.Hidden e = refl
gap_heading _ e = absurd cc

part_heading : (i : Item) → is_value_part i ≡ true → is_heading i ≡ true
part_heading (items.Stretch text) e = refl
part_heading (items.Escaped b) e = refl
part_heading _ e = absurd cc

between_heading : (i : Item) → may_part_tags i ≡ true → is_heading i ≡ true
between_heading items.Mark e = refl
between_heading (items.Blank b) e = refl
between_heading items.Hidden e = refl
between_heading (items.Comment text) e = refl
between_heading _ e = absurd cc

tag_heading : (own : List Item) (name value : List ℕ) → IsTag own name value → All is_heading own
tag_heading own name value t =
    let gaps = λ (is : List Item) (g : AreGaps is). all_imply is_tag_gap is_heading gap_heading is g in
    subst (All is_heading) (sym t.spelled) (
      refl,
      all_append is_heading t.before_name _ (gaps t.before_name t.gaps.0) (
        refl,
        all_append is_heading t.behind_name _ (gaps t.behind_name t.gaps.1) (
          refl,
          all_append is_heading t.parts _ (all_imply is_value_part is_heading part_heading t.parts t.of_value) (refl, all_append is_heading t.behind_value _ (gaps t.behind_value t.gaps.2) (refl, tt)),
        ),
      ),
    )

pub tags_all_heading : (is : List Item) (tags : List (List ℕ × List ℕ)) → AreTags is tags → All is_heading is
tags_all_heading is [] h = all_imply may_part_tags is_heading between_heading is h
tags_all_heading is (tag ∷ tags) h =
    subst (All is_heading) (sym h.3)
    (all_append is_heading h.0 (h.1 ++ h.2) (all_imply may_part_tags is_heading between_heading h.0 h.4) (all_append is_heading h.1 h.2 (tag_heading h.1 tag.0 tag.1 h.5) (tags_all_heading h.2 tags h.6)))

-- ---- movetext and the end

-- no movetext, or one that has begun
pub starts_more : (is js : List Item) → Starts is → Halts is_heading js → Halts is_heading (is ++ js)
starts_more [] js h k = k
starts_more (i ∷ is) js h k = h

pub begun_halts : (is js : List Item) → HasBegun is → Halts is_heading (is ++ js)
begun_halts [] js h = absurd h
begun_halts (i ∷ is) js h = h

-- how a game ends is no heading and no movetext
pub ending_halts : (movetext ending : List Item) (outcome : Outcome) (rest : List ℕ) → Ends movetext ending outcome rest → Halts is_heading ending × Halts is_movetext ending
ending_halts movetext ending outcome rest (inl e) = subst (λ (z : List Item). Halts is_heading z × Halts is_movetext z) (sym e) (refl, refl)
ending_halts movetext ending outcome rest (inr e) = subst (λ (z : List Item). Halts is_heading z × Halts is_movetext z) (sym e.0) (tt, tt)

-- ---- places

pub behind_append : (place : Place) (is js : List Item) → place_behind place (is ++ js) ≡ place_behind (place_behind place is) js
behind_append place [] js = refl
behind_append place (i ∷ is) js = behind_append (place_after place i) is js

blank_outside : (v : Bool) → is_outside (place_after_blank false v) ≡ true
blank_outside true = refl
blank_outside false = refl

stays_outside : (place : Place) (v : Bool) → is_outside place ≡ true → is_outside (place_after_blank (is_in_tag place) v) ≡ true
stays_outside GameStart v out = blank_outside v
stays_outside LineStart v out = blank_outside v
stays_outside InLine v out = blank_outside v
stays_outside _ v out = absurd cc

pub movetext_after : (place : Place) (i : Item) → is_outside place ≡ true → is_movetext i ≡ true → is_outside (place_after place i) ≡ true
movetext_after place (items.Blank b) out e = stays_outside place _ out
movetext_after place items.Hidden out e = stays_outside place _ out
movetext_after place _ out e = cc

pub movetext_behind : (place : Place) (is : List Item) → is_outside place ≡ true → All is_movetext is → is_outside (place_behind place is) ≡ true
movetext_behind place [] out h = out
movetext_behind place (i ∷ is) out h = movetext_behind (place_after place i) is (movetext_after place i out h.0) h.1

first_after : (place : Place) (i : Item) → is_heading i ≡ false → is_movetext i ≡ true → is_outside (place_after place i) ≡ true
first_after place items.Skipped h e = refl
first_after place _ h e = cc

-- after movetext that has begun is a place outside of tags
pub begun_outside : (place : Place) (is : List Item) → HasBegun is → All is_movetext is → is_outside (place_behind place is) ≡ true
begun_outside place [] begun h = absurd begun
begun_outside place (i ∷ is) begun h = movetext_behind (place_after place i) is (first_after place i begun h.0) h.1

-- ---- what comes next

bracket_outside : (start : Bool) (more : List ℕ) → outside_at start (91 ∷ more) ≡ Some (TagOpen, more)
unfolding outside_at sign_at is_word_byte is_name_byte is_digit is_blank is_glyph
bracket_outside start more = refl

pub bracket_found : (place : Place) → is_outside place ≡ true → (more : List ℕ) → item_at place (91 ∷ more) ≡ Some (TagOpen, more)
unfolding item_at
bracket_found GameStart out more = bracket_outside true more
bracket_found LineStart out more = bracket_outside true more
bracket_found InLine out more = bracket_outside false more
bracket_found _ out more = absurd cc

-- outside of tags a bracket is the bracket of a tag
pub bracket_item : (place : Place) (k : Item) (ks : List Item) (more rest : List ℕ) → is_outside place ≡ true → Spells place (byte "[" ∷ more) (k ∷ ks) rest → k ≡ TagOpen
bracket_item place k ks more rest out s =
    ap (λ (x : Item × List ℕ). x.0) (some_is {A = Item × List ℕ} (k, s.1) (TagOpen, more) (sym (item_goes place k s.0 s.1 s.3) ∙ ap (item_at place) (sym s.2) ∙ bracket_found place out more))

pub nothing_found : (place : Place) → item_at place [] ≡ None
unfolding item_at outside_at tag_at value_at
nothing_found GameStart = refl
nothing_found _ = refl

pub none_some : {A : Type 0} (x : A) (o : Option A) → o ≡ Some x → o ≡ None → ⊥
none_some x o e h = (let z : Some x ≡ None = sym e ∙ h in cc)

-- no bytes spell an item
pub none_spelled : (place : Place) (ks : List Item) (rest : List ℕ) → Spells place [] ks rest → ks ≡ []
none_spelled place [] rest s = refl
none_spelled place (k ∷ ks) rest s = absurd (none_some (k, s.1) (item_at place (s.0 ++ s.1)) (item_goes place k s.0 s.1 s.3) (ap (item_at place) (sym s.2) ∙ nothing_found place))
