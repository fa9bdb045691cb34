-- What a reader has read once it has taken items one after another from the beginning.
use Rattle.std.proofs.Common.{◌≡◌, ◌⊎◌, ℕ, Bool, true, false, ◌&&◌, List, [], ◌∷◌, ◌++◌, length, refl, sym, subst, ap, ◌∙◌, append_assoc, append-nil}
use Rattle.std.specs.Prelude.{Ok, Some}
use Rattle.std.specs.List.{list_all}
use mathlib.Core.Logic.{inl, inr}
use Rattle.chess_types.specs.board.Position.{PositionParts, start}
use Rattle.chess_items.specs.Items.{Item}
use Rattle.chess_items.specs.steps.Taking.{Takes}
use Rattle.chess_items.specs.declared.outcome.Outcome.TheVariants.{Unfinished}
use Rattle.chess_items.specs.declared.taker.Taken.TheVariants.{GoesOn}
use Rattle.chess_items.proofs.TakingLemmas.{bare}
use Rattle.chess_pgn.specs.Grammar.{Element, element, elements, few_are_open}
use Rattle.chess_pgn.specs.Reading.{HasBegun, Starts, is_heading, is_movetext, lead_after, remarks}
use Rattle.chess_pgn.specs.Tags.{AreTags, start_in}
use Rattle.chess_pgn.specs.steps.HeaderCode.{HasTaken, is_begun}
use Rattle.chess_pgn.specs.steps.OtherCode.{Finds}
use Rattle.chess_pgn.specs.steps.ReaderCode.{BeginsMoves, Headed, HeadsGame, IsNew, Read, TakesItem, TakesPart, takes_when}
use Rattle.chess_pgn.specs.steps.Readings.{Reading, Stands, fresh, goes_on}
use Rattle.chess_pgn.specs.declared.reader.Reader.{Reader}
use Rattle.chess_pgn.specs.declared.reader.header.Header.{Header}
use Rattle.chess_pgn.proofs.GivenLemmas.{took_between, took_more, took_tags}

-- all is head so far
pub record InHead {A : Type 0} (is : List Item) (r : Reader A) : Type 0 where
  pub heading : list_all is_heading is ≡ true
  pub taken : HasTaken is r.header
  pub lead : Stands r.moves (fresh start (remarks [] is))
  pub moving : r.moving ≡ false
  pub outcome : r.outcome ≡ Unfinished

-- after a head, some movetext
pub record InMovetext {A : Type 0} (head movetext : List Item) (r : Reader A) : Type 0 where
  pub heading : list_all is_heading head ≡ true
  pub tags : List (List ℕ × List ℕ)
  pub are_tags : AreTags head tags
  pub finds : Finds tags r.header.found.tags
  pub outside : is_begun r.header.part ≡ false
  pub first : PositionParts
  pub told : start_in tags ≡ Some first
  pub stands : list_all is_movetext movetext ≡ true
  pub reading : Reading
  pub now : Stands r.moves reading
  pub from : reading.start ≡ first
  pub given : (es : List Element) → goes_on (elements movetext ++ es) (fresh first (remarks [] head)) ≡ goes_on es reading
  pub few : (es : List Element) → few_are_open 0 (elements movetext ++ es) ≡ few_are_open (length reading.interrupted) es
  pub moving : r.moving ≡ true
  pub outcome : r.outcome ≡ Unfinished

and_left : (a b : Bool) → a && b ≡ true → a ≡ true
and_left true b h = refl
and_left false b h = absurd cc

and_right : (a b : Bool) → a && b ≡ true → b ≡ true
and_right true b h = h
and_right false b h = absurd cc

and_both : (a b : Bool) → a ≡ true → b ≡ true → a && b ≡ true
and_both true b h k = k
and_both false b h k = absurd cc

all_more : (p : Item → Bool) (is : List Item) (item : Item) → list_all p is ≡ true → p item ≡ true → list_all p (is ++ item ∷ []) ≡ true
all_more p [] item h k = and_both (p item) true k refl
all_more p (i ∷ is) item h k =
    and_both (p i) (list_all p (is ++ item ∷ [])) (and_left (p i) (list_all p is) h) (all_more p is item (and_right (p i) (list_all p is) h) k)

remarks_more : (lead : List ℕ) (is : List Item) (item : Item) → remarks lead (is ++ item ∷ []) ≡ lead_after (remarks lead is) item
remarks_more lead [] item = refl
remarks_more lead (i ∷ is) item = remarks_more (lead_after lead i) is item

elements_more : (is : List Item) (item : Item) (es : List Element) → elements (is ++ item ∷ []) ++ es ≡ elements is ++ (element item ++ es)
elements_more [] item es = ap (λ (z : List Element). z ++ es) (append-nil (element item))
elements_more (i ∷ is) item es =
    append_assoc (element i) (elements (is ++ item ∷ [])) es ∙ ap (λ (z : List Element). element i ++ z) (elements_more is item es)
    ∙ sym (append_assoc (element i) (elements is) (element item ++ es))

begun_more : (is : List Item) (item : Item) → HasBegun is → HasBegun (is ++ item ∷ [])
begun_more [] item h = absurd h
begun_more (i ∷ is) item h = h

pub begun_starts : (is : List Item) → HasBegun is → Starts is
begun_starts [] h = tt
begun_starts (i ∷ is) h = h

-- one item of the movetext more
movetext_more : {A : Type 0} (head movetext : List Item) (item : Item) (old new : Reader A) → InMovetext head movetext old → Read item old new → InMovetext head (movetext ++ item ∷ []) new
movetext_more {A = A} head movetext item old new h r =
    let x = r.moves h.reading h.now in
    record {
      heading = h.heading;
      tags = h.tags;
      are_tags = h.are_tags;
      finds = subst (λ (k : Header A). Finds h.tags k.found.tags) (sym r.header) h.finds;
      outside = ap (λ (k : Header A). is_begun k.part) r.header ∙ h.outside;
      first = h.first;
      told = h.told;
      stands = all_more is_movetext movetext item h.stands r.stands;
      reading = x.0;
      now = x.1;
      from = x.2.start ∙ h.from;
      given = λ es. ap (λ (z : List Element). goes_on z (fresh h.first (remarks [] head))) (elements_more movetext item es) ∙ h.given (element item ++ es) ∙ x.2.given es;
      few = λ es. ap (few_are_open 0) (elements_more movetext item es) ∙ h.few (element item ++ es) ∙ x.2.few es;
      moving = r.moving ∙ h.moving;
      outcome = r.outcome ∙ h.outcome;
    }

-- the head is at its end
pub movetext_first : {A : Type 0} (is : List Item) (old new : Reader A) → InHead is old → BeginsMoves old new → InMovetext is [] new
movetext_first {A = A} is old new h b =
    let t = took_tags is old.header h.taken b.outside in
    let x = b.moves t.0 t.2 in
    record {
      heading = h.heading;
      tags = t.0;
      are_tags = t.1;
      finds = subst (λ (k : Header A). Finds t.0 k.found.tags) (sym b.header) t.2;
      outside = ap (λ (k : Header A). is_begun k.part) b.header ∙ b.outside;
      first = x.0;
      told = x.1;
      stands = refl;
      reading = fresh x.0 (remarks [] is);
      now = x.2 (remarks [] is) h.lead;
      from = refl;
      given = λ es. refl;
      few = λ es. refl;
      moving = b.moving;
      outcome = b.outcome ∙ h.outcome;
    }

taken_more : {A : Type 0} (is : List Item) (item : Item) (old new : Header A) → HasTaken is old → TakesPart item old new → HasTaken (is ++ item ∷ []) new
taken_more is item old new h (inl x) = took_more is item old new h x
taken_more {A = A} is item old new h (inr x) = subst (λ (k : Header A). HasTaken (is ++ item ∷ []) k) (sym x.2) (took_between is item old h x.1 x.0)

head_more : {A : Type 0} (is : List Item) (item : Item) (old new : Reader A) → InHead is old → Headed item old new → InHead (is ++ item ∷ []) new
head_more is item old new h r = record {
  heading = all_more is_heading is item h.heading r.heading;
  taken = taken_more is item old.header new.header h.taken r.tags;
  lead = subst (λ (z : List ℕ). Stands new.moves (fresh start z)) (sym (remarks_more [] is item)) (r.lead start (remarks [] is) h.lead);
  moving = r.moving ∙ h.moving;
  outcome = r.outcome ∙ h.outcome;
}

-- the movetext has begun
pub record Moving {A : Type 0} (is : List Item) (r : Reader A) : Type 0 where
  pub head : List Item
  pub movetext : List Item
  pub parts : is ≡ head ++ movetext
  pub begun : HasBegun movetext
  pub there : InMovetext head movetext r

abbrev pub Progress : {A : Type 0} → List Item → Reader A → Type 0
Progress is r = InHead is r ⊎ Moving is r

moving_more : {A : Type 0} (is : List Item) (item : Item) (old new : Reader A) → Moving is old → Read item old new → Moving (is ++ item ∷ []) new
moving_more is item old new h r = record {
  head = h.head;
  movetext = h.movetext ++ item ∷ [];
  parts = ap (λ (z : List Item). z ++ item ∷ []) h.parts ∙ append_assoc h.head h.movetext (item ∷ []);
  begun = begun_more h.movetext item h.begun;
  there = movetext_more h.head h.movetext item old new h.there r;
}

moving_first : {A : Type 0} (is : List Item) (item : Item) (old between new : Reader A) → InHead is old → is_heading item ≡ false → BeginsMoves old between → Read item between new → Moving (is ++ item ∷ []) new
moving_first is item old between new h e b r = record {
  head = is;
  movetext = item ∷ [];
  parts = refl;
  begun = e;
  there = movetext_more is [] item between new (movetext_first is old between h b) r;
}

pub progress_new : {A : Type 0} (r : Reader A) → IsNew r → Progress [] r
progress_new r n = inl (record { heading = refl; taken = n.tags; lead = n.lead; moving = n.moving; outcome = n.outcome })

progress_more : {A : Type 0} (is : List Item) (item : Item) (old new : Reader A) → Progress is old → TakesItem old item (Ok GoesOn) new → Progress (is ++ item ∷ []) new
progress_more is item old new (inl h) t = by (subst (λ (b : Bool). takes_when b item (Ok GoesOn) old new) h.moving t.0)
  where
    by : HeadsGame item (Ok GoesOn) old new → Progress (is ++ item ∷ []) new
    by (inl x) = inl (head_more is item old new h x.1)
    by (inr x) = inr (moving_first is item old x.1 new h x.0 x.2 x.3)
progress_more is item old new (inr h) t = inr (moving_more is item old new h (subst (λ (b : Bool). takes_when b item (Ok GoesOn) old new) h.there.moving t.0))

-- all items that are taken one after another
pub progress_all : {A : Type 0} (is : List Item) (items : List (ℕ × Item)) (old new : Reader A) → Progress is old → Takes (λ s at item result t. TakesItem s item result t) old items new → Progress (is ++ bare items) new
progress_all is [] old new p t = subst (λ r. Progress (is ++ []) r) t (subst (λ (z : List Item). Progress z old) (sym (append-nil is)) p)
progress_all is (x ∷ items) old new p t =
    subst (λ (z : List Item). Progress z new) (append_assoc is (x.1 ∷ []) (bare items))
    (progress_all (is ++ x.1 ∷ []) items t.0 new (progress_more is x.1 old t.0 p t.1) t.2)
