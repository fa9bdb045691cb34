-- Items that were taken one after another may be the beginning of a game.
use Rattle.std.proofs.Common.{◌≡◌, ℕ, ◌-◌, Bool, true, false, ◌&&◌, List, [], ◌∷◌, ◌++◌, length, Some, None, refl, sym, ap, ◌∙◌, append_assoc, append-nil}
use Rattle.std.specs.List.{list_all}
use mathlib.Core.Logic.{inl, inr}
use Rattle.chess_types.specs.board.Position.{PositionParts}
use Rattle.chess_items.specs.Items as items
use Rattle.chess_items.specs.Items.{Item, is_white}
use Rattle.chess_tree.specs.Forest.{Forest}
use Rattle.chess_pgn.specs.Grammar.{Element, comments_joined, elements, few_are_open}
use Rattle.chess_pgn.specs.Reading.{HasBegun, MayBegin, is_movetext, remarks}
use Rattle.chess_pgn.specs.steps.Elements.{Frame, Last, last_of, run}
use Rattle.chess_pgn.specs.steps.Hanging.{hang, say}
use Rattle.chess_pgn.specs.steps.HeaderCode.{heads_on}
use Rattle.chess_pgn.specs.declared.reader.Reader.{Reader}
use Rattle.chess_pgn.specs.declared.reader.header.Part.{Part}
use Rattle.chess_pgn.specs.declared.reader.header.Part.TheVariants.{Closing, Name, Nothing, Opening, Value}
use Rattle.chess_pgn.proofs.ChainLemmas.{InHead, Moving, Progress, begun_starts}
use Rattle.chess_pgn.proofs.DarkLemmas.{are_between}
use Rattle.chess_pgn.proofs.DerivedLemmas.{derived, outcome}
use Rattle.chess_pgn.proofs.GivenLemmas.{tags_given}
use Rattle.chess_pgn.proofs.HeaderLemmas.{standing}
use Rattle.chess_pgn.proofs.RefusedLemmas.{elements_both}

-- ---- the variations that are open are closed

abbrev closing : List Frame → List Item
closing [] = []
closing (x ∷ xs) = items.Close ∷ closing xs

closed : (st : List Frame) (c : List ℕ) (f : Forest) (up : List ℕ) (l : Last) (here : PositionParts) (lead : List ℕ) → (d : List ℕ) × (g : Forest) × (run (elements (closing st)) c f up l here lead st ≡ Some (d, g))
closed [] c f up None here lead = (comments_joined c lead, f, refl)
closed [] c f up (Some x) here lead = (c, hang (up ++ x.0 ∷ []) (say lead) f, refl)
closed (x ∷ xs) c f up None here lead = closed xs c f x.up (last_of x) x.here (comments_joined x.lead lead)
closed (x ∷ xs) c f up (Some y) here lead = closed xs c (hang (up ++ y.0 ∷ []) (say lead) f) x.up (last_of x) x.here x.lead

none_opened : (st : List Frame) (n : ℕ) → few_are_open n (elements (closing st)) ≡ true
none_opened [] n = refl
none_opened (x ∷ xs) n = none_opened xs (n - 1)

closing_moves : (st : List Frame) → list_all is_movetext (closing st) ≡ true
closing_moves [] = refl
closing_moves (x ∷ xs) = closing_moves xs

both_pass : (is ks : List Item) → list_all is_movetext is ≡ true → list_all is_movetext ks ≡ true → list_all is_movetext (is ++ ks) ≡ true
both_pass [] ks e h = h
both_pass (i ∷ is) ks e h = by (is_movetext i) e (λ k. both_pass is ks k h)
  where
    by : (v : Bool) → v && list_all is_movetext is ≡ true → (list_all is_movetext is ≡ true → list_all is_movetext (is ++ ks) ≡ true) → v && list_all is_movetext (is ++ ks) ≡ true
    by true e f = f e
    by false e f = absurd cc

begun_on : (is ks : List Item) → HasBegun is → HasBegun (is ++ ks)
begun_on [] ks h = absurd h
begun_on (i ∷ is) ks h = h

moving_begins : {A : Type 0} (is : List Item) (r : Reader A) → Moving is r → MayBegin is
moving_begins is r m =
    let t = m.there in
    let s = t.reading in
    let k = closing s.interrupted in
    let c = closed s.interrupted s.comment s.forest s.up s.last_move s.here s.lead in
    record {
      more = k;
      head = m.head;
      movetext = m.movetext ++ k;
      given = t.tags;
      parts = ap (λ (z : List Item). z ++ k) m.parts ∙ append_assoc m.head m.movetext k;
      are_tags = t.are_tags;
      moves =
          inr (record {
            start = t.first;
            told = t.told;
            starts = begun_starts (m.movetext ++ k) (begun_on m.movetext k m.begun);
            moving = both_pass m.movetext k t.stands (closing_moves s.interrupted);
            few = ap (few_are_open 0) (elements_both m.movetext k) ∙ t.few (elements k) ∙ none_opened s.interrupted (length s.interrupted);
            comment = c.0;
            moves = c.1;
            derives =
                derived (elements (m.movetext ++ k)) t.first (remarks [] m.head) c.0 c.1
                (ap (λ (es : List Element). outcome es t.first (remarks [] m.head)) (elements_both m.movetext k) ∙ t.given (elements k) ∙ c.2);
          });
    }

-- ---- the tag that has begun is ended

abbrev ending : Part → List Item
ending Nothing = []
ending Name = items.Name (65 ∷ []) ∷ items.Quote ∷ items.Quote ∷ items.TagClose ∷ []
ending Opening = items.Quote ∷ items.Quote ∷ items.TagClose ∷ []
ending Value = items.Quote ∷ items.TagClose ∷ []
ending Closing = items.TagClose ∷ []

ended : (part : Part) (read : List (List ℕ × List ℕ)) (name value : List ℕ) → (all : List (List ℕ × List ℕ)) × (heads_on (standing part read name value) (ending part) ≡ Some all)
ended Nothing read name value = (read, refl)
ended Name read name value = (_, refl)
ended Opening read name value = (_, refl)
ended Value read name value = (_, refl)
ended Closing read name value = (_, refl)

head_begins : {A : Type 0} (is : List Item) (r : Reader A) → InHead is r → MayBegin is
head_begins is r h =
    let k = ending r.header.part in
    let e = ended r.header.part h.taken.0 r.header.name.items r.header.value.items in
    record {
      more = k;
      head = is ++ k;
      movetext = [];
      given = e.0;
      parts = sym (append-nil (is ++ k));
      are_tags = tags_given (is ++ k) e.0 (h.taken.2 k ∙ e.1);
      moves = inl refl;
    }

pub may_begin : {A : Type 0} (is : List Item) (r : Reader A) → Progress is r → MayBegin is
may_begin is r (inl h) = head_begins is r h
may_begin is r (inr m) = moving_begins is r m

pub white_begins : (is : List Item) → list_all is_white is ≡ true → MayBegin is
white_begins is e = record { more = []; head = is; movetext = []; given = []; parts = refl; are_tags = are_between is e; moves = inl refl }
