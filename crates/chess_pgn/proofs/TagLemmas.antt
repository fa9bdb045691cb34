-- Tags looked up in the map in which the code keeps them.
use Rattle.std.proofs.Common.{◌≡◌, ℕ, Bool, true, false, cond, List, [], ◌∷◌, Option, Some, None, refl, sym, ap, subst, ◌∙◌, map, codes}
use Rattle.std.specs.Prelude.{Vec, option_map, unwrap_or, if◌then◌else◌, ◌||◌, bytes_eq}
use Rattle.std.specs.BTreeMap.{BTreeMap, UpdatesBy, IsOrdered}
use Rattle.std.specs.Cmp.{eq_by_cmp_equiv}
use Rattle.std.specs.Cmp.Lexicographic.{bytes_decides, nat_list_cmp_total, nat_list_eq_equiv, slice_cmp}
use Rattle.std.specs.List.{AllByRecursion}
use Rattle.std.specs.List.Sorted.{IsStrictlySortedBy}
use Rattle.std.specs.Map.{AreApart, IsKeyTest, KeepsOthers, lookup}
use Rattle.std.specs.Ordering.{is_eq, nat_cmp}
use Rattle.std.specs.declared.cmp.Ordering.{Ordering}
use Rattle.std.specs.declared.cmp.Ordering.TheVariants.{Less}
use Rattle.std.proofs.lemmas.Map.Text.{is_eq-slice_cmp}
use Rattle.chess_pgn.specs.Games.{Tags, tag_in}
use Rattle.chess_pgn.specs.Tags.{Ascend, HasTags, is_own}
use Rattle.chess_pgn.specs.steps.OtherCode.{Finds, Sets, shown}

module _ {A : Type 0} (name : List ℕ) where
  abbrev pub looked_up : List (Vec ℕ A × Vec ℕ A) → Option (Vec ℕ A)
  looked_up entries = lookup (λ (key : Vec ℕ A). is_eq (slice_cmp nat_cmp name key.items)) entries

  abbrev items : Vec ℕ A → List ℕ
  items v = v.items

  pub tag_is : (entries : List (Vec ℕ A × Vec ℕ A)) → option_map items (looked_up entries) ≡ tag_in name (shown entries)
  tag_is [] = refl
  tag_is (e ∷ es) = step (is_eq (slice_cmp nat_cmp name e.0.items)) (bytes_eq name e.0.items) (is_eq-slice_cmp name e.0.items) (tag_is es)
    where
      step : (a b : Bool) → a ≡ b → option_map items (looked_up es) ≡ tag_in name (shown es)
          → option_map items (cond a (Some e.1) (looked_up es)) ≡ (if b then Some e.1.items else tag_in name (shown es))
      step true true h k = refl
      step false false h k = k
      step true false h k = absurd cc
      step false true h k = absurd cc

-- ---- a tag set or taken out

by_test : (b : Bool) {W : Type 0} (new old w : W) → (b ≡ true → new ≡ w) → (b ≡ false → new ≡ old) → new ≡ (if b then w else old)
by_test true new old w h k = h refl
by_test false new old w h k = k refl

other_entries : {K X : Type 0} (eq : K → K → Bool) (test : K → Bool) (old new : List (K × X)) → KeepsOthers eq test old new
    → (other : K → Bool) → IsKeyTest eq other → AreApart test other → lookup other new ≡ lookup other old
unfolding KeepsOthers
other_entries eq test old new h = h

apart : (name other key : List ℕ) → bytes_eq name other ≡ false → is_eq (slice_cmp nat_cmp name key) ≡ true → is_eq (slice_cmp nat_cmp other key) ≡ false
apart name other key n y =
    is_eq-slice_cmp other key ∙ nat_list_eq_equiv.symm other key ∙ sym (nat_list_eq_equiv.congr name key other (sym (is_eq-slice_cmp name key) ∙ y)) ∙ n

module _ {A : Type 0} where
  abbrev pub key_cmp : Vec ℕ A → Vec ℕ A → Ordering
  key_cmp x y = slice_cmp nat_cmp x.items y.items

  pub sets : (name : List ℕ) (old new : BTreeMap (Vec ℕ A) (Vec ℕ A)) (value : Option (Vec ℕ A))
      → UpdatesBy key_cmp (λ (key : Vec ℕ A). slice_cmp nat_cmp name key.items) old new value
      → Sets name (option_map (λ (v : Vec ℕ A). v.items) value) (shown old.entries) (shown new.entries)
  sets name old new value h other =
      by_test (bytes_eq name other) _ _ _
      (λ e. sym (tag_is other new.entries) ∙ ap (λ (n : List ℕ). option_map items (looked_up n new.entries)) (sym ((bytes_decides name other).0 e)) ∙ ap (option_map items) h.1)
      (λ e. sym (tag_is other new.entries)
      ∙ ap (option_map items) (other_entries _ _ _ _ h.3 (λ (key : Vec ℕ A). is_eq (slice_cmp nat_cmp other key.items)) (λ x y. (eq_by_cmp_equiv nat_list_cmp_total).congr other x.items y.items) (λ key. apart name other key.items e))
      ∙ tag_is other old.entries)
    where
      items : Vec ℕ A → List ℕ
      items v = v.items

  all_less : (key : Vec ℕ A) (entries : List (Vec ℕ A × Vec ℕ A)) → AllByRecursion (λ y. key_cmp key y ≡ Less) (map (λ (e : Vec ℕ A × Vec ℕ A). e.0) entries)
      → AllByRecursion (λ y. slice_cmp nat_cmp key.items y ≡ Less) (map (λ (tag : List ℕ × List ℕ). tag.0) (shown entries))
  all_less key [] h = h
  all_less key (e ∷ es) h = (h.0, all_less key es h.1)

  sorted : (entries : List (Vec ℕ A × Vec ℕ A)) → IsStrictlySortedBy key_cmp (map (λ (e : Vec ℕ A × Vec ℕ A). e.0) entries) → Ascend (shown entries)
  unfolding IsStrictlySortedBy
  sorted [] h = h
  sorted (e ∷ es) h = (all_less e.0 es h.0, sorted es h.1)

  pub ascend : (m : BTreeMap (Vec ℕ A) (Vec ℕ A)) → IsOrdered key_cmp m → Ascend (shown m.entries)
  ascend m h = sorted m.entries h

-- ---- the tags of a game, from those that were found

under : (b c : Bool) (mid new x : Option (List ℕ)) → mid ≡ (if b then None else x) → new ≡ (if c then None else mid) → new ≡ (if b || c then None else x)
under true true mid new x h k = k
under true false mid new x h k = k ∙ h
under false true mid new x h k = k
under false false mid new x h k = k ∙ h

module _ (given : List (List ℕ × List ℕ)) (name : List ℕ) where
  taken : (own : List ℕ) (b : Bool) (old new : List (List ℕ × List ℕ)) → tag_in name old ≡ (if b then None else tag_in name given) → Sets own None old new
      → tag_in name new ≡ (if b || bytes_eq name own then None else tag_in name given)
  taken own b old new h k =
      under b (bytes_eq name own) _ _ _ h (k name ∙ ap (λ (c : Bool). if c then None else tag_in name old) (nat_list_eq_equiv.symm own name))

or_text : (text : List ℕ) {x y : Option (List ℕ)} → x ≡ y → unwrap_or x text ≡ unwrap_or y text
or_text text e = ap (λ (z : Option (List ℕ)). unwrap_or z text) e

pub or_else : (found : Option (List ℕ)) {x y : List ℕ} → x ≡ y → unwrap_or found x ≡ unwrap_or found y
or_else found e = ap (λ (z : List ℕ). unwrap_or found z) e

module _ (given t0 t1 t2 t3 t4 t5 t6 t7 t8 : List (List ℕ × List ℕ)) (finds : Finds given t0)
    (fen : Sets (codes "FEN") None t0 t1) (set_up : Sets (codes "SetUp") None t1 t2) (event : Sets (codes "Event") None t2 t3) (site : Sets (codes "Site") None t3 t4) (date : Sets (codes "Date") None t4 t5)
    (round : Sets (codes "Round") None t5 t6) (white : Sets (codes "White") None t6 t7) (black : Sets (codes "Black") None t7 t8) (up : Ascend t8) where
  others_left : (name : List ℕ) → tag_in name t8 ≡ (if is_own name then None else tag_in name given)
  others_left name =
      taken given name (codes "Black") _ t7 t8 (taken given name (codes "White") _ t6 t7 (taken given name (codes "Round") _ t5 t6 (taken given name (codes "Date") _ t4 t5
      (taken given name (codes "Site") _ t3 t4 (taken given name (codes "Event") _ t2 t3 (taken given name (codes "SetUp") _ t1 t2 (taken given name (codes "FEN") _ t0 t1 first fen) set_up) event) site) date) round) white) black
    where
      first : tag_in name t0 ≡ (if bytes_eq name (codes "Result") then None else tag_in name given)
      first = finds name ∙ ap (λ (c : Bool). if c then None else tag_in name given) (nat_list_eq_equiv.symm (codes "Result") name)

  pub has_tags : (tags : Tags) → tags.event ≡ unwrap_or (tag_in (codes "Event") t2) (codes "?") → tags.site ≡ unwrap_or (tag_in (codes "Site") t3) (codes "?")
      → tags.date ≡ unwrap_or (tag_in (codes "Date") t4) (codes "????.??.??") → tags.round ≡ unwrap_or (tag_in (codes "Round") t5) (codes "?")
      → tags.white ≡ unwrap_or (tag_in (codes "White") t6) (codes "?") → tags.black ≡ unwrap_or (tag_in (codes "Black") t7) (codes "?")
      → tags.others ≡ t8 → HasTags given tags
  has_tags tags e1 e2 e3 e4 e5 e6 e7 =
      record {
        event = e1 ∙ or_text (codes "?") (by_2 (codes "Event") refl refl refl);
        site = e2 ∙ or_text (codes "?") (event (codes "Site") ∙ by_2 (codes "Site") refl refl refl);
        date = e3 ∙ or_text (codes "????.??.??") (site (codes "Date") ∙ event (codes "Date") ∙ by_2 (codes "Date") refl refl refl);
        round = e4 ∙ or_text (codes "?") (date (codes "Round") ∙ site (codes "Round") ∙ event (codes "Round") ∙ by_2 (codes "Round") refl refl refl);
        white = e5 ∙ or_text (codes "?") (round (codes "White") ∙ date (codes "White") ∙ site (codes "White") ∙ event (codes "White") ∙ by_2 (codes "White") refl refl refl);
        black = e6 ∙ or_text (codes "?") (white (codes "Black") ∙ round (codes "Black") ∙ date (codes "Black") ∙ site (codes "Black") ∙ event (codes "Black") ∙ by_2 (codes "Black") refl refl refl);
        others = λ name. ap (tag_in name) e7 ∙ others_left name;
        ascend = subst Ascend (sym e7) up;
      }
    where
      by_2 : (name : List ℕ) → bytes_eq (codes "SetUp") name ≡ false → bytes_eq (codes "FEN") name ≡ false → bytes_eq (codes "Result") name ≡ false → tag_in name t2 ≡ tag_in name given
      by_2 name a b c =
          set_up name ∙ ap (λ (x : Bool). if x then None else tag_in name t1) a ∙ fen name ∙ ap (λ (x : Bool). if x then None else tag_in name t0) b
          ∙ finds name ∙ ap (λ (x : Bool). if x then None else tag_in name given) c
