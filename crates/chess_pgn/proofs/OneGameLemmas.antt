-- The beginning of a text gives one game, and a white text gives none.
use Rattle.std.proofs.Common.{◌≡◌, ◌≤◌, ◌⊎◌, ℕ, ◌-◌, eq-zero-or-pos, Bool, true, false, ◌&&◌, List, [], ◌∷◌, ◌++◌, length, Some, refl, sym, ap, subst, ◌∙◌, arith, append_assoc, append-nil}
use Rattle.std.specs.List.{list_all}
use mathlib.Core.Logic.{inl, inr}
use Rattle.chess_types.specs.board.Position.{PositionParts}
use Rattle.chess_items.specs.Items as items
use Rattle.chess_items.specs.Items.{Item, Spells, is_outside, is_white, place_behind}
use Rattle.chess_items.specs.declared.outcome.Outcome.{Outcome}
use Rattle.chess_items.specs.declared.place.Place.TheVariants.{GameStart}
use Rattle.chess_items.proofs.SpellLemmas.{one_spelling}
use Rattle.chess_tree.specs.GameTree.{GameTree}
use Rattle.chess_pgn.specs.Games.{Game}
use Rattle.chess_pgn.specs.Grammar.{Derives, elements}
use Rattle.chess_pgn.specs.Reading.{Ends, Gives, HasBegun, BeginsWithGame, IsWhite, is_heading, is_movetext, remarks}
use Rattle.chess_pgn.specs.Tags.{AreTags, HasTags, start_in}
use Rattle.chess_pgn.proofs.DerivedLemmas.{only_one}
use Rattle.chess_pgn.proofs.GivenLemmas.{tags_once}
use Rattle.chess_pgn.proofs.SameTagsLemmas.{one_tags}
use Rattle.chess_pgn.proofs.SplitLemmas.{All, Halts, all_of, begun_halts, begun_outside, behind_append, bracket_item, ending_halts, none_spelled, one_split, starts_more, tags_all_heading, apart}

-- ---- the same items give the same game

marker_is : (a b : Outcome) → items.Marker a ∷ [] ≡ items.Marker b ∷ [] → a ≡ b
marker_is a b e = cc

one_outcome : (m n e f : List Item) (a b : Outcome) (r q : List ℕ) → e ≡ f → Ends m e a r → Ends n f b q → a ≡ b
one_outcome m n e f a b r q same (inl x) (inl y) = marker_is a b (sym x ∙ same ∙ y)
one_outcome m n e f a b r q same (inl x) (inr y) = absurd (let z : items.Marker a ∷ [] ≡ [] = sym x ∙ same ∙ y.0 in cc)
one_outcome m n e f a b r q same (inr x) (inl y) = absurd (let z : [] ≡ items.Marker b ∷ [] = sym x.0 ∙ same ∙ y in cc)
one_outcome m n e f a b r q same (inr x) (inr y) = x.1 ∙ sym y.1

start_is : (a b : PositionParts) → Some a ≡ Some b → a ≡ b
start_is a b e = cc

tree_is : (a b : GameTree) → a.start ≡ b.start → a.comment ≡ b.comment → a.below ≡ b.below → a ≡ b
tree_is a b e f g = λ i. record { start = e i; comment = f i; below = g i }

game_is : (g h : Game) → g.tags ≡ h.tags → g.outcome ≡ h.outcome → g.tree ≡ h.tree → g ≡ h
game_is g h e f t = λ i. record { tags = e i; outcome = f i; tree = t i }

one_tree : (es fs : List Item) (a b : GameTree) (lead more : List ℕ) → es ≡ fs → lead ≡ more → a.start ≡ b.start → Derives (elements es) a.start lead a.comment a.below → Derives (elements fs) b.start more b.comment b.below → a ≡ b
one_tree es fs a b lead more same leads start x y =
    let z : Derives (elements es) a.start lead b.comment b.below =
    subst (λ (s : PositionParts). Derives (elements es) s lead b.comment b.below) (sym start)
    (subst (λ (l : List ℕ). Derives (elements es) b.start l b.comment b.below) (sym leads) (subst (λ (is : List Item). Derives (elements is) b.start more b.comment b.below) (sym same) y))
    in
    let two = only_one (elements es) a.start lead a.comment b.comment a.below b.below x z in
    tree_is a b start two.0 two.1

-- ---- items part in one way

-- items that are a head and movetext, and a marker after them or none
pub record InParts (is : List Item) : Type 0 where
  pub head : List Item
  pub movetext : List Item
  pub ending : List Item
  pub parts : is ≡ head ++ (movetext ++ ending)
  pub heading : All is_heading head
  pub moving : All is_movetext movetext
  pub starts : Halts is_heading (movetext ++ ending)
  pub ends : (ending ≡ []) ⊎ ((o : Outcome) × (ending ≡ items.Marker o ∷ []))

no_movetext : (ending : List Item) → (ending ≡ []) ⊎ ((o : Outcome) × (ending ≡ items.Marker o ∷ [])) → Halts is_movetext ending
no_movetext ending (inl e) = subst (Halts is_movetext) (sym e) tt
no_movetext ending (inr e) = subst (Halts is_movetext) (sym e.1) refl

pub ends_either : (movetext ending : List Item) (outcome : Outcome) (rest : List ℕ) → Ends movetext ending outcome rest → (ending ≡ []) ⊎ ((o : Outcome) × (ending ≡ items.Marker o ∷ []))
ends_either movetext ending outcome rest (inl e) = inr (outcome, e)
ends_either movetext ending outcome rest (inr e) = inl e.0

abbrev pub given_parts : (is : List Item) (rest : List ℕ) (g : Game) → Gives is rest g → InParts is
given_parts is rest g x = record {
  head = x.head;
  movetext = x.movetext;
  ending = x.ending;
  parts = x.parts;
  heading = tags_all_heading x.head x.given x.are_tags;
  moving = all_of is_movetext x.movetext x.moving;
  starts = starts_more x.movetext x.ending x.starts (ending_halts x.movetext x.ending g.outcome rest x.ends).0;
  ends = ends_either x.movetext x.ending g.outcome rest x.ends;
}

pub same_parts : (is js : List Item) → is ≡ js → (a : InParts is) (b : InParts js) → (a.head ≡ b.head) × (a.movetext ≡ b.movetext) × (a.ending ≡ b.ending)
same_parts is js same a b =
    let two = one_split is_heading a.head b.head (a.movetext ++ a.ending) (b.movetext ++ b.ending) a.heading b.heading a.starts b.starts (sym a.parts ∙ same ∙ b.parts) in
    let three = one_split is_movetext a.movetext b.movetext a.ending b.ending a.moving b.moving (no_movetext a.ending a.ends) (no_movetext b.ending b.ends) two.1 in
    (two.0, three.0, three.1)

module _ (is js : List Item) (rest last : List ℕ) (g h : Game) (same : is ≡ js) (x : Gives is rest g) (y : Gives js last h) where
  in_three : (x.head ≡ y.head) × (x.movetext ≡ y.movetext) × (x.ending ≡ y.ending)
  in_three = same_parts is js same (given_parts is rest g x) (given_parts js last h y)

  one_given : x.given ≡ y.given
  one_given = tags_once y.head x.given y.given (subst (λ (z : List Item). AreTags z x.given) in_three.0 x.are_tags) y.are_tags

  one_start : g.tree.start ≡ h.tree.start
  one_start = start_is g.tree.start h.tree.start (sym x.start ∙ ap start_in one_given ∙ y.start)

  pub one_reading : g ≡ h
  one_reading =
      game_is g h (one_tags y.given g.tags h.tags (subst (λ z. HasTags z g.tags) one_given x.has_tags) y.has_tags)
      (one_outcome x.movetext y.movetext x.ending y.ending g.outcome h.outcome rest last in_three.2 x.ends y.ends)
      (one_tree x.movetext y.movetext g.tree h.tree (remarks [] x.head) (remarks [] y.head) in_three.1 (ap (remarks []) in_three.0) one_start x.derives y.derives)

-- ---- nothing goes on after a game

not_two : (o : Outcome) (k : Item) (ks e : List Item) → items.Marker o ∷ k ∷ ks ≡ e → (e ≡ []) ⊎ ((p : Outcome) × (e ≡ items.Marker p ∷ [])) → ⊥
not_two o k ks e same (inl z) = (let two : items.Marker o ∷ k ∷ ks ≡ [] = same ∙ z in cc)
not_two o k ks e same (inr z) = (let two : items.Marker o ∷ k ∷ ks ≡ items.Marker z.0 ∷ [] = same ∙ z.1 in cc)

not_bracket : (ks e : List Item) → items.TagOpen ∷ ks ≡ e → (e ≡ []) ⊎ ((p : Outcome) × (e ≡ items.Marker p ∷ [])) → ⊥
not_bracket ks e same (inl z) = (let two : items.TagOpen ∷ ks ≡ [] = same ∙ z in cc)
not_bracket ks e same (inr z) = (let two : items.TagOpen ∷ ks ≡ items.Marker z.0 ∷ [] = same ∙ z.1 in cc)

-- without a marker, and with movetext, it ends at a place outside of tags
pub ends_outside : (is : List Item) (rest : List ℕ) (g : Game) → (x : Gives is rest g) → x.ending ≡ [] → HasBegun x.movetext → is_outside (place_behind GameStart is) ≡ true
ends_outside is rest g x e begun =
    let whole : is ≡ x.head ++ x.movetext = x.parts ∙ ap (λ (z : List Item). x.head ++ (x.movetext ++ z)) e ∙ ap (λ (z : List Item). x.head ++ z) (append-nil x.movetext) in
    ap (λ (z : List Item). is_outside (place_behind GameStart z)) whole ∙ ap is_outside (behind_append GameStart x.head x.movetext) ∙ begun_outside (place_behind GameStart x.head) x.movetext begun (all_of is_movetext x.movetext x.moving)

module _ (is : List Item) (k : Item) (ks : List Item) (rest : List ℕ) (g : Game) (x : Gives is rest g) (y : InParts (is ++ k ∷ ks)) where
  -- what ends the first is what ends the second
  same_end : Halts is_heading (x.movetext ++ (x.ending ++ k ∷ ks)) → Halts is_movetext (x.ending ++ k ∷ ks) → x.ending ++ k ∷ ks ≡ y.ending
  same_end heading moving =
      let whole : x.head ++ (x.movetext ++ (x.ending ++ k ∷ ks)) ≡ y.head ++ (y.movetext ++ y.ending) =
      ap (λ (z : List Item). x.head ++ z) (sym (append_assoc x.movetext x.ending (k ∷ ks))) ∙ sym (append_assoc x.head (x.movetext ++ x.ending) (k ∷ ks)) ∙ ap (λ (z : List Item). z ++ k ∷ ks) (sym x.parts) ∙ y.parts
      in
      let two = one_split is_heading x.head y.head (x.movetext ++ (x.ending ++ k ∷ ks)) (y.movetext ++ y.ending) (tags_all_heading x.head x.given x.are_tags) y.heading heading y.starts whole in
      (one_split is_movetext x.movetext y.movetext (x.ending ++ k ∷ ks) y.ending (all_of is_movetext x.movetext x.moving) y.moving moving (no_movetext y.ending y.ends) two.1).1

  behind_marker : (o : Outcome) → x.ending ≡ items.Marker o ∷ [] → ⊥
  behind_marker o e =
      let prefix : x.ending ++ k ∷ ks ≡ items.Marker o ∷ k ∷ ks = ap (λ (z : List Item). z ++ k ∷ ks) e in
      let heading : Halts is_heading (x.ending ++ k ∷ ks) = subst (Halts is_heading) (sym prefix) refl in
      let moving : Halts is_movetext (x.ending ++ k ∷ ks) = subst (Halts is_movetext) (sym prefix) refl in
      not_two o k ks y.ending (sym prefix ∙ same_end (starts_more x.movetext (x.ending ++ k ∷ ks) x.starts heading) moving) y.ends

  before_bracket : x.ending ≡ [] → HasBegun x.movetext → k ≡ items.TagOpen → ⊥
  before_bracket e begun bracket =
      let prefix : x.ending ++ k ∷ ks ≡ items.TagOpen ∷ ks = ap (λ (z : List Item). z ++ k ∷ ks) e ∙ ap (λ (i : Item). i ∷ ks) bracket in
      let moving : Halts is_movetext (x.ending ++ k ∷ ks) = subst (Halts is_movetext) (sym prefix) refl in
      not_bracket ks y.ending (sym prefix ∙ same_end (begun_halts x.movetext (x.ending ++ k ∷ ks) begun) moving) y.ends

  module _ (last : List ℕ) (s : Spells (place_behind GameStart is) rest (k ∷ ks) last) where
    by_end : Ends x.movetext x.ending g.outcome rest → ⊥
    by_end (inl e) = behind_marker g.outcome e
    by_end (inr (e, o, inl none)) =
        (let z : k ∷ ks ≡ [] = none_spelled (place_behind GameStart is) (k ∷ ks) last (subst (λ (r : List ℕ). Spells (place_behind GameStart is) r (k ∷ ks) last) none s) in cc)
    by_end (inr (e, o, inr (begun, more, bracket))) =
        before_bracket e begun (bracket_item (place_behind GameStart is) k ks more last (ends_outside is rest g x e begun) (subst (λ (r : List ℕ). Spells (place_behind GameStart is) r (k ∷ ks) last) bracket s))

    pub no_more : ⊥
    no_more = by_end x.ends

none_behind : (is ks : List Item) (rest last : List ℕ) (g h : Game) → Gives is rest g → Gives (is ++ ks) last h → Spells (place_behind GameStart is) rest ks last → ks ≡ []
none_behind is [] rest last g h x y s = refl
none_behind is (k ∷ ks) rest last g h x y s = absurd (no_more is k ks rest g x (given_parts (is ++ k ∷ ks) last h y) last s)

-- ---- the start of a text

abbrev Both : Game → Game → ℕ → ℕ → Type 0
Both g h m n = (g ≡ h) × (m ≡ n)

-- the shorter one first
in_order : (input : List ℕ) (g h : Game) (m n : ℕ) → (x : BeginsWithGame input g m) (y : BeginsWithGame input h n) → length x.items ≤ length y.items → Both g h m n
in_order input g h m n x y le =
    let c = one_spelling GameStart input x.items y.items x.rest y.rest x.spelled y.spelled le in
    let none = none_behind x.items c.0 x.rest y.rest g h x.gives (subst (λ (z : List Item). Gives z y.rest h) c.1 y.gives) c.2 in
    let same : x.items ≡ y.items = sym (append-nil x.items) ∙ ap (λ (z : List Item). x.items ++ z) (sym none) ∙ sym c.1 in
    let rests : x.rest ≡ y.rest = subst (λ (z : List Item). Spells (place_behind GameStart x.items) x.rest z y.rest) none c.2 in
    let lengths = ap length rests in
    (one_reading x.items y.items x.rest y.rest g h same x.gives y.gives, omega (arith, lengths, x.counted, y.counted))

turned : (g h : Game) (m n : ℕ) → Both h g n m → Both g h m n
turned g h m n b = (sym b.0, sym b.1)

pub either : (m n : ℕ) → (m ≤ n) ⊎ (n ≤ m)
either m n = elim (eq-zero-or-pos (m - n)) [ inl z ↦ inl (omega (arith, z)) | inr p ↦ inr (omega (arith, p)) ]

-- a text begins with one game, and that takes so many bytes
pub one_game : (input : List ℕ) (g h : Game) (m n : ℕ) → BeginsWithGame input g m → BeginsWithGame input h n → (g ≡ h) × (m ≡ n)
one_game input g h m n x y =
    elim (either (length x.items) (length y.items)) [ inl le ↦ in_order input g h m n x y le | inr le ↦ turned g h m n (in_order input h g n m y x le) ]

-- ---- white texts

white_front : (is ks : List Item) → list_all is_white (is ++ ks) ≡ true → list_all is_white is ≡ true
white_front [] ks e = refl
white_front (i ∷ is) ks e = more (is_white i) (list_all is_white (is ++ ks)) e (white_front is ks)
  where
    more : (a b : Bool) → a && b ≡ true → (b ≡ true → list_all is_white is ≡ true) → a && list_all is_white is ≡ true
    more true b h f = f h
    more false b h f = absurd cc

pub white_no_game : (input : List ℕ) (g : Game) (n : ℕ) → IsWhite input → BeginsWithGame input g n → ⊥
white_no_game input g n w x = elim (either (length x.items) (length w.items)) [
  | inl le ↦ (let c = one_spelling GameStart input x.items w.items x.rest [] x.spelled w.spelled le in apart (white_front x.items c.0 (ap (list_all is_white) (sym c.1) ∙ w.white)) x.some)
  | inr le ↦
      (let c = one_spelling GameStart input w.items x.items [] x.rest w.spelled x.spelled le in
      let none = none_spelled (place_behind GameStart w.items) c.0 x.rest c.2 in
      let same : w.items ≡ x.items = sym (append-nil w.items) ∙ ap (λ (z : List Item). w.items ++ z) (sym none) ∙ sym c.1 in
      apart (ap (list_all is_white) (sym same) ∙ w.white) x.some)
]
