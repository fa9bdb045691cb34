-- What a reader of a game refuses, no game has.
use Rattle.std.proofs.Common.{◌≡◌, ◌⊎◌, ◌≢◌, ℕ, Bool, true, false, List, [], ◌∷◌, ◌++◌, length, Some, None, refl, sym, subst, ap, ◌∙◌, arith, append_assoc, append-nil}
use Rattle.std.specs.Prelude.{Option, Err, if◌then◌else◌}
use Rattle.std.specs.Str.{byte}
use mathlib.Core.Logic.{inl, inr}
use Rattle.chess_types.specs.board.Position.{PositionParts}
use Rattle.chess_items.specs.Items as items
use Rattle.chess_items.specs.Items.{Item}
use Rattle.chess_items.specs.declared.fault.FaultKind.{FaultKind}
use Rattle.chess_items.specs.declared.fault.FaultKind.TheVariants.{Memory, TooLarge}
use Rattle.chess_items.specs.declared.fault.PgnFault.{PgnFault}
use Rattle.chess_items.proofs.FoundLemmas.{some_is}
use Rattle.chess_pgn.specs.Games.{Game}
use Rattle.chess_pgn.specs.Grammar.{Element, element, elements, few_are_open}
use Rattle.chess_pgn.specs.Reading.{Ends, Gives, is_heading, is_movetext, is_tagged, remarks}
use Rattle.chess_pgn.specs.Tags.{AreTags, start_in}
use Rattle.chess_pgn.specs.steps.HeaderCode.{HasTaken, heading, heads_on, is_begun, Heading}
use Rattle.chess_pgn.specs.steps.HeaderCode as header_code
use Rattle.chess_pgn.specs.steps.OtherCode.{Finds}
use Rattle.chess_pgn.specs.steps.ReaderCode.{MayNotEnd, NoStart, RefusesFirst, RefusesItem, Strays, TakesItem, takes_when}
use Rattle.chess_pgn.specs.steps.Readings.{Exceeds, FailsWith, FailsHere, fresh, goes_on, is_nil}
use Rattle.chess_pgn.specs.declared.reader.Reader.{Reader}
use Rattle.chess_pgn.specs.declared.reader.header.Header.{Header}
use Rattle.chess_pgn.specs.declared.reader.header.Part.{Part}
use Rattle.chess_pgn.specs.declared.reader.header.Part.TheVariants.{Nothing}
use Rattle.chess_pgn.specs.declared.reader.moves.Interrupted.{Interrupted}
use Rattle.chess_pgn.proofs.ChainLemmas.{InHead, InMovetext, Moving, Progress, movetext_first}
use Rattle.chess_pgn.proofs.CountLemmas.{Fits}
use Rattle.chess_pgn.proofs.DerivedLemmas.{read_again}
use Rattle.chess_pgn.proofs.GivenLemmas.{none_go_on, none_on, tags_once, tags_read}
use Rattle.chess_pgn.proofs.RefuseLemmas.{end_fails}
use Rattle.chess_pgn.proofs.SplitLemmas.{All, Halts, all_of, begun_halts, ending_halts, one_split, starts_more, tags_all_heading, apart, first_is, rest_is}
use Rattle.chess_pgn.proofs.StepLemmas.{no_lines}

some_none : {A : Type 0} (x : A) (o : Option A) → o ≡ Some x → o ≡ None → ⊥
some_none x o e f = (let k : Some x ≡ None = sym e ∙ f in cc)

-- ---- items

all_behind : (p : Item → Bool) (xs ys : List Item) → All p (xs ++ ys) → All p ys
all_behind p [] ys h = h
all_behind p (x ∷ xs) ys h = all_behind p xs ys h.1

all_first : (p : Item → Bool) (xs : List Item) (x : Item) (ys : List Item) → All p (xs ++ x ∷ ys) → p x ≡ true
all_first p xs x ys h = (all_behind p xs (x ∷ ys) h).0

none_left : (tail : List Item) → All is_heading tail → Halts is_heading tail → tail ≡ []
none_left [] h s = refl
none_left (i ∷ tail) h s = absurd (apart h.0 s)

none_both : (xs ys : List Item) → xs ++ ys ≡ [] → (xs ≡ []) × (ys ≡ [])
none_both [] ys e = (refl, e)
none_both (x ∷ xs) ys e = absurd cc

-- items that pass, and one more: it is in a prefix whose tail doesn't pass, or next to it
parted : (p : Item → Bool) (xs : List Item) (x : Item) (more prefix tail : List Item) → xs ++ x ∷ more ≡ prefix ++ tail → All p xs → Halts p tail
    → ((rest : List Item) × (prefix ≡ xs ++ x ∷ rest)) ⊎ ((prefix ≡ xs) × (tail ≡ x ∷ more))
parted p [] x more [] tail e h s = inr (refl, sym e)
parted p [] x more (i ∷ prefix) tail e h s = inl (prefix, ap (λ (z : Item). z ∷ prefix) (sym (first_is x i more (prefix ++ tail) e)))
parted p (a ∷ xs) x more [] tail e h s = absurd (apart h.0 (subst (Halts p) (sym e) s))
parted p (a ∷ xs) x more (i ∷ prefix) tail e h s =
    elim (parted p xs x more prefix tail (rest_is a i (xs ++ x ∷ more) (prefix ++ tail) e) h.1 s) [
      | inl r ↦ inl (r.0, same r.1)
      | inr r ↦ inr (same r.0, r.1)
    ]
  where
    same : {is : List Item} → prefix ≡ is → i ∷ prefix ≡ a ∷ is
    same {is} k = ap (λ (z : Item). z ∷ prefix) (sym (first_is a i (xs ++ x ∷ more) (prefix ++ tail) e)) ∙ ap (λ (z : List Item). a ∷ z) k

pub elements_both : (xs bs : List Item) → elements (xs ++ bs) ≡ elements xs ++ elements bs
elements_both [] bs = refl
elements_both (a ∷ xs) bs = ap (λ (z : List Element). element a ++ z) (elements_both xs bs) ∙ sym (append_assoc (element a) (elements xs) (elements bs))

tagged_stands : (i : Item) → is_tagged i ≡ true → (is_heading i ≡ true) × (is_movetext i ≡ false)
tagged_stands items.TagClose e = (refl, refl)
tagged_stands (items.Name n) e = (refl, refl)
tagged_stands items.Quote e = (refl, refl)
tagged_stands (items.Stretch t) e = (refl, refl)
tagged_stands (items.Escaped b) e = (refl, refl)
tagged_stands _ e = absurd cc

-- ---- the tags

at_end_of : (h : Heading) (given : List (List ℕ × List ℕ)) → heads_on h [] ≡ Some given → (is_begun h.part ≡ false) × (h.read ≡ given)
at_end_of h given e = by (is_begun h.part) refl e
  where
    by : (b : Bool) → is_begun h.part ≡ b → (if b then None else Some h.read) ≡ Some given → (is_begun h.part ≡ false) × (h.read ≡ given)
    by true f k = absurd cc
    by false f k = (f, some_is h.read given k)

-- the tags that some items spell are those that were read of them
read_tags : {A : Type 0} (is : List Item) (header : Header A) (given : List (List ℕ × List ℕ)) → HasTaken is header → AreTags is given → (is_begun header.part ≡ false) × Finds given header.found.tags
read_tags is header given h are =
    let e = at_end_of (heading h.0 header) given (sym (h.2 []) ∙ ap (heads_on (header_code.fresh [])) (append-nil is) ∙ tags_read [] given is are) in
    (e.0, subst (λ (z : List (List ℕ × List ℕ)). Finds z header.found.tags) e.1 h.1)

stray_step : (part : Part) (read : List (List ℕ × List ℕ)) (name value : List ℕ) (item : Item) → is_begun part ≡ false → is_tagged item ≡ true
    → header_code.step (record { read = read; part = part; name = name; value = value }) item ≡ None
stray_step Nothing read name value items.TagClose e t = refl
stray_step Nothing read name value (items.Name n) e t = refl
stray_step Nothing read name value items.Quote e t = refl
stray_step Nothing read name value (items.Stretch x) e t = refl
stray_step Nothing read name value (items.Escaped b) e t = refl
stray_step _ read name value _ e t = absurd cc

-- ---- the movetext

module _ {A : Type 0} (head0 m0 is : List Item) (r : Reader A) (h : InMovetext head0 m0 r) (rest : List ℕ) (game : Game) (g : Gives is rest game) (same : head0 ≡ g.head) where
  one_start : h.first ≡ game.tree.start
  one_start =
      let tags = tags_once head0 h.tags g.given h.are_tags (subst (λ (z : List Item). AreTags z g.given) (sym same) g.are_tags) in
      some_is h.first game.tree.start (sym h.told ∙ ap start_in tags ∙ g.start)

  -- the state of reading goes on to the game
  goes_to : (es : List Element) → elements g.movetext ≡ elements m0 ++ es → (goes_on es h.reading ≡ Some (game.tree.comment, game.tree.below)) × (few_are_open (length h.reading.interrupted) es ≡ true)
  goes_to es e = (
    sym (h.given es)
        ∙ ap (λ (z : List Element). goes_on z (fresh h.first (remarks [] head0))) (sym e)
        ∙ ap (λ (z : PositionParts). goes_on (elements g.movetext) (fresh z (remarks [] head0))) one_start
        ∙ ap (λ (z : List Item). goes_on (elements g.movetext) (fresh game.tree.start (remarks [] z))) same
        ∙ read_again (elements g.movetext) game.tree.start (remarks [] g.head) game.tree.comment game.tree.below g.derives,
    sym (h.few es) ∙ ap (few_are_open 0) (sym e) ∙ g.few,
  )

  -- no item more
  none_here : g.movetext ≡ m0 → FailsHere r.moves → ⊥
  none_here e fails = some_none (game.tree.comment, game.tree.below) (goes_on [] h.reading) (goes_to [] (ap elements e ∙ sym (append-nil (elements m0)))).0 (fails h.reading h.now)

  -- so it went on with the item
  none_after : (item : Item) (more : List Item) → g.movetext ≡ m0 ++ item ∷ more → FailsWith (element item) r.moves → ⊥
  none_after item more e fails =
      let es : List Element = element item ++ elements more in
      let go = goes_to es (ap elements e ∙ elements_both m0 (item ∷ more)) in
      elim (fails h.reading h.now (elements more)) [
        | inl none ↦ some_none (game.tree.comment, game.tree.below) (goes_on es h.reading) go.0 none
        | inr many ↦ apart go.1 many
      ]

  none_large : Fits game → (item : Item) (more : List Item) → g.movetext ≡ m0 ++ item ∷ more → Exceeds (element item) r.moves → ⊥
  none_large within item more e exceeds =
      let es : List Element = element item ++ elements more in
      let go = goes_to es (ap elements e ∙ elements_both m0 (item ∷ more)) in
      elim (exceeds h.reading h.now (elements more) game.tree.comment game.tree.below go.0) [
        | inl deep ↦ (let w = within.deep in absurd (omega (arith, deep, w)))
        | inr many ↦ (let w = within.many in absurd (omega (arith, many, w)))
      ]

  -- the item is of the movetext, or ends it
  where_it_is : (item : Item) (more : List Item) → m0 ++ item ∷ more ≡ g.movetext ++ g.ending → ((after : List Item) × (g.movetext ≡ m0 ++ item ∷ after)) ⊎ ((g.movetext ≡ m0) × (g.ending ≡ item ∷ more))
  where_it_is item more e = parted is_movetext m0 item more g.movetext g.ending e (all_of is_movetext m0 h.stands) (ending_halts g.movetext g.ending game.outcome rest g.ends).1

  moves_so : (item : Item) (after : List Item) → g.movetext ≡ m0 ++ item ∷ after → is_movetext item ≡ true
  moves_so item after e = all_first is_movetext m0 item after (subst (All is_movetext) e (all_of is_movetext g.movetext g.moving))

  -- the end is a marker
  ends_so : (item : Item) (more : List Item) → g.ending ≡ item ∷ more → (is_movetext item ≡ true) ⊎ (is_tagged item ≡ true) → ⊥
  ends_so item more e bad = by g.ends
    where
      wrong : (i : Item) (is : List Item) → items.Marker game.outcome ∷ [] ≡ i ∷ is → (is_movetext i ≡ true) ⊎ (is_tagged i ≡ true) → ⊥
      wrong i is k (inl b) = apart b (sym (ap is_movetext (same_first k)))
        where
          same_first : items.Marker game.outcome ∷ [] ≡ i ∷ is → items.Marker game.outcome ≡ i
          same_first l = cc
      wrong i is k (inr b) = apart b (sym (ap is_tagged (same_first k)))
        where
          same_first : items.Marker game.outcome ∷ [] ≡ i ∷ is → items.Marker game.outcome ≡ i
          same_first l = cc

      by : Ends g.movetext g.ending game.outcome rest → ⊥
      by (inl m) = wrong item more (sym m ∙ e) bad
      by (inr m) = (let k : [] ≡ item ∷ more = sym m.0 ∙ e in cc)

  refused_there : (item : Item) (more : List Item) (kind : FaultKind) → m0 ++ item ∷ more ≡ g.movetext ++ g.ending → Fits game → (kind ≡ Memory → ⊥) → RefusesItem item kind r.moves → ⊥
  refused_there item more kind e within not = by kind not
    where
      moved : is_movetext item ≡ true → ((after : List Item) → g.movetext ≡ m0 ++ item ∷ after → ⊥) → ⊥
      moved m no_after = elim (where_it_is item more e) [
        | inl x ↦ no_after x.0 x.1
        | inr x ↦ ends_so item more x.1 (inl m)
      ]

      ended : is_movetext item ≡ false → FailsHere r.moves → ⊥
      ended m fails = elim (where_it_is item more e) [
        | inl x ↦ apart (moves_so item x.0 x.1) m
        | inr x ↦ none_here x.0 fails
      ]

      strays : is_tagged item ≡ true → ⊥
      strays t = elim (where_it_is item more e) [
        | inl x ↦ apart (moves_so item x.0 x.1) (tagged_stands item t).1
        | inr x ↦ ends_so item more x.1 (inr t)
      ]

      plain : ((is_movetext item ≡ true) × FailsWith (element item) r.moves) ⊎ (((is_movetext item ≡ false) × FailsHere r.moves) ⊎ (is_tagged item ≡ true)) → ⊥
      plain (inl x) = moved x.0 (λ after k. none_after item after k x.1)
      plain (inr (inl x)) = ended x.0 x.1
      plain (inr (inr x)) = strays x

      by : (kind : FaultKind) → (kind ≡ Memory → ⊥) → RefusesItem item kind r.moves → ⊥
      by Memory not refuses = not refl
      by TooLarge not refuses = moved refuses.0 (λ after k. none_large within item after k refuses.1)
      by _ not refuses = plain refuses

  -- the game ends here
  ends_here : m0 ≡ g.movetext ++ g.ending → g.movetext ≡ m0
  ends_here e =
      sym (one_split is_movetext m0 g.movetext [] g.ending (all_of is_movetext m0 h.stands) (all_of is_movetext g.movetext g.moving) tt (ending_halts g.movetext g.ending game.outcome rest g.ends).1 (append-nil m0 ∙ e)).0

  -- but not where the bracket of a tag was refused
  bracket_there : (kind : FaultKind) → m0 ≡ g.movetext ++ g.ending → (kind ≡ Memory → ⊥) → RefusesItem items.TagOpen kind r.moves → ⊥
  bracket_there kind e not = by kind not
    where
      plain : ((false ≡ true) × FailsWith (element items.TagOpen) r.moves) ⊎ (((false ≡ false) × FailsHere r.moves) ⊎ (false ≡ true)) → ⊥
      plain (inl x) = (let k = x.0 in cc)
      plain (inr (inl x)) = none_here (ends_here e) x.1
      plain (inr (inr x)) = cc

      by : (kind : FaultKind) → (kind ≡ Memory → ⊥) → RefusesItem items.TagOpen kind r.moves → ⊥
      by Memory not refuses = not refl
      by TooLarge not refuses = (let k : false ≡ true = refuses.0 in cc)
      by _ not refuses = plain refuses

  -- nor where a variation is open
  open_there : m0 ≡ g.movetext ++ g.ending → r.moves.interrupted.items ≢ [] → ⊥
  open_there e unclosed =
      none_here (ends_here e)
      (λ s now. end_fails r.moves.analysis r.moves.interrupted.items r.moves.played r.moves.comments.items r.moves.from (some_open r.moves.interrupted.items unclosed) s now)
    where
      some_open : (lines : List Interrupted) → lines ≢ [] → is_nil lines ≡ false
      some_open [] n = absurd (n refl)
      some_open (x ∷ xs) n = refl

-- ---- a game of these items and others

-- a game's items
abbrev tail_of : {is : List Item} {rest : List ℕ} {game : Game} → Gives is rest game → List Item
tail_of g = g.movetext ++ g.ending

tail_halts : (is : List Item) (rest : List ℕ) (game : Game) (g : Gives is rest game) → Halts is_heading (tail_of g)
tail_halts is rest game g = starts_more g.movetext g.ending g.starts (ending_halts g.movetext g.ending game.outcome rest g.ends).0

head_heads : (is : List Item) (rest : List ℕ) (game : Game) (g : Gives is rest game) → All is_heading g.head
head_heads is rest game g = tags_all_heading g.head g.given g.are_tags

-- where the movetext had begun
module _ {A : Type 0} (taken : List Item) (t : Reader A) (m : Moving taken t) (is : List Item) (rest : List ℕ) (game : Game) (g : Gives is rest game) where
  moving_parts : (others : List Item) → is ≡ taken ++ others → (m.head ≡ g.head) × (m.movetext ++ others ≡ tail_of g)
  moving_parts others e =
      one_split is_heading m.head g.head (m.movetext ++ others) (tail_of g) (all_of is_heading m.head m.there.heading) (head_heads is rest game g) (begun_halts m.movetext others m.begun) (tail_halts is rest game g)
      (sym (append_assoc m.head m.movetext others) ∙ ap (λ (z : List Item). z ++ others) (sym m.parts) ∙ sym e ∙ g.parts)

-- ---- the head

module _ {A : Type 0} (taken : List Item) (t : Reader A) (h : InHead taken t) (is : List Item) (rest : List ℕ) (game : Game) (g : Gives is rest game) where
  -- all the items are the head
  all_head : is ≡ taken → (g.movetext ≡ []) × (g.ending ≡ []) × (g.head ≡ taken)
  all_head e =
      let none = none_left (tail_of g) (all_behind is_heading g.head (tail_of g) (subst (All is_heading) (sym e ∙ g.parts) (all_of is_heading taken h.heading))) (tail_halts is rest game g) in
      let b = none_both g.movetext g.ending none in
      (b.0, b.1, sym (sym e ∙ g.parts ∙ ap (λ (z : List Item). g.head ++ z) none ∙ append-nil g.head))

  -- the item is of the head, or what follows it begins with the item
  head_parts : (item : Item) (more : List Item) → is ≡ taken ++ item ∷ more → ((after : List Item) × (g.head ≡ taken ++ item ∷ after)) ⊎ ((g.head ≡ taken) × (tail_of g ≡ item ∷ more))
  head_parts item more e = parted is_heading taken item more g.head (tail_of g) (sym e ∙ g.parts) (all_of is_heading taken h.heading) (tail_halts is rest game g)

  no_start : g.head ≡ taken → NoStart t.header → ⊥
  no_start e none =
      let r = read_tags taken t.header g.given h.taken (subst (λ (z : List Item). AreTags z g.given) e g.are_tags) in
      some_none game.tree.start (start_in g.given) g.start (none g.given r.1)

  begun_none : g.head ≡ taken → is_begun t.header.part ≡ true → ⊥
  begun_none e begun = apart begun (read_tags taken t.header g.given h.taken (subst (λ (z : List Item). AreTags z g.given) e g.are_tags)).0

  not_first : (item : Item) (more : List Item) → tail_of g ≡ item ∷ more → is_heading item ≡ true → ⊥
  not_first item more e k = apart k (subst (Halts is_heading) e (tail_halts is rest game g))

  strays_none : (item : Item) (more : List Item) (fault : PgnFault) → is ≡ taken ++ item ∷ more → Strays item fault t.header → ⊥
  strays_none item more fault e (inl x) = elim (head_parts item more e) [
    | inl p ↦ none_go_on taken item t.header fault h.taken x.0 x.1 p.0 g.given (subst (λ (z : List Item). AreTags z g.given) p.1 g.are_tags)
    | inr p ↦ begun_none p.0 x.0
  ]
  strays_none item more fault e (inr x) = elim (head_parts item more e) [
    | inl p ↦
        none_on taken item t.header h.taken (λ read. stray_step t.header.part read t.header.name.items t.header.value.items item x.0 x.1) p.0 g.given (subst (λ (z : List Item). AreTags z g.given) p.1 g.are_tags)
    | inr p ↦ not_first item more p.1 (tagged_stands item x.1).0
  ]

  first_none : (item : Item) (more : List Item) (kind : FaultKind) → is ≡ taken ++ item ∷ more → is_heading item ≡ false → Fits game → (kind ≡ Memory → ⊥) → RefusesFirst item kind t → ⊥
  first_none item more kind e heads within not refuses = elim (head_parts item more e) [
    | inl p ↦ apart (all_first is_heading taken item p.0 (subst (All is_heading) p.1 (head_heads is rest game g))) heads
    | inr p ↦ at p.0 p.1 refuses
  ]
    where
      at : g.head ≡ taken → tail_of g ≡ item ∷ more → RefusesFirst item kind t → ⊥
      at same tail (inl none) = no_start same none
      at same tail (inr x) = refused_there taken [] is x.0 (movetext_first taken t x.0 h x.1) rest game g (sym same) item more kind (sym tail) within not x.2

-- ---- what is refused

-- a game doesn't go on with what was refused
pub refused_more : {A : Type 0} (is : List Item) (item : Item) (fault : PgnFault) (t u : Reader A) → Progress is t → TakesItem t item (Err fault) u → (fault.kind ≡ Memory → ⊥) → (more : List Item) (rest : List ℕ) (game : Game)
    → Fits game → Gives (is ++ item ∷ more) rest game → ⊥
refused_more is item fault t u (inl h) takes not more rest game within g = by (subst (λ (b : Bool). takes_when b item (Err fault) t u) h.moving takes.0)
  where
    by : (fault.kind ≡ Memory) ⊎ (Strays item fault t.header ⊎ ((is_heading item ≡ false) × RefusesFirst item fault.kind t)) → ⊥
    by (inl memory) = not memory
    by (inr (inl x)) = strays_none is t h (is ++ item ∷ more) rest game g item more fault refl x
    by (inr (inr x)) = first_none is t h (is ++ item ∷ more) rest game g item more fault.kind refl x.0 within not x.1
refused_more is item fault t u (inr m) takes not more rest game within g =
    let p = moving_parts is t m (is ++ item ∷ more) rest game g (item ∷ more) refl in
    refused_there m.head m.movetext (is ++ item ∷ more) t m.there rest game g p.0 item more fault.kind p.1 within not (subst (λ (b : Bool). takes_when b item (Err fault) t u) m.there.moving takes.0)

-- nor does it end before a bracket that was refused
pub refused_bracket : {A : Type 0} (is : List Item) (item : Item) (fault : PgnFault) (t u : Reader A) → Progress is t → TakesItem t item (Err fault) u → (fault.kind ≡ Memory → ⊥) → item ≡ items.TagOpen → (rest more : List ℕ)
    → rest ≡ byte "[" ∷ more → (game : Game) → Gives is rest game → ⊥
refused_bracket is item fault t u (inl h) takes not bracket rest more e game g =
    let a = all_head is t h is rest game g refl in
    by (subst (λ (z : List Item). Ends z g.ending game.outcome rest) a.0 g.ends) a.1
  where
    by : Ends [] g.ending game.outcome rest → g.ending ≡ [] → ⊥
    by (inl m) n = (let k : items.Marker game.outcome ∷ [] ≡ [] = sym m ∙ n in cc)
    by (inr (none, outcome, inl empty)) n = (let k : byte "[" ∷ more ≡ [] = sym e ∙ empty in cc)
    by (inr (none, outcome, inr begun)) n = begun.0
refused_bracket is item fault t u (inr m) takes not bracket rest more e game g =
    let p = moving_parts is t m is rest game g [] (sym (append-nil is)) in
    bracket_there m.head m.movetext is t m.there rest game g p.0 fault.kind (sym (append-nil m.movetext) ∙ p.1) not
    (subst (λ (i : Item). RefusesItem i fault.kind t.moves) bracket (subst (λ (b : Bool). takes_when b item (Err fault) t u) m.there.moving takes.0))

-- ---- the end of the text

-- where a tag or a variation is open, or the tags give no position, no game is at its end
pub unended : {A : Type 0} (is : List Item) (t : Reader A) → Progress is t → MayNotEnd t → (game : Game) → Gives is [] game → ⊥
unended is t (inl h) why game g =
    let a = all_head is t h is [] game g refl in
    by a.2 why
  where
    by : g.head ≡ is → MayNotEnd t → ⊥
    by same (inl begun) = begun_none is t h is [] game g same begun
    by same (inr (inl unclosed)) = unclosed (no_lines h.lead.outer t.moves.interrupted.items h.lead.pends)
    by same (inr (inr x)) = no_start is t h is [] game g same x.1
unended is t (inr m) why game g = by why
  where
    p : (m.head ≡ g.head) × (m.movetext ++ [] ≡ tail_of g)
    p = moving_parts is t m is [] game g [] (sym (append-nil is))

    by : MayNotEnd t → ⊥
    by (inl begun) = apart begun m.there.outside
    by (inr (inl unclosed)) = open_there m.head m.movetext is t m.there [] game g p.0 (sym (append-nil m.movetext) ∙ p.1) unclosed
    by (inr (inr x)) = apart m.there.moving x.0
