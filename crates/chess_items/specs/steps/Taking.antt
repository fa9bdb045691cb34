-- Items that are taken from a text, one after another.
--   SpellsFrom  an input is these items, with the number of bytes before each, and then the rest
--   Takes       the taker took these, and wanted another each time
--   Whatever    whatever comes after a state, if anything may come
--   Brackets    the taker took the bracket of a tag
--   Offered     what becomes of an item that is offered
--   Settles     what is used after an offer
--   Asked       no read was made, or the last was made before all had come, where at most `limit` bytes had, which did not decide the item after those taken
--               so far
--   Steps       one item is taken, or none
--   Ran         items are taken, and why no more are
--   RunBreaks   items are taken, and then there was no memory, or a read broke off
use Rattle.std.specs.Prelude.{◌≡◌, ◌≢◌, ℕ, ◌+◌, ◌-◌, ◌≤◌, ◌<◌, ◌⊎◌, take, Bool, List, [], ◌∷◌, ◌++◌, length, Some, None, Result, Ok, Err}
use Rattle.std.specs.List.{list_all}
use Rattle.byte_streams.specs.Calls.{Calls, joined}
use Rattle.chess_items.specs.Items.{Item, TagOpen, IsItem, is_white, place_after}
use Rattle.chess_items.specs.steps.ItemAt.{item_at}
use Rattle.chess_items.specs.steps.Deciding.{Decides}
use Rattle.chess_items.specs.steps.Texts.{Keeps, LastCame, Needs, Oversized, size}
use Rattle.chess_items.specs.declared.at_hand.Fault.{Fault}
use Rattle.chess_items.specs.declared.at_hand.Fault.TheVariants as fault
use Rattle.chess_items.specs.declared.fault.PgnFault.{PgnFault}
use Rattle.chess_items.specs.declared.place.Place.{Place}
use Rattle.chess_items.specs.declared.place.Place.TheVariants.{GameStart}
use Rattle.chess_items.specs.declared.taker.Taken.{Taken}
use Rattle.chess_items.specs.declared.taker.Taken.TheVariants.{GoesOn, Ends, Leaves}
use Rattle.chess_items.specs.declared.taking.Stop.{Stop}
use Rattle.chess_items.specs.declared.taking.Stop.TheVariants as stop
use Rattle.chess_items.specs.declared.taking.Step.{Step}
use Rattle.chess_items.specs.declared.taking.Step.TheVariants as step
use Rattle.chess_items.specs.declared.taking.Stopped.{Stopped}

-- a step of the taker: the item, how many bytes come before it, and the answer
abbrev pub TakesOne : Type 0 → Type 1
TakesOne T = T → ℕ → Item → Result Taken PgnFault → T → Type 0

abbrev pub SpellsFrom : ℕ → Place → List ℕ → List (ℕ × Item) → List ℕ → Type 0
SpellsFrom at place input [] rest = input ≡ rest
SpellsFrom at place input (x ∷ items) rest =
    (text next : List ℕ) × (input ≡ text ++ next) × (x.0 ≡ at) × IsItem place x.1 text next × SpellsFrom (at + length text) (place_after place x.1) next items rest

abbrev pub Takes : {T : Type 0} → TakesOne T → T → List (ℕ × Item) → T → Type 0
Takes takes t [] u = t ≡ u
Takes {T} takes t (x ∷ items) u = (mid : T) × takes t x.0 x.1 (Ok GoesOn) mid × Takes takes mid items u

-- the place after the items
abbrev pub behind : Place → List (ℕ × Item) → Place
behind place [] = place
behind place (x ∷ items) = behind (place_after place x.1) items

-- each item is whitespace, a mark or a hidden line
abbrev pub all_white : List (ℕ × Item) → Bool
all_white items = list_all (λ (x : ℕ × Item). is_white x.1) items

-- so that no game ended before it
abbrev pub Brackets : {T : Type 0} → TakesOne T → ℕ → T → T → Type 0
Brackets takes at t u = takes t at TagOpen (Ok GoesOn) u ⊎ takes t at TagOpen (Ok Ends) u

-- an item at a place, of `used` bytes, was offered, which may be at most `most`
abbrev pub Offered : {T : Type 0} → TakesOne T → ℕ → ℕ → Place → Item → ℕ → T → T → Step → Type 0
Offered takes at most place item used t u (step.On next len white) = takes t at item (Ok GoesOn) u × (used ≤ most) × (len ≡ used) × (next ≡ place_after place item) × (white ≡ is_white item)
Offered takes at most place item used t u (step.Full next len white) = takes t at item (Ok Ends) u × (used ≤ most) × (len ≡ used) × (next ≡ place_after place item) × (white ≡ is_white item)
Offered takes at most place item used t u (step.Stops stop.Left) = takes t at item (Ok Leaves) u
Offered takes at most place item used t u (step.Stops (stop.Refused fault)) = takes t at item (Err fault) u
Offered takes at most place item used t u (step.Stops stop.TooLarge) = (most < used) × (item ≡ TagOpen → Brackets takes at t u) × ((u ≡ t) ⊎ Brackets takes at t u)
Offered takes at most place item used t u (step.Stops stop.Full) = ⊥
Offered takes at most place item used t u (step.Stops stop.End) = ⊥
Offered takes at most place item used t u (step.Stops stop.NoItem) = ⊥

module _ {X : Type 0} (comes : X → List ℕ → X → Type 0) (at_hand : X → List ℕ) (all sound : X → Type 0) (reads : X → ℕ) where
  -- `left` bytes are left, or nothing is used
  abbrev pub Settles : ℕ → Step → X → X → Type 0
  Settles left (step.On next used white) old new = Keeps comes at_hand all sound reads left old new
  Settles left (step.Full next used white) old new = Keeps comes at_hand all sound reads left old new
  Settles left (step.Stops why) old new = new ≡ old

module _ {X T : Type 0} (comes : X → List ℕ → X → Type 0) (at_hand : X → List ℕ) (all sound : X → Type 0) (reads : X → ℕ) (takes : TakesOne T) where
  abbrev pub Whatever : X → (List ℕ → Type 0) → Type 0
  Whatever s P = (more : List ℕ) → (all s → more ≡ []) → P more

  -- one item is used
  pub record UsesItem (most : ℕ) (place : Place) (old : X) (pieces : List (List ℕ)) (new : X) (item : Item) (used : ℕ) : Type 0 where
    pub found : Whatever new (λ more. item_at place (at_hand old ++ (joined pieces ++ more)) ≡ Some (item, at_hand new ++ more))
    pub asked : Needs comes at_hand all reads most place old (joined pieces) new
    pub near : length (at_hand old) ≤ 65537 → length (at_hand new) ≤ 65536
    pub at_end : all old → (joined pieces ≡ []) × all new
    pub sound_still : sound new
    pub smaller : size at_hand reads new + 1 ≤ size at_hand reads old
    pub counted : length (at_hand old) + length (joined pieces) ≡ length (at_hand new) + used
    pub few : used ≤ most

  -- nothing is used
  pub record Rests (old : X) (pieces : List (List ℕ)) (new : X) : Type 0 where
    pub longer : at_hand new ≡ at_hand old ++ joined pieces
    pub at_end : all old → (joined pieces ≡ []) × all new
    pub sound_still : sound new

  -- this item comes next, and where it was brought by a read, at most one piece is after it
  pub record Next (place : Place) (old new : X) (item : Item) : Type 0 where
    pub rest : List ℕ
    pub found : Whatever new (λ more. item_at place (at_hand new ++ more) ≡ Some (item, rest ++ more))
    pub near : length (at_hand old) ≤ 65537 → length rest ≤ 65536
    pub bracket : item ≡ TagOpen → length (at_hand old) ≤ 65536 → length (at_hand new) ≤ 65536

  -- what comes next is no item
  pub record NoNext (most : ℕ) (place : Place) (new : X) : Type 0 where
    pub none : Whatever new (λ more. item_at place (at_hand new ++ more) ≡ None)
    pub decided : Decides place (at_hand new) ⊎ all new
    pub within : most < length (at_hand new) → Decides place (take (most + 1) (at_hand new))
    pub some : at_hand new ≢ []

  -- what comes next is too long, and no bracket before which a game ends
  pub record RunsPast (at most : ℕ) (place : Place) (new : X) (t u : T) : Type 0 where
    pub over : Whatever new (λ more. Oversized most place (at_hand new ++ more))
    pub bracket : Whatever new (λ more. (rest : List ℕ) → item_at place (at_hand new ++ more) ≡ Some (TagOpen, rest) → Brackets takes at t u)
    pub same : (u ≡ t) ⊎ Brackets takes at t u

  -- why no item is used
  abbrev pub AfterStop : ℕ → ℕ → Place → X → X → T → T → Stop → Type 0
  AfterStop at most place old new t u stop.Full = ⊥
  AfterStop at most place old new t u stop.Left = (item : Item) × Next place old new item × takes t at item (Ok Leaves) u
  AfterStop at most place old new t u (stop.Refused fault) = (item : Item) × Next place old new item × takes t at item (Err fault) u
  AfterStop at most place old new t u stop.End = all new × (at_hand new ≡ []) × (u ≡ t)
  AfterStop at most place old new t u stop.NoItem = NoNext most place new × (u ≡ t)
  AfterStop at most place old new t u stop.TooLarge = RunsPast at most place new t u

  -- one item is used, or none
  abbrev pub AfterStep : ℕ → ℕ → Place → X → List (List ℕ) → X → T → T → Step → Type 0
  AfterStep at most place old pieces new t u (step.On next used white) =
      (item : Item) × UsesItem most place old pieces new item used × takes t at item (Ok GoesOn) u × (next ≡ place_after place item) × (white ≡ is_white item)
  AfterStep at most place old pieces new t u (step.Full next used white) =
      (item : Item) × UsesItem most place old pieces new item used × takes t at item (Ok Ends) u × (next ≡ place_after place item) × (white ≡ is_white item)
  AfterStep at most place old pieces new t u (step.Stops why) = Rests old pieces new × AfterStop at most place old new t u why × Needs comes at_hand all reads most place old (joined pieces) new × (size at_hand reads new ≤ size at_hand reads old)

  -- bytes came, and one item is used, or none
  pub record Stepped (at most : ℕ) (place : Place) (old new : X) (t u : T) (one : Step) : Type 0 where
    pub pieces : List (List ℕ)
    pub came : Calls comes old pieces new
    pub after : AfterStep at most place old pieces new t u one

  abbrev pub Steps : ℕ → ℕ → Place → X → X → T → T → Result Step Fault → Type 0
  Steps at most place old new t u (Ok one) = Stepped at most place old new t u one
  Steps at most place old new t u (Err e) = Unit {0}

  -- the last read, before which the first of these items were taken
  pub record LastRead (limit : ℕ) (old : X) (came : List ℕ) (new : X) (t : T) (all_items : List (ℕ × Item)) : Type 0 where
    pub split : LastCame comes reads old came new
    pub few : length (at_hand old ++ joined split.earlier) ≤ limit
    pub items : List (ℕ × Item)
    pub others : List (ℕ × Item)
    pub front : all_items ≡ items ++ others
    pub rest : List ℕ
    pub last : T
    pub spelled : (more : List ℕ) → SpellsFrom 0 GameStart (at_hand old ++ (joined split.earlier ++ more)) items (rest ++ more)
    pub taken : Takes takes t items last
    pub undecided : Decides (behind GameStart items) rest → ⊥
    pub not_yet : all old → ⊥

  abbrev pub Asked : ℕ → X → List ℕ → X → T → List (ℕ × Item) → Type 0
  Asked limit old came new t items = (reads new ≡ reads old) ⊎ LastRead limit old came new t items

  -- the items are at the beginning of what was at hand and what came, whatever follows
  pub record Took (limit : ℕ) (old : X) (pieces : List (List ℕ)) (new : X) (items : List (ℕ × Item)) (at : ℕ) (place : Place) (white : Bool) : Type 0 where
    pub spelled : Whatever new (λ more. SpellsFrom 0 GameStart (at_hand old ++ (joined pieces ++ more)) items (at_hand new ++ more))
    pub counted : length (at_hand old) + length (joined pieces) ≡ length (at_hand new) + at
    pub few : at ≤ limit
    pub stands : place ≡ behind GameStart items
    pub whites : white ≡ all_white items
    pub at_end : all old → (joined pieces ≡ []) × all new
    pub sound_still : sound new

  -- the last item is used as well
  pub record RanFull (limit : ℕ) (old : X) (pieces : List (List ℕ)) (new : X) (t u : T) (at : ℕ) (place : Place) (white : Bool) : Type 0 where
    pub items : List (ℕ × Item)
    pub last : ℕ × Item
    pub took : Took limit old pieces new (items ++ last ∷ []) at place white
    pub mid : T
    pub taken : Takes takes t items mid
    pub ends : takes mid last.0 last.1 (Ok Ends) u
    pub asked : Asked limit old (joined pieces) new t items
    pub near : length (at_hand old) ≤ 65537 → length (at_hand new) ≤ 65536

  -- the next item isn't used, with this answer
  pub record RanUpTo (limit : ℕ) (old : X) (pieces : List (List ℕ)) (new : X) (t u : T) (at : ℕ) (place : Place) (white : Bool) (answer : Result Taken PgnFault) : Type 0 where
    pub items : List (ℕ × Item)
    pub took : Took limit old pieces new items at place white
    pub mid : T
    pub taken : Takes takes t items mid
    pub item : Item
    pub rest : List ℕ
    pub found : Whatever new (λ more. item_at place (at_hand new ++ more) ≡ Some (item, rest ++ more))
    pub answered : takes mid at item answer u
    pub asked : Asked limit old (joined pieces) new t items
    pub near : length (at_hand old) ≤ 65537 → length rest ≤ 65536
    pub bracket : item ≡ TagOpen → items ≢ [] → length (at_hand old) ≤ 65537 → length (at_hand new) ≤ 65536

  -- the text has ended
  pub record RanOut (limit : ℕ) (old : X) (pieces : List (List ℕ)) (new : X) (t u : T) (at : ℕ) (place : Place) (white : Bool) : Type 0 where
    pub items : List (ℕ × Item)
    pub took : Took limit old pieces new items at place white
    pub taken : Takes takes t items u
    pub asked : Asked limit old (joined pieces) new t items
    pub ended : all new
    pub nothing : at_hand new ≡ []

  -- what comes next is no item
  pub record RanAground (limit : ℕ) (old : X) (pieces : List (List ℕ)) (new : X) (t u : T) (at : ℕ) (place : Place) (white : Bool) : Type 0 where
    pub items : List (ℕ × Item)
    pub took : Took limit old pieces new items at place white
    pub taken : Takes takes t items u
    pub none : NoNext (limit - at) place new
    pub asked : Asked limit old (joined pieces) new t items

  -- what comes next reaches past the limit
  pub record RanOver (limit : ℕ) (old : X) (pieces : List (List ℕ)) (new : X) (t u : T) (at : ℕ) (place : Place) (white : Bool) : Type 0 where
    pub items : List (ℕ × Item)
    pub took : Took limit old pieces new items at place white
    pub mid : T
    pub taken : Takes takes t items mid
    pub exceeds : RunsPast at (limit - at) place new mid u
    pub asked : Asked limit old (joined pieces) new t items

  -- why no more items are used
  abbrev pub AfterRun : ℕ → X → List (List ℕ) → X → T → T → ℕ → Place → Bool → Stop → Type 0
  AfterRun limit old pieces new t u at place white stop.Full = RanFull limit old pieces new t u at place white
  AfterRun limit old pieces new t u at place white stop.Left = RanUpTo limit old pieces new t u at place white (Ok Leaves)
  AfterRun limit old pieces new t u at place white (stop.Refused fault) = RanUpTo limit old pieces new t u at place white (Err fault)
  AfterRun limit old pieces new t u at place white stop.End = RanOut limit old pieces new t u at place white
  AfterRun limit old pieces new t u at place white stop.NoItem = RanAground limit old pieces new t u at place white
  AfterRun limit old pieces new t u at place white stop.TooLarge = RanOver limit old pieces new t u at place white

  -- bytes came, and items are used up to where it stopped
  pub record RanOn (limit : ℕ) (old new : X) (t u : T) (s : Stopped) : Type 0 where
    pub pieces : List (List ℕ)
    pub came : Calls comes old pieces new
    pub after : AfterRun limit old pieces new t u s.at s.place s.white s.why

  abbrev pub Ran : ℕ → X → X → T → T → Result Stopped Fault → Type 0
  Ran limit old new t u (Ok s) = RanOn limit old new t u s
  Ran limit old new t u (Err e) = Unit {0}

  -- a read broke off; the bytes that had come don't decide the next item
  pub record RunBroke (limit : ℕ) (breaks : X → X → Type 0) (old new : X) (t : T) : Type 0 where
    pub pieces : List (List ℕ)
    pub mid : X
    pub came : Calls comes old pieces mid
    pub items : List (ℕ × Item)
    pub at : ℕ
    pub place : Place
    pub white : Bool
    pub took : Took limit old pieces mid items at place white
    pub last : T
    pub taken : Takes takes t items last
    pub undecided : Decides place (at_hand mid) → ⊥
    pub within : at + length (at_hand mid) ≤ limit
    pub not_yet : all old → ⊥
    pub not_all : all mid → ⊥
    pub breaks_off : breaks mid new

  -- there was no memory to read into, or for what was read
  pub record RunShort (limit : ℕ) (old new : X) (t : T) : Type 0 where
    pub pieces : List (List ℕ)
    pub came : Calls comes old pieces new
    pub items : List (ℕ × Item)
    pub asked : Asked limit old (joined pieces) new t items
    pub not_yet : all old → ⊥

  abbrev pub RunBreaks : ℕ → (X → X → Type 0) → X → X → T → Fault → Type 0
  RunBreaks limit breaks old new t fault.Memory = RunShort limit old new t
  RunBreaks limit breaks old new t fault.Read = RunBroke limit breaks old new t
