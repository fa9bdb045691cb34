-- Games of a source, one after another. The bytes that come are those of `chess_items/specs/Coming.antt`.
--   Games      the bytes at hand, how many were used before them, the fault that came, and how far the items of its game were used
--   MayGoOn    reading may go on: no fault came, or one of a game's text, from which bytes may be passed over
--   IsSound    where reading may go on, the source has ended where its end was seen
--   used_of    how many bytes were used; after want of memory, those before it came
--   IsPlaced   a fault of the text is after the bytes that were used before its game; a fault for want of memory has its place there
--   ReadsNeeded  no read was made, or the last, of at most 65,536 bytes, was made where no one game was at the start of the bytes before it,
--              whatever follows; so was each read before it, since fewer bytes say no more
--   EndsOpen   bytes end within an item, and those before it may be the beginning of a game; they are no more than a game may have, or white items alone
--              come before that one
--   HasGame    a game is at the start of the bytes at hand and those that the source gave, whatever it gives next, and is used; no read was
--              made that wasn't needed, and at most one piece and a byte are left; a source that has ended gives no more
--   NextGame   so it does, and its bytes are counted
--   HasNone    the source has ended, and those bytes are whitespace
--   Fails      no game is at the start of those bytes, which aren't whitespace, whatever the source gives next; their first items are used, which
--              may be the beginning of a game, and the last read was made where the bytes before it end so
--   Starves    bytes came, by such reads, and then there was no memory
--   EndsWithin bytes end so, and all before that item is used; where whitespace reaches past the most bytes of a game, some of it is
--   ReadFails  bytes came, and then a read failed, or there may be no more; the source had not ended, and no one game is at their start, whatever
--              follows; they end so
--   HasFault   a read failed, there was no memory, or no game is there; but for the first, no read failed
--   IsGivenUp  a bad game is given up, from its first byte to where the text alone says that the next begins
--   seeks      how far the items of a bad game were used, where reading is to go on from there
--   Leaves     where the reading of a bad game stopped: its items up to there are used, or all of them
--   ReadsNext  what a call for the next game does: its answer, the bytes, and the fault that is kept
--   NotPassed  bytes can't be passed over: a read failed, or there was no memory; each read was made where no section of tags begins among those before it
--   NotGivenUp a game can't be passed over: bytes came and then a read failed, before the source's end, or there was no memory
--   IsGivenUpInPart  so it is, from its first byte; each read was made where the bytes before it don't decide where the next game begins
use Rattle.std.specs.Prelude.{◌≡◌, ◌≢◌, ◌⊎◌, ◌≤◌, ◌<◌, ℕ, ◌+◌, Bool, true, List, [], ◌++◌, length, Option, Some, None, IfErr, IfOk, IfSome, Result, Ok, Err, ⊤}
use Rattle.std.specs.List.{list_all}
use Rattle.chess_items.specs.Abandoned.{GivesUpFrom, GoesFurther, Halts, UsesAll}
use Rattle.chess_items.specs.Coming.{AtHand, BreaksWhere, Came, CameWhere, LastReadWhere, unread}
use Rattle.chess_items.specs.Decided.{IsDecided}
use Rattle.chess_items.specs.Items.{Item, Spells, is_white, place_behind}
use Rattle.chess_items.specs.Sections.{HasNoSection, StopsAt}
use Rattle.chess_items.specs.declared.fault.FaultKind.{FaultKind}
use Rattle.chess_items.specs.declared.fault.FaultKind.TheVariants.{Memory}
use Rattle.chess_items.specs.declared.place.Place.TheVariants.{GameStart}
use Rattle.chess_pgn.specs.Games.{Game}
use Rattle.chess_items.specs.declared.skimming.Halt.{Halt}
use Rattle.chess_pgn.specs.Reading.{HasNoGame, HasNoGameYet, BeginsWithGame, IsWhite, MayBegin}
use Rattle.chess_pgn.specs.declared.game.Game as code
use Rattle.chess_pgn.specs.declared.games.GamesFault.{GamesFault}
use Rattle.chess_pgn.specs.declared.games.GamesFault.TheVariants.{Pgn, Read}
use Rattle.chess_pgn.specs.steps.GameCode.{game_of}

pub record Games (R : Type 0) : Type 0 where
  pub text : AtHand R
  pub fault : Option GamesFault
  pub halt : Option Halt

-- a fault of a read, and want of memory, stay
abbrev pub MayGoOn : Option GamesFault → Type 0
MayGoOn None = ⊤
MayGoOn (Some Read) = ⊥
MayGoOn (Some (Pgn fault)) = fault.kind ≢ Memory

pub record IsSound {R : Type 0} (ended : R → Type 0) (games : Games R) : Type 0 where
  pub ended_so : MayGoOn games.fault → games.text.has_ended ≡ true → ended games.text.source

-- of the bytes at hand and the pieces that came, one for each read
abbrev pub ReadsNeeded : List ℕ → List (List ℕ) → Type 0
ReadsNeeded hand pieces = LastReadWhere HasNoGameYet hand pieces

-- whatever follows
pub record EndsOpen (begun : List ℕ) : Type 0 where
  pub items : List Item
  pub begins : MayBegin items
  pub rest : List ℕ
  pub spelled : (more : List ℕ) → Spells GameStart (begun ++ more) items (rest ++ more)
  pub few : (length begun ≤ 1048576) ⊎ (list_all is_white items ≡ true)
  pub undecided : IsDecided (place_behind GameStart items) rest → ⊥

-- Below, `gives s bytes t` says that a read may give these bytes, and leads from the state s of the source to the state t; `failed s`, that a read has
-- failed; `ended s`, that there are no bytes left. `old` is before the call and `new` after it. `unread` are the bytes at hand, and `more` is what the
-- source might still give: where its end was seen, nothing.

pub record HasGame {R : Type 0} (gives : R → List ℕ → R → Type 0) (failed : R → Bool) (old new : AtHand R) (game : Game) : Type 0 where
  -- the bytes that the source gave in this call
  pub bytes : List ℕ
  -- they came by reads, and none of these failed
  pub came : Came gives failed old bytes new
  -- the text of the game, which is used
  pub text : List ℕ
  -- it has a byte or more
  pub some : 0 < length text
  -- what was at hand, and then what came, is that text, and then what is at hand now
  pub parts : unread old ++ bytes ≡ text ++ unread new
  -- whatever follows, these bytes begin with this game, which takes as many of them as that text has
  pub reads : (more : List ℕ) → (new.has_ended ≡ true → more ≡ []) → BeginsWithGame (unread old ++ (bytes ++ more)) game (length text)
  -- if at most a piece (65,536 bytes) and a byte were at hand, at most a piece is left
  pub near : length (unread old) ≤ 65537 → length (unread new) ≤ 65536
  -- no read was made that wasn't needed: no one game was at the start of the bytes before the last read, whatever follows
  pub needed : ReadsNeeded (unread old) came.pieces
  -- a source whose end was seen is not read again, and its end is still seen
  pub still : old.has_ended ≡ true → (bytes ≡ []) × (new.has_ended ≡ true)

-- and its bytes are counted
pub record NextGame {R : Type 0} (gives : R → List ℕ → R → Type 0) (failed : R → Bool) (old new : Games R) (game : Game) : Type 0 where
  pub took : HasGame gives failed old.text new.text game
  pub used : new.text.used ≡ old.text.used + length took.text

-- nothing follows
pub record HasNone {R : Type 0} (gives : R → List ℕ → R → Type 0) (failed : R → Bool) (old new : AtHand R) : Type 0 where
  pub bytes : List ℕ
  pub came : Came gives failed old bytes new
  pub ended : new.has_ended ≡ true
  pub used : unread new ≡ []
  pub white : IsWhite (unread old ++ bytes)
  pub still : old.has_ended ≡ true → bytes ≡ []

-- nothing comes next where the end of the source was seen, and there it has ended
pub record Fails {R : Type 0} (gives : R → List ℕ → R → Type 0) (failed : R → Bool) (ended : R → Type 0) (old new : AtHand R) : Type 0 where
  -- the bytes that the source gave in this call
  pub bytes : List ℕ
  -- they came by reads, and none of these failed
  pub came : Came gives failed old bytes new
  -- the first items of what was at hand and what came
  pub items : List Item
  -- they may be the beginning of a game
  pub begins : MayBegin items
  -- they are used: whatever follows, these bytes are those items, and then what is at hand now
  pub used : (more : List ℕ) → (new.has_ended ≡ true → more ≡ []) → Spells GameStart (unread old ++ (bytes ++ more)) items (unread new ++ more)
  -- no read was made that wasn't needed: the bytes before the last read end within an item, and the items before that one may be the beginning of a game
  pub needed : LastReadWhere EndsOpen (unread old) came.pieces
  -- where the end of the source was seen, it has ended
  pub ended_so : new.has_ended ≡ true → ended new.source
  -- whatever follows, no game is at the start of these bytes
  pub none : (more : List ℕ) → (new.has_ended ≡ true → more ≡ []) → HasNoGame (unread old ++ (bytes ++ more))
  -- whatever follows, they aren't whitespace, marks and hidden lines alone
  pub dark : (more : List ℕ) → (new.has_ended ≡ true → more ≡ []) → IsWhite (unread old ++ (bytes ++ more)) → ⊥
  -- a source whose end was seen is not read again, and its end is still seen
  pub still : old.has_ended ≡ true → (bytes ≡ []) × (new.has_ended ≡ true)

pub record Starves {R : Type 0} (gives : R → List ℕ → R → Type 0) (failed : R → Bool) (ended : R → Type 0) (old new : AtHand R) : Type 0 where
  -- the bytes that the source gave in this call
  pub bytes : List ℕ
  -- they came by reads, and none of these failed
  pub came : Came gives failed old bytes new
  -- no read was made that wasn't needed: no one game was at the start of the bytes before the last read, whatever follows
  pub needed : ReadsNeeded (unread old) came.pieces
  -- and the bytes before the last read end within an item, and the items before that one may be the beginning of a game
  pub ends : LastReadWhere EndsOpen (unread old) came.pieces
  -- a source whose end was seen is not read again, and it has ended
  pub still : old.has_ended ≡ true → (bytes ≡ []) × ended new.source

-- what is left are the bytes of that item, so far
pub record EndsWithin (begun left : List ℕ) : Type 0 where
  pub ends : EndsOpen begun
  pub kept : (left ≡ ends.rest) ⊎ ((list_all is_white ends.items ≡ true) × (1048576 < length begun))

pub record ReadFails {R : Type 0} (gives : R → List ℕ → R → Type 0) (failed : R → Bool) (old new : AtHand R) : Type 0 where
  pub breaks : BreaksWhere HasNoGameYet gives failed old new
  pub within : EndsWithin (unread old ++ breaks.bytes) (unread new)

abbrev pub HasFault : {R : Type 0} → (R → List ℕ → R → Type 0) → (R → Bool) → (R → Type 0) → AtHand R → AtHand R → GamesFault → Type 0
-- a read failed, or there may be no more reads
HasFault gives failed ended old new Read = ReadFails gives failed old new
-- for want of memory, which bytes came until then; for any other fault, no game is there
HasFault gives failed ended old new (Pgn fault) = ((fault.kind ≡ Memory) × Starves gives failed ended old new) ⊎ ((fault.kind ≢ Memory) × Fails gives failed ended old new)

abbrev pub IsPlaced : ℕ → GamesFault → Type 0
IsPlaced used (Pgn fault) = (used ≤ fault.place) × (fault.kind ≡ Memory → fault.place ≡ used)
IsPlaced used Read = ⊤

-- by the kind of the fault
abbrev pub used_by : FaultKind → ℕ → ℕ → ℕ
used_by Memory place used = place
used_by _ place used = used

-- by the fault, if one came
abbrev pub used_after : Option GamesFault → ℕ → ℕ
used_after None used = used
used_after (Some Read) used = used
used_after (Some (Pgn fault)) used = used_by fault.kind fault.place used

-- where there was no memory, the place is that of the fault
abbrev pub used_of : {R : Type 0} → Games R → ℕ
used_of games = used_after games.fault games.text.used

abbrev pub Leaves : {R : Type 0} → (R → List ℕ → R → Type 0) → (R → Bool) → AtHand R → AtHand R → Option Halt → Type 0
Leaves gives failed old new (Some halt) = Halts gives failed old new halt
Leaves gives failed old new None = UsesAll gives failed old new

-- with the number of its bytes, which its text alone decides
abbrev pub IsGivenUp : {R : Type 0} → (R → List ℕ → R → Type 0) → (R → Bool) → AtHand R → AtHand R → Type 0
IsGivenUp gives failed old new = (count : ℕ) × GivesUpFrom gives failed old new count

-- after a fault the items of its game are passed over from there
abbrev pub seeks : Option GamesFault → Option Halt → Option Halt
seeks None halt = None
seeks (Some fault) halt = halt

pub record ReadsNext {R A : Type 0} (gives : R → List ℕ → R → Type 0) (failed : R → Bool) (ended : R → Type 0) (old new : Games R) (result : Result (Option (code.Game A)) GamesFault) : Type 0 where
  -- where reading may go on after the call, the source has ended if its end was seen
  pub sound : IsSound ended new
  -- where a fault was kept before the call, it is returned again
  pub again : (fault : GamesFault) → old.fault ≡ Some fault → result ≡ Err fault
  -- and nothing changes: no byte is read, and none is used
  pub untouched : (fault : GamesFault) → old.fault ≡ Some fault → new ≡ old
  -- a fault that is returned is kept
  pub sticky : IfErr result (λ fault. new.fault ≡ Some fault)
  -- after a game, and where there is none, no fault is kept
  pub good : IfOk result (λ _. new.fault ≡ None)
  -- a game that is returned is the next one, and its bytes are used and counted
  pub game : IfOk result (λ found. IfSome found (λ game. NextGame gives failed old new (game_of game)))
  -- the cursor in its tree is at the root
  pub cursor : IfOk result (λ found. IfSome found (λ game. game.tree.path ≡ []))
  -- `None` is returned only where the end of the source was seen, and whitespace, marks and hidden lines alone come before it: they are used
  pub none : result ≡ Ok None → HasNone gives failed old.text new.text
  -- where no fault was kept, one that is returned says that a read failed, that there was no memory, or that no game is there
  pub fault : old.fault ≡ None → IfErr result (λ fault. HasFault gives failed ended old.text new.text fault)
  -- its place is after the bytes that were used before the call; for want of memory, right after them
  pub place : old.fault ≡ None → IfErr result (λ fault. IsPlaced old.text.used fault)
  -- where reading may go on after it, the items of its game are used, up to where `halt` says, or all of them
  pub leaves : old.fault ≡ None → IfErr result (λ fault. MayGoOn (Some fault) → Leaves gives failed old.text new.text new.halt)

abbrev pub NotPassed : {R : Type 0} → (R → List ℕ → R → Type 0) → (R → Bool) → AtHand R → AtHand R → GamesFault → Type 0
NotPassed gives failed old new Read = StopsAt gives failed old new
NotPassed gives failed old new (Pgn fault) = (fault.kind ≡ Memory) × CameWhere HasNoSection gives failed old new

-- the same of a game that is given up: no more is said of the bytes that came
abbrev pub NotGivenUp : {R : Type 0} → (R → List ℕ → R → Type 0) → (R → Bool) → AtHand R → AtHand R → GamesFault → Type 0
NotGivenUp gives failed old new Read = BreaksWhere (λ _. ⊤) gives failed old new
NotGivenUp gives failed old new (Pgn fault) = (fault.kind ≡ Memory) × (bytes : List ℕ) × Came gives failed old bytes new

abbrev pub IsGivenUpInPart : {R : Type 0} → (R → List ℕ → R → Type 0) → (R → Bool) → AtHand R → AtHand R → GamesFault → Type 0
IsGivenUpInPart gives failed old new Read = BreaksWhere GoesFurther gives failed old new
IsGivenUpInPart gives failed old new (Pgn fault) = (fault.kind ≡ Memory) × CameWhere GoesFurther gives failed old new
