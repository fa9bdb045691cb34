-- What a reader of a game does with an item of the movetext.
--   MovesOn   the elements of an item are read, whatever the state of reading was
--   Moved     what becomes of the item: it is read, it ends the game, the game ends before it, or no game goes on so
--   BeginsMoves  the tags end: the game begins in the position that they give; NoStart, they give none
--   TakesItem what a reader does with any item
--   IsNew     nothing is read
--   Closed    the game that was read
--   Finished  the same at the end of the input
--   MayNotEnd no game is at its end here
--   Answered  the game where the reading has stopped; Unanswered, a fault there
--   Finishes, EndsReading  the reader is brought to where its game has ended
use Rattle.std.specs.Prelude.{◌≡◌, ◌≢◌, ◌⊎◌, ℕ, Bool, true, false, List, [], Option, Some, None, Result, Ok, Err, ⊤}
use Rattle.chess_types.specs.board.Position.{PositionParts, start}
use Rattle.chess_items.specs.Items as items
use Rattle.chess_items.specs.Items.{Item}
use Rattle.chess_items.specs.declared.fault.FaultKind.{FaultKind}
use Rattle.chess_items.specs.declared.fault.FaultKind.TheVariants.{Memory, TooLarge}
use Rattle.chess_items.specs.declared.fault.PgnFault.{PgnFault}
use Rattle.chess_items.specs.declared.outcome.Outcome.{Outcome}
use Rattle.chess_items.specs.declared.outcome.Outcome.TheVariants.{Unfinished}
use Rattle.chess_items.specs.declared.taking.Stop.{Stop}
use Rattle.chess_items.specs.declared.taking.Stop.TheVariants as stop
use Rattle.chess_items.specs.declared.taker.Taken.{Taken}
use Rattle.chess_items.specs.declared.taker.Taken.TheVariants.{GoesOn, Ends, Leaves}
use Rattle.chess_pgn.specs.Grammar.{Element, element}
use Rattle.chess_pgn.specs.Reading.{IsWithinLimits, is_heading, is_movetext, is_tagged, lead_after}
use Rattle.chess_pgn.specs.Tags.{may_part_tags, start_in}
use Rattle.chess_pgn.specs.steps.GameCode.{game_of}
use Rattle.chess_pgn.specs.steps.HeaderCode.{HasFound, HasTaken, Heads as HeadsOn, RefusesTag, is_begun}
use Rattle.chess_pgn.specs.steps.OtherCode.{Finds}
use Rattle.chess_pgn.specs.steps.Readings.{Exceeds, FailsWith, FailsHere, Goes, IsRead, Reading, Stands, fresh}
use Rattle.chess_pgn.specs.declared.game.Game.{Game}
use Rattle.chess_pgn.specs.declared.reader.Reader.{Reader}
use Rattle.chess_pgn.specs.declared.reader.header.Header.{Header}
use Rattle.chess_pgn.specs.declared.reader.moves.Moves.{Moves}

abbrev pub MovesOn : {A : Type 0} → List Element → Moves A → Moves A → Type 0
MovesOn some old new = (s : Reading) → Stands old s → (s' : Reading) × Stands new s' × Goes some s s'

-- an item of movetext is read
pub record Read {A : Type 0} (item : Item) (old new : Reader A) : Type 0 where
  pub stands : is_movetext item ≡ true
  pub moves : MovesOn (element item) old.moves new.moves
  pub moving : new.moving ≡ old.moving
  pub outcome : new.outcome ≡ old.outcome
  pub header : new.header ≡ old.header

-- a marker ends the game
pub record Ended {A : Type 0} (item : Item) (old new : Reader A) : Type 0 where
  pub marker : item ≡ items.Marker new.outcome
  pub closed : old.moves.interrupted.items ≡ []
  pub moves : new.moves ≡ old.moves
  pub header : new.header ≡ old.header

-- the bracket of the next game's tag ends the game, and is left
pub record Left {A : Type 0} (item : Item) (old new : Reader A) : Type 0 where
  pub bracket : item ≡ items.TagOpen
  pub closed : old.moves.interrupted.items ≡ []
  pub moves : new.moves ≡ old.moves
  pub outcome : new.outcome ≡ old.outcome
  pub header : new.header ≡ old.header

-- No movetext goes on with the item, none ends there, or it has no place in movetext; or only a game that is too large goes on.
abbrev pub RefusesItem : {A : Type 0} → Item → FaultKind → Moves A → Type 0
RefusesItem item Memory moves = ⊤
RefusesItem item TooLarge moves = (is_movetext item ≡ true) × Exceeds (element item) moves
RefusesItem item kind moves = ((is_movetext item ≡ true) × FailsWith (element item) moves) ⊎ (((is_movetext item ≡ false) × FailsHere moves) ⊎ (is_tagged item ≡ true))

abbrev pub Moved : {A : Type 0} → Item → Result Taken PgnFault → Reader A → Reader A → Type 0
Moved item (Ok GoesOn) old new = Read item old new
Moved item (Ok Ends) old new = Ended item old new
Moved item (Ok Leaves) old new = Left item old new
Moved item (Err fault) old new = RefusesItem item fault.kind old.moves

-- the item at which a game ends
abbrev pub ending_item : Option Outcome → Item
ending_item (Some outcome) = items.Marker outcome
ending_item None = items.TagOpen

-- ---- before the movetext

-- it is a part of a tag, or comes between tags
abbrev pub TakesPart : {A : Type 0} → Item → Header A → Header A → Type 0
TakesPart item old new = HeadsOn item old new ⊎ ((may_part_tags item ≡ true) × (is_begun old.part ≡ false) × (new ≡ old))

-- an item before the movetext is read
pub record Headed {A : Type 0} (item : Item) (old new : Reader A) : Type 0 where
  pub heading : is_heading item ≡ true
  pub tags : TakesPart item old.header new.header
  pub lead : (start : PositionParts) (lead : List ℕ) → Stands old.moves (fresh start lead) → Stands new.moves (fresh start (lead_after lead item))
  pub moving : new.moving ≡ old.moving
  pub outcome : new.outcome ≡ old.outcome

-- in the position that the tags give, where it was to begin in the usual one
abbrev pub BeginsIn : {A : Type 0} → List (List ℕ × List ℕ) → Moves A → Moves A → Type 0
BeginsIn read old new = (first : PositionParts) × (start_in read ≡ Some first) × ((lead : List ℕ) → Stands old (fresh start lead) → Stands new (fresh first lead))

pub record BeginsMoves {A : Type 0} (old new : Reader A) : Type 0 where
  pub outside : is_begun old.header.part ≡ false
  pub header : new.header ≡ old.header
  pub moves : (read : List (List ℕ × List ℕ)) → Finds read old.header.found.tags → BeginsIn read old.moves new.moves
  pub moving : new.moving ≡ true
  pub outcome : new.outcome ≡ old.outcome

-- the tags give no position
abbrev pub NoStart : {A : Type 0} → Header A → Type 0
NoStart header = (read : List (List ℕ × List ℕ)) → Finds read header.found.tags → start_in read ≡ None

-- no tag goes on with the item, or it comes in tags alone and none has begun
abbrev pub Strays : {A : Type 0} → Item → PgnFault → Header A → Type 0
Strays item fault header = ((is_begun header.part ≡ true) × RefusesTag item header fault) ⊎ ((is_begun header.part ≡ false) × (is_tagged item ≡ true))

-- no movetext begins here, or none with the item
abbrev pub RefusesFirst : {A : Type 0} → Item → FaultKind → Reader A → Type 0
RefusesFirst {A = A} item kind old = NoStart old.header ⊎ ((between : Reader A) × BeginsMoves old between × RefusesItem item kind between.moves)

-- it is one of the tags' and the comments before the movetext, or the first of the movetext
abbrev pub HeadsGame : {A : Type 0} → Item → Result Taken PgnFault → Reader A → Reader A → Type 0
HeadsGame {A = A} item result old new = ((result ≡ Ok GoesOn) × Headed item old new) ⊎ ((is_heading item ≡ false) × (between : Reader A) × BeginsMoves old between × Moved item result between new)

-- what becomes of an item, in movetext or before it
abbrev pub takes_when : {A : Type 0} → Bool → Item → Result Taken PgnFault → Reader A → Reader A → Type 0
takes_when true item result old new = Moved item result old new
takes_when false item (Ok taken) old new = HeadsGame item (Ok taken) old new
takes_when false item (Err fault) old new = (fault.kind ≡ Memory) ⊎ (Strays item fault old.header ⊎ ((is_heading item ≡ false) × RefusesFirst item fault.kind old))

-- a refused item begins no movetext
abbrev pub Stays : {A : Type 0} → Result Taken PgnFault → Reader A → Reader A → Type 0
Stays (Ok taken) old new = ⊤
Stays (Err fault) old new = new.moving ≡ old.moving

-- what becomes of an item that the reader is offered
abbrev pub TakesItem : {A : Type 0} → Reader A → Item → Result Taken PgnFault → Reader A → Type 0
TakesItem old item result new = takes_when old.moving item result old new × Stays result old new

-- ---- the whole game

pub record IsNew {A : Type 0} (reader : Reader A) : Type 0 where
  pub tags : HasTaken [] reader.header
  pub lead : Stands reader.moves (fresh start [])
  pub moving : reader.moving ≡ false
  pub outcome : reader.outcome ≡ Unfinished

-- the game begins at the end of the input, where it hasn't begun
abbrev pub begins_when : {A : Type 0} → Bool → Reader A → Reader A → Type 0
begins_when true old new = new ≡ old
begins_when false old new = BeginsMoves old new

pub record Closed {A : Type 0} (old : Reader A) (game : Game A) : Type 0 where
  pub has_tags : HasFound old.header game.tags
  pub is_outcome : game.result ≡ old.outcome
  pub is_tree : IsRead old.moves game.tree
  pub within : IsWithinLimits (game_of game)

pub record Finished {A : Type 0} (old : Reader A) (game : Game A) : Type 0 where
  pub reader : Reader A
  pub begins : begins_when old.moving old reader
  pub closed : old.moves.interrupted.items ≡ []
  pub ends : Closed reader game

-- where the input ends, the game that is read afterwards is the one that ends there
abbrev pub Finishes : {A : Type 0} → Reader A → Reader A → Type 0
Finishes {A = A} old new = (game : Game A) → Closed new game → Finished old game

-- in a tag or a variation, or where the movetext is still to begin and the tags give no position, no game ends
abbrev pub MayNotEnd : {A : Type 0} → Reader A → Type 0
MayNotEnd reader = (is_begun reader.header.part ≡ true) ⊎ ((reader.moves.interrupted.items ≢ []) ⊎ ((reader.moving ≡ false) × NoStart reader.header))

-- no game is answered
abbrev pub Unanswered : {A : Type 0} → Stop → Reader A → PgnFault → Type 0
Unanswered stop.Full reader fault = fault.kind ≡ Memory
Unanswered stop.Left reader fault = fault.kind ≡ Memory
Unanswered stop.End reader fault = (fault.kind ≡ Memory) ⊎ MayNotEnd reader
Unanswered (stop.Refused why) reader fault = fault ≡ why
Unanswered stop.NoItem reader fault = ⊤
Unanswered stop.TooLarge reader fault = ⊤

abbrev pub Answered : {A : Type 0} → Stop → Reader A → Game A → Type 0
Answered stop.Full reader game = Closed reader game
Answered stop.Left reader game = Closed reader game
Answered stop.End reader game = Finished reader game
Answered (stop.Refused fault) reader game = ⊥
Answered stop.NoItem reader game = ⊥
Answered stop.TooLarge reader game = ⊥

-- what is read afterwards is the game where the reading has stopped, and no memory for it is a fault there
pub record EndsReading {A : Type 0} (why : Stop) (old new : Reader A) : Type 0 where
  pub game : (game : Game A) → Closed new game → Answered why old game
  pub memory : (fault : PgnFault) → fault.kind ≡ Memory → Unanswered why old fault
