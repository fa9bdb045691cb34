-- Tags of a game set by their names (PGN 8.1).
--   is_tag_name   a name: letters, digits and underscores, at least one (PGN 7)
--   is_derived         the tags that say how the game ended and where it begins, which the game itself has (PGN 8.1.1.7, 9.7)
--   tag_answer    what setting a tag answers where there is memory: the first fault that applies
--   IsTagAnswer   want of memory is answered only where nothing else is wrong
--   is_on_each    the tags that each game has, besides Result (PGN 8.1.1)
--   IsSet         the tags once that of a name has a value, or none; all else is as it was
use Rattle.std.specs.Prelude.{◌≡◌, ◌⊎◌, ℕ, ◌==◌, ◌||◌, ◌&&◌, not, if◌then◌else◌, Bool, true, List, length, Option, Result, Ok, Err, bytes_eq, codes}
use Rattle.std.specs.List.{list_all}
use Rattle.chess_items.specs.Items.{in_line, is_name_byte}
use Rattle.chess_pgn.specs.Games.{Tags, tag_in, tag_value}
use Rattle.chess_pgn.specs.Tags.{Ascend}
use Rattle.chess_edit.specs.declared.tags.TagFault.{TagFault}
use Rattle.chess_edit.specs.declared.tags.TagFault.TheVariants.{BadName, OwnTag, BadValue, Memory}

-- letters, digits and underscores, and at least one
abbrev pub is_tag_name : List ℕ → Bool
is_tag_name name = not (length name == 0) && list_all is_name_byte name

-- how the game ended, and where it begins
abbrev pub is_derived : List ℕ → Bool
is_derived name = bytes_eq name (codes "Result") || bytes_eq name (codes "FEN") || bytes_eq name (codes "SetUp")

-- a name, of no tag that the game itself has, and a value on one line
abbrev pub tag_answer : (name value : List ℕ) → Result (Unit {0}) TagFault
tag_answer name value =
    if not (is_tag_name name) then Err BadName
    else (if is_derived name then Err OwnTag else (if not (list_all in_line value) then Err BadValue else Ok tt))

-- memory may be refused where nothing else is wrong
abbrev pub IsTagAnswer : Result (Unit {0}) TagFault → Result (Unit {0}) TagFault → Type 0
IsTagAnswer answer result = (result ≡ answer) ⊎ ((answer ≡ Ok tt) × (result ≡ Err Memory))

-- Event, Site, Date, Round, White and Black
abbrev pub is_on_each : List ℕ → Bool
is_on_each name =
    bytes_eq name (codes "Event")
    || (bytes_eq name (codes "Site") || (bytes_eq name (codes "Date") || (bytes_eq name (codes "Round") || (bytes_eq name (codes "White") || bytes_eq name (codes "Black")))))

-- That of the name has the value, each other its own. None of a name that each game has comes to the others, or goes; and their names ascend.
pub record IsSet (name : List ℕ) (value : Option (List ℕ)) (old new : Tags) : Type 0 where
  pub tags : (other : List ℕ) → tag_value other new ≡ (if bytes_eq name other then value else tag_value other old)
  pub others : (other : List ℕ) → is_on_each other ≡ true → tag_in other new.others ≡ tag_in other old.others
  pub ascend : Ascend old.others → Ascend new.others
