-- The items that the code's tokens stand for.
use Rattle.std.specs.Prelude.{ℕ, List, map, Option, Some, None}
use Rattle.std.specs.Borrow.{Bor}
use Rattle.chess_items.specs.Items as items
use Rattle.chess_items.specs.Items.{Item, without_brace}
use Rattle.chess_items.specs.steps.ItemAt.{Found}
use Rattle.chess_items.specs.declared.token.Token.{Token}
use Rattle.chess_items.specs.declared.token.Token.TheVariants.{Mark, Blank, Hidden, Braced, Line, Skipped, Word, Nag, Open, Close, Marker, TagOpen, TagClose, Name, Quote, Stretch, Escaped}

-- the item of a token
abbrev pub item_of : Token → Item
item_of Mark = items.Mark
item_of (Blank b) = items.Blank b
item_of Hidden = items.Hidden
item_of (Braced text) = items.Comment text.now
item_of (Line line) = items.Comment (map without_brace line.now)
item_of Skipped = items.Skipped
item_of (Word text) = items.Word text.now
item_of (Nag n) = items.Nag n
item_of Open = items.Open
item_of Close = items.Close
item_of (Marker outcome) = items.Marker outcome
item_of TagOpen = items.TagOpen
item_of TagClose = items.TagClose
item_of (Name text) = items.Name text.now
item_of Quote = items.Quote
item_of (Stretch text) = items.Stretch text.now
item_of (Escaped b) = items.Escaped b

-- what the code finds, in the words of the definition
abbrev pub found : Option (Token × Bor (List ℕ)) → Found
found None = None
found (Some x) = Some (item_of x.0, x.1.now)
