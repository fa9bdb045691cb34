-- The first item of the movetext.
use Rattle.std.proofs.Common.{◌≡◌, ◌⊎◌, ℕ, Bool, true, false, List, refl, sym, ap, ◌∙◌}
use Rattle.std.specs.Borrow.{Bor}
use Rattle.std.specs.Prelude.{Result, Ok, Err}
use mathlib.Core.Logic.{inl, inr}
use Rattle.chess_items.specs.Items as items
use Rattle.chess_items.specs.Items.{Item}
use Rattle.chess_items.specs.steps.Tokens.{item_of}
use Rattle.chess_items.specs.declared.fault.PgnFault.{PgnFault}
use Rattle.chess_items.specs.declared.taker.Taken.{Taken}
use Rattle.chess_items.specs.declared.taker.Taken.TheVariants.{GoesOn, Ends, Leaves}
use Rattle.chess_items.specs.declared.token.Token.{Token}
use Rattle.chess_items.specs.declared.token.Token.TheVariants.{Mark, Blank, Hidden, Braced, Line, TagOpen, TagClose, Name, Quote, Stretch, Escaped}
use Rattle.chess_pgn.specs.Reading.{is_heading, is_movetext, is_tagged}
use Rattle.chess_pgn.specs.steps.HeaderCode.{is_begun}
use Rattle.chess_pgn.specs.steps.ReaderCode.{BeginsMoves, Moved, RefusesFirst, takes_when}
use Rattle.chess_pgn.specs.declared.reader.Reader.{Reader}

abbrev is_end : Item → Bool
is_end (items.Marker outcome) = true
is_end items.TagOpen = true
is_end _ = false

-- what stands in tags alone is refused
stray : {A : Type 0} (item : Item) (taken : Taken) (old new : Reader A) → is_movetext item ≡ false → is_end item ≡ false → Moved item (Ok taken) old new → ⊥
stray item GoesOn old new n e m = (let k : true ≡ false = sym m.stands ∙ n in cc)
stray item Ends old new n e m = (let k : true ≡ false = sym (ap is_end m.marker) ∙ e in cc)
stray item Leaves old new n e m = (let k : true ≡ false = sym (ap is_end m.bracket) ∙ e in cc)

-- what isn't white, a comment or a bracket, and is taken, stands in no head
heads_none : {A : Type 0} (token : Token) (taken : Taken) (old new : Reader A) → (token ≡ Mark → ⊥) → ((b : ℕ) → token ≡ Blank b → ⊥) → (token ≡ Hidden → ⊥) → ((text : Bor (List ℕ)) → token ≡ Braced text → ⊥) → ((line : Bor (List ℕ)) → token ≡ Line line → ⊥)
    → (token ≡ TagOpen → ⊥) → Moved (item_of token) (Ok taken) old new → is_heading (item_of token) ≡ false
heads_none Mark taken old new m b h t l o moved = absurd (m refl)
heads_none (Blank x) taken old new m b h t l o moved = absurd (b x refl)
heads_none Hidden taken old new m b h t l o moved = absurd (h refl)
heads_none (Braced x) taken old new m b h t l o moved = absurd (t x refl)
heads_none (Line x) taken old new m b h t l o moved = absurd (l x refl)
heads_none TagOpen taken old new m b h t l o moved = absurd (o refl)
heads_none TagClose taken old new m b h t l o moved = absurd (stray items.TagClose taken old new refl refl moved)
heads_none (Name x) taken old new m b h t l o moved = absurd (stray (items.Name x.now) taken old new refl refl moved)
heads_none Quote taken old new m b h t l o moved = absurd (stray items.Quote taken old new refl refl moved)
heads_none (Stretch x) taken old new m b h t l o moved = absurd (stray (items.Stretch x.now) taken old new refl refl moved)
heads_none (Escaped x) taken old new m b h t l o moved = absurd (stray (items.Escaped x) taken old new refl refl moved)
heads_none _ taken old new m b h t l o moved = refl

-- what isn't white, a comment or a bracket is of the movetext or stands in tags alone
first_or_tagged : (token : Token) → (token ≡ Mark → ⊥) → ((b : ℕ) → token ≡ Blank b → ⊥) → (token ≡ Hidden → ⊥) → ((text : Bor (List ℕ)) → token ≡ Braced text → ⊥) → ((line : Bor (List ℕ)) → token ≡ Line line → ⊥)
    → (token ≡ TagOpen → ⊥) → (is_heading (item_of token) ≡ false) ⊎ (is_tagged (item_of token) ≡ true)
first_or_tagged Mark m b h t l o = absurd (m refl)
first_or_tagged (Blank x) m b h t l o = absurd (b x refl)
first_or_tagged Hidden m b h t l o = absurd (h refl)
first_or_tagged (Braced x) m b h t l o = absurd (t x refl)
first_or_tagged (Line x) m b h t l o = absurd (l x refl)
first_or_tagged TagOpen m b h t l o = absurd (o refl)
first_or_tagged TagClose m b h t l o = inr refl
first_or_tagged (Name x) m b h t l o = inr refl
first_or_tagged Quote m b h t l o = inr refl
first_or_tagged (Stretch x) m b h t l o = inr refl
first_or_tagged (Escaped x) m b h t l o = inr refl
first_or_tagged _ m b h t l o = inl refl

-- no movetext begins with it
refused_first : {A : Type 0} (item : Item) (fault : PgnFault) (old new : Reader A) → is_begun old.header.part ≡ false → (is_heading item ≡ false) ⊎ (is_tagged item ≡ true) → RefusesFirst item fault.kind old → takes_when false item (Err fault) old new
refused_first item fault old new outside (inl first) refuses = inr (inr (first, refuses))
refused_first item fault old new outside (inr tagged) refuses = inr (inl (inr (outside, tagged)))

-- the tags end, and the item is read as one of the movetext
pub moved_first : {A : Type 0} (token : Token) (result : Result Taken PgnFault) (old between new : Reader A) → (token ≡ Mark → ⊥) → ((b : ℕ) → token ≡ Blank b → ⊥) → (token ≡ Hidden → ⊥) → ((text : Bor (List ℕ)) → token ≡ Braced text → ⊥)
    → ((line : Bor (List ℕ)) → token ≡ Line line → ⊥) → (token ≡ TagOpen → ⊥) → BeginsMoves old between → Moved (item_of token) result between new → takes_when false (item_of token) result old new
moved_first token (Ok taken) old between new m b h t l o begins moved = inr (heads_none token taken between new m b h t l o moved, between, begins, moved)
moved_first token (Err fault) old between new m b h t l o begins moved = refused_first (item_of token) fault old new begins.outside (first_or_tagged token m b h t l o) (inr (between, begins, moved))
