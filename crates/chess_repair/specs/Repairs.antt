-- Texts that are written anew, so that they may be read.
--   quoted     a text as a comment, after a head
--   IsRepair   what may be written for some bytes, by the kind of the repair
--   IsRepairBefore  the same for kinds that depend on the bytes that follow: an end that is put in, and text that belongs to no game
--   MayStand   the one or the other
--   padded     what is written for them: between two spaces, but within a word, and at the end
--   Rewrites   a text is written anew up to what is left of it: the repairs, in order, with their places and lengths; all bytes between them are as they were
use Rattle.std.specs.Prelude.{◌≡◌, ◌⊎◌, ℕ, ◌+◌, true, not, List, [], ◌∷◌, ◌++◌, length, map, Some, codes}
use Rattle.std.specs.List.{list_all}
use Rattle.chess_items.specs.Items.{is_glyph, is_name_byte}
use Rattle.chess_repair.specs.Words.{castling_of, is_said, quiet, result_of, sign_of, number_for}
use Rattle.chess_repair.specs.Ends.{EndsGame, ends_comment, is_prose}
use Rattle.chess_repair.specs.Fens.{IsFen}
use Rattle.chess_repair.specs.Moves.{IsMove}
use Rattle.chess_repair.specs.Tags.{IsTagMeant}
use Rattle.chess_repair.specs.declared.repair.Repair.{Repair}
use Rattle.chess_repair.specs.declared.repair.RepairKind.{RepairKind}
use Rattle.chess_repair.specs.declared.repair.RepairKind.TheVariants as k

abbrev pub quoted : List ℕ → List ℕ → List ℕ
quoted head was = codes "{" ++ (head ++ (map quiet was ++ codes "}"))

-- no letter and no digit is lost
abbrev pub SaysNothing : List ℕ → Type 0
SaysNothing was = list_all (λ b. not (is_name_byte b)) was ≡ true

abbrev pub IsRepair : RepairKind → List ℕ → List ℕ → Type 0
IsRepair k.TagQuotes was now = IsTagMeant was now
IsRepair k.TagBracket was now = IsTagMeant was now
IsRepair k.TagName was now = IsTagMeant was now
IsRepair k.Castling was now = IsMove k.Castling was now
IsRepair k.Hyphen was now = IsMove k.Hyphen was now
IsRepair k.Colon was now = IsMove k.Colon was now
IsRepair k.Pawn was now = IsMove k.Pawn was now
IsRepair k.Small was now = IsMove k.Small was now
IsRepair k.Large was now = IsMove k.Large was now
IsRepair k.Promotion was now = IsMove k.Promotion was now
IsRepair k.Sign was now = sign_of was ≡ Some now
IsRepair k.Said was now = (is_said was ≡ true) × (now ≡ [])
IsRepair k.Value was now = number_for was ≡ Some now
IsRepair k.Result was now = result_of was ≡ Some now
IsRepair k.Glyphs was now = (more : List ℕ) × (was ≡ now ++ more) × (length now ≡ 2) × (list_all is_glyph was ≡ true)
IsRepair k.Number was now = now ≡ quoted [] was
IsRepair k.Offer was now = now ≡ quoted [] was
IsRepair k.Angles was now = now ≡ quoted [] was
IsRepair k.Bracket was now = now ≡ quoted [] was
IsRepair k.Marker was now = now ≡ quoted [] was
IsRepair k.Symbol was now = now ≡ quoted [] was
IsRepair k.Nested was now = now ≡ quoted [] was
IsRepair k.Null was now = now ≡ quoted (codes "cut: ") was
IsRepair k.Illegal was now = now ≡ quoted (codes "cut: ") was
IsRepair k.Unreadable was now = now ≡ quoted (codes "cut: ") was
IsRepair k.Variation was now = now ≡ quoted (codes "cut: ") was
IsRepair k.Dots was now = (was ≡ 226 ∷ 128 ∷ 166 ∷ []) × (now ≡ codes "...")
IsRepair k.Space was now = SaysNothing was × (now ≡ [])
IsRepair k.Control was now = SaysNothing was × (now ≡ [])
IsRepair k.Stray was now = SaysNothing was × (now ≡ [])
IsRepair k.Comment was now = ⊥
IsRepair k.Unclosed was now = ⊥
IsRepair k.Prose was now = ⊥
IsRepair k.Fen was now = IsFen was now
IsRepair k.Squares was now = castling_of was ≡ Some now

-- the text goes on with the bytes `others`
abbrev pub IsRepairBefore : RepairKind → List ℕ → List ℕ → List ℕ → Type 0
IsRepairBefore k.Comment was now others = (was ≡ []) × (now ≡ codes "}") × (ends_comment others ≡ true)
IsRepairBefore k.Unclosed was now others = (was ≡ []) × (now ≡ 10 ∷ codes ")") × EndsGame others
IsRepairBefore k.Prose was now others = (now ≡ []) × (is_prose true was others ≡ true)
IsRepairBefore _ was now others = ⊥

abbrev pub MayStand : RepairKind → List ℕ → List ℕ → List ℕ → Type 0
MayStand kind was now others = IsRepair kind was now ⊎ IsRepairBefore kind was now others

-- a sign is within a word
abbrev pub padded : RepairKind → List ℕ → List ℕ
padded k.Sign now = now
padded _ now = 32 ∷ (now ++ 32 ∷ [])

-- the place of a repair is counted from the beginning of a text of `size` bytes
abbrev pub Rewrites : ℕ → List ℕ → List Repair → List ℕ → List ℕ → Type 0
Rewrites size text [] out rest = text ≡ out ++ rest
Rewrites size text (r ∷ rs) out rest =
    (kept was others now more : List ℕ) × (text ≡ kept ++ (was ++ others)) × (out ≡ kept ++ (padded r.kind now ++ more)) × (r.place + length (was ++ others) ≡ size) × (r.length ≡ length was)
    × (r.written ≡ length (padded r.kind now)) × MayStand r.kind was now others × Rewrites size others rs more rest
