-- What a game's text says beside its moves.
--   HeadingParts     the tags, and how the game ended (PGN 8.1, 8.2.6)
--   nothing_known    of a game of which nothing is known
--   tag_names        the names of the tags: of the six that each game has besides Result, then of the others in ASCII order (PGN 8.1.1, 3.2)
--   outcome_in       how a game ended, by its number
--   tag_code         the status of a tag that is set, or refused
--   HandedIfThere    a text is written, or there is none
--   IsTagSet         the tag of a name has a value, all else is as it was; or why it hasn't, and all is as it was
--   IsTagCleared     the same of a tag taken out; one of the six then says that nothing is known
--   IsOutcomeSet     how the game ended is set by its number, or that is none
--   coded_heading    tags and outcome as a tuple, by which a proof tells one from another
use Rattle.std.specs.Prelude.{◌≡◌, ◌⊎◌, ◌==◌, ℕ, zero, suc, if◌then◌else◌, List, ◌∷◌, map, Option, Some, None, OnErr, OnOk, Result, Ok, Err, codes, refl}
use Rattle.std.specs.Coded.{Coded, code_by, coded×, coded_ℕ, coded_list}
use Rattle.chess_items.specs.declared.outcome.Outcome.{Outcome}
use Rattle.chess_items.specs.declared.outcome.Outcome.TheVariants.{WhiteWins, BlackWins, Draw, Unfinished}
use Rattle.chess_pgn.specs.Games.{Tags, tag_value, unknown}
use Rattle.chess_edit.specs.SetTags.{IsSet, IsTagAnswer, tag_answer}
use Rattle.chess_edit.specs.declared.tags.TagFault.{TagFault}
use Rattle.chess_edit.specs.declared.tags.TagFault.TheVariants.{BadName, OwnTag, BadValue, Memory}
use Rattle.chess_bindings.specs.Codes.{argument, no_memory, no_such, ok, bad_name, own_tag, bad_value}
use Rattle.chess_bindings.specs.Handed.{IsHanded}
use Rattle.chess_bindings.specs.Reports.{marker_code}

-- the tags, and how the game ended
pub record HeadingParts : Type 0 where
  pub tags : Tags
  pub outcome : Outcome

-- as a game begins
abbrev pub nothing_known : HeadingParts
nothing_known = record { tags = unknown; outcome = Unfinished }

-- the names of the tags, in the order of the export form
abbrev pub tag_names : Tags → List (List ℕ)
tag_names tags = codes "Event" ∷ codes "Site" ∷ codes "Date" ∷ codes "Round" ∷ codes "White" ∷ codes "Black" ∷ map (λ tag. tag.0) tags.others

-- the marker of a number
abbrev pub outcome_in : ℕ → Option Outcome
outcome_in number =
    if number == 0 then Some Unfinished else if number == 1 then Some WhiteWins else if number == 2 then Some BlackWins else if number == 3 then Some Draw else None

-- the status of a tag that is set, or refused
abbrev pub tag_code : Result (Unit {0}) TagFault → ℕ
tag_code (Ok _) = ok
tag_code (Err BadName) = bad_name
tag_code (Err OwnTag) = own_tag
tag_code (Err BadValue) = bad_value
tag_code (Err Memory) = no_memory

-- the text, if there is one
abbrev pub HandedIfThere : Option (List ℕ) → (code count count' : ℕ) → (room room' : List ℕ) → Type 0
HandedIfThere (Some text) code count count' room room' = IsHanded text code count' room room'
HandedIfThere None code count count' room room' = (code ≡ no_such) × (count' ≡ count) × (room' ≡ room)

-- the tag has the value, or nothing has changed
abbrev pub IsTagSet : (name value : List ℕ) → HeadingParts → ℕ → HeadingParts → Type 0
IsTagSet name value old code new =
    (result : Result (Unit {0}) TagFault) × IsTagAnswer (tag_answer name value) result × (code ≡ tag_code result)
    × OnOk result (IsSet name (Some value) old.tags new.tags × (new.outcome ≡ old.outcome)) × OnErr result (new ≡ old)

-- the tag says nothing, or there is no memory
abbrev pub IsTagCleared : List ℕ → HeadingParts → ℕ → HeadingParts → Type 0
IsTagCleared name old code new =
    ((code ≡ ok) × IsSet name (tag_value name unknown) old.tags new.tags × (new.outcome ≡ old.outcome)) ⊎ ((code ≡ no_memory) × (new ≡ old))

-- by the marker of the number
abbrev pub OutcomeSetIf : Option Outcome → HeadingParts → ℕ → HeadingParts → Type 0
OutcomeSetIf (Some outcome) old code new = (code ≡ ok) × (new ≡ record { tags = old.tags; outcome = outcome })
OutcomeSetIf None old code new = (code ≡ argument) × (new ≡ old)

-- the marker of the number, or nothing has changed
abbrev pub IsOutcomeSet : ℕ → HeadingParts → ℕ → HeadingParts → Type 0
IsOutcomeSet number = OutcomeSetIf (outcome_in number)

-- ---- as tuples

-- the marker of a number, of which there are four
abbrev outcome_of : ℕ → Outcome
outcome_of zero = Unfinished
outcome_of (suc zero) = WhiteWins
outcome_of (suc (suc zero)) = BlackWins
outcome_of (suc (suc (suc n))) = Draw

-- a marker's number gives it back
abbrev outcome_of-code : (o : Outcome) → outcome_of (marker_code o) ≡ o
outcome_of-code Unfinished = refl
outcome_of-code WhiteWins = refl
outcome_of-code BlackWins = refl
outcome_of-code Draw = refl

abbrev coded_text : Coded (List ℕ)
coded_text = coded_list coded_ℕ

abbrev coded_tags : Coded Tags
coded_tags =
    code_by ((List ℕ × (List ℕ × List ℕ)) × ((List ℕ × (List ℕ × List ℕ)) × List (List ℕ × List ℕ)))
    (coded× (coded× coded_text (coded× coded_text coded_text)) (coded× (coded× coded_text (coded× coded_text coded_text)) (coded_list (coded× coded_text coded_text))))
    (λ t. ((t.event, (t.site, t.date)), ((t.round, (t.white, t.black)), t.others)))
    (λ p. record { event = p.0.0; site = p.0.1.0; date = p.0.1.1; round = p.1.0.0; white = p.1.0.1.0; black = p.1.0.1.1; others = p.1.1 })
    (λ _. refl)

-- tags and outcome as a tuple
abbrev pub coded_heading : Coded HeadingParts
coded_heading = code_by (Tags × Outcome) (coded× coded_tags (code_by ℕ coded_ℕ marker_code outcome_of outcome_of-code)) (λ h. (h.tags, h.outcome)) (λ p. record { tags = p.0; outcome = p.1 }) (λ _. refl)
