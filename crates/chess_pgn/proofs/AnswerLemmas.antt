-- What is answered of a text that begins with a game, and where a fault is.
use Rattle.std.proofs.Common.{◌≡◌, ◌⊎◌, ℕ, Bool, true, false, List, [], ◌++◌, refl, sym, subst, ap, ◌∙◌, append-nil}
use Rattle.std.specs.Prelude.{Err, Ok, Option, Some, None}
use mathlib.Core.Logic.{inl, inr}
use Rattle.byte_streams.specs.Calls.{joined}
use Rattle.chess_items.specs.Coming.{AtHand, LastReadWhere, unread}
use Rattle.chess_items.specs.steps.Texts.{LastSince, LastWhere}
use Rattle.chess_items.specs.declared.fault.FaultKind.TheVariants.{Memory}
use Rattle.chess_items.specs.declared.fault.PgnFault.{PgnFault}
use Rattle.chess_items.proofs.BreakLemmas.{all_came, breaking, brings, ends_truly, has_all, reads_left}
use Rattle.chess_items.proofs.LastLemmas.{CameWhere, came_where}
use Rattle.chess_pgn.specs.Games as games
use Rattle.chess_pgn.specs.Reading.{HasNoGame, HasNoGameYet, IsAnswered, BeginsWithGame, IsWhite}
use Rattle.chess_items.specs.declared.skimming.Halt.{Halt}
use Rattle.chess_pgn.specs.Sources.{EndsOpen, EndsWithin, HasFault, Leaves, MayGoOn}
use Rattle.chess_pgn.specs.steps.GameAt.{FoundGame, HaltsAt, HasStarved, IsFault, IsUnread, LeavesIn, NotCome}
use Rattle.chess_pgn.specs.steps.GameCode.{game_of}
use Rattle.chess_pgn.specs.steps.Next.{HasKind}
use Rattle.chess_pgn.specs.declared.game.Game.{Game}
use Rattle.chess_pgn.specs.declared.games.GamesFault.{GamesFault}
use Rattle.chess_pgn.specs.declared.games.GamesFault.TheVariants.{Pgn, Read}
use Rattle.chess_pgn.proofs.OneGameLemmas.{one_game, white_no_game}
use Rattle.chess_pgn.proofs.SourceLemmas.{no_bytes, whole_game, whole_none}

-- ---- a whole text

module _ {X : Type 0} (at_hand : X → List ℕ) (all : X → Type 0) (reads : X → ℕ) (old new : X) where
  pub white_found : {A : Type 0} (found : Option (Game A × ℕ)) → FoundGame (λ x bytes y. bytes ≡ []) at_hand all reads old new found → IsWhite (at_hand old) → found ≡ None
  white_found (Some x) h w = absurd (white_no_game (at_hand old) (game_of x.0) x.1 w (whole_game at_hand all reads old new (Some x) h))
  white_found None h w = refl

  pub only_found : {A : Type 0} (found : Option (Game A × ℕ)) → FoundGame (λ x bytes y. bytes ≡ []) at_hand all reads old new found → (game : games.Game) (used : ℕ) → BeginsWithGame (at_hand old) game used → IsAnswered game used (Ok found)
  only_found {A} (Some x) h game used y = one_game (at_hand old) (game_of x.0) game x.1 used (whole_game at_hand all reads old new (Some x) h) y
  only_found {A} None h game used y = white_no_game (at_hand old) game used (whole_none at_hand all reads old new {A = A} None h refl) y

module _ {X : Type 0} (breaks : X → X → Type 0) (at_hand : X → List ℕ) (all sound : X → Type 0) (reads : X → ℕ) (old new : X) where
  none_there : NotCome (λ x bytes y. bytes ≡ []) at_hand all sound reads old new → HasNoGame (at_hand old)
  none_there h =
      subst (λ (z : List ℕ). HasNoGame z) (ap (λ (z : List ℕ). at_hand old ++ (z ++ [])) (no_bytes old new h.pieces h.came) ∙ append-nil (at_hand old)) (h.none [] (λ e. refl))

  abbrev Faulty : GamesFault → Type 0
  Faulty told = IsFault (λ x bytes y. bytes ≡ []) at_hand all sound reads breaks old new told

  fault_there : (fault : PgnFault) → Faulty (Pgn fault) → (fault.kind ≡ Memory) ⊎ HasNoGame (at_hand old)
  fault_there fault (inl k) = inl k.0
  fault_there fault (inr h) = inr (none_there h.1)

  -- a white text has none, and no fault
  pub white_fault : (told : GamesFault) (fault : PgnFault) → Faulty told → told ≡ Pgn fault → IsWhite (at_hand old) → fault.kind ≡ Memory
  white_fault told fault h e w = by (subst (λ (f : GamesFault). Faulty f) e h)
    where
      by : Faulty (Pgn fault) → fault.kind ≡ Memory
      by (inl k) = k.0
      by (inr n) =
          absurd (n.1.dark [] (λ e. refl) (subst (λ (z : List ℕ). IsWhite z) (sym (ap (λ (z : List ℕ). at_hand old ++ (z ++ [])) (no_bytes old new n.1.pieces n.1.came) ∙ append-nil (at_hand old))) w))

  pub whole_fault : (told : GamesFault) (fault : PgnFault) → Faulty told → told ≡ Pgn fault → (fault.kind ≡ Memory) ⊎ HasNoGame (at_hand old)
  whole_fault told fault h e = fault_there fault (subst (λ (f : GamesFault). Faulty f) e h)

  pub only_fault : (told : GamesFault) (fault : PgnFault) → Faulty told → told ≡ Pgn fault → (game : games.Game) (used : ℕ) → BeginsWithGame (at_hand old) game used → fault.kind ≡ Memory
  only_fault told fault h e game used x = by (whole_fault told fault h e)
    where
      by : (fault.kind ≡ Memory) ⊎ HasNoGame (at_hand old) → fault.kind ≡ Memory
      by (inl k) = k
      by (inr none) = absurd (none game used x)

-- ---- a source

not_true : (v : Bool) → (v ≡ true → ⊥) → v ≡ false
not_true true h = absurd (h refl)
not_true false h = refl

module _ {R : Type 0} (gives : R → List ℕ → R → Type 0) (failed : R → Bool) (ended : R → Type 0) (old new : AtHand R) where
  -- what came by needed reads, and then there was no memory
  since_where : (P : List ℕ → Type 0) (bytes : List ℕ) → LastSince (brings gives failed) unread (has_all gives failed) (reads_left gives failed) P old bytes new → LastWhere (brings gives failed) unread (reads_left gives failed) P old bytes new
  since_where P bytes (inl same) = inl same
  since_where P bytes (inr l) = inr (l.1, l.2)

  needed_of : (hand : List ℕ) (pieces : List (List ℕ)) → LastReadWhere IsUnread hand pieces → LastReadWhere HasNoGameYet hand pieces
  needed_of hand pieces (inl e) = inl e
  needed_of hand pieces (inr l) = inr (l.0, l.1, l.2, l.3, l.4.0)

  open_of : (hand : List ℕ) (pieces : List (List ℕ)) → LastReadWhere IsUnread hand pieces → LastReadWhere EndsOpen hand pieces
  open_of hand pieces (inl e) = inl e
  open_of hand pieces (inr l) = inr (l.0, l.1, l.2, l.3, l.4.1)

  starved_where : (k : HasStarved (brings gives failed) unread (has_all gives failed) (ends_truly gives failed ended) (reads_left gives failed) old new) → CameWhere IsUnread gives failed old (joined k.pieces) new
  starved_where k = came_where IsUnread gives failed old new k.pieces (all_came gives failed old new k.pieces k.came) (since_where IsUnread (joined k.pieces) k.needed)

  -- wherever the fault is placed
  pub source_fault : (fault placed : GamesFault) → IsFault (brings gives failed) unread (has_all gives failed) (ends_truly gives failed ended) (reads_left gives failed) (breaking gives failed) old new fault → HasKind fault placed → HasFault gives failed ended old new placed
  source_fault (Pgn fault) (Pgn placed) (inl k) e =
      let c = starved_where k.1 in
      inl (e ∙ k.0, record { bytes = joined k.1.pieces; came = c.came; needed = needed_of (unread old) c.came.pieces c.asked; ends = open_of (unread old) c.came.pieces c.asked; still = λ h. let s = k.1.still h in (s.0, s.2 s.1) })
  source_fault (Pgn fault) (Pgn placed) (inr k) e =
      let h = k.1 in
      let c = came_where EndsOpen gives failed old new h.pieces (all_came gives failed old new h.pieces h.came) (since_where EndsOpen (joined h.pieces) h.needed) in
      inr (
        (λ m. k.0 (sym e ∙ m)),
        record { bytes = joined h.pieces; came = c.came; items = h.items; begins = h.begins; used = h.used; needed = c.asked; ended_so = h.sound_still; none = h.none; dark = h.dark; still = h.still },
      )
  source_fault (Pgn fault) Read h e = absurd e
  source_fault Read (Pgn placed) h e = absurd e
  source_fault Read Read h e = record {
    breaks = record { bytes = joined h.pieces; before = h.mid; came = all_came gives failed old h.mid h.pieces h.came; breaks = h.breaks_off; not_ended = not_true h.mid.has_ended h.not_all; none = h.none };
    within = subst (λ (z : List ℕ). EndsWithin (unread old ++ joined h.pieces) z) (sym h.breaks_off.1) h.within;
  }

  -- how far its items were used
  left_there : (halt : Option Halt) → LeavesIn (brings gives failed) unread (has_all gives failed) (reads_left gives failed) old new halt → Leaves gives failed old new halt
  left_there (Some halt) l = l
  left_there None f = f

  pub source_leaves : (A : Type 0) (halt : Option Halt) (fault placed : GamesFault) → HaltsAt {A = A} (brings gives failed) unread (has_all gives failed) (reads_left gives failed) old new halt (Err fault) → HasKind fault placed → MayGoOn (Some placed) → Leaves gives failed old new halt
  source_leaves A halt (Pgn fault) (Pgn placed) (inl m) k on = absurd (on (k ∙ m))
  source_leaves A halt (Pgn fault) (Pgn placed) (inr l) k on = left_there halt l
  source_leaves A halt (Pgn fault) Read h k on = absurd k
  source_leaves A halt Read (Pgn placed) h k on = absurd k
  source_leaves A halt Read Read h k on = absurd on
