-- What the reading of bytes of which more may come says of all that begin with them.
use Rattle.std.proofs.Common.{◌≡◌, ◌≤◌, ◌∙◌, ℕ, Bool, true, false, List, [], ◌∷◌, ◌++◌, length, refl, inl, inr, sym, ap, subst, arith, append_assoc, append-nil, length-append}
use Rattle.std.specs.Prelude.{◌⊎◌, Option, Some, None, Result, Ok, Err, IfOk, IfErr, IfSome}
use Rattle.std.proofs.lemmas.Bool.{true≢false}
use Rattle.byte_streams.specs.Calls.{Calls, joined}
use Rattle.byte_streams.proofs.CallLemmas.{Calls-left}
use Rattle.chess_items.specs.Abandoned.{GivesUp, GivesUpFrom, GoesFurther}
use Rattle.chess_items.specs.Coming.{AtHand, Breaks, BreaksWhere, Came, EachBrings, unread}
use Rattle.chess_items.specs.declared.fault.PgnFault.{PgnFault}
use Rattle.chess_pgn.specs.Games.{Game}
use Rattle.chess_pgn.specs.Reading.{BeginsWithGame, HasNoGame, HasNoGameYet, IsWhite}
use Rattle.chess_pgn.specs.Sources.{Fails, Games, HasFault, HasGame, HasNone, IsGivenUp, IsGivenUpInPart, IsSound, Leaves, MayGoOn, NextGame, ReadsNext, used_after, used_of}
use Rattle.chess_pgn.specs.declared.game.Game as code
use Rattle.chess_pgn.specs.declared.games.GamesFault.{GamesFault}
use Rattle.chess_pgn.specs.declared.games.GamesFault.TheVariants.{Pgn, Read}
use Rattle.chess_pgn.specs.steps.GameCode.{game_of}
use Rattle.chess_bindings.specs.Coming.{Coming, GivesSome, HasEnded}
use Rattle.chess_bindings.specs.Codes.{fault_code}
use Rattle.chess_bindings.specs.Games.{is_of_text}
use Rattle.chess_bindings.specs.Next.{BeginsAnyhow, IsBadAnyhow, IsNext, IsNoNext, IsOpen, IsUndecided, MayFollow}

abbrev failed : Coming → Bool
failed s = s.failed

-- the source of some bytes, from which nothing has come
pub record Begins (text : List ℕ) (is_last : Bool) (hand : AtHand Coming) : Type 0 where
  pub source : hand.source ≡ record { left = text; is_last = is_last; failed = false }
  pub nothing : unread hand ≡ []
  pub reads : hand.reads ≡ 1099511627776

last_stays : (s t : Coming) (pieces : List (List ℕ)) → Calls (λ a bytes b. GivesSome a bytes b) s pieces t → t.is_last ≡ s.is_last
last_stays s t [] calls = ap (λ (x : Coming). x.is_last) (sym calls)
last_stays s t (p ∷ ps) calls = last_stays calls.0 t ps calls.2 ∙ calls.1.same

-- each read brings a byte at least
brings : (ended : Bool) (pieces : List (List ℕ)) → ended ≡ false → EachBrings ended pieces → length pieces ≤ length (joined pieces)
brings ended [] goes_on each = omega arith
brings ended (p ∷ ps) goes_on (inl some, each) = omega (arith, some, brings ended ps goes_on each, length-append p (joined ps))
brings ended (p ∷ ps) goes_on (inr end, each) = absurd (true≢false (sym end.1 ∙ goes_on))

module _ (text : List ℕ) (is_last : Bool) (old new : AtHand Coming) (bytes : List ℕ) (began : Begins text is_last old) (came : Came (λ s b t. GivesSome s b t) failed old bytes new) where
  whole : text ≡ bytes ++ new.source.left
  whole =
      sym (ap (λ (s : Coming). s.left) began.source)
      ∙ Calls-left (λ s b t. GivesSome s b t) (λ s. s.left) (λ s t p one. one.parts) old.source new.source came.pieces came.calls
      ∙ ap (λ (b : List ℕ). b ++ new.source.left) came.whole

  last_is : new.source.is_last ≡ is_last
  last_is = last_stays old.source new.source came.pieces came.calls ∙ ap (λ (s : Coming). s.is_last) began.source

  -- what is left of the bytes, and what follows them, come next
  parts : (more : List ℕ) → unread old ++ (bytes ++ (new.source.left ++ more)) ≡ text ++ more
  parts more =
      ap (λ (u : List ℕ). u ++ (bytes ++ (new.source.left ++ more))) began.nothing
      ∙ sym (append_assoc bytes new.source.left more)
      ∙ ap (λ (b : List ℕ). b ++ more) (sym whole)

  follows : (more : List ℕ) → MayFollow is_last more → (new.has_ended ≡ true → HasEnded new.source) → new.has_ended ≡ true → new.source.left ++ more ≡ []
  follows more may ended so =
      let end = ended so in ap (λ (l : List ℕ). l ++ more) end.none ∙ may (sym last_is ∙ end.last)

pub begins_anyhow : (text : List ℕ) (is_last : Bool) (old new : AtHand Coming) (game : Game) → Begins text is_last old → (took : HasGame (λ s b t. GivesSome s b t) failed old new game)
    → (new.has_ended ≡ true → HasEnded new.source) → BeginsAnyhow text is_last game (length took.text)
begins_anyhow text is_last old new game began took ended more may =
    subst (λ (x : List ℕ). BeginsWithGame x game (length took.text)) (parts text is_last old new took.bytes began took.came more)
    (took.reads (new.source.left ++ more) (follows text is_last old new took.bytes began took.came more may ended))

pub white_all : (text : List ℕ) (is_last : Bool) (old new : AtHand Coming) → Begins text is_last old → HasNone (λ s b t. GivesSome s b t) failed old new → (new.has_ended ≡ true → HasEnded new.source)
    → (is_last ≡ true) × IsWhite text
white_all text is_last old new began none ended =
    let end = ended none.ended in (
      sym (last_is text is_last old new none.bytes began none.came) ∙ end.last,
      subst IsWhite (
          ap (λ (u : List ℕ). u ++ none.bytes) began.nothing
          ∙ sym (append-nil none.bytes)
          ∙ ap (λ (l : List ℕ). none.bytes ++ l) (sym end.none)
          ∙ sym (whole text is_last old new none.bytes began none.came)) none.white,
    )

pub bad_anyhow : (text : List ℕ) (is_last : Bool) (old mid new : AtHand Coming) (count : ℕ) → Begins text is_last old → Fails (λ s b t. GivesSome s b t) failed (λ s. HasEnded s) old mid
    → GivesUpFrom (λ s b t. GivesSome s b t) failed old new count → (new.has_ended ≡ true → HasEnded new.source) → IsBadAnyhow text is_last count
bad_anyhow text is_last old mid new count began fails given ended more may =
    let eq = parts text is_last old mid fails.bytes began fails.came more in
    let on = follows text is_last old mid fails.bytes began fails.came more may fails.ended_so in (
      (
        subst HasNoGame eq (fails.none (mid.source.left ++ more) on),
        subst (λ (x : List ℕ). IsWhite x → ⊥) eq (fails.dark (mid.source.left ++ more) on),
      ),
      subst (λ (x : List ℕ). GivesUp x count) (parts text is_last old new given.bytes began given.came more)
          (given.gives_up (new.source.left ++ more) (follows text is_last old new given.bytes began given.came more may ended)),
    )

-- all bytes came and the next read failed, or 2^40 reads were made
broken_off : (text : List ℕ) (is_last : Bool) (old before new : AtHand Coming) (bytes : List ℕ) → Begins text is_last old → Came (λ s b t. GivesSome s b t) failed old bytes before
    → before.has_ended ≡ false → Breaks (λ s b t. GivesSome s b t) failed before new → ((before.source.left ≡ []) × (is_last ≡ false)) ⊎ (1099511627776 ≤ length bytes)
broken_off text is_last old before new bytes began came goes_on (inl out, still, placed) =
    let ran = out.0.ran_out out.1 in
    inl (out.0.parts ∙ ran.0, sym (last_is text is_last old before bytes began came) ∙ sym out.0.same ∙ ran.1)
broken_off text is_last old before new bytes began came goes_on (inr spent, still, placed) =
    inr (omega (arith, came.counted, spent.1, began.reads, brings before.has_ended came.pieces goes_on came.each, ap length came.whole))

pub undecided : (text : List ℕ) (is_last : Bool) (P : List ℕ → Type 0) (old new : AtHand Coming) → Begins text is_last old → (broke : BreaksWhere P (λ s b t. GivesSome s b t) failed old new)
    → IsOpen (unread old ++ broke.bytes) → IsUndecided text is_last
undecided text is_last P old new began broke is = record {
  begun = broke.bytes;
  left = broke.before.source.left;
  parts = whole text is_last old broke.before broke.bytes began broke.came;
  undecided = subst (λ (u : List ℕ). IsOpen (u ++ broke.bytes)) began.nothing is;
  all = broken_off text is_last old broke.before new broke.bytes began broke.came broke.not_ended broke.breaks;
}

-- ---- what `next` and `pass_over` of `Games` do, and what is answered

abbrev Reads : {A : Type 0} → Games Coming → Games Coming → Result (Option (code.Game A)) GamesFault → Type 0
Reads old new result = ReadsNext (λ s b t. GivesSome s b t) failed (λ s. HasEnded s) old new result

-- a reader of these bytes that has not begun
pub record Fresh (text : List ℕ) (is_last : Bool) (games : Games Coming) : Type 0 where
  pub begins : Begins text is_last games.text
  pub no_fault : games.fault ≡ None
  pub none_used : games.text.used ≡ 0

pub fresh : (text : List ℕ) (is_last : Bool) (source : Coming) (games : Games Coming) → source ≡ record { left = text; is_last = is_last; failed = false } → games.text.source ≡ source
    → unread games.text ≡ [] → games.text.reads ≡ 1099511627776 → games.fault ≡ None → games.text.used ≡ 0 → Fresh text is_last games
fresh text is_last source games begins from nothing reads none used = record { begins = record { source = from ∙ begins; nothing = nothing; reads = reads }; no_fault = none; none_used = used }

-- where no fault is kept, the source has ended where its end was seen, and the bytes that were used are those of its text
ended_well : (games : Games Coming) → games.fault ≡ None → IsSound (λ s. HasEnded s) games → games.text.has_ended ≡ true → HasEnded games.text.source
ended_well games none sound = sound.ended_so (subst MayGoOn (sym none) tt)

used_well : (games : Games Coming) (used : ℕ) → games.fault ≡ None → used ≡ used_of games → used ≡ games.text.used
used_well games used none e = e ∙ ap (λ (f : Option GamesFault). used_after f games.text.used) none

pub found_next : {A : Type 0} (text : List ℕ) (is_last : Bool) (old new : Games Coming) (result : Result (Option (code.Game A)) GamesFault) (game : code.Game A) (used : ℕ)
    → Fresh text is_last old → Reads old new result → result ≡ Ok (Some game) → used ≡ used_of new → BeginsAnyhow text is_last (game_of game) used
found_next {A} text is_last old new result game used fresh reads is e =
    let took =
    subst (λ (r : Result (Option (code.Game A)) GamesFault). IfOk r (λ found. IfSome found (λ game. NextGame (λ s b t. GivesSome s b t) failed old new (game_of game)))) is reads.game in
    let none = subst (λ (r : Result (Option (code.Game A)) GamesFault). IfOk r (λ _. new.fault ≡ None)) is reads.good in
    subst (λ (n : ℕ). BeginsAnyhow text is_last (game_of game) n) (omega (arith, used_well new used none e, took.used, fresh.none_used))
    (begins_anyhow text is_last old.text new.text (game_of game) fresh.begins took.took (ended_well new none reads.sound))

pub white_next : {A : Type 0} (text : List ℕ) (is_last : Bool) (old new : Games Coming) (result : Result (Option (code.Game A)) GamesFault) (used : ℕ)
    → Fresh text is_last old → Reads old new result → result ≡ Ok None → IsNoNext text is_last 16 used (length text)
white_next {A} text is_last old new result used fresh reads is =
    let none = subst (λ (r : Result (Option (code.Game A)) GamesFault). IfOk r (λ _. new.fault ≡ None)) is reads.good in
    let white = white_all text is_last old.text new.text fresh.begins (reads.none is) (ended_well new none reads.sound) in inl (refl, white.0, white.1, refl)

-- the fault of a call for the next game
fault_next : {A : Type 0} (old new : Games Coming) (result : Result (Option (code.Game A)) GamesFault) (fault : GamesFault) → old.fault ≡ None → Reads old new result → result ≡ Err fault
    → HasFault (λ s b t. GivesSome s b t) failed (λ s. HasEnded s) old.text new.text fault
fault_next {A} old new result fault none reads is =
    subst (λ (r : Result (Option (code.Game A)) GamesFault). IfErr r (λ f. HasFault (λ s b t. GivesSome s b t) failed (λ s. HasEnded s) old.text new.text f)) is (reads.fault none)

pub wants_next : {A : Type 0} (text : List ℕ) (is_last : Bool) (old new : Games Coming) (result : Result (Option (code.Game A)) GamesFault) (used : ℕ)
    → Fresh text is_last old → Reads old new result → result ≡ Err Read → IsNoNext text is_last 14 used used
wants_next text is_last old new result used fresh reads is =
    let fails = fault_next old new result Read fresh.no_fault reads is in
    inr (inr (inl (refl, refl, undecided text is_last HasNoGameYet old.text new.text fresh.begins fails.breaks (inl fails.within.ends))))

-- of a bad game, where its reading stopped
stopped : {A : Type 0} (old new : Games Coming) (result : Result (Option (code.Game A)) GamesFault) (fault : PgnFault) → old.fault ≡ None → Reads old new result → result ≡ Err (Pgn fault)
    → MayGoOn (Some (Pgn fault)) → (new.fault ≡ Some (Pgn fault)) × Leaves (λ s b t. GivesSome s b t) failed old.text new.text new.halt
stopped {A} old new result fault none reads is goes_on = (
  subst (λ (r : Result (Option (code.Game A)) GamesFault). IfErr r (λ f. new.fault ≡ Some f)) is reads.sticky,
  subst (λ (r : Result (Option (code.Game A)) GamesFault). IfErr r (λ f. MayGoOn (Some f) → Leaves (λ s b t. GivesSome s b t) failed old.text new.text new.halt)) is (reads.leaves none) goes_on,
)

goes_past : (fault : PgnFault) → is_of_text fault.kind ≡ true → MayGoOn (Some (Pgn fault))
goes_past fault of_text memory = true≢false (sym of_text ∙ ap is_of_text memory)

fails_next : (fault : PgnFault) (old mid : Games Coming) → is_of_text fault.kind ≡ true → HasFault (λ s b t. GivesSome s b t) failed (λ s. HasEnded s) old.text mid.text (Pgn fault)
    → Fails (λ s b t. GivesSome s b t) failed (λ s. HasEnded s) old.text mid.text
fails_next fault old mid of_text (inl starved) = absurd (goes_past fault of_text starved.0)
fails_next fault old mid of_text (inr fails) = fails.1

pub bad_next : {A : Type 0} (text : List ℕ) (is_last : Bool) (old mid new : Games Coming) (result : Result (Option (code.Game A)) GamesFault) (fault : PgnFault) (passed : Result ℕ GamesFault) (n code used used' : ℕ)
    → Fresh text is_last old → Reads old mid result → result ≡ Err (Pgn fault) → is_of_text fault.kind ≡ true → passed ≡ Ok n
    → ((f : GamesFault) (before : AtHand Coming) → mid.fault ≡ Some f → Leaves (λ s b t. GivesSome s b t) failed before mid.text mid.halt → IfOk passed (λ _. IsGivenUp (λ s b t. GivesSome s b t) failed before new.text))
    → IfOk passed (λ _. new.fault ≡ None) → IsSound (λ s. HasEnded s) new → code ≡ fault_code fault.kind → used' ≡ used_of new → IsNoNext text is_last code used used'
bad_next text is_last old mid new result fault passed n code used used' fresh reads is of_text ok gives good sound ec eu =
    let at = stopped old mid result fault fresh.no_fault reads is (goes_past fault of_text) in
    let given = subst (λ (r : Result ℕ GamesFault). IfOk r (λ _. IsGivenUp (λ s b t. GivesSome s b t) failed old.text new.text)) ok (gives (Pgn fault) old.text at.0 at.1) in
    let none = subst (λ (r : Result ℕ GamesFault). IfOk r (λ _. new.fault ≡ None)) ok good in
    let fails = fails_next fault old mid of_text (fault_next old mid result (Pgn fault) fresh.no_fault reads is) in
    let bad = bad_anyhow text is_last old.text mid.text new.text given.0 fresh.begins fails given.1 (ended_well new none sound) in
    inr (inl (fault.kind, of_text, ec, subst (IsBadAnyhow text is_last) (omega (arith, used_well new used' none eu, given.1.used, fresh.none_used)) bad))

pub wants_pass : {A : Type 0} (text : List ℕ) (is_last : Bool) (old mid new : Games Coming) (result : Result (Option (code.Game A)) GamesFault) (fault : PgnFault) (passed : Result ℕ GamesFault) (used : ℕ)
    → Fresh text is_last old → Reads old mid result → result ≡ Err (Pgn fault) → is_of_text fault.kind ≡ true → passed ≡ Err Read
    → ((f : GamesFault) (before : AtHand Coming) → mid.fault ≡ Some f → MayGoOn (Some f) → Leaves (λ s b t. GivesSome s b t) failed before mid.text mid.halt
    → IfErr passed (λ fault. IsGivenUpInPart (λ s b t. GivesSome s b t) failed before new.text fault))
    → IsNoNext text is_last 14 used used
wants_pass text is_last old mid new result fault passed used fresh reads is of_text err part =
    let goes_on = goes_past fault of_text in
    let at = stopped old mid result fault fresh.no_fault reads is goes_on in
    let broke = subst (λ (r : Result ℕ GamesFault). IfErr r (λ f. IsGivenUpInPart (λ s b t. GivesSome s b t) failed old.text new.text f)) err (part (Pgn fault) old.text at.0 goes_on at.1) in
    inr (inr (inl (refl, refl, undecided text is_last GoesFurther old.text new.text fresh.begins broke (inr broke.none))))

abbrev pub code_of : {G : Type 0} → Result G ℕ → ℕ
code_of (Ok game) = 0
code_of (Err code) = code

pub is_next : {A : Type 0} (text : List ℕ) (is_last : Bool) (status used used' : ℕ) (result : Result (code.Game A) ℕ) → IfOk result (λ game. BeginsAnyhow text is_last (game_of game) used')
    → IfErr result (λ code. IsNoNext text is_last code used used') → status ≡ code_of result → IsNext text is_last status used used'
is_next text is_last status used used' (Ok game) found none e = inl (e, game_of game, found)
is_next text is_last status used used' (Err other) found none e = inr (subst (λ (n : ℕ). IsNoNext text is_last n used used') (sym e) none)
