-- Games read and written one after another.
use Rattle.std.proofs.Common.{◌≡◌, ◌≢◌, inl, inr, ℕ, ◌+◌, ◌≤◌, Bool, true, false, if◌then◌else◌, List, [], ◌∷◌, ◌++◌, length, refl, sym, ap, subst, ◌∙◌, arith, append_assoc, append-nil, Option, Result, Ok, Err, Some, None}
use Rattle.std.specs.Prelude.{IfErr, IfOk, IfSome, IsErrAnd}
use Rattle.byte_streams.specs.Calls.{Carries}
use Rattle.byte_streams.proofs.CallLemmas.{Carries-none, Carries-append}
use Rattle.chess_items.specs.Coming.{AtHand}
use Rattle.chess_items.specs.declared.fault.FaultKind.TheVariants as lacks
use Rattle.chess_items.specs.declared.fault.PgnFault.{PgnFault}
use Rattle.chess_pgn.specs.Games.{Game}
use Rattle.chess_pgn.specs.Sources.{Fails, Games, HasFault, HasGame, HasNone, IsGivenUp, Leaves, MayGoOn, NextGame}
use Rattle.chess_pgn.specs.declared.game.Game.{Game as Code}
use Rattle.chess_pgn.specs.steps.GameCode.{game_of}
use Rattle.chess_pgn.specs.declared.games.GamesFault.{GamesFault}
use Rattle.chess_pgn.specs.declared.games.GamesFault.TheVariants.{Pgn, Read}
use Rattle.chess_command_line.specs.declared.collection.Failure.{Failure}
use Rattle.chess_command_line.specs.declared.collection.Failure.TheVariants as by
use Rattle.chess_games.specs.declared.form.Form.{Form}
use Rattle.chess_games.specs.Forms.{text_in}
use Rattle.chess_games.specs.Filtered.{FilteredEntry, Good, Bad, Goes, good_text, bad_count, IsFilteredInPart, IsFresh, IsGoneOver, IsFiltered, IsLeftOff, IsUnwritten, NoNext, Stops, most_games}
use Rattle.chess_games.specs.steps.Leaving.{IsFor, NotPassed}
use Rattle.chess_games.specs.Parts.{Part, is_in}

good_text-append : (form : Form) (part : Part) (before : ℕ) (entries : List FilteredEntry) (entry : FilteredEntry) → good_text form part before (entries ++ entry ∷ []) ≡ good_text form part before entries ++ good_text form part (before + length entries) (entry ∷ [])
good_text-append form part before [] entry = ap (λ (n : ℕ). good_text form part n (entry ∷ [])) (omega arith)
good_text-append form part before (Good game ∷ entries) entry =
    let first = if is_in part before then text_in form before game else [] in
    let rest = good_text-append form part (before + 1) entries entry in
    let place : (before + 1) + length entries ≡ before + length (Good game ∷ entries) = omega arith in
    ap (λ (t : List ℕ). first ++ t) (rest ∙ ap (λ (n : ℕ). good_text form part (before + 1) entries ++ good_text form part n (entry ∷ [])) place)
    ∙ sym (append_assoc first (good_text form part (before + 1) entries) (good_text form part (before + length (Good game ∷ entries)) (entry ∷ [])))
good_text-append form part before (Bad fault ∷ entries) entry =
    let rest = good_text-append form part (before + 1) entries entry in
    let place : (before + 1) + length entries ≡ before + length (Bad fault ∷ entries) = omega arith in
    rest ∙ ap (λ (n : ℕ). good_text form part (before + 1) entries ++ good_text form part n (entry ∷ [])) place

bad_count-append : (part : Part) (before : ℕ) (entries : List FilteredEntry) (entry : FilteredEntry) → bad_count part before (entries ++ entry ∷ []) ≡ bad_count part before entries + bad_count part (before + length entries) (entry ∷ [])
bad_count-append part before [] entry =
    let place : before ≡ before + length {A = FilteredEntry} [] = omega arith in
    omega (arith, ap (λ (n : ℕ). bad_count part n (entry ∷ [])) place)
bad_count-append part before (Good game ∷ entries) entry =
    let rest = bad_count-append part (before + 1) entries entry in
    let place : (before + 1) + length entries ≡ before + length (Good game ∷ entries) = omega arith in
    rest ∙ ap (λ (n : ℕ). bad_count part (before + 1) entries + bad_count part n (entry ∷ [])) place
bad_count-append part before (Bad fault ∷ entries) entry =
    let rest = bad_count-append part (before + 1) entries entry in
    let place : (before + 1) + length entries ≡ before + length (Bad fault ∷ entries) = omega arith in
    let whole = rest ∙ ap (λ (n : ℕ). bad_count part (before + 1) entries + bad_count part n (entry ∷ [])) place in
    omega (arith, whole)

-- of a whole collection
good_text-more : (form : Form) (part : Part) (entries : List FilteredEntry) (entry : FilteredEntry) → good_text form part 0 (entries ++ entry ∷ []) ≡ good_text form part 0 entries ++ good_text form part (length entries) (entry ∷ [])
good_text-more form part entries entry =
    let place : 0 + length entries ≡ length entries = omega arith in
    good_text-append form part 0 entries entry ∙ ap (λ (n : ℕ). good_text form part 0 entries ++ good_text form part n (entry ∷ [])) place

bad_count-more : (part : Part) (entries : List FilteredEntry) (entry : FilteredEntry) → bad_count part 0 (entries ++ entry ∷ []) ≡ bad_count part 0 entries + bad_count part (length entries) (entry ∷ [])
bad_count-more part entries entry =
    let place : 0 + length entries ≡ length entries = omega arith in
    bad_count-append part 0 entries entry ∙ ap (λ (n : ℕ). bad_count part 0 entries + bad_count part n (entry ∷ [])) place

length-more : {X : Type 0} (xs : List X) (x : X) → length (xs ++ x ∷ []) ≡ length xs + 1
length-more [] x = refl
length-more (y ∷ xs) x = omega (arith, length-more xs x)

module _ {R : Type 0} (gives : R → List ℕ → R → Type 0) (failed : R → Bool) (ended : R → Type 0) where
  goes_good : (s m n : AtHand R) (entries : List FilteredEntry) (game : Game) → Goes gives failed ended s entries m → HasGame gives failed m n game → Goes gives failed ended s (entries ++ Good game ∷ []) n
  goes_good s m n [] game g h = (n, subst (λ (x : AtHand R). HasGame gives failed x n game) (sym g) h, refl)
  goes_good s m n (Good other ∷ entries) game g h = (g.0, g.1, goes_good g.0 m n entries game g.2 h)
  goes_good s m n (Bad fault ∷ entries) game g h = (g.0, g.1, g.2, g.3, g.4, goes_good g.1 m n entries game g.5 h)

  goes_bad : (s m f n : AtHand R) (entries : List FilteredEntry) (fault : PgnFault) → Goes gives failed ended s entries m → fault.kind ≢ lacks.Memory → Fails gives failed ended m f → IsGivenUp gives failed m n
      → Goes gives failed ended s (entries ++ Bad fault ∷ []) n
  goes_bad s m f n [] fault g k h p = (f, n, k, subst (λ (x : AtHand R). Fails gives failed ended x f) (sym g) h, subst (λ (x : AtHand R). IsGivenUp gives failed x n) (sym g) p, refl)
  goes_bad s m f n (Good other ∷ entries) fault g k h p = (g.0, g.1, goes_bad g.0 m f n entries fault g.2 k h p)
  goes_bad s m f n (Bad other ∷ entries) fault g k h p = (g.0, g.1, g.2, g.3, g.4, goes_bad g.1 m f n entries fault g.5 k h p)

  -- a fault of the text, where it isn't want of memory
  fails_there : (m f : AtHand R) (fault : PgnFault) → HasFault gives failed ended m f (Pgn fault) → fault.kind ≢ lacks.Memory → Fails gives failed ended m f
  fails_there m f fault (inl starves) k = absurd (k starves.0)
  fails_there m f fault (inr fails) k = fails.1

  -- a fault after which reading doesn't go on
  pub stops_there : (m f : AtHand R) (fault : GamesFault) (failure : Failure) → IsFor failure fault → HasFault gives failed ended m f fault → NoNext gives failed ended m f failure
  stops_there m f Read by.Read is has = inl has
  stops_there m f (Pgn fault) by.Memory is (inl starves) = inl starves.1
  stops_there m f (Pgn fault) by.Memory is (inr fails) = absurd (fails.0 is)
  stops_there m f (Pgn fault) by.Read is has = absurd is
  stops_there m f fault by.Write is has = absurd is
  stops_there m f Read by.Memory is has = absurd is

  -- a bad game that isn't passed over
  pub stops_past : (m f n : AtHand R) (fault : PgnFault) (failure : Failure) → HasFault gives failed ended m f (Pgn fault) → fault.kind ≢ lacks.Memory → NotPassed gives failed m n failure → NoNext gives failed ended m n failure
  stops_past m f n fault by.Read h k p = inr (f, fails_there m f fault h k, p)
  stops_past m f n fault by.Write h k p = absurd p
  stops_past m f n fault by.Memory h k p = inr (f, fails_there m f fault h k, p)

-- what is read and written so far
pub record SoFar {R W : Type 0} (gives : R → List ℕ → R → Type 0) (failed : R → Bool) (ended : R → Type 0) (takes : W → List ℕ → W → Type 0) (write_failed : W → Bool) (form : Form) (part : Part) (source now : AtHand R) (old new : W) (bad before : ℕ) : Type 0 where
  pub entries : List FilteredEntry
  pub goes : Goes gives failed ended source entries now
  pub writes : Carries takes old (good_text form part 0 entries) new
  pub well : write_failed new ≡ write_failed old
  pub counted : bad ≡ bad_count part 0 entries
  pub place : before ≡ length entries
  pub few : bad ≤ before

module _ {R W : Type 0} (gives : R → List ℕ → R → Type 0) (failed : R → Bool) (ended : R → Type 0) (takes : W → List ℕ → W → Type 0) (write_failed : W → Bool) (form : Form) (part : Part) where
  pub none_yet : (s : AtHand R) (w : W) → SoFar gives failed ended takes write_failed form part s s w w 0 0
  none_yet s w = record { entries = []; goes = refl; writes = Carries-none takes w; well = refl; counted = refl; place = refl; few = omega arith }

  pub one_good : (s m n : AtHand R) (old mid new : W) (bad before : ℕ) (game : Game) → SoFar gives failed ended takes write_failed form part s m old mid bad before → HasGame gives failed m n game
      → Carries takes mid (if is_in part before then text_in form before game else []) new → write_failed new ≡ write_failed mid → SoFar gives failed ended takes write_failed form part s n old new bad (before + 1)
  one_good s m n old mid new bad before game f h written well = record {
    entries = f.entries ++ Good game ∷ [];
    goes = goes_good gives failed ended s m n f.entries game f.goes h;
    well = well ∙ f.well;
    writes =
        (let there = subst (λ (k : ℕ). Carries takes mid (if is_in part k then text_in form k game else []) new) f.place written in
        let last = subst (λ (t : List ℕ). Carries takes mid t new) (sym (append-nil (if is_in part (length f.entries) then text_in form (length f.entries) game else []))) there in
        subst (λ (t : List ℕ). Carries takes old t new) (sym (good_text-more form part f.entries (Good game)))
        (Carries-append takes old mid new (good_text form part 0 f.entries) (good_text form part (length f.entries) (Good game ∷ [])) f.writes last));
    counted = omega (arith, f.counted, bad_count-more part f.entries (Good game));
    place = omega (arith, f.place, length-more f.entries (Good game));
    few = omega (arith, f.few);
  }

  pub one_bad : (s m f n : AtHand R) (old mid : W) (bad more before : ℕ) (fault : PgnFault) → SoFar gives failed ended takes write_failed form part s m old mid bad before → HasFault gives failed ended m f (Pgn fault) → fault.kind ≢ lacks.Memory
      → IsGivenUp gives failed m n → more ≡ (if is_in part before then 1 else 0) → more ≤ 1 → SoFar gives failed ended takes write_failed form part s n old mid (bad + more) (before + 1)
  one_bad s m f n old mid bad more before fault g h k p counts one = record {
    entries = g.entries ++ Bad fault ∷ [];
    goes = goes_bad gives failed ended s m f n g.entries fault g.goes k (fails_there gives failed ended m f fault h k) p;
    well = g.well;
    writes = subst (λ (t : List ℕ). Carries takes old t mid) (sym (good_text-more form part g.entries (Bad fault) ∙ append-nil (good_text form part 0 g.entries))) g.writes;
    counted =
        (let there : more ≡ (if is_in part (length g.entries) then 1 else 0) = subst (λ (k : ℕ). more ≡ (if is_in part k then 1 else 0)) g.place counts in
        omega (arith, g.counted, there, bad_count-more part g.entries (Bad fault)));
    place = omega (arith, g.place, length-more g.entries (Bad fault));
    few = omega (arith, g.few, one);
  }

  pub all_read : (s m n : AtHand R) (old new : W) (bad before : ℕ) → SoFar gives failed ended takes write_failed form part s m old new bad before → HasNone gives failed m n → ended n.source → IsGoneOver gives failed ended takes write_failed form part s old new bad
  all_read s m n old new bad before f h told = record { entries = f.entries; there = m; goes = f.goes; left = n; none = h; all = told; writes = f.writes; well_written = f.well; counted = f.counted }

  module _ (s m : AtHand R) (old mid : W) (bad before : ℕ) (f : SoFar gives failed ended takes write_failed form part s m old mid bad before) where
    left_off_by : (new : W) (failure : Failure) → Stops gives failed ended takes write_failed form part before m mid new failure → IsLeftOff gives failed ended takes write_failed form part s old new failure
    left_off_by new failure stops = record {
      entries = f.entries;
      there = m;
      goes = f.goes;
      mid = mid;
      writes = f.writes;
      well_written = f.well;
      stops = subst (λ (n : ℕ). Stops gives failed ended takes write_failed form part n m mid new failure) f.place stops;
    }

    -- there is no way to the next game
    pub off_at_next : (left : AtHand R) (failure : Failure) → NoNext gives failed ended m left failure → IsLeftOff gives failed ended takes write_failed form part s old mid failure
    off_at_next left failure none = left_off_by mid failure (inl (left, none, refl))

    -- it isn't written whole
    pub off_at_game : (left : AtHand R) (new : W) (game : Game) (failure : Failure) → HasGame gives failed m left game → (asked : Bool) → asked ≡ is_in part before → asked ≡ true → IsUnwritten takes write_failed (text_in form before game) mid new failure
        → IsLeftOff gives failed ended takes write_failed form part s old new failure
    off_at_game left new game failure has asked is so unwritten = left_off_by new failure (inr (inl (left, game, has, sym is ∙ so, unwritten)))

    -- there were too many
    pub off_at_most : before ≡ most_games → IsLeftOff gives failed ended takes write_failed form part s old mid by.Read
    off_at_most most = left_off_by mid by.Read (inr (inr (most, refl, refl)))

-- what holds of a failure holds of it as it is handed on
pub handed_on : {A E : Type 0} (P : E → Type 0) (told : Result A E) (failure : E) → IsErrAnd told (λ f. f ≡ failure) → P failure → IfErr told P
handed_on P (Ok x) failure same h = absurd same
handed_on P (Err f) failure same h = subst P (sym same) h

-- nothing is written of a game that isn't asked for
pub written_if : {W : Type 0} (takes : W → List ℕ → W → Type 0) (old new : W) (text : List ℕ) → Carries takes old text new → Carries takes old (if true then text else []) new
written_if takes old new text c = c

pub not_written : {W : Type 0} (takes : W → List ℕ → W → Type 0) (old : W) (text : List ℕ) → Carries takes old (if false then text else []) old
not_written takes old text = Carries-none takes old

-- what a reader of games answers, where it is a game, and where it is a fault
pub read_one : {R B E : Type 0} (gives : R → List ℕ → R → Type 0) (failed : R → Bool) (old new : Games R) (result : Result (Option (Code B)) E) (game : Code B) → result ≡ Ok (Some game)
    → IfOk result (λ found. IfSome found (λ x. NextGame gives failed old new (game_of x))) → HasGame gives failed old.text new.text (game_of game)
read_one gives failed old new result game is h = (subst (λ r. IfOk r (λ found. IfSome found (λ x. NextGame gives failed old new (game_of x)))) is h).took

pub read_fault : {R X : Type 0} (gives : R → List ℕ → R → Type 0) (failed : R → Bool) (ended : R → Type 0) (old new : AtHand R) (result : Result X GamesFault) (fault : GamesFault) → result ≡ Err fault
    → IfErr result (λ found. HasFault gives failed ended old new found) → HasFault gives failed ended old new fault
read_fault gives failed ended old new result fault is h = subst (λ r. IfErr r (λ found. HasFault gives failed ended old new found)) is h

pub err_holds : {X E : Type 0} (P : E → Type 0) (result : Result X E) (e : E) → result ≡ Err e → IfErr result P → P e
err_holds P result e is h = subst (λ r. IfErr r P) is h

pub if_ok : {A E : Type 0} (P : Type 0) (result : Result A E) (x : A) → result ≡ Ok x → IfOk result (λ y. P) → P
if_ok P result x is h = subst (λ r. IfOk r (λ y. P)) is h

-- a game that can't be read was read so far, and what is kept is its fault
pub left_off : {R X : Type 0} (gives : R → List ℕ → R → Type 0) (failed : R → Bool) (old new : Games R) (result : Result X GamesFault) (fault : GamesFault) → result ≡ Err fault → IfErr result (λ f. new.fault ≡ Some f) → MayGoOn new.fault
    → IfErr result (λ f. MayGoOn (Some f) → Leaves gives failed old.text new.text new.halt) → (new.fault ≡ Some fault) × Leaves gives failed old.text new.text new.halt
left_off gives failed old new result fault is stays on leaves =
    let here = subst (λ r. IfErr r (λ f. new.fault ≡ Some f)) is stays in
    (here, (subst (λ r. IfErr r (λ f. MayGoOn (Some f) → Leaves gives failed old.text new.text new.halt)) is leaves) (subst (λ (f : Option GamesFault). MayGoOn f) here on))

-- and that isn't want of memory
pub not_memory : (kept : Option GamesFault) (found : GamesFault) (fault : PgnFault) → kept ≡ Some found → found ≡ Pgn fault → MayGoOn kept → fault.kind ≢ lacks.Memory
not_memory kept found fault e is on = subst (λ (f : GamesFault). MayGoOn (Some f)) is (subst (λ (f : Option GamesFault). MayGoOn f) e on)

-- where no fault came, reading goes on
pub still_on : (fault : Option GamesFault) → fault ≡ None → MayGoOn fault
still_on fault e = subst (λ (f : Option GamesFault). MayGoOn f) (sym e) tt

-- from the beginning of a source
pub from_fresh : {R W E : Type 0} (gives : R → List ℕ → R → Type 0) (failed : R → Bool) (ended : R → Type 0) (takes : W → List ℕ → W → Type 0) (write_failed : W → Bool) (form : Form) (part : Part) (source : R) (text : AtHand R) (old new : W) (result : Result ℕ E) → IsFresh source text
    → IfOk result (λ bad. IsGoneOver gives failed ended takes write_failed form part text old new bad) → IfOk result (λ bad. IsFiltered gives failed ended takes write_failed form part source old new bad)
from_fresh gives failed ended takes write_failed form part source text old new (Ok bad) fresh all = record { text = text; fresh = fresh; all = all }
from_fresh gives failed ended takes write_failed form part source text old new (Err e) fresh all = all

pub short_fresh : {R W X : Type 0} (gives : R → List ℕ → R → Type 0) (failed : R → Bool) (ended : R → Type 0) (takes : W → List ℕ → W → Type 0) (write_failed : W → Bool) (form : Form) (part : Part) (source : R) (text : AtHand R) (old new : W) (result : Result X Failure) → IsFresh source text
    → IfErr result (λ failure. IsLeftOff gives failed ended takes write_failed form part text old new failure) → IfErr result (λ failure. IsFilteredInPart gives failed ended takes write_failed form part source old new failure)
short_fresh gives failed ended takes write_failed form part source text old new (Ok x) fresh off = off
short_fresh gives failed ended takes write_failed form part source text old new (Err e) fresh off = record { text = text; fresh = fresh; off = off }
