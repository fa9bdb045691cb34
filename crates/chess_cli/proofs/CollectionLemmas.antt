-- Games that are read and written one after another.
use Rattle.std.proofs.Common.{◌≡◌, ◌⊎◌, ℕ, ◌+◌, ◌≤◌, Bool, true, false, List, [], ◌∷◌, ◌++◌, length, refl, sym, ap, subst, ◌∙◌, arith, append_assoc, append-nil, length-append, Err, inl, inr}
use Rattle.std.proofs.lemmas.Bool.{false≢true}
use Rattle.std.specs.Prelude.{Result, Ok, Option, Some, None, IfErr, IfOk, IfSome, ⊤}
use Rattle.byte_streams.specs.Calls.{Carries, joined}
use Rattle.byte_streams.specs.declared.source.Source.{Ghosts as Source}
use Rattle.byte_streams.specs.declared.sink.Sink.{Ghosts as Sink}
use Rattle.byte_streams.proofs.CallLemmas.{Calls-append, Carries-none, Carries-append, joined-append}
use Rattle.chess_items.specs.Coming.{AtHand, Breaks, Came, EachBrings, LastReadWhere, unread}
use Rattle.chess_items.specs.declared.fault.PgnFault.{PgnFault}
use Rattle.chess_items.proofs.BreakLemmas.{all_bring, came_append, came_none, came_small, each_append}
use Rattle.chess_items.proofs.LastLemmas.{joins}
use Rattle.chess_items.proofs.ReadLemmas.{empty_is}
use Rattle.chess_pgn.specs.Games.{Game}
use Rattle.chess_pgn.specs.Reading.{HasNoGame, HasNoGameYet, BeginsWithGame, IsWhite}
use Rattle.chess_pgn.specs.Sources.{EndsOpen, Fails, Games, HasFault, HasGame, HasNone, MayGoOn, NextGame, Starves}
use Rattle.chess_pgn.specs.Written.{game_text}
use Rattle.chess_pgn.specs.steps.GameCode.{game_of}
use Rattle.chess_pgn.specs.declared.game.Game.{Game as Code}
use Rattle.chess_pgn.specs.declared.games.GamesFault.{GamesFault}
use Rattle.chess_pgn.specs.declared.games.GamesFault.TheVariants.{Pgn, Read}
use Rattle.chess_cli.specs.Collections.{AreGames, Collected, EndsAtFault, EndsInPart, EndsUnread, EndsWhole, EndsWritten, HoldsWhole, games_text}
use Rattle.chess_loop.specs.RunEnds.{Broken, most_reads}
use Rattle.chess_loop.specs.steps.Sending.{Sent}
use Rattle.chess_cli.specs.steps.Collecting.{EndsBy, Reads, SoFar, WritesAll, WritesOne}
use Rattle.chess_cli.specs.declared.ended.Ended.{Ended}
use Rattle.chess_cli.specs.declared.ended.Ended.TheVariants.{Good, Input, ReadFault, WriteFault, Memory}
use Rattle.chess_loop.proofs.SendingLemmas.{sent_whole}

games_text-append : (games : List Game) (game : Game) → games_text (games ++ game ∷ []) ≡ games_text games ++ game_text game
games_text-append [] game = append-nil (game_text game)
games_text-append (g ∷ games) game = ap (λ (t : List ℕ). game_text g ++ t) (games_text-append games game) ∙ sym (append_assoc (game_text g) (games_text games) (game_text game))

-- ---- what is read

-- what has not ended afterwards had not before
not_before : (v w : Bool) → (v ≡ true → w ≡ true) → w ≡ false → v ≡ false
not_before false w h e = refl
not_before true w h e = absurd (false≢true (sym e ∙ h refl))

are_more : (input : List ℕ) (games : List Game) (mid text rest : List ℕ) (game : Game) → AreGames input games mid → mid ≡ text ++ rest → BeginsWithGame mid game (length text) → AreGames input (games ++ game ∷ []) rest
are_more input [] mid text rest game e parts prefix =
    (text, rest, e ∙ parts, subst (λ (z : List ℕ). BeginsWithGame z game (length text)) (sym e) prefix, refl)
are_more input (g ∷ games) mid text rest game a parts prefix = (a.0, a.1, a.2, a.3, are_more a.1 games mid text rest game a.4 parts prefix)

module _ {R : Type 0} (source : Source R) where
  pub reads_none : (s : AtHand R) → Reads source s s []
  reads_none s = record { bytes = []; came = came_none source.gives source.failed s s refl refl refl refl; are = λ more none. refl; whole = inl (empty_is (came_none source.gives source.failed s s refl refl refl refl).pieces (let n = (came_none source.gives source.failed s s refl refl refl refl).counted in omega (arith, n))) }

  abbrev carries : (s n : AtHand R) (bytes : List ℕ) → Came source.gives source.failed s bytes n → Carries source.gives s.source bytes n.source
  carries s n bytes c = record { pieces = c.pieces; calls = c.calls; whole = c.whole }

  -- where the last read was made, if one was, no one game was after those before it, and this held
  abbrev Yet : (List ℕ → Type 0) → AtHand R → List (List ℕ) → Type 0
  Yet holds m pieces = (pieces ≡ []) ⊎ ((before : List (List ℕ)) × (piece : List ℕ) × (pieces ≡ before ++ piece ∷ []) × HasNoGameYet (unread m ++ joined before) × holds (unread m ++ joined before))

  asked_yet : (m : AtHand R) (pieces : List (List ℕ)) → LastReadWhere HasNoGameYet (unread m) pieces → Yet (λ _. ⊤) m pieces
  asked_yet m pieces (inl e) = inl e
  asked_yet m pieces (inr w) = inr (w.0, w.1, w.2, w.4, tt)

  some_pieces : (before : List (List ℕ)) (piece : List ℕ) → before ++ piece ∷ [] ≡ [] → ⊥
  some_pieces [] piece e = cc
  some_pieces (p ∷ before) piece e = cc

  -- what holds where it is wanted, or where others follow
  whole_on : (holds wanted : List ℕ → Type 0) → ((text : List ℕ) → EndsOpen text → wanted text) → (s m n : AtHand R) (games others : List Game) → ((text : List ℕ) → others ≡ [] → holds text → wanted text) → (r : Reads source s m games) (bytes : List ℕ) (came : Came source.gives source.failed m bytes n)
      → Yet holds m came.pieces → HoldsWhole wanted (unread s) (r.came.pieces ++ came.pieces) (games ++ others)
  whole_on holds wanted weaker s m n games others of r bytes came (inl e) =
      subst (λ (z : List (List ℕ)). HoldsWhole wanted (unread s) z (games ++ others)) (sym (ap (λ (z : List (List ℕ)). r.came.pieces ++ z) e ∙ append-nil r.came.pieces)) (more r.whole)
    where
      first_nil : (xs ys : List Game) → xs ++ ys ≡ [] → xs ≡ []
      first_nil [] ys e = refl
      first_nil (x ∷ xs) ys e = absurd cc

      more : HoldsWhole EndsOpen (unread s) r.came.pieces games → HoldsWhole wanted (unread s) r.came.pieces (games ++ others)
      more (inl none) = inl none
      more (inr w) = inr (record {
        before = w.before;
        piece = w.piece;
        parts = w.parts;
        first = w.first;
        others = w.others ++ others;
        split = ap (λ (z : List Game). z ++ others) w.split ∙ append_assoc w.first w.others others;
        left = w.left;
        are = w.are;
        none = w.none;
        still = λ e. weaker w.left (w.still (first_nil w.others others e));
      })
  whole_on holds wanted weaker s m n games others of r bytes came (inr y) = inr (record {
    before = r.came.pieces ++ y.0;
    piece = y.1;
    parts = ap (λ (z : List (List ℕ)). r.came.pieces ++ z) y.2 ∙ sym (append_assoc r.came.pieces y.0 (y.1 ∷ []));
    first = games;
    others = others;
    split = refl;
    left = unread m ++ joined y.0;
    are = λ more.
        let here = r.are (joined y.0 ++ more) (λ e. absurd (some_pieces y.0 y.1 (sym y.2 ∙ (came.ended_still e).0))) in
        let text : r.bytes ++ (joined y.0 ++ more) ≡ joined (r.came.pieces ++ y.0) ++ more =
        sym (append_assoc r.bytes (joined y.0) more) ∙ ap (λ (z : List ℕ). z ++ more) (ap (λ (z : List ℕ). z ++ joined y.0) (sym r.came.whole) ∙ sym (joined-append r.came.pieces y.0)) in
        subst (λ (z : List ℕ). AreGames (unread s ++ z) games ((unread m ++ joined y.0) ++ more)) text
        (subst (λ (z : List ℕ). AreGames (unread s ++ (r.bytes ++ (joined y.0 ++ more))) games z) (sym (append_assoc (unread m) (joined y.0) more)) here);
    none = y.3;
    still = λ e. of (unread m ++ joined y.0) e y.4;
  })

  reads_more : (s m n : AtHand R) (games : List Game) (game : Game) → Reads source s m games → HasGame source.gives source.failed m n game → Reads source s n (games ++ game ∷ [])
  reads_more s m n games game r h = record {
    bytes = r.bytes ++ h.bytes;
    came = joins source.gives source.failed s n m r.bytes h.bytes (r.bytes ++ h.bytes) r.came h.came refl;
    whole = whole_on (λ _. ⊤) EndsOpen (λ text e. e) s m n games (game ∷ []) (λ text e. absurd cc) r h.bytes h.came (asked_yet m h.came.pieces h.needed);
    are = λ more none.
        let before = r.are (h.bytes ++ more) (λ e. (let still = h.still e in ap (λ (z : List ℕ). z ++ more) still.0 ∙ none still.1)) in
        let parts : unread m ++ (h.bytes ++ more) ≡ h.text ++ (unread n ++ more) =
        sym (append_assoc (unread m) h.bytes more) ∙ ap (λ (z : List ℕ). z ++ more) h.parts ∙ append_assoc h.text (unread n) more in
        subst (λ (z : List ℕ). AreGames (unread s ++ z) (games ++ game ∷ []) (unread n ++ more)) (sym (append_assoc r.bytes h.bytes more))
        (are_more (unread s ++ (r.bytes ++ (h.bytes ++ more))) games (unread m ++ (h.bytes ++ more)) h.text (unread n ++ more) game before parts (h.reads more none));
  }

  -- bytes that came after the games
  module _ (s m n : AtHand R) (games : List Game) (nothing : unread s ≡ []) (first : source.failed s.source ≡ false) (r : Reads source s m games) (bytes : List ℕ) (came : Came source.gives source.failed m bytes n) where
    abbrev all_bytes : Came source.gives source.failed s (r.bytes ++ bytes) n
    all_bytes = joins source.gives source.failed s n m r.bytes bytes (r.bytes ++ bytes) r.came came refl

    -- the games hold each that is whole before the last read
    whole_still : (wanted : List ℕ → Type 0) → ((text : List ℕ) → EndsOpen text → wanted text) → Yet wanted m came.pieces → HoldsWhole wanted [] (r.came.pieces ++ came.pieces) games
    whole_still wanted weaker yet =
        subst (λ (z : List ℕ). HoldsWhole wanted z (r.came.pieces ++ came.pieces) games) nothing
        (subst (λ (z : List Game). HoldsWhole wanted (unread s) (r.came.pieces ++ came.pieces) z) (append-nil games) (whole_on wanted wanted weaker s m n games [] (λ text e h. h) r bytes came yet))

    well_read : source.failed n.source ≡ false
    well_read = came.well ∙ r.came.well ∙ first

    are_on : (more : List ℕ) → (m.has_ended ≡ true → bytes ++ more ≡ []) → AreGames ((r.bytes ++ bytes) ++ more) games ((unread m ++ bytes) ++ more)
    are_on more none =
        let bare = subst (λ (z : List ℕ). AreGames (z ++ (r.bytes ++ (bytes ++ more))) games (unread m ++ (bytes ++ more))) nothing (r.are (bytes ++ more) none) in
        let whole = subst (λ (z : List ℕ). AreGames z games (unread m ++ (bytes ++ more))) (sym (append_assoc r.bytes bytes more)) bare in
        subst (λ (z : List ℕ). AreGames ((r.bytes ++ bytes) ++ more) games z) (sym (append_assoc (unread m) bytes more)) whole

    collected : (all : Bool) → (all ≡ true → source.ended n.source) → (m.has_ended ≡ true → (bytes ≡ []) × (all ≡ true)) → Collected source s.source n.source games
    collected all ended still = record {
      bytes = r.bytes ++ bytes;
      came = carries s n (r.bytes ++ bytes) all_bytes;
      well_read = well_read;
      all = all;
      ended = ended;
      rest = unread m ++ bytes;
      are = λ more none. are_on more (λ e. (let b = still e in ap (λ (z : List ℕ). z ++ more) b.0 ∙ none b.1));
    }

-- where no fault came, reading goes on
pub still_on : (fault : Option GamesFault) → fault ≡ None → MayGoOn fault
still_on fault e = subst (λ (f : Option GamesFault). MayGoOn f) (sym e) tt

pub if_ok : {A E : Type 0} (P : Type 0) (result : Result A E) (x : A) → result ≡ Ok x → IfOk result (λ y. P) → P
if_ok P result x is h = subst (λ r. IfOk r (λ y. P)) is h

-- what a reader of games answers, where it is a game
pub read_one : {R B E : Type 0} (gives : R → List ℕ → R → Type 0) (failed : R → Bool) (old new : Games R) (result : Result (Option (Code B)) E) (game : Code B) → result ≡ Ok (Some game)
    → IfOk result (λ found. IfSome found (λ x. NextGame gives failed old new (game_of x))) → HasGame gives failed old.text new.text (game_of game)
read_one gives failed old new result game is h = (subst (λ r. IfOk r (λ found. IfSome found (λ x. NextGame gives failed old new (game_of x)))) is h).took

-- what it answers, where it is a fault
pub read_fault : {R X : Type 0} (gives : R → List ℕ → R → Type 0) (failed : R → Bool) (ended : R → Type 0) (old new : AtHand R) (result : Result X GamesFault) (fault : GamesFault) → result ≡ Err fault
    → IfErr result (λ found. HasFault gives failed ended old new found) → HasFault gives failed ended old new fault
read_fault gives failed ended old new result fault is h = subst (λ r. IfErr r (λ found. HasFault gives failed ended old new found)) is h

-- ---- what is written

module _ {R W : Type 0} (source : Source R) (sink : Sink W) where
  pub none_yet : (s : AtHand R) (w : W) → sink.failed w ≡ false → SoFar source sink 0 s s w w
  none_yet s w well = record { games = []; reads = reads_none source s; few = omega arith; written = record { writes = Carries-none sink.takes w; well_written = well } }

  -- one game more
  pub one_more : (count : ℕ) (s m n : AtHand R) (old mid new : W) (game : Game) → SoFar source sink count s m old mid → HasGame source.gives source.failed m n game → Sent sink.takes sink.failed mid (game_text game) [] new
      → SoFar source sink (count + 1) s n old new
  unfolding reads_more
  one_more count s m n old mid new game so_far read sent = record {
    games = so_far.games ++ game ∷ [];
    reads = reads_more source s m n so_far.games game so_far.reads read;
    few = (let a = length-append so_far.reads.bytes read.bytes in let b = ap length read.parts in let c = length-append (unread m) read.bytes in let d = length-append read.text (unread n) in omega (arith, a, b, c, d, read.some, so_far.few));
    written = record {
      writes = subst (λ (t : List ℕ). Carries sink.takes old t new) (sym (games_text-append so_far.games game))
          (Carries-append sink.takes old mid new (games_text so_far.games) (game_text game) so_far.written.writes (sent_whole sink.takes sink.failed mid new (game_text game) sent));
      well_written = sent.well ∙ so_far.written.well_written;
    };
  }

  module _ (count : ℕ) (s : AtHand R) (nothing : unread s ≡ []) (first_read : source.failed s.source ≡ false) where
    -- the input has no game more
    pub ends_whole : (m n : AtHand R) (old new : W) → SoFar source sink count s m old new → HasNone source.gives source.failed m n → source.ended n.source → EndsWhole source sink s.source n.source old new
    ends_whole m n old new so_far none all = record {
      bytes = so_far.reads.bytes ++ none.bytes;
      came = carries source s n (so_far.reads.bytes ++ none.bytes) (came_append source.gives source.failed s m n so_far.reads.bytes none.bytes so_far.reads.came none.came);
      well_read = well_read source s m n so_far.games nothing first_read so_far.reads none.bytes none.came;
      all = all;
      games = so_far.games;
      rest = unread m ++ none.bytes;
      are = subst (λ (z : List ℕ). AreGames (z ++ (so_far.reads.bytes ++ none.bytes)) so_far.games (unread m ++ none.bytes)) nothing (so_far.reads.are none.bytes none.still);
      white = none.white;
      written = so_far.written;
    }

    -- where no game is there in any case
    fails_yet : (m n : AtHand R) (fails : Fails source.gives source.failed source.ended m n) → Yet source EndsOpen m fails.came.pieces
    fails_yet m n fails = by fails.came.pieces fails.came.whole fails.needed
      where
        by : (pieces : List (List ℕ)) → joined pieces ≡ fails.bytes → LastReadWhere EndsOpen (unread m) pieces → Yet source EndsOpen m pieces
        by pieces whole needed = elim needed [
          | inl e ↦ inl e
          | inr l ↦ inr (
            l.0,
            l.1,
            l.2,
            (λ g k x.
                let text : (unread m ++ joined l.0) ++ (l.1 ++ []) ≡ unread m ++ (fails.bytes ++ []) =
                append_assoc (unread m) (joined l.0) (l.1 ++ []) ∙ ap (λ (z : List ℕ). unread m ++ z) (sym (joined-append l.0 (l.1 ∷ [])) ∙ ap joined (sym l.2) ∙ whole ∙ sym (append-nil fails.bytes)) in
                fails.none [] (λ e. refl) g k (subst (λ (z : List ℕ). BeginsWithGame z g k) text (x (l.1 ++ [])))),
            l.4,
          )
        ]

    -- what comes after the games is refused
    refused_there : (m n : AtHand R) (old new : W) → SoFar source sink count s m old new → Fails source.gives source.failed source.ended m n → EndsAtFault source sink s.source n.source old new
    unfolding collected
    refused_there m n old new so_far fails = record {
      games = so_far.games;
      reads = collected source s m n so_far.games nothing first_read so_far.reads fails.bytes fails.came n.has_ended fails.ended_so fails.still;
      needed = whole_still source s m n so_far.games nothing first_read so_far.reads fails.bytes fails.came EndsOpen (λ text e. e) (fails_yet m n fails);
      refused = λ more none.
          let same = sym (append_assoc (unread m) fails.bytes more) in
          (subst HasNoGame same (fails.none more none), subst (λ (z : List ℕ). IsWhite z → ⊥) same (fails.dark more none));
      written = so_far.written;
    }

    -- there was no memory for it
    starved_there : (m n : AtHand R) (old new : W) → SoFar source sink count s m old new → Starves source.gives source.failed source.ended m n → EndsWritten source sink s.source n.source old new
    unfolding collected
    starved_there m n old new so_far starves = record {
      games = so_far.games;
      whole = whole_still source s m n so_far.games nothing first_read so_far.reads starves.bytes starves.came (λ _. ⊤) (λ text e. tt) (asked_yet source m starves.came.pieces starves.needed);
      reads = collected source s m n so_far.games nothing first_read so_far.reads starves.bytes starves.came m.has_ended (λ e. (starves.still e).1) (λ e. ((starves.still e).0, e));
      written = so_far.written;
    }

    -- so the run ends
    pub ends_at_fault : (m n : AtHand R) (old new : W) (fault : PgnFault) (why : Ended) → SoFar source sink count s m old new → HasFault source.gives source.failed source.ended m n (Pgn fault) → EndsBy fault why
        → WritesAll source sink s.source n.source old new why
    ends_at_fault m n old new fault why so_far (inl starves) (inl by) = subst (λ (e : Ended). WritesAll source sink s.source n.source old new e) (sym by.1) (starved_there m n old new so_far starves.1)
    ends_at_fault m n old new fault why so_far (inl starves) (inr by) = absurd (by.0 starves.0)
    ends_at_fault m n old new fault why so_far (inr fails) (inl by) = absurd (fails.0 by.0)
    ends_at_fault m n old new fault why so_far (inr fails) (inr by) = subst (λ (e : Ended). WritesAll source sink s.source n.source old new e) (sym by.1) (by.0, refused_there m n old new so_far fails.1)

    -- why a read was the last
    caused : (m b n : AtHand R) (bytes : List ℕ) (games : List Game) (r : Reads source s m games) (came : Came source.gives source.failed m bytes b) → s.reads ≡ most_reads → Breaks source.gives source.failed b n
        → (source.gives b.source [] n.source × (source.failed n.source ≡ true)) ⊎ ((b.source ≡ n.source) × (length (r.came.pieces ++ came.pieces) ≡ most_reads))
    caused m b n bytes games r came many (inl failed_read, hand, used) = inl failed_read
    caused m b n bytes games r came many (inr none_left, hand, used) = inr (sym none_left.0, (let k = length-append r.came.pieces came.pieces in omega (arith, k, r.came.counted, came.counted, many, none_left.1)))

    -- the last read failed, or there were 2^40
    pub ends_unread : (m n : AtHand R) (old new : W) → s.reads ≡ most_reads → SoFar source sink count s m old new → HasFault source.gives source.failed source.ended m n Read → EndsUnread source sink most_reads s.source n.source old new
    ends_unread m n old new many so_far reads =
        let fails = reads.breaks in
        let r = so_far.reads in
        let goes : m.has_ended ≡ false = not_before m.has_ended fails.before.has_ended (λ e. (fails.came.ended_still e).1) fails.not_ended in
        let whole : joined (r.came.pieces ++ fails.came.pieces) ≡ r.bytes ++ fails.bytes = rw (joined-append r.came.pieces fails.came.pieces, r.came.whole, fails.came.whole) refl in
        record {
          pieces = r.came.pieces ++ fails.came.pieces;
          before = fails.before.source;
          calls = Calls-append source.gives s.source m.source fails.before.source r.came.pieces fails.came.pieces r.came.calls fails.came.calls;
          well_read = well_read source s m fails.before so_far.games nothing first_read r fails.bytes fails.came;
          each = each_append r.came.pieces fails.came.pieces (all_bring r.came.pieces (subst (λ (e : Bool). EachBrings e r.came.pieces) goes r.came.each)) (all_bring fails.came.pieces (subst (λ (e : Bool). EachBrings e fails.came.pieces) fails.not_ended fails.came.each));
          cause = caused m fails.before n fails.bytes so_far.games r fails.came many fails.breaks;
          games = so_far.games;
          rest = unread m ++ fails.bytes;
          are = λ more. subst (λ (z : List ℕ). AreGames (z ++ more) so_far.games ((unread m ++ fails.bytes) ++ more)) (sym whole)
              (are_on source s m fails.before so_far.games nothing first_read r fails.bytes fails.came more (λ e. absurd (false≢true (sym goes ∙ e))));
          none = fails.none;
          ends = reads.within.ends;
          written = so_far.written;
        }

    -- there are never so many games, since all reads have fewer bytes
    pub not_so_many : (m : AtHand R) (old new : W) → s.reads ≡ most_reads → SoFar source sink count s m old new → 144115188075855872 ≤ count → ⊥
    not_so_many m old new many so_far so =
        let c = so_far.reads.came in
        let n = ap length nothing in
        let s = came_small c in
        omega (arith, n, c.counted, s, many, so, so_far.few)

    -- a prefix of one more
    broken_more : (m n : AtHand R) (old mid new : W) (game : Game) → (n.has_ended ≡ true → source.ended n.source) → sink.failed old ≡ false → SoFar source sink count s m old mid → HasGame source.gives source.failed m n game
        → Broken sink.takes sink.failed mid (game_text game) new → EndsInPart source sink s.source n.source old new
    unfolding reads_none
    broken_more m n old mid new game told first so_far read broken = record {
      games = so_far.games ++ game ∷ [];
      reads = collected source s n n (so_far.games ++ game ∷ []) nothing first_read (reads_more source s m n so_far.games game so_far.reads read) []
          (reads_none source n).came n.has_ended told (λ e. (refl, e));
      broken = record {
        prefix = games_text so_far.games ++ broken.prefix;
        rest = broken.rest;
        before = broken.before;
        calls = Carries-append sink.takes old mid broken.before (games_text so_far.games) broken.prefix so_far.written.writes broken.calls;
        whole = append_assoc (games_text so_far.games) broken.prefix broken.rest ∙ ap (λ (t : List ℕ). games_text so_far.games ++ t) broken.whole ∙ sym (games_text-append so_far.games game);
        unwritten = broken.unwritten;
        well = broken.well ∙ so_far.written.well_written ∙ sym first;
        last = broken.last;
        fails = broken.fails;
      };
    }

    -- there was no memory for the text of a game
    ends_written : (m n : AtHand R) (old new : W) (game : Game) → (n.has_ended ≡ true → source.ended n.source) → SoFar source sink count s m old new → HasGame source.gives source.failed m n game → EndsWritten source sink s.source n.source old new
    unfolding collected
    ends_written m n old new game told so_far read = record {
      games = so_far.games;
      whole = whole_still source s m n so_far.games nothing first_read so_far.reads read.bytes read.came (λ _. ⊤) (λ text e. tt) (asked_yet source m read.came.pieces read.needed);
      reads = collected source s m n so_far.games nothing first_read so_far.reads read.bytes read.came n.has_ended told read.still;
      written = so_far.written;
    }

    -- why no more is written
    pub ends_at : (m n : AtHand R) (old mid new : W) (game : Game) (why : Ended) → (n.has_ended ≡ true → source.ended n.source) → sink.failed old ≡ false → SoFar source sink count s m old mid → HasGame source.gives source.failed m n game
        → WritesOne sink {X = Unit {0}} (game_text game) mid new (Err why) → WritesAll source sink s.source n.source old new why
    ends_at m n old mid new game Good told first so_far read wrote = absurd wrote
    ends_at m n old mid new game (Input fault) told first so_far read wrote = absurd wrote
    ends_at m n old mid new game ReadFault told first so_far read wrote = absurd wrote
    ends_at m n old mid new game WriteFault told first so_far read wrote = broken_more m n old mid new game told first so_far read wrote
    ends_at m n old mid new game Memory told first so_far read wrote = subst (λ (w : W). EndsWritten source sink s.source n.source old w) (sym wrote) (ends_written m n old mid game told so_far read)
