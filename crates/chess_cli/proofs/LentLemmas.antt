-- A source that is lent: what it gives is what its owner's gives.
use Rattle.std.proofs.Common.{◌≡◌, List, [], ◌∷◌, ℕ, sym, ap, subst, ◌∙◌, inl, inr}
use Rattle.byte_streams.specs.Calls.{Calls, Carries}
use Rattle.byte_streams.specs.declared.source.Source.{Ghosts as Source}
use Rattle.byte_streams.specs.declared.sink.Sink.{Ghosts as Sink}
use Rattle.chess_pgn.specs.Games.{Game}
use Rattle.chess_cli.specs.Collections.{Collected, EndsAtFault, EndsInPart, EndsUnread, EndsWhole, EndsWritten}
use Rattle.chess_cli.specs.Endings.{CollectionEnds}
use Rattle.chess_loop.specs.RunEnds.{most_reads}
use Rattle.chess_cli.specs.steps.Collecting.{WritesAll}
use Rattle.chess_cli.specs.declared.ended.Ended.{Ended}
use Rattle.chess_cli.specs.declared.ended.Ended.TheVariants.{Good, Input, ReadFault, WriteFault, Memory}

-- the source and its name, and what a call of it is
module _ {S R N : Type 0} (now : S → R) (name : S → N) (source : Source R) where
  abbrev pub lent : Source S
  lent = record { gives = λ s bytes t. (name t ≡ name s) × source.gives (now s) bytes (now t); ended = λ s. source.ended (now s); failed = λ s. source.failed (now s) }

  calls_now : (s : S) (pieces : List (List ℕ)) (t : S) → Calls lent.gives s pieces t → Calls source.gives (now s) pieces (now t)
  calls_now s [] t c = ap now c
  calls_now s (p ∷ ps) t c = (now c.0, c.1.1, calls_now c.0 ps t c.2)

  calls_name : (s : S) (pieces : List (List ℕ)) (t : S) → Calls lent.gives s pieces t → name t ≡ name s
  calls_name s [] t c = ap name (sym c)
  calls_name s (p ∷ ps) t c = calls_name c.0 ps t c.2 ∙ c.1.0

  abbrev carries_now : (s : S) (bytes : List ℕ) (t : S) → Carries lent.gives s bytes t → Carries source.gives (now s) bytes (now t)
  carries_now s bytes t c = record { pieces = c.pieces; calls = calls_now s c.pieces t c.calls; whole = c.whole }

  module _ (s t : S) where
    collected_now : (games : List Game) → Collected lent s t games → Collected source (now s) (now t) games
    collected_now games c = record { bytes = c.bytes; came = carries_now s c.bytes t c.came; well_read = c.well_read; all = c.all; ended = c.ended; rest = c.rest; are = c.are }

    module _ {W : Type 0} (sink : Sink W) (old new : W) where
      whole_now : EndsWhole lent sink s t old new → EndsWhole source sink (now s) (now t) old new
      whole_now e = record {
        bytes = e.bytes;
        came = carries_now s e.bytes t e.came;
        well_read = e.well_read;
        all = e.all;
        games = e.games;
        rest = e.rest;
        are = e.are;
        white = e.white;
        written = e.written;
      }

      fault_now : EndsAtFault lent sink s t old new → EndsAtFault source sink (now s) (now t) old new
      unfolding collected_now
      fault_now e = record { games = e.games; reads = collected_now e.games e.reads; needed = e.needed; refused = e.refused; written = e.written }

      unread_now : EndsUnread lent sink most_reads s t old new → EndsUnread source sink most_reads (now s) (now t) old new
      unread_now e = record {
        pieces = e.pieces;
        before = now e.before;
        calls = calls_now s e.pieces e.before e.calls;
        well_read = e.well_read;
        each = e.each;
        cause = elim e.cause [
          | inl f ↦ inl (f.0.1, f.1)
          | inr m ↦ inr (ap now m.0, m.1)
        ];
        games = e.games;
        rest = e.rest;
        are = e.are;
        none = e.none;
        ends = e.ends;
        written = e.written;
      }

      part_now : EndsInPart lent sink s t old new → EndsInPart source sink (now s) (now t) old new
      part_now e = record { games = e.games; reads = collected_now e.games e.reads; broken = e.broken }

      written_now : EndsWritten lent sink s t old new → EndsWritten source sink (now s) (now t) old new
      unfolding collected_now
      written_now e = record { games = e.games; reads = collected_now e.games e.reads; whole = e.whole; written = e.written }

      abbrev All : Ended → Type 0
      All result = WritesAll lent sink s t old new result

      pub ends_now : (result : Ended) → All result → CollectionEnds source sink result (now s) (now t) old new
      ends_now result w = record {
        good = λ e. whole_now (subst All e w);
        input = λ fault e. (let x = subst All e w in (x.0, fault_now x.1));
        read_fault = λ e. unread_now (subst All e w);
        write_fault = λ e. part_now (subst All e w);
        memory = λ e. written_now (subst All e w);
      }

      -- it is still the one that was lent
      pub still_named : (result : Ended) → All result → name t ≡ name s
      still_named Good w = calls_name s w.came.pieces t w.came.calls
      still_named (Input fault) w = calls_name s w.1.reads.came.pieces t w.1.reads.came.calls
      still_named WriteFault w = calls_name s w.reads.came.pieces t w.reads.came.calls
      still_named Memory w = calls_name s w.reads.came.pieces t w.reads.came.calls
      still_named ReadFault w = elim w.cause [
        | inl f ↦ f.0.0 ∙ calls_name s w.pieces w.before w.calls
        | inr m ↦ ap name (sym m.0) ∙ calls_name s w.pieces w.before w.calls
      ]
