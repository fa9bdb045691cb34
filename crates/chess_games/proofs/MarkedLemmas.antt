-- Bytes with zero bytes put in, piece by piece.
use Rattle.std.proofs.Common.{◌≡◌, ℕ, ◌+◌, ◌<◌, inl, inr, Bool, true, false, ◌||◌, List, [], ◌∷◌, ◌++◌, refl, sym, ap, subst, ◌∙◌, append_assoc, append-nil, drop, take, length, length-append, length-take-le, ◌≤◌, ◌-◌, arith}
use Rattle.std.proofs.Math.Seq.{take-append_seam}
use Rattle.std.proofs.lemmas.List.{take_all, take-append-drop, drop-drop, length-drop}
use Rattle.std.specs.Prelude.{Result, Ok, Err, IfErr, IsErrAnd}
use Rattle.std.specs.List.{AllByRecursion}
use Rattle.byte_streams.specs.Calls.{Calls, Carries, joined}
use Rattle.byte_streams.proofs.CallLemmas.{Calls-more, Carries-none, Carries-append, Carries-more, joined-more}
use Rattle.chess_items.specs.Sections.{OpensTag}
use Rattle.chess_loop.specs.RunEnds.{Broken, most_reads}
use Rattle.chess_command_line.specs.declared.collection.Failure.{Failure as Cause}
use Rattle.chess_command_line.specs.declared.collection.Failure.TheVariants as by
use Rattle.chess_games.specs.declared.cut.CutFault.{CutFault}
use Rattle.chess_games.specs.declared.cut.CutFault.TheVariants.{Failure, Zero}
use Rattle.chess_games.specs.Pieces.{IsCut, IsCutInPart, IsMarked, IsStopped, Stops}

-- what holds of a fault holds of it as it is handed on
pub handed_on : {A E : Type 0} (P : E → Type 0) (told : Result A E) (fault : E) → IsErrAnd told (λ f. f ≡ fault) → P fault → IfErr told P
handed_on P (Ok x) fault same h = absurd same
handed_on P (Err f) fault same h = subst P (sym same) h

-- whether a call has failed, after one that goes well and after one that fails
pub still_well : (after before : Bool) → after ≡ (before || false) → after ≡ before
still_well after true h = h
still_well after false h = h

pub has_failed : (after before : Bool) → after ≡ (before || true) → after ≡ true
has_failed after true h = h
has_failed after false h = h

-- a list from a place on, as a slice up to its end
pub up_to_end : (n : ℕ) (xs : List ℕ) → n ≤ length xs → take (length xs - n) (drop n xs) ≡ drop n xs
up_to_end n xs l = take_all (length xs - n) (drop n xs) (omega (arith, length-drop n xs))

-- a list from a place on, as a slice and what comes after it
pub up_to_place : (n m : ℕ) (xs : List ℕ) → n ≤ m → take (m - n) (drop n xs) ++ drop m xs ≡ drop n xs
up_to_place n m xs l =
    let there : drop (m - n) (drop n xs) ≡ drop m xs = drop-drop (m - n) n xs ∙ ap (λ (k : ℕ). drop k xs) (omega arith) in
    ap (λ (rest : List ℕ). take (m - n) (drop n xs) ++ rest) (sym there) ∙ take-append-drop (m - n) (drop n xs)

-- what a buffer holds after its bytes are written into it
pub written_back : (n : ℕ) (bytes others : List ℕ) → length bytes ≡ n → take n (bytes ++ others) ≡ bytes
written_back n bytes others l = subst (λ (k : ℕ). take k (bytes ++ others) ≡ bytes) l (take-append_seam bytes others)

-- some bytes of it are some
pub length_taken : (n : ℕ) (bytes : List ℕ) → n ≤ length bytes → 0 < n → 0 < length (take n bytes)
length_taken n bytes l some = omega (arith, length-take-le n bytes l)

-- nothing is put in
pub unmarked : (text : List ℕ) → IsMarked text text
unmarked [] = refl
unmarked (b ∷ text) = inr (text, refl, unmarked text)

-- bytes go before, as they are
pub marked_after : (before text marked : List ℕ) → IsMarked text marked → IsMarked (before ++ text) (before ++ marked)
marked_after [] text marked m = m
marked_after (b ∷ before) text marked m = inr (before ++ text, refl, marked_after before text marked m)

opens_more : (text more : List ℕ) → OpensTag text → OpensTag (text ++ more)
opens_more text more o = (o.0, o.1 ++ more, ap (λ (t : List ℕ). t ++ more) o.2, o.3)

-- one text after another
pub marked_append : (text marked more marked' : List ℕ) → IsMarked text marked → IsMarked more marked' → IsMarked (text ++ more) (marked ++ marked')
marked_append text [] more marked' m n = subst (λ (t : List ℕ). IsMarked (t ++ more) marked') (sym m) n
marked_append text (b ∷ marked) more marked' (inl m) n = inl (m.0, opens_more text more m.1, marked_append text marked more marked' m.2 n)
marked_append text (b ∷ marked) more marked' (inr m) n =
    inr (m.0 ++ more, ap (λ (t : List ℕ). t ++ more) m.1, marked_append m.0 marked more marked' m.2 n)

-- a text that is written between others in part
pub broken_within : {W : Type 0} (takes : W → List ℕ → W → Type 0) (failed : W → Bool) (w v t : W) (before text after : List ℕ) → Carries takes w before v → failed v ≡ failed w → Broken takes failed v text t → Broken takes failed w (before ++ (text ++ after)) t
broken_within takes failed w v t before text after went well b = record {
  prefix = before ++ b.prefix;
  rest = b.rest ++ after;
  before = b.before;
  calls = Carries-append takes w v b.before before b.prefix went b.calls;
  whole =
      append_assoc before b.prefix (b.rest ++ after)
      ∙ ap (λ (x : List ℕ). before ++ x) (sym (append_assoc b.prefix b.rest after) ∙ ap (λ (x : List ℕ). x ++ after) b.whole);
  unwritten = (let some = b.unwritten in omega (arith, some, length-append b.rest after));
  well = b.well ∙ well;
  last = b.last;
  fails = b.fails;
}

-- two texts, the first of which is written in part
pub broken_first : {W : Type 0} (takes : W → List ℕ → W → Type 0) (failed : W → Bool) (w t : W) (text after : List ℕ) → Broken takes failed w text t → Broken takes failed w (text ++ after) t
broken_first takes failed w t text after b = broken_within takes failed w w t [] text after (Carries-none takes w) refl b

-- or the second
pub broken_second : {W : Type 0} (takes : W → List ℕ → W → Type 0) (failed : W → Bool) (w v t : W) (before text : List ℕ) → Carries takes w before v → failed v ≡ failed w → Broken takes failed v text t → Broken takes failed w (before ++ text) t
broken_second takes failed w v t before text went well b =
    subst (λ (x : List ℕ). Broken takes failed w (before ++ x) t) (append-nil text) (broken_within takes failed w v t before text [] went well b)

-- what is written of a text so far, whatever of the rest is written later
pub record Pending {W : Type 0} (takes : W → List ℕ → W → Type 0) (failed : W → Bool) (old : W) (text rest : List ℕ) (new : W) : Type 0 where
  pub prefix : List ℕ
  pub went : Carries takes old prefix new
  pub well : failed new ≡ failed old
  pub whole : (marked : List ℕ) → IsMarked rest marked → IsMarked text (prefix ++ marked)

module _ {W : Type 0} (takes : W → List ℕ → W → Type 0) (failed : W → Bool) where
  pub pending_none : (w : W) (text : List ℕ) → Pending takes failed w text text w
  pending_none w text = record { prefix = []; went = Carries-none takes w; well = refl; whole = λ _ m. m }

  -- some bytes, and a zero byte before a tag
  with_zero : (some rest marked : List ℕ) → IsMarked rest marked → OpensTag rest → IsMarked (some ++ rest) ((some ++ 0 ∷ []) ++ marked)
  with_zero some rest marked m opens =
      subst (λ (x : List ℕ). IsMarked (some ++ rest) x) (sym (append_assoc some (0 ∷ []) marked)) (marked_after some rest (0 ∷ marked) (inl (refl, opens, m)))

  pub pending_zero : (w v t : W) (text some rest : List ℕ) → Pending takes failed w text (some ++ rest) v → Carries takes v (some ++ 0 ∷ []) t → failed t ≡ failed v → OpensTag rest → Pending takes failed w text rest t
  pending_zero w v t text some rest p more well opens = record {
    prefix = p.prefix ++ (some ++ 0 ∷ []);
    went = Carries-append takes w v t p.prefix (some ++ 0 ∷ []) p.went more;
    well = well ∙ p.well;
    whole = λ marked m.
        subst (λ (x : List ℕ). IsMarked text x) (sym (append_assoc p.prefix (some ++ 0 ∷ []) marked))
        (p.whole ((some ++ 0 ∷ []) ++ marked) (with_zero some rest marked m opens));
  }

  -- the same of a text that is written up to a place
  pub pending_border : (w v t : W) (text : List ℕ) (n m : ℕ) → n ≤ m → Pending takes failed w text (drop n text) v → Carries takes v (take (m - n) (drop n text) ++ 0 ∷ []) t → failed t ≡ failed v → OpensTag (take (length text - m) (drop m text)) → m ≤ length text
      → Pending takes failed w text (drop m text) t
  pending_border w v t text n m l p more well opens fits =
      pending_zero w v t text (take (m - n) (drop n text)) (drop m text) (subst (λ (x : List ℕ). Pending takes failed w text x v) (sym (up_to_place n m text l)) p) more well
      (subst OpensTag (up_to_end m text fits) opens)

  -- the rest of the text
  pub pending_whole : (w v t : W) (text : List ℕ) (n : ℕ) → n ≤ length text → Pending takes failed w text (drop n text) v → Carries takes v (take (length text - n) (drop n text)) t → (marked : List ℕ) × Carries takes w marked t × IsMarked text marked
  pending_whole w v t text n l p last =
      let rest = drop n text in
      let all = subst (λ (x : List ℕ). Carries takes v x t) (up_to_end n text l) last in
      (p.prefix ++ rest, Carries-append takes w v t p.prefix rest p.went all, p.whole rest (unmarked rest))

  -- a part of the bytes before a border
  pub pending_broken : (w v t : W) (text : List ℕ) (n m : ℕ) → n ≤ m → Pending takes failed w text (drop n text) v → Broken takes failed v (take (m - n) (drop n text) ++ 0 ∷ []) t → OpensTag (take (length text - m) (drop m text)) → m ≤ length text
      → (marked : List ℕ) × IsMarked text marked × Broken takes failed w marked t
  pending_broken w v t text n m l p b opens fits =
      let some = take (m - n) (drop n text) in
      let rest = drop m text in
      let there = with_zero some rest rest (unmarked rest) (subst OpensTag (up_to_end m text fits) opens) in (
        p.prefix ++ ((some ++ 0 ∷ []) ++ rest),
        p.whole ((some ++ 0 ∷ []) ++ rest) (subst (λ (x : List ℕ). IsMarked x ((some ++ 0 ∷ []) ++ rest)) (up_to_place n m text l) there),
        broken_within takes failed w v t p.prefix (some ++ 0 ∷ []) rest p.went p.well b,
      )

  -- a part of the rest
  pub pending_last : (w v t : W) (text : List ℕ) (n : ℕ) → n ≤ length text → Pending takes failed w text (drop n text) v → Broken takes failed v (take (length text - n) (drop n text)) t
      → (marked : List ℕ) × IsMarked text marked × Broken takes failed w marked t
  pending_last w v t text n l p b =
      let rest = drop n text in
      (p.prefix ++ rest, p.whole rest (unmarked rest), broken_second takes failed w v t p.prefix rest p.went p.well (subst (λ (x : List ℕ). Broken takes failed v x t) (up_to_end n text l) b))

  -- where a write failed
  pub stopped_write : (w t : W) (text : List ℕ) (cause : Cause) → cause ≡ by.Write → (marked : List ℕ) × IsMarked text marked × Broken takes failed w marked t → IsStopped takes failed text w t (Failure cause)
  stopped_write w t text cause is b = subst (λ (c : Cause). IsStopped takes failed text w t (Failure c)) (sym is) b

-- what is read and written so far
pub record CutSoFar {R W : Type 0} (gives : R → List ℕ → R → Type 0) (read_failed : R → Bool) (takes : W → List ℕ → W → Type 0) (failed : W → Bool) (source left : R) (old new : W) (count : ℕ) : Type 0 where
  pub pieces : List (List ℕ)
  pub calls : Calls gives source pieces left
  pub counted : count ≡ length pieces
  pub well_read : read_failed left ≡ read_failed source
  pub each : AllByRecursion (λ piece. 0 < length piece) pieces
  pub marked : List ℕ
  pub went : Carries takes old marked new
  pub well_written : failed new ≡ failed old
  pub same : IsMarked (joined pieces) marked

each_more : (pieces : List (List ℕ)) (piece : List ℕ) → AllByRecursion (λ piece. 0 < length piece) pieces → 0 < length piece → AllByRecursion (λ piece. 0 < length piece) (pieces ++ piece ∷ [])
each_more [] piece all some = (some, tt)
each_more (p ∷ pieces) piece all some = (all.0, each_more pieces piece all.1 some)

module _ {R W : Type 0} (gives : R → List ℕ → R → Type 0) (read_failed : R → Bool) (takes : W → List ℕ → W → Type 0) (failed : W → Bool) where
  pub so_far_none : (r : R) (w : W) → CutSoFar gives read_failed takes failed r r w w 0
  so_far_none r w = record { pieces = []; calls = refl; counted = refl; well_read = refl; each = tt; marked = []; went = Carries-none takes w; well_written = refl; same = refl }

  pub so_far_more : (r s t : R) (w v u : W) (count : ℕ) (piece : List ℕ) → CutSoFar gives read_failed takes failed r s w v count → gives s piece t → read_failed t ≡ read_failed s → 0 < length piece → (marked : List ℕ) × Carries takes v marked u × IsMarked piece marked
      → failed u ≡ failed v → CutSoFar gives read_failed takes failed r t w u (count + 1)
  so_far_more r s t w v u count piece f call well some put written = record {
    pieces = f.pieces ++ piece ∷ [];
    calls = Calls-more gives r s t f.pieces piece f.calls call;
    counted = omega (arith, f.counted, length-append f.pieces (piece ∷ []));
    well_read = well ∙ f.well_read;
    each = each_more f.pieces piece f.each some;
    marked = f.marked ++ put.0;
    went = Carries-append takes w v u f.marked put.0 f.went put.1;
    well_written = written ∙ f.well_written;
    same = subst (λ (x : List ℕ). IsMarked x (f.marked ++ put.0)) (sym (joined-more gives f.pieces piece)) (marked_append (joined f.pieces) f.marked piece put.0 f.same put.2);
  }

  pub so_far_all : (ended : R → Type 0) (r s t : R) (w v : W) (count : ℕ) (piece : List ℕ) → CutSoFar gives read_failed takes failed r s w v count → gives s piece t → read_failed t ≡ read_failed s → piece ≡ [] → ended t → IsCut gives read_failed ended takes failed r w v
  so_far_all ended r s t w v count piece f call well none all = record {
    text = joined f.pieces ++ piece;
    left = t;
    came = Carries-more gives r s t (joined f.pieces) piece (record { pieces = f.pieces; calls = f.calls; whole = refl }) call;
    well_read = well ∙ f.well_read;
    all = all;
    marked = f.marked;
    went = f.went;
    well_written = f.well_written;
    same = subst (λ (x : List ℕ). IsMarked x f.marked) (sym (append-nil (joined f.pieces)) ∙ ap (λ (x : List ℕ). joined f.pieces ++ x) (sym none)) f.same;
  }

  -- it stops there
  pub so_far_short : (r s : R) (w v u : W) (count : ℕ) (fault : CutFault) (f : CutSoFar gives read_failed takes failed r s w v count) → Stops gives read_failed takes failed f.pieces s v u fault → IsCutInPart gives read_failed takes failed r w u fault
  so_far_short r s w v u count fault f stops = record {
    pieces = f.pieces;
    there = s;
    calls = f.calls;
    well_read = f.well_read;
    each = f.each;
    marked = f.marked;
    mid = v;
    went = f.went;
    well_written = f.well_written;
    same = f.same;
    stops = stops;
  }

  -- before anything is read
  pub short_at_once : (r : R) (w : W) → IsCutInPart gives read_failed takes failed r w w (Failure by.Memory)
  unfolding so_far_none
  short_at_once r w = so_far_short r r w w w 0 (Failure by.Memory) (so_far_none r w) (refl, refl)

  -- at a read that failed
  pub short_unread : (r s t : R) (w v : W) (count : ℕ) → CutSoFar gives read_failed takes failed r s w v count → gives s [] t → read_failed t ≡ true → IsCutInPart gives read_failed takes failed r w v (Failure by.Read)
  short_unread r s t w v count f call fails = so_far_short r s w v v count (Failure by.Read) f (inl (t, call, fails), refl)

  -- after as many reads as there may be
  pub short_of_reads : (r s : R) (w v : W) (count : ℕ) → CutSoFar gives read_failed takes failed r s w v count → count ≡ most_reads → IsCutInPart gives read_failed takes failed r w v (Failure by.Read)
  short_of_reads r s w v count f most = so_far_short r s w v v count (Failure by.Read) f (inr (sym f.counted ∙ most), refl)

  -- in a piece
  pub short_in_piece : (r s t : R) (w v u : W) (count : ℕ) (piece : List ℕ) (fault : CutFault) → CutSoFar gives read_failed takes failed r s w v count → gives s piece t → read_failed t ≡ read_failed s → IsStopped takes failed piece v u fault
      → IsCutInPart gives read_failed takes failed r w u fault
  short_in_piece r s t w v u count piece Zero f call well stopped = so_far_short r s w v u count Zero f (piece, t, call, well, stopped)
  short_in_piece r s t w v u count piece (Failure by.Read) f call well stopped = absurd stopped
  short_in_piece r s t w v u count piece (Failure by.Write) f call well stopped = so_far_short r s w v u count (Failure by.Write) f (piece, t, call, well, stopped)
  short_in_piece r s t w v u count piece (Failure by.Memory) f call well stopped = absurd stopped
