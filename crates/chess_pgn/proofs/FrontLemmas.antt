-- The game that a reader answers stands at the start of the text.
use Rattle.std.proofs.Common.{◌≡◌, ◌≢◌, ℕ, ◌+◌, ◌≤◌, Bool, true, false, ◌&&◌, List, [], ◌∷◌, ◌++◌, length, Some, refl, sym, subst, ap, ◌∙◌, arith, append_assoc, append-nil, length-append}
use Rattle.std.specs.Prelude.{Option, None, Result, Ok}
use Rattle.std.specs.List.{list_all}
use Rattle.std.specs.Str.{byte}
use mathlib.Core.Logic.{inl, inr}
use Rattle.chess_types.specs.board.Position.{PositionParts}
use Rattle.byte_streams.specs.Calls.{Calls, joined}
use Rattle.chess_items.specs.Items as items
use Rattle.chess_items.specs.Items.{IsSpelled, Item, Spells, is_white, place_after, place_behind}
use Rattle.chess_items.specs.steps.Passing.{Passed, Passes, WasWhite}
use Rattle.chess_items.specs.steps.Deciding.{Decides}
use Rattle.chess_items.specs.steps.Taking.{AfterRun, Asked, TakesOne, Took, RanFull, RanOut, RanUpTo, SpellsFrom, all_white, behind}
use Rattle.chess_items.specs.declared.fault.PgnFault.{PgnFault}
use Rattle.chess_items.specs.declared.place.Place.{Place}
use Rattle.chess_items.specs.declared.place.Place.TheVariants.{GameStart}
use Rattle.chess_items.specs.declared.taker.Taken.{Taken}
use Rattle.chess_items.specs.declared.taker.Taken.TheVariants.{Ends as AtEnd, Leaves}
use Rattle.chess_items.specs.declared.taking.Stop.{Stop}
use Rattle.chess_items.specs.declared.taking.Stop.TheVariants as stop
use Rattle.chess_items.specs.declared.taking.Stopped.{Stopped}
use Rattle.chess_items.proofs.FoundLemmas.{item_taken}
use Rattle.chess_items.proofs.TakingLemmas.{bare, spells_bare}
use Rattle.chess_pgn.specs.Grammar.{Derives, elements, few_are_open}
use Rattle.chess_pgn.specs.Reading.{Ends, Gives, HasBegun, IsWithinLimits, Starts, is_heading, remarks}
use Rattle.chess_pgn.specs.steps.GameCode.{game_of}
use Rattle.chess_pgn.specs.steps.GameAt.{HasCome, NoneCame, ReadsNeeded}
use Rattle.chess_pgn.specs.steps.HeaderCode.{HasFound}
use Rattle.chess_pgn.specs.steps.ReaderCode.{Answered, BeginsMoves, Closed, Ended, Finished, HeadsGame, IsNew, Left, TakesItem, begins_when, takes_when}
use Rattle.chess_pgn.specs.steps.Readings.{IsRead, fresh, goes_on}
use Rattle.chess_pgn.specs.declared.game.Game.{Game}
use Rattle.chess_pgn.specs.declared.reader.Reader.{Reader}
use Rattle.chess_pgn.specs.declared.reader.header.Header.{Header}
use Rattle.chess_pgn.specs.declared.reader.moves.Moves.{Moves}
use Rattle.chess_pgn.proofs.ChainLemmas.{InHead, InMovetext, Moving, Progress, begun_starts, movetext_first, progress_all, progress_new}
use Rattle.chess_pgn.proofs.DerivedLemmas.{derived}
use Rattle.chess_pgn.proofs.GivenLemmas.{took_tags}
use Rattle.chess_pgn.proofs.StepLemmas.{no_lines}
use Rattle.chess_pgn.proofs.UndecidedLemmas.{undecided_none}

-- ---- what isn't white

and_false : (a b : Bool) → b ≡ false → a && b ≡ false
and_false true b h = h
and_false false b h = refl

dark_after : (is : List Item) (item : Item) (more : List Item) → is_white item ≡ false → list_all is_white (is ++ item ∷ more) ≡ false
dark_after [] item more h = ap (λ (b : Bool). b && list_all is_white more) h
dark_after (i ∷ is) item more h = and_false (is_white i) (list_all is_white (is ++ item ∷ more)) (dark_after is item more h)

movetext_dark : (item : Item) → is_heading item ≡ false → is_white item ≡ false
movetext_dark items.Mark h = absurd cc
movetext_dark (items.Blank b) h = absurd cc
movetext_dark items.Hidden h = absurd cc
movetext_dark _ h = refl

pub begun_dark : (head movetext : List Item) → HasBegun movetext → list_all is_white (head ++ movetext) ≡ false
begun_dark head [] h = absurd h
begun_dark head (item ∷ more) h = dark_after head item more (movetext_dark item h)

pub whites_bare : (is : List (ℕ × Item)) → all_white is ≡ list_all is_white (bare is)
whites_bare [] = refl
whites_bare (x ∷ is) = ap (λ (b : Bool). is_white x.1 && b) (whites_bare is)

-- the place after the items, with and without the bytes before each
pub behind_bare : (place : Place) (is : List (ℕ × Item)) → behind place is ≡ place_behind place (bare is)
behind_bare place [] = refl
behind_bare place (x ∷ is) = behind_bare (place_after place x.1) is

bare_more : (is : List (ℕ × Item)) (x : ℕ × Item) → bare (is ++ x ∷ []) ≡ bare is ++ x.1 ∷ []
bare_more [] x = refl
bare_more (y ∷ is) x = ap (λ (z : List Item). y.1 ∷ z) (bare_more is x)

-- ---- items that give a game

-- with the cursor at the root
abbrev pub GivesGame : {A : Type 0} → List Item → List ℕ → Game A → Type 0
GivesGame is rest game = Gives is rest (game_of game) × (game.tree.path ≡ [])

gives_game : {A : Type 0} (head movetext ending is : List Item) (rest : List ℕ) (game : Game A) (r : Reader A) → is ≡ head ++ (movetext ++ ending) → Starts movetext → Ends movetext ending game.result rest
    → InMovetext head movetext r → r.moves.interrupted.items ≡ [] → HasFound r.header game.tags → IsRead r.moves game.tree → GivesGame is rest game
gives_game head movetext ending is rest game r parts starts ends h closed found read =
    let t = game.tree in
    let x = read h.reading h.now closed in
    let es = elements movetext in
    let whole = append-nil es in
    let end : goes_on es (fresh h.first (remarks [] head)) ≡ Some (t.tree.comment, t.tree.below) = ap (λ z. goes_on z (fresh h.first (remarks [] head))) (sym whole) ∙ h.given [] ∙ x.0 in (
      record {
        head = head;
        movetext = movetext;
        ending = ending;
        parts = parts;
        given = h.tags;
        are_tags = h.are_tags;
        has_tags = found h.tags h.finds;
        start = h.told ∙ ap (λ (s : PositionParts). Some s) (sym (x.1 ∙ h.from));
        starts = starts;
        moving = h.stands;
        ends = ends;
        few = ap (few_are_open 0) (sym whole) ∙ h.few [];
        derives = subst (λ (s : PositionParts). Derives es s (remarks [] head) t.tree.comment t.tree.below) (sym (x.1 ∙ h.from)) (derived es h.first (remarks [] head) t.tree.comment t.tree.below end);
      },
      x.2,
    )

-- with its marker
module _ {A : Type 0} (is : List Item) (item : Item) (rest : List ℕ) (game : Game A) (old new : Reader A) (c : Closed new game) where
  at_marker : (head movetext : List Item) (r : Reader A) → is ≡ head ++ movetext → Starts movetext → InMovetext head movetext r → Ended item r new → GivesGame (is ++ item ∷ []) rest game × (is_white item ≡ false)
  at_marker head movetext r parts starts h e = (
    gives_game head movetext (item ∷ []) (is ++ item ∷ []) rest game r (ap (λ (z : List Item). z ++ item ∷ []) parts ∙ append_assoc head movetext (item ∷ [])) starts
        (inl (ap (λ (z : Item). z ∷ []) (e.marker ∙ ap items.Marker (sym c.is_outcome)))) h e.closed (subst (λ (k : Header A). HasFound k game.tags) e.header c.has_tags) (subst (λ (m : Moves A). IsRead m game.tree) e.moves c.is_tree),
    ap is_white e.marker,
  )

  pub ended_gives : Progress is old → TakesItem old item (Ok AtEnd) new → GivesGame (is ++ item ∷ []) rest game × (is_white item ≡ false)
  ended_gives (inl h) k = by (subst (λ (b : Bool). takes_when b item (Ok AtEnd) old new) h.moving k.0)
    where
      by : HeadsGame item (Ok AtEnd) old new → GivesGame (is ++ item ∷ []) rest game × (is_white item ≡ false)
      by (inl x) = absurd (let e = x.0 in cc)
      by (inr x) = at_marker is [] x.1 (sym (append-nil is)) tt (movetext_first is old x.1 h x.2) x.3
  ended_gives (inr h) k =
      at_marker h.head h.movetext old h.parts (begun_starts h.movetext h.begun) h.there (subst (λ (b : Bool). takes_when b item (Ok AtEnd) old new) h.there.moving k.0)

-- before a bracket
module _ {A : Type 0} (is : List Item) (item : Item) (game : Game A) (old new : Reader A) (c : Closed new game) where
  at_bracket : (rest more : List ℕ) → rest ≡ byte "[" ∷ more → Moving is old → Left item old new → GivesGame is rest game
  at_bracket rest more e h l =
      gives_game h.head h.movetext [] is rest game old (h.parts ∙ ap (λ (z : List Item). h.head ++ z) (sym (append-nil h.movetext))) (begun_starts h.movetext h.begun)
      (inr (refl, c.is_outcome ∙ l.outcome ∙ h.there.outcome, inr (h.begun, more, e))) h.there l.closed (subst (λ (k : Header A). HasFound k game.tags) l.header c.has_tags) (subst (λ (m : Moves A). IsRead m game.tree) l.moves c.is_tree)

  pub left_gives : Progress is old → TakesItem old item (Ok Leaves) new → (item ≡ items.TagOpen) × (list_all is_white is ≡ false) × ((rest more : List ℕ) → rest ≡ byte "[" ∷ more → GivesGame is rest game)
  left_gives (inl h) k = absurd (by (subst (λ (b : Bool). takes_when b item (Ok Leaves) old new) h.moving k.0))
    where
      by : HeadsGame item (Ok Leaves) old new → ⊥
      by (inl x) = (let e = x.0 in cc)
      by (inr x) = (let e : true ≡ false = sym (ap is_heading x.3.bracket) ∙ x.0 in cc)
  left_gives (inr h) k =
      let l : Left item old new = subst (λ (b : Bool). takes_when b item (Ok Leaves) old new) h.there.moving k.0 in
      (l.bracket, ap (list_all is_white) h.parts ∙ begun_dark h.head h.movetext h.begun, λ rest more e. at_bracket rest more e h l)

-- at the end of the text
module _ {A : Type 0} (is : List Item) (game : Game A) (old : Reader A) (f : Finished old game) where
  headed_closed : (new : Reader A) → InHead is old → BeginsMoves old new → new.moves.interrupted.items ≡ []
  headed_closed new h b = (let t = took_tags is old.header h.taken b.outside in let x = (b.moves t.0 t.2).2 (remarks [] is) h.lead in no_lines x.outer new.moves.interrupted.items x.pends)

  pub finished_gives : Progress is old → GivesGame is [] game
  finished_gives (inl h) =
      let b : BeginsMoves old f.reader = subst (λ (v : Bool). begins_when v old f.reader) h.moving f.begins in
      let m = movetext_first is old f.reader h b in
      gives_game is [] [] is [] game f.reader (sym (append-nil is)) tt (inr (refl, f.ends.is_outcome ∙ m.outcome, inl refl)) m (headed_closed f.reader h b) f.ends.has_tags f.ends.is_tree
  finished_gives (inr h) =
      let same : f.reader ≡ old = subst (λ (v : Bool). begins_when v old f.reader) h.there.moving f.begins in
      let c : Closed old game = subst (λ (r : Reader A). Closed r game) same f.ends in
      gives_game h.head h.movetext [] is [] game old (h.parts ∙ ap (λ (z : List Item). h.head ++ z) (sym (append-nil h.movetext))) (begun_starts h.movetext h.begun)
      (inr (refl, c.is_outcome ∙ h.there.outcome, inl refl)) h.there f.closed c.has_tags c.is_tree

-- ---- the text

-- the bytes of the items, and the rest
pub spelled_front : (at : ℕ) (place : Place) (input : List ℕ) (is : List (ℕ × Item)) (rest : List ℕ) → SpellsFrom at place input is rest → (text : List ℕ) × (input ≡ text ++ rest)
spelled_front at place input [] rest s = ([], s)
spelled_front at place input (x ∷ is) rest s =
    let f = spelled_front (at + length s.0) (place_after place x.1) s.1 is rest s.5 in
    (s.0 ++ f.0, s.2 ∙ ap (λ (z : List ℕ). s.0 ++ z) f.1 ∙ sym (append_assoc s.0 f.0 rest))

bracket_first : (text : List ℕ) (item : Item) (hand next : List ℕ) → item ≡ items.TagOpen → IsSpelled item text next → hand ≡ text ++ next → hand ≡ byte "[" ∷ next
bracket_first text item hand next e s h = (let o : text ≡ byte "[" ∷ [] = subst (λ (i : Item). IsSpelled i text next) e s in h ∙ ap (λ (z : List ℕ). z ++ next) o)

-- the last read was made where no one game was at the start of the bytes before it
pub asked_needed : {X A : Type 0} (comes : X → List ℕ → X → Type 0) (at_hand : X → List ℕ) (all sound : X → Type 0) (reads : X → ℕ) (old : X) (t : Reader A) (new_reader : IsNew t) (came : List ℕ) (new : X) (is : List (ℕ × Item))
    → Asked comes at_hand all sound reads (λ s at item result v. TakesItem s item result v) 1048576 old came new t is → ReadsNeeded comes at_hand all reads old came new
asked_needed comes at_hand all sound reads old t new_reader came new is (inl same) = inl same
asked_needed comes at_hand all sound reads old t new_reader came new is (inr r) =
    let begun = joined r.split.earlier in
    inr (
      r.split,
      λ g n x. undecided_none (bare r.items) r.last (progress_all [] r.items t r.last (progress_new t new_reader) r.taken) (at_hand old ++ begun) r.rest
          (λ more. subst (λ (z : List ℕ). Spells GameStart z (bare r.items) (r.rest ++ more)) (sym (append_assoc (at_hand old) begun more))
          (spells_bare 0 GameStart (at_hand old ++ (begun ++ more)) r.items (r.rest ++ more) (r.spelled more)))
          (subst (λ (p : Place). Decides p r.rest → ⊥) (behind_bare GameStart r.items) r.undecided) g n x,
    )

module _ {X A : Type 0} (comes : X → List ℕ → X → Type 0) (at_hand : X → List ℕ) (all sound : X → Type 0) (reads : X → ℕ) (old : X) (t u : Reader A) (new_reader : IsNew t) (game : Game A) where
  abbrev takes : Reader A → ℕ → Item → Result Taken PgnFault → Reader A → Type 0
  takes s at item result v = TakesItem s item result v

  abbrev limit : ℕ
  limit = 1048576

  module _ (pieces : List (List ℕ)) (new : X) (came : Calls comes old pieces new) (at : ℕ) (place : Place) (white : Bool) where
    needs : (is : List (ℕ × Item)) → Asked comes at_hand all sound reads takes limit old (joined pieces) new t is → ReadsNeeded comes at_hand all reads old (joined pieces) new
    needs is asked = asked_needed comes at_hand all sound reads old t new_reader (joined pieces) new is asked

    come : (is : List (ℕ × Item)) → Took comes at_hand all sound reads takes limit old pieces new is at place white → list_all is_white (bare is) ≡ false → game.tree.path ≡ [] → (length (at_hand old) ≤ 65537 → length (at_hand new) ≤ 65536)
        → ReadsNeeded comes at_hand all reads old (joined pieces) new → IsWithinLimits (game_of game) → ((more : List ℕ) → (all new → more ≡ []) → Gives (bare is) (at_hand new ++ more) (game_of game)) → HasCome comes at_hand all reads old new game at
    come is took some cursor near needed within gives = let prefix = spelled_front 0 GameStart (at_hand old ++ (joined pieces ++ [])) is (at_hand new ++ []) (took.spelled [] (λ h. refl)) in record {
      pieces = pieces;
      came = came;
      reads = λ more none. record {
        items = bare is;
        rest = at_hand new ++ more;
        spelled = spells_bare 0 GameStart (at_hand old ++ (joined pieces ++ more)) is (at_hand new ++ more) (took.spelled more none);
        counted = (let a = length-append (at_hand new) more in let b = length-append (at_hand old) (joined pieces ++ more) in let c = length-append (joined pieces) more in omega (arith, a, b, c, took.counted));
        few = took.few;
        some = some;
        gives = gives more none;
        within = within;
      };
      text = prefix.0;
      parts = ap (λ (z : List ℕ). at_hand old ++ z) (sym (append-nil (joined pieces))) ∙ prefix.1 ∙ ap (λ (z : List ℕ). prefix.0 ++ z) (append-nil (at_hand new));
      counted = (let a = ap length prefix.1 in let b = length-append prefix.0 (at_hand new ++ []) in let c = length-append (at_hand new) [] in let d = length-append (at_hand old) (joined pieces ++ []) in let e = length-append (joined pieces) [] in omega (arith, a, b, c, d, e, took.counted));
      near = near;
      needed = needed;
      cursor = cursor;
      still = took.at_end;
    }

    dark_some : (is : List (ℕ × Item)) → list_all is_white (bare is) ≡ false → is ≢ []
    dark_some is dark e = let k : true ≡ false = sym (ap (λ (x : List (ℕ × Item)). list_all is_white (bare x)) e) ∙ dark in cc

    come_full : RanFull comes at_hand all sound reads takes limit old pieces new t u at place white → Closed u game → HasCome comes at_hand all reads old new game at
    come_full r c =
        let is = bare r.items in
        let p : Progress is r.mid = progress_all [] r.items t r.mid (progress_new t new_reader) r.taken in
        let g = ended_gives is r.last.1 [] game r.mid u c p r.ends in
        come (r.items ++ r.last ∷ []) r.took (ap (list_all is_white) (bare_more r.items r.last) ∙ dark_after is r.last.1 [] g.1) g.0.1 r.near (needs r.items r.asked) c.within
        (λ more none. subst (λ (z : List Item). Gives z (at_hand new ++ more) (game_of game)) (sym (bare_more r.items r.last)) (ended_gives is r.last.1 (at_hand new ++ more) game r.mid u c p r.ends).0.0)

    come_left : RanUpTo comes at_hand all sound reads takes limit old pieces new t u at place white (Ok Leaves) → Closed u game → HasCome comes at_hand all reads old new game at
    come_left r c =
        let is = bare r.items in
        let p : Progress is r.mid = progress_all [] r.items t r.mid (progress_new t new_reader) r.taken in
        let g = left_gives is r.item game r.mid u c p r.answered in
        come r.items r.took g.1 (g.2 (byte "[" ∷ []) [] refl).1 (r.bracket g.0 (dark_some r.items g.1)) (needs r.items r.asked) c.within
        (λ more none.
        let k = item_taken place (at_hand new ++ more) r.item (r.rest ++ more) (r.found more none) in
        (g.2 (at_hand new ++ more) (r.rest ++ more) (bracket_first k.0 r.item (at_hand new ++ more) (r.rest ++ more) g.0 k.2.spelled k.1)).0)

    come_out : RanOut comes at_hand all sound reads takes limit old pieces new t u at place white → white ≡ false → Finished u game → HasCome comes at_hand all reads old new game at
    come_out r dark f =
        let is = bare r.items in
        let p : Progress is u = progress_all [] r.items t u (progress_new t new_reader) r.taken in
        let g = finished_gives is game u f p in
        come r.items r.took (sym (whites_bare r.items) ∙ sym r.took.whites ∙ dark) g.1 (λ h. rw r.nothing (omega arith)) (needs r.items r.asked) f.ends.within
        (λ more none. subst (λ (z : List ℕ). Gives is z (game_of game)) (sym (ap (λ (z : List ℕ). z ++ more) r.nothing ∙ none r.ended)) g.0)

    come_run : (why : Stop) → AfterRun comes at_hand all sound reads takes limit old pieces new t u at place white why → (why ≡ stop.End → white ≡ false) → Answered why u game → HasCome comes at_hand all reads old new game at
    come_run stop.Full r dark a = come_full r a
    come_run stop.Left r dark a = come_left r a
    come_run stop.End r dark a = come_out r (dark refl) a
    come_run (stop.Refused fault) r dark a = absurd a
    come_run stop.NoItem r dark a = absurd a
    come_run stop.TooLarge r dark a = absurd a

  pub game_come : (new : X) (found : Option Stopped) (s : Stopped) → Passes comes at_hand all sound reads takes 1048576 old new t u (Ok found) → found ≡ Some s → Answered s.why u game → HasCome comes at_hand all reads old new game s.at
  game_come new found s h e a =
      let p : Passed comes at_hand all sound reads takes limit old new t u s = subst (λ (o : Option Stopped). Passes comes at_hand all sound reads takes limit old new t u (Ok o)) e h in
      let c = come_run p.ran.pieces p.mid p.ran.came s.at s.place s.white s.why p.ran.after p.more a in
      elim p.after [
        | inl e ↦ subst (λ (x : X). HasCome comes at_hand all reads old x game s.at) (sym e.0) c
        | inr n ↦ absurd (subst (λ (w : Stop). Answered w u game) n.over a)
      ]

module _ {X T : Type 0} (comes : X → List ℕ → X → Type 0) (at_hand : X → List ℕ) (all sound : X → Type 0) (reads : X → ℕ) where
  none_white : (old new : X) (takes : TakesOne T) → WasWhite comes at_hand all sound reads takes old new → NoneCame comes at_hand all reads old new
  none_white old new takes w = record {
    pieces = w.pieces;
    came = w.came;
    white = record {
      items = w.white.0;
      white = w.white.1;
      spelled = w.white.2;
    };
    ended = w.ended;
    nothing = w.nothing;
    still = w.still;
  }

  pub none_come : (takes : TakesOne T) (limit : ℕ) (old new : X) (t u : T) (found : Option Stopped) → Passes comes at_hand all sound reads takes limit old new t u (Ok found) → found ≡ None → NoneCame comes at_hand all reads old new
  none_come takes limit old new t u found h e = none_white old new takes (subst (λ (o : Option Stopped). Passes comes at_hand all sound reads takes limit old new t u (Ok o)) e h)
