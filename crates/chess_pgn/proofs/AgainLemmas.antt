-- A game that is written is read again, and what is read is a game.
use Rattle.std.proofs.Common.{◌≡◌, ◌≢◌, inl, ℕ, ◌≤◌, ◌<◌, ◌+◌, ◌^◌, Bool, true, false, ◌&&◌, List, [], ◌∷◌, ◌++◌, length, codes, refl, sym, ap, subst, ◌∙◌, append_assoc, length-append, arith}
use Rattle.std.specs.List.{list_all}
use Rattle.std.specs.List.Sorted.{IsStrictlySortedBy}
use Rattle.std.proofs.lemmas.Bool.{and_parts}
use Rattle.byte_streams.specs.Words.{words}
use Rattle.chess_types.specs.board.Position.{PositionParts}
use Rattle.chess_items.specs.Items as items
use Rattle.chess_items.specs.Items.{Each, Item, Spells, in_line, is_outside, is_white}
use Rattle.chess_items.specs.declared.outcome.Outcome.{Outcome}
use Rattle.chess_items.specs.declared.outcome.Outcome.TheVariants.{WhiteWins}
use Rattle.chess_items.specs.declared.place.Place.{Place}
use Rattle.chess_items.specs.declared.place.Place.TheVariants.{GameStart, LineStart}
use Rattle.chess_tree.specs.Comments.{IsComment, normalised}
use Rattle.chess_tree.specs.Forest.{Forest, Bare, Node, height}
use Rattle.chess_tree.specs.GameTree.{GameTree}
use Rattle.chess_fen.proofs.BackLemmas.{read_back}
use Rattle.chess_pgn.specs.Games.{Game}
use Rattle.chess_pgn.specs.Grammar.{Derives, elements}
use Rattle.chess_pgn.specs.Laws.{IsTagValue, NewIsGame, ReadIsGame, IsGame, WrittenIsRead, nesting}
use Rattle.chess_pgn.specs.Layout.{in_lines}
use Rattle.chess_pgn.specs.Reading.{BeginsWithGame, remarks}
use Rattle.chess_items.specs.Markers.{outcome_text}
use Rattle.chess_pgn.specs.Written.{comment_text, game_text, moves_text, movetext, tags_text}
use Rattle.chess_pgn.proofs.CountLemmas.{few_moves}
use Rattle.chess_pgn.proofs.FenTextLemmas.{fen_value}
use Rattle.chess_pgn.proofs.ForestLemmas.{AreWritable, comment_piece, forest_piece}
use Rattle.chess_pgn.proofs.GameLemmas.{movetext_words}
use Rattle.chess_pgn.proofs.GivenTagLemmas.{event_good, event_tag, given_good, given_is, given_of, given_start, given_tags}
use Rattle.chess_pgn.proofs.MovetextLemmas.{HasMoves, movetext_derives, movetext_few, movetext_spells, noted_writable}
use Rattle.chess_pgn.proofs.RespaceLemmas.{Respaced, filled, is_single}
use Rattle.chess_pgn.specs.Tags.{fen_in}
use Rattle.chess_pgn.proofs.SoundItemLemmas.{AreSoundItems, has_texts, sound_parts, spelled_sound, tags_good}
use Rattle.chess_pgn.proofs.SoundMoveLemmas.{derived_moves, no_comment, remarks_comment}
use Rattle.chess_pgn.proofs.StartReadLemmas.{told_start}
use Rattle.chess_pgn.proofs.TagTextLemmas.{HasHead, behind_blanks, given_text, tags_spell}

-- ---- the movetext in lines

marker_single : (o : Outcome) → is_single false (32 ∷ outcome_text o) ≡ true
marker_single WhiteWins = refl
marker_single _ = refl

movetext_single : (tree : GameTree) (o : Outcome) → IsComment tree.comment → AreWritable tree.start tree.below → is_single false (movetext tree o) ≡ true
movetext_single tree o is w =
    (comment_piece tree.comment is).single (moves_text false true tree.start tree.below ++ 32 ∷ outcome_text o) ((forest_piece false true tree.start tree.below w).single (32 ∷ outcome_text o) (marker_single o))

-- a text that begins with a space
abbrev BeginsWithSpace : List ℕ → Type 0
BeginsWithSpace text = (rest : List ℕ) × (text ≡ 32 ∷ rest)

moves_space : (p : PositionParts) (f : Forest) (rest : List ℕ) → BeginsWithSpace rest → BeginsWithSpace (moves_text false true p f ++ rest)
moves_space p Bare rest h = h
moves_space p (Node m nags comment b next) rest h = (_, refl)

comment_space : (c rest : List ℕ) → BeginsWithSpace rest → BeginsWithSpace (comment_text c ++ rest)
comment_space [] rest h = h
comment_space (b ∷ c) rest h = (_, refl)

filled_text : (text rest : List ℕ) → text ≡ 32 ∷ rest → is_single false text ≡ true → words (codes " ") text ≢ [] → Respaced text (10 ∷ in_lines text)
filled_text text rest e one some =
    subst (λ (x : List ℕ). Respaced x (10 ∷ in_lines x)) (sym e) (filled rest (subst (λ (x : List ℕ). is_single false x ≡ true) e one) (subst (λ (x : List ℕ). words (codes " ") x ≢ []) e some))

movetext_filled : (tree : GameTree) (o : Outcome) → IsComment tree.comment → AreWritable tree.start tree.below → Respaced (movetext tree o) (10 ∷ in_lines (movetext tree o))
movetext_filled tree o is w =
    let s = comment_space tree.comment (moves_text false true tree.start tree.below ++ 32 ∷ outcome_text o) (moves_space tree.start tree.below (32 ∷ outcome_text o) (outcome_text o, refl)) in
    filled_text (movetext tree o) s.0 s.1 (movetext_single tree o is w) (movetext_words tree o)

-- ---- the whole

not_white : (is : List Item) (o : Outcome) → list_all is_white (is ++ items.Marker o ∷ []) ≡ false
not_white [] o = refl
not_white (item ∷ is) o = step (is_white item) (list_all is_white (is ++ items.Marker o ∷ [])) (not_white is o)
  where
    step : (v w : Bool) → w ≡ false → (v && w) ≡ false
    step true w e = e
    step false w e = refl

parted : (a b given line rest : List ℕ) → given ≡ a → b ≡ 10 ∷ (line ++ 10 ∷ 10 ∷ []) → (a ++ b) ++ rest ≡ given ++ ((10 ∷ line) ++ 10 ∷ 10 ∷ rest)
parted a b given line rest e h = rw (e, h, append_assoc a (10 ∷ (line ++ 10 ∷ 10 ∷ [])) rest, append_assoc line (10 ∷ 10 ∷ []) rest) refl

module _ (game : Game) where
  abbrev lines : List ℕ
  lines = in_lines (movetext game.tree game.outcome)

  abbrev given : List (List ℕ × List ℕ)
  given = event_tag game.tags ∷ given_of game.tags game.outcome game.tree.start

  text_is : (rest : List ℕ) → game_text game ++ rest ≡ given_text given ++ ((10 ∷ lines) ++ 10 ∷ 10 ∷ rest)
  text_is rest =
      parted (tags_text game.tags game.outcome game.tree.start) (10 ∷ (lines ++ 10 ∷ 10 ∷ [])) (given_text given) lines rest (given_is game.tags game.outcome game.tree.start) refl

module _ (game : Game) (is : IsGame game) (few : nesting false game.tree.below ≤ 128) where
  module _ (rest : List ℕ) where
    moves : HasMoves game.tree game.outcome (10 ∷ lines game) (10 ∷ rest) LineStart
    moves =
        let low : game.tree.start.number + height game.tree.below < 2 ^ 64 = omega (arith, is.number, is.deep) in
        movetext_spells game.tree game.outcome (10 ∷ lines game) (10 ∷ rest) LineStart refl is.comment is.moves is.noted low
        (movetext_filled game.tree game.outcome is.comment (noted_writable game.tree.start game.tree.below is.moves is.noted low))

    abbrev ending : List Item
    ending = moves.moves ++ items.Marker game.outcome ∷ []

    heading : (place : Place) → is_outside place ≡ true → HasHead place (given game) ending moves.between (given_text (given game) ++ ((10 ∷ lines game) ++ 10 ∷ 10 ∷ rest)) (10 ∷ 10 ∷ rest)
    heading place out =
        tags_spell place (event_tag game.tags) (given_of game.tags game.outcome game.tree.start) ending moves.between ((10 ∷ lines game) ++ 10 ∷ 10 ∷ rest) (10 ∷ 10 ∷ rest) out
        (event_good game.tags is.tags) (given_good game.tags game.outcome game.tree.start is.tags (fen_value game.tree.start is.clock is.number)) moves.are_between moves.spelled

    module _ (before : List ℕ) (white : Each items.is_blank before) where
      head : HasHead GameStart (given game) ending moves.between (before ++ (given_text (given game) ++ ((10 ∷ lines game) ++ 10 ∷ 10 ∷ rest))) (10 ∷ 10 ∷ rest)
      head = behind_blanks GameStart before (given game) ending moves.between (given_text (given game) ++ ((10 ∷ lines game) ++ 10 ∷ 10 ∷ rest)) (10 ∷ 10 ∷ rest) refl white heading

      at_front : (used : ℕ) → used + 2 ≡ length (before ++ game_text game) → used ≤ 1048576 → BeginsWithGame (before ++ (game_text game ++ rest)) game used
      at_front used counted small = record {
        items = head.head ++ ending;
        rest = 10 ∷ 10 ∷ rest;
        spelled = subst (λ (x : List ℕ). Spells GameStart (before ++ x) (head.head ++ ending) (10 ∷ 10 ∷ rest)) (sym (text_is game rest)) head.spelled;
        counted = omega (arith, counted, length-append before (game_text game ++ rest), length-append (game_text game) rest, length-append before (game_text game));
        few = small;
        some = ap (list_all is_white) (sym (append_assoc head.head moves.moves (items.Marker game.outcome ∷ []))) ∙ not_white (head.head ++ moves.moves) game.outcome;
        gives = record {
          head = head.head;
          movetext = moves.moves;
          ending = items.Marker game.outcome ∷ [];
          given = given game;
          parts = refl;
          are_tags = head.are_tags;
          has_tags = given_tags game.tags game.outcome game.tree.start is.tags;
          start = given_start game.tags game.outcome game.tree.start is.tags (read_back game.tree.start is.clock is.number is.start is.on_board);
          starts = moves.starts;
          moving = moves.moving;
          ends = inl refl;
          few = movetext_few game.tree moves.moves few moves.counted;
          derives =
              subst (λ (c : List ℕ). Derives (elements moves.moves) game.tree.start c game.tree.comment game.tree.below) (sym (head.said ∙ moves.said))
              (movetext_derives game.tree moves.moves is.moves is.noted moves.counted);
        };
        within = record { deep = is.deep };
      }

-- the law
pub written_is_read : WrittenIsRead
written_is_read game is few before rest used white counted small = at_front game is few rest before white used counted small

-- ---- a new game

known_value : (text : List ℕ) → list_all in_line text ≡ true → IsTagValue text
known_value [] e = tt
known_value (b ∷ text) e = let both = and_parts (in_line b) (list_all in_line text) e in (both.0, known_value text both.1)

pub new_is_game : NewIsGame
unfolding normalised IsStrictlySortedBy
new_is_game p well on clock number = record {
  tags = record {
    event = known_value (codes "?") refl;
    site = known_value (codes "?") refl;
    date = known_value (codes "????.??.??") refl;
    round = known_value (codes "?") refl;
    white = known_value (codes "?") refl;
    black = known_value (codes "?") refl;
    others = tt;
    ascend = tt;
  };
  start = well;
  on_board = on;
  clock = clock;
  number = number;
  comment = record { normal = refl; no_brace = refl };
  moves = tt;
  noted = tt;
  deep = omega arith;
  many = omega arith;
}

-- ---- what is read

pub read_is_game : ReadIsGame
read_is_game input game used prefix =
    let g = prefix.gives in
    let all = subst AreSoundItems g.parts (spelled_sound GameStart input prefix.items prefix.rest prefix.spelled) in
    let head = sound_parts g.head (g.movetext ++ g.ending) all in
    let moves = sound_parts g.movetext g.ending head.1 in
    let start = told_start (fen_in g.given) game.tree.start g.start in
    let derived = derived_moves g.movetext game.tree.start (remarks [] g.head) game.tree.comment game.tree.below moves.0 (remarks_comment [] g.head no_comment head.0) g.few g.derives in (
      record {
        tags = has_texts g.given game.tags g.has_tags (tags_good g.head g.given g.are_tags head.0);
        start = start.well;
        on_board = start.on_board;
        clock = start.clock;
        number = start.number;
        comment = derived.is_comment;
        moves = derived.sound;
        noted = derived.noted;
        deep = prefix.within.deep;
        many = omega (arith, few_moves input game used prefix);
      },
      derived.few,
    )
