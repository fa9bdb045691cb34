-- The movetext of a game in lines: what it spells is a comment, moves that derive the game's, and the marker.
use Rattle.std.proofs.Common.{◌≡◌, inl, inr, ℕ, ◌<◌, ◌≤◌, ◌+◌, ◌^◌, Bool, true, false, ◌||◌, not, List, [], ◌∷◌, ◌++◌, codes, refl, sym, ap, ◌∙◌, append_assoc, append-nil, arith}
use Rattle.std.specs.Prelude.{is_none}
use Rattle.std.specs.List.{list_all}
use Rattle.chess_types.specs.board.Position.{PositionParts}
use Rattle.chess_types.specs.board.After.{after}
use Rattle.chess_types.proofs.AllMoves.{IsMove}
use Rattle.chess_types.proofs.Counters.{number_more}
use Rattle.chess_items.specs.Items as items
use Rattle.chess_items.specs.Items.{Item, Each, Spells, is_digit, is_name_byte, is_outside, is_word_byte, place_after, word_item}
use Rattle.chess_items.specs.declared.outcome.Outcome.{Outcome}
use Rattle.chess_items.specs.declared.outcome.Outcome.TheVariants.{WhiteWins, BlackWins, Draw, Unfinished}
use Rattle.chess_items.specs.declared.place.Place.{Place}
use Rattle.chess_tree.specs.Comments.{IsComment, normalised}
use Rattle.chess_tree.specs.Forest.{Forest, Bare, Node, child, height}
use Rattle.chess_tree.specs.GameTree.{GameTree}
use Rattle.chess_tree.specs.WellFormed.{AreSound}
use Rattle.chess_san.proofs.LawLemmas.{read_back}
use Rattle.chess_pgn.specs.Grammar.{Derives, Element, End, elements, few_are_open}
use Rattle.chess_pgn.specs.Laws.{AreNoted, nesting}
use Rattle.chess_pgn.specs.Reading.{Starts, is_movetext, remarks}
use Rattle.chess_pgn.specs.Tags.{AreBetween}
use Rattle.chess_items.specs.Markers.{outcome_text}
use Rattle.chess_pgn.specs.Written.{comment_text, is_noted, moves_text, movetext, node_text}
use Rattle.chess_pgn.specs.steps.Hanging.{below}
use Rattle.chess_pgn.proofs.ForestLemmas.{AreWritable, braced, forest_elements, forest_piece, node_elements, node_words}
use Rattle.chess_pgn.proofs.HangLemmas.{joined-nil}
use Rattle.chess_pgn.proofs.MoveWordLemmas.{move_word}
use Rattle.chess_pgn.proofs.NestingLemmas.{forest_few}
use Rattle.chess_pgn.proofs.PieceLemmas.{Begins, Everywhere, Goes, Words, blank_is, one, out_blank, piece_on, space_breaks, words_on}
use Rattle.chess_pgn.proofs.RespaceLemmas.{Fills, NoSpace, Respaced, respaced_parts, respaced_same}
use Rattle.chess_pgn.proofs.SyntaxLemmas.{AreNamed, line_elements, line_means, line_of}

-- ---- what a game's moves are

pub noted_writable : (p : PositionParts) (f : Forest) → AreSound p f → AreNoted f → p.number + height f < 2 ^ 64 → AreWritable p f
noted_writable p Bare sound noted low = tt
noted_writable p (Node m nags comment b next) sound noted low =
    let on : IsMove m = record { from = noted.0; to = noted.1 } in (
      omega arith,
      move_word p m on sound.0,
      noted.2,
      sound.1,
      noted_writable (after p m) b sound.2 noted.3 (omega (arith, number_more p m)),
      noted_writable p next sound.3 noted.4 (omega arith),
    )

noted_named : (p : PositionParts) (f : Forest) → AreSound p f → AreNoted f → AreNamed p f
noted_named p Bare sound noted = tt
noted_named p (Node m nags comment b next) sound noted =
    (read_back p m (record { from = noted.0; to = noted.1 }) sound.0, noted_named (after p m) b sound.2 noted.3, noted_named p next sound.3 noted.4)

-- ---- the marker

marker_no_space : (o : Outcome) → NoSpace (outcome_text o)
marker_no_space WhiteWins = (refl, (refl, (refl, tt)))
marker_no_space BlackWins = (refl, (refl, (refl, tt)))
marker_no_space Draw = (refl, (refl, (refl, (refl, (refl, (refl, (refl, tt)))))))
marker_no_space Unfinished = (refl, tt)

-- before a line feed
marker_spells : (o : Outcome) (next : List ℕ) (place : Place) → is_outside place ≡ true → Spells place (outcome_text o ++ 10 ∷ next) (items.Marker o ∷ []) (10 ∷ next)
unfolding is_word_byte is_name_byte is_digit word_item
marker_spells WhiteWins next place out = (codes "1-0", 10 ∷ next, refl, record { stands = out; spelled = inr (record { some = λ h. cc; each = (refl, (refl, (refl, tt))); stops = refl }, refl) }, refl)
marker_spells BlackWins next place out = (codes "0-1", 10 ∷ next, refl, record { stands = out; spelled = inr (record { some = λ h. cc; each = (refl, (refl, (refl, tt))); stops = refl }, refl) }, refl)
marker_spells Draw next place out =
    (codes "1/2-1/2", 10 ∷ next, refl, record { stands = out; spelled = inr (record { some = λ h. cc; each = (refl, (refl, (refl, (refl, (refl, (refl, (refl, tt))))))); stops = refl }, refl) }, refl)
marker_spells Unfinished next place out = (codes "*", 10 ∷ next, refl, record { stands = out; spelled = inl (refl, refl) }, refl)

marker_says : (o : Outcome) (next : List ℕ) → Everywhere (outcome_text o ++ 10 ∷ next) (items.Marker o ∷ []) (10 ∷ next) []
marker_says o next place out = record { is = []; spelled = marker_spells o next place out; counted = refl; moving = refl }

marker_goes : (o : Outcome) (s next : List ℕ) → Respaced (32 ∷ outcome_text o) s → Goes (s ++ 10 ∷ next) (items.Marker o ∷ []) (10 ∷ next) []
marker_goes o [] next p = absurd p
marker_goes o (y ∷ t) next p =
    rw (respaced_same (outcome_text o) t (marker_no_space o) p.1) (record {
      says = λ place out. one place (items.Blank y) (y ∷ []) (outcome_text o ++ 10 ∷ next) (items.Marker o ∷ []) (10 ∷ next) [] refl (out_blank place y out) (blank_is place y (outcome_text o ++ 10 ∷ next) out p.0) (marker_says o next);
      breaks = space_breaks y (outcome_text o ++ 10 ∷ next) p.0;
    })

-- ---- the moves and the marker, after a first space

record Body (o : Outcome) (s : List ℕ) (es : List Element) : Type 0 where
  space : ℕ
  text : List ℕ
  parts : s ≡ space ∷ text
  fills : Fills 32 space
  begins : (next : List ℕ) (place : Place) → is_outside place ≡ true → Begins place (text ++ 10 ∷ next) (items.Marker o ∷ []) (10 ∷ next) es

body_of_words : (o : Outcome) (text : List ℕ) (es : List Element) (s : List ℕ) → Words text es → Respaced (32 ∷ (text ++ 32 ∷ outcome_text o)) s → Body o s es
body_of_words o text es [] f p = absurd p
body_of_words o text es (y ∷ t) f p =
    let r = respaced_parts text (32 ∷ outcome_text o) t p.1 in
    record {
      space = y;
      text = t;
      parts = refl;
      fills = p.0;
      begins = λ next place out.
          spread t r.0 r.1 es next place r.2 (f.begins r.0 (r.1 ++ 10 ∷ next) (items.Marker o ∷ []) (10 ∷ next) [] r.3 (marker_goes o r.1 next r.4) place out);
    }
  where
    spread : (t a b : List ℕ) (es : List Element) (next : List ℕ) (place : Place) → t ≡ a ++ b → Begins place (a ++ (b ++ 10 ∷ next)) (items.Marker o ∷ []) (10 ∷ next) (es ++ []) → Begins place (t ++ 10 ∷ next) (items.Marker o ∷ []) (10 ∷ next) es
    spread t a b es next place e h = rw (e, append_assoc a b (10 ∷ next), ← append-nil es) h

body_of : (p : PositionParts) (f : Forest) (o : Outcome) (s : List ℕ) → AreWritable p f → Respaced (moves_text false true p f ++ 32 ∷ outcome_text o) s → Body o s (forest_elements false true p f)
body_of p Bare o [] w q = absurd q
body_of p Bare o (y ∷ t) w q = record {
  space = y;
  text = t;
  parts = refl;
  fills = q.0;
  begins = λ next place out. rw (respaced_same (outcome_text o) t (marker_no_space o) q.1) (record { says = record { is = []; spelled = marker_spells o next place out; counted = refl; moving = refl }; starts = tt });
}
body_of p (Node m nags comment b next) o s w q =
    let d : Bool = is_noted nags comment || not (is_none (child 0 next)) in
    body_of_words o (node_text [] true p m nags comment ++ (moves_text true true p next ++ moves_text false d (after p m) b)) (forest_elements false true p (Node m nags comment b next)) s
    (words_on (node_text [] true p m nags comment) (moves_text true true p next ++ moves_text false d (after p m) b) (node_elements true p m nags comment) (forest_elements true true p next ++ forest_elements false d (after p m) b)
    (node_words true p m nags comment w.0 w.1 w.2 w.3)
    (piece_on (moves_text true true p next) (moves_text false d (after p m) b) (forest_elements true true p next) (forest_elements false d (after p m) b) (forest_piece true true p next w.5) (forest_piece false d (after p m) b w.4)))
    q

-- ---- the whole

-- after the tags, before a line feed: what is between the tags and the moves, the moves, and the marker
pub record HasMoves (tree : GameTree) (o : Outcome) (s next : List ℕ) (place : Place) : Type 0 where
  pub between : List Item
  pub moves : List Item
  pub spelled : Spells place (s ++ 10 ∷ next) (between ++ (moves ++ items.Marker o ∷ [])) (10 ∷ next)
  pub are_between : AreBetween between
  pub said : remarks [] between ≡ tree.comment
  pub starts : Starts moves
  pub moving : list_all is_movetext moves ≡ true
  pub counted : elements moves ≡ forest_elements false true tree.start tree.below

quiet_moves : (tree : GameTree) (o : Outcome) (s next : List ℕ) (place : Place) → is_outside place ≡ true → tree.comment ≡ [] → Body o s (forest_elements false true tree.start tree.below) → HasMoves tree o s next place
quiet_moves tree o s next place out quiet a =
    let g = a.begins next (place_after place (items.Blank a.space)) (out_blank place a.space out) in
    record {
      between = items.Blank a.space ∷ [];
      moves = g.says.is;
      spelled = (a.space ∷ [], a.text ++ 10 ∷ next, ap (λ (x : List ℕ). x ++ 10 ∷ next) a.parts, blank_is place a.space (a.text ++ 10 ∷ next) out a.fills, g.says.spelled);
      are_between = (refl, tt);
      said = sym quiet;
      starts = g.starts;
      moving = g.says.moving;
      counted = g.says.counted;
    }

-- a comment before, whose spaces may be line feeds
said_moves : (tree : GameTree) (o : Outcome) (y : ℕ) (t u s next : List ℕ) (place : Place) → is_outside place ≡ true → Fills 32 y → Each items.in_braces t → normalised t ≡ tree.comment
    → Body o u (forest_elements false true tree.start tree.below) → s ≡ y ∷ ((123 ∷ t ++ 125 ∷ []) ++ u) → HasMoves tree o s next place
said_moves tree o y t u s next place out f each n a e =
    let q : Place = place_after place (items.Blank y) in
    let r : Place = place_after q (items.Comment t) in
    let g = a.begins next (place_after r (items.Blank a.space)) (out_blank r a.space refl) in
    record {
      between = items.Blank y ∷ items.Comment t ∷ items.Blank a.space ∷ [];
      moves = g.says.is;
      spelled = (
        y ∷ [],
        ((123 ∷ t ++ 125 ∷ []) ++ u) ++ 10 ∷ next,
        ap (λ (x : List ℕ). x ++ 10 ∷ next) e,
        blank_is place y (((123 ∷ t ++ 125 ∷ []) ++ u) ++ 10 ∷ next) out f,
        (
          123 ∷ t ++ 125 ∷ [],
          u ++ 10 ∷ next,
          append_assoc (123 ∷ t ++ 125 ∷ []) u (10 ∷ next),
          record { stands = out_blank place y out; spelled = inl (refl, each) },
          (a.space ∷ [], a.text ++ 10 ∷ next, ap (λ (x : List ℕ). x ++ 10 ∷ next) a.parts, blank_is r a.space (a.text ++ 10 ∷ next) refl a.fills, g.says.spelled),
        ),
      );
      are_between = (refl, (refl, (refl, tt)));
      said = n;
      starts = g.starts;
      moving = g.says.moving;
      counted = g.says.counted;
    }

abbrev moves_and_marker : GameTree → Outcome → List ℕ
moves_and_marker tree o = moves_text false true tree.start tree.below ++ 32 ∷ outcome_text o

by_comment : (tree : GameTree) (o : Outcome) (c s next : List ℕ) (place : Place) → is_outside place ≡ true → IsComment c → c ≡ tree.comment → AreWritable tree.start tree.below
    → Respaced (comment_text c ++ moves_and_marker tree o) s → HasMoves tree o s next place
by_comment tree o [] s next place out is e w p = quiet_moves tree o s next place out (sym e) (body_of tree.start tree.below o s w p)
by_comment tree o (b ∷ c) [] next place out is e w p = absurd p
by_comment tree o (b ∷ c) (y ∷ s) next place out is e w p =
    let r = respaced_parts (123 ∷ ((b ∷ c) ++ 125 ∷ [])) (moves_and_marker tree o) s p.1 in
    let k = braced (b ∷ c) is r.0 r.3 in
    said_moves tree o y k.0 r.1 (y ∷ s) next place out p.0 k.2 (k.3 ∙ e) (body_of tree.start tree.below o r.1 w r.4) (ap (λ (x : List ℕ). y ∷ x) (r.2 ∙ ap (λ (x : List ℕ). x ++ r.1) k.1))

-- The movetext with some of its spaces as line feeds.
pub movetext_spells : (tree : GameTree) (o : Outcome) (s next : List ℕ) (place : Place) → is_outside place ≡ true → IsComment tree.comment → AreSound tree.start tree.below → AreNoted tree.below
    → tree.start.number + height tree.below < 2 ^ 64 → Respaced (movetext tree o) s → HasMoves tree o s next place
movetext_spells tree o s next place out is sound noted low p =
    by_comment tree o tree.comment s next place out is refl (noted_writable tree.start tree.below sound noted low) p

-- and its elements derive the game's comment and moves
pub movetext_derives : (tree : GameTree) (moves : List Item) → AreSound tree.start tree.below → AreNoted tree.below → elements moves ≡ forest_elements false true tree.start tree.below
    → Derives (elements moves) tree.start tree.comment tree.comment tree.below
movetext_derives tree moves sound noted e = record {
  line = line_of false true tree.start tree.below End;
  spelled = e ∙ sym (line_elements false true tree.start tree.below End ∙ append-nil (forest_elements false true tree.start tree.below));
  part = below tree.below;
  means = line_means tree.below tree.start (noted_named tree.start tree.below sound noted) true;
  remarks = sym (joined-nil tree.comment);
  tree = refl;
}

pub movetext_few : (tree : GameTree) (moves : List Item) → nesting false tree.below ≤ 128 → elements moves ≡ forest_elements false true tree.start tree.below → few_are_open 0 (elements moves) ≡ true
movetext_few tree moves few e =
    ap (few_are_open 0) (e ∙ sym (append-nil (forest_elements false true tree.start tree.below))) ∙ forest_few 0 false true tree.start tree.below [] (omega arith) refl
