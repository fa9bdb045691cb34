-- The legal move that a text names, and the lines that words name.
use Rattle.std.proofs.Common.{◌≡◌, ℕ, suc, zero, ◌+◌, ◌<◌, Bool, true, false, List, [], ◌∷◌, ◌++◌, length, length-append, get_or, find, ⊎_elim, inl, inr, Option, Some, None, is_some, Ok, Err, refl, sym, ap, ◌∙◌, append_assoc, append-nil, codes, arith}
use Rattle.std.specs.Prelude.{nat_le}
use Rattle.std.specs.List.{All, Contains}
use Rattle.std.specs.Str.{bytes_eq}
use Rattle.std.proofs.lemmas.Slice.Eq.{bytes_eq-Decides}
use Rattle.std.proofs.lemmas.List.Elements.{All-filter}
use Rattle.chess_types.specs.board.MoveParts.{MoveParts}
use Rattle.chess_types.specs.board.Texts.{move_text, IsPromotion}
use Rattle.chess_types.specs.board.Position.{PositionParts}
use Rattle.chess_types.specs.board.Legal.{is_legal, all_moves, legal_moves}
use Rattle.chess_types.specs.board.Lines.{Line, last, extended}
use Rattle.chess_types.proofs.AllMoves.{IsNamed, all_named}
use Rattle.chess_moves.proofs.LegalLaws.{moves_legal, legal_listed}
use Rattle.chess_draws.specs.declared.fault.LineFault.TheVariants.{Illegal, TooLong, Memory}
use Rattle.chess_draws.specs.Pushes.{push_answer, AnswersPush}
use Rattle.chess_draws.specs.declared.fault.LineFault.{LineFault}
use Rattle.chess_draws.specs.LineParts.{LineParts}
use Rattle.chess_uci.specs.declared.placing.PlaceFault.{PlaceFault}
use Rattle.chess_uci.specs.declared.placing.PlaceFault.TheVariants.{Refused, Memory as NoMemory}
use Rattle.chess_uci.specs.steps.Places.{Places, Begins}
use Rattle.chess_uci.specs.Placing.{long_move, line_with_move, line_with_word, line_played, begun_by, before_moves, after_moves, placed, spaced, names_fen, AddsMove, Grows}

-- each move whose text it is, is what was read of it
abbrev pub Complete : List ℕ → Option MoveParts → Type 0
Complete word read = (m : MoveParts) → m.from < 64 → m.to < 64 → IsPromotion m.promo → word ≡ move_text m → read ≡ Some m

find_none : (p : MoveParts → Bool) (ms : List MoveParts) → ((k : ℕ) (d : MoveParts) → k < length ms → p (get_or ms k d) ≡ true → ⊥) → find p ms ≡ None
find_none p [] h = refl
find_none p (m ∷ ms) h = cases (p m) refl (find_none p ms (λ k d l. h (suc k) d (omega arith)))
  where
    cases : (b : Bool) → p m ≡ b → find p ms ≡ None → find p (m ∷ ms) ≡ None
    cases true e rest = absurd (h 0 m (omega arith) e)
    cases false e rest = rw e rest

find_only : (p : MoveParts → Bool) (ms : List MoveParts) (m : MoveParts) → Contains ms m → p m ≡ true →
    ((k : ℕ) (d : MoveParts) → k < length ms → p (get_or ms k d) ≡ true → get_or ms k d ≡ m) → find p ms ≡ Some m
find_only p [] m (k, l, e) passes only = absurd (omega arith)
find_only p (x ∷ xs) m (zero, l, e) passes only = rw (ap p e ∙ passes) (ap (λ y. Some y) e)
find_only p (x ∷ xs) m (suc k, l, e) passes only = cases (p x) refl (find_only p xs m (k, omega arith, e) passes (λ j d h. only (suc j) d (omega arith)))
  where
    cases : (b : Bool) → p x ≡ b → find p xs ≡ Some m → find p (x ∷ xs) ≡ Some m
    cases true t rest = rw t (ap (λ y. Some y) (only 0 m (omega arith) t))
    cases false t rest = rw t rest

legal_named : (p : PositionParts) → All IsNamed (legal_moves p)
unfolding legal_moves
legal_named p = All-filter (is_legal p) IsNamed all_moves all_named

-- a legal move that the text names is what was read
the_read : (line : Line) (word : List ℕ) (read : Option MoveParts) → Complete word read → (k : ℕ) (d : MoveParts) → k < length (legal_moves (last line)) →
    bytes_eq word (move_text (get_or (legal_moves (last line)) k d)) ≡ true → read ≡ Some (get_or (legal_moves (last line)) k d)
the_read line word read complete k d l e =
    let n = get_or (legal_moves (last line)) k d in
    let named = legal_named (last line) k d l in
    complete n named.from named.to named.names ((bytes_eq-Decides word (move_text n)).0 e)

named_none : (line : Line) (word : List ℕ) → Complete word None → long_move line word ≡ None
named_none line word complete =
    find_none (λ n. bytes_eq word (move_text n)) (legal_moves (last line)) (λ k d l e. let clash = the_read line word None complete k d l e in cc)

named_legal : (line : Line) (word : List ℕ) (m : MoveParts) → Complete word (Some m) → word ≡ move_text m → m.from < 64 → m.to < 64 → is_legal (last line) m ≡ true →
    long_move line word ≡ Some m
named_legal line word m complete sound from to legal =
    find_only (λ n. bytes_eq word (move_text n)) (legal_moves (last line)) m
    (legal_listed (last line) m (record { from = from; to = to }) legal)
    ((bytes_eq-Decides word (move_text m)).1 sound)
    (λ k d l e. let same = the_read line word (Some m) complete k d l e in cc)

named_illegal : (line : Line) (word : List ℕ) (m : MoveParts) → Complete word (Some m) → is_legal (last line) m ≡ false → long_move line word ≡ None
named_illegal line word m complete illegal =
    find_none (λ n. bytes_eq word (move_text n)) (legal_moves (last line))
    (λ k d l e. let same = the_read line word (Some m) complete k d l e in let legal = moves_legal (last line) k d l in cc)

pub word_unread : (line : Line) (word : List ℕ) → Complete word None → line_with_word (Some line) word ≡ None
word_unread line word complete = ap (line_with_move line) (named_none line word complete)

pub word_played : (line now : Line) (word : List ℕ) (m : MoveParts) → Complete word (Some m) → word ≡ move_text m → m.from < 64 → m.to < 64 →
    push_answer line m ≡ Ok tt → now ≡ extended line m → line_with_word (Some line) word ≡ Some now
word_played line now word m complete sound from to pushed is = cases (is_legal (last line) m) (nat_le 20000 (length line.moves)) refl refl
  where
    cases : (b c : Bool) → is_legal (last line) m ≡ b → nat_le 20000 (length line.moves) ≡ c → line_with_word (Some line) word ≡ Some now
    cases false c e f = let clash = rw e at pushed in cc
    cases true true e f = let clash = rw (e, f) at pushed in cc
    cases true false e f = ap (line_with_move line) (named_legal line word m complete sound from to e) ∙ rw f (ap (λ x. Some x) (sym is))

pub word_illegal : (line : Line) (word : List ℕ) (m : MoveParts) → Complete word (Some m) → push_answer line m ≡ Err Illegal → line_with_word (Some line) word ≡ None
word_illegal line word m complete pushed = cases (is_legal (last line) m) (nat_le 20000 (length line.moves)) refl refl
  where
    cases : (b c : Bool) → is_legal (last line) m ≡ b → nat_le 20000 (length line.moves) ≡ c → line_with_word (Some line) word ≡ None
    cases false c e f = ap (line_with_move line) (named_illegal line word m complete e)
    cases true true e f = let clash = rw (e, f) at pushed in cc
    cases true false e f = let clash = rw (e, f) at pushed in cc

pub word_too_long : (line : Line) (word : List ℕ) (m : MoveParts) → Complete word (Some m) → word ≡ move_text m → m.from < 64 → m.to < 64 →
    push_answer line m ≡ Err TooLong → line_with_word (Some line) word ≡ None
word_too_long line word m complete sound from to pushed = cases (is_legal (last line) m) (nat_le 20000 (length line.moves)) refl refl
  where
    cases : (b c : Bool) → is_legal (last line) m ≡ b → nat_le 20000 (length line.moves) ≡ c → line_with_word (Some line) word ≡ None
    cases false c e f = let clash = rw e at pushed in cc
    cases true true e f = ap (line_with_move line) (named_legal line word m complete sound from to e) ∙ rw f refl
    cases true false e f = let clash = rw (e, f) at pushed in cc

-- where there is no line, no word leads to one
pub played_none : (words : List (List ℕ)) → line_played None words ≡ None
played_none [] = refl
played_none (word ∷ words) = played_none words

-- what a push answers, where memory isn't refused
pub pushed_ok : (old : LineParts) (m : MoveParts) → AnswersPush old m (Ok tt) → push_answer old.line m ≡ Ok tt
pushed_ok old m answer = ⊎_elim (λ e. sym e) (λ h. h.0) answer

pub pushed_refused : (old : LineParts) (m : MoveParts) (fault : LineFault) → AnswersPush old m (Err fault) → (fault ≡ Memory → ⊥) → push_answer old.line m ≡ Err fault
pushed_refused old m fault answer other = ⊎_elim (λ e. sym e) (λ h. let clash = h.1 in absurd (other cc)) answer

no_memory : (line : Line) (m : MoveParts) → Err Memory ≡ push_answer line m → ⊥
no_memory line m told = cases (is_legal (last line) m) (nat_le 20000 (length line.moves)) refl refl
  where
    cases : (b c : Bool) → is_legal (last line) m ≡ b → nat_le 20000 (length line.moves) ≡ c → ⊥
    cases false c e f = let clash = rw e at told in cc
    cases true true e f = let clash = rw (e, f) at told in cc
    cases true false e f = let clash = rw (e, f) at told in cc

-- a push that finds no memory would add a legal move, within the limit
pub word_grows : (old : LineParts) (word : List ℕ) (m : MoveParts) → Complete word (Some m) → word ≡ move_text m → m.from < 64 → m.to < 64 →
    AnswersPush old m (Err Memory) → is_some (line_with_word (Some old.line) word) ≡ true
word_grows old word m complete sound from to answer =
    let pushed : push_answer old.line m ≡ Ok tt = ⊎_elim (λ e. absurd (no_memory old.line m e)) (λ h. h.0) answer in
    ap is_some (word_played old.line (extended old.line m) word m complete sound from to pushed refl)

played_append : (begun : Option Line) (done others : List (List ℕ)) → line_played begun (done ++ others) ≡ line_played (line_played begun done) others
played_append begun [] others = refl
played_append begun (word ∷ done) others = played_append (line_with_word begun word) done others

-- So far: the words up to the rest are played.
pub record PlayedTo (start now : Line) (all rest : List (List ℕ)) : Type 0 where
  pub done : List (List ℕ)
  pub whole : all ≡ done ++ rest
  pub played : line_played (Some start) done ≡ Some now

pub played_start : (start : Line) (all : List (List ℕ)) → PlayedTo start start all all
played_start start all = record { done = []; whole = refl; played = refl }

-- with a word more
played_with : (start now : Line) (word : List ℕ) (done : List (List ℕ)) → line_played (Some start) done ≡ Some now →
    line_played (Some start) (done ++ word ∷ []) ≡ line_with_word (Some now) word
played_with start now word done played = played_append (Some start) done (word ∷ []) ∙ ap (λ l. line_with_word l word) played

pub played_on : (start now next : Line) (word : List ℕ) (all rest others : List (List ℕ)) → PlayedTo start now all rest → rest ≡ word ∷ others → line_with_word (Some now) word ≡ Some next →
    PlayedTo start next all others
played_on start now next word all rest others so_far first one = record {
  done = so_far.done ++ word ∷ [];
  whole = so_far.whole ∙ ap (λ ws. so_far.done ++ ws) first ∙ sym (append_assoc so_far.done (word ∷ []) others);
  played = played_with start now word so_far.done so_far.played ∙ one;
}

pub played_all : (start now : Line) (all rest : List (List ℕ)) → PlayedTo start now all rest → rest ≡ [] → line_played (Some start) all ≡ Some now
played_all start now all rest so_far none =
    ap (line_played (Some start)) (so_far.whole ∙ ap (λ ws. so_far.done ++ ws) none ∙ append-nil so_far.done) ∙ so_far.played

-- a word that leads to no line, or finds no memory: so do the words from it on
pub words_refused : (X Y : Type 0) (start now later last : Line) (word : List ℕ) (all rest others : List (List ℕ)) (fault : PlaceFault) → PlayedTo start now all rest → rest ≡ word ∷ others →
    Places {X = X} (is_some (line_with_word (Some now) word) ≡ true) (line_with_word (Some now) word) later (Err fault) → Places {X = Y} (AddsMove (Some start) all) (line_played (Some start) all) last (Err fault)
words_refused X Y start now later last word all rest others Refused so_far first none =
    ap (line_played (Some start)) (so_far.whole ∙ ap (λ ws. so_far.done ++ ws) first) ∙ played_append (Some start) so_far.done (word ∷ others)
    ∙ ap (λ l. line_played l (word ∷ others)) so_far.played ∙ ap (λ l. line_played l others) none ∙ played_none others
words_refused X Y start now later last word all rest others NoMemory so_far first grows = record {
  done = so_far.done;
  word = word;
  others = others;
  whole = so_far.whole ∙ ap (λ ws. so_far.done ++ ws) first;
  legal = ap is_some (played_with start now word so_far.done so_far.played) ∙ grows;
}

-- and where the line doesn't begin
pub beginning_refused : (words : List (List ℕ)) (fault : PlaceFault) → Begins (names_fen (before_moves words) ≡ true) (begun_by (before_moves words)) (Err fault) → Begins (Grows words) (placed words) (Err fault)
beginning_refused words Refused none = ap (λ l. line_played l (after_moves words)) none ∙ played_none (after_moves words)
beginning_refused words NoMemory grows = inl grows

-- and where its moves lead to none
pub playing_refused : (X : Type 0) (words moves : List (List ℕ)) (line later : Line) (fault : PlaceFault) → begun_by (before_moves words) ≡ Some line → moves ≡ after_moves words →
    Places {X = X} (AddsMove (Some line) moves) (line_played (Some line) moves) later (Err fault) → Begins (Grows words) (placed words) (Err fault)
playing_refused X words moves line later Refused begun is none = ap (λ l. line_played l (after_moves words)) begun ∙ ap (line_played (Some line)) (sym is) ∙ none
playing_refused X words moves line later NoMemory begun is adds = inr (rw (begun, ← is) adds)

-- a word of a FEN
pub fen_grows : (text word : List ℕ) (words others : List (List ℕ)) → text ++ spaced (word ∷ others) ≡ spaced words → names_fen (codes "fen" ∷ words) ≡ true
fen_grows text word [] others same =
    let some : length text + (length word + (1 + length (spaced others))) ≡ 0 =
    sym (length-append text (spaced (word ∷ others)) ∙ ap (λ n. length text + n) (length-append (word ++ codes " ") (spaced others) ∙ ap (λ n. n + length (spaced others)) (length-append word (codes " ")))
    ∙ omega arith) ∙ ap length same in
    absurd (omega (arith, some))
fen_grows text word (x ∷ words) others same = refl
