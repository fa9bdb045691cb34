-- Games that are written one after the other are read one after another.
use Rattle.std.proofs.Common.{◌≡◌, ℕ, ◌+◌, ◌≤◌, List, [], ◌∷◌, ◌++◌, length, length-append, refl, sym, ap, ◌∙◌, append_assoc, append-nil, arith}
use Rattle.std.specs.List.{AllByRecursion}
use Rattle.chess_items.specs.Items.{Blank, Each, is_blank}
use Rattle.chess_pgn.specs.Games.{Game}
use Rattle.chess_pgn.specs.Laws.{ReadIsGame, WrittenIsRead}
use Rattle.chess_pgn.specs.Layout.{in_lines}
use Rattle.chess_pgn.specs.Reading.{IsWhite}
use Rattle.chess_pgn.specs.Written.{game_text, movetext, tags_text}
use Rattle.chess_cli.specs.Collections.{AreGames, games_text}
use Rattle.chess_cli.specs.Laws.{CanBeRead, ReadAreGames, WrittenAreRead}

-- what is left after games with that before them
abbrev left_behind : List ℕ → List Game → List ℕ
left_behind before [] = before
left_behind before (game ∷ games) = left_behind (10 ∷ 10 ∷ []) games

-- up to its marker
abbrev up_to_marker : Game → List ℕ
up_to_marker game = tags_text game.tags game.outcome game.tree.start ++ 10 ∷ in_lines (movetext game.tree game.outcome)

marked : (game : Game) → game_text game ≡ up_to_marker game ++ 10 ∷ 10 ∷ []
marked game = sym (append_assoc (tags_text game.tags game.outcome game.tree.start) (10 ∷ in_lines (movetext game.tree game.outcome)) (10 ∷ 10 ∷ []))

feeds : Each is_blank (10 ∷ 10 ∷ [])
unfolding is_blank
feeds = (refl, (refl, tt))

parted : (before prefix rest whole : List ℕ) → whole ≡ prefix ++ 10 ∷ 10 ∷ [] → before ++ (whole ++ rest) ≡ (before ++ prefix) ++ ((10 ∷ 10 ∷ []) ++ rest)
parted before prefix rest whole e = ap (λ (x : List ℕ). before ++ (x ++ rest)) e ∙ ap (λ (x : List ℕ). before ++ x) (append_assoc prefix (10 ∷ 10 ∷ []) rest) ∙ sym (append_assoc before prefix ((10 ∷ 10 ∷ []) ++ rest))

counted : (before prefix whole : List ℕ) → whole ≡ prefix ++ 10 ∷ 10 ∷ [] → length (before ++ prefix) + 2 ≡ length (before ++ whole)
counted before prefix whole e = omega (arith, ap length e, length-append before prefix, length-append before whole, length-append prefix (10 ∷ 10 ∷ []))

games_again : WrittenIsRead → (games : List Game) (before : List ℕ) → Each is_blank before → length before ≤ 2 → AllByRecursion CanBeRead games → AreGames (before ++ games_text games) games (left_behind before games)
games_again law [] before white short all = append-nil before
games_again law (game ∷ games) before white short all =
    let e = marked game in
    let n = counted before (up_to_marker game) (game_text game) e in (
      before ++ up_to_marker game,
      (10 ∷ 10 ∷ []) ++ games_text games,
      parted before (up_to_marker game) (games_text games) (game_text game) e,
      law game all.0.0.0 all.0.0.1 before (games_text games) (length (before ++ up_to_marker game)) white n (omega (arith, n, short, all.0.1, length-append before (game_text game))),
      games_again law games (10 ∷ 10 ∷ []) feeds (omega arith) all.1,
    )

two_feeds : IsWhite (10 ∷ 10 ∷ [])
unfolding is_blank
two_feeds = record { items = Blank 10 ∷ Blank 10 ∷ []; white = refl; spelled = (10 ∷ [], 10 ∷ [], refl, record { stands = refl; spelled = (refl, refl) }, (10 ∷ [], [], refl, record { stands = refl; spelled = (refl, refl) }, refl)) }

white_left : (games : List Game) (before : List ℕ) → IsWhite before → IsWhite (left_behind before games)
white_left [] before white = white
white_left (game ∷ games) before white = white_left games (10 ∷ 10 ∷ []) two_feeds

nothing_white : IsWhite []
nothing_white = record { items = []; white = refl; spelled = refl }

pub written_are_read : WrittenIsRead → WrittenAreRead
written_are_read law games all = (left_behind [] games, white_left games [] nothing_white, games_again law games [] tt (omega arith) all)

pub read_are_games : ReadIsGame → ReadAreGames
read_are_games law input [] rest are = tt
read_are_games law input (game ∷ games) rest are = (law input game (length are.0) are.3, read_are_games law are.1 games rest are.4)
