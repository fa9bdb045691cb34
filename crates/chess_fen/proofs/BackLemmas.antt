-- What is written of a position is read back.
use Rattle.std.proofs.Common.{◌≡◌, ℕ, zero, suc, ◌+◌, ◌<◌, ◌≤◌, max, Bool, true, false, ◌&&◌, List, [], ◌∷◌, get_or, map, Option, Some, None, Ok, refl, sym, ap, ◌∙◌, inl, inr, arith}
use Rattle.std.specs.Prelude.{bytes_eq, codes, decimal}
use Rattle.std.specs.List.{AllByRecursion, range_with_len, list_any}
use Rattle.std.specs.Str.Parse.{AllDigits}
use Rattle.std.proofs.lemmas.Bool.{and_from, and_left, and_right, eq-eqb, le-leb, cases_lt, cases_Bool}
use Rattle.std.proofs.lemmas.Bool.Decides.{nat_tests}
use Rattle.std.proofs.lemmas.Fmt.{decimal_is_IsNumeral}
use Rattle.std.proofs.lemmas.List.{get_or_past}
use Rattle.std.proofs.lemmas.List.FromFn.{get_or-map-range_with_len, length-map-range_with_len}
use Rattle.std.proofs.lemmas.Str.Parse.{digit_from_value}
use Rattle.chess_types.specs.declared.board.man.Colour.{Colour}
use Rattle.chess_types.specs.declared.board.man.Colour.TheVariants.{White, Black}
use Rattle.chess_types.specs.declared.board.man.Kind.TheVariants.{King, Rook}
use Rattle.chess_types.specs.declared.board.position.Rights.{Rights}
use Rattle.chess_types.specs.declared.board.position.Wing.{Wing}
use Rattle.chess_types.specs.declared.board.position.Wing.TheVariants.{KingSide, QueenSide}
use Rattle.chess_types.specs.board.Squares.{squares}
use Rattle.chess_types.specs.board.Board.{Board, Men, man_at}
use Rattle.chess_types.specs.board.Cells.{board_of}
use Rattle.chess_types.specs.board.Men.{holds_pawn, is_man}
use Rattle.chess_types.specs.board.Position.{PositionParts, IsSetup, is_explained, IsWellFormed, man_on, holds}
use Rattle.chess_types.specs.board.Texts.{square_text}
use Rattle.chess_types.proofs.BoardLaws.{same_board}
use Rattle.chess_types.proofs.CellLemmas.{get-board_of}
use Rattle.chess_types.proofs.SameLemmas.{is_man-own}
use Rattle.chess_types.proofs.TargetLemmas.{explained_inside}
use Rattle.chess_fen.specs.Reading.{fields_in, board_in, has_one_king_each, has_at_most_16_each, has_pawn_on_edge, is_edge, side_in, castling_in, is_home, kept_rights, target_in, kept_target, fen_reading}
use Rattle.chess_fen.specs.Writing.{placement_text, side_text, right_text, or_dash, rights_text, target_text, written}
use Rattle.chess_fen.proofs.FieldLemmas.{square_named, counter_written}
use Rattle.chess_fen.proofs.PartLemmas.{Above, Above-append, IsWord, words-joined}
use Rattle.chess_fen.proofs.PlacementLemmas.{board_cells-text, placement_text-word}

-- men stand on the 64 squares alone
abbrev pub IsOnBoard : Board → Type 0
IsOnBoard board = (s : ℕ) → 64 ≤ s → man_at board s ≡ None

read_at : (man_on : Men) (n q : ℕ) → ((s : ℕ) → n ≤ s → man_on s ≡ None) → get_or (map man_on (range_with_len 0 n)) q None ≡ man_on q
read_at man_on n q off = elim (cases_lt q n) [
  | inl low ↦ get_or-map-range_with_len man_on 0 n q q None low (omega arith)
  | inr high ↦ get_or_past (map man_on (range_with_len 0 n)) q None (omega (arith, length-map-range_with_len man_on 0 n)) ∙ sym (off q high)
]

board_of-squares : (board : Board) → IsOnBoard board → board_of (map (man_at board) squares) ≡ board
unfolding squares
board_of-squares board on = same_board (board_of (map (man_at board) (range_with_len 0 64))) board (λ q. get-board_of (map (man_at board) (range_with_len 0 64)) q ∙ read_at (man_at board) 64 q on)

none_in : (p : ℕ → Bool) (a n : ℕ) → ((t : ℕ) → a ≤ t → t < a + n → p t ≡ false) → list_any p (range_with_len a n) ≡ false
none_in p a zero h = refl
none_in p a (suc n) h =
    let here : p a ≡ false = h a (omega arith) (omega arith) in
    rw here (none_in p (a + 1) n (λ t low high. h t (omega arith) (omega arith)))

module _ (p : PositionParts) (setup : IsSetup p) where
  one_king_each : has_one_king_each p.placement ≡ true
  one_king_each = and_from _ _ (eq-eqb _ _ (setup.kings White)) (eq-eqb _ _ (setup.kings Black))

  at_most_16_each : has_at_most_16_each p.placement ≡ true
  at_most_16_each = and_from _ _ (le-leb _ _ (setup.few White)) (le-leb _ _ (setup.few Black))

  inner : (s : ℕ) → s < 64 → (is_edge s && holds_pawn (man_on p s)) ≡ false
  inner s low = elim (cases_Bool (holds_pawn (man_on p s))) [
    | inl pawn ↦ let ranks = setup.pawns s low pawn in let other : is_edge s ≡ false = grind (arith, nat_tests, ranks) in and_left (is_edge s) _ other
    | inr other ↦ and_right (is_edge s) _ other
  ]

  no_pawn_on_edge : has_pawn_on_edge (man_on p) ≡ false
  unfolding squares
  no_pawn_on_edge = none_in (λ s. is_edge s && holds_pawn (man_on p s)) 0 64 (λ s low high. inner s (omega arith))

  board_back : IsOnBoard p.placement → board_in (placement_text (man_on p)) ≡ Ok p.placement
  unfolding board_in
  board_back on =
      rw (board_cells-text (man_on p), board_of-squares p.placement on, one_king_each, no_pawn_on_edge, at_most_16_each) refl

side_back : (side : Colour) → side_in (side_text side) ≡ Ok side
unfolding side_in
side_back White = refl
side_back Black = refl

castling_back : (a b c d : Bool) → (let rights : Rights = record { white_king = a; white_queen = b; black_king = c; black_queen = d } in castling_in (rights_text rights) ≡ Ok rights)
unfolding castling_in rights_text
castling_back true true true true = refl
castling_back true true true false = refl
castling_back true true false true = refl
castling_back true true false false = refl
castling_back true false true true = refl
castling_back true false true false = refl
castling_back true false false true = refl
castling_back true false false false = refl
castling_back false true true true = refl
castling_back false true true false = refl
castling_back false true false true = refl
castling_back false true false false = refl
castling_back false false true true = refl
castling_back false false true false = refl
castling_back false false false true = refl
castling_back false false false false = refl

rights_back : (rights : Rights) → castling_in (rights_text rights) ≡ Ok rights
rights_back rights = castling_back rights.white_king rights.white_queen rights.black_king rights.black_queen

no_dash : (s : ℕ) → bytes_eq (square_text s) (codes "-") ≡ false
no_dash s = and_right _ _ refl

target_back : (target : Option ℕ) → ((t : ℕ) → target ≡ Some t → t < 64) → target_in (target_text target) ≡ Ok target
unfolding target_in target_text
target_back None inside = refl
target_back (Some t) inside = rw (no_dash t, square_named (square_text t) t (inside t refl) refl) refl

target_kept : (side : Colour) (man_on : Men) (target : Option ℕ) → ((t : ℕ) → target ≡ Some t → is_explained side man_on t ≡ true) → kept_target side man_on target ≡ target
unfolding kept_target
target_kept side man_on None explained = refl
target_kept side man_on (Some t) explained = rw (explained t refl) refl

-- a right that is held has its king and rook at home
held_kept : (held home : Bool) → (held ≡ true → home ≡ true) → (held && home) ≡ held
held_kept true home h = h refl
held_kept false home h = refl

module _ (p : PositionParts) (setup : IsSetup p) where
  home : (colour : Colour) (wing : Wing) → holds p.rights colour wing ≡ true → is_home (man_on p) colour wing ≡ true
  home colour wing held =
      and_from _ _ (ap (λ cell. is_man cell colour King) (setup.king_at_home colour wing held) ∙ is_man-own colour King)
      (ap (λ cell. is_man cell colour Rook) (setup.rook_at_home colour wing held) ∙ is_man-own colour Rook)

  rights_kept : kept_rights (man_on p) p.rights ≡ p.rights
  unfolding kept_rights
  rights_kept =
      let white_king = held_kept p.rights.white_king (is_home (man_on p) White KingSide) (home White KingSide) in
      let white_queen = held_kept p.rights.white_queen (is_home (man_on p) White QueenSide) (home White QueenSide) in
      let black_king = held_kept p.rights.black_king (is_home (man_on p) Black KingSide) (home Black KingSide) in
      let black_queen = held_kept p.rights.black_queen (is_home (man_on p) Black QueenSide) (home Black QueenSide) in
      λ i. record { white_king = white_king i; white_queen = white_queen i; black_king = black_king i; black_queen = black_queen i }

-- the texts are words
side_text-word : (side : Colour) → IsWord (side_text side)
side_text-word White = (omega arith, (omega arith, tt))
side_text-word Black = (omega arith, (omega arith, tt))

right_text-above : (held : Bool) (letter : ℕ) → 32 < letter → Above 32 (right_text held letter)
right_text-above true letter high = (high, tt)
right_text-above false letter high = tt

or_dash-word : (letters : List ℕ) → Above 32 letters → IsWord (or_dash letters)
or_dash-word [] high = (omega arith, (omega arith, tt))
or_dash-word (letter ∷ letters) high = (omega arith, high)

rights_text-word : (rights : Rights) → IsWord (rights_text rights)
unfolding rights_text
rights_text-word rights =
    let king = right_text-above rights.white_king 75 (omega arith) in
    let queen = right_text-above rights.white_queen 81 (omega arith) in
    let other_king = right_text-above rights.black_king 107 (omega arith) in
    let other_queen = right_text-above rights.black_queen 113 (omega arith) in
    or_dash-word _ (Above-append 32 _ _ (Above-append 32 _ _ (Above-append 32 _ _ king queen) other_king) other_queen)

target_text-word : (target : Option ℕ) → IsWord (target_text target)
unfolding target_text
target_text-word None = (omega arith, (omega arith, tt))
target_text-word (Some t) = (omega arith, (omega arith, (omega arith, tt)))

digits-above : (digits : List ℕ) → AllDigits 10 digits → Above 32 digits
digits-above [] all = tt
digits-above (digit ∷ digits) all = let range = digit_from_value digit all.0 in (omega arith, digits-above digits all.1)

decimal-word : (n : ℕ) → n ≤ 99999 → IsWord (decimal n)
decimal-word n small = let numeral = decimal_is_IsNumeral n (omega arith) in (numeral.0.0, digits-above (decimal n) numeral.0.1)

module _ (p : PositionParts) (clock : p.clock ≤ 99999) (number : p.number ≤ 99999) where
  fields_back : fields_in (written p) ≡ Ok (record {
    placement = placement_text (man_on p);
    side = side_text p.side;
    castling = rights_text p.rights;
    target = target_text p.target;
    clock = decimal p.clock;
    number = decimal p.number;
  })
  unfolding fields_in written
  fields_back =
      let texts : List (List ℕ) = placement_text (man_on p) ∷ side_text p.side ∷ rights_text p.rights ∷ target_text p.target ∷ decimal p.clock ∷ decimal p.number ∷ [] in
      let are_words : AllByRecursion IsWord texts =
      (placement_text-word (man_on p), (side_text-word p.side, (rights_text-word p.rights, (target_text-word p.target, (decimal-word p.clock clock, (decimal-word p.number number, tt)))))) in
      rw (words-joined texts are_words) refl

  pub read_back : IsWellFormed p → IsOnBoard p.placement → fen_reading (written p) ≡ Ok p
  unfolding fen_reading
  read_back well on =
      let target = target_back p.target (λ t is. explained_inside p.side (man_on p) t (well.setup.target t is)) in
      let kept = target_kept p.side (man_on p) p.target well.setup.target in
      let counted : max p.number 1 ≡ p.number = omega (arith, well.setup.number) in
      rw (
        fields_back,
        board_back p well.setup on,
        side_back p.side,
        rights_back p.rights,
        target,
        counter_written p.clock clock,
        counter_written p.number number,
        well.quiet,
        rights_kept p well.setup,
        kept,
        counted,
      ) refl
