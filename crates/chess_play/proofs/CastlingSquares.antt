-- The squares of castling, and what a castling move says (FIDE Laws, article 3.8.2).
use Rattle.std.proofs.Common.{◌≡◌, ◌≢◌, ℕ, ◌<◌, ◌≤◌, Bool, true, false, not, ◌==◌, ◌&&◌, None, is_none, refl, sym, ap, ◌∙◌, arith, ◌⊎◌, inl, inr}
use Rattle.std.proofs.lemmas.Bool.{and_parts, eqb-true, eq-eqb, true≢false}
use Rattle.chess_types.specs.declared.board.man.Colour.{Colour}
use Rattle.chess_types.specs.declared.board.man.Colour.TheVariants.{White, Black}
use Rattle.chess_types.specs.declared.board.position.Wing.{Wing}
use Rattle.chess_types.specs.declared.board.position.Wing.TheVariants.{KingSide, QueenSide}
use Rattle.chess_types.specs.board.Squares.{rank_of, is_between, squares}
use Rattle.chess_types.specs.board.Board.{Men}
use Rattle.chess_types.specs.board.MoveParts.{MoveParts}
use Rattle.chess_types.specs.board.Attack.{is_clear}
use Rattle.chess_types.specs.board.Position.{PositionParts, man_on, king_home, rook_home, holds}
use Rattle.chess_types.specs.board.Pseudo.{crossed, reached, castles_to, castles}
use Rattle.chess_play.specs.Castling.{is_way_free, may_castle}
use Rattle.chess_attack.proofs.Clear.{clear_at}

-- on rank 1 or 8
abbrev pub OnEdge : ℕ → Type 0
OnEdge q = (rank_of q ≡ 0) ⊎ (rank_of q ≡ 7)

-- the king's home is on rank 1 or 8
pub king_edge : (c : Colour) → OnEdge (king_home c)
king_edge White = inl refl
king_edge Black = inr refl

-- so is the rook's home
pub rook_edge : (c : Colour) (w : Wing) → OnEdge (rook_home c w)
rook_edge White KingSide = inl refl
rook_edge White QueenSide = inl refl
rook_edge Black KingSide = inr refl
rook_edge Black QueenSide = inr refl

-- the rook's home is on the board
pub rook_inside : (c : Colour) (w : Wing) → rook_home c w < 64
rook_inside White KingSide = omega arith
rook_inside White QueenSide = omega arith
rook_inside Black KingSide = omega arith
rook_inside Black QueenSide = omega arith

-- so is the square that the king crosses
pub crossed_inside : (c : Colour) (w : Wing) → crossed c w < 64
crossed_inside White KingSide = omega arith
crossed_inside White QueenSide = omega arith
crossed_inside Black KingSide = omega arith
crossed_inside Black QueenSide = omega arith

reached_inside : (c : Colour) (w : Wing) → reached c w < 64
reached_inside White KingSide = omega arith
reached_inside White QueenSide = omega arith
reached_inside Black KingSide = omega arith
reached_inside Black QueenSide = omega arith

-- the king's home, the rook's, the square crossed and the square reached are four squares
pub record Apart (c : Colour) (w : Wing) : Type 0 where
  pub king_reached : king_home c ≢ reached c w
  pub rook_king : rook_home c w ≢ king_home c
  pub rook_reached : rook_home c w ≢ reached c w
  pub rook_crossed : rook_home c w ≢ crossed c w
  pub crossed_reached : crossed c w ≢ reached c w
  pub crossed_king : crossed c w ≢ king_home c
  pub crossed_edge : OnEdge (crossed c w)

-- four numbers that differ
abbrev are_four : (king rook crossed reached : ℕ) → Bool
are_four king rook crossed reached =
    not (king == reached) && not (rook == king) && not (rook == reached) && not (rook == crossed) && not (crossed == reached) && not (crossed == king)

four_squares : (c : Colour) (w : Wing) → are_four (king_home c) (rook_home c w) (crossed c w) (reached c w) ≡ true
four_squares White KingSide = refl
four_squares White QueenSide = refl
four_squares Black KingSide = refl
four_squares Black QueenSide = refl

crossed_on_edge : (c : Colour) (w : Wing) → OnEdge (crossed c w)
crossed_on_edge White KingSide = inl refl
crossed_on_edge White QueenSide = inl refl
crossed_on_edge Black KingSide = inr refl
crossed_on_edge Black QueenSide = inr refl

differ : (a b : ℕ) → not (a == b) ≡ true → a ≢ b
differ a b h e = true≢false (sym h ∙ ap not (eq-eqb _ _ e))

-- they are, and the square crossed is on rank 1 or 8
pub apart : (c : Colour) (w : Wing) → Apart c w
apart c w =
    let a = and_parts _ _ (four_squares c w) in
    let b = and_parts _ _ a.0 in
    let d = and_parts _ _ b.0 in
    let e = and_parts _ _ d.0 in
    let f = and_parts _ _ e.0 in
    record {
      king_reached = differ _ _ f.0;
      rook_king = differ _ _ f.1;
      rook_reached = differ _ _ e.1;
      rook_crossed = differ _ _ d.1;
      crossed_reached = differ _ _ b.1;
      crossed_king = differ _ _ a.1;
      crossed_edge = crossed_on_edge c w;
    }

-- the homes of one side are none of the squares of the other
pub record Elsewhere (c d : Colour) (w v : Wing) : Type 0 where
  pub king_rook : king_home c ≢ rook_home d v
  pub king_crossed : king_home c ≢ crossed d v
  pub rook_rook : rook_home c w ≢ rook_home d v
  pub rook_crossed : rook_home c w ≢ crossed d v

low_home : (w : Wing) → (king_home White < 8) × (rook_home White w < 8) × (crossed White w < 8)
low_home KingSide = (omega arith, omega arith, omega arith)
low_home QueenSide = (omega arith, omega arith, omega arith)

high_home : (w : Wing) → (8 ≤ king_home Black) × (8 ≤ rook_home Black w) × (8 ≤ crossed Black w)
high_home KingSide = (omega arith, omega arith, omega arith)
high_home QueenSide = (omega arith, omega arith, omega arith)

-- so it is for two colours that differ
pub elsewhere : (c d : Colour) (w v : Wing) → (c ≡ d → ⊥) → Elsewhere c d w v
elsewhere White White w v ne = absurd (ne refl)
elsewhere Black Black w v ne = absurd (ne refl)
elsewhere White Black w v ne =
    let low = low_home w in
    let high = high_home v in
    record { king_rook = λ e. omega arith; king_crossed = λ e. omega arith; rook_rook = λ e. omega arith; rook_crossed = λ e. omega arith }
elsewhere Black White w v ne =
    let low = low_home v in
    let high = high_home w in
    record { king_rook = λ e. omega arith; king_crossed = λ e. omega arith; rook_rook = λ e. omega arith; rook_crossed = λ e. omega arith }

-- the square reached gives the wing
pub same_wing : (c : Colour) (w v : Wing) → reached c w ≡ reached c v → w ≡ v
same_wing c KingSide KingSide e = refl
same_wing c QueenSide QueenSide e = refl
same_wing White _ _ e = absurd (omega arith)
same_wing Black _ _ e = absurd (omega arith)

-- the squares crossed and reached are between the king's home and the rook's
both_between :
    (c : Colour) (w : Wing) →
    (is_between (king_home c) (rook_home c w) (crossed c w) ≡ true) × (is_between (king_home c) (rook_home c w) (reached c w) ≡ true)
unfolding is_between
both_between White KingSide = (refl, refl)
both_between White QueenSide = (refl, refl)
both_between Black KingSide = (refl, refl)
both_between Black QueenSide = (refl, refl)

-- from where and to where the king goes
pub castles_where : (c : Colour) (w : Wing) (m : MoveParts) → castles_to c w m ≡ true → (m.from ≡ king_home c) × (m.to ≡ reached c w)
castles_where c w m h = let q = and_parts _ _ h in (eqb-true _ _ q.0, eqb-true _ _ q.1)

-- what a move that castles says of the board
pub record IsCastling (p : PositionParts) (w : Wing) (m : MoveParts) : Type 0 where
  pub from : m.from ≡ king_home p.side
  pub to : m.to ≡ reached p.side w
  pub right : holds p.rights p.side w ≡ true
  pub clear : is_clear (man_on p) (king_home p.side) (rook_home p.side w) ≡ true

-- the tests of castling, read
pub castling_parts : (p : PositionParts) (w : Wing) (m : MoveParts) → castles p w m ≡ true → IsCastling p w m
castling_parts p w m h =
    let a = and_parts _ _ h in
    let b = and_parts _ _ a.0 in
    let c = and_parts _ _ b.0 in
    let d = and_parts _ _ c.0 in
    let e = and_parts _ _ d.0 in
    let f = castles_where p.side w m e.0 in
    record { from = f.0; to = f.1; right = e.1; clear = d.1 }

-- the square that the king crosses is empty
pub crossed_free : (p : PositionParts) (w : Wing) (m : MoveParts) → IsCastling p w m → man_on p (crossed p.side w) ≡ None
crossed_free p w m h =
    clear_at (man_on p) (king_home p.side) (rook_home p.side w) (crossed p.side w) h.clear (crossed_inside p.side w) (both_between p.side w).0

-- and the one that it reaches
pub reached_free : (p : PositionParts) (w : Wing) (m : MoveParts) → IsCastling p w m → man_on p (reached p.side w) ≡ None
reached_free p w m h =
    clear_at (man_on p) (king_home p.side) (rook_home p.side w) (reached p.side w) h.clear (reached_inside p.side w) (both_between p.side w).1

two : (a b : Bool) → (a && (b && true)) ≡ (a && b)
two true true = refl
two true false = refl
two false b = refl

three : (a b c : Bool) → (a && (b && (c && true))) ≡ ((a && b) && c)
three true true true = refl
three true true false = refl
three true false c = refl
three false b c = refl

-- the squares between the king's home and the rook's are these
pub way_is : (men : Men) (c : Colour) (w : Wing) → is_clear men (king_home c) (rook_home c w) ≡ is_way_free men c w
unfolding is_clear is_between squares
way_is men White KingSide = two (is_none (men 5)) (is_none (men 6))
way_is men White QueenSide = three (is_none (men 1)) (is_none (men 2)) (is_none (men 3))
way_is men Black KingSide = two (is_none (men 61)) (is_none (men 62))
way_is men Black QueenSide = three (is_none (men 57)) (is_none (men 58)) (is_none (men 59))

-- castling by its squares, and by all else
pub castles_is : (p : PositionParts) (w : Wing) (m : MoveParts) → castles p w m ≡ (castles_to p.side w m && may_castle p w)
castles_is p w m = rw (way_is (man_on p) p.side w) (join (castles_to p.side w m) _ _ _ _ _)
  where
    join : (a b c d e f : Bool) → (((((a && b) && c) && d) && e) && f) ≡ (a && ((((b && c) && d) && e) && f))
    join true b c d e f = refl
    join false b c d e f = refl
