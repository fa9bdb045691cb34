-- The board seen from the other side: ranks turned round, colours exchanged.
use Rattle.std.proofs.Common.{◌≡◌, ℕ, ◌<◌, ◌==◌, Bool, not, ◌&&◌, ◌||◌, Option, Some, None, refl, sym, ap, subst, ◌∙◌, arith, inl, inr}
use Rattle.std.specs.FinMap.{remove}
use Rattle.std.proofs.lemmas.Bool.{cases_Bool}
use Rattle.std.proofs.lemmas.Bool.Decides.{nat_tests}
use Rattle.chess_types.specs.declared.board.axis.Axis.{Axis}
use Rattle.chess_types.specs.declared.board.axis.Axis.TheVariants.{Rank}
use Rattle.chess_types.specs.declared.board.man.Colour.{Colour}
use Rattle.chess_types.specs.declared.board.man.Colour.TheVariants.{White, Black}
use Rattle.chess_types.specs.declared.board.man.Man.{Man}
use Rattle.chess_types.specs.declared.board.position.Rights.{Rights}
use Rattle.chess_types.specs.declared.board.position.Wing.{Wing}
use Rattle.chess_types.specs.declared.board.position.Wing.TheVariants.{KingSide, QueenSide}
use Rattle.chess_types.specs.board.Board.{Men, man_at}
use Rattle.chess_types.specs.board.Squares.{rank_of, is_between_on, squares}
use Rattle.chess_types.specs.board.Men.{opponent, is_king, same_colour}
use Rattle.chess_types.specs.board.MoveParts.{MoveParts}
use Rattle.chess_types.specs.board.Attack.{leaps, slides, slides_to, is_clear, is_attacked, in_check}
use Rattle.chess_types.specs.board.Position.{PositionParts, IsSetup, holds, king_home, man_on, rook_home}
use Rattle.chess_types.specs.board.Pseudo.{crossed, reached, castles_to, castles, last_rank}
use Rattle.chess_types.specs.board.After.{after, after_by, is_castling, keeps, placement_after, rights_after, rook_of, touches, moved_board, with_rook}
use Rattle.chess_types.specs.board.Legal.{is_legal}
use Rattle.chess_types.proofs.Sums.{total}
use Rattle.chess_play.proofs.CastlingSquares.{crossed_inside, rook_inside}
use Rattle.chess_eval.specs.Mirror.{across, recoloured}
use Rattle.chess_theorems.specs.DeadLaws.{is_mate}
use Rattle.chess_theorems.specs.MirrorLaws.{turned, IsTurned}
use Rattle.chess_theorems.proofs.Symmetry.{Symmetry, IsSeen, recolour}
use Rattle.chess_theorems.proofs.SymmetryTables.{symmetry, other_axis}
use Rattle.chess_theorems.proofs.SeenAttacks as attacks
use Rattle.chess_theorems.proofs.SeenMoves.{pseudo_seen, squares_same}
use Rattle.chess_theorems.proofs.SeenLegal.{none_seen}
use Rattle.chess_theorems.proofs.SeenAfter.{AreSeen, seen_man, moved, seen_by, seen_clear, seen_put}

across_inside : (s : ℕ) → s < 64 → across s < 64
across_inside s h = omega arith

colours_turn : (c d : Colour) → same_colour (opponent c) (opponent d) ≡ same_colour c d
colours_turn White White = refl
colours_turn White Black = refl
colours_turn Black White = refl
colours_turn Black Black = refl

last_across : (c : Colour) (a : ℕ) → a < 64 → (rank_of (across a) == last_rank (opponent c)) ≡ (rank_of a == last_rank c)
last_across White a h = grind (arith, nat_tests)
last_across Black a h = grind (arith, nat_tests)

-- along a file and the diagonals the order is the other one
between_axis : (axis : Axis) (a b t : ℕ) → a < 64 → b < 64 → t < 64 → is_between_on (other_axis axis) (across a) (across b) (across t) ≡ is_between_on axis a b t
between_axis Rank a b t ha hb ht = grind (arith, nat_tests)
between_axis _ a b t ha hb ht = grind (arith, nat_tests)

-- so it is a symmetry
pub over_ranks : Symmetry across opponent
unfolding squares leaps slides_to slides total
over_ranks = symmetry across opponent
    (record { inside = across_inside; twice = λ s h. omega arith; sums = λ f. omega arith; files = λ a b ha hb. grind (arith, nat_tests); corner = λ a b ha hb. omega arith; between = between_axis })
    (record { colours = colours_turn; others = λ c. refl; last = last_across })
    (record { leap = refl; slide = refl; ahead = refl; two = refl; advance = refl })

same_recolour : (there : Option Man) → recoloured there ≡ recolour opponent there
same_recolour None = refl
same_recolour (Some man) = refl

pub seen : {p q : PositionParts} → IsTurned p q → IsSeen across opponent p q
seen {p} {q} both = record {
  board = λ s h. both.board s h ∙ same_recolour (man_on p (across s));
  side = both.side;
  target = both.target;
  clock = both.clock;
}

-- the squares of castling
king_across : (c : Colour) → king_home (opponent c) ≡ across (king_home c)
king_across White = refl
king_across Black = refl

rook_across : (c : Colour) (w : Wing) → rook_home (opponent c) w ≡ across (rook_home c w)
rook_across White KingSide = refl
rook_across White QueenSide = refl
rook_across Black KingSide = refl
rook_across Black QueenSide = refl

crossed_across : (c : Colour) (w : Wing) → crossed (opponent c) w ≡ across (crossed c w)
crossed_across White KingSide = refl
crossed_across White QueenSide = refl
crossed_across Black KingSide = refl
crossed_across Black QueenSide = refl

reached_across : (c : Colour) (w : Wing) → reached (opponent c) w ≡ across (reached c w)
reached_across White KingSide = refl
reached_across White QueenSide = refl
reached_across Black KingSide = refl
reached_across Black QueenSide = refl

king_inside : (c : Colour) → king_home c < 64
king_inside White = omega arith
king_inside Black = omega arith

reached_inside : (c : Colour) (w : Wing) → reached c w < 64
reached_inside White KingSide = omega arith
reached_inside White QueenSide = omega arith
reached_inside Black KingSide = omega arith
reached_inside Black QueenSide = omega arith

castles_to_across : (c : Colour) (w : Wing) (m : MoveParts) → m.from < 64 → m.to < 64 → castles_to (opponent c) w (turned m) ≡ castles_to c w m
castles_to_across c w m from to = λ i.
    (ap (λ s. across m.from == s) (king_across c) ∙ squares_same across opponent over_ranks m.from (king_home c) from (king_inside c)) i
    && (ap (λ s. across m.to == s) (reached_across c w) ∙ squares_same across opponent over_ranks m.to (reached c w) to (reached_inside c w)) i

module _ (p q : PositionParts) (both : IsTurned p q) (m : MoveParts) (from : m.from < 64) (to : m.to < 64) where
  abbrev c : Colour
  c = p.side

  abbrev F : Men
  F = man_on q

  abbrev castle : PositionParts → Colour → Men → MoveParts → Wing → Bool
  castle x s f n w =
      castles_to s w n && holds x.rights s w && is_clear f (king_home s) (rook_home s w) && not (is_attacked f (opponent s) (king_home s))
      && not (is_attacked f (opponent s) (crossed s w)) && not (is_attacked f (opponent s) (reached s w))

  safe : (s : ℕ) (t : ℕ) → s < 64 → t ≡ across s → is_attacked F (opponent (opponent c)) t ≡ is_attacked (man_on p) (opponent c) s
  safe s t h is = ap (is_attacked F (opponent (opponent c))) is ∙ attacks.attacked_across across opponent over_ranks (man_on p) F (seen both).board (opponent c) s h

  pub castled : (w : Wing) → castles q w (turned m) ≡ castles p w m
  castled w =
      ap (λ s. castle q s F (turned m) w) both.side
      ∙ (λ i. castles_to_across c w m from to i && both.rights c w i
      && (ap (is_clear F (king_home (opponent c))) (rook_across c w) ∙ ap (λ s. is_clear F s (across (rook_home c w))) (king_across c)
      ∙ attacks.clear_across across opponent over_ranks (man_on p) F (seen both).board (king_home c) (rook_home c w) (king_inside c) (rook_inside c w)) i
      && not (safe (king_home c) (king_home (opponent c)) (king_inside c) (king_across c) i)
      && not (safe (crossed c w) (crossed (opponent c) w) (crossed_inside c w) (crossed_across c w) i)
      && not (safe (reached c w) (reached (opponent c) w) (reached_inside c w) (reached_across c w) i))

keeps_is : (rights : Rights) (c : Colour) (w : Wing) (m : MoveParts) → holds (rights_after rights m) c w ≡ keeps (holds rights c w) c w m
keeps_is rights White KingSide m = refl
keeps_is rights White QueenSide m = refl
keeps_is rights Black KingSide m = refl
keeps_is rights Black QueenSide m = refl

touches_across : (m : MoveParts) (s t : ℕ) → m.from < 64 → m.to < 64 → s < 64 → t ≡ across s → touches (turned m) t ≡ touches m s
touches_across m s t from to hs is =
    ap (touches (turned m)) is ∙ (λ i. squares_same across opponent over_ranks m.from s from hs i || squares_same across opponent over_ranks m.to s to hs i)

module _ (p q : PositionParts) (setup : IsSetup p) (both : IsTurned p q) (m : MoveParts) (from : m.from < 64) (to : m.to < 64) (man : Man) where
  castling : (w : Wing) → is_castling (seen_man opponent man) w (turned m) ≡ is_castling man w m
  castling w = ap (λ b. is_king man.kind && b) (castles_to_across man.colour w m from to)

  rook_moved : (w : Wing) → AreSeen across opponent (with_rook man.colour w (moved_board p man m)) (with_rook (opponent man.colour) w (moved_board q (seen_man opponent man) (turned m)))
  rook_moved w =
      seen_put across opponent over_ranks (remove (moved_board p man m) (rook_home man.colour w)) (remove (moved_board q (seen_man opponent man) (turned m)) (rook_home (opponent man.colour) w))
      (crossed man.colour w) (crossed (opponent man.colour) w) (rook_of man.colour) (crossed_inside man.colour w) (crossed_across man.colour w)
      (seen_clear across opponent over_ranks (moved_board p man m) (moved_board q (seen_man opponent man) (turned m)) (rook_home man.colour w) (rook_home (opponent man.colour) w)
      (rook_inside man.colour w) (rook_across man.colour w) (moved across opponent over_ranks p q setup (seen both) m from to man))

  placed : AreSeen across opponent (placement_after p man m) (placement_after q (seen_man opponent man) (turned m))
  placed =
      elim (cases_Bool (is_castling man KingSide m)) [
        | inl x ↦ rw (x, castling KingSide ∙ x) (rook_moved KingSide)
        | inr x ↦ elim (cases_Bool (is_castling man QueenSide m)) [
          | inl y ↦ rw (x, y, castling KingSide ∙ x, castling QueenSide ∙ y) (rook_moved QueenSide)
          | inr y ↦ rw (x, y, castling KingSide ∙ x, castling QueenSide ∙ y) (moved across opponent over_ranks p q setup (seen both) m from to man)
        ]
      ]

  rights_kept : (c : Colour) (w : Wing) → holds (rights_after q.rights (turned m)) (opponent c) w ≡ holds (rights_after p.rights m) c w
  rights_kept c w =
      keeps_is q.rights (opponent c) w (turned m)
      ∙ (λ i. both.rights c w i && not (touches_across m (king_home c) (king_home (opponent c)) from to (king_inside c) (king_across c) i)
      && not (touches_across m (rook_home c w) (rook_home (opponent c) w) from to (rook_inside c w) (rook_across c w) i))
      ∙ sym (keeps_is p.rights c w m)

  turned_by : IsTurned (after_by p (Some man) m) (after_by q (Some (seen_man opponent man)) (turned m))
  turned_by =
      let x = seen_by across opponent over_ranks p q setup (seen both) m from to man placed in
      record {
        board = λ s h. x.board s h ∙ sym (same_recolour (man_at (placement_after p man m) (across s)));
        side = x.side;
        rights = rights_kept;
        target = x.target;
        clock = x.clock;
      }

module _ (p q : PositionParts) (setup : IsSetup p) (both : IsTurned p q) (m : MoveParts) (from : m.from < 64) (to : m.to < 64) where
  by_man : (there : Option Man) → IsTurned (after_by p there m) (after_by q (recolour opponent there) (turned m))
  by_man None = both
  by_man (Some man) = turned_by p q setup both m from to man

  pub after_turns : IsTurned (after p m) (after q (turned m))
  unfolding after
  after_turns =
      subst (λ (there : Option Man). IsTurned (after_by p (man_on p m.from) m) (after_by q there (turned m)))
      (sym (attacks.there_across across opponent over_ranks (man_on p) (man_on q) (seen both).board m.from from)) (by_man (man_on p m.from))

  pub legal_turns : is_legal q (turned m) ≡ is_legal p m
  unfolding is_legal
  legal_turns = λ i.
      pseudo_seen across opponent over_ranks p q setup (seen both) m from to (castled p q both m from to) i
      && not ((ap (in_check (man_on (after q (turned m)))) both.side
      ∙ attacks.check_across across opponent over_ranks (man_on p_after) (man_on (after q (turned m))) (seen after_turns).board p.side) i)
    where
      p_after : PositionParts
      p_after = after p m

pub mate_turns : (p q : PositionParts) → IsSetup p → IsTurned p q → is_mate q ≡ is_mate p
mate_turns p q setup both = λ i.
    none_seen across opponent over_ranks p q (legal_turns p q setup both) i
    && (ap (in_check (man_on q)) both.side ∙ attacks.check_across across opponent over_ranks (man_on p) (man_on q) (seen both).board p.side) i
