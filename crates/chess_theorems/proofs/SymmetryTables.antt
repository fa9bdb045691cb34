-- A map of squares and colours is a symmetry where tables of all pairs of squares say so.
use Rattle.std.proofs.Common.{◌≡◌, ℕ, ◌+◌, ◌*◌, ◌/◌, ◌<◌, ◌==◌, Bool, true, false, not, ◌&&◌, ◌||◌, refl, sym, ◌∙◌}
use Rattle.std.proofs.lemmas.Bool.{and_parts, eqb-true, true≢false}
use Rattle.chess_types.specs.declared.board.axis.Axis.{Axis}
use Rattle.chess_types.specs.declared.board.axis.Axis.TheVariants.{Rank, File, Rising, Falling}
use Rattle.chess_types.specs.declared.board.man.Colour.{Colour}
use Rattle.chess_types.specs.declared.board.man.Colour.TheVariants.{White, Black}
use Rattle.chess_types.specs.declared.board.man.Kind.{Kind}
use Rattle.chess_types.specs.declared.board.man.Kind.TheVariants.{Pawn, Knight, Bishop, Rook, Queen, King}
use Rattle.chess_types.specs.board.Squares.{file_of, rank_of, is_between_on, is_between}
use Rattle.chess_types.specs.board.Men.{opponent, same_colour}
use Rattle.chess_types.specs.board.Attack.{leaps, slides_to}
use Rattle.chess_types.specs.board.Pseudo.{is_ahead, last_rank}
use Rattle.chess_types.specs.board.Repetition.{same_bool}
use Rattle.chess_types.proofs.Sums.{total}
use Rattle.chess_theorems.proofs.SquareColours.{at_two, implied, on_all}
use Rattle.chess_theorems.proofs.Symmetry.{Symmetry, advances, two_apart}

bools : (x y : Bool) → same_bool x y ≡ true → x ≡ y
bools true true h = refl
bools false false h = refl
bools true false h = absurd (true≢false (sym h))
bools false true h = absurd (true≢false (sym h))

module _ (σ : ℕ → ℕ) (κ : Colour → Colour) where
  abbrev pub leap_test : Colour → Kind → ℕ → ℕ → Bool
  leap_test c k a b = same_bool (leaps (κ c) k (σ a) (σ b)) (leaps c k a b)

  abbrev pub ahead_test : Colour → ℕ → ℕ → Bool
  ahead_test c a b = same_bool (is_ahead (κ c) (σ a) (σ b)) (is_ahead c a b)

  abbrev pub two_test : Colour → ℕ → ℕ → Bool
  two_test c a b = same_bool (advances (κ c) (σ a) (σ b)) (advances c a b) && (not (advances c a b) || (σ a + σ b) / 2 == σ ((a + b) / 2))

module _ (σ : ℕ → ℕ) where
  abbrev pub slide_test : Kind → ℕ → ℕ → Bool
  slide_test k a b = same_bool (slides_to k (σ a) (σ b)) (slides_to k a b)

  abbrev pub advance_test : ℕ → ℕ → Bool
  advance_test a b = same_bool (two_apart (σ a) (σ b)) (two_apart a b) && (not (two_apart a b) || (σ a + σ b) / 2 == σ ((a + b) / 2))

-- a test of each colour, and of each kind
abbrev pub each_colour : (Colour → Bool) → Bool
each_colour test = test White && test Black

abbrev pub each_kind : (Kind → Bool) → Bool
each_kind test = test Pawn && test Knight && test Bishop && test Rook && test Queen && test King

of_colour : (test : Colour → Bool) → each_colour test ≡ true → (c : Colour) → test c ≡ true
of_colour test h White = (and_parts _ _ h).0
of_colour test h Black = (and_parts _ _ h).1

of_kind : (test : Kind → Bool) → each_kind test ≡ true → (k : Kind) → test k ≡ true
of_kind test h k =
    let queen = and_parts _ _ h in
    let rook = and_parts _ _ queen.0 in
    let bishop = and_parts _ _ rook.0 in
    let knight = and_parts _ _ bishop.0 in
    let pawn = and_parts _ _ knight.0 in
    one pawn.0 pawn.1 knight.1 bishop.1 rook.1 queen.1 k
  where
    one : test Pawn ≡ true → test Knight ≡ true → test Bishop ≡ true → test Rook ≡ true → test Queen ≡ true → test King ≡ true → (k : Kind) → test k ≡ true
    one a b c d e f Pawn = a
    one a b c d e f Knight = b
    one a b c d e f Bishop = c
    one a b c d e f Rook = d
    one a b c d e f Queen = e
    one a b c d e f King = f

-- an axis along which the order is the same, or one of two that change places
abbrev pub other_axis : Axis → Axis
other_axis Rank = Rank
other_axis File = File
other_axis Rising = Falling
other_axis Falling = Rising

either_way : (r f u d : Bool) → (r || f || d || u) ≡ (r || f || u || d)
either_way true f u d = refl
either_way false true u d = refl
either_way false false true true = refl
either_way false false true false = refl
either_way false false false true = refl
either_way false false false false = refl

-- what has to be shown of the map of squares
pub record OnSquares (σ : ℕ → ℕ) : Type 0 where
  pub inside : (s : ℕ) → s < 64 → σ s < 64
  pub twice : (s : ℕ) → s < 64 → σ (σ s) ≡ s
  pub sums : (f : ℕ → ℕ) → total (λ t. f (σ t)) 0 64 ≡ total f 0 64
  pub files : (a b : ℕ) → a < 64 → b < 64 → (file_of (σ a) == file_of (σ b)) ≡ (file_of a == file_of b)
  pub corner : (a b : ℕ) → a < 64 → b < 64 → 8 * rank_of (σ a) + file_of (σ b) ≡ σ (8 * rank_of a + file_of b)
  pub between : (axis : Axis) (a b t : ℕ) → a < 64 → b < 64 → t < 64 → is_between_on (other_axis axis) (σ a) (σ b) (σ t) ≡ is_between_on axis a b t

-- of the map of colours
pub record OnColours (σ : ℕ → ℕ) (κ : Colour → Colour) : Type 0 where
  pub colours : (c d : Colour) → same_colour (κ c) (κ d) ≡ same_colour c d
  pub others : (c : Colour) → opponent (κ c) ≡ κ (opponent c)
  pub last : (c : Colour) (a : ℕ) → a < 64 → (rank_of (σ a) == last_rank (κ c)) ≡ (rank_of a == last_rank c)

-- and by the tables of all pairs of squares
pub record Tables (σ : ℕ → ℕ) (κ : Colour → Colour) : Type 0 where
  pub leap : each_colour (λ c. each_kind (λ k. on_all (leap_test σ κ c k))) ≡ true
  pub slide : each_kind (λ k. on_all (slide_test σ k)) ≡ true
  pub ahead : each_colour (λ c. on_all (ahead_test σ κ c)) ≡ true
  pub two : each_colour (λ c. on_all (two_test σ κ c)) ≡ true
  pub advance : on_all (advance_test σ) ≡ true

-- a test that another equals, and what follows where it holds
both : (x y z : Bool) → (same_bool x y && (not y || z)) ≡ true → (x ≡ y) × (y ≡ true → z ≡ true)
both x y z h = let a = and_parts _ _ h in (bools x y a.0, implied y z a.1)

between_by : (σ : ℕ → ℕ) → OnSquares σ → (a b t : ℕ) → a < 64 → b < 64 → t < 64 → is_between (σ a) (σ b) (σ t) ≡ is_between a b t
unfolding is_between
between_by σ squares a b t ha hb ht =
    let on : (axis : Axis) → is_between_on (other_axis axis) (σ a) (σ b) (σ t) ≡ is_between_on axis a b t = λ axis. squares.between axis a b t ha hb ht in
    (λ i. on Rank i || on File i || on Falling i || on Rising i) ∙ either_way (is_between_on Rank a b t) (is_between_on File a b t) (is_between_on Rising a b t) (is_between_on Falling a b t)

pub symmetry : (σ : ℕ → ℕ) (κ : Colour → Colour) → OnSquares σ → OnColours σ κ → Tables σ κ → Symmetry σ κ
symmetry σ κ squares colours t = record {
  inside = squares.inside;
  twice = squares.twice;
  sums = squares.sums;
  colours = colours.colours;
  others = colours.others;
  leap = λ c k a b ha hb. bools _ _ (at_two (leap_test σ κ c k) (of_kind (λ x. on_all (leap_test σ κ c x)) (of_colour (λ d. each_kind (λ x. on_all (leap_test σ κ d x))) t.leap c) k) a b ha hb);
  slide = λ k a b ha hb. bools _ _ (at_two (slide_test σ k) (of_kind (λ x. on_all (slide_test σ x)) t.slide k) a b ha hb);
  between = between_by σ squares;
  ahead = λ c a b ha hb. bools _ _ (at_two (ahead_test σ κ c) (of_colour (λ d. on_all (ahead_test σ κ d)) t.ahead c) a b ha hb);
  two = λ c a b ha hb.
      let x = both (advances (κ c) (σ a) (σ b)) (advances c a b) ((σ a + σ b) / 2 == σ ((a + b) / 2)) (at_two (two_test σ κ c) (of_colour (λ d. on_all (two_test σ κ d)) t.two c) a b ha hb) in
      (x.0, λ h. eqb-true _ _ (x.1 h));
  last = colours.last;
  advance = λ a b ha hb.
      let x = both (two_apart (σ a) (σ b)) (two_apart a b) ((σ a + σ b) / 2 == σ ((a + b) / 2)) (at_two (advance_test σ) t.advance a b ha hb) in
      (x.0, λ h. eqb-true _ _ (x.1 h));
  files = squares.files;
  corner = squares.corner;
}
