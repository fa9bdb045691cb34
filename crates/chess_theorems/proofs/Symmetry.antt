-- A board seen otherwise: a map of the squares and one of the colours under which men attack alike.
use Rattle.std.proofs.Common.{◌≡◌, ℕ, ◌+◌, ◌*◌, ◌/◌, ◌<◌, ◌==◌, Bool, true, ◌&&◌, ◌||◌, Option, Some, None}
use Rattle.std.specs.Prelude.{option_map}
use Rattle.chess_types.specs.declared.board.man.Colour.{Colour}
use Rattle.chess_types.specs.declared.board.man.Kind.{Kind}
use Rattle.chess_types.specs.declared.board.man.Man.{Man}
use Rattle.chess_types.specs.board.Squares.{file_of, rank_of, is_between}
use Rattle.chess_types.specs.board.MoveParts.{MoveParts}
use Rattle.chess_types.specs.board.Men.{opponent, same_colour}
use Rattle.chess_types.specs.board.Attack.{leaps, slides_to}
use Rattle.chess_types.specs.board.Position.{PositionParts, man_on}
use Rattle.chess_types.specs.board.Pseudo.{is_ahead, last_rank, pawn_rank}
use Rattle.chess_types.proofs.Sums.{total}

-- an advance of two squares from where the pawns begin
abbrev pub advances : Colour → ℕ → ℕ → Bool
advances c a b = rank_of a == pawn_rank c && is_ahead c a ((a + b) / 2) && is_ahead c ((a + b) / 2) b

-- two squares as far apart as an advance
abbrev pub two_apart : ℕ → ℕ → Bool
two_apart a b = b == a + 16 || a == b + 16

pub record Symmetry (σ : ℕ → ℕ) (κ : Colour → Colour) : Type 0 where
  pub inside : (s : ℕ) → s < 64 → σ s < 64
  pub twice : (s : ℕ) → s < 64 → σ (σ s) ≡ s
  pub sums : (f : ℕ → ℕ) → total (λ t. f (σ t)) 0 64 ≡ total f 0 64
  pub colours : (c d : Colour) → same_colour (κ c) (κ d) ≡ same_colour c d
  pub others : (c : Colour) → opponent (κ c) ≡ κ (opponent c)
  pub leap : (c : Colour) (k : Kind) (a b : ℕ) → a < 64 → b < 64 → leaps (κ c) k (σ a) (σ b) ≡ leaps c k a b
  pub slide : (k : Kind) (a b : ℕ) → a < 64 → b < 64 → slides_to k (σ a) (σ b) ≡ slides_to k a b
  pub between : (a b t : ℕ) → a < 64 → b < 64 → t < 64 → is_between (σ a) (σ b) (σ t) ≡ is_between a b t
  pub ahead : (c : Colour) (a b : ℕ) → a < 64 → b < 64 → is_ahead (κ c) (σ a) (σ b) ≡ is_ahead c a b
  pub two : (c : Colour) (a b : ℕ) → a < 64 → b < 64 →
      (advances (κ c) (σ a) (σ b) ≡ advances c a b) × (advances c a b ≡ true → (σ a + σ b) / 2 ≡ σ ((a + b) / 2))
  pub last : (c : Colour) (a : ℕ) → a < 64 → (rank_of (σ a) == last_rank (κ c)) ≡ (rank_of a == last_rank c)
  pub advance : (a b : ℕ) → a < 64 → b < 64 → (two_apart (σ a) (σ b) ≡ two_apart a b) × (two_apart a b ≡ true → (σ a + σ b) / 2 ≡ σ ((a + b) / 2))
  pub files : (a b : ℕ) → a < 64 → b < 64 → (file_of (σ a) == file_of (σ b)) ≡ (file_of a == file_of b)
  pub corner : (a b : ℕ) → a < 64 → b < 64 → 8 * rank_of (σ a) + file_of (σ b) ≡ σ (8 * rank_of a + file_of b)

-- what stands on a square, in the colour so seen
abbrev pub recolour : (Colour → Colour) → Option Man → Option Man
recolour κ None = None
recolour κ (Some man) = Some (record man { colour = κ man.colour })

-- the move so seen
abbrev pub seen_move : (ℕ → ℕ) → MoveParts → MoveParts
seen_move σ m = record { from = σ m.from; to = σ m.to; promo = m.promo }

-- a position so seen, but for its rights and its number
pub record IsSeen (σ : ℕ → ℕ) (κ : Colour → Colour) (p q : PositionParts) : Type 0 where
  pub board : (s : ℕ) → s < 64 → man_on q s ≡ recolour κ (man_on p (σ s))
  pub side : q.side ≡ κ p.side
  pub target : q.target ≡ option_map σ p.target
  pub clock : q.clock ≡ p.clock
