-- What it says that a target is explained, part by part.
use Rattle.std.proofs.Common.{◌≡◌, ℕ, ◌+◌, ◌-◌, ◌<◌, ◌==◌, true, false, Some, None, refl, ap, arith}
use Rattle.std.specs.Prelude.{is_none}
use Rattle.std.proofs.lemmas.Bool.{and_parts, and_from, eqb-true, eq-eqb}
use Rattle.chess_types.specs.declared.board.man.Colour.{Colour}
use Rattle.chess_types.specs.declared.board.man.Colour.TheVariants.{White, Black}
use Rattle.chess_types.specs.declared.board.man.Kind.TheVariants.{Pawn}
use Rattle.chess_types.specs.board.Squares.{rank_of}
use Rattle.chess_types.specs.board.Board.{Men}
use Rattle.chess_types.specs.board.Position.{is_explained}
use Rattle.chess_types.specs.board.Pseudo.{last_rank}
use Rattle.chess_types.proofs.SameLemmas.{is_man_is, is_man-own, none_is}

-- the rank, the empty square, the one behind it, and the pawn before it
abbrev pub Explained : Colour → Men → ℕ → Type 0
Explained White man_on t =
    (rank_of t ≡ 5) × (man_on t ≡ None) × (man_on (t + 8) ≡ None) × (man_on (t - 8) ≡ Some (record { colour = Black; kind = Pawn }))
Explained Black man_on t =
    (rank_of t ≡ 2) × (man_on t ≡ None) × (man_on (t - 8) ≡ None) × (man_on (t + 8) ≡ Some (record { colour = White; kind = Pawn }))

pub explained_parts : (side : Colour) (man_on : Men) (t : ℕ) → is_explained side man_on t ≡ true → Explained side man_on t
explained_parts White man_on t h =
    let last = and_parts _ _ h in
    let third = and_parts _ _ last.0 in
    let first = and_parts _ _ third.0 in
    (eqb-true _ _ first.0, none_is _ first.1, none_is _ third.1, is_man_is _ Black Pawn last.1)
explained_parts Black man_on t h =
    let last = and_parts _ _ h in
    let third = and_parts _ _ last.0 in
    let first = and_parts _ _ third.0 in
    (eqb-true _ _ first.0, none_is _ first.1, none_is _ third.1, is_man_is _ White Pawn last.1)

pub explained_from : (side : Colour) (man_on : Men) (t : ℕ) → Explained side man_on t → is_explained side man_on t ≡ true
explained_from White man_on t is =
    and_from _ _ (and_from _ _ (and_from _ _ (eq-eqb _ _ is.0) (ap is_none is.1)) (ap is_none is.2))
    (rw is.3 (is_man-own Black Pawn))
explained_from Black man_on t is =
    and_from _ _ (and_from _ _ (and_from _ _ (eq-eqb _ _ is.0) (ap is_none is.1)) (ap is_none is.2))
    (rw is.3 (is_man-own White Pawn))

pub explained_free : (side : Colour) (man_on : Men) (t : ℕ) → is_explained side man_on t ≡ true → man_on t ≡ None
explained_free White man_on t h = (explained_parts White man_on t h).1
explained_free Black man_on t h = (explained_parts Black man_on t h).1

pub explained_inside : (side : Colour) (man_on : Men) (t : ℕ) → is_explained side man_on t ≡ true → t < 64
explained_inside White man_on t h = omega (arith, (explained_parts White man_on t h).0)
explained_inside Black man_on t h = omega (arith, (explained_parts Black man_on t h).0)

-- no target lies on a pawn's last rank
pub target_not_last : (side : Colour) (man_on : Men) (t : ℕ) → is_explained side man_on t ≡ true → (rank_of t == last_rank side) ≡ false
target_not_last White man_on t h = rw (explained_parts White man_on t h).0 refl
target_not_last Black man_on t h = rw (explained_parts Black man_on t h).0 refl
