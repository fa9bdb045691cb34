-- What a pawn's pseudo-legal move says in numbers: one square forward, two, or diagonally (FIDE Laws, article 3.7).
use Rattle.std.proofs.Common.{◌≡◌, ◌≢◌, ℕ, ◌+◌, ◌*◌, ◌-◌, ◌/◌, ◌<◌, ◌==◌, Bool, true, ◌&&◌, ◌||◌, Option, Some, None, is_none, refl, sym, ap, ◌∙◌, arith, ◌⊎◌, inl, inr}
use Rattle.std.proofs.lemmas.Bool.{and_parts, or_cases, true≢false, eqb-true}
use Rattle.std.proofs.lemmas.Bool.Decides.{nat_tests}
use Rattle.chess_types.specs.declared.board.man.Colour.{Colour}
use Rattle.chess_types.specs.declared.board.man.Colour.TheVariants.{White, Black}
use Rattle.chess_types.specs.declared.board.man.Kind.TheVariants.{Pawn}
use Rattle.chess_types.specs.declared.board.man.Man.{Man}
use Rattle.chess_types.specs.board.Board.{Men}
use Rattle.chess_types.specs.board.Squares.{file_of, rank_of}
use Rattle.chess_types.specs.board.MoveParts.{MoveParts}
use Rattle.chess_types.specs.board.Men.{opponent}
use Rattle.chess_types.specs.board.Attack.{distance, leaps}
use Rattle.chess_types.specs.board.Position.{is_explained}
use Rattle.chess_types.proofs.TargetLemmas.{Explained, explained_parts, explained_free}
use Rattle.chess_types.specs.board.Pseudo.{is_capturable, may_enter, is_target, is_ahead, pawn_rank, midway}
use Rattle.chess_types.proofs.SameLemmas.{none_is}

-- a square that tests as the target is the target
pub target_is : (target : Option ℕ) (s : ℕ) → is_target target s ≡ true → target ≡ Some s
target_is None s h = absurd (true≢false (sym h))
target_is (Some t) s h = ap (λ x. Some x) (eqb-true t s h)

-- b is one square forward of a
abbrev pub Ahead : Colour → ℕ → ℕ → Type 0
Ahead White a b = b ≡ a + 8
Ahead Black a b = a ≡ b + 8

ahead_is : (c : Colour) (a b : ℕ) → is_ahead c a b ≡ true → Ahead c a b
ahead_is White a b h = eqb-true b (a + 8) h
ahead_is Black a b h = eqb-true a (b + 8) h

-- b is on the next rank forward of a, on another file
abbrev pub Aside : Colour → ℕ → ℕ → Type 0
Aside White a b = (file_of a ≢ file_of b) × (rank_of b ≡ rank_of a + 1)
Aside Black a b = (file_of a ≢ file_of b) × (rank_of a ≡ rank_of b + 1)

aside_is : (c : Colour) (a b : ℕ) → leaps c Pawn a b ≡ true → Aside c a b
unfolding leaps
aside_is White a b h = let p = and_parts (distance (file_of a) (file_of b) == 1) (rank_of b == rank_of a + 1) h in (grind (arith, nat_tests), eqb-true _ _ p.1)
aside_is Black a b h = let p = and_parts (distance (file_of a) (file_of b) == 1) (rank_of a == rank_of b + 1) h in (grind (arith, nat_tests), eqb-true _ _ p.1)

-- one square forward, to an empty square
pub record One (c : Colour) (man_on : Men) (a b : ℕ) : Type 0 where
  pub ahead : Ahead c a b
  pub free : man_on b ≡ None

-- two squares forward from the rank where it began, over an empty square to another
pub record Two (c : Colour) (man_on : Men) (a b : ℕ) : Type 0 where
  pub first : rank_of a ≡ pawn_rank c
  pub over : Ahead c a ((a + b) / 2)
  pub on : Ahead c ((a + b) / 2) b
  pub free_over : man_on ((a + b) / 2) ≡ None
  pub free : man_on b ≡ None

-- diagonally forward, to a man that may be captured there or to the en passant target
pub record Takes (c : Colour) (man_on : Men) (target : Option ℕ) (a b : ℕ) : Type 0 where
  pub aside : Aside c a b
  pub prey : (is_capturable c (man_on b) ≡ true) ⊎ (target ≡ Some b)

module _ (c : Colour) (man_on : Men) (target : Option ℕ) (m : MoveParts) where
  abbrev one : Bool
  one = is_ahead c m.from m.to && is_none (man_on m.to)

  abbrev two : Bool
  two =
      rank_of m.from == pawn_rank c && is_ahead c m.from (midway m) && is_ahead c (midway m) m.to && is_none (man_on (midway m))
      && is_none (man_on m.to)

  abbrev takes : Bool
  takes = leaps c Pawn m.from m.to && (is_capturable c (man_on m.to) || is_target target m.to)

  -- the tests of a pawn's moves, read
  pub pawn_moves : ((one || two) || takes) ≡ true → One c man_on m.from m.to ⊎ (Two c man_on m.from m.to ⊎ Takes c man_on target m.from m.to)
  pawn_moves h =
      elim (or_cases (one || two) takes h) [
        | inl steps ↦ elim (or_cases one two steps) [
          | inl x ↦
              let p = and_parts _ _ x in
              inl (record { ahead = ahead_is c m.from m.to p.0; free = none_is _ p.1 })
          | inr x ↦
              let p = and_parts _ _ x in
              let q = and_parts _ _ p.0 in
              let r = and_parts _ _ q.0 in
              let s = and_parts _ _ r.0 in
              inr (inl (record {
                first = eqb-true _ _ s.0;
                over = ahead_is c m.from (midway m) s.1;
                on = ahead_is c (midway m) m.to r.1;
                free_over = none_is _ q.1;
                free = none_is _ p.1;
              }))
        ]
        | inr x ↦
            let p = and_parts _ _ x in
            inr (inr (record {
              aside = aside_is c m.from m.to p.0;
              prey = elim (or_cases _ _ p.1) [ inl y ↦ inl y | inr y ↦ inr (target_is target m.to y) ];
            }))
      ]

-- one of the three
abbrev pub PawnMove : Colour → Men → Option ℕ → ℕ → ℕ → Type 0
PawnMove c man_on target a b = One c man_on a b ⊎ (Two c man_on a b ⊎ Takes c man_on target a b)

-- b lies further on than a
abbrev pub Further : Colour → ℕ → ℕ → Type 0
Further White a b = rank_of a < rank_of b
Further Black a b = rank_of b < rank_of a

one_further : (c : Colour) (man_on : Men) (a b : ℕ) → One c man_on a b → Further c a b
one_further White man_on a b x = omega arith
one_further Black man_on a b x = omega arith

two_further : (c : Colour) (man_on : Men) (a b : ℕ) → Two c man_on a b → Further c a b
two_further White man_on a b x = omega arith
two_further Black man_on a b x = omega arith

aside_further : (c : Colour) (a b : ℕ) → Aside c a b → Further c a b
aside_further White a b x = omega arith
aside_further Black a b x = omega arith

-- a pawn only goes further on
pub further : (c : Colour) (man_on : Men) (target : Option ℕ) (a b : ℕ) → PawnMove c man_on target a b → Further c a b
further c man_on target a b moves =
    elim moves [
      | inl x ↦ one_further c man_on a b x
      | inr y ↦ elim y [ inl x ↦ two_further c man_on a b x | inr x ↦ aside_further c a b x.aside ]
    ]

-- so it does not stay where it stood
pub further_apart : (c : Colour) (a b : ℕ) → Further c a b → a ≢ b
further_apart White a b h = λ e. omega arith
further_apart Black a b h = λ e. omega arith

free_enters : (c : Colour) (o : Option Man) → o ≡ None → may_enter c o ≡ true
free_enters c o h = rw h refl

prey_enters : (c : Colour) (o : Option Man) → is_capturable c o ≡ true → may_enter c o ≡ true
prey_enters c None h = refl
prey_enters c (Some man) h = h

module _ (c : Colour) (man_on : Men) (target : Option ℕ) (explained : (t : ℕ) → target ≡ Some t → is_explained c man_on t ≡ true) where
  -- it comes to an empty square, or to a man that may be captured
  pub pawn_enters : (a b : ℕ) → PawnMove c man_on target a b → may_enter c (man_on b) ≡ true
  pawn_enters a b moves =
      elim moves [
        | inl x ↦ free_enters c (man_on b) x.free
        | inr y ↦ elim y [
          | inl x ↦ free_enters c (man_on b) x.free
          | inr x ↦ elim x.prey [
            | inl p ↦ prey_enters c (man_on b) p
            | inr e ↦ free_enters c (man_on b) (explained_free c man_on b (explained b e))
          ]
        ]
      ]

-- The pawn that is captured en passant stands on s: on an inner rank, on neither of the mover's squares, and the mover comes to
-- an empty square.
pub record Passed (c : Colour) (man_on : Men) (a b s : ℕ) : Type 0 where
  pub inside : (0 < rank_of s) × (rank_of s < 7)
  pub away : s ≢ a
  pub aside : s ≢ b
  pub free : man_on b ≡ None
  pub man : man_on s ≡ Some (record { colour = opponent c; kind = Pawn })

ahead_file : (c : Colour) (a b : ℕ) → Ahead c a b → file_of a ≡ file_of b
ahead_file White a b h = omega arith
ahead_file Black a b h = omega arith

passed_at : (c : Colour) (man_on : Men) (a b : ℕ) → Explained c man_on b → Aside c a b → b < 64 → Passed c man_on a b (8 * rank_of a + file_of b)
passed_at White man_on a b e h inside =
    let at : 8 * rank_of a + file_of b ≡ b - 8 = omega arith in
    record { inside = (omega arith, omega arith); away = λ s. omega arith; aside = λ s. omega arith; free = e.1; man = rw at e.3 }
passed_at Black man_on a b e h inside =
    let at : 8 * rank_of a + file_of b ≡ b + 8 = omega arith in
    record { inside = (omega arith, omega arith); away = λ s. omega arith; aside = λ s. omega arith; free = e.1; man = rw at e.3 }

two_file : (c : Colour) (man_on : Men) (a b : ℕ) → Two c man_on a b → file_of a ≡ file_of b
two_file c man_on a b x = ahead_file c a ((a + b) / 2) x.over ∙ ahead_file c ((a + b) / 2) b x.on

-- where a pawn goes to another file and the target, the pawn that it captures stands beside it
pub passes : (c : Colour) (man_on : Men) (target : Option ℕ) (a b : ℕ) → b < 64 → PawnMove c man_on target a b → is_explained c man_on b ≡ true →
    file_of a ≢ file_of b → Passed c man_on a b (8 * rank_of a + file_of b)
passes c man_on target a b inside moves e other =
    elim moves [
      | inl x ↦ absurd (other (ahead_file c a b x.ahead))
      | inr y ↦ elim y [ inl x ↦ absurd (other (two_file c man_on a b x)) | inr x ↦ passed_at c man_on a b (explained_parts c man_on b e) x.aside inside ]
    ]

one_short : (c : Colour) (man_on : Men) (a b : ℕ) → One c man_on a b → (b ≡ a + 16) ⊎ (a ≡ b + 16) → ⊥
one_short White man_on a b x far = elim far [ inl e ↦ omega arith | inr e ↦ omega arith ]
one_short Black man_on a b x far = elim far [ inl e ↦ omega arith | inr e ↦ omega arith ]

aside_short : (c : Colour) (a b : ℕ) → Aside c a b → (b ≡ a + 16) ⊎ (a ≡ b + 16) → ⊥
aside_short White a b x far = elim far [ inl e ↦ omega arith | inr e ↦ omega arith ]
aside_short Black a b x far = elim far [ inl e ↦ omega arith | inr e ↦ omega arith ]

-- a pawn that goes 16 squares on or back advances by two squares
pub advances : (c : Colour) (man_on : Men) (target : Option ℕ) (a b : ℕ) → PawnMove c man_on target a b → (b ≡ a + 16) ⊎ (a ≡ b + 16) → Two c man_on a b
advances c man_on target a b moves far =
    elim moves [
      | inl x ↦ absurd (one_short c man_on a b x far)
      | inr y ↦ elim y [ inl x ↦ x | inr x ↦ absurd (aside_short c a b x.aside far) ]
    ]
