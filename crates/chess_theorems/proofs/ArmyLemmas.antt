-- How many men of a sort the board has after a legal move.
use Rattle.std.proofs.Common.{◌⊎◌, ◌≡◌, ℕ, ◌+◌, ◌-◌, ◌<◌, ◌≤◌, ◌&&◌, Bool, true, false, List, [], ◌∷◌, Option, Some, None, refl, sym, ap, subst, arith, inl, inr}
use Rattle.std.specs.List.{Contains}
use Rattle.std.proofs.lemmas.Bool.{cases_Bool}
use Rattle.chess_types.specs.declared.board.man.Colour.{Colour}
use Rattle.chess_types.specs.declared.board.man.Colour.TheVariants.{White, Black}
use Rattle.chess_types.specs.declared.board.man.Kind.{Kind}
use Rattle.chess_types.specs.declared.board.man.Kind.TheVariants.{Pawn, Knight, Bishop, Rook, Queen, King}
use Rattle.chess_types.specs.declared.board.man.Man.{Man}
use Rattle.chess_types.specs.declared.board.position.Wing.TheVariants.{KingSide, QueenSide}
use Rattle.chess_types.specs.board.Texts.{names_promotion}
use Rattle.chess_types.specs.board.Men.{count_squares, is_man, is_of, is_pawn, men_of, same_colour, same_kind}
use Rattle.chess_types.specs.board.MoveParts.{MoveParts}
use Rattle.chess_types.specs.board.Position.{PositionParts, IsSetup, IsWellFormed, man_on}
use Rattle.chess_types.specs.board.After.{after, after_by, moved_man, captured_at, is_castling, placement_after, moved_board, with_rook}
use Rattle.chess_types.specs.board.Pseudo.{is_pseudo}
use Rattle.chess_types.specs.board.Legal.{legal_moves}
use Rattle.chess_types.specs.board.Lines.{play}
use Rattle.chess_types.proofs.Sums.{bit}
use Rattle.chess_types.proofs.MoveLemmas.{legal_pseudo, pseudo_man}
use Rattle.chess_play.proofs.Facts.{Facts, facts, never}
use Rattle.chess_play.proofs.Promotions.{colour_kept}
use Rattle.chess_play.proofs.Carried.{carried_census}
use Rattle.chess_play.proofs.Castled.{ready, rook_census}
use Rattle.chess_moves.proofs.Candidates.{pseudo_names}
use Rattle.chess_moves.proofs.LegalLaws.{listed_legal}
use Rattle.chess_theorems.proofs.ListedLemmas.{stays_well}
use Rattle.chess_theorems.specs.DeadLaws.{AreListed}
use Rattle.chess_theorems.specs.MoveLaws.{how_many, IsArmy}

-- how many men of a sort there are now, with the captured one, where a man of colour d has become another
abbrev Turned : Colour → Colour → Kind → Kind → Kind → (now captured before : ℕ) → Type 0
Turned c d was kind sort now captured before =
    now + captured + bit (same_colour d c && same_kind was sort) ≡ before + bit (same_colour d c && same_kind kind sort)

-- a pawn less, and one man of another kind more
promotes : (c d : Colour) (was into : Kind) (pawns knights bishops rooks queens : ℕ) (p n b r q : ℕ) (pawns' knights' bishops' rooks' queens' : ℕ) →
    names_promotion (Some into) ≡ true → is_pawn was ≡ true → Turned c d was into Pawn pawns' p pawns → Turned c d was into Knight knights' n knights →
    Turned c d was into Bishop bishops' b bishops → Turned c d was into Rook rooks' r rooks → Turned c d was into Queen queens' q queens →
    pawns + ((knights - 2) + (bishops - 2) + (rooks - 2) + (queens - 1)) ≤ 8 → pawns' + ((knights' - 2) + (bishops' - 2) + (rooks' - 2) + (queens' - 1)) ≤ 8
promotes White White Pawn Knight _ _ _ _ _ _ _ _ _ _ _ _ _ _ _ h i a b e f g before = omega (arith, a, b, e, f, g, before)
promotes White White Pawn Bishop _ _ _ _ _ _ _ _ _ _ _ _ _ _ _ h i a b e f g before = omega (arith, a, b, e, f, g, before)
promotes White White Pawn Rook _ _ _ _ _ _ _ _ _ _ _ _ _ _ _ h i a b e f g before = omega (arith, a, b, e, f, g, before)
promotes White White Pawn Queen _ _ _ _ _ _ _ _ _ _ _ _ _ _ _ h i a b e f g before = omega (arith, a, b, e, f, g, before)
promotes Black Black Pawn Knight _ _ _ _ _ _ _ _ _ _ _ _ _ _ _ h i a b e f g before = omega (arith, a, b, e, f, g, before)
promotes Black Black Pawn Bishop _ _ _ _ _ _ _ _ _ _ _ _ _ _ _ h i a b e f g before = omega (arith, a, b, e, f, g, before)
promotes Black Black Pawn Rook _ _ _ _ _ _ _ _ _ _ _ _ _ _ _ h i a b e f g before = omega (arith, a, b, e, f, g, before)
promotes Black Black Pawn Queen _ _ _ _ _ _ _ _ _ _ _ _ _ _ _ h i a b e f g before = omega (arith, a, b, e, f, g, before)
promotes White Black was into _ _ _ _ _ _ _ _ _ _ _ _ _ _ _ h i a b e f g before = omega (arith, a, b, e, f, g, before)
promotes Black White was into _ _ _ _ _ _ _ _ _ _ _ _ _ _ _ h i a b e f g before = omega (arith, a, b, e, f, g, before)
promotes White White Pawn Pawn _ _ _ _ _ _ _ _ _ _ _ _ _ _ _ h i a b e f g before = never h
promotes White White Pawn King _ _ _ _ _ _ _ _ _ _ _ _ _ _ _ h i a b e f g before = never h
promotes Black Black Pawn Pawn _ _ _ _ _ _ _ _ _ _ _ _ _ _ _ h i a b e f g before = never h
promotes Black Black Pawn King _ _ _ _ _ _ _ _ _ _ _ _ _ _ _ h i a b e f g before = never h
promotes White White _ into _ _ _ _ _ _ _ _ _ _ _ _ _ _ _ h i a b e f g before = never i
promotes Black Black _ into _ _ _ _ _ _ _ _ _ _ _ _ _ _ _ h i a b e f g before = never i

module _ (p : PositionParts) (m : MoveParts) (man : Man) (setup : IsSetup p) (from : m.from < 64) (to : m.to < 64) (here : man_on p m.from ≡ Some man) (pseudo : is_pseudo p m ≡ true) where
  its : Facts p man m
  its = facts p m setup from to man here pseudo

  -- the rook of castling comes back as it goes
  placed : (test : Option Man → Bool) → test None ≡ false → count_squares test (placement_after p man m) ≡ count_squares test (moved_board p man m)
  placed test none =
      elim (cases_Bool (is_castling man KingSide m)) [
        | inl x ↦ rw x (subst (λ c. count_squares test (with_rook c KingSide (moved_board p man m)) ≡ count_squares test (moved_board p man m)) (sym its.mine)
            (rook_census p man m test none KingSide (ready p man m setup from to its KingSide x)))
        | inr x ↦ elim (cases_Bool (is_castling man QueenSide m)) [
          | inl y ↦ rw (x, y) (subst (λ c. count_squares test (with_rook c QueenSide (moved_board p man m)) ≡ count_squares test (moved_board p man m)) (sym its.mine)
              (rook_census p man m test none QueenSide (ready p man m setup from to its QueenSide y)))
          | inr y ↦ rw (x, y) refl
        ]
      ]

  -- after the move the captured man is gone, and the mover is what he has become
  census : (test : Option Man → Bool) → test None ≡ false →
      count_squares test (after p m).placement + bit (test (man_on p (captured_at p.target man m))) + bit (test (Some man))
      ≡ count_squares test p.placement + bit (test (Some (moved_man man m.promo)))
  unfolding after
  census test none =
      let a : count_squares test (after_by p (man_on p m.from) m).placement ≡ count_squares test (placement_after p man m) =
      ap (λ o. count_squares test (after_by p o m).placement) here in
      let b = placed test none in
      let c = carried_census p man m from to its test none in
      omega arith

  -- he has become another man only where he was a pawn
  abbrev Becomes : Man → Type 0
  Becomes other = (other ≡ man) ⊎ ((kind : Kind) × (names_promotion (Some kind) ≡ true) × (is_pawn man.kind ≡ true) × (other ≡ record { colour = man.colour; kind = kind }))

  becomes : (promo : Option Kind) → names_promotion promo ≡ true → (is_pawn man.kind ≡ false → moved_man man promo ≡ man) → Becomes (moved_man man promo)
  becomes None names same = inl refl
  becomes (Some kind) names same = elim (cases_Bool (is_pawn man.kind)) [ inl pawn ↦ inr (kind, names, pawn, refl) | inr other ↦ inl (same other) ]

  his : Becomes (moved_man man m.promo)
  his = becomes m.promo (pseudo_names p m pseudo) its.same

  -- no man comes onto the board
  men_fall : (c : Colour) → men_of (after p m).placement c ≤ men_of p.placement c
  men_fall c =
      let n = census (is_of c) refl in
      let e : bit (is_of c (Some (moved_man man m.promo))) ≡ bit (is_of c (Some man)) = ap (λ d. bit (same_colour d c)) (colour_kept man m.promo) in
      omega arith

  abbrev Counted : Colour → Kind → Man → Type 0
  Counted c kind other =
      how_many c kind (after p m).placement + bit (is_man (man_on p (captured_at p.target man m)) c kind) + bit (is_man (Some man) c kind)
      ≡ how_many c kind p.placement + bit (is_man (Some other) c kind)

  counted : (c : Colour) (kind : Kind) → Counted c kind (moved_man man m.promo)
  counted c kind = census (λ there. is_man there c kind) refl

  fall : (c : Colour) (sort : Kind) → Counted c sort man → how_many c sort (after p m).placement ≤ how_many c sort p.placement
  fall c sort n = omega (arith, n)

  pawn_only : (other : Kind) → names_promotion (Some other) ≡ true → (c d : Colour) → bit (is_man (Some (record { colour = d; kind = other })) c Pawn) ≡ 0
  pawn_only Knight h White White = refl
  pawn_only Knight h White Black = refl
  pawn_only Knight h Black White = refl
  pawn_only Knight h Black Black = refl
  pawn_only Bishop h White White = refl
  pawn_only Bishop h White Black = refl
  pawn_only Bishop h Black White = refl
  pawn_only Bishop h Black Black = refl
  pawn_only Rook h White White = refl
  pawn_only Rook h White Black = refl
  pawn_only Rook h Black White = refl
  pawn_only Rook h Black Black = refl
  pawn_only Queen h White White = refl
  pawn_only Queen h White Black = refl
  pawn_only Queen h Black White = refl
  pawn_only Queen h Black Black = refl
  pawn_only Pawn h c d = never h
  pawn_only King h c d = never h

  pawns_fall : (c : Colour) → how_many c Pawn (after p m).placement ≤ how_many c Pawn p.placement
  pawns_fall c =
      elim his [
        | inl same ↦ fall c Pawn (subst (λ (x : Man). Counted c Pawn x) same (counted c Pawn))
        | inr other ↦
            let n : Counted c Pawn (record { colour = man.colour; kind = other.0 }) = subst (λ (x : Man). Counted c Pawn x) other.3 (counted c Pawn) in
            omega (arith, n, pawn_only other.0 other.1 c man.colour)
      ]

  -- who promotes is a pawn no more, and one man of another kind more
  army : (c : Colour) → IsArmy c p.placement → IsArmy c (after p m).placement
  army c before =
      elim his [
        | inl same ↦
            let each : (kind : Kind) → how_many c kind (after p m).placement ≤ how_many c kind p.placement =
            λ kind. fall c kind (subst (λ (x : Man). Counted c kind x) same (counted c kind)) in
            omega (arith, each Pawn, each Knight, each Bishop, each Rook, each Queen)
        | inr other ↦
            let each : (kind : Kind) → Counted c kind (record { colour = man.colour; kind = other.0 }) =
            λ kind. subst (λ (x : Man). Counted c kind x) other.3 (counted c kind) in
            promotes c man.colour man.kind other.0 _ _ _ _ _ _ _ _ _ _ _ _ _ _ _ other.1 other.2 (each Pawn) (each Knight) (each Bishop) (each Rook) (each Queen) before
      ]

-- a listed move, with the man who makes it
record Moved (p : PositionParts) (m : MoveParts) : Type 0 where
  from : m.from < 64
  to : m.to < 64
  pseudo : is_pseudo p m ≡ true
  man : Man
  here : man_on p m.from ≡ Some man

moved : (p : PositionParts) (m : MoveParts) → Contains (legal_moves p) m → Moved p m
moved p m listed =
    let (on, legal) = listed_legal p m listed in
    let pseudo : is_pseudo p m ≡ true = legal_pseudo p m legal in
    let (man, here) : (man : Man) × (man_on p m.from ≡ Some man) = pseudo_man p m pseudo in
    record { from = on.from; to = on.to; pseudo = pseudo; man = man; here = here }

pub men_never_rise : (p : PositionParts) (m : MoveParts) → IsWellFormed p → Contains (legal_moves p) m → (c : Colour) →
    men_of (after p m).placement c ≤ men_of p.placement c
men_never_rise p m well listed = let x = moved p m listed in men_fall p m x.man well.setup x.from x.to x.here x.pseudo

pub pawns_never_rise : (p : PositionParts) (m : MoveParts) → IsWellFormed p → Contains (legal_moves p) m → (c : Colour) →
    how_many c Pawn (after p m).placement ≤ how_many c Pawn p.placement
pawns_never_rise p m well listed = let x = moved p m listed in pawns_fall p m x.man well.setup x.from x.to x.here x.pseudo

pub armies_stay : (p : PositionParts) (moves : List MoveParts) → IsWellFormed p → AreListed p moves → (c : Colour) → IsArmy c p.placement →
    IsArmy c (play p moves).placement
armies_stay p [] well h c before = before
armies_stay p (m ∷ moves) well h c before =
    let x = moved p m h.0 in
    armies_stay (after p m) moves (stays_well p m well h.0) h.1 c (army p m x.man well.setup x.from x.to x.here x.pseudo c before)
