-- Where a man's legal moves go, by where he goes and what guards his king; and what the moves there name.
use Rattle.std.proofs.Common.{if◌then◌else◌, ◌≡◌, ℕ, ◌+◌, ◌/◌, ◌<◌, ◌==◌, Bool, true, false, cond, not, ◌&&◌, ◌||◌, [], filter, Option, Some, None, refl, sym, ap, ◌∙◌, inl, inr}
use Rattle.std.specs.Ordering.{nat_cmp}
use Rattle.std.specs.FinSet.{FinSet, contains, insert}
use Rattle.std.proofs.Math.Bool.{and-true, and-false}
use Rattle.std.proofs.lemmas.Bool.{and_parts, and_from, cases_Bool, true≢false, or_cases, or_left, or_right, or_parts, eqb-true, not-true, eq-eqb}
use Rattle.chess_types.specs.declared.board.man.Colour.{Colour}
use Rattle.chess_types.specs.declared.board.man.Kind.{Kind}
use Rattle.chess_types.specs.declared.board.man.Kind.TheVariants.{Pawn, Knight, Bishop, Rook, Queen, King}
use Rattle.chess_types.specs.declared.board.man.Man.{Man}
use Rattle.chess_types.specs.declared.board.position.Wing.{Wing}
use Rattle.chess_types.specs.declared.board.position.Wing.TheVariants.{KingSide, QueenSide}
use Rattle.chess_types.specs.board.Squares.{file_of, rank_of}
use Rattle.chess_types.specs.board.Men.{is_pawn, is_king}
use Rattle.chess_types.specs.board.Attack.{in_check}
use Rattle.chess_types.specs.board.MoveParts.{MoveParts}
use Rattle.chess_types.specs.board.Position.{PositionParts, IsSetup, man_on, cell_of, king_home}
use Rattle.chess_types.specs.board.Pseudo.{is_capturable, is_target, last_rank, moves_as_it_attacks, castles_to, castles, reached, steps_one, steps_two, pawn_takes, is_pseudo}
use Rattle.chess_types.specs.board.Legal.{is_legal, moves_between}
use Rattle.chess_types.specs.board.After.{after, is_en_passant, is_castling}
use Rattle.chess_types.proofs.TargetLemmas.{target_not_last}
use Rattle.chess_attack.specs.Pins.{permits, keeps_line}
use Rattle.chess_attack.proofs.Flips.{equal_flip}
use Rattle.chess_attack.proofs.Lifted.{OnlyKing}
use Rattle.chess_attack.proofs.Reached.{inserted}
use Rattle.chess_play.proofs.Facts.{Facts, facts}
use Rattle.chess_play.proofs.Pawns.{target_is}
use Rattle.chess_play.proofs.CastlingSquares.{castles_is}
use Rattle.chess_play.specs.Castling.{may_castle}
use Rattle.chess_moves.specs.steps.Guarded.{is_safe_step}
use Rattle.chess_moves.specs.steps.Targets.{move_to, is_pseudo_target, is_plain_target, is_passing_target, promotes, promotion_fits, promotion_kinds, moves_named, is_legal_target}
use Rattle.chess_types.specs.board.Attack.{leaps}
use Rattle.chess_types.proofs.SameLemmas.{pawn_no_king}
use Rattle.chess_types.proofs.MoveLemmas.{ahead_file}
use Rattle.chess_moves.proofs.Candidates.{pseudo_is, between_plain, between_promoted}
use Rattle.chess_moves.proofs.CastleLaw.{castling_is_safe}
use Rattle.chess_moves.proofs.PinLaws.{safe_move, safe_king_move}

or_false : (a b : Bool) → b ≡ false → (a || b) ≡ a
or_false true b h = refl
or_false false b h = h

-- a square added where a test holds
pub inserted_if : (old new : FinSet nat_cmp) (t s : ℕ) (b : Bool) → new ≡ cond b (insert old t) old → contains new s ≡ (contains old s || (b && (t == s)))
inserted_if old new t s true is = ap (λ x. contains x s) is ∙ inserted old t s
inserted_if old new t s false is = ap (λ x. contains x s) is ∙ sym (or_false (contains old s) false refl)

-- the man of the side to move
abbrev pub mine : PositionParts → Kind → Man
mine p kind = record { colour = p.side; kind = kind }

-- what the move of `lands` names
abbrev pub named : Colour → Kind → ℕ → Option Kind
named side kind b = if promotes side kind b then Some Queen else None

named_well : (side : Colour) (kind : Kind) (a b : ℕ) → promotion_fits side kind (move_to a b (named side kind b)) ≡ true
named_well side kind a b =
    elim (cases_Bool (promotes side kind b)) [
      | inl last ↦ rw last refl
      | inr stays ↦ rw stays refl
    ]

-- a pawn that steps stays on its file
steps_file : (p : PositionParts) (a b : ℕ) → (steps_one p (move_to a b None) || steps_two p (move_to a b None)) ≡ true → file_of a ≡ file_of b
steps_file p a b h =
    elim (or_cases (steps_one p (move_to a b None)) (steps_two p (move_to a b None)) h) [
      | inl x ↦ ahead_file p.side a b (and_parts _ _ x).0
      | inr x ↦
          let c = and_parts _ _ x in
          let d = and_parts _ _ c.0 in
          let e = and_parts _ _ d.0 in
          let f = and_parts _ _ e.0 in
          ahead_file p.side a ((a + b) / 2) f.1 ∙ ahead_file p.side ((a + b) / 2) b e.1
    ]

or_join : (s l p t : Bool) → (s || (l && (p || t))) ≡ ((s || (l && p)) || (l && t))
or_join true l p t = refl
or_join false true p t = refl
or_join false false p t = refl

-- a pawn goes plainly, or en passant
pawn_go : (p : PositionParts) (a b : ℕ) → is_pseudo_target p Pawn a b ≡ (is_plain_target p Pawn a b || is_passing_target p a b)
unfolding is_pseudo_target is_plain_target
pawn_go p a b = or_join (steps_one p (move_to a b None) || steps_two p (move_to a b None)) (leaps p.side Pawn a b) (is_capturable p.side (man_on p b)) (is_target p.target b)

module _ (p : PositionParts) (setup : IsSetup p) (a b : ℕ) (ha : a < 64) (hb : b < 64) where
  -- where no pawn passes there is no capture en passant
  pub no_passing : (promo : Option Kind) → is_passing_target p a b ≡ false → is_pseudo_target p Pawn a b ≡ true → is_en_passant p.target (mine p Pawn) (move_to a b promo) ≡ false
  unfolding is_pseudo_target
  no_passing promo plain go =
      elim (cases_Bool (is_en_passant p.target (mine p Pawn) (move_to a b promo))) [
        | inr e ↦ e
        | inl e ↦
            let q : (is_target p.target b ≡ true) × (not (file_of a == file_of b) ≡ true) = and_parts _ _ e in
            elim (or_cases (steps_one p (move_to a b None) || steps_two p (move_to a b None)) (pawn_takes p (move_to a b None)) go) [
              | inl s ↦ absurd (true≢false (sym (eq-eqb _ _ (steps_file p a b s)) ∙ not-true _ q.1))
              | inr t ↦ absurd (true≢false (sym (and_from _ _ (and_parts _ _ t).0 q.0) ∙ plain))
            ]
      ]

  -- the target lies on no last rank
  pub passing_stays : is_target p.target b ≡ true → promotes p.side Pawn b ≡ false
  passing_stays h = target_not_last p.side (man_on p) b (setup.target b (target_is p.target b h))

  module _ (kind : Kind) (here : man_on p a ≡ cell_of p.side kind) (k : ℕ) (king : OnlyKing (man_on p) p.side k) where
    -- a move of a man other than the king that isn't en passant
    pub man_legal :
        (promo : Option Kind) → is_king kind ≡ false → (is_pseudo_target p kind a b ≡ true → is_en_passant p.target (mine p kind) (move_to a b promo) ≡ false) →
        promotion_fits p.side kind (move_to a b promo) ≡ true →
        is_legal p (move_to a b promo) ≡ (is_pseudo_target p kind a b && (permits (man_on p) p.side k b && keeps_line (man_on p) p.side a k b))
    unfolding is_legal
    man_legal promo other plain fits =
        elim (cases_Bool (is_pseudo_target p kind a b)) [
          | inr stay ↦
              let no_pseudo : is_pseudo p (move_to a b promo) ≡ false = pseudo_is p kind (move_to a b promo) here ∙ rw stay refl in
              rw (no_pseudo, stay) refl
          | inl go ↦
              let pseudo : is_pseudo p (move_to a b promo) ≡ true = pseudo_is p kind (move_to a b promo) here ∙ rw (go, fits) refl in
              let f : Facts p (mine p kind) (move_to a b promo) = facts p (move_to a b promo) setup ha hb (mine p kind) here pseudo in
              rw (pseudo, go) (safe_move p (mine p kind) (move_to a b promo) setup ha hb f (plain go) k king other)
        ]

  -- a pawn, where it doesn't pass
  pub pawn_lands :
      (k : ℕ) → man_on p a ≡ cell_of p.side Pawn → OnlyKing (man_on p) p.side k → is_passing_target p a b ≡ false →
      is_legal_target p Pawn a b ≡ (is_plain_target p Pawn a b && (permits (man_on p) p.side k b && keeps_line (man_on p) p.side a k b))
  unfolding is_legal_target
  pawn_lands k here king plain =
      man_legal Pawn here k king (named p.side Pawn b) refl (no_passing (named p.side Pawn b) plain) (named_well p.side Pawn a b)
      ∙ ap (λ x. x && (permits (man_on p) p.side k b && keeps_line (man_on p) p.side a k b)) (pawn_go p a b ∙ or_false (is_plain_target p Pawn a b) (is_passing_target p a b) plain)

  -- and where it does
  pub passing_pseudo : man_on p a ≡ cell_of p.side Pawn → is_passing_target p a b ≡ true → is_pseudo p (move_to a b None) ≡ true
  passing_pseudo here pass =
      let stays : promotes p.side Pawn b ≡ false = passing_stays (and_parts _ _ pass).1 in
      let go : is_pseudo_target p Pawn a b ≡ true = pawn_go p a b ∙ or_right (is_plain_target p Pawn a b) (is_passing_target p a b) pass in
      pseudo_is p Pawn (move_to a b None) here ∙ rw (go, stays) refl

  pub passing_lands : man_on p a ≡ cell_of p.side Pawn → is_passing_target p a b ≡ true → is_legal_target p Pawn a b ≡ not (in_check (man_on (after p (move_to a b None))) p.side)
  unfolding is_legal_target is_legal
  passing_lands here pass =
      let stays : promotes p.side Pawn b ≡ false = passing_stays (and_parts _ _ pass).1 in
      rw stays (ap (λ x. x && not (in_check (man_on (after p (move_to a b None))) p.side)) (passing_pseudo here pass))

  -- a knight, a bishop, a rook or a queen
  pub man_lands :
      (kind : Kind) (k : ℕ) → man_on p a ≡ cell_of p.side kind → OnlyKing (man_on p) p.side k → is_king kind ≡ false → is_pawn kind ≡ false →
      is_pseudo_target p kind a b ≡ is_plain_target p kind a b →
      is_legal_target p kind a b ≡ (is_plain_target p kind a b && (permits (man_on p) p.side k b && keeps_line (man_on p) p.side a k b))
  unfolding is_legal_target
  man_lands kind k here king not_king not_pawn same =
      man_legal kind here k king (named p.side kind b) not_king (λ go. rw not_pawn refl) (named_well p.side kind a b)
      ∙ ap (λ x. x && (permits (man_on p) p.side k b && keeps_line (man_on p) p.side a k b)) same

  -- no pawn passes where the target isn't a square that it attacks
  pub no_target : p.target ≡ None → is_passing_target p a b ≡ false
  no_target none = ap (λ t. leaps p.side Pawn a b && is_target t b) none ∙ and-false (leaps p.side Pawn a b)

  pub target_apart : (t : ℕ) → p.target ≡ Some t → leaps p.side Pawn a t ≡ false → is_passing_target p a b ≡ false
  target_apart t is off =
      elim (cases_Bool (t == b)) [
        | inl e ↦ ap (λ x. x && is_target p.target b) (ap (leaps p.side Pawn a) (sym (eqb-true t b e)) ∙ off)
        | inr e ↦ ap (λ x. leaps p.side Pawn a b && is_target x b) is ∙ rw e (and-false (leaps p.side Pawn a b))
      ]

  pub target_other : (t : ℕ) → p.target ≡ Some t → (t == b) ≡ false → is_passing_target p a b ≡ false
  target_other t is e = ap (λ x. leaps p.side Pawn a b && is_target x b) is ∙ rw e (and-false (leaps p.side Pawn a b))

  -- a man other than a pawn or the king goes in no special way
  pub man_go : (kind : Kind) → is_king kind ≡ false → is_pawn kind ≡ false → is_pseudo_target p kind a b ≡ is_plain_target p kind a b
  unfolding is_pseudo_target is_plain_target
  man_go Pawn not_king not_pawn = absurd (true≢false not_pawn)
  man_go King not_king not_pawn = absurd (true≢false not_king)
  man_go _ not_king not_pawn = refl

  -- the king
  pub king_lands :
      man_on p a ≡ cell_of p.side King → OnlyKing (man_on p) p.side a →
      is_legal_target p King a b
      ≡ (((is_plain_target p King a b && is_safe_step p a b) || castles p KingSide (move_to a b None)) || castles p QueenSide (move_to a b None))
  unfolding is_legal_target is_legal is_pseudo_target is_plain_target
  king_lands here king =
      let m : MoveParts = move_to a b None in
      elim (cases_Bool (is_pseudo_target p King a b)) [
        | inr stay ↦
            let no_pseudo : is_pseudo p m ≡ false = pseudo_is p King m here ∙ rw stay refl in
            let q : ((moves_as_it_attacks p King m || castles p KingSide m) ≡ false) × (castles p QueenSide m ≡ false) = or_parts _ _ stay in
            let r : (moves_as_it_attacks p King m ≡ false) × (castles p KingSide m ≡ false) = or_parts _ _ q.0 in
            rw (no_pseudo, r.0, r.1, q.1) refl
        | inl go ↦
            let pseudo : is_pseudo p m ≡ true = pseudo_is p King m here ∙ rw go refl in
            let f : Facts p (mine p King) m = facts p m setup ha hb (mine p King) here pseudo in
            elim (cases_Bool (castles p KingSide m || castles p QueenSide m)) [
              | inl some ↦ rw pseudo (castling_is_safe p (mine p King) m setup ha hb f (castling_of m some) ∙ sym (or_last (moves_as_it_attacks p King m && is_safe_step p a b) (castles p KingSide m) (castles p QueenSide m) some))
              | inr none ↦
                  let c : (castles p KingSide m ≡ false) × (castles p QueenSide m ≡ false) = or_parts _ _ none in
                  let steps : moves_as_it_attacks p King m ≡ true =
                  sym (or_false (moves_as_it_attacks p King m) (castles p KingSide m) c.0) ∙ sym (or_false (moves_as_it_attacks p King m || castles p KingSide m) (castles p QueenSide m) c.1) ∙ go in
                  let plain : (w : Wing) → castles p w m ≡ false → is_castling (mine p King) w m ≡ false = λ w off.
                  elim (cases_Bool (is_castling (mine p King) w m)) [
                    | inr e ↦ e
                    | inl e ↦ absurd (true≢false (sym (f.castling w e) ∙ off))
                  ] in
                  rw (pseudo, steps, c.0, c.1)
                  (safe_king_move p (mine p King) m setup ha hb f refl refl (plain KingSide c.0) (plain QueenSide c.1)
                  ∙ sym (two_off (is_safe_step p a b)))
            ]
      ]
    where
      two_off : (x : Bool) → ((x || false) || false) ≡ x
      two_off true = refl
      two_off false = refl

      or_last : (x y z : Bool) → (y || z) ≡ true → ((x || y) || z) ≡ true
      or_last true y z h = refl
      or_last false y z h = h

      castling_of : (m : MoveParts) → (castles p KingSide m || castles p QueenSide m) ≡ true →
          (is_castling (mine p King) KingSide m || is_castling (mine p King) QueenSide m) ≡ true
      castling_of m some =
          elim (or_cases _ _ some) [
            | inl e ↦ or_left _ (is_castling (mine p King) QueenSide m) (and_parts (castles_to p.side KingSide m) (may_castle p KingSide) (sym (castles_is p KingSide m) ∙ e)).0
            | inr e ↦ or_right (is_castling (mine p King) KingSide m) _ (and_parts (castles_to p.side QueenSide m) (may_castle p QueenSide) (sym (castles_is p QueenSide m) ∙ e)).0
          ]

-- the squares of castling beside the king's steps
pub king_set :
    (p : PositionParts) (a to k q : ℕ) (steps : Bool) (f g : Bool) (set one two : FinSet nat_cmp) → contains set to ≡ steps →
    k ≡ reached p.side KingSide → q ≡ reached p.side QueenSide → f ≡ ((a == king_home p.side) && may_castle p KingSide) →
    g ≡ ((a == king_home p.side) && may_castle p QueenSide) → one ≡ cond f (insert set k) set → two ≡ cond g (insert one q) one →
    contains two to ≡ ((steps || castles p KingSide (move_to a to None)) || castles p QueenSide (move_to a to None))
king_set p a to k q steps f g set one two has k_is q_is f_is g_is first second =
    inserted_if one two q to g second
    ∙ ap (λ b. b || (g && (q == to))) (inserted_if set one k to f first ∙ ap (λ b. b || (f && (k == to))) has)
    ∙ (λ i. (steps || (f_is i && (k_is i == to))) || (g_is i && (q_is i == to)))
    ∙ (λ i. (steps || turned (a == king_home p.side) (may_castle p KingSide) (reached p.side KingSide) to i)
    || turned (a == king_home p.side) (may_castle p QueenSide) (reached p.side QueenSide) to i)
    ∙ (λ i. (steps || sym (castles_is p KingSide (move_to a to None)) i) || sym (castles_is p QueenSide (move_to a to None)) i)
  where
    turned : (h m : Bool) (r to : ℕ) → ((h && m) && (r == to)) ≡ ((h && (to == r)) && m)
    turned true true r to = equal_flip r to ∙ sym (and-true (to == r))
    turned true false r to = sym (and-false (to == r))
    turned false m r to = refl

-- ---- what the moves to a square name

module _ (p : PositionParts) (setup : IsSetup p) (kind : Kind) (a b k : ℕ) (ha : a < 64) (hb : b < 64) (here : man_on p a ≡ cell_of p.side kind)
    (king : OnlyKing (man_on p) p.side k) where
  -- each promotion there is legal where one is
  same_promotion : promotes p.side kind b ≡ true → (one : Kind) → promotion_fits p.side kind (move_to a b (Some one)) ≡ true →
      is_legal p (move_to a b (Some one)) ≡ is_legal_target p kind a b
  unfolding is_legal_target
  same_promotion last one fits =
      let q : (is_pawn kind ≡ true) × ((rank_of b == last_rank p.side) ≡ true) = and_parts _ _ last in
      let plain : (promo : Option Kind) → is_en_passant p.target (mine p kind) (move_to a b promo) ≡ false = λ promo.
      elim (cases_Bool (is_target p.target b)) [
        | inl t ↦ absurd (true≢false (sym q.1 ∙ passing_stays p setup a b ha hb t))
        | inr f ↦ rw (q.0, f) refl
      ] in
      man_legal p setup a b ha hb kind here k king (Some one) (pawn_no_king kind q.0) (λ go. plain (Some one)) fits
      ∙ sym (man_legal p setup a b ha hb kind here k king (named p.side kind b) (pawn_no_king kind q.0) (λ go. plain (named p.side kind b))
      (named_well p.side kind a b))

  pub lands_all : is_legal_target p kind a b ≡ true → filter (is_legal p) (moves_between a b) ≡ moves_named p.side kind a b
  unfolding is_legal_target promotion_kinds
  lands_all h =
      elim (cases_Bool (promotes p.side kind b)) [
        | inr stays ↦
            let e : is_legal p (move_to a b None) ≡ true = rw stays at h in
            between_plain p kind a b here stays ∙ rw (stays, e) refl
        | inl last ↦
            let legal : (one : Kind) → promotion_fits p.side kind (move_to a b (Some one)) ≡ true → is_legal p (move_to a b (Some one)) ≡ true =
            λ one fits. same_promotion last one fits ∙ h in
            between_promoted p kind a b here last
            ∙ rw (last, legal Queen (rw last refl), legal Rook (rw last refl), legal Bishop (rw last refl), legal Knight (rw last refl)) refl
      ]

  pub lands_none : is_legal_target p kind a b ≡ false → filter (is_legal p) (moves_between a b) ≡ []
  unfolding is_legal_target promotion_kinds
  lands_none h =
      elim (cases_Bool (promotes p.side kind b)) [
        | inr stays ↦
            let e : is_legal p (move_to a b None) ≡ false = rw stays at h in
            between_plain p kind a b here stays ∙ rw e refl
        | inl last ↦
            let off : (one : Kind) → promotion_fits p.side kind (move_to a b (Some one)) ≡ true → is_legal p (move_to a b (Some one)) ≡ false =
            λ one fits. same_promotion last one fits ∙ h in
            between_promoted p kind a b here last
            ∙ rw (off Queen (rw last refl), off Rook (rw last refl), off Bishop (rw last refl), off Knight (rw last refl)) refl
      ]
