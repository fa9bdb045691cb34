-- All legal moves are those of the free pawns, counted at once, and those of the other men, counted one after another.
use Rattle.std.proofs.Common.{◌≡◌, ℕ, zero, suc, ◌+◌, ◌*◌, ◌<◌, Bool, true, false, cond, not, ◌&&◌, ltb, List, Some, None, length, filter, length-append, refl, sym, ap, ◌∙◌, arith, inl, inr}
use Rattle.std.specs.List.{range_with_len, flat_map, list_all}
use Rattle.std.specs.Ordering.{nat_cmp}
use Rattle.std.specs.FinSet.{FinSet, contains, difference, contains-difference}
use Rattle.std.proofs.lemmas.Cmp.{nat_cmp_total}
use Rattle.std.proofs.Math.Bool.{and-false}
use Rattle.std.proofs.lemmas.Bool.{and_parts, cases_Bool, not-true, lt-ltb}
use Rattle.chess_types.specs.declared.board.man.Colour.{Colour}
use Rattle.chess_types.specs.declared.board.man.Kind.TheVariants.{Pawn}
use Rattle.chess_types.specs.board.Men.{is_man, is_of, opponent}
use Rattle.chess_types.specs.board.Attack.{leaps}
use Rattle.chess_types.specs.board.Squares.{squares}
use Rattle.chess_types.specs.board.Position.{PositionParts, IsSetup, man_on, cell_of}
use Rattle.chess_types.specs.board.Legal.{is_legal, legal_moves, moves_from}
use Rattle.chess_types.specs.steps.KeptSets.{Gathers}
use Rattle.chess_types.proofs.SameLemmas.{is_man_is}
use Rattle.chess_types.proofs.Sums.{bit, total, total-agree, total-add, total-zero}
use Rattle.chess_attack.specs.Pins.{permits, is_pinned}
use Rattle.chess_attack.proofs.Lifted.{OnlyKing, only_king}
use Rattle.chess_attack.proofs.Flips.{leap_back}
use Rattle.chess_moves.specs.steps.PawnCounts.{AreFree, pair, pairs, plain_moves}
use Rattle.chess_moves.specs.steps.Kinds.{Begun}
use Rattle.chess_moves.specs.steps.Targets.{promotes}
use Rattle.chess_moves.specs.declared.guard.CheckInfo.{CheckInfo}
use Rattle.chess_moves.specs.steps.Guarded.{IsGuard}
use Rattle.chess_moves.proofs.Reach.{all_in}
use Rattle.chess_moves.proofs.Candidates.{from_other}
use Rattle.chess_moves.proofs.FreePawns.{free_pawns, passes, lets, lets_last}
use Rattle.chess_moves.proofs.LegalTargets.{no_target, target_apart}
use Rattle.chess_moves.proofs.PawnShifts.{pairs_total}
use Rattle.chess_moves.proofs.Pieces.{pieces, pieces_first, all_pieces}
use Rattle.chess_moves.proofs.SetCounts.{pieces_total}

add_up :
    {n w f o k a l r x y : ℕ} → x ≡ a → y ≡ l → k ≡ o → f ≡ a + 3 * l + r → r ≡ 0 → w ≡ f + o → n ≡ w → x + 3 * y + k ≡ n
add_up {n} {w} {f} {o} {k} {a} {l} {r} {x} {y} e1 e2 e3 e4 e5 e6 e7 = omega (arith, e1, e2, e3, e4, e5, e6, e7)

module _ (p : PositionParts) where
  abbrev pub weight : ℕ → ℕ
  weight s = length (filter (is_legal p) (moves_from s))

  pub kept_total : (keep : ℕ → Bool) (a n : ℕ) → length (pieces (is_legal p) moves_from (filter keep (range_with_len a n))) ≡ total (λ s. cond (keep s) (weight s) 0) a n
  unfolding total
  kept_total keep a zero = refl
  kept_total keep a (suc n) =
      let rest : length (pieces (is_legal p) moves_from (filter keep (range_with_len (a + 1) n))) ≡ total (λ s. cond (keep s) (weight s) 0) (a + 1) n = kept_total keep (a + 1) n in
      elim (cases_Bool (keep a)) [
        | inl kept ↦
            rw kept
            (ap length (pieces_first (is_legal p) moves_from a (filter keep (range_with_len (a + 1) n)))
            ∙ length-append (filter (is_legal p) (moves_from a)) (pieces (is_legal p) moves_from (filter keep (range_with_len (a + 1) n)))
            ∙ ap (λ x. weight a + x) rest)
        | inr out ↦ rw out (omega (arith, rest))
      ]

  pub all_total : length (legal_moves p) ≡ total weight 0 64
  unfolding legal_moves squares
  all_total = ap length (all_pieces (is_legal p)) ∙ pieces_total (is_legal p) moves_from weight 0 64 (λ x low high. refl)

  module _ (setup : IsSetup p) (k : ℕ) (king : OnlyKing (man_on p) p.side k) (own free mask : FinSet nat_cmp) (of_own : Gathers own (is_of p.side) (man_on p))
      (are_free : AreFree p (contains free)) (guards : (b : ℕ) → b < 64 → contains mask b ≡ permits (man_on p) p.side k b) where
    -- a man is a free pawn, another of the side to move, or has no move
    part : (s : ℕ) → s < 64 → weight s ≡ cond (contains free s) (weight s) 0 + cond (contains (difference own free) s) (weight s) 0
    part s hs =
        let other : contains (difference own free) s ≡ (contains own s && not (contains free s)) = contains-difference nat_cmp_total own free s in
        elim (cases_Bool (contains free s)) [
          | inl one ↦
              let none : contains (difference own free) s ≡ false = other ∙ ap (λ x. contains own s && not x) one ∙ and-false (contains own s) in
              rw (one, none) (omega arith)
          | inr not_one ↦
              elim (cases_Bool (contains own s)) [
                | inl mine ↦
                    let this : contains (difference own free) s ≡ true = other ∙ rw (mine, not_one) refl in
                    rw (not_one, this) (omega arith)
                | inr theirs ↦
                    let none : contains (difference own free) s ≡ false = other ∙ rw theirs refl in
                    let still : weight s ≡ 0 = ap length (from_other p s (sym (of_own s) ∙ theirs)) in
                    rw (not_one, none) (omega (arith, still))
              ]
        ]

    same_pairs : (good same : ℕ → Bool) → ((b : ℕ) → b < 64 → good b ≡ same b) → pairs p (contains free) good ≡ total (λ a. total (λ b. bit (pair p (contains free) same a b)) 0 64) 0 64
    same_pairs good same alike =
        pairs_total p (contains free) good
        ∙ total-agree (λ a. total (λ b. bit (pair p (contains free) good a b)) 0 64) (λ a. total (λ b. bit (pair p (contains free) same a b)) 0 64) 0 64
        (λ a low high. total-agree (λ b. bit (pair p (contains free) good a b)) (λ b. bit (pair p (contains free) same a b)) 0 64
        (λ b lo hi. ap (λ x. bit (pair p (contains free) (λ y. x) a b)) (alike b (omega arith))))

    nothing : total (λ a. total (λ b. bit (contains free a && passes p setup k king a b)) 0 64) 0 64 ≡ 0
    nothing =
        total-agree (λ a. total (λ b. bit (contains free a && passes p setup k king a b)) 0 64) (λ a. 0) 0 64
        (λ a low high. total-agree (λ b. bit (contains free a && passes p setup k king a b)) (λ b. 0) 0 64
        (λ b lo hi.
        elim (cases_Bool (contains free a)) [
          | inr off ↦ rw off refl
          | inl on ↦ rw (on, are_free.no_passing a b (omega arith) (omega arith) on) refl
        ]) ∙ total-zero (λ b. 0) 0 64 (λ b. refl))
        ∙ total-zero (λ a. 0) 0 64 (λ a. refl)

    -- THE NUMBER OF LEGAL MOVES
    pub all_counted : plain_moves p (contains free) (contains mask) + length (filter (is_legal p) (flat_map moves_from (filter (contains (difference own free)) squares))) ≡ length (legal_moves p)
    unfolding squares
    all_counted =
        let split : total weight 0 64 ≡ total (λ s. cond (contains free s) (weight s) 0) 0 64 + total (λ s. cond (contains (difference own free) s) (weight s) 0) 0 64 =
        total-agree weight (λ s. cond (contains free s) (weight s) 0 + cond (contains (difference own free) s) (weight s) 0) 0 64 (λ s low high. part s (omega arith))
        ∙ total-add (λ s. cond (contains free s) (weight s) 0) (λ s. cond (contains (difference own free) s) (weight s) 0) 0 64 in
        let pawns = free_pawns p setup k king (contains free) (λ a ha on. (are_free.here a ha on, are_free.unpinned a ha on)) in
        let all : pairs p (contains free) (contains mask) ≡ total (λ a. total (λ b. bit (pair p (contains free) (lets p setup k king) a b)) 0 64) 0 64 =
        same_pairs (contains mask) (lets p setup k king) guards in
        let last : pairs p (contains free) (λ b. contains mask b && promotes p.side Pawn b) ≡ total (λ a. total (λ b. bit (pair p (contains free) (lets_last p setup k king) a b)) 0 64) 0 64 =
        same_pairs (λ b. contains mask b && promotes p.side Pawn b) (lets_last p setup k king) (λ b hb. ap (λ x. x && promotes p.side Pawn b) (guards b hb)) in
        add_up all last (kept_total (contains (difference own free)) 0 64) pawns nothing split all_total

-- ---- who is free

module _ (p : PositionParts) (setup : IsSetup p) (pawns pinned loose : FinSet nat_cmp) (of_pawns : Gathers pawns (λ there. is_man there p.side Pawn) (man_on p))
    (of_pinned : (s : ℕ) → s < 64 → contains pinned s ≡ is_pinned (man_on p) p.side s) (is : loose ≡ difference pawns pinned) where
  loose_parts : (a : ℕ) → contains loose a ≡ true → (contains pawns a ≡ true) × (not (contains pinned a) ≡ true)
  loose_parts a h = and_parts _ _ (sym (ap (λ s. contains s a) is ∙ contains-difference nat_cmp_total pawns pinned a) ∙ h)

  here_of : (a : ℕ) → contains loose a ≡ true → man_on p a ≡ cell_of p.side Pawn
  here_of a h = is_man_is (man_on p a) p.side Pawn (sym (of_pawns a) ∙ (loose_parts a h).0)

  unpinned_of : (a : ℕ) → a < 64 → contains loose a ≡ true → is_pinned (man_on p) p.side a ≡ false
  unpinned_of a ha h = sym (of_pinned a ha) ∙ not-true _ (loose_parts a h).1

  pub free_none : p.target ≡ None → AreFree p (contains loose)
  free_none none = record {
    here = λ a ha h. here_of a h;
    unpinned = unpinned_of;
    no_passing = λ a b ha hb h. no_target p setup a b ha hb none;
  }

  pub free_some : (t : ℕ) (other : Colour) (back free : FinSet nat_cmp) → p.target ≡ Some t → other ≡ opponent p.side →
      ((s : ℕ) → contains back s ≡ (ltb s 64 && leaps other Pawn t s)) → free ≡ difference loose back → AreFree p (contains free)
  free_some t other back free some theirs of_back less =
      let parts : (a : ℕ) → contains free a ≡ true → (contains loose a ≡ true) × (not (contains back a) ≡ true) =
      λ a h. and_parts _ _ (sym (ap (λ s. contains s a) less ∙ contains-difference nat_cmp_total loose back a) ∙ h) in
      record {
        here = λ a ha h. here_of a (parts a h).0;
        unpinned = λ a ha h. unpinned_of a ha (parts a h).0;
        no_passing = λ a b ha hb h.
            let off : leaps p.side Pawn a t ≡ false =
            sym (leap_back p.side Pawn a t) ∙ ap (λ c. leaps c Pawn t a) (sym theirs) ∙ ap (λ l. l && leaps other Pawn t a) (sym (lt-ltb a 64 ha)) ∙ sym (of_back a) ∙ not-true _ (parts a h).1 in
            target_apart p setup a b ha hb t some off;
      }

pub begun :
    (p q : PositionParts) (setup : IsSetup p) (info : CheckInfo) (guard : IsGuard info p) (own free others : FinSet nat_cmp) (count : ℕ) (rest : List ℕ) →
    Gathers own (is_of p.side) (man_on p) → AreFree p (contains free) → others ≡ difference own free → q ≡ p → count ≡ plain_moves q (contains free) (contains info.check_mask) →
    rest ≡ filter (contains others) squares → Begun p count rest
unfolding squares
begun p q setup info guard own free others count rest of_own are_free is same counted items =
    let king : OnlyKing (man_on p) p.side info.king = only_king p.placement p.side info.king (setup.kings p.side) guard.on_board guard.king in
    let listed : rest ≡ filter (contains (difference own free)) squares = items ∙ ap (λ s. filter (contains s) squares) is in
    record {
      own = ap (list_all (λ s. is_of p.side (man_on p s))) listed
          ∙ all_in (λ s. is_of p.side (man_on p s)) (contains (difference own free)) 0 64
          (λ s within in_set. sym (of_own s) ∙ (and_parts _ _ (sym (contains-difference nat_cmp_total own free s) ∙ in_set)).0);
      left = ap (λ x. x + length (filter (is_legal p) (flat_map moves_from rest))) (counted ∙ ap (λ (r : PositionParts). plain_moves r (contains free) (contains info.check_mask)) same)
          ∙ ap (λ xs. plain_moves p (contains free) (contains info.check_mask) + length (filter (is_legal p) (flat_map moves_from xs))) listed
          ∙ all_counted p setup info.king king own free info.check_mask of_own are_free guard.check_mask;
    }
