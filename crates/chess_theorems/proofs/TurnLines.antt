-- Lines seen from the other side: repetitions, status and claims.
use Rattle.std.proofs.Common.{◌≡◌, ℕ, ◌+◌, ◌<◌, nat_le, Bool, true, false, not, ◌&&◌, ◌||◌, List, [], ◌∷◌, length, map, zero, suc, Option, Some, None, if◌then◌else◌, refl, sym, ap, subst, ◌∙◌, arith, inl, inr, count_by}
use Rattle.std.specs.Prelude.{option_map}
use Rattle.std.specs.List.{list_all, list_any, Contains}
use Rattle.std.proofs.lemmas.List.Sums.{length-filter, sum_by-cons}
use Rattle.std.proofs.lemmas.Option.{none-some}
use Rattle.std.proofs.Math.Bool.{or-false}
use Rattle.std.proofs.lemmas.Bool.{or_cases, cases_Bool, true≢false}
use Rattle.std.proofs.lemmas.Bool.Decides.{nat_tests}
use Rattle.chess_types.specs.declared.board.man.Colour.TheVariants.{White, Black}
use Rattle.chess_types.specs.declared.board.man.Man.{Man}
use Rattle.chess_types.specs.declared.board.position.Wing.TheVariants.{KingSide, QueenSide}
use Rattle.chess_types.specs.declared.board.outcome.Status.TheVariants.{Mate, Stalemate, Dead, Fivefold, Seventyfive, Play}
use Rattle.chess_types.specs.board.Squares.{squares}
use Rattle.chess_types.specs.board.Men.{opponent, same_colour, same_kind}
use Rattle.chess_types.specs.board.MoveParts.{MoveParts}
use Rattle.chess_types.specs.board.Attack.{in_check}
use Rattle.chess_types.specs.board.Position.{PositionParts, IsSetup, IsWellFormed, man_on}
use Rattle.chess_types.specs.board.After.{after}
use Rattle.chess_types.specs.board.Legal.{legal_moves}
use Rattle.chess_types.specs.board.Lines.{Line, play, positions_from, positions, last}
use Rattle.chess_types.specs.board.Dead.{is_other, holds_bishop, holds_minor, is_light, others, is_dead}
use Rattle.chess_types.specs.board.Outcome.{is_play, status_at, status, claims_at, claims}
use Rattle.chess_types.specs.board.Repetition.{same_bool, same_man, same_rights, same_target, takes_target, target_counts, counting_target, is_same, repetitions}
use Rattle.chess_types.proofs.Runs.{same_test}
use Rattle.chess_types.proofs.Sums.{bit, total-agree, sum_by-range}
use Rattle.chess_moves.proofs.GuardLemmas.{list_all-filter}
use Rattle.chess_moves.proofs.LegalLaws.{listed_legal}
use Rattle.chess_eval.specs.Mirror.{across}
use Rattle.chess_theorems.specs.DeadLaws.{AreListed}
use Rattle.chess_theorems.specs.MirrorLaws.{turned, IsTurned}
use Rattle.chess_theorems.proofs.RankTurns.{after_turns, legal_turns, over_ranks, seen}
use Rattle.chess_theorems.proofs.SeenAttacks.{all_across, check_across, there_across}
use Rattle.chess_theorems.proofs.SeenMoves.{squares_same, target_inside}
use Rattle.chess_theorems.proofs.SeenAfter.{seen_passing}
use Rattle.chess_theorems.proofs.SeenLegal.{listed_back, listed_seen, none_seen, seen_twice}
use Rattle.chess_theorems.proofs.Symmetry.{recolour}
use Rattle.chess_theorems.proofs.ListedLemmas.{stays_well}

same_man_recoloured : (a b : Option Man) → same_man (recolour opponent a) (recolour opponent b) ≡ same_man a b
same_man_recoloured None None = refl
same_man_recoloured None (Some n) = refl
same_man_recoloured (Some m) None = refl
same_man_recoloured (Some m) (Some n) = λ i. over_ranks.colours m.colour n.colour i && same_kind m.kind n.kind

swapped : (a b c d : Bool) → (c && d && a && b) ≡ (a && b && c && d)
swapped true true true true = refl
swapped true true true false = refl
swapped true true false d = refl
swapped true false true true = refl
swapped true false true false = refl
swapped true false false d = refl
swapped false b true true = refl
swapped false b true false = refl
swapped false b false d = refl

-- some listed move passes a test
met : (f : MoveParts → Bool) (moves : List MoveParts) → list_any f moves ≡ true → (m : MoveParts) × Contains moves m × (f m ≡ true)
met f [] h = absurd (true≢false (sym h))
met f (m ∷ moves) h =
    elim (or_cases _ _ h) [
      | inl here ↦ (m, (0, omega arith, refl), here)
      | inr more ↦
          let (n, (k, inside, at_k), e) = met f moves more in
          (n, (suc k, omega (arith, inside), at_k), e)
    ]

meets : (f : MoveParts → Bool) (moves : List MoveParts) (m : MoveParts) → Contains moves m → f m ≡ true → list_any f moves ≡ true
meets f [] m h e = absurd (omega (arith, h.1))
meets f (n ∷ moves) m (zero, inside, at_k) e = let x : f n ≡ true = ap f at_k ∙ e in rw x refl
meets f (n ∷ moves) m (suc k, inside, at_k) e =
    elim (cases_Bool (f n)) [
      | inl x ↦ rw x refl
      | inr x ↦ rw x (meets f moves m (k, omega (arith, inside), at_k) e)
    ]

-- a capture on the target is one there, turned
takes_turns : (p q : PositionParts) → IsSetup p → IsTurned p q → (m : MoveParts) → m.from < 64 → m.to < 64 →
    takes_target q (man_on q (across m.from)) (turned m) ≡ takes_target p (man_on p m.from) m
takes_turns p q setup both m from to =
    ap (λ there. takes_target q there (turned m)) (there_across across opponent over_ranks (man_on p) (man_on q) (seen both).board m.from from) ∙ by_man (man_on p m.from)
  where
    by_man : (there : Option Man) → takes_target q (recolour opponent there) (turned m) ≡ takes_target p there m
    by_man None = refl
    by_man (Some man) = seen_passing across opponent over_ranks p q setup (seen both) m from to man

counts_turn : (p q : PositionParts) → IsSetup p → IsTurned p q → target_counts q ≡ target_counts p
unfolding target_counts
counts_turn p q setup both =
    let f : MoveParts → Bool = λ m. takes_target p (man_on p m.from) m in
    let g : MoveParts → Bool = λ m. takes_target q (man_on q m.from) m in
    same_test _ _
    (λ h.
    let (n, listed, e) : (n : MoveParts) × Contains (legal_moves q) n × (g n ≡ true) = met g (legal_moves q) h in
    let on = (listed_legal q n listed).0 in
    let same : g (turned (turned n)) ≡ f (turned n) = takes_turns p q setup both (turned n) (over_ranks.inside n.from on.from) (over_ranks.inside n.to on.to) in
    meets f (legal_moves p) (turned n) (listed_back across opponent over_ranks p q (legal_turns p q setup both) n listed) (sym same ∙ ap g (seen_twice across opponent over_ranks n on.from on.to) ∙ e))
    (λ h.
    let (m, listed, e) : (m : MoveParts) × Contains (legal_moves p) m × (f m ≡ true) = met f (legal_moves p) h in
    let on = (listed_legal p m listed).0 in
    meets g (legal_moves q) (turned m) (listed_seen across opponent over_ranks p q (legal_turns p q setup both) m listed) (takes_turns p q setup both m on.from on.to ∙ e))

counting_turns : (p q : PositionParts) → IsSetup p → IsTurned p q → counting_target q ≡ option_map across (counting_target p)
unfolding counting_target
counting_turns p q setup both =
    (λ i. if counts_turn p q setup both i then both.target i else None) ∙ by_test (target_counts p)
  where
    by_test : (b : Bool) → (if b then option_map across p.target else None) ≡ option_map across (if b then p.target else None)
    by_test true = refl
    by_test false = refl

counting_inside : (p : PositionParts) → IsSetup p → (t : ℕ) → counting_target p ≡ Some t → t < 64
unfolding counting_target
counting_inside p setup t h = by_test (target_counts p) h
  where
    by_test : (b : Bool) → (if b then p.target else None) ≡ Some t → t < 64
    by_test true e = target_inside p setup t e
    by_test false e = absurd (none-some t e)

same_targets : (a b : Option ℕ) → ((t : ℕ) → a ≡ Some t → t < 64) → ((t : ℕ) → b ≡ Some t → t < 64) →
    same_target (option_map across a) (option_map across b) ≡ same_target a b
same_targets None None f g = refl
same_targets None (Some t) f g = refl
same_targets (Some s) None f g = refl
same_targets (Some s) (Some t) f g = squares_same across opponent over_ranks s t (f s refl) (g t refl)

-- two positions that are turned are the same where the two are
module _ (p q r s : PositionParts) (setup : IsSetup p) (setup' : IsSetup r) (both : IsTurned p q) (both' : IsTurned r s) where
  rights_turn : same_rights q.rights s.rights ≡ same_rights p.rights r.rights
  rights_turn =
      (λ i. same_bool (both.rights Black KingSide i) (both'.rights Black KingSide i) && same_bool (both.rights Black QueenSide i) (both'.rights Black QueenSide i)
      && same_bool (both.rights White KingSide i) (both'.rights White KingSide i) && same_bool (both.rights White QueenSide i) (both'.rights White QueenSide i))
      ∙ swapped (same_bool p.rights.white_king r.rights.white_king) (same_bool p.rights.white_queen r.rights.white_queen)
      (same_bool p.rights.black_king r.rights.black_king) (same_bool p.rights.black_queen r.rights.black_queen)

  -- turned positions are the same where the positions are
  same_turns : is_same q s ≡ is_same p r
  unfolding is_same
  same_turns = λ i.
      ((λ j. same_colour (both.side j) (both'.side j)) ∙ over_ranks.colours p.side r.side) i
      && all_across across opponent over_ranks (λ t. same_man (man_on p t) (man_on r t)) (λ t. same_man (man_on q t) (man_on s t))
      (λ t h. (λ j. same_man (there_across across opponent over_ranks (man_on p) (man_on q) (seen both).board t h j) (there_across across opponent over_ranks (man_on r) (man_on s) (seen both').board t h j))
      ∙ same_man_recoloured (man_on p t) (man_on r t)) i
      && rights_turn i
      && ((λ j. same_target (counting_turns p q setup both j) (counting_turns r s setup' both' j))
      ∙ same_targets (counting_target p) (counting_target r) (counting_inside p setup) (counting_inside r setup')) i

-- each move of a line leads from turned positions to turned positions
next_turns : (p q : PositionParts) (m : MoveParts) → IsWellFormed p → IsTurned p q → Contains (legal_moves p) m → IsTurned (after p m) (after q (turned m))
next_turns p q m well both listed = let on = (listed_legal p m listed).0 in after_turns p q well.setup both m on.from on.to

last_turns : (p q : PositionParts) (moves : List MoveParts) → IsWellFormed p → IsTurned p q → AreListed p moves → IsTurned (play p moves) (play q (map turned moves))
last_turns p q [] well both h = both
last_turns p q (m ∷ moves) well both h = last_turns (after p m) (after q (turned m)) moves (stays_well p m well h.0) (next_turns p q m well both h.0) h.1

last_well : (p : PositionParts) (moves : List MoveParts) → IsWellFormed p → AreListed p moves → IsWellFormed (play p moves)
last_well p [] well h = well
last_well p (m ∷ moves) well h = last_well (after p m) moves (stays_well p m well h.0) h.1

-- so as many positions are the same as a given one
count_turns : (l k : PositionParts) → IsSetup l → IsTurned l k → (p q : PositionParts) (moves : List MoveParts) → IsWellFormed p → IsTurned p q → AreListed p moves →
    count_by (is_same k) (positions_from q (map turned moves)) ≡ count_by (is_same l) (positions_from p moves)
count_turns l k setup last_both p q [] well both h = ap (λ b. 0 + bit b) (same_turns l k p q setup well.setup last_both both)
count_turns l k setup last_both p q (m ∷ moves) well both h =
    sum_by-cons (λ x. bit (is_same k x)) q (positions_from (after q (turned m)) (map turned moves))
    ∙ (λ i. bit (same_turns l k p q setup well.setup last_both both i)
    + count_turns l k setup last_both (after p m) (after q (turned m)) moves (stays_well p m well h.0) (next_turns p q m well both h.0) h.1 i)
    ∙ sym (sum_by-cons (λ x. bit (is_same l x)) p (positions_from (after p m) moves))

-- dead men are dead from either side
bishop_recoloured : (there : Option Man) → holds_bishop (recolour opponent there) ≡ holds_bishop there
bishop_recoloured None = refl
bishop_recoloured (Some man) = refl

minor_recoloured : (there : Option Man) → holds_minor (recolour opponent there) ≡ holds_minor there
minor_recoloured None = refl
minor_recoloured (Some man) = refl

other_recoloured : (there : Option Man) → is_other (recolour opponent there) ≡ is_other there
other_recoloured None = refl
other_recoloured (Some man) = refl

light_across : (s : ℕ) → s < 64 → is_light (across s) ≡ not (is_light s)
light_across s h = grind (arith, nat_tests)

either_order : (x y : Bool) → (y || x) ≡ (x || y)
either_order true true = refl
either_order true false = refl
either_order false y = or-false y

module _ (p q : PositionParts) (both : IsTurned p q) where
  there : (s : ℕ) → s < 64 → man_on q (across s) ≡ recolour opponent (man_on p s)
  there s h = there_across across opponent over_ranks (man_on p) (man_on q) (seen both).board s h

  others_turn : (f g : ℕ → Bool) → ((s : ℕ) → s < 64 → g (across s) ≡ f s) → list_all g (others (man_on q)) ≡ list_all f (others (man_on p))
  others_turn f g same =
      list_all-filter g (λ s. is_other (man_on q s)) squares
      ∙ all_across across opponent over_ranks (λ s. not (is_other (man_on p s)) || f s) (λ s. not (is_other (man_on q s)) || g s)
      (λ s h i. not ((ap is_other (there s h) ∙ other_recoloured (man_on p s)) i) || same s h i)
      ∙ sym (list_all-filter f (λ s. is_other (man_on p s)) squares)

  as_many : length (others (man_on q)) ≡ length (others (man_on p))
  unfolding squares
  as_many =
      length-filter (λ s. is_other (man_on q s)) squares ∙ sum_by-range (λ s. bit (is_other (man_on q s))) 0 64
      ∙ sym (over_ranks.sums (λ s. bit (is_other (man_on q s))))
      ∙ total-agree (λ s. bit (is_other (man_on q (across s)))) (λ s. bit (is_other (man_on p s))) 0 64 (λ s low high.
      ap bit (ap is_other (there s (omega arith)) ∙ other_recoloured (man_on p s)))
      ∙ sym (length-filter (λ s. is_other (man_on p s)) squares ∙ sum_by-range (λ s. bit (is_other (man_on p s))) 0 64)

  dead_turns : is_dead q ≡ is_dead p
  unfolding is_dead
  dead_turns = λ i.
      (others_turn (λ s. holds_minor (man_on p s)) (λ s. holds_minor (man_on q s)) (λ s h. ap holds_minor (there s h) ∙ minor_recoloured (man_on p s)) i
      && nat_le (as_many i) 1)
      || (others_turn (λ s. holds_bishop (man_on p s)) (λ s. holds_bishop (man_on q s)) (λ s h. ap holds_bishop (there s h) ∙ bishop_recoloured (man_on p s)) i
      && ((λ j. others_turn (λ s. not (is_light s)) is_light light_across j || others_turn is_light (λ s. not (is_light s)) (λ s h. ap not (light_across s h) ∙ twice_not (is_light s)) j)
      ∙ either_order (list_all is_light (others (man_on p))) (list_all (λ s. not (is_light s)) (others (man_on p)))) i)
    where
      twice_not : (b : Bool) → not (not b) ≡ b
      twice_not true = refl
      twice_not false = refl

-- a line seen from the other side
module _ (line other : Line) (well : IsWellFormed line.start) (both : IsTurned line.start other.start) (moves : other.moves ≡ map turned line.moves)
    (listed : AreListed line.start line.moves) where
  ends : IsTurned (last line) (last other)
  unfolding last
  ends = subst (λ (ms : List MoveParts). IsTurned (play line.start line.moves) (play other.start ms)) (sym moves) (last_turns line.start other.start line.moves well both listed)

  ends_well : IsWellFormed (last line)
  unfolding last
  ends_well = last_well line.start line.moves well listed

  pub repetitions_turn : repetitions other ≡ repetitions line
  unfolding repetitions positions
  repetitions_turn =
      ap (λ (ms : List MoveParts). count_by (is_same (last other)) (positions_from other.start ms)) moves
      ∙ count_turns (last line) (last other) ends_well.setup ends line.start other.start line.moves well both listed

  pub status_turns : status other ≡ status line
  unfolding status status_at
  status_turns = λ i.
      if none_seen across opponent over_ranks (last line) (last other) (legal_turns (last line) (last other) ends_well.setup ends) i
      then (if (ap (in_check (man_on (last other))) ends.side ∙ check_across across opponent over_ranks (man_on (last line)) (man_on (last other)) (seen ends).board (last line).side) i then Mate else Stalemate)
      else (if dead_turns (last line) (last other) ends i then Dead
      else (if nat_le 5 (repetitions_turn i) then Fivefold else (if nat_le 150 (ends.clock i) then Seventyfive else Play)))

  pub claims_turn : claims other ≡ claims line
  unfolding claims
  claims_turn = λ i. claims_at (is_play (status_turns i)) (repetitions_turn i) (ends.clock i)
