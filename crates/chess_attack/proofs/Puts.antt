-- Putting a man and taking it away, from the parts: his own attacks, and those through his square.
use Rattle.std.proofs.Common.{◌≡◌, ℕ, ◌+◌, ◌<◌, ◌≤◌, ◌≢◌, true, false, ◌&&◌, Some, refl, sym, ap, ◌∙◌, arith, inl, inr}
use Rattle.std.proofs.lemmas.Bool.{and_from, cases_Bool, true≢false}
use Rattle.chess_types.specs.declared.board.axis.Axis.{Axis}
use Rattle.chess_types.specs.declared.board.axis.Axis.TheVariants.{Rank, File, Rising, Falling}
use Rattle.chess_types.specs.declared.board.man.Colour.{Colour}
use Rattle.chess_types.specs.declared.board.man.Man.{Man}
use Rattle.chess_types.specs.board.Board.{Board, Men, man_at}
use Rattle.chess_types.specs.board.Men.{same_colour}
use Rattle.chess_types.specs.board.Squares.{line_of, is_between}
use Rattle.chess_types.specs.board.Attack.{attacks_as, count}
use Rattle.chess_attack.specs.declared.change.Change.{Change}
use Rattle.chess_attack.specs.declared.change.Change.TheVariants.{Raise, Lower}
use Rattle.chess_attack.specs.declared.way.Way.{Way}
use Rattle.chess_attack.specs.declared.way.Way.TheVariants.{Up, Down}
use Rattle.chess_attack.specs.steps.Halves.{on_half, opposite}
use Rattle.chess_attack.specs.KeptCounts.{KeptCounts, AreCounts}
use Rattle.chess_attack.specs.steps.Marks.{Moves, HasRoomFor, reaches, own}
use Rattle.chess_attack.specs.steps.Through.{is_attacked_along, cut_on, cut}
use Rattle.chess_attack.proofs.Added.{Adds, clear_same, attack_kept}
use Rattle.chess_attack.proofs.Axes.{apart_from, BetweenOn, between_parts, Towards, half_parts}
use Rattle.chess_attack.proofs.Counting.{weight, count_is_total, count_small}
use Rattle.chess_attack.proofs.Cuts.{IsSeen, seen_from, seen_parts, count_cut}
use Rattle.chess_types.proofs.Sums.{bit_small, total, total-at}
use Rattle.chess_types.proofs.Runs.{same_test}

seen_to :
    (A B : Men) (axis : Axis) (way : Way) (at : ℕ) (c : Colour) → is_attacked_along A axis way at c ≡ true →
    ((t : ℕ) → t < 64 → t ≢ at → A t ≡ B t) → ((s : ℕ) → reaches A axis way at s ≡ reaches B axis way at s) → is_attacked_along B axis way at c ≡ true
seen_to A B axis way at c h same reach =
    let (f, m, seen) : (f : ℕ) × (m : Man) × IsSeen A axis way at c f m = seen_parts A axis way at c h in
    let p : (line_of axis at ≡ line_of axis f) × Towards way at f = half_parts axis way at f seen.first.half in
    let holds : B f ≡ Some m = sym (same f seen.first.on_board (λ e. apart_from way at f p.1 (sym e))) ∙ seen.first.holds in
    seen_from B axis way at c f seen.first.on_board (sym (reach f) ∙ and_from _ _ seen.first.half seen.first.clear)
    (rw holds (and_from _ _ seen.mine seen.moves))

module _ (E F : Men) (at : ℕ) (man : Man) (adds : Adds E F at man) where
  not_between : (s : ℕ) → is_between at s at ≡ false
  not_between s =
      elim (cases_Bool (is_between at s at)) [
        | inl h ↦
            let (j, b) : (j : Axis) × BetweenOn j at s at = between_parts at s at h in
            elim b.order [ inl o ↦ absurd (omega (arith, o.0)) | inr o ↦ absurd (omega (arith, o.1)) ]
        | inr h ↦ h
      ]

  -- the walks from `at` do not see what stands on it
  pub reaches_same : (axis : Axis) (way : Way) (s : ℕ) → reaches F axis way at s ≡ reaches E axis way at s
  reaches_same axis way s = ap (λ x. on_half axis way at s && x) (clear_same E F at man adds at s (not_between s))

  -- the man's own attacks are the same on both boards
  pub own_same : (m : Man) (c : Colour) (s : ℕ) → own m F at c s ≡ own m E at c s
  own_same m c s =
      let e : attacks_as m F at s ≡ attacks_as m E at s =
      attack_kept E F at man adds m at s (λ along clear inside. true≢false (sym inside ∙ not_between s)) in
      rw e refl

  pub seen_same : (axis : Axis) (way : Way) (c : Colour) → is_attacked_along F axis way at c ≡ is_attacked_along E axis way at c
  seen_same axis way c = same_test _ _
      (λ h. seen_to F E axis way at c h (λ t ht ne. adds.rest t ht ne) (λ s. reaches_same axis way s))
      (λ h. seen_to E F axis way at c h (λ t ht ne. sym (adds.rest t ht ne)) (λ s. sym (reaches_same axis way s)))

  pub cut_same : (c : Colour) (s : ℕ) → cut F at c s ≡ cut E at c s
  cut_same c s =
      let each : (axis : Axis) (way : Way) → cut_on F axis way at c s ≡ cut_on E axis way at c s =
      λ axis way. rw (seen_same axis (opposite way) c, reaches_same axis way s) refl in
      omega (arith, each Rank Up, each Rank Down, each File Up, each File Down, each Rising Up, each Rising Down, each Falling Up, each Falling Down)

pub own_small : (man : Man) (man_on : Men) (at : ℕ) (c : Colour) (s : ℕ) → own man man_on at c s ≤ 1
own_small man man_on at c s = bit_small (same_colour man.colour c && attacks_as man man_on at s)

-- a man's own attack is counted
pub own_counted : (man_on : Men) (at : ℕ) (man : Man) (c : Colour) (s : ℕ) → at < 64 → man_on at ≡ Some man → own man man_on at c s ≤ count man_on c s
own_counted man_on at man c s h holds =
    let e : weight man_on c s at ≡ own man man_on at c s = rw holds refl in
    let one : weight man_on c s at ≤ total (weight man_on c s) 0 64 = total-at (weight man_on c s) at 0 64 (omega arith) h in
    omega (arith, count_is_total man_on c s)

-- a board without the man, and the board with it
module _ (bare full : Board) (at : ℕ) (man : Man) (adds : Adds (man_at bare) (man_at full) at man) where
  whole :
      (c : Colour) (s : ℕ) → s < 64 → count (man_at full) c s + cut (man_at bare) at c s ≡ count (man_at bare) c s + own man (man_at full) at c s
  whole c s hs = count_cut (man_at bare) (man_at full) at man adds c s hs

  same_own : (c : Colour) (s : ℕ) → own man (man_at full) at c s ≡ own man (man_at bare) at c s
  same_own c s = own_same (man_at bare) (man_at full) at man adds man c s

  same_cut : (c : Colour) (s : ℕ) → cut (man_at full) at c s ≡ cut (man_at bare) at c s
  same_cut c s = cut_same (man_at bare) (man_at full) at man adds c s

  -- his attacks can come
  pub put_own : (old : KeptCounts) → AreCounts old bare → HasRoomFor Raise old (own man (man_at bare) at)
  put_own old agrees c s hs = omega (arith, agrees.each c s hs, count_small (man_at bare) c s, own_small man (man_at bare) at c s)

  -- then those through his square can go
  pub put_cut :
      (old mid : KeptCounts) → AreCounts old bare → Moves Raise old mid (own man (man_at bare) at) → HasRoomFor Lower mid (cut (man_at bare) at)
  put_cut old mid agrees more c s hs = omega (arith, agrees.each c s hs, more c s hs, whole c s hs, same_own c s)

  -- his attacks can go
  pub clear_own : (old : KeptCounts) → AreCounts old full → HasRoomFor Lower old (own man (man_at full) at)
  clear_own old agrees c s hs = omega (arith, agrees.each c s hs, own_counted (man_at full) at man c s adds.on_board adds.here)

  -- then those through his square can come
  pub clear_cut :
      (old mid : KeptCounts) → AreCounts old full → Moves Lower old mid (own man (man_at full) at) → HasRoomFor Raise mid (cut (man_at full) at)
  clear_cut old mid agrees less c s hs =
      omega (arith, agrees.each c s hs, less c s hs, whole c s hs, same_cut c s, count_small (man_at bare) c s)

  -- the board on which he is put, or from which he is taken
  abbrev pub at_first : Change → Board
  at_first Raise = bare
  at_first Lower = full

  -- the change of those through his square
  abbrev pub the_other : Change → Change
  the_other Raise = Lower
  the_other Lower = Raise

  -- and the counts are those of the board afterwards
  pub counts_after :
      (change : Change) (old mid new : KeptCounts) → AreCounts old (at_first change) → Moves change old mid (own man (man_at (at_first change)) at) →
      Moves (the_other change) mid new (cut (man_at (at_first change)) at) → AreCounts new (at_first (the_other change))
  counts_after Raise old mid new agrees more less = record {
    each = λ c s hs. omega (arith, agrees.each c s hs, more c s hs, less c s hs, whole c s hs, same_own c s);
  }
  counts_after Lower old mid new agrees less more = record {
    each = λ c s hs. omega (arith, agrees.each c s hs, less c s hs, more c s hs, whole c s hs, same_cut c s);
  }
