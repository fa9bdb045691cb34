-- A square is attacked where a man leaps there, looked at from the square, or where the first man on one of the eight halves
-- through it is one who moves along that axis.
use Rattle.std.proofs.Common.{◌≡◌, ℕ, ◌+◌, ◌<◌, ◌≤◌, Bool, true, false, ◌&&◌, ◌||◌, Option, Some, None, ltb, nat_eq, refl, sym, ap, ◌∙◌, arith, inl, inr}
use Rattle.std.specs.List.{list_any}
use Rattle.std.specs.Ordering.{nat_cmp}
use Rattle.std.specs.FinSet.{FinSet, contains, empty, intersection, union, len, contains-intersection, contains-union, contains-empty, empty_of_len}
use Rattle.std.proofs.lemmas.Cmp.{nat_cmp_total}
use Rattle.std.proofs.lemmas.Bool.{and_parts, and_from, or_cases, cases_Bool, true≢false, eqb-true, lt-ltb}
use Rattle.std.proofs.lemmas.Bool.Decides.{nat_tests}
use Rattle.std.proofs.Math.Bool.{and-false, or-true, and_comm}
use Rattle.chess_types.specs.declared.board.axis.Axis.{Axis}
use Rattle.chess_types.specs.declared.board.man.Colour.{Colour}
use Rattle.chess_types.specs.declared.board.man.Colour.TheVariants.{White, Black}
use Rattle.chess_types.specs.declared.board.man.Kind.{Kind}
use Rattle.chess_types.specs.declared.board.man.Kind.TheVariants.{Pawn, Knight, King}
use Rattle.chess_types.specs.declared.board.man.Man.{Man}
use Rattle.chess_types.specs.board.Board.{Men}
use Rattle.chess_types.specs.board.Squares.{squares}
use Rattle.chess_types.specs.board.Men.{same_colour, opponent, is_man, is_of}
use Rattle.chess_types.specs.board.Attack.{leaps, slides, slides_to, is_clear, attacks_as, attacks_for, is_attacked}
use Rattle.chess_types.specs.steps.KeptSets.{Gathers}
use Rattle.chess_types.proofs.Runs.{list_any_at, list_any_from, same_test}
use Rattle.chess_types.proofs.Sums.{bit, total, total-at, total-agree, total-zero}
use Rattle.chess_attack.specs.declared.way.Way.{Way}
use Rattle.chess_attack.specs.steps.Halves.{on_half, opposite}
use Rattle.chess_attack.specs.steps.Marks.{reaches}
use Rattle.chess_attack.specs.steps.PinHalves.{round}
use Rattle.chess_attack.specs.steps.Leaps.{leaps_there}
use Rattle.chess_attack.specs.steps.Through.{is_attacked_along, is_slider, movers}
use Rattle.chess_attack.proofs.Counting.{weight, count_is_total}
use Rattle.chess_attack.proofs.Flips.{leap_back}
use Rattle.chess_attack.proofs.XRays.{mover_is}
use Rattle.chess_attack.proofs.Cuts.{IsSeen, seen_parts, seen_from, slider_parts}
use Rattle.chess_attack.proofs.Eights.{some_half}
use Rattle.chess_attack.proofs.KingSteps.{clear_flip}
use Rattle.chess_attack.proofs.PinHalves.{half_back, round_at, round_from}
use Rattle.chess_attack.proofs.Sighted.{slides_half}
use Rattle.chess_attack.proofs.Slides.{slides_off}

pub leapers_are :
    (c : Colour) (kind : Kind) (man_on : Men) (at : ℕ) (back men : FinSet nat_cmp) →
    ((s : ℕ) → contains back s ≡ (ltb s 64 && leaps (opponent c) kind at s)) → Gathers men (λ there. is_man there c kind) man_on →
    (a : ℕ) → a < 64 → contains (intersection back men) a ≡ (leaps c kind a at && is_man (man_on a) c kind)
leapers_are c kind man_on at back men of_back of_men a ha =
    contains-intersection nat_cmp_total back men a
    ∙ (λ i. of_back a i && of_men a i)
    ∙ ap (λ b. (b && leaps (opponent c) kind at a) && is_man (man_on a) c kind) (lt-ltb a 64 ha)
    ∙ ap (λ b. b && is_man (man_on a) c kind) (leap_back c kind a at)

-- of the three kinds that leap
pawn_only : (p q r : Bool) → (((p && true) || (q && false)) || (r && false)) ≡ p
pawn_only true q r = refl
pawn_only false q r = rw (and-false q, and-false r) refl

knight_only : (p q r : Bool) → (((p && false) || (q && true)) || (r && false)) ≡ q
knight_only p true r = rw (and-false p) refl
knight_only p false r = rw (and-false p, and-false r) refl

king_only : (p q r : Bool) → (((p && false) || (q && false)) || (r && true)) ≡ r
king_only p q true = rw (and-false p, and-false q) refl
king_only p q false = rw (and-false p, and-false q) refl

none_only : (p q r : Bool) → (((p && false) || (q && false)) || (r && false)) ≡ false
none_only p q r = rw (and-false p, and-false q, and-false r) refl

abbrev leaps_one : Option Man → Colour → ℕ → ℕ → Kind → Bool
leaps_one o c a b kind = leaps c kind a b && is_man o c kind

abbrev leaps_some : Option Man → Colour → ℕ → ℕ → Bool
leaps_some o c a b = (leaps_one o c a b Pawn || leaps_one o c a b Knight) || leaps_one o c a b King

by_kind :
    (mine : Colour) (kind : Kind) (c : Colour) (a b : ℕ) → same_colour mine c ≡ true →
    leaps_some (Some (record { colour = mine; kind = kind })) c a b ≡ leaps mine kind a b
unfolding leaps
by_kind White Pawn White a b h = pawn_only (leaps White Pawn a b) (leaps White Knight a b) (leaps White King a b)
by_kind Black Pawn Black a b h = pawn_only (leaps Black Pawn a b) (leaps Black Knight a b) (leaps Black King a b)
by_kind White Knight White a b h = knight_only (leaps White Pawn a b) (leaps White Knight a b) (leaps White King a b)
by_kind Black Knight Black a b h = knight_only (leaps Black Pawn a b) (leaps Black Knight a b) (leaps Black King a b)
by_kind White King White a b h = king_only (leaps White Pawn a b) (leaps White Knight a b) (leaps White King a b)
by_kind Black King Black a b h = king_only (leaps Black Pawn a b) (leaps Black Knight a b) (leaps Black King a b)
by_kind White _ White a b h = none_only (leaps White Pawn a b) (leaps White Knight a b) (leaps White King a b)
by_kind Black _ Black a b h = none_only (leaps Black Pawn a b) (leaps Black Knight a b) (leaps Black King a b)
by_kind White _ Black a b h = absurd (true≢false (sym h))
by_kind Black _ White a b h = absurd (true≢false (sym h))

pub three_kinds : (o : Option Man) (c : Colour) (a b : ℕ) → leaps_some o c a b ≡ leaps_there o c a b
three_kinds None c a b = none_only (leaps c Pawn a b) (leaps c Knight a b) (leaps c King a b)
three_kinds (Some man) c a b =
    elim (cases_Bool (same_colour man.colour c)) [
      | inl same ↦ by_kind man.colour man.kind c a b same ∙ sym (ap (λ x. x && leaps man.colour man.kind a b) same)
      | inr other ↦ rw other (none_only (leaps c Pawn a b) (leaps c Knight a b) (leaps c King a b))
    ]

pub leapers_all :
    (man_on : Men) (c : Colour) (at : ℕ) (pawns knights kings : FinSet nat_cmp) →
    ((a : ℕ) → a < 64 → contains pawns a ≡ (leaps c Pawn a at && is_man (man_on a) c Pawn)) →
    ((a : ℕ) → a < 64 → contains knights a ≡ (leaps c Knight a at && is_man (man_on a) c Knight)) →
    ((a : ℕ) → a < 64 → contains kings a ≡ (leaps c King a at && is_man (man_on a) c King)) →
    (a : ℕ) → a < 64 → contains (union (union pawns knights) kings) a ≡ leaps_there (man_on a) c a at
leapers_all man_on c at pawns knights kings of_pawns of_knights of_kings a ha =
    contains-union nat_cmp_total (union pawns knights) kings a
    ∙ ap (λ b. b || contains kings a) (contains-union nat_cmp_total pawns knights a)
    ∙ (λ i. (of_pawns a ha i || of_knights a ha i) || of_kings a ha i)
    ∙ three_kinds (man_on a) c a at

-- ---- sliders

slider_is : (o : Option Man) (axis : Axis) (c : Colour) → (movers axis o && is_of c o) ≡ is_slider o axis c
slider_is None axis c = and-false (movers axis None)
slider_is (Some man) axis c =
    and_comm (movers axis (Some man)) (same_colour man.colour c) ∙ ap (λ b. same_colour man.colour c && b) (mover_is axis man.kind man.colour)

pub sliders_are :
    (man_on : Men) (axis : Axis) (c : Colour) (all mine : FinSet nat_cmp) → Gathers all (movers axis) man_on → Gathers mine (is_of c) man_on →
    Gathers (intersection all mine) (λ there. is_slider there axis c) man_on
sliders_are man_on axis c all mine of_all of_mine = λ s.
    contains-intersection nat_cmp_total all mine s ∙ (λ i. of_all s i && of_mine s i) ∙ slider_is (man_on s) axis c

-- where the set of those men has none on a half, none is there
pub free_half :
    (man_on : Men) (axis : Axis) (way : Way) (at : ℕ) (c : Colour) (half men : FinSet nat_cmp) →
    ((s : ℕ) → contains half s ≡ (ltb s 64 && on_half axis way at s)) → Gathers men (λ there. is_slider there axis c) man_on →
    nat_eq (len (intersection half men)) 0 ≡ true → (t : ℕ) → t < 64 → on_half axis way at t ≡ true → is_slider (man_on t) axis c ≡ false
free_half man_on axis way at c half men of_half of_men none t ht on =
    let bare : intersection half men ≡ empty = empty_of_len (intersection half men) (eqb-true _ _ none) in
    let here : contains half t ≡ true = of_half t ∙ rw (lt-ltb t 64 ht, on) refl in
    sym (of_men t) ∙ sym (ap (λ b. b && contains men t) here) ∙ sym (contains-intersection nat_cmp_total half men t)
    ∙ ap (λ s. contains s t) bare ∙ contains-empty nat_cmp t

-- so nothing is seen there
pub seen_free :
    (man_on : Men) (axis : Axis) (way : Way) (at : ℕ) (c : Colour) →
    ((t : ℕ) → t < 64 → on_half axis way at t ≡ true → is_slider (man_on t) axis c ≡ false) → is_attacked_along man_on axis way at c ≡ false
seen_free man_on axis way at c none =
    elim (cases_Bool (is_attacked_along man_on axis way at c)) [
      | inr off ↦ off
      | inl h ↦
          let (f, m, seen) : (f : ℕ) × (m : Man) × IsSeen man_on axis way at c f m = seen_parts man_on axis way at c h in
          let one : is_slider (man_on f) axis c ≡ true = rw seen.first.holds (and_from _ _ seen.mine seen.moves) in
          absurd (true≢false (sym one ∙ none f seen.first.on_board seen.first.half))
    ]

-- ---- all attackers of a square

-- where one or more attack, there is one
some_attacker :
    (man_on : Men) (c : Colour) (s : ℕ) → is_attacked man_on c s ≡ true →
    (a : ℕ) × (a < 64) × (attacks_for (man_on a) c man_on a s ≡ true)
unfolding squares
some_attacker man_on c s h =
    let test : ℕ → Bool = λ a. attacks_for (man_on a) c man_on a s in
    elim (cases_Bool (list_any test squares)) [
      | inl any ↦ let (a, low, high, e) : (a : ℕ) × (0 ≤ a) × (a < 0 + 64) × (test a ≡ true) = list_any_at test 0 64 any in (a, omega arith, e)
      | inr none ↦
          let zeros : total (weight man_on c s) 0 64 ≡ 0 = total-agree (weight man_on c s) (λ x. 0) 0 64 (λ a low high.
          elim (cases_Bool (test a)) [
            | inl e ↦ absurd (true≢false (sym (list_any_from test 0 64 a low high e) ∙ none))
            | inr e ↦ ap bit e
          ]) ∙ total-zero (λ x. 0) 0 64 (λ x. refl) in
          absurd (grind (arith, nat_tests, h, count_is_total man_on c s, zeros))
    ]

-- and where one does, one or more do
attacker_counts : (man_on : Men) (c : Colour) (s a : ℕ) → a < 64 → attacks_for (man_on a) c man_on a s ≡ true → is_attacked man_on c s ≡ true
attacker_counts man_on c s a ha h =
    let one : weight man_on c s a ≡ 1 = ap bit h in
    let many : weight man_on c s a ≤ total (weight man_on c s) 0 64 = total-at (weight man_on c s) a 0 64 (omega arith) (omega arith) in
    grind (arith, nat_tests, count_is_total man_on c s, one, many)

-- a man's attack is a leap, or it comes along one of the halves
along_half :
    (man_on : Men) (c : Colour) (s a : ℕ) (o : Option Man) → a < 64 → s < 64 → man_on a ≡ o → attacks_for o c man_on a s ≡ true →
    (leaps_there o c a s || round (λ axis way. is_attacked_along man_on axis way s c)) ≡ true
unfolding attacks_as
along_half man_on c s a None ha hs here h = absurd (true≢false (sym h))
along_half man_on c s a (Some man) ha hs here h =
    let p : (same_colour man.colour c ≡ true) × (attacks_as man man_on a s ≡ true) = and_parts _ _ h in
    elim (or_cases (leaps man.colour man.kind a s) (slides_to man.kind a s && is_clear man_on a s) p.1) [
      | inl leap ↦ rw (p.0, leap) refl
      | inr slide ↦
          let q : (slides_to man.kind a s ≡ true) × (is_clear man_on a s ≡ true) = and_parts _ _ slide in
          elim (some_half a s) [
            | inr off ↦ absurd (true≢false (sym q.0 ∙ slides_off man.kind a s off))
            | inl (axis, (way, half)) ↦
                let back : on_half axis (opposite way) s a ≡ true = half_back axis way a s half in
                let moves : slides man.kind axis ≡ true = sym (slides_half man.kind axis way a s ha hs half) ∙ q.0 in
                let seen : is_attacked_along man_on axis (opposite way) s c ≡ true =
                seen_from man_on axis (opposite way) s c a ha (and_from _ _ back (clear_flip man_on s a ∙ q.1)) (rw here (and_from _ _ p.0 moves)) in
                ap (λ b. leaps_there (Some man) c a s || b) (round_from (λ axis way. is_attacked_along man_on axis way s c) axis (opposite way) seen)
                ∙ or-true (leaps_there (Some man) c a s)
          ]
    ]

leap_attacks : (man_on : Men) (c : Colour) (s a : ℕ) (o : Option Man) → leaps_there o c a s ≡ true → attacks_for o c man_on a s ≡ true
unfolding attacks_as
leap_attacks man_on c s a None h = absurd (true≢false (sym h))
leap_attacks man_on c s a (Some man) h =
    let p : (same_colour man.colour c ≡ true) × (leaps man.colour man.kind a s ≡ true) = and_parts _ _ h in rw (p.0, p.1) refl

slide_attacks :
    (man_on : Men) (c : Colour) (s : ℕ) (axis : Axis) (way : Way) (f : ℕ) (m : Man) → s < 64 → IsSeen man_on axis way s c f m →
    attacks_for (man_on f) c man_on f s ≡ true
unfolding attacks_as
slide_attacks man_on c s axis way f m hs seen =
    let back : on_half axis (opposite way) f s ≡ true = half_back axis way s f seen.first.half in
    let along : slides_to m.kind f s ≡ true = slides_half m.kind axis (opposite way) f s seen.first.on_board hs back ∙ seen.moves in
    let clear : is_clear man_on f s ≡ true = clear_flip man_on f s ∙ seen.first.clear in
    rw (seen.first.holds, seen.mine, along, clear) (or-true (leaps m.colour m.kind f s))

pub attacked_is :
    (man_on : Men) (c : Colour) (s : ℕ) (leapers : FinSet nat_cmp) → s < 64 → ((a : ℕ) → a < 64 → contains leapers a ≡ leaps_there (man_on a) c a s) →
    (list_any (contains leapers) squares || round (λ axis way. is_attacked_along man_on axis way s c)) ≡ is_attacked man_on c s
unfolding squares
attacked_is man_on c s leapers hs are = same_test _ _
    (λ h.
    elim (or_cases _ _ h) [
      | inl leap ↦
          let (a, low, ha, e) : (a : ℕ) × (0 ≤ a) × (a < 64) × (contains leapers a ≡ true) = list_any_at (contains leapers) 0 64 leap in
          attacker_counts man_on c s a ha (leap_attacks man_on c s a (man_on a) (sym (are a ha) ∙ e))
      | inr around ↦
          let (axis, (way, on)) : (axis : Axis) × ((way : Way) × (is_attacked_along man_on axis way s c ≡ true)) =
          round_at (λ axis way. is_attacked_along man_on axis way s c) around in
          let (f, m, seen) : (f : ℕ) × (m : Man) × IsSeen man_on axis way s c f m = seen_parts man_on axis way s c on in
          attacker_counts man_on c s f seen.first.on_board (slide_attacks man_on c s axis way f m hs seen)
    ])
    (λ h.
    let (a, ha, e) : (a : ℕ) × (a < 64) × (attacks_for (man_on a) c man_on a s ≡ true) = some_attacker man_on c s h in
    elim (or_cases _ _ (along_half man_on c s a (man_on a) ha hs refl e)) [
      | inl leap ↦ rw (list_any_from (contains leapers) 0 64 a (omega arith) ha (are a ha ∙ leap)) refl
      | inr around ↦ rw around (or-true (list_any (contains leapers) squares))
    ])

-- a set that holds no square
pub holds_none : (set : FinSet nat_cmp) → ((s : ℕ) → contains set s ≡ false) → list_any (contains set) squares ≡ false
unfolding squares
holds_none set none =
    elim (cases_Bool (list_any (contains set) squares)) [
      | inr e ↦ e
      | inl h ↦ let (a, low, high, e) : (a : ℕ) × (0 ≤ a) × (a < 0 + 64) × (contains set a ≡ true) = list_any_at (contains set) 0 64 h in absurd (true≢false (sym e ∙ none a))
    ]

-- ---- which men attack a square

-- on one of the halves the first man from s, if he is one who moves along it
abbrev pub seen_around : Men → Colour → ℕ → ℕ → Bool
seen_around man_on c s a = round (λ axis way. reaches man_on axis way s a && is_slider (man_on a) axis c)

-- a man's attack is a leap, or he is the first on one of the halves and moves along it
around_from :
    (man_on : Men) (c : Colour) (s a : ℕ) (o : Option Man) → a < 64 → s < 64 → man_on a ≡ o → attacks_for o c man_on a s ≡ true →
    (leaps_there o c a s || round (λ axis way. reaches man_on axis way s a && is_slider o axis c)) ≡ true
unfolding attacks_as
around_from man_on c s a None ha hs here h = absurd (true≢false (sym h))
around_from man_on c s a (Some man) ha hs here h =
    let p : (same_colour man.colour c ≡ true) × (attacks_as man man_on a s ≡ true) = and_parts _ _ h in
    elim (or_cases (leaps man.colour man.kind a s) (slides_to man.kind a s && is_clear man_on a s) p.1) [
      | inl leap ↦ rw (p.0, leap) refl
      | inr slide ↦
          let q : (slides_to man.kind a s ≡ true) × (is_clear man_on a s ≡ true) = and_parts _ _ slide in
          elim (some_half a s) [
            | inr off ↦ absurd (true≢false (sym q.0 ∙ slides_off man.kind a s off))
            | inl (axis, (way, half)) ↦
                let back : on_half axis (opposite way) s a ≡ true = half_back axis way a s half in
                let moves : slides man.kind axis ≡ true = sym (slides_half man.kind axis way a s ha hs half) ∙ q.0 in
                let seen : (reaches man_on axis (opposite way) s a && is_slider (Some man) axis c) ≡ true =
                and_from _ _ (and_from _ _ back (clear_flip man_on s a ∙ q.1)) (and_from _ _ p.0 moves) in
                ap (λ b. leaps_there (Some man) c a s || b)
                (round_from (λ axis way. reaches man_on axis way s a && is_slider (Some man) axis c) axis (opposite way) seen)
                ∙ or-true (leaps_there (Some man) c a s)
          ]
    ]

-- and each of these men attacks
around_attacks :
    (man_on : Men) (c : Colour) (s a : ℕ) → a < 64 → s < 64 → seen_around man_on c s a ≡ true → attacks_for (man_on a) c man_on a s ≡ true
around_attacks man_on c s a ha hs h =
    let (axis, (way, on)) : (axis : Axis) × ((way : Way) × ((reaches man_on axis way s a && is_slider (man_on a) axis c) ≡ true)) =
    round_at (λ axis way. reaches man_on axis way s a && is_slider (man_on a) axis c) h in
    let p : (reaches man_on axis way s a ≡ true) × (is_slider (man_on a) axis c ≡ true) = and_parts _ _ on in
    let r : (on_half axis way s a ≡ true) × (is_clear man_on s a ≡ true) = and_parts _ _ p.0 in
    let (m, holds, mine, moves) : (m : Man) × (man_on a ≡ Some m) × (same_colour m.colour c ≡ true) × (slides m.kind axis ≡ true) =
    slider_parts (man_on a) axis c p.1 in
    slide_attacks man_on c s axis way a m hs
    (record { first = record { on_board = ha; half = r.0; clear = r.1; holds = holds }; mine = mine; moves = moves })

pub attackers_are :
    (man_on : Men) (c : Colour) (s a : ℕ) → a < 64 → s < 64 →
    (leaps_there (man_on a) c a s || seen_around man_on c s a) ≡ attacks_for (man_on a) c man_on a s
attackers_are man_on c s a ha hs = same_test _ _
    (λ h.
    elim (or_cases _ _ h) [
      | inl leap ↦ leap_attacks man_on c s a (man_on a) leap
      | inr around ↦ around_attacks man_on c s a ha hs around
    ])
    (λ h. around_from man_on c s a (man_on a) ha hs refl h)
