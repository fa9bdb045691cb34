-- A move that surely gives no check: its man bars no line to the other side's king, and doesn't attack him from its new square.
use Rattle.std.proofs.Common.{◌≡◌, ◌≢◌, ℕ, ◌<◌, Bool, true, false, ◌||◌, Option, Some, None, is_some, refl, sym, ap, subst, ◌∙◌, arith, inl, inr, ◌⊎◌}
use Rattle.std.proofs.lemmas.Bool.{and_parts, and_from, cases_Bool, cases_eq, true≢false, eq-eqb, ne_eqb}
use Rattle.std.proofs.lemmas.Bool.Decides.{nat_tests}
use Rattle.chess_types.specs.declared.board.axis.Axis.{Axis}
use Rattle.chess_types.specs.declared.board.man.Colour.{Colour}
use Rattle.chess_types.specs.declared.board.man.Kind.TheVariants.{Queen}
use Rattle.chess_types.specs.declared.board.man.Man.{Man}
use Rattle.chess_types.specs.board.Board.{Men}
use Rattle.chess_types.specs.board.Men.{opponent, same_colour}
use Rattle.chess_types.specs.board.Squares.{line_of, is_between}
use Rattle.chess_types.specs.board.Attack.{is_clear, leaps, slides, slides_to, attacks_as, attacks_for, in_check}
use Rattle.chess_attack.specs.Pins.{without}
use Rattle.chess_attack.proofs.Axes.{axes_meet, BetweenOn, between_parts, between_from}
use Rattle.chess_attack.proofs.Clear.{clear_at, clear_from}
use Rattle.chess_attack.proofs.Lifted.{Shifts, OnlyKing, without_here, without_there, not_attacked, check_from, no_check}
use Rattle.chess_search.specs.steps.Frontiers.{queen_of}

queen_slides : (axis : Axis) (k f : ℕ) → k ≢ f → line_of axis k ≡ line_of axis f → slides_to Queen k f ≡ true
unfolding slides_to slides
queen_slides axis k f apart same = grind (arith, nat_tests, ne_eqb k f apart, eq-eqb (line_of axis k) (line_of axis f) same)

-- between a square and the king there is nobody but a man on f: then a queen on the king's square sees f
module _ (E : Men) (c : Colour) (f k : ℕ) (on_board : f < 64) (there : k < 64) where
  clear_to : (a : ℕ) → a < 64 → is_between a k f ≡ true → is_clear (without E f) a k ≡ true → is_clear E k f ≡ true
  clear_to a ha between clear =
      let (axis, on) : (axis : Axis) × BetweenOn axis a k f = between_parts a k f between in
      let apart : k ≢ f = λ e. absurd (omega (arith, on.order, e)) in
      clear_from E k f (λ t ht inside.
      let (j, in_j) : (j : Axis) × BetweenOn j k f t = between_parts k f t inside in
      let same : j ≡ axis = axes_meet j axis k f there on_board apart (in_j.from_a ∙ sym in_j.from_b) on.from_b in
      let in_axis : BetweenOn axis k f t = subst (λ x. BetweenOn x k f t) same in_j in
      let further : BetweenOn axis a k t = record {
        from_a = on.from_a ∙ in_axis.from_b;
        from_b = in_axis.from_a;
        order = closer a k f t on.order in_axis.order;
      } in
      let other : t ≢ f = λ e. absurd (omega (arith, in_axis.order, e)) in
      sym (without_there E f t other) ∙ clear_at (without E f) a k t clear ht (between_from axis a k t further))
    where
      closer : (a k f t : ℕ) → ((a < f) × (f < k)) ⊎ ((k < f) × (f < a)) → ((k < t) × (t < f)) ⊎ ((f < t) × (t < k)) → ((a < t) × (t < k)) ⊎ ((k < t) × (t < a))
      closer a k f t (inl up) (inl x) = absurd (omega (arith, up, x))
      closer a k f t (inl up) (inr x) = inl (omega (arith, up, x), x.1)
      closer a k f t (inr down) (inl x) = inr (x.0, omega (arith, down, x))
      closer a k f t (inr down) (inr x) = absurd (omega (arith, down, x))

  queen_sees : (a : ℕ) → a < 64 → is_between a k f ≡ true → is_clear (without E f) a k ≡ true → attacks_as (queen_of c) E k f ≡ true
  unfolding attacks_as
  queen_sees a ha between clear =
      let (axis, on) : (axis : Axis) × BetweenOn axis a k f = between_parts a k f between in
      let slide : slides_to Queen k f ≡ true = queen_slides axis k f (λ e. absurd (omega (arith, on.order, e))) on.from_b in
      let open_line : is_clear E k f ≡ true = clear_to a ha between clear in
      rw (slide, open_line) (or-true (leaps c Queen k f))
    where
      or-true : (b : Bool) → (b || true) ≡ true
      or-true true = refl
      or-true false = refl

  -- a man whom she doesn't see bars no line to the king
  bars_none : attacks_as (queen_of c) E k f ≡ false → (a : ℕ) → a < 64 → is_clear (without E f) a k ≡ true → is_clear E a k ≡ true
  bars_none unseen a ha clear =
      clear_from E a k (λ t ht inside.
      elim (cases_eq t f) [
        | inl e ↦ absurd (true≢false (sym (queen_sees a ha (subst (λ x. is_between a k x ≡ true) e inside) clear) ∙ unseen))
        | inr ne ↦ sym (without_there E f t ne) ∙ clear_at (without E f) a k t clear ht inside
      ])

module _ (E F : Men) (from to : ℕ) (c : Colour) (moved : Shifts E F from to c) where
  -- a line that is clear afterwards is clear without the man
  clear_before : (a k : ℕ) → is_clear F a k ≡ true → is_clear (without E from) a k ≡ true
  clear_before a k clear =
      clear_from (without E from) a k (λ t ht inside.
      elim (cases_eq t from) [
        | inl e ↦ ap (without E from) e ∙ without_here E from
        | inr ne ↦ elim (cases_eq t to) [
          | inl e ↦
              let none : F to ≡ None = ap F (sym e) ∙ clear_at F a k t clear ht inside in
              absurd (true≢false (sym moved.there ∙ ap is_some none))
          | inr other ↦ without_there E from t ne ∙ sym (moved.rest t ht ne other) ∙ clear_at F a k t clear ht inside
        ]
      ])

  -- who attacks the king afterwards attacks him before, from the same square
  attacked_before : (man : Man) (a k : ℕ) → a < 64 → k < 64 → attacks_as (queen_of c) E k from ≡ false → attacks_as man F a k ≡ true → attacks_as man E a k ≡ true
  unfolding attacks_as
  attacked_before man a k ha hk unseen h =
      elim (cases_Bool (leaps man.colour man.kind a k)) [
        | inl leap ↦ rw leap refl
        | inr still ↦
            let p : (slides_to man.kind a k ≡ true) × (is_clear F a k ≡ true) = and_parts _ _ (rw still at h) in
            let clear : is_clear E a k ≡ true = bars_none E c from k moved.from_board hk unseen a ha (clear_before a k p.1) in
            rw (still, p.0, clear) refl
      ]

  module _ (k : ℕ) (d : Colour) (man : Man) (king : OnlyKing E d k) (king_after : OnlyKing F d k) (arrives : F to ≡ Some man)
      (unseen : attacks_as (queen_of c) E k from ≡ false) (away : attacks_as man E to k ≡ false) (quiet : in_check E d ≡ false) where
    attacked_by : (o : Option Man) (a : ℕ) → a < 64 → F a ≡ o → attacks_for o (opponent d) F a k ≡ false
    attacked_by None a ha is = refl
    attacked_by (Some other) a ha is =
        elim (cases_Bool (attacks_for (Some other) (opponent d) F a k)) [
          | inr none ↦ none
          | inl hits ↦
              let p : (same_colour other.colour (opponent d) ≡ true) × (attacks_as other F a k ≡ true) = and_parts _ _ hits in
              let before : attacks_as other E a k ≡ true = attacked_before other a k ha king.on_board unseen p.1 in
              elim (cases_eq a to) [
                | inl e ↦
                    let same : Some other ≡ Some man = sym is ∙ ap F e ∙ arrives in
                    let mine : attacks_for (Some man) (opponent d) E to k ≡ true =
                    subst (λ x. attacks_for x (opponent d) E to k ≡ true) same (subst (λ x. attacks_for (Some other) (opponent d) E x k ≡ true) e (and_from _ _ p.0 before)) in
                    absurd (true≢false (sym (and_parts _ _ mine).1 ∙ away))
                | inr ne ↦ elim (cases_eq a from) [
                  | inl e ↦ absurd (true≢false (ap is_some (sym is ∙ ap F e ∙ moved.left)))
                  | inr off ↦
                      let there : E a ≡ Some other = sym (moved.rest a ha off ne) ∙ is in
                      let checks : attacks_for (E a) (opponent d) E a k ≡ true = ap (λ o. attacks_for o (opponent d) E a k) there ∙ and_from _ _ p.0 before in
                      absurd (true≢false (sym (check_from E d k a king ha checks) ∙ quiet))
                ]
              ]
        ]

    -- the king isn't in check afterwards
    pub gives_none : in_check F d ≡ false
    gives_none = no_check F d k king_after (not_attacked F (opponent d) k (λ a ha. attacked_by (F a) a ha refl))
