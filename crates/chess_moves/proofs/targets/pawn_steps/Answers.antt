use Rattle.std.proofs.Common.{◌≡◌, ℕ, ◌<◌, ◌==◌, Bool, true, false, ◌&&◌, ◌||◌, None, subst, sym, ap, refl, ◌∙◌, arith}
use Rattle.std.specs.Ordering.{nat_cmp}
use Rattle.std.specs.FinSet.{FinSet, contains, insert, contains-empty}
use Rattle.std.proofs.lemmas.Bool.{eq-eqb, ne_eqb}
use Rattle.chess_types.specs.board.Squares.{rank_of}
use Rattle.chess_types.specs.board.Position.{PositionParts}
use Rattle.chess_types.specs.board.Pseudo.{pawn_rank, steps_one, steps_two}
use Rattle.chess_attack.proofs.Reached.{inserted}
use Rattle.chess_moves.specs.steps.Targets.{move_to}
use Rattle.chess_moves.proofs.PawnTargets.{steps_are, steps_nowhere, second_step}
use Rattle.chess_moves.proofs.targets.pawn_steps.Goals as goal

abbrev Are : ℕ → FinSet nat_cmp → PositionParts → Type 0
Are from set p = (to : ℕ) → to < 64 → contains set to ≡ (steps_one p (move_to from to None) || steps_two p (move_to from to None))

one_of : (none set : FinSet nat_cmp) (one to : ℕ) → contains none to ≡ false → set ≡ insert none one → contains set to ≡ (one == to)
one_of none set one to empty is = ap (λ s. contains s to) is ∙ inserted none one to ∙ ap (λ b. b || (one == to)) empty

stay : (x : Bool) → (x || false) ≡ x
stay true = refl
stay false = refl

pub returns-in_default : goal.returns-in_default
returns-in_default c =
    let p : PositionParts = record { placement = c.setup.inside.placement; side = c.setup.inside.side; rights = c.setup.inside.rights; target = c.setup.inside.target; clock = c.setup.inside.clock; number = c.setup.inside.number } in
    subst (Are c.args.from c.empty-steps.result) c.setup.view_is (λ to ht.
    ap (λ s. contains s to) c.empty-steps.ensures ∙ contains-empty nat_cmp to ∙ sym (steps_nowhere p c.args.from to (omega arith) ht c.in_default.ensures.none))

pub returns-then-not-is_empty : goal.returns-then-not-is_empty
returns-then-not-is_empty c =
    let p : PositionParts = record { placement = c.setup.inside.placement; side = c.setup.inside.side; rights = c.setup.inside.rights; target = c.setup.inside.target; clock = c.setup.inside.clock; number = c.setup.inside.number } in
    subst (Are c.args.from c.empty-steps.result) c.setup.view_is (λ to ht.
    ap (λ s. contains s to) c.empty-steps.ensures ∙ contains-empty nat_cmp to
    ∙ sym (steps_are p c.args.from c.in-Some.one to c.in-Some.ensures.found ∙ rw (sym c.is_empty.ensures ∙ c.if-not-is_empty.true) refl))

pub returns-then-rank-pawn_rank : goal.returns-then-rank-pawn_rank
returns-then-rank-pawn_rank c =
    let p : PositionParts = record { placement = c.setup.inside.placement; side = c.setup.inside.side; rights = c.setup.inside.rights; target = c.setup.inside.target; clock = c.setup.inside.clock; number = c.setup.inside.number } in
    subst (Are c.args.from c.insert.new.self) c.setup.view_is (λ to ht.
    let off : (rank_of c.args.from == pawn_rank c.setup.inside.side) ≡ false =
    ne_eqb _ _ (λ e. c.if-rank-pawn_rank.true (c.rank.ensures.value ∙ e ∙ sym c.pawn_rank.ensures)) in
    one_of c.empty-steps.result c.insert.new.self c.in-Some.one to (ap (λ s. contains s to) c.empty-steps.ensures ∙ contains-empty nat_cmp to) c.insert.ensures
    ∙ sym (steps_are p c.args.from c.in-Some.one to c.in-Some.ensures.found ∙ rw (sym c.is_empty.ensures ∙ c.if-not-is_empty.false, off) (stay (c.in-Some.one == to))))

pub returns-in_default-ahead : goal.returns-in_default-ahead
returns-in_default-ahead c =
    let p : PositionParts = record { placement = c.setup.inside.placement; side = c.setup.inside.side; rights = c.setup.inside.rights; target = c.setup.inside.target; clock = c.setup.inside.clock; number = c.setup.inside.number } in
    subst (Are c.args.from c.insert.new.self) c.setup.view_is (λ to ht.
    let on : (rank_of c.args.from == pawn_rank c.setup.inside.side) ≡ true =
    eq-eqb _ _ (sym c.rank.ensures.value ∙ c.if-rank-pawn_rank.false ∙ c.pawn_rank.ensures) in
    one_of c.empty-steps.result c.insert.new.self c.in-Some.one to (ap (λ s. contains s to) c.empty-steps.ensures ∙ contains-empty nat_cmp to) c.insert.ensures
    ∙ sym (steps_are p c.args.from c.in-Some.one to c.in-Some.ensures.found
    ∙ rw (sym c.is_empty.ensures ∙ c.if-not-is_empty.false, on, c.in_default-ahead.ensures.none to ht) (stay (c.in-Some.one == to))))

pub returns-then-not-is_empty-2 : goal.returns-then-not-is_empty-2
returns-then-not-is_empty-2 c =
    let p : PositionParts = record { placement = c.setup.inside.placement; side = c.setup.inside.side; rights = c.setup.inside.rights; target = c.setup.inside.target; clock = c.setup.inside.clock; number = c.setup.inside.number } in
    subst (Are c.args.from c.insert.new.self) c.setup.view_is (λ to ht.
    let on : (rank_of c.args.from == pawn_rank c.setup.inside.side) ≡ true =
    eq-eqb _ _ (sym c.rank.ensures.value ∙ c.if-rank-pawn_rank.false ∙ c.pawn_rank.ensures) in
    let second = second_step p c.in-Some.one c.in-Some-ahead.two to c.in-Some-ahead.ensures.found in
    one_of c.empty-steps.result c.insert.new.self c.in-Some.one to (ap (λ s. contains s to) c.empty-steps.ensures ∙ contains-empty nat_cmp to) c.insert.ensures
    ∙ sym (steps_are p c.args.from c.in-Some.one to c.in-Some.ensures.found
    ∙ rw (sym c.is_empty.ensures ∙ c.if-not-is_empty.false, on, second, sym c.is_empty-2.ensures ∙ c.if-not-is_empty-2.true) (late (c.in-Some.one == to) (c.in-Some-ahead.two == to))))
  where
    late : (x y : Bool) → (x || (y && false)) ≡ x
    late true y = refl
    late false true = refl
    late false false = refl

pub returns : goal.returns
returns c =
    let p : PositionParts = record { placement = c.setup.inside.placement; side = c.setup.inside.side; rights = c.setup.inside.rights; target = c.setup.inside.target; clock = c.setup.inside.clock; number = c.setup.inside.number } in
    subst (Are c.args.from c.insert-2.new.self) c.setup.view_is (λ to ht.
    let on : (rank_of c.args.from == pawn_rank c.setup.inside.side) ≡ true =
    eq-eqb _ _ (sym c.rank.ensures.value ∙ c.if-rank-pawn_rank.false ∙ c.pawn_rank.ensures) in
    let second = second_step p c.in-Some.one c.in-Some-ahead.two to c.in-Some-ahead.ensures.found in
    let first = one_of c.empty-steps.result c.insert.new.self c.in-Some.one to (ap (λ s. contains s to) c.empty-steps.ensures ∙ contains-empty nat_cmp to) c.insert.ensures in
    ap (λ s. contains s to) c.insert-2.ensures ∙ inserted c.insert.new.self c.in-Some-ahead.two to ∙ ap (λ b. b || (c.in-Some-ahead.two == to)) first
    ∙ sym (steps_are p c.args.from c.in-Some.one to c.in-Some.ensures.found
    ∙ rw (sym c.is_empty.ensures ∙ c.if-not-is_empty.false, on, second, sym c.is_empty-2.ensures ∙ c.if-not-is_empty-2.false) (late (c.in-Some.one == to) (c.in-Some-ahead.two == to))))
  where
    late : (x y : Bool) → (x || (y && true)) ≡ (x || y)
    late true y = refl
    late false true = refl
    late false false = refl
