use Rattle.std.proofs.Common.{◌≡◌, ℕ, ◌==◌, true, false, not, ◌&&◌, Some, None, sym, ap, ◌∙◌, refl, arith, inl, inr}
use Rattle.std.specs.FinSet.{contains, contains-intersection, contains-remove}
use Rattle.std.proofs.lemmas.Cmp.{nat_cmp_total}
use Rattle.std.proofs.lemmas.Bool.{cases_Bool, eqb-true, eq-eqb}
use Rattle.std.proofs.lemmas.Bool.Decides.{nat_tests}
use Rattle.std.specs.Cmp.{unsigned_tied}
use Rattle.chess_types.specs.declared.board.man.Kind.TheVariants.{Pawn}
use Rattle.chess_types.specs.board.Attack.{leaps}
use Rattle.chess_types.specs.board.Position.{PositionParts, man_on}
use Rattle.chess_attack.proofs.Lifted.{OnlyKing, only_king}
use Rattle.chess_moves.specs.steps.Targets.{is_plain_target, is_legal_target, is_passing_target}
use Rattle.chess_moves.proofs.LegalTargets.{inserted_if, pawn_lands, passing_lands, passing_pseudo, no_target, target_apart, target_other}
use Rattle.chess_moves.proofs.targets.pawn_targets.Goals as goal

pub returns-in_default-clause-is_legal_target : goal.returns-in_default-clause-is_legal_target
returns-in_default-clause-is_legal_target g c = λ to ht.
    let p : PositionParts = c.args.live.now.position in
    let same = c.setup.view_is ∙ c.position-setup.ensures.value in
    let setup = c.position-setup.ensures.setup in
    let king : OnlyKing (man_on p) p.side c.args.guard.now.king =
    only_king p.placement p.side c.args.guard.now.king (setup.kings p.side) c.requires.guard.on_board c.requires.guard.king in
    let none : p.target ≡ None = ap (λ (q : PositionParts). q.target) (sym same) ∙ c.in_default.is in
    ap (λ s. contains s to) c.intersection-targets.ensures
    ∙ contains-intersection nat_cmp_total c.plain_targets-plain.result c.guarded-allowed.result to
    ∙ (λ i. (c.plain_targets-plain.ensures to ht ∙ ap (λ (q : PositionParts). is_plain_target q Pawn c.args.from to) c.position-setup.ensures.value) i && c.guarded-allowed.ensures to ht i)
    ∙ sym (pawn_lands p setup c.args.from to (omega arith) ht c.args.guard.now.king c.requires.here king (no_target p setup c.args.from to (omega arith) ht none))

pub returns-then-not-leaps-clause-is_legal_target : goal.returns-then-not-leaps-clause-is_legal_target
returns-then-not-leaps-clause-is_legal_target g c = λ to ht.
    let p : PositionParts = c.args.live.now.position in
    let same = c.setup.view_is ∙ c.position-setup.ensures.value in
    let setup = c.position-setup.ensures.setup in
    let king : OnlyKing (man_on p) p.side c.args.guard.now.king =
    only_king p.placement p.side c.args.guard.now.king (setup.kings p.side) c.requires.guard.on_board c.requires.guard.king in
    let some : p.target ≡ Some c.in-Some.to = ap (λ (q : PositionParts). q.target) (sym same) ∙ c.in-Some.is in
    let off : leaps p.side Pawn c.args.from c.in-Some.to ≡ false =
    ap (λ (q : PositionParts). leaps q.side Pawn c.args.from c.in-Some.to) (sym same) ∙ sym c.leaps.ensures ∙ c.if-not-leaps.true in
    ap (λ s. contains s to) c.intersection-targets.ensures
    ∙ contains-intersection nat_cmp_total c.plain_targets-plain.result c.guarded-allowed.result to
    ∙ (λ i. (c.plain_targets-plain.ensures to ht ∙ ap (λ (q : PositionParts). is_plain_target q Pawn c.args.from to) c.position-setup.ensures.value) i && c.guarded-allowed.ensures to ht i)
    ∙ sym (pawn_lands p setup c.args.from to (omega arith) ht c.args.guard.now.king c.requires.here king
    (target_apart p setup c.args.from to (omega arith) ht c.in-Some.to some off))

pub is_safe_tried-safe-requires-clause-pseudo : goal.is_safe_tried-safe-requires-clause-pseudo
is_safe_tried-safe-requires-clause-pseudo g c =
    let p : PositionParts = c.args.live.now.position in
    let same = c.setup.view_is ∙ c.position-setup.ensures.value in
    let some : p.target ≡ Some c.in-Some.to = ap (λ (q : PositionParts). q.target) (sym same) ∙ c.in-Some.is in
    let on : leaps p.side Pawn c.args.from c.in-Some.to ≡ true =
    ap (λ (q : PositionParts). leaps q.side Pawn c.args.from c.in-Some.to) (sym same) ∙ sym c.leaps.ensures ∙ c.if-not-leaps.false in
    let pass : is_passing_target p c.args.from c.in-Some.to ≡ true = rw (on, some) (eq-eqb c.in-Some.to c.in-Some.to refl) in
    passing_pseudo p c.position-setup.ensures.setup c.args.from c.in-Some.to (omega arith) (omega arith) c.requires.here pass

pub returns-clause-is_legal_target : goal.returns-clause-is_legal_target
returns-clause-is_legal_target g c = λ to ht.
    let p : PositionParts = c.args.live.now.position in
    let same = c.setup.view_is ∙ c.position-setup.ensures.value in
    let setup = c.position-setup.ensures.setup in
    let t : ℕ = c.in-Some.to in
    let king : OnlyKing (man_on p) p.side c.args.guard.now.king =
    only_king p.placement p.side c.args.guard.now.king (setup.kings p.side) c.requires.guard.on_board c.requires.guard.king in
    let some : p.target ≡ Some t = ap (λ (q : PositionParts). q.target) (sym same) ∙ c.in-Some.is in
    let on : leaps p.side Pawn c.args.from t ≡ true =
    ap (λ (q : PositionParts). leaps q.side Pawn c.args.from t) (sym same) ∙ sym c.leaps.ensures ∙ c.if-not-leaps.false in
    let pass : is_passing_target p c.args.from t ≡ true = rw (on, some) (eq-eqb t t refl) in
    let out : contains c.remove.new.self to ≡ (contains c.intersection-targets.result to && not (t == to)) =
    ap (λ s. contains s to) c.remove.ensures ∙ contains-remove nat_cmp_total c.intersection-targets.result t to ∙ grind (arith, nat_tests, unsigned_tied t to, unsigned_tied to t) in
    inserted_if c.remove.new.self c.insert_if.new.self t to c.is_safe_tried-safe.result c.insert_if.ensures
    ∙ (elim (cases_Bool (t == to)) [
      | inl e ↦
          let here : t ≡ to = eqb-true t to e in
          let legal : is_legal_target p Pawn c.args.from to ≡ c.is_safe_tried-safe.result =
          ap (is_legal_target p Pawn c.args.from) (sym here) ∙ passing_lands p setup c.args.from t (omega arith) (omega arith) c.requires.here pass ∙ sym c.is_safe_tried-safe.ensures.value in
          grind (arith, out, e, legal)
      | inr e ↦
          let plain : contains c.intersection-targets.result to ≡ is_legal_target p Pawn c.args.from to =
          ap (λ s. contains s to) c.intersection-targets.ensures
          ∙ contains-intersection nat_cmp_total c.plain_targets-plain.result c.guarded-allowed.result to
          ∙ (λ i. (c.plain_targets-plain.ensures to ht ∙ ap (λ (q : PositionParts). is_plain_target q Pawn c.args.from to) c.position-setup.ensures.value) i && c.guarded-allowed.ensures to ht i)
          ∙ sym (pawn_lands p setup c.args.from to (omega arith) ht c.args.guard.now.king c.requires.here king
          (target_other p setup c.args.from to (omega arith) ht t some e)) in
          grind (arith, out, e, plain)
    ])
