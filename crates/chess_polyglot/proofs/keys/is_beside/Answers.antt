use Rattle.std.proofs.Common.{◌≡◌, ℕ, ◌&&◌, ltb, sym, ap, ◌∙◌}
use Rattle.std.specs.FinSet.{contains}
use Rattle.chess_types.specs.declared.board.man.Kind.TheVariants.{Pawn}
use Rattle.chess_types.specs.board.Attack.{leaps}
use Rattle.chess_types.specs.board.Board.{man_at}
use Rattle.chess_types.specs.board.Men.{is_man, opponent}
use Rattle.chess_attack.proofs.AttackSets.{leapers_are}
use Rattle.chess_polyglot.specs.Keys.{is_beside}
use Rattle.chess_polyglot.proofs.Somewhere.{some_pass, none_pass}
use Rattle.chess_polyglot.proofs.keys.is_beside.Goals as goal

pub returns-in-Some : goal.returns-in-Some
unfolding is_beside
returns-in-Some c =
    let side = c.args.side in
    let man_on = man_at c.args.placement.now in
    let found = c.in-Some.ensures.found in
    let back : (s : ℕ) → contains c.leap_squares-from.result s ≡ (ltb s 64 && leaps (opponent side) Pawn c.args.target s) =
    λ s. c.leap_squares-from.ensures s ∙ ap (λ colour. ltb s 64 && leaps colour Pawn c.args.target s) c.opponent.ensures in
    sym (some_pass c.intersection.result (λ s. leaps side Pawn s c.args.target && is_man (man_on s) side Pawn)
    (rw c.intersection.ensures (leapers_are side Pawn man_on c.args.target c.leap_squares-from.result c.of_kind-pawns.result back c.of_kind-pawns.ensures))
    c.in-Some.field-0 found.on_board found.held)

pub returns-in-None : goal.returns-in-None
unfolding is_beside
returns-in-None c =
    let side = c.args.side in
    let man_on = man_at c.args.placement.now in
    let back : (s : ℕ) → contains c.leap_squares-from.result s ≡ (ltb s 64 && leaps (opponent side) Pawn c.args.target s) =
    λ s. c.leap_squares-from.ensures s ∙ ap (λ colour. ltb s 64 && leaps colour Pawn c.args.target s) c.opponent.ensures in
    sym (none_pass c.intersection.result (λ s. leaps side Pawn s c.args.target && is_man (man_on s) side Pawn)
    (rw c.intersection.ensures (leapers_are side Pawn man_on c.args.target c.leap_squares-from.result c.of_kind-pawns.result back c.of_kind-pawns.ensures))
    c.in-None.ensures.none)
