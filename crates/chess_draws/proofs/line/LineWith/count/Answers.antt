use Rattle.std.proofs.Common.{◌≡◌, ◌+◌, ◌-◌, ◌*◌, ◌++◌, ◌≤◌, ℕ, ◌/◌, List, length, map, min, ap, sym, subst, ◌∙◌, arith}
use Rattle.std.proofs.lemmas.List.{length-append}
use Rattle.chess_types.specs.board.Position.{PositionParts}
use Rattle.chess_types.specs.board.Lines.{last}
use Rattle.chess_types.specs.board.Repetition.{repetitions}
use Rattle.chess_draws.specs.steps.KeptPlies.{PlyParts}
use Rattle.chess_draws.specs.steps.Plies.{move_of}
use Rattle.chess_draws.specs.steps.LookBack.{IsTrack, came_back}
use Rattle.chess_draws.specs.LineParts.{LineParts}
use Rattle.chess_draws.proofs.LineLemmas.{here_last, plies_moves, tracked, came_often, recently, IsRecent}
use Rattle.chess_draws.proofs.line.LineWith.count.Goals as goal

pub returns-clause-value : goal.returns-clause-value
returns-clause-value g c =
    let all : c.as_slice.result.now ++ c.as_slice-2.result.now ≡ c.self.inside.plies.items ++ c.self.inside.looked.items =
    λ i. c.as_slice.ensures.value i ++ c.as_slice-2.ensures.value i in
    let clock = ap (λ (s : PositionParts). s.clock) (c.behind-self.view_is ∙ c.position.ensures.value) in
    let counted : c.look_back-count.result.0 ≡ came_back c.self.inside.root (map move_of (c.self.inside.plies.items ++ c.self.inside.looked.items)) c.look_back-count.result.1 =
    subst (λ (xs : List PlyParts). (start : PositionParts) → IsTrack start xs c.self.inside.here (length xs - c.behind-self.inside.clock) → c.look_back-count.result.0 ≡ came_back start (map move_of xs) c.look_back-count.result.1) all
    c.look_back-count.ensures.count c.self.inside.root (tracked c.self.invariant.line c.behind-self.inside.clock clock) in
    ap (λ (n : ℕ). n + 1) counted
    ∙ came_often c.self.invariant.line c.behind-self.inside.clock c.look_back-count.result.1 clock
    (subst (λ (xs : List PlyParts). 2 * c.look_back-count.result.1 ≤ length xs) all c.look_back-count.ensures.within)
    (subst (λ (xs : List PlyParts). (n : ℕ) → n ≤ c.behind-self.inside.clock → n ≤ length xs → n ≤ 2 * c.look_back-count.result.1 + 1) all
    c.look_back-count.ensures.reaches)
    ∙ ap (λ (l : LineParts). repetitions l.line) c.self.view_is

pub returns-clause-compared : goal.returns-clause-compared
returns-clause-compared g c =
    let clock : c.behind-self.inside.clock ≡ (last c.args.self.now.line).clock =
    ap (λ (s : PositionParts). s.clock) (c.behind-self.view_is ∙ c.position.ensures.value ∙ here_last c.self.invariant.line c.self.view_is) in
    let plies : length c.as_slice.result.now + length c.as_slice-2.result.now ≡ length c.args.self.now.line.moves =
    sym (length-append c.as_slice.result.now c.as_slice-2.result.now)
    ∙ ap length (λ i. c.as_slice.ensures.value i ++ c.as_slice-2.ensures.value i)
    ∙ plies_moves c.self.invariant.line c.self.view_is in
    c.look_back-count.ensures.compared ∙ (λ i. min (plies i) (clock i) / 2)

pub returns-clause-at_most : goal.returns-clause-at_most
returns-clause-at_most g c =
    let clock : c.behind-self.inside.clock ≡ (last c.args.self.now.line).clock =
    ap (λ (s : PositionParts). s.clock) (c.behind-self.view_is ∙ c.position.ensures.value ∙ here_last c.self.invariant.line c.self.view_is) in
    omega (arith, clock, c.look_back-count.ensures.at_most)

pub returns-clause-recent : goal.returns-clause-recent
returns-clause-recent g c = subst (λ (l : LineParts). IsRecent l.line) c.self.view_is (recently c.self.invariant.line)
