use Rattle.std.proofs.Common.{◌+◌, ◌++◌, ◌<◌, length, sym, ◌∙◌, arith}
use Rattle.std.proofs.lemmas.List.{length-append}
use Rattle.chess_types.specs.board.Position.{PositionParts}
use Rattle.chess_draws.specs.steps.LookBack.{IsBehind, IsTrack}
use Rattle.chess_draws.proofs.TrackLemmas.{IsTwoBack, two_back, behind_as_before, other_occupied, other_possible, told_by_men}
use Rattle.chess_draws.proofs.look_back.comes_up.Goals as goal
use Rattle.chess_draws.proofs.look_back.comes_up.Goals.{After-occupied_before-behind, then-not-alike-via-then-not-alike, then-not-alike-via-else-not-alike+then-not-agrees_at}

two : (c : After-occupied_before-behind) (start : PositionParts) → IsTrack start (c.args.plies.now ++ c.args.looked.now) c.args.here.now c.args.at →
    IsBehind start (c.args.plies.now ++ c.args.looked.now) c.args.here.now c.args.behind.now (c.args.at + 2) →
    IsTwoBack start (c.args.plies.now ++ c.args.looked.now) c.args.here.now c.occupied_before-behind.result c.args.at
two c start track behind =
    two_back track (omega (arith, c.requires.order, c.requires.within, length-append c.args.plies.now c.args.looked.now)) c.move_at-2.result c.move_at.result
    c.move_at-2.ensures c.move_at.ensures behind c.occupied_before-next.result c.occupied_before-behind.result c.occupied_before-next.ensures
    c.occupied_before-behind.ensures

low : (c : After-occupied_before-behind) → c.args.at < length (c.args.plies.now ++ c.args.looked.now)
low c = omega (arith, c.requires.order, c.requires.within, length-append c.args.plies.now c.args.looked.now)

pub returns-then-not-alike-clause-behind : goal.returns-then-not-alike-clause-behind
returns-then-not-alike-clause-behind c = λ start track behind. behind_as_before c.args.behind.now (two (goal.at.returns-then-not-alike-clause-behind c).After-occupied_before-behind start track behind) behind.men

pub returns-then-not-alike-clause-same : goal.returns-then-not-alike-clause-same
returns-then-not-alike-clause-same c = λ start track behind.
    sym (elim c.then-not-alike.branch [
      | then-not-alike-via-then-not-alike w ↦
          other_occupied track (low (goal.at.returns-then-not-alike-clause-same c).After-occupied_before-behind) c.occupied.result (two (goal.at.returns-then-not-alike-clause-same c).After-occupied_before-behind start track behind) c.occupied.ensures
          (sym c.eq-alike.ensures.each ∙ w.if-not-alike.true)
      | then-not-alike-via-else-not-alike+then-not-agrees_at w ↦
          other_possible track (low (goal.at.returns-then-not-alike-clause-same c).After-occupied_before-behind) w.agrees_at.result w.agrees_at.ensures w.if-not-agrees_at.true
    ])

pub returns-clause-behind : goal.returns-clause-behind
returns-clause-behind c = λ start track behind.
    let back = two (goal.at.returns-clause-behind c).After-occupied_before-behind start track behind in
    record { side = back.side; occupied = back.occupied; men = c.men_before-behind.ensures start c.args.here.now track behind.men }

pub returns-clause-same : goal.returns-clause-same
returns-clause-same c = λ start track behind.
    c.is_same.ensures
    ∙ told_by_men track (low (goal.at.returns-clause-same c).After-occupied_before-behind) (two (goal.at.returns-clause-same c).After-occupied_before-behind start track behind) c.agrees_at.result c.agrees_at.ensures
    c.if-not-agrees_at.false c.men_before-behind.result (c.men_before-behind.ensures start c.args.here.now track behind.men)
