use Rattle.std.proofs.Common.{◌≡◌, sym, ap, subst, ◌∙◌}
use Rattle.std.specs.FinMap.{insert, remove}
use Rattle.chess_types.specs.board.Position.{PositionParts}
use Rattle.chess_types.proofs.MoveLemmas.{legal_pseudo}
use Rattle.chess_eval.specs.Evaluation.{AreSumsOf}
use Rattle.chess_play.proofs.Facts.{Facts, facts}
use Rattle.chess_search.specs.steps.Frontiers.{IsPlainMove}
use Rattle.chess_search.proofs.FrontierLemmas.{HasSquares, has_squares, summed}
use Rattle.chess_search.proofs.frontier.sums_after.Goals.{After-m}
use Rattle.chess_search.proofs.frontier.sums_after.Goals as goal

squares : (c : After-m) → HasSquares c.m.inside.from c.m.inside.to c.args.m
squares c = has_squares c.m.view_is c.m.invariant.0 c.m.invariant.1

goes : (c : After-m) → IsPlainMove c.args.live.now.position c.in_ok-man.man c.args.m
goes c = subst (λ (q : PositionParts). IsPlainMove q c.in_ok-man.man c.args.m) c.position-setup.ensures.value c.in_ok-man.ensures

does : (c : After-m) → Facts c.args.live.now.position c.in_ok-man.man c.args.m
does c =
    facts c.args.live.now.position c.args.m c.requires.well_formed.setup (squares c).from (squares c).to c.in_ok-man.man (goes c).here (legal_pseudo c.args.live.now.position c.args.m c.requires.legal)

pub after-requires-clause-apart : goal.after-requires-clause-apart
after-requires-clause-apart c =
    let m = (goal.at.after-requires-clause-apart c).After-m in
    λ e. (does m).apart (sym (squares m).from_is ∙ e ∙ (squares m).to_is)

pub returns : goal.returns
returns c =
    let m = (goal.at.returns c).After-m in
    let p = c.args.live.now.position in
    let placement : c.setup.inside.placement ≡ p.placement = ap (λ (q : PositionParts). q.placement) (c.setup.view_is ∙ c.position-setup.ensures.value) in
    let board : insert (remove (remove c.setup.inside.placement c.m.inside.to) c.m.inside.from) c.m.inside.to c.in_ok-man.man ≡ insert (remove (remove p.placement c.args.m.to) c.args.m.from) c.args.m.to c.in_ok-man.man =
    λ i. insert (remove (remove (placement i) ((squares m).to_is i)) ((squares m).from_is i)) ((squares m).to_is i) c.in_ok-man.man in
    summed p c.args.m c.in_ok-man.man c.requires.well_formed.setup (squares m).from (squares m).to (does m) (goes m) c.after.result (subst (AreSumsOf c.after.result) board c.after.ensures)
