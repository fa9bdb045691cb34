use Rattle.std.proofs.Common.{rules, ◌≡◌, if◌then◌else◌, Bool, None, ap, sym, subst, ◌∙◌}
use Rattle.chess_types.specs.board.Legal.{is_legal}
use Rattle.chess_play.specs.Records.{RecordParts, record_of}
use Rattle.chess_draws.specs.steps.Plies.{IsPly}
use Rattle.chess_draws.proofs.PlyLemmas.{target_kept}
use Rattle.chess_draws.proofs.step.step.Goals as goal

pub returns-clause-ply : goal.returns-clause-ply
returns-clause-ply g c =
    let p = c.args.live.now.position in
    let past : c.advance-past.result.0 ≡ record_of p c.args.m = c.advance-past.ensures.past in
    let played : c.advance-past.result.0.played ≡ c.args.m = ap (λ (r : RecordParts). r.played) past in
    subst (IsPly p) (sym c.of-ply.ensures) (record {
      target = ap (λ (counts : Bool). if counts then c.advance-past.result.0.target else None) c.is_some-counts.ensures
          ∙ target_kept p c.args.here.now.target c.advance-past.result.0.target c.requires.here.target (ap (λ (r : RecordParts). r.target) past);
      past = past ∙ ap (record_of p) (sym played);
      from = search rules;
      to = search rules;
      legal = ap (is_legal p) played ∙ c.requires.legal;
    })
