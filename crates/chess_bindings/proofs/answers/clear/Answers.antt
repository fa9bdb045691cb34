use Rattle.std.proofs.Common.{refl}
use Rattle.std.specs.Prelude.{⊤, false}
use Rattle.chess_bindings.proofs.TextLemmas.{never_fails}
use Rattle.chess_bindings.proofs.answers.clear.Goals as goal

pub unreachable-requires : goal.unreachable-requires
unreachable-requires g c =
    never_fails (λ _ _ _. ⊤) (λ _. false) (λ _. refl) c.flush.result c.in_default.field-0 c.in_default.is c.args.page.now c.flush.new.self _ c.flush.new.writer c.flush.ensures.flows
