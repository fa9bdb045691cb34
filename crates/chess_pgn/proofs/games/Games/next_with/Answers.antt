use Rattle.std.proofs.Common.{rules, ℕ, Err, None, Ok, Option, Some, sym, subst}
use Rattle.chess_items.specs.Coming.{AtHand}
use Rattle.chess_items.specs.declared.skimming.Halt.{Halt}
use Rattle.chess_pgn.specs.Sources.{HasFault, IsPlaced, Leaves}
use Rattle.chess_pgn.proofs.AnswerLemmas.{source_fault, source_leaves}
use Rattle.chess_pgn.proofs.SourceLemmas.{again_reads, fault_sound, first_reads, next_game, source_none}
use Rattle.chess_pgn.proofs.games.Games.next_with.Goals as goal

pub returns-in-Some : goal.returns-in-Some
returns-in-Some g c = again_reads g.R.Source.gives g.R.Source.failed g.R.Source.ended c.args.self.now c.in-Some.fault (search rules) c.requires

pub returns-in-Ok-Some : goal.returns-in-Ok-Some
returns-in-Ok-Some g c =
    first_reads g.R.Source.gives g.R.Source.failed g.R.Source.ended c.args.self.now c.take.new.self (Ok (Some c.in-Ok-Some.game)) (search rules) (record { ended_so = λ on. c.in-Ok-Some.ensures.sound }) tt (search rules)
    (next_game g.R.Source.gives g.R.Source.failed c.args.self.now c.take.new.self c.in-Ok-Some.field-0 c.in-Ok-Some.game c.in-Ok-Some.field-0-0-1 c.in-Ok-Some.ensures.game c.in-Ok-Some.field-0-is) (search rules) (λ e. absurd cc) tt tt tt

pub returns-in-Ok-None : goal.returns-in-Ok-None
returns-in-Ok-None g c =
    first_reads g.R.Source.gives g.R.Source.failed g.R.Source.ended c.args.self.now c.take.new.self (Ok None) (search rules) (record { ended_so = λ on. c.in-Ok-None.ensures.sound }) tt (search rules) tt tt
    (λ e. source_none g.R.Source.gives g.R.Source.failed c.args.self.now.text c.take.new.self.text c.in-Ok-None.field-0 c.in-Ok-None.ensures.game c.in-Ok-None.field-0-is) tt tt tt

pub returns-in-Err : goal.returns-in-Err
returns-in-Err g c =
    let has = subst (λ (t : AtHand g.row.R.Denot). HasFault g.R.Source.gives g.R.Source.failed g.R.Source.ended c.args.self.now.text t c.keep.result) (sym c.keep.ensures.text)
    (source_fault g.R.Source.gives g.R.Source.failed g.R.Source.ended c.args.self.now.text c.take.new.self.text c.in-Err.fault c.keep.result c.in-Err.ensures.game c.keep.ensures.kind) in
    first_reads g.R.Source.gives g.R.Source.failed g.R.Source.ended c.args.self.now c.keep.new.self (Err c.keep.result) (search rules)
    (fault_sound g.R.Source.gives g.R.Source.failed g.R.Source.ended c.args.self.now.text c.keep.new.self c.keep.result c.keep.ensures.fault has) c.keep.ensures.fault tt tt tt (λ e. absurd cc) has
    (subst (λ (n : ℕ). IsPlaced n c.keep.result) c.text_used-used.ensures c.keep.ensures.place)
    (λ on.
    subst (λ (t : AtHand g.row.R.Denot). Leaves g.R.Source.gives g.R.Source.failed c.args.self.now.text t c.keep.new.self.halt) (sym c.keep.ensures.text)
    (subst (λ (h : Option Halt). Leaves g.R.Source.gives g.R.Source.failed c.args.self.now.text c.take.new.self.text h) (sym c.keep.ensures.halt)
    (source_leaves g.R.Source.gives g.R.Source.failed g.R.Source.ended c.args.self.now.text c.take.new.self.text g.row.A.Denot c.take.new.self.halt c.in-Err.fault c.keep.result c.in-Err.ensures.halts c.keep.ensures.kind on)))
