use Rattle.std.proofs.Common.{◌≡◌, ℕ, ◌-◌, eqb, length, take, drop, ◌∙◌, ap}
use Rattle.std.specs.List.{list_all, prefix_len}
use Rattle.std.proofs.lemmas.List.{take_rest}
use Rattle.chess_items.specs.steps.Classes.{has_byte}
use Rattle.chess_items.proofs.ResumeLemmas.{resumes, whole_run}
use Rattle.chess_items.proofs.cut.goes_on.Goals as goal

pub returns : goal.returns
returns c =
    let p = has_byte c.args.class in
    let bytes = c.args.bytes.now in
    let rest = take (length bytes - c.args.from) (drop c.args.from bytes) in
    let n : eqb c.run_len.result (length rest) ≡ eqb (prefix_len p rest) (length rest) = ap (λ (n : ℕ). eqb n (length rest)) c.run_len.ensures.run in
    n ∙ whole_run p rest ∙ ap (list_all p) (take_rest bytes c.args.from) ∙ resumes p c.args.from bytes c.requires.seen
