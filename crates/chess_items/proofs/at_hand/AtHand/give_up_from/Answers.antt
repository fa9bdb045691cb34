use Rattle.std.proofs.Common.{◌-◌, arith}
use Rattle.chess_items.proofs.GiveUpLemmas.{given_up_after, no_less, section_breaks, skim_breaks, skimmed_part, sought_part}
use Rattle.chess_items.proofs.at_hand.AtHand.give_up_from.Goals as goal

pub overflow_sub-result : goal.overflow_sub-result
overflow_sub-result g c =
    let less = no_less g.R.Source.gives g.R.Source.failed c.args.self.now c.skim_on.new.text c.pass_to_section.new.self c.in_default.ensures.onward c.in-Ok.field-0 c.in-Ok.ensures.passes in
    omega (arith, less, c.used.ensures, c.used-from.ensures)

pub returns-in-Ok-clause-gives_up : goal.returns-in-Ok-clause-gives_up
returns-in-Ok-clause-gives_up g c = λ before h.
    let less = no_less g.R.Source.gives g.R.Source.failed c.args.self.now c.skim_on.new.text c.pass_to_section.new.self c.in_default.ensures.onward c.in-Ok.field-0 c.in-Ok.ensures.passes in
    given_up_after g.R.Source.gives g.R.Source.failed c.args.self.now c.skim_on.new.text c.pass_to_section.new.self c.in_default.ensures.onward c.in-Ok.field-0 c.in-Ok.ensures.passes before c.args.halt h (c.in_default.ensures.skimmed before h)
    (c.used.result - c.used-from.result) (omega (arith, less, c.used.ensures, c.used-from.ensures))

pub returns-in-Ok-clause-used : goal.returns-in-Ok-clause-used
returns-in-Ok-clause-used g c =
    let less = no_less g.R.Source.gives g.R.Source.failed c.args.self.now c.skim_on.new.text c.pass_to_section.new.self c.in_default.ensures.onward c.in-Ok.field-0 c.in-Ok.ensures.passes in
    omega (arith, less, c.used.ensures, c.used-from.ensures)

pub returns-in-Err-clause-broken : goal.returns-in-Err-clause-broken
returns-in-Err-clause-broken g c = skim_breaks g.R.Source.gives g.R.Source.failed c.args.self.now c.skim_on.new.text c.in-Err.fault c.in-Err.ensures.broken

pub returns-in-Err-pass_to_section-clause-broken : goal.returns-in-Err-pass_to_section-clause-broken
returns-in-Err-pass_to_section-clause-broken g c = section_breaks g.R.Source.gives g.R.Source.failed c.args.self.now c.skim_on.new.text c.pass_to_section.new.self c.in_default.ensures.onward c.in-Err-pass_to_section.fault c.in-Err-pass_to_section.ensures.broken

pub returns-in-Err-clause-in_part : goal.returns-in-Err-clause-in_part
returns-in-Err-clause-in_part g c = λ before h. skimmed_part g.R.Source.gives g.R.Source.failed before c.skim_on.new.text c.in-Err.fault (c.in-Err.ensures.in_part before h)

pub returns-in-Err-pass_to_section-clause-in_part : goal.returns-in-Err-pass_to_section-clause-in_part
returns-in-Err-pass_to_section-clause-in_part g c = λ before h. sought_part g.R.Source.gives g.R.Source.failed before c.skim_on.new.text (c.in_default.ensures.skimmed before h) c.pass_to_section.new.self c.in-Err-pass_to_section.fault c.in-Err-pass_to_section.ensures.broken
