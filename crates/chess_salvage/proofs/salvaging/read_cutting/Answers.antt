use Rattle.std.proofs.Common.{◌≡◌, [], length, sym, ap, subst, arith, None}
use Rattle.chess_pgn.specs.Reading.{HasNoGame}
use Rattle.chess_salvage.specs.Salvaging.{HoldsFound, CutsOff, found_in}
use Rattle.chess_salvage.proofs.SalvagingLemmas.{cut_more, if_none, if_some, length-more, none_found, widened}
use Rattle.chess_salvage.proofs.salvaging.read_cutting.Goals as goal

-- the text is read
pub returns-in_default : goal.returns-in_default
returns-in_default g c =
    let text = c.loop-before.text.items in
    let read =
    subst (λ x. HoldsFound x [] (found_in c.read_strictly.new.game)) c.as_slice.ensures.value
    (if_none (HoldsFound c.as_slice.result.now [] (found_in c.read_strictly.new.game)) c.in_ok-fault.field-0 c.in_default.is c.in_ok-fault.ensures.read) in
    (text, c.loop-before.invariant.0, widened text c.loop-before.cuts.items (found_in c.read_strictly.new.game) read)

-- it can't be written anew
pub returns-then-not-branch : goal.returns-then-not-branch
returns-then-not-branch g c =
    let text = c.loop-before.text.items in
    let none =
    subst (λ x. (c.read_strictly.new.game ≡ None) × HasNoGame x) c.as_slice.ensures.value
    (if_some ((c.read_strictly.new.game ≡ None) × HasNoGame c.as_slice.result.now) c.in_ok-fault.field-0 c.in-Some.fault c.in-Some.is c.in_ok-fault.ensures.fault) in
    let kept = c.in_ok-cut_once.ensures.none c.if-not-branch.true in (
      text,
      subst (λ x. CutsOff c.args.text.items x.items text) (sym kept.1) c.loop-before.invariant.0,
      none_found text c.cut_once.new.cuts.items c.read_strictly.new.game none.0 none.1,
    )

-- one cut more
pub loop-before-preserved : goal.loop-before-preserved
loop-before-preserved g c =
    let text = c.loop-before.text.items in
    let cuts = c.loop-before.cuts.items in
    let none =
    subst (λ x. (c.read_strictly.new.game ≡ None) × HasNoGame x) c.as_slice.ensures.value
    (if_some ((c.read_strictly.new.game ≡ None) × HasNoGame c.as_slice.result.now) c.in_ok-fault.field-0 c.in-Some.fault c.in-Some.is c.in_ok-fault.ensures.fault) in
    let made = c.in_ok-cut_once.ensures.cut c.if-not-branch.false in (
      subst (λ x. CutsOff c.args.text.items x c.cut_once.new.text.items) (sym made.2) (cut_more c.args.text.items text c.cut_once.new.text.items cuts made.0 c.loop-before.invariant.0 made.1),
      (let l = length-more cuts made.0 in let e = ap length made.2 in let i = c.loop-before.invariant.1 in omega (arith, l, e, i)),
      none.0,
    )
