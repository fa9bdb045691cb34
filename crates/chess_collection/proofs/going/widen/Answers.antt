use Rattle.std.proofs.Common.{◌≤◌, inl, inr, length, arith, refl}
use Rattle.chess_collection.specs.steps.Going.{BreaksOff}
use Rattle.chess_collection.proofs.GoingLemmas.{broken_off, fewer, starved}
use Rattle.chess_collection.proofs.WindowLemmas.{comes_none, comes_on, handed_on}
use Rattle.chess_collection.proofs.going.widen.Goals as goal

-- nothing came yet
pub loop-place-init : goal.loop-place-init
loop-place-init g c = record { comes = comes_none g.R.Source.gives g.R.Source.failed c.args.window.now; knows = c.requires.sound; few = inl (omega arith) }

-- reading on broke off
pub returns-in_err-read_more-clause-broken : goal.returns-in_err-read_more-clause-broken
returns-in_err-read_more-clause-broken g c =
    let u = c.loop-place.window in
    handed_on (λ f. BreaksOff g.R.Source.gives g.R.Source.failed g.R.Source.ended g.H.GameHandler.white c.args.window.now c.read_more.new.self f) c.from_residual.result c.in_err-read_more.field-0.0 c.from_residual.ensures.1
    (broken_off g.R.Source.gives g.R.Source.failed g.R.Source.ended g.H.GameHandler.white (λ bytes. length bytes ≤ length u.bytes) c.args.window.now u c.read_more.new.self
    c.in_err-read_more.field-0.0 c.loop-place.invariant.comes (λ more less. inr (inl (let n = (c.loop-place-test.ensures.few refl).1 in omega (arith, n, less)))) c.in_err-read_more.ensures.broken)

pub read_more-requires-clause-goes_on : goal.read_more-requires-clause-goes_on
read_more-requires-clause-goes_on g c = (c.loop-place-test.ensures.few refl).0

-- the handler had no memory
pub returns-in_err-handled-clause-broken : goal.returns-in_err-handled-clause-broken
returns-in_err-handled-clause-broken g c =
    handed_on (λ f. BreaksOff g.R.Source.gives g.R.Source.failed g.R.Source.ended g.H.GameHandler.white c.args.window.now c.read_more.new.self f) c.from_residual-in_err-handled.result c.in_err-handled.field-0.0 c.from_residual-in_err-handled.ensures.1
    (starved g.R.Source.gives g.R.Source.failed g.R.Source.ended g.H.GameHandler.white c.args.window.now c.read_more.new.self c.in_err-handled.field-0.0
    (comes_on g.R.Source.gives g.R.Source.failed c.args.window.now c.loop-place.window c.read_more.new.self c.loop-place.invariant.comes c.in_ok-read_more.ensures.came) c.in_ok-read_more.ensures.sound
    (inr (inl (let n = (c.loop-place-test.ensures.few refl).1 in let m = c.in_ok-read_more.ensures.few in omega (arith, n, m)))) c.in_err-handled.ensures.memory)

-- a good game ends among the bytes that came
pub returns-in-Some-clause-came : goal.returns-in-Some-clause-came
returns-in-Some-clause-came g c = comes_on g.R.Source.gives g.R.Source.failed c.args.window.now c.loop-place.window c.read_more.new.self c.loop-place.invariant.comes c.in_ok-read_more.ensures.came

pub returns-in-Some-clause-few : goal.returns-in-Some-clause-few
returns-in-Some-clause-few g c = inr (inl (let n = (c.loop-place-test.ensures.few refl).1 in let m = c.in_ok-read_more.ensures.few in omega (arith, n, m)))

-- more bytes came
pub loop-place-preserved : goal.loop-place-preserved
loop-place-preserved g c =
    let u = c.loop-place.window in
    record {
      comes = comes_on g.R.Source.gives g.R.Source.failed c.args.window.now u c.read_more.new.self c.loop-place.invariant.comes c.in_ok-read_more.ensures.came;
      knows = c.in_ok-read_more.ensures.sound;
      few = inr (inl (let n = (c.loop-place-test.ensures.few refl).1 in let m = c.in_ok-read_more.ensures.few in omega (arith, n, m)));
    }

pub loop-place-preserved-in_default : goal.loop-place-preserved-in_default
loop-place-preserved-in_default g c =
    let u = c.loop-place.window in
    record {
      comes = comes_on g.R.Source.gives g.R.Source.failed c.args.window.now u c.read_more.new.self c.loop-place.invariant.comes c.in_ok-read_more.ensures.came;
      knows = c.in_ok-read_more.ensures.sound;
      few = inr (inl (let n = (c.loop-place-test.ensures.few refl).1 in let m = c.in_ok-read_more.ensures.few in omega (arith, n, m)));
    }

pub loop-place-smaller : goal.loop-place-smaller
loop-place-smaller g c =
    fewer g.R.Source.gives g.R.Source.failed c.loop-place.window c.read_more.new.self c.read_more.new.self (c.loop-place-test.ensures.few refl).0 c.in_ok-read_more.ensures.less (comes_none g.R.Source.gives g.R.Source.failed c.read_more.new.self)

pub loop-place-smaller-in_default : goal.loop-place-smaller-in_default
loop-place-smaller-in_default g c =
    fewer g.R.Source.gives g.R.Source.failed c.loop-place.window c.read_more.new.self c.read_more.new.self (c.loop-place-test.ensures.few refl).0 c.in_ok-read_more.ensures.less (comes_none g.R.Source.gives g.R.Source.failed c.read_more.new.self)
