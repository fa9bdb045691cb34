use Rattle.std.proofs.Common.{◌≤◌, ◌<◌, ◌+◌, ◌*◌, ◌⊎◌, inl, inr, ◌∙◌, List, ℕ, ◌++◌, length, arith, ap, append_assoc, refl, subst}
use Rattle.chess_collection.specs.Windows.{StayFew}
use Rattle.chess_collection.specs.steps.Going.{BreaksOff}
use Rattle.chess_collection.proofs.GoingLemmas.{broken_off, few_after_white, starved, wide_on}
use Rattle.chess_collection.proofs.WindowLemmas.{comes_none, comes_on, handed_on}
use Rattle.chess_collection.proofs.going.decided.Goals as goal

-- nothing came yet
pub loop-handled-init : goal.loop-handled-init
loop-handled-init g c = record { comes = comes_none g.R.Source.gives g.R.Source.failed c.args.window.now; knows = c.requires.sound; wide = c.requires.wide; few = inl (omega arith) }

-- the handler had no memory
pub returns-in_err-handled-clause-broken : goal.returns-in_err-handled-clause-broken
returns-in_err-handled-clause-broken g c =
    handed_on (λ f. BreaksOff g.R.Source.gives g.R.Source.failed g.R.Source.ended g.H.GameHandler.white c.args.window.now c.loop-handled.window f) c.from_residual.result c.in_err-handled.field-0.0 c.from_residual.ensures.1
    (starved g.R.Source.gives g.R.Source.failed g.R.Source.ended g.H.GameHandler.white c.args.window.now c.loop-handled.window c.in_err-handled.field-0.0 c.loop-handled.invariant.comes c.loop-handled.invariant.knows c.loop-handled.invariant.few c.in_err-handled.ensures.memory)

pub returns-in_err-read_more-clause-broken : goal.returns-in_err-read_more-clause-broken
returns-in_err-read_more-clause-broken g c =
    let u = c.loop-handled.window in
    handed_on (λ f. BreaksOff g.R.Source.gives g.R.Source.failed g.R.Source.ended g.H.GameHandler.white c.args.window.now c.read_more.new.self f) c.from_residual-in_err-read_more.result c.in_err-read_more.field-0.0 c.from_residual-in_err-read_more.ensures.1
    (broken_off g.R.Source.gives g.R.Source.failed g.R.Source.ended g.H.GameHandler.white (λ bytes. length bytes ≤ length u.bytes) c.args.window.now u c.read_more.new.self
    c.in_err-read_more.field-0.0 c.loop-handled.invariant.comes (λ more less. few_after_white g.H.GameHandler.white c.args.window.now.bytes u.bytes more (u.bytes ++ more) (subst g.H.GameHandler.white c.unread.ensures (c.in_ok-handled.ensures.white c.in_default.is)) refl (omega (arith, less))) c.in_err-read_more.ensures.broken)

pub returns-in_err-fill-clause-broken : goal.returns-in_err-fill-clause-broken
returns-in_err-fill-clause-broken g c =
    let u = c.loop-handled.window in
    let m = c.read_more.new.self in
    handed_on (λ f. BreaksOff g.R.Source.gives g.R.Source.failed g.R.Source.ended g.H.GameHandler.white c.args.window.now c.fill.new.self f) c.from_residual-in_err-fill.result c.in_err-fill.field-0.0 c.from_residual-in_err-fill.ensures.1
    (broken_off g.R.Source.gives g.R.Source.failed g.R.Source.ended g.H.GameHandler.white (λ bytes. (length bytes ≤ length m.bytes) ⊎ (length bytes < c.saturating_mul-most.result + 65536)) c.args.window.now m c.fill.new.self
    c.in_err-fill.field-0.0 (comes_on g.R.Source.gives g.R.Source.failed c.args.window.now u m c.loop-handled.invariant.comes c.in_ok-read_more.ensures.came) few c.in_err-fill.ensures.broken)
  where
    at_most : (more : List ℕ) → (length (c.read_more.new.self.bytes ++ more) ≤ length c.read_more.new.self.bytes) ⊎ (length (c.read_more.new.self.bytes ++ more) < c.saturating_mul-most.result + 65536)
        → length (c.read_more.new.self.bytes ++ more) ≤ 2 * length c.loop-handled.window.bytes + 65536
    at_most more (inl less) = (let n = c.in_ok-read_more.ensures.few in omega (arith, less, n))
    at_most more (inr less) = (let n = c.saturating_mul-most.ensures in let m = ap length c.unread-in-loop-handled.ensures in omega (arith, less, n, m))

    few : (more : List ℕ) → (length (c.read_more.new.self.bytes ++ more) ≤ length c.read_more.new.self.bytes) ⊎ (length (c.read_more.new.self.bytes ++ more) < c.saturating_mul-most.result + 65536)
        → StayFew g.H.GameHandler.white c.args.window.now.bytes (c.read_more.new.self.bytes ++ more)
    few more less =
        let came = c.in_ok-read_more.ensures.came in
        few_after_white g.H.GameHandler.white c.args.window.now.bytes c.loop-handled.window.bytes (came.bytes ++ more) (c.read_more.new.self.bytes ++ more) (subst g.H.GameHandler.white c.unread.ensures (c.in_ok-handled.ensures.white c.in_default.is))
        (ap (λ (z : List ℕ). z ++ more) came.whole ∙ append_assoc c.loop-handled.window.bytes came.bytes more) (at_most more less)

-- white space, and more bytes
pub loop-handled-preserved : goal.loop-handled-preserved
loop-handled-preserved g c =
    let u = c.loop-handled.window in
    let more = comes_on g.R.Source.gives g.R.Source.failed u c.read_more.new.self c.fill.new.self c.in_ok-read_more.ensures.came c.in_ok-fill.ensures.came in
    record {
      comes = comes_on g.R.Source.gives g.R.Source.failed c.args.window.now u c.fill.new.self c.loop-handled.invariant.comes more;
      knows = c.in_ok-fill.ensures.sound;
      wide = wide_on g.R.Source.gives g.R.Source.failed u c.fill.new.self more c.loop-handled.invariant.wide;
      few =
          few_after_white g.H.GameHandler.white c.args.window.now.bytes u.bytes more.bytes c.fill.new.self.bytes (subst g.H.GameHandler.white c.unread.ensures (c.in_ok-handled.ensures.white c.in_default.is)) more.whole
          (at_most c.in_ok-fill.ensures.few);
    }
  where
    at_most : (length c.fill.new.self.bytes ≤ length c.read_more.new.self.bytes) ⊎ (length c.fill.new.self.bytes < c.saturating_mul-most.result + 65536) → length c.fill.new.self.bytes ≤ 2 * length c.loop-handled.window.bytes + 65536
    at_most (inl less) = (let n = c.in_ok-read_more.ensures.few in omega (arith, less, n))
    at_most (inr less) = (let n = c.saturating_mul-most.ensures in let m = ap length c.unread-in-loop-handled.ensures in omega (arith, less, n, m))
