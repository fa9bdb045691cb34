use Rattle.std.proofs.Common.{◌≤◌, ◌<◌, ◌+◌, ◌⊎◌, inl, inr, length, arith, List, ℕ, ap}
use Rattle.chess_collection.proofs.WindowLemmas.{handed_on}
use Rattle.chess_collection.proofs.WindowLemmas.{comes_broken, comes_none, comes_on}
use Rattle.chess_collection.specs.Windows.{NoMore}
use Rattle.chess_collection.proofs.window.Window.fill.Goals as goal

pub loop-self-init : goal.loop-self-init
loop-self-init g c = (comes_none g.R.Source.gives g.R.Source.failed c.args.self.now, c.requires.sound, inl (omega arith))

pub loop-self-preserved : goal.loop-self-preserved
loop-self-preserved g c = (
  comes_on g.R.Source.gives g.R.Source.failed c.args.self.now c.loop-self.self c.read_more.new.self c.loop-self.invariant.0 c.in_ok-read_more.ensures.came,
  c.in_ok-read_more.ensures.sound,
  inr (let n = c.in_ok-read_more.ensures.few in let m = c.if-unread-most.true in let k = ap length c.unread.ensures in omega (arith, n, m, k)),
)

-- no more comes
pub returns-in_err-read_more-clause-broken : goal.returns-in_err-read_more-clause-broken
returns-in_err-read_more-clause-broken g c =
    let few = λ (bytes : List ℕ). (length bytes ≤ length c.args.self.now.bytes) ⊎ (length bytes < c.args.most + 65536) in
    handed_on (λ f. NoMore g.R.Source.gives g.R.Source.failed few c.args.self.now c.read_more.new.self f) c.from_residual.result c.in_err-read_more.field-0.0 c.from_residual.ensures.1
    (comes_broken g.R.Source.gives g.R.Source.failed (λ bytes. length bytes ≤ length c.loop-self.self.bytes) few c.args.self.now c.loop-self.self c.read_more.new.self c.in_err-read_more.field-0.0 c.loop-self.invariant.0 (so c.loop-self.invariant.2) c.in_err-read_more.ensures.broken)
  where
    so : (length c.loop-self.self.bytes ≤ length c.args.self.now.bytes) ⊎ (length c.loop-self.self.bytes < c.args.most + 65536) → (bytes : List ℕ) → length bytes ≤ length c.loop-self.self.bytes
        → (length bytes ≤ length c.args.self.now.bytes) ⊎ (length bytes < c.args.most + 65536)
    so (inl no_more) bytes less = inl (omega (arith, no_more, less))
    so (inr few) bytes less = inr (omega (arith, few, less))
