use Rattle.std.proofs.Common.{rules, inr, Bool, MatchBool, ◌≤◌, ◌∙◌, ℕ, List, length, sym, ap, subst}
use Rattle.chess_items.specs.steps.Deciding.{Decides}
use Rattle.chess_items.specs.Coming.{AtHand, unread}
use Rattle.chess_items.proofs.BreakLemmas.{at_fault, at_many, has_read}
use Rattle.chess_items.proofs.ReadyLemmas.{Going, going_start, going_on, so_far}
use Rattle.chess_items.proofs.at_hand.AtHand.read_until_decided.Given.{Over}
use Rattle.chess_items.proofs.at_hand.AtHand.read_until_decided.Goals.{After-note}
use Rattle.chess_items.proofs.at_hand.AtHand.read_until_decided.Goals as goal

-- what was read so far, once it is noted
noted : (g : Over) (c : After-note g) → Going g.R.Source.gives g.R.Source.ended g.R.Source.failed c.args.most c.args.place c.loop-place.looked c.args.self.now c.note.new.self
noted g c = subst (λ (s : AtHand g.row.R.Denot). Going {R = g.row.R.Denot} g.R.Source.gives g.R.Source.ended g.R.Source.failed c.args.most c.args.place c.loop-place.looked c.args.self.now s) (sym c.note.ensures) c.loop-place.invariant

undecided : (g : Over) (c : After-note g) → Decides c.args.place (unread c.note.new.self) → ⊥
undecided g c =
    let here : Decides c.args.place c.unread.result.now → ⊥ =
    subst (λ (b : Bool). MatchBool b (Decides c.args.place c.unread.result.now → ⊥) (Decides c.args.place c.unread.result.now)) c.loop-place-test.true c.is_undecided.ensures in
    subst (λ (x : List ℕ). Decides c.args.place x → ⊥) (c.unread.ensures ∙ ap (λ (s : AtHand g.row.R.Denot). unread s) (sym c.note.ensures)) here

pub loop-place-init : goal.loop-place-init
loop-place-init g c = going_start g.R.Source.gives g.R.Source.ended g.R.Source.failed c.args.most c.args.place c.args.self.now c.looked-looked.result c.looked-looked.ensures.within c.looked-looked.ensures.undecided c.requires.ended

pub returns-then-reads_left-eq0-clause-broken : goal.returns-then-reads_left-eq0-clause-broken
returns-then-reads_left-eq0-clause-broken g c =
    let at = (goal.at.returns-then-reads_left-eq0-clause-broken g c).After-note in
    let so = noted g at in
    let few : length (unread c.note.new.self) ≤ c.args.most = subst (λ (x : List ℕ). length x ≤ c.args.most) c.unread-in-loop-place.ensures c.if-unread-most.false in
    at_many (so_far so.brought) (search rules) g.R.Source.ended c.args.most c.args.place so.brought.whole (undecided g at) few so.brought.asked (search rules)

pub returns-in-Err-clause-broken : goal.returns-in-Err-clause-broken
returns-in-Err-clause-broken g c =
    let at = (goal.at.returns-in-Err-clause-broken g c).After-note in
    let so = noted g at in
    let few : length (unread c.note.new.self) ≤ c.args.most = subst (λ (x : List ℕ). length x ≤ c.args.most) c.unread-in-loop-place.ensures c.if-unread-most.false in
    at_fault (so_far so.brought) (search rules) g.R.Source.ended c.args.most c.args.place so.brought.whole (undecided g at) few so.brought.asked c.read_on.new.self c.in-Err.fault c.in-Err.ensures

pub loop-place-preserved : goal.loop-place-preserved
loop-place-preserved g c =
    let at = (goal.at.loop-place-preserved g c).After-note in
    let now = c.note.new.self in
    let place = c.args.place in
    let few : length (unread now) ≤ c.args.most = subst (λ (x : List ℕ). length x ≤ c.args.most) c.unread-in-loop-place.ensures c.if-unread-most.false in
    subst (λ (x : List ℕ). Going {R = g.row.R.Denot} g.R.Source.gives g.R.Source.ended g.R.Source.failed c.args.most place (length x) c.args.self.now c.read_on.new.self) (sym c.unread-looked.ensures)
    (going_on g.R.Source.gives g.R.Source.ended g.R.Source.failed c.args.most place c.args.self.now c.loop-place.looked now c.read_on.new.self (noted g at) (search rules) (undecided g at) few
    (has_read g.R.Source.gives g.R.Source.ended g.R.Source.failed now c.read_on.new.self c.in_default.ensures))

pub returns-then-unread-most-clause-readied : goal.returns-then-unread-most-clause-readied
returns-then-unread-most-clause-readied g c =
    let at = (goal.at.returns-then-unread-most-clause-readied g c).After-note in
    record { brought = (noted g at).brought; after = (search rules, undecided g at) }

pub returns-then-is_at_end-clause-readied : goal.returns-then-is_at_end-clause-readied
returns-then-is_at_end-clause-readied g c =
    let at = (goal.at.returns-then-is_at_end-clause-readied g c).After-note in
    record { brought = (noted g at).brought; after = inr (search rules) }
