use Rattle.std.proofs.Common.{◌≡◌, ◌∙◌, ◌++◌, true, false, List, ℕ, refl, sym, ap, subst}
use Rattle.chess_items.specs.Coming.{Breaks, Came, unread}
use Rattle.chess_items.specs.steps.AtHands.{HasRefilled}
use Rattle.chess_items.specs.steps.Texts.{RefillBreaks}
use Rattle.chess_collection.proofs.WindowLemmas.{end_comes, few_come, memory_breaks, piece_comes, piece_lost, read_breaks}
use Rattle.chess_collection.proofs.window.Window.read_more.Goals as goal

-- none came, and the source has ended
pub returns-in-Ok-false-clause-came : goal.returns-in-Ok-false-clause-came
returns-in-Ok-false-clause-came g c =
    end_comes g.R.Source.gives g.R.Source.failed c.self.inside.pieces c.refill.new.self c.args.self.now (ap (λ w. w.source) (sym c.self.view_is)) (ap (λ w. w.reads) (sym c.self.view_is)) g.R.Source.ended _
    (subst (λ more. HasRefilled g.R.Source.gives g.R.Source.ended g.R.Source.failed c.self.inside.pieces c.refill.new.self more) c.in-Ok-false.field-0-test c.in-Ok-false.ensures.refilled) refl refl
    (c.drop_front.ensures ∙ ap (λ w. w.bytes) c.self.view_is) refl

-- a read failed, or there may be no more
pub returns-in-Err-Read-clause-broken : goal.returns-in-Err-Read-clause-broken
returns-in-Err-Read-clause-broken g c =
    read_breaks g.R.Source.gives g.R.Source.failed c.self.inside.pieces c.refill.new.self c.args.self.now (ap (λ w. w.source) (sym c.self.view_is)) (ap (λ w. w.reads) (sym c.self.view_is)) (record { source = c.refill.new.self.source; bytes = c.drop_front.new.bytes.items; has_ended = false; seen = false; reads = 0 }) c.requires.goes_on refl
    (c.drop_front.ensures ∙ ap (λ w. w.bytes) c.self.view_is)
    (subst (λ fault. RefillBreaks (λ s bytes t. Came g.R.Source.gives g.R.Source.failed s bytes t) (λ s t. Breaks g.R.Source.gives g.R.Source.failed s t) (λ s. s.has_ended ≡ true) (λ s. s.reads) c.self.inside.pieces c.refill.new.self fault) c.in-Err-Read.field-0-is
    c.in-Err-Read.ensures.broken)

-- there was no memory to read into
pub returns-in-Err-Memory-clause-broken : goal.returns-in-Err-Memory-clause-broken
returns-in-Err-Memory-clause-broken g c =
    memory_breaks g.R.Source.gives g.R.Source.failed c.self.inside.pieces c.refill.new.self c.args.self.now (ap (λ w. w.source) (sym c.self.view_is)) (ap (λ w. w.reads) (sym c.self.view_is)) (record { source = c.refill.new.self.source; bytes = c.drop_front.new.bytes.items; has_ended = false; seen = false; reads = 0 }) c.requires.goes_on refl
    (subst (λ fault. RefillBreaks (λ s bytes t. Came g.R.Source.gives g.R.Source.failed s bytes t) (λ s t. Breaks g.R.Source.gives g.R.Source.failed s t) (λ s. s.has_ended ≡ true) (λ s. s.reads) c.self.inside.pieces c.refill.new.self fault) c.in-Err-Memory.field-0-is
    c.in-Err-Memory.ensures.broken)

-- there was none for what came
pub returns-in_default-clause-broken : goal.returns-in_default-clause-broken
returns-in_default-clause-broken g c =
    piece_lost g.R.Source.gives g.R.Source.failed c.self.inside.pieces c.refill.new.self c.args.self.now (ap (λ w. w.source) (sym c.self.view_is)) (ap (λ w. w.reads) (sym c.self.view_is)) g.R.Source.ended (record { source = c.refill.new.self.source; bytes = c.drop_front.new.bytes.items; has_ended = false; seen = false; reads = 0 }) c.requires.goes_on refl
    (subst (λ more. HasRefilled g.R.Source.gives g.R.Source.ended g.R.Source.failed c.self.inside.pieces c.refill.new.self more) c.in-Ok-true.field-0-test c.in-Ok-true.ensures.refilled)

-- a piece came
pub returns-clause-came : goal.returns-clause-came
returns-clause-came g c =
    piece_comes g.R.Source.gives g.R.Source.failed c.self.inside.pieces c.refill.new.self c.args.self.now (ap (λ w. w.source) (sym c.self.view_is)) (ap (λ w. w.reads) (sym c.self.view_is)) g.R.Source.ended _
    (subst (λ more. HasRefilled g.R.Source.gives g.R.Source.ended g.R.Source.failed c.self.inside.pieces c.refill.new.self more) c.in-Ok-true.field-0-test c.in-Ok-true.ensures.refilled) c.requires.goes_on refl refl
    (c.in-Ok.ensures.items ∙ ap (λ (z : List ℕ). c.drop_front.new.bytes.items ++ z) c.unread.ensures
    ∙ ap (λ (z : List ℕ). z ++ unread c.refill.new.self) (c.drop_front.ensures ∙ ap (λ w. w.bytes) c.self.view_is))

pub returns-clause-few : goal.returns-clause-few
returns-clause-few g c =
    few_come g.R.Source.gives g.R.Source.failed c.self.inside.pieces c.refill.new.self c.args.self.now (ap (λ w. w.source) (sym c.self.view_is)) (ap (λ w. w.reads) (sym c.self.view_is)) g.R.Source.ended _
    (subst (λ more. HasRefilled g.R.Source.gives g.R.Source.ended g.R.Source.failed c.self.inside.pieces c.refill.new.self more) c.in-Ok-true.field-0-test c.in-Ok-true.ensures.refilled)
    (c.in-Ok.ensures.items ∙ ap (λ (z : List ℕ). c.drop_front.new.bytes.items ++ z) c.unread.ensures
    ∙ ap (λ (z : List ℕ). z ++ unread c.refill.new.self) (c.drop_front.ensures ∙ ap (λ w. w.bytes) c.self.view_is))
