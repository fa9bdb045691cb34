use Rattle.std.proofs.Common.{◌≡◌, Bool, true, Ok, refl, sym, subst}
use Rattle.chess_items.specs.Items as items
use Rattle.chess_items.specs.Items.{Item}
use Rattle.chess_items.specs.steps.Idle.{is_idle}
use Rattle.chess_items.specs.declared.taker.Taken.TheVariants.{GoesOn}
use Rattle.chess_pgn.specs.steps.ReaderCode.{Read, takes_when}
use Rattle.chess_pgn.specs.declared.reader.Reader.{Reader}
use Rattle.chess_pgn.proofs.reader.ReaderTaker.is_passing.Goals as goal

-- they belong to movetext, and add nothing to it
idle_read : {A : Type 0} (reader : Reader A) (item : Item) → is_idle item ≡ true → Read item reader reader
idle_read reader (items.Blank b) idle = record { stands = refl; moves = λ s h. (s, h, record { start = refl; given = λ es. refl; few = λ es. refl }); moving = refl; outcome = refl; header = refl }
idle_read reader items.Skipped idle = record { stands = refl; moves = λ s h. (s, h, record { start = refl; given = λ es. refl; few = λ es. refl }); moving = refl; outcome = refl; header = refl }
idle_read reader _ idle = absurd cc

pub returns : goal.returns
returns g c = λ moving at item idle. (subst (λ (b : Bool). takes_when b item (Ok GoesOn) c.args.self.now c.args.self.now) (sym moving) (idle_read c.args.self.now item idle), tt)
