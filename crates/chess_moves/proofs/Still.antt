-- While moves are only looked for, the position and the words of its key are as before; the ticks may be more.
use Rattle.std.proofs.Common.{◌≡◌, ℕ, true, List, refl}
use Rattle.std.specs.List.{list_all}
use Rattle.chess_types.specs.board.Men.{is_of}
use Rattle.chess_types.specs.board.Position.{man_on}
use Rattle.chess_play.specs.LiveParts.{LiveParts}

pub record IsStill (now before : LiveParts) : Type 0 where
  pub position : now.position ≡ before.position
  pub words : now.words ≡ before.words

pub still_first : {live : LiveParts} → IsStill live live
still_first = record { position = refl; words = refl }

-- and a man of the side to move stands on each square still to come
pub record IsOnOwn (now before : LiveParts) (left : List ℕ) : Type 0 where
  pub still : IsStill now before
  pub own : list_all (λ s. is_of before.position.side (man_on before.position s)) left ≡ true
