-- A man that takes the place of another: attacks through the square are closed before and afterwards.
use Rattle.std.proofs.Common.{◌≡◌, ℕ, ◌+◌, ◌<◌, Some, arith}
use Rattle.std.specs.FinMap.{get, insert, remove}
use Rattle.chess_types.specs.declared.board.man.Colour.{Colour}
use Rattle.chess_types.specs.declared.board.man.Man.{Man}
use Rattle.chess_types.specs.board.Board.{Board, man_at}
use Rattle.chess_types.specs.board.Attack.{count}
use Rattle.chess_types.proofs.BoardLaws.{boards, same_board}
use Rattle.chess_attack.specs.declared.change.Change.TheVariants.{Raise, Lower}
use Rattle.chess_attack.specs.KeptCounts.{KeptCounts, AreCounts}
use Rattle.chess_attack.specs.steps.Marks.{Moves, HasRoomFor, own}
use Rattle.chess_attack.specs.steps.Through.{cut}
use Rattle.chess_attack.proofs.Added.{Adds, adds_clear}
use Rattle.chess_attack.proofs.Counting.{count_small}
use Rattle.chess_attack.proofs.Cuts.{count_cut}
use Rattle.chess_attack.proofs.Puts.{own_same, own_counted}

-- to clear a square first changes nothing
pub put-again : (board : Board) (at : ℕ) (man : Man) → insert (remove board at) at man ≡ insert board at man
put-again board at man = same_board _ _ (λ q. grind (arith, boards))

module _ (board : Board) (at : ℕ) (other man : Man) (lt : at < 64) (held : get board at ≡ Some other) where
  -- both boards have one man more than the board with the square empty
  adds_other : Adds (man_at (remove board at)) (man_at board) at other
  adds_other = adds_clear board at other lt held

  adds_man : Adds (man_at (remove board at)) (man_at (insert board at man)) at man
  adds_man = record {
    on_board = lt;
    gone = grind (arith, boards);
    here = grind (arith, boards);
    rest = λ t ht ne. grind (arith, boards);
  }

  -- the one's attacks go, the other's come
  replaced :
      (c : Colour) (s : ℕ) → s < 64 →
      count (man_at (insert board at man)) c s + own other (man_at board) at c s ≡ count (man_at board) c s + own man (man_at board) at c s
  replaced c s hs =
      let before : count (man_at board) c s + cut (man_at (remove board at)) at c s ≡ count (man_at (remove board at)) c s + own other (man_at board) at c s =
      count_cut (man_at (remove board at)) (man_at board) at other adds_other c s hs in
      let after : count (man_at (insert board at man)) c s + cut (man_at (remove board at)) at c s
      ≡ count (man_at (remove board at)) c s + own man (man_at (insert board at man)) at c s =
      count_cut (man_at (remove board at)) (man_at (insert board at man)) at man adds_man c s hs in
      let here : own man (man_at board) at c s ≡ own man (man_at (remove board at)) at c s =
      own_same (man_at (remove board at)) (man_at board) at other adds_other man c s in
      let there : own man (man_at (insert board at man)) at c s ≡ own man (man_at (remove board at)) at c s =
      own_same (man_at (remove board at)) (man_at (insert board at man)) at man adds_man man c s in
      omega (arith, before, after, here, there)

  pub replace_less : (old : KeptCounts) → AreCounts old board → HasRoomFor Lower old (own other (man_at board) at)
  replace_less old agrees c s hs = omega (arith, agrees.each c s hs, own_counted (man_at board) at other c s lt held)

  pub replace_more :
      (old mid : KeptCounts) → AreCounts old board → Moves Lower old mid (own other (man_at board) at) → HasRoomFor Raise mid (own man (man_at board) at)
  replace_more old mid agrees less c s hs =
      omega (arith, agrees.each c s hs, less c s hs, replaced c s hs, count_small (man_at (insert board at man)) c s)

  pub replace_counts :
      (old mid new : KeptCounts) → AreCounts old board → Moves Lower old mid (own other (man_at board) at) →
      Moves Raise mid new (own man (man_at board) at) → AreCounts new (insert board at man)
  replace_counts old mid new agrees less more = record {
    each = λ c s hs. omega (arith, agrees.each c s hs, less c s hs, more c s hs, replaced c s hs);
  }
