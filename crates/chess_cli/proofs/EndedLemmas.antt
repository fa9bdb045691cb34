-- Which end of the loop over lines a run's end was.
use Rattle.std.proofs.Common.{◌≡◌, ◌≢◌, refl}
use Rattle.chess_loop.specs.declared.driver.RunEnd.{RunEnd}
use Rattle.chess_loop.specs.declared.driver.RunEnd.TheVariants.{Good, ReadFault, WriteFault, Memory}
use Rattle.chess_items.specs.declared.fault.PgnFault.{PgnFault}
use Rattle.chess_cli.specs.declared.ended.Ended.TheVariants.{Input}
use Rattle.chess_cli.specs.Endings.{ended_of}

-- two ends that are reported alike are one
pub same_end : (end other : RunEnd) → ended_of end ≡ ended_of other → end ≡ other
same_end Good Good e = refl
same_end ReadFault ReadFault e = refl
same_end WriteFault WriteFault e = refl
same_end Memory Memory e = refl
same_end _ _ e = cc

-- the loop knows no games
pub no_input : (end : RunEnd) (fault : PgnFault) → ended_of end ≢ Input fault
no_input Good fault e = cc
no_input _ fault e = cc
