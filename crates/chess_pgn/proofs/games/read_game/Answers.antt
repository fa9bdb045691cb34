use Rattle.std.specs.Prelude.{None}
use Rattle.chess_items.specs.declared.text.Whole.{Whole}
use Rattle.chess_pgn.proofs.AnswerLemmas.{only_fault, only_found, white_fault, white_found, whole_fault}
use Rattle.chess_pgn.proofs.SourceLemmas.{ok_is, whole_game, whole_none}
use Rattle.chess_pgn.proofs.games.read_game.Goals as goal

pub returns-in-Ok-clause-game : goal.returns-in-Ok-clause-game
returns-in-Ok-clause-game g c = whole_game (λ (s : Whole). s.left.now) (λ s. Unit {0}) (λ s. 0) (record { left = c.args.input }) c.take_game.new.text c.in-Ok.game c.in-Ok.ensures.game

pub returns-in-Ok-clause-none : goal.returns-in-Ok-clause-none
returns-in-Ok-clause-none g c = λ e. whole_none (λ (s : Whole). s.left.now) (λ s. Unit {0}) (λ s. 0) (record { left = c.args.input }) c.take_game.new.text c.in-Ok.game c.in-Ok.ensures.game (ok_is c.in-Ok.game None e)

pub returns-in-Ok-clause-only : goal.returns-in-Ok-clause-only
returns-in-Ok-clause-only g c = only_found (λ (s : Whole). s.left.now) (λ s. Unit {0}) (λ s. 0) (record { left = c.args.input }) c.take_game.new.text c.in-Ok.game c.in-Ok.ensures.game

pub returns-in-Err-Pgn-clause-fault : goal.returns-in-Err-Pgn-clause-fault
returns-in-Err-Pgn-clause-fault g c = rw c.placed_after.ensures.kind (whole_fault (λ s t. ⊥) (λ (s : Whole). s.left.now) (λ s. Unit {0}) (λ s. Unit {0}) (λ s. 0) (record { left = c.args.input }) c.take_game.new.text c.in-Err-Pgn.field-0 c.in-Err-Pgn.fault c.in-Err-Pgn.ensures.game c.in-Err-Pgn.field-0-is)

pub returns-in-Err-Pgn-clause-only : goal.returns-in-Err-Pgn-clause-only
returns-in-Err-Pgn-clause-only g c = λ game used at. rw c.placed_after.ensures.kind (only_fault (λ s t. ⊥) (λ (s : Whole). s.left.now) (λ s. Unit {0}) (λ s. Unit {0}) (λ s. 0) (record { left = c.args.input }) c.take_game.new.text c.in-Err-Pgn.field-0 c.in-Err-Pgn.fault c.in-Err-Pgn.ensures.game c.in-Err-Pgn.field-0-is game used at)

pub returns-in-Ok-clause-white : goal.returns-in-Ok-clause-white
returns-in-Ok-clause-white g c = λ w. (white_found (λ (s : Whole). s.left.now) (λ s. Unit {0}) (λ s. 0) (record { left = c.args.input }) c.take_game.new.text c.in-Ok.game c.in-Ok.ensures.game w, tt)

pub returns-in-Err-Pgn-clause-white : goal.returns-in-Err-Pgn-clause-white
returns-in-Err-Pgn-clause-white g c = λ w. (tt, rw c.placed_after.ensures.kind (white_fault (λ s t. ⊥) (λ (s : Whole). s.left.now) (λ s. Unit {0}) (λ s. Unit {0}) (λ s. 0) (record { left = c.args.input }) c.take_game.new.text c.in-Err-Pgn.field-0 c.in-Err-Pgn.fault c.in-Err-Pgn.ensures.game c.in-Err-Pgn.field-0-is w))
