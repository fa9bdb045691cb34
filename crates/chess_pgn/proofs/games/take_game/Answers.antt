use Rattle.std.proofs.Common.{rules, inl, subst}
use Rattle.chess_items.specs.declared.at_hand.Fault.{Fault}
use Rattle.chess_items.specs.steps.Passing.{PassBreaks}
use Rattle.chess_pgn.specs.steps.ReaderCode.{TakesItem}
use Rattle.chess_pgn.proofs.FrontLemmas.{game_come, none_come}
use Rattle.chess_pgn.proofs.HaltLemmas.{few_come, leaves_come}
use Rattle.chess_pgn.proofs.StopLemmas.{broken_come, no_game_come, short_come}
use Rattle.chess_pgn.proofs.games.take_game.Goals as goal

pub returns-in-Ok-None-clause-game : goal.returns-in-Ok-None-clause-game
returns-in-Ok-None-clause-game g c =
    none_come g.X.Text.comes g.X.Text.at_hand g.X.Text.all g.X.Text.sound g.X.Text.reads (λ s at item result t. TakesItem s item result t) 1048576 c.args.text.now c.pass.new.text
    c.new-reader.result c.pass.new.taker c.in-Ok-None.field-0 c.in-Ok-None.ensures.passes c.in-Ok-None.field-0-is

pub returns-in-Ok-clause-game : goal.returns-in-Ok-clause-game
returns-in-Ok-clause-game g c =
    game_come g.X.Text.comes g.X.Text.at_hand g.X.Text.all g.X.Text.sound g.X.Text.reads c.args.text.now c.new-reader.result c.pass.new.taker c.new-reader.ensures c.in-Ok.game c.pass.new.text
    c.in-Ok-Some.field-0 c.in-Ok-Some.stopped c.in-Ok-Some.ensures.passes c.in-Ok-Some.field-0-is c.in-Ok.ensures.game

pub returns-in-Err-clause-game : goal.returns-in-Err-clause-game
returns-in-Err-clause-game g c =
    no_game_come g.X.Text.comes g.X.Text.at_hand g.X.Text.all g.X.Text.sound g.X.Text.reads c.args.text.now c.new-reader.result c.pass.new.taker c.new-reader.ensures c.pass.new.text
    c.in-Ok-Some.field-0 c.in-Ok-Some.stopped c.in-Err.fault c.in-Ok-Some.ensures.passes c.in-Ok-Some.field-0-is c.in-Err.ensures.refused c.in-Ok-Some.ensures.sound

pub returns-in-Err-Read-clause-game : goal.returns-in-Err-Read-clause-game
returns-in-Err-Read-clause-game g c =
    broken_come g.X.Text.comes g.X.Text.at_hand g.X.Text.all g.X.Text.sound g.X.Text.reads g.X.Text.breaks c.args.text.now c.pass.new.text c.new-reader.result c.new-reader.ensures
    (subst (λ (f : Fault). PassBreaks {X = g.row.X.Denot} g.X.Text.comes g.X.Text.at_hand g.X.Text.all g.X.Text.sound g.X.Text.reads (λ s at item result t. TakesItem s item result t) 1048576 g.X.Text.breaks c.args.text.now c.pass.new.text c.new-reader.result f)
    c.in-Err-Read.field-0-is c.in-Err-Read.ensures.broken)

pub returns-in-Err-Memory-clause-game : goal.returns-in-Err-Memory-clause-game
returns-in-Err-Memory-clause-game g c =
    inl (
      search rules,
      short_come g.X.Text.comes g.X.Text.at_hand g.X.Text.all g.X.Text.sound g.X.Text.reads g.X.Text.breaks c.args.text.now c.pass.new.text c.new-reader.result c.new-reader.ensures
          (subst (λ (f : Fault). PassBreaks {X = g.row.X.Denot} g.X.Text.comes g.X.Text.at_hand g.X.Text.all g.X.Text.sound g.X.Text.reads (λ s at item result t. TakesItem s item result t) 1048576 g.X.Text.breaks c.args.text.now c.pass.new.text c.new-reader.result f)
          c.in-Err-Memory.field-0-is c.in-Err-Memory.ensures.broken),
    )

pub returns-in-Err-clause-halts : goal.returns-in-Err-clause-halts
returns-in-Err-clause-halts g c =
    rw c.halt_of.ensures (leaves_come g.X.Text.comes g.X.Text.at_hand g.X.Text.all g.X.Text.sound g.X.Text.reads c.args.text.now c.new-reader.result c.pass.new.taker c.new-reader.ensures c.pass.new.text
    c.in-Ok-Some.field-0 c.in-Ok-Some.stopped c.in-Err.fault c.in-Ok-Some.ensures.passes c.in-Ok-Some.field-0-is c.in-Err.ensures.refused)

pub returns-in-Err-clause-within : goal.returns-in-Err-clause-within
returns-in-Err-clause-within g c =
    rw c.halt_of.ensures (few_come g.X.Text.comes g.X.Text.at_hand g.X.Text.all g.X.Text.sound g.X.Text.reads c.args.text.now c.new-reader.result c.pass.new.taker c.new-reader.ensures c.pass.new.text
    c.in-Ok-Some.field-0 c.in-Ok-Some.stopped c.in-Ok-Some.ensures.passes c.in-Ok-Some.field-0-is)

pub returns-in-Ok-clause-within : goal.returns-in-Ok-clause-within
returns-in-Ok-clause-within g c =
    rw c.halt_of.ensures (few_come g.X.Text.comes g.X.Text.at_hand g.X.Text.all g.X.Text.sound g.X.Text.reads c.args.text.now c.new-reader.result c.pass.new.taker c.new-reader.ensures c.pass.new.text
    c.in-Ok-Some.field-0 c.in-Ok-Some.stopped c.in-Ok-Some.ensures.passes c.in-Ok-Some.field-0-is)
