use Rattle.std.proofs.Common.{◌≡◌, ◌==◌, ◌≤◌, ℕ, Bor, List, [], ◌∷◌, Some, length, drop, map, sym, ap, ◌∙◌, length-append, rules, tests, arith}
use Rattle.std.proofs.lemmas.List.{map-append}
use Rattle.std.proofs.lemmas.Grind.{common_steps}
use Rattle.std.proofs.lemmas.Iterator.Consumers.{YieldsList-turn, YieldsList-end}
use Rattle.std.proofs.lemmas.Iterator.Splits.{YieldsList-from_slice_split}
use Rattle.chess_fen.specs.Ranks.{rank_cells, cells_of_ranks}
use Rattle.chess_fen.proofs.BoardLemmas.{no_ranks, cells_of_ranks-push, placed, board_cells-bad, board_cells-other, board_cells-all}
use Rattle.chess_fen.proofs.ranks.read_cells.Goals as goal

pub returns-then-from-eq0 : goal.returns-then-from-eq0
returns-then-from-eq0 c =
    let turn = YieldsList-turn (YieldsList-from_slice_split _ (λ (byte : ℕ). byte == 47) c.args.field.now (cc) (cc) (cc) (λ x b q k. search (rules, tests))) c.loop-rank.yielded _ c.loop-rank.yielded_by _ _ c.in-Some.rank c.in-Some.is c.next.ensures.steps in
    board_cells-other c.args.field.now (λ eight. omega (arith, turn.0))

pub returns-in_err-read_rank : goal.returns-in_err-read_rank
returns-in_err-read_rank c =
    let turn = YieldsList-turn (YieldsList-from_slice_split _ (λ (byte : ℕ). byte == 47) c.args.field.now (cc) (cc) (cc) (λ x b q k. search (rules, tests))) c.loop-rank.yielded _ c.loop-rank.yielded_by _ _ c.in-Some.rank c.in-Some.is c.next.ensures.steps in
    c.from_residual.ensures ∙ board_cells-bad c.args.field.now (length c.loop-rank.yielded) c.in-Some.rank.now turn.0 turn.1 c.in_err-read_rank.ensures

pub returns-then-from-eq0-2 : goal.returns-then-from-eq0-2
returns-then-from-eq0-2 c =
    let end = YieldsList-end (YieldsList-from_slice_split _ (λ (byte : ℕ). byte == 47) c.args.field.now (cc) (cc) (cc) (λ x b q k. search (rules, tests))) c.loop-rank.yielded _ c.loop-rank.yielded_by _ _ c.in-None.is c.next.ensures.steps in
    board_cells-all c.args.field.now c.loop-rank.cells (omega (arith, end.1)) (grind (arith, common_steps, end.0))

pub returns-else-from-eq0-2 : goal.returns-else-from-eq0-2
returns-else-from-eq0-2 c =
    let end = YieldsList-end (YieldsList-from_slice_split _ (λ (byte : ℕ). byte == 47) c.args.field.now (cc) (cc) (cc) (λ x b q k. search (rules, tests))) c.loop-rank.yielded _ c.loop-rank.yielded_by _ _ c.in-None.is c.next.ensures.steps in
    board_cells-other c.args.field.now (λ eight. omega (arith, end.1))

pub loop-rank-init : goal.loop-rank-init
loop-rank-init c = record {
  room = omega arith;
  done = no_ranks;
}

pub loop-rank-preserved : goal.loop-rank-preserved
loop-rank-preserved c =
    let before = map (λ (rank : Bor (List ℕ)). rank.now) c.loop-rank.yielded in
    let room : 8 ≤ c.loop-rank.from = omega arith in
    let within : c.loop-rank.from ≤ length c.loop-rank.cells = omega arith in
    let is : c.copy_from_slice.new.self ≡ c.in_ok-read_rank.field-0 = c.copy_from_slice.ensures.after in
    let rank : Some c.copy_from_slice.new.self ≡ rank_cells c.in-Some.rank.now = ap (λ cells. Some cells) is ∙ c.in_ok-read_rank.ensures in
    let one_more = cells_of_ranks-push before c.in-Some.rank.now c.copy_from_slice.new.self (drop c.loop-rank.from c.loop-rank.cells) c.loop-rank.invariant.done rank in
    record {
      room = omega (arith, length-append c.loop-rank.yielded (c.in-Some.rank ∷ []));
      done =
          ap (λ cells. Some cells) (placed c.loop-rank.cells c.copy_from_slice.new.self _ _ c.loop-rank.from (omega arith) within)
          ∙ one_more ∙ ap cells_of_ranks (sym (map-append (λ (rank : Bor (List ℕ)). rank.now) c.loop-rank.yielded (c.in-Some.rank ∷ [])));
    }
