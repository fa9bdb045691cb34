use Rattle.std.proofs.Common.{◌≡◌, ◌≤◌, ℕ, List, sym, ap, ◌∙◌, subst, length, filter, arith}
use Rattle.std.specs.FinSet.{contains}
use Rattle.arrayvec.specs.ArrayString.{array_string_len}
use Rattle.chess_types.specs.board.Squares.{squares}
use Rattle.chess_cli.specs.steps.Lists.{with_another}
use Rattle.chess_cli.proofs.ListLemmas.{Written, written-start, written-more, squares_few}
use Rattle.chess_cli.proofs.board_command.lists.squares_text.Goals as goal

pub loop-square-init : goal.loop-square-init
loop-square-init c =
    let all : c.into_iter-square-iterator.result ≡ filter (contains c.args.set.now) squares =
    c.into_iter-square-iterator.ensures.into_iter_gives ∙ c.iter-square-items.ensures.value in
    let few : length c.into_iter-square-iterator.result ≤ 64 = subst (λ (xs : List ℕ). length xs ≤ 64) (sym all) (squares_few (contains c.args.set.now)) in
    let none : array_string_len c.new-text.result ≡ 0 = ap length c.new-text.ensures in
    record {
      can = tt;
      finite = tt;
      written = (rw (c.new-text.ensures, all) (written-start (filter (contains c.args.set.now) squares)));
      len = omega (arith, few, none);
    }

pub loop-square-preserved : goal.loop-square-preserved
loop-square-preserved c =
    let all = filter (contains c.args.set.now) squares in
    let before = subst (λ (rest : List ℕ). Written c.loop-square.text.bytes all rest) c.in-Some.ensures.steps c.loop-square.invariant.written in
    let name = c.as_str.ensures.value ∙ c.text.ensures in
    let two : length c.as_str.result.now ≡ 2 = ap length name in
    let fewer = ap length c.in-Some.ensures.steps in
    record {
      can = tt;
      finite = tt;
      written = written-more c.loop-square.text.bytes c.push_word.new.text.bytes all c.next.new.self c.in-Some.square before
          (c.push_word.ensures.bytes ∙ ap (with_another c.loop-square.text.bytes) name);
      len = omega (arith, two, fewer, c.push_word.ensures.len, c.loop-square.invariant.len);
    }
