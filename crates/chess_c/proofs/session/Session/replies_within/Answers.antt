use Rattle.std.proofs.Common.{rules, arith, ◌≡◌, ◌≤◌, ◌-◌, ℕ, Bool, true, false, is_some, refl, sym, subst, ◌∙◌, inl}
use Rattle.std.proofs.lemmas.Bool.Decides.{nat_tests}
use Rattle.std.specs.Prelude.{IsSomeAnd, Some, map, nat_lt, neg_ℤ}
use Rattle.chess_types.specs.board.Legal.{is_legal}
use Rattle.chess_types.specs.board.Lines.{extended, last}
use Rattle.chess_tree.specs.GameTree.{line_to}
use Rattle.chess_bindings.specs.Handed.{IsHanded}
use Rattle.chess_bindings.specs.Within.{says_within}
use Rattle.chess_search.specs.Replies.{replies_holding}
use Rattle.chess_search.specs.Scores.{IsValue}
use Rattle.chess_search.specs.Watches.{IsFree, Watched}
use Rattle.chess_c.specs.Asked.{RepliesFound}
use Rattle.chess_c.specs.Moves.{move_meant, move_shown}
use Rattle.chess_c.proofs.session.Session.replies_within.Goals as goal

-- at the first position the watch lets the search go on
free_first : (nodes : ℕ) (flagged : Bool) → 1 ≤ nodes → IsFree (says_within nodes flagged 1)
free_first nodes true some =
    let within : nat_lt nodes 1 ≡ false = grind (arith, nat_tests) in
    rw within tt
free_first nodes false some =
    let within : nat_lt nodes 1 ≡ false = grind (arith, nat_tests) in
    rw within refl

pub returns-in-Some-found : goal.returns-in-Some-found
returns-in-Some-found c =
    let line = line_to c.args.self.now.board in
    let says = says_within c.args.watch.nodes (is_some c.args.watch.flag) in
    let m = c.in-Some.m in
    let is_value : IsValue c.args.value = search rules in
    let meant : Some m ≡ move_meant c.args.m = search rules in
    let legal : is_legal (last line) m ≡ true = search rules in
    let free : IsFree (says 1) = free_first c.args.watch.nodes (is_some c.args.watch.flag) c.requires in
    let watched : Watched says 1 c.nodes.result true = subst (λ n. Watched says 1 n true) (sym c.nodes.ensures) (c.in-Some-found.ensures.watched free) in
    let here : c.is_legal.new.self.line ≡ line = search rules in
    let held : c.as_slice.result.now ≡ replies_holding false (c.args.depth - 1) (extended line m) 1 (neg_ℤ c.args.value) =
    c.as_slice.ensures.value ∙ c.in-Some-found.ensures.replies ∙ (search rules) in
    let handed =
    subst (λ moves. IsHanded (map move_shown moves) c.hand_moves.result c.hand_moves.new.count c.args.room.now c.hand_moves.new.room) held c.hand_moves.ensures in
    inl (
      omega arith,
      omega arith,
      is_value,
      subst
          (λ o. IsSomeAnd o (λ found. RepliesFound says line found c.args.depth c.args.value c.hand_moves.result c.args.count.now c.hand_moves.new.count c.nodes.result c.args.room.now c.hand_moves.new.room))
          meant (legal, (true, watched, handed)),
    )

pub returns : goal.returns
returns c =
    let line = line_to c.args.self.now.board in
    let says = says_within c.args.watch.nodes (is_some c.args.watch.flag) in
    let m = c.in-Some.m in
    let is_value : IsValue c.args.value = search rules in
    let meant : Some m ≡ move_meant c.args.m = search rules in
    let legal : is_legal (last line) m ≡ true = search rules in
    let free : IsFree (says 1) = free_first c.args.watch.nodes (is_some c.args.watch.flag) c.requires in
    let watched : Watched says 1 c.nodes.result false = subst (λ n. Watched says 1 n false) (sym c.nodes.ensures) (c.in-None.ensures.watched free) in
    inl (
      omega arith,
      omega arith,
      is_value,
      subst
          (λ o. IsSomeAnd o (λ found. RepliesFound says line found c.args.depth c.args.value 17 c.args.count.now c.args.count.now c.nodes.result c.args.room.now c.args.room.now))
          meant (legal, (false, watched, (refl, refl, refl))),
    )
