use Rattle.std.proofs.Common.{◌≡◌, ◌+◌, ◌≤◌, true, List, ◌++◌, length, filter, sym, ap, subst, ◌∙◌, refl, arith}
use Rattle.std.proofs.lemmas.Bool.{and_parts}
use Rattle.std.specs.List.{list_all}
use Rattle.chess_types.specs.board.Legal.{is_legal, moves_between}
use Rattle.chess_types.specs.board.MoveParts.{MoveParts}
use Rattle.chess_types.specs.board.Position.{PositionParts, man_on}
use Rattle.chess_attack.proofs.Lifted.{OnlyKing, only_king}
use Rattle.chess_moves.specs.steps.Targets.{is_legal_target, moves_named}
use Rattle.chess_moves.proofs.LegalTargets.{lands_all}
use Rattle.chess_moves.proofs.Pieces.{listed_next, room_next, next_piece}
use Rattle.chess_moves.proofs.Reach.{lands_each, lands_listed}
use Rattle.chess_moves.proofs.listing.add_from.Goals as goal
use Rattle.chess_moves.proofs.listing.add_from.Given.{Over}
use Rattle.chess_moves.proofs.listing.add_from.Goals.{In-Some}

-- the man's move to the next square is legal, and so is the one to each after it
legal : (g : Over) (c : In-Some g) →
    (is_legal_target c.args.live.now.position c.own_kind-kind.result c.args.from c.in-Some.to ≡ true)
    × (list_all (is_legal_target c.args.live.now.position c.own_kind-kind.result c.args.from) c.next.new.self ≡ true)
legal g c =
    and_parts _ _ (sym (ap (list_all (is_legal_target c.args.live.now.position c.own_kind-kind.result c.args.from)) c.in-Some.ensures.steps) ∙ c.loop-to.invariant.is_legal_target)

-- what is added for the next square are the legal moves there
lands : (g : Over) (c : In-Some g) →
    filter (is_legal c.args.live.now.position) (moves_between c.args.from c.in-Some.to)
    ≡ moves_named c.args.live.now.position.side c.own_kind-kind.result c.args.from c.in-Some.to
lands g c =
    let p : PositionParts = c.args.live.now.position in
    let setup = c.position.ensures.setup in
    let king : OnlyKing (man_on p) p.side c.args.guard.now.king =
    only_king p.placement p.side c.args.guard.now.king (setup.kings p.side) c.requires.guard.on_board c.requires.guard.king in
    lands_all p setup c.own_kind-kind.result c.args.from c.in-Some.to c.args.guard.now.king (omega arith) (omega arith) c.own_kind-kind.ensures king (legal g c).0

pub loop-to-init : goal.loop-to-init
loop-to-init g c =
    let p : PositionParts = c.args.live.now.position in
    let setup = c.position.ensures.setup in
    let king : OnlyKing (man_on p) p.side c.args.guard.now.king =
    only_king p.placement p.side c.args.guard.now.king (setup.kings p.side) c.requires.guard.on_board c.requires.guard.king in
    let xs = c.into_iter-to-iterator.ensures.into_iter_gives ∙ c.iter-to-items.ensures.value in
    record {
      can = tt;
      finite = tt;
      is_legal_target = lands_each p setup c.own_kind-kind.result c.args.from c.args.guard.now.king (omega arith) c.own_kind-kind.ensures king c.targets-squares.result c.targets-squares.ensures.is_legal_target
          c.into_iter-to-iterator.result xs;
      listed = lands_listed p setup c.own_kind-kind.result c.args.from c.args.guard.now.king (omega arith) c.own_kind-kind.ensures king c.targets-squares.result c.targets-squares.ensures.is_legal_target
          c.into_iter-to-iterator.result xs c.args.list.now.items;
    }

pub add_named-requires : goal.add_named-requires
add_named-requires g c =
    let p : PositionParts = c.args.live.now.position in
    let same = c.behind-live.view_is ∙ c.position.ensures.value in
    record {
      room = subst (λ (xs : List MoveParts). length c.loop-to.list.items + length xs ≤ 432)
          (lands g (goal.at.add_named-requires g c).In-Some
          ∙ ap (λ (q : PositionParts). moves_named q.side c.own_kind-kind.result c.args.from c.in-Some.to) (sym same))
          (room_next {now = p} refl c.loop-to.invariant.listed (next_piece (moves_between c.args.from) c.in-Some.ensures.steps) c.requires.room);
    }

pub loop-to-preserved : goal.loop-to-preserved
loop-to-preserved g c =
    let p : PositionParts = c.args.live.now.position in
    let same = c.behind-live.view_is ∙ c.position.ensures.value in
    record {
      can = tt;
      finite = tt;
      is_legal_target = (legal g (goal.at.loop-to-preserved g c).In-Some).1;
      listed = listed_next {now = p} refl c.loop-to.invariant.listed (next_piece (moves_between c.args.from) c.in-Some.ensures.steps)
          (c.add_named.ensures.added
          ∙ ap (λ (xs : List MoveParts). c.loop-to.list.items ++ xs)
          (ap (λ (q : PositionParts). moves_named q.side c.own_kind-kind.result c.args.from c.in-Some.to) same
          ∙ sym (lands g (goal.at.loop-to-preserved g c).In-Some)));
    }
