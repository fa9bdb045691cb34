use Rattle.std.proofs.Common.{◌≡◌, true, false, ◌&&◌, sym, subst, ap, refl, ◌∙◌, inl, inr, arith}
use Rattle.std.proofs.Math.Bool.{and-false}
use Rattle.std.proofs.lemmas.Bool.{cases_Bool, true≢false}
use Rattle.chess_types.specs.board.MoveParts.{MoveParts}
use Rattle.chess_types.specs.board.Men.{is_king, is_king_of, is_of, opponent, same_colour}
use Rattle.chess_types.specs.board.Attack.{is_attacked}
use Rattle.chess_types.specs.board.Position.{PositionParts, man_on}
use Rattle.chess_attack.proofs.Lifted.{OnlyKing, only_king}
use Rattle.chess_attack.proofs.PinLines.{unpinned}
use Rattle.chess_types.proofs.SameLemmas.{same_self}
use Rattle.chess_play.proofs.Facts.{Facts, facts}
use Rattle.chess_moves.specs.steps.Guarded.{in_line}
use Rattle.chess_moves.proofs.GuardLemmas.{permits_all}
use Rattle.chess_moves.proofs.LineLemmas.{in_line_here, unpinned_aside}
use Rattle.chess_moves.proofs.PinLaws.{safe_move}
use Rattle.chess_moves.proofs.legal.is_safe_untried.Goals as goal

pub returns-then-not-are_in_line : goal.returns-then-not-are_in_line
returns-then-not-are_in_line g c =
    let p : PositionParts = c.args.live.now.position in
    let m : MoveParts = c.args.m in
    let k = c.king_square-king.result in
    let same = c.setup.view_is ∙ c.position-setup.ensures.value in
    let here : is_king_of p.side (man_on p k) ≡ true = subst (λ (q : PositionParts). is_king_of q.side (man_on q k) ≡ true) same c.king_square-king.ensures in
    let king : OnlyKing (man_on p) p.side k = only_king p.placement p.side k (c.requires.setup.kings p.side) (omega arith) here in
    let side : c.opponent.result ≡ opponent p.side = c.opponent.ensures ∙ ap (λ (q : PositionParts). opponent q.side) same in
    let quiet : is_attacked (man_on p) (opponent p.side) k ≡ false =
    ap (λ x. is_attacked (man_on p) x k) (sym side) ∙ sym c.is_attacked-attacked.ensures ∙ c.if-not-attacked.true in
    let aside : in_line k m.from ≡ false =
    ap (λ (n : MoveParts). in_line k n.from) (sym c.m.view_is) ∙ sym c.are_in_line.ensures ∙ c.if-not-are_in_line.true in
    let f : Facts p c.args.man m = facts p m c.requires.setup (omega arith) (omega arith) c.args.man c.requires.here c.requires.pseudo in
    let mine : is_of p.side (man_on p m.from) ≡ true = rw (c.requires.here, f.mine) (same_self p.side) in
    let other : is_king c.args.man.kind ≡ false =
    elim (cases_Bool (is_king c.args.man.kind)) [
      | inr e ↦ e
      | inl e ↦
          let stands : is_king_of p.side (man_on p m.from) ≡ true = rw (c.requires.here, f.mine, e, same_self p.side) refl in
          absurd (true≢false (sym (in_line_here k) ∙ ap (in_line k) (sym (king.only m.from (omega arith) stands)) ∙ aside))
    ] in
    let not_king : is_king_of p.side (man_on p m.from) ≡ false = rw (c.requires.here, other) (and-false (same_colour c.args.man.colour p.side)) in
    sym (safe_move p c.args.man m c.requires.setup (omega arith) (omega arith) f c.requires.plain k king other
    ∙ (λ i. permits_all (man_on p) p.side k m.to king quiet i
    && unpinned (man_on p) p.side m.from k m.to mine not_king (unpinned_aside (man_on p) p.side k m.from king (omega arith) aside) i))
