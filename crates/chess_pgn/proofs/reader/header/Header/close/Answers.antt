use Rattle.std.proofs.Common.{subst, ◌∙◌, ℕ, Some}
use Rattle.std.specs.Prelude.{Vec, is_some}
use Rattle.std.specs.Borrow.{Bor}
use Rattle.chess_pgn.specs.Games.{tag_in}
use Rattle.chess_pgn.specs.steps.OtherCode.{Sets}
use Rattle.chess_pgn.proofs.HeaderLemmas.{added, dropped, fen_kept, given_place, is_closed, on_ok}
use Rattle.chess_pgn.proofs.reader.header.Header.close.Goals as goal

pub returns-then-is_dropped-clause-ok : goal.returns-then-is_dropped-clause-ok
returns-then-is_dropped-clause-ok g c = λ read finds.
    let h = c.args.self.now in (
      is_closed read h.name.items h.value.items c.clear.new.self.items c.clear-then-is_dropped.new.self.items c.clear.ensures.items c.clear-then-is_dropped.ensures.items,
      dropped read h.found.tags h.name.items h.value.items finds c.if-is_dropped.ensures,
    )

pub returns-clause-ok : goal.returns-clause-ok
returns-clause-ok g c =
    let h = c.args.self.now in
    on_ok c.add.result (λ sets read finds. (
      is_closed read h.name.items h.value.items c.replace-name.new.dest.items c.replace-value.new.dest.items
          (given_place c.replace-name.new.dest c.new.result c.replace-name.ensures.after c.new.ensures.items)
          (given_place c.replace-value.new.dest c.new-2.result c.replace-value.ensures.after c.new-2.ensures.items),
      added read h.found.tags h.name.items h.value.items finds c.add.new.self.tags c.if-is_dropped.ensures
          (subst (λ (v : Vec ℕ (Bor g.row.A.Denot)). Sets h.name.items (Some v.items) h.found.tags c.add.new.self.tags) c.replace-value.ensures.value
          (subst (λ (v : Vec ℕ (Bor g.row.A.Denot)). Sets v.items (Some c.replace-value.result.items) h.found.tags c.add.new.self.tags) c.replace-name.ensures.value sets)),
    )) c.add.ensures

pub returns-clause-fen : goal.returns-clause-fen
returns-clause-fen g c =
    let h = c.args.self.now in
    on_ok c.add.result (λ sets. c.fen_place-self.ensures ∙ fen_kept _ _ (is_some (tag_in h.name.items h.found.tags)) h.at h.fen_at c.if-is_dropped.ensures) c.add.ensures
