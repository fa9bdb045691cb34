use Rattle.std.proofs.Common.{◌≡◌, [], ◌∷◌, sym, ap, subst, ◌∙◌}
use Rattle.std.specs.Prelude.{decimal}
use Rattle.std.specs.List.{join_with_byte}
use Rattle.chess_types.specs.board.Position.{PositionParts, IsSetup, IsWellFormed, man_on}
use Rattle.chess_fen.specs.Writing.{four_fields, placement_text, side_text, rights_text, target_text, written}
use Rattle.chess_fen.specs.Reading.{fen_reading}
use Rattle.chess_fen.proofs.BackLemmas.{IsOnBoard, read_back}
use Rattle.chess_fen.proofs.WriteLemmas.{two_more}
use Rattle.chess_fen.proofs.writer.write.Goals as goal

pub returns : goal.returns
unfolding written four_fields
returns c =
    let is = c.setup.view_is ∙ c.setup-setup.ensures.value in
    let same = c.setup-setup.ensures.value in
    let first = c.write_fields-text.ensures.bytes ∙ (λ i. four_fields (same i) (is i).target) in
    let p = c.args.position.now in
    let fields = two_more c.write_fields-text.result.bytes c.push_str.new.self.bytes c.push_str-2.new.self.bytes c.push_str-3.new.self.bytes c.push_str-4.new.self.bytes
    (placement_text (man_on p)) (side_text p.side) (rights_text p.rights) (target_text p.target) c.format.result.now c.format-2.result.now
    first c.push_str.ensures.bytes c.push_str-2.ensures.bytes c.push_str-3.ensures.bytes c.push_str-4.ensures.bytes in
    let clock = c.format.ensures.text ∙ ap (λ (p : PositionParts). decimal p.clock) is in
    let number = c.format-2.ensures.text ∙ ap (λ (p : PositionParts). decimal p.number) is in
    let bytes : c.push_str-4.new.self.bytes ≡ written p =
    fields ∙ (λ i. join_with_byte 32 (placement_text (man_on p) ∷ side_text p.side ∷ rights_text p.rights ∷ target_text p.target ∷ clock i ∷ number i ∷ [])) in
    let well_formed : IsWellFormed p = record { setup = subst IsSetup is c.setup.invariant; quiet = c.setup-setup.ensures.quiet } in
    let on_board : IsOnBoard p.placement = λ s high. ap (λ (q : PositionParts). man_on q s) (sym same) ∙ c.write_fields-text.ensures.on_board s high in
    record {
      bytes = bytes;
      read_back = λ small_clock small_number. ap fen_reading bytes ∙ read_back p small_clock small_number well_formed on_board;
    }
