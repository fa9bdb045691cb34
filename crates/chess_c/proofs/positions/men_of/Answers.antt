use Rattle.std.proofs.Common.{◌≡◌, ◌∙◌, ◌<◌, length, map, sym, arith, rules, of_calls}
use Rattle.std.specs.Prelude.{None}
use Rattle.std.proofs.lemmas.List.{ext_get_or, get_or-map, length-map}
use Rattle.chess_types.specs.board.Texts.{man_of_letter}
use Rattle.chess_c.proofs.positions.men_of.Goals as goal

pub returns : goal.returns
returns c =
    let mapped = c.map.ensures.items in
    let many : length (map man_of_letter c.args.letters) ≡ length c.args.letters = length-map c.args.letters man_of_letter in
    ext_get_or None c.map.result (map man_of_letter c.args.letters) (search (rules, mapped.long, many))
    (λ i lt.
    let on_board : i < length c.args.letters = search (arith, rules, mapped.long, lt) in
    (search (of_calls, (mapped.at i 0 None (omega (arith, mapped.long))).2)) ∙ sym (get_or-map man_of_letter c.args.letters i 0 None on_board))
