use Rattle.std.proofs.Common.{rules, ◌≡◌, ◌++◌, List, ℕ, OnOk, codes, subst}
use Rattle.chess_fen.specs.Writing.{written}
use Rattle.chess_items.specs.Markers.{outcome_text}
use Rattle.chess_pgn.specs.Written.{other_tags_text, tag_text}
use Rattle.chess_pgn.proofs.GameLemmas.{named, then}
use Rattle.chess_pgn.proofs.writer.push_tags.Goals as goal

pub returns : goal.returns
returns g c = λ p is.
    let r = c.push_other_tags.result in
    let tags = c.args.tags.now in
    let new = c.push_other_tags.new.text.items in
    let x0 = c.args.text.now.items in
    let x1 = c.push_tag.new.text.items in
    let x2 = c.push_tag-2.new.text.items in
    let x3 = c.push_tag-3.new.text.items in
    let x4 = c.push_tag-4.new.text.items in
    let x5 = c.push_tag-5.new.text.items in
    let x6 = c.push_tag-6.new.text.items in
    let x7 = c.push_tag-7.new.text.items in
    let event = tag_text (codes "Event") tags.event.items in
    let site = tag_text (codes "Site") tags.site.items in
    let date = tag_text (codes "Date") tags.date.items in
    let round = tag_text (codes "Round") tags.round.items in
    let white = tag_text (codes "White") tags.white.items in
    let black = tag_text (codes "Black") tags.black.items in
    let outcome = tag_text (codes "Result") (outcome_text c.args.outcome) in
    let behind = other_tags_text tags.others (written p) in
    then r x0 x1 new event (site ++ (date ++ (round ++ (white ++ (black ++ (outcome ++ behind)))))) (named x0 x1 (codes "Event") c.as_slice.result.now tags.event.items c.in_ok-push_tag.ensures c.as_slice.ensures.value)
    (then r x1 x2 new site (date ++ (round ++ (white ++ (black ++ (outcome ++ behind))))) (named x1 x2 (codes "Site") c.as_slice-2.result.now tags.site.items c.in_ok-push_tag-2.ensures c.as_slice-2.ensures.value)
    (then r x2 x3 new date (round ++ (white ++ (black ++ (outcome ++ behind)))) (named x2 x3 (codes "Date") c.as_slice-3.result.now tags.date.items c.in_ok-push_tag-3.ensures c.as_slice-3.ensures.value)
    (then r x3 x4 new round (white ++ (black ++ (outcome ++ behind))) (named x3 x4 (codes "Round") c.as_slice-4.result.now tags.round.items c.in_ok-push_tag-4.ensures c.as_slice-4.ensures.value)
    (then r x4 x5 new white (black ++ (outcome ++ behind)) (named x4 x5 (codes "White") c.as_slice-5.result.now tags.white.items c.in_ok-push_tag-5.ensures c.as_slice-5.ensures.value)
    (then r x5 x6 new black (outcome ++ behind) (named x5 x6 (codes "Black") c.as_slice-6.result.now tags.black.items c.in_ok-push_tag-6.ensures c.as_slice-6.ensures.value) (then r x6 x7 new outcome behind (named x6 x7 (codes "Result") c.as_bytes.result.now (outcome_text c.args.outcome) c.in_ok-push_tag-7.ensures (search rules)) (subst (λ (f : List ℕ). OnOk r (new ≡ x7 ++ other_tags_text tags.others f)) is c.push_other_tags.ensures)))))))
