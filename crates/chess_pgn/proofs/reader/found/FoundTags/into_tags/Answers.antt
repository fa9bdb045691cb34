use Rattle.std.proofs.Common.{ap, ◌∙◌, refl}
use Rattle.std.specs.Prelude.{codes}
use Rattle.chess_pgn.specs.Games.{Tags, tag_in}
use Rattle.chess_pgn.proofs.TagLemmas.{has_tags, or_else}
use Rattle.chess_pgn.proofs.reader.found.FoundTags.into_tags.Goals as goal

pub returns : goal.returns
returns g c = λ given finds.
    let known = c.in_ok-tags.ensures in
    has_tags given _ _ _ _ _ _ _ _ _ finds c.remove.ensures.removed c.remove-2.ensures.removed c.move_to.ensures.removed c.move_to-2.ensures.removed c.move_to-3.ensures.removed
    c.move_to-4.ensures.removed c.move_to-5.ensures.removed c.move_to-6.ensures.removed c.move_to-6.ensures.ascend _
    (c.move_to.ensures.value ∙ or_else (tag_in (codes "Event") c.remove-2.new.self) (ap (λ (t : Tags). t.event) known)) (c.move_to-2.ensures.value ∙ or_else (tag_in (codes "Site") c.move_to.new.tags) (ap (λ (t : Tags). t.site) known))
    (c.move_to-3.ensures.value ∙ or_else (tag_in (codes "Date") c.move_to-2.new.tags) (ap (λ (t : Tags). t.date) known)) (c.move_to-4.ensures.value ∙ or_else (tag_in (codes "Round") c.move_to-3.new.tags) (ap (λ (t : Tags). t.round) known))
    (c.move_to-5.ensures.value ∙ or_else (tag_in (codes "White") c.move_to-4.new.tags) (ap (λ (t : Tags). t.white) known)) (c.move_to-6.ensures.value ∙ or_else (tag_in (codes "Black") c.move_to-5.new.tags) (ap (λ (t : Tags). t.black) known)) refl
