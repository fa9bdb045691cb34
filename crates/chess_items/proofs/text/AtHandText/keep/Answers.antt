use Rattle.chess_items.proofs.RefillLemmas.{keeps, placed_now}
use Rattle.chess_items.proofs.text.AtHandText.keep.Goals as goal

pub returns : goal.returns
returns g c =
    keeps g.R.Source.gives g.R.Source.ended g.R.Source.failed c.args.self.now c.keep.new.self c.keep.ensures.source c.keep.ensures.reads c.keep.ensures.ended
    (placed_now c.keep.new.self.used c.args.left _ _ c.keep.ensures.len c.keep.ensures.used) c.args.left c.keep.ensures.kept c.requires.sound c.keep.ensures.len
