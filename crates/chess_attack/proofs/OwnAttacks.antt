-- A man's own attacks, by its kind: a slider's are its slides, a leaper's are its leaps.
use Rattle.std.proofs.Common.{◌≡◌, ℕ, ◌<◌, false, refl, inl, inr}
use Rattle.std.proofs.Math.Bool.{and-false}
use Rattle.chess_types.specs.declared.board.man.Colour.{Colour}
use Rattle.chess_types.specs.declared.board.man.Kind.{Kind}
use Rattle.chess_types.specs.declared.board.man.Man.{Man}
use Rattle.chess_types.specs.board.Board.{Men}
use Rattle.chess_types.specs.board.Attack.{slides, slides_to}
use Rattle.chess_attack.specs.steps.Marks.{own, slide}
use Rattle.chess_attack.proofs.Leaping.{IsSlider, IsLeaper, slider_leaps}
use Rattle.chess_attack.proofs.Slides.{slide_is_own}

-- a leaper does not slide
pub leaper_slides : (kind : Kind) (a b : ℕ) → IsLeaper kind → slides_to kind a b ≡ false
unfolding slides_to slides
leaper_slides k a b (inl e) = rw (e, and-false) refl
leaper_slides k a b (inr (inl e)) = rw (e, and-false) refl
leaper_slides k a b (inr (inr e)) = rw (e, and-false) refl

-- a slider's own attacks are its slides
pub slider_own :
    (man : Man) (man_on : Men) (at : ℕ) (c : Colour) (s : ℕ) → at < 64 → s < 64 → IsSlider man.kind →
    slide man man_on at c s ≡ own man man_on at c s
slider_own man man_on at c s hat hs h = slide_is_own man man_on at c s hat hs (slider_leaps man.colour man.kind at s h)
