-- A walk from `at` towards a square that lies on its half: whether a man stands between the two.
use Rattle.std.proofs.Common.{◌≡◌, ℕ, ◌<◌, ◌≢◌, true, false, is_some, sym, ap, ◌∙◌, arith, inl, inr}
use Rattle.std.proofs.lemmas.Bool.{cases_Bool, true≢false}
use Rattle.chess_types.specs.declared.board.axis.Axis.{Axis}
use Rattle.chess_types.specs.declared.board.man.Kind.{Kind}
use Rattle.chess_types.specs.board.Board.{Men}
use Rattle.chess_types.specs.board.Squares.{line_of}
use Rattle.chess_types.specs.board.Attack.{is_clear, slides, slides_to}
use Rattle.chess_attack.specs.declared.way.Way.{Way}
use Rattle.chess_attack.specs.declared.way.Way.TheVariants.{Up, Down}
use Rattle.chess_attack.specs.steps.Halves.{on_half, IsNext}
use Rattle.chess_attack.proofs.Axes.{BetweenOn, Towards, apart_from, between_parts, half_parts, half_from}
use Rattle.chess_attack.proofs.Clear.{clear_at, clear_from}
use Rattle.chess_attack.proofs.Slides.{slides_to_on}
use Rattle.chess_attack.proofs.Walks.{Walked, between_of}

-- the next square isn't it, so it lies beyond
pub still_ahead :
    (axis : Axis) (way : Way) (here t to : ℕ) → IsNext axis way here t → to < 64 → t ≢ to → on_half axis way here to ≡ true →
    on_half axis way t to ≡ true
still_ahead axis way here t to n hto other ahead =
    elim (n.nearest to hto ahead) [
      | inl same ↦ absurd (other (sym same))
      | inr beyond ↦ beyond
    ]

-- or a man stands before it
pub barred :
    (man_on : Men) (axis : Axis) (way : Way) (at here t to : ℕ) → Walked man_on axis way at here → IsNext axis way here t → to < 64 →
    t ≢ to → on_half axis way here to ≡ true → is_some (man_on t) ≡ true → is_clear man_on at to ≡ false
barred man_on axis way at here t to w n hto other ahead man =
    elim (cases_Bool (is_clear man_on at to)) [
      | inr e ↦ e
      | inl clear ↦
          let beyond : on_half axis way t to ≡ true = still_ahead axis way here t to n hto other ahead in
          let half : on_half axis way at t ≡ true = w.beyond t n.on_board n.next in
          absurd (true≢false (sym man ∙ ap is_some (clear_at man_on at to t clear n.on_board (between_of axis way at t to half beyond))))
    ]

-- between two squares on no common half there is no square
pub clear_off :
    (man_on : Men) (a b : ℕ) → ((axis : Axis) (way : Way) → on_half axis way a b ≡ false) → is_clear man_on a b ≡ true
clear_off man_on a b off =
    clear_from man_on a b (λ t ht between.
    let (j, h) : (j : Axis) × BetweenOn j a b t = between_parts a b t between in
    let same : line_of j a ≡ line_of j b = h.from_a ∙ sym h.from_b in
    absurd (elim h.order [
      | inl up ↦ true≢false (sym (half_from j Up a b same (omega arith)) ∙ off j Up)
      | inr down ↦ true≢false (sym (half_from j Down a b same (omega arith)) ∙ off j Down)
    ]))

-- a kind slides to a square of a half exactly where it moves along that axis
pub slides_half :
    (kind : Kind) (axis : Axis) (way : Way) (a b : ℕ) → a < 64 → b < 64 → on_half axis way a b ≡ true → slides_to kind a b ≡ slides kind axis
slides_half kind axis way a b ha hb half =
    let p : (line_of axis a ≡ line_of axis b) × Towards way a b = half_parts axis way a b half in
    slides_to_on kind axis a b ha hb (apart_from way a b p.1) p.0
