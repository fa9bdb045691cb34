-- A slice of a search that is fed leaves less to do.
use Rattle.std.proofs.Common.{◌≡◌, ℕ, ◌+◌, ◌-◌, ◌*◌, ◌==◌, ◌<◌, ◌≤◌, Bool, true, false, ◌&&◌, ◌||◌, not, ⊎_elim, max, List, length, Option, Some, None, refl, sym, subst, arith}
use Rattle.std.specs.Prelude.{nat_lt, nat_le}
use Rattle.std.proofs.lemmas.Bool.Decides.{nat_tests}
use Rattle.std.proofs.lemmas.Bool.{cases_lt}
use Rattle.chess_types.specs.board.Lines.{Line as GameLine}
use Rattle.chess_uci.specs.declared.reply.Reply.{Reply}
use Rattle.chess_uci.specs.Machine.{Search, State, Slice, Moment, step, step_if, slice, slice_row, slice_step, moment_step, end_if, is_reached, IsAhead}
use Rattle.chess_uci.specs.Events.{Does}
use Rattle.chess_cli.specs.TimedSessions.{is_fed, wants_slices}

-- how many slices there may be
abbrev pub work : Option Search → ℕ
work None = 0
work (Some x) = (x.last - x.depth) * (length x.roots + 1) + (length x.roots - x.searched)

less : (last depth n k : ℕ) → depth < last → (last - depth) * (n + 1) ≡ (last - (depth + 1)) * (n + 1) + (n + 1)
less last depth n k h =
    let e : last - depth ≡ (last - (depth + 1)) + 1 = omega arith in
    rw e (omega arith)

-- a slice of a search of which a root is left
row_work : (last_root last_depth infinite : Bool) (l : GameLine) (x : Search) → x.searched < length x.roots → (last_depth ≡ false → x.depth < x.last) →
    work (slice_row true last_root last_depth infinite l x).1 < work (Some x)
row_work false _ _ l x left deeper = omega (arith, left)
row_work true false _ l x left deeper = let e = less x.last x.depth (length x.roots) 0 (deeper refl) in omega (arith, e, left)
row_work true true true l x left deeper = omega (arith, left)
row_work true true false l x left deeper = omega (arith, left)

slice_work : (l : GameLine) (x : Search) → x.depth ≤ x.last → x.searched < length x.roots → work (slice l x).1 < work (Some x)
slice_work l x h left =
    let yes : nat_lt x.searched (length x.roots) ≡ true = grind (arith, nat_tests) in
    subst (λ b. work (slice_row b (x.searched + 1 == length x.roots) (x.depth == x.last) x.infinite l x).1 < work (Some x)) (sym yes)
    (row_work (x.searched + 1 == length x.roots) (x.depth == x.last) x.infinite l x left (λ e. grind (arith, nat_tests)))

no_more : (n m : ℕ) (infinite deep : Bool) → (m ≤ n → infinite ≡ true) → not (infinite && ((infinite && nat_le m n) || deep)) ≡ true → n < m
no_more n m infinite deep ahead fed = ⊎_elim (λ (h : n < m). h) (λ (h : m ≤ n). absurd (no_fed infinite (nat_le m n) deep (ahead h) (grind (arith, nat_tests)) fed)) (cases_lt n m)
  where
    no_fed : (infinite all deep : Bool) → infinite ≡ true → all ≡ true → not (infinite && ((infinite && all) || deep)) ≡ true → ⊥
    no_fed true true deep i a fed = cc
    no_fed true false deep i a fed = cc
    no_fed false all deep i a fed = cc

slice_falls : (s : State) (x : Option Search) → IsAhead x → wants_slices x ≡ true → work (slice_step x s).1.search < work x
slice_falls s None ahead fed = cc
slice_falls s (Some x) ahead fed =
    slice_work s.line x ahead.ahead (no_more x.searched (length x.roots) x.infinite (nat_le 5 x.done) ahead.waits fed)

moment_rises_not : (s : State) (x : Option Search) → s.search ≡ x → work (moment_step x s).1.search ≤ work x
moment_rises_not s None e = rw e (omega arith)
moment_rises_not s (Some x) e = by (is_reached x.end s.moment) x
  where
    by : (reached : Bool) (x : Search) → work (end_if reached x).1 ≤ work (Some x)
    by false x = omega arith
    by true x = omega arith

step_rises_not : (ended : Bool) (s : State) (moment : ℕ) → work (step_if ended s (Moment moment)).1.search ≤ work s.search
step_rises_not true s moment = omega arith
step_rises_not false s moment = moment_rises_not (record s { moment = max s.moment moment }) s.search refl

step_falls : (ended : Bool) (s : State) → IsAhead s.search → (not ended && wants_slices s.search) ≡ true → work (step_if ended s Slice).1.search < work s.search
step_falls true s ahead fed = cc
step_falls false s ahead fed = slice_falls s s.search ahead fed

-- a slice and a moment of a search that is fed leave less work
pub work_falls : (s t u : State) (moment : ℕ) (a b : List Reply) → IsAhead s.search → is_fed s ≡ true →
    Does (step s Slice) a t → Does (step t (Moment moment)) b u → work u.search < work s.search
work_falls s t u moment a b ahead fed one two =
    let first : work t.search < work s.search = subst (λ (y : State). work y.search < work s.search) (sym one.1) (step_falls s.ended s ahead fed) in
    let second : work u.search ≤ work t.search = subst (λ (y : State). work y.search ≤ work t.search) (sym two.1) (step_rises_not t.ended t moment) in
    omega (arith, first, second)
