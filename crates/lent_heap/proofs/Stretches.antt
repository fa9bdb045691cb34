-- Stretches of compiled code that the functions of a cursor share. Each is met with locals that are still empty, and fills them. Assumes `Logic`.
use Rattle.std.proofs.Common.{◌≡◌, ℕ, zero, Bool, true, false, List, [], ◌∷◌, T, refl, sym, subst, arith, lit<, w64}
use seplogic.Ra.Ura.{Ura}
use mir.Syntax.{Ty, ty_ptr, ty_bool, Rv as RValue, Body, place, deref, field, copy, int, rv_opd, op2, ptr_eq, seq, assign, cond, return}
use mir.Val.{Val, WT, has_ty, vbool}
use base.Logic.{SProp}
use base.Fraction.{full_share}
use base.Fml.{fat, froom}
use prog.Wp.{Env, Calls, Loops, spot_of}
use types.Logic.{Logic}
use types.Kit.{Item, Post, Seq, Step, step, ‵, prop, runs, frees, at_ret, ◌$◌}
use types.Part.{whole, sub, look_in}
use types.Run.{Rv, init, from, stop, fld, lit, load, bin, of_opd, assigns, assigns_last, exec, returns, first, branches}
use types.ByLocal.{at, set, cell, look_at, get, through}
use denote.RawPtr.{Ptr, null_ptr, block_ptr, ptr_val, tests_null}
use Rattle.lent_heap.specs.Holes.{Span, IsCursor}
use Rattle.lent_heap.specs.Ownership.{first_or, chain_to}
use Rattle.lent_heap.proofs.Order.{next_facts}
use Rattle.lent_heap.proofs.Cursors.{named_hole, Cursor, Apart, next_hole}
use Rattle.lent_heap.proofs.Walks.{then_runs, out_of_block}

abbrev is_last : List Span → Bool
is_last [] = true
is_last (h ∷ hs) = false

module _ {M : Type 1} {𝓤 : Ura M} (𝓛 : Logic 𝓤) where
  open 𝓛 use {H}

  abbrev type_of : Env 𝓤 H → ℕ → Ty
  type_of E i = (spot_of 𝓤 H E i).0

  abbrev room_of : Env 𝓤 H → ℕ → Item 𝓤
  room_of E i = ‵ (froom (type_of E i) (spot_of 𝓤 H E i).1 zero)

  abbrev cell_of : Env 𝓤 H → ℕ → Val → Item 𝓤
  cell_of E i v = ‵ (fat full_share (type_of E i) (spot_of 𝓤 H E i).1 zero v)

  -- local i holds v
  abbrev filled : Env 𝓤 H → ℕ → Val → List (Item 𝓤) → List (Item 𝓤)
  filled E i v Γ = set 𝓛 i (cell_of E i v) Γ

  -- local i is empty, and holds v then
  abbrev Fills : Env 𝓤 H → ℕ → Val → List (Item 𝓤) → Type 2
  Fills E i v Γ = (at 𝓛 i Γ ≡ room_of E i) × (at 𝓛 i (filled E i v Γ) ≡ cell_of E i v)

  -- a value fills local i and then local 0
  abbrev pub handed_back : Env 𝓤 H → Val → ℕ → List (Item 𝓤) → List (Item 𝓤)
  handed_back E v i Γ = filled E zero v (filled E i v Γ)

  abbrev pub HandsBack : Env 𝓤 H → Val → ℕ → List (Item 𝓤) → Type 2
  HandsBack E v i Γ = Fills E i v Γ × Fills E zero v (filled E i v Γ)

  -- local k points to the current node, and local i to the next; local j says that there is none
  abbrev pub looked_on : Env 𝓤 H → (x : Cursor.Denot) → ℕ → ℕ → List Span → List (Item 𝓤) → List (Item 𝓤)
  looked_on E x i j after Γ =
      filled E j (vbool (is_last after)) (filled E i (ptr_val (first_or x.region.block after null_ptr)) (Apart x.region.block x.before x.current after Γ))

  abbrev pub LooksOn : Env 𝓤 H → (x : Cursor.Denot) → ℕ → ℕ → ℕ → List Span → List (Item 𝓤) → Type 2
  LooksOn E x k i j after Γ =
      let far : Val = ptr_val (first_or x.region.block after null_ptr) in
      (at 𝓛 k (Apart x.region.block x.before x.current after Γ) ≡ cell_of E k (ptr_val (block_ptr x.region.block x.current.0)))
      × Fills E i far (Apart x.region.block x.before x.current after Γ) × Fills E j (vbool (is_last after)) (filled E i far (Apart x.region.block x.before x.current after Γ))

module _ {M : Type 1} {𝓤 : Ura M} {𝓛 : Logic 𝓤} {K : Type 0} {Γ : List (Item 𝓤)} where
  open 𝓛 use {H}

  -- a block ends with a value in local i, which is returned
  pub hands_back : K → (i : ℕ) (E : Env 𝓤 H) {C : Calls 𝓤 H} {Λ : Loops 𝓤 H} (Kf : Val → SProp 𝓤) {rv : RValue} {v : Val}
      → Rv K 𝓛 Γ E rv v → HandsBack 𝓛 E v i Γ → type_of 𝓛 E i ≡ type_of 𝓛 E zero → T (has_ty (type_of 𝓛 E zero) v) × WT v
      → Step K 𝓛 (handed_back 𝓛 E v i Γ) (frees E (prop (Kf v))) Γ
      (runs C Λ E (assign (place i []) rv) (out_of_block 𝓛 (then_runs 𝓛 C Λ E (seq (assign (place zero []) (rv_opd (copy (place i [])))) return) (at_ret E Kf))))
  hands_back t i E {C} {Λ} Kf {rv} {v} r fill same typed = step (λ s.
      assigns_last t r (from t (stop t)) (init t (cell i Γ) fill.0.0 (subst (λ (τ : Ty). T (has_ty τ v) × WT v) (sym same) typed)) $
      exec t C Λ E (seq (assign (place zero []) (rv_opd (copy (place i [])))) return) (at_ret E Kf) $
      assigns t (of_opd t (get t fill.0.1)) (from t (stop t)) (init t (cell zero (filled 𝓛 E i v Γ)) fill.1.0 typed) $
      returns t (look_at t zero fill.1.1) $ s)

  -- the link of the current node, which local k points to, goes into local i, and whether it is null into local j
  pub looks_on : K → (x : Cursor.Denot) (k i j : ℕ) (E : Env 𝓤 H) {C : Calls 𝓤 H} {Λ : Loops 𝓤 H} {q : Post 𝓤 H} {yes no rest : Body}
      → LooksOn 𝓛 E x k i j x.after Γ → (type_of 𝓛 E i ≡ ty_ptr) × (type_of 𝓛 E j ≡ ty_bool)
      → (x.after ≡ [] → Seq K 𝓛 (looked_on 𝓛 E x i j [] Γ) (runs C Λ E yes (then_runs 𝓛 C Λ E rest q)))
      → ((h : Span) (hs : List Span) → x.after ≡ h ∷ hs → Seq K 𝓛 (looked_on 𝓛 E x i j (h ∷ hs) Γ) (runs C Λ E no (then_runs 𝓛 C Λ E rest q)))
      → Seq K 𝓛 (‵ (chain_to x.region.block x.before x.current x.after) ∷ Γ)
      (runs C Λ E (seq (assign (place i []) (rv_opd (copy (place k (deref named_hole ∷ field 1 ∷ []))))) (seq (assign (place j []) (op2 ptr_eq (copy (place i [])) (int w64 0))) (seq (cond (copy (place j [])) yes no) rest))) q)
  looks_on t x k i j E {C} {Λ} {q} {yes} {no} {rest} is types none more =
      let b = x.region.block in let IsTyped : Val → Ty → Type 0 = λ v τ. T (has_ty τ v) × WT v in
      next_hole t b x.before x.current x.after
      (λ last. let Γ0 = Apart b x.before x.current [] Γ in let met = subst (λ (l : List Span). LooksOn 𝓛 E x k i j l Γ) last is in
      assigns t (of_opd t (load t (through t met.0 (fld t refl (stop t))) (look_in t 0 (sub t 1 refl (whole t))))) (from t (stop t)) (init t (cell i Γ0) met.1.0 (subst (IsTyped (ptr_val null_ptr)) (sym types.0) (tt, record { fits = lit< tt }))) $
      assigns t (bin t (get t met.1.1) (lit t tt) tt) (from t (stop t)) (init t (cell j (filled 𝓛 E i (ptr_val null_ptr) Γ0)) met.2.0 (subst (IsTyped (vbool true)) (sym types.1) (tt, tt))) $
      first t $ branches t (get t met.2.1) (λ _. none last) (λ no. absurd no))
      (λ h hs ahead. let Γ0 = Apart b x.before x.current (h ∷ hs) Γ in let met = subst (λ (l : List Span). LooksOn 𝓛 E x k i j l Γ) ahead is in let next : Ptr = block_ptr b h.0 in
      let top = x.placed.2.0 in let under = (next_facts x.region x.before x.current h hs (subst (IsCursor x.region x.before x.current) ahead x.sorted)).2 in
      assigns t (of_opd t (load t (through t met.0 (fld t refl (stop t))) (look_in t 0 (sub t 1 refl (whole t))))) (from t (stop t)) (init t (cell i Γ0) met.1.0 (subst (IsTyped (ptr_val next)) (sym types.0) (tt, tt))) $
      assigns t (bin t (get t met.1.1) (lit t tt) (tests_null next (omega arith))) (from t (stop t)) (init t (cell j (filled 𝓛 E i (ptr_val next) Γ0)) met.2.0 (subst (IsTyped (vbool false)) (sym types.1) (tt, tt))) $
      first t $ branches t (get t met.2.1) (λ yes. absurd yes) (λ _. more h hs ahead))

module _ {M : Type 1} {𝓤 : Ura M} {𝓛 : Logic 𝓤} {K : Type 0} {Γ : List (Item 𝓤)} where
  open 𝓛 use {H}

  -- the same where a branch ends with the value in local i, and the block, whose value is the branch's, with it in local j
  pub hands_out : K → (i j : ℕ) (E : Env 𝓤 H) {C : Calls 𝓤 H} {Λ : Loops 𝓤 H} (Kf : Val → SProp 𝓤) {rv : RValue} {v : Val}
      → Rv K 𝓛 Γ E rv v → Fills 𝓛 E i v Γ × HandsBack 𝓛 E v j (filled 𝓛 E i v Γ) → (type_of 𝓛 E i ≡ type_of 𝓛 E zero) × (type_of 𝓛 E j ≡ type_of 𝓛 E zero)
      → T (has_ty (type_of 𝓛 E zero) v) × WT v
      → Step K 𝓛 (handed_back 𝓛 E v j (filled 𝓛 E i v Γ)) (frees E (prop (Kf v))) Γ
      (runs C Λ E (assign (place i []) rv) (then_runs 𝓛 C Λ E (assign (place j []) (rv_opd (copy (place i [])))) (out_of_block 𝓛 (then_runs 𝓛 C Λ E (seq (assign (place zero []) (rv_opd (copy (place j [])))) return) (at_ret E Kf)))))
  hands_out t i j E {C} {Λ} Kf {rv} {v} r fill same typed = step (λ s.
      assigns_last t r (from t (stop t)) (init t (cell i Γ) fill.0.0 (subst (λ (τ : Ty). T (has_ty τ v) × WT v) (sym same.0) typed)) $
      exec t C Λ E (assign (place j []) (rv_opd (copy (place i [])))) (out_of_block 𝓛 (then_runs 𝓛 C Λ E (seq (assign (place zero []) (rv_opd (copy (place j [])))) return) (at_ret E Kf))) $
      hands_back t j E Kf (of_opd t (get t fill.0.1)) fill.1 same.1 typed $ s)
