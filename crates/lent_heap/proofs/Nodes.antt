-- Units of memory are cut and glued, a node is made of them and taken apart, and two owners do not overlap. Assumes `Logic`.
use Rattle.std.proofs.Common.{◌≡◌, ℕ, zero, suc, ◌+◌, ◌-◌, ◌*◌, ◌/◌, ◌%◌, ◌≤◌, max, Bool, true, false, ltb, List, [], ◌∷◌, ◌++◌, refl, sym, ap, subst, ◌∙◌, arith, ltb-true, ltb-false}
use seplogic.Ra.Ura.{Ura}
use mir.Syntax.{Ty, Tys, w8, w128, tnil, tcons, ty_int, ty_array, ty_struct}
use native.Mathlib.Nat.{mod_self, sub-zero}
use base.Fraction.{full_share}
use base.Logic.{SProp, ent, sep, wand, never, via, apply∗, fst∗, snd∗, never_e}
use base.Fml.{Fml, fat, froom}
use prog.Memory.{size, align, pad, up, end_of}
use prog.Model.{Model, rooms_at}
use prog.Align.{Dv, dv→, dv_zero, dv_one, dv_mul, align_pos}
use types.Logic.{Logic, sem}
use types.Kit.{‵, raw, ◌⊛◌, ◌$◌, ◌∵◌, !, qed, by, move, keep, use1, use2, split, join, fsplit, frame, assume, rewrite, done}
use contract.Monad.{fact, fact_i}
use denote.RawPtr.{Ptr, block_ptr}
use denote.RawPtr.Room.{room_cut, room_glue, past}
use Rattle.lent_heap.specs.Region.{IsBlockSize}
use Rattle.lent_heap.specs.Holes.{Span, extent}
use Rattle.lent_heap.specs.Ownership.{units_of, hole_type, hole_val, behind, node, first_or, links}

abbrev unit : Ty
unit = ty_int w128

past_units : (k o : ℕ) → past unit k o ≡ o + k * 16
past_units zero o = omega arith
past_units (suc k) o = past_units k (o + 16) ∙ omega arith

by_test : {X : Type 1} (t : Bool) → (t ≡ true → X) → (t ≡ false → X) → X
by_test true y n = y refl
by_test false y n = n refl

flush : (a n : ℕ) → Dv a n → up a n ≡ n
flush a n d =
    let gone : pad a n ≡ 0 = ap (λ (r : ℕ). (a - r) % a) (dv→ a n d) ∙ ap (λ (r : ℕ). r % a) (sub-zero a) ∙ mod_self a in
    ap (λ (r : ℕ). n + r) gone ∙ omega arith

module _ {M : Type 1} {𝓤 : Ura M} (𝓛 : Logic 𝓤) (b : ℕ) where
  open 𝓛 use {H}

  abbrev Pr : Type 2
  Pr = SProp 𝓤

  abbrev ◌⊢◌ : Pr → Pr → Type 1
  P ⊢ Q = ent 𝓤 P Q

  abbrev ◌∗◌ : Pr → Pr → Pr
  P ∗ Q = sep 𝓤 P Q

  abbrev ◌-∗◌ : Pr → Pr → Pr
  P -∗ Q = wand 𝓤 P Q

  abbrev ⟦◌⟧ : Fml → Pr
  ⟦ P ⟧ = sem 𝓛 P

  infix 26 ◌⊢◌
  infixr 35 ◌∗◌
  infixr 30 ◌-∗◌
  abbrev bytes : ℕ → ℕ → Pr
  bytes x n = H.room (units_of n) b x

  module _ (x m n : ℕ) (whole : m % 16 ≡ 0) where
    sum : (m + n) / 16 ≡ m / 16 + n / 16
    sum = omega arith

    far : past unit (m / 16) x ≡ x + m
    far = past_units (m / 16) x ∙ omega arith

    pub cuts : bytes x (m + n) ⊢ bytes x m ∗ bytes (x + m) n
    cuts = qed 𝓛 (raw (bytes x (m + n)) ∷ []) ∵ rewrite ! 0 (λ (k : ℕ). raw (H.room (ty_array unit k) b x)) sum refl $
        use1 𝓛 (raw (bytes x m) ⊛ raw (bytes (past unit (m / 16) x) n)) (room_cut 𝓛 unit (m / 16) (n / 16) b x) $ split ! $ rewrite ! 1 (λ (d : ℕ). raw (bytes d n)) far refl $ done !

    pub glues : bytes x m ∗ bytes (x + m) n ⊢ bytes x (m + n)
    glues = qed 𝓛 (raw (bytes x m) ∷ raw (bytes (x + m) n) ∷ []) ∵ rewrite ! 1 (λ (d : ℕ). raw (bytes d n)) (sym far) refl $
        use2 𝓛 (raw (H.room (ty_array unit (m / 16 + n / 16)) b x)) (room_glue 𝓛 unit (m / 16) (n / 16) b x) $ rewrite ! 0 (λ (k : ℕ). raw (H.room (ty_array unit k) b x)) (sym sum) refl $ done !

  pub resized : (x m n : ℕ) → m ≡ n → bytes x m ⊢ bytes x n
  resized x m n same = qed 𝓛 (raw (bytes x m) ∷ []) ∵ rewrite ! 0 (λ (k : ℕ). raw (bytes x k)) same refl $ done !

  pub fewer : (x m n : ℕ) → m % 16 ≡ 0 → m ≤ n → bytes x n ⊢ bytes x m
  fewer x m n whole less = via 𝓤 (bytes x (m + (n - m))) (resized x n (m + (n - m)) (omega arith)) (via 𝓤 (bytes x m ∗ bytes (x + m) (n - m)) (cuts x m (n - m) whole) (fst∗ 𝓤 (bytes x m) (bytes (x + m) (n - m))))

  pub dissolves : (h : Span) (next : Ptr) → H.at full_share hole_type b h.0 (hole_val h.1 next) ∗ ⟦ behind b h ⟧ ⊢ bytes h.0 (extent h.1)
  dissolves h next = qed 𝓛 (‵ (fat full_share hole_type b h.0 (hole_val h.1 next)) ∷ ‵ (behind b h) ∷ []) ∵
      use1 𝓛 (‵ (froom hole_type b h.0)) (𝓛.laws.at_room hole_type b h.0 (hole_val h.1 next)) $ by ! (apply∗ 𝓤 (H.room hole_type b h.0) (bytes h.0 (extent h.1)))

  pub forms : (h : Span) → bytes h.0 (extent h.1) ⊢ H.room hole_type b h.0 ∗ ⟦ behind b h ⟧
  forms h =
      let x = h.0 in let rest = extent h.1 - 16 in let sum : extent h.1 ≡ 16 + rest = omega arith in
      let Head : Pr = H.room hole_type b x in
      qed 𝓛 (raw (bytes x (extent h.1)) ∷ []) ∵ use1 𝓛 (raw (bytes x (16 + rest))) (resized x (extent h.1) (16 + rest) sum) $
      use1 𝓛 (raw (bytes x 16) ⊛ raw (bytes (x + 16) rest)) (cuts x 16 rest refl) $ split ! $
      use1 𝓛 (raw Head ⊛ raw (Head -∗ bytes x 16)) (𝓛.laws.room_as (units_of 16) hole_type b x refl tt) $ split ! $ frame ! $ assume ! (raw Head) $
      use2 𝓛 (raw (bytes x 16)) (apply∗ 𝓤 Head (bytes x 16)) $ use2 𝓛 (raw (bytes x (16 + rest))) (glues x 16 rest refl) $ by ! (resized x (16 + rest) (extent h.1) (sym sum))

  -- the header of a node has grown: what lies behind it is all of the joined node
  pub absorbs : (c h : Span) (next : Ptr) → c.0 + c.1 ≡ h.0 → 16 ≤ c.1 → c.1 % 16 ≡ 0 → h.1 % 16 ≡ 0 → ⟦ behind b c ⟧ ∗ ⟦ node b h next ⟧ ⊢ ⟦ behind b (c.0, c.1 + h.1) ⟧
  absorbs c h next touch large whole whole' =
      let Head : Pr = H.room hole_type b c.0 in
      qed 𝓛 (‵ (behind b c) ∷ ‵ (node b h next) ∷ []) ∵ assume ! (raw Head) $ use2 𝓛 (raw (bytes c.0 (extent c.1))) (apply∗ 𝓤 Head (bytes c.0 (extent c.1))) $
      use1 𝓛 (raw (bytes c.0 c.1)) (resized c.0 (extent c.1) c.1 (omega arith)) $ move ! (1 ∷ []) $ use1 𝓛 (raw (bytes h.0 (extent h.1))) (dissolves h next) $
      use1 𝓛 (raw (bytes h.0 h.1)) (fewer h.0 h.1 (extent h.1) whole' (omega arith)) $ rewrite ! 0 (λ (d : ℕ). raw (bytes d h.1)) (sym touch) refl $ move ! (1 ∷ 0 ∷ []) $
      use2 𝓛 (raw (bytes c.0 (c.1 + h.1))) (glues c.0 c.1 h.1 whole) $ by ! (resized c.0 (c.1 + h.1) (extent (c.1 + h.1)) (omega arith))

  apart : Model 𝓤 H → (x m y n : ℕ) → m % 16 ≡ 0 → n % 16 ≡ 0 → 16 ≤ n → x ≤ y → bytes x m ∗ bytes y n ⊢ fact 𝓤 (x + m ≤ y)
  apart 𝓜 x m y n whole whole' large below =
      by_test (ltb y (x + m))
      (λ t. let inside = ltb-true y (x + m) t in
      via 𝓤 (never 𝓤) (𝓜.room-room (units_of m) (units_of n) b x y y (below, omega arith) (omega arith, omega arith)) (never_e 𝓤 _))
      (λ t. fact_i 𝓤 (x + m ≤ y) (bytes x m ∗ bytes y n) (ltb-false y (x + m) t))

  pub node_ends_before : Model 𝓤 H → (c : Span) (next : Ptr) (y n : ℕ) → c.1 % 16 ≡ 0 → IsBlockSize n → c.0 ≤ y
      → H.at full_share hole_type b c.0 (hole_val c.1 next) ∗ ⟦ behind b c ⟧ ∗ bytes y n ⊢ fact 𝓤 (c.0 + extent c.1 ≤ y)
  node_ends_before 𝓜 c next y n whole sized below =
      qed 𝓛 (‵ (fat full_share hole_type b c.0 (hole_val c.1 next)) ∷ ‵ (behind b c) ∷ raw (bytes y n) ∷ []) ∵
      use2 𝓛 (raw (bytes c.0 (extent c.1))) (dissolves c next) $ by ! (apart 𝓜 c.0 (extent c.1) y n (omega arith) sized.1 sized.0 below)

  pub block_ends_before : Model 𝓤 H → (x n : ℕ) (h : Span) (hs : List Span) (last : Ptr) → n % 16 ≡ 0 → h.1 % 16 ≡ 0 → x ≤ h.0 → bytes x n ∗ ⟦ links b (h ∷ hs) last ⟧ ⊢ fact 𝓤 (x + n ≤ h.0)
  block_ends_before 𝓜 x n h hs last whole whole' below =
      qed 𝓛 (raw (bytes x n) ∷ ‵ (links b (h ∷ hs) last) ∷ []) ∵ move ! (1 ∷ []) $ fsplit ! $ use1 𝓛 (raw (bytes h.0 (extent h.1))) (dissolves h (first_or b hs last)) $ keep ! (2 ∷ 0 ∷ []) $
      by ! (apart 𝓜 x n h.0 (extent h.1) whole (omega arith) (omega arith) below)

  pub links_append : (xs : List Span) (c : Span) (ys : List Span) (last : Ptr) → ⟦ links b xs (block_ptr b c.0) ⟧ ∗ ⟦ links b (c ∷ ys) last ⟧ ⊢ ⟦ links b (xs ++ c ∷ ys) last ⟧
  links_append [] c ys last = snd∗ 𝓤 ⟦ links b [] (block_ptr b c.0) ⟧ ⟦ links b (c ∷ ys) last ⟧
  links_append (x ∷ []) c ys last =
      qed 𝓛 (‵ (links b (x ∷ []) (block_ptr b c.0)) ∷ ‵ (links b (c ∷ ys) last) ∷ []) ∵ fsplit ! $ keep ! (0 ∷ 2 ∷ []) $ done !
  links_append (x ∷ y ∷ xs) c ys last =
      qed 𝓛 (‵ (links b (x ∷ y ∷ xs) (block_ptr b c.0)) ∷ ‵ (links b (c ∷ ys) last) ∷ []) ∵ fsplit ! $ move ! (1 ∷ 2 ∷ []) $
      use2 𝓛 (‵ (links b (y ∷ xs ++ c ∷ ys) last)) (links_append (y ∷ xs) c ys last) $ move ! (1 ∷ 0 ∷ []) $ done !

  -- n bytes are room for a type that they hold, as a struct of it and the bytes after it
  pub retypes : (τ : Ty) (x n : ℕ) → n % 16 ≡ 0 → size τ ≤ n → Dv (align τ) 16 → bytes x n ⊢ H.room τ b x ∗ (H.room τ b x -∗ bytes x n)
  retypes τ x n whole fits dv =
      let tail : Tys = tcons (ty_array (ty_int w8) (n - size τ)) tnil in
      let ω : Ty = ty_struct [] (tcons τ tail) in
      let one : max (align τ) 1 ≡ align τ = omega (arith, align_pos τ) in
      let start : up (align τ) 0 ≡ 0 = flush (align τ) 0 (dv_zero (align τ)) in
      let ends : end_of zero (tcons τ tail) ≡ n / 16 * 16 = ap (λ (k : ℕ). k + (n - size τ) * 1) (flush 1 (up (align τ) 0 + size τ) (dv_one (up (align τ) 0 + size τ)) ∙ ap (λ (k : ℕ). k + size τ) start) ∙ omega arith in
      let same : size ω ≡ n / 16 * 16 = (λ i. up (one i) (ends i)) ∙ flush (align τ) (n / 16 * 16) (dv_mul (align τ) 16 (n / 16) dv) in
      let first : x + up (align τ) 0 ≡ x = ap (λ (k : ℕ). x + k) start ∙ omega arith in
      let Rest : Pr = rooms_at 𝓤 H tail (up (align τ) 0 + size τ) b x in
      let Head : Pr = H.room τ b (x + up (align τ) 0) in
      subst (λ (d : ℕ). bytes x n ⊢ H.room τ b d ∗ (H.room τ b d -∗ bytes x n)) first
      (qed 𝓛 (raw (bytes x n) ∷ []) ∵
      use1 𝓛 (raw (H.room ω b x) ⊛ raw (H.room ω b x -∗ bytes x n)) (𝓛.laws.room_as (units_of n) ω b x same (subst (λ (k : ℕ). Dv k 16) (sym one) dv)) $ split ! $
      use1 𝓛 ((raw Head ⊛ raw Rest) ⊛ raw ((Head ∗ Rest) -∗ H.room ω b x)) (𝓛.laws.room_fields [] (tcons τ tail) b x) $ split ! $ split ! $ frame ! $ assume ! (raw Head) $ join ! $
      use2 𝓛 (raw (H.room ω b x)) (apply∗ 𝓤 (Head ∗ Rest) (H.room ω b x)) $ by ! (apply∗ 𝓤 (H.room ω b x) (bytes x n)))
