-- The machine values of the crate's structs: what is owned tells them, and is made of nothing.
use Rattle.std.proofs.Common.{◌≡◌, ℕ, ◌^◌, ◌<◌, List, [], ◌∷◌, ◌++◌, refl, ◌∙◌, lit<, w64}
use seplogic.Ra.Ura.{Ura}
use mir.Syntax.{ty_int, ty_ptr, ty_struct, tcons, tnil}
use mir.Val.{Val, vint, vstruct, vcons, vnil, of_list}
use base.Logic.{ent, emp}
use base.Fml.{Fml}
use types.Logic.{Logic, sem}
use denote.RattleType.{RattleType}
use denote.Builtin.{usize}
use denote.RawPtr.{Ptr, RawPtr, block_ptr, null_ptr, ptr_val}
use denote.Shadow.{shadow, makes_shadow}
use denote.Struct.Struct.{Struct}
use Rattle.core.proofs.cell.Inside.{Good}

-- a struct by its fields alone: what it owns does not read its name
abbrev pub plainly : List RattleType → RattleType
plainly Rs = Struct (record { name = []; args = []; types = []; fields = Rs })

pub ptr_typed : (p : Ptr) → Good ty_ptr (ptr_val p)
ptr_typed (block_ptr b o) = (tt, tt)
ptr_typed null_ptr = (tt, record { fits = lit< tt })

abbrev pub list_val : Ptr → Val
list_val p0 = vstruct (vcons (ptr_val p0) vnil)

abbrev pub list_own : Ptr → List Val → Fml
list_own p0 = (plainly (RawPtr ∷ [])).own_val (p0, tt)

pub list_told : (p0 : Ptr) (vs : List Val) → shadow (list_own p0 vs) → (vs ≡ list_val p0 ∷ []) × Unit {0}
list_told p0 vs s = (s.1.0 ∙ (λ i. vstruct (of_list (s.1.1.0 i ++ [])) ∷ []), tt)

pub list_made : {M : Type 1} {𝓤 : Ura M} (𝓛 : Logic 𝓤) (p0 : Ptr) → Unit {0} → ent 𝓤 (emp 𝓤) (sem 𝓛 (list_own p0 (list_val p0 ∷ [])))
list_made 𝓛 p0 f = makes_shadow 𝓛 (list_own p0 (list_val p0 ∷ [])) (λ _. (tt, (tt, tt))) ((ptr_val p0 ∷ [], tt), (refl, (refl, tt)))

pub list_typed : (p0 : Ptr) → Unit {0} → Good (ty_struct [] (tcons ty_ptr tnil)) (list_val p0)
list_typed (block_ptr bp0 op0) f = (tt, (tt, tt))
list_typed null_ptr f = (tt, (record { fits = lit< tt }, tt))

abbrev pub cursor_val : Ptr → Ptr → Val
cursor_val p0 p1 = vstruct (vcons (ptr_val p0) (vcons (ptr_val p1) vnil))

abbrev pub cursor_own : Ptr → Ptr → List Val → Fml
cursor_own p0 p1 = (plainly (RawPtr ∷ RawPtr ∷ [])).own_val (p0, (p1, tt))

pub cursor_told : (p0 : Ptr) (p1 : Ptr) (vs : List Val) → shadow (cursor_own p0 p1 vs) → (vs ≡ cursor_val p0 p1 ∷ []) × Unit {0}
cursor_told p0 p1 vs s = (s.1.0 ∙ (λ i. vstruct (of_list (s.1.1.0 i ++ (s.1.1.1.0 i ++ []))) ∷ []), tt)

pub cursor_made : {M : Type 1} {𝓤 : Ura M} (𝓛 : Logic 𝓤) (p0 : Ptr) (p1 : Ptr) → Unit {0} → ent 𝓤 (emp 𝓤) (sem 𝓛 (cursor_own p0 p1 (cursor_val p0 p1 ∷ [])))
cursor_made 𝓛 p0 p1 f = makes_shadow 𝓛 (cursor_own p0 p1 (cursor_val p0 p1 ∷ [])) (λ _. (tt, (tt, (tt, tt)))) ((ptr_val p0 ∷ [], (ptr_val p1 ∷ [], tt)), (refl, (refl, (refl, tt))))

pub cursor_typed : (p0 : Ptr) (p1 : Ptr) → Unit {0} → Good (ty_struct [] (tcons ty_ptr (tcons ty_ptr tnil))) (cursor_val p0 p1)
cursor_typed (block_ptr bp0 op0) (block_ptr bp1 op1) f = (tt, (tt, (tt, tt)))
cursor_typed null_ptr (block_ptr bp1 op1) f = (tt, (record { fits = lit< tt }, (tt, tt)))
cursor_typed (block_ptr bp0 op0) null_ptr f = (tt, (tt, (record { fits = lit< tt }, tt)))
cursor_typed null_ptr null_ptr f = (tt, (record { fits = lit< tt }, (record { fits = lit< tt }, tt)))

abbrev pub sized_val : Ptr → ℕ → Val
sized_val p0 n1 = vstruct (vcons (ptr_val p0) (vcons (vint w64 n1) vnil))

abbrev pub sized_own : Ptr → ℕ → List Val → Fml
sized_own p0 n1 = (plainly (RawPtr ∷ usize ∷ [])).own_val (p0, (n1, tt))

pub sized_told : (p0 : Ptr) (n1 : ℕ) (vs : List Val) → shadow (sized_own p0 n1 vs) → (vs ≡ sized_val p0 n1 ∷ []) × (n1 < 2 ^ 64)
sized_told p0 n1 vs s = (s.1.0 ∙ (λ i. vstruct (of_list (s.1.1.0 i ++ (s.1.1.1.0.0 i ++ []))) ∷ []), s.1.1.1.0.1)

pub sized_made : {M : Type 1} {𝓤 : Ura M} (𝓛 : Logic 𝓤) (p0 : Ptr) (n1 : ℕ) → (n1 < 2 ^ 64) → ent 𝓤 (emp 𝓤) (sem 𝓛 (sized_own p0 n1 (sized_val p0 n1 ∷ [])))
sized_made 𝓛 p0 n1 f = makes_shadow 𝓛 (sized_own p0 n1 (sized_val p0 n1 ∷ [])) (λ _. (tt, (tt, ((tt, tt), tt)))) ((ptr_val p0 ∷ [], (vint w64 n1 ∷ [], tt)), (refl, (refl, ((refl, f), tt))))

pub sized_typed : (p0 : Ptr) (n1 : ℕ) → (n1 < 2 ^ 64) → Good (ty_struct [] (tcons ty_ptr (tcons (ty_int w64) tnil))) (sized_val p0 n1)
sized_typed (block_ptr bp0 op0) n1 f = (tt, (tt, (record { fits = f }, tt)))
sized_typed null_ptr n1 f = (tt, (record { fits = lit< tt }, (record { fits = f }, tt)))
