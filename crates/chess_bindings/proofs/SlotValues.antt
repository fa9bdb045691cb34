-- The machine values of a slot, which is a flag and a pointer. Assumes `Logic`.
use Rattle.std.proofs.Common.{◌≡◌, ℕ, List, [], ◌∷◌, ◌++◌, refl, subst}
use Rattle.std.specs.Prelude.{Bool, Option, Some, None}
use seplogic.Ra.Ura.{Ura}
use mir.Raw.{raw as bare}
use mir.Syntax.{Ty}
use mir.Val.{Val, vbool, vstruct, vcons, vnil, of_list}
use base.Fml.{Fml, fsep}
use base.Logic.{never, fst∗}
use types.Logic.{Logic, sem}
use types.Kit.{Item, Goal, Seq, Step, step, ‵, ◌$◌, drop, fsplit, fjoin, fpick, fpack, feq_i, feq_l}
use denote.RattleType.{RattleType, Valss}
use denote.Builtin.{RawPtr, bool}
use denote.Memory.{lone}
use denote.RawPtr.{Ptr, block_ptr, null_ptr, ptr_val, in_a_block}
use denote.Steps.{nothing}
use denote.Struct.Struct.{Shape, Struct, within}
use Rattle.std_alloc.specs.Box.Ownership.{box_owns}
use Rattle.chess_bindings.specs.Slots.{slot_owns}

abbrev pub slot_val : Bool → Val → Val
slot_val full v = vstruct (vcons (vbool full) (vcons v vnil))

-- the fields; what is owned does not read the struct's name
abbrev flag_and_pointer : Shape
flag_and_pointer = record { name = []; args = []; types = []; fields = bool ∷ RawPtr ∷ [] }

module _ (may_free : Ty → Ptr → Fml) (R : RattleType) where
  -- the fields, and what lies at the pointer
  abbrev pub slot_own : Bool → Ptr → Option R.Denot → List Val → Fml
  slot_own full at held vs = fsep ((Struct flag_and_pointer).own_val (full, (at, tt)) vs) (slot_owns may_free R held at)

module _ (may_free : Ty → Ptr → Fml) (R : RattleType) {M : Type 1} {𝓤 : Ura M} {𝓛 : Logic 𝓤} {K : Type 0} {Γ : List (Item 𝓤)} {G : Goal 𝓤 𝓛.H} where
  -- it holds nothing, or a block
  pub slot_cases : K → (held : Option R.Denot) (p : Ptr) → (held ≡ None → Seq K 𝓛 Γ G)
      → ((b o : ℕ) (x : R.Denot) → held ≡ Some x → p ≡ block_ptr b o → Seq K 𝓛 (‵ (box_owns (λ ty q. may_free ty q) R (block_ptr b o) x) ∷ Γ) G)
      → Seq K 𝓛 (‵ (slot_owns may_free R held p) ∷ Γ) G
  slot_cases t None p none one = drop t $ none refl
  slot_cases t (Some x) p none one = in_a_block t p (λ q. box_owns (λ ty r. may_free ty r) R q x) (fst∗ 𝓤 (never 𝓤) (sem 𝓛 (may_free (bare (lone R.mir)) null_ptr))) (λ b o e. one b o x refl e)

  -- a slot as what lies at its pointer, and back
  pub slot_out : K → (full : Bool) (at : Ptr) (held : Option R.Denot) (vs : List Val)
      → (vs ≡ slot_val full (ptr_val at) ∷ [] → Seq K 𝓛 (‵ (slot_owns may_free R held at) ∷ Γ) G)
      → Seq K 𝓛 (‵ (slot_own may_free R full at held vs) ∷ Γ) G
  slot_out t full at held vs k =
      fsplit t $ fpick t (λ vss. fsplit t $ feq_l t (λ ev. fsplit t $ feq_l t (λ ef. fsplit t $ feq_l t (λ ep. drop t $ k
      (subst (λ (ps : List Val). vs ≡ vstruct (of_list ((vbool full ∷ []) ++ (ps ++ []))) ∷ []) ep
      (subst (λ (fs : List Val). vs ≡ vstruct (of_list (fs ++ (vss.1.0 ++ []))) ∷ []) ef ev))))))

  pub slot_in : K → (full : Bool) (at : Ptr) (held : Option R.Denot)
      → Step K 𝓛 (‵ (slot_own may_free R full at held (slot_val full (ptr_val at) ∷ [])) ∷ Γ) G (‵ (slot_owns may_free R held at) ∷ Γ) G
  slot_in t full at held = step (λ s. let v : Val = slot_val full (ptr_val at) in
      nothing t $ feq_i t (List Val) (ptr_val at ∷ []) (ptr_val at ∷ []) refl $ fjoin t $ feq_i t (List Val) (vbool full ∷ []) (vbool full ∷ []) refl $ fjoin t $
      feq_i t (List Val) (v ∷ []) (v ∷ []) refl $ fjoin t $
      fpack t (Valss (bool ∷ RawPtr ∷ [])) (within flag_and_pointer (full, (at, tt)) (v ∷ [])) (vbool full ∷ [], (ptr_val at ∷ [], tt)) $ fjoin t $ s)
