-- A cursor's machine value, and what it owns: taken apart where it stands, and put together there or one node on. Assumes `Logic`.
use Rattle.std.proofs.Common.{◌≡◌, ℕ, List, [], ◌∷◌, ◌++◌, refl, sym, subst, ◌∙◌}
use seplogic.Ra.Ura.{Ura}
use mir.Syntax.{Ty}
use mir.Val.{Val}
use base.Fraction.{full_share}
use base.Fml.{fat}
use types.Logic.{Logic}
use types.Kit.{Item, Goal, Seq, Step, step, ‵, ◌$◌, move, drop, use0, use2, fsplit, fjoin, rewrite}
use denote.RattleType.{RattleType}
use denote.Memory.{lone}
use denote.RawPtr.{Ptr, block_ptr, null_ptr}
use denote.Shadow.{shadow}
use denote.Steps.{nothing}
use Rattle.lent_heap.specs.Holes.{Span, IsCursor}
use Rattle.lent_heap.specs.Ownership.{hole_type, hole_val, behind, first_or, links, chain, chain_to}
use Rattle.lent_heap.specs.contracts.hole.Hole as header
use Rattle.lent_heap.specs.contracts.hole.Cursor as cursor
use Rattle.lent_heap.proofs.Values.{cursor_val, cursor_own, cursor_told, cursor_made}
use Rattle.lent_heap.proofs.Order.{advanced}
use Rattle.lent_heap.proofs.Nodes.{links_append}

-- a node's header, by the name of its type
abbrev pub named_hole : Ty
named_hole = lone (header.the_row).mir

abbrev pub Cursor : RattleType
Cursor = cursor.the_row

abbrev pub start_of : Cursor.Denot → Ptr
start_of x = block_ptr x.region.block x.region.start

abbrev pub here_of : Cursor.Denot → Ptr
here_of x = block_ptr x.region.block x.current.0

pub cursor_is : (x : Cursor.Denot) (vs : List Val) → shadow (cursor_own x.first x.hole vs) → vs ≡ cursor_val (start_of x) (here_of x) ∷ []
cursor_is x vs s = (cursor_told x.first x.hole vs s).0 ∙ (λ i. cursor_val (x.placed.0 i) (x.placed.1 i) ∷ [])

-- one node on
abbrev pub moved : (x : Cursor.Denot) (h : Span) (hs : List Span) → x.after ≡ h ∷ hs → Cursor.Denot
moved x h hs more = record {
  first = start_of x;
  hole = block_ptr x.region.block h.0;
  region = x.region;
  before = x.before ++ x.current ∷ [];
  current = h;
  after = hs;
  placed = (refl, refl, x.placed.2);
  sorted = advanced x.region x.before x.current h hs (subst (IsCursor x.region x.before x.current) more x.sorted);
}

-- the current node, which points to the first of those after it, and the nodes before it
abbrev pub Apart : {M : Type 1} {𝓤 : Ura M} → ℕ → List Span → Span → List Span → List (Item 𝓤) → List (Item 𝓤)
Apart b before u after Γ =
    ‵ (fat full_share hole_type b u.0 (hole_val u.1 (first_or b after null_ptr))) ∷ ‵ (behind b u) ∷ ‵ (chain b after) ∷ ‵ (links b before (block_ptr b u.0)) ∷ Γ

module _ {M : Type 1} {𝓤 : Ura M} {𝓛 : Logic 𝓤} {K : Type 0} {Γ : List (Item 𝓤)} {G : Goal 𝓤 𝓛.H} where
  pub cursor_out : K → (x : Cursor.Denot) (vs : List Val) → Step K 𝓛 (‵ (chain_to x.region.block x.before x.current x.after) ∷ Γ) G (‵ (Cursor.own_val x vs) ∷ Γ) G
  cursor_out t x vs = step (λ s. fsplit t $ drop t $ s)

  pub cursor_in : K → (x : Cursor.Denot) → Step K 𝓛 (‵ (Cursor.own_val x (cursor_val (start_of x) (here_of x) ∷ [])) ∷ Γ) G (‵ (chain_to x.region.block x.before x.current x.after) ∷ Γ) G
  cursor_in t x = step (λ s.
      use0 𝓛 (‵ (cursor_own x.first x.hole (cursor_val x.first x.hole ∷ []))) (cursor_made 𝓛 x.first x.hole tt) $
      rewrite t 0 (λ (w : Ptr × Ptr). ‵ (cursor_own x.first x.hole (cursor_val w.0 w.1 ∷ []))) (λ i. (x.placed.0 i, x.placed.1 i)) refl $ fjoin t $ s)

  -- there is no node after the current one, or one
  pub next_hole : K → (b : ℕ) (before : List Span) (u : Span) (after : List Span)
      → (after ≡ [] → Seq K 𝓛 (Apart b before u [] Γ) G)
      → ((h : Span) (hs : List Span) → after ≡ h ∷ hs → Seq K 𝓛 (Apart b before u (h ∷ hs) Γ) G)
      → Seq K 𝓛 (‵ (chain_to b before u after) ∷ Γ) G
  next_hole t b before u [] none more = fsplit t $ move t (1 ∷ []) $ fsplit t $ fsplit t $ none refl
  next_hole t b before u (h ∷ hs) none more = fsplit t $ move t (1 ∷ []) $ fsplit t $ fsplit t $ more h hs refl

  -- put together where it stands
  pub stands : K → (x : Cursor.Denot) (after : List Span) → x.after ≡ after
      → Step K 𝓛 (‵ (Cursor.own_val x (cursor_val (start_of x) (here_of x) ∷ [])) ∷ Γ) G (Apart x.region.block x.before x.current after Γ) G
  stands t x after same = step (λ s.
      fjoin t $ fjoin t $ move t (1 ∷ 0 ∷ []) $ fjoin t $ rewrite t 0 (λ (l : List Span). ‵ (chain_to x.region.block x.before x.current l)) (sym same) refl $ cursor_in t x $ s)

  -- put together one node on
  pub moves_on : K → (x : Cursor.Denot) (h : Span) (hs : List Span) (more : x.after ≡ h ∷ hs)
      → Step K 𝓛 (‵ (Cursor.own_val (moved x h hs more) (cursor_val (start_of x) (block_ptr x.region.block h.0) ∷ [])) ∷ Γ) G (Apart x.region.block x.before x.current (h ∷ hs) Γ) G
  moves_on t x h hs more = step (λ s.
      let b = x.region.block in let next : Ptr = block_ptr b h.0 in
      fjoin t $ nothing t $ move t (1 ∷ 0 ∷ []) $ fjoin t $ move t (2 ∷ 0 ∷ []) $ use2 𝓛 (‵ (links b (x.before ++ x.current ∷ []) next)) (links_append 𝓛 b x.before x.current [] next) $ fjoin t $ cursor_in t (moved x h hs more) $ s)
