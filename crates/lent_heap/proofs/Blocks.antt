-- A block's machine value, made for the bytes that it owns. Assumes `Logic`.
use Rattle.std.proofs.Common.{◌^◌, ◌<◌, List, [], ◌∷◌}
use seplogic.Ra.Ura.{Ura}
use types.Logic.{Logic}
use types.Kit.{Item, Goal, Step, step, ‵, ◌$◌, use0, fjoin}
use denote.RattleType.{RattleType}
use Rattle.lent_heap.specs.Ownership.{bytes_at}
use Rattle.lent_heap.specs.contracts.block.Block as block
use Rattle.lent_heap.proofs.Values.{sized_val, sized_own, sized_made}

abbrev pub Block : RattleType
Block = block.the_row

module _ {M : Type 1} {𝓤 : Ura M} {𝓛 : Logic 𝓤} {K : Type 0} {Γ : List (Item 𝓤)} {G : Goal 𝓤 𝓛.H} where
  pub block_in : K → (x : Block.Denot) → x.size < 2 ^ 64 → Step K 𝓛 (‵ (Block.own_val x (sized_val x.ptr x.size ∷ [])) ∷ Γ) G (‵ (bytes_at x.ptr x.size) ∷ Γ) G
  block_in t x fits = step (λ s. use0 𝓛 (‵ (sized_own x.ptr x.size (sized_val x.ptr x.size ∷ []))) (sized_made 𝓛 x.ptr x.size fits) $ fjoin t $ s)
