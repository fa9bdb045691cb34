-- Bytes that decide an item, in the words of the definition, decide it.
use Rattle.std.proofs.Common.{◌≡◌, inl, inr, ℕ, List, [], ◌++◌, Some, None, refl, sym, ap, ◌∙◌, append_assoc, append-nil}
use Rattle.chess_items.specs.Decided.{IsDecided}
use Rattle.chess_items.specs.Items.{Item, IsItem}
use Rattle.chess_items.specs.steps.Deciding.{longer, Decides}
use Rattle.chess_items.specs.steps.ItemAt.{Found, item_at}
use Rattle.chess_items.specs.declared.place.Place.{Place}
use Rattle.chess_items.proofs.FoundLemmas.{the, item_taken}
use Rattle.chess_items.proofs.ItemLemmas.{item_goes}

none_at : (place : Place) (input : List ℕ) (found : Found) → item_at place input ≡ found → ((item : Item) (text rest : List ℕ) → input ≡ text ++ rest → IsItem place item text rest → ⊥) → item_at place input ≡ None
none_at place input None e none = e
none_at place input (Some x) e none = (let t = item_taken place input x.0 x.1 e in absurd (none x.0 t.0 x.1 t.1 t.2))

pub is_decided : (place : Place) (bytes : List ℕ) → IsDecided place bytes → Decides place bytes
is_decided place bytes (inl d) = λ more. there more ∙ ap (λ (x : Found). longer x more) (sym here)
  where
    there : (more : List ℕ) → item_at place (bytes ++ more) ≡ the d.0 (d.2 ++ more)
    there more = ap (item_at place) (ap (λ (x : List ℕ). x ++ more) d.3 ∙ append_assoc d.1 d.2 more) ∙ item_goes place d.0 d.1 (d.2 ++ more) (d.4 more)

    here : item_at place bytes ≡ the d.0 d.2
    here = ap (item_at place) (sym (append-nil bytes)) ∙ there [] ∙ ap (the d.0) (append-nil d.2)
is_decided place bytes (inr none) = λ more. none_at place (bytes ++ more) (item_at place (bytes ++ more)) refl (none more) ∙ ap (λ (x : Found). longer x more) (sym here)
  where
    here : item_at place bytes ≡ None
    here = none_at place bytes (item_at place bytes) refl (λ item text rest e. none [] item text rest (append-nil bytes ∙ e))
