-- Lemmas on bytes at hand and calls.
use Rattle.std.proofs.Common.{◌≡◌, ℕ, ◌+◌, ◌*◌, ◌-◌, ◌≤◌, List, [], ◌∷◌, ◌++◌, length, take, drop, refl, sym, ap, subst, ◌∙◌, arith, append_assoc, append-nil, length-append}
use Rattle.std.proofs.lemmas.List.{take-append-drop, drop_at, take_at}
use Rattle.std.specs.List.{AllByRecursion}
use Rattle.byte_streams.specs.Calls.{joined}
use Rattle.chess_items.specs.steps.Deciding.{Decides}
use Rattle.chess_items.specs.steps.AtHands.{Needed}
use Rattle.chess_items.specs.declared.place.Place.{Place}

pub kept : (bytes : List ℕ) (used left : ℕ) (text rest : List ℕ) → drop used bytes ≡ text ++ rest → length rest ≡ left → drop (length bytes - left) bytes ≡ rest
kept bytes used left text rest e n =
    let prefix = take used bytes ++ text in
    let whole : prefix ++ rest ≡ bytes = append_assoc (take used bytes) text rest ∙ ap (λ (x : List ℕ). take used bytes ++ x) (sym e) ∙ take-append-drop used bytes in
    let long : length bytes ≡ length prefix + length rest = ap length (sym whole) ∙ length-append prefix rest in
    let at : length bytes - left ≡ length prefix = omega arith in
    subst (λ (x : List ℕ). drop (length bytes - left) x ≡ rest) whole (drop_at prefix rest (length bytes - left) (sym at))

pub take_front : (prefix more : List ℕ) → take (length prefix) (prefix ++ more) ≡ prefix
take_front prefix more = take_at prefix more (length prefix) refl

pub needed_more : (most : ℕ) (place : Place) (prefix : List ℕ) (pieces : List (List ℕ)) (piece : List ℕ) → Needed most place prefix pieces → (Decides place (prefix ++ joined pieces) → ⊥) → length (prefix ++ joined pieces) ≤ most → length piece ≤ 65536 → Needed most place prefix (pieces ++ piece ∷ [])
needed_more most place prefix [] piece n h few small = (subst (λ (x : List ℕ). Decides place x → ⊥) (append-nil prefix) h, subst (λ (x : List ℕ). length x ≤ most) (append-nil prefix) few, small, tt)
needed_more most place prefix (p ∷ pieces) piece n h few small =
    (n.0, n.1, n.2, needed_more most place (prefix ++ p) pieces piece n.3 (subst (λ (x : List ℕ). Decides place x → ⊥) (sym (append_assoc prefix p (joined pieces))) h) (subst (λ (x : List ℕ). length x ≤ most) (sym (append_assoc prefix p (joined pieces))) few) small)

pub needed_sized : (most : ℕ) (place : Place) (prefix : List ℕ) (pieces : List (List ℕ)) → Needed most place prefix pieces → AllByRecursion (λ piece. length piece ≤ 65536) pieces
needed_sized most place prefix [] n = tt
needed_sized most place prefix (p ∷ pieces) n = (n.2, needed_sized most place (prefix ++ p) pieces n.3)

pub joined_small : (most : ℕ) (place : Place) (prefix : List ℕ) (pieces : List (List ℕ)) → Needed most place prefix pieces → length (joined pieces) ≤ 65536 * length pieces
joined_small most place prefix [] n = omega arith
joined_small most place prefix (p ∷ pieces) n =
    let k = joined_small most place (prefix ++ p) pieces n.3 in
    let l = length-append p (joined pieces) in
    omega (arith, k, l, n.2)

pub kept_at : (bytes : List ℕ) (used left len : ℕ) (text rest : List ℕ) → drop used bytes ≡ text ++ rest → length rest ≡ left → len ≡ length bytes → drop (len - left) bytes ≡ rest
kept_at bytes used left len text rest e n h = rw h (kept bytes used left text rest e n)

pub empty_is : {A : Type 0} (xs : List A) → length xs ≡ 0 → xs ≡ []
empty_is [] e = refl
empty_is (x ∷ xs) e = absurd (omega arith)
