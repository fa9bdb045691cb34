-- Tags read item by item.
use Rattle.std.proofs.Common.{◌≡◌, ℕ, Bool, true, false, List, [], ◌∷◌, ◌++◌, refl, sym, ap, subst, ◌∙◌}
use Rattle.std.specs.Cmp.Lexicographic.{bytes_decides, nat_list_eq_equiv}
use Rattle.std.specs.Prelude.{Vec, Option, Some, None, Result, Ok, Err, OnOk, not, if◌then◌else◌, ◌||◌, ◌&&◌, is_some, bytes_eq, codes}
use mathlib.Core.Bool.{false≢true}
use Rattle.chess_items.specs.Items as items
use Rattle.chess_items.specs.Items.{Item}
use Rattle.chess_pgn.specs.Games.{tag_in}
use Rattle.chess_pgn.specs.Tags.{is_tag_gap}
use Rattle.chess_pgn.specs.steps.HeaderCode.{Heading, fresh, is_begun, is_spaced, step}
use Rattle.chess_pgn.specs.steps.OtherCode.{Finds, Sets}
use Rattle.chess_pgn.specs.declared.reader.header.Part.{Part}
use Rattle.chess_pgn.specs.declared.reader.header.Part.TheVariants.{Name, Nothing}

abbrev pub standing : Part → List (List ℕ × List ℕ) → List ℕ → List ℕ → Heading
standing part read name value = record { read = read; part = part; name = name; value = value }

pub opens : (part : Part) (read : List (List ℕ × List ℕ)) (name value : List ℕ) → is_begun part ≡ false → step (standing part read name value) items.TagOpen ≡ Some (standing Name read name value)
opens Nothing read name value e = refl
opens _ read name value e = absurd cc

-- white space between a tag's parts
pub passed : (h : Heading) (item : Item) → is_spaced h.part && is_tag_gap item ≡ true → step h item ≡ Some h
passed h item e = rw e refl

-- ---- the end of a tag

first_or : (b : Bool) (x : List ℕ) (all rest own : Option (List ℕ)) → all ≡ (if is_some rest then rest else own) → (if b then Some x else all) ≡ (if is_some (if b then Some x else rest) then (if b then Some x else rest) else own)
first_or true x all rest own h = refl
first_or false x all rest own h = h

finds_more : (tag : List ℕ × List ℕ) (name : List ℕ) (read : List (List ℕ × List ℕ)) → tag_in name (read ++ tag ∷ []) ≡ (if is_some (tag_in name read) then tag_in name read else (if bytes_eq name tag.0 then Some tag.1 else None))
finds_more tag name [] = refl
finds_more tag name (t ∷ read) = first_or (bytes_eq name t.0) t.1 _ _ _ (finds_more tag name read)

dropped_at : (result same : Bool) (value : List ℕ) (r k : Option (List ℕ)) → k ≡ (if result then None else r) → (same ≡ true → result || is_some k ≡ true)
    → k ≡ (if result then None else (if is_some r then r else (if same then Some value else None)))
dropped_at true same value r k e h = e
dropped_at false same value (Some x) k e h = e
dropped_at false false value None k e h = e
dropped_at false true value None k e h = absurd (false≢true (subst (λ (z : Option (List ℕ)). is_some z ≡ true) e (h refl)))

kept_at : (result same : Bool) (value : List ℕ) (r k new : Option (List ℕ)) → k ≡ (if result then None else r) → (same ≡ true → result || is_some k ≡ false) → new ≡ (if same then Some value else k)
    → new ≡ (if result then None else (if is_some r then r else (if same then Some value else None)))
kept_at true true value r k new e h f = absurd (false≢true (sym (h refl)))
kept_at true false value r k new e h f = f ∙ e
kept_at false true value (Some x) k new e h f = absurd (false≢true (sym (subst (λ (z : Option (List ℕ)). is_some z ≡ false) e (h refl))))
kept_at false true value None k new e h f = f
kept_at false false value (Some x) k new e h f = f ∙ e
kept_at false false value None k new e h f = f ∙ e

module _ (read kept : List (List ℕ × List ℕ)) (name value : List ℕ) (finds : Finds read kept) where
  all_at : (n : List ℕ) (x : Option (List ℕ)) → x ≡ (if bytes_eq (codes "Result") n then None else (if is_some (tag_in n read) then tag_in n read else (if bytes_eq name n then Some value else None)))
      → x ≡ (if bytes_eq (codes "Result") n then None else tag_in n (read ++ (name, value) ∷ []))
  all_at n x e =
      e ∙ ap (λ (b : Bool). if bytes_eq (codes "Result") n then None else (if is_some (tag_in n read) then tag_in n read else (if b then Some value else None))) (nat_list_eq_equiv.symm name n)
      ∙ ap (λ (y : Option (List ℕ)). if bytes_eq (codes "Result") n then None else y) (sym (finds_more (name, value) n read))

  at_name : (n : List ℕ) (b : Bool) → bytes_eq name (codes "Result") || is_some (tag_in name kept) ≡ b → bytes_eq name n ≡ true → bytes_eq (codes "Result") n || is_some (tag_in n kept) ≡ b
  at_name n b h e =
      ap (λ (c : Bool). c || is_some (tag_in n kept)) (nat_list_eq_equiv.symm (codes "Result") n)
      ∙ ap (λ (m : List ℕ). bytes_eq m (codes "Result") || is_some (tag_in m kept)) (sym ((bytes_decides name n).0 e)) ∙ h

  -- it is the result's, or one of its name came before
  pub dropped : true ≡ bytes_eq name (codes "Result") || is_some (tag_in name kept) → Finds (read ++ (name, value) ∷ []) kept
  dropped h n = all_at n _ (dropped_at (bytes_eq (codes "Result") n) (bytes_eq name n) value (tag_in n read) (tag_in n kept) (finds n) (at_name n true (sym h)))

  pub added : (new : List (List ℕ × List ℕ)) → false ≡ bytes_eq name (codes "Result") || is_some (tag_in name kept) → Sets name (Some value) kept new → Finds (read ++ (name, value) ∷ []) new
  added new h sets n = all_at n _ (kept_at (bytes_eq (codes "Result") n) (bytes_eq name n) value (tag_in n read) (tag_in n kept) (tag_in n new) (finds n) (at_name n false (sym h)) (sets n))

-- a text that gave place to an empty one
pub given_place : {A : Type 0} (new empty : Vec ℕ A) → new ≡ empty → empty.items ≡ [] → new.items ≡ []
given_place new empty e h = ap (λ v. v.items) e ∙ h

pub is_closed : (read : List (List ℕ × List ℕ)) (name value name' value' : List ℕ) → name' ≡ [] → value' ≡ []
    → standing Nothing (read ++ (name, value) ∷ []) name' value' ≡ fresh (read ++ (name, value) ∷ [])
is_closed read name value name' value' e h = λ i. standing Nothing (read ++ (name, value) ∷ []) (e i) (h i)

pub fen_kept : (fen result before : Bool) (at fen_at : ℕ) → false ≡ result || before → (if fen then at else fen_at) ≡ (if fen && not before then at else fen_at)
fen_kept fen false false at fen_at h = refl_if fen
  where
    refl_if : (b : Bool) → (if b then at else fen_at) ≡ (if b && true then at else fen_at)
    refl_if true = refl
    refl_if false = refl
fen_kept fen true before at fen_at h = absurd cc
fen_kept fen false true at fen_at h = absurd cc

pub on_ok : {E P Q : Type 0} (r : Result (Unit {0}) E) → (P → Q) → OnOk r P → OnOk r Q
on_ok (Ok u) f h = f h
on_ok (Err fault) f h = tt
