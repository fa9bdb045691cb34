-- Looking through the children from the first on.
use Rattle.std.proofs.Common.{◌≡◌, ℕ, zero, suc, ◌+◌, ◌≤◌, ◌==◌, ◌&&◌, Bool, true, false, eqb, Option, None, Some, refl, sym, ap, ◌∙◌, arith, add-one}
use Rattle.std.specs.Prelude.{option_map, if◌then◌else◌}
use Rattle.std.specs.Option.{option_eq}
use Rattle.std.proofs.lemmas.Option.{none-some}
use denote.Enum.Bare.{sameb}
use Rattle.chess_types.specs.declared.board.man.Kind.{Kind}
use Rattle.chess_types.specs.declared.board.man.Kind.TheVariants.{Pawn, Knight, Bishop, Rook, Queen, King}
use Rattle.chess_types.specs.contracts.board.man.Kind.{the_type}
use Rattle.chess_types.specs.board.Men.{kind_number}
use Rattle.chess_types.specs.board.MoveParts.{MoveParts}
use Rattle.chess_tree.specs.Forest.{Forest, Bare, Node, NodeParts, child, count}
use Rattle.chess_tree.specs.GameTree.{find, is_move}
use Rattle.chess_tree.specs.steps.Rooted.{Held, shown}

-- ---- the same move

same_kind : (x y : Kind) → sameb the_type x y ≡ (kind_number x == kind_number y)
same_kind Pawn y = elim y as (λ z. sameb the_type Pawn z ≡ (kind_number Pawn == kind_number z)) [ Pawn ↦ refl | Knight ↦ refl | Bishop ↦ refl | Rook ↦ refl | Queen ↦ refl | King ↦ refl ]
same_kind Knight y = elim y as (λ z. sameb the_type Knight z ≡ (kind_number Knight == kind_number z)) [ Pawn ↦ refl | Knight ↦ refl | Bishop ↦ refl | Rook ↦ refl | Queen ↦ refl | King ↦ refl ]
same_kind Bishop y = elim y as (λ z. sameb the_type Bishop z ≡ (kind_number Bishop == kind_number z)) [ Pawn ↦ refl | Knight ↦ refl | Bishop ↦ refl | Rook ↦ refl | Queen ↦ refl | King ↦ refl ]
same_kind Rook y = elim y as (λ z. sameb the_type Rook z ≡ (kind_number Rook == kind_number z)) [ Pawn ↦ refl | Knight ↦ refl | Bishop ↦ refl | Rook ↦ refl | Queen ↦ refl | King ↦ refl ]
same_kind Queen y = elim y as (λ z. sameb the_type Queen z ≡ (kind_number Queen == kind_number z)) [ Pawn ↦ refl | Knight ↦ refl | Bishop ↦ refl | Rook ↦ refl | Queen ↦ refl | King ↦ refl ]
same_kind King y = elim y as (λ z. sameb the_type King z ≡ (kind_number King == kind_number z)) [ Pawn ↦ refl | Knight ↦ refl | Bishop ↦ refl | Rook ↦ refl | Queen ↦ refl | King ↦ refl ]

pub same_move : (m n : MoveParts) → (eqb m.from n.from && (eqb m.to n.to && option_eq (λ x y. sameb the_type x y) m.promo n.promo)) ≡ is_move m n
same_move m n = λ i. eqb m.from n.from && (eqb m.to n.to && option_eq (λ x y. same_kind x y i) m.promo n.promo)

-- the parts of a node as a forest again
abbrev pub in_forest : Option NodeParts → Forest → Forest
in_forest None next = next
in_forest (Some n) next = elim n.move [ None ↦ next | (Some m) ↦ Node m n.nags n.comment n.below next ]

-- ---- the nodes from a place on

abbrev pub from : ℕ → Forest → Forest
from k Bare = Bare
from zero (Node m nags comment below next) = Node m nags comment below next
from (suc k) (Node m nags comment below next) = from k next

from_first : (f : Forest) → from 0 f ≡ f
from_first Bare = refl
from_first (Node m nags comment below next) = refl

from_child : (k : ℕ) (f : Forest) (n : Held) → child k f ≡ Some (shown n) → from k f ≡ Node n.move n.nags n.comment n.below (from (suc k) f)
from_child k Bare n e = absurd (none-some (shown n) e)
from_child zero (Node m nags comment below next) n e =
    ap (λ (o : Option NodeParts). in_forest o next) e ∙ ap (λ (x : Forest). Node n.move n.nags n.comment n.below x) (sym (from_first next))
from_child (suc k) (Node m nags comment below next) n e = from_child k next n e

from_end : (k : ℕ) (f : Forest) → count f ≤ k → from k f ≡ Bare
from_end k Bare h = refl
from_end zero (Node m nags comment below next) h = absurd (omega arith)
from_end (suc k) (Node m nags comment below next) h = from_end k next (omega arith)

map_zero : (o : Option ℕ) → o ≡ option_map (λ k. 0 + k) o
map_zero None = refl
map_zero (Some k) = ap (λ (x : ℕ). Some x) (omega arith)

map_on : (place : ℕ) (o : Option ℕ) → option_map (λ k. place + k) (option_map (λ k. suc k) o) ≡ option_map (λ k. place + 1 + k) o
map_on place None = refl
map_on place (Some k) = ap (λ (x : ℕ). Some x) (omega arith)

-- ---- the loop

pub find_start : (m : MoveParts) (f : Forest) → find m f ≡ option_map (λ k. 0 + k) (find m (from 0 f))
find_start m f = map_zero (find m f) ∙ ap (λ (x : Forest). option_map (λ k. 0 + k) (find m x)) (sym (from_first f))

find_child : (m : MoveParts) (f : Forest) (place : ℕ) (n : Held) (r : Bool) → child place f ≡ Some (shown n) → is_move n.move m ≡ r
    → find m (from place f) ≡ (if r then Some 0 else option_map (λ k. suc k) (find m (from (suc place) f)))
find_child m f place n r e is =
    ap (find m) (from_child place f n e) ∙ ap (λ (b : Bool). if b then Some 0 else option_map (λ k. suc k) (find m (from (suc place) f))) is

pub find_here : (m : MoveParts) (f : Forest) (place : ℕ) (n : Held) → find m f ≡ option_map (λ k. place + k) (find m (from place f))
    → child place f ≡ Some (shown n) → is_move n.move m ≡ true
    → Some place ≡ find m f
find_here m f place n loop e is =
    ap (λ (x : ℕ). Some x) (omega arith) ∙ ap (option_map (λ k. place + k)) (sym (find_child m f place n true e is)) ∙ sym loop

pub find_on : (m : MoveParts) (f : Forest) (place : ℕ) (n : Held) → find m f ≡ option_map (λ k. place + k) (find m (from place f))
    → child place f ≡ Some (shown n) → is_move n.move m ≡ false
    → find m f ≡ option_map (λ k. place + 1 + k) (find m (from (place + 1) f))
find_on m f place n loop e is =
    loop
    ∙ ap (option_map (λ k. place + k)) (find_child m f place n false e is)
    ∙ map_on place (find m (from (suc place) f))
    ∙ ap (λ (x : ℕ). option_map (λ k. place + 1 + k) (find m (from x f))) (sym (add-one place))

pub find_none : (m : MoveParts) (f : Forest) (place : ℕ) → find m f ≡ option_map (λ k. place + k) (find m (from place f)) → count f ≤ place
    → None ≡ find m f
find_none m f place loop h = ap (λ (x : Forest). option_map (λ k. place + k) (find m x)) (sym (from_end place f h)) ∙ sym loop
