-- Amounts of 1 and 0, and what moves by an amount.
use Rattle.std.proofs.Common.{◌≡◌, ℕ, ◌+◌, ◌<◌, ◌≤◌, Bool, true, false, refl, subst, arith}
use Rattle.std.proofs.Math.Bool.{and-false}
use Rattle.chess_types.specs.declared.board.man.Colour.{Colour}
use Rattle.chess_types.proofs.SameLemmas.{same_self}
use Rattle.chess_attack.specs.declared.change.Change.{Change}
use Rattle.chess_attack.specs.declared.change.Change.TheVariants.{Raise, Lower}
use Rattle.chess_attack.specs.KeptCounts.{KeptCounts, count_in}
use Rattle.chess_attack.specs.steps.Marks.{Moved, HasRoom, Moves, HasRoomFor, one_if}

pub one_if-false : (colour c : Colour) (b : Bool) → b ≡ false → one_if colour c b ≡ 0
one_if-false colour c b h = rw (h, and-false) refl

pub one_if-true : (colour : Colour) (b : Bool) → b ≡ true → one_if colour colour b ≡ 1
one_if-true colour b h = rw (h, same_self colour) refl

-- by nothing, nothing moves
pub moved_none : (change : Change) (n x : ℕ) → x ≡ 0 → Moved change n x n
moved_none Raise n x e = omega arith
moved_none Lower n x e = omega arith

-- two moves are one by both amounts
pub moved_more : (change : Change) (a b c x y z : ℕ) → Moved change a x b → Moved change b y c → x + y ≡ z → Moved change a z c
moved_more Raise a b c x y z p q e = omega arith
moved_more Lower a b c x y z p q e = omega arith

-- what did not move has room still
pub room_kept : (change : Change) (a b x y : ℕ) → Moved change a x b → x ≡ 0 → HasRoom change a y → HasRoom change b y
room_kept Raise a b x y p e h = omega arith
room_kept Lower a b x y p e h = omega arith

-- the same amounts
pub moves_by :
    (change : Change) (old new : KeptCounts) (f g : Colour → ℕ → ℕ) → Moves change old new f →
    ((c : Colour) (s : ℕ) → s < 64 → f c s ≡ g c s) → Moves change old new g
moves_by change old new f g h same c s hs = subst (λ x. Moved change (count_in old c s) x (count_in new c s)) (same c s hs) (h c s hs)

pub room_by :
    (change : Change) (old : KeptCounts) (f g : Colour → ℕ → ℕ) → HasRoomFor change old f →
    ((c : Colour) (s : ℕ) → s < 64 → f c s ≡ g c s) → HasRoomFor change old g
room_by change old f g h same c s hs = subst (λ x. HasRoom change (count_in old c s) x) (same c s hs) (h c s hs)

-- two moves of the counts are one
pub moves_both :
    (change : Change) (old mid new : KeptCounts) (f g : Colour → ℕ → ℕ) → Moves change old mid f → Moves change mid new g →
    Moves change old new (λ c s. f c s + g c s)
moves_both change old mid new f g p q c s hs =
    moved_more change (count_in old c s) (count_in mid c s) (count_in new c s) (f c s) (g c s) (f c s + g c s) (p c s hs) (q c s hs) refl

rest_room : (change : Change) (a b x y z : ℕ) → HasRoom change a z → Moved change a x b → x + y ≤ z → HasRoom change b y
rest_room Raise a b x y z h p le = omega arith
rest_room Lower a b x y z h p le = omega arith

-- counts that had room for all have room for the rest
pub room_rest :
    (change : Change) (old mid : KeptCounts) (f g h : Colour → ℕ → ℕ) → HasRoomFor change old h → Moves change old mid f →
    ((c : Colour) (s : ℕ) → f c s + g c s ≤ h c s) → HasRoomFor change mid g
room_rest change old mid f g h room p le c s hs =
    rest_room change (count_in old c s) (count_in mid c s) (f c s) (g c s) (h c s) (room c s hs) (p c s hs) (le c s)
