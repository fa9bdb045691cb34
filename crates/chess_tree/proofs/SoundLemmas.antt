-- Edits keep each move legal and each comment in form.
use Rattle.std.proofs.Common.{◌<◌, arith, ◌≡◌, ℕ, zero, suc, true, List, [], ◌∷◌, ◌++◌, Option, None, Some, refl, sym}
use Rattle.std.specs.Option.{option_to_list}
use Rattle.std.proofs.lemmas.Option.{none-some, same_Some}
use Rattle.chess_types.specs.board.MoveParts.{MoveParts}
use Rattle.chess_types.specs.board.Position.{PositionParts}
use Rattle.chess_types.specs.board.After.{after}
use Rattle.chess_types.specs.board.Legal.{is_legal}
use Rattle.chess_types.specs.board.Lines.{AreLegal, play}
use Rattle.chess_tree.specs.Forest.{Forest, Bare, Node, append, below_at, below_child, count}
use Rattle.chess_tree.specs.Edits.{annotated, unannotated, change_below, change_node, commented, in_front, inside, promoted, with_move, without_node}
use Rattle.chess_tree.specs.Comments.{IsComment, normalised}
use Rattle.chess_tree.specs.GameTree.{move_of, moves_along}
use Rattle.chess_tree.specs.WellFormed.{AreSound, Leads}

pub no_comment : IsComment []
unfolding normalised
no_comment = record { normal = refl; no_brace = refl }

sound_append : (p : PositionParts) (f g : Forest) → AreSound p f → AreSound p g → AreSound p (append f g)
sound_append p Bare g f_sound g_sound = g_sound
sound_append p (Node m nags comment below next) g f_sound g_sound = (f_sound.0, f_sound.1, f_sound.2, sound_append p next g f_sound.3 g_sound)

sound_inside : (p : PositionParts) (k : ℕ) (change : Forest → Forest) (f : Forest)
    → ((m : MoveParts) → move_of k f ≡ Some m → AreSound (after p m) (below_child k f) → AreSound (after p m) (change (below_child k f))) → AreSound p f → AreSound p (inside k change f)
sound_inside p k change Bare keeps sound = tt
sound_inside p zero change (Node m nags comment below next) keeps sound = (sound.0, sound.1, keeps m refl sound.2, sound.3)
sound_inside p (suc k) change (Node m nags comment below next) keeps sound = (sound.0, sound.1, sound.2, sound_inside p k change next keeps sound.3)

pub sound_with_move : (p : PositionParts) (m : MoveParts) (path : List ℕ) (f : Forest) → is_legal (play p (moves_along path f)) m ≡ true → AreSound p f
    → AreSound p (change_below (with_move m) path f)
sound_with_move p m [] f legal sound = sound_append p f (Node m [] [] Bare Bare) sound (legal, no_comment, tt, tt)
sound_with_move p m (k ∷ path) f legal sound =
    sound_inside p k (change_below (with_move m) path) f (λ m' e below. sound_with_move (after p m') m path (below_child k f) (rw e at legal) below) sound

pub sound_node : (g : ℕ → Forest → Forest) (p : PositionParts) (path : List ℕ) (f : Forest)
    → ((k : ℕ) (q : PositionParts) (x : Forest) → AreSound q x → AreSound q (g k x)) → AreSound p f → AreSound p (change_node g path f)
sound_node g p [] f keeps sound = sound
sound_node g p (k ∷ []) f keeps sound = keeps k p f sound
sound_node g p (k ∷ j ∷ path) f keeps sound =
    sound_inside p k (change_node g (j ∷ path)) f (λ m e below. sound_node g (after p m) (j ∷ path) (below_child k f) keeps below) sound

pub sound_without : (k : ℕ) (p : PositionParts) (f : Forest) → AreSound p f → AreSound p (without_node k f)
sound_without k p Bare sound = tt
sound_without zero p (Node m nags comment below next) sound = sound.3
sound_without (suc k) p (Node m nags comment below next) sound = (sound.0, sound.1, sound.2, sound_without k p next sound.3)

sound_in_front : (k : ℕ) (p : PositionParts) (f others : Forest) → AreSound p f → AreSound p others → AreSound p (in_front k f others)
sound_in_front k p Bare others sound rest = rest
sound_in_front zero p (Node m nags comment below next) others sound rest = (sound.0, sound.1, sound.2, rest)
sound_in_front (suc k) p (Node m nags comment below next) others sound rest = sound_in_front k p next others sound.3 rest

pub sound_promoted : (k : ℕ) (p : PositionParts) (f : Forest) → AreSound p f → AreSound p (promoted k f)
sound_promoted k p f sound = sound_in_front k p f (without_node k f) sound (sound_without k p f sound)

pub sound_commented : (text : List ℕ) → IsComment text → (k : ℕ) (p : PositionParts) (f : Forest) → AreSound p f → AreSound p (commented text k f)
sound_commented text is k p Bare sound = tt
sound_commented text is zero p (Node m nags comment below next) sound = (sound.0, is, sound.2, sound.3)
sound_commented text is (suc k) p (Node m nags comment below next) sound = (sound.0, sound.1, sound.2, sound_commented text is k p next sound.3)

pub sound_annotated : (nag k : ℕ) (p : PositionParts) (f : Forest) → AreSound p f → AreSound p (annotated nag k f)
sound_annotated nag k p Bare sound = tt
sound_annotated nag zero p (Node m nags comment below next) sound = sound
sound_annotated nag (suc k) p (Node m nags comment below next) sound = (sound.0, sound.1, sound.2, sound_annotated nag k p next sound.3)

pub sound_unannotated : (k : ℕ) (p : PositionParts) (f : Forest) → AreSound p f → AreSound p (unannotated k f)
sound_unannotated k p Bare sound = tt
sound_unannotated zero p (Node m nags comment below next) sound = sound
sound_unannotated (suc k) p (Node m nags comment below next) sound = (sound.0, sound.1, sound.2, sound_unannotated k p next sound.3)

-- ---- for callers: the moves on the way to a node are legal, each where it is made

pub legal_first : (p : PositionParts) (k : ℕ) (f : Forest) (m : MoveParts) → move_of k f ≡ Some m → AreSound p f
    → (is_legal p m ≡ true) × AreSound (after p m) (below_child k f)
legal_first p k Bare m e sound = absurd (none-some m e)
legal_first p zero (Node n nags comment below next) m e sound =
    let same : n ≡ m = same_Some n m e in
    (rw (← same) sound.0, rw (← same) sound.2)
legal_first p (suc k) (Node n nags comment below next) m e sound = legal_first p k next m e sound.3

nothing_below : (k : ℕ) (f : Forest) → move_of k f ≡ None → below_child k f ≡ Bare
nothing_below k Bare e = refl
nothing_below zero (Node n nags comment below next) e = absurd (none-some n (sym e))
nothing_below (suc k) (Node n nags comment below next) e = nothing_below k next e

a_move : (k : ℕ) (f : Forest) → k < count f → move_of k f ≡ None → ⊥
a_move k Bare h e = omega arith
a_move zero (Node n nags comment below next) h e = none-some n (sym e)
a_move (suc k) (Node n nags comment below next) h e = a_move k next (omega arith) e

no_moves : (path : List ℕ) → moves_along path Bare ≡ []
no_moves [] = refl
no_moves (k ∷ path) = no_moves path

legal_more : (o : Option MoveParts) (p : PositionParts) (k : ℕ) (path : List ℕ) (f : Forest) → move_of k f ≡ o → AreSound p f
    → ((q : PositionParts) → AreSound q (below_child k f) → AreLegal q (moves_along path (below_child k f))) → AreLegal p (option_to_list o ++ moves_along path (below_child k f))
legal_more None p k path f e sound below = rw (nothing_below k f e, no_moves path) tt
legal_more (Some m) p k path f e sound below =
    let first = legal_first p k f m e sound in
    (first.0, below (after p m) first.1)

pub legal_along : (p : PositionParts) (path : List ℕ) (f : Forest) → AreSound p f → AreLegal p (moves_along path f)
legal_along p [] f sound = tt
legal_along p (k ∷ path) f sound = legal_more (move_of k f) p k path f refl sound (λ q below. legal_along q path (below_child k f) below)

sound_more : (o : Option MoveParts) (p : PositionParts) (k : ℕ) (path : List ℕ) (f : Forest) → move_of k f ≡ o → k < count f → AreSound p f
    → ((q : PositionParts) → AreSound q (below_child k f) → AreSound (play q (moves_along path (below_child k f))) (below_at path (below_child k f)))
    → AreSound (play p (option_to_list o ++ moves_along path (below_child k f))) (below_at path (below_child k f))
sound_more None p k path f e h sound below = absurd (a_move k f h e)
sound_more (Some m) p k path f e h sound below = below (after p m) (legal_first p k f m e sound).1

-- what is below a node is sound in the position there
pub sound_at : (p : PositionParts) (path : List ℕ) (f : Forest) → Leads path f → AreSound p f → AreSound (play p (moves_along path f)) (below_at path f)
sound_at p [] f leads sound = sound
sound_at p (k ∷ path) f leads sound = sound_more (move_of k f) p k path f refl leads.0 sound (λ q below. sound_at q path (below_child k f) leads.1 below)
