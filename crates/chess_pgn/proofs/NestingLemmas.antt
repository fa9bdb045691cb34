-- How many variations are open at once in the text of a forest.
use Rattle.std.proofs.Common.{◌≡◌, ℕ, suc, ◌≤◌, ◌+◌, ◌-◌, Bool, true, false, ◌||◌, not, List, [], ◌∷◌, ◌++◌, refl, ap, ◌∙◌, append_assoc, arith}
use Rattle.std.specs.Prelude.{is_none}
use Rattle.std.proofs.lemmas.Bool.{lt-ltb}
use Rattle.chess_types.specs.declared.board.man.Colour.{Colour}
use Rattle.chess_types.specs.declared.board.man.Colour.TheVariants.{White, Black}
use Rattle.chess_types.specs.board.MoveParts.{MoveParts}
use Rattle.chess_types.specs.board.Position.{PositionParts}
use Rattle.chess_types.specs.board.After.{after}
use Rattle.chess_tree.specs.Forest.{Forest, Bare, Node, child}
use Rattle.chess_san.specs.Writing.{san}
use Rattle.chess_pgn.specs.Grammar.{Element, Close, Text, few_are_open}
use Rattle.chess_pgn.specs.Laws.{nesting}
use Rattle.chess_pgn.specs.Written.{is_noted}
use Rattle.chess_pgn.proofs.ForestLemmas.{annotations_of, forest_elements, node_elements, numbers_of, remark_of}

numbers_few : (n : ℕ) (due : Bool) (side : Colour) (us : List Element) → few_are_open n (numbers_of due side ++ us) ≡ few_are_open n us
numbers_few n due White us = refl
numbers_few n true Black us = refl
numbers_few n false Black us = refl

annotations_few : (n : ℕ) (nags : List ℕ) (us : List Element) → few_are_open n (annotations_of nags ++ us) ≡ few_are_open n us
annotations_few n [] us = refl
annotations_few n (x ∷ nags) us = annotations_few n nags us

remark_few : (n : ℕ) (c : List ℕ) (us : List Element) → few_are_open n (remark_of c ++ us) ≡ few_are_open n us
remark_few n [] us = refl
remark_few n (b ∷ c) us = refl

node_few : (n : ℕ) (due : Bool) (p : PositionParts) (m : MoveParts) (nags comment : List ℕ) (us : List Element) → few_are_open n (node_elements due p m nags comment ++ us) ≡ few_are_open n us
node_few n due p m nags comment us =
    ap (few_are_open n) (append_assoc (numbers_of due p.side) (Text (san p m) ∷ (annotations_of nags ++ remark_of comment)) us)
    ∙ numbers_few n due p.side (Text (san p m) ∷ ((annotations_of nags ++ remark_of comment) ++ us))
    ∙ ap (few_are_open n) (append_assoc (annotations_of nags) (remark_of comment) us) ∙ annotations_few n nags (remark_of comment ++ us) ∙ remark_few n comment us

pub forest_few : (n : ℕ) (as_variations due : Bool) (p : PositionParts) (f : Forest) (us : List Element) → n + nesting as_variations f ≤ 128 → few_are_open n us ≡ true
    → few_are_open n (forest_elements as_variations due p f ++ us) ≡ true
forest_few n as_variations due p Bare us few e = e
forest_few n false due p (Node m nags comment b next) us few e =
    let d : Bool = is_noted nags comment || not (is_none (child 0 next)) in
    let under = forest_few n false d (after p m) b us (omega arith) e in
    let others = forest_few n true true p next (forest_elements false d (after p m) b ++ us) (omega arith) under in
    ap (few_are_open n) (append_assoc (node_elements due p m nags comment) (forest_elements true true p next ++ forest_elements false d (after p m) b) us)
    ∙ node_few n due p m nags comment ((forest_elements true true p next ++ forest_elements false d (after p m) b) ++ us)
    ∙ ap (few_are_open n) (append_assoc (forest_elements true true p next) (forest_elements false d (after p m) b) us) ∙ others
forest_few n true due p (Node m nags comment b next) us few e =
    let d : Bool = is_noted nags comment in
    let others = forest_few n true true p next us (omega arith) e in
    let back : suc n - 1 ≡ n = omega arith in
    let closes : few_are_open (suc n) (Close ∷ (forest_elements true true p next ++ us)) ≡ true = ap (λ (k : ℕ). few_are_open k (forest_elements true true p next ++ us)) back ∙ others in
    let under = forest_few (suc n) false d (after p m) b (Close ∷ (forest_elements true true p next ++ us)) (omega arith) closes in
    rw (lt-ltb n 128 (omega arith))
    (ap (few_are_open (suc n)) (append_assoc (node_elements true p m nags comment) (forest_elements false d (after p m) b ++ Close ∷ forest_elements true true p next) us)
    ∙ node_few (suc n) true p m nags comment ((forest_elements false d (after p m) b ++ Close ∷ forest_elements true true p next) ++ us)
    ∙ ap (few_are_open (suc n)) (append_assoc (forest_elements false d (after p m) b) (Close ∷ forest_elements true true p next) us) ∙ under)
