-- A walk with the moves made: the line before each visit is the one that leads to it, and each move is legal there.
use Rattle.std.proofs.Common.{◌≡◌, ℕ, ◌+◌, ◌-◌, ◌<◌, ◌≤◌, Bool, true, false, List, [], ◌∷◌, ◌++◌, length, take, Option, Some, None, refl, sym, ap, subst, ◌∙◌, append_assoc, append-nil, arith}
use Rattle.std.proofs.lemmas.List.{length-append, length-take}
use Rattle.std.proofs.Math.Seq.{take-append_seam}
use Rattle.chess_types.specs.board.MoveParts.{MoveParts}
use Rattle.chess_types.specs.board.Position.{PositionParts}
use Rattle.chess_types.specs.board.After.{after}
use Rattle.chess_types.specs.board.Legal.{is_legal}
use Rattle.chess_types.specs.board.Lines.{Line, extended, last}
use Rattle.chess_types.proofs.PlayLaws.{last_extended}
use Rattle.chess_tree.specs.Forest.{Forest, Bare, Node, height}
use Rattle.chess_tree.specs.GameTree.{GameTree, TreeParts}
use Rattle.chess_tree.specs.WellFormed.{AreSound, IsGameTree}
use Rattle.chess_walk.specs.Order.{Visit, of_main, visits}
use Rattle.chess_walk.specs.Replays.{Played, main_played, replays}
use Rattle.chess_walk.specs.steps.Lines.{AreReplayable, IsLegalAgain, after_visit, before_move, replayed, shortened, with_any}

-- a line goes on from where another ends
record Keeps (q l : Line) : Type 0 where
  rest : List MoveParts
  start : l.start ≡ q.start
  moves : l.moves ≡ q.moves ++ rest

keeps_self : (q : Line) → Keeps q q
keeps_self q = record { rest = []; start = refl; moves = sym (append-nil q.moves) }

keeps_on : (q : Line) (m : MoveParts) → Keeps q (extended q m)
keeps_on q m = record { rest = m ∷ []; start = refl; moves = refl }

keeps_all : (q p l : Line) → Keeps q p → Keeps p l → Keeps q l
keeps_all q p l a b =
    record {
      rest = a.rest ++ b.rest;
      start = b.start ∙ a.start;
      moves = b.moves ∙ ap (λ (ms : List MoveParts). ms ++ b.rest) a.moves ∙ append_assoc q.moves a.rest b.rest;
    }

kept_moves : (q l : Line) (n : ℕ) → Keeps q l → n ≡ length q.moves → shortened l n ≡ q
kept_moves q l n k is =
    let moves : take n l.moves ≡ q.moves =
    ap (λ (x : ℕ). take x l.moves) is ∙ ap (take (length q.moves)) k.moves ∙ take-append_seam q.moves k.rest in
    λ i. record { start = k.start i; moves = moves i }

before_none : (q l : Line) (d : ℕ) → Keeps q l → d ≡ length q.moves + 1 → before_move l d None ≡ q
before_none q l d k is = kept_moves q l (d - 1) k (omega arith)

before_again : (q l : Line) (d : ℕ) (m : MoveParts) → Keeps q l → d ≡ length q.moves + 1 → before_move l (d + 1) (Some m) ≡ extended q m
before_again q l d m k is = ap (λ (x : Line). extended x m) (kept_moves q l (d + 1 - 2) k (omega arith))

again_legal : (q l : Line) (d : ℕ) (m : MoveParts) → Keeps q l → d ≡ length q.moves + 1 → is_legal (last q) m ≡ true → IsLegalAgain l (d + 1) (Some m)
again_legal q l d m k is legal =
    (omega arith, subst (λ (x : Line). is_legal (last x) m ≡ true) (sym (kept_moves q l (d + 1 - 2) k (omega arith))) legal)

-- The visits are made one after another from a line, and what comes after them from another line, which goes on from a third.
record Goes (l l' q : Line) (vs : List Visit) (ps : List Played) : Type 0 where
  keeps : Keeps q l'
  same : (ys : List Visit) → replayed l (vs ++ ys) ≡ ps ++ replayed l' ys
  ready : (ys : List Visit) → AreReplayable l' ys → AreReplayable l (vs ++ ys)

step : (l l' p q : Line) (v : Visit) (m : MoveParts) (vs : List Visit) (ps : List Played) → before_move l v.depth v.again ≡ p → IsLegalAgain l v.depth v.again →
    v.node.move ≡ Some m → is_legal (last p) m ≡ true → 1 ≤ v.depth → v.depth ≤ 20000 → Goes (extended p m) l' q vs ps →
    Goes l l' q (v ∷ vs) (record { before = p; visit = v } ∷ ps)
step l l' p q v m vs ps before again there legal deep few g =
    let on : after_visit l v ≡ extended p m = λ i. with_any (before i) (there i) in
    record {
      keeps = g.keeps;
      same = λ ys. (λ i. record { before = before i; visit = v } ∷ replayed (on i) (vs ++ ys)) ∙ ap (λ (xs : List Played). record { before = p; visit = v } ∷ xs) (g.same ys);
      ready = λ ys r. (
        record {
          deep = deep;
          again = again;
          move = m;
          there = there;
          legal = subst (λ (x : Line). is_legal (last x) m ≡ true) (sym before) legal;
          few = few;
        },
        subst (λ (x : Line). AreReplayable x (vs ++ ys)) (sym on) (g.ready ys r),
      );
    }

join : (l l1 l2 p q : Line) (xs ys : List Visit) (ps qs : List Played) → Goes l l1 p xs ps → Goes l1 l2 q ys qs → Goes l l2 q (xs ++ ys) (ps ++ qs)
join l l1 l2 p q xs ys ps qs a b =
    record {
      keeps = b.keeps;
      same = λ zs.
          ap (replayed l) (append_assoc xs ys zs) ∙ a.same (ys ++ zs) ∙ ap (λ (rs : List Played). ps ++ rs) (b.same zs)
          ∙ sym (append_assoc ps qs (replayed l2 zs));
      ready = λ zs r. subst (AreReplayable l) (sym (append_assoc xs ys zs)) (a.ready (ys ++ zs) (b.ready zs r));
    }

-- the line from which the first of nodes side by side is made
abbrev Starts : Bool → (l p : Line) (d : ℕ) → Option MoveParts → Type 0
Starts false l p d again = (before_move l d again ≡ p) × IsLegalAgain l d again
Starts true l p d again = Keeps p l

sound_on : (p : Line) (m : MoveParts) (f : Forest) → AreSound (after (last p) m) f → AreSound (last (extended p m)) f
sound_on p m f sound = subst (λ (x : PositionParts). AreSound x f) (sym (last_extended p m)) sound

one_more : (p : Line) (m : MoveParts) → length (extended p m).moves ≡ length p.moves + 1
one_more p m = length-append p.moves (m ∷ [])

goes : (v : Bool) (f : Forest) (q p l : Line) (d level : ℕ) (again : Option MoveParts) → d ≡ length p.moves + 1 → Keeps q p → Keeps q l → Starts v l p d again →
    AreSound (last p) f → length p.moves + height f ≤ 20000 → (l' : Line) × Goes l l' q (visits v d level again f) (replays v p d level again f)
goes v Bare q p l d level again is kp kl starts sound high = (l, record { keeps = kl; same = λ ys. refl; ready = λ ys r. r })
goes false (Node m nags comment below Bare) q p l d level again is kp kl starts sound high =
    let on = extended p m in
    let long = one_more p m in
    let kept : Keeps q on = keeps_all q p on kp (keeps_on p m) in
    let b = goes false below q on on (d + 1) level None (omega arith) kept kept (before_none on on (d + 1) (keeps_self on) (omega arith), tt)
    (sound_on p m below sound.2) (omega arith) in
    let v : Visit = record { depth = d; level = level; begins = false; again = again; node = record { move = Some m; nags = nags; comment = comment; below = below } } in
    (b.0, step l b.0 p q v m (visits false (d + 1) level None below) (replays false on (d + 1) level None below) starts.0 starts.1 refl sound.0 (omega arith) (omega arith) b.1)
goes false (Node m nags comment below (Node m2 nags2 comment2 below2 next2)) q p l d level again is kp kl starts sound high =
    let on = extended p m in
    let long = one_more p m in
    let next = Node m2 nags2 comment2 below2 next2 in
    let r = goes true (Node m2 nags2 comment2 below2 next2) p p on d (level + 1) None is (keeps_self p) (keeps_on p m) (keeps_on p m) sound.3 (omega arith) in
    let b = goes false below q on r.0 (d + 1) level (Some m) (omega arith) (keeps_all q p on kp (keeps_on p m)) (keeps_all q p r.0 kp r.1.keeps)
    (before_again p r.0 d m r.1.keeps is, again_legal p r.0 d m r.1.keeps is sound.0) (sound_on p m below sound.2) (omega arith) in
    let v : Visit = record { depth = d; level = level; begins = false; again = again; node = record { move = Some m; nags = nags; comment = comment; below = below } } in (
      b.0,
      step l b.0 p q v m (visits true d (level + 1) None next ++ visits false (d + 1) level (Some m) below)
          (replays true p d (level + 1) None next ++ replays false on (d + 1) level (Some m) below) starts.0 starts.1 refl sound.0 (omega arith) (omega arith)
          (join on r.0 b.0 p q (visits true d (level + 1) None next) (visits false (d + 1) level (Some m) below) (replays true p d (level + 1) None next)
          (replays false on (d + 1) level (Some m) below) r.1 b.1),
    )
goes true (Node m nags comment below next) q p l d level again is kp kl starts sound high =
    let on = extended p m in
    let long = one_more p m in
    let b = goes false below p on on (d + 1) level None (omega arith) (keeps_on p m) (keeps_on p m) (before_none on on (d + 1) (keeps_self on) (omega arith), tt)
    (sound_on p m below sound.2) (omega arith) in
    let r = goes true next q p b.0 d level None is kp (keeps_all q p b.0 kp b.1.keeps) b.1.keeps sound.3 (omega arith) in
    let v : Visit = record { depth = d; level = level; begins = true; again = None; node = record { move = Some m; nags = nags; comment = comment; below = below } } in (
      r.0,
      step l r.0 p q v m (visits false (d + 1) level None below ++ visits true d level None next)
          (replays false on (d + 1) level None below ++ replays true p d level None next) (before_none p l d starts is) tt refl sound.0 (omega arith) (omega arith)
          (join on b.0 r.0 p q (visits false (d + 1) level None below) (visits true d level None next) (replays false on (d + 1) level None below)
          (replays true p d level None next) b.1 r.1),
    )

goes_main : (f : Forest) (p l : Line) (d : ℕ) → d ≡ length p.moves + 1 → Keeps p l → AreSound (last p) f → length p.moves + height f ≤ 20000 →
    (replayed l (of_main d f) ≡ main_played p d f) × AreReplayable l (of_main d f)
goes_main Bare p l d is k sound high = (refl, tt)
goes_main (Node m nags comment below next) p l d is k sound high =
    let on = extended p m in
    let long = one_more p m in
    let before = before_none p l d k is in
    let v : Visit = record { depth = d; level = 0; begins = false; again = None; node = record { move = Some m; nags = nags; comment = comment; below = below } } in
    let after_is : after_visit l v ≡ on = λ i. with_any (before i) (Some m) in
    let b = goes_main below on on (d + 1) (omega arith) (keeps_self on) (sound_on p m below sound.2) (omega arith) in (
      (λ i. record { before = before i; visit = v } ∷ replayed (after_is i) (of_main (d + 1) below)) ∙ ap (λ (xs : List Played). record { before = p; visit = v } ∷ xs) b.0,
      (
        record {
          deep = omega arith;
          again = tt;
          move = m;
          there = refl;
          legal = subst (λ (x : Line). is_legal (last x) m ≡ true) (sym before) sound.0;
          few = omega arith;
        },
        subst (λ (x : Line). AreReplayable x (of_main (d + 1) below)) (sym after_is) b.1,
      ),
    )

abbrev root : PositionParts → Line
root start = record { start = start; moves = [] }

-- a whole tree from its first position
pub whole_tree : (start : PositionParts) (f : Forest) → AreSound start f → height f ≤ 20000 →
    (replayed (root start) (visits false 1 0 None f) ≡ replays false (root start) 1 0 None f) × AreReplayable (root start) (visits false 1 0 None f)
unfolding last
whole_tree start f sound high =
    let at = root start in
    let g = goes false f at at at 1 0 None refl (keeps_self at) (keeps_self at) (refl, tt) sound (omega arith) in
    let all = append-nil (visits false 1 0 None f) in (
      ap (replayed at) (sym all) ∙ g.1.same [] ∙ append-nil (replays false at 1 0 None f),
      subst (AreReplayable at) all (g.1.ready [] tt),
    )

pub main_tree : (start : PositionParts) (f : Forest) → AreSound start f → height f ≤ 20000 →
    (replayed (root start) (of_main 1 f) ≡ main_played (root start) 1 f) × AreReplayable (root start) (of_main 1 f)
unfolding last
main_tree start f sound high = goes_main f (root start) (root start) 1 refl (keeps_self (root start)) sound (omega arith)

-- ---- as the code begins

begun : (start : PositionParts) (line : Line) (walk vs : List Visit) (ps : List Played) → line ≡ root start → walk ≡ vs →
    (replayed (root start) vs ≡ ps) × AreReplayable (root start) vs → (replayed line walk ≡ ps) × AreReplayable line walk
begun start line walk vs ps line_is walk_is all = (
  (λ i. replayed (line_is i) (walk_is i)) ∙ all.0,
  subst (λ (l : Line). AreReplayable l walk) (sym line_is) (subst (AreReplayable (root start)) (sym walk_is) all.1),
)

pub whole_begun : (tree : GameTree) (t : TreeParts) (line : Line) (walk : List Visit) → t.tree ≡ tree → IsGameTree t → line ≡ root tree.start →
    walk ≡ visits false 1 0 None tree.below →
    (replayed line walk ≡ replays false (root tree.start) 1 0 None tree.below) × AreReplayable line walk
whole_begun tree t line walk is game line_is walk_is =
    begun tree.start line walk (visits false 1 0 None tree.below) (replays false (root tree.start) 1 0 None tree.below) line_is walk_is
    (whole_tree tree.start tree.below (subst (λ (x : GameTree). AreSound x.start x.below) is game.moves) (subst (λ (x : GameTree). height x.below ≤ 20000) is game.deep))

pub main_begun : (tree : GameTree) (t : TreeParts) (line : Line) (walk : List Visit) → t.tree ≡ tree → IsGameTree t → line ≡ root tree.start →
    walk ≡ of_main 1 tree.below → (replayed line walk ≡ main_played (root tree.start) 1 tree.below) × AreReplayable line walk
main_begun tree t line walk is game line_is walk_is =
    begun tree.start line walk (of_main 1 tree.below) (main_played (root tree.start) 1 tree.below) line_is walk_is
    (main_tree tree.start tree.below (subst (λ (x : GameTree). AreSound x.start x.below) is game.moves) (subst (λ (x : GameTree). height x.below ≤ 20000) is game.deep))

-- ---- a step of the code

pub before_short : (line : Line) (depth : ℕ) (again : Option MoveParts) → 1 ≤ depth → depth ≤ 20000 → IsLegalAgain line depth again →
    (length (before_move line depth again).moves < 20000) × (length (before_move line depth again).moves ≤ length line.moves + 1)
before_short line depth None deep few legal =
    let all = length-take (depth - 1) line.moves in
    (omega (arith, all), omega (arith, all))
before_short line depth (Some m) deep few legal =
    let all = length-take (depth - 2) line.moves in
    let more = length-append (take (depth - 2) line.moves) (m ∷ []) in
    let two = legal.0 in
    (omega (arith, all, more, two), omega (arith, all, more))

pub stepped : (line before now : Line) (v : Visit) (m : MoveParts) (left : List Visit) → before ≡ before_move line v.depth v.again → v.node.move ≡ Some m → now ≡ extended before m →
    replayed line (v ∷ left) ≡ record { before = before_move line v.depth v.again; visit = v } ∷ replayed now left
stepped line before now v m left is there on =
    let after_is : after_visit line v ≡ now = (λ i. with_any (sym is i) (there i)) ∙ sym on in
    λ i. record { before = before_move line v.depth v.again; visit = v } ∷ replayed (after_is i) left

pub replayed_long : (line : Line) (vs : List Visit) → length (replayed line vs) ≡ length vs
replayed_long line [] = refl
replayed_long line (v ∷ vs) = let rest = replayed_long (after_visit line v) vs in omega arith
