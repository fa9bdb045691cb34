-- What is kept of a position distinguishes it from others.
use Rattle.std.proofs.Common.{◌≡◌, ℕ, ◌<◌, Bool, true, false, ◌&&◌, ◌||◌, Option, Some, None, is_some, refl, sym, ap, ◌∙◌}
use Rattle.std.specs.List.{list_all}
use Rattle.std.specs.Ordering.{nat_cmp}
use Rattle.std.specs.FinSet.{FinSet, contains}
use Rattle.std.proofs.lemmas.Bool.{and_parts, and_right, false_from_ne_true, true≢false}
use Rattle.chess_types.specs.declared.board.man.Colour.{Colour}
use Rattle.chess_types.specs.declared.board.man.Colour.TheVariants.{White, Black}
use Rattle.chess_types.specs.declared.board.man.Kind.{Kind}
use Rattle.chess_types.specs.declared.board.man.Kind.TheVariants.{Pawn, Knight, Bishop, Rook, Queen, King}
use Rattle.chess_types.specs.declared.board.man.Man.{Man}
use Rattle.chess_types.specs.board.Squares.{squares}
use Rattle.chess_types.specs.board.Board.{Men}
use Rattle.chess_types.specs.board.Men.{same_colour, is_of, is_pawn, is_king}
use Rattle.chess_types.specs.board.Position.{PositionParts, man_on}
use Rattle.chess_types.specs.board.Sets.{same_each}
use Rattle.chess_types.specs.board.Repetition.{same_bool, same_man, same_rights, same_target, counting_target, is_same}
use Rattle.chess_types.specs.steps.KeptSets.{is_straight, is_diagonal, holds_diagonal}
use Rattle.chess_types.proofs.Runs.{list_all_from, same_test}
use Rattle.chess_types.proofs.SquareLemmas.{every_square}
use Rattle.chess_types.proofs.SameLemmas.{same_is, kind_is, same_self, kind_self}
use Rattle.chess_draws.specs.declared.men.MenSets.{MenSets}
use Rattle.chess_draws.specs.declared.repetition_key.RepetitionKey.{RepetitionKey}
use Rattle.chess_draws.specs.steps.KeptPlies.{PlyParts}
use Rattle.chess_draws.specs.steps.RepetitionKeys.{holds_straight_or_king, holds_short, IsMenOf, IsKeyOf, same_men, same_moves}
use Rattle.chess_draws.specs.steps.Plies.{IsPly}

-- what passes as the same man is
pub man_is : (a b : Option Man) → same_man a b ≡ true → a ≡ b
man_is None None h = refl
man_is None (Some n) h = absurd (true≢false (sym h))
man_is (Some m) None h = absurd (true≢false (sym h))
man_is (Some m) (Some n) h =
    let both = and_parts _ _ h in
    let colours = same_is m.colour n.colour both.0 in
    let kinds = kind_is m.kind n.kind both.1 in
    λ i. Some (record { colour = colours i; kind = kinds i })

pub man_self : (there : Option Man) → same_man there there ≡ true
man_self None = refl
man_self (Some man) = rw (same_self man.colour, kind_self man.kind) refl

-- the kind and the man that five tests find
abbrev kind_by : Bool → Bool → Bool → Kind
kind_by true true short = Queen
kind_by true false true = King
kind_by true false false = Rook
kind_by false true short = Bishop
kind_by false false true = Pawn
kind_by false false false = Knight

kind_told : (k : Kind) → kind_by (is_straight k || is_king k) (is_diagonal k) (is_pawn k || is_king k) ≡ k
kind_told Pawn = refl
kind_told _ = refl

abbrev man_by : Bool → Bool → Bool → Bool → Bool → Option Man
man_by true black straight diagonal short = Some (record { colour = White; kind = kind_by straight diagonal short })
man_by false true straight diagonal short = Some (record { colour = Black; kind = kind_by straight diagonal short })
man_by false false straight diagonal short = None

man_told_by : (c : Colour) (k : Kind) →
    man_by (same_colour c White) (same_colour c Black) (is_straight k || is_king k) (is_diagonal k) (is_pawn k || is_king k)
    ≡ Some (record { colour = c; kind = k })
man_told_by White k = ap (λ (x : Kind). Some (record { colour = White; kind = x })) (kind_told k)
man_told_by Black k = ap (λ (x : Kind). Some (record { colour = Black; kind = x })) (kind_told k)

man_told : (a : Option Man) → man_by (is_of White a) (is_of Black a) (holds_straight_or_king a) (holds_diagonal a) (holds_short a) ≡ a
man_told None = refl
man_told (Some man) = man_told_by man.colour man.kind

men_agree : (a b : Option Man) → is_of White a ≡ is_of White b → is_of Black a ≡ is_of Black b → holds_straight_or_king a ≡ holds_straight_or_king b →
    holds_diagonal a ≡ holds_diagonal b → holds_short a ≡ holds_short b → a ≡ b
men_agree a b white black straight diagonal short =
    sym (man_told a) ∙ (λ i. man_by (white i) (black i) (straight i) (diagonal i) (short i)) ∙ man_told b

pub bool_is : (x y : Bool) → same_bool x y ≡ true → x ≡ y
bool_is true true h = refl
bool_is true false h = sym h
bool_is false true h = h
bool_is false false h = refl

pub bool_self : (b : Bool) → same_bool b b ≡ true
bool_self true = refl
bool_self false = refl

-- sets that hold the same squares
same_each_at : (a b : FinSet nat_cmp) → same_each a b ≡ true → (s : ℕ) → s < 64 → contains a s ≡ contains b s
unfolding same_each
same_each_at a b h s low = bool_is (contains a s) (contains b s) (every_square (λ t. same_bool (contains a t) (contains b t)) h s low)

same_each_from : (a b : FinSet nat_cmp) → ((s : ℕ) → s < 64 → contains a s ≡ contains b s) → same_each a b ≡ true
unfolding same_each squares
same_each_from a b h =
    list_all_from (λ t. same_bool (contains a t) (contains b t)) 0 64
    (λ t low high. ap (same_bool (contains a t)) (sym (h t high)) ∙ bool_self (contains a t))

-- the same sets, by two boards
by_look : (a b : FinSet nat_cmp) (test : Option Man → Bool) (x y : Men) → ((s : ℕ) → contains a s ≡ test (x s)) →
    ((s : ℕ) → contains b s ≡ test (y s)) → ((s : ℕ) → s < 64 → x s ≡ y s) → same_each a b ≡ true
by_look a b test x y ga gb same = same_each_from a b (λ s low. ga s ∙ ap test (same s low) ∙ sym (gb s))

by_sets : (a b : FinSet nat_cmp) (test : Option Man → Bool) (x y : Men) → ((s : ℕ) → contains a s ≡ test (x s)) →
    ((s : ℕ) → contains b s ≡ test (y s)) → same_each a b ≡ true → (s : ℕ) → s < 64 → test (x s) ≡ test (y s)
by_sets a b test x y ga gb same s low = sym (ga s) ∙ same_each_at a b same s low ∙ gb s

-- all five show whether the men are the same
men_there : (m n : MenSets) (x y : Men) → IsMenOf m x → IsMenOf n y → same_men m n ≡ true → (s : ℕ) → s < 64 → x s ≡ y s
unfolding same_men
men_there m n x y is_m is_n h s low =
    let a = and_parts (same_each m.white n.white && same_each m.black n.black && same_each m.straight n.straight && same_each m.diagonal n.diagonal)
    (same_each m.short n.short) h in
    let b = and_parts (same_each m.white n.white && same_each m.black n.black && same_each m.straight n.straight) (same_each m.diagonal n.diagonal) a.0 in
    let c = and_parts (same_each m.white n.white && same_each m.black n.black) (same_each m.straight n.straight) b.0 in
    let d = and_parts (same_each m.white n.white) (same_each m.black n.black) c.0 in
    men_agree (x s) (y s)
    (by_sets m.white n.white (is_of White) x y is_m.white is_n.white d.0 s low)
    (by_sets m.black n.black (is_of Black) x y is_m.black is_n.black d.1 s low)
    (by_sets m.straight n.straight holds_straight_or_king x y is_m.straight is_n.straight c.1 s low)
    (by_sets m.diagonal n.diagonal holds_diagonal x y is_m.diagonal is_n.diagonal b.1 s low)
    (by_sets m.short n.short holds_short x y is_m.short is_n.short a.1 s low)

men_from : (m n : MenSets) (x y : Men) → IsMenOf m x → IsMenOf n y → ((s : ℕ) → s < 64 → x s ≡ y s) → same_men m n ≡ true
unfolding same_men
men_from m n x y is_m is_n same =
    rw (
      by_look m.white n.white (is_of White) x y is_m.white is_n.white same,
      by_look m.black n.black (is_of Black) x y is_m.black is_n.black same,
      by_look m.straight n.straight holds_straight_or_king x y is_m.straight is_n.straight same,
      by_look m.diagonal n.diagonal holds_diagonal x y is_m.diagonal is_n.diagonal same,
      by_look m.short n.short holds_short x y is_m.short is_n.short same,
    ) refl

men_same : (m n : MenSets) (x y : Men) → IsMenOf m x → IsMenOf n y → same_men m n ≡ list_all (λ s. same_man (x s) (y s)) squares
unfolding squares
men_same m n x y is_m is_n =
    same_test (same_men m n) (list_all (λ s. same_man (x s) (y s)) squares)
    (λ h. list_all_from (λ s. same_man (x s) (y s)) 0 64 (λ s low high.
    ap (same_man (x s)) (sym (men_there m n x y is_m is_n h s high)) ∙ man_self (x s)))
    (λ h. men_from m n x y is_m is_n (λ s low. man_is (x s) (y s) (every_square (λ t. same_man (x t) (y t)) h s low)))

-- what agrees in positions that are the same
pub record SameParts (q p : PositionParts) : Type 0 where
  pub side : same_colour q.side p.side ≡ true
  pub men : (s : ℕ) → s < 64 → man_on q s ≡ man_on p s
  pub rights : same_rights q.rights p.rights ≡ true

pub same_parts : (q p : PositionParts) → is_same q p ≡ true → SameParts q p
unfolding is_same
same_parts q p h =
    let a = and_parts (same_colour q.side p.side && list_all (λ s. same_man (man_on q s) (man_on p s)) squares && same_rights q.rights p.rights)
    (same_target (counting_target q) (counting_target p)) h in
    let b = and_parts (same_colour q.side p.side && list_all (λ s. same_man (man_on q s) (man_on p s)) squares) (same_rights q.rights p.rights) a.0 in
    let c = and_parts (same_colour q.side p.side) (list_all (λ s. same_man (man_on q s) (man_on p s)) squares) b.0 in
    record { side = c.0; men = λ s low. man_is (man_on q s) (man_on p s) (every_square (λ t. same_man (man_on q t) (man_on p t)) c.1 s low); rights = b.1 }

-- where other squares are occupied the position is another one
pub other_squares : (q p : PositionParts) (key : RepetitionKey) → IsKeyOf key q → (there all : FinSet nat_cmp) → same_each there all ≡ false →
    (same_rights key.rights p.rights ≡ true → (s : ℕ) → contains there s ≡ is_some (man_on p s)) → ((s : ℕ) → contains all s ≡ is_some (man_on q s)) →
    is_same q p ≡ false
other_squares q p key is there all differ gathers gathers_all =
    false_from_ne_true (is_same q p) (λ h.
    let parts = same_parts q p h in
    let rights : same_rights key.rights p.rights ≡ true = ap (λ r. same_rights r p.rights) is.rights ∙ parts.rights in
    true≢false (sym (by_look there all is_some (man_on p) (man_on q) (gathers rights) gathers_all (λ s low. sym (parts.men s low))) ∙ differ))

three : (x r t : Bool) → (x && r && t) ≡ (x && (r && t))
three true r t = refl
three false r t = refl

-- the side and the men, and what is kept of a ply
by_moves : (q p : PositionParts) (key : RepetitionKey) (ply : PlyParts) → IsKeyOf key q → IsPly p ply →
    is_same q p ≡ (same_colour q.side p.side && list_all (λ s. same_man (man_on q s) (man_on p s)) squares && same_moves key ply)
unfolding is_same same_moves
by_moves q p key ply is of =
    let rights : q.rights ≡ key.rights = sym is.rights in
    let rights_then : p.rights ≡ ply.past.rights = sym (ap (λ r. r.rights) of.past) in
    let target : counting_target q ≡ key.target = sym is.target in
    let target_then : counting_target p ≡ ply.target = sym of.target in
    let men = same_colour q.side p.side && list_all (λ s. same_man (man_on q s) (man_on p s)) squares in
    (λ i. men && same_rights (rights i) (rights_then i) && same_target (target i) (target_then i))
    ∙ three men (same_rights key.rights ply.past.rights) (same_target key.target ply.target)

-- where other moves are possible it is another one
pub other_moves : (q p : PositionParts) (key : RepetitionKey) (ply : PlyParts) → IsKeyOf key q → IsPly p ply → same_moves key ply ≡ false → is_same q p ≡ false
other_moves q p key ply is of differ = by_moves q p key ply is of ∙ and_right _ (same_moves key ply) differ

-- else the men decide
pub by_men : (q p : PositionParts) (key : RepetitionKey) (ply : PlyParts) (men : MenSets) → IsKeyOf key q → IsPly p ply → same_moves key ply ≡ true →
    p.side ≡ key.side → IsMenOf men (man_on p) → is_same q p ≡ same_men key.men men
by_men q p key ply men is of agree side are =
    let own : same_colour q.side p.side ≡ true = ap (same_colour q.side) (side ∙ is.side) ∙ same_self q.side in
    by_moves q p key ply is of
    ∙ (λ i. own i && sym (men_same key.men men (man_on q) (man_on p) is.men are) i && agree i)
    ∙ at_last (same_men key.men men)
  where
    at_last : (b : Bool) → (true && b && true) ≡ b
    at_last true = refl
    at_last false = refl

-- the same moves are possible only where the same rights are held
pub by_rights : (p : PositionParts) (key : RepetitionKey) (ply : PlyParts) → IsPly p ply → same_moves key ply ≡ true → same_rights key.rights p.rights ≡ true
unfolding same_moves
by_rights p key ply of agree =
    ap (λ r. same_rights key.rights r) (sym (ap (λ r. r.rights) of.past)) ∙ (and_parts (same_rights key.rights ply.past.rights) (same_target key.target ply.target) agree).0
