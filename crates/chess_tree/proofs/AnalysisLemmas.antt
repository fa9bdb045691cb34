-- An analysis: what playing a move answers, and that the line stays the one to the cursor, call by call.
use Rattle.std.proofs.Common.{◌≡◌, ℕ, zero, suc, ◌+◌, ◌<◌, ◌≤◌, Bool, true, false, nat_le, if◌then◌else◌, List, [], ◌∷◌, ◌++◌, length, take, Option, None, Some, refl, sym, ap, subst, ◌∙◌, inl, inr, arith}
use Rattle.std.specs.Prelude.{◌⊎◌, not, is_some, Result, Ok, Err, is_ok, OnOk, OnErr, MatchOption, MatchResult}
use Rattle.std.proofs.lemmas.Bool.{false≢true}
use Rattle.std.proofs.lemmas.Bool.Decides.{nat_tests}
use Rattle.std.proofs.lemmas.List.{length-append}
use Rattle.std.proofs.lemmas.Option.{none-some, same_Some}
use Rattle.chess_types.specs.board.MoveParts.{MoveParts}
use Rattle.chess_types.specs.board.Legal.{is_legal}
use Rattle.chess_types.specs.board.Lines.{Line, extended, last}
use Rattle.chess_draws.specs.declared.fault.LineFault.{LineFault}
use Rattle.chess_draws.specs.declared.fault.LineFault.TheVariants as line
use Rattle.chess_draws.specs.LineParts.{LineParts}
use Rattle.chess_draws.specs.Pushes.{push_answer}
use Rattle.chess_tree.specs.declared.fault.PlayFault.{PlayFault}
use Rattle.chess_tree.specs.declared.fault.PlayFault.TheVariants.{Illegal, TooLong, Full, Memory}
use Rattle.chess_tree.specs.declared.fault.TreeFault.{TreeFault}
use Rattle.chess_tree.specs.declared.fault.TreeFault.TheVariants.{BadComment}
use Rattle.chess_tree.specs.Forest.{count, height, moves_held}
use Rattle.chess_tree.specs.Edits.{annotated, unannotated, commented, parent, promoted, without_node}
use Rattle.chess_tree.specs.Comments.{IsComment, has_brace, normalised}
use Rattle.chess_tree.specs.GameTree.{GameTree, TreeParts, added, annotated_here, unannotated_here, at_path, commented_here, commented_tree, deleted, find, has, here, line_to, nodes_here, promoted_here}
use Rattle.chess_tree.specs.CursorLine.{GoesOn}
use Rattle.chess_tree.specs.Plays.{Adds, IsAnswer, Plays, add_answer, is_new, led_to, legal_answer, play_answer, played}
use Rattle.chess_tree.specs.WellFormed.{IsGameTree}
use Rattle.chess_tree.specs.steps.Analysed.{IsAnalysed}
use Rattle.chess_tree.proofs.EditLemmas as edits
use Rattle.chess_tree.proofs.EditLemmas.{deeper, leads_on, leads_parent, path_le_height}
use Rattle.chess_tree.proofs.TreeLemmas.{game_added, game_annotated, game_unannotated, game_at, game_commented, game_deleted, game_promoted}
use Rattle.chess_tree.proofs.LineLemmas.{find_some, line_added, line_length, line_on}
use Rattle.chess_tree.proofs.WalkLemmas.{has_leads, length_parent}
use Rattle.chess_tree.proofs.StepLemmas.{line_separated}
use Rattle.chess_tree.proofs.CommentLemmas.{is_comment}

-- ---- what `prepare` of a line answers, by a number

abbrev pub answer_number : Result (Unit {0}) LineFault → ℕ
answer_number (Ok _) = 0
answer_number (Err line.Illegal) = 1
answer_number (Err line.TooLong) = 2
answer_number (Err line.Memory) = 3

abbrev answered : Bool → Bool → Result (Unit {0}) LineFault
answered legal long = if not legal then Err line.Illegal else (if long then Err line.TooLong else Ok tt)

below_three : (legal long : Bool) → answer_number (answered legal long) < 3
below_three false long = omega arith
below_three true true = omega arith
below_three true false = omega arith

legal_short : (legal long : Bool) → answer_number (answered legal long) ≡ 0 → (legal ≡ true) × (long ≡ false)
legal_short false long e = absurd (omega (arith, e))
legal_short true true e = absurd (omega (arith, e))
legal_short true false e = (refl, refl)

legal_long : (legal long : Bool) → answer_number (answered legal long) ≡ 2 → (legal ≡ true) × (long ≡ true)
legal_long false long e = absurd (omega (arith, e))
legal_long true true e = (refl, refl)
legal_long true false e = absurd (omega (arith, e))

-- whatever is answered but want of memory is decided by the line and the move
as_told : (r a : Result (Unit {0}) LineFault) (P : Type 0) → (r ≡ a) ⊎ ((a ≡ Ok tt) × (r ≡ Err line.Memory) × P) → answer_number r < 3 → answer_number a ≡ answer_number r
as_told r a P (inl e) h = ap answer_number (sym e)
as_told r a P (inr e) h = absurd (omega (arith, h, ap answer_number e.1))

-- and that is answered only where there is nothing else
else_done : (r a : Result (Unit {0}) LineFault) (P : Type 0) → (r ≡ a) ⊎ ((a ≡ Ok tt) × (r ≡ Err line.Memory) × P) → answer_number r ≡ 3 → answer_number a < 3 → answer_number a ≡ 0
else_done r a P (inl e) h below = absurd (omega (arith, h, below, ap answer_number e))
else_done r a P (inr e) h below = ap answer_number e.0

module _ (l : Line) (m : MoveParts) (r : Result (Unit {0}) LineFault) (P : Type 0) (told : (r ≡ push_answer l m) ⊎ ((push_answer l m ≡ Ok tt) × (r ≡ Err line.Memory) × P)) where
  pub pushed_done : answer_number r ≡ 0 → (is_legal (last l) m ≡ true) × (nat_le 20000 (length l.moves) ≡ false)
  pushed_done e =
      let h : answer_number r < 3 = omega (arith, e) in
      legal_short (is_legal (last l) m) (nat_le 20000 (length l.moves)) (as_told r (push_answer l m) P told h ∙ e)

  pub pushed_long : answer_number r ≡ 2 → (is_legal (last l) m ≡ true) × (nat_le 20000 (length l.moves) ≡ true)
  pushed_long e =
      let h : answer_number r < 3 = omega (arith, e) in
      legal_long (is_legal (last l) m) (nat_le 20000 (length l.moves)) (as_told r (push_answer l m) P told h ∙ e)

  pub pushed_no_room : answer_number r ≡ 3 → (is_legal (last l) m ≡ true) × (nat_le 20000 (length l.moves) ≡ false)
  pushed_no_room e =
      let below = below_three (is_legal (last l) m) (nat_le 20000 (length l.moves)) in
      legal_short (is_legal (last l) m) (nat_le 20000 (length l.moves)) (else_done r (push_answer l m) P told e below)

-- a legal move isn't refused as illegal
legal_known : (legal long : Bool) → legal ≡ true → answer_number (answered legal long) ≡ 1 → ⊥
legal_known true true known e = omega (arith, e)
legal_known true false known e = omega (arith, e)
legal_known false long known e = false≢true known

pub not_illegal : (l : Line) (m : MoveParts) (r : Result (Unit {0}) LineFault) (P : Type 0) → (r ≡ push_answer l m) ⊎ ((push_answer l m ≡ Ok tt) × (r ≡ Err line.Memory) × P) →
    is_legal (last l) m ≡ true → answer_number r ≡ 1 → ⊥
not_illegal l m r P told legal e =
    let h : answer_number r < 3 = omega (arith, e) in
    legal_known (is_legal (last l) m) (nat_le 20000 (length l.moves)) legal (as_told r (push_answer l m) P told h ∙ e)

-- what is legal at the cursor is legal at the end of the line
pub still_legal : (t now : TreeParts) (l : LineParts) → IsAnalysed t l → t ≡ now → (m : MoveParts) → is_legal (last (line_to now)) m ≡ true → is_legal (last l.line) m ≡ true
still_legal t now l is same m legal = ap (λ (x : Line). is_legal (last x) m) (is.follows ∙ ap line_to same) ∙ legal

-- ---- a comment that is set

no_brace : (b : Bool) (r : Result (Unit {0}) TreeFault) → (b ≡ true → r ≡ Err BadComment) → is_ok r ≡ true → b ≡ false
no_brace true r refused ok = absurd (false≢true (sym (ap is_ok (refused refl)) ∙ ok))
no_brace false r refused ok = refl

height_commented_tree : (text path : List ℕ) (tree : GameTree) → height (commented_tree text path tree).below ≤ height tree.below
height_commented_tree text [] tree = omega arith
height_commented_tree text (k ∷ path) tree = edits.height_node (commented text) (k ∷ path) tree.below (edits.height_commented text)

-- ---- back so far

take_parent : (n : ℕ) (path : List ℕ) → n < length path → take n (parent path) ≡ take n path
take_parent n [] h = absurd (omega (arith, h))
take_parent zero (k ∷ path) h = refl
take_parent (suc n) (k ∷ []) h = absurd (omega (arith, h))
take_parent (suc n) (k ∷ j ∷ path) h = ap (λ (p : List ℕ). k ∷ p) (take_parent n (j ∷ path) (omega (arith, h)))

stepped_back : (r : Result (Unit {0}) TreeFault) (F : TreeFault → Type 0) (old new : TreeParts) → 0 < length old.path → OnOk r (new ≡ at_path (parent old.path) old)
    → MatchResult r (λ _. 0 < length old.path) (λ fault. F fault × (old.path ≡ [])) → new ≡ at_path (parent old.path) old
stepped_back (Ok x) F old new some e told = e
stepped_back (Err x) F old new some e told = absurd (omega (arith, some, ap length told.1))

-- the same tree, and the first steps of the path as they were
pub record KeepsFirst (depth : ℕ) (begun t : TreeParts) : Type 0 where
  pub tree : t.tree ≡ begun.tree
  pub prefix : take depth t.path ≡ take depth begun.path

module _ (begun t new : TreeParts) (depth : ℕ) (r : Result (Unit {0}) TreeFault) (F : TreeFault → Type 0) (deeper : depth < length t.path)
    (ok : OnOk r (new ≡ at_path (parent t.path) t)) (at_root : MatchResult r (λ _. 0 < length t.path) (λ fault. F fault × (t.path ≡ []))) where
  up : new ≡ at_path (parent t.path) t
  up = stepped_back r F t new (omega (arith, deeper)) ok at_root

  pub back_to_on : KeepsFirst depth begun t → KeepsFirst depth begun new
  back_to_on kept = record {
    tree = ap (λ (x : TreeParts). x.tree) up ∙ kept.tree;
    prefix = ap (λ (x : TreeParts). take depth x.path) up ∙ take_parent depth t.path deeper ∙ kept.prefix;
  }

  pub back_to_smaller : length new.path < length t.path
  back_to_smaller = omega (arith, ap (λ (x : TreeParts). length x.path) up, length_parent t.path (omega (arith, deeper)))

-- ---- a path that leads to a node

pub no_longer : (t : TreeParts) (path : List ℕ) → IsGameTree t → has path t.tree.below ≡ true → length path ≤ 20000
no_longer t path game there = omega (arith, path_le_height path t.tree.below (has_leads path t.tree.below there), game.deep)

-- ---- a move that is played

pub found_line : (t new : TreeParts) (place : ℕ) (m : MoveParts) → new ≡ at_path (t.path ++ place ∷ []) t → Some place ≡ find m (nodes_here t) → line_to new ≡ extended (line_to t) m
found_line t new place m e found = ap line_to e ∙ line_on t place m (find_some m (nodes_here t) place (sym found)).1

-- to a child that has it
pub plays_there : (t new : TreeParts) (m : MoveParts) → is_new t m ≡ false → play_answer t m ≡ Ok tt → new ≡ played m t → line_to new ≡ extended (line_to t) m → Plays m t (Ok false) new
plays_there t new m old answer is line = record { answer = inl (sym answer); adds = sym old; found = λ _ _. refl; ok = is; line = line; err = tt }

-- to a new one
pub plays_new : (t old new : TreeParts) (m : MoveParts) → find m (nodes_here t) ≡ None → old ≡ t → Adds m old (Ok tt) new → Plays m t (Ok true) new
plays_new t old new m none same adds =
    let is : Adds m t (Ok tt) new = subst (λ (x : TreeParts). Adds m x (Ok tt) new) same adds in
    record {
      answer = subst (λ (o : Option ℕ). IsAnswer (if not (is_legal (last (line_to t)) m) then Err Illegal else legal_answer t o) (Ok tt)) (sym none) is.answer;
      adds = ap (λ (o : Option ℕ). not (is_some o)) (sym none);
      found = λ place there. absurd (none-some place (sym none ∙ there));
      ok = subst (λ (o : Option ℕ). new ≡ led_to m t o) (sym none) is.ok;
      line = is.line;
      err = tt;
    }

-- to none
pub plays_not : (fault : PlayFault) (t old new : TreeParts) (m : MoveParts) → find m (nodes_here t) ≡ None → old ≡ t → Adds m old (Err fault) new → Plays m t (Err fault) new
plays_not fault t old new m none same adds =
    let is : Adds m t (Err fault) new = subst (λ (x : TreeParts). Adds m x (Err fault) new) same adds in
    record {
      answer = subst (λ (o : Option ℕ). IsAnswer (if not (is_legal (last (line_to t)) m) then Err Illegal else legal_answer t o) (Err fault)) (sym none) is.answer;
      adds = tt;
      found = λ place there. absurd (none-some place (sym none ∙ there));
      ok = tt;
      line = tt;
      err = is.err;
    }

-- ---- a move that is added

abbrev of_add : Bool → Bool → Bool → Result (Unit {0}) PlayFault
of_add legal long full = if not legal then Err Illegal else (if long then Err TooLong else (if full then Err Full else Ok tt))

not_full : (full : Bool) → IsAnswer (if full then Err Full else Ok tt) (Ok tt) → full ≡ false
not_full true (inl e) = absurd (false≢true (sym (ap is_ok e)))
not_full true (inr e) = absurd (false≢true (ap is_ok e.0))
not_full false told = refl

module _ (t : TreeParts) (l : LineParts) (is : IsAnalysed t l) where
  -- as many moves as the cursor is deep
  pub as_deep : length l.line.moves ≡ length t.path
  as_deep = ap (λ (x : Line). length x.moves) is.follows ∙ line_length t is.game

  module _ (m : MoveParts) where
    add_is : (legal long : Bool) → is_legal (last l.line) m ≡ legal → nat_le 20000 (length l.line.moves) ≡ long
        → add_answer t m ≡ of_add legal long (nat_le 1000000 (moves_held t.tree.below))
    add_is legal long legal_e long_e =
        let legal_t : is_legal (last (line_to t)) m ≡ legal = ap (λ (x : Line). is_legal (last x) m) (sym is.follows) ∙ legal_e in
        let long_t : nat_le 20000 (length t.path) ≡ long = ap (nat_le 20000) (sym as_deep) ∙ long_e in
        ap (λ (b : Bool). of_add b (nat_le 20000 (length t.path)) (nat_le 1000000 (moves_held t.tree.below))) legal_t
        ∙ ap (λ (b : Bool). of_add legal b (nat_le 1000000 (moves_held t.tree.below))) long_t

    pub add_done : (is_legal (last l.line) m ≡ true) × (nat_le 20000 (length l.line.moves) ≡ false) → (r : Result (Unit {0}) PlayFault)
        → IsAnswer (if nat_le 1000000 (moves_held t.tree.below) then Err Full else Ok tt) r → IsAnswer (add_answer t m) r
    add_done facts r told = subst (λ (a : Result (Unit {0}) PlayFault). IsAnswer a r) (sym (add_is true false facts.0 facts.1)) told

    pub add_long : (is_legal (last l.line) m ≡ true) × (nat_le 20000 (length l.line.moves) ≡ true) → IsAnswer (add_answer t m) (Err TooLong)
    add_long facts = inl (sym (add_is true true facts.0 facts.1))

    pub add_no_room : (is_legal (last l.line) m ≡ true) × (nat_le 20000 (length l.line.moves) ≡ false) → (fault : PlayFault)
        → fault ≡ (if nat_le 1000000 (moves_held t.tree.below) then Full else Memory) → IsAnswer (add_answer t m) (Err fault)
    add_no_room facts fault e = add_done facts (Err fault) (no_room (nat_le 1000000 (moves_held t.tree.below)) fault e)
      where
        no_room : (full : Bool) (fault : PlayFault) → fault ≡ (if full then Full else Memory) → IsAnswer (if full then Err Full else Ok tt) (Err fault)
        no_room true fault e = inl (ap (λ (f : PlayFault). Err f) e)
        no_room false fault e = inr (refl, ap (λ (f : PlayFault). Err f) e)

    pub add_shallow : nat_le 20000 (length l.line.moves) ≡ false → length t.path < 20000
    add_shallow short =
        let few : length l.line.moves < 20000 = grind (arith, nat_tests) in
        omega (arith, few, as_deep)

    pub kept_add : (new : TreeParts) (after : LineParts) (room : ℕ) → (is_legal (last l.line) m ≡ true) × (nat_le 20000 (length l.line.moves) ≡ false)
        → IsAnswer (if nat_le 1000000 (moves_held t.tree.below) then Err Full else Ok tt) (Ok tt) → new ≡ added m t → length l.line.moves < room → l.room ≤ room → after.line ≡ extended l.line m → after.room ≡ room → after.looked ≡ 0 → IsAnalysed new after
    kept_add new after room facts told e ready more line_e room_e still =
        let legal_t : is_legal (last (line_to t)) m ≡ true = ap (λ (x : Line). is_legal (last x) m) (sym is.follows) ∙ facts.0 in
        let shallow = add_shallow facts.1 in
        let room_left = not_full (nat_le 1000000 (moves_held t.tree.below)) told in
        let few : moves_held t.tree.below < 1000000 = grind (arith, nat_tests) in
        subst (λ (x : TreeParts). IsAnalysed x after) (sym e)
        (record {
          game = game_added m t is.game legal_t shallow few;
          follows = line_e ∙ ap (λ (x : Line). extended x m) is.follows ∙ sym (line_added m t is.game);
          still = still;
          room = omega (arith, edits.height_with_move m t.path t.tree.below, as_deep, ready, more, room_e, is.room);
        })

  -- ---- steps

  -- a child is within the room
  pub room_down : (place : ℕ) → place < count (nodes_here t) → length l.line.moves < l.room
  room_down place there =
      omega (arith, as_deep, path_le_height t.path t.tree.below is.game.cursor, deeper (nodes_here t) (omega (arith, there)), is.room)

  pub kept_step : (place : ℕ) (new : TreeParts) (m : MoveParts) (after : LineParts) → place < count (nodes_here t) → new ≡ at_path (t.path ++ place ∷ []) t → GoesOn t new
      → Some m ≡ (here new).move → after.line ≡ extended l.line m → after.room ≡ l.room → after.looked ≡ 0 → IsAnalysed new after
  kept_step place new m after there e on some line_e room_e still =
      let same : m ≡ on.move = same_Some m on.move (some ∙ on.there) in
      record {
        game = subst IsGameTree (sym e) (game_at (t.path ++ place ∷ []) t is.game (leads_on t.path place t.tree.below is.game.cursor there));
        follows = line_e ∙ (λ i. extended (is.follows i) (same i)) ∙ sym on.line;
        still = still;
        room = omega (arith, is.room, room_e, ap (λ (x : TreeParts). height x.tree.below) e);
      }

  -- the last move taken away, after a step up
  popped : (above : TreeParts) (after : Line) (o : Option MoveParts) → GoesOn above t → MatchOption o ((l.line.moves ≡ []) × (after ≡ l.line)) (λ m. l.line ≡ extended after m) → after ≡ line_to above
  popped above after None on pop =
      let longer : length l.line.moves ≡ length (line_to above).moves + 1 =
      ap (λ (y : Line). length y.moves) (is.follows ∙ on.line) ∙ length-append (line_to above).moves (on.move ∷ []) in
      absurd (omega (arith, longer, ap length pop.0))
  popped above after (Some m) on pop = line_separated after (line_to above) m on.move (sym pop ∙ is.follows ∙ on.line)

  kept_out : (new : TreeParts) (after : LineParts) (o : Option MoveParts) → IsGameTree new → height new.tree.below ≤ height t.tree.below → GoesOn new t
      → MatchOption o ((l.line.moves ≡ []) × (after.line ≡ l.line)) (λ m. l.line ≡ extended after.line m) → after.room ≡ l.room → after.looked ≡ 0 → IsAnalysed new after
  kept_out new after o game lower on pop room_e still = record {
    game = game;
    follows = popped new after.line o on pop;
    still = still;
    room = omega (arith, lower, room_e, is.room);
  }

  pub kept_back : (new : TreeParts) (after : LineParts) (o : Option MoveParts) → new ≡ at_path (parent t.path) t → GoesOn new t
      → MatchOption o ((l.line.moves ≡ []) × (after.line ≡ l.line)) (λ m. l.line ≡ extended after.line m) → after.room ≡ l.room → after.looked ≡ 0 → IsAnalysed new after
  kept_back new after o e on pop room_e still =
      kept_out new after o (subst IsGameTree (sym e) (game_at (parent t.path) t is.game (leads_parent t.path t.tree.below is.game.cursor)))
      (omega (arith, ap (λ (x : TreeParts). height x.tree.below) e)) on pop room_e still

  pub kept_delete : (new : TreeParts) (after : LineParts) (o : Option MoveParts) → 0 < length t.path → new ≡ deleted t → GoesOn new t
      → MatchOption o ((l.line.moves ≡ []) × (after.line ≡ l.line)) (λ m. l.line ≡ extended after.line m) → after.room ≡ l.room → after.looked ≡ 0 → IsAnalysed new after
  kept_delete new after o some e on pop room_e still =
      kept_out new after o (subst IsGameTree (sym e) (game_deleted t is.game some))
      (omega (arith, ap (λ (x : TreeParts). height x.tree.below) e, edits.height_node without_node t.path t.tree.below edits.height_without)) on pop room_e still

  -- ---- edits that keep the line

  kept_same : (new : TreeParts) → IsGameTree new → line_to new ≡ line_to t → height new.tree.below ≤ height t.tree.below → IsAnalysed new l
  kept_same new game same lower = record {
    game = game;
    follows = is.follows ∙ sym same;
    still = is.still;
    room = omega (arith, lower, is.room);
  }

  pub kept_promote : (r : Result (Unit {0}) TreeFault) (new : TreeParts) (Q : TreeFault → Type 0) → OnOk r (new ≡ promoted_here t) → line_to new ≡ line_to t → OnErr r (new ≡ t)
      → MatchResult r (λ _. 0 < length t.path) Q → IsAnalysed new l
  kept_promote (Ok x) new Q e same err some =
      kept_same new (subst IsGameTree (sym e) (game_promoted t is.game some)) same
      (omega (arith, ap (λ (x : TreeParts). height x.tree.below) e, edits.height_node promoted t.path t.tree.below edits.height_promoted))
  kept_promote (Err x) new Q ok same e some = subst (λ (x : TreeParts). IsAnalysed x l) (sym e) is

  pub kept_no_nags : (r : Result (Unit {0}) TreeFault) (new : TreeParts) → OnOk r (new ≡ unannotated_here t) → line_to new ≡ line_to t → OnErr r (new ≡ t) → IsAnalysed new l
  kept_no_nags (Ok x) new e same err =
      kept_same new (subst IsGameTree (sym e) (game_unannotated t is.game)) same
      (omega (arith, ap (λ (x : TreeParts). height x.tree.below) e, edits.height_node unannotated t.path t.tree.below edits.height_unannotated))
  kept_no_nags (Err x) new ok same e = subst (λ (x : TreeParts). IsAnalysed x l) (sym e) is

  pub kept_nag : (nag : ℕ) (r : Result (Unit {0}) TreeFault) (new : TreeParts) → OnOk r (new ≡ annotated_here nag t) → line_to new ≡ line_to t → OnErr r (new ≡ t) → IsAnalysed new l
  kept_nag nag (Ok x) new e same err =
      kept_same new (subst IsGameTree (sym e) (game_annotated nag t is.game)) same
      (omega (arith, ap (λ (x : TreeParts). height x.tree.below) e, edits.height_node (annotated nag) t.path t.tree.below (edits.height_annotated nag)))
  kept_nag nag (Err x) new ok same e = subst (λ (x : TreeParts). IsAnalysed x l) (sym e) is

  pub kept_comment : (text : List ℕ) (r : Result (Unit {0}) TreeFault) (new : TreeParts) → OnOk r (new ≡ commented_here (normalised text) t) → line_to new ≡ line_to t → OnErr r (new ≡ t)
      → (has_brace text ≡ true → r ≡ Err BadComment) → IsAnalysed new l
  kept_comment text (Ok x) new e same err bad =
      let comment : IsComment (normalised text) = is_comment text (no_brace (has_brace text) (Ok x) bad refl) in
      kept_same new (subst IsGameTree (sym e) (game_commented (normalised text) t comment is.game)) same
      (omega (arith, ap (λ (x : TreeParts). height x.tree.below) e, height_commented_tree (normalised text) t.path t.tree))
  kept_comment text (Err x) new ok same e bad = subst (λ (x : TreeParts). IsAnalysed x l) (sym e) is
