-- A quiet move: the position after it, whose side to move isn't in check, and its evaluation.
use Rattle.std.proofs.Common.{◌≡◌, ◌≢◌, ◌<◌, ◌+◌, ◌==◌, ℕ, Bool, true, false, ◌&&◌, ◌||◌, length, Option, Some, None, is_some, refl, sym, ap, subst, ◌∙◌, arith, inl, inr, ℤ, neg_ℤ}
use Rattle.std.specs.Prelude.{IfSome, IsSomeAnd}
use Rattle.std.proofs.lemmas.Bool.{cases_Bool, true≢false}
use Rattle.std.proofs.lemmas.Int.{ints}
use Rattle.std.specs.FinMap.{insert, remove}
use Rattle.chess_types.specs.declared.board.man.Colour.{Colour}
use Rattle.chess_types.specs.declared.board.man.Colour.TheVariants.{White, Black}
use Rattle.chess_types.specs.declared.board.man.Man.{Man}
use Rattle.chess_types.specs.declared.board.position.Wing.{Wing}
use Rattle.chess_types.specs.declared.board.position.Wing.TheVariants.{KingSide, QueenSide}
use Rattle.chess_types.specs.board.Board.{Board, man_at}
use Rattle.chess_types.specs.board.MoveParts.{MoveParts}
use Rattle.chess_types.specs.board.Men.{opponent, is_king, is_king_of, is_of, kings_of}
use Rattle.chess_types.specs.board.Attack.{in_check}
use Rattle.chess_types.specs.board.Position.{PositionParts, IsSetup, OpponentNotInCheck, man_on}
use Rattle.chess_types.specs.board.Pseudo.{castles_to}
use Rattle.chess_types.specs.board.Dead.{is_dead}
use Rattle.chess_types.specs.board.Legal.{is_legal, legal_moves}
use Rattle.chess_types.specs.board.After.{captured_at, moved_man, moved_board, is_castling, after_by, after}
use Rattle.chess_eval.specs.Evaluation.{Sums, AreSumsOf, for_white, evaluation, HasArmies}
use Rattle.chess_attack.proofs.Lifted.{OnlyKing, only_king}
use Rattle.chess_attack.proofs.Pinning.{other_colour}
use Rattle.chess_play.proofs.CastlingSquares.{castles_where}
use Rattle.chess_play.proofs.Facts.{Facts}
use Rattle.chess_play.proofs.Carried.{cap, carried_here, carried_none, carried_there}
use Rattle.chess_play.proofs.Castled.{placement_plain}
use Rattle.chess_play.proofs.Setups.{setup_by_facts}
use Rattle.chess_moves.proofs.PinLaws.{shifts}
use Rattle.chess_types.specs.board.Lines.{Line, last, extended}
use Rattle.chess_types.proofs.PlayLaws.{last_extended}
use Rattle.chess_types.proofs.SameLemmas.{same_self}
use Rattle.chess_search.specs.declared.frontier.FreePawn.{FreePawn}
use Rattle.chess_search.specs.declared.frontier.Frontier.{Frontier}
use Rattle.chess_search.specs.Value.{counts_drawn, evaluation_for, value, worth}
use Rattle.chess_search.specs.steps.Frontiers.{IsFrontier, IsPlainMove, IsQuietMove, AfterQuiet, pawn_of, IsStep, IsFreePawn, IsElsewhere, GoesOn, IsFar, IsFarWhereFree, AreSumsAt}
use Rattle.chess_search.specs.steps.Windows.{FitsWindow, IsDecided}
use Rattle.chess_search.proofs.WindowLemmas.{decided, value-leaf, value-unchecked, FitsWindow-refl}
use Rattle.chess_search.proofs.QuietLemmas.{gives_none}
use Rattle.chess_search.proofs.FreeLemmas.{alive, can_move}

-- two numbers are the squares of a move
pub record HasSquares (a b : ℕ) (m : MoveParts) : Type 0 where
  pub from_is : a ≡ m.from
  pub to_is : b ≡ m.to
  pub from : m.from < 64
  pub to : m.to < 64

pub has_squares : {kept m : MoveParts} → kept ≡ m → kept.from < 64 → kept.to < 64 → HasSquares kept.from kept.to m
has_squares same from to =
    let from_is = ap (λ (x : MoveParts). x.from) same in
    let to_is = ap (λ (x : MoveParts). x.to) same in
    record { from_is = from_is; to_is = to_is; from = subst (λ x. x < 64) from_is from; to = subst (λ x. x < 64) to_is to }

-- who doesn't go two squares doesn't castle
no_castling : (c : Colour) (w : Wing) (m : MoveParts) (king : Bool) → (king && (m.to == m.from + 2 || m.from == m.to + 2)) ≡ false → (king && castles_to c w m) ≡ false
no_castling c w m false h = refl
no_castling c w m true h =
    elim (cases_Bool (castles_to c w m)) [
      | inr none ↦ none
      | inl there ↦ absurd (two c w m (castles_where c w m there) h)
    ]
  where
    two : (c : Colour) (w : Wing) (m : MoveParts) → (m.from ≡ Rattle.chess_types.specs.board.Position.king_home c) × (m.to ≡ Rattle.chess_types.specs.board.Pseudo.reached c w) → (m.to == m.from + 2 || m.from == m.to + 2) ≡ false → ⊥
    two White KingSide m at h = true≢false (rw (at.0, at.1) at h)
    two White QueenSide m at h = true≢false (rw (at.0, at.1) at h)
    two Black KingSide m at h = true≢false (rw (at.0, at.1) at h)
    two Black QueenSide m at h = true≢false (rw (at.0, at.1) at h)

module _ (p : PositionParts) (m : MoveParts) (man : Man) (setup : IsSetup p) (from : m.from < 64) (to : m.to < 64) (facts : Facts p man m) (goes : IsPlainMove p man m) where
  there : captured_at p.target man m ≡ m.to
  there = rw goes.passes_none refl

  same : moved_man man m.promo ≡ man
  same = ap (moved_man man) goes.plain

  castles_none : (w : Wing) → is_castling man w m ≡ false
  castles_none w = no_castling man.colour w m (is_king man.kind) goes.steps

  after_is : after p m ≡ after_by p (Some man) m
  unfolding after
  after_is = ap (λ o. after_by p o m) goes.here

  -- its board
  pub board_after : (after p m).placement ≡ moved_board p man m
  board_after = ap (λ (q : PositionParts). q.placement) after_is ∙ placement_plain p man m (castles_none KingSide) (castles_none QueenSide)

  pub board_is : insert (remove (remove p.placement m.to) m.from) m.to man ≡ moved_board p man m
  board_is = λ i. insert (remove (remove p.placement (sym there i)) m.from) m.to (sym same i)

  side_after : (after p m).side ≡ opponent p.side
  side_after = ap (λ (q : PositionParts). q.side) after_is

  -- the sums of the one are the sums of the other
  pub summed : (sums : Sums) → AreSumsOf sums (insert (remove (remove p.placement m.to) m.from) m.to man) → AreSumsOf sums (after p m).placement
  summed sums are = subst (AreSumsOf sums) (board_is ∙ sym board_after) are

  pub armies : HasArmies (insert (remove (remove p.placement m.to) m.from) m.to man)
  armies =
      let sound : IsSetup (after_by p (Some man) m) = setup_by_facts p man m setup from to facts in
      let is : (after_by p (Some man) m).placement ≡ insert (remove (remove p.placement m.to) m.from) m.to man =
      placement_plain p man m (castles_none KingSide) (castles_none QueenSide) ∙ sym board_is in
      subst HasArmies is (record { few = sound.few; kings = sound.kings })

  -- what the evaluation is then
  pub evaluated : (white : ℤ) → white ≡ evaluation (man_at (insert (remove (remove p.placement m.to) m.from) m.to man)) → neg_ℤ (evaluation_for (after p m)) ≡ for_white p.side white
  evaluated white is =
      (λ i. neg_ℤ (for_white (side_after i) (evaluation (man_at (board_after i)))))
      ∙ ap (λ e. neg_ℤ (for_white (opponent p.side) e)) (ap (λ (b : Board). evaluation (man_at b)) (sym board_is) ∙ sym is)
      ∙ turned p.side white
    where
      turned : (c : Colour) (e : ℤ) → neg_ℤ (for_white (opponent c) e) ≡ for_white c e
      turned White e = omega (arith, ints)
      turned Black e = refl

  module _ (k : ℕ) (move : IsQuietMove k p man m) (on_board : k < 64) (king : is_king_of (opponent p.side) (man_on p k) ≡ true) (quiet : OpponentNotInCheck p) where
    not_captured : k ≢ captured_at p.target man m
    not_captured e = true≢false (sym king ∙ ap (λ s. is_king_of (opponent p.side) (man_on p s)) e ∙ (cap p man m from to facts).king (opponent p.side))

    not_mover : k ≢ m.from
    not_mover e =
        let mine : is_king_of (opponent p.side) (man_on p m.from) ≡ false = rw (goes.here, facts.mine, other_colour p.side) refl in
        true≢false (sym king ∙ ap (λ s. is_king_of (opponent p.side) (man_on p s)) e ∙ mine)

    king_before : OnlyKing (man_on p) (opponent p.side) k
    king_before = only_king p.placement (opponent p.side) k (setup.kings (opponent p.side)) on_board king

    king_then : OnlyKing (man_at (moved_board p man m)) (opponent p.side) k
    king_then =
        let sound : IsSetup (after_by p (Some man) m) = setup_by_facts p man m setup from to facts in
        let one : kings_of (moved_board p man m) (opponent p.side) ≡ 1 =
        ap (λ b. kings_of b (opponent p.side)) (sym (placement_plain p man m (castles_none KingSide) (castles_none QueenSide))) ∙ sound.kings (opponent p.side) in
        let here : is_king_of (opponent p.side) (man_at (moved_board p man m) k) ≡ true =
        ap (is_king_of (opponent p.side)) (carried_there p man m from to facts k not_mover (λ e. not_captured (e ∙ sym there)) not_captured) ∙ king in
        only_king (moved_board p man m) (opponent p.side) k one on_board here

    -- nobody is in check then
    pub unchecked_after : in_check (man_on (after p m)) (after p m).side ≡ false
    unchecked_after =
        (λ i. in_check (man_at (board_after i)) (side_after i))
        ∙ gives_none (man_on p) (man_at (moved_board p man m)) m.from m.to p.side (shifts p man m setup from to facts goes.passes_none) k (opponent p.side) man king_before king_then
        (carried_here p man m from to facts ∙ ap (λ x. Some x) same) move.off_line move.away quiet

    -- a free pawn is as it was, where the move ends elsewhere: its side has a legal move, and the position isn't dead
    module _ (free : FreePawn) (is : IsFreePawn free k p) (elsewhere : IsElsewhere free m) where
      not_his : free.at ≢ m.from
      not_his e =
          let mine : is_of (opponent p.side) (man_on p m.from) ≡ false = rw (goes.here, facts.mine, other_colour p.side) refl in
          true≢false (sym (same_self (opponent p.side)) ∙ sym (ap (is_of (opponent p.side)) is.there) ∙ ap (λ s. is_of (opponent p.side) (man_on p s)) e ∙ mine)

      still_there : man_on (after p m) free.at ≡ Some (pawn_of (after p m).side)
      still_there =
          (λ i. man_at (board_after i) free.at)
          ∙ carried_there p man m from to facts free.at not_his (λ e. elsewhere.taken (sym e)) (λ e. elsewhere.taken (sym (e ∙ there)))
          ∙ is.there ∙ (λ i. Some (pawn_of (sym side_after i)))

      still_empty : man_on (after p m) free.ahead ≡ None
      still_empty = (λ i. man_at (board_after i) free.ahead) ∙ carried_none p man m from to facts free.ahead (λ e. elsewhere.barred (sym e)) is.empty

      pub lives : is_dead (after p m) ≡ false
      lives = alive (after p m) free.at (after p m).side is.on_board still_there

      pub plays : IsSetup (after p m) → 0 < length (legal_moves (after p m))
      plays sound =
          let turn : opponent p.side ≡ (after p m).side = sym side_after in
          let king_is : OnlyKing (man_on (after p m)) (after p m).side k =
          subst (λ c. OnlyKing (man_on (after p m)) c k) turn (subst (λ (b : Board). OnlyKing (man_at b) (opponent p.side) k) (sym board_after) king_then) in
          can_move (after p m) k free.at free.ahead sound king_is unchecked_after is.on_board still_there is.aside (subst (λ c. IsStep c free.at free.ahead) turn is.step) still_empty

    -- the same of a pawn that may be known
    pub goes_on : (free : Option FreePawn) → IfSome free (λ f. IsFreePawn f k p) → IfSome free (λ f. IsElsewhere f m) → is_some free ≡ true → IsSetup (after p m) →
        (0 < length (legal_moves (after p m))) × (is_dead (after p m) ≡ false)
    goes_on None is elsewhere known sound = absurd (true≢false (sym known))
    goes_on (Some free) is elsewhere known sound = (plays free is elsewhere sound, lives free is elsewhere)

-- the same, by other names of the numbers
pub same_decided : (alpha beta e x a b w : ℤ) → a ≡ alpha → b ≡ beta → w ≡ e → IsDecided a b w x → IsDecided alpha beta e x
same_decided alpha beta e x a b w f g h both = subst (λ y. IsDecided y beta e x) f (subst (λ y. IsDecided a y e x) g (subst (λ y. IsDecided a b y x) h both))

pub mapped : {A : Type 0} {P Q : A → Type 0} (o : Option A) → ((x : A) → P x → Q x) → IfSome o P → IfSome o Q
mapped None f h = h
mapped (Some x) f h = f x h

-- the value of the line after a quiet move is a draw's or the evaluation's
pub judged : (claims : Bool) (line : Line) (distance : ℕ) (m : MoveParts) (alpha beta answer a b x : ℤ) → a ≡ alpha → b ≡ beta → x ≡ answer → AfterQuiet (last line) m a b x →
    FitsWindow alpha beta (worth claims 0 line distance m) answer
judged claims line distance m alpha beta answer a b x f g h told =
    let then = last_extended line m in
    let quiet : in_check (man_on (last (extended line m))) (last (extended line m)).side ≡ false = ap (λ (q : PositionParts). in_check (man_on q) q.side) then ∙ told.quiet in
    let v = value claims 0 (extended line m) (distance + 1) in
    let e : evaluation_for (last (extended line m)) ≡ evaluation_for (after (last line) m) = ap evaluation_for then in
    decided alpha beta (neg_ℤ (evaluation_for (after (last line) m))) answer a b _ x f g refl h told.decided (neg_ℤ v)
    (elim (value-unchecked claims (extended line m) (distance + 1) quiet) [ inl drawn ↦ inl (omega (arith, ints, drawn)) | inr evaluated ↦ inr (ap neg_ℤ (evaluated ∙ e)) ])

-- where play goes on after it, that value is the evaluation's
pub continued : (claims : Bool) (line : Line) (distance : ℕ) (m : MoveParts) (alpha beta answer x : ℤ) → x ≡ answer → m.from < 64 → m.to < 64 →
    is_legal (last line) m ≡ true → IsFar claims line → GoesOn (last line) m x → FitsWindow alpha beta (worth claims 0 line distance m) answer
continued claims line distance m alpha beta answer x same from to legal far goes =
    let next = last_extended line m in
    let some : 0 < length (legal_moves (last (extended line m))) = subst (λ (q : PositionParts). 0 < length (legal_moves q)) (sym next) goes.some in
    let playing : counts_drawn claims (extended line m) ≡ false = far m from to legal ∙ ap is_dead next ∙ goes.alive in
    let worth_is : worth claims 0 line distance m ≡ answer =
    ap neg_ℤ (value-leaf claims (extended line m) (distance + 1) some playing ∙ ap evaluation_for next) ∙ sym goes.evaluated ∙ same in
    subst (λ v. FitsWindow alpha beta v answer) (sym worth_is) (FitsWindow-refl alpha beta answer)

-- what is known of a position is known of it by another name
pub frontier_at : (p q : PositionParts) (frontier : Option Frontier) → p ≡ q → IfSome frontier (λ f. IsFrontier f p) → IfSome frontier (λ f. IsFrontier f q)
frontier_at p q frontier same h = subst (λ x. IfSome frontier (λ f. IsFrontier f x)) same h

pub sums_at : (p q : PositionParts) (sums : Sums) → p ≡ q → AreSumsOf sums p.placement → AreSumsOf sums q.placement
sums_at p q sums same h = subst (λ (x : PositionParts). AreSumsOf sums x.placement) same h

-- sums after a move are those of the line with it
pub next_sums : (p : PositionParts) (line next : Line) (m : MoveParts) (sums : Option Sums) → p ≡ last line → next ≡ extended line m → AreSumsAt sums (after p m) → AreSumsAt sums (last next)
next_sums p line next m sums here longer are =
    let same : after p m ≡ last next = ap (λ (q : PositionParts). after q m) here ∙ sym (last_extended line m) ∙ sym (ap last longer) in
    subst (AreSumsAt sums) same are

-- and of a line
pub far_at : (claims known : Bool) (old new : Line) (frontier : Option Frontier) → new ≡ old → known ≡ claims → IfSome frontier (λ f. IsFarWhereFree claims f old) →
    IfSome frontier (λ f. IsFarWhereFree known f new)
far_at claims known old new frontier same is h =
    subst (λ c. IfSome frontier (λ f. IsFarWhereFree c f new)) (sym is) (subst (λ x. IfSome frontier (λ f. IsFarWhereFree claims f x)) (sym same) h)

-- where a pawn is known
pub known_far : (claims : Bool) (line : Line) (frontier : Option Frontier) → IfSome frontier (λ f. IsFarWhereFree claims f line) → IsSomeAnd frontier (λ f. is_some f.free ≡ true) → IsFar claims line
known_far claims line None far known m from to legal = absurd known
known_far claims line (Some f) far known m from to legal = far known m from to legal
