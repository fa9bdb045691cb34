-- The way back along a line's plies: what stood where before each, and whether the position was the same as the last.
use Rattle.std.proofs.Common.{◌≡◌, ℕ, zero, suc, ◌+◌, ◌-◌, ◌*◌, ◌<◌, ◌≤◌, Bool, true, false, cond, Option, Some, None, is_some, List, [], ◌∷◌, length, get_or, map, drop, refl, sym, ap, subst, ◌∙◌, arith}
use Rattle.std.specs.Ordering.{nat_cmp}
use Rattle.std.specs.FinSet.{FinSet}
use Rattle.std.proofs.lemmas.Bool.{and_parts}
use Rattle.std.proofs.lemmas.List.{length-map, length-drop}
use Rattle.chess_types.specs.declared.board.man.Colour.{Colour}
use Rattle.chess_types.specs.declared.board.man.Colour.TheVariants.{White, Black}
use Rattle.chess_types.specs.declared.board.man.Man.{Man}
use Rattle.chess_types.specs.declared.board.position.Rights.{Rights}
use Rattle.chess_types.specs.declared.board.position.Wing.{Wing}
use Rattle.chess_types.specs.declared.board.position.Wing.TheVariants.{KingSide, QueenSide}
use Rattle.chess_types.specs.board.Board.{Men}
use Rattle.chess_types.specs.board.Men.{opponent}
use Rattle.chess_types.specs.board.MoveParts.{MoveParts}
use Rattle.chess_types.specs.board.Position.{PositionParts, IsSetup, man_on, holds}
use Rattle.chess_types.specs.board.After.{after, after_by, keeps, rights_after}
use Rattle.chess_types.specs.board.Lines.{play}
use Rattle.chess_types.specs.board.Sets.{same_each}
use Rattle.chess_types.specs.board.Repetition.{same_rights, is_same}
use Rattle.chess_types.specs.steps.KeptSets.{Gathers}
use Rattle.chess_moves.proofs.LegalLaws.{legal_well_formed}
use Rattle.chess_draws.specs.declared.look_back.Behind.{Behind}
use Rattle.chess_draws.specs.declared.men.MenSets.{MenSets}
use Rattle.chess_draws.specs.steps.KeptPlies.{PlyParts}
use Rattle.chess_draws.specs.declared.repetition_key.RepetitionKey.{RepetitionKey}
use Rattle.chess_draws.specs.steps.RepetitionKeys.{IsMenOf, same_men, same_moves}
use Rattle.chess_draws.specs.steps.Plies.{IsPly, ArePlies, move_of}
use Rattle.chess_draws.specs.steps.LookBack.{AreMenAt, IsBehind, IsStep, IsTrack, came_back, position_at}
use Rattle.chess_draws.proofs.RepetitionKeyLemmas.{bool_is, bool_self, by_men, by_rights, other_moves, other_squares}
use Rattle.chess_draws.proofs.BackLemmas.{step_back_to}
use Rattle.chess_draws.proofs.PlyLemmas.{clock_on}
use Rattle.chess_draws.proofs.LookBack.{rest_plays, side_then, twice}

-- the ply at a place
pub record Place (start : PositionParts) (plies : List PlyParts) (k : ℕ) (ply : PlyParts) : Type 0 where
  pub setup : IsSetup (position_at start (map move_of plies) k)
  pub is_ply : IsPly (position_at start (map move_of plies) k) ply
  pub next : position_at start (map move_of plies) (suc k) ≡ after (position_at start (map move_of plies) k) ply.past.played

pub place : (start : PositionParts) (plies : List PlyParts) (k : ℕ) (other : PlyParts) → IsSetup start → ArePlies start plies → k < length plies →
    Place start plies k (get_or plies k other)
place start [] k other setup are low = absurd (omega arith)
place start (ply ∷ plies) zero other setup are low = record { setup = setup; is_ply = are.0; next = refl }
place start (ply ∷ plies) (suc k) other setup are low =
    let there : Place (after start ply.past.played) plies k (get_or plies k other) =
    place (after start ply.past.played) plies k other (legal_well_formed start ply.past.played setup are.0.from are.0.to are.0.legal).setup are.1 (omega arith) in
    record { setup = there.setup; is_ply = there.is_ply; next = there.next }

-- some castling rights are among others
abbrev AreAmong : Rights → Rights → Type 0
AreAmong r s = (c : Colour) (w : Wing) → holds r c w ≡ true → holds s c w ≡ true

kept_before : (right : Bool) (c : Colour) (w : Wing) (m : MoveParts) → keeps right c w m ≡ true → right ≡ true
kept_before right c w m h = (and_parts _ _ (and_parts _ _ h).0).0

none_gained : (rights : Rights) (m : MoveParts) → AreAmong (rights_after rights m) rights
none_gained rights m White KingSide h = kept_before rights.white_king White KingSide m h
none_gained rights m White QueenSide h = kept_before rights.white_queen White QueenSide m h
none_gained rights m Black KingSide h = kept_before rights.black_king Black KingSide m h
none_gained rights m Black QueenSide h = kept_before rights.black_queen Black QueenSide m h

among_after : (p : PositionParts) (m : MoveParts) → AreAmong (after p m).rights p.rights
unfolding after
among_after p m = by_man (man_on p m.from)
  where
    by_man : (there : Option Man) → AreAmong (after_by p there m).rights p.rights
    by_man None c w h = h
    by_man (Some man) c w h = none_gained p.rights m c w h

-- no move gains a right (3.8.2.1)
among_played : (p : PositionParts) (ms : List MoveParts) → AreAmong (play p ms).rights p.rights
among_played p [] c w h = h
among_played p (m ∷ ms) c w h = among_after p m c w (among_played (after p m) ms c w h)

both : (a b : Bool) → (a ≡ true → b ≡ true) → (b ≡ true → a ≡ true) → a ≡ b
both true b on back = sym (on refl)
both false true on back = back refl
both false false on back = refl

rights_both : (r s : Rights) → AreAmong r s → AreAmong s r → r ≡ s
rights_both r s on back =
    let a = both r.white_king s.white_king (on White KingSide) (back White KingSide) in
    let b = both r.white_queen s.white_queen (on White QueenSide) (back White QueenSide) in
    let c = both r.black_king s.black_king (on Black KingSide) (back Black KingSide) in
    let d = both r.black_queen s.black_queen (on Black QueenSide) (back Black QueenSide) in
    λ i. record { white_king = a i; white_queen = b i; black_king = c i; black_queen = d i }

rights_are : (r s : Rights) → same_rights r s ≡ true → r ≡ s
rights_are r s h =
    let x = and_parts _ _ h in
    let y = and_parts _ _ x.0 in
    let z = and_parts _ _ y.0 in
    let a = bool_is r.white_king s.white_king z.0 in
    let b = bool_is r.white_queen s.white_queen z.1 in
    let c = bool_is r.black_king s.black_king y.1 in
    let d = bool_is r.black_queen s.black_queen x.1 in
    λ i. record { white_king = a i; white_queen = b i; black_king = c i; black_queen = d i }

rights_same : (r s : Rights) → r ≡ s → same_rights r s ≡ true
rights_same r s e =
    ap (same_rights r) (sym e) ∙ rw (bool_self r.white_king, bool_self r.white_queen, bool_self r.black_king, bool_self r.black_queen) refl

-- one ply back: one man stood elsewhere, and the same rights were held after it too
pub record WentBack (start : PositionParts) (plies : List PlyParts) (here : RepetitionKey) (k : ℕ) (m : MoveParts) : Type 0 where
  pub step : IsStep (man_on (position_at start (map move_of plies) k)) (man_on (position_at start (map move_of plies) (suc k))) m
  pub rights : same_rights here.rights (position_at start (map move_of plies) (suc k)).rights ≡ true

module _ (start : PositionParts) (plies : List PlyParts) (here : RepetitionKey) (k : ℕ) (track : IsTrack start plies here k) (low : k < length plies) (other : PlyParts) where
  abbrev ply : PlyParts
  ply = get_or plies k other

  abbrev there : PositionParts
  there = position_at start (map move_of plies) k

  abbrev next : PositionParts
  next = position_at start (map move_of plies) (suc k)

  at : Place start plies k ply
  at = place start plies k other track.setup track.are_plies low

  -- the clock isn't 0 after that ply
  counts : 0 < next.clock
  counts =
      omega (
        arith,
        clock_on next (drop (suc k) (map move_of plies)),
        ap (λ (s : PositionParts). s.clock) (rest_plays start (map move_of plies) (suc k)),
        length-drop (suc k) (map move_of plies),
        length-map plies move_of,
        track.quiet,
        low,
      )

  -- the rights after it are among those before it, and the last ones are among them
  among_next : AreAmong here.rights next.rights
  among_next c w h =
      among_played next (drop (suc k) (map move_of plies)) c w
      (ap (λ (s : PositionParts). holds s.rights c w) (rest_plays start (map move_of plies) (suc k)) ∙ ap (λ (r : Rights). holds r c w) (sym track.here_is.rights) ∙ h)

  pub went_back : same_rights here.rights there.rights ≡ true → WentBack start plies here k (move_of ply)
  went_back same =
      let alike : here.rights ≡ there.rights = rights_are here.rights there.rights same in
      let still : AreAmong next.rights here.rights = λ c w h.
      ap (λ (r : Rights). holds r c w) alike
      ∙ among_after there ply.past.played c w (ap (λ (s : PositionParts). holds s.rights c w) (sym at.next) ∙ h) in
      let now : here.rights ≡ next.rights = rights_both here.rights next.rights among_next still in
      record {
        step =
            subst (λ (s : PositionParts). IsStep (man_on there) (man_on s) ply.past.played) (sym at.next)
            (step_back_to there ply.past.played at.setup at.is_ply.from at.is_ply.to at.is_ply.legal
            (subst (λ (s : PositionParts). 0 < s.clock) at.next counts)
            (ap (λ (s : PositionParts). s.rights) (sym at.next) ∙ sym now ∙ alike));
        rights = rights_same here.rights next.rights now;
      }

  pub side_next : next.side ≡ opponent there.side
  side_next = ap (λ (s : PositionParts). s.side) at.next ∙ side_then there ply.past.played at.is_ply.legal

-- a track is one from a later place, too
pub later : {start : PositionParts} {plies : List PlyParts} {here : RepetitionKey} {k : ℕ} (n : ℕ) → IsTrack start plies here k → k ≤ n → IsTrack start plies here n
later n track after = record { setup = track.setup; are_plies = track.are_plies; here_is = track.here_is; quiet = omega (arith, track.quiet, after) }

-- a ply, where there is one
some_ply : (plies : List PlyParts) → 0 < length plies → PlyParts
some_ply [] low = absurd (omega arith)
some_ply (ply ∷ plies) low = ply

module _ {start : PositionParts} {plies : List PlyParts} {here : RepetitionKey} {k : ℕ} (track : IsTrack start plies here k) (low : k < length plies)
    (m : MoveParts) (is : (other : PlyParts) → m ≡ move_of (get_or plies k other)) where
  back_at : same_rights here.rights (position_at start (map move_of plies) k).rights ≡ true → WentBack start plies here k m
  back_at same =
      let other = some_ply plies (omega arith) in
      subst (WentBack start plies here k) (sym (is other)) (went_back start plies here k track low other same)

  -- the men, one ply further back
  pub men_back : (men earlier : MenSets) → ((before after : Men) → IsStep before after m → IsMenOf men after → IsMenOf earlier before) →
      AreMenAt start plies here men (suc k) → AreMenAt start plies here earlier k
  men_back men earlier on are same =
      let back = back_at same in
      on (man_on (position_at start (map move_of plies) k)) (man_on (position_at start (map move_of plies) (suc k))) back.step (are back.rights)

  pub side_back : (position_at start (map move_of plies) (suc k)).side ≡ opponent (position_at start (map move_of plies) k).side
  side_back = side_next start plies here k track low (some_ply plies (omega arith))

  pub occupied_back : (occupied earlier : FinSet nat_cmp) →
      ((before after : Men) → IsStep before after m → Gathers occupied is_some after → Gathers earlier is_some before) →
      same_rights here.rights (position_at start (map move_of plies) k).rights ≡ true →
      (same_rights here.rights (position_at start (map move_of plies) (suc k)).rights ≡ true → Gathers occupied is_some (man_on (position_at start (map move_of plies) (suc k)))) →
      Gathers earlier is_some (man_on (position_at start (map move_of plies) k))
  occupied_back occupied earlier on same gathers =
      let back = back_at same in
      on (man_on (position_at start (map move_of plies) k)) (man_on (position_at start (map move_of plies) (suc k))) back.step (gathers back.rights)

  pub still_same : same_rights here.rights (position_at start (map move_of plies) k).rights ≡ true →
      same_rights here.rights (position_at start (map move_of plies) (suc k)).rights ≡ true
  still_same same = (back_at same).rights

-- two plies back
pub record IsTwoBack (start : PositionParts) (plies : List PlyParts) (here : RepetitionKey) (last : FinSet nat_cmp) (k : ℕ) : Type 0 where
  pub side : (position_at start (map move_of plies) k).side ≡ here.side
  pub occupied : same_rights here.rights (position_at start (map move_of plies) k).rights ≡ true →
      Gathers last is_some (man_on (position_at start (map move_of plies) k))

pub two_back : {start : PositionParts} {plies : List PlyParts} {here : RepetitionKey} {k : ℕ} (track : IsTrack start plies here k) → k + 2 ≤ length plies →
    (m n : MoveParts) → ((other : PlyParts) → m ≡ move_of (get_or plies k other)) → ((other : PlyParts) → n ≡ move_of (get_or plies (k + 1) other)) →
    {old : Behind} → IsBehind start plies here old (k + 2) → (next last : FinSet nat_cmp) →
    ((before after : Men) → IsStep before after n → Gathers old.occupied is_some after → Gathers next is_some before) →
    ((before after : Men) → IsStep before after m → Gathers next is_some after → Gathers last is_some before) →
    IsTwoBack start plies here last k
two_back {start} {plies} {here} {k} track low m n m_is n_is {old} behind next last on_next on_last =
    let one : k + 1 ≡ suc k = omega arith in
    let two : k + 2 ≡ suc (suc k) = omega arith in
    let after_two : IsBehind start plies here old (suc (suc k)) = subst (IsBehind start plies here old) two behind in
    let n_there : (other : PlyParts) → n ≡ move_of (get_or plies (suc k) other) = subst (λ j. (other : PlyParts) → n ≡ move_of (get_or plies j other)) one n_is in
    let track_next : IsTrack start plies here (suc k) = later (suc k) track (omega arith) in
    record {
      side =
          sym (twice (position_at start (map move_of plies) k).side) ∙ ap opponent (sym (side_back track (omega arith) m m_is))
          ∙ sym (side_back track_next (omega arith) n n_there) ∙ after_two.side;
      occupied = λ same.
          occupied_back track (omega arith) m m_is next last on_last same
          (λ same_next. occupied_back track_next (omega arith) n n_there old.occupied next on_next same_next after_two.occupied);
    }

-- what is known then, with the men as before
pub behind_as_before : {start : PositionParts} {plies : List PlyParts} {here : RepetitionKey} {k : ℕ} (old : Behind) {last : FinSet nat_cmp} →
    IsTwoBack start plies here last k → AreMenAt start plies here old.men old.known →
    IsBehind start plies here (record { occupied = last; men = old.men; known = old.known }) k
behind_as_before old two men = record { side = two.side; occupied = two.occupied; men = men }

-- the position there, and the ply
module _ {start : PositionParts} {plies : List PlyParts} {here : RepetitionKey} {k : ℕ} (track : IsTrack start plies here k) (low : k < length plies) where
  pub ply_there : (other : PlyParts) → IsPly (position_at start (map move_of plies) k) (get_or plies k other)
  ply_there other = (place start plies k other track.setup track.are_plies low).is_ply

  -- not the same, where other squares are occupied
  pub other_occupied : {last : FinSet nat_cmp} (all : FinSet nat_cmp) → IsTwoBack start plies here last k →
      ((men : Men) → IsMenOf here.men men → Gathers all is_some men) → same_each last all ≡ false →
      is_same (play start (map move_of plies)) (position_at start (map move_of plies) k) ≡ false
  other_occupied {last} all two gathers differ =
      other_squares (play start (map move_of plies)) (position_at start (map move_of plies) k) here track.here_is last all differ two.occupied
      (gathers (man_on (play start (map move_of plies))) track.here_is.men)

  -- nor where other moves were possible
  pub other_possible : (agree : Bool) → ((other : PlyParts) → agree ≡ same_moves here (get_or plies k other)) → agree ≡ false →
      is_same (play start (map move_of plies)) (position_at start (map move_of plies) k) ≡ false
  other_possible agree told fails =
      let other = some_ply plies (omega arith) in
      other_moves (play start (map move_of plies)) (position_at start (map move_of plies) k) here (get_or plies k other) track.here_is (ply_there other)
      (sym (told other) ∙ fails)

  -- else by the men
  pub told_by_men : {last : FinSet nat_cmp} → IsTwoBack start plies here last k → (agree : Bool) → ((other : PlyParts) → agree ≡ same_moves here (get_or plies k other)) →
      agree ≡ true → (men : MenSets) → AreMenAt start plies here men k →
      same_men here.men men ≡ is_same (play start (map move_of plies)) (position_at start (map move_of plies) k)
  told_by_men two agree told holds men are =
      let other = some_ply plies (omega arith) in
      let moves : same_moves here (get_or plies k other) ≡ true = sym (told other) ∙ holds in
      sym (by_men (play start (map move_of plies)) (position_at start (map move_of plies) k) here (get_or plies k other) men track.here_is (ply_there other)
      moves two.side (are (by_rights (position_at start (map move_of plies) k) here (get_or plies k other) (ply_there other) moves)))

-- one position more is compared
module _ (start : PositionParts) (ms : List MoveParts) (half place : ℕ) {answer : Bool} (same : answer ≡ is_same (play start ms) (position_at start ms place)) where
  counted : (bit : ℕ) → cond answer 1 0 ≡ bit → place ≡ length ms - 2 * suc half → {count next : ℕ} → count ≡ came_back start ms half → next ≡ count + bit →
      next ≡ came_back start ms (half + 1)
  counted bit is long {count} {next} so_far now =
      let one : half + 1 ≡ suc half = omega arith in
      let there : cond (is_same (play start ms) (position_at start ms (length ms - 2 * suc half))) 1 0 ≡ bit =
      ap (λ k. cond (is_same (play start ms) (position_at start ms k)) 1 0) (sym long) ∙ ap (λ b. cond b 1 0) (sym same) ∙ is in
      let more : came_back start ms (suc half) ≡ came_back start ms half + bit = ap (λ n. came_back start ms half + n) there in
      omega (arith, now, so_far, more, ap (came_back start ms) one)

  pub one_more : answer ≡ true → place ≡ length ms - 2 * suc half → {count next : ℕ} → count ≡ came_back start ms half → next ≡ count + 1 →
      next ≡ came_back start ms (half + 1)
  one_more told = counted 1 (ap (λ b. cond b 1 0) told)

  pub one_less : answer ≡ false → place ≡ length ms - 2 * suc half → {count next : ℕ} → count ≡ came_back start ms half → next ≡ count →
      next ≡ came_back start ms (half + 1)
  one_less told long so_far now = counted 0 (ap (λ b. cond b 1 0) told) long so_far (omega (arith, now))
