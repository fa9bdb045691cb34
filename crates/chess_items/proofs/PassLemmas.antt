-- Items that are taken, and what is white after the limit.
use Rattle.std.proofs.Common.{◌≡◌, inl, inr, ℕ, Bool, true, false, ◌&&◌, List, [], ◌∷◌, ◌++◌, refl, sym, ap, subst, ◌∙◌, append-nil, Ok}
use Rattle.std.specs.List.{list_all}
use Rattle.byte_streams.specs.Calls.{joined}
use Rattle.byte_streams.proofs.CallLemmas.{Calls-append, joined-append}
use Rattle.chess_items.specs.Items.{Item, Spells, is_white, place_after, place_behind}
use Rattle.chess_items.specs.steps.Passing.{WasWhite, Passed, PassBreaks}
use Rattle.chess_items.specs.steps.Skipping.{MaySkip, Skips}
use Rattle.chess_items.specs.steps.Taking.{TakesOne, behind, all_white, AfterRun, Ran, RunBreaks}
use Rattle.chess_items.specs.steps.Texts.{BreaksWhile}
use Rattle.chess_items.specs.declared.at_hand.Fault.{Fault}
use Rattle.chess_items.specs.declared.at_hand.Fault.TheVariants.{Memory, Read}
use Rattle.chess_items.specs.declared.place.Place.{Place}
use Rattle.chess_items.specs.declared.place.Place.TheVariants.{GameStart}
use Rattle.chess_items.specs.declared.taking.Stop.{Stop}
use Rattle.chess_items.specs.declared.taking.Stop.TheVariants as stop
use Rattle.chess_items.specs.declared.taking.Stopped.{Stopped}
use Rattle.chess_items.proofs.BlankLemmas.{white_join}
use Rattle.chess_items.proofs.SpellLemmas.{spells_on}
use Rattle.chess_items.proofs.TakingLemmas.{bare, spells_bare}

bare_white : (items : List (ℕ × Item)) → list_all is_white (bare items) ≡ all_white items
bare_white [] = refl
bare_white (x ∷ items) = ap (λ (b : Bool). is_white x.1 && b) (bare_white items)

behind_bare : (place : Place) (items : List (ℕ × Item)) → behind place items ≡ place_behind place (bare items)
behind_bare place [] = refl
behind_bare place (x ∷ items) = behind_bare (place_after place x.1) items

module _ {X T : Type 0} (comes : X → List ℕ → X → Type 0) (at_hand : X → List ℕ) (all sound : X → Type 0) (reads : X → ℕ) (takes : TakesOne T) (limit : ℕ) (old : X) (t : T) where
  module _ (mid : X) (u : T) (s : Stopped) (r : Ran comes at_hand all sound reads takes limit old mid t u (Ok s)) where
    -- the text has ended, and was white
    pub ended_white : s.why ≡ stop.End → s.white ≡ true → WasWhite comes at_hand all sound reads takes old mid
    ended_white why white =
        let a = subst (λ (w : Stop). AfterRun comes at_hand all sound reads takes limit old r.pieces mid t u s.at s.place s.white w) why r.after in
        let whole : at_hand old ++ (joined r.pieces ++ []) ≡ at_hand old ++ joined r.pieces = ap (λ (x : List ℕ). at_hand old ++ x) (append-nil (joined r.pieces)) in
        let spelled : Spells GameStart (at_hand old ++ (joined r.pieces ++ [])) (bare a.items) (at_hand mid ++ []) = spells_bare 0 GameStart _ a.items _ (a.took.spelled [] (λ h. refl)) in
        record {
          pieces = r.pieces;
          came = r.came;
          white = (
            bare a.items,
            bare_white a.items ∙ sym a.took.whites ∙ white,
            subst (λ (x : List ℕ). Spells GameStart x (bare a.items) []) whole (subst (λ (x : List ℕ). Spells GameStart (at_hand old ++ (joined r.pieces ++ [])) (bare a.items) x) (append-nil (at_hand mid) ∙ a.nothing) spelled),
          );
          ended = a.ended;
          nothing = a.nothing;
          still = λ h. (a.took.at_end h).0;
        }

    -- what is after the limit is white as well
    pub passed_white : (new : X) → s.why ≡ stop.TooLarge → s.white ≡ true → Skips comes at_hand all sound reads s.place mid new (Ok true) → WasWhite comes at_hand all sound reads takes old new
    passed_white new why white skips =
        let k = skips.0 in
        let nothing : at_hand new ≡ [] = skips.1 in
        let a = subst (λ (w : Stop). AfterRun comes at_hand all sound reads takes limit old r.pieces mid t u s.at s.place s.white w) why r.after in
        let more = joined k.pieces in
        let none : all mid → more ++ [] ≡ [] = λ h. ap (λ (x : List ℕ). x ++ []) (k.still h).0 in
        let input = at_hand old ++ (joined r.pieces ++ (more ++ [])) in
        let first : Spells GameStart input (bare a.items) (at_hand mid ++ (more ++ [])) = spells_bare 0 GameStart _ a.items _ (a.took.spelled (more ++ []) none) in
        let there : s.place ≡ place_behind GameStart (bare a.items) = a.took.stands ∙ behind_bare GameStart a.items in
        let second : Spells (place_behind GameStart (bare a.items)) (at_hand mid ++ (more ++ [])) k.items (at_hand new ++ []) = subst (λ (p : Place). Spells p (at_hand mid ++ (more ++ [])) k.items (at_hand new ++ [])) there (k.spelled [] (λ h. refl)) in
        let whole : Spells GameStart input (bare a.items ++ k.items) (at_hand new ++ []) = spells_on GameStart input (bare a.items) k.items (at_hand mid ++ (more ++ [])) (at_hand new ++ []) first second in
        let parts : input ≡ at_hand old ++ joined (r.pieces ++ k.pieces) = ap (λ (x : List ℕ). at_hand old ++ x) (ap (λ (x : List ℕ). joined r.pieces ++ x) (append-nil more) ∙ sym (joined-append r.pieces k.pieces)) in
        record {
          pieces = r.pieces ++ k.pieces;
          came = Calls-append comes old mid new r.pieces k.pieces r.came k.came;
          white = (
            bare a.items ++ k.items,
            white_join (bare a.items) k.items (bare_white a.items ∙ sym a.took.whites ∙ white) k.white,
            subst (λ (x : List ℕ). Spells GameStart x (bare a.items ++ k.items) []) parts (subst (λ (x : List ℕ). Spells GameStart input (bare a.items ++ k.items) x) (append-nil (at_hand new) ∙ nothing) whole),
          );
          ended = k.ended nothing;
          nothing = nothing;
          still = λ h. (let first_end = a.took.at_end h in joined-append r.pieces k.pieces ∙ ap (λ (x : List ℕ). x ++ joined k.pieces) first_end.0 ∙ (k.still first_end.1).0);
        }

    -- something else comes after the limit
    pub passed_other : (new : X) → s.why ≡ stop.TooLarge → s.white ≡ true → Skips comes at_hand all sound reads s.place mid new (Ok false) → Passed comes at_hand all sound reads takes limit old new t u s
    passed_other new why white k = record { mid = mid; ran = r; after = inr (record { over = why; white = white; skipped = k.0; other = k.1 }); more = λ e. absurd (let h : stop.TooLarge ≡ stop.End = sym why ∙ e in cc) }

    pub passed_broken : (breaks : X → X → Type 0) (new : X) (fault : Fault) → s.why ≡ stop.TooLarge → s.white ≡ true → BreaksWhile comes at_hand breaks all reads (MaySkip s.place) mid new fault → PassBreaks comes at_hand all sound reads takes limit breaks old new t fault
    passed_broken breaks new Memory over white b = inr (record { mid = mid; last = u; stopped = s; ran = r; over = over; white = white; broke = b })
    passed_broken breaks new Read over white b = inr (record { mid = mid; last = u; stopped = s; ran = r; over = over; white = white; broke = b })

  pub run_broken : (breaks : X → X → Type 0) (new : X) (fault : Fault) → RunBreaks comes at_hand all sound reads takes limit breaks old new t fault → PassBreaks comes at_hand all sound reads takes limit breaks old new t fault
  run_broken breaks new Memory b = inl b
  run_broken breaks new Read b = inl b
