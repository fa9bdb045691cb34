-- Where the moves so seen are legal exactly where the moves are, the lists of legal moves go together.
use Rattle.std.proofs.Common.{◌≡◌, ℕ, ◌<◌, sym, ap, ◌∙◌, inl, inr}
use Rattle.std.specs.List.{Contains}
use Rattle.std.proofs.lemmas.Bool.{cases_Bool, true≢false}
use Rattle.chess_types.specs.declared.board.man.Colour.{Colour}
use Rattle.chess_types.specs.board.MoveParts.{MoveParts}
use Rattle.chess_types.specs.board.Position.{PositionParts}
use Rattle.chess_types.specs.board.Legal.{is_legal, legal_moves}
use Rattle.chess_types.specs.board.Outcome.{is_without}
use Rattle.chess_moves.proofs.LegalLaws.{legal_listed, listed_legal}
use Rattle.chess_theorems.proofs.ListedLemmas.{first_of, listed_some}
use Rattle.chess_theorems.proofs.Symmetry.{Symmetry, seen_move}

pub seen_twice : (σ : ℕ → ℕ) (κ : Colour → Colour) → Symmetry σ κ → (n : MoveParts) → n.from < 64 → n.to < 64 → seen_move σ (seen_move σ n) ≡ n
seen_twice σ κ law n from to = λ i. record { from = law.twice n.from from i; to = law.twice n.to to i; promo = n.promo }

module _ (σ : ℕ → ℕ) (κ : Colour → Colour) (law : Symmetry σ κ) (p q : PositionParts)
    (legal : (m : MoveParts) → m.from < 64 → m.to < 64 → is_legal q (seen_move σ m) ≡ is_legal p m) where
  -- a listed move is listed there, so seen, and back
  pub listed_seen : (m : MoveParts) → Contains (legal_moves p) m → Contains (legal_moves q) (seen_move σ m)
  listed_seen m listed =
      let (on, is) = listed_legal p m listed in
      legal_listed q (seen_move σ m) (record { from = law.inside m.from on.from; to = law.inside m.to on.to }) (legal m on.from on.to ∙ is)

  pub listed_back : (n : MoveParts) → Contains (legal_moves q) n → Contains (legal_moves p) (seen_move σ n)
  listed_back n listed =
      let (on, is) = listed_legal q n listed in
      let inside_from : σ n.from < 64 = law.inside n.from on.from in
      let inside_to : σ n.to < 64 = law.inside n.to on.to in
      legal_listed p (seen_move σ n) (record { from = inside_from; to = inside_to })
      (sym (legal (seen_move σ n) inside_from inside_to) ∙ ap (is_legal q) (seen_twice σ κ law n on.from on.to) ∙ is)

  -- there is a legal move where there is one so seen
  pub none_seen : is_without (legal_moves q) ≡ is_without (legal_moves p)
  none_seen =
      elim (cases_Bool (is_without (legal_moves p))) [
        | inr some ↦
            let (m, listed) = first_of (legal_moves p) some in
            listed_some (legal_moves q) (seen_move σ m) (listed_seen m listed) ∙ sym some
        | inl empty ↦ elim (cases_Bool (is_without (legal_moves q))) [
          | inl also ↦ also ∙ sym empty
          | inr some ↦
              let (n, listed) = first_of (legal_moves q) some in
              absurd (true≢false (sym empty ∙ listed_some (legal_moves p) (seen_move σ n) (listed_back n listed)))
        ]
      ]
