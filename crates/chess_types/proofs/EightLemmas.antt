-- Eight texts, one after another with a byte between each two: what is still to come, and each more.
use Rattle.std.proofs.Common.{◌≡◌, ℕ, zero, suc, ◌+◌, ◌-◌, ◌<◌, List, [], ◌∷◌, ◌++◌, map, sym, ap, ◌∙◌, append-nil, append_assoc, arith}
use Rattle.std.specs.List.{join_with_byte}
use Rattle.chess_types.specs.board.Diagram.{eight}

module _ (gap : ℕ) (text : ℕ → List ℕ) where
  -- so many texts from one on, each after the byte
  abbrev pub ahead : ℕ → ℕ → List ℕ
  ahead from zero = []
  ahead from (suc n) = gap ∷ text from ++ ahead (from + 1) n

  all_eight : text 0 ++ ahead 1 7 ≡ join_with_byte gap (map text eight)
  all_eight = simp append-nil

  pub begun : (old new : List ℕ) → new ≡ old ++ text 0 → new ++ ahead 1 7 ≡ old ++ join_with_byte gap (map text eight)
  begun old new is = ap (λ n. n ++ ahead 1 7) is ∙ append_assoc old (text 0) (ahead 1 7) ∙ ap (λ t. old ++ t) all_eight

  pub one_more : (k : ℕ) (whole old mid new : List ℕ) → k < 8 → old ++ ahead k (8 - k) ≡ whole → mid ≡ old ++ gap ∷ [] → new ≡ mid ++ text k →
      new ++ ahead (k + 1) (8 - (k + 1)) ≡ whole
  one_more k whole old mid new low so_far gapped is =
      let left : 8 - k ≡ suc (8 - (k + 1)) = omega arith in
      let here : old ++ ahead k (suc (8 - (k + 1))) ≡ whole = ap (λ n. old ++ ahead k n) (sym left) ∙ so_far in
      rw (is, gapped) (simp append_assoc here)
