-- A search stays one that goes with its line.
use Rattle.std.proofs.Common.{◌≡◌, ℕ, ◌+◌, ◌<◌, ◌≤◌, ◌⊎◌, ⊎_elim, Bool, true, List, [], ◌∷◌, length, None, refl, sym, ap, subst, ◌∙◌, take, arith}
use Rattle.std.specs.List.{All}
use Rattle.std.specs.Prelude.{filter}
use Rattle.std.proofs.lemmas.List.Elements.{All-filter, All-take}
use Rattle.chess_types.specs.board.MoveParts.{MoveParts}
use Rattle.chess_types.specs.board.Legal.{is_legal, legal_moves}
use Rattle.chess_types.specs.board.Lines.{Line, last}
use Rattle.chess_moves.proofs.LegalLaws.{moves_legal}
use Rattle.chess_search.specs.Slices.{Progress, GoesWith}
use Rattle.chess_uci.specs.Machine.{or_all}
use Rattle.chess_uci.specs.declared.search.Search.{Search as Code}
use Rattle.chess_uci.specs.steps.Searches.{GoesOn}

abbrev Legal : Line → List MoveParts → Type 0
Legal line moves = All (λ m. is_legal (last line) m ≡ true) moves

-- the search of the same roots at another depth
abbrev pub again : ℕ → Progress → Progress
again depth p = record { depth = depth; claims = p.claims; roots = p.roots; searched = 0; kept = None; nodes = 1 }

goes_again : (line : Line) (depth : ℕ) (p q : Progress) → GoesWith line p → q ≡ again depth p → GoesWith line q
goes_again line depth p q goes e =
    let fresh : GoesWith line (again depth p) = record { legal = goes.legal; kept = refl } in
    subst (GoesWith line) (sym e) fresh

pub going_deeper : (line : Line) (x y : Code) → GoesWith line x.slices → 0 < length x.slices.roots → x.last ≤ 16 → x.slices.depth < x.last →
    y.slices ≡ again (x.slices.depth + 1) x.slices → y.last ≡ x.last → GoesOn line y
going_deeper line x y goes some shallow deeper e last =
    record {
      goes = goes_again line (x.slices.depth + 1) x.slices y.slices goes e;
      shallow = omega (arith, last);
      depth = rw (e, last) (omega arith);
      deep = rw e (omega arith);
      waits = rw e (λ h. absurd (omega (arith, h)));
    }

pub going_waits : (line : Line) (x y : Code) → GoesWith line x.slices → x.last ≤ 16 → x.slices.depth ≤ x.last → 1 ≤ x.slices.depth → y.slices ≡ x.slices →
    y.last ≡ x.last → y.infinite ≡ true → GoesOn line y
going_waits line x y goes shallow depth deep e last infinite =
    record {
      goes = rw e goes;
      shallow = omega (arith, last);
      depth = rw (e, last) depth;
      deep = rw e deep;
      waits = λ h. infinite;
    }

or_all_legal : (line : Line) (moves found : List MoveParts) → Legal line moves → Legal line found → Legal line (or_all found moves)
or_all_legal line moves [] all some = all
or_all_legal line moves (m ∷ ms) all some = some

or_all_some : (moves found : List MoveParts) → 0 < length moves → 0 < length (or_all found moves)
or_all_some moves [] h = h
or_all_some moves (m ∷ ms) h = omega arith

pub going_starts : (listed line : Line) (claims : Bool) (named : MoveParts → Bool) (moves : List MoveParts) (x : Code) → moves ≡ legal_moves (last listed) → line ≡ listed →
    x.slices ≡ record { depth = 1; claims = claims; roots = or_all (filter named moves) moves; searched = 0; kept = None; nodes = 1 } → 1 ≤ x.last → x.last ≤ 16 →
    (0 < length moves) ⊎ (x.infinite ≡ true) → GoesOn line x
going_starts listed line claims named moves x e same is deep shallow some =
    let roots = or_all (filter named moves) moves in
    let all : Legal listed moves = subst (Legal listed) (sym e) (moves_legal (last listed)) in
    let here : Legal line moves = subst (λ (l : Line). Legal l moves) (sym same) all in
    let fresh : Progress = record { depth = 1; claims = claims; roots = roots; searched = 0; kept = None; nodes = 1 } in
    let goes : GoesWith line fresh = record { legal = or_all_legal line moves (filter named moves) here (All-filter named (λ m. is_legal (last line) m ≡ true) moves here); kept = refl } in
    record {
      goes = subst (GoesWith line) (sym is) goes;
      shallow = shallow;
      depth = rw is deep;
      deep = rw is (omega arith);
      waits = rw is (λ h. ⊎_elim (λ (n : 0 < length moves). absurd (omega (arith, h, or_all_some moves (filter named moves) n))) (λ (i : x.infinite ≡ true). i) some);
    }

-- the first of the roots, as a list of roots
pub front_legal : (listed line : Line) (named : MoveParts → Bool) (moves roots prefix : List MoveParts) (k : ℕ) → prefix ≡ take k roots → roots ≡ or_all (filter named moves) moves →
    moves ≡ legal_moves (last listed) → line ≡ listed → Legal line prefix
front_legal listed line named moves roots prefix k e among all same =
    let legal : Legal line moves = subst (Legal line) (sym (all ∙ ap (λ (l : Line). legal_moves (last l)) (sym same))) (moves_legal (last line)) in
    let whole : Legal line roots = subst (Legal line) (sym among) (or_all_legal line moves (filter named moves) legal (All-filter named (λ m. is_legal (last line) m ≡ true) moves legal)) in
    subst (Legal line) (sym e) (All-take (λ m. is_legal (last line) m ≡ true) k roots whole)
