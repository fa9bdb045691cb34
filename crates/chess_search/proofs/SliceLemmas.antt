-- One slice more.
use Rattle.std.proofs.Common.{◌≡◌, ℕ, ◌+◌, ◌-◌, ◌<◌, ◌≤◌, None, Some, arith, eq-eqb, ⊎_elim, ℤ, ap, sym, ◌∙◌, Option, length, get_or, take, subst}
use Rattle.std.proofs.lemmas.Bool.{cases_lt}
use Rattle.std.proofs.Math.Seq.{take-length}
use Rattle.chess_types.specs.board.MoveParts.{MoveParts}
use Rattle.chess_types.specs.board.Lines.{Line}
use Rattle.chess_search.specs.Value.{worth}
use Rattle.chess_search.specs.Best.{best}
use Rattle.chess_search.specs.Slices.{Progress, GoesWith, done_of}
use Rattle.chess_search.specs.steps.Windows.{better}
use Rattle.chess_search.proofs.RootLemmas.{best_more_root, best_some}

abbrev pub with_kept : Progress → Option (MoveParts × ℤ) → ℕ → Progress
with_kept p k n = record { depth = p.depth; claims = p.claims; roots = p.roots; searched = p.searched + 1; kept = k; nodes = n }

-- the better of what was kept and the next root is the best of one root more
pub slice_kept : (line : Line) (p : Progress) (k : Option (MoveParts × ℤ)) (m : MoveParts) → GoesWith line p → p.searched < length p.roots →
    m ≡ get_or p.roots p.searched m → k ≡ better p.kept m (worth p.claims (p.depth - 1) line 0 m) → k ≡ best p.claims p.depth line (take (p.searched + 1) p.roots)
slice_kept line p k m goes left is step =
    step ∙ ap (λ x. better x m (worth p.claims (p.depth - 1) line 0 m)) goes.kept ∙ sym (best_more_root (worth p.claims (p.depth - 1) line 0) p.roots p.searched m left is)

pub slice_goes : (line now : Line) (p : Progress) (k : Option (MoveParts × ℤ)) (n : ℕ) → GoesWith line p → now ≡ line →
    k ≡ best p.claims p.depth line (take (p.searched + 1) p.roots) → GoesWith now (with_kept p k n)
slice_goes line now p k n goes same e = subst (λ l. GoesWith l (with_kept p k n)) (sym same) (record { legal = goes.legal; kept = e })

-- once each root was searched, what is done is the best of all
pub done_is : (line : Line) (p : Progress) → GoesWith line p → p.searched ≡ length p.roots → done_of p ≡ best p.claims p.depth line p.roots
done_is line p goes e =
    rw (eq-eqb p.searched (length p.roots) e)
    (goes.kept ∙ ap (λ n. best p.claims p.depth line (take n p.roots)) e ∙ ap (best p.claims p.depth line) (take-length p.roots))

-- while nothing is done, a root is left
pub root_left : (line : Line) (p : Progress) → GoesWith line p → done_of p ≡ None → 0 < length p.roots → p.searched ≤ length p.roots → p.searched < length p.roots
root_left line p goes h some le =
    ⊎_elim
    (λ (lt : p.searched < length p.roots). lt)
    (λ (ge : length p.roots ≤ p.searched).
    let all : p.searched ≡ length p.roots = omega arith in
    let found = best_some (worth p.claims (p.depth - 1) line 0) p.roots some in
    let clash : None ≡ Some found.0 = sym h ∙ done_is line p goes all ∙ found.1 in
    cc)
    (cases_lt p.searched (length p.roots))

-- what a slice finds: what is kept is the best so far, and a root is left
pub record IsUnderway (line : Line) (p : Progress) : Type 0 where
  pub goes : GoesWith line p
  pub left : p.searched < length p.roots

pub underway : {line : Line} {p seen : Progress} → p ≡ seen → GoesWith line seen → done_of seen ≡ None → 0 < length seen.roots → p.searched ≤ length p.roots → IsUnderway line p
underway {line} {p} {seen} is goes none some within =
    let also : GoesWith line p = subst (GoesWith line) (sym is) goes in
    record { goes = also; left = root_left line p also (ap done_of is ∙ none) (subst (λ (q : Progress). 0 < length q.roots) (sym is) some) within }
