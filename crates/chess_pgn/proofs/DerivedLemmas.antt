-- What is read from left to right is exactly what the elements derive, and nothing else is derived.
use Rattle.std.proofs.Common.{◌≡◌, ℕ, List, [], Option, Some, None, refl, sym, ap, ◌∙◌}
use Rattle.chess_types.specs.board.Position.{PositionParts}
use Rattle.chess_items.proofs.FoundLemmas.{some_is}
use Rattle.chess_tree.specs.Forest.{Forest, Bare}
use Rattle.chess_pgn.specs.Grammar.{Derives, Element, Addition, comments_joined, meaning, ◌>>=◌}
use Rattle.chess_pgn.specs.steps.Elements.{run}
use Rattle.chess_pgn.proofs.MeetLemmas.{Answer, ended, finish, meets}
use Rattle.chess_pgn.proofs.ParseLemmas.{Lines, LastLine, More, Bad, parse, parse-of, parse-back}

-- the reading of a game's own line
abbrev pub outcome : List Element → PositionParts → List ℕ → Answer
outcome es start before = run es [] Bare [] None start before []

abbrev given : List ℕ → Addition → List ℕ × Forest
given before r = ended [] Bare [] None before r

abbrev pair : List ℕ → Forest → Answer
pair c f = Some (c, f)

pair_is : (c d : List ℕ) (f g : Forest) → pair c f ≡ pair d g → (c ≡ d) × (f ≡ g)
pair_is c d f g e =
    let p = some_is {A = List ℕ × Forest} (c, f) (d, g) e in
    (ap (λ (x : List ℕ × Forest). x.0) p, ap (λ (x : List ℕ × Forest). x.1) p)

part_back : (o : Option Addition) (before c : List ℕ) (f : Forest) → (o >>= λ r. Some (given before r)) ≡ Some (c, f) → (r : Addition) × (o ≡ Some r) × (c ≡ comments_joined before r.comment) × (f ≡ r.below)
part_back None before c f e = absurd cc
part_back (Some r) before c f e = let p = pair_is (comments_joined before r.comment) c r.below f e in (r, refl, sym p.0, sym p.1)

by_lines : (ls : Lines) (start : PositionParts) (before : List ℕ) (es : List Element) → parse es ≡ ls → (c : List ℕ) (f : Forest) → finish ls [] Bare [] None start before [] ≡ Some (c, f) → Derives es start before c f
by_lines (LastLine l) start before es p c f e =
    let b = part_back (meaning l None start) before c f e in
    record { line = l; spelled = sym (parse-back es l p); part = b.0; means = b.1; remarks = b.2; tree = b.3 }
by_lines (More l ls) start before es p c f e = absurd cc
by_lines Bad start before es p c f e = absurd cc

-- what is read is derived
pub derived : (es : List Element) (start : PositionParts) (before c : List ℕ) (f : Forest) → outcome es start before ≡ Some (c, f) → Derives es start before c f
derived es start before c f e = by_lines (parse es) start before es refl c f (sym (meets es [] Bare [] None start before [] tt tt) ∙ e)

-- what is derived is read
pub read_again : (es : List Element) (start : PositionParts) (before c : List ℕ) (f : Forest) → Derives es start before c f → outcome es start before ≡ Some (c, f)
read_again es start before c f d =
    meets es [] Bare [] None start before [] tt tt
    ∙ ap (λ (x : List Element). finish (parse x) [] Bare [] None start before []) d.spelled
    ∙ ap (λ (x : Lines). finish x [] Bare [] None start before []) (parse-of d.line)
    ∙ ap (λ (o : Option Addition). o >>= λ r. Some (given before r)) d.means
    ∙ ap (λ (x : List ℕ). pair x d.part.below) (sym d.remarks)
    ∙ ap (pair c) (sym d.tree)

-- the elements derive one game
pub only_one : (es : List Element) (start : PositionParts) (before c d : List ℕ) (f g : Forest) → Derives es start before c f → Derives es start before d g → (c ≡ d) × (f ≡ g)
only_one es start before c d f g x y = pair_is c d f g (sym (read_again es start before c f x) ∙ read_again es start before d g y)
