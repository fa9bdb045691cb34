-- The men other than kings as sets of squares.
use Rattle.std.proofs.Common.{◌≡◌, ℕ, ◌<◌, Bool, not, ◌&&◌, ◌||◌, filter, is_some, Option, Some, None, refl, sym, ap, ◌∙◌, arith}
use Rattle.std.specs.List.{list_all}
use Rattle.std.specs.Ordering.{nat_cmp}
use Rattle.std.specs.FinSet.{FinSet, contains, union, difference, contains-difference}
use Rattle.std.proofs.lemmas.Cmp.{nat_cmp_total}
use Rattle.chess_types.specs.declared.board.man.Colour.TheVariants.{White, Black}
use Rattle.chess_types.specs.declared.board.man.Kind.{Kind}
use Rattle.chess_types.specs.declared.board.man.Kind.TheVariants.{Pawn, Bishop}
use Rattle.chess_types.specs.declared.board.man.Man.{Man}
use Rattle.chess_types.specs.board.Squares.{squares}
use Rattle.chess_types.specs.board.Board.{Men}
use Rattle.chess_types.specs.board.Men.{same_kind, is_king_of}
use Rattle.chess_types.specs.board.Dead.{holds_bishop, is_light, is_one_coloured, is_other, others}
use Rattle.chess_types.specs.steps.KeptSets.{Gathers, is_straight, is_diagonal, holds_king, holds_straight, holds_diagonal}
use Rattle.chess_types.proofs.Runs.{list_all_at, list_all_from, same_test}
use Rattle.chess_types.proofs.SetShapes.{all_filtered}
use Rattle.chess_draws.proofs.SetLemmas.{both_gather, kings_there}

no_king : (there : Option Man) → (is_some there && not (holds_king there)) ≡ is_other there
no_king None = refl
no_king (Some man) = refl

-- the men other than kings
pub others_listed : (occupied white black kings rest : FinSet nat_cmp) (man_on : Men) → Gathers occupied is_some man_on →
    Gathers white (is_king_of White) man_on → Gathers black (is_king_of Black) man_on → kings ≡ union white black → rest ≡ difference occupied kings →
    filter (contains rest) squares ≡ others man_on
others_listed occupied white black kings rest man_on are_occupied are_white are_black is rest_is =
    let are_kings : Gathers kings holds_king man_on = both_gather (is_king_of White) (is_king_of Black) holds_king white black kings man_on are_white are_black kings_there is in
    let are_rest : (s : ℕ) → contains rest s ≡ is_other (man_on s) = λ s.
    ap (λ (x : FinSet nat_cmp). contains x s) rest_is ∙ contains-difference nat_cmp_total occupied kings s
    ∙ (λ i. are_occupied s i && not (are_kings s i)) ∙ no_king (man_on s) in
    λ i. filter (λ s. are_rest s i) squares

bishop_kind : (k : Kind) → (is_diagonal k && not (is_straight k)) ≡ same_kind k Bishop
bishop_kind Pawn = refl
bishop_kind _ = refl

bishop_there : (there : Option Man) → (holds_diagonal there && not (holds_straight there)) ≡ holds_bishop there
bishop_there None = refl
bishop_there (Some man) = bishop_kind man.kind

-- a bishop goes along diagonals, and not along ranks and files
pub bishops_gathered : (diagonal straight bishops : FinSet nat_cmp) (man_on : Men) → Gathers diagonal holds_diagonal man_on → Gathers straight holds_straight man_on →
    bishops ≡ difference diagonal straight → Gathers bishops holds_bishop man_on
bishops_gathered diagonal straight bishops man_on are_diagonal are_straight is s =
    ap (λ (x : FinSet nat_cmp). contains x s) is ∙ contains-difference nat_cmp_total diagonal straight s
    ∙ (λ i. are_diagonal s i && not (are_straight s i)) ∙ bishop_there (man_on s)

-- tests that agree on the board agree on the squares that are let through
pub all_agree : (p f g : ℕ → Bool) → ((s : ℕ) → s < 64 → f s ≡ g s) → list_all f (filter p squares) ≡ list_all g (filter p squares)
unfolding squares
all_agree p f g same =
    same_test _ _
    (λ h. all_filtered p g squares ∙ list_all_from (λ s. not (p s) || g s) 0 64 (λ s low high.
    ap (λ b. not (p s) || b) (sym (same s (omega arith))) ∙ list_all_at (λ s. not (p s) || f s) 0 64 s (sym (all_filtered p f squares) ∙ h) low high))
    (λ h. all_filtered p f squares ∙ list_all_from (λ s. not (p s) || f s) 0 64 (λ s low high.
    ap (λ b. not (p s) || b) (same s (omega arith)) ∙ list_all_at (λ s. not (p s) || g s) 0 64 s (sym (all_filtered p g squares) ∙ h) low high))

-- only bishops, on squares of one colour
pub one_coloured_is : (rest bishops light dark : FinSet nat_cmp) (man_on : Men) → filter (contains rest) squares ≡ others man_on → Gathers bishops holds_bishop man_on →
    ((s : ℕ) → s < 64 → contains light s ≡ is_light s) → ((s : ℕ) → s < 64 → contains dark s ≡ not (is_light s)) →
    (list_all (contains bishops) (filter (contains rest) squares)
    && (list_all (contains light) (filter (contains rest) squares) || list_all (contains dark) (filter (contains rest) squares))) ≡ is_one_coloured man_on
one_coloured_is rest bishops light dark man_on is are_bishops are_light are_dark =
    (λ i. list_all (λ s. are_bishops s i) (filter (contains rest) squares)
    && (all_agree (contains rest) (contains light) is_light are_light i || all_agree (contains rest) (contains dark) (λ s. not (is_light s)) are_dark i))
    ∙ (λ i. list_all (λ s. holds_bishop (man_on s)) (is i) && (list_all is_light (is i) || list_all (λ s. not (is_light s)) (is i)))
