-- What is said of a call on a slot that is known to hold a board.
use Rattle.std.proofs.Common.{◌≡◌, ◌∙◌, ℕ, ◌+◌, ◌==◌, ne_eqb, arith, Bool, false, if◌then◌else◌, List, ap, refl, sym, subst}
use Rattle.std.specs.Prelude.{Option, Some, Result, Ok, Err, is_ok}
use Rattle.chess_fen.specs.Faults.{fen_fault_number}
use Rattle.chess_tree.specs.GameTree.{TreeParts}
use Rattle.chess_uci.specs.declared.event.Event.{Event}
use Rattle.chess_uci.specs.Machine.{State}
use Rattle.chess_cli.specs.declared.board_command.refusal.Refusal.{Refusal}
use Rattle.chess_cli.specs.declared.board_command.refusal.Refusal.TheVariants.{Fen}
use Rattle.chess_bindings.specs.Answers.{IsLineAnswered}
use Rattle.chess_bindings.specs.Codes.{ok}
use Rattle.chess_bindings.specs.Headings.{HeadingParts}
use Rattle.chess_bindings.specs.Loads.{LoadsFrom}
use Rattle.chess_bindings.specs.Next.{LoadsNext}
use Rattle.chess_c.specs.Asked.{SaysAdded}
use Rattle.chess_c.specs.Calls.{Acts, ActsOnHeading, AsksHeading, IsAnswerHanded, IsReplying, IsReplyingWithin}
use Rattle.chess_c.specs.Codes.{ended_code, refusal_code}
use Rattle.chess_c.specs.Engines.{IsRepliedFrom, IsRepliedWithinFrom}
use Rattle.chess_c.specs.Held.{Held, Searching, with_board, with_engine, with_heading, with_search}
use Rattle.chess_c.specs.Loads.{Loads, LoadsAsItComes}
use Rattle.chess_c.specs.Searches.{IsBegun, IsBegunFrom, IsSliced, IsSlicedWithin, SlicedFrom, SlicedWithinFrom}

pub acts_some : (ends : TreeParts → Result (Unit {0}) Refusal → TreeParts → Type 0) → (old new : Option Held) → (held : Held) → (after : TreeParts)
    → (ended : Result (Unit {0}) Refusal) → (code : ℕ) → old ≡ Some held → new ≡ Some (with_board after held) → code ≡ ended_code ended → ends held.board ended after → Acts ends old code new
acts_some ends old new held after ended code is en ec end = subst (λ (o : Option Held). Acts ends o code new) (sym is) (ended, after, end, ec, en)

-- only what is done has the status of what is done
refused_code : (refusal : Refusal) → (refusal_code refusal == ok) ≡ false
refused_code (Fen fault) = ne_eqb (20 + fen_fault_number fault) 0 (λ same. absurd (omega (arith, same)))
refused_code _ = refl

ended_ok : (ended : Result (Unit {0}) Refusal) → (ended_code ended == ok) ≡ is_ok ended
ended_ok (Ok _) = refl
ended_ok (Err refusal) = refused_code refusal

pub says_added : (is_new : TreeParts → Bool) → (old : Option Held) → (held : Held) → (ended : Result (Unit {0}) Refusal) → (code : ℕ) → (said said' : Bool)
    → old ≡ Some held → code ≡ ended_code ended → said' ≡ (if is_ok ended then is_new held.board else said) → SaysAdded is_new old code said said'
says_added is_new old held ended code said said' is ec e =
    let done : (code == ok) ≡ is_ok ended = ap (λ (c : ℕ). c == ok) ec ∙ ended_ok ended in
    subst (λ (o : Option Held). SaysAdded is_new o code said said') (sym is) (e ∙ ap (λ (b : Bool). if b then is_new held.board else said) (sym done))

-- the others are as they were
same_but_board : (held after : Held) → after.heading ≡ held.heading → after.search ≡ held.search → after.engine ≡ held.engine → after ≡ with_board after.board held
same_but_board held after kh ks ke =
    ap (λ (h : HeadingParts). record { board = after.board; heading = h; search = after.search; engine = after.engine }) kh
    ∙ ap (λ (s : Option Searching). record { board = after.board; heading = held.heading; search = s; engine = after.engine }) ks
    ∙ ap (λ (e : State). record { board = after.board; heading = held.heading; search = held.search; engine = e }) ke

same_but_search : (held after : Held) → after.board ≡ held.board → after.heading ≡ held.heading → after.engine ≡ held.engine → after ≡ with_search after.search held
same_but_search held after kb kh ke =
    ap (λ (b : TreeParts). record { board = b; heading = after.heading; search = after.search; engine = after.engine }) kb
    ∙ ap (λ (h : HeadingParts). record { board = held.board; heading = h; search = after.search; engine = after.engine }) kh
    ∙ ap (λ (e : State). record { board = held.board; heading = held.heading; search = after.search; engine = e }) ke

same_but_engine : (held after : Held) → after.board ≡ held.board → after.heading ≡ held.heading → after.search ≡ held.search → after ≡ with_engine after.engine held
same_but_engine held after kb kh ks =
    ap (λ (b : TreeParts). record { board = b; heading = after.heading; search = after.search; engine = after.engine }) kb
    ∙ ap (λ (h : HeadingParts). record { board = held.board; heading = h; search = after.search; engine = after.engine }) kh
    ∙ ap (λ (s : Option Searching). record { board = held.board; heading = held.heading; search = s; engine = after.engine }) ks

pub answered_some : (line : List ℕ) → (old new : Option Held) → (held after : Held) → (code count count' : ℕ) → (room room' : List ℕ)
    → old ≡ Some held → new ≡ Some after → after.heading ≡ held.heading → after.search ≡ held.search → after.engine ≡ held.engine → IsLineAnswered held.board line code count count' room room' after.board
    → IsAnswerHanded old line code count count' room room' new
answered_some line old new held after code count count' room room' is en kh ks ke told =
    subst (λ (o : Option Held). IsAnswerHanded o line code count count' room room' new) (sym is) (after.board, told, en ∙ ap (λ (h : Held). Some h) (same_but_board held after kh ks ke))

pub replying_some : (event : Event) → (old new : Option Held) → (held after : Held) → (code count count' : ℕ) → (room room' : List ℕ)
    → old ≡ Some held → new ≡ Some after → after.board ≡ held.board → after.heading ≡ held.heading → after.search ≡ held.search
    → IsRepliedFrom event held.engine after.engine code count count' room room' → IsReplying event old code count count' room room' new
replying_some event old new held after code count count' room room' is en kb kh ks replied =
    subst (λ (o : Option Held). IsReplying event o code count count' room room' new) (sym is) (after.engine, replied, en ∙ ap (λ (h : Held). Some h) (same_but_engine held after kb kh ks))

pub replying_within_some : (says : ℕ → Option Bool) → (old new : Option Held) → (held after : Held) → (nodes nodes' : ℕ) → (made made' : Bool) → (code count count' : ℕ)
    → (room room' : List ℕ) → old ≡ Some held → new ≡ Some after → after.board ≡ held.board → after.heading ≡ held.heading → after.search ≡ held.search
    → IsRepliedWithinFrom says held.engine after.engine nodes nodes' made made' code count count' room room' → IsReplyingWithin says old nodes nodes' made made' code count count' room room' new
replying_within_some says old new held after nodes nodes' made made' code count count' room room' is en kb kh ks replied =
    subst (λ (o : Option Held). IsReplyingWithin says o nodes nodes' made made' code count count' room room' new) (sym is)
    (after.engine, replied, en ∙ ap (λ (h : Held). Some h) (same_but_engine held after kb kh ks))

pub begun_some : (depth : ℕ) → (old new : Option Held) → (held after : Held) → (code : ℕ) → old ≡ Some held → new ≡ Some after → after.board ≡ held.board → after.heading ≡ held.heading → after.engine ≡ held.engine
    → IsBegunFrom depth held.board code held.search after.search → IsBegun depth old code new
begun_some depth old new held after code is en kb kh ke begun =
    subst (λ (o : Option Held). IsBegun depth o code new) (sym is) (after.search, begun, en ∙ ap (λ (h : Held). Some h) (same_but_search held after kb kh ke))

pub sliced_some : (old new : Option Held) → (held after : Held) → (code said said' : ℕ) → old ≡ Some held → new ≡ Some after → after.board ≡ held.board → after.heading ≡ held.heading → after.engine ≡ held.engine
    → SlicedFrom held.search code said said' after.search → IsSliced old code said said' new
sliced_some old new held after code said said' is en kb kh ke sliced =
    subst (λ (o : Option Held). IsSliced o code said said' new) (sym is) (after.search, sliced, en ∙ ap (λ (h : Held). Some h) (same_but_search held after kb kh ke))

pub sliced_within_some : (says : ℕ → Option Bool) → (old new : Option Held) → (held after : Held) → (code said said' nodes nodes' : ℕ) → old ≡ Some held → new ≡ Some after
    → after.board ≡ held.board → after.heading ≡ held.heading → after.engine ≡ held.engine → SlicedWithinFrom says held.search code said said' nodes nodes' after.search
    → IsSlicedWithin says old code said said' nodes nodes' new
sliced_within_some says old new held after code said said' nodes nodes' is en kb kh ke sliced =
    subst (λ (o : Option Held). IsSlicedWithin says o code said said' nodes nodes' new) (sym is)
    (after.search, sliced, en ∙ ap (λ (h : Held). Some h) (same_but_search held after kb kh ke))

pub loaded_some : (text : List ℕ) → (old new : Option Held) → (held after : Held) → (code used used' : ℕ) → old ≡ Some held → new ≡ Some after → after.search ≡ held.search → after.engine ≡ held.engine
    → LoadsFrom text held.board held.heading code used used' after.board after.heading → Loads text old code used used' new
loaded_some text old new held after code used used' is en ks ke loads =
    subst (λ (o : Option Held). Loads text o code used used' new) (sym is) (
      after.board,
      after.heading,
      loads,
      en ∙ ap (λ (h : Held). Some h) (
          ap (λ (s : Option Searching). record { board = after.board; heading = after.heading; search = s; engine = after.engine }) ks
          ∙ ap (λ (e : State). record { board = after.board; heading = after.heading; search = held.search; engine = e }) ke),
    )

pub loaded_next : (text : List ℕ) → (is_last : Bool) → (old new : Option Held) → (held after : Held) → (code used used' : ℕ) → old ≡ Some held → new ≡ Some after → after.search ≡ held.search → after.engine ≡ held.engine
    → LoadsNext text is_last held.board held.heading code used used' after.board after.heading → LoadsAsItComes text is_last old code used used' new
loaded_next text is_last old new held after code used used' is en ks ke loads =
    subst (λ (o : Option Held). LoadsAsItComes text is_last o code used used' new) (sym is) (
      after.board,
      after.heading,
      loads,
      en ∙ ap (λ (h : Held). Some h) (
          ap (λ (s : Option Searching). record { board = after.board; heading = after.heading; search = s; engine = after.engine }) ks
          ∙ ap (λ (e : State). record { board = after.board; heading = after.heading; search = held.search; engine = e }) ke),
    )

pub acts_on_heading : (ends : HeadingParts → ℕ → HeadingParts → Type 0) → (old new : Option Held) → (held : Held) → (after : HeadingParts) → (code : ℕ)
    → old ≡ Some held → new ≡ Some (with_heading after held) → ends held.heading code after → ActsOnHeading ends old code new
acts_on_heading ends old new held after code is en end = subst (λ (o : Option Held). ActsOnHeading ends o code new) (sym is) (after, end, en)

pub asks_heading : (kept : Type 0) → (says : TreeParts → HeadingParts → ℕ → Type 0) → (old new : Option Held) → (held : Held) → (code : ℕ) → old ≡ Some held → new ≡ Some held
    → says held.board held.heading code → AsksHeading kept says old code new
asks_heading kept says old new held code is en said = subst (λ (o : Option Held). AsksHeading kept says o code new) (sym is) (said, en)
