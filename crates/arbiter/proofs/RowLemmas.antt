-- What a report says in a row.
use Rattle.std.proofs.Common.{◌≡◌, ℕ, Bool, true, false, if◌then◌else◌, nat_lt, not, ◌&&◌, List, [], ◌++◌, Option, Some, None, ◌⊎◌, inl, inr, refl, sym, ap, subst, ◌∙◌}
use Rattle.std.specs.Prelude.{IfSome, is_some, option_map}
use Rattle.chess_types.specs.declared.board.outcome.Status.{Status}
use Rattle.chess_types.specs.board.Lines.{AreLegal, Line}
use Rattle.chess_types.specs.board.Position.{PositionParts}
use Rattle.chess_types.specs.board.Outcome.{claims, status, status_text}
use Rattle.chess_fen.specs.Writing.{written}
use Rattle.chess_collection.specs.Headings.{Heading}
use Rattle.chess_collection.specs.declared.handler.Fate.{Fate}
use Rattle.chess_items.specs.declared.fault.FaultKind.TheVariants.{Memory}
use Rattle.chess_items.specs.declared.fault.PgnFault.{PgnFault}
use Rattle.chess_pgn.specs.Games.{Game}
use Rattle.chess_pgn.specs.Reading.{HasNoGame}
use Rattle.chess_repair.specs.Letters.{IsInLetters}
use Rattle.chess_report.specs.MainLine.{as_far, main}
use Rattle.chess_report.specs.Findings.{first_fifty, first_over, first_threefold, is_over, played_on}
use Rattle.chess_report.specs.declared.report.Over.{Over}
use Rattle.chess_report.specs.declared.report.Report.{Report}
use Rattle.arbiter.specs.Cells.{Cell, row_text}
use Rattle.arbiter.specs.Collections.{Found, IsRow, IsRowIn, row_of}
use Rattle.arbiter.specs.Rows.{early, ending_cells, game_cells, move_leading_to, over_early, has_finding, line_cells, place_cells, roster_cells, roster_in}
use Rattle.arbiter.specs.declared.judge.Asked.{Asked}
use Rattle.arbiter.proofs.NumberLemmas.{IsWithin, early_within, first_within, move_is}
use Rattle.arbiter.specs.steps.Reports.{IsReportOf, is_finding, move_by, report_cells}

-- ---- where a game was over before its end

ply_by : (over : Over) (test : Bool) → option_map (λ (o : Over). o.ply) (if test then Some over else None) ≡ (if test then Some over.ply else None)
ply_by over true = refl
ply_by over false = refl

ply_is : (over : Option Over) (plies : ℕ) → option_map (λ o. o.ply) (played_on over plies) ≡ early (option_map (λ o. o.ply) over) plies
ply_is None plies = refl
ply_is (Some over) plies = ply_by over (nat_lt over.ply plies)

why_by : (over : Over) (line : Line) (test : Bool) → over.why ≡ status (as_far over.ply line)
    → option_map (λ (o : Over). status_text o.why) (if test then Some over else None) ≡ option_map status_text (option_map (λ ply. status (as_far ply line)) (if test then Some over.ply else None))
why_by over line true is = ap (λ (s : Status). Some (status_text s)) is
why_by over line false is = refl

why_is : (over : Option Over) (plies : ℕ) (line : Line) → IfSome over (λ o. o.why ≡ status (as_far o.ply line))
    → option_map (λ o. status_text o.why) (played_on over plies) ≡ option_map status_text (option_map (λ ply. status (as_far ply line)) (early (option_map (λ o. o.ply) over) plies))
why_is None plies line is = refl
why_is (Some over) plies line is = why_by over line (nat_lt over.ply plies) is

some_is : {X Y : Type 0} (f : X → Y) (x : Option X) → is_some x ≡ is_some (option_map f x)
some_is f (Some x) = refl
some_is f None = refl

-- a text whose fault isn't want of memory has no game
pub fault_found : (text : List ℕ) (fault : PgnFault) → (fault.kind ≡ Memory → ⊥) → (fault.kind ≡ Memory) ⊎ HasNoGame text → HasNoGame text
fault_found text fault not (inl is) = absurd (not is)
fault_found text fault not (inr none) = none

-- what is said of a text in the standard's letters
pub row_in : (asked : Asked) (number offset : ℕ) (bytes spelt slice : List ℕ) (used : ℕ) (fate : Fate) (text : List ℕ) → slice ≡ spelt → IsInLetters asked.letters bytes spelt → IsRow asked number offset slice used fate text
    → IsRowIn asked number offset bytes used fate text
row_in asked number offset bytes spelt slice used fate text same is row = (spelt, is, subst (λ (t : List ℕ). IsRow asked number offset t used fate text) same row)

-- ---- what a report says

module _ (report : Report) (game : Game) (is : IsReportOf report game) (legal : AreLegal game.tree.start (main game.tree).moves) where
  ply_early : option_map (λ o. o.ply) (played_on report.over report.plies) ≡ early (option_map (λ o. o.ply) report.over) report.plies
  ply_early = ply_is report.over report.plies

  move_here : (ply : Option ℕ) → IsWithin (main game.tree) ply → move_by game.tree.start ply ≡ move_leading_to (main game.tree) ply
  move_here ply within = move_is (main game.tree) legal ply within

  -- in the words of the Laws
  pub report_says : (heading : Heading) (unmarked : Option Bool) → report_cells report game.tree.start (written game.tree.start) (written report.last) heading unmarked ≡ line_cells (main game.tree) game.outcome heading unmarked
  report_says heading unmarked =
      rw (
        ply_early,
        why_is report.over report.plies (main game.tree) is.why,
        is.over,
        is.plies,
        is.marker,
        is.stands,
        is.mates,
        is.threefold,
        is.fifty,
        is.repetitions,
        is.quiet,
        is.fits,
        is.end,
        move_here (over_early (main game.tree)) (early_within (main game.tree) (first_over (main game.tree)) (first_within is_over (main game.tree))),
        move_here (first_threefold (main game.tree)) (first_within (λ l. (claims l).threefold) (main game.tree)),
        move_here (first_fifty (main game.tree)) (first_within (λ l. (claims l).fifty) (main game.tree)),
      ) refl

  pub finding_is : (heading : Heading) (unmarked : Bool) → is_finding game.tags report game.tree.start heading unmarked ≡ has_finding game heading unmarked
  finding_is heading unmarked = rw (some_is (λ (o : Over). o.ply) (played_on report.over report.plies), ply_early, is.over, is.plies, is.fits, is.marker, is.stands, is.end) refl

  tested_at : (start : PositionParts) (heading : Heading) (unmarked test : Bool) → start ≡ game.tree.start → test ≡ is_finding game.tags report start heading unmarked → test ≡ is_finding game.tags report game.tree.start heading unmarked
  tested_at start heading unmarked test begins tested = subst (λ (p : PositionParts). test ≡ is_finding game.tags report p heading unmarked) begins tested

  -- the cells of a game, by its report
  pub cells_say : (number offset : ℕ) (heading : Heading) (unmarked : Option Bool) (fault : Option PgnFault) (start : PositionParts) (first : List ℕ) → start ≡ game.tree.start → first ≡ written start
      → game_cells number offset game heading unmarked fault ≡ place_cells number offset ++ (roster_cells (roster_in game.tags) ++ (report_cells report start first (written report.last) heading unmarked ++ ending_cells fault))
  cells_say number offset heading unmarked fault start first begins spelled =
      rw (spelled, begins) (ap (λ (cells : List Cell). place_cells number offset ++ (roster_cells (roster_in game.tags) ++ (cells ++ ending_cells fault))) (sym (report_says heading unmarked)))

  -- the row of a game that is asked for
  pub row_says : (asked : Asked) (number offset : ℕ) (heading : Heading) (unmarked : Bool) (start : PositionParts) (first : List ℕ) (test : Bool) → start ≡ game.tree.start → first ≡ written start
      → test ≡ is_finding game.tags report start heading unmarked → (asked.findings && not test) ≡ false
      → row_of asked number offset (Found game heading unmarked)
      ≡ row_text asked.format (place_cells number offset ++ (roster_cells (roster_in game.tags) ++ (report_cells report start first (written report.last) heading (Some unmarked) ++ ending_cells None)))
  row_says asked number offset heading unmarked start first test begins spelled tested wanted =
      let asks : (asked.findings && not (has_finding game heading unmarked)) ≡ false = rw (sym (finding_is heading unmarked), sym (tested_at start heading unmarked test begins tested)) wanted in
      ap (λ (b : Bool). if b then [] else row_text asked.format (game_cells number offset game heading (Some unmarked) None)) asks
      ∙ ap (λ (cells : List Cell). row_text asked.format cells) (cells_say number offset heading (Some unmarked) None start first begins spelled)

  -- the row of one that is repaired
  pub mended_says : (asked : Asked) (number offset : ℕ) (heading : Heading) (fault : PgnFault) (start : PositionParts) (first : List ℕ) → start ≡ game.tree.start → first ≡ written start
      → row_text asked.format (game_cells number offset game heading None (Some fault))
      ≡ row_text asked.format (place_cells number offset ++ (roster_cells (roster_in game.tags) ++ (report_cells report start first (written report.last) heading None ++ ending_cells (Some fault))))
  mended_says asked number offset heading fault start first begins spelled = ap (λ (cells : List Cell). row_text asked.format cells) (cells_say number offset heading None (Some fault) start first begins spelled)
