-- Positions are the same exactly where they have the same text of four fields.
use Rattle.std.proofs.Common.{◌≡◌, ◌∙◌, ℕ, Bool, true, false, List, [], ◌∷◌, ◌++◌, Option, Some, None, ap, arith, inl, inr, refl, sym}
use Rattle.std.specs.Prelude.{◌&&◌, if◌then◌else◌, Result, Ok, Err, decimal}
use Rattle.std.specs.List.{join_with_byte, list_all}
use Rattle.std.proofs.lemmas.Bool.{and_parts, cases_lt, eqb-true, true≢false}
use Rattle.std.proofs.lemmas.Option.{none-some}
use Rattle.chess_types.specs.declared.board.position.Rights.{Rights}
use Rattle.chess_types.specs.board.Board.{man_at}
use Rattle.chess_types.specs.board.Men.{same_colour}
use Rattle.chess_types.specs.board.Position.{PositionParts, IsSetup, IsWellFormed, is_explained, man_on}
use Rattle.chess_types.specs.board.Repetition.{counting_target, is_same, same_bool, same_man, same_rights, same_target, target_counts}
use Rattle.chess_types.specs.board.Squares.{squares}
use Rattle.chess_types.proofs.SameLemmas.{same_is}
use Rattle.chess_types.proofs.SquareLemmas.{every_square}
use Rattle.chess_fen.specs.Reading.{fen_reading}
use Rattle.chess_fen.specs.Writing.{four_fields, identity, placement_text, rights_text, side_text, target_text, written}
use Rattle.chess_fen.specs.declared.fault.FenFault.{FenFault}
use Rattle.chess_fen.proofs.BackLemmas.{IsOnBoard, read_back}
use Rattle.chess_fen.proofs.WriteLemmas.{two_more}
use Rattle.chess_draws.proofs.RepetitionKeyLemmas.{bool_is, man_is}
use Rattle.chess_draws.proofs.SameLemmas.{is_same_self}

-- ---- the same positions have the same text

same_men : (p q : PositionParts) → IsOnBoard p.placement → IsOnBoard q.placement → list_all (λ s. same_man (man_on p s) (man_on q s)) squares ≡ true → man_on p ≡ man_on q
same_men p q on_p on_q all = λ i s. each s i where
  each : (s : ℕ) → man_on p s ≡ man_on q s
  each s = elim (cases_lt s 64) [
    | inl low ↦ man_is (man_on p s) (man_on q s) (every_square (λ t. same_man (man_on p t) (man_on q t)) all s low)
    | inr high ↦ on_p s high ∙ sym (on_q s high)
  ]

rights_are : (r s : Rights) → same_rights r s ≡ true → r ≡ s
rights_are r s h =
    let white_king : Bool = same_bool r.white_king s.white_king in
    let white_queen : Bool = same_bool r.white_queen s.white_queen in
    let black_king : Bool = same_bool r.black_king s.black_king in
    let black_queen : Bool = same_bool r.black_queen s.black_queen in
    let four = and_parts (white_king && white_queen && black_king) black_queen h in
    let three = and_parts (white_king && white_queen) black_king four.0 in
    let two = and_parts white_king white_queen three.0 in
    let king = bool_is r.white_king s.white_king two.0 in
    let queen = bool_is r.white_queen s.white_queen two.1 in
    let other_king = bool_is r.black_king s.black_king three.1 in
    let other_queen = bool_is r.black_queen s.black_queen four.1 in
    λ i. record { white_king = king i; white_queen = queen i; black_king = other_king i; black_queen = other_queen i }

target_is : (t u : Option ℕ) → same_target t u ≡ true → t ≡ u
target_is None None h = refl
target_is None (Some u) h = absurd (true≢false (sym h))
target_is (Some t) None h = absurd (true≢false (sym h))
target_is (Some t) (Some u) h = ap (λ (n : ℕ). Some n) (eqb-true t u h)

pub one_text : (p q : PositionParts) → IsOnBoard p.placement → IsOnBoard q.placement → is_same p q ≡ true → identity p ≡ identity q
unfolding is_same four_fields
one_text p q on_p on_q h =
    let men_test : Bool = list_all (λ s. same_man (man_on p s) (man_on q s)) squares in
    let rights_test : Bool = same_rights p.rights q.rights in
    let target_test : Bool = same_target (counting_target p) (counting_target q) in
    let four = and_parts (same_colour p.side q.side && men_test && rights_test) target_test h in
    let three = and_parts (same_colour p.side q.side && men_test) rights_test four.0 in
    let two = and_parts (same_colour p.side q.side) men_test three.0 in
    let side = same_is p.side q.side two.0 in
    let men = same_men p q on_p on_q two.1 in
    let rights = rights_are p.rights q.rights three.1 in
    let target = target_is (counting_target p) (counting_target q) four.1 in
    λ i. join_with_byte 32 (placement_text (men i) ∷ side_text (side i) ∷ rights_text (rights i) ∷ target_text (target i) ∷ [])

-- ---- the same text is that of the same positions

-- the position that the text spells
abbrev spelled : PositionParts → PositionParts
spelled p = record { placement = p.placement; side = p.side; rights = p.rights; target = counting_target p; clock = 0; number = 1 }

counts : (p : PositionParts) → IsSetup p → (t : ℕ) → counting_target p ≡ Some t → is_explained p.side (man_on p) t ≡ true
unfolding counting_target
counts p setup t is = by (target_counts p) is where
  by : (counted : Bool) → (if counted then p.target else None) ≡ Some t → is_explained p.side (man_on p) t ≡ true
  by true at = setup.target t at
  by false at = absurd (none-some t at)

is_spelled : (p : PositionParts) → IsWellFormed p → IsWellFormed (spelled p)
is_spelled p well = record {
  setup = record {
    kings = well.setup.kings;
    few = well.setup.few;
    pawns = well.setup.pawns;
    king_at_home = well.setup.king_at_home;
    rook_at_home = well.setup.rook_at_home;
    target = counts p well.setup;
    number = omega arith;
  };
  quiet = well.quiet;
}

-- both counters after the four fields
abbrev counted : List ℕ → List ℕ
counted text = ((((text ++ 32 ∷ []) ++ decimal 0) ++ 32 ∷ []) ++ decimal 1)

whole : (p : PositionParts) → counted (identity p) ≡ written (spelled p)
unfolding written four_fields
whole p =
    two_more (identity p) (identity p ++ 32 ∷ []) ((identity p ++ 32 ∷ []) ++ decimal 0) (((identity p ++ 32 ∷ []) ++ decimal 0) ++ 32 ∷ []) (counted (identity p))
    (placement_text (man_on p)) (side_text p.side) (rights_text p.rights) (target_text (counting_target p)) (decimal 0) (decimal 1) refl refl refl refl refl

abbrev position_of : PositionParts → Result PositionParts FenFault → PositionParts
position_of other (Ok p) = p
position_of other (Err fault) = other

pub one_position : (p q : PositionParts) → IsWellFormed p → IsWellFormed q → IsOnBoard p.placement → IsOnBoard q.placement → identity p ≡ identity q → is_same p q ≡ true
unfolding is_same
one_position p q well_p well_q on_p on_q same =
    let texts : written (spelled p) ≡ written (spelled q) = sym (whole p) ∙ ap counted same ∙ whole q in
    let read_p = read_back (spelled p) (omega arith) (omega arith) (is_spelled p well_p) on_p in
    let read_q = read_back (spelled q) (omega arith) (omega arith) (is_spelled q well_q) on_q in
    let both : spelled p ≡ spelled q = ap (position_of (spelled p)) (sym read_p ∙ ap fen_reading texts ∙ read_q) in
    sym (λ i. same_colour p.side (both i).side && list_all (λ s. same_man (man_on p s) (man_at (both i).placement s)) squares && same_rights p.rights (both i).rights && same_target (counting_target p) (both i).target)
    ∙ is_same_self p
