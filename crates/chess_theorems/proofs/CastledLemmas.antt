-- What castling leaves.
use Rattle.std.proofs.Common.{◌≡◌, ◌≢◌, ◌<◌, Bool, true, false, Some, refl, sym, ap, ◌∙◌}
use Rattle.std.specs.FinMap.{remove}
use Rattle.std.specs.List.{Contains}
use Rattle.std.proofs.lemmas.Bool.{and_parts, and_from, false_from_ne_true, not-true, true≢false}
use Rattle.chess_types.specs.declared.board.man.Kind.TheVariants.{King}
use Rattle.chess_types.specs.declared.board.man.Man.{Man}
use Rattle.chess_types.specs.declared.board.position.Wing.{Wing}
use Rattle.chess_types.specs.declared.board.position.Wing.TheVariants.{KingSide, QueenSide}
use Rattle.chess_types.specs.board.Board.{Board, man_at}
use Rattle.chess_types.specs.board.MoveParts.{MoveParts}
use Rattle.chess_types.specs.board.Men.{opponent}
use Rattle.chess_types.specs.board.Attack.{is_attacked}
use Rattle.chess_types.specs.board.Position.{PositionParts, IsWellFormed, king_home, man_on, rook_home}
use Rattle.chess_types.specs.board.Pseudo.{castles, castles_to, crossed, reached}
use Rattle.chess_types.specs.board.After.{after, after_by, is_castling, placement_after, rook_of, moved_board, with_rook}
use Rattle.chess_types.specs.board.Legal.{is_legal, legal_moves}
use Rattle.chess_types.proofs.MoveLemmas.{legal_pseudo}
use Rattle.chess_play.proofs.Census.{put_here, put_there, clear_here, clear_there}
use Rattle.chess_play.proofs.CastlingSquares.{apart, castling_parts}
use Rattle.chess_play.proofs.Carried.{carried_from, carried_here}
use Rattle.chess_play.proofs.Castled.{one_wing}
use Rattle.chess_play.proofs.Facts.{Facts, facts}
use Rattle.chess_moves.proofs.LegalLaws.{listed_legal}
use Rattle.chess_theorems.specs.MoveLaws.{IsCastled}

is_king_side : Wing → Bool
is_king_side KingSide = true
is_king_side QueenSide = false

two_wings : KingSide ≢ QueenSide
unfolding is_king_side
two_wings e = true≢false (ap is_king_side e)

-- the rook goes on the wing to which the king castles
with_its_rook : (p : PositionParts) (man : Man) (m : MoveParts) (w : Wing) → is_castling man w m ≡ true →
    placement_after p man m ≡ with_rook man.colour w (moved_board p man m)
with_its_rook p man m KingSide h = rw h refl
with_its_rook p man m QueenSide h =
    let other : is_castling man KingSide m ≡ false = false_from_ne_true _ (λ k. two_wings (one_wing man m KingSide QueenSide k h)) in
    rw (other, h) refl

-- the tests of castling that speak of attacks
unattacked : (p : PositionParts) (w : Wing) (m : MoveParts) → castles p w m ≡ true →
    (is_attacked (man_on p) (opponent p.side) (king_home p.side) ≡ false) × (is_attacked (man_on p) (opponent p.side) (crossed p.side w) ≡ false)
unattacked p w m h =
    let a = and_parts _ _ h in
    let b = and_parts _ _ a.0 in
    let c = and_parts _ _ b.0 in
    (not-true _ c.1, not-true _ b.1)

module _ (p : PositionParts) (m : MoveParts) (w : Wing) (well : IsWellFormed p) (from : m.from < 64) (to : m.to < 64) (legal : is_legal p m ≡ true)
    (here : man_on p m.from ≡ Some (record { colour = p.side; kind = King })) (goes : castles_to p.side w m ≡ true) where
  abbrev king : Man
  king = record { colour = p.side; kind = King }

  its : Facts p (record { colour = p.side; kind = King }) m
  its = facts p m well.setup from to (record { colour = p.side; kind = King }) here (legal_pseudo p m legal)

  castled : castles p w m ≡ true
  castled = its.castling w (and_from _ _ refl goes)

  now : man_on (after p m) ≡ man_at (with_rook p.side w (moved_board p (record { colour = p.side; kind = King }) m))
  unfolding after
  now =
      ap (λ o. man_on (after_by p o m)) here
      ∙ ap man_at (with_its_rook p (record { colour = p.side; kind = King }) m w (and_from _ _ refl goes))

  carried : Board
  carried = moved_board p king m

  pub sound : IsCastled p (after p m) w
  unfolding is_legal
  sound =
      let parts = castling_parts p w m castled in
      let four = apart p.side w in
      let safe = unattacked p w m castled in
      let board : Board = moved_board p king m in
      let bare : Board = remove board (rook_home p.side w) in
      record {
        right = parts.right;
        out_of_check = safe.0;
        over_safe = safe.1;
        into_safe = not-true _ (and_parts _ _ legal).1;
        king =
            (λ i. now i (reached p.side w)) ∙ put_there bare (crossed p.side w) (rook_of p.side) (reached p.side w) (λ e. four.crossed_reached (sym e))
            ∙ clear_there board (rook_home p.side w) (reached p.side w) (λ e. four.rook_reached (sym e))
            ∙ ap (man_at board) (sym parts.to) ∙ carried_here p king m from to its ∙ ap (λ x. Some x) (its.same refl);
        rook = (λ i. now i (crossed p.side w)) ∙ put_here bare (crossed p.side w) (rook_of p.side);
        king_left =
            (λ i. now i (king_home p.side)) ∙ put_there bare (crossed p.side w) (rook_of p.side) (king_home p.side) (λ e. four.crossed_king (sym e))
            ∙ clear_there board (rook_home p.side w) (king_home p.side) (λ e. four.rook_king (sym e))
            ∙ ap (man_at board) (sym parts.from) ∙ carried_from p king m from to its;
        rook_left =
            (λ i. now i (rook_home p.side w)) ∙ put_there bare (crossed p.side w) (rook_of p.side) (rook_home p.side w) four.rook_crossed
            ∙ clear_here board (rook_home p.side w);
      }

pub castling_is_sound : (p : PositionParts) (m : MoveParts) (w : Wing) → IsWellFormed p → Contains (legal_moves p) m →
    man_on p m.from ≡ Some (record { colour = p.side; kind = King }) → castles_to p.side w m ≡ true → IsCastled p (after p m) w
castling_is_sound p m w well listed here goes =
    let (on, legal) = listed_legal p m listed in
    sound p m w well on.from on.to legal here goes
