-- Which legal moves a text names.
--   names    a form names the legal move
--   named    the legal moves that the text names, in order
--   san_reading  the one move that is named, or why there is none
use Rattle.std.specs.Prelude.{ℕ, ◌==◌, Bool, true, false, not, ◌&&◌, ◌||◌, List, [], ◌∷◌, filter, Option, Some, None, is_some, Result, Ok, Err}
use Rattle.chess_types.specs.declared.board.man.Kind.{Kind}
use Rattle.chess_types.specs.declared.board.man.Man.{Man}
use Rattle.chess_types.specs.declared.board.position.Wing.{Wing}
use Rattle.chess_types.specs.declared.board.position.Wing.TheVariants.{KingSide, QueenSide}
use Rattle.chess_types.specs.board.Squares.{file_of, rank_of}
use Rattle.chess_types.specs.board.Men.{holds_pawn, kind_number}
use Rattle.chess_types.specs.board.MoveParts.{MoveParts}
use Rattle.chess_types.specs.board.Position.{PositionParts, man_on}
use Rattle.chess_types.specs.board.After.{is_castling}
use Rattle.chess_types.specs.board.Legal.{legal_moves}
use Rattle.chess_san.specs.declared.form.Origin.{Origin}
use Rattle.chess_san.specs.declared.form.Course.{Course}
use Rattle.chess_san.specs.declared.form.Form.{Form}
use Rattle.chess_san.specs.declared.form.Form.TheVariants.{Castles, Piece, Plain}
use Rattle.chess_san.specs.declared.fault.SanFault.{SanFault}
use Rattle.chess_san.specs.declared.fault.SanFault.TheVariants.{Form as NoForm, Illegal, Ambiguous}
use Rattle.chess_san.specs.Forms.{form_in}

-- a man of the kind stands there
abbrev pub is_kind : Kind → Option Man → Bool
is_kind wanted None = false
is_kind wanted (Some man) = kind_number man.kind == kind_number wanted

-- the man there castles by the move, to that wing
abbrev pub castles_by : Option Man → Wing → MoveParts → Bool
castles_by None wing m = false
castles_by (Some man) wing m = is_castling man wing m

-- the move castles to either side
abbrev pub is_castles : Option Man → MoveParts → Bool
is_castles there m = castles_by there KingSide m || castles_by there QueenSide m

-- the file or rank, where one is given
abbrev pub fits : Option ℕ → ℕ → Bool
fits None n = true
fits (Some k) n = k == n

-- the same promotion, or none
abbrev pub becomes : Option Kind → Option Kind → Bool
becomes None None = true
becomes None (Some wanted) = false
becomes (Some wanted) None = false
becomes (Some wanted) (Some other) = kind_number wanted == kind_number other

-- the move leaves the file and the rank that are given, for the target, and its man becomes that
abbrev pub follows : Course → MoveParts → Bool
follows course m =
    m.to == course.to && fits course.origin.file (file_of m.from) && fits course.origin.rank (rank_of m.from) && becomes course.promo m.promo

-- Without a letter a pawn moves: straight forward where neither file nor rank is given; with both, it is any man.
abbrev pub may_be_plain : Origin → Option Man → MoveParts → Bool
may_be_plain origin there m =
    (is_some origin.file && is_some origin.rank)
    || (holds_pawn there && (is_some origin.file || is_some origin.rank || file_of m.from == file_of m.to))

-- a text of this form names the move
unfoldable pub names : PositionParts → Form → MoveParts → Bool
names p (Castles wing) m = castles_by (man_on p m.from) wing m
names p (Piece kind course) m = follows course m && is_kind kind (man_on p m.from) && not (is_castles (man_on p m.from) m)
names p (Plain course) m = follows course m && may_be_plain course.origin (man_on p m.from) m

-- the legal moves that a text of this form names
abbrev pub named_by : PositionParts → Option Form → List MoveParts
named_by p None = []
named_by p (Some form) = filter (names p form) (legal_moves p)

-- the legal moves that the text names
unfoldable pub named : PositionParts → List ℕ → List MoveParts
named p text = named_by p (form_in text)

-- the only one of these moves, or why there is none
abbrev pub the_one : List MoveParts → Result MoveParts SanFault
the_one [] = Err Illegal
the_one (m ∷ []) = Ok m
the_one (m ∷ n ∷ rest) = Err Ambiguous

-- the legal move that a text of this form names
abbrev pub reading_by : PositionParts → Option Form → Result MoveParts SanFault
reading_by p None = Err NoForm
reading_by p (Some form) = the_one (filter (names p form) (legal_moves p))

-- the move, where the text names one alone
unfoldable pub san_reading : PositionParts → List ℕ → Result MoveParts SanFault
san_reading p text = reading_by p (form_in text)
