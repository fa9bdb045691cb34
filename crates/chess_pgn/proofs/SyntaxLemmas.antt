-- The syntax of a forest's text, and that it means the forest.
use Rattle.std.proofs.Common.{◌≡◌, ℕ, Bool, true, false, ◌||◌, not, List, [], ◌∷◌, ◌++◌, Option, Some, None, refl, ◌∙◌, append_assoc, append-nil}
use Rattle.std.specs.Prelude.{Ok, is_none}
use Rattle.chess_types.specs.declared.board.man.Colour.{Colour}
use Rattle.chess_types.specs.declared.board.man.Colour.TheVariants.{White, Black}
use Rattle.chess_types.specs.board.MoveParts.{MoveParts}
use Rattle.chess_types.specs.board.Position.{PositionParts}
use Rattle.chess_types.specs.board.After.{after}
use Rattle.chess_tree.specs.Forest.{Forest, Bare, Node, child}
use Rattle.chess_san.specs.Naming.{san_reading}
use Rattle.chess_san.specs.Writing.{san}
use Rattle.chess_pgn.specs.Grammar.{Element, Open, Close, Text, LineSyntax, End, Skip, Annotate, Say, Play, Vary, Addition, elements_of, comments_joined, meaning, with_move_first, varied}
use Rattle.chess_pgn.specs.Written.{is_noted}
use Rattle.chess_pgn.specs.steps.Hanging.{beside, below, plus, say}
use Rattle.chess_pgn.proofs.ForestLemmas.{annotations_of, forest_elements, node_elements, numbers_of, remark_of}
use Rattle.chess_pgn.proofs.HangLemmas.{append-bare, joined-nil}

-- ---- the syntax

abbrev pub skipped : Bool → Colour → LineSyntax → LineSyntax
skipped due White l = Skip (Skip l)
skipped true Black l = Skip (Skip (Skip (Skip l)))
skipped false Black l = l

abbrev pub annotations_line : List ℕ → LineSyntax → LineSyntax
annotations_line [] l = l
annotations_line (n ∷ nags) l = Annotate n (annotations_line nags l)

abbrev pub remark_line : List ℕ → LineSyntax → LineSyntax
remark_line [] l = l
remark_line (b ∷ c) l = Say (b ∷ c) l

abbrev pub node_line : Bool → PositionParts → MoveParts → List ℕ → List ℕ → LineSyntax → LineSyntax
node_line due p m nags comment l = skipped due p.side (Play (san p m) (annotations_line nags (remark_line comment l)))

abbrev pub line_of : Bool → Bool → PositionParts → Forest → LineSyntax → LineSyntax
line_of as_variations due p Bare rest = rest
line_of false due p (Node m nags comment below next) rest =
    node_line due p m nags comment (line_of true true p next (line_of false (is_noted nags comment || not (is_none (child 0 next))) (after p m) below rest))
line_of true due p (Node m nags comment below next) rest =
    Vary (node_line true p m nags comment (line_of false (is_noted nags comment) (after p m) below End)) (line_of true true p next rest)

skipped_elements : (due : Bool) (side : Colour) (l : LineSyntax) → elements_of (skipped due side l) ≡ numbers_of due side ++ elements_of l
skipped_elements due White l = refl
skipped_elements true Black l = refl
skipped_elements false Black l = refl

annotations_elements : (nags : List ℕ) (l : LineSyntax) → elements_of (annotations_line nags l) ≡ annotations_of nags ++ elements_of l
annotations_elements [] l = refl
annotations_elements (n ∷ nags) l = rw (annotations_elements nags l) refl

pub remark_elements : (c : List ℕ) (l : LineSyntax) → elements_of (remark_line c l) ≡ remark_of c ++ elements_of l
remark_elements [] l = refl
remark_elements (b ∷ c) l = refl

node_line_elements : (due : Bool) (p : PositionParts) (m : MoveParts) (nags comment : List ℕ) (l : LineSyntax) → elements_of (node_line due p m nags comment l) ≡ node_elements due p m nags comment ++ elements_of l
node_line_elements due p m nags comment l =
    skipped_elements due p.side (Play (san p m) (annotations_line nags (remark_line comment l)))
    ∙ rw (annotations_elements nags (remark_line comment l), remark_elements comment l) (shift (numbers_of due p.side) (annotations_of nags) (remark_of comment) (elements_of l))
  where
    shift : (a b c d : List Element) → a ++ (Text (san p m) ∷ (b ++ (c ++ d))) ≡ (a ++ (Text (san p m) ∷ (b ++ c))) ++ d
    shift a b c d = rw (append_assoc a (Text (san p m) ∷ (b ++ c)) d, append_assoc b c d) refl

pub line_elements : (as_variations due : Bool) (p : PositionParts) (f : Forest) (rest : LineSyntax) → elements_of (line_of as_variations due p f rest) ≡ forest_elements as_variations due p f ++ elements_of rest
line_elements as_variations due p Bare rest = refl
line_elements false due p (Node m nags comment b next) rest =
    let d : Bool = is_noted nags comment || not (is_none (child 0 next)) in
    let inner : LineSyntax = line_of false d (after p m) b rest in
    node_line_elements due p m nags comment (line_of true true p next inner)
    ∙ rw (line_elements true true p next inner, line_elements false d (after p m) b rest) (shift (node_elements due p m nags comment) (forest_elements true true p next) (forest_elements false d (after p m) b) (elements_of rest))
  where
    shift : (a b c d : List Element) → a ++ (b ++ (c ++ d)) ≡ (a ++ (b ++ c)) ++ d
    shift a b c d = rw (append_assoc a (b ++ c) d, append_assoc b c d) refl
line_elements true due p (Node m nags comment b next) rest =
    let d : Bool = is_noted nags comment in
    rw (node_line_elements true p m nags comment (line_of false d (after p m) b End), line_elements true true p next rest, line_elements false d (after p m) b End)
    (shift (node_elements true p m nags comment) (forest_elements false d (after p m) b) (forest_elements true true p next) (elements_of rest))
  where
    shift : (a b c d : List Element) → Open ∷ ((a ++ (b ++ [])) ++ (Close ∷ (c ++ d))) ≡ ((Open ∷ a) ++ (b ++ (Close ∷ [] ++ c))) ++ d
    shift a b c d = rw (append-nil b, append_assoc a (b ++ (Close ∷ c)) d, append_assoc b (Close ∷ c) d, append_assoc a b (Close ∷ (c ++ d))) refl

-- ---- what it means

abbrev some : Addition → Option Addition
some r = Some r

abbrev annotated_part : List ℕ → Addition
annotated_part nags = record { nags = nags; comment = []; beside = Bare; below = Bare }

skipped_mean : (due : Bool) (side : Colour) (l : LineSyntax) (before : Option PositionParts) (here : PositionParts) → meaning (skipped due side l) before here ≡ meaning l before here
skipped_mean due White l before here = refl
skipped_mean true Black l before here = refl
skipped_mean false Black l before here = refl

annotations_mean : (nags : List ℕ) (l : LineSyntax) (before : Option PositionParts) (here : PositionParts) (r : Addition) → meaning l before here ≡ Some r → meaning (annotations_line nags l) before here ≡ Some (plus (annotated_part nags) r)
annotations_mean [] l before here r e = e
annotations_mean (n ∷ nags) l before here r e = rw (annotations_mean nags l before here r e) refl

pub remark_means : (c : List ℕ) (l : LineSyntax) (before : Option PositionParts) (here : PositionParts) (r : Addition) → meaning l before here ≡ Some r → meaning (remark_line c l) before here ≡ Some (plus (say c) r)
remark_means [] l before here r e = e
remark_means (b ∷ c) l before here r e = rw e refl

-- each move's text reads as the move
abbrev pub AreNamed : PositionParts → Forest → Type 0
AreNamed p Bare = Unit {0}
AreNamed p (Node m nags comment below next) = (san_reading p (san p m) ≡ Ok m) × AreNamed (after p m) below × AreNamed p next

node_means : (due : Bool) (p : PositionParts) (m : MoveParts) (nags comment : List ℕ) (l : LineSyntax) (before : Option PositionParts) (r : Addition) → san_reading p (san p m) ≡ Ok m → meaning l (Some p) (after p m) ≡ Some r
    → meaning (node_line due p m nags comment l) before p ≡ Some (with_move_first m (plus (annotated_part nags) (plus (say comment) r)))
node_means due p m nags comment l before r named e =
    skipped_mean due p.side (Play (san p m) (annotations_line nags (remark_line comment l))) before p
    ∙ rw (named, annotations_mean nags (remark_line comment l) (Some p) (after p m) (plus (say comment) r) (remark_means comment l (Some p) (after p m) r e)) refl

-- as a line, and as variations before a line
abbrev Means : Forest → PositionParts → Type 0
Means f p =
    ((due : Bool) (before : Option PositionParts) → meaning (line_of false due p f End) before p ≡ Some (below f))
    × ((due : Bool) (rest : LineSyntax) (here : PositionParts) (r : Addition) → meaning rest (Some p) here ≡ Some r → meaning (line_of true due p f rest) (Some p) here ≡ Some (plus (beside f) r))

both : (f : Forest) (p : PositionParts) → AreNamed p f → Means f p
both Bare p named = (λ due before. refl, λ due rest here r e. e)
both (Node m nags comment b next) p named =
    let q : PositionParts = after p m in
    let under = both b q named.1 in
    let others = both next p named.2 in
    let d : Bool = is_noted nags comment || not (is_none (child 0 next)) in (
      λ due before.
          node_means due p m nags comment (line_of true true p next (line_of false d q b End)) before (plus (beside next) (below b)) named.0
          (others.1 true (line_of false d q b End) q (below b) (under.0 d (Some p)))
          ∙ whole,
      λ due rest here r e.
          rw (node_means true p m nags comment (line_of false (is_noted nags comment) q b End) None (below b) named.0 (under.0 (is_noted nags comment) (Some p)), others.1 true rest here r e) (half r),
    )
  where
    whole : some (with_move_first m (plus (annotated_part nags) (plus (say comment) (plus (beside next) (below b))))) ≡ some (below (Node m nags comment b next))
    whole = rw (append-nil nags, joined-nil comment, append-bare next) refl

    half : (r : Addition) → some (varied (Node m (nags ++ []) (comments_joined comment []) b Bare) [] (plus (beside next) r)) ≡ some (plus (beside (Node m nags comment b next)) r)
    half r = rw (append-nil nags, joined-nil comment) refl

pub line_means : (f : Forest) (p : PositionParts) → AreNamed p f → (due : Bool) → meaning (line_of false due p f End) None p ≡ Some (below f)
line_means f p named due = (both f p named).0 due None
