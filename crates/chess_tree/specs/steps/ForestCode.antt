-- A forest as a list, by which a proof distinguishes forests: each node's parts, then the nodes below it, then those after it.
use Rattle.std.specs.Prelude.{◌≡◌, ℕ, List, [], ◌∷◌, ◌++◌, Option, Some, None, refl}
use Rattle.std.specs.Coded.{Coded, code_by, coded×, coded_ℕ, coded_list, coded_option}
use Rattle.std.proofs.Common.{append_assoc, sym, ap, ◌∙◌}
use Rattle.std.proofs.lemmas.List.{append-nil}
use Rattle.chess_types.specs.board.MoveParts.{MoveParts}
use Rattle.chess_types.specs.steps.LineCode.{coded_move}
use Rattle.chess_tree.specs.Forest.{Forest, Bare, Node, NodeParts}

-- a kind as a number
-- the parts of a node, or the end of nodes side by side
abbrev pub Piece : Type 0
Piece = Option (MoveParts × (List ℕ × List ℕ))

-- a forest as a list of pieces
abbrev pub pieces : Forest → List Piece
pieces Bare = None ∷ []
pieces (Node m nags comment below next) = Some (m, (nags, comment)) ∷ pieces below ++ pieces next

-- a node's parts, before the forest below it and the one after it
abbrev pub hung : MoveParts × (List ℕ × List ℕ) → List Forest → List Forest
hung node [] = []
hung node (below ∷ []) = []
hung node (below ∷ next ∷ rest) = Node node.0 node.1.0 node.1.1 below next ∷ rest

-- the forests that pieces stand for
abbrev pub forests : List Piece → List Forest
forests [] = []
forests (None ∷ rest) = Bare ∷ forests rest
forests (Some node ∷ rest) = hung node (forests rest)

-- the first of some forests
abbrev pub first : List Forest → Forest
first [] = Bare
first (f ∷ rest) = f

-- the pieces stand for the forest that they came from
pub forests-pieces : (f : Forest) (rest : List Piece) → forests (pieces f ++ rest) ≡ f ∷ forests rest
forests-pieces Bare rest = refl
forests-pieces (Node m nags comment below next) rest =
    let parted = append_assoc (pieces below) (pieces next) rest in
    let forest = ap (λ (ps : List Piece). forests ps) parted ∙ forests-pieces below (pieces next ++ rest) ∙ ap (λ (fs : List Forest). below ∷ fs) (forests-pieces next rest) in
    ap (hung (m, (nags, comment))) forest

-- a forest is given back by its pieces
pub first-pieces : (f : Forest) → first (forests (pieces f)) ≡ f
first-pieces f =
    ap (λ (ps : List Piece). first (forests ps)) (sym (append-nil (pieces f))) ∙ ap first (forests-pieces f [])

-- a forest as its pieces
abbrev pub coded_forest : Coded Forest
coded_forest =
    code_by (List Piece) (coded_list (coded_option (coded× coded_move (coded× (coded_list coded_ℕ) (coded_list coded_ℕ)))))
    pieces
    (λ ps. first (forests ps))
    first-pieces

-- a node by itself as a tuple
abbrev pub coded_node : Coded NodeParts
coded_node =
    code_by (Option MoveParts × (List ℕ × (List ℕ × Forest))) (coded× (coded_option coded_move) (coded× (coded_list coded_ℕ) (coded× (coded_list coded_ℕ) coded_forest)))
    (λ n. (n.move, (n.nags, (n.comment, n.below))))
    (λ p. record { move = p.0; nags = p.1.0; comment = p.1.1.0; below = p.1.1.1 })
    (λ _. refl)
