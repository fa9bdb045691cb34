-- How freed numbers are taken, one at a time.
use Rattle.std.proofs.Common.{◌≡◌, ◌≢◌, ℕ, zero, suc, ◌+◌, ◌-◌, ◌<◌, ◌≤◌, refl, sym, ap, ◌∙◌, subst, List, [], ◌∷◌, ◌++◌, length, set, take, slice_get, Option, None, Some, inl, inr, arith, length-append, length-set}
use Rattle.std.proofs.Math.ListN.{get_or-append}
use Rattle.std.proofs.Math.Seq.{get_or-append_seam}
use Rattle.std.proofs.lemmas.Bool.{cases_lt}
use Rattle.std.proofs.lemmas.List.{set-get_or}
use Rattle.std.proofs.lemmas.Option.{none-some, slice_get-get_or}
use Rattle.chess_types.specs.board.MoveParts.{MoveParts}
use Rattle.chess_tree.specs.steps.Entries.{Entry, entry_at, no_entry, with_children, with_parent}
use Rattle.chess_tree.specs.steps.Grove.{Grove, Empty, Tree, tally, times, size, wide, numbers, join, node_number, grove_move, under, those_before, those_after}
use Rattle.chess_tree.specs.steps.Linked.{Any, Linked}
use Rattle.chess_tree.specs.steps.Laid.{Laid, Same}
use Rattle.chess_tree.specs.steps.Freed.{IsPool, Loosened, Put}
use Rattle.chess_tree.proofs.TimesLemmas.{length_numbers, no_numbers, number_get, parted, size_join, tally_same, tally_other, times_join}
use Rattle.chess_tree.proofs.LinkLemmas.{linked_frame, linked_parts}
use Rattle.chess_tree.proofs.PlacedLemmas.{apart, look_set, look_set_other}
use Rattle.chess_tree.proofs.LaidLemmas.{chained_frame, in_range}
use Rattle.chess_tree.proofs.SeenLemmas.{once_at_most}

-- how many nodes are below the freed ones side by side
abbrev pub beneath : Grove → ℕ
beneath Empty = 0
beneath (Tree i m below next) = size below + beneath next

beneath_le : (g : Grove) → beneath g ≤ size g
beneath_le Empty = omega arith
beneath_le (Tree i m below next) = omega (arith, beneath_le next)

pub beneath_less : (nodes : List Entry) (free : ℕ) (game freed : Grove) → Laid nodes free game freed Empty → beneath freed < length nodes
beneath_less nodes free game freed k = omega (arith, k.all, beneath_le freed)

after_last : (k : ℕ) (g : Grove) → suc k ≡ wide g → those_after k g ≡ Empty
after_last k Empty e = refl
after_last zero (Tree i m below Empty) e = refl
after_last zero (Tree i m below (Tree j n x y)) e = absurd (omega (arith, e))
after_last (suc k) (Tree i m below next) e = after_last k next (omega (arith, e))

take_before : (k : ℕ) (g : Grove) → take k (numbers g) ≡ numbers (those_before k g)
take_before zero Empty = refl
take_before (suc k) Empty = refl
take_before zero (Tree i m below next) = refl
take_before (suc k) (Tree i m below next) = ap (λ (is : List ℕ). i ∷ is) (take_before k next)

-- the last of some numbers
abbrev pub last_number : List ℕ → Option ℕ
last_number is = slice_get is (length is - 1)

pub no_last : (is : List ℕ) → None ≡ last_number is → is ≡ []
no_last [] e = refl
no_last (i ∷ is) e = absurd (none-some _ (e ∙ slice_get-get_or (i ∷ is) (length (i ∷ is) - 1) 0 (omega arith)))

some_number : (a b : ℕ) → Some a ≡ Some b → a ≡ b
some_number a b e = cc

-- only the root's number is 0
some_of : (c : ℕ) → tally 0 c ≡ 0 → 0 < c
some_of zero e = absurd (omega (arith, e, tally_same 0))
some_of (suc c) e = omega arith

-- the last child of a freed node, and its number
record LastOf (g : Grove) (c : ℕ) : Type 0 where
  pub place : ℕ
  pub is_last : suc place ≡ wide g
  pub is : c ≡ node_number 0 place g

some_last : (g : Grove) (c : ℕ) → Some c ≡ last_number (numbers g) → LastOf g c
some_last Empty c e = absurd (none-some c (sym e))
some_last (Tree i m below next) c e =
    let g : Grove = Tree i m below next in
    let k = wide next in
    let l = length_numbers g in
    let same : length (numbers g) - 1 ≡ k = omega (arith, l) in
    let got : Some c ≡ Some (node_number 0 k g) =
    e ∙ ap (slice_get (numbers g)) same ∙ slice_get-get_or (numbers g) k 0 (omega (arith, l)) ∙ ap (λ (x : ℕ). Some x) (number_get 0 k g) in
    record { place = k; is_last = refl; is = some_number c (node_number 0 k g) got }

-- one child of the first freed node is before it
pub record Stepped (new : List Entry) (c : ℕ) (game freed : Grove) : Type 0 where
  pub later : Grove
  pub laid : Laid new c game later Empty
  pub fewer : suc (beneath later) ≡ beneath freed
  pub some : 0 < c

stepped_tree : (nodes : List Entry) (n : ℕ) (m : MoveParts) (game below next : Grove) (c : ℕ) → Laid nodes n game (Tree n m below next) Empty → (l : LastOf below c)
    → Stepped (with_parent c n (with_children n (numbers (those_before l.place below)) nodes)) c game (Tree n m below next)
stepped_tree nodes n m game below next c laid l =
    let k = l.place in
    let short : k < wide below = omega (arith, l.is_last) in
    let f = those_before k below in
    let mc = grove_move k below in
    let uc = under k below in
    let split : below ≡ join f (Tree c mc uc Empty) =
    parted k below 0 short ∙ (λ j. join f (Tree (sym l.is j) mc uc (after_last k below l.is_last j))) in
    let most = once_at_most nodes n game (Tree n m below next) Empty laid in
    let sum : (j : ℕ) → times j below ≡ times j f + (tally j c + times j uc) = λ j. omega (arith, ap (times j) split, times_join j f (Tree c mc uc Empty)) in
    let mid = with_children n (numbers f) nodes in
    let new = with_parent c n mid in
    let range_n = in_range nodes n game (Tree n m below next) Empty laid n (omega (arith, tally_same n)) in
    let range_c = in_range nodes n game (Tree n m below next) Empty laid c (omega (arith, tally_same c, sum c)) in
    let l1 : length mid ≡ length nodes = length-set nodes n (record (entry_at nodes n) { children = numbers f }) in
    let l2 : length new ≡ length mid = length-set mid c (record (entry_at mid c) { parent = n }) in
    let ne : tally c n ≡ 0 = omega (arith, most c, tally_same c, sum c) in
    let en : tally n c ≡ 0 = omega (arith, most n, tally_same n, sum n) in
    let off_mid : (j : ℕ) → tally j n ≡ 0 → entry_at mid j ≡ entry_at nodes j = λ j w. look_set_other nodes n j (record (entry_at nodes n) { children = numbers f }) (apart j n w) in
    let off_new : (j : ℕ) → tally j c ≡ 0 → entry_at new j ≡ entry_at mid j = λ j w. look_set_other mid c j (record (entry_at mid c) { parent = n }) (apart j c w) in
    let off : (j : ℕ) → tally j n ≡ 0 → tally j c ≡ 0 → entry_at new j ≡ entry_at nodes j = λ j w v. off_new j v ∙ off_mid j w in
    let at_n : entry_at new n ≡ record (entry_at nodes n) { children = numbers f } = off_new n en ∙ look_set nodes n (record (entry_at nodes n) { children = numbers f }) range_n in
    let at_c : entry_at new c ≡ record (entry_at nodes c) { parent = n } =
    look_set mid c (record (entry_at mid c) { parent = n }) (omega (arith, l1, range_c)) ∙ ap (λ (s : Entry). record s { parent = n }) (off_mid c ne) in
    let parts = linked_parts Any (entry_at nodes) n 0 f (Tree c mc uc Empty) (subst (λ (g : Grove). Linked Any (entry_at nodes) n 0 g) split laid.loose.2) in
    record {
      later = Tree c mc uc (Tree n m f next);
      laid = record {
        root = ap (λ (s : Entry). s.children) (off 0 (omega (arith, most 0, tally_same 0)) (omega (arith, most 0, tally_same 0, sum 0))) ∙ laid.root;
        linked = linked_frame Same (entry_at nodes) (entry_at new) 0 0 game (λ j w. off j (omega (arith, most j, w)) (omega (arith, most j, w, sum j))) laid.linked;
        loose = (
          ap (λ (s : Entry). s.parent) at_c,
          ap (λ (s : Entry). s.children) at_c ∙ parts.1.0.owned.children_is,
          linked_frame Any (entry_at nodes) (entry_at new) c 0 uc (λ j w. off j (omega (arith, most j, w, sum j)) (omega (arith, most j, w, sum j))) parts.1.1,
          (
            ap (λ (s : Entry). s.parent) at_n ∙ laid.loose.0,
            ap (λ (s : Entry). s.children) at_n,
            linked_frame Any (entry_at nodes) (entry_at new) n 0 f (λ j w. off j (omega (arith, most j, w, sum j)) (omega (arith, most j, w, sum j))) parts.0,
            chained_frame (entry_at nodes) (entry_at new) next (λ j w. off j (omega (arith, most j, w)) (omega (arith, most j, w, sum j))) laid.loose.3,
          ),
        );
        free_is = refl;
        once = λ j h. omega (arith, laid.once j (omega (arith, h, l1, l2)), sum j);
        none = λ j h. omega (arith, laid.none j (omega (arith, h, l1, l2)), sum j);
        all = omega (arith, laid.all, ap size split, size_join f (Tree c mc uc Empty), l1, l2);
      };
      fewer = omega (arith, ap size split, size_join f (Tree c mc uc Empty));
      some = some_of c (omega (arith, most 0, tally_same 0, sum 0));
    }

pub stepped : (nodes : List Entry) (free : ℕ) (game freed : Grove) (c : ℕ) → Laid nodes free game freed Empty → 0 < free → Some c ≡ last_number (entry_at nodes free).children
    → Stepped (with_parent c free (with_children free (take (length (entry_at nodes free).children - 1) (entry_at nodes free).children) nodes)) c game freed
stepped nodes free game Empty c laid some e = absurd (omega (arith, laid.free_is, some))
stepped nodes free game (Tree n m below next) c laid some e =
    let own : (entry_at nodes free).children ≡ numbers below = ap (λ (x : ℕ). (entry_at nodes x).children) laid.free_is ∙ laid.loose.1 in
    let laid2 = subst (λ (x : ℕ). Laid nodes x game (Tree n m below next) Empty) laid.free_is laid in
    let last = some_last below c (e ∙ ap last_number own) in
    let on = stepped_tree nodes n m game below next c laid2 last in
    let place : length (numbers below) - 1 ≡ last.place = omega (arith, length_numbers below, last.is_last) in
    let cs : take (length (entry_at nodes free).children - 1) (entry_at nodes free).children ≡ numbers (those_before last.place below) =
    ap (λ (x : List ℕ). take (length x - 1) x) own ∙ ap (λ (x : ℕ). take x (numbers below)) place ∙ take_before last.place below in
    subst (λ (x : List Entry). Stepped x c game (Tree n m below next))
    (λ j. with_parent c (sym laid.free_is j) (with_children (sym laid.free_is j) (sym cs j) nodes)) on

-- a freed node without children is taken
pub taken : (nodes : List Entry) (n : ℕ) (game later : Grove) (m : MoveParts) → Laid nodes n game later Empty → 0 < n → (entry_at nodes n).children ≡ []
    → (rest : Grove) × Laid nodes (entry_at nodes n).parent game rest (Tree n m Empty Empty)
taken nodes n game Empty m laid some bare = absurd (omega (arith, laid.free_is, some))
taken nodes n game (Tree i o below next) m laid some bare =
    let none : below ≡ Empty = no_numbers below (sym laid.loose.1 ∙ ap (λ (x : ℕ). (entry_at nodes x).children) (sym laid.free_is) ∙ bare) in
    let alone = subst (λ (g : Grove). Laid nodes n game (Tree i o g next) Empty) none laid in (
      next,
      subst (λ (x : ℕ). Laid nodes (entry_at nodes x).parent game next (Tree x m Empty Empty)) (sym laid.free_is)
          (record {
            root = laid.root;
            linked = laid.linked;
            loose = laid.loose.3;
            free_is = laid.loose.0;
            once = λ j h. omega (arith, alone.once j h);
            none = λ j h. omega (arith, alone.none j h);
            all = omega (arith, alone.all);
          }),
    )

-- the number in hand has another node
pub written_laid : (nodes : List Entry) (free n : ℕ) (m : MoveParts) (game freed : Grove) (s : Entry) → Laid nodes free game freed (Tree n m Empty Empty)
    → Laid (set nodes n s) free game freed (Tree n m Empty Empty) × (entry_at (set nodes n s) n ≡ s)
written_laid nodes free n m game freed s k =
    let most = once_at_most nodes free game freed (Tree n m Empty Empty) k in
    let l : length (set nodes n s) ≡ length nodes = length-set nodes n s in
    let off : (j : ℕ) → tally j n ≡ 0 → entry_at (set nodes n s) j ≡ entry_at nodes j = λ j w. look_set_other nodes n j s (apart j n w) in (
      record {
        root = ap (λ (x : Entry). x.children) (off 0 (omega (arith, most 0, tally_same 0))) ∙ k.root;
        linked = linked_frame Same (entry_at nodes) (entry_at (set nodes n s)) 0 0 game (λ j w. off j (omega (arith, most j, w))) k.linked;
        loose = chained_frame (entry_at nodes) (entry_at (set nodes n s)) freed (λ j w. off j (omega (arith, most j, w))) k.loose;
        free_is = k.free_is;
        once = λ j h. omega (arith, k.once j (omega (arith, h, l)));
        none = λ j h. omega (arith, k.none j (omega (arith, h, l)));
        all = omega (arith, k.all, l);
      },
      look_set nodes n s (in_range nodes free game freed (Tree n m Empty Empty) k n (omega (arith, tally_same n))),
    )

-- a new number
pub grown_laid : (nodes : List Entry) (free : ℕ) (m : MoveParts) (game freed : Grove) (s : Entry) → Laid nodes free game freed Empty
    → Laid (nodes ++ s ∷ []) free game freed (Tree (length nodes) m Empty Empty) × (entry_at (nodes ++ s ∷ []) (length nodes) ≡ s)
grown_laid nodes free m game freed s k =
    let n = length nodes in
    let l : length (nodes ++ s ∷ []) ≡ n + 1 = length-append nodes (s ∷ []) in
    let range = in_range nodes free game freed Empty k in
    let stays : (j : ℕ) → j < n → entry_at (nodes ++ s ∷ []) j ≡ entry_at nodes j = λ j w. get_or-append nodes (s ∷ []) no_entry j w in (
      record {
        root = ap (λ (x : Entry). x.children) (stays 0 (omega (arith, k.all))) ∙ k.root;
        linked = linked_frame Same (entry_at nodes) (entry_at (nodes ++ s ∷ [])) 0 0 game (λ j w. stays j (range j (omega (arith, w)))) k.linked;
        loose = chained_frame (entry_at nodes) (entry_at (nodes ++ s ∷ [])) freed (λ j w. stays j (range j (omega (arith, w)))) k.loose;
        free_is = k.free_is;
        once = λ j h. elim (cases_lt j n) [
          | inl w ↦ (let ne : j ≢ n = omega (arith, w) in omega (arith, k.once j w, tally_other j n ne))
          | inr w ↦ (let is : j ≡ n = omega (arith, w, h, l) in let same : tally j n ≡ 1 = subst (λ (y : ℕ). tally j y ≡ 1) is (tally_same j) in omega (arith, k.none j w, same))
        ];
        none = λ j h. let ne : j ≢ n = omega (arith, h, l) in omega (arith, k.none j (omega (arith, h, l)), tally_other j n ne);
        all = omega (arith, k.all, l);
      },
      get_or-append_seam nodes s [] no_entry,
    )

-- ---- the calls

pub put_grown : (old : List Entry) (s : Entry) (game freed : Grove) → Laid old 0 game freed Empty → Put s (old ++ s ∷ []) 0 (length old) game
put_grown old s game freed laid = let on = grown_laid old 0 s.played game freed s laid in record { later = freed; laid = on.0; is = on.1 }

pub put_taken : (nodes : List Entry) (n : ℕ) (s : Entry) (game : Grove) → Loosened nodes n game → Put s (set nodes n s) (entry_at nodes n).parent n game
put_taken nodes n s game l =
    let took = taken nodes n game l.later s.played l.laid l.some l.bare in
    let on = written_laid nodes (entry_at nodes n).parent n s.played game took.0 s took.1 in
    record { later = took.0; laid = on.0; is = on.1 }

-- a node without children from which the last was to be taken stays
pub none_taken : (nodes : List Entry) (i : ℕ) → (entry_at nodes i).children ≡ [] → with_children i (take (length (entry_at nodes i).children - 1) (entry_at nodes i).children) nodes ≡ nodes
none_taken nodes i bare =
    ap (λ (x : List ℕ). with_children i x nodes) (ap (λ (x : List ℕ). take (length x - 1) x) bare ∙ sym bare) ∙ set-get_or nodes i no_entry

-- how far numbers are loosened
pub record Loosening (old : List Entry) (first : ℕ) (nodes : List Entry) (free passed : ℕ) : Type 0 where
  pub some : 0 < free
  pub each : (game freed : Grove) → Laid old first game freed Empty → (later : Grove) × Laid nodes free game later Empty × (beneath later + passed ≤ beneath freed)

pub loosening_start : (old : List Entry) (first : ℕ) → 0 < first → Loosening old first old first 0
loosening_start old first some = record { some = some; each = λ game freed laid. (freed, laid, omega arith) }

free_range : (nodes : List Entry) (free : ℕ) (game freed : Grove) → Laid nodes free game freed Empty → 0 < free → free < length nodes
free_range nodes free game Empty laid some = absurd (omega (arith, laid.free_is, some))
free_range nodes free game (Tree n m below next) laid some =
    let one : tally free n ≡ 1 = subst (λ (y : ℕ). tally free y ≡ 1) laid.free_is (tally_same free) in
    in_range nodes free game (Tree n m below next) Empty laid free (omega (arith, one))

pub loosening_range : (old : List Entry) (first : ℕ) (nodes : List Entry) (free passed : ℕ) → IsPool old first → Loosening old first nodes free passed → free < length nodes
loosening_range old first nodes free passed pool l =
    let now = l.each pool.0 pool.1 pool.2 in
    free_range nodes free pool.0 now.0 now.1 l.some

pub loosening_child : (old : List Entry) (first : ℕ) (nodes : List Entry) (free passed : ℕ) (c : ℕ) → IsPool old first → Loosening old first nodes free passed
    → Some c ≡ last_number (entry_at nodes free).children → c < length nodes
loosening_child old first nodes free passed c pool l e =
    let now = l.each pool.0 pool.1 pool.2 in
    let left = take (length (entry_at nodes free).children - 1) (entry_at nodes free).children in
    let mid = with_children free left nodes in
    let on = stepped nodes free pool.0 now.0 c now.1 l.some e in
    omega (
      arith,
      free_range (with_parent c free mid) c pool.0 on.later on.laid on.some,
      length-set mid c (record (entry_at mid c) { parent = free }),
      length-set nodes free (record (entry_at nodes free) { children = left }),
    )

pub loosening_on : (old : List Entry) (first : ℕ) (nodes : List Entry) (free passed : ℕ) (c : ℕ) → IsPool old first → Loosening old first nodes free passed
    → Some c ≡ last_number (entry_at nodes free).children
    → Loosening old first (with_parent c free (with_children free (take (length (entry_at nodes free).children - 1) (entry_at nodes free).children) nodes)) c (passed + 1)
loosening_on old first nodes free passed c pool l e =
    let now = l.each pool.0 pool.1 pool.2 in
    record {
      some = (stepped nodes free pool.0 now.0 c now.1 l.some e).some;
      each = λ game freed laid.
          let was = l.each game freed laid in
          let on = stepped nodes free game was.0 c was.1 l.some e in
          (on.later, on.laid, omega (arith, was.2, on.fewer));
    }

pub loosened : (old : List Entry) (first : ℕ) (nodes : List Entry) (free passed : ℕ) → Loosening old first nodes free passed → (entry_at nodes free).children ≡ []
    → (game freed : Grove) → Laid old first game freed Empty → Loosened nodes free game
loosened old first nodes free passed l bare game freed laid =
    let now = l.each game freed laid in
    record { later = now.0; laid = now.1; bare = bare; some = l.some }

pub loosened_far : (old : List Entry) (first : ℕ) (nodes : List Entry) (free passed : ℕ) → Loosening old first nodes free passed → length old ≤ passed
    → (game freed : Grove) → Laid old first game freed Empty → Loosened nodes free game
loosened_far old first nodes free passed l far game freed laid = absurd (omega (arith, (l.each game freed laid).2, beneath_less old first game freed laid, far))
