-- Going over elements from left to right, with a place in the tree and the lines that are open, gives what the grammar says.
use Rattle.std.proofs.Common.{◌≡◌, ℕ, List, [], ◌∷◌, ◌++◌, Option, Some, None, refl, sym, ap, ◌∙◌}
use Rattle.chess_types.specs.board.MoveParts.{MoveParts}
use Rattle.chess_types.specs.board.Position.{PositionParts}
use Rattle.chess_types.specs.board.After.{after}
use Rattle.chess_tree.specs.Forest.{Forest, Bare, Node, count, below_at, below_child}
use Rattle.chess_tree.specs.WellFormed.{Leads}
use Rattle.chess_pgn.specs.Grammar.{Element, Number, Annotation, Remark, Open, Close, Text, LineSyntax, Skip, Annotate, Say, Play, Addition, nothing, with_annotation, said, with_move_first, with_opening_comment, varied, comments_joined, move_in, ◌>>=◌, meaning}
use Rattle.chess_pgn.specs.steps.Hanging.{hang, leaf, grown, nag, say, beside, below, plus}
use Rattle.chess_pgn.specs.steps.Elements.{Frame, Last, path_of, last_of, end_of, before_of, run}
use Rattle.chess_pgn.proofs.HangLemmas.{joined-nil, joined-assoc, hang-twice, hang-down, hang-up, hang-nothing}
use Rattle.chess_pgn.proofs.KeepLemmas.{keeps, new-there}
use Rattle.chess_pgn.proofs.ParseLemmas.{Lines, LastLine, More, Bad, first, open_one, close_one, parse}

abbrev pub Answer : Type 0
Answer = Option (List ℕ × Forest)

abbrev pub AllThere : List Frame → Forest → Type 0
AllThere [] f = Unit {0}
AllThere (x ∷ xs) f = Leads (path_of x) f × AllThere xs f

-- ---- the same by the syntax of what is left

abbrev pub ended : List ℕ → Forest → List ℕ → Last → List ℕ → Addition → List ℕ × Forest
ended c f up None lead r = (comments_joined c (comments_joined lead r.comment), hang up (below r.below) f)
ended c f up (Some x) lead r = (c, hang (up ++ x.0 ∷ []) (said lead r) f)

-- what a variation leaves: its moves, or its comments to the move before it
abbrev pub leave : Forest → List ℕ → List ℕ → Forest → Forest
leave f up t Bare = f
leave f up t (Node m n c b next) = hang up (below (with_opening_comment t (Node m n c b next))) f

abbrev pub dropped : List ℕ → List ℕ → Forest → List ℕ
dropped lead t Bare = comments_joined lead t
dropped lead t (Node m n c b next) = lead

abbrev pub left : Forest → List ℕ → Last → List ℕ → Addition → Forest
left f up None lead r = leave f up (comments_joined lead r.comment) r.below
left f up (Some y) lead r = hang (up ++ y.0 ∷ []) (said lead r) f

abbrev pub lead_left : Last → List ℕ → Frame → Addition → List ℕ
lead_left None lead x r = dropped x.lead (comments_joined lead r.comment) r.below
lead_left (Some y) lead x r = x.lead

abbrev pub finish : Lines → List ℕ → Forest → List ℕ → Last → PositionParts → List ℕ → List Frame → Answer
finish (LastLine l) c f up last here lead [] = meaning l (before_of last) here >>= λ r. Some (ended c f up last lead r)
finish (LastLine l) c f up last here lead (x ∷ xs) = None
finish (More l ls) c f up last here lead [] = None
finish (More l ls) c f up last here lead (x ∷ xs) = meaning l (before_of last) here >>= λ r. finish ls c (left f up last lead r) x.up (last_of x) x.here (lead_left last lead x r) xs
finish Bad c f up last here lead st = None

-- ---- laws of options

bind-map : {A B C : Type 0} (o : Option A) (g : A → B) (k : B → Option C) (j : A → Option C) → ((r : A) → k (g r) ≡ j r) → ((o >>= λ r. Some (g r)) >>= k) ≡ (o >>= j)
bind-map None g k j e = refl
bind-map (Some x) g k j e = e x

bind-none : {A B : Type 0} (o : Option A) (k : A → Option B) → ((r : A) → k r ≡ None) → (o >>= k) ≡ None
bind-none None k e = refl
bind-none (Some x) k e = e x

bind-two : {A B C D : Type 0} (o : Option A) (p : Option B) (g : A → B → C) (k : C → Option D) (j : A → B → Option D) → ((s : A) (r : B) → k (g s r) ≡ j s r) → ((o >>= λ s. p >>= λ r. Some (g s r)) >>= k) ≡ (o >>= λ s. p >>= λ r. j s r)
bind-two None p g k j e = refl
bind-two (Some s) None g k j e = refl
bind-two (Some s) (Some r) g k j e = e s r

-- ---- an element that opens and closes nothing

abbrev Goes : (LineSyntax → LineSyntax) → (Addition → Addition) → Option PositionParts → PositionParts → Option PositionParts → PositionParts → Type 0
Goes F g b here b' here' = (l : LineSyntax) → meaning (F l) b here ≡ (meaning l b' here' >>= λ r. Some (g r))

at-root : (F : LineSyntax → LineSyntax) (g : Addition → Addition) (ls : Lines) (c c' : List ℕ) (f f' : Forest) (up up' : List ℕ) (last last' : Last) (here here' : PositionParts) (lead lead' : List ℕ)
    → Goes F g (before_of last) here (before_of last') here' → ((r : Addition) → ended c f up last lead (g r) ≡ ended c' f' up' last' lead' r)
    → finish ls c' f' up' last' here' lead' [] ≡ finish (first F ls) c f up last here lead []
at-root F g (LastLine l) c c' f f' up up' last last' here here' lead lead' goes same =
    sym (rw (goes l) (bind-map (meaning l (before_of last') here') g (λ r. Some (ended c f up last lead r)) (λ r. Some (ended c' f' up' last' lead' r)) (λ r. ap (λ (x : List ℕ × Forest). Some x) (same r))))
at-root F g (More l ls) c c' f f' up up' last last' here here' lead lead' goes same = refl
at-root F g Bad c c' f f' up up' last last' here here' lead lead' goes same = refl

in-frame : (F : LineSyntax → LineSyntax) (g : Addition → Addition) (ls : Lines) (c : List ℕ) (f f' : Forest) (up up' : List ℕ) (last last' : Last) (here here' : PositionParts) (lead lead' : List ℕ) (x : Frame) (xs : List Frame)
    → Goes F g (before_of last) here (before_of last') here'
    → ((r : Addition) → (left f up last lead (g r) ≡ left f' up' last' lead' r) × (lead_left last lead x (g r) ≡ lead_left last' lead' x r))
    → finish ls c f' up' last' here' lead' (x ∷ xs) ≡ finish (first F ls) c f up last here lead (x ∷ xs)
in-frame F g (LastLine l) c f f' up up' last last' here here' lead lead' x xs goes same = refl
in-frame F g (More l ls) c f f' up up' last last' here here' lead lead' x xs goes same =
    sym (rw (goes l) (bind-map (meaning l (before_of last') here') g (λ r. finish ls c (left f up last lead r) x.up (last_of x) x.here (lead_left last lead x r) xs) (λ r. finish ls c (left f' up' last' lead' r) x.up (last_of x) x.here (lead_left last' lead' x r) xs)
    (λ r. ap (λ (y : Forest). finish ls c y x.up (last_of x) x.here (lead_left last lead x (g r)) xs) (same r).0 ∙ ap (λ (y : List ℕ). finish ls c (left f' up' last' lead' r) x.up (last_of x) x.here y xs) (same r).1)))
in-frame F g Bad c f f' up up' last last' here here' lead lead' x xs goes same = refl

goes-skip : (b : Option PositionParts) (here : PositionParts) → Goes Skip (λ r. r) b here b here
goes-skip b here l = same (meaning l b here)
  where
    same : (o : Option Addition) → o ≡ (o >>= λ r. Some r)
    same None = refl
    same (Some r) = refl

goes-play : (w : List ℕ) (m : MoveParts) (b : Option PositionParts) (here : PositionParts) → move_in here w ≡ Some m → Goes (Play w) (with_move_first m) b here (Some here) (after here m)
goes-play w m b here e l = rw e refl

-- ---- comments

said-said : (a t : List ℕ) (r : Addition) → said (comments_joined a t) r ≡ said a (said t r)
said-said a t r = ap (λ (z : List ℕ). record { nags = r.nags; comment = z; beside = r.beside; below = r.below }) (joined-assoc a t r.comment)

said-first : (lead : List ℕ) (m : MoveParts) (r : Addition) → said lead (with_move_first m r) ≡ plus (say lead) (grown m r)
said-first lead m r = refl

-- ---- a variation

vary-hang : (g : Forest) (t : List ℕ) (r : Addition) (f : Forest) (x : Frame) → Leads (path_of x) f
    → hang (path_of x) (said (dropped x.lead t g) r) (leave f x.up t g) ≡ hang (path_of x) (said x.lead (varied g t r)) f
vary-hang Bare t r f x at = ap (λ (s : Addition). hang (path_of x) s f) (said-said x.lead t r)
vary-hang (Node m n c b next) t r f x at =
    let g : Forest = with_opening_comment t (Node m n c b next) in
    ap (hang (path_of x) (said x.lead r)) (hang-up x.up x.place g f) ∙ hang-twice (path_of x) (beside g) (said x.lead r) f at

opened : (ls : Lines) (c : List ℕ) (f : Forest) (up : List ℕ) (i : ℕ) (before here : PositionParts) (lead : List ℕ) (st : List Frame) → Leads (up ++ i ∷ []) f
    → finish ls c f up None before [] (record { up = up; place = i; before = before; here = here; lead = lead } ∷ st) ≡ finish (open_one ls) c f up (Some (i, before)) here lead st
opened (LastLine v) c f up i before here lead st at = refl
opened Bad c f up i before here lead st at = refl
opened (More v Bad) c f up i before here lead st at = bind-none (meaning v None before) _ (λ s. refl)
opened (More v (LastLine l)) c f up i before here lead (y ∷ ys) at = bind-none (meaning v None before) _ (λ s. refl)
opened (More v (More l ls)) c f up i before here lead [] at = bind-none (meaning v None before) _ (λ s. refl)
opened (More v (LastLine l)) c f up i before here lead [] at =
    let x : Frame = record { up = up; place = i; before = before; here = here; lead = lead } in
    sym (bind-two (meaning v None before) (meaning l (Some before) here) (λ s r. varied s.below s.comment r) (λ r. Some (ended c f up (Some (i, before)) lead r))
    (λ s r. Some (ended c (left f up None [] s) up (Some (i, before)) (lead_left None [] x s) r))
    (λ s r. ap (λ (y : Forest). Some (c, y)) (sym (vary-hang s.below s.comment r f x at))))
opened (More v (More l ls)) c f up i before here lead (y ∷ ys) at =
    let x : Frame = record { up = up; place = i; before = before; here = here; lead = lead } in
    sym (bind-two (meaning v None before) (meaning l (Some before) here) (λ s r. varied s.below s.comment r)
    (λ r. finish ls c (left f up (Some (i, before)) lead r) y.up (last_of y) y.here (lead_left (Some (i, before)) lead y r) ys)
    (λ s r. finish ls c (left (left f up None [] s) up (Some (i, before)) (lead_left None [] x s) r) y.up (last_of y) y.here (lead_left (Some (i, before)) (lead_left None [] x s) y r) ys)
    (λ s r. ap (λ (z : Forest). finish ls c z y.up (last_of y) y.here y.lead ys) (sym (vary-hang s.below s.comment r f x at))))

closed : (ls : Lines) (c : List ℕ) (f : Forest) (up : List ℕ) (last : Last) (here : PositionParts) (lead : List ℕ) (x : Frame) (xs : List Frame)
    → finish ls c (left f up last lead nothing) x.up (last_of x) x.here (lead_left last lead x nothing) xs ≡ finish (close_one ls) c f up last here lead (x ∷ xs)
closed (LastLine l) c f up last here lead x xs = refl
closed (More l ls) c f up last here lead x xs = refl
closed Bad c f up last here lead x xs = refl

not-opened : (ls : Lines) (c : List ℕ) (f : Forest) (up : List ℕ) (here : PositionParts) (lead : List ℕ) (st : List Frame) → finish (open_one ls) c f up None here lead st ≡ None
not-opened (LastLine v) c f up here lead st = refl
not-opened Bad c f up here lead st = refl
not-opened (More v Bad) c f up here lead st = refl
not-opened (More v (LastLine l)) c f up here lead [] = refl
not-opened (More v (LastLine l)) c f up here lead (x ∷ xs) = refl
not-opened (More v (More l ls)) c f up here lead [] = refl
not-opened (More v (More l ls)) c f up here lead (x ∷ xs) = refl

not-closed : (ls : Lines) (c : List ℕ) (f : Forest) (up : List ℕ) (last : Last) (here : PositionParts) (lead : List ℕ) → finish (close_one ls) c f up last here lead [] ≡ None
not-closed (LastLine l) c f up last here lead = refl
not-closed (More l ls) c f up last here lead = refl
not-closed Bad c f up last here lead = refl

not-played : (w : List ℕ) (ls : Lines) (c : List ℕ) (f : Forest) (up : List ℕ) (last : Last) (here : PositionParts) (lead : List ℕ) (st : List Frame) → move_in here w ≡ None → finish (first (Play w) ls) c f up last here lead st ≡ None
not-played w (LastLine l) c f up last here lead [] e = rw e refl
not-played w (LastLine l) c f up last here lead (x ∷ xs) e = refl
not-played w (More l ls) c f up last here lead [] e = refl
not-played w (More l ls) c f up last here lead (x ∷ xs) e = rw e refl
not-played w Bad c f up last here lead st e = refl

-- ---- places

pub at-prefix : (q : List ℕ) (i : ℕ) (f : Forest) → Leads (q ++ i ∷ []) f → Leads q f
at-prefix [] i f at = tt
at-prefix (j ∷ q) i f at = (at.0, at-prefix q i (below_child j f) at.1)

pub keeps-all : (p : List ℕ) (r : Addition) (st : List Frame) (f : Forest) → AllThere st f → AllThere st (hang p r f)
keeps-all p r [] f all = tt
keeps-all p r (x ∷ xs) f all = (keeps p (path_of x) r f all.0, keeps-all p r xs f all.1)

-- ---- a move

-- the first move of the game, of a variation, and another
first-done : (w : List ℕ) (m : MoveParts) (ls : Lines) (c : List ℕ) (f : Forest) (up : List ℕ) (here : PositionParts) (lead : List ℕ) → move_in here w ≡ Some m → Leads up f
    → finish ls (comments_joined c lead) (hang up (leaf m) f) up (Some (count (below_at up f), here)) (after here m) [] [] ≡ finish (first (Play w) ls) c f up None here lead []
first-done w m ls c f up here lead e at =
    at-root (Play w) (with_move_first m) ls c (comments_joined c lead) f (hang up (leaf m) f) up up None (Some (count (below_at up f), here)) here (after here m) lead [] (goes-play w m None here e)
    (λ r. rw (joined-nil lead) (ap (λ (z : Forest). (comments_joined c lead, z)) (sym (hang-down up m r f at))))

inner-done : (w : List ℕ) (m : MoveParts) (ls : Lines) (c : List ℕ) (f : Forest) (up : List ℕ) (here : PositionParts) (lead : List ℕ) (x : Frame) (xs : List Frame) → move_in here w ≡ Some m → Leads up f
    → finish ls c (hang up (leaf m) f) up (Some (count (below_at up f), here)) (after here m) lead (x ∷ xs) ≡ finish (first (Play w) ls) c f up None here lead (x ∷ xs)
inner-done w m ls c f up here lead x xs e at =
    in-frame (Play w) (with_move_first m) ls c f (hang up (leaf m) f) up up None (Some (count (below_at up f), here)) here (after here m) lead lead x xs (goes-play w m None here e)
    (λ r. (rw (joined-nil lead) (sym (hang-down up m (said lead r) f at)), refl))

then-hang : (p : List ℕ) (m : MoveParts) (lead : List ℕ) (r : Addition) (f : Forest) → Leads p f
    → hang p (said lead (with_move_first m r)) f ≡ hang (p ++ count (below_at p (hang p (say lead) f)) ∷ []) r (hang p (leaf m) (hang p (say lead) f))
then-hang p m lead r f at =
    let g : Forest = hang p (say lead) f in
    sym (hang-down p m r g (keeps p p (say lead) f at) ∙ hang-twice p (say lead) (grown m r) f at)

next-root : (w : List ℕ) (m : MoveParts) (ls : Lines) (c : List ℕ) (f : Forest) (up : List ℕ) (y : ℕ × PositionParts) (here : PositionParts) (lead : List ℕ) → move_in here w ≡ Some m → Leads (up ++ y.0 ∷ []) f
    → finish ls c (hang (up ++ y.0 ∷ []) (leaf m) (hang (up ++ y.0 ∷ []) (say lead) f)) (up ++ y.0 ∷ []) (Some (count (below_at (up ++ y.0 ∷ []) (hang (up ++ y.0 ∷ []) (say lead) f)), here)) (after here m) [] []
    ≡ finish (first (Play w) ls) c f up (Some y) here lead []
next-root w m ls c f up y here lead e at =
    let p : List ℕ = up ++ y.0 ∷ [] in
    let g : Forest = hang p (say lead) f in
    at-root (Play w) (with_move_first m) ls c c f (hang p (leaf m) g) up p (Some y) (Some (count (below_at p g), here)) here (after here m) lead [] (goes-play w m (Some y.1) here e)
    (λ r. ap (λ (z : Forest). (c, z)) (then-hang p m lead r f at))

next-inner : (w : List ℕ) (m : MoveParts) (ls : Lines) (c : List ℕ) (f : Forest) (up : List ℕ) (y : ℕ × PositionParts) (here : PositionParts) (lead : List ℕ) (x : Frame) (xs : List Frame) → move_in here w ≡ Some m → Leads (up ++ y.0 ∷ []) f
    → finish ls c (hang (up ++ y.0 ∷ []) (leaf m) (hang (up ++ y.0 ∷ []) (say lead) f)) (up ++ y.0 ∷ []) (Some (count (below_at (up ++ y.0 ∷ []) (hang (up ++ y.0 ∷ []) (say lead) f)), here)) (after here m) [] (x ∷ xs)
    ≡ finish (first (Play w) ls) c f up (Some y) here lead (x ∷ xs)
next-inner w m ls c f up y here lead x xs e at =
    let p : List ℕ = up ++ y.0 ∷ [] in
    let g : Forest = hang p (say lead) f in
    in-frame (Play w) (with_move_first m) ls c f (hang p (leaf m) g) up p (Some y) (Some (count (below_at p g), here)) here (after here m) lead [] x xs (goes-play w m (Some y.1) here e)
    (λ r. (then-hang p m lead r f at, refl))

-- both ways of a move's text
by-move : (o : Option MoveParts) (k : MoveParts → Answer) (z : Answer) → (o ≡ None → z ≡ None) → ((m : MoveParts) → o ≡ Some m → k m ≡ z) → (o >>= k) ≡ z
by-move None k z bad good = sym (bad refl)
by-move (Some m) k z bad good = good m refl

pub meets : (ts : List Element) (c : List ℕ) (f : Forest) (up : List ℕ) (last : Last) (here : PositionParts) (lead : List ℕ) (st : List Frame)
    → Leads (end_of up last) f → AllThere st f → run ts c f up last here lead st ≡ finish (parse ts) c f up last here lead st
meets [] c f up None here lead [] at all = rw (joined-nil lead, hang-nothing up f) refl
meets [] c f up (Some x) here lead [] at all = rw (joined-nil lead) refl
meets [] c f up last here lead (x ∷ xs) at all = refl
meets (Number ∷ ts) c f up last here lead [] at all = meets ts c f up last here lead [] at all ∙ at-root Skip (λ r. r) (parse ts) c c f f up up last last here here lead lead (goes-skip (before_of last) here) (λ r. refl)
meets (Number ∷ ts) c f up last here lead (x ∷ xs) at all = meets ts c f up last here lead (x ∷ xs) at all ∙ in-frame Skip (λ r. r) (parse ts) c f f up up last last here here lead lead x xs (goes-skip (before_of last) here) (λ r. (refl, refl))
meets (Annotation n ∷ ts) c f up None here lead [] at all = meets ts c f up None here lead [] at all ∙ at-root (Annotate n) (with_annotation n) (parse ts) c c f f up up None None here here lead lead (λ l. refl) (λ r. refl)
meets (Annotation n ∷ ts) c f up None here lead (x ∷ xs) at all = meets ts c f up None here lead (x ∷ xs) at all ∙ in-frame (Annotate n) (with_annotation n) (parse ts) c f f up up None None here here lead lead x xs (λ l. refl) (λ r. (refl, refl))
meets (Annotation n ∷ ts) c f up (Some y) here lead [] at all =
    let p : List ℕ = up ++ y.0 ∷ [] in
    meets ts c (hang p (nag n) f) up (Some y) here lead [] (keeps p p (nag n) f at) tt
    ∙ at-root (Annotate n) (with_annotation n) (parse ts) c c f (hang p (nag n) f) up up (Some y) (Some y) here here lead lead (λ l. refl) (λ r. ap (λ (z : Forest). (c, z)) (sym (hang-twice p (nag n) (said lead r) f at)))
meets (Annotation n ∷ ts) c f up (Some y) here lead (x ∷ xs) at all =
    let p : List ℕ = up ++ y.0 ∷ [] in
    meets ts c (hang p (nag n) f) up (Some y) here lead (x ∷ xs) (keeps p p (nag n) f at) (keeps-all p (nag n) (x ∷ xs) f all)
    ∙ in-frame (Annotate n) (with_annotation n) (parse ts) c f (hang p (nag n) f) up up (Some y) (Some y) here here lead lead x xs (λ l. refl) (λ r. (sym (hang-twice p (nag n) (said lead r) f at), refl))
meets (Remark t ∷ ts) c f up None here lead [] at all =
    meets ts c f up None here (comments_joined lead t) [] at tt
    ∙ at-root (Say t) (said t) (parse ts) c c f f up up None None here here lead (comments_joined lead t) (λ l. refl) (λ r. ap (λ (z : List ℕ). (comments_joined c z, hang up (below r.below) f)) (sym (joined-assoc lead t r.comment)))
meets (Remark t ∷ ts) c f up None here lead (x ∷ xs) at all =
    meets ts c f up None here (comments_joined lead t) (x ∷ xs) at all
    ∙ in-frame (Say t) (said t) (parse ts) c f f up up None None here here lead (comments_joined lead t) x xs (λ l. refl) (λ r. (ap (λ (z : List ℕ). leave f up z r.below) (sym (joined-assoc lead t r.comment)), ap (λ (z : List ℕ). dropped x.lead z r.below) (sym (joined-assoc lead t r.comment))))
meets (Remark t ∷ ts) c f up (Some y) here lead [] at all =
    let p : List ℕ = up ++ y.0 ∷ [] in
    meets ts c f up (Some y) here (comments_joined lead t) [] at tt
    ∙ at-root (Say t) (said t) (parse ts) c c f f up up (Some y) (Some y) here here lead (comments_joined lead t) (λ l. refl) (λ r. ap (λ (z : Addition). (c, hang p z f)) (sym (said-said lead t r)))
meets (Remark t ∷ ts) c f up (Some y) here lead (x ∷ xs) at all =
    let p : List ℕ = up ++ y.0 ∷ [] in
    meets ts c f up (Some y) here (comments_joined lead t) (x ∷ xs) at all
    ∙ in-frame (Say t) (said t) (parse ts) c f f up up (Some y) (Some y) here here lead (comments_joined lead t) x xs (λ l. refl) (λ r. (ap (λ (z : Addition). hang p z f) (sym (said-said lead t r)), refl))
meets (Text w ∷ ts) c f up None here lead [] at all =
    by-move (move_in here w) _ (finish (first (Play w) (parse ts)) c f up None here lead []) (not-played w (parse ts) c f up None here lead [])
    (λ m e. meets ts (comments_joined c lead) (hang up (leaf m) f) up (Some (count (below_at up f), here)) (after here m) [] [] (new-there up m f at) tt
    ∙ first-done w m (parse ts) c f up here lead e at)
meets (Text w ∷ ts) c f up None here lead (x ∷ xs) at all =
    by-move (move_in here w) _ (finish (first (Play w) (parse ts)) c f up None here lead (x ∷ xs)) (not-played w (parse ts) c f up None here lead (x ∷ xs))
    (λ m e. meets ts c (hang up (leaf m) f) up (Some (count (below_at up f), here)) (after here m) lead (x ∷ xs) (new-there up m f at) (keeps-all up (leaf m) (x ∷ xs) f all)
    ∙ inner-done w m (parse ts) c f up here lead x xs e at)
meets (Text w ∷ ts) c f up (Some y) here lead [] at all =
    let p : List ℕ = up ++ y.0 ∷ [] in
    let g : Forest = hang p (say lead) f in
    let there = keeps p p (say lead) f at in
    by-move (move_in here w) _ (finish (first (Play w) (parse ts)) c f up (Some y) here lead []) (not-played w (parse ts) c f up (Some y) here lead [])
    (λ m e. meets ts c (hang p (leaf m) g) p (Some (count (below_at p g), here)) (after here m) [] [] (new-there p m g there) tt
    ∙ next-root w m (parse ts) c f up y here lead e at)
meets (Text w ∷ ts) c f up (Some y) here lead (x ∷ xs) at all =
    let p : List ℕ = up ++ y.0 ∷ [] in
    let g : Forest = hang p (say lead) f in
    let there = keeps p p (say lead) f at in
    by-move (move_in here w) _ (finish (first (Play w) (parse ts)) c f up (Some y) here lead (x ∷ xs)) (not-played w (parse ts) c f up (Some y) here lead (x ∷ xs))
    (λ m e. meets ts c (hang p (leaf m) g) p (Some (count (below_at p g), here)) (after here m) [] (x ∷ xs) (new-there p m g there) (keeps-all p (leaf m) (x ∷ xs) g (keeps-all p (say lead) (x ∷ xs) f all))
    ∙ next-inner w m (parse ts) c f up y here lead x xs e at)
meets (Open ∷ ts) c f up None here lead st at all = sym (not-opened (parse ts) c f up here lead st)
meets (Open ∷ ts) c f up (Some x) here lead st at all =
    meets ts c f up None x.1 [] (record { up = up; place = x.0; before = x.1; here = here; lead = lead } ∷ st) (at-prefix up x.0 f at) (at, all)
    ∙ opened (parse ts) c f up x.0 x.1 here lead st at
meets (Close ∷ ts) c f up last here lead [] at all = sym (not-closed (parse ts) c f up last here lead)
meets (Close ∷ ts) c f up None here lead (x ∷ xs) at all =
    meets ts c f x.up (last_of x) x.here (comments_joined x.lead lead) xs all.0 all.1
    ∙ ap (λ (z : List ℕ). finish (parse ts) c f x.up (last_of x) x.here (comments_joined x.lead z) xs) (sym (joined-nil lead))
    ∙ closed (parse ts) c f up None here lead x xs
meets (Close ∷ ts) c f up (Some y) here lead (x ∷ xs) at all =
    let p : List ℕ = up ++ y.0 ∷ [] in
    meets ts c (hang p (say lead) f) x.up (last_of x) x.here x.lead xs (keeps p (path_of x) (say lead) f all.0) (keeps-all p (say lead) xs f all.1)
    ∙ ap (λ (z : List ℕ). finish (parse ts) c (hang p (say z) f) x.up (last_of x) x.here x.lead xs) (sym (joined-nil lead))
    ∙ closed (parse ts) c f up (Some y) here lead x xs
