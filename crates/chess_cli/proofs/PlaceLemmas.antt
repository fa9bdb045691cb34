-- A path's text, place by place, by way of a page.
use Rattle.std.proofs.Common.{◌≡◌, ℕ, ◌+◌, ◌<◌, ◌≤◌, Bool, Some, List, [], ◌∷◌, ◌++◌, length, take, drop, map, Ok, Err, refl, sym, ap, ◌∙◌, subst, append_assoc, append-nil, arith}
use Rattle.std.specs.Prelude.{codes, decimal, slice_get}
use Rattle.std.proofs.lemmas.Option.{slice_get_within, get_or_from_slice_get}
use Rattle.std.proofs.lemmas.List.{map-append, take_more, take-append-drop, length-take-le}
use Rattle.byte_streams.specs.declared.source.Failed.{Failed}
use Rattle.chess_cli.specs.Gaps.{gapped, separated_by}
use Rattle.chess_cli.specs.Numbers.{path_text}
use Rattle.chess_cli.specs.steps.Pieces.{next_place}
use Rattle.chess_loop.specs.steps.Sending.{Sent, Flows, Sends}
use Rattle.chess_loop.specs.RunEnds.{Broken}
use Rattle.chess_cli.proofs.PathLemmas.{take-whole}
use Rattle.chess_loop.proofs.SendingLemmas.{sent_more, broken_longer}

-- the text of some places
abbrev pub places_text : List ℕ → List ℕ
places_text places = separated_by (codes ".") (map decimal places)

gapped-append : (gap : List ℕ) (xs ys : List (List ℕ)) → gapped gap (xs ++ ys) ≡ gapped gap xs ++ gapped gap ys
gapped-append gap [] ys = refl
gapped-append gap (x ∷ xs) ys =
    ap (λ (t : List ℕ). gap ++ x ++ t) (gapped-append gap xs ys) ∙ sym (append_assoc (gap ++ x) (gapped gap xs) (gapped gap ys))

-- one place more
places-more : (places : List ℕ) (n place : ℕ) → n ≡ length places → places_text (places ++ place ∷ []) ≡ places_text places ++ next_place n place
places-more [] n place is = rw is (append-nil (decimal place))
places-more (p ∷ places) n place is =
    rw is (
    ap (λ (t : List ℕ). decimal p ++ t)
    (ap (gapped (codes ".")) (map-append decimal places (place ∷ [])) ∙ gapped-append (codes ".") (map decimal places) (decimal place ∷ [])
    ∙ ap (λ (t : List ℕ). gapped (codes ".") (map decimal places) ++ 46 ∷ t) (append-nil (decimal place)))
    ∙ sym (append_assoc (decimal p) (gapped (codes ".") (map decimal places)) (46 ∷ decimal place)))

-- the text of the first places is a prefix of all
places-prefix : (xs ys : List ℕ) → (more : List ℕ) × (places_text (xs ++ ys) ≡ places_text xs ++ more)
places-prefix [] ys = (places_text ys, refl)
places-prefix (x ∷ xs) ys = (
  gapped (codes ".") (map decimal ys),
  ap (λ (t : List ℕ). decimal x ++ t) (ap (gapped (codes ".")) (map-append decimal xs ys) ∙ gapped-append (codes ".") (map decimal xs) (map decimal ys))
      ∙ sym (append_assoc (decimal x) (gapped (codes ".") (map decimal xs)) (gapped (codes ".") (map decimal ys))),
)

-- the text of the path, after one place more
path-more : (path : List ℕ) (ply place : ℕ) → slice_get path ply ≡ Some place
    → places_text (take (ply + 1) path) ≡ places_text (take ply path) ++ next_place ply place
path-more path ply place is =
    let within : ply < length path = slice_get_within path ply place is in
    ap places_text (take_more path ply place within) ∙ ap (λ (x : ℕ). places_text (take ply path ++ x ∷ [])) (get_or_from_slice_get path ply place place is)
    ∙ places-more (take ply path) ply place (sym (length-take-le ply path (omega (arith, within))))

path_text-places : (path : List ℕ) → 0 < length path → path_text path ≡ places_text path
path_text-places [] some = absurd (omega (arith, some))
path_text-places (place ∷ path) some = refl

module _ {W : Type 0} (takes : W → List ℕ → W → Type 0) (failed : W → Bool) where
  -- So far: whatever was sent before, the text of the first places is sent after it.
  abbrev pub PlacesSent : List ℕ → W → List ℕ → ℕ → List ℕ → W → Type 0
  PlacesSent page w path ply page1 w1 = (start : W) (before : List ℕ) → Sent takes failed start before page w → Sent takes failed start (before ++ places_text (take ply path)) page1 w1

  pub places_start : (page : List ℕ) (w : W) (path : List ℕ) → PlacesSent page w path 0 page w
  places_start page w path = λ start before sent. rw (append-nil before) sent

  -- one place more
  pub places_on : (page : List ℕ) (w : W) (path : List ℕ) (ply place : ℕ) (page1 : List ℕ) (w1 : W) (page2 : List ℕ) (w2 : W) (page3 : List ℕ) → PlacesSent page w path ply page1 w1
      → slice_get path ply ≡ Some place → Flows takes failed {X = Unit {0}} {E = Failed} page1 w1 page2 w2 (Ok tt) → page3 ≡ page2 ++ next_place ply place → PlacesSent page w path (ply + 1) page3 w2
  places_on page w path ply place page1 w1 page2 w2 page3 so_far is flows put = λ start before sent.
      let roomy = flows start (before ++ places_text (take ply path)) (so_far start before sent) in
      let text : (before ++ places_text (take ply path)) ++ next_place ply place ≡ before ++ places_text (take (ply + 1) path) =
      append_assoc before (places_text (take ply path)) (next_place ply place) ∙ ap (λ (t : List ℕ). before ++ t) (sym (path-more path ply place is)) in
      rw put (subst (λ (t : List ℕ). Sent takes failed start t (page2 ++ next_place ply place) w2) text
      (sent_more takes failed start w2 (before ++ places_text (take ply path)) page2 (next_place ply place) roomy))

  -- a write failed
  pub places_broken : (page : List ℕ) (w : W) (path : List ℕ) (ply : ℕ) (page1 : List ℕ) (w1 : W) (page2 : List ℕ) (w2 : W) (e : Failed) → PlacesSent page w path ply page1 w1
      → Flows takes failed {X = Unit {0}} {E = Failed} page1 w1 page2 w2 (Err e) → 0 < length path → Sends takes failed {X = Unit {0}} {E = Failed} page w (path_text path ++ 10 ∷ []) page2 w2 (Err e)
  places_broken page w path ply page1 w1 page2 w2 e so_far flows some = λ start before sent.
      let broken = flows start (before ++ places_text (take ply path)) (so_far start before sent) in
      let prefix = places-prefix (take ply path) (drop ply path) in
      let text : places_text (take ply path) ++ (prefix.0 ++ 10 ∷ []) ≡ path_text path ++ 10 ∷ [] =
      sym (append_assoc (places_text (take ply path)) prefix.0 (10 ∷ []))
      ∙ ap (λ (u : List ℕ). u ++ 10 ∷ []) (sym prefix.1 ∙ ap places_text (take-append-drop ply path) ∙ sym (path_text-places path some)) in
      let all : (before ++ places_text (take ply path)) ++ (prefix.0 ++ 10 ∷ []) ≡ before ++ (path_text path ++ 10 ∷ []) =
      append_assoc before (places_text (take ply path)) (prefix.0 ++ 10 ∷ []) ∙ ap (λ (u : List ℕ). before ++ u) text in
      subst (λ (u : List ℕ). Broken takes failed start u w2) all
      (broken_longer takes failed start w2 (before ++ places_text (take ply path)) (prefix.0 ++ 10 ∷ []) broken)

  -- all of it is sent
  pub places_whole : (page : List ℕ) (w : W) (path : List ℕ) (ply : ℕ) (page1 : List ℕ) (w1 : W) (page2 : List ℕ) → PlacesSent page w path ply page1 w1 → length path ≤ ply → 0 < length path
      → page2 ≡ page1 ++ 10 ∷ [] → Sends takes failed {X = Unit {0}} {E = Failed} page w (path_text path ++ 10 ∷ []) page2 w1 (Ok tt)
  places_whole page w path ply page1 w1 page2 so_far all some put = λ start before sent.
      let text : (before ++ places_text (take ply path)) ++ 10 ∷ [] ≡ before ++ (path_text path ++ 10 ∷ []) =
      append_assoc before (places_text (take ply path)) (10 ∷ [])
      ∙ ap (λ (u : List ℕ). before ++ (u ++ 10 ∷ [])) (ap places_text (take-whole ply path all) ∙ sym (path_text-places path some)) in
      rw put (subst (λ (t : List ℕ). Sent takes failed start t (page1 ++ 10 ∷ []) w1) text
      (sent_more takes failed start w1 (before ++ places_text (take ply path)) page1 (10 ∷ []) (so_far start before sent)))
