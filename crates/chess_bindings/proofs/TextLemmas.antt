-- What was sent by way of a page: what a sink in memory has, and what stands on the page.
use Rattle.std.proofs.Common.{◌≡◌, ℕ, List, [], ◌++◌, refl, sym, ap, ◌∙◌, subst, inl, inr}
use Rattle.std.specs.Prelude.{Bool, false, T, Result, Ok, Err, MatchResult, OnErr}
use Rattle.byte_streams.specs.Calls.{joined}
use Rattle.byte_streams.proofs.CallLemmas.{Calls-taken, Carries-none}
use Rattle.chess_loop.specs.steps.Sending.{Sent, SentOr, Sends, Flows}
use Rattle.chess_tree.specs.GameTree.{TreeParts}
use Rattle.chess_cli.specs.Answers.{AnswersRequest}
use Rattle.chess_cli.specs.Requests.{request}
use Rattle.chess_bindings.specs.Answers.{IsLineAnswered}
use Rattle.chess_bindings.specs.Handed.{IsHanded}
use Rattle.chess_bindings.specs.Texts.{Text}

abbrev pub takes : Text → List ℕ → Text → Type 0
takes s bytes t = t.taken ≡ s.taken ++ bytes

abbrev pub failed : Text → Bool
failed s = s.failed

-- what was sent from nothing
gathered : (w0 w1 : Text) → (text p1 : List ℕ) → w0.taken ≡ [] → Sent takes failed w0 text p1 w1 → w1.taken ++ p1 ≡ text
gathered w0 w1 text p1 ew sent =
    let told : w1.taken ≡ w0.taken ++ joined sent.calls.pieces = Calls-taken takes (λ (s : Text). s.taken) (λ s t p h. h) w0 w1 sent.calls.pieces sent.calls.calls in
    ap (λ (x : List ℕ). x ++ p1) (told ∙ ap (λ (x : List ℕ). x ++ joined sent.calls.pieces) ew ∙ sent.calls.whole) ∙ sent.whole

-- a sink that can't fail
pub never_fails : {W X E : Type 0} → (takes : W → List ℕ → W → Type 0) → (failed : W → Bool) → ((w : W) → failed w ≡ false) → (r : Result X E) → (e : E) → r ≡ Err e
    → (page page1 : List ℕ) → (w w1 : W) → Flows takes failed page w page1 w1 r → ⊥
never_fails {X = X} {E = E} takes failed never r e is page page1 w w1 flows =
    let begun : Sent takes failed w page page w = record { prefix = []; calls = Carries-none takes w; whole = refl; well = refl } in
    let broken = subst (λ (x : Result X E). SentOr takes failed w page page1 w1 x) is (flows w page begun) in
    absurd (subst (λ (b : Bool). T b) (sym broken.fails ∙ never w1) tt)

-- the answer is handed out, or there was no memory and all is as before; nothing was written before, and the page was empty
pub handed_answer : {X E : Type 0} → (r : Result X E) → (w0 w1 : Text) → (text p0 p1 : List ℕ) → p0 ≡ [] → w0.taken ≡ [] → Sends takes failed p0 w0 text p1 w1 r
    → (code count count' : ℕ) → (old new : List ℕ) → MatchResult r (λ _. IsHanded (w1.taken ++ p1) code count' old new) (λ _. (code ≡ 2) × (count' ≡ count) × (new ≡ old))
    → (line : List ℕ) → (board board' : TreeParts) → AnswersRequest board (request line) text board' → OnErr r (board' ≡ board) → IsLineAnswered board line code count count' old new board'
handed_answer (Ok x) w0 w1 text p0 p1 e0 ew sends code count count' old new handed line board board' answers still =
    let begun : Sent takes failed w0 [] p0 w0 = record { prefix = []; calls = Carries-none takes w0; whole = e0; well = refl } in
    inl (text, answers, subst (λ (t : List ℕ). IsHanded t code count' old new) (gathered w0 w1 text p1 ew (sends w0 [] begun)) handed)
handed_answer (Err e) w0 w1 text p0 p1 e0 ew sends code count count' old new handed line board board' answers still = inr (handed.0, still, handed.1, handed.2)
