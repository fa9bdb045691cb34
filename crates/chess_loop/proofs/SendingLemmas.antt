-- Texts that go out by way of a page.
use Rattle.std.proofs.Common.{◌≡◌, ℕ, ◌+◌, ◌≤◌, Bool, List, [], ◌∷◌, ◌++◌, length, length-append, take, Result, Ok, Err, refl, sym, ap, subst, ◌∙◌, append_assoc, append-nil, arith}
use Rattle.byte_streams.specs.Calls.{Carries, joined}
use Rattle.byte_streams.specs.declared.source.Failed.{Failed}
use Rattle.byte_streams.proofs.CallLemmas.{Carries-none, Carries-append, Carries-more}
use Rattle.chess_loop.specs.Runs.{InOne, last_length, unwritten}
use Rattle.chess_loop.specs.steps.Reads.{AnswersLine}
use Rattle.chess_loop.specs.steps.Sending.{Sent, SentOr, Flows, Sends, SendsParts}
use Rattle.chess_loop.specs.RunEnds.{Broken}

last_length_most : (n m : ℕ) (parts : List (List ℕ)) → n ≤ m → last_length n parts ≤ last_length m parts
last_length_most n m [] few = few
last_length_most n m (part ∷ parts) few = omega arith

-- where fewer bytes were unwritten before, fewer may be afterwards
pub unwritten_most : (n m : ℕ) (parts : List (List ℕ)) → n ≤ m → unwritten n parts ≤ unwritten m parts
unwritten_most n m [] few = few
unwritten_most n m (part ∷ parts) few = last_length_most (n + length part) (m + length part) parts (omega arith)

last_length_more : (n : ℕ) (parts : List (List ℕ)) (part : List ℕ) → last_length n (parts ++ part ∷ []) ≡ length part
last_length_more n [] part = refl
last_length_more n (p ∷ parts) part = last_length_more (length p) parts part

-- a further part alone may be unwritten
pub unwritten_more : (n : ℕ) (first : List ℕ) (parts : List (List ℕ)) (part : List ℕ) → unwritten n (first ∷ parts ++ part ∷ []) ≡ length part
unwritten_more n first parts part = last_length_more (n + length first) parts part

-- what is left of a text is no longer than the text
pub no_longer : (prefix rest text : List ℕ) → prefix ++ rest ≡ text → length rest ≤ length text
no_longer prefix rest text whole =
    let lengths : length prefix + length rest ≡ length text = sym (length-append prefix rest) ∙ ap length whole in
    omega (arith, lengths)

module _ {W : Type 0} (takes : W → List ℕ → W → Type 0) (failed : W → Bool) where
  -- nothing is written, and the text stands on the page
  pub sent_start : (w : W) (text : List ℕ) → Sent takes failed w text text w
  sent_start w text = record { prefix = []; calls = Carries-none takes w; whole = refl; well = refl }

  -- a call takes the first n bytes
  pub sent_call : (w m t : W) (text rest rest' : List ℕ) (n : ℕ) → Sent takes failed w text rest m → takes m (take n rest) t → take n rest ++ rest' ≡ rest
      → failed t ≡ failed m → Sent takes failed w text rest' t
  sent_call w m t text rest rest' n so_far call parts well = record {
    prefix = so_far.prefix ++ take n rest;
    calls = Carries-more takes w m t so_far.prefix (take n rest) so_far.calls call;
    whole = append_assoc so_far.prefix (take n rest) rest' ∙ ap (λ (u : List ℕ). so_far.prefix ++ u) parts ∙ so_far.whole;
    well = well ∙ so_far.well;
  }

  -- all is written
  pub sent_whole : (w t : W) (text : List ℕ) → Sent takes failed w text [] t → Carries takes w text t
  sent_whole w t text sent = subst (λ (x : List ℕ). Carries takes w x t) (sym (append-nil sent.prefix) ∙ sent.whole) sent.calls

  -- what stood on the page is sent
  pub sent_on : (w m t : W) (text page rest : List ℕ) → Sent takes failed w text page m → Sent takes failed m page rest t → Sent takes failed w text rest t
  sent_on w m t text page rest so_far more = record {
    prefix = so_far.prefix ++ more.prefix;
    calls = Carries-append takes w m t so_far.prefix more.prefix so_far.calls more.calls;
    whole = append_assoc so_far.prefix more.prefix rest ∙ ap (λ (u : List ℕ). so_far.prefix ++ u) more.whole ∙ so_far.whole;
    well = more.well ∙ so_far.well;
  }

  pub broken_on : (w m t : W) (text page : List ℕ) → Sent takes failed w text page m → Broken takes failed m page t → Broken takes failed w text t
  broken_on w m t text page so_far more = record {
    prefix = so_far.prefix ++ more.prefix;
    rest = more.rest;
    before = more.before;
    calls = Carries-append takes w m more.before so_far.prefix more.prefix so_far.calls more.calls;
    whole = append_assoc so_far.prefix more.prefix more.rest ∙ ap (λ (u : List ℕ). so_far.prefix ++ u) more.whole ∙ so_far.whole;
    unwritten = more.unwritten;
    well = more.well ∙ so_far.well;
    last = more.last;
    fails = more.fails;
  }

  -- a text more on the page
  pub sent_more : (w t : W) (text page more : List ℕ) → Sent takes failed w text page t → Sent takes failed w (text ++ more) (page ++ more) t
  sent_more w t text page more so_far = record {
    prefix = so_far.prefix;
    calls = so_far.calls;
    whole = sym (append_assoc so_far.prefix page more) ∙ ap (λ (u : List ℕ). u ++ more) so_far.whole;
    well = so_far.well;
  }

  -- whatever was to follow
  pub broken_longer : (w t : W) (text more : List ℕ) → Broken takes failed w text t → Broken takes failed w (text ++ more) t
  broken_longer w t text more broken = record {
    prefix = broken.prefix;
    rest = broken.rest ++ more;
    before = broken.before;
    calls = broken.calls;
    whole = sym (append_assoc broken.prefix broken.rest more) ∙ ap (λ (u : List ℕ). u ++ more) broken.whole;
    unwritten = rw (length-append) (omega (arith, broken.unwritten));
    well = broken.well;
    last = broken.last;
    fails = broken.fails;
  }

  -- a text that is put on the page is sent
  pub puts : (w : W) (page text page1 : List ℕ) → page1 ≡ page ++ text → Sends takes failed {X = Unit {0}} {E = Failed} page w text page1 w (Ok tt)
  puts w page text page1 is = λ start before sent. rw is (sent_more start w before page text sent)

  -- what is written of the page flows
  pub flows : (w t : W) (page page1 : List ℕ) (result : Result (Unit {0}) Failed) → SentOr takes failed w page page1 t result → Flows takes failed page w page1 t result
  flows w t page page1 (Ok x) wrote = λ start text sent. sent_on start w t text page page1 sent wrote
  flows w t page page1 (Err e) wrote = λ start text sent. broken_on start w t text page sent wrote

  -- a text that is written once the page is empty
  pub sends_behind : (w w1 w2 : W) (page text : List ℕ) (result : Result (Unit {0}) Failed) → Flows takes failed {X = Unit {0}} {E = Failed} page w [] w1 (Ok tt) → SentOr takes failed w1 text [] w2 result
      → Sends takes failed page w text [] w2 result
  sends_behind w w1 w2 page text (Ok x) flows wrote = λ start before sent.
      sent_on start w1 w2 (before ++ text) text [] (sent_more start w1 before [] text (flows start before sent)) wrote
  sends_behind w w1 w2 page text (Err e) flows wrote = λ start before sent.
      broken_on start w1 w2 (before ++ text) text (sent_more start w1 before [] text (flows start before sent)) wrote

  -- a text in one part
  pub sends_one : (w t : W) (page text page1 : List ℕ) (result : Result (Unit {0}) Failed) → Sends takes failed page w text page1 t result → SendsParts takes failed page w (text ∷ []) page1 t result
  sends_one w t page text page1 (Ok x) sends =
      let sent = sends w page (sent_start w page) in (
        subst (λ (y : List ℕ). Sent takes failed w (page ++ y) page1 t) (sym (append-nil text)) sent,
        omega (arith, no_longer sent.prefix page1 (page ++ text) sent.whole, length-append page text),
      )
  sends_one w t page text page1 (Err e) sends =
      let broken = sends w page (sent_start w page) in
      subst (λ (y : List ℕ). (b : Broken takes failed w (page ++ y) t) × (length b.rest ≤ length page + length text)) (sym (append-nil text)) (
        broken,
        omega (arith, no_longer broken.prefix broken.rest (page ++ text) broken.whole, length-append page text),
      )

  -- the one text that answers a line
  pub answers_one : {S : Type 0} (step : S → List ℕ → List ℕ → S → Type 0) (s t : S) (line text page page1 : List ℕ) (w x : W) (result : Result (Unit {0}) Failed)
      → step s line text t → Sends takes failed page w text page1 x result → AnswersLine (InOne step) (InOne step) takes failed line s t page w page1 x result
  answers_one step s t line text page page1 w x (Ok y) is sends = (text ∷ [], (text, is, refl), sends_one w x page text page1 (Ok y) sends)
  answers_one step s t line text page page1 w x (Err e) is sends = (text ∷ [], (text, is, refl), sends_one w x page text page1 (Err e) sends)

  -- parts after what was sent
  pub sent_parts : (w m t : W) (text page page1 : List ℕ) (parts : List (List ℕ)) → Sent takes failed w text page m → Sent takes failed m (page ++ joined parts) page1 t
      → Sent takes failed w (text ++ joined parts) page1 t
  sent_parts w m t text page page1 parts so_far sent = sent_on w m t (text ++ joined parts) (page ++ joined parts) page1 (sent_more w m text page (joined parts) so_far) sent

  pub broken_parts : (w m t : W) (text page : List ℕ) (parts : List (List ℕ)) → Sent takes failed w text page m → (broken : Broken takes failed m (page ++ joined parts) t)
      → (now : Broken takes failed w (text ++ joined parts) t) × (now.rest ≡ broken.rest)
  unfolding broken_on
  broken_parts w m t text page parts so_far broken = (broken_on w m t (text ++ joined parts) (page ++ joined parts) (sent_more w m text page (joined parts) so_far) broken, refl)

  -- what flows of the page: no more is left on it, or a rest of it is unwritten
  pub flows_shorter : (w t : W) (page page1 : List ℕ) → Flows takes failed {X = Unit {0}} {E = Failed} page w page1 t (Ok tt) → length page1 ≤ length page
  flows_shorter w t page page1 flow = let sent = flow w page (sent_start w page) in no_longer sent.prefix page1 page sent.whole

  pub flows_broken : (start w t : W) (text page page1 : List ℕ) (e : Failed) → Sent takes failed start text page w → Flows takes failed {X = Unit {0}} {E = Failed} page w page1 t (Err e)
      → (broken : Broken takes failed start text t) × (length broken.rest ≤ length page)
  unfolding broken_on
  flows_broken start w t text page page1 e so_far flow =
      let broken = flow w page (sent_start w page) in
      (broken_on start w t text page so_far broken, no_longer broken.prefix broken.rest page broken.whole)
