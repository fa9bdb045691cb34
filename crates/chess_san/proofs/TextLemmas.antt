-- What is written is read: files, ranks, squares, and what comes after a man's letter.
use Rattle.std.proofs.Common.{◌≡◌, ◌≢◌, ℕ, ◌+◌, ◌<◌, Bool, true, false, List, [], ◌∷◌, ◌++◌, Option, Some, None, refl, sym, ap, arith}
use Rattle.std.specs.Option.{IfSome}
use Rattle.std.proofs.lemmas.Bool.{le-leb, lt-leb, ne_eqb, true≢false}
use Rattle.chess_types.specs.declared.board.man.Kind.{Kind}
use Rattle.chess_types.specs.declared.board.man.Kind.TheVariants.{Pawn, King}
use Rattle.chess_types.specs.board.Squares.{file_of, rank_of}
use Rattle.chess_types.specs.board.Texts.{square_text, names_promotion}
use Rattle.chess_san.specs.declared.form.Origin.{Origin}
use Rattle.chess_san.specs.declared.form.Course.{Course}
use Rattle.chess_san.specs.Forms.{among_eight, file_in, rank_in, square_at, promotion_in, ending_in, arrival_square_in, arrival_in, ranked_in, rank_or_not, filed_in, course_in}
use Rattle.chess_san.specs.Writing.{file_letter, rank_digit, capture_text, becoming_text}

pub file_read : (f : ℕ) → f < 8 → file_in (97 + f) ≡ Some f
unfolding among_eight
file_read f low = rw (le-leb 97 (97 + f) (omega arith), le-leb (97 + f) 104 (omega arith)) (ap (λ x. Some x) (omega arith))

rank_read : (r : ℕ) → r < 8 → rank_in (49 + r) ≡ Some r
unfolding among_eight
rank_read r low = rw (le-leb 49 (49 + r) (omega arith), le-leb (49 + r) 56 (omega arith)) (ap (λ x. Some x) (omega arith))

-- a low byte is no file, a high one no rank
no_file : (b : ℕ) → b < 97 → file_in b ≡ None
unfolding among_eight
no_file b low = rw (lt-leb 97 b low) refl

no_rank : (b : ℕ) → 56 < b → rank_in b ≡ None
unfolding among_eight
no_rank b high = rw (le-leb 49 b (omega arith), lt-leb b 56 high) refl

square_read : (s : ℕ) → s < 64 → square_at (file_in (97 + file_of s)) (rank_in (49 + rank_of s)) ≡ Some s
square_read s low = rw (file_read (file_of s) (omega arith), rank_read (rank_of s) (omega arith)) (ap (λ x. Some x) (omega arith))

pub ending_read : (promo : Option Kind) → names_promotion promo ≡ true → ending_in (becoming_text promo) ≡ Some promo
unfolding ending_in promotion_in
ending_read (Some Pawn) h = absurd (true≢false (sym h))
ending_read (Some King) h = absurd (true≢false (sym h))
ending_read _ h = refl

-- three bytes end nothing, nor two of which the first is no =
no_ending : (a b : ℕ) (rest : List ℕ) → a ≢ 61 → ending_in (a ∷ b ∷ rest) ≡ None
unfolding ending_in
no_ending a b [] h = rw (ne_eqb a 61 h) refl
no_ending a b (c ∷ rest) h = refl

module _ (to : ℕ) (on : to < 64) (promo : Option Kind) (names : names_promotion promo ≡ true) where
  abbrev course : Origin → Course
  course origin = record { origin = origin; to = to; promo = promo }

  abbrev target_text : List ℕ
  target_text = square_text to ++ becoming_text promo

  target_read : (origin : Origin) → arrival_square_in origin target_text ≡ Some (course origin)
  unfolding arrival_square_in
  target_read origin = rw (square_read to on, ending_read promo names) refl

  abbrev arrival_text : Bool → List ℕ
  arrival_text taken = capture_text taken ++ target_text

  arrival_read : (origin : Origin) (taken : Bool) → arrival_in origin (arrival_text taken) ≡ Some (course origin)
  unfolding arrival_in
  arrival_read origin true = target_read origin
  arrival_read origin false = rw (ne_eqb (97 + file_of to) 120 (omega arith)) (target_read origin)

  -- what comes after a rank is no target together with it
  rank_first : (origin : Origin) (r : ℕ) (taken : Bool) → r < 8 → arrival_in origin ((49 + r) ∷ arrival_text taken) ≡ None
  unfolding arrival_in arrival_square_in
  rank_first origin r true low = rw (ne_eqb (49 + r) 120 (omega arith), no_file (49 + r) (omega arith)) refl
  rank_first origin r false low = rw (ne_eqb (49 + r) 120 (omega arith), no_file (49 + r) (omega arith)) refl

  ranked_read : (file rank : Option ℕ) (taken : Bool) → IfSome rank (λ r. r < 8) → rank_or_not file (rank_digit rank ++ arrival_text taken) ≡ Some (course (record { file = file; rank = rank }))
  unfolding rank_or_not ranked_in
  ranked_read file None taken low = rw (arrival_read (record { file = file; rank = None }) taken) refl
  ranked_read file (Some r) taken low =
      rw (rank_first (record { file = file; rank = None }) r taken low, rank_read r low) (arrival_read (record { file = file; rank = Some r }) taken)

  -- nor is what comes after a file
  file_first : (origin : Origin) (f : ℕ) (rank : Option ℕ) (taken : Bool) → f < 8 → IfSome rank (λ r. r < 8) → arrival_in origin ((97 + f) ∷ (rank_digit rank ++ arrival_text taken)) ≡ None
  unfolding arrival_in arrival_square_in
  file_first origin f None true low h = rw (ne_eqb (97 + f) 120 (omega arith), file_read f low, no_rank 120 (omega arith)) refl
  file_first origin f None false low h = rw (ne_eqb (97 + f) 120 (omega arith), file_read f low, no_rank (97 + file_of to) (omega arith)) refl
  file_first origin f (Some r) true low h = rw (ne_eqb (97 + f) 120 (omega arith), file_read f low, rank_read r h, no_ending 120 (97 + file_of to) _ (omega arith)) refl
  file_first origin f (Some r) false low h = rw (ne_eqb (97 + f) 120 (omega arith), file_read f low, rank_read r h, no_ending (97 + file_of to) (49 + rank_of to) _ (omega arith)) refl

  not_ranked : (f : ℕ) (rest : List ℕ) → ranked_in None ((97 + f) ∷ rest) ≡ None
  unfolding ranked_in
  not_ranked f rest = rw (no_rank (97 + f) (omega arith)) refl

  not_here : (f : ℕ) (rank : Option ℕ) (taken : Bool) → f < 8 → IfSome rank (λ r. r < 8) → rank_or_not None ((97 + f) ∷ (rank_digit rank ++ arrival_text taken)) ≡ None
  unfolding rank_or_not
  not_here f rank taken low h = rw (file_first (record { file = None; rank = None }) f rank taken low h, not_ranked f (rank_digit rank ++ arrival_text taken)) refl

  pub course_read : (file rank : Option ℕ) (taken : Bool) → IfSome file (λ f. f < 8) → IfSome rank (λ r. r < 8) →
      course_in (file_letter file ++ (rank_digit rank ++ arrival_text taken)) ≡ Some (course (record { file = file; rank = rank }))
  unfolding course_in filed_in
  course_read None rank taken low h = rw (ranked_read None rank taken h) refl
  course_read (Some f) rank taken low h = rw (not_here f rank taken low h, file_read f low) (ranked_read (Some f) rank taken h)
