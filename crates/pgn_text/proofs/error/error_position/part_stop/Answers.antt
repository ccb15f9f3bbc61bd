use Rattle.pgn_text.proofs.Common.{◌≡◌, ◌≢◌, ℕ, suc, ◌+◌, ◌-◌, ◌≤◌, false, List, [], ◌∷◌, length}
use Rattle.pgn_text.proofs.Common.{take, drop, refl, sym, ap, subst, ◌∙◌, inl, inr, arith, IsTrue}
use Rattle.pgn_text.proofs.Common.{◌<◌, ne_eqb, take_rest, length-take-le, is_empty, depth_limit}
use Rattle.pgn_text.proofs.Common.{Longest, IsPartFront, IsFrontOf, NoneFollows}
use Rattle.pgn_text.proofs.Common.{front_length, no_byte, Standing, standing_of, State, state_of}
use Rattle.pgn_text.proofs.error.Furthest.{as_far}
use Rattle.pgn_text.proofs.error.InPart.{open_tag, stray_glyph}
use Rattle.pgn_text.proofs.error.Stuck.{stuck_brace, stuck_bracket, stuck_word, stuck_mark}
use Rattle.pgn_text.proofs.error.Stuck.{stuck_other}
use Rattle.pgn_text.proofs.error.Stuck.{stuck_end}
use Rattle.pgn_text.proofs.error.error_position.part_stop.Goals as goal

nothing : (xs : List ℕ) → length xs ≡ 0 → xs ≡ []
nothing [] e = refl
nothing (b ∷ xs) e = absurd (omega (arith, e))

-- the text that is cut off the block at the place begins with a byte and goes on
begun : (block rest : List ℕ) (at first byte : ℕ)
    → take (length block - at) (drop at block) ≡ first ∷ rest → first ≡ byte
    → drop at block ≡ byte ∷ rest
begun block rest at first byte e is = sym (take_rest block at) ∙ e ∙ ap (λ b. b ∷ rest) is

-- one byte more than are found after it
one_more : (place : Standing) (s : State) (text : List ℕ) (n : ℕ)
    → Longest (IsPartFront depth_limit place s) text (suc n)
    → Longest (IsPartFront depth_limit place s) text (1 + n)
one_more place s text n l =
    subst (Longest (IsPartFront depth_limit place s) text) (let e : suc n ≡ 1 + n = omega arith in
    e) l

-- what is found of a text that begins so is found of the other
instead : (place : Standing) (s : State) (text : List ℕ) (byte : ℕ) (rest : List ℕ) (n : ℕ)
    → text ≡ byte ∷ rest
    → NoneFollows depth_limit place s text
    → (NoneFollows depth_limit place s (byte ∷ rest)
    → Longest (IsPartFront depth_limit place s) (byte ∷ rest) n)
    → Longest (IsPartFront depth_limit place s) text n
instead place s text byte rest n e nothing found =
    rw e (found (subst (NoneFollows depth_limit place s) e nothing))

pub returns-in_default : goal.returns-in_default
returns-in_default c =
    let place = standing_of c.args.file_start (take c.args.at c.args.block.now) in
    rw (sym (take_rest c.args.block.now c.args.at) ∙ nothing _ c.in_default.ensures.cases)
    (stuck_end depth_limit place (state_of c.args.progress))

pub returns-in-123 : goal.returns-in-123
returns-in-123 c =
    let text =
    begun c.args.block.now c.in-Some.rest.now c.args.at c.in-Some.first.now 123
    c.in-Some.ensures.cases.0 c.in-123.is in
    let place = standing_of c.args.file_start (take c.args.at c.args.block.now) in
    instead place (state_of c.args.progress) (drop c.args.at c.args.block.now) 123
    c.in-Some.rest.now _ text c.requires.stuck
    (λ none.
    subst (Longest (IsPartFront depth_limit place (state_of c.args.progress)) (123
    ∷ c.in-Some.rest.now))
    (ap length (sym text ∙ sym (take_rest c.args.block.now c.args.at)))
    (stuck_brace depth_limit place (state_of c.args.progress) c.in-Some.rest.now none))

pub returns-then-progress : goal.returns-then-progress
returns-then-progress c =
    let text =
    begun c.args.block.now c.in-Some.rest.now c.args.at c.in-Some.first.now 91
    c.in-Some.ensures.cases.0 c.in-91.is in
    let place = standing_of c.args.file_start (take c.args.at c.args.block.now) in
    instead place (state_of c.args.progress) (drop c.args.at c.args.block.now) 91 c.in-Some.rest.now
    _ text c.requires.stuck
    (λ none. one_more place (state_of c.args.progress) (91 ∷ c.in-Some.rest.now) c.tag_stop.result
    (open_tag depth_limit place (state_of c.args.progress) c.in-Some.rest.now c.tag_stop.result
    c.if-progress.true c.tag_stop.ensures))

pub returns-else-progress : goal.returns-else-progress
returns-else-progress c =
    let text =
    begun c.args.block.now c.in-Some.rest.now c.args.at c.in-Some.first.now 91
    c.in-Some.ensures.cases.0 c.in-91.is in
    let place = standing_of c.args.file_start (take c.args.at c.args.block.now) in
    instead place (state_of c.args.progress) (drop c.args.at c.args.block.now) 91 c.in-Some.rest.now
    0 text c.requires.stuck
    (λ none.
    stuck_bracket depth_limit place (state_of c.args.progress) c.in-Some.rest.now
    c.if-progress.false)

pub returns-in-36 : goal.returns-in-36
returns-in-36 c =
    let text =
    begun c.args.block.now c.in-Some.rest.now c.args.at c.in-Some.first.now 36
    c.in-Some.ensures.cases.0 c.in-36.is in
    let place = standing_of c.args.file_start (take c.args.at c.args.block.now) in
    instead place (state_of c.args.progress) (drop c.args.at c.args.block.now) 36 c.in-Some.rest.now
    _ text c.requires.stuck
    (λ none. one_more place (state_of c.args.progress) (36 ∷ c.in-Some.rest.now) c.glyph_stop.result
    (stray_glyph depth_limit place (state_of c.args.progress) c.in-Some.rest.now c.glyph_stop.result
    c.glyph_stop.ensures))

-- only at the start of the file nothing stands before
first_place : (block : List ℕ) (at : ℕ) → at ≤ length block → at ≢ 0
    → is_empty (take at block) ≡ false
first_place block at within some =
    go (take at block) (omega (arith, some, length-take-le at block within))
  where
    go : (xs : List ℕ) → 0 < length xs → is_empty xs ≡ false
    go [] l = absurd (omega (arith, l))
    go (b ∷ xs) l = refl

pub returns-then-at-eq0 : goal.returns-then-at-eq0
returns-then-at-eq0 c =
    let text =
    begun c.args.block.now c.in-Some.rest.now c.args.at c.in-Some.first.now 239
    c.in-Some.ensures.cases.0 c.in-239.is in
    let place = standing_of c.args.file_start (take c.args.at c.args.block.now) in
    let starts : IsTrue place.file_start = rw (c.if-file_start.true, c.if-at-eq0.true) refl in
    instead place (state_of c.args.progress) (drop c.args.at c.args.block.now) 239
    c.in-Some.rest.now _ text c.requires.stuck
    (λ none.
    stuck_mark depth_limit place (state_of c.args.progress) c.in-Some.rest.now c.common.result
    starts
    (subst (Longest (IsFrontOf no_byte (239 ∷ 187 ∷ 191 ∷ [])) (239 ∷ c.in-Some.rest.now))
    (sym (c.common.ensures
    ∙ ap (front_length no_byte (239 ∷ 187 ∷ 191 ∷ [])) (take_rest c.args.block.now c.args.at
    ∙ text)))
    (as_far no_byte (239 ∷ 187 ∷ 191 ∷ []) (239 ∷ c.in-Some.rest.now))))

pub returns-else-file_start : goal.returns-else-file_start
returns-else-file_start c =
    let text =
    begun c.args.block.now c.in-Some.rest.now c.args.at c.in-Some.first.now 239
    c.in-Some.ensures.cases.0 c.in-239.is in
    let place = standing_of c.args.file_start (take c.args.at c.args.block.now) in
    let late : place.file_start ≡ false = elim c.else-file_start.either [
      | inl w ↦ rw w.0 (first_place c.args.block.now c.args.at c.requires.place w.1)
      | inr w ↦ rw w refl
    ] in
    instead place (state_of c.args.progress) (drop c.args.at c.args.block.now) 239
    c.in-Some.rest.now _ text c.requires.stuck
    (λ none.
    stuck_other depth_limit place (state_of c.args.progress) 239 c.in-Some.rest.now none refl
    refl refl (λ e. late) refl)

pub returns-in_default-first : goal.returns-in_default-first
returns-in_default-first c =
    let text =
    begun c.args.block.now c.in-Some.rest.now c.args.at c.in-Some.first.now c.in-Some.first.now
    c.in-Some.ensures.cases.0 refl in
    let place = standing_of c.args.file_start (take c.args.at c.args.block.now) in
    instead place (state_of c.args.progress) (drop c.args.at c.args.block.now) c.in-Some.first.now
    c.in-Some.rest.now _ text c.requires.stuck
    (λ none.
    stuck_word depth_limit place (state_of c.args.progress) c.is_closed.result
    c.in-Some.first.now c.in-Some.rest.now c.word_stop.result
    (sym c.is_in.ensures ∙ c.if-is_in.true) none c.is_closed.ensures.0 c.is_closed.ensures.1
    (rw (← c.in-Some.ensures.cases.0) c.word_stop.ensures))

pub returns-in_default-2 : goal.returns-in_default-2
returns-in_default-2 c =
    let text =
    begun c.args.block.now c.in-Some.rest.now c.args.at c.in-Some.first.now c.in-Some.first.now
    c.in-Some.ensures.cases.0 refl in
    let place = standing_of c.args.file_start (take c.args.at c.args.block.now) in
    instead place (state_of c.args.progress) (drop c.args.at c.args.block.now) c.in-Some.first.now
    c.in-Some.rest.now 0 text c.requires.stuck
    (λ none.
    stuck_other depth_limit place (state_of c.args.progress) c.in-Some.first.now
    c.in-Some.rest.now none
    (ne_eqb c.in-Some.first.now 123 (λ e. omega (arith, e)))
    (ne_eqb c.in-Some.first.now 91 (λ e. omega (arith, e)))
    (ne_eqb c.in-Some.first.now 36 (λ e. omega (arith, e))) (λ e. absurd (omega (arith, e)))
    (sym c.is_in.ensures ∙ c.if-is_in.false))
