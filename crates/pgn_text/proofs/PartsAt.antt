-- Parts distinguished by the byte at their place, and by the place after them.
use Rattle.std.specs.Prelude.{None, IsTrue}
use Rattle.memchr.specs.Find.{is_byte}
use Rattle.pgn_text.proofs.Common.{◌≡◌, ℕ, suc, ◌+◌, ◌-◌, ◌<◌, ◌≤◌, Bool, true, false, List, []}
use Rattle.pgn_text.proofs.Common.{◌∷◌, ◌++◌, length, take, drop, get_or, refl, sym, ap, ◌∙◌, subst}
use Rattle.pgn_text.proofs.Common.{arith, length-drop, length-append, drop-drop, Option, Some}
use Rattle.pgn_text.proofs.Common.{option_map, option_or, list_all, and_parts, and_from}
use Rattle.pgn_text.proofs.Common.{not_from_false, drop_more, drop_all, nil_from_length}
use Rattle.pgn_text.proofs.Common.{get_or-drop, is_white, is_digit, is_letter, is_mark}
use Rattle.pgn_text.proofs.Common.{is_word_byte, begins, stops, run_of, after_run, Part, White}
use Rattle.pgn_text.proofs.Common.{Brace, Word, Dot, Marks, Open, Close, Standing, standing_of}
use Rattle.pgn_text.proofs.Common.{spelled_part, Kept, KeptGap, KeptComment, kept_found}
use Rattle.pgn_text.proofs.Common.{brace_front, KeptMove, KeptNumber, KeptDot, KeptMarks, KeptOpen}
use Rattle.pgn_text.proofs.Common.{KeptClose, kept_word, part_front, game_front, RunTo, PartAt}
use Rattle.pgn_text.proofs.Common.{KeptAt, NothingAt, GapPartAt, IsFirstByte}
use Rattle.pgn_text.proofs.laws.Classes.{is_letter-word, is_digit-word, is_letter-digit}
use Rattle.pgn_text.proofs.laws.Classes.{is_word_byte-mark, dot-mark, dollar-mark}
use Rattle.pgn_text.proofs.LongestRuns.{run_of-append, after_run-append, run-append-after}
use Rattle.pgn_text.proofs.LongestRuns.{list_all-run}
use Rattle.pgn_text.proofs.FoundLemmas.{read-stands}
use Rattle.pgn_text.proofs.laws.PartLemmas.{no_gap-word, no_gap-mark, part_has_byte}
use Rattle.pgn_text.proofs.Places.{part_placed, kept_at, nothing_at}
use Rattle.pgn_text.proofs.Braces.{brace_found, brace_none}

-- the part that is read at a place reaches to the place where what is left after it begins
placed : (f : Bool) (block : List ℕ) (at end : ℕ) (part : Part) → at ≤ length block
    → end ≤ length block
    → part_front (standing_of f (take at block)) (drop at block) ≡ Some (part, drop end block)
    → PartAt f block at part end
placed f block at end part below within read =
    let stands =
    read-stands (standing_of f (take at block)) (drop at block) part (drop end block) read in
    let same : length block - length (drop end block) ≡ end =
    omega (arith, length-drop end block) in
    subst (PartAt f block at part) same
    (part_placed f block at part (drop end block) below stands.0 stands.1)

-- a part of one byte
byte_at : (f : Bool) (block : List ℕ) (at b : ℕ) (part : Part) → at < length block
    → get_or block at 0 ≡ b
    → ((place : Standing) (rest : List ℕ) → part_front place (b ∷ rest) ≡ Some (part, rest))
    → PartAt f block at part (at + 1)
byte_at f block at b part below is reads =
    placed f block at (at + 1) part (omega arith) (omega arith)
    (ap (part_front (standing_of f (take at block))) (drop_more block at 0 below
    ∙ ap (λ x. x ∷ drop (at + 1) block) is)
    ∙ reads (standing_of f (take at block)) (drop (at + 1) block))

-- white space
white_at : (f : Bool) (block : List ℕ) (at : ℕ) → at < length block
    → is_white (get_or block at 0) ≡ true → PartAt f block at (White (get_or block at 0)) (at + 1)
white_at f block at below white =
    byte_at f block at (get_or block at 0) (White (get_or block at 0)) below refl (λ place rest.
    rw white refl)

pub kept_white : (f : Bool) (block : List ℕ) (at : ℕ) → at < length block
    → is_white (get_or block at 0) ≡ true → KeptAt f block at KeptGap (at + 1)
kept_white f block at below white =
    record {
      part = White (get_or block at 0);
      found = white_at f block at below white;
      keeps =
          refl;
    }

pub gap_white : (f : Bool) (block : List ℕ) (at : ℕ) → at < length block
    → is_white (get_or block at 0) ≡ true → GapPartAt f block at (at + 1)
gap_white f block at below white =
    record {
      part = White (get_or block at 0);
      found = white_at f block at below white;
      is_gap =
          refl;
    }

-- a period and the parentheses
pub kept_dot : (f : Bool) (block : List ℕ) (at : ℕ) → at < length block → get_or block at 0 ≡ 46
    → KeptAt f block at KeptDot (at + 1)
kept_dot f block at below is =
    record {
      part = Dot;
      found = byte_at f block at 46 Dot below is (λ place rest. refl);
      keeps =
          refl;
    }

pub kept_open : (f : Bool) (block : List ℕ) (at : ℕ) → at < length block → get_or block at 0 ≡ 40
    → KeptAt f block at KeptOpen (at + 1)
kept_open f block at below is =
    record {
      part = Open;
      found = byte_at f block at 40 Open below is (λ place rest. refl);
      keeps =
          refl;
    }

pub kept_close : (f : Bool) (block : List ℕ) (at : ℕ) → at < length block → get_or block at 0 ≡ 41
    → KeptAt f block at KeptClose (at + 1)
kept_close f block at below is =
    record {
      part = Close;
      found = byte_at f block at 41 Close below is (λ place rest. refl);
      keeps = refl;
    }

-- the bytes of a run that begins with a byte which is known to be in it
run_bytes : (test : ℕ → Bool) (block : List ℕ) (at end : ℕ) → at < length block
    → RunTo test block (at + 1) end
    → take (end - at) (drop at block) ≡ get_or block at 0 ∷ run_of test (drop (at + 1) block)
run_bytes test block at end below to =
    let longer : end - at ≡ suc (end - (at + 1)) =
    (let h : at + 1 ≤ end = to.forward in omega arith) in
    ap (λ n. take n (drop at block)) longer
    ∙ ap (take (suc (end - (at + 1)))) (drop_more block at 0 below)
    ∙ ap (λ xs. get_or block at 0 ∷ xs) to.run

-- a part that is a run
run_at : (f : Bool) (block : List ℕ) (at end : ℕ) (test : ℕ → Bool) (part_of : List ℕ → Part)
    → at < length block → RunTo test block (at + 1) end
    → ((place : Standing) (rest : List ℕ) → part_front place (get_or block at 0 ∷ rest)
    ≡ Some (part_of (get_or block at 0 ∷ run_of test rest), after_run test rest))
    → PartAt f block at (part_of (take (end - at) (drop at block))) end
run_at f block at end test part_of below to reads =
    placed f block at end (part_of (take (end - at) (drop at block))) (omega arith) to.within
    (ap (part_front (standing_of f (take at block))) (drop_more block at 0 below)
    ∙ reads (standing_of f (take at block)) (drop (at + 1) block)
    ∙ ap (λ xs. Some (part_of xs, after_run test (drop (at + 1) block)))
    (sym (run_bytes test block at end below to))
    ∙ ap (λ xs. Some (part_of (take (end - at) (drop at block)), xs)) (sym to.rest))

-- a word
word_at : (f : Bool) (block : List ℕ) (at end : ℕ) → at < length block
    → is_word_byte (get_or block at 0) ≡ true → RunTo is_word_byte block (at + 1) end
    → PartAt f block at (Word (take (end - at) (drop at block))) end
word_at f block at end below word to =
    run_at f block at end is_word_byte Word below to
    (λ place rest.
    ap (λ found. option_or found (game_front (get_or block at 0 ∷ rest)))
    (no_gap-word place (get_or block at 0) rest word) ∙ rw word refl)

kept_word_at : (f : Bool) (block : List ℕ) (at end : ℕ) → at < length block
    → is_word_byte (get_or block at 0) ≡ true → RunTo is_word_byte block (at + 1) end
    → (token : Kept) → token ≡ kept_word (take (end - at) (drop at block))
    → KeptAt f block at token end
kept_word_at f block at end below word to token is =
    record {
      part = Word (take (end - at) (drop at block));
      found =
          word_at f block at end below word to;
      keeps = sym is;
    }

-- a word that begins with a letter is a move
pub kept_letters : (f : Bool) (block : List ℕ) (at end : ℕ) → at < length block
    → is_letter (get_or block at 0) ≡ true → RunTo is_word_byte block (at + 1) end
    → KeptAt f block at (KeptMove (take (end - at) (drop at block))) end
kept_letters f block at end below letter to =
    let word : is_word_byte (get_or block at 0) ≡ true =
    is_letter-word (get_or block at 0) letter in
    let first : begins is_letter (take (end - at) (drop at block)) ≡ true =
    ap (begins is_letter) (run_bytes is_word_byte block at end below to) ∙ letter in
    let bytes : List ℕ = take (end - at) (drop at block) in
    kept_word_at f block at end below word to (KeptMove bytes) (rw first refl)

-- a run of marks
pub kept_marks : (f : Bool) (block : List ℕ) (at end : ℕ) → at < length block
    → is_mark (get_or block at 0) ≡ true → RunTo is_mark block (at + 1) end
    → KeptAt f block at (KeptMarks (take (end - at) (drop at block))) end
kept_marks f block at end below mark to = record {
  part = Marks (take (end - at) (drop at block));
  found = run_at f block at end is_mark Marks below to
      (λ place rest.
      ap (λ found. option_or found (game_front (get_or block at 0 ∷ rest)))
      (no_gap-mark place (get_or block at 0) rest mark)
      ∙ rw (
        is_word_byte-mark (get_or block at 0) mark,
        dot-mark (get_or block at 0) mark,
        dollar-mark (get_or block at 0) mark,
        mark,
      ) refl);
  keeps = refl;
}

-- at the end of the block no part stands
pub no_part_at_end : (f : Bool) (block : List ℕ) (at : ℕ) → length block ≤ at → NothingAt f block at
no_part_at_end f block at ended part rest parted stands =
    part_has_byte (standing_of f (take at block)) part rest stands
    (nil_from_length (spelled_part part)
    (let none : drop at block ≡ [] = drop_all at block ended in
    let lengths : 0 ≡ length (spelled_part part) + length rest =
    ap length (sym none ∙ parted) ∙ length-append (spelled_part part) rest in omega arith))

-- what a part read at a place is, by the text after its first byte
front_at : (f : Bool) (block : List ℕ) (at b : ℕ) (front : List ℕ → Option (Part × List ℕ))
    → at < length block → get_or block at 0 ≡ b
    → ((place : Standing) (rest : List ℕ) → part_front place (b ∷ rest) ≡ front rest)
    → part_front (standing_of f (take at block)) (drop at block) ≡ front (drop (at + 1) block)
front_at f block at b front below is reads =
    ap (part_front (standing_of f (take at block))) (drop_more block at 0 below
    ∙ ap (λ x. x ∷ drop (at + 1) block) is)
    ∙ reads (standing_of f (take at block)) (drop (at + 1) block)

-- a part that is found after its first byte, and what a game keeps of it
pub kept_after : (f : Bool) (block : List ℕ) (at b : ℕ) (front : List ℕ → Option (Part × List ℕ))
    → at < length block → get_or block at 0 ≡ b
    → ((place : Standing) (rest : List ℕ) → part_front place (b ∷ rest) ≡ front rest)
    → (token : Kept) (end : ℕ) → end ≤ length block
    → Some (token, drop end block) ≡ option_map kept_found (front (drop (at + 1) block))
    → KeptAt f block at token end
kept_after f block at b front below is reads token end within found =
    let same : length block - length (drop end block) ≡ end =
    omega (arith, length-drop end block) in
    subst (KeptAt f block at token) same
    (kept_at f block at (standing_of f (take at block)) (drop at block) refl refl (omega arith)
    token (drop end block)
    (found ∙ sym (ap (option_map kept_found) (front_at f block at b front below is reads))))

-- where none is found, none stands there
pub none_further : (f : Bool) (block : List ℕ) (at b : ℕ) (front : List ℕ → Option (Part × List ℕ))
    → at < length block → get_or block at 0 ≡ b
    → ((place : Standing) (rest : List ℕ) → part_front place (b ∷ rest) ≡ front rest)
    → None ≡ option_map kept_found (front (drop (at + 1) block)) → NothingAt f block at
none_further f block at b front below is reads none =
    nothing_at f block at (standing_of f (take at block)) (drop at block) refl refl
    (none ∙ sym (ap (option_map kept_found) (front_at f block at b front below is reads)))

or_nothing : (o : Option (Part × List ℕ)) → option_or o None ≡ o
or_nothing None = refl
or_nothing (Some found) = refl

-- what follows an opening brace is read as a comment's end
brace_read : (place : Standing) (rest : List ℕ) → part_front place (123 ∷ rest) ≡ brace_front rest
brace_read place rest = or_nothing (brace_front rest)

-- a comment in braces, by the place of its closing brace
pub kept_brace : (f : Bool) (block : List ℕ) (at n : ℕ) (text : List ℕ) → at < length block
    → get_or block at 0 ≡ 123 → text ≡ drop (at + 1) block → IsFirstByte (is_byte 125) text (Some n)
    → KeptAt f block at (KeptComment (take ((at + 1 + n) - (at + 1)) (drop (at + 1) block))) (at + 1
    + n + 1)
kept_brace f block at n text below is text_is first =
    let within : n < length text = first.0.high in
    let found : brace_front (drop (at + 1) block)
    ≡ Some (Brace (take n (drop (at + 1) block)), drop (n + 1) (drop (at + 1) block)) =
    brace_found (drop (at + 1) block) n
    (subst (λ xs. IsFirstByte (is_byte 125) xs (Some n)) text_is first) in
    let after : drop (n + 1) (drop (at + 1) block) ≡ drop (at + 1 + n + 1) block =
    drop-drop (n + 1) (at + 1) block ∙ ap (λ k. drop k block) (omega arith) in
    let len : n ≡ (at + 1 + n) - (at + 1) = omega arith in
    let lengths : length text ≡ length block - (at + 1) =
    ap length text_is ∙ length-drop (at + 1) block in
    let bytes : List ℕ = take ((at + 1 + n) - (at + 1)) (drop (at + 1) block) in
    record {
      part = Brace bytes;
      found = placed f block at (at + 1 + n + 1) (Brace bytes) (omega arith) (omega arith)
          (front_at f block at 123 brace_front below is brace_read ∙ found
          ∙ ap (λ xs. Some (Brace (take n (drop (at + 1) block)), xs)) after
          ∙ ap (λ k. Some (Brace (take k (drop (at + 1) block)), drop (at + 1 + n + 1) block)) len);
      keeps = refl;
    }

pub no_brace : (f : Bool) (block : List ℕ) (at : ℕ) (text : List ℕ) → at < length block
    → get_or block at 0 ≡ 123 → text ≡ drop (at + 1) block → IsFirstByte (is_byte 125) text None
    → NothingAt f block at
no_brace f block at text below is text_is nowhere =
    none_further f block at 123 brace_front below is brace_read
    (sym (ap (option_map kept_found)
    (brace_none (drop (at + 1) block)
    (subst (λ xs. IsFirstByte (is_byte 125) xs None) text_is nowhere))))

-- where the block ends or a byte fails, a run stops
stops_at : (test : ℕ → Bool) (block : List ℕ) (end : ℕ)
    → (end < length block → test (get_or block end 0) ≡ false)
    → IsTrue (stops test (drop end block))
stops_at test block end fails =
    let go : (xs : List ℕ) → drop end block ≡ xs → IsTrue (stops test xs) =
    λ xs. elim xs as (λ ys. drop end block ≡ ys → IsTrue (stops test ys)) [
      | [] ↦ (λ _. refl)
      | (b ∷ rest) ↦ (λ is.
          let below : end < length block = omega (arith, length-drop end block, ap length is) in
          let here : get_or block end 0 ≡ b = ap (λ k. get_or block k 0) (omega arith)
          ∙ sym (get_or-drop end block 0 0) ∙ ap (λ ys. get_or ys 0 0) is in
          not_from_false _ (ap test (sym here) ∙ fails below))
    ] in
    go (drop end block) refl

digits_words : (xs : List ℕ) → IsTrue (list_all is_digit xs) → IsTrue (list_all is_word_byte xs)
digits_words [] all = refl
digits_words (x ∷ xs) all =
    let parts : (is_digit x ≡ true) × (list_all is_digit xs ≡ true) = and_parts _ _ all in
    and_from _ _ (is_digit-word x parts.0) (digits_words xs parts.1)

-- digits after which no word goes on are a move number
pub kept_digits : (f : Bool) (block : List ℕ) (at end : ℕ) → at < length block
    → is_digit (get_or block at 0) ≡ true → RunTo is_digit block (at + 1) end
    → (end < length block → is_word_byte (get_or block end 0) ≡ false)
    → KeptAt f block at KeptNumber end
kept_digits f block at end below digit to ends =
    let b : ℕ = get_or block at 0 in
    let rest : List ℕ = drop (at + 1) block in
    let digits : List ℕ = run_of is_digit rest in
    let parted : rest ≡ digits ++ drop end block =
    run-append-after is_digit rest ∙ ap (λ xs. digits ++ xs) (sym to.rest) in
    let all : IsTrue (list_all is_digit digits) = list_all-run is_digit rest in
    let stop : IsTrue (stops is_word_byte (drop end block)) =
    stops_at is_word_byte block end ends in
    let words : RunTo is_word_byte block (at + 1) end = record {
      run = to.run
          ∙ sym (ap (run_of is_word_byte) parted
          ∙ run_of-append is_word_byte digits (drop end block) (digits_words digits all) stop);
      rest = sym (ap (after_run is_word_byte) parted
          ∙ after_run-append is_word_byte digits (drop end block) (digits_words digits all) stop);
      forward = to.forward;
      within = to.within;
    } in
    let number : kept_word (b ∷ digits) ≡ KeptNumber =
    rw (is_letter-digit b digit, digit, all) refl in
    kept_word_at f block at end below (is_digit-word b digit) words KeptNumber
    (sym (ap kept_word (run_bytes is_digit block at end below to) ∙ number))
