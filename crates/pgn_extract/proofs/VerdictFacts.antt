-- What is reported of pieces in a row, piece by piece.
use Rattle.std.specs.Prelude.{count_by, fold}
use Rattle.std.proofs.lemmas.List.Sums.{fold-append}
use Rattle.std.proofs.lemmas.List.{append-nil}
use Rattle.pgn_extract.proofs.Common.{◌≡◌, ℕ, ◌+◌, true, false, List, [], ◌∷◌, ◌++◌, map, length}
use Rattle.pgn_extract.proofs.Common.{refl, sym, ap, ◌∙◌, subst, arith, append_assoc, codes}
use Rattle.pgn_extract.proofs.Common.{if◌then◌else◌, MarkedPiece, Reports, too_long_piece}
use Rattle.pgn_extract.proofs.Common.{is_chosen, fault_text, IsNote, Verdict, SoundGame, FaultyGame}
use Rattle.pgn_extract.proofs.Common.{without_note, AreVerdicts, output_of, fault_line_of}
use Rattle.pgn_extract.proofs.Common.{output_text, fault_lines, is_faulty, Report, Aim, GameId}
use Rattle.pgn_extract.proofs.ChoiceFacts.{if_passed, if_taken}

-- what goes to the output of some, and then of others
pub output_text-append : (xs ys : List Verdict)
    → output_text (xs ++ ys) ≡ output_text xs ++ output_text ys
output_text-append [] ys = refl
output_text-append (x ∷ xs) ys = ap (λ t. output_of x ++ t) (output_text-append xs ys)
    ∙ sym (append_assoc (output_of x) (output_text xs) (output_text ys))

-- what goes to standard error of some, and then of others
pub fault_lines-append : (xs ys : List Verdict)
    → fault_lines (xs ++ ys) ≡ fault_lines xs ++ fault_lines ys
fault_lines-append [] ys = refl
fault_lines-append (x ∷ xs) ys =
    ap (λ t. fault_line_of x ++ t) (fault_lines-append xs ys)
    ∙ sym (append_assoc (fault_line_of x) (fault_lines xs) (fault_lines ys))

-- pieces are reported, and others after them
pub verdicts-append : (aim : Aim) (number : ℕ) (xs ys : List MarkedPiece)
    (first second : List Verdict) → AreVerdicts aim number xs first
    → AreVerdicts aim (number + length xs) ys second
    → AreVerdicts aim number (xs ++ ys) (first ++ second)
verdicts-append aim number [] ys first second none others =
    let start : number + length {A = MarkedPiece} [] ≡ number = omega arith in
    subst (λ t. AreVerdicts aim number ys (t ++ second)) (sym none)
    (subst (λ n. AreVerdicts aim n ys second) start others)
verdicts-append aim number (x ∷ xs) ys first second (own, rest, parted, here, more) others =
    let next : number + length (x ∷ xs) ≡ number + 1 + length xs = omega arith in (
      own,
      rest ++ second,
      ap (λ t. t ++ second) parted,
      here,
      verdicts-append aim (number + 1) xs ys rest second more
          (subst (λ n. AreVerdicts aim n ys second) next others),
    )

-- a count that begins at another number
count_from : (a : ℕ) (xs : List Verdict)
    → fold (λ (n : ℕ) (x : Verdict). n + (if is_faulty x then 1 else 0)) a xs
    ≡ a + count_by is_faulty xs
count_from a [] = omega arith
count_from a (x ∷ xs) =
    let one = if is_faulty x then 1 else 0 in
    let here : fold (λ (n : ℕ) (x : Verdict). n + (if is_faulty x then 1 else 0)) (a + one) xs
    ≡ a + one + count_by is_faulty xs = count_from (a + one) xs in
    let there : fold (λ (n : ℕ) (x : Verdict). n + (if is_faulty x then 1 else 0)) (0 + one) xs
    ≡ 0 + one + count_by is_faulty xs = count_from (0 + one) xs in
    here ∙ sum a one (count_by is_faulty xs) ∙ ap (λ n. a + n) (sym there)
  where
    sum : (a b c : ℕ) → a + b + c ≡ a + (0 + b + c)
    sum a b c = omega arith

-- the faulty ones among some, and then others
pub count_by-join : (xs ys : List Verdict)
    → count_by is_faulty (xs ++ ys) ≡ count_by is_faulty xs + count_by is_faulty ys
count_by-join xs ys =
    fold-append (λ (n : ℕ) (x : Verdict). n + (if is_faulty x then 1 else 0)) 0 xs ys
    ∙ count_from (count_by is_faulty xs) ys

-- notes are no part of the output
bare_output : (xs : List Verdict) → output_text (map without_note xs) ≡ output_text xs
bare_output [] = refl
bare_output (SoundGame text ∷ xs) = ap (λ t. text ++ t) (bare_output xs)
bare_output (FaultyGame text line note ∷ xs) = ap (λ t. text ++ t) (bare_output xs)

pub same_output : (xs ys : List Verdict) → map without_note xs ≡ map without_note ys
    → output_text xs ≡ output_text ys
same_output xs ys same = sym (bare_output xs) ∙ ap output_text same ∙ bare_output ys

-- and they do not count
bare_faulty : (x : Verdict) → is_faulty (without_note x) ≡ is_faulty x
bare_faulty (SoundGame text) = refl
bare_faulty (FaultyGame text line note) = refl

bare_count : (a : ℕ) (xs : List Verdict)
    → fold (λ (n : ℕ) (x : Verdict). n + (if is_faulty x then 1 else 0)) a (map without_note xs)
    ≡ fold (λ (n : ℕ) (x : Verdict). n + (if is_faulty x then 1 else 0)) a xs
bare_count a [] = refl
bare_count a (x ∷ xs) =
    ap (λ f. fold (λ (n : ℕ) (x : Verdict).
    n + (if is_faulty x then 1 else 0)) (a + (if f then 1 else 0)) (map without_note xs))
    (bare_faulty x) ∙ bare_count (a + (if is_faulty x then 1 else 0)) xs

pub same_faulty : (xs ys : List Verdict) → map without_note xs ≡ map without_note ys
    → count_by is_faulty xs ≡ count_by is_faulty ys
same_faulty xs ys same = sym (bare_count 0 xs) ∙ ap (count_by is_faulty) same ∙ bare_count 0 ys

-- the last one joins nothing
pub joined : (front one whole : List ℕ) → whole ≡ front ++ (one ++ []) → front ++ one ≡ whole
joined front one whole e = ap (λ t. front ++ t) (sym (append-nil one)) ∙ sym e

-- the one piece of a block over the limit, where it is chosen
pub reports_too_long : (aim : Aim) (report : Report) (id : GameId) (note : List ℕ)
    → is_chosen aim.chosen id ≡ true → IsNote aim.explain note → report.output.items ≡ []
    → report.faults.items ≡ fault_text aim.name id (codes "too long") ++ note → report.games ≡ 1
    → report.faulty ≡ 1 → Reports aim report id.number (too_long_piece id.offset ∷ [])
reports_too_long aim report id note taken noted output faults games faulty =
    let line = fault_text aim.name id (codes "too long") in
    record {
      verdicts = FaultyGame [] line note ∷ [];
      each = (
        FaultyGame [] line note,
        [],
        refl,
        if_taken (is_chosen aim.chosen id) _ taken (note, noted, refl),
        refl,
      );
      output = output;
      faults = faults ∙ sym (append-nil (line ++ note));
      same = refl;
      games = games;
      faulty = faulty;
    }

-- and where it is passed over
pub reports_passed : (aim : Aim) (report : Report) (id : GameId) → is_chosen aim.chosen id ≡ false
    → report.output.items ≡ [] → report.faults.items ≡ [] → report.games ≡ 1 → report.faulty ≡ 0
    → Reports aim report id.number (too_long_piece id.offset ∷ [])
reports_passed aim report id passed output faults games faulty = record {
  verdicts = SoundGame [] ∷ [];
  each = (SoundGame [], [], refl, if_passed (is_chosen aim.chosen id) _ passed refl, refl);
  output = output;
  faults = faults;
  same = refl;
  games = games;
  faulty = faulty;
}
