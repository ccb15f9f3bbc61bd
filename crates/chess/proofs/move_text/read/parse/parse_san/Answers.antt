use Rattle.chess.proofs.Common.{◌≡◌, ◌≤◌, ◌-◌, ℕ, inl, inr, ap, sym, subst, ◌∙◌, Some, None, List}
use Rattle.chess.proofs.Common.{[], reverse, same_Some, Said, Spells, kind_given, number_given}
use Rattle.chess.proofs.Common.{last_of, before_last, after_letter, KindLetter}
use Rattle.chess.proofs.SpelledParts.{file_number, rank_number, found_bytes, found_are, found_text}
use Rattle.chess.proofs.SpelledParts.{said_of, spelled_parts, said_bytes}
use Rattle.chess.proofs.TextParts.{Bytes, ReadAs, read_text}
use Rattle.chess.proofs.move_text.read.parse.parse_san.Goals as goal

-- what a text that says something reads as
read_as : (x : List ℕ) (said : Said) → Spells x said
    → (b : Bytes) × ReadAs (reverse x) b × (said ≡ said_of b)
read_as x said spells = let s = said_bytes x said spells in
    (s.bytes, read_text x s.marks s.bytes s.are s.all s.text, s.back)

pub returns-in_default-split_parts : goal.returns-in_default-split_parts
returns-in_default-split_parts c said = (
  (λ spells. let read = read_as c.args.text.now said spells in
      elim c.in_default-split_parts.ensures.target [
        | inl none ↦ let clash : None ≡ Some read.0.target_rank = sym none ∙ read.1.target_rank in
            absurd (cc)
        | inr none ↦ let clash : None ≡ Some read.0.target_file = sym none ∙ read.1.target_file in
            absurd (cc)
      ]),
  (λ e. absurd (cc)),
)

pub returns-in_default-whole_letter : goal.returns-in_default-whole_letter
returns-in_default-whole_letter c said = (
  (λ spells. let read = read_as c.args.text.now said spells in
      absurd (c.in_default-whole_letter.ensures
      (ap (before_last KindLetter) c.in-Some-split_parts.ensures.rest ∙ read.1.rest))),
  (λ e. absurd (cc)),
)

pub returns-in_err-target : goal.returns-in_err-target
returns-in_err-target c said =
    let found = c.in-Some-split_parts.ensures.target in
    let are =
    found_are (reverse c.args.text.now) c.in-Some-split_parts.parts.target_file
    c.in-Some-split_parts.parts.target_rank found.0 found.1 in
    let file = file_number c.in-Some-split_parts.parts.target_file are.target_file in
    let rank = rank_number c.in-Some-split_parts.parts.target_rank are.target_rank in
    absurd (c.in_err-target.ensures (record {
      file_low = subst (λ n. 1 ≤ n) (sym c.saturating_sub.ensures) file.0;
      file_high = subst (λ n. n ≤ 8) (sym c.saturating_sub.ensures) file.1;
      rank_low = subst (λ n. 1 ≤ n) (sym c.saturating_sub-2.ensures) rank.0;
      rank_high = subst (λ n. n ≤ 8) (sym c.saturating_sub-2.ensures) rank.1;
    }))

-- what the parts that were read say
read_parts : (c : goal.After-kind_given) (b : Bytes) → ReadAs (reverse c.args.text.now) b
    → said_of b
    ≡ record {
      letter = c.in-Some-whole_letter.letter;
      file = c.number_given.result;
      rank =
          c.number_given-2.result;
      target = c.in_ok-target.target;
      promote = c.kind_given.result;
    }
read_parts c b read =
    let found = c.in-Some-split_parts.ensures in
    let file = same_Some _ _ (sym found.target.1 ∙ read.target_file) in
    let rank = same_Some _ _ (sym found.target.0 ∙ read.target_rank) in
    let target : c.in_ok-target.target
    ≡ record { file = b.target_file - 96; rank = b.target_rank - 48 } =
    c.in_ok-target.ensures.0
    ∙ (λ i. record {
      file = (c.saturating_sub.ensures ∙ ap (λ n. n - 96) file) i;
      rank =
          (c.saturating_sub-2.ensures ∙ ap (λ n. n - 48) rank) i;
    }) in
    sym (λ i. record {
      letter = (c.in-Some-whole_letter.ensures.1
          ∙ ap (λ y. kind_given (last_of KindLetter y)) found.rest ∙ ap kind_given read.letter) i;
      file = (c.number_given.ensures ∙ ap (λ o. number_given o 96) (found.file ∙ read.file)) i;
      rank = (c.number_given-2.ensures ∙ ap (λ o. number_given o 48) (found.rank ∙ read.rank)) i;
      target = target i;
      promote = (c.kind_given.ensures ∙ ap kind_given (found.promotion ∙ read.promotion)) i;
    })

pub returns : goal.returns
returns c said =
    let text = c.args.text.now in
    let found = c.in-Some-split_parts.ensures in (
      (λ spells. let read = read_as text said spells in
          ap (λ (s : Said). Some s) (sym (read.2 ∙ read_parts c read.0 read.1))),
      (λ e.
          let has_rank = found.target.0 in
          let has_file = found.target.1 in
          let rest : after_letter (reverse text) ≡ [] =
          ap (before_last KindLetter) (sym found.rest) ∙ c.in-Some-whole_letter.ensures.0 in
          let b = found_bytes (reverse text) c.in-Some-split_parts.parts.target_file
          c.in-Some-split_parts.parts.target_rank in
          let are =
          found_are (reverse text) c.in-Some-split_parts.parts.target_file
          c.in-Some-split_parts.parts.target_rank has_rank has_file in
          let whole =
          found_text text c.in-Some-split_parts.parts.target_file
          c.in-Some-split_parts.parts.target_rank has_rank has_file rest in
          subst (Spells text) (read_parts c b (read_text text whole.0 b are whole.1 whole.2)
          ∙ same_Some _ _ e) (spelled_parts text whole.0 b are whole.1 whole.2)),
    )
