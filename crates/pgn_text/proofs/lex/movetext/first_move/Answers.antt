use Rattle.pgn_text.proofs.Common.{◌≡◌, ◌<◌, ◌≤◌, ◌||◌, ◌-◌, ℕ, Bool, true, false, not, refl}
use Rattle.pgn_text.proofs.Common.{sym, ap, ◌∙◌, arith, inl, inr, cases_lt, has_bit}
use Rattle.std.proofs.Common.{bit_or, ◌^◌}
use lib.Bits.{or_lt}
use Rattle.pgn_text.proofs.Bits.{bit-flip, bit-or, clash, lowest_bit, neither, not_false}
use Rattle.pgn_text.proofs.Bits.{not_true, one_less}
use Rattle.pgn_text.proofs.lex.movetext.first_move.Goals as goal

-- where one of two bits is set, and the second only with the first, the first is set
first_of : (a b : Bool) → (a || b) ≡ true → (b ≡ true → a ≡ true) → a ≡ true
first_of true b any with_first = refl
first_of false b any with_first = with_first any

-- a bit that is set only with a bit that is not set
neither_set : (a b : Bool) → (b ≡ true → a ≡ true) → a ≡ false → b ≡ false
neither_set a true with_first off = absurd (clash a (with_first refl) off)
neither_set a false with_first off = refl

pub returns : goal.returns
returns c =
    let words = c.args.words in
    let left = c.args.left in
    let begin = c.first_from.result in
    let end = c.first_from-end.result in
    let lowest = lowest_bit left c.requires.some (omega arith) in
    let short : begin < 64 = elim (cases_lt begin 64) [
      | inl fine ↦ fine
      | inr past ↦ absurd
          (clash _ lowest.1 (c.first_from.ensures.before _ (omega arith) (omega (arith, lowest.0))
          lowest.0))
    ] in
    let begun = c.first_from.ensures.found short in
    let none : (i : ℕ) → i < begin → has_bit left i ≡ false =
    λ i lt. c.first_from.ensures.before i (omega arith) lt (omega arith) in
    let less = λ (k : ℕ). one_less begin left k begun.1 none in
    let fit : bit_or words (left - 1) < 2 ^ 64 =
    or_lt 64 words (left - 1) (omega arith) (omega arith) in
    let shows = λ (k : ℕ) (lt : k < 64). bit-flip (bit_or words (left - 1)) k fit lt
    ∙ ap not (bit-or words (left - 1) k) in
    let gap = c.requires.ends begin short begun.1 in
    let rest_off : has_bit (left - 1) gap.0 ≡ false =
    (less gap.0).2 gap.1 ∙ neither_set _ _ (c.requires.words gap.0 gap.2) gap.3 in
    let at_gap = shows gap.0 gap.2 ∙ ap (λ v. not (v || has_bit (left - 1) gap.0)) gap.3
    ∙ ap not rest_off in
    let near : end ≤ gap.0 = elim (cases_lt gap.0 end) [
      | inl before ↦ absurd
          (clash _ at_gap (c.first_from-end.ensures.before gap.0 (omega arith) before gap.2))
      | inr le ↦ le
    ] in
    let ended : end < 64 = omega (arith, near, gap.2) in
    let last =
    neither _ _ (not_true _ (sym (shows end ended) ∙ (c.first_from-end.ensures.found ended).1)) in
    record {
      forward = omega arith;
      short = ended;
      longer = elim (cases_lt end begin) [
        | inl before ↦ absurd (clash _ ((less end).0 before) last.1)
        | inr le ↦ le
      ];
      begins = begun.1;
      first = λ i low high. none i high;
      inside = λ i low high.
          elim (cases_lt begin i) [
            | inl after ↦ first_of _ _
                (not_false _ (sym (shows i (omega arith))
                ∙ c.first_from-end.ensures.before i (omega arith) high (omega arith)))
                (λ on. c.requires.words i (omega arith) (sym ((less i).2 after) ∙ on))
            | inr le ↦ ap (has_bit words) (omega arith) ∙ c.requires.words begin short begun.1
          ];
      ends = last.0;
    }
