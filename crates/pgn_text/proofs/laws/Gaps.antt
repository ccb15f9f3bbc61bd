-- Gaps of a block: a gap after which no part of a gap stands is the longest.
use Rattle.std.specs.Prelude.{IsTrue}
use Rattle.pgn_text.proofs.Common.{◌≡◌, ℕ, ◌<◌, ◌≤◌, Bool, true, false, List, [], ◌∷◌, ◌++◌, length}
use Rattle.pgn_text.proofs.Common.{take, drop, refl, sym, ap, ◌∙◌, subst, append_assoc, append-nil}
use Rattle.pgn_text.proofs.Common.{arith, length-append, list_all, and_parts, and_from, Part}
use Rattle.pgn_text.proofs.Common.{Stands, AllStand, standing_of, spelled_part, spelled}
use Rattle.pgn_text.proofs.Common.{is_gap_part, IsGap, IsLongestGap, PartAt, GapPartAt, NoGapPartAt}
use Rattle.pgn_text.proofs.Common.{GapTo, LongestGapTo}
use Rattle.pgn_text.proofs.laws.PartLemmas.{one_part}
use Rattle.pgn_text.proofs.laws.Halfway.{stands_join, before_more, spelled-append}

-- each part that stands after these bytes is none of a gap
abbrev pub NoGapPart : Bool → List ℕ → List ℕ → Type 0
NoGapPart f before after = (part : Part) (rest : List ℕ) → after ≡ spelled_part part ++ rest
    → Stands (standing_of f before) part rest → is_gap_part part ≡ false

-- no gap reaches further than one after which no part of a gap stands
no_longer : (f : Bool) (before : List ℕ) (gap : List Part) (after : List ℕ)
    → AllStand f before gap after → NoGapPart f (before ++ spelled gap) after
    → (other : List Part) (rest : List ℕ) → spelled other ++ rest ≡ spelled gap ++ after
    → AllStand f before other rest → IsTrue (list_all is_gap_part other)
    → length (spelled other) ≤ length (spelled gap)
no_longer f before gap after stand none [] rest same others only = omega arith
no_longer f before [] after stand none (p ∷ ps) rest same others only =
    let parts : (is_gap_part p ≡ true) × (list_all is_gap_part ps ≡ true) = and_parts _ _ only in
    let no : is_gap_part p ≡ false =
    (rw append-nil at none) p (spelled ps ++ rest) (sym same
    ∙ append_assoc (spelled_part p) (spelled ps) rest) others.0 in
    absurd (cc)
no_longer f before (q ∷ qs) after stand none (p ∷ ps) rest same others only =
    let parts : (is_gap_part p ≡ true) × (list_all is_gap_part ps ≡ true) = and_parts _ _ only in
    let regrouped : spelled_part p ++ (spelled ps ++ rest)
    ≡ spelled_part q ++ (spelled qs ++ after) =
    sym (append_assoc (spelled_part p) (spelled ps) rest) ∙ same
    ∙ append_assoc (spelled_part q) (spelled qs) after in
    let one : (p ≡ q) × (spelled ps ++ rest ≡ spelled qs ++ after) =
    one_part (standing_of f before) p q (spelled ps ++ rest) (spelled qs
    ++ after) others.0 stand.0 regrouped in
    let tail : AllStand f (before ++ spelled_part q) ps rest =
    subst (λ x. AllStand f (before ++ spelled_part x) ps rest) one.0 others.1 in
    let none_further : NoGapPart f ((before ++ spelled_part q) ++ spelled qs) after =
    rw (← (append_assoc before (spelled_part q) (spelled qs))) at none in
    let less : length (spelled ps) ≤ length (spelled qs) =
    no_longer f (before ++ spelled_part q) qs after stand.1 none_further ps rest one.1 tail
    parts.1 in
    let same_bytes : length (spelled_part p) ≡ length (spelled_part q) =
    ap (λ x. length (spelled_part x)) one.0 in
    omega (
      arith,
      length-append (spelled_part p) (spelled ps),
      length-append (spelled_part q) (spelled qs),
    )

pub longest_gap : (f : Bool) (before : List ℕ) (gap : List Part) (after : List ℕ)
    → IsGap f before gap after → NoGapPart f (before ++ spelled gap) after
    → IsLongestGap f before gap after
longest_gap f before gap after is_gap none = record {
  is_gap = is_gap;
  longest =
      λ other rest same is_other. no_longer f before gap after is_gap.stand none other rest same
      is_other.stand is_other.only;
}

all_push : (xs : List Part) (p : Part) → IsTrue (list_all is_gap_part xs) → IsTrue (is_gap_part p)
    → IsTrue (list_all is_gap_part (xs ++ p ∷ []))
all_push [] p all is = and_from _ _ is refl
all_push (x ∷ xs) p all is =
    let parts : (is_gap_part x ≡ true) × (list_all is_gap_part xs ≡ true) = and_parts _ _ all in
    and_from _ _ parts.0 (all_push xs p parts.1 is)

-- after one more part
pub gap_more : (f : Bool) (block : List ℕ) (begin at end : ℕ) → GapTo f block begin at
    → GapPartAt f block at end → GapTo f block begin end
gap_more f block begin at end to more =
    let found : PartAt f block at more.part end = more.found in
    let before : take at block ≡ take begin block ++ spelled to.gap = to.passed in
    let one : spelled (more.part ∷ []) ++ drop end block ≡ drop at block =
    ap (λ xs. xs ++ drop end block) (append-nil (spelled_part more.part)) ∙ sym found.parted in
    record {
      gap = to.gap ++ more.part ∷ [];
      is_gap = record {
        stand = stands_join f (take begin block) to.gap (more.part ∷ []) (drop end block)
            (subst (AllStand f (take begin block) to.gap) (sym one) to.is_gap.stand) (
              rw (← before) found.stands,
              tt,
            );
        only = all_push to.gap more.part to.is_gap.only more.is_gap;
      };
      parted = to.parted ∙ ap (λ xs. spelled to.gap ++ xs) (found.parted)
          ∙ sym (append_assoc (spelled to.gap) (spelled_part more.part) (drop end block))
          ∙ ap (λ xs. xs ++ drop end block)
          (sym (rw (
            spelled-append to.gap (more.part ∷ []),
            append-nil (spelled_part more.part),
          ) refl));
      passed = found.passed ∙ ap (λ xs. xs ++ spelled_part more.part) before
          ∙ sym (before_more (take begin block) to.gap more.part);
      forward = (let a : begin ≤ at = to.forward in let b : at < end = found.forward in
          omega arith);
      within = found.within;
    }

-- where no part of a gap stands, the gap is the longest
pub gap_ended : (f : Bool) (block : List ℕ) (begin end : ℕ) → GapTo f block begin end
    → NoGapPartAt f block end → LongestGapTo f block begin end
gap_ended f block begin end to none = record {
  to = to;
  longest = longest_gap f (take begin block) to.gap (drop end block) to.is_gap
      (subst (λ xs. NoGapPart f xs (drop end block)) to.passed none);
  outside = none;
}
