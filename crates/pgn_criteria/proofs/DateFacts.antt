-- What the digits of a date may write, and the first and the last day that it may be.
use Rattle.pgn_criteria.proofs.Common.{◌≡◌, ◌≢◌, ◌↔◌, ◌≤◌, ◌<◌, ◌+◌, ◌*◌, ◌-◌, ◌++◌, ℕ, Bool, true}
use Rattle.pgn_criteria.proofs.Common.{false, List, [], ◌∷◌, Some, IsTrue, refl, sym, ap, ◌∙◌}
use Rattle.pgn_criteria.proofs.Common.{subst, inl, inr, arith, not, codes, ◌==◌, ◌&&◌, ◌||◌}
use Rattle.pgn_criteria.proofs.Common.{if◌then◌else◌, flat_map, list_all, and_parts, not-true}
use Rattle.pgn_criteria.proofs.Common.{cases_lt, nat_tests, Sign, Single, Escaped, spelled_sign}
use Rattle.pgn_criteria.proofs.Common.{IsContents, value_of, has_value, one_value, StandsFor}
use Rattle.pgn_criteria.proofs.Common.{MayWrite, MayBe, IsWithin, number_of, first_of, last_of}
use Rattle.pgn_criteria.proofs.Common.{StandSurely, IsDate, year_text, Comparison, Equal, Unequal}
use Rattle.pgn_criteria.proofs.Common.{Less, LessOrEqual, Greater, GreaterOrEqual, Day, Days}
use Rattle.pgn_text.specs.Public.Strings.{value_of_sign}
use Rattle.pgn_criteria.specs.Private.DateEnds.{IsLeast, IsGreatest, IsDigitEnd, IsYearEnd}
use Rattle.pgn_criteria.specs.Private.DateEnds.{IsFirstDay, IsLastDay}
use Rattle.pgn_criteria.specs.declared.dates.Written.{Written}

-- ---- the least number and the greatest that are such

pub least_found : (Such : ℕ → Type 0) (first last own : ℕ) → first ≤ own → own ≤ last
    → ((n : ℕ) → first ≤ n → n < own → Such n → ⊥) → Such own → IsLeast Such first last (Some own)
least_found Such first last own from to none such = (
  from,
  to,
  such,
  λ n low high is. elim (cases_lt n own) [
    | inl less ↦ absurd (none n low less is)
    | inr over ↦ over
  ],
)

pub least_next : (Such : ℕ → Type 0) (first own : ℕ)
    → ((n : ℕ) → first ≤ n → n < own → Such n → ⊥) → (Such own → ⊥)
    → (n : ℕ) → first ≤ n → n < own + 1 → Such n → ⊥
least_next Such first own none not_own n low high is = elim (cases_lt n own) [
  | inl less ↦ none n low less is
  | inr over ↦ let same : n ≡ own = omega arith in not_own (subst Such same is)
]

pub greatest_found : (Such : ℕ → Type 0) (first last own : ℕ) → first ≤ own → own ≤ last
    → ((n : ℕ) → own < n → n ≤ last → Such n → ⊥) → Such own → IsGreatest Such first last (Some own)
greatest_found Such first last own from to none such = (
  from,
  to,
  such,
  λ n low high is. elim (cases_lt own n) [
    | inl more ↦ absurd (none n more high is)
    | inr over ↦ over
  ],
)

pub greatest_next : (Such : ℕ → Type 0) (last own : ℕ) → 1 ≤ own
    → ((n : ℕ) → own < n → n ≤ last → Such n → ⊥) → (Such own → ⊥)
    → (n : ℕ) → own - 1 < n → n ≤ last → Such n → ⊥
greatest_next Such last own some none not_own n low high is = elim (cases_lt own n) [
  | inl more ↦ none n more high is
  | inr over ↦ let same : n ≡ own = omega arith in not_own (subst Such same is)
]

-- ---- years

digit_low : (unknown byte own : ℕ) → IsDigitEnd unknown byte own → unknown ≡ 0 → (digit : ℕ)
    → StandsFor byte digit → own ≤ digit
digit_low unknown byte own end is digit stands =
    elim (end.1 digit stands) [ inl same ↦ omega arith | inr least ↦ omega arith ]

digit_high : (unknown byte own : ℕ) → IsDigitEnd unknown byte own → unknown ≡ 9 → (digit : ℕ)
    → StandsFor byte digit → digit ≤ own
digit_high unknown byte own end is digit stands =
    let small : digit ≤ 9 = stands.0 in
    elim (end.1 digit stands) [ inl same ↦ omega arith | inr most ↦ omega arith ]

pub year_end : (unknown : ℕ) (w : Written) (p q r s : ℕ) → IsDigitEnd unknown w.thousands p
    → IsDigitEnd unknown w.hundreds q → IsDigitEnd unknown w.tens r → IsDigitEnd unknown w.units s
    → IsYearEnd unknown (MayWrite 0 (year_text w)) (Some (1000 * p + 100 * q + 10 * r + s))
year_end unknown w p q r s a b c d = (
  (p, a.0, (q, b.0, (r, c.0, (s, d.0, omega arith)))),
  λ n (e, e_is, (f, f_is, (g, g_is, (h, h_is, is)))). (
    (λ low. let one = digit_low unknown w.thousands p a low e e_is in
        let two = digit_low unknown w.hundreds q b low f f_is in
        let three = digit_low unknown w.tens r c low g g_is in
        let four = digit_low unknown w.units s d low h h_is in omega arith),
    (λ high. let one = digit_high unknown w.thousands p a high e e_is in
        let two = digit_high unknown w.hundreds q b high f f_is in
        let three = digit_high unknown w.tens r c high g g_is in
        let four = digit_high unknown w.units s d high h h_is in omega arith),
  ),
)

-- ---- the first and the last day decide

module _ (value : List ℕ) (first last : Day) (days : Days) (f : IsFirstDay value first)
    (l : IsLastDay value last) where
  pub surely_equal : (IsWithin first days × IsWithin last days) ↔ StandSurely Equal value days
  surely_equal = (
    (λ both. (
      (first, f.may_be),
      λ day may.
          let low = f.least day may in
          let high = l.greatest day may in
          let one = both.0 in
          let other = both.1 in (omega arith, omega arith, omega arith, omega arith, omega arith),
    )),
    (λ surely. (surely.1 first f.may_be, surely.1 last l.may_be)),
  )

  pub surely_less : (number_of last < first_of days) ↔ StandSurely Less value days
  surely_less = (
    (λ less. ((first, f.may_be), λ day may. let high = l.greatest day may in omega arith)),
    (λ surely. surely.1 last l.may_be),
  )

  pub surely_no_more : (number_of last ≤ last_of days) ↔ StandSurely LessOrEqual value days
  surely_no_more = (
    (λ less. ((first, f.may_be), λ day may. let high = l.greatest day may in omega arith)),
    (λ surely. surely.1 last l.may_be),
  )

  pub surely_more : (last_of days < number_of first) ↔ StandSurely Greater value days
  surely_more = (
    (λ more. ((first, f.may_be), λ day may. let low = f.least day may in omega arith)),
    (λ surely. surely.1 first f.may_be),
  )

  pub surely_no_less : (first_of days ≤ number_of first) ↔ StandSurely GreaterOrEqual value days
  surely_no_less = (
    (λ more. ((first, f.may_be), λ day may. let low = f.least day may in omega arith)),
    (λ surely. surely.1 first f.may_be),
  )

  pub surely_unlike : (r : Bool) → (IsTrue r ↔ ((day : Day) × MayBe value day × IsWithin day days))
      → IsTrue (not r) ↔ StandSurely Unequal value days
  surely_unlike true reports = (
    (λ t. cc),
    (λ surely. let it = reports.0 refl in absurd (surely.1 it.0 it.1 it.2)),
  )
  surely_unlike false reports = (
    (λ t. (
      (first, f.may_be),
      λ day may within.
          let clash : false ≡ true = reports.1 (day, may, within) in cc,
    )),
    (λ surely. refl),
  )

-- ---- contents of strings

-- a byte that is neither a quote nor a backslash
abbrev is_bare : ℕ → Bool
is_bare b = not (b == 34) && not (b == 92)

stands_bare : (byte digit : ℕ) → StandsFor byte digit → is_bare byte ≡ true
stands_bare byte digit stands =
    let small : digit ≤ 9 = stands.0 in
    elim stands.1 [ inl is ↦ grind (arith, nat_tests) | inr is ↦ grind (arith, nat_tests) ]

dot_bare : (byte : ℕ) → byte ≡ 46 → is_bare byte ≡ true
dot_bare byte is = rw is refl

may_bare : (x : List ℕ) (day : Day) → MayBe x day → IsTrue (list_all is_bare x)
may_bare (a ∷ b ∷ c ∷ d ∷ p ∷ e ∷ f ∷ q ∷ g ∷ h ∷ []) day may =
    rw (
      stands_bare a may.0.0 may.0.1,
      stands_bare b may.0.2.0 may.0.2.1,
      stands_bare c may.0.2.2.0 may.0.2.2.1,
      stands_bare d may.0.2.2.2.0 may.0.2.2.2.1,
      dot_bare p may.1,
      stands_bare e may.2.0 may.2.1,
      stands_bare f may.2.2.0 may.2.2.1,
      dot_bare q may.5,
      stands_bare g may.6.0 may.6.1,
      stands_bare h may.6.2.0 may.6.2.1,
    ) refl
may_bare x day may = absurd may

-- contents without a backslash are their value
bare_contents : (x : List ℕ) → IsTrue (list_all is_bare x) → value_of x ≡ x
bare_contents [] all = refl
bare_contents (b ∷ []) all = refl
bare_contents (a ∷ b ∷ x) all =
    let parts : (is_bare a ≡ true) × (list_all is_bare (b ∷ x) ≡ true) = and_parts _ _ all in
    let marks : (not (a == 34) ≡ true) × (not (a == 92) ≡ true) = and_parts _ _ parts.0 in
    rw (not-true _ marks.1) (ap (λ (y : List ℕ). a ∷ y) (bare_contents (b ∷ x) parts.1))

-- and so are those of a value without a quote and a backslash
bare_value : (signs : List Sign) → IsTrue (list_all is_bare (flat_map value_of_sign signs))
    → flat_map spelled_sign signs ≡ flat_map value_of_sign signs
bare_value [] all = refl
bare_value (Single b ∷ signs) all =
    let parts : (is_bare b ≡ true) × (list_all is_bare (flat_map value_of_sign signs) ≡ true) =
    and_parts _ _ all in
    ap (λ (y : List ℕ). b ∷ y) (bare_value signs parts.1)
bare_value (Escaped b ∷ signs) all =
    elim (b == 34 || b == 92) as (λ t. (b == 34 || b == 92) ≡ t
    → IsTrue (list_all is_bare ((if t then b ∷ [] else 92 ∷ b ∷ [])
    ++ flat_map value_of_sign signs)) → 92 ∷ b ∷ flat_map spelled_sign signs
    ≡ (if t then b ∷ [] else 92 ∷ b ∷ []) ++ flat_map value_of_sign signs) [
      | true ↦ λ is bare.
          let parts : (is_bare b ≡ true)
          × (list_all is_bare (flat_map value_of_sign signs) ≡ true) =
          and_parts _ _ bare in
          let own : is_bare b ≡ true = parts.0 in
          absurd (grind (arith, nat_tests))
      | false ↦ λ is bare. let clash : false ≡ true = bare in cc
    ] refl all

same_value : (given : List ℕ) (day : Day) → IsContents given → MayBe (value_of given) day
    → value_of given ≡ given
same_value given day good may =
    let it = has_value given good in
    let gives : value_of given ≡ flat_map value_of_sign it.0 = it.1.gives in
    let bare : IsTrue (list_all is_bare (flat_map value_of_sign it.0)) =
    subst (λ x. IsTrue (list_all is_bare x)) gives (may_bare (value_of given) day may) in
    gives ∙ sym (bare_value it.0 bare) ∙ sym it.1.spells

-- a date of which nothing is known
abbrev pub unknown_date : List ℕ
unknown_date = codes "????.??.??"

-- contents have one value, so the contents decide
pub date_so : (comparison : Comparison) (given : List ℕ) (days : Days) (r : Bool)
    → IsContents given → given ≢ unknown_date
    → (IsTrue r ↔ StandSurely comparison given days) → IsTrue r ↔ IsDate comparison given days
date_so comparison given days r good known reports =
    let it = has_value given good in (
      (λ t. let surely = reports.0 t in
          let same : value_of given ≡ given =
          bare_contents given (may_bare given surely.0.0 surely.0.1) in
          record {
            value = value_of given;
            signs = it.0;
            has = it.1;
            known = λ none. known (sym same ∙ none);
            surely = subst (λ x. StandSurely comparison x days) (sym same) surely;
          }),
      (λ date. let one : date.value ≡ value_of given =
          one_value given date.value date.signs date.has in
          let surely = subst (λ x. StandSurely comparison x days) one date.surely in
          let same : value_of given ≡ given = same_value given surely.0.0 good surely.0.1 in
          reports.1 (subst (λ x. StandSurely comparison x days) same surely)),
    )

pub date_unknown : (comparison : Comparison) (given : List ℕ) (days : Days) → given ≡ unknown_date
    → IsDate comparison given days → ⊥
date_unknown comparison given days is date =
    date.known (one_value given date.value date.signs date.has ∙ ap value_of is)
