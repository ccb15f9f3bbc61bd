-- What `for` and `count` say of the plies at which the other conditions of an alternative hold.
use Rattle.std.proofs.Common.{◌≡◌, ◌↔◌, ◌⊎◌, ◌≤◌, ◌<◌, ◌+◌, ◌-◌, if◌then◌else◌, ℕ, suc, Bool, true}
use Rattle.std.proofs.Common.{false, List, [], ◌∷◌, length, get_or, slice_set, Option, Some, None}
use Rattle.std.proofs.Common.{IsTrue, subst, sym, ap, ◌∙◌, refl, inl, inr, arith}
use Rattle.std.proofs.lemmas.List.{get_or-set_same, get_or-set_other}
use Rattle.std.specs.Option.{SomeIff, IfSome}
use Rattle.pgn_criteria.proofs.Common.{cases_lt, Replay, Compares, Ascend, IsAmong, AreAll}
use Rattle.pgn_criteria.proofs.Common.{SpanHolds, SpansHold, FitsAt, FitsAbout, IsRun, SpansStand}
use Rattle.pgn_criteria.proofs.Common.{AreNoCounts, Conditions, Comparison, SpanClaim, For, Count}
use Rattle.pgn_criteria.specs.Private.Stages.{AreSoMany}

-- ---- all plies that are such

-- what is there or not counts as one at most
pub at_most_one : (is : Bool) → (if is then 1 else 0) ≤ 1
at_most_one true = omega arith
at_most_one false = omega arith

above : (least : ℕ) (plies : List ℕ) → Ascend least plies → (ply : ℕ) → IsAmong ply plies
    → least ≤ ply
above least [] up ply among = absurd among
above least (first ∷ more) up ply (inl is) = let low = up.0 in omega (arith, is, low)
above least (first ∷ more) up ply (inr later) = let low = up.0 in let next =
    above (first + 1) more up.1 ply later in omega (arith, low, next)

same_number : (least other : ℕ) (one two : List ℕ) → Ascend least one → Ascend other two
    → ((ply : ℕ) → IsAmong ply one → IsAmong ply two)
    → ((ply : ℕ) → IsAmong ply two → IsAmong ply one) → length one ≡ length two
same_number least other [] [] up rise there back = refl
same_number least other [] (b ∷ two) up rise there back = absurd (back b (inl refl))
same_number least other (a ∷ one) [] up rise there back = absurd (there a (inl refl))
same_number least other (a ∷ one) (b ∷ two) up rise there back =
    let first : a ≡ b = elim (there a (inl refl)) [
      | inl is ↦ is
      | inr later ↦ elim (back b (inl refl)) [
        | inl is ↦ sym is
        | inr sooner ↦
            let low = above (b + 1) two rise.1 a later in
            let high = above (a + 1) one up.1 b sooner in
            absurd (omega (arith, low, high))
      ]
    ] in
    ap suc (same_number (a + 1) (b + 1) one two up.1 rise.1
    (λ ply among. elim (there ply (inr among)) [
      | inl is ↦ let low = above (a + 1) one up.1 ply among in
          absurd (omega (arith, low, is, first))
      | inr later ↦ later
    ])
    (λ ply among. elim (back ply (inr among)) [
      | inl is ↦ let low = above (b + 1) two rise.1 ply among in
          absurd (omega (arith, low, is, first))
      | inr later ↦ later
    ]))

-- there is one number of them
pub one_number : (Such : ℕ → Type 0) (one two : List ℕ) → AreAll Such one → AreAll Such two
    → length one ≡ length two
one_number Such one two all others =
    same_number 0 0 one two all.ascend others.ascend (λ ply among.
    (others.exactly ply).1 ((all.exactly ply).0 among))
    (λ ply among. (all.exactly ply).1 ((others.exactly ply).0 among))

pub all_same : (Such Other : ℕ → Type 0) → ((ply : ℕ) → Such ply ↔ Other ply) → (plies : List ℕ)
    → AreAll Such plies → AreAll Other plies
all_same Such Other same plies all = record {
  ascend = all.ascend;
  exactly =
      λ ply. (
        λ among. (same ply).0 ((all.exactly ply).0 among),
        λ such. (all.exactly ply).1 ((same ply).1 such),
      );
}

-- those from a ply on, so many
pub record AreFrom (Such : ℕ → Type 0) (least many : ℕ) : Type 0 where
  pub plies : List ℕ
  pub ascend : Ascend least plies
  pub exactly : (ply : ℕ) → IsAmong ply plies ↔ (Such ply × (least ≤ ply))
  pub number : length plies ≡ many

pub none_from : (Such : ℕ → Type 0) (least : ℕ) → ((ply : ℕ) → Such ply → ply < least)
    → AreFrom Such least 0
none_from Such least within = record {
  plies = [];
  ascend = tt;
  exactly = λ ply. (
    λ among. absurd among,
    λ such. let less = within ply such.0 in
        absurd (omega (arith, less, such.1)),
  );
  number = refl;
}

-- and from the one before on
pub one_before : (Such : ℕ → Type 0) (least many : ℕ) → AreFrom Such (least + 1) many → Such least
    → AreFrom Such least (many + 1)
one_before Such least many from such = record {
  plies = least ∷ from.plies;
  ascend = (omega arith, from.ascend);
  exactly = λ ply. (
    λ among. elim among [
      | inl is ↦ (subst Such (sym is) such, omega (arith, is))
      | inr later ↦ let both = (from.exactly ply).0 later in (both.0, omega (arith, both.1))
    ],
    λ both. elim (cases_lt least ply) [
      | inl less ↦ inr ((from.exactly ply).1 (both.0, omega (arith, less)))
      | inr up ↦ inl (omega (arith, up, both.1))
    ],
  );
  number = omega (arith, from.number);
}

pub none_before : (Such : ℕ → Type 0) (least many : ℕ) → AreFrom Such (least + 1) many
    → (Such least → ⊥) → AreFrom Such least many
none_before Such least many from none = record {
  plies = from.plies;
  ascend = lower from.plies from.ascend;
  exactly = λ ply. (
    λ among. let both = (from.exactly ply).0 among in (both.0, omega (arith, both.1)),
    λ both. elim (cases_lt least ply) [
      | inl less ↦ (from.exactly ply).1 (both.0, omega (arith, less))
      | inr up ↦ let same : ply ≡ least = omega (arith, up, both.1) in
          absurd (none (subst Such same both.0))
    ],
  );
  number = from.number;
}
  where
    lower : (plies : List ℕ) → Ascend (least + 1) plies → Ascend least plies
    lower [] up = tt
    lower (first ∷ more) up = (let low = up.0 in omega (arith, low), up.1)

pub counted_before : (Such : ℕ → Type 0) (least many : ℕ) (is : Bool) → (IsTrue is ↔ Such least)
    → AreFrom Such (least + 1) many → AreFrom Such least (many + (if is then 1 else 0))
counted_before Such least many true reports from = one_before Such least many from (reports.0 refl)
counted_before Such least many false reports from =
    let same : many ≡ many + 0 = omega arith in
    subst (AreFrom Such least) same
    (none_before Such least many from (λ such. let t : false ≡ true = reports.1 such in cc))

pub from_first : (Such : ℕ → Type 0) (many : ℕ) → AreFrom Such 0 many → AreSoMany Such many
from_first Such many from = (
  from.plies,
  record {
    ascend = from.ascend;
    exactly =
        λ ply. (
          λ among. ((from.exactly ply).0 among).0,
          λ such. (from.exactly ply).1 (such, omega arith),
        );
  },
  from.number,
)

-- ---- what is said of them

pub spans_same : (Such Other : ℕ → Type 0) → ((ply : ℕ) → Such ply ↔ Other ply)
    → (ply : ℕ) (claims : List SpanClaim) → SpansHold Such ply claims → SpansHold Other ply claims
spans_same Such Other same ply [] hold = tt
spans_same Such Other same ply (For count ∷ more) hold =
    ((λ i less. (same (ply + i)).0 (hold.0 i less)), spans_same Such Other same ply more hold.1)
spans_same Such Other same ply (Count comparison count ∷ more) (holds, others) = (
  (holds.0, all_same Such Other same holds.0 holds.1, holds.2),
  spans_same Such Other same ply more others,
)

pub no_spans_hold : (Such : ℕ → Type 0) (ply : ℕ) (claims : List SpanClaim) → claims ≡ []
    → SpansHold Such ply claims
no_spans_hold Such ply claims none = subst (SpansHold Such ply) (sym none) tt

-- by the run that the ply begins, and by the number of all
for_stands : (Such : ℕ → Type 0) (ply run count : ℕ) → IsRun Such ply run
    → (count ≤ run) ↔ SpanHolds Such ply (For count)
for_stands Such ply run count is = (
  λ up i less. is.all i (omega (arith, up, less)),
  λ holds. elim (cases_lt run count) [
    | inl less ↦ absurd (is.ended (holds run less))
    | inr up ↦ up
  ],
)

count_stands : (Such : ℕ → Type 0) (ply many : ℕ) (comparison : Comparison) (count : ℕ)
    → AreSoMany Such many
    → Compares comparison many count ↔ SpanHolds Such ply (Count comparison count)
count_stands Such ply many comparison count all = (
  λ stands. (all.0, all.1, subst (λ n. Compares comparison n count) (sym all.2) stands),
  λ holds. rw (← (one_number Such holds.0 all.0 holds.1 all.1 ∙ all.2)) holds.2,
)

-- the number of all is asked for by `count` alone
spans_stand : (Such : ℕ → Type 0) (ply run many : ℕ) → IsRun Such ply run
    → (claims : List SpanClaim) → (AreNoCounts claims ⊎ AreSoMany Such many)
    → SpansStand run many claims ↔ SpansHold Such ply claims
spans_stand Such ply run many is [] either = (λ stand. tt, λ hold. tt)
spans_stand Such ply run many is (For count ∷ more) either =
    let here = for_stands Such ply run count is in
    let there = spans_stand Such ply run many is more either in
    (λ stand. (here.0 stand.0, there.0 stand.1), λ hold. (here.1 hold.0, there.1 hold.1))
spans_stand Such ply run many is (Count comparison count ∷ more) (inl none) = absurd none
spans_stand Such ply run many is (Count comparison count ∷ more) (inr all) =
    let here = count_stands Such ply many comparison count all in
    let there = spans_stand Such ply run many is more (inr all) in
    (λ stand. (here.0 stand.0, there.0 stand.1), λ hold. (here.1 hold.0, there.1 hold.1))

-- all that conditions say of a ply, by its run and the number of all where that is asked for
pub reports_about : (replay : Replay) (asked : Conditions) (ply run many : ℕ)
    → IsRun (FitsAt replay asked) ply run
    → (AreNoCounts asked.spans ⊎ AreSoMany (FitsAt replay asked) many)
    → ((0 < run) × SpansStand run many asked.spans) ↔ FitsAbout replay asked ply
reports_about replay asked ply run many is either =
    let Such : ℕ → Type 0 = FitsAt replay asked in
    let same = spans_stand Such ply run many is asked.spans either in
    let here : ply + 0 ≡ ply = omega arith in (
      λ both. (subst Such here (is.all 0 both.0), same.0 both.1),
      λ fits. (
        elim (cases_lt 0 run) [
          | inl some ↦ some
          | inr none ↦ let end : ply ≡ ply + run = omega (arith, none) in
              absurd (is.ended (subst Such end fits.0))
        ],
        same.1 fits.1,
      ),
    )

-- the run of the next ply
run_next : (Such : ℕ → Type 0) (ply run next : ℕ) → IsRun Such ply run → run ≡ next + 1
    → IsRun Such (ply + 1) next
run_next Such ply run next is same = record {
  all = λ i less. let on : ply + (i + 1) ≡ (ply + 1) + i = omega arith in
      subst Such on (is.all (i + 1) (omega (arith, less, same)));
  ended = λ such. let on : (ply + 1) + next ≡ ply + run = omega (arith, same) in
      is.ended (subst Such on such);
}

pub run_known : (Such : ℕ → Type 0) (ply run : ℕ) (next : Option ℕ) → IsRun Such ply run
    → SomeIff next (1 ≤ run) (run - 1) → IfSome next (IsRun Such (ply + 1))
run_known Such ply run None is reports = tt
run_known Such ply run (Some next) is reports =
    run_next Such ply run next is (omega (arith, reports.0, reports.1))

-- a ply more is answered
module _ (old now : List Bool) (About : ℕ → Type 0) (at : ℕ) (is : Bool) (within : at < length now)
    (left : (k : ℕ) → at ≤ k → get_or now k false ≡ get_or old k false) where
  pub done_more : ((k : ℕ) → k < at → IsTrue (get_or now k false)
      ↔ (IsTrue (get_or old k false) ⊎ About k))
      → (IsTrue is ↔ (IsTrue (get_or now at false) ⊎ About at))
      → (k : ℕ) → k < at + 1 → IsTrue (get_or (slice_set now at is) k false)
      ↔ (IsTrue (get_or old k false) ⊎ About k)
  done_more done here k less = elim (cases_lt k at) [
    | inl before ↦
        let same : get_or (slice_set now at is) k false ≡ get_or now k false =
        get_or-set_other now at k is false (λ e. omega (arith, e, before)) in
        let reports = done k before in
        (λ t. reports.0 (sym same ∙ t), λ either. same ∙ reports.1 either)
    | inr up ↦
        let same : k ≡ at = omega (arith, up, less) in
        subst (λ n. IsTrue (get_or (slice_set now at is) n false)
        ↔ (IsTrue (get_or old n false) ⊎ About n)) (sym same)
        (let put : get_or (slice_set now at is) at false ≡ is =
        get_or-set_same now at is false within in
        let kept = left at (omega arith) in (
          λ t. elim (here.0 (sym put ∙ t))
              [ inl own ↦ inl (sym kept ∙ own) | inr about ↦ inr about ],
          λ either. put ∙ elim either
              [ inl own ↦ here.1 (inl (kept ∙ own)) | inr about ↦ here.1 (inr about) ],
        ))
  ]

  pub left_more : (k : ℕ) → at + 1 ≤ k → get_or (slice_set now at is) k false ≡ get_or old k false
  left_more k up = get_or-set_other now at k is false (λ e. omega (arith, e, up))
      ∙ left k (omega (arith, up))
