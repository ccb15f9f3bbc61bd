-- Plies that are told while a game is played.
use Rattle.pgn_criteria.proofs.Common.{◌≡◌, ◌↔◌, ◌+◌, ◌-◌, ◌<◌, ◌≤◌, ◌++◌, ℕ, Bool, false}
use Rattle.pgn_criteria.proofs.Common.{List, [], ◌∷◌, length, get_or, IsTrue, refl}
use Rattle.pgn_criteria.proofs.Common.{sym, ap, ◌∙◌, subst, inl, inr, arith, cases_lt}
use Rattle.pgn_criteria.proofs.Common.{length-append}
use Rattle.pgn_criteria.proofs.Common.{slice_get_within}
use Rattle.pgn_criteria.proofs.Common.{Replay}
use Rattle.pgn_criteria.proofs.Common.{Conditions, Heading, Meets, AreMet, FitsAt}
use Rattle.pgn_criteria.proofs.Common.{FitsAbout, IsRun, SpansStand}
use Rattle.std.proofs.lemmas.List.{get_or_past, get_or_push, get_or_append_left}
use Rattle.std.proofs.lemmas.List.{get_or-set_same, get_or-set_other}
use Rattle.std.proofs.Common.{slice_set}
use Rattle.std.proofs.lemmas.Option.{get_or_from_slice_get}
use Rattle.pgn_criteria.proofs.Common.{IsAmong}
use Rattle.pgn_criteria.specs.Private.Stages.{AllOfGame, AreSoMany}
use Rattle.pgn_criteria.specs.Private.Told.{IsTold, AreTold, AreToldOf}
use Rattle.pgn_criteria.proofs.SpanFacts.{all_same, no_spans_hold, reports_about}
use Rattle.pgn_criteria.proofs.StageFacts.{one_meets, fits_of}

-- none is told past the end
pub told_within : (told : List Bool) (ply : ℕ) → IsTold told ply → ply < length told
told_within told ply is = elim (cases_lt ply (length told)) [
  | inl less ↦ less
  | inr past ↦ let none : get_or told ply false ≡ false = get_or_past told ply false past in
      absurd (cc (is, none))
]

-- at first nothing is told
pub none_told : (asked : Conditions) (Of : Replay → Type 0) → AreToldOf asked 0 Of []
none_told asked Of =
    record { each = refl; exactly = λ replay of ply less. absurd (omega (arith, less)) }

-- one more ply
pub told_more : (asked : Conditions) (count : ℕ) (Old New : Replay → Type 0) (told new : List Bool)
    (is : Bool) → AreToldOf asked count Old told → new ≡ told ++ is ∷ []
    → ((replay : Replay) → New replay → Old replay × (IsTrue is ↔ FitsAt replay asked count))
    → AreToldOf asked (count + 1) New new
told_more asked count Old New told new is so_far items here = record {
  each = let one = length-append told (is ∷ []) in let size = ap length items in
      let each = so_far.each in omega (arith, one, size, each);
  exactly = λ replay of ply less.
      let each = so_far.each in
      let (old, now) = here replay of in
      elim (cases_lt ply count) [
        | inl sooner ↦
            let same : get_or new ply false ≡ get_or told ply false =
            ap (λ xs. get_or xs ply false) items
            ∙ get_or_append_left told (is ∷ []) false ply (omega (arith, each, sooner)) in
            let there = so_far.exactly replay old ply sooner in
            (λ t. there.0 (sym same ∙ t), λ fits. same ∙ there.1 fits)
        | inr later ↦
            let last : ply ≡ count = omega (arith, less, later) in
            let same : get_or new ply false ≡ is = ap (λ xs. get_or xs ply false) items
            ∙ get_or_push told is false ply (omega (arith, each, last)) in
            let at = subst (λ n. IsTrue is ↔ FitsAt replay asked n) (sym last) now in
            (λ t. at.0 (sym same ∙ t), λ fits. same ∙ at.1 fits)
      ];
}

-- so it is of a whole main line
pub told_all : (asked : Conditions) (Of : Replay → Type 0) (told : List Bool) (replay : Replay)
    → Of replay → AreToldOf asked (length replay.positions) Of told
    → AreTold (FitsAt replay asked) told
told_all asked Of told replay of all ply = elim (cases_lt ply (length replay.positions)) [
  | inl less ↦ all.exactly replay of ply less
  | inr past ↦ (
    λ is. let within = told_within told ply is in let each = all.each in
        absurd (omega (arith, within, each, past)),
    λ fits. let within = slice_get_within replay.positions ply fits.0 fits.1 in
        absurd (omega (arith, within, past)),
  )
]

-- ---- runs of plies

pub run_longer : (Such : ℕ → Type 0) (at run : ℕ) → Such at → IsRun Such (at + 1) run
    → IsRun Such at (run + 1)
run_longer Such at run such is = record {
  all = λ i less. elim (cases_lt 0 i) [
    | inl some ↦ let on : at + 1 + (i - 1) ≡ at + i = omega (arith, some) in
        subst Such on (is.all (i - 1) (omega (arith, some, less)))
    | inr none ↦ let on : at ≡ at + i = omega (arith, none) in subst Such on such
  ];
  ended = λ more. let on : at + (run + 1) ≡ at + 1 + run = omega arith in
      is.ended (subst Such on more);
}

pub run_none : (Such : ℕ → Type 0) (at : ℕ) → (Such at → ⊥) → IsRun Such at 0
run_none Such at none = record {
  all = λ i less. absurd (omega (arith, less));
  ended = λ such. let on : at + 0 ≡ at = omega arith in none (subst Such on such);
}

run_same : (Such Other : ℕ → Type 0) → ((ply : ℕ) → Such ply ↔ Other ply) → (at run : ℕ)
    → IsRun Such at run → IsRun Other at run
run_same Such Other same at run is = record {
  all = λ i less. (same (at + i)).0 (is.all i less);
  ended = λ such. is.ended ((same (at + run)).1 such);
}

-- where neither `for` nor `count` is asked for, each ply that fits is met
pub all_kept : (asked : Conditions) (told : List Bool) (replay : Replay) → asked.spans ≡ []
    → AreTold (FitsAt replay asked) told → AreTold (FitsAbout replay asked) told
all_kept asked told replay free are ply =
    let spans = no_spans_hold (FitsAt replay asked) ply asked.spans free in
    (λ t. ((are ply).0 t, spans), λ about. (are ply).1 about.0)

none_among : (plies : List ℕ) → length plies ≡ 0 → (ply : ℕ) → IsAmong ply plies → ⊥
none_among [] none ply among = among
none_among (first ∷ more) none ply among = absurd (omega (arith, none))

-- where none fits, none is met
pub none_kept : (asked : Conditions) (told : List Bool) (replay : Replay)
    → AreSoMany (IsTold told) 0 → AreTold (FitsAt replay asked) told
    → AreTold (FitsAbout replay asked) told
none_kept asked told replay (plies, all, none) are ply =
    let never : IsTold told ply → ⊥ = λ t. none_among plies none ply ((all.exactly ply).1 t) in
    (λ t. absurd (never t), λ about. absurd (never ((are ply).1 about.0)))

-- where `for` and `count` are met at one more ply, from the last one on
module _ (asked : Conditions) (old now : List Bool) (at run many : ℕ) (is : Bool)
    (within : at < length now) (begins : IsRun (IsTold old) at run)
    (all : AreSoMany (IsTold old) many)
    (stands : IsTrue is ↔ ((0 < run) × SpansStand run many asked.spans)) where
  pub kept_before : (replay : Replay) → AreTold (FitsAt replay asked) old
      → ((k : ℕ) → at + 1 ≤ k → IsTold now k ↔ FitsAbout replay asked k)
      → (k : ℕ) → at ≤ k → IsTold (slice_set now at is) k ↔ FitsAbout replay asked k
  kept_before replay told done k up = elim (cases_lt at k) [
    | inl later ↦
        let same : get_or (slice_set now at is) k false ≡ get_or now k false =
        get_or-set_other now at k is false (λ e. omega (arith, e, later)) in
        let there = done k (omega (arith, later)) in
        (λ t. there.0 (sym same ∙ t), λ about. same ∙ there.1 about)
    | inr here ↦
        let last : k ≡ at = omega (arith, up, here) in
        let put : get_or (slice_set now at is) at false ≡ is =
        get_or-set_same now at is false within in
        let Such : ℕ → Type 0 = FitsAt replay asked in
        let about = reports_about replay asked at run many
        (run_same (IsTold old) Such told at run begins)
        (inr (all.0, all_same (IsTold old) Such told all.0 all.1, all.2)) in
        subst (λ n. IsTold (slice_set now at is) n ↔ FitsAbout replay asked n) (sym last)
        (λ t. about.0 (stands.0 (sym put ∙ t)), λ fits. put ∙ stands.1 (about.1 fits))
  ]

-- ---- what is told of one alternative

-- where what it says of the game is so, it is what is met
pub told_met : (heading : Heading) (replay : Replay) (own : Conditions) (whole : List Conditions)
    (told : List Bool) → AllOfGame heading replay own
    → ((ply : ℕ) → Meets heading replay ply (own ∷ []) ↔ Meets heading replay ply whole)
    → length told ≡ length replay.positions → AreTold (FitsAbout replay own) told
    → AreMet heading replay whole told
told_met heading replay own whole told of_game same size are = record {
  each = size;
  reports = λ ply is here.
      let cell : get_or told ply false ≡ is = get_or_from_slice_get told ply is false here in (
        λ t. (same ply).0 (one_meets heading replay ply own of_game ((are ply).0 (cell ∙ t))),
        λ met. sym cell ∙ (are ply).1 (fits_of heading replay ply own ((same ply).1 met)),
      );
}
