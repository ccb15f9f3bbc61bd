-- Entries that are chosen by their plies.
use Rattle.pgn_extract.proofs.Common.{◌≡◌, ◌<◌, ℕ, zero, suc, List, [], ◌∷◌, refl, sym, ap, ◌∙◌}
use Rattle.pgn_extract.proofs.Common.{subst, arith, inl, inr, ◌⊎◌, Contains, Contains-append_right}
use Rattle.pgn_extract.proofs.Common.{Entry, Ascend, AreChosen, none, keep, leave}
use Rattle.pgn_extract.specs.Public.Listing.{Shown}
use Rattle.pgn_extract.specs.declared.marks.GameId.{GameId}

-- the entry of a game at a ply
abbrev pub entry_at : GameId → ℕ → Shown → Entry
entry_at id ply shown = record { id = id; ply = ply; shown = shown }

-- nothing is among none
pub none_in : {A : Type 0} (x : A) → Contains [] x → ⊥
none_in x (k, less, is) = omega arith

-- the first of some, or one of the others
pub in_front : {A : Type 0} (first : A) (more : List A) (x : A) → Contains (first ∷ more) x
    → (first ≡ x) ⊎ Contains more x
in_front first more x (zero, less, is) = inl is
in_front first more x (suc k, less, is) = inr (k, omega arith, is)

-- each is lower than all after it
abbrev pub Rise : List ℕ → Type 0
Rise [] = Unit {0}
Rise (ply ∷ more) = ((later : ℕ) → Contains more later → ply < later) × Rise more

-- what an entry that is chosen is
pub record IsPicked (id : GameId) (P : ℕ → Type 0) (S : ℕ → Shown
    → Type 0) (all : List ℕ) (entry : Entry) : Type 0 where
  pub is : entry ≡ entry_at id entry.ply entry.shown
  pub among : Contains all entry.ply
  pub fact : P entry.ply
  pub shows : S entry.ply entry.shown

module _ (id : GameId) (P : ℕ → Type 0) (S : ℕ → Shown → Type 0) where
  -- among others too
  picked_after : (first : ℕ) (all : List ℕ) (entry : Entry) → IsPicked id P S all entry
      → IsPicked id P S (first ∷ all) entry
  picked_after first all entry of = record {
    is = of.is;
    among = Contains-append_right (first ∷ []) all entry.ply of.among;
    fact = of.fact;
    shows = of.shows;
  }

  -- what is chosen is among all, and has the fact
  pub chosen_from : (all : List ℕ) (chosen : List Entry) → AreChosen id P S all chosen
      → (entry : Entry) → Contains chosen entry → IsPicked id P S all entry
  chosen_from _ _ none entry has = absurd (none_in entry has)
  chosen_from _ _ (keep first shown all chosen holds shows more) entry has =
      elim (in_front (entry_at id first shown) chosen entry has) [
        | inl is ↦
            subst (IsPicked id P S (first ∷ all)) is
            (record { is = refl; among = (0, omega arith, refl); fact = holds; shows = shows })
        | inr later ↦ picked_after first all entry (chosen_from all chosen more entry later)
      ]
  chosen_from _ _ (leave first all chosen fails more) entry has =
      picked_after first all entry (chosen_from all chosen more entry has)

  -- their order stays
  pub chosen_ascend : (all : List ℕ) (chosen : List Entry) → AreChosen id P S all chosen → Rise all
      → Ascend chosen
  chosen_ascend _ _ none up = tt
  chosen_ascend _ _ (keep first shown all chosen holds shows more) up = (
    λ later has.
        let of = chosen_from all chosen more later has in
        inr (sym (ap (λ (e : Entry). e.id.number) of.is), up.0 later.ply of.among),
    chosen_ascend all chosen more up.1,
  )
  chosen_ascend _ _ (leave first all chosen fails more) up = chosen_ascend all chosen more up.1

  -- where each is decided, and something is shown of each, some are chosen
  pub some_chosen : (all : List ℕ) → ((ply : ℕ) → Contains all ply → P ply ⊎ (P ply → ⊥))
      → ((ply : ℕ) → Contains all ply → (shown : Shown) × S ply shown)
      → (chosen : List Entry) × AreChosen id P S all chosen
  some_chosen [] decides shows = ([], none)
  some_chosen (first ∷ all) decides shows =
      let later =
      some_chosen all (λ ply has. decides ply (Contains-append_right (first ∷ []) all ply has))
      (λ ply has. shows ply (Contains-append_right (first ∷ []) all ply has)) in
      let own = shows first (0, omega arith, refl) in
      elim (decides first (0, omega arith, refl)) [
        | inl holds ↦
            (entry_at id first own.0 ∷ later.0, keep first own.0 all later.0 holds own.1 later.1)
        | inr fails ↦ (later.0, leave first all later.0 fails later.1)
      ]

  -- where one text is shown of each ply
  module _ (one : (ply : ℕ) (x y : Shown) → S ply x → S ply y → x ≡ y) where
    -- the entry of each ply that is among all and has the fact is chosen
    pub chosen_all : (all : List ℕ) (chosen : List Entry) → AreChosen id P S all chosen
        → (entry : Entry) → IsPicked id P S all entry → Contains chosen entry
    chosen_all _ _ none entry of = absurd (none_in entry.ply of.among)
    chosen_all _ _ (keep first shown all chosen held shows more) entry of =
        elim (in_front first all entry.ply of.among) [
          | inl is ↦
              let same : shown ≡ entry.shown =
              one entry.ply shown entry.shown (subst (λ n. S n shown) is shows) of.shows in
              let whole : entry_at id first shown ≡ entry =
              ap (λ n. entry_at id n shown) is ∙ ap (entry_at id entry.ply) same ∙ sym of.is in
              (0, omega arith, whole)
          | inr later ↦
              Contains-append_right (entry_at id first shown ∷ []) chosen entry
              (chosen_all all chosen more entry
              (record { is = of.is; among = later; fact = of.fact; shows = of.shows }))
        ]
    chosen_all _ _ (leave first all chosen fails more) entry of =
        elim (in_front first all entry.ply of.among) [
          | inl is ↦ absurd (fails (subst P (sym is) of.fact))
          | inr later ↦ chosen_all all chosen more entry
              (record { is = of.is; among = later; fact = of.fact; shows = of.shows })
        ]

    -- in one way
    pub one_chosen : (all : List ℕ) (xs ys : List Entry) → AreChosen id P S all xs
        → AreChosen id P S all ys → xs ≡ ys
    one_chosen _ _ _ none none = refl
    one_chosen _ _ _ (keep first shown all xs held shows more)
        (keep _ other _ ys also showing others) =
        ap (λ (t : Shown). entry_at id first t ∷ xs) (one first shown other shows showing)
        ∙ ap (λ (t : List Entry). entry_at id first other ∷ t) (one_chosen all xs ys more others)
    one_chosen _ _ _ (keep first shown all xs held shows more) (leave _ _ ys fails others) =
        absurd (fails held)
    one_chosen _ _ _ (leave first all xs fails more) (keep _ other _ ys held showing others) =
        absurd (fails held)
    one_chosen _ _ _ (leave first all xs fails more) (leave _ _ ys also others) =
        one_chosen all xs ys more others

-- where more is known of what is shown
pub shown_so : (id : GameId) (P : ℕ → Type 0) (S T : ℕ → Shown → Type 0)
    → ((ply : ℕ) (shown : Shown) → S ply shown → T ply shown) → (all : List ℕ)
    → (chosen : List Entry) → AreChosen id P S all chosen → AreChosen id P T all chosen
shown_so id P S T so _ _ none = none
shown_so id P S T so _ _ (keep ply shown all chosen holds shows more) =
    keep ply shown all chosen holds (so ply shown shows) (shown_so id P S T so all chosen more)
shown_so id P S T so _ _ (leave ply all chosen fails more) =
    leave ply all chosen fails (shown_so id P S T so all chosen more)
