use Rattle.pgn_extract.proofs.Common.{◌≡◌, ℕ, List, [], ◌∷◌, length, refl, sym, ◌∙◌}
use Rattle.pgn_extract.proofs.Common.{subst, eqb-true, arith, Bool, true, false, not}
use Rattle.pgn_extract.specs.Private.Packed.{bare_aim, ListsRecord}
use Rattle.pgn_extract.proofs.PackedFacts.{none_listed}
use Rattle.pgn_extract.proofs.packed.may_have_entry.Goals as goal

no_bytes : (bytes : List ℕ) → length bytes ≡ 0 → bytes ≡ []
no_bytes [] empty = refl
no_bytes (b ∷ bytes) empty = absurd (omega (arith, empty))

pub returns-in-Err-clause-err : goal.returns-in-Err-clause-err
returns-in-Err-clause-err c is = (c.in-Err.ensures.err is).1

is_none : (b : Bool) → not b ≡ false → b ≡ true
is_none true off = refl
is_none false off = absurd (cc)

pub returns-clause-none : goal.returns-clause-none
returns-clause-none c off =
    let aim = bare_aim c.args.context.settings.now in
    let raw = c.args.context.record.now in
    let found = c.push_seen.new.text in
    let size = eqb-true found.len 0 (sym c.is_empty.ensures ∙ is_none c.is_empty.result off) in
    let none : found.items ≡ [] = no_bytes found.items (sym found.ok.0 ∙ size) in
    none_listed aim raw (record { fen = false; next = false }) refl
    (subst (λ bytes. ListsRecord aim raw [] bytes) none
    (subst (λ bytes. ListsRecord aim raw bytes found.items) c.new-found.ensures.items
    (c.in-Ok.ensures.seen c.if-not-is_seen.false)))
