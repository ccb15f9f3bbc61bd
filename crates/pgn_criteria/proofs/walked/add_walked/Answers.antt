use Rattle.std.proofs.lemmas.List.{take_at}
use Rattle.pgn_criteria.proofs.Common.{◌≡◌, ◌↔◌, ◌⊎◌, ◌++◌, ◌+◌, ◌∙◌, ap, sym, subst, inl, inr}
use Rattle.pgn_criteria.proofs.Common.{IsTrue, length, take, drop, get_or, false, Conditions}
use Rattle.pgn_criteria.proofs.Common.{FitsAt, codes_in}
use Rattle.pgn_criteria.specs.Private.Told.{AreTold, IsBeside, IsTold}
use Rattle.pgn_criteria.proofs.CodedLines.{codes_count}
use Rattle.pgn_criteria.proofs.SeenPlyFacts.{HoldAt, fits_beside, tells_line, tells_size}
use Rattle.pgn_criteria.proofs.walked.add_walked.Goals as goal

pub keep_moves-requires : goal.keep_moves-requires
keep_moves-requires c =
    ap length c.deref_mut.ensures.value
    ∙ tells_size c.args.alternative.now.positions c.args.start.now (codes_in c.args.plies.now)
    c.in_ok-told.told.items c.in_ok-told.ensures
    ∙ ap (λ n. n + 1) (codes_count c.args.plies.now)

pub returns : goal.returns
returns c known beside P replay sight by ply within =
    let own = c.args.alternative.now in
    let told = c.in_ok-told.told in
    let moved = c.keep_moves.new.told in
    let new = c.keep_spans.new.fits in
    let first = take told.len (moved ++ drop (length moved) told.items) in
    let same_moved : first ≡ moved =
    take_at moved (drop (length moved) told.items) told.len
    (c.keep_moves.auto.told ∙ c.deref_mut.ensures.len) in
    let same_new : take told.len (new ++ drop (length new) first) ≡ new =
    take_at new (drop (length new) first) told.len
    (c.keep_spans.auto.fits ∙ c.deref_mut-2.ensures.len) in
    let held : AreTold (HoldAt replay own.positions) c.deref_mut.result.now =
    subst (AreTold (HoldAt replay own.positions)) (sym c.deref_mut.ensures.value)
    (tells_line own.positions P c.args.start.now (codes_in c.args.plies.now) replay sight by
    told.items c.in_ok-told.ensures) in
    let fitting : AreTold (FitsAt replay own) moved = λ k.
    let kept = subst (λ (a : Conditions). IsTold moved k
    ↔ (IsTold c.deref_mut.result.now k × IsBeside replay k a.moves)) c.alternative.view_is
    (rw c.deref.ensures.value at
    (c.keep_moves.ensures c.if-not-keep_moves.false P replay sight by k)) in
    let said = fits_beside replay k own beside in (
      λ t. let both = kept.0 t in said.1 ((held k).0 both.0, both.1),
      λ fits. let both = said.0 fits in kept.1 ((held k).1 both.0, both.1),
    ) in
    let spanned = c.keep_spans.ensures replay
    (subst (AreTold (FitsAt replay own)) (sym (c.deref_mut-2.ensures.value ∙ same_moved)) fitting)
    ply in
    let added = subst (λ ts. IsTrue (get_or c.add_told.new.met ply false)
    ↔ (IsTrue (get_or c.args.met.now ply false) ⊎ IsTrue (get_or ts ply false)))
    (c.deref-2.ensures.value ∙ same_new) (c.add_told.ensures ply within) in (
      λ t. elim (added.0 t) [ inl old ↦ inl old | inr is ↦ inr (spanned.0 is) ],
      λ either. elim either [
        | inl old ↦ added.1 (inl old)
        | inr about ↦ added.1 (inr (spanned.1 about))
      ],
    )
