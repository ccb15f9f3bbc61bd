use Rattle.std.proofs.Common.{refl, sym, append-nil}
use Rattle.pgn_extract.proofs.StopNotes.{note_joined}
use Rattle.pgn_extract.proofs.explain.notes.push_stop_note.Goals as goal

pub returns : goal.returns
returns c = (
  _,
  record {
    place = c.locate_error-stop.result.place;
    within = c.locate_error-stop.result.within;
    stops = c.locate_error-stop.ensures.place;
    stands = c.locate_error-stop.ensures.within;
    says = refl;
  },
  note_joined _ _ _ _ _ _ _ _ _ _ _ c.in_ok-extend_from_slice.ensures.items
      c.in_ok-push_place.ensures c.in_ok-push_stopper.ensures c.in_ok-push_context.ensures
      c.in_ok-push.ensures.items (sym (append-nil _)),
)
