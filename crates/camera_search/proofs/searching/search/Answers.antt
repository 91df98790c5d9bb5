-- The search begins, each turn goes on or ends it, and it ends by its time.
use Rattle.std.proofs.Common.{ℕ, false, ◌++◌, [], ◌∷◌, refl, subst, sym, ◌∙◌}
use Rattle.camera_search.specs.CameraLine.{count_line}
use Rattle.camera_search.specs.Writing.{WroteLast}
use Rattle.camera_search.specs.Searched.{Searching, turned}
use Rattle.camera_search.proofs.Runs.{told_from, added_to, search_begins, search_goes_on, search_over, search_lacks, search_unsent, search_lost, search_deaf, search_untold}
use Rattle.camera_search.proofs.searching.search.Goals as goal

pub returns-in_default-clause-searches : goal.returns-in_default-clause-searches
returns-in_default-clause-searches g c =
    search_lacks c.args.to (g.L.Link.received c.args.link.now) (g.L.Link.sent c.args.link.now) (g.C.Clock.told c.args.clock.now)
    (g.C.Clock.told c.now-begun.new.self) (g.K.Sink.written c.args.sink.now) c.now-begun.result c.now-begun.ensures.told

pub returns-in_default-ask-clause-searches : goal.returns-in_default-ask-clause-searches
returns-in_default-ask-clause-searches g c =
    search_unsent c.args.to (g.L.Link.received c.args.link.now) (g.L.Link.received c.ask.new.link) (g.L.Link.sent c.args.link.now)
    (g.L.Link.sent c.ask.new.link) (g.C.Clock.told c.args.clock.now) (g.C.Clock.told c.now-begun.new.self) (g.K.Sink.written c.args.sink.now)
    c.now-begun.result c.ask.ensures.received c.now-begun.ensures.told c.in_default-ask.ensures.unsent

pub turns-init : goal.turns-init
turns-init g c = record {
  turns = [];
  so =
      subst (Searching c.args.to
      (record { heard = g.L.Link.received c.args.link.now; sent = g.L.Link.sent c.args.link.now; told = g.C.Clock.told c.args.clock.now; written = g.K.Sink.written c.args.sink.now })
      (record { heard = g.L.Link.received c.ask.new.link; sent = g.L.Link.sent c.ask.new.link; told = g.C.Clock.told c.now-begun.new.self; written = g.K.Sink.written c.args.sink.now })
      c.now-begun.result [] false) (sym c.in-Ok.ensures.items)
      (search_begins c.args.to (g.L.Link.received c.args.link.now) (g.L.Link.received c.ask.new.link) (g.L.Link.sent c.args.link.now)
      (g.L.Link.sent c.ask.new.link) (g.C.Clock.told c.args.clock.now) (g.C.Clock.told c.now-begun.new.self) (g.K.Sink.written c.args.sink.now)
      c.now-begun.result c.ask.ensures.received c.now-begun.ensures.told c.in-Ok-ask.ensures.sent);
  room = c.in-Ok.ensures.capacity;
  link_faults = c.in-Ok-ask.ensures.no_fault;
  sink_faults = refl;
}

pub returns-then-is_over-clause-searches : goal.returns-then-is_over-clause-searches
returns-then-is_over-clause-searches g c =
    search_over c.args.to
    (record { heard = g.L.Link.received c.args.link.now; sent = g.L.Link.sent c.args.link.now; told = g.C.Clock.told c.args.clock.now; written = g.K.Sink.written c.args.sink.now })
    (record { heard = g.L.Link.received c.turns.link; sent = g.L.Link.sent c.turns.link; told = g.C.Clock.told c.turns.clock; written = g.K.Sink.written c.turns.sink })
    (g.C.Clock.told c.now-moment.new.self) (g.K.Sink.written c.finish.new.sink) c.now-begun.result c.now-moment.result c.turns.invariant.turns c.turns.again
    c.turns.found.items c.finish.result c.turns.invariant.so (sym c.is_over.ensures ∙ c.if-is_over.true) c.now-moment.ensures.told
    (subst (λ (n : ℕ). WroteLast c.finish.result (count_line n) (g.K.Sink.written c.turns.sink) (g.K.Sink.written c.finish.new.sink)) (c.len.ensures ∙ c.turns.found.ok.0) c.finish.ensures.wrote)

pub returns-in_default-ask_again-clause-searches : goal.returns-in_default-ask_again-clause-searches
returns-in_default-ask_again-clause-searches g c =
    search_lost c.args.to
    (record { heard = g.L.Link.received c.args.link.now; sent = g.L.Link.sent c.args.link.now; told = g.C.Clock.told c.args.clock.now; written = g.K.Sink.written c.args.sink.now })
    (record { heard = g.L.Link.received c.turns.link; sent = g.L.Link.sent c.turns.link; told = g.C.Clock.told c.turns.clock; written = g.K.Sink.written c.turns.sink })
    (g.L.Link.received c.ask_again.new.link) (g.L.Link.sent c.ask_again.new.link) (g.C.Clock.told c.now-moment.new.self) c.now-begun.result c.now-moment.result
    c.turns.invariant.turns c.turns.again c.turns.found.items c.turns.invariant.so (sym c.is_over.ensures ∙ c.if-is_over.false) c.now-moment.ensures.told
    c.in_default-ask_again.ensures.was_due c.in_default-ask_again.ensures.first c.in_default-ask_again.ensures.unsent c.ask_again.ensures.received

pub returns-in_default-hear-clause-searches : goal.returns-in_default-hear-clause-searches
returns-in_default-hear-clause-searches g c =
    search_deaf c.args.to
    (record { heard = g.L.Link.received c.args.link.now; sent = g.L.Link.sent c.args.link.now; told = g.C.Clock.told c.args.clock.now; written = g.K.Sink.written c.args.sink.now })
    (record { heard = g.L.Link.received c.turns.link; sent = g.L.Link.sent c.turns.link; told = g.C.Clock.told c.turns.clock; written = g.K.Sink.written c.turns.sink })
    (g.L.Link.received c.hear.new.link) (g.L.Link.sent c.hear.new.link) (g.C.Clock.told c.now-moment.new.self) c.now-begun.result c.now-moment.result
    c.turns.invariant.turns c.turns.again c.turns.found.items c.turns.invariant.so (sym c.is_over.ensures ∙ c.if-is_over.false) c.now-moment.ensures.told
    (added_to _ _ _ _ c.hear.ensures.sent c.in-Ok-ask_again.ensures.sent) (told_from _ _ _ _ c.ask_again.ensures.received c.in_default-hear.ensures.lost)

pub returns-in-Some-note-clause-searches : goal.returns-in-Some-note-clause-searches
returns-in-Some-note-clause-searches g c =
    search_untold c.args.to
    (record { heard = g.L.Link.received c.args.link.now; sent = g.L.Link.sent c.args.link.now; told = g.C.Clock.told c.args.clock.now; written = g.K.Sink.written c.args.sink.now })
    (record { heard = g.L.Link.received c.turns.link; sent = g.L.Link.sent c.turns.link; told = g.C.Clock.told c.turns.clock; written = g.K.Sink.written c.turns.sink })
    (g.L.Link.received c.hear.new.link) (g.L.Link.sent c.hear.new.link) (g.C.Clock.told c.now-moment.new.self) (g.K.Sink.written c.note.new.sink) c.now-begun.result
    c.now-moment.result c.turns.invariant.turns c.turns.again c.turns.found.items c.in-Ok-hear.ensures.told.0 c.in-Ok-hear.told c.in-Some-note.end
    c.turns.invariant.so (sym c.is_over.ensures ∙ c.if-is_over.false) c.now-moment.ensures.told
    (added_to _ _ _ _ c.hear.ensures.sent c.in-Ok-ask_again.ensures.sent) (told_from _ _ _ _ c.ask_again.ensures.received c.in-Ok-hear.ensures.told.1)
    c.in-Ok-hear.ensures.told.2 c.in-Some-note.ensures.wrote

pub turns-preserved : goal.turns-preserved
turns-preserved g c = record {
  turns = c.turns.invariant.turns ++ turned c.now-moment.result c.in-Ok-hear.ensures.told.0 ∷ [];
  so =
      search_goes_on c.args.to
      (record { heard = g.L.Link.received c.args.link.now; sent = g.L.Link.sent c.args.link.now; told = g.C.Clock.told c.args.clock.now; written = g.K.Sink.written c.args.sink.now })
      (record { heard = g.L.Link.received c.turns.link; sent = g.L.Link.sent c.turns.link; told = g.C.Clock.told c.turns.clock; written = g.K.Sink.written c.turns.sink })
      (g.L.Link.received c.hear.new.link) (g.L.Link.sent c.hear.new.link) (g.C.Clock.told c.now-moment.new.self) (g.K.Sink.written c.note.new.sink) c.now-begun.result
      c.now-moment.result c.turns.invariant.turns c.turns.again c.ask_again.new.again c.turns.found.items c.note.new.found.items c.in-Ok-hear.ensures.told.0 c.in-Ok-hear.told
      c.turns.invariant.so (sym c.is_over.ensures ∙ c.if-is_over.false) c.now-moment.ensures.told
      (added_to _ _ _ _ c.hear.ensures.sent c.in-Ok-ask_again.ensures.sent) c.in-Ok-ask_again.ensures.again
      (told_from _ _ _ _ c.ask_again.ensures.received c.in-Ok-hear.ensures.told.1) c.in-Ok-hear.ensures.told.2 c.note.ensures.found c.in-None-note.ensures.wrote;
  room = c.note.ensures.room;
  link_faults = c.in-Ok-hear.ensures.no_fault ∙ (c.in-Ok-ask_again.ensures.no_fault ∙ c.turns.invariant.link_faults);
  sink_faults = c.in-None-note.ensures.steady (λ e. let bad : ⊥ = cc in bad) ∙ c.turns.invariant.sink_faults;
}
