-- The last line tells as many cameras as were found.
use Rattle.std.proofs.Common.{ℕ, List, Option, Some}
use Rattle.camera_search.specs.CameraLine.{count_line}
use Rattle.camera_search.specs.declared.search_end.SearchEnd.{SearchEnd}
use Rattle.camera_search.specs.declared.search_end.SearchEnd.TheVariants.{Done, LinkFault, WriteFault, NoMemory}
use Rattle.camera_search.specs.Writing.{WroteText, WroteLast}
use Rattle.camera_search.proofs.searching.finish.Goals as goal

last_of : (end : SearchEnd) (text : List ℕ) (written written_after : Option (List ℕ)) → WroteText (Some end) text written written_after → WroteLast end text written written_after
last_of Done text written written_after wrote = absurd wrote
last_of LinkFault text written written_after wrote = wrote
last_of WriteFault text written written_after wrote = wrote
last_of NoMemory text written written_after wrote = wrote

pub returns-in-Some-clause-wrote : goal.returns-in-Some-clause-wrote
returns-in-Some-clause-wrote g c =
    last_of c.in-Some.end (count_line c.args.cameras) (g.K.Sink.written c.args.sink.now) (g.K.Sink.written c.tell_count.new.sink) c.in-Some.ensures.wrote

pub returns-in-None-clause-wrote : goal.returns-in-None-clause-wrote
returns-in-None-clause-wrote g c = c.in-None.ensures.wrote
