-- What the application's worker did, by its promise, in the whole history.
use Rattle.std.proofs.Common.{◌≡◌, ℕ, Bool, true, false, ◌==◌, List, [], ◌∷◌, ◌++◌, Option, Result, Ok, Err, refl}
use Rattle.gev_types.specs.declared.memory.NoMemory.{NoMemory}
use Rattle.board_machine.specs.declared.events.Entry.{Entry}
use Rattle.board_machine.specs.Places.{IsPrefix}
use Rattle.board_machine.specs.Histories.{Run, own_of}
use Rattle.board_machine.specs.Handout.{taken_items}
use Rattle.board_calls.specs.declared.mode.Mode.{Mode}
use Rattle.buffer_words.specs.Passes.{Token, own}
use Rattle.gev_apply.specs.History.{StopsAfter}
use Rattle.gev_apply.proofs.Whole.{part_stays}
use Rattle.live_crew.specs.Stops.{StopsIf}
use Rattle.gev_apply.specs.Work.{AppliesAndStops}
use Rattle.gev_live.specs.Acquirers.{handed_out, DropsNothing}
use Rattle.gev_live.specs.Parts.{LiveApplication}

pub stops_after : (over : Bool) (s t : Token) → StopsIf over s t → StopsAfter over s t
stops_after true s t stops = stops
stops_after false s t stops = stops

pub application_part : (mode : Mode) (frames : ℕ) (told now : Option (List ℕ)) (lines : List ℕ) (answer : Result ℕ NoMemory) (given back : Token) (h : List Entry) → AppliesAndStops frames told now [] lines answer given back
    → own given ≡ [] → Run h → IsPrefix back.seen h → own_of given.number h ≡ own back → handed_out h ≡ taken_items given.number h → DropsNothing mode given.number h
    → LiveApplication mode told now frames given.number lines answer h
application_part mode frames told now lines (Ok taken) given back h does new run front mine handed undropped = record {
  made = does.applies.made;
  takes = part_stays told now does.applies.made (taken == frames) given does.middle back h does.applies.looks (stops_after (taken == frames) does.middle back does.stops) new run front mine;
  handed = handed;
  undropped = undropped;
  tells = does.applies.looks.tells;
  told_lines = (does.applies.number, does.applies.few, does.applies.enough, does.applies.lines);
}
application_part mode frames told now lines (Err error) given back h does new run front mine handed undropped = record {
  made = does.applies.made ++ does.applies.last ∷ [];
  takes = part_stays told now (does.applies.made ++ does.applies.last ∷ []) true given does.middle back h does.applies.looks (stops_after true does.middle back does.stops) new run front mine;
  handed = handed;
  undropped = undropped;
  tells = does.applies.looks.tells;
  told_lines = (does.applies.made, does.applies.last, refl, does.applies.few, does.applies.lines);
}
