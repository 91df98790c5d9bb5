-- The acts of the application's worker are of their kind.
use Rattle.std.proofs.Common.{◌≡◌, ℕ, Bool, true, List, [], ◌∷◌, Option, refl}
use Rattle.board_machine.specs.declared.events.Event.{Event}
use Rattle.board_machine.specs.declared.events.Event.TheVariants.{Stop}
use Rattle.buffer_words.specs.Passes.{Token}
use Rattle.buffer_words.specs.Workers.{AreEvents, Works}
use Rattle.buffer_words.proofs.Working.{works_each, works_then}
use Rattle.live_crew.specs.Stops.{StopsIf}
use Rattle.live_crew.proofs.Stopped.{stop_works}
use Rattle.gev_apply.specs.Kinds.{is_turns, is_applications}
use Rattle.gev_apply.specs.Looks.{Looked}
use Rattle.gev_apply.specs.Applied.{Looks}
use Rattle.gev_apply.proofs.OfKind.{turns_are}

turn_is : (event : Event) → is_turns event ≡ true → is_applications event ≡ true
turn_is (Stop kill answer) is = refl
turn_is _ is = is

turns_too : (events : List Event) → AreEvents is_turns events → AreEvents is_applications events
turns_too [] are = tt
turns_too (event ∷ events) are = (turn_is event are.0, turns_too events are.1)

looks_work : (told now : Option (List ℕ)) (made : List Looked) (s t : Token) → Looks told now made s t → Works is_applications s t
looks_work told now made s t looks = works_each is_applications s t looks.events (turns_too looks.events (turns_are made looks.events looks.looks)) looks.enters

pub frames_work : (told now : Option (List ℕ)) (made : List Looked) (s t u : Token) (over : Bool) → Looks told now made s t → StopsIf over t u → Works is_applications s u
frames_work told now made s t u over looks stops =
    works_then is_applications s t u (looks_work told now made s t looks) (stop_works is_applications over t u (λ answer. refl) stops)
