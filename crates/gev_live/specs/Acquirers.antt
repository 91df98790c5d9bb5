-- Who acquires in the history of a live run, and what was handed out in it and what dropped.
use Rattle.std.specs.Prelude.{◌≡◌, ⊤, ℕ, ◌==◌, Bool, true, false, ◌&&◌, ◌||◌, List, [], ◌∷◌}
use Rattle.board_machine.specs.declared.events.Entry.{Entry}
use Rattle.board_machine.specs.declared.events.Event.{Event}
use Rattle.board_machine.specs.declared.events.Event.TheVariants.{Claim}
use Rattle.board_machine.specs.Machine.{Item}
use Rattle.board_machine.specs.Handout.{handed_items, taken_items}
use Rattle.board_calls.specs.declared.mode.Mode.{Mode}
use Rattle.board_calls.specs.declared.mode.Mode.TheVariants.{OldestFirst, OldestFirstOverwrite, NewestOnly}
use Rattle.board_calls.specs.Dropped.{dropped_items, handed_out_items}

abbrev pub is_claim : Event → Bool
is_claim (Claim place) = true
is_claim _ = false

-- Actor k acquires: it has a claim in the history, whatever it was answered.
abbrev pub acquires : List Entry → ℕ → Bool
acquires [] k = false
acquires (e ∷ h) k = (is_claim e.event && (e.by == k)) || acquires h k

-- what was handed out: a take of an actor that doesn't acquire removed it from the output
abbrev pub handed_out : List Entry → List Item
handed_out h = handed_out_items (acquires h) h

-- what an actor that acquires took, to fill it anew or to make room: its image is never handed out
abbrev pub dropped : List Entry → List Item
dropped h = dropped_items (acquires h) h

-- Who takes and pools buffers by the mode: with OldestFirst the application alone.
abbrev pub takers : Mode → ℕ → List ℕ → List ℕ
takers OldestFirst application acquirers = application ∷ []
takers OldestFirstOverwrite application acquirers = application ∷ acquirers
takers NewestOnly application acquirers = application ∷ acquirers

-- With OldestFirst nothing is dropped: all that was taken actor k took.
abbrev pub DropsNothing : Mode → ℕ → List Entry → Type 0
DropsNothing OldestFirst k h = (handed_items h ≡ taken_items k h) × (dropped h ≡ [])
DropsNothing OldestFirstOverwrite k h = ⊤
DropsNothing NewestOnly k h = ⊤
