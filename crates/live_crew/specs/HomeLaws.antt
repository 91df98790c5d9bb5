-- Workers that come home to another worker, and passes that are split off one after another.
use Rattle.std.specs.Prelude.{◌≡◌, ℕ, ◌≤◌, Bool, List, [], ◌∷◌}
use Rattle.board_machine.specs.declared.events.Entry.{Entry}
use Rattle.board_machine.specs.declared.events.Event.{Event}
use Rattle.board_machine.specs.declared.events.Event.TheVariants.{Split}
use Rattle.board_machine.specs.Places.{times, IsPrefix}
use Rattle.buffer_words.specs.Passes.{Token, Enters}
use Rattle.buffer_words.specs.Workers.{Worker, IsHome, Hosts}

-- A worker whose pass another worker joined is home once that one is, whose history the host's begins with.
abbrev pub WorkersBringHome : Type 0
WorkersBringHome =
    (front : List Entry) (kind : Event → Bool) (s : Token) (away : List ℕ) (home : List Worker) (seen : List Entry) (w : Worker)
    → Hosts front kind s away home → IsPrefix seen s.seen → IsHome seen w → Hosts front kind s away (w ∷ home)

-- Passes with these numbers were split off one after another.
abbrev pub SplitsEach : Token → List ℕ → Token → Type 0
SplitsEach s [] u = u ≡ s
SplitsEach s (n ∷ ns) u = (t : Token) × Enters s (Split n) t × SplitsEach t ns u

-- Each of these numbers is another.
abbrev pub SplitNumbersAreApart : Type 0
SplitNumbersAreApart = (s u : Token) (ns : List ℕ) (i : ℕ) → SplitsEach s ns u → times i ns ≤ 1
