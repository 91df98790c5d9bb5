-- The acts of the camera's worker are of their kind.
use Rattle.std.proofs.Common.{inl, inr, ℕ, Bool, List, [], ◌∷◌, Option, refl}
use Rattle.board_machine.specs.declared.events.Event.TheVariants.{LookRun}
use Rattle.buffer_words.specs.Passes.{Token}
use Rattle.buffer_words.specs.Workers.{AreEvents, Works}
use Rattle.buffer_words.proofs.Working.{works_enters, works_each, works_then}
use Rattle.camera_machine.specs.Camera.{Camera}
use Rattle.live_crew.specs.Stops.{StopsIf}
use Rattle.live_crew.proofs.Stopped.{stop_works}
use Rattle.gev_serve.specs.declared.ends.ServeEnd.{ServeEnd}
use Rattle.gev_serve.specs.declared.ends.ServeEnd.TheVariants.{Stopped, Fault, NoMemory, Spent}
use Rattle.gev_serve.specs.Wires.{Wire}
use Rattle.gev_serve.specs.Turns.{Served, looks_in}
use Rattle.gev_serve.specs.Serving.{ServesOn, Begins, ServesTo}
use Rattle.gev_serve.specs.Kinds.{is_cameras}

looks_are : (made : List Served) → AreEvents is_cameras (looks_in made)
looks_are [] = tt
looks_are (t ∷ made) = (refl, looks_are made)

on_works : (s now : Camera) (v w : Wire) (told now_told : Option (List ℕ)) (p q : Token) (n : ℕ) → ServesOn s now v w told now_told p q n → Works is_cameras p q
on_works s now v w told now_told p q n on = works_each is_cameras p q (looks_in on.made) (looks_are on.made) on.on.entries

begins_works : (s now : Camera) (v w : Wire) (told now_told : Option (List ℕ)) (p q : Token) (most : ℕ) → Begins s now v w told now_told p q most → Works is_cameras p q
begins_works s now v w told now_told p q most b =
    works_then is_cameras p b.middle q (on_works s now v w told now_told p b.middle b.n b.on) (works_enters is_cameras b.middle q (LookRun 1) refl b.look)

pub serves_works : (end : ServeEnd) (s new : Camera) (v w : Wire) (told now_told : Option (List ℕ)) (p q : Token) (most : ℕ) → ServesTo end s new v w told now_told p q most → Works is_cameras p q
serves_works Stopped s new v w told now_told p q most serves =
    works_then is_cameras p serves.middle q (on_works s new v w told now_told p serves.middle serves.n serves.on)
    (works_enters is_cameras serves.middle q (LookRun serves.run) refl serves.look)
serves_works Spent s new v w told now_told p q most serves = on_works s new v w told now_told p q most serves
serves_works NoMemory s new v w told now_told p q most serves = begins_works s serves.camera v serves.between told serves.mid_told p q most serves.begins
serves_works Fault s new v w told now_told p q most (inl misses) = begins_works s misses.camera v misses.between told misses.mid_told p q most misses.begins
serves_works Fault s new v w told now_told p q most (inr cut) = begins_works s cut.camera v cut.between told cut.mid_told p q most cut.begins

pub camera_works : (end : ServeEnd) (s new : Camera) (v w : Wire) (told now_told : Option (List ℕ)) (p q u : Token) (most : ℕ) (over : Bool) → ServesTo end s new v w told now_told p q most → StopsIf over q u
    → Works is_cameras p u
camera_works end s new v w told now_told p q u most over serves stops =
    works_then is_cameras p q u (serves_works end s new v w told now_told p q most serves) (stop_works is_cameras over q u (λ answer. refl) stops)
