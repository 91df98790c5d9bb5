-- What each change and each execution keeps, of all that was done, is kept by every event but a frame.
use Rattle.std.proofs.Common.{Bool, true, false, List, [], ◌∷◌, ℕ, Option, Some, None}
use Rattle.std.specs.Prelude.{if◌then◌else◌}
use Rattle.gev_types.specs.declared.peer.Peer.{Peer}
use Rattle.bootstrap_regs.specs.Changes as changes
use Rattle.bootstrap_regs.specs.Changes.{Change}
use Rattle.camera_machine.specs.Camera.{Camera, is_open, has_lost}
use Rattle.camera_machine.specs.Stream.{next_frame}
use Rattle.camera_machine.specs.Commands.{Execution, commanded}
use Rattle.camera_machine.specs.Events.{Event, command, tick, make_frame, next_packet, set_short, Deed, changed, executed, made, with_execution, with_changes, with_look, past_with}

pub record GoesOn (D : List Deed → Type 0) : Type 0 where
  pub change : (c : Change) (ds : List Deed) → D ds → D (changed c ∷ ds)
  pub execution : (x : Execution) (ds : List Deed) → D ds → D (executed x ∷ ds)

pub on_changes : (D : List Deed → Type 0) → ((c : Change) (ds : List Deed) → D ds → D (changed c ∷ ds)) → (cs : List Change) (ds : List Deed) → D ds
    → D (with_changes cs ds)
on_changes D f [] ds h = h
on_changes D f (c ∷ cs) ds h = f c (with_changes cs ds) (on_changes D f cs ds h)

pub on_look : (D : List Deed → Type 0) → ((ds : List Deed) → D ds → D (changed changes.released ∷ ds)) → (s : Camera) (moment : ℕ) (ds : List Deed) → D ds
    → D (with_look s moment ds)
on_look D f s moment ds h = go (has_lost s moment)
  where
    go : (b : Bool) → D (if b then changed changes.released ∷ ds else ds)
    go true = f ds h
    go false = h

pub on_command : (D : List Deed → Type 0) → GoesOn D → (s : Camera) (peer : Peer) (bytes : List ℕ) (moment : ℕ) (ds : List Deed) → D ds
    → D (past_with s (command peer bytes moment) ds)
on_command D k s peer bytes moment ds h =
    go (commanded s peer bytes moment).execution _ (on_changes D k.change (commanded s peer bytes moment).changes (with_look s moment ds) (on_look D (k.change changes.released) s moment ds h))
  where
    go : (o : Option Execution) (xs : List Deed) → D xs → D (with_execution o xs)
    go None xs h = h
    go (Some x) xs h = k.execution x xs h

pub on_frame : (D : List Deed → Type 0) (s : Camera) (ds : List Deed) → D (made (next_frame s) ∷ ds) → D ds → D (past_with s make_frame ds)
on_frame D s ds f h = go (is_open s)
  where
    go : (b : Bool) → D (if b then made (next_frame s) ∷ ds else ds)
    go true = f
    go false = h

-- any event, where the next frame keeps it too
pub on_event : (D : List Deed → Type 0) → GoesOn D → (s : Camera) (e : Event) (ds : List Deed) → D (made (next_frame s) ∷ ds) → D ds → D (past_with s e ds)
on_event D k s (command peer bytes moment) ds f h = on_command D k s peer bytes moment ds h
on_event D k s (tick moment) ds f h = on_look D (k.change changes.released) s moment ds h
on_event D k s make_frame ds f h = on_frame D s ds f h
on_event D k s next_packet ds f h = h
on_event D k s (set_short short) ds f h = h
