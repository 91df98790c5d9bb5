-- Each promise of the call, from what was done.
use Rattle.std.proofs.Common.{◌≡◌, List, Option, None, subst, sym, refl}
use Rattle.std.specs.Prelude.{IfSome}
use Rattle.board_machine.specs.declared.events.Entry.{Entry}
use Rattle.gev_links.specs.Faults.{Rose}
use Rattle.gev_links.specs.Links.{Address}
use Rattle.gev_status.specs.declared.status.Status.{Status}
use Rattle.gev_status.specs.declared.status.Status.TheVariants.{LinkFault}
use Rattle.gev_top.specs.declared.errand.Errand.{Errand}
use Rattle.gev_top.specs.declared.errand.Errand.TheVariants.{Plain, Live, Record, Discover, Description, Simulate, Receive, Register}
use Rattle.gev_top.specs.Completeness.{NoneRose, CompletesErrand}
use Rattle.gev_top.specs.LiveWords.{IfPorts, IfCameras}
use Rattle.gev_program.specs.Runs.{RunsNothing}
use Rattle.gev_program.specs.Reception.{WritesSteady}
use Rattle.gev_program.specs.Doings.{Tales, Outside, Does}
use Rattle.gev_program.proofs.Completing.{plain_completes}

-- nothing is said of what wasn't kept
pub nothing_kept : (K : Type 0) (kept : Option K) (P : K → Type 0) → kept ≡ None → IfSome kept P
nothing_kept K kept P none = subst (λ (k : Option K). IfSome k P) (sym none) tt

-- what was done is done by what the words ask for
pub does_is : (L C K : Type 0) (by : Tales L C) (stands_at : Address → Address → Type 0) (o e : Outside L C) (seen : K → List Entry) (kept : Option K) (status : Status)
    (made asked : Errand) → Does by stands_at o e seen kept status made → made ≡ asked → Does by stands_at o e seen kept status asked
does_is L C K by stands_at o e seen kept status made asked does is =
    subst (λ (errand : Errand). Does by stands_at o e seen kept status errand) is does

pub unread_of : (L C K : Type 0) (by : Tales L C) (stands_at : Address → Address → Type 0) (o e : Outside L C) (seen : K → List Entry) (kept : Option K) (status : Status)
    (asked : Errand) → Does by stands_at o e seen kept status asked → IfPorts asked (λ n. (e.left ≡ o.left) × (e.reads ≡ o.reads))
unread_of L C K by stands_at o e seen kept status (Plain command) does = tt
unread_of L C K by stands_at o e seen kept status (Live n) does = (does.unread.left, does.unread.reads)
unread_of L C K by stands_at o e seen kept status (Record n) does = (does.unread.left, does.unread.reads)
unread_of L C K by stands_at o e seen kept status (Discover address) does = tt
unread_of L C K by stands_at o e seen kept status (Description camera) does = tt
unread_of L C K by stands_at o e seen kept status (Simulate asked) does = tt
unread_of L C K by stands_at o e seen kept status (Receive asked) does = tt
unread_of L C K by stands_at o e seen kept status (Register asked) does = tt

pub none_of : (L C K : Type 0) (by : Tales L C) (stands_at : Address → Address → Type 0) (o e : Outside L C) (seen : K → List Entry) (kept : Option K) (status : Status)
    (asked : Errand) → Does by stands_at o e seen kept status asked → kept ≡ None
    → IfPorts asked (λ n. RunsNothing by.heard by.sent by.faults by.told status o.binds e.binds o.links e.links o.clocks e.clocks o.written e.written o.writes e.writes)
none_of L C K by stands_at o e seen kept status (Plain command) does none = tt
none_of L C K by stands_at o e seen kept status (Live n) does none = does.none none
none_of L C K by stands_at o e seen kept status (Record n) does none = does.none none
none_of L C K by stands_at o e seen kept status (Discover address) does none = tt
none_of L C K by stands_at o e seen kept status (Description camera) does none = tt
none_of L C K by stands_at o e seen kept status (Simulate asked) does none = tt
none_of L C K by stands_at o e seen kept status (Receive asked) does none = tt
none_of L C K by stands_at o e seen kept status (Register asked) does none = tt

pub cameras_of : (L C K : Type 0) (by : Tales L C) (stands_at : Address → Address → Type 0) (o e : Outside L C) (seen : K → List Entry) (kept : Option K) (status : Status)
    (asked : Errand) → Does by stands_at o e seen kept status asked → IfCameras asked ((e.left ≡ o.left) × (e.reads ≡ o.reads) × (kept ≡ None))
cameras_of L C K by stands_at o e seen kept status (Plain command) does = tt
cameras_of L C K by stands_at o e seen kept status (Live n) does = tt
cameras_of L C K by stands_at o e seen kept status (Record n) does = tt
cameras_of L C K by stands_at o e seen kept status (Discover address) does = (does.unread.left, does.unread.reads, does.unkept)
cameras_of L C K by stands_at o e seen kept status (Description camera) does = (does.unread.left, does.unread.reads, does.unkept)
cameras_of L C K by stands_at o e seen kept status (Simulate asked) does = tt
cameras_of L C K by stands_at o e seen kept status (Receive asked) does = tt
cameras_of L C K by stands_at o e seen kept status (Register asked) does = (does.unread.left, does.unread.reads, does.unkept)

pub writes_steady_of : (L C K : Type 0) (by : Tales L C) (stands_at : Address → Address → Type 0) (o e : Outside L C) (seen : K → List Entry) (kept : Option K) (status : Status)
    (asked : Errand) → Does by stands_at o e seen kept status asked → WritesSteady asked status o.writes e.writes
writes_steady_of L C K by stands_at o e seen kept status (Plain command) does = does.writes_steady
writes_steady_of L C K by stands_at o e seen kept status (Live n) does = does.writes_steady
writes_steady_of L C K by stands_at o e seen kept status (Record n) does = does.writes_steady
writes_steady_of L C K by stands_at o e seen kept status (Discover address) does = does.writes_steady
writes_steady_of L C K by stands_at o e seen kept status (Description camera) does = does.writes_steady
writes_steady_of L C K by stands_at o e seen kept status (Simulate asked) does = does.writes_steady
writes_steady_of L C K by stands_at o e seen kept status (Receive asked) does = does.writes_steady
writes_steady_of L C K by stands_at o e seen kept status (Register asked) does = does.writes_steady

-- where no count of faults rose
pub complete_of : (L C K : Type 0) (by : Tales L C) (stands_at : Address → Address → Type 0) (o e : Outside L C) (seen : K → List Entry) (kept : Option K) (status : Status)
    (asked : Errand) → Does by stands_at o e seen kept status asked → (status ≡ LinkFault → Rose o.failed e.failed)
    → NoneRose o.reads e.reads → NoneRose o.writes e.writes → NoneRose o.failed e.failed → CompletesErrand asked o.left status
complete_of L C K by stands_at o e seen kept status (Plain command) does link_fault none none_written none_failed =
    plain_completes command (Plain command) _ _ _ _ _ _ _ _ _ refl does.cause does.exact none none_written
complete_of L C K by stands_at o e seen kept status (Live n) does link_fault none none_written none_failed = does.complete none_written (λ is. none_failed (link_fault is))
complete_of L C K by stands_at o e seen kept status (Record n) does link_fault none none_written none_failed = does.complete none_written (λ is. none_failed (link_fault is))
complete_of L C K by stands_at o e seen kept status (Discover address) does link_fault none none_written none_failed = does.complete none_written none_failed
complete_of L C K by stands_at o e seen kept status (Description camera) does link_fault none none_written none_failed = does.complete none_written none_failed
complete_of L C K by stands_at o e seen kept status (Simulate asked) does link_fault none none_written none_failed = does.complete none_written none_failed
complete_of L C K by stands_at o e seen kept status (Receive asked) does link_fault none none_written none_failed = does.complete none_written none_failed
complete_of L C K by stands_at o e seen kept status (Register asked) does link_fault none none_written none_failed = does.complete none_written none_failed
