-- The receiver's requests are put into the camera's queue.
use Rattle.std.proofs.Common.{◌≡◌, ℕ, ◌-◌, ◌≤◌, List, [], ◌∷◌, ◌++◌, length, take, drop, get_or, refl, sym, ap, subst, ◌∙◌, append_assoc, arith}
use Rattle.gev_script.specs.Lines as line
use Rattle.gev_script.specs.Lines.{ScriptLine}
use Rattle.world_laws.specs.Receiver.{Receiver, soak_host, start}
use Rattle.soak_receiver.specs.Standing.{Hosting, HostStands}
use Rattle.camera_machine.specs.Camera.{Camera}
use Rattle.world_machine.specs.State.{Run, World}
use Rattle.world_machine.specs.ClientTurn.{SETUP_SIZE}
use Rattle.world_machine.specs.Queues.{to_camera, all_to_camera}
use Rattle.world_machine.specs.HostTurn.{asks}
use Rattle.world_machine.specs.HostActs.{HostAct, host_ticks}
use Rattle.world_laws.specs.RunEvents.{lines_of_acts}
use Rattle.world_laws.specs.SoakApplication.{soak_opens, soak_application}
use Rattle.gev_world.specs.declared.stage.Stage.{Stage}
use Rattle.gev_world.specs.Seen.{run_of, world_of, Does, IsBetween}
use Rattle.gev_world.specs.Turns.{Putting}
use Rattle.gev_world.specs.Hosts.{Stands, Asks, lines_by}

-- the same camera, and the same counts
record SameOthers (v w : World Receiver) : Type 0 where
  camera : w.camera ≡ v.camera
  begun : w.begun ≡ v.begun
  made : w.made ≡ v.made

pub putting_on : (s now new : Stage) (all rest : List (List ℕ)) (bytes : List ℕ) (more : List (List ℕ)) → rest ≡ bytes ∷ more → Putting s now all rest
    → Does now (λ run w. to_camera run w bytes) new → Putting s new all more
putting_on s now new all rest bytes more is far one = record {
  run = one.run ∙ far.run;
  world = λ host.
      ap (λ (r : Run). all_to_camera r (world_of new host) more) one.run ∙ ap (λ (w : World Receiver). all_to_camera (run_of now) w more) (one.world host)
      ∙ ap (λ bs. all_to_camera (run_of now) (world_of now host) bs) (sym is) ∙ far.world host;
}

pub put_all : (s now : Stage) (all rest : List (List ℕ)) → rest ≡ [] → Putting s now all rest → Does s (λ run w. all_to_camera run w all) now
put_all s now all rest is far =
    record { run = far.run; world = λ host. ap (λ bs. all_to_camera (run_of now) (world_of now host) bs) (sym is) ∙ far.world host }

-- commands on their way change nothing else
sent_same : (run : Run) (w : World Receiver) (all : List (List ℕ)) → SameOthers w (all_to_camera run w all)
sent_same run w [] = record { camera = refl; begun = refl; made = refl }
sent_same run w (bytes ∷ all) =
    let k = sent_same run (to_camera run w bytes) all in record { camera = k.camera; begun = k.begun; made = k.made }

asked_between : (s t : Stage) (requests : List (List ℕ)) → Does s (λ run w. all_to_camera run w requests) t → IsBetween s → IsBetween t
asked_between s t requests d b =
    let k = sent_same (run_of s) (world_of s start) requests in
    let same = d.world start in
    record {
      begun = subst (λ (n : ℕ). n ≤ SETUP_SIZE) (sym (ap (λ (w : World Receiver). w.begun) same ∙ k.begun)) b.begun;
      idle = ap (λ (w : World Receiver). w.camera.waiting) same ∙ ap (λ (c : Camera). c.waiting) k.camera ∙ b.idle;
      counted = subst (λ (w : World Receiver). w.camera.shelf.count ≤ w.made) (sym same)
          (subst (λ (n : ℕ). (all_to_camera (run_of s) (world_of s start) requests).camera.shelf.count ≤ n) (sym k.made)
          (subst (λ (c : Camera). c.shelf.count ≤ s.made) (sym k.camera) b.counted));
    }

-- one more act of the host
pub lines_then : (acts : List HostAct) (ls : List ScriptLine) → (soak_opens ++ lines_of_acts soak_host soak_application start acts) ++ ls
    ≡ soak_opens ++ (lines_of_acts soak_host soak_application start acts ++ ls)
lines_then acts ls = append_assoc soak_opens (lines_of_acts soak_host soak_application start acts) ls

pub asked : (s t : Stage) (h i : Hosting) (requests : List (List ℕ))
    → ((lines : List ScriptLine) (r : Receiver) → HostStands h lines r → HostStands i (lines ++ line.tick s.moment ∷ []) (soak_host.ticks r s.moment))
    → ((lines : List ScriptLine) (r : Receiver) → HostStands h lines r → requests ≡ soak_host.requests r s.moment)
    → Does s (λ run w. all_to_camera run w requests) t → Asks s h t i
asked s t h i requests ticks are d = record {
  run = d.run;
  between = λ b. asked_between s t requests d b;
  stands = λ acts w stands. go acts w stands;
}
  where
    go : (acts : List HostAct) (w : World Receiver) → Stands s h acts w → Stands t i (host_ticks w.moment ∷ acts) (asks (run_of s) soak_host w)
    go acts w stands =
        let after : Receiver = soak_host.ticks w.host s.moment in
        let there : Stands t i (host_ticks s.moment ∷ acts) (world_of t after) = record {
          hosts = record {
            is = ap (λ (a : Receiver). soak_host.ticks a s.moment) stands.hosts.is;
            stands = subst (λ (ls : List ScriptLine). HostStands i ls after) (lines_then acts (line.tick s.moment ∷ [])) (ticks (lines_by acts) w.host stands.hosts.stands);
          };
          is = refl;
        } in
        let world : world_of t after ≡ asks (run_of s) soak_host (world_of s w.host) =
        d.world after ∙ ap (λ rs. all_to_camera (run_of s) (world_of s after) rs) (are (lines_by acts) w.host stands.hosts.stands) in
        subst (λ (v : World Receiver). Stands t i (host_ticks v.moment ∷ acts) (asks (run_of s) soak_host v)) (sym stands.is)
        (subst (λ (v : World Receiver). Stands t i (host_ticks s.moment ∷ acts) v) world there)

-- the requests, added to an empty list
pub told_all : (all cleared given : List (List ℕ)) → all ≡ cleared ++ given → cleared ≡ [] → all ≡ given
told_all all cleared given is none = is ∙ ap (λ bs. bs ++ given) none

all_of : (xs : List (List ℕ)) → take (length xs) xs ≡ xs
all_of [] = refl
all_of (x ∷ xs) = ap (λ (ys : List (List ℕ)). x ∷ ys) (all_of xs)

-- the first command, and the others
pub head_and_rest : (xs : List (List ℕ)) → 1 ≤ length xs → xs ≡ get_or xs 0 [] ∷ take (length xs - 1) (drop 1 xs)
head_and_rest [] some = absurd (omega (arith, some))
head_and_rest (x ∷ xs) some =
    let one : length (x ∷ xs) - 1 ≡ length xs = omega arith in
    ap (λ (ys : List (List ℕ)). x ∷ ys) (sym (all_of xs) ∙ ap (λ (n : ℕ). take n xs) (sym one))
