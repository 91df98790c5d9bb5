-- The events of a run are a schedule of a world, and do what its rounds did.
use Rattle.std.proofs.Common.{◌≡◌, ◌⊎◌, inl, inr, arith, ℕ, zero, suc, List, [], ◌∷◌, ◌++◌, map, refl, sym, ap, ◌∙◌, subst, append_assoc, append-nil}
use Rattle.std.specs.List.{AllByRecursion, Contains}
use Rattle.std.proofs.lemmas.List.Elements.{Contains-append_left, Contains-append_right}
use Rattle.gev_types.specs.declared.peer.Peer.{Peer}
use Rattle.gev_types.specs.FrameSize.{IsImageSize}
use Rattle.gev_frames.specs.Frames.{shape_size}
use Rattle.gev_script.specs.Lines.{ScriptLine}
use Rattle.board_machine.specs.Machine.{Item}
use Rattle.world_machine.specs.Schedule.{Act, at_camera, Line, after, IsAllowed, IsSchedule}
use Rattle.camera_machine.specs.Events.{set_short}
use Rattle.world_machine.specs.State.{Host, Run, World, image_shape, STORE_ROOM}
use Rattle.world_machine.specs.ClientTurn.{client_peer}
use Rattle.world_machine.specs.Rounds.{world_after}
use Rattle.world_machine.specs.Acts.{with_round, acts_after}
use Rattle.world_machine.specs.HostActs.{HostAct, host_hears, host_ticks, host_takes, host_step, host_after, with_host_round, host_acts_after, given_in, IsGiven}
use Rattle.world_machine.specs.Laws.{start_line, AsksNoAccess}
use Rattle.world_machine.proofs.Fits.{none_in, head_in, tail_in, cons_in}
use Rattle.world_machine.proofs.Hosts.{host_is}
use Rattle.world_machine.proofs.WholeRounds.{rounds_are_acts, hears_given}
use Rattle.world_laws.specs.Receiver.{Receiver, waiting, takes_one}
use Rattle.world_laws.specs.Schedule.{WorldEvent, at_session, hears, passes, applies, session_acts, host_lines, IsApplied, IsWorld}
use Rattle.world_laws.specs.RunEvents.{Application, act_lines, lines_of_acts, with_lines, with_act, with_acts, events_after}
use Rattle.world_laws.specs.SoakApplication.{soak_takes}
use Rattle.world_laws.specs.RunLaws.{IsApplication, RunIsAWorld, SoakIsAnApplication, RunImagesAreTrue}
use Rattle.world_laws.specs.Images.{HearsFrames}
use Rattle.world_laws.proofs.Images.{heard_images, images_generated}
use Rattle.world_laws.proofs.Fronts.{round_front, host_round_front}

-- ---- what events leave of the session

lines_leave : (ls : List ScriptLine) (es : List WorldEvent) → session_acts (with_lines ls es) ≡ session_acts es
lines_leave [] es = refl
lines_leave (l ∷ ls) es = lines_leave ls (applies l ∷ es)

act_leaves : {A : Type 0} (app : Application A) (a : A) (e : HostAct) (es : List WorldEvent) → session_acts (with_act app a e es) ≡ session_acts es
act_leaves app a (host_hears bytes) es = refl
act_leaves app a (host_ticks moment) es = refl
act_leaves app a host_takes es = lines_leave (app.takes a) es

acts_leave : {A : Type 0} (host : Host A) (app : Application A) (a : A) (hs : List HostAct) (es : List WorldEvent)
    → session_acts (with_acts host app a hs es) ≡ session_acts es
acts_leave host app a [] es = refl
acts_leave host app a (e ∷ hs) es = act_leaves app (host_after host a hs) e (with_acts host app a hs es) ∙ acts_leave host app a hs es

session_front : (acts : List Act) (es : List WorldEvent) → session_acts (map at_session acts ++ es) ≡ acts ++ session_acts es
session_front [] es = refl
session_front (a ∷ acts) es = ap (λ l. a ∷ l) (session_front acts es)

-- ---- the lines of events

lines_add : (ls : List ScriptLine) (es : List WorldEvent) → host_lines (with_lines ls es) ≡ host_lines es ++ ls
lines_add [] es = sym (append-nil (host_lines es))
lines_add (l ∷ ls) es = lines_add ls (applies l ∷ es) ∙ append_assoc (host_lines es) (l ∷ []) ls

act_adds : {A : Type 0} (app : Application A) (a : A) (e : HostAct) (es : List WorldEvent)
    → host_lines (with_act app a e es) ≡ host_lines es ++ act_lines app a e
act_adds app a (host_hears bytes) es = refl
act_adds app a (host_ticks moment) es = refl
act_adds app a host_takes es = lines_add (app.takes a) es

acts_add : {A : Type 0} (host : Host A) (app : Application A) (a : A) (hs : List HostAct) (es : List WorldEvent)
    → host_lines (with_acts host app a hs es) ≡ host_lines es ++ lines_of_acts host app a hs
acts_add host app a [] es = sym (append-nil (host_lines es))
acts_add host app a (e ∷ hs) es =
    act_adds app (host_after host a hs) e (with_acts host app a hs es)
    ∙ (ap (λ l. l ++ act_lines app (host_after host a hs) e) (acts_add host app a hs es)
    ∙ append_assoc (host_lines es) (lines_of_acts host app a hs) (act_lines app (host_after host a hs) e))

session_adds : (acts : List Act) (es : List WorldEvent) → host_lines (map at_session acts ++ es) ≡ host_lines es
session_adds [] es = refl
session_adds (a ∷ acts) es = append-nil (host_lines (map at_session acts ++ es)) ∙ session_adds acts es

-- ---- acts of a host in two parts

after_both : {A : Type 0} (host : Host A) (a : A) (hs earlier : List HostAct) → host_after host a (hs ++ earlier) ≡ host_after host (host_after host a earlier) hs
after_both host a [] earlier = refl
after_both {A} host a (e ∷ hs) earlier = ap (λ (b : A). host_step host b e) (after_both host a hs earlier)

lines_both : {A : Type 0} (host : Host A) (app : Application A) (a : A) (hs earlier : List HostAct)
    → lines_of_acts host app a (hs ++ earlier) ≡ lines_of_acts host app a earlier ++ lines_of_acts host app (host_after host a earlier) hs
lines_both host app a [] earlier = sym (append-nil (lines_of_acts host app a earlier))
lines_both {A} host app a (e ∷ hs) earlier =
    let b : A = host_after host a earlier in
    ap (λ (x : A). lines_of_acts host app a (hs ++ earlier) ++ act_lines app x e) (after_both host a hs earlier)
    ∙ (ap (λ l. l ++ act_lines app (host_after host b hs) e) (lines_both host app a hs earlier)
    ∙ append_assoc (lines_of_acts host app a earlier) (lines_of_acts host app b hs) (act_lines app (host_after host b hs) e))

-- ---- schedules

world_lines : (peer : Peer) (start : Line) (ls : List ScriptLine) (es : List WorldEvent) → AllByRecursion IsApplied ls → IsWorld peer start es
    → IsWorld peer start (with_lines ls es)
world_lines peer start [] es are w = w
world_lines peer start (l ∷ ls) es are w = world_lines peer start ls (applies l ∷ es) are.1 (are.0, w)

world_act : {A : Type 0} (peer : Peer) (start : Line) (app : Application A) (a : A) (e : HostAct) (es : List WorldEvent) → IsApplication app
    → ((bytes : List ℕ) → e ≡ host_hears bytes → IsGiven (given_in start (session_acts es)) bytes) → IsWorld peer start es
    → IsWorld peer start (with_act app a e es)
world_act peer start app a (host_hears bytes) es is given w = (given bytes refl, w)
world_act peer start app a (host_ticks moment) es is given w = (tt, w)
world_act peer start app a host_takes es is given w = world_lines peer start (app.takes a) es (is.takes a) w

-- each datagram that is heard was given by now
abbrev AreGiven : Line → List Act → List HostAct → Type 0
AreGiven start acts hs = (bytes : List ℕ) → Contains hs (host_hears bytes) → IsGiven (given_in start acts) bytes

world_acts : {A : Type 0} (peer : Peer) (start : Line) (host : Host A) (app : Application A) (a : A) (hs : List HostAct) (es : List WorldEvent)
    → IsApplication app → AreGiven start (session_acts es) hs → IsWorld peer start es → IsWorld peer start (with_acts host app a hs es)
world_acts peer start host app a [] es is given w = w
world_acts peer start host app a (e ∷ hs) es is given w =
    let before : List WorldEvent = with_acts host app a hs es in
    world_act peer start app (host_after host a hs) e before is
    (λ bytes same. subst (λ (acts : List Act). IsGiven (given_in start acts) bytes) (sym (acts_leave host app a hs es))
    (given bytes (subst (λ (x : HostAct). Contains (e ∷ hs) x) same (head_in e hs))))
    (world_acts peer start host app a hs es is (λ bytes among. given bytes (tail_in e (host_hears bytes) hs among)) w)

world_session : (peer : Peer) (start : Line) (acts : List Act) (es : List WorldEvent) → IsSchedule peer start (acts ++ session_acts es) → IsWorld peer start es
    → IsWorld peer start (map at_session acts ++ es)
world_session peer start [] es s w = w
world_session peer start (a ∷ acts) es s w = (
  subst (λ (before : List Act). IsAllowed peer (after start before) a) (sym (session_front acts es)) s.0,
  world_session peer start acts es s.1 w,
)

-- ---- runs

-- a round's events do to the client and the camera what the round did
round_acts : {A : Type 0} (run : Run) (host : Host A) (w : World A) (es : List WorldEvent) (before : List Act) → session_acts es ≡ before
    → session_acts (map at_session (with_round run host w []) ++ es) ≡ with_round run host w before
round_acts run host w es before is =
    session_front (with_round run host w []) es ∙ (ap (λ l. with_round run host w [] ++ l) is ∙ sym (round_front run host w before))

pub run_acts : {A : Type 0} (run : Run) (host : Host A) (app : Application A) (start : A) (n : ℕ)
    → session_acts (events_after run host app start n) ≡ acts_after run host start n
run_acts run host app start zero = lines_leave app.opens (at_session (at_camera (set_short run.short)) ∷ [])
run_acts {A} run host app start (suc n) =
    let w : World A = world_after run host start n in
    let es : List WorldEvent = events_after run host app start n in
    acts_leave host app w.host (with_host_round run host w []) (map at_session (with_round run host w []) ++ es)
    ∙ round_acts run host w es (acts_after run host start n) (run_acts run host app start n)

run_lines : {A : Type 0} (run : Run) (host : Host A) (app : Application A) (start : A) (n : ℕ)
    → host_lines (events_after run host app start n) ≡ app.opens ++ lines_of_acts host app start (host_acts_after run host start n)
run_lines run host app start zero = lines_add app.opens (at_session (at_camera (set_short run.short)) ∷ []) ∙ sym (append-nil app.opens)
run_lines {A} run host app start (suc n) =
    let w : World A = world_after run host start n in
    let es : List WorldEvent = events_after run host app start n in
    let acts : List Act = with_round run host w [] in
    let hs : List HostAct = with_host_round run host w [] in
    let earlier : List HostAct = host_acts_after run host start n in
    let here : List ScriptLine = lines_of_acts host app w.host hs in
    let whole : lines_of_acts host app start (host_acts_after run host start (suc n)) ≡ lines_of_acts host app start earlier ++ here
    = ap (lines_of_acts host app start) (host_round_front run host w earlier)
    ∙ (lines_both host app start hs earlier ∙ ap (λ (x : A). lines_of_acts host app start earlier ++ lines_of_acts host app x hs) (host_is run host start n)) in
    acts_add host app w.host hs (map at_session acts ++ es)
    ∙ (ap (λ l. l ++ here) (session_adds acts es ∙ run_lines run host app start n)
    ∙ (append_assoc app.opens (lines_of_acts host app start earlier) here ∙ ap (λ l. app.opens ++ l) (sym whole)))

-- what this round heard is among all that was heard
new_among : {A : Type 0} (run : Run) (host : Host A) (start : A) (n : ℕ) (bytes : List ℕ)
    → Contains (with_host_round run host (world_after run host start n) []) (host_hears bytes) → Contains (host_acts_after run host start (suc n)) (host_hears bytes)
new_among run host start n bytes among =
    let earlier : List HostAct = host_acts_after run host start n in
    subst (λ (l : List HostAct). Contains l (host_hears bytes)) (sym (host_round_front run host (world_after run host start n) earlier))
    (Contains-append_left (with_host_round run host (world_after run host start n) []) earlier (host_hears bytes) among)

pub run_world : {A : Type 0} (run : Run) (host : Host A) (app : Application A) (start : A) (n : ℕ) → IsApplication app → AsksNoAccess host
    → IsWorld client_peer (start_line run) (events_after run host app start n)
run_world run host app start zero is none =
    world_lines client_peer (start_line run) app.opens (at_session (at_camera (set_short run.short)) ∷ []) is.opens (tt, tt)
run_world {A} run host app start (suc n) is none =
    let w : World A = world_after run host start n in
    let es : List WorldEvent = events_after run host app start n in
    let acts : List Act = with_round run host w [] in
    let hs : List HostAct = with_host_round run host w [] in
    let same : session_acts (map at_session acts ++ es) ≡ acts_after run host start (suc n)
    = round_acts run host w es (acts_after run host start n) (run_acts run host app start n) in
    let schedule : IsSchedule client_peer (start_line run) (acts ++ session_acts es)
    = subst (IsSchedule client_peer (start_line run)) (sym same ∙ session_front acts es) (rounds_are_acts run host start (suc n) none).schedule in
    let given : AreGiven (start_line run) (session_acts (map at_session acts ++ es)) hs
    = λ bytes among. subst (λ (l : List Act). IsGiven (given_in (start_line run) l) bytes) (sym same)
    ((hears_given run host start (suc n) none).given bytes (new_among run host start n bytes among)) in
    world_acts client_peer (start_line run) host app w.host hs (map at_session acts ++ es) is given
    (world_session client_peer (start_line run) acts es schedule (run_world run host app start n is none))

pub run_is_world : {A : Type 0} (run : Run) (host : Host A) (app : Application A) (start : A) (n : ℕ) → RunIsAWorld run host app start n
run_is_world run host app start n is = record {
  acts = run_acts run host app start n;
  lines = run_lines run host app start n;
  world = run_world run host app start n is;
}

-- ---- what is heard

heard_before_lines : (ls : List ScriptLine) (es : List WorldEvent) (bytes : List ℕ) → Contains (with_lines ls es) (hears bytes) → Contains es (hears bytes)
heard_before_lines [] es bytes among = among
heard_before_lines (l ∷ ls) es bytes among = go (heard_before_lines ls (applies l ∷ es) bytes among)
  where
    go : Contains (applies l ∷ es) (hears bytes) → Contains es (hears bytes)
    go h = elim (cons_in (applies l) (hears bytes) es h.0 h.1 h.2) as (λ _. Contains es (hears bytes)) [ inl same ↦ absurd cc | inr earlier ↦ earlier ]

heard_in_act : {A : Type 0} (app : Application A) (a : A) (e : HostAct) (es : List WorldEvent) (bytes : List ℕ) → Contains (with_act app a e es) (hears bytes)
    → (e ≡ host_hears bytes) ⊎ Contains es (hears bytes)
heard_in_act app a (host_hears other) es bytes among = go (cons_in (hears other) (hears bytes) es among.0 among.1 among.2)
  where
    go : (hears other ≡ hears bytes) ⊎ Contains es (hears bytes) → (host_hears other ≡ host_hears bytes) ⊎ Contains es (hears bytes)
    go (inl same) = let equal : other ≡ bytes = cc in inl (ap host_hears equal)
    go (inr earlier) = inr earlier
heard_in_act app a (host_ticks moment) es bytes among = go (cons_in (passes moment) (hears bytes) es among.0 among.1 among.2)
  where
    go : (passes moment ≡ hears bytes) ⊎ Contains es (hears bytes) → (host_ticks moment ≡ host_hears bytes) ⊎ Contains es (hears bytes)
    go (inl same) = absurd cc
    go (inr earlier) = inr earlier
heard_in_act app a host_takes es bytes among = inr (heard_before_lines (app.takes a) es bytes among)

heard_in_acts : {A : Type 0} (host : Host A) (app : Application A) (a : A) (hs : List HostAct) (es : List WorldEvent) (bytes : List ℕ)
    → Contains (with_acts host app a hs es) (hears bytes) → Contains hs (host_hears bytes) ⊎ Contains es (hears bytes)
heard_in_acts host app a [] es bytes among = inr among
heard_in_acts host app a (e ∷ hs) es bytes among =
    go (heard_in_act app (host_after host a hs) e (with_acts host app a hs es) bytes among) (λ earlier. heard_in_acts host app a hs es bytes earlier)
  where
    later : Contains hs (host_hears bytes) ⊎ Contains es (hears bytes) → Contains (e ∷ hs) (host_hears bytes) ⊎ Contains es (hears bytes)
    later (inl there) = inl (tail_in e (host_hears bytes) hs there)
    later (inr before) = inr before

    go : (e ≡ host_hears bytes) ⊎ Contains (with_acts host app a hs es) (hears bytes)
        → (Contains (with_acts host app a hs es) (hears bytes) → Contains hs (host_hears bytes) ⊎ Contains es (hears bytes))
        → Contains (e ∷ hs) (host_hears bytes) ⊎ Contains es (hears bytes)
    go (inl same) rest = inl (subst (λ (x : HostAct). Contains (e ∷ hs) x) same (head_in e hs))
    go (inr earlier) rest = later (rest earlier)

heard_before_session : (acts : List Act) (es : List WorldEvent) (bytes : List ℕ) → Contains (map at_session acts ++ es) (hears bytes) → Contains es (hears bytes)
heard_before_session [] es bytes among = among
heard_before_session (a ∷ acts) es bytes among =
    go (cons_in (at_session a) (hears bytes) (map at_session acts ++ es) among.0 among.1 among.2) (λ earlier. heard_before_session acts es bytes earlier)
  where
    go : (at_session a ≡ hears bytes) ⊎ Contains (map at_session acts ++ es) (hears bytes)
        → (Contains (map at_session acts ++ es) (hears bytes) → Contains es (hears bytes)) → Contains es (hears bytes)
    go (inl same) rest = absurd cc
    go (inr earlier) rest = rest earlier

-- what the events of a run hear was heard in one of its rounds
run_hears : {A : Type 0} (run : Run) (host : Host A) (app : Application A) (start : A) (n : ℕ) (bytes : List ℕ)
    → Contains (events_after run host app start n) (hears bytes) → Contains (host_acts_after run host start n) (host_hears bytes)
run_hears run host app start zero bytes among =
    let first : WorldEvent = at_session (at_camera (set_short run.short)) in
    absurd (none_in (hears bytes) (heard_before_session (at_camera (set_short run.short) ∷ []) [] bytes (heard_before_lines app.opens (first ∷ []) bytes among)))
run_hears {A} run host app start (suc n) bytes among =
    go (heard_in_acts host app w.host hs (map at_session (with_round run host w []) ++ es) bytes among) (λ earlier. run_hears run host app start n bytes earlier)
  where
    w : World A
    w = world_after run host start n

    es : List WorldEvent
    es = events_after run host app start n

    hs : List HostAct
    hs = with_host_round run host w []

    earlier : List HostAct
    earlier = host_acts_after run host start n

    go : Contains hs (host_hears bytes) ⊎ Contains (map at_session (with_round run host w []) ++ es) (hears bytes)
        → (Contains es (hears bytes) → Contains earlier (host_hears bytes)) → Contains (host_acts_after run host start (suc n)) (host_hears bytes)
    go (inl here) rest = new_among run host start n bytes here
    go (inr before) rest =
        subst (λ (l : List HostAct). Contains l (host_hears bytes)) (sym (host_round_front run host w earlier))
        (Contains-append_right hs earlier (host_hears bytes) (rest (heard_before_session (with_round run host w []) es bytes before)))

pub run_images : {A : Type 0} (run : Run) (host : Host A) (app : Application A) (start : A) (n : ℕ) → RunImagesAreTrue run host app start n
run_images run host app start n frames c t is none hear trace =
    let es : List WorldEvent = events_after run host app start n in
    let size : IsImageSize (shape_size image_shape) = (omega arith, omega arith) in
    let heard : HearsFrames frames c.p es
    = record {
      are_frames = hear.generated.valid size (λ short. omega arith);
      payload_size = hear.payload_size;
      heard = λ bytes among. hear.heard bytes (run_hears run host app start n bytes among);
    } in
    images_generated run.short run.seed image_shape frames c t hear.generated
    (heard_images run.seed image_shape STORE_ROOM client_peer es frames c t (run_world run host app start n is none) heard trace)

-- ---- the application of a soak run

takes_applied : (xs : List Item) (r : Receiver) → AllByRecursion IsApplied (soak_takes xs r)
takes_applied [] r = (tt, tt)
takes_applied (x ∷ xs) r = (tt, (tt, takes_applied xs (takes_one x r)))

pub soak_applies : SoakIsAnApplication
soak_applies = record {
  opens = (tt, (tt, (tt, (tt, (tt, (tt, (tt, (tt, (tt, tt)))))))));
  takes = λ r. takes_applied (waiting r.board) r;
}
