-- What was done fits a client, a camera and what is on its way between them.
use Rattle.std.proofs.Common.{◌≡◌, ◌⊎◌, ℕ, zero, suc, ◌+◌, ◌<◌, ◌≤◌, List, [], ◌∷◌, length, get_or, Option, Some, None, refl, sym, ap, ◌∙◌, subst, inl, inr, arith, length-append}
use Rattle.std.specs.Prelude.{option_map}
use Rattle.std.specs.List.{Contains, AllByRecursion}
use Rattle.std.proofs.lemmas.List.Elements.{Contains-append_left, Contains-push}
use Rattle.stream_packets.specs.Packets.{StreamPacket}
use Rattle.gvsp_wire.specs.Plain.{plain}
use Rattle.gvcp_wire.specs.Reading.{command_reading}
use Rattle.lossy_queue.specs.declared.datagram.Channel.{Channel}
use Rattle.lossy_queue.specs.declared.datagram.Channel.TheVariants.{Control, Stream}
use Rattle.lossy_queue.specs.declared.datagram.Datagram.{Datagram}
use Rattle.lossy_queue.proofs.Puts.{puts_one}
use Rattle.client_machine.specs.Machine.{Client, to_send}
use Rattle.client_machine.specs.Events.{Request}
use Rattle.client_machine.specs.Events as clients
use Rattle.camera_machine.specs.Camera.{Camera}
use Rattle.camera_machine.specs.Events as cameras
use Rattle.world_machine.specs.Schedule.{Act, at_client, at_camera, Line, after, IsNoAccess, submission_of, taken_by, ack_of, with_last, bytes_of, AllowedAtClient, AllowedAtCamera, IsSchedule}
use Rattle.world_machine.specs.State.{Run, World}
use Rattle.world_machine.specs.Queues.{to_camera, to_host, sent_to_camera, all_to_camera, ack_to_host, packets_to_host}
use Rattle.world_machine.specs.ClientTurn.{client_peer}
use Rattle.world_machine.specs.HostActs.{given_by, given_in, IsGiven}
use Rattle.world_machine.specs.Laws.{start_line}

-- the client, the camera and their past after these acts
abbrev pub line_of : Run → List Act → Line
line_of run acts = after (start_line run) acts

-- the client sent it, or it reads and writes no register
abbrev pub IsSent : List (List ℕ) → List ℕ → Type 0
IsSent sent bytes = Contains sent bytes ⊎ IsNoAccess (command_reading bytes)

-- the packets that the camera gave by these acts
abbrev pub given_of : Run → List Act → List StreamPacket
given_of run acts = given_in (start_line run) acts

-- what comes to the client is an acknowledge of the camera, and what comes to the host a packet
abbrev pub IsAnswer : List (List ℕ) → List StreamPacket → Channel → List ℕ → Type 0
IsAnswer acks packets Control bytes = Contains acks bytes
IsAnswer acks packets Stream bytes = IsGiven packets bytes

-- `ups` and `downs` were taken out of the queues `up` and `down`.
pub record Fits (run : Run) (n : ℕ) (acts : List Act) (s : Client) (c : Camera) (up down ups downs : List Datagram) : Type 0 where
  pub schedule : IsSchedule client_peer (start_line run) acts
  pub client : (line_of run acts).client ≡ s
  pub camera : (line_of run acts).camera ≡ c
  pub few : length (line_of run acts).submitted ≤ n
  pub up_is : (d : Datagram) → Contains up d → IsSent (line_of run acts).sent d.bytes
  pub down_is : (d : Datagram) → Contains down d → IsAnswer (line_of run acts).acks (given_of run acts) d.channel d.bytes
  pub ups_are : (d : Datagram) → Contains ups d → IsSent (line_of run acts).sent d.bytes
  pub downs_are : (d : Datagram) → Contains downs d → IsAnswer (line_of run acts).acks (given_of run acts) d.channel d.bytes

abbrev pub FitsWorld : {A : Type 0} → Run → ℕ → List Act → World A → List Datagram → List Datagram → Type 0
FitsWorld run n acts w ups downs = Fits run n acts w.client w.camera w.to_camera w.to_host ups downs

-- ---- lists

pub none_in : {X : Type 0} (x : X) → Contains [] x → ⊥
none_in x h = omega (arith, h.1)

pub head_in : {X : Type 0} (x : X) (xs : List X) → Contains (x ∷ xs) x
head_in x xs = (0, omega arith, refl)

pub tail_in : {X : Type 0} (x y : X) (xs : List X) → Contains xs y → Contains (x ∷ xs) y
tail_in x y xs h = let below = h.1 in (suc h.0, omega arith, h.2)

pub cons_in : {X : Type 0} (x z : X) (xs : List X) (k : ℕ) → k < length (x ∷ xs) → get_or (x ∷ xs) k z ≡ z → (x ≡ z) ⊎ Contains xs z
cons_in x z xs zero l e = inl e
cons_in x z xs (suc k) l e = inr (k, omega arith, e)

sent_last : (sent : List (List ℕ)) (o : Option (List ℕ)) (bytes : List ℕ) → IsSent sent bytes → IsSent (with_last sent o) bytes
sent_last sent None bytes h = h
sent_last sent (Some x) bytes (inl h) = inl (Contains-append_left sent (x ∷ []) bytes h)
sent_last sent (Some x) bytes (inr h) = inr h

pub kept_in : {X : Type 0} (xs : List X) (o : Option X) (x : X) → Contains xs x → Contains (with_last xs o) x
kept_in xs None x h = h
kept_in xs (Some y) x h = Contains-append_left xs (y ∷ []) x h

answer_last : (acks : List (List ℕ)) (o : Option (List ℕ)) (packets : List StreamPacket) (p : Option StreamPacket) (channel : Channel) (bytes : List ℕ)
    → IsAnswer acks packets channel bytes → IsAnswer (with_last acks o) (with_last packets p) channel bytes
answer_last acks o packets p Control bytes h = kept_in acks o bytes h
answer_last acks o packets p Stream bytes h = record { packet = h.packet; among = kept_in packets p h.packet h.among; spelled = h.spelled }

pub last_in : {X : Type 0} (xs : List X) (o : Option X) (x : X) → o ≡ Some x → Contains (with_last xs o) x
last_in {X} xs o x e = subst (λ (p : Option X). Contains (with_last xs p) x) (sym e) (Contains-push xs x)

-- ---- acts

abbrev pub count_of : Option Request → ℕ
count_of None = 0
count_of (Some r) = 1

pub count_small : (o : Option Request) → count_of o ≤ 1
count_small None = omega arith
count_small (Some r) = omega arith

counted : (subs : List (List ℕ)) (o : Option Request) → length (with_last subs (option_map bytes_of o)) ≡ length subs + count_of o
counted subs None = omega arith
counted subs (Some r) = omega (arith, length-append subs (bytes_of r ∷ []))

pub fits_client : (run : Run) (n m : ℕ) (acts : List Act) (s : Client) (c : Camera) (up down ups downs : List Datagram) (e : clients.Event)
    → Fits run n acts s c up down ups downs → AllowedAtClient (line_of run acts) e → n + count_of (submission_of s e) ≤ m
    → Fits run m (at_client e ∷ acts) (clients.step s e) c up down ups downs
fits_client run n m acts s c up down ups downs e f h more = record {
  schedule = (h, f.schedule);
  client = ap (λ (t : Client). clients.step t e) f.client;
  camera = f.camera;
  few = few;
  up_is = λ d among. sent_last l.sent (taken_by l.client e) d.bytes (f.up_is d among);
  down_is = f.down_is;
  ups_are = λ d among. sent_last l.sent (taken_by l.client e) d.bytes (f.ups_are d among);
  downs_are = f.downs_are;
}
  where
    l : Line
    l = line_of run acts

    few : length (line_of run (at_client e ∷ acts)).submitted ≤ m
    few =
        let same : count_of (submission_of l.client e) ≡ count_of (submission_of s e) = ap (λ (t : Client). count_of (submission_of t e)) f.client in
        let all = counted l.submitted (submission_of l.client e) in
        let before = f.few in omega arith

pub fits_camera : (run : Run) (n : ℕ) (acts : List Act) (s : Client) (c : Camera) (up down ups downs : List Datagram) (e : cameras.Event)
    → Fits run n acts s c up down ups downs → AllowedAtCamera client_peer (line_of run acts) e
    → Fits run n (at_camera e ∷ acts) s (cameras.step c e) up down ups downs
fits_camera run n acts s c up down ups downs e f h = record {
  schedule = (h, f.schedule);
  client = f.client;
  camera = ap (λ (t : Camera). cameras.step t e) f.camera;
  few = f.few;
  up_is = f.up_is;
  down_is = λ d among. answer_last l.acks (ack_of l.camera e) (given_of run acts) (given_by l.camera e) d.channel d.bytes (f.down_is d among);
  ups_are = f.ups_are;
  downs_are = λ d among. answer_last l.acks (ack_of l.camera e) (given_of run acts) (given_by l.camera e) d.channel d.bytes (f.downs_are d among);
}
  where
    l : Line
    l = line_of run acts

-- what the client's next taking gives to the network was sent
pub taken_is_sent : (run : Run) (n : ℕ) (acts : List Act) (s : Client) (c : Camera) (up down ups downs : List Datagram) → Fits run n acts s c up down ups downs
    → (bytes : List ℕ) → to_send s.asked ≡ Some bytes → IsSent (line_of run (at_client clients.takes ∷ acts)).sent bytes
taken_is_sent run n acts s c up down ups downs f bytes e =
    inl (last_in (line_of run acts).sent (to_send (line_of run acts).client.asked) bytes (ap (λ (t : Client). to_send t.asked) f.client ∙ e))

-- what the camera answers to an event is an answer
pub ack_is_answer : (run : Run) (n : ℕ) (acts : List Act) (s : Client) (c : Camera) (up down ups downs : List Datagram) (e : cameras.Event)
    → Fits run n acts s c up down ups downs → (bytes : List ℕ) → ack_of c e ≡ Some bytes → Contains (line_of run (at_camera e ∷ acts)).acks bytes
ack_is_answer run n acts s c up down ups downs e f bytes is =
    last_in (line_of run acts).acks (ack_of (line_of run acts).camera e) bytes (ap (λ (t : Camera). ack_of t e) f.camera ∙ is)

-- ---- queues

pub fits_up : {A : Type 0} (run : Run) (n : ℕ) (acts : List Act) (w : World A) (ups downs : List Datagram) (bytes : List ℕ)
    → IsSent (line_of run acts).sent bytes → FitsWorld run n acts w ups downs → FitsWorld run n acts (to_camera run w bytes) ups downs
fits_up run n acts w ups downs bytes sent f = record {
  schedule = f.schedule;
  client = f.client;
  camera = f.camera;
  few = f.few;
  up_is = λ d among. go d ((puts_one run.rates w.x new w.to_camera).only d among);
  down_is = f.down_is;
  ups_are = f.ups_are;
  downs_are = f.downs_are;
}
  where
    new : Datagram
    new = record { channel = Control; bytes = bytes }

    go : (d : Datagram) → (d ≡ new) ⊎ Contains w.to_camera d → IsSent (line_of run acts).sent d.bytes
    go d (inl same) = subst (λ (e : Datagram). IsSent (line_of run acts).sent e.bytes) (sym same) sent
    go d (inr old) = f.up_is d old

pub fits_down : {A : Type 0} (run : Run) (n : ℕ) (acts : List Act) (w : World A) (ups downs : List Datagram) (new : Datagram)
    → IsAnswer (line_of run acts).acks (given_of run acts) new.channel new.bytes → FitsWorld run n acts w ups downs → FitsWorld run n acts (to_host run w new) ups downs
fits_down run n acts w ups downs new answer f = record {
  schedule = f.schedule;
  client = f.client;
  camera = f.camera;
  few = f.few;
  up_is = f.up_is;
  down_is = λ d among. go d ((puts_one run.rates w.x new w.to_host).only d among);
  ups_are = f.ups_are;
  downs_are = f.downs_are;
}
  where
    go : (d : Datagram) → (d ≡ new) ⊎ Contains w.to_host d → IsAnswer (line_of run acts).acks (given_of run acts) d.channel d.bytes
    go d (inl same) = subst (λ (e : Datagram). IsAnswer (line_of run acts).acks (given_of run acts) e.channel e.bytes) (sym same) answer
    go d (inr old) = f.down_is d old

pub fits_sent : {A : Type 0} (run : Run) (n : ℕ) (acts : List Act) (w : World A) (ups downs : List Datagram) (o : Option (List ℕ))
    → ((bytes : List ℕ) → o ≡ Some bytes → IsSent (line_of run acts).sent bytes) → FitsWorld run n acts w ups downs
    → FitsWorld run n acts (sent_to_camera run w o) ups downs
fits_sent run n acts w ups downs None sent f = f
fits_sent run n acts w ups downs (Some bytes) sent f = fits_up run n acts w ups downs bytes (sent bytes refl) f

pub fits_asked : {A : Type 0} (run : Run) (n : ℕ) (acts : List Act) (w : World A) (ups downs : List Datagram) (asked : List (List ℕ))
    → AllByRecursion (λ bytes. IsNoAccess (command_reading bytes)) asked → FitsWorld run n acts w ups downs
    → FitsWorld run n acts (all_to_camera run w asked) ups downs
fits_asked run n acts w ups downs [] none f = f
fits_asked run n acts w ups downs (bytes ∷ rest) none f =
    fits_asked run n acts (to_camera run w bytes) ups downs rest none.1 (fits_up run n acts w ups downs bytes (inr none.0) f)

pub fits_ack : {A : Type 0} (run : Run) (n : ℕ) (acts : List Act) (w : World A) (ups downs : List Datagram) (o : Option (List ℕ))
    → ((bytes : List ℕ) → o ≡ Some bytes → Contains (line_of run acts).acks bytes) → FitsWorld run n acts w ups downs
    → FitsWorld run n acts (ack_to_host run w o) ups downs
fits_ack run n acts w ups downs None answer f = f
fits_ack run n acts w ups downs (Some bytes) answer f =
    fits_down run n acts w ups downs (record { channel = Control; bytes = bytes }) (answer bytes refl) f

pub fits_packets : {A : Type 0} (run : Run) (n : ℕ) (acts : List Act) (w : World A) (ups downs : List Datagram) (xs : List StreamPacket)
    → ((x : StreamPacket) → Contains xs x → Contains (given_of run acts) x) → FitsWorld run n acts w ups downs
    → FitsWorld run n acts (packets_to_host run w xs) ups downs
fits_packets run n acts w ups downs [] given f = f
fits_packets run n acts w ups downs (x ∷ xs) given f =
    fits_packets run n acts (to_host run w (record { channel = Stream; bytes = plain x })) ups downs xs (λ y among. given y (tail_in x y xs among))
    (fits_down run n acts w ups downs (record { channel = Stream; bytes = plain x }) (record { packet = x; among = given x (head_in x xs); spelled = refl }) f)

-- what was taken out counts as far as wanted
pub with_downs : (run : Run) (n : ℕ) (acts : List Act) (s : Client) (c : Camera) (up down ups downs fewer : List Datagram)
    → ((d : Datagram) → Contains fewer d → Contains downs d) → Fits run n acts s c up down ups downs → Fits run n acts s c up down ups fewer
with_downs run n acts s c up down ups downs fewer sub f = record {
  schedule = f.schedule;
  client = f.client;
  camera = f.camera;
  few = f.few;
  up_is = f.up_is;
  down_is = f.down_is;
  ups_are = f.ups_are;
  downs_are = λ d among. f.downs_are d (sub d among);
}
