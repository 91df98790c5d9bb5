-- The setup alone, or the reader's turns after it, and the end for each lane.
use Rattle.std.proofs.Common.{◌≡◌, ◌≢◌, ℕ, List, [], ◌∷◌, ◌++◌, Bool, true, false, Option, refl, sym, subst, inr}
use Rattle.std.proofs.lemmas.List.{append-nil}
use Rattle.board_machine.specs.declared.events.Event.{Event}
use Rattle.board_machine.specs.declared.events.Event.TheVariants.{LookRun}
use Rattle.client_machine.specs.Machine.{Client}
use Rattle.gev_links.specs.Links.{Address, Answer, Adds}
use Rattle.gev_links.specs.Moments.{TellsEach}
use Rattle.gev_links.proofs.Growing.{tells_none, tells_then}
use Rattle.buffer_words.specs.Passes.{Token}
use Rattle.buffer_words.specs.Several.{EntersEach}
use Rattle.buffer_words.proofs.Several.{each_none, each_then}
use Rattle.gev_control.specs.declared.acq_end.AcqEnd.{AcqEnd}
use Rattle.gev_control.specs.declared.acq_end.AcqEnd.TheVariants as how
use Rattle.gev_control.specs.Sends.{addressed, Fails}
use Rattle.gev_control.specs.SetupTurns.{set_up, SetupTurned}
use Rattle.gev_control.specs.SetsUp.{SetupSide, SetsUp, setup_sent, setup_heards, setup_moments}
use Rattle.gev_control.proofs.Fronts.{added_then}
use Rattle.gev_acq.specs.Acquired.{LooksLast}
use Rattle.gev_acq.specs.Reading.{FaultsOf}
use Rattle.gev_acq.specs.Reads.{IsSetUp, LastLook}
use Rattle.gev_lanes.specs.declared.parts.ReaderLane.{ReaderLane}
use Rattle.lane_reader.specs.LanesTurns.{EndsEach}
use Rattle.lane_reader.specs.Reads.{looks_in, moments_in, heards_in, sends_in, ReadsLanes}
use Rattle.lane_crew.specs.Reader.{EndsAfter, ReadsAll}

-- what the setup told, without its lists
setup_is : (camera stream : Address) (o n : SetupSide) (end : AcqEnd) → (up : SetsUp camera stream o n end) → IsSetUp stream o.client (up.before ++ up.last ∷ []) end n.client
setup_is camera stream o n end up = record {
  before = up.before;
  last = up.last;
  is = refl;
  on = up.on;
  ended = up.ended;
  may_hear = up.may_hear;
  client = up.client;
}

-- where the setup ended otherwise, there are no turns, and no look
no_turns : (end : AcqEnd) (turns : ℕ) → end ≢ how.Stopped → EndsAfter end end turns [] × LastLook end []
no_turns how.Stopped turns other = absurd (other refl)
no_turns how.Spent turns other = ((refl, refl), refl)
no_turns how.Fault turns other = ((refl, refl), refl)
no_turns (how.NoAnswer req) turns other = ((refl, refl), refl)
no_turns (how.Refused status) turns other = ((refl, refl), refl)

-- the setup ended before the turns
pub ends_early : (n : ℕ) (camera stream : Address) (r h k : Option (List Answer)) (w v : Option (List (Address × List ℕ))) (d b : Option (List ℕ)) (s u : Client)
    (turns : ℕ) (end : AcqEnd) (ss us : List ReaderLane) (t : Token) → end ≢ how.Stopped
    → SetsUp camera stream (record { heard = h; sent = w; told = d; client = s }) (record { heard = k; sent = v; told = b; client = u }) end → EndsEach ss us
    → ReadsAll n camera stream (record { received = r; heard = h; sent = w; told = d; client = s }) (record { received = r; heard = k; sent = v; told = b; client = u }) turns end ss us t t
ends_early n camera stream r h k w v d b s u turns end ss us t other up each = record {
  made = [];
  last = [];
  on = record {
    setup = made;
    setup_end = end;
    client = u;
    set_up_by = setup_is camera stream (record { heard = h; sent = w; told = d; client = s }) (record { heard = k; sent = v; told = b; client = u }) end up;
    ends = (no_turns end turns other).0;
    looks = (no_turns end turns other).1;
    controlled = refl;
    received = tells_none r;
    heard = subst (TellsEach h k) (sym (append-nil (setup_heards made))) up.heard;
    sent = subst (λ l. Adds w v (addressed camera l)) (sym (append-nil (setup_sent stream (set_up s 0) made))) up.sent;
    told = subst (TellsEach d b) (sym (append-nil (setup_moments made))) up.told;
  };
  lanes = record { before = ss; turns = refl; ends = each };
  enters = each_none t;
}
  where
    made : List SetupTurned
    made = up.before ++ up.last ∷ []

-- the faults of the setup alone, and of the turns behind it
pub faults_early : (is : Bool) (stream control control_after : ℕ) → Fails false is control control_after → FaultsOf is stream stream control control_after
faults_early true stream control control_after rose = inr (refl, rose)
faults_early false stream control control_after same = (refl, same)

pub faults_then : (is : Bool) (stream stream_after control control_then control_after : ℕ) → Fails false false control control_then
    → FaultsOf is stream stream_after control_then control_after → FaultsOf is stream stream_after control control_after
faults_then is stream stream_after control control_then control_after same faults = subst (λ n. FaultsOf is stream stream_after n control_after) same faults

-- the last look, where there was one
record LooksSo (end : AcqEnd) (s t : Token) : Type 0 where
  last : List Event
  is : LastLook end last
  enters : EntersEach s last t

no_look : (end : AcqEnd) (s t : Token) → t ≡ s → LastLook end [] → LooksSo end s t
no_look end s t same is = record { last = []; is = is; enters = subst (λ (x : Token). EntersEach s [] x) (sym same) (each_none s) }

last_look : (end : AcqEnd) (s t : Token) → LooksLast end s t → LooksSo end s t
last_look how.Stopped s t look = record { last = LookRun look.run ∷ []; is = (look.run, look.stopped, refl); enters = look.enters }
last_look how.Spent s t look = no_look how.Spent s t look refl
last_look how.Fault s t look = no_look how.Fault s t look refl
last_look (how.NoAnswer req) s t look = no_look (how.NoAnswer req) s t look refl
last_look (how.Refused status) s t look = no_look (how.Refused status) s t look refl

-- the camera was set up, and then the turns were made
pub then_turns : (n : ℕ) (camera stream : Address) (r m h k l : Option (List Answer)) (w v x : Option (List (Address × List ℕ))) (d b e : Option (List ℕ)) (s u z : Client)
    (turns : ℕ) (end : AcqEnd) (ss us : List ReaderLane) (p q : Token)
    → SetsUp camera stream (record { heard = h; sent = w; told = d; client = s }) (record { heard = k; sent = v; told = b; client = u }) how.Stopped
    → ReadsLanes n camera (record { received = r; heard = k; sent = v; told = b; client = u }) (record { received = m; heard = l; sent = x; told = e; client = z }) turns end ss us p q
    → ReadsAll n camera stream (record { received = r; heard = h; sent = w; told = d; client = s }) (record { received = m; heard = l; sent = x; told = e; client = z }) turns end ss us p q
then_turns n camera stream r m h k l w v x d b e s u z turns end ss us p q up lanes = record {
  made = lanes.reads.made;
  last = look.last;
  on = record {
    setup = made;
    setup_end = how.Stopped;
    client = u;
    set_up_by = setup_is camera stream (record { heard = h; sent = w; told = d; client = s }) (record { heard = k; sent = v; told = b; client = u }) how.Stopped up;
    ends = lanes.reads.ends;
    looks = look.is;
    controlled = lanes.reads.on.controlled;
    received = lanes.reads.on.received;
    heard = tells_then h k l (setup_heards made) (heards_in lanes.reads.made) up.heard lanes.reads.on.heard;
    sent = added_then camera w v x (setup_sent stream (set_up s 0) made) (sends_in lanes.reads.made) up.sent lanes.reads.on.sent;
    told = tells_then d b e (setup_moments made) (moments_in lanes.reads.made) up.told lanes.reads.on.told;
  };
  lanes = record { before = lanes.before; turns = lanes.reads.on.lanes; ends = lanes.ended };
  enters = each_then p lanes.reads.middle q (looks_in lanes.reads.made) look.last lanes.reads.on.enters look.enters;
}
  where
    made : List SetupTurned
    made = up.before ++ up.last ∷ []

    look : LooksSo end lanes.reads.middle q
    look = last_look end lanes.reads.middle q lanes.reads.last
