-- The setup, the turns and the stop, one after the other.
use Rattle.std.proofs.Common.{◌≡◌, ◌≢◌, ℕ, false, List, [], ◌∷◌, ◌++◌, Option, Result, refl, sym, ◌∙◌, subst, append_assoc}
use Rattle.std.proofs.lemmas.List.{append-nil}
use Rattle.board_machine.specs.declared.events.Event.{Event}
use Rattle.board_machine.specs.declared.events.Event.TheVariants.{LookRun, Stop}
use Rattle.client_machine.specs.Machine.{Client}
use Rattle.acquisition_machine.specs.declared.config.AcqConfig.{AcqConfig}
use Rattle.acquisition_machine.specs.Machine.{Input, stop}
use Rattle.gev_links.specs.Links.{Address, Answer, Adds}
use Rattle.gev_links.specs.Moments.{TellsEach}
use Rattle.gev_links.proofs.Growing.{tells_none, tells_then}
use Rattle.buffer_words.specs.Passes.{Token, IsEmptyHanded, Enters}
use Rattle.buffer_words.specs.Several.{EntersEach}
use Rattle.buffer_words.proofs.Several.{each_none, each_one, each_then}
use Rattle.gev_control.specs.declared.acq_end.AcqEnd.{AcqEnd}
use Rattle.gev_control.specs.declared.acq_end.AcqEnd.TheVariants as how
use Rattle.gev_control.specs.Sends.{addressed}
use Rattle.gev_control.specs.SetupTurns.{set_up, SetupTurned}
use Rattle.gev_control.specs.SetsUp.{SetupSide, SetsUp, setup_sent, setup_heards, setup_moments}
use Rattle.gev_control.proofs.Fronts.{added_then}
use Rattle.board_calls.specs.declared.mode.Mode.{Mode}
use Rattle.gev_acq.specs.declared.turn.Turn.{Turn}
use Rattle.gev_acq.specs.Buffers.{HoldsAlone}
use Rattle.gev_acq.specs.Claims.{Claims, ServesOn}
use Rattle.gev_acq.specs.Turns.{Outside}
use Rattle.gev_acq.specs.Acquired.{inputs_in, answers_in, heards_in, sends_in, moments_in, LooksLast, Acquires}
use Rattle.gev_acq.proofs.Owning.{ClaimNothing, claims_none, claims_then}
use Rattle.acquisition_machine.specs.Blocks.{Given}
use Rattle.gev_acq.specs.Reads.{IsSetUp, EndsAfter, LastLook, ReadsTurns, Reads}

-- what the setup told, without its lists
setup_is : (camera stream : Address) (o n : SetupSide) (end : AcqEnd) → (up : SetsUp camera stream o n end) → IsSetUp stream o.client (up.before ++ up.last ∷ []) end n.client
setup_is camera stream o n end up = record {
  before = up.before;
  last = up.last;
  is = refl;
  on = up.on;
  ended = up.ended;
  may_hear = up.may_hear;
  client = up.client;
}

-- where the camera wasn't set up there are no turns and no look
no_turns : (end : AcqEnd) (turns : ℕ) → end ≢ how.Stopped → EndsAfter end end turns [] × LastLook end []
no_turns how.Stopped turns other = absurd (other refl)
no_turns how.Spent turns other = ((refl, refl), refl)
no_turns how.Fault turns other = ((refl, refl), refl)
no_turns (how.NoAnswer req) turns other = ((refl, refl), refl)
no_turns (how.Refused status) turns other = ((refl, refl), refl)

-- the setup ended before the turns
pub ends_early : (mode : Mode) (c : AcqConfig) (camera stream : Address) (New : List Input → Type 0) (r y h k : Option (List Answer)) (w v : Option (List (Address × List ℕ))) (d b : Option (List ℕ)) (s u : Client)
    (journal : List Turn) (turns : ℕ) (end : AcqEnd) (t : Token) → end ≢ how.Stopped → New [] → y ≡ r
    → SetsUp camera stream (record { heard = h; sent = w; told = d; client = s }) (record { heard = k; sent = v; told = b; client = u }) end
    → ReadsTurns mode c camera stream New (record { received = r; heard = h; sent = w; told = d; client = s }) (record { received = y; heard = k; sent = v; told = b; client = u }) journal journal turns end t t
ends_early mode c camera stream New r y h k w v d b s u journal turns end t other new same up = record {
  made = [];
  turned = [];
  last = [];
  on = record {
    setup = made;
    setup_end = end;
    client = u;
    set_up_by = setup_is camera stream (record { heard = h; sent = w; told = d; client = s }) (record { heard = k; sent = v; told = b; client = u }) end up;
    ends = ended.0;
    serves = refl;
    own = tt;
    looks = ended.1;
    controlled = refl;
    entries = [];
    notes = tt;
    journal_is = sym (append-nil journal);
    received = subst (λ (z : Option (List Answer)). TellsEach r z []) (sym same) (tells_none r);
    heard = subst (TellsEach h k) (sym (append-nil (setup_heards made))) up.heard;
    sent = subst (λ l. Adds w v (addressed camera l)) (sym (append-nil (setup_sent stream (set_up s 0) made))) up.sent;
    told = subst (TellsEach d b) (sym (append-nil (setup_moments made))) up.told;
  };
  enters = each_none t;
  claims = claims_none mode [] t t [] refl tt (each_none t);
  stands = new;
}
  where
    made : List SetupTurned
    made = up.before ++ up.last ∷ []

    ended : EndsAfter end end turns [] × LastLook end []
    ended = no_turns end turns other

-- the last look, where there was one
record LooksSo (end : AcqEnd) (s t : Token) : Type 0 where
  last : List Event
  is : LastLook end last
  enters : EntersEach s last t
  quiet : ClaimNothing last

no_look : (end : AcqEnd) (s t : Token) → t ≡ s → LastLook end [] → LooksSo end s t
no_look end s t same is = record { last = []; is = is; enters = subst (λ (x : Token). EntersEach s [] x) (sym same) (each_none s); quiet = tt }

last_look : (end : AcqEnd) (s t : Token) → LooksLast end s t → LooksSo end s t
last_look how.Stopped s t look = record {
  last = LookRun look.run ∷ [];
  is = (look.run, look.stopped, refl);
  enters = look.enters;
  quiet = (λ m b ms. refl, tt);
}
last_look how.Spent s t look = no_look how.Spent s t look refl
last_look how.Fault s t look = no_look how.Fault s t look refl
last_look (how.NoAnswer req) s t look = no_look (how.NoAnswer req) s t look refl
last_look (how.Refused status) s t look = no_look (how.Refused status) s t look refl

-- calls that claim nothing, after these inputs
claims_on : (mode : Mode) (is : List Input) (s t u : Token) → t.number ≡ s.number → Claims mode is s t → Claims mode [] t u → Claims mode is s u
claims_on mode is s t u number first second = subst (λ l. Claims mode l s u) (append-nil is) (claims_then mode is [] s t u number first second)

-- the camera was set up, and then the turns were made
pub then_turns : (mode : Mode) (c : AcqConfig) (camera stream : Address) (Old New : List Input → Type 0) (r y m h k l : Option (List Answer)) (w v x : Option (List (Address × List ℕ))) (d b e : Option (List ℕ)) (s u z : Client)
    (journal journal_after : List Turn) (turns : ℕ) (end : AcqEnd) (p q : Token) → Old [] → y ≡ r
    → SetsUp camera stream (record { heard = h; sent = w; told = d; client = s }) (record { heard = k; sent = v; told = b; client = u }) how.Stopped
    → Acquires mode c camera Old New (record { received = y; heard = k; sent = v; told = b; client = u }) (record { received = m; heard = l; sent = x; told = e; client = z }) journal journal_after turns end p q
    → ReadsTurns mode c camera stream New (record { received = r; heard = h; sent = w; told = d; client = s }) (record { received = m; heard = l; sent = x; told = e; client = z }) journal journal_after turns end p q
then_turns mode c camera stream Old New r y m h k l w v x d b e s u z journal journal_after turns end p q new same up acquires = record {
  made = acquires.made;
  turned = acquires.on.events;
  last = look.last;
  on = record {
    setup = made;
    setup_end = how.Stopped;
    client = u;
    set_up_by = setup_is camera stream (record { heard = h; sent = w; told = d; client = s }) (record { heard = k; sent = v; told = b; client = u }) how.Stopped up;
    ends = acquires.ends;
    serves = acquires.on.serves [] new;
    own = acquires.own;
    looks = look.is;
    controlled = acquires.on.controlled [] new;
    entries = acquires.entries;
    notes = acquires.on.notes [] new;
    journal_is = acquires.journal_is;
    received = subst (λ (z : Option (List Answer)). TellsEach z m (answers_in acquires.made)) same acquires.on.received;
    heard = tells_then h k l (setup_heards made) (heards_in acquires.made) up.heard acquires.on.heard;
    sent = added_then camera w v x (setup_sent stream (set_up s 0) made) (sends_in acquires.made) up.sent acquires.on.sent;
    told = tells_then d b e (setup_moments made) (moments_in acquires.made) up.told acquires.on.told;
  };
  enters = each_then p acquires.middle q acquires.on.events look.last acquires.on.enters look.enters;
  claims = claims_on mode (inputs_in acquires.made) p acquires.middle q acquires.on.enters.number acquires.on.claims
      (claims_none mode [] acquires.middle q look.last refl look.quiet look.enters);
  stands = acquires.on.stands [] new;
}
  where
    made : List SetupTurned
    made = up.before ++ up.last ∷ []

    look : LooksSo end acquires.middle q
    look = last_look end acquires.middle q acquires.last

-- what the stop of a receiver claims: nothing
no_claims : (mode : Mode) (s t : Token) → Claims mode (stop ∷ []) s t → Claims mode [] s t
no_claims mode s t claims = record { between = claims.between; seen = claims.seen; are = claims.are }

-- then the receiver was stopped, and the acquisition
pub reads_all : (mode : Mode) (c d : AcqConfig) (camera stream : Address) (Old New : List Input → Type 0) (o n : Outside) (journal journal_after : List Turn) (turns : ℕ) (end : AcqEnd) (answer : Result (Unit {0}) ℕ) (s t u v : Token)
    → ReadsTurns mode c camera stream Old o n journal journal_after turns end s t → d ≡ c → ServesOn mode d Old New (stop ∷ []) t u → Enters u (Stop false answer) v
    → Reads mode c camera stream o n journal journal_after turns end s v
reads_all mode c d camera stream Old New o n journal journal_after turns end answer s t u v so config drain stops = record {
  made = so.made;
  turned = so.turned;
  last = so.last;
  on = so.on;
  drained = drained.events;
  drains = drained.serves (inputs_in so.made) so.stands;
  answer = answer;
  enters = subst (λ l. EntersEach s l v) (append_assoc so.turned so.last (drained.events ++ Stop false answer ∷ []))
      (each_then s t v (so.turned ++ so.last) (drained.events ++ Stop false answer ∷ []) so.enters
      (each_then t u v drained.events (Stop false answer ∷ []) drained.enters (each_one u v (Stop false answer) stops refl)));
  claims = claims_on mode (inputs_in so.made) s u v (drained.enters.number ∙ so.enters.number)
      (claims_on mode (inputs_in so.made) s t u so.enters.number so.claims (no_claims mode t u drained.claims))
      (claims_none mode [] u v (Stop false answer ∷ []) refl (λ m b ms. refl, tt) (each_one u v (Stop false answer) stops refl));
}
  where
    drained : ServesOn mode c Old New (stop ∷ []) t u
    drained = subst (λ (x : AcqConfig). ServesOn mode x Old New (stop ∷ []) t u) config drain

-- ---- the hands

pub alone_none : (s : Token) (gs : List Given) → gs ≡ [] → IsEmptyHanded s → HoldsAlone s gs
alone_none s gs none empty = subst (HoldsAlone s) (sym none) (λ i some. absurd (some (empty i)))
