-- The camera was met.
use Rattle.std.specs.Prelude.{IfSome}
use Rattle.std.proofs.Common.{◌≡◌, ℕ, Bool, true, List, [], Option, Some, None, option_map, Result, Ok, Err, inl, inr, refl, sym, ap, subst}
use Rattle.board_machine.specs.declared.events.Entry.{Entry}
use Rattle.buffer_words.specs.Passes.{Token}
use Rattle.gev_links.specs.Links.{Address}
use Rattle.gev_control.specs.CarriesOut.{ControlSide}
use Rattle.camera_control.specs.declared.taken.Taken.{Taken}
use Rattle.camera_control.specs.declared.taken.NotTaken.{NotTaken}
use Rattle.camera_control.specs.Taking.{TakeFails}
use Rattle.camera_words.specs.declared.settings.Settings.{Settings}
use Rattle.first_leader.specs.Waiting.{WaitSide}
use Rattle.gev_status.specs.declared.status.Status.{Status}
use Rattle.frame_writing.specs.declared.receive_counts.ReceiveCounts.{ReceiveCounts}
use Rattle.gev_receive.specs.Answers.{StreamEnd, stream_end}
use Rattle.gev_receive.specs.Starting.{no_counts}
use Rattle.gev_receive.specs.Frames.{seen_by}
use Rattle.gev_receive.specs.Receives.{control_part, history_of, TakesBy, Streams, LeavesUnless, LeavesHeld, Meets}

-- nothing was seen where no board was kept
pub none_seen : {A : Type 0} (kept : Option (A × Token)) → kept ≡ None → seen_by (option_map (λ (k : A × Token). k.1) kept) ≡ []
none_seen kept is = ap (λ k. seen_by (option_map (λ x. x.1) k)) is

pub none_made : {A : Type 0} (kept : Option (A × Token)) → kept ≡ None → option_map (λ (k : A × Token). k.1.seen) kept ≡ None
none_made kept is = ap (λ k. option_map (λ x. x.1.seen) k) is

pub seen_same : {A : Type 0} (kept : Option (A × Token)) → seen_by (option_map (λ (k : A × Token). k.1) kept) ≡ history_of (option_map (λ (k : A × Token). k.1.seen) kept)
seen_same None = refl
seen_same (Some k) = refl

pub end_is : (a b : Status) (x y : Bool) → a ≡ b → x ≡ y → stream_end a x ≡ stream_end b y
end_is a b x y status_is lost_is =
    subst (λ (s : Status). stream_end a x ≡ stream_end s y) status_is (subst (λ (k : Bool). stream_end a x ≡ stream_end a k) lost_is refl)

pub meets_not : (settings : Settings) (camera own : Address) (o n : WaitSide) (m : ControlSide) (stream stream_mid stream_after control control_mid control_after : ℕ)
    (app written : Option (List ℕ)) (faults : ℕ) (left : Option (List ℕ)) (h : List Entry) (answer : Status) (counts : ReceiveCounts)
    (found : Result Taken NotTaken) (fault : NotTaken) → found ≡ Err fault → TakesBy settings camera own (control_part o) m found → TakeFails found control control_mid
    → LeavesHeld fault.held settings camera fault.end m (control_part n) control_mid control_after answer
    → n.received ≡ o.received → stream_mid ≡ stream → stream_after ≡ stream_mid → h ≡ [] → counts ≡ no_counts settings.frames
    → Meets settings camera own o n stream stream_after control control_after app app written written faults faults left h answer counts
meets_not settings camera own o n m stream stream_mid stream_after control control_mid control_after app written faults left h answer counts found fault is takes fails leaves unreceived mid after none counts_are =
    inl (record {
      found = found;
      fault = fault;
      is = is;
      m = m;
      control_mid = control_mid;
      takes = takes;
      take_fails = fails;
      leaves = leaves;
      unreceived = unreceived;
      stream_same = subst (λ (k : ℕ). stream_after ≡ k) mid after;
      app_same = refl;
      unwritten = refl;
      no_fault = refl;
      no_history = none;
      counts_are = counts_are;
    })

pub meets_streams : (settings : Settings) (camera own : Address) (o n m p : WaitSide) (stream stream_m stream_p stream_after control control_m control_p control_after : ℕ)
    (app app_after written written_after : Option (List ℕ)) (faults faults_after : ℕ) (left : Option (List ℕ)) (h : List Entry) (first : StreamEnd) (answer : Status) (counts : ReceiveCounts)
    (found : Result Taken NotTaken) (taken : Taken) → found ≡ Ok taken → TakesBy settings camera own (control_part o) (control_part m) found → TakeFails found control control_m
    → m.received ≡ o.received → stream_m ≡ stream
    → Streams settings camera taken m p stream_m stream_p control_m control_p app app_after written written_after faults faults_after left h first counts
    → LeavesUnless first.lost settings camera true counts.taken first.status (control_part p) (control_part n) control_p control_after answer
    → n.received ≡ p.received → stream_after ≡ stream_p
    → Meets settings camera own o n stream stream_after control control_after app app_after written written_after faults faults_after left h answer counts
meets_streams settings camera own o n m p stream stream_m stream_p stream_after control control_m control_p control_after app app_after written written_after faults faults_after left h first answer counts
    found taken is takes fails unreceived same streams leaves no_more last =
    inr (record {
      found = found;
      taken = taken;
      is = is;
      m = m;
      p = p;
      control_m = control_m;
      control_p = control_p;
      takes = takes;
      take_fails = fails;
      unreceived = unreceived;
      first = first;
      streams =
          subst (λ (k : ℕ). Streams settings camera taken m p stream k control_m control_p app app_after written written_after faults faults_after left h first counts) (sym last)
          (subst (λ (k : ℕ). Streams settings camera taken m p k stream_p control_m control_p app app_after written written_after faults faults_after left h first counts) same streams);
      leaves = leaves;
      received_no_more = no_more;
    })

pub none_kept : {A : Type 0} (kept : Option A) (P : A → Type 0) → kept ≡ None → IfSome kept P
none_kept kept P is = subst (λ (k : Option _). IfSome k P) (sym is) tt
