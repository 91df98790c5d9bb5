-- The record, the refusal or the end that the bytes tell of, and what came before it was told.
use Rattle.std.proofs.Common.{◌≡◌, ℕ, ◌≤◌, ◌<◌, List, length, Option, Ok, Err, refl, sym, ap, ◌∙◌, subst, inl, inr, arith}
use Rattle.gev_links.specs.Faults.{Rose}
use Rattle.gev_script.specs.Window.{Holds}
use Rattle.gev_capture.specs.declared.form.SectionInterface.{SectionInterface}
use Rattle.gev_capture.specs.declared.kind.CaptureKind.{CaptureKind}
use Rattle.gev_capture.specs.declared.capture_end.CaptureEnd.{CaptureEnd}
use Rattle.gev_capture.specs.declared.capture_end.CaptureEnd.TheVariants.{Ended, Refused, ReadFault}
use Rattle.gev_capture.specs.declared.step.Found.{Found}
use Rattle.gev_capture.specs.declared.step.Step.TheVariants.{Record}
use Rattle.gev_capture.specs.Files.{Format, wants, refused, told}
use Rattle.gev_capture.specs.Captures.{IsOpen}
use Rattle.gev_capture.specs.Steps.{format_of, told_by, IsFound}
use Rattle.gev_capture.specs.Reading.{EndsAtSpent, CauseOfEnd, Finds}
use Rattle.gev_capture.proofs.Coming.{Came, came_none, came_more, reads_on, same_still}
use Rattle.gev_capture.proofs.reading.find_record.Goals as goal

opens_so : (format : Format) (now bytes : List ℕ) (k : ℕ) → bytes ≡ now → wants k ≡ told format bytes → IsOpen format now
opens_so format now bytes k is tells = subst (IsOpen format) is (k, sym tells)

record_found : (format : Format) (interfaces : List SectionInterface) (held now bytes : List ℕ) (l m : Option (List ℕ)) (found : Found) (faults faults_after : ℕ)
    → Came format held now l m → length now ≤ 1114112 → bytes ≡ now → told_by interfaces bytes (Record found) ≡ told format bytes → IsFound interfaces bytes found
    → Finds (Ok found) format interfaces held now l m faults faults_after
record_found format interfaces held now bytes l m found faults faults_after came few is tells sound =
    reads_on format held now l m (λ bs. (told format bs ≡ told_by interfaces bs (Record found)) × IsFound interfaces bs found × (now ≡ bs)) came few
    (subst (λ bs. (told format bs ≡ told_by interfaces bs (Record found)) × IsFound interfaces bs found × (now ≡ bs)) is (sym tells, sound, sym is))

end_found : (format : Format) (interfaces : List SectionInterface) (held now : List ℕ) (l m : Option (List ℕ)) (end : CaptureEnd) (faults faults_after : ℕ)
    → Came format held now l m → length now ≤ 1114112 → CauseOfEnd end format now m faults faults_after → Finds (Err end) format interfaces held now l m faults faults_after
end_found format interfaces held now l m end faults faults_after came few cause =
    reads_on format held now l m (λ bs. CauseOfEnd end format bs m faults faults_after × (now ≡ bs)) came few (cause, refl)

refused_so : (format : Format) (now bytes : List ℕ) (m : Option (List ℕ)) (kind : CaptureKind) (faults faults_after : ℕ)
    → bytes ≡ now → refused kind ≡ told format bytes → CauseOfEnd (Refused kind) format now m faults faults_after
refused_so format now bytes m kind faults faults_after is tells =
    let so : told format now ≡ refused kind = ap (told format) (sym is) ∙ sym tells in
    (inl so, inl so)

spent_so : (format : Format) (now after bytes : List ℕ) (m n : Option (List ℕ)) (count : ℕ) (end : CaptureEnd) (faults faults_after : ℕ)
    → IsOpen format now → Holds count now after m n → count ≡ 0 → bytes ≡ after → EndsAtSpent end format bytes → CauseOfEnd end format after n faults faults_after
spent_so format now after bytes m n count Ended faults faults_after is_open holds none is ends = (subst (EndsAtSpent Ended format) is ends, holds.spent none)
spent_so format now after bytes m n count (Refused kind) faults faults_after is_open holds none is ends =
    let here : EndsAtSpent (Refused kind) format after = subst (EndsAtSpent (Refused kind) format) is ends in
    let same : after ≡ now = same_still now after m n (subst (λ k. Holds k now after m n) none holds) in
    (inr (here.0, subst (IsOpen format) (sym same) is_open, here.1), inr (holds.spent none))
spent_so format now after bytes m n count ReadFault faults faults_after is_open holds none is ends = absurd ends

fault_so : (format : Format) (held now after : List ℕ) (l m n : Option (List ℕ)) (before faults faults_after : ℕ) → Came format held now l m → IsOpen format now → after ≡ now → n ≡ m
    → faults ≡ before → Rose faults faults_after → Came format held after l n × CauseOfEnd ReadFault format after n before faults_after
fault_so format held now after l m n before faults faults_after came is_open kept untaken steady rose = (
  subst (λ bs. Came format held bs l n) (sym kept) (subst (λ left. Came format held now l left) (sym untaken) came),
  (subst (IsOpen format) (sym kept) is_open, subst (λ count. Rose count faults_after) steady rose),
)

has_room : (now bytes : List ℕ) (n : ℕ) → bytes ≡ now → (length bytes < n) × (n ≤ 1048576) → length now ≤ 1048576
has_room now bytes n is both = subst (λ bs. length bs ≤ 1048576) is (omega (arith, both.0, both.1))

no_less : (a b c : ℕ) → b ≡ a → b ≤ c → a ≤ c
no_less a b c same less = omega arith

same_no_less : (a b : ℕ) → b ≡ a → a ≤ b
same_no_less a b same = omega arith

pub reading-init : goal.reading-init
reading-init g c = record {
  came = came_none (format_of c.args.form c.args.interfaces.now) c.args.room.now (g.S.Source.left c.args.source.now);
  steady = refl;
  few = c.requires.few;
}

pub next_step-requires-clause-form : goal.next_step-requires-clause-form
next_step-requires-clause-form g c = c.requires.form

pub next_step-requires-clause-interfaces : goal.next_step-requires-clause-interfaces
next_step-requires-clause-interfaces g c = c.requires.interfaces

pub returns-in-Record-clause-finds : goal.returns-in-Record-clause-finds
returns-in-Record-clause-finds g c =
    record_found (format_of c.args.form c.args.interfaces.now) c.args.interfaces.now c.args.room.now c.reading.room c.held.result.now (g.S.Source.left c.args.source.now) (g.S.Source.left c.reading.source)
    c.in-Record.found (g.S.Source.faults c.args.source.now) (g.S.Source.faults c.reading.source) c.reading.invariant.came c.reading.invariant.few c.held.ensures c.in-Record.ensures.told
    c.in-Record.ensures.sound

pub returns-in-Record-clause-steady : goal.returns-in-Record-clause-steady
returns-in-Record-clause-steady g c = λ _. c.reading.invariant.steady

pub returns-in-Record-clause-never_falls : goal.returns-in-Record-clause-never_falls
returns-in-Record-clause-never_falls g c = same_no_less _ _ c.reading.invariant.steady

pub returns-in-Record-clause-few : goal.returns-in-Record-clause-few
returns-in-Record-clause-few g c = c.reading.invariant.few

pub returns-in-Refused-clause-finds : goal.returns-in-Refused-clause-finds
returns-in-Refused-clause-finds g c =
    let format = format_of c.args.form c.args.interfaces.now in
    end_found format c.args.interfaces.now c.args.room.now c.reading.room (g.S.Source.left c.args.source.now) (g.S.Source.left c.reading.source) (Refused c.in-Refused.kind)
    (g.S.Source.faults c.args.source.now) (g.S.Source.faults c.reading.source) c.reading.invariant.came c.reading.invariant.few
    (refused_so format c.reading.room c.held.result.now (g.S.Source.left c.reading.source) c.in-Refused.kind (g.S.Source.faults c.args.source.now) (g.S.Source.faults c.reading.source) c.held.ensures
    c.in-Refused.ensures.told)

pub returns-in-Refused-clause-steady : goal.returns-in-Refused-clause-steady
returns-in-Refused-clause-steady g c = λ _. c.reading.invariant.steady

pub returns-in-Refused-clause-never_falls : goal.returns-in-Refused-clause-never_falls
returns-in-Refused-clause-never_falls g c = same_no_less _ _ c.reading.invariant.steady

pub returns-in-Refused-clause-few : goal.returns-in-Refused-clause-few
returns-in-Refused-clause-few g c = c.reading.invariant.few

pub read_more-requires : goal.read_more-requires
read_more-requires g c = has_room c.reading.room c.held.result.now c.in-Wants.field-0 c.held.ensures c.in-Wants.ensures.sound

pub returns-in-Ok-eq0-clause-finds : goal.returns-in-Ok-eq0-clause-finds
returns-in-Ok-eq0-clause-finds g c =
    let format = format_of c.args.form c.args.interfaces.now in
    let opened : IsOpen format c.reading.room = opens_so format c.reading.room c.held.result.now c.in-Wants.field-0 c.held.ensures c.in-Wants.ensures.told in
    end_found format c.args.interfaces.now c.args.room.now c.read_more.new.self (g.S.Source.left c.args.source.now) (g.S.Source.left c.read_more.new.source) c.end_of.result
    (g.S.Source.faults c.args.source.now) (g.S.Source.faults c.read_more.new.source)
    (came_more format c.args.room.now c.reading.room c.read_more.new.self _ _ _ c.in-Ok-eq0.field-0 c.reading.invariant.came opened c.in-Ok-eq0.ensures.more) c.in-Ok-eq0.ensures.few
    (spent_so format c.reading.room c.read_more.new.self c.held-in-Ok-eq0.result.now (g.S.Source.left c.reading.source) (g.S.Source.left c.read_more.new.source) c.in-Ok-eq0.field-0 c.end_of.result
    (g.S.Source.faults c.args.source.now) (g.S.Source.faults c.read_more.new.source) opened c.in-Ok-eq0.ensures.more c.in-Ok-eq0.field-0-test c.held-in-Ok-eq0.ensures (c.end_of.ensures c.args.interfaces.now))

pub returns-in-Ok-eq0-clause-steady : goal.returns-in-Ok-eq0-clause-steady
returns-in-Ok-eq0-clause-steady g c = λ _. c.in-Ok-eq0.ensures.no_fault ∙ c.reading.invariant.steady

pub returns-in-Ok-eq0-clause-never_falls : goal.returns-in-Ok-eq0-clause-never_falls
returns-in-Ok-eq0-clause-never_falls g c = same_no_less _ _ (c.in-Ok-eq0.ensures.no_fault ∙ c.reading.invariant.steady)

pub returns-in-Ok-eq0-clause-few : goal.returns-in-Ok-eq0-clause-few
returns-in-Ok-eq0-clause-few g c = c.in-Ok-eq0.ensures.few

pub reading-preserved : goal.reading-preserved
reading-preserved g c =
    let format = format_of c.args.form c.args.interfaces.now in
    let opened : IsOpen format c.reading.room = opens_so format c.reading.room c.held.result.now c.in-Wants.field-0 c.held.ensures c.in-Wants.ensures.told in
    record {
      came = came_more format c.args.room.now c.reading.room c.read_more.new.self _ _ _ c.in-Ok.field-0 c.reading.invariant.came opened c.in-Ok.ensures.more;
      steady = c.in-Ok.ensures.no_fault ∙ c.reading.invariant.steady;
      few = c.in-Ok.ensures.few;
    }

pub returns-in-Err-clause-finds : goal.returns-in-Err-clause-finds
returns-in-Err-clause-finds g c =
    let format = format_of c.args.form c.args.interfaces.now in
    let opened : IsOpen format c.reading.room = opens_so format c.reading.room c.held.result.now c.in-Wants.field-0 c.held.ensures c.in-Wants.ensures.told in
    let so = fault_so format c.args.room.now c.reading.room c.read_more.new.self (g.S.Source.left c.args.source.now) (g.S.Source.left c.reading.source) (g.S.Source.left c.read_more.new.source)
    (g.S.Source.faults c.args.source.now) (g.S.Source.faults c.reading.source) (g.S.Source.faults c.read_more.new.source) c.reading.invariant.came opened c.in-Err.ensures.kept c.in-Err.ensures.untaken
    c.reading.invariant.steady c.in-Err.ensures.failed in
    end_found format c.args.interfaces.now c.args.room.now c.read_more.new.self (g.S.Source.left c.args.source.now) (g.S.Source.left c.read_more.new.source) ReadFault
    (g.S.Source.faults c.args.source.now) (g.S.Source.faults c.read_more.new.source) so.0 c.in-Err.ensures.few so.1

pub returns-in-Err-clause-steady : goal.returns-in-Err-clause-steady
returns-in-Err-clause-steady g c = λ other. absurd (other refl)

pub returns-in-Err-clause-never_falls : goal.returns-in-Err-clause-never_falls
returns-in-Err-clause-never_falls g c = no_less _ _ _ c.reading.invariant.steady c.in-Err.ensures.never_falls

pub returns-in-Err-clause-few : goal.returns-in-Err-clause-few
returns-in-Err-clause-few g c = c.in-Err.ensures.few
