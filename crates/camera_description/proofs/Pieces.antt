-- Reads, one after the other, and how they end.
use Rattle.std.proofs.Common.{◌≡◌, ℕ, ◌+◌, ◌-◌, ◌<◌, ◌≤◌, false, List, [], ◌∷◌, ◌++◌, Option, Some, None, Result, Ok, Err, refl, ap, sym, subst, ◌∙◌, append_assoc, arith, option_map, inl, inr}
use Rattle.std.proofs.lemmas.List.{append-nil}
use Rattle.std.specs.Prelude.{min}
use Rattle.gvcp_wire.specs.Messages.{read_mem}
use Rattle.client_machine.specs.Machine.{IsIdle}
use Rattle.gev_links.specs.Links.{Address, Answer, IsBlank}
use Rattle.gev_links.specs.Told.{Appends, WritesPart}
use Rattle.gev_links.specs.Given.{ToldOfThree}
use Rattle.link_filters.specs.Strangers.{all_from}
use Rattle.gev_control.specs.declared.acq_end.AcqEnd.{AcqEnd}
use Rattle.gev_control.specs.declared.acq_end.AcqEnd.TheVariants as how
use Rattle.gev_control.specs.declared.carried.Carried.{Carried}
use Rattle.gev_control.specs.Ends.{is_fault_end}
use Rattle.gev_control.specs.Sends.{Fails}
use Rattle.gev_control.specs.OrderTurns.{progress}
use Rattle.gev_control.specs.CarriesOut.{ControlSide, orders_after, CarriesTo}
use Rattle.gev_control.proofs.OrderEnds.{ends_as_told}
use Rattle.link_filters.specs.Reads.{with_memory, heard_since, HasTold, told_count}
use Rattle.camera_description.specs.declared.describe_end.DescribeEnd.{DescribeEnd}
use Rattle.camera_description.specs.declared.describe_end.DescribeEnd.TheVariants.{Done, LinkFault, WriteFault, NoAnswer, Refused}
use Rattle.camera_description.specs.declared.location.Location.{Location}
use Rattle.camera_description.specs.Url.{FIRST_URL}
use Rattle.camera_description.specs.Memory.{PIECE_SIZE, asked_count, memory_in, heard_of, Reads, HasRead}
use Rattle.camera_description.specs.Describing.{end_by, is_fault, second, second_fails, elsewhere, HasCopied, one_more, Copies, whole, unread, unwritten}
use Rattle.camera_description.specs.Locating.{GivesUrl, GivesSecond, GivesLocation}
use Rattle.camera_description.proofs.Hearing.{has_read}

pub has_told : (answers : Option (List Answer)) → HasTold (told_count answers) answers
has_told None = tt
has_told (Some answers) = refl

pub same_heard : (b n a m c k : ℕ) (answers : Option (List Answer)) → b ≡ n → a ≡ m → c ≡ k
    → option_map (heard_since b (with_memory a c)) answers ≡ option_map (heard_since n (with_memory m k)) answers
same_heard b n a m c k answers before address count =
    ap (λ (x : ℕ). option_map (heard_since x (with_memory a c)) answers) before
    ∙ (ap (λ (x : ℕ). option_map (heard_since n (with_memory x c)) answers) address
    ∙ ap (λ (x : ℕ). option_map (heard_since n (with_memory m x)) answers) count)

-- what was carried out over the filter
pub reads_as : (camera : Address) (o n : ControlSide) (address count : ℕ) (h k : Option (List Answer)) (done : Carried)
    → CarriesTo camera (read_mem address count ∷ []) (record o { heard = h }) (record n { heard = k }) done → h ≡ o.heard
    → k ≡ heard_of o.heard address count n.heard → Reads camera o address count n done.end
reads_as camera o n address count h k done carried old new = (
  done.begun,
  subst (λ (x : Option (List Answer)). CarriesTo camera (read_mem address count ∷ []) o (record n { heard = x }) done) new
      (subst (λ (x : Option (List Answer)). CarriesTo camera (read_mem address count ∷ []) (record o { heard = x }) (record n { heard = k }) done) old carried),
)

never_spent : (camera : Address) (o n : ControlSide) (address count : ℕ) → Reads camera o address count n how.Spent → ⊥
never_spent camera o n address count reads =
    let t = reads.1.turns in
    (ends_as_told (read_mem address count ∷ []) (orders_after (read_mem address count ∷ []) (progress o.client 0) t.before) t.last).never_spent t.ended

-- the count of faults, by the end that the read's end is
pub fails_by : (camera : Address) (o n : ControlSide) (address count : ℕ) (end : AcqEnd) (failure : DescribeEnd) (x y : ℕ) → Reads camera o address count n end
    → end_by end ≡ Some failure → Fails false (is_fault_end end) x y → Fails false (is_fault failure) x y
fails_by camera o n address count how.Stopped failure x y reads is fails = let bad : ⊥ = cc in absurd bad
fails_by camera o n address count how.Spent failure x y reads is fails = absurd (never_spent camera o n address count reads)
fails_by camera o n address count how.Fault failure x y reads is fails =
    let same : LinkFault ≡ failure = cc in
    subst (λ (e : DescribeEnd). Fails false (is_fault e) x y) same fails
fails_by camera o n address count (how.NoAnswer req) failure x y reads is fails =
    let same : NoAnswer req ≡ failure = cc in
    subst (λ (e : DescribeEnd). Fails false (is_fault e) x y) same fails
fails_by camera o n address count (how.Refused status) failure x y reads is fails =
    let same : Refused status ≡ failure = cc in
    subst (λ (e : DescribeEnd). Fails false (is_fault e) x y) same fails

-- a read that ended all isn't a stop
pub stopped_by : (end : AcqEnd) → end_by end ≡ None → end ≡ how.Stopped
stopped_by how.Stopped is = refl
stopped_by how.Spent is = let bad : ⊥ = cc in absurd bad
stopped_by how.Fault is = let bad : ⊥ = cc in absurd bad
stopped_by (how.NoAnswer req) is = let bad : ⊥ = cc in absurd bad
stopped_by (how.Refused status) is = let bad : ⊥ = cc in absurd bad

-- One more piece was read.
pub copied_more : (camera : Address) (location : Location) (o m n : ControlSide) (place : ℕ) (text : List ℕ) (end : AcqEnd)
    → HasCopied camera location o place m text → place < location.size → IsIdle m.client
    → Reads camera m (location.address + place) (asked_count (location.size - place)) n end → end_by end ≡ None
    → HasCopied camera location o (place + min (location.size - place) PIECE_SIZE) n
    (text ++ memory_in (min (location.size - place) PIECE_SIZE) n.client.body)
copied_more camera location o m n place text end so below idle reads is =
    one_more place m n text so below
    (has_read camera m n (location.address + place) (asked_count (location.size - place)) idle
    (subst (Reads camera m (location.address + place) (asked_count (location.size - place)) n) (stopped_by end is) reads))

-- what is written, text after text
pub wrote_none : (w : Option (List ℕ)) → Appends w w []
wrote_none None = refl
wrote_none (Some w) = ap (λ (l : List ℕ). Some l) (sym (append-nil w))

pub wrote_then : (w x y : Option (List ℕ)) (xs ys : List ℕ) → Appends w x xs → Appends x y ys → Appends w y (xs ++ ys)
wrote_then None x y xs ys one two = subst (λ (v : Option (List ℕ)). Appends v y ys) one two
wrote_then (Some w) x y xs ys one two =
    let last : Appends (Some (w ++ xs)) y ys = subst (λ (v : Option (List ℕ)). Appends v y ys) one two in
    last ∙ ap (λ (t : List ℕ). Some t) (append_assoc w xs ys)

-- a text, and then a part of another one
pub wrote_part : (w x y : Option (List ℕ)) (text more : List ℕ) → Appends w x text → WritesPart x y more → WritesPart w y (text ++ more)
wrote_part w x y text more all part = record {
  front = text ++ part.front;
  rest = part.rest;
  parts = ap (λ (l : List ℕ). text ++ l) part.parts ∙ sym (append_assoc text part.front part.rest);
  some_left = part.some_left;
  appended = wrote_then w x y text part.front all part.appended;
}

-- a read that stopped had no fault
pub no_fault_by : (end : AcqEnd) (x y : ℕ) → end_by end ≡ None → Fails false (is_fault_end end) x y → y ≡ x
no_fault_by end x y is fails = subst (λ (e : AcqEnd). Fails false (is_fault_end e) x y) (stopped_by end is) fails

-- it was read
pub read_by : (camera : Address) (o n : ControlSide) (address count : ℕ) (end : AcqEnd) → IsIdle o.client → Reads camera o address count n end
    → end_by end ≡ None → HasRead camera o address count n
read_by camera o n address count end idle reads is =
    has_read camera o n address count idle (subst (Reads camera o address count n) (stopped_by end is) reads)

-- the second URL, where the first one tells nothing
pub gives_then : (camera : Address) (o m n : ControlSide) (r : Result Location DescribeEnd) → GivesUrl camera o FIRST_URL m (Ok None) → GivesSecond camera m n r
    → GivesLocation camera o n r
gives_then camera o m n (Ok location) none gives = second m none gives
gives_then camera o m n (Err end) none (inl fails) = second_fails m none fails
gives_then camera o m n (Err end) none (inr other) = elsewhere m none other.0 other.1

-- nothing was told, and so nothing of one address
pub blank_from : (source : ℕ) (answers : Option (List Answer)) → IsBlank answers → IsBlank (option_map (all_from source) answers)
blank_from source None blank = tt
blank_from source (Some answers) blank = ap (all_from source) blank

pub told_back : {A : Type 0} (old before after end : Option (List A)) (x : A) → before ≡ old → ToldOfThree before after x → end ≡ after
    → ToldOfThree old end x
told_back {A = A} old before after end x same told last =
    subst (λ (v : Option (List A)). ToldOfThree v end x) same (subst (λ (v : Option (List A)). ToldOfThree before v x) (sym last) told)

-- ---- how all ends

pub copies_whole : (camera : Address) (location : Location) (o m : ControlSide) (place : ℕ) (text : List ℕ) (w x : Option (List ℕ))
    → HasCopied camera location o place m text → place ≤ location.size → location.size ≤ place → Appends w x text → Copies camera location o m Done w x
copies_whole camera location o m place text w x so few all wrote = record {
  place = place;
  m = m;
  text = text;
  so = so;
  ended = whole refl (omega (arith, few, all)) refl wrote;
}

pub copies_unread : (camera : Address) (location : Location) (o m n : ControlSide) (place : ℕ) (text : List ℕ) (end : AcqEnd) (failure : DescribeEnd)
    (w x : Option (List ℕ)) → HasCopied camera location o place m text → place < location.size
    → Reads camera m (location.address + place) (asked_count (location.size - place)) n end → end_by end ≡ Some failure → Appends w x text
    → Copies camera location o n failure w x
copies_unread camera location o m n place text end failure w x so below reads is wrote = record {
  place = place;
  m = m;
  text = text;
  so = so;
  ended = unread (record { how = end; reads = reads; ended = is }) below wrote;
}

pub copies_unwritten : (camera : Address) (location : Location) (o m n : ControlSide) (place : ℕ) (text : List ℕ) (end : AcqEnd)
    (w x y : Option (List ℕ)) → HasCopied camera location o place m text → place < location.size → IsIdle m.client
    → Reads camera m (location.address + place) (asked_count (location.size - place)) n end → end_by end ≡ None → Appends w x text
    → WritesPart x y (memory_in (min (location.size - place) PIECE_SIZE) n.client.body) → Copies camera location o n WriteFault w y
copies_unwritten camera location o m n place text end w x y so below idle reads is wrote part = record {
  place = place + min (location.size - place) PIECE_SIZE;
  m = n;
  text = text ++ memory_in (min (location.size - place) PIECE_SIZE) n.client.body;
  so = copied_more camera location o m n place text end so below idle reads is;
  ended = unwritten refl refl (wrote_part w x y text (memory_in (min (location.size - place) PIECE_SIZE) n.client.body) wrote part);
}
