-- What open blocks keep, whatever comes.
use Rattle.std.proofs.Common.{◌≡◌, ◌⊎◌, inl, inr, ℕ, ◌≤◌, List, [], ◌∷◌, ◌++◌, sym, subst}
use Rattle.std.specs.Prelude.{Option, Some}
use Rattle.std.specs.List.{AllByRecursion}
use Rattle.stream_packets.specs.Packets.{StreamPacket}
use Rattle.gvsp_wire.specs.Reading.{packet_of}
use Rattle.acquisition_machine.specs.declared.config.AcqConfig.{AcqConfig}
use Rattle.acquisition_machine.specs.Blocks.{Given, Open, Retirement, opened, after_round}
use Rattle.acquisition_machine.specs.Machine.{Input, datagram, State, Turn, after_rounds, step}
use Rattle.acquisition_machine.specs.Runs.{after_from, packets_in, with_packet}
use Rattle.acquisition_machine.specs.Sound.{IsSound}
use Rattle.acquisition_machine.proofs.Order.{all_append, all_front, all_back}
use Rattle.acquisition_machine.proofs.Retiring.{were}
use Rattle.acquisition_machine.proofs.Turned.{Hears, Changed, nothing, passed, heard, taken, Turned, turned}
use Rattle.acquisition_machine.proofs.Window.{step_sound}
use Rattle.acquisition_machine.proofs.Joining.{packets_in-append}

-- P holds of each block as it is opened, and is kept by packets for which X holds and by rounds.
pub record Keeps (c : AcqConfig) (P : Open → Type 0) (X : StreamPacket → Type 0) : Type 0 where
  pub opening : (b : ℕ) (given : Option Given) (now : ℕ) → P (opened b given now)
  pub hears : (now : ℕ) (x : StreamPacket) (o n : Open) → X x → Hears now x o n → P o → P n
  pub round : (now : ℕ) (o : Open) → P o → P (after_round c now o)

-- one of a list of blocks is another
pub all_swap : (P : Open → Type 0) (front : List Open) (o n : Open) (back : List Open) → AllByRecursion P (front ++ o ∷ back) → (P o → P n) → AllByRecursion P (front ++ n ∷ back)
all_swap P front o n back a f =
    let rest = all_back P front (o ∷ back) a in
    all_append P front (n ∷ back) (all_front P front (o ∷ back) a) (f rest.0, rest.1)

pub all_were : (P : Open → Type 0) (rs : List Retirement) → AllByRecursion P (were rs) → AllByRecursion (λ r. P r.was) rs
all_were P [] a = tt
all_were P (r ∷ rs) a = (a.0, all_were P rs a.1)

all_rounds : (c : AcqConfig) (P : Open → Type 0) (X : StreamPacket → Type 0) (now : ℕ) (os : List Open) → Keeps c P X → AllByRecursion P os → AllByRecursion P (after_rounds c now os)
all_rounds c P X now [] k a = tt
all_rounds c P X now (o ∷ os) k a = (k.round now o a.0, all_rounds c P X now os k a.1)

the_packet : (X : StreamPacket → Type 0) (bytes : List ℕ) (x : StreamPacket) → packet_of bytes ≡ Some x → AllByRecursion X (packets_in (datagram bytes ∷ [])) → X x
the_packet X bytes x is a = (subst (λ o. AllByRecursion X (with_packet o [])) is a).0

all_changed : (c : AcqConfig) (P : Open → Type 0) (X : StreamPacket → Type 0) (s : State) {i : Input} {mid : List Open} → Keeps c P X → AllByRecursion X (packets_in (i ∷ [])) → AllByRecursion P s.opens → Changed s i mid → AllByRecursion P mid
all_changed c P X s k xs a (nothing none) = a
all_changed c P X s k xs a (passed bytes x is others) = a
all_changed c P X s k xs a (heard bytes x o n f is h) =
    all_swap P f.front o n f.back (subst (λ l. AllByRecursion P l) f.parts a)
    (λ p. k.hears s.now x o n (the_packet X bytes x is xs) h p)
all_changed c P X s k xs a (taken b given f e) =
    let were = subst (λ l. AllByRecursion P l) f.was a in
    all_append P f.front (opened b given s.now ∷ f.back) (all_front P f.front f.back were) (k.opening b given s.now, all_back P f.front f.back were)

-- what holds of all blocks, the open and the retired ones
pub record AllOf (P : Open → Type 0) (t : Turn) : Type 0 where
  pub opens : AllByRecursion P t.after.opens
  pub retired : AllByRecursion (λ r. P r.was) t.retired

all_opens : (c : AcqConfig) (P : Open → Type 0) (X : StreamPacket → Type 0) (now : ℕ) (rest opens : List Open) → Keeps c P X → (opens ≡ rest) ⊎ (opens ≡ after_rounds c now rest) → AllByRecursion P rest → AllByRecursion P opens
all_opens c P X now rest opens k (inl e) a = subst (λ l. AllByRecursion P l) (sym e) a
all_opens c P X now rest opens k (inr e) a = subst (λ l. AllByRecursion P l) (sym e) (all_rounds c P X now rest k a)

all_turned : (c : AcqConfig) (P : Open → Type 0) (X : StreamPacket → Type 0) (s : State) (i : Input) (t : Turn) → Keeps c P X → AllByRecursion X (packets_in (i ∷ [])) → AllByRecursion P s.opens → Turned c s i t → AllOf P t
all_turned c P X s i t k xs a d =
    let all = subst (λ l. AllByRecursion P l) (sym d.parts) (all_changed c P X s k xs a d.changed) in
    record {
      opens = all_opens c P X t.after.now d.rest t.after.opens k d.opens (all_back P (were t.retired) d.rest all);
      retired = all_were P t.retired (all_front P (were t.retired) d.rest all);
    }

pub step_all : (c : AcqConfig) (P : Open → Type 0) (X : StreamPacket → Type 0) (s : State) (i : Input) → 1 ≤ c.window → IsSound c s → Keeps c P X → AllByRecursion X (packets_in (i ∷ [])) → AllByRecursion P s.opens → AllOf P (step c s i)
step_all c P X s i some sound k xs a = all_turned c P X s i (step c s i) k xs a (turned c s i some sound)

pub run_all : (c : AcqConfig) (P : Open → Type 0) (X : StreamPacket → Type 0) (s : State) (q : List Input) → 1 ≤ c.window → IsSound c s → Keeps c P X → AllByRecursion X (packets_in q) → AllByRecursion P s.opens → AllByRecursion P (after_from c s q).opens
run_all c P X s [] some sound k xs a = a
run_all c P X s (i ∷ q) some sound k xs a =
    let both = subst (λ l. AllByRecursion X l) (packets_in-append (i ∷ []) q) xs in
    run_all c P X (step c s i).after q some (step_sound c s i some sound) k
    (all_back X (packets_in (i ∷ [])) (packets_in q) both)
    (step_all c P X s i some sound k (all_front X (packets_in (i ∷ [])) (packets_in q) both) a).opens
