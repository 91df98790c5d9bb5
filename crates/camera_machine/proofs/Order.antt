-- Packets are given in order.
use Rattle.std.proofs.Common.{◌≡◌, ℕ, zero, suc, true, List, [], ◌∷◌, ◌++◌, length, drop, length-drop, Some, refl, ap, ◌∙◌, arith}
use Rattle.std.specs.Prelude.{slice_get, option_to_list}
use Rattle.gev_types.specs.declared.frame.Shape.{Shape}
use Rattle.stream_packets.specs.Packets.{StreamPacket}
use Rattle.camera_machine.specs.Camera.{Camera, Job, new_camera}
use Rattle.camera_machine.specs.Stream.{has_packets, all_waiting, waiting_count, first_of, first_waiting, rest_of, without_first, packets_given, after_given}
use Rattle.camera_machine.specs.Events.{Event, after}
use Rattle.camera_machine.specs.Laws.{AreFilled}
use Rattle.camera_machine.specs.Sending.{PacketsComeInOrder}
use Rattle.camera_machine.proofs.Jobs.{filled_rest}
use Rattle.camera_machine.proofs.Past.{state_says}

-- the packet that waits first, and the others
pub first_and_rest : (jobs : List Job) (x : StreamPacket) → first_waiting jobs ≡ Some x → all_waiting jobs ≡ x ∷ all_waiting (without_first jobs)
first_and_rest [] x e = absurd (cc)
first_and_rest (job ∷ jobs) x e = go job.packets e
  where
    go : (packets : List StreamPacket) → first_waiting (record job { packets = packets } ∷ jobs) ≡ Some x
        → all_waiting (record job { packets = packets } ∷ jobs) ≡ x ∷ all_waiting (without_first (record job { packets = packets } ∷ jobs))
    go [] e = absurd (cc)
    go (y ∷ []) e = let same : y ≡ x = cc in ap (λ (v : StreamPacket). v ∷ all_waiting jobs) same
    go (y ∷ z ∷ ys) e = let same : y ≡ x = cc in ap (λ (v : StreamPacket). v ∷ z ∷ ys ++ all_waiting jobs) same

first_is : (jobs : List Job) → AreFilled jobs → first_waiting jobs ≡ slice_get (all_waiting jobs) 0
first_is [] h = refl
first_is (job ∷ jobs) h = go job.packets h.0
  where
    go : (packets : List StreamPacket) → has_packets packets ≡ true → first_of packets ≡ slice_get (packets ++ all_waiting jobs) 0
    go [] e = absurd (cc)
    go (x ∷ xs) e = refl

rest_is : (jobs : List Job) → AreFilled jobs → all_waiting (without_first jobs) ≡ drop 1 (all_waiting jobs)
rest_is [] h = refl
rest_is (job ∷ jobs) h = go job.packets h.0
  where
    go : (packets : List StreamPacket) → has_packets packets ≡ true → all_waiting (rest_of job.is_reply packets jobs) ≡ drop 1 (packets ++ all_waiting jobs)
    go [] e = absurd (cc)
    go (x ∷ []) e = refl
    go (x ∷ y ∷ ys) e = refl

-- the first and the rest are all
joined : (job : Job) (jobs : List Job) → AreFilled (job ∷ jobs)
    → option_to_list (first_waiting (job ∷ jobs)) ++ all_waiting (without_first (job ∷ jobs)) ≡ all_waiting (job ∷ jobs)
joined job jobs h = go job.packets h.0
  where
    go : (packets : List StreamPacket) → has_packets packets ≡ true
        → option_to_list (first_of packets) ++ all_waiting (rest_of job.is_reply packets jobs) ≡ packets ++ all_waiting jobs
    go [] e = absurd (cc)
    go (x ∷ []) e = refl
    go (x ∷ y ∷ ys) e = refl

-- What so many calls give and leave.
record GivesAll (s : Camera) (n : ℕ) (jobs : List Job) : Type 0 where
  packets : packets_given n (record s { waiting = jobs }) ≡ all_waiting jobs
  left : after_given n (record s { waiting = jobs }) ≡ record s { waiting = [] }

gives_all : (s : Camera) (n : ℕ) (jobs : List Job) → AreFilled jobs → length (all_waiting jobs) ≡ n → GivesAll s n jobs
gives_all s zero [] h e = record { packets = refl; left = refl }
gives_all s zero (job ∷ jobs) h e = go job.packets h.0 e
  where
    go : (packets : List StreamPacket) → has_packets packets ≡ true → length (packets ++ all_waiting jobs) ≡ 0 → GivesAll s zero (job ∷ jobs)
    go [] f e = absurd (cc)
    go (x ∷ xs) f e = absurd (omega arith)
gives_all s (suc n) [] h e = absurd (omega arith)
gives_all s (suc n) (job ∷ jobs) h e =
    let fewer : length (all_waiting (without_first (job ∷ jobs))) ≡ n =
    omega (arith, ap length (rest_is (job ∷ jobs) h), length-drop 1 (all_waiting (job ∷ jobs)), e) in
    let rest : GivesAll s n (without_first (job ∷ jobs)) = gives_all s n (without_first (job ∷ jobs)) (filled_rest (job ∷ jobs) h) fewer in
    record {
      packets = ap (λ (xs : List StreamPacket). option_to_list (first_waiting (job ∷ jobs)) ++ xs) rest.packets ∙ joined job jobs h;
      left = rest.left;
    }

pub in_order : (seed : ℕ) (shape : Shape) (room : ℕ) (es : List Event) → PacketsComeInOrder seed shape room es
in_order seed shape room es =
    let filled : AreFilled (after (new_camera seed shape room) es).waiting = (state_says seed shape room es).waiting in
    let all : GivesAll (after (new_camera seed shape room) es) (waiting_count (after (new_camera seed shape room) es)) (after (new_camera seed shape room) es).waiting =
    gives_all (after (new_camera seed shape room) es) (waiting_count (after (new_camera seed shape room) es)) (after (new_camera seed shape room) es).waiting filled refl in
    record { first = first_is (after (new_camera seed shape room) es).waiting filled; rest = rest_is (after (new_camera seed shape room) es).waiting filled; all = all.packets; emptied = all.left }
