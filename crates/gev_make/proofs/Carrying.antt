-- Lemmas on packets that are put into the network.
use Rattle.std.proofs.Common.{◌≡◌, inl, inr, ℕ, suc, ◌+◌, ◌-◌, ◌≤◌, List, [], ◌∷◌, ◌++◌, length, take, drop, min, refl, ap, sym, ◌∙◌, arith, add-one, length-drop, drop_of_length-le}
use Rattle.std.proofs.lemmas.Bool.{cases_lt}
use Rattle.std.proofs.lemmas.List.{append-nil, take-append-drop}
use Rattle.std.proofs.Math.Seq.{take-append_seam}
use Rattle.gev_types.specs.declared.frame.Frame.{Frame}
use Rattle.stream_packets.specs.Packets.{StreamPacket, leader, payload, trailer}
use Rattle.stream_packets.specs.FramePackets.{sent_head, leader_info, payload_count, payload_bytes, payloads_of, packets_of}
use Rattle.gvsp_wire.specs.Plain.{plain}
use Rattle.gev_make.specs.declared.network.Network.{Network}
use Rattle.gev_make.specs.Network.{carried, all_carried}

pub all_carried-append : (n : Network) (xs ys : List StreamPacket) → all_carried n (xs ++ ys) ≡ all_carried (all_carried n xs) ys
all_carried-append n [] ys = refl
all_carried-append n (x ∷ xs) ys = all_carried-append (carried n (plain x)) xs ys

-- what was written to the front of a buffer
pub take_written : (x bytes rest : List ℕ) (n : ℕ) → bytes ≡ x ++ rest → n ≡ length x → take n bytes ≡ x
take_written x bytes rest n e k = ap (take n) e ∙ (ap (λ (m : ℕ). take m (x ++ rest)) k ∙ take-append_seam x rest)

pub payloads_more : (start now after : Network) (frame : Frame) (p k : ℕ) (bytes : List ℕ) → now ≡ all_carried start (payloads_of frame p k)
    → after ≡ carried now (plain (payload (sent_head frame (k + 1)) bytes)) → bytes ≡ payload_bytes p frame.pixels (k + 1)
    → after ≡ all_carried start (payloads_of frame p (k + 1))
payloads_more start now after frame p k bytes h e b = rw add-one (
    e ∙ (ap (λ (n : Network). carried n (plain (payload (sent_head frame (k + 1)) bytes))) h
    ∙ (ap (λ (d : List ℕ). carried (all_carried start (payloads_of frame p k)) (plain (payload (sent_head frame (k + 1)) d))) b
    ∙ rw add-one (sym (all_carried-append start (payloads_of frame p k) (payload (sent_head frame (suc k)) (payload_bytes p frame.pixels (suc k)) ∷ []))))))

pub packets_are : (old first now after : Network) (frame : Frame) (p n : ℕ)
    → first ≡ carried old (plain (leader (sent_head frame 0) (leader_info frame)))
    → now ≡ all_carried first (payloads_of frame p n) → n ≡ payload_count p (length frame.pixels)
    → after ≡ carried now (plain (trailer (sent_head frame (n + 1)) frame.rows))
    → after ≡ all_carried old (packets_of frame p)
packets_are old first now after frame p n f h c e =
    let whole : after ≡ all_carried first (payloads_of frame p n ++ trailer (sent_head frame (n + 1)) frame.rows ∷ []) =
    e ∙ (ap (λ (m : Network). carried m (plain (trailer (sent_head frame (n + 1)) frame.rows))) h
    ∙ sym (all_carried-append first (payloads_of frame p n) (trailer (sent_head frame (n + 1)) frame.rows ∷ []))) in
    let at : all_carried first (payloads_of frame p n ++ trailer (sent_head frame (n + 1)) frame.rows ∷ [])
    ≡ all_carried (carried old (plain (leader (sent_head frame 0) (leader_info frame)))) (payloads_of frame p n ++ trailer (sent_head frame (n + 1)) frame.rows ∷ []) =
    ap (λ (m : Network). all_carried m (payloads_of frame p n ++ trailer (sent_head frame (n + 1)) frame.rows ∷ [])) f in
    whole ∙ (at ∙ ap (λ (m : ℕ). all_carried (carried old (plain (leader (sent_head frame 0) (leader_info frame)))) (payloads_of frame p m ++ trailer (sent_head frame (m + 1)) frame.rows ∷ [])) c)

take_whole : (xs : List ℕ) (n : ℕ) → length xs ≤ n → take n xs ≡ xs
take_whole xs n h =
    sym (append-nil (take n xs)) ∙ (ap (λ (l : List ℕ). take n xs ++ l) (sym (drop_of_length-le xs h)) ∙ take-append-drop n xs)

-- at most n bytes of a list
take_least : (xs : List ℕ) (m n : ℕ) → m ≡ min (length xs) n → take m xs ≡ take n xs
take_least xs m n e =
    elim (cases_lt n (length xs)) [
      | inl less ↦ (let same : m ≡ n = omega arith in ap (λ (k : ℕ). take k xs) same)
      | inr more ↦ (let all : length xs ≤ m = omega arith in take_whole xs m all ∙ sym (take_whole xs n more))
    ]

-- at most n bytes from a place on, as a slice of a slice
pub taken_from : (xs : List ℕ) (start m n : ℕ) → m ≡ min (length (take (length xs - start) (drop start xs))) n
    → take m (take (length xs - start) (drop start xs)) ≡ take n (drop start xs)
taken_from xs start m n e =
    let rest : take (length xs - start) (drop start xs) ≡ drop start xs = take_whole (drop start xs) (length xs - start) (omega (arith, length-drop start xs)) in
    take_least (take (length xs - start) (drop start xs)) m n e ∙ ap (take n) rest
