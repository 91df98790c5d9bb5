-- Under a map of frames.
use Rattle.std.proofs.Common.{◌≡◌, inl, inr, ℕ, ◌≤◌, List, [], ◌∷◌, ◌++◌, sym, subst}
use Rattle.std.specs.Prelude.{Option, Some, None}
use Rattle.std.specs.List.{AllByRecursion}
use Rattle.std.proofs.lemmas.List.Elements.{recursion_from_All, All-from_recursion}
use Rattle.gev_types.specs.declared.frame.Frame.{Frame}
use Rattle.stream_packets.specs.Packets.{StreamPacket}
use Rattle.stream_packets.specs.Sent.{IsSent}
use Rattle.block_image.specs.OneBlock.{AreSent}
use Rattle.block_image.proofs.OneBlockLemmas.{complete_is_frame, records_tell_their_frame, bytes_are_in_place, all_packets_complete}
use Rattle.acquisition_machine.specs.declared.config.AcqConfig.{AcqConfig}
use Rattle.acquisition_machine.specs.Blocks.{Given, Open, Retirement, ranges_asked, after_asking}
use Rattle.acquisition_machine.specs.Machine.{Input, State, step}
use Rattle.acquisition_machine.specs.Runs.{first_state, after_from, After, packets_in}
use Rattle.acquisition_machine.specs.Sound.{IsSound}
use Rattle.acquisition_machine.specs.FrameLaws.{HoldsIfGiven, HoldFrames, FillsKeepFrames}
use Rattle.acquisition_machine.proofs.Order.{all_append, all_front, all_back, all_weaker}
use Rattle.acquisition_machine.proofs.Turned.{Hears}
use Rattle.acquisition_machine.proofs.Window.{run_sound, blocks_are_in_order}
use Rattle.acquisition_machine.proofs.Keeping.{Keeps, step_all, run_all}
use Rattle.acquisition_machine.proofs.Joining.{after_from-append, packets_in-append}

-- all packets that came for a block were sent
abbrev HeardSent : (ℕ → Option Frame) → ℕ → Open → Type 0
HeardSent frames p o = AllByRecursion (IsSent frames p) o.heard

sent_hears : (frames : ℕ → Option Frame) (p now : ℕ) (x : StreamPacket) (o n : Open) → IsSent frames p x → Hears now x o n → HeardSent frames p o → HeardSent frames p n
sent_hears frames p now x o n sent (inl e) a = subst (HeardSent frames p) (sym e) (all_append (IsSent frames p) o.heard (x ∷ []) a (sent, tt))
sent_hears frames p now x o n sent (inr e) a = subst (HeardSent frames p) (sym e) (all_append (IsSent frames p) o.heard (x ∷ []) a (sent, tt))

sent_round : (frames : ℕ → Option Frame) (p now : ℕ) (o : Open) (rs : List (ℕ × ℕ)) → HeardSent frames p o → HeardSent frames p (after_asking now o rs)
sent_round frames p now o [] a = a
sent_round frames p now o (r ∷ rs) a = a

keeps_sent : (c : AcqConfig) (frames : ℕ → Option Frame) → Keeps c (HeardSent frames c.p) (IsSent frames c.p)
keeps_sent c frames = record {
  opening = λ b given now. tt;
  hears = λ now x o n. sent_hears frames c.p now x o n;
  round = λ now o. sent_round frames c.p now o (ranges_asked c now o);
}

sent_of : (frames : ℕ → Option Frame) (p : ℕ) (xs : List StreamPacket) (o : Open) → AreSent frames p xs → HeardSent frames p o → AreSent frames p o.heard
sent_of frames p xs o s a = record {
  are_frames = s.are_frames;
  payload_size = s.payload_size;
  sent = All-from_recursion (IsSent frames p) o.heard a;
}

holds_given : (frames : ℕ → Option Frame) (p : ℕ) (r : Retirement) (given : Option Given) → AreSent frames p r.was.heard → HoldsIfGiven frames p r given
holds_given frames p r None s = tt
holds_given frames p r (Some g) s = record {
  complete = λ whole.
      let h = complete_is_frame frames p r.was.block g.size r.was.heard s whole in
      record { frame = h.frame; of_block = h.of_block; data_len = h.data_len; pixels = h.pixels; image = h.image };
  in_place = bytes_are_in_place frames p r.was.block g.size r.was.heard s;
  tells = λ frame info is tells. records_tell_their_frame frames p r.was.block g.size r.was.heard frame info s is tells;
  whole = λ frame is fits all. all_packets_complete frames p r.was.block g.size r.was.heard frame s is fits all;
}

-- one turn from such a state
fills_from : (frames : ℕ → Option Frame) (c : AcqConfig) (s : State) (rest : List Input) (i : Input) → 1 ≤ c.window → IsSound c s → s.opens ≡ [] → AreSent frames c.p (packets_in (rest ++ i ∷ [])) → HoldFrames frames c.p (step c (after_from c s rest) i).retired
fills_from frames c s rest i some sound none sent =
    let X : StreamPacket → Type 0 = IsSent frames c.p in
    let came = subst (λ l. AllByRecursion X l) (packets_in-append rest (i ∷ [])) (recursion_from_All X (packets_in (rest ++ i ∷ [])) sent.sent) in
    let k = keeps_sent c frames in
    let first : AllByRecursion (HeardSent frames c.p) s.opens = subst (λ l. AllByRecursion (HeardSent frames c.p) l) (sym none) tt in
    let opens = run_all c (HeardSent frames c.p) X s rest some sound k (all_front X (packets_in rest) (packets_in (i ∷ [])) came) first in
    let all = step_all c (HeardSent frames c.p) X (after_from c s rest) i some (run_sound c s rest some sound) k (all_back X (packets_in rest) (packets_in (i ∷ [])) came) opens in
    all_weaker (λ (r : Retirement). HeardSent frames c.p r.was) (λ (r : Retirement). HoldsIfGiven frames c.p r r.was.given)
    (λ r a. holds_given frames c.p r r.was.given (sent_of frames c.p (packets_in (rest ++ i ∷ [])) r.was sent a))
    (step c (after_from c s rest) i).retired all.retired

pub fills_keep_frames : FillsKeepFrames
fills_keep_frames frames c q rest i some none sent =
    subst (λ s. HoldFrames frames c.p (step c s i).retired) (sym (after_from-append c first_state q rest))
    (fills_from frames c (After c q) rest i some (blocks_are_in_order c q some) none sent)
