-- Turns one after the other, and what is kept of them.
use Rattle.std.proofs.Common.{◌≡◌, ℕ, ◌+◌, ◌<◌, ◌≤◌, Bool, true, false, not, List, [], ◌∷◌, ◌++◌, Option, Some, None, is_some, is_none, Ok, refl, sym, ap, subst, ◌∙◌, arith}
use Rattle.std.specs.Prelude.{◌&&◌}
use Rattle.std.proofs.lemmas.List.{append-nil}
use Rattle.gev_types.specs.declared.peer.Peer.{Peer}
use Rattle.camera_machine.specs.Camera.{Camera}
use Rattle.gev_links.specs.Links.{Adds, Answer, answer_of}
use Rattle.gev_links.specs.Moments.{Tells, TellsEach}
use Rattle.gev_links.proofs.Growing.{tells_none, tells_more, adds_none, adds_then}
use Rattle.gev_serve.specs.Wires.{Wire, SendEnd, all_sent, Sends}
use Rattle.gev_serve.specs.Turns.{Served, arrived, answer_with, block_in}
use Rattle.gev_serve.proofs.Parting.{turn_counts, heard_counts, answer_is}
use Rattle.camera_serving.specs.declared.kinds.TurnKind.{TurnKind}
use Rattle.camera_serving.specs.declared.kinds.TurnKind.TheVariants.{Serving, Framing}
use Rattle.camera_serving.specs.declared.kinds.Made.{Made}
use Rattle.camera_serving.specs.declared.pacing.Pace.{Pace}
use Rattle.camera_serving.specs.Turns.{Turn, sent_by, camera_after, block_by, camera_over, sent_over, answers_over, moments_over, one_if, one_if_framing, frames_over, has_passed, kind_with, next_kind, is_look_due, LOOK_PERIOD, LooksSo}
use Rattle.camera_serving.specs.Pacing.{IsPace, passed}
use Rattle.camera_serving.specs.Turning.{TakesPart, TakesWhole, MakesTurns, Serves}

-- ---- one turn

part_of : (kind : TurnKind) (end : SendEnd) (s : Camera) (v h w : Wire) (told now_told : Option (List ℕ)) (o : Option (ℕ × Peer)) (out : List ℕ) (moment : ℕ)
    → Tells v.received h.received (answer_of (Ok o) out) → h.sent ≡ v.sent → h.faults ≡ v.faults → Tells told now_told moment
    → Sends (sent_by kind s (record { arrived = arrived o out; moment = moment })) end h w → TakesPart kind end s v w told now_told
part_of kind end s v h w told now_told o out moment received unsent unfailed tells sends = record {
  turn = record { arrived = arrived o out; moment = moment };
  heard = h;
  received = subst (λ (a : Answer). Tells v.received h.received a) (answer_is o out) received;
  unsent = unsent;
  unfailed = unfailed;
  moment = tells;
  sends = sends;
}

quiet_is : (o : Option (ℕ × Peer)) (out : List ℕ) (quiet : Bool) → is_some o ≡ not quiet → quiet ≡ is_none (arrived o out)
quiet_is None out true is = refl
quiet_is None out false is = let bad : ⊥ = cc in absurd bad
quiet_is (Some datagram) out true is = let bad : ⊥ = cc in absurd bad
quiet_is (Some datagram) out false is = refl

pub took_whole : (kind : TurnKind) (tells : Made) (s new : Camera) (v h w : Wire) (told now_told : Option (List ℕ)) (o : Option (ℕ × Peer)) (out : List ℕ)
    → Tells v.received h.received (answer_of (Ok o) out) → h.sent ≡ v.sent → h.faults ≡ v.faults → Tells told now_told tells.moment
    → Sends (sent_by kind s (record { arrived = arrived o out; moment = tells.moment })) all_sent h w
    → new ≡ camera_after kind s (record { arrived = arrived o out; moment = tells.moment }) → is_some o ≡ not tells.is_quiet
    → tells.block ≡ block_by kind s (record { arrived = arrived o out; moment = tells.moment }) → TakesWhole kind tells s new v w told now_told
unfolding part_of
took_whole kind tells s new v h w told now_told o out received unsent unfailed moment sends state quiet block = record {
  part = part_of kind all_sent s v h w told now_told o out tells.moment received unsent unfailed moment sends;
  state = state;
  moment = refl;
  is_quiet = quiet_is o out tells.is_quiet quiet;
  block = block;
}

-- what a whole turn sent
all_was_sent : (kind : TurnKind) (tells : Made) (s new : Camera) (v w : Wire) (told now_told : Option (List ℕ)) → (one : TakesWhole kind tells s new v w told now_told)
    → Adds v.sent w.sent (sent_by kind s one.part.turn)
all_was_sent kind tells s new v w told now_told one =
    let sends = one.part.sends in
    let whole : sent_by kind s one.part.turn ≡ sends.done = sends.is ∙ (ap (λ l. sends.done ++ l) sends.ends.0 ∙ append-nil sends.done) in
    subst (λ x. Adds x w.sent (sent_by kind s one.part.turn)) one.part.unsent (subst (λ l. Adds one.part.heard.sent w.sent l) (sym whole) sends.sent)

at_most_one : (block : Option ℕ) → one_if block ≤ 1
at_most_one None = omega arith
at_most_one (Some block) = omega arith

-- a frame comes of a frame turn alone
frames_fit : (kind : TurnKind) (s : Camera) (t : Served) → one_if (block_by kind s t) ≤ one_if_framing kind
frames_fit Serving s t = omega arith
frames_fit Framing s t = at_most_one (block_in s t)

counts_fit : (kind : TurnKind) (s : Camera) (t : Served) → (camera_after kind s t).shelf.count ≤ s.shelf.count + one_if_framing kind
counts_fit Serving s t = let more = heard_counts s t.arrived t.moment in omega (arith, more)
counts_fit Framing s t = turn_counts s t

pub turns_fit : (kind : TurnKind) (turns more most : ℕ) → turns < most → more ≡ turns + one_if_framing kind → more ≤ most
turns_fit Serving turns more most few is = omega (arith, few, is)
turns_fit Framing turns more most few is = omega (arith, few, is)

-- ---- turns

pub serves_first : (rate : ℕ) (with_input : Bool) (s : Camera) (w : Wire) (told left : Option (List ℕ)) → Serves rate with_input s s w w told told left left 0 0 []
serves_first rate with_input s w told left = record {
  on = record { received = tells_none w.received; moments = tells_none told; sent = adds_none w.sent; no_fault = refl; state = refl };
  order = tt;
  looks = refl;
  number = refl;
  frames_are = refl;
  few = omega arith;
  count = omega arith;
}

turns_more : (s now new : Camera) (v w u : Wire) (told mid_told now_told : Option (List ℕ)) (made : List Turn) (kind : TurnKind) (tells : Made)
    → MakesTurns s now v w told mid_told made → (one : TakesWhole kind tells now new w u mid_told now_told)
    → MakesTurns s new v u told now_told (record { kind = kind; served = one.part.turn } ∷ made)
turns_more s now new v w u told mid_told now_told made kind tells on one = record {
  received = subst (λ x. TellsEach v.received x (answers_over made ++ answer_with t.arrived ∷ [])) (sym one.part.sends.received)
      (tells_more v.received w.received one.part.heard.received (answers_over made) (answer_with t.arrived) on.received one.part.received);
  moments = tells_more told mid_told now_told (moments_over made) t.moment on.moments one.part.moment;
  sent = subst (λ (c : Camera). Adds v.sent u.sent (sent_over s made ++ sent_by kind c t)) on.state
      (adds_then v.sent w.sent u.sent (sent_over s made) (sent_by kind now t) on.sent (all_was_sent kind tells now new w u mid_told now_told one));
  no_fault = one.part.sends.ends.1 ∙ (one.part.unfailed ∙ on.no_fault);
  state = one.state ∙ ap (λ (c : Camera). camera_after kind c t) on.state;
}
  where
    t : Served
    t = one.part.turn

pub serves_more : (rate : ℕ) (with_input : Bool) (s now new : Camera) (v w u : Wire) (told mid_told now_told left middle now_left : Option (List ℕ))
    (turns frames more_turns more : ℕ) (made : List Turn) (kind : TurnKind) (tells : Made)
    → Serves rate with_input s now v w told mid_told left middle turns frames made → kind ≡ next_kind rate made
    → LooksSo false (with_input && is_look_due made) middle now_left → (one : TakesWhole kind tells now new w u mid_told now_told)
    → more_turns ≡ turns + one_if_framing kind → more ≡ frames + one_if tells.block
    → Serves rate with_input s new v u told now_told left now_left more_turns more (record { kind = kind; served = one.part.turn } ∷ made)
serves_more rate with_input s now new v w u told mid_told now_told left middle now_left turns frames more_turns more made kind tells h is look one turns_are frames_are = record {
  on = turns_more s now new v w u told mid_told now_told made kind tells h.on one;
  order = (h.order, is);
  looks = (middle, h.looks, look);
  number = omega (arith, h.number, turns_are);
  frames_are =
      let same : one_if tells.block ≡ one_if (block_by kind (camera_over s made) one.part.turn) =
      ap one_if (one.block ∙ ap (λ (c : Camera). block_by kind c one.part.turn) h.on.state) in
      omega (arith, same, h.frames_are, frames_are);
  few =
      let same : one_if tells.block ≡ one_if (block_by kind now one.part.turn) = ap one_if one.block in
      let few = frames_fit kind now one.part.turn in
      omega (arith, same, few, h.few, turns_are, frames_are);
  count =
      let same = ap (λ (c : Camera). c.shelf.count) one.state in
      let few = counts_fit kind now one.part.turn in
      omega (arith, same, few, h.count, turns_are);
}

-- ---- what is kept of them

pub pace_more : (rate : ℕ) (made : List Turn) (p : Pace) (kind : TurnKind) (tells : Made) (t : Served) → IsPace rate made p → tells.moment ≡ t.moment
    → tells.is_quiet ≡ is_none t.arrived → IsPace rate (record { kind = kind; served = t } ∷ made) (passed p kind tells)
pace_more rate made p kind tells t h moment quiet = record {
  period_is = h.period_is;
  framed = rw (moment, h.framed) refl;
  latest = moment;
  left = rw (quiet, h.left) refl;
  looked = rw (moment, h.looked, h.latest) refl;
}

pub kind_is : (rate : ℕ) (made : List Turn) (p : Pace) → IsPace rate made p → kind_with p.period p.framed p.latest p.left ≡ next_kind rate made
kind_is rate made p h = rw (h.period_is, h.framed, h.latest, h.left) refl

pub due_is : (rate : ℕ) (made : List Turn) (p : Pace) → IsPace rate made p → has_passed LOOK_PERIOD p.looked p.latest ≡ is_look_due made
due_is rate made p h = rw (h.looked, h.latest) refl

pub look_is : (rate : ℕ) (made : List Turn) (p : Pace) (ended with_input : Bool) (left left_after : Option (List ℕ)) → IsPace rate made p
    → LooksSo ended (with_input && has_passed LOOK_PERIOD p.looked p.latest) left left_after → LooksSo ended (with_input && is_look_due made) left left_after
look_is rate made p ended with_input left left_after h look =
    subst (λ (due : Bool). LooksSo ended (with_input && due) left left_after) (due_is rate made p h) look
