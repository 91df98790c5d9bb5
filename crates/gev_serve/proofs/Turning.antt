-- Turns one after the other.
use Rattle.std.proofs.Common.{◌≡◌, ℕ, ◌+◌, List, [], ◌∷◌, ◌++◌, Option, refl, sym, ap, subst, ◌∙◌, append_assoc, length-append, arith}
use Rattle.std.proofs.lemmas.List.{append-nil}
use Rattle.board_machine.specs.declared.events.Event.TheVariants.{LookRun}
use Rattle.buffer_words.specs.Passes.{Token, Enters}
use Rattle.buffer_words.specs.Several.{EntersEach}
use Rattle.buffer_words.proofs.Several.{each_none, each_push}
use Rattle.camera_machine.specs.Camera.{Camera}
use Rattle.gev_links.specs.Links.{Adds}
use Rattle.gev_links.specs.Moments.{TellsEach}
use Rattle.gev_links.proofs.Growing.{tells_none, tells_more, adds_none, adds_then}
use Rattle.gev_serve.specs.Wires.{Wire}
use Rattle.gev_serve.specs.Turns.{Served, answer_with, framed_turn, sent_in, after_turns, sent_over, answers_in, moments_in, looks_in}
use Rattle.gev_serve.specs.Serving.{MakesWhole, TurnsOn, ServesOn}
use Rattle.gev_serve.proofs.Parting.{turn_counts}

pub after-push : (s : Camera) (ts : List Served) (t : Served) → after_turns s (ts ++ t ∷ []) ≡ (framed_turn (after_turns s ts) t).camera
after-push s [] t = refl
after-push s (x ∷ ts) t = after-push (framed_turn s x).camera ts t

pub sent-push : (s : Camera) (ts : List Served) (t : Served) → sent_over s (ts ++ t ∷ []) ≡ sent_over s ts ++ sent_in (after_turns s ts) t
sent-push s [] t = append-nil (sent_in s t)
sent-push s (x ∷ ts) t =
    ap (λ l. sent_in s x ++ l) (sent-push (framed_turn s x).camera ts t)
    ∙ sym (append_assoc (sent_in s x) (sent_over (framed_turn s x).camera ts) (sent_in (after_turns (framed_turn s x).camera ts) t))

pub answers-push : (ts : List Served) (t : Served) → answers_in (ts ++ t ∷ []) ≡ answers_in ts ++ answer_with t.arrived ∷ []
answers-push [] t = refl
answers-push (x ∷ ts) t = ap (λ l. answer_with x.arrived ∷ l) (answers-push ts t)

pub moments-push : (ts : List Served) (t : Served) → moments_in (ts ++ t ∷ []) ≡ moments_in ts ++ t.moment ∷ []
moments-push [] t = refl
moments-push (x ∷ ts) t = ap (λ l. x.moment ∷ l) (moments-push ts t)

looks-push : (ts : List Served) (t : Served) → looks_in (ts ++ t ∷ []) ≡ looks_in ts ++ LookRun 1 ∷ []
looks-push [] t = refl
looks-push (x ∷ ts) t = ap (λ l. LookRun 1 ∷ l) (looks-push ts t)

pub serves_first : (s : Camera) (w : Wire) (told : Option (List ℕ)) (p : Token) → ServesOn s s w w told told p p 0
serves_first s w told p = record {
  made = [];
  on = record { entries = each_none p; received = tells_none w.received; moments = tells_none told; sent = adds_none w.sent; no_fault = refl; state = refl };
  number = refl;
  count = omega arith;
}

-- what a whole part sent
pub all_was_sent : (s : Camera) (v w : Wire) (told now_told : Option (List ℕ)) (new : Camera) → (one : MakesWhole s new v w told now_told)
    → Adds v.sent w.sent (sent_in s one.part.turn)
all_was_sent s v w told now_told new one =
    let sends = one.part.sends in
    let whole : sent_in s one.part.turn ≡ sends.done = sends.is ∙ (ap (λ l. sends.done ++ l) sends.ends.0 ∙ append-nil sends.done) in
    subst (λ x. Adds x w.sent (sent_in s one.part.turn)) one.part.unsent (subst (λ l. Adds one.part.heard.sent w.sent l) (sym whole) sends.sent)

turns_more : (s now new : Camera) (v w u : Wire) (told mid_told now_told : Option (List ℕ)) (p q r : Token) (made : List Served)
    → TurnsOn s now v w told mid_told p q made → Enters q (LookRun 1) r → (one : MakesWhole now new w u mid_told now_told)
    → TurnsOn s new v u told now_told p r (made ++ one.part.turn ∷ [])
turns_more s now new v w u told mid_told now_told p q r made on look one = record {
  entries = subst (λ l. EntersEach p l r) (sym (looks-push made t)) (each_push p q r (looks_in made) (LookRun 1) on.entries look refl);
  received = subst (λ l. TellsEach v.received u.received l) (sym (answers-push made t))
      (subst (λ x. TellsEach v.received x (answers_in made ++ answer_with t.arrived ∷ [])) (sym one.part.sends.received)
      (tells_more v.received w.received one.part.heard.received (answers_in made) (answer_with t.arrived) on.received one.part.received));
  moments = subst (λ l. TellsEach told now_told l) (sym (moments-push made t))
      (tells_more told mid_told now_told (moments_in made) t.moment on.moments one.part.moment);
  sent = subst (λ l. Adds v.sent u.sent l) (sym (sent-push s made t))
      (subst (λ (c : Camera). Adds v.sent u.sent (sent_over s made ++ sent_in c t)) on.state
      (adds_then v.sent w.sent u.sent (sent_over s made) (sent_in now t) on.sent (all_was_sent now w u mid_told now_told new one)));
  no_fault = one.part.sends.ends.1 ∙ (one.part.unfailed ∙ on.no_fault);
  state = one.state ∙ (ap (λ (c : Camera). (framed_turn c t).camera) on.state ∙ sym (after-push s made t));
}
  where
    t : Served
    t = one.part.turn

pub serves_more : (s now new : Camera) (v w u : Wire) (told mid_told now_told : Option (List ℕ)) (p q r : Token) (n : ℕ)
    → ServesOn s now v w told mid_told p q n → Enters q (LookRun 1) r → MakesWhole now new w u mid_told now_told
    → ServesOn s new v u told now_told p r (n + 1)
serves_more s now new v w u told mid_told now_told p q r n h look one = record {
  made = h.made ++ one.part.turn ∷ [];
  on = turns_more s now new v w u told mid_told now_told p q r h.made h.on look one;
  number = omega (arith, length-append h.made (one.part.turn ∷ []), h.number);
  count =
      let is = ap (λ (c : Camera). c.shelf.count) one.state in
      let more = turn_counts now one.part.turn in
      omega (arith, is, more, h.count);
}

-- one more turn, after a look that found the acquisition running
pub goes_on : (s now new : Camera) (v w u : Wire) (told mid_told now_told : Option (List ℕ)) (p q r : Token) (n run : ℕ)
    → ServesOn s now v w told mid_told p q n → Enters q (LookRun run) r → run ≡ 1 → MakesWhole now new w u mid_told now_told
    → ServesOn s new v u told now_told p r (n + 1)
goes_on s now new v w u told mid_told now_told p q r n run h look one whole =
    serves_more s now new v w u told mid_told now_told p q r n h (subst (λ k. Enters q (LookRun k) r) one look) whole
