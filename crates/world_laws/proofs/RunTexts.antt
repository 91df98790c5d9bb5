-- What a run writes is what its host tells where its application takes, and then the last line.
use Rattle.std.proofs.Common.{◌≡◌, ◌⊎◌, inl, inr, ℕ, zero, suc, ◌<◌, Bool, true, false, List, [], ◌∷◌, ◌++◌, Option, Some, None, refl, sym, ap, ◌∙◌, append_assoc, append-nil, arith}
use Rattle.std.specs.Prelude.{if◌then◌else◌}
use Rattle.lossy_queue.specs.declared.datagram.Channel.{Channel}
use Rattle.lossy_queue.specs.declared.datagram.Channel.TheVariants.{Control, Stream}
use Rattle.lossy_queue.specs.declared.datagram.Datagram.{Datagram}
use Rattle.world_machine.specs.State.{Host, Run, World}
use Rattle.world_machine.specs.ClientTurn.{End, done, client_turn}
use Rattle.world_machine.specs.CameraTurn.{camera_turn, makes}
use Rattle.world_machine.specs.HostTurn.{arrives, unless_ended, host_turn, asks, takes}
use Rattle.world_machine.specs.Rounds.{rises, is_done, last_line, Round, given_up, from_host, from_camera, round, world_after}
use Rattle.world_machine.specs.HostActs.{HostAct, host_hears, host_ticks, host_takes, host_after, with_hearing, with_hearings, with_host_turn, with_host_rest, host_acts_after}
use Rattle.world_machine.specs.Laws.{text_after}
use Rattle.world_machine.proofs.Hosts.{asked_leaves, camera_leaves, frame_leaves, client_leaves, arrivals_are, host_is}

-- what is told by these acts
abbrev pub texts_of : {A : Type 0} → Host A → A → List HostAct → List ℕ
texts_of host a [] = []
texts_of host a (host_hears bytes ∷ hs) = texts_of host a hs
texts_of host a (host_ticks moment ∷ hs) = texts_of host a hs
texts_of host a (host_takes ∷ hs) = texts_of host a hs ++ host.lines (host_after host a hs)

-- A part of a round, with these acts before and after it, writes what is told by them, and then the last line
-- if the run ends.
pub record Tells {A : Type 0} (run : Run) (host : Host A) (start : A) (before after : List HostAct) (r : Round A) : Type 0 where
  pub told : List ℕ
  pub last : List ℕ
  pub text : r.text ≡ told ++ last
  pub more : texts_of host start after ≡ texts_of host start before ++ told
  pub is_last : (last ≡ []) ⊎ ((w : World A) × (last ≡ last_line run host w))
  pub goes_on : r.end ≡ None → last ≡ []

tells_none : {A : Type 0} (run : Run) (host : Host A) (start : A) (hs : List HostAct) (w : World A) (e : End) → Tells run host start hs hs (given_up w e)
tells_none run host start hs w e = record {
  told = [];
  last = [];
  text = refl;
  more = sym (append-nil (texts_of host start hs));
  is_last = inl refl;
  goes_on = λ none. refl;
}

-- take lines, and whether the run ends with them
tells_closing : {A : Type 0} (run : Run) (host : Host A) (start : A) (before after : List HostAct) (w : World A) (lines : List ℕ) (b : Bool)
    → texts_of host start after ≡ texts_of host start before ++ lines
    → Tells run host start before after (if b then record { world = w; text = lines ++ last_line run host w; end = Some done } else record { world = w; text = lines; end = None })
tells_closing run host start before after w lines true more = record {
  told = lines;
  last = last_line run host w;
  text = refl;
  more = more;
  is_last = inr (w, refl);
  goes_on = λ none. absurd cc;
}
tells_closing run host start before after w lines false more = record {
  told = lines;
  last = [];
  text = sym (append-nil lines);
  more = more;
  is_last = inl refl;
  goes_on = λ none. refl;
}

tells_host : {A : Type 0} (run : Run) (host : Host A) (start : A) (o : Option End) (w : World A) (hs : List HostAct) → host_after host start hs ≡ w.host
    → Tells run host start hs (with_host_turn o w hs) (from_host run host o w)
tells_host run host start (Some e) w hs is = tells_none run host start hs w e
tells_host {A} run host start None w hs is =
    let asked : World A = asks run host w in
    let same : host.ticks (host_after host start hs) w.moment ≡ asked.host
    = ap (λ (a : A). host.ticks a w.moment) is ∙ sym (asked_leaves run (record w { host = host.ticks w.host w.moment }) (host.requests w.host w.moment)) in
    tells_closing run host start hs (host_takes ∷ host_ticks w.moment ∷ hs) (takes host asked) (host.lines asked.host) (is_done run host (takes host asked))
    (ap (λ (a : A). texts_of host start hs ++ host.lines a) same)

hearing_tells : {A : Type 0} (host : Host A) (start : A) (channel : Channel) (bytes : List ℕ) (hs : List HostAct)
    → texts_of host start (with_hearing channel bytes hs) ≡ texts_of host start hs
hearing_tells host start Control bytes hs = refl
hearing_tells host start Stream bytes hs = refl

hearings_tell : {A : Type 0} (host : Host A) (start : A) (w : World A) (ds : List Datagram) (hs : List HostAct)
    → texts_of host start (with_hearings host w ds hs) ≡ texts_of host start hs
hearings_tell host start w [] hs = refl
hearings_tell {A} host start w (d ∷ rest) hs = go (arrives host w d.channel d.bytes).end (hearings_tell host start v rest heard)
  where
    v : World A
    v = (arrives host w d.channel d.bytes).world

    heard : List HostAct
    heard = with_hearing d.channel d.bytes hs

    go : (o : Option End) → texts_of host start (with_hearings host v rest heard) ≡ texts_of host start heard
        → texts_of host start (unless_ended o heard (with_hearings host v rest heard)) ≡ texts_of host start hs
    go None more = more ∙ hearing_tells host start d.channel d.bytes hs
    go (Some e) more = hearing_tells host start d.channel d.bytes hs

-- acts before it that tell nothing
tells_earlier : {A : Type 0} (run : Run) (host : Host A) (start : A) (before mid after : List HostAct) (r : Round A)
    → texts_of host start mid ≡ texts_of host start before → Tells run host start mid after r → Tells run host start before after r
tells_earlier run host start before mid after r same t = record {
  told = t.told;
  last = t.last;
  text = t.text;
  more = t.more ∙ ap (λ (l : List ℕ). l ++ t.told) same;
  is_last = t.is_last;
  goes_on = t.goes_on;
}

tells_rest : {A : Type 0} (run : Run) (host : Host A) (start : A) (o : Option End) (w : World A) (hs : List HostAct) → host_after host start hs ≡ w.host
    → Tells run host start hs (with_host_rest run host o w hs) (from_camera run host o w)
tells_rest run host start (Some e) w hs is = tells_none run host start hs w e
tells_rest {A} run host start None w hs is =
    let shown : World A = makes run (camera_turn run w) in
    let taken : World A = record shown { to_host = [] } in
    let heard : List HostAct = with_hearings host taken shown.to_host hs in
    let arrived = host_turn host shown in
    tells_earlier run host start hs heard (with_host_turn arrived.end arrived.world heard) (from_host run host arrived.end arrived.world)
    (hearings_tell host start taken shown.to_host hs)
    (tells_host run host start arrived.end arrived.world heard
    (arrivals_are host start shown.to_host taken hs (is ∙ sym (frame_leaves run (camera_turn run w) ∙ camera_leaves run w))))

tells_round : {A : Type 0} (run : Run) (host : Host A) (start : A) (n : ℕ)
    → Tells run host start (host_acts_after run host start n) (host_acts_after run host start (suc n)) (round run host (world_after run host start n))
tells_round {A} run host start n =
    let w : World A = world_after run host start n in
    tells_rest run host start (client_turn run (rises w)).end (client_turn run (rises w)).world (host_acts_after run host start n)
    (host_is run host start n ∙ sym (client_leaves run (rises w)))

texts_go_on : {A : Type 0} (run : Run) (host : Host A) (start : A) (n : ℕ) → ((m : ℕ) → m < n → (round run host (world_after run host start m)).end ≡ None)
    → text_after run host start n ≡ texts_of host start (host_acts_after run host start n)
texts_go_on run host start zero on = refl
texts_go_on run host start (suc n) on =
    let t = tells_round run host start n in
    let none : t.last ≡ [] = t.goes_on (on n (omega arith)) in
    let here : (round run host (world_after run host start n)).text ≡ t.told = t.text ∙ (ap (λ (l : List ℕ). t.told ++ l) none ∙ append-nil t.told) in
    ap (λ (l : List ℕ). l ++ (round run host (world_after run host start n)).text) (texts_go_on run host start n (λ m below. on m (omega (arith, below))))
    ∙ (ap (λ (l : List ℕ). texts_of host start (host_acts_after run host start n) ++ l) here ∙ sym t.more)

-- What is told in all rounds, and then the last line, if there is one.
pub record IsText {A : Type 0} (run : Run) (host : Host A) (start : A) (text : List ℕ) (n : ℕ) : Type 0 where
  pub last : List ℕ
  pub is : text ≡ texts_of host start (host_acts_after run host start n) ++ last
  pub is_last : (last ≡ []) ⊎ ((w : World A) × (last ≡ last_line run host w))

pub text_is : {A : Type 0} (run : Run) (host : Host A) (start : A) (n : ℕ) → ((m : ℕ) → m < n → (round run host (world_after run host start m)).end ≡ None)
    → IsText run host start (text_after run host start (suc n)) (suc n)
text_is run host start n on =
    let t = tells_round run host start n in
    let earlier : List ℕ = texts_of host start (host_acts_after run host start n) in
    record {
      last = t.last;
      is = ap (λ (l : List ℕ). l ++ (round run host (world_after run host start n)).text) (texts_go_on run host start n on)
          ∙ (ap (λ (l : List ℕ). earlier ++ l) t.text
          ∙ (sym (append_assoc earlier t.told t.last) ∙ ap (λ (l : List ℕ). l ++ t.last) (sym t.more)));
      is_last = t.is_last;
    }
