-- The application takes buffer by buffer.
use Rattle.std.proofs.Common.{◌≡◌, ℕ, ◌<◌, Bool, true, false, List, [], ◌∷◌, ◌++◌, length, Option, Result, Ok, Err, refl, sym, ap, subst, ◌∙◌, append_assoc, arith}
use Rattle.std.specs.Prelude.{if◌then◌else◌}
use Rattle.gev_links.specs.Faults.{Rose}
use Rattle.gev_links.specs.Told.{Appends, WritesFront}
use Rattle.gev_make.specs.declared.stop.Stop.{Stop}
use Rattle.gev_make.specs.declared.stop.Stop.TheVariants.{WriteFault}
use Rattle.gev_make.specs.Writing.{Writes}
use Rattle.gev_make.proofs.Texts.{Leads, leads_start, leads_on, writes_stops}
use Rattle.gev_script.specs.Lines as line
use Rattle.gev_script.specs.Lines.{ScriptLine}
use Rattle.board_machine.specs.Machine.{Board, Item, word_at}
use Rattle.board_machine.specs.Places.{tail}
use Rattle.world_laws.specs.Receiver.{Receiver, waiting, takes_one, takes_each, lines_each, soak_host}
use Rattle.soak_receiver.specs.Standing.{Hosting, HostStands, HostTakes}
use Rattle.world_laws.specs.SoakApplication.{soak_takes}
use Rattle.gev_world.specs.Takes.{HasReceiver, Took, WritesTake, IsTaking, first_text}

-- So it is whatever the code stood for at first, and the lines that are written from here on make all of
-- them from the start.
pub record TakingFrom (now : Hosting) (written written_after : Option (List ℕ)) (faults faults_after : ℕ) (lines : List ScriptLine) (r : Receiver) : Type 0 where
  pub taking : IsTaking lines r now
  pub leads : Leads written written_after faults faults_after (soak_host.lines r) (soak_host.lines taking.receiver)

pub record Taking (start now : Hosting) (written written_after : Option (List ℕ)) (faults faults_after : ℕ) : Type 0 where
  pub some : HasReceiver start
  pub from : (lines : List ScriptLine) (r : Receiver) → HostStands start lines r → TakingFrom now written written_after faults faults_after lines r

pub taking_start : (start : Hosting) (written : Option (List ℕ)) (faults : ℕ) → HasReceiver start → Taking start start written written faults faults
taking_start start written faults some = record {
  some = some;
  from = λ lines r h. record {
    taking = record { done = lines; receiver = r; stands = h; lines_are = refl; same = refl };
    leads = leads_start written faults (soak_host.lines r);
  };
}

-- ---- one take

took_by : (xs : List Item) (took : Bool) (lines : List ScriptLine) (r : Receiver) (text : List ℕ) (new : Hosting) → HostTakes xs took lines r [] text new → Took xs took lines r new
took_by [] took lines r text new (is, said, stands) = (is, stands)
took_by (x ∷ xs) took lines r text new (is, said, stands) = (is, stands)

said_by : (xs : List Item) (took : Bool) (lines : List ScriptLine) (r : Receiver) (text : List ℕ) (new : Hosting) → HostTakes xs took lines r [] text new → text ≡ first_text xs r
said_by [] took lines r text new (is, said, stands) = said
said_by (x ∷ xs) took lines r text new (is, said, stands) = said

-- The take's line was written whole.
pub take_written : (took : Bool) (lines : List ScriptLine) (r : Receiver) (text : List ℕ) (new : Hosting) (w v : Option (List ℕ)) (f g : ℕ) → HostTakes (waiting r.board) took lines r [] text new
    → Appends w v text → g ≡ f → WritesTake (Ok took) lines r new w v f g
take_written took lines r text new w v f g takes appended same = record {
  took = took_by (waiting r.board) took lines r text new takes;
  wrote = (subst (Appends w v) (said_by (waiting r.board) took lines r text new takes) appended, same);
}

-- The sink failed in it.
pub take_stopped : (took : Bool) (lines : List ScriptLine) (r : Receiver) (text : List ℕ) (new : Hosting) (w v : Option (List ℕ)) (f g : ℕ) → HostTakes (waiting r.board) took lines r [] text new
    → WritesFront w v text → Rose f g → WritesTake (Err WriteFault) lines r new w v f g
take_stopped took lines r text new w v f g takes front rose = record {
  took = tt;
  wrote = (subst (WritesFront w v) (said_by (waiting r.board) took lines r text new takes) front, rose);
}

-- ---- the next turn

-- what waits behind the first buffer
waits_then : (r : Receiver) (x : Item) (xs : List Item) → waiting r.board ≡ x ∷ xs → waiting (takes_one x r).board ≡ xs
waits_then r x xs = go r.board.closed
  where
    go : (closed : Bool) → (if closed then [] else r.board.out) ≡ x ∷ xs → (if closed then [] else tail r.board.out) ≡ xs
    go true e = absurd cc
    go false e = ap (λ (ys : List Item). tail ys) e

taking_then : (now new : Hosting) (w v u : Option (List ℕ)) (f g h : ℕ) (lines : List ScriptLine) (first : Receiver) (xs : List Item) (t : IsTaking lines first now) → waiting t.receiver.board ≡ xs → Took xs true t.done t.receiver new
    → Leads w v f g (soak_host.lines first) (soak_host.lines t.receiver) → Writes (Ok tt) v u g h (first_text xs t.receiver) → TakingFrom new w u f h lines first
taking_then now new w v u f g h lines first [] t waits took leads wrote = absurd cc
taking_then now new w v u f g h lines first (x ∷ xs) t waits took leads wrote = record {
  taking = record {
    done = t.done ++ line.take ∷ line.queue x.place (word_at t.receiver.board x.place).generation ∷ [];
    receiver = after;
    stands = took.1;
    lines_are =
        ap (λ (ys : List Item). (t.done ++ line.take ∷ line.queue x.place (word_at t.receiver.board x.place).generation ∷ []) ++ soak_takes ys after) left
        ∙ append_assoc t.done (line.take ∷ line.queue x.place (word_at t.receiver.board x.place).generation ∷ []) (soak_takes xs after)
        ∙ ap (λ (ys : List Item). t.done ++ soak_takes ys t.receiver) (sym waits) ∙ t.lines_are;
    same = ap (λ (ys : List Item). takes_each ys after) left ∙ ap (λ (ys : List Item). takes_each ys t.receiver) (sym waits) ∙ t.same;
  };
  leads =
      leads_on w v u f g h (soak_host.lines first) (soak_host.lines t.receiver) (first_text (x ∷ xs) t.receiver) (soak_host.lines after) leads
      (ap (λ (ys : List Item). lines_each ys t.receiver) waits ∙ ap (λ (ys : List Item). first_text (x ∷ xs) t.receiver ++ lines_each ys after) (sym left)) wrote;
}
  where
    after : Receiver
    after = takes_one x t.receiver

    left : waiting after.board ≡ xs
    left = waits_then t.receiver x xs waits

-- what a take does behind whatever it stood for
abbrev pub TakesAll : Result Bool Stop → Hosting → Hosting → Option (List ℕ) → Option (List ℕ) → ℕ → ℕ → Type 0
TakesAll result now new v u g h = (lines : List ScriptLine) (r : Receiver) → HostStands now lines r → WritesTake result lines r new v u g h

pub takes_as : (took answer : Bool) (now new : Hosting) (v u : Option (List ℕ)) (g h : ℕ) → took ≡ answer → TakesAll (Ok took) now new v u g h → TakesAll (Ok answer) now new v u g h
takes_as took answer now new v u g h is takes = subst (λ (b : Bool). TakesAll (Ok b) now new v u g h) is takes

pub taking_on : (start now new : Hosting) (w v u : Option (List ℕ)) (f g h : ℕ) → Taking start now w v f g → TakesAll (Ok true) now new v u g h → Taking start new w u f h
taking_on start now new w v u f g h was takes = record {
  some = was.some;
  from = λ lines r stands.
      let from : TakingFrom now w v f g lines r = was.from lines r stands in
      let turn : WritesTake (Ok true) from.taking.done from.taking.receiver new v u g h = takes from.taking.done from.taking.receiver from.taking.stands in
      taking_then now new w v u f g h lines r (waiting from.taking.receiver.board) from.taking refl turn.took from.leads turn.wrote;
}

-- ---- fewer wait

out_is : (h : Hosting) (lines : List ScriptLine) (r : Receiver) → HostStands h lines r → h.running.board.board.out ≡ r.board.out
out_is h lines r was = ap (λ (b : Board). b.out) (was.stands.behind.board.board.state ∙ sym was.left.board)

out_shrinks : (closed : Bool) (out : List Item) (x : Item) (xs : List Item) → (if closed then [] else out) ≡ x ∷ xs → length (tail out) < length out
out_shrinks true out x xs e = absurd cc
out_shrinks false [] x xs e = absurd cc
out_shrinks false (y ∷ ys) x xs e = omega (arith)

fewer_left : (now new : Hosting) (lines : List ScriptLine) (r : Receiver) (xs : List Item) → HostStands now lines r → waiting r.board ≡ xs → Took xs true lines r new
    → length new.running.board.board.out < length now.running.board.board.out
fewer_left now new lines r [] stands waits took = absurd cc
fewer_left now new lines r (x ∷ xs) stands waits took =
    let before : length now.running.board.board.out ≡ length r.board.out = ap length (out_is now lines r stands) in
    let after : length new.running.board.board.out ≡ length (tail r.board.out) = ap length (out_is new _ (takes_one x r) took.1) in
    let shrinks : length (tail r.board.out) < length r.board.out = out_shrinks r.board.closed r.board.out x xs waits in
    omega (arith, before, after, shrinks)

pub fewer_wait : (start now new : Hosting) (w v u : Option (List ℕ)) (f g h : ℕ) → Taking start now w v f g → TakesAll (Ok true) now new v u g h
    → length new.running.board.board.out < length now.running.board.board.out
fewer_wait start now new w v u f g h was takes =
    let t : IsTaking was.some.lines was.some.receiver now = (was.from was.some.lines was.some.receiver was.some.stands).taking in
    fewer_left now new t.done t.receiver (waiting t.receiver.board) t.stands refl (takes t.done t.receiver t.stands).took

-- ---- the end

all_taken : (now new : Hosting) (lines : List ScriptLine) (first : Receiver) (xs : List Item) (t : IsTaking lines first now) → waiting t.receiver.board ≡ xs → Took xs false t.done t.receiver new
    → HostStands new (lines ++ soak_takes (waiting first.board) first) (soak_host.takes first)
all_taken now new lines first (x ∷ xs) t waits took = absurd cc
all_taken now new lines first [] t waits took =
    subst (λ (s : Receiver). HostStands new (lines ++ soak_takes (waiting first.board) first) s) (ap (λ (ys : List Item). takes_each ys t.receiver) (sym waits) ∙ t.same)
    (subst (λ (ls : List ScriptLine). HostStands new ls t.receiver) (ap (λ (ys : List Item). t.done ++ soak_takes ys t.receiver) (sym waits) ∙ t.lines_are) took.1)

pub takes_end : (start now new : Hosting) (w v u : Option (List ℕ)) (f g h : ℕ) → Taking start now w v f g → TakesAll (Ok false) now new v u g h
    → (lines : List ScriptLine) (r : Receiver) → HostStands start lines r → HostStands new (lines ++ soak_takes (waiting r.board) r) (soak_host.takes r)
takes_end start now new w v u f g h was takes lines r stands =
    let t : IsTaking lines r now = (was.from lines r stands).taking in
    all_taken now new lines r (waiting t.receiver.board) t refl (takes t.done t.receiver t.stands).took

-- Where nothing was taken all lines were written.
none_written : (v u : Option (List ℕ)) (g h : ℕ) (xs : List Item) (lines : List ScriptLine) (r : Receiver) (new : Hosting) → Took xs false lines r new → Writes (Ok tt) v u g h (first_text xs r) → Writes (Ok tt) v u g h (lines_each xs r)
none_written v u g h [] lines r new took wrote = wrote
none_written v u g h (x ∷ xs) lines r new took wrote = absurd cc

pub lines_end : (start now new : Hosting) (w v u : Option (List ℕ)) (f g h : ℕ) → Taking start now w v f g → TakesAll (Ok false) now new v u g h
    → (lines : List ScriptLine) (r : Receiver) → HostStands start lines r → Writes (Ok tt) w u f h (soak_host.lines r)
lines_end start now new w v u f g h was takes lines r stands =
    let from : TakingFrom now w v f g lines r = was.from lines r stands in
    let turn : WritesTake (Ok false) from.taking.done from.taking.receiver new v u g h = takes from.taking.done from.taking.receiver from.taking.stands in
    from.leads.to (Ok tt) u h (none_written v u g h (waiting from.taking.receiver.board) from.taking.done from.taking.receiver new turn.took turn.wrote)

-- Where a take stopped the lines after it weren't begun.
line_stops : (stop : Stop) (v u : Option (List ℕ)) (g h : ℕ) (xs : List Item) (r : Receiver) → Writes (Err stop) v u g h (first_text xs r) → Writes (Err stop) v u g h (lines_each xs r)
line_stops stop v u g h [] r wrote = wrote
line_stops stop v u g h (x ∷ xs) r wrote = writes_stops stop v u g h (first_text (x ∷ xs) r) (lines_each xs (takes_one x r)) wrote

pub lines_stop : (stop : Stop) (start now new : Hosting) (w v u : Option (List ℕ)) (f g h : ℕ) → Taking start now w v f g → TakesAll (Err stop) now new v u g h
    → (lines : List ScriptLine) (r : Receiver) → HostStands start lines r → Writes (Err stop) w u f h (soak_host.lines r)
lines_stop stop start now new w v u f g h was takes lines r stands =
    let from : TakingFrom now w v f g lines r = was.from lines r stands in
    from.leads.to (Err stop) u h (line_stops stop v u g h (waiting from.taking.receiver.board) from.taking.receiver (takes from.taking.done from.taking.receiver from.taking.stands).wrote)
