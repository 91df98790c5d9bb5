-- What a read's client was told, where the link tells its receives: the last answer has the memory that was asked for.
use Rattle.std.proofs.Common.{◌≡◌, ℕ, ◌+◌, ◌≤◌, Bool, true, false, List, [], ◌∷◌, ◌++◌, length, take, drop, map, Option, Some, None, Ok, refl, ap, sym, subst, ◌∙◌, append_assoc, length-append, eq-eqb, arith}
use Rattle.std.specs.Prelude.{◌==◌, ◌&&◌, not, IsTrue, if◌then◌else◌}
use Rattle.std.proofs.lemmas.List.{append-nil, take-append-drop, take_at, drop_at, length-take-le}
use Rattle.gvcp_wire.specs.Codes.{READMEM_ACK}
use Rattle.gvcp_wire.specs.Messages.{PlainCommand, PlainAck, read_mem}
use Rattle.gvcp_wire.specs.Reading.{ack_reading}
use Rattle.client_machine.specs.Machine.{Client, IsIdle}
use Rattle.gev_links.specs.Links.{Address, Answer, nothing, failed, came}
use Rattle.gev_links.specs.Moments.{TellsEach}
use Rattle.gev_control.specs.declared.acq_end.AcqEnd.TheVariants as how
use Rattle.gev_control.specs.Controlled.{listed}
use Rattle.gev_control.specs.OrderTurns.{Progress, progress, OrderTurned, order_turn}
use Rattle.gev_control.specs.CarriesOut.{ControlSide, orders_after, order_heards, CarriesOut}
use Rattle.link_filters.specs.Reads.{has_memory, lacks_memory, with_memory, heard_since}
use Rattle.link_filters.proofs.Since.{length_since}
use Rattle.camera_description.specs.Memory.{heard_of, Reads, IsToldMemory, HasRead}
use Rattle.camera_description.proofs.Alone.{acknowledged}

-- ---- lists

heards_push : (ts : List OrderTurned) (t : OrderTurned) → order_heards (ts ++ t ∷ []) ≡ order_heards ts ++ listed t.heard
heards_push [] t = append-nil (listed t.heard)
heards_push (x ∷ xs) t =
    ap (λ (l : List Answer). listed x.heard ++ l) (heards_push xs t)
    ∙ sym (append_assoc (listed x.heard) (order_heards xs) (listed t.heard))

after_push : (orders : List PlainCommand) (s : Progress) (ts : List OrderTurned) (t : OrderTurned)
    → orders_after orders s (ts ++ t ∷ []) ≡ (order_turn orders (orders_after orders s ts) t).state
after_push orders s [] t = refl
after_push orders s (x ∷ xs) t = after_push orders (order_turn orders s x).state xs t

record LastOf (f : Answer → Answer) (zs : List Answer) (x : Answer) : Type 0 where
  front : List Answer
  last : Answer
  parts : zs ≡ front ++ last ∷ []
  is : f last ≡ x

last_mapped : (f : Answer → Answer) (zs xs : List Answer) (x : Answer) → map f zs ≡ xs ++ x ∷ [] → LastOf f zs x
last_mapped f [] [] x e = let bad : ⊥ = cc in absurd bad
last_mapped f [] (a ∷ xs) x e = let bad : ⊥ = cc in absurd bad
last_mapped f (z ∷ []) [] x e = record { front = []; last = z; parts = refl; is = cc }
last_mapped f (z ∷ w ∷ zs) [] x e = let bad : ⊥ = cc in absurd bad
last_mapped f (z ∷ zs) (a ∷ xs) x e =
    let tail : map f zs ≡ xs ++ x ∷ [] = cc in
    let more : LastOf f zs x = last_mapped f zs xs x tail in
    record { front = z ∷ more.front; last = more.last; parts = ap (λ (l : List Answer). z ∷ l) more.parts; is = more.is }

-- what was heard since, of which the filter made this
record Since (n : ℕ) (f : Answer → Answer) (old new heard : List Answer) : Type 0 where
  rest : List Answer
  new_is : new ≡ old ++ rest
  mapped : map f rest ≡ heard

since : (f : Answer → Answer) (old new heard : List Answer) → heard_since (length old) f new ≡ old ++ heard → Since (length old) f old new heard
since f old new heard e =
    let long : length old ≤ length new = omega (arith, length_since (length old) f new, ap length e, length-append old heard) in
    let size : length (take (length old) new) ≡ length old = length-take-le (length old) new long in
    let front : take (length old) new ≡ old =
    sym (take_at (take (length old) new) (map f (drop (length old) new)) (length old) size) ∙ (ap (take (length old)) e ∙ take_at old heard (length old) refl) in
    record {
      rest = drop (length old) new;
      new_is = sym (take-append-drop (length old) new) ∙ ap (λ (l : List Answer). l ++ drop (length old) new) front;
      mapped =
          sym (drop_at (take (length old) new) (map f (drop (length old) new)) (length old) size)
          ∙ (ap (drop (length old)) e ∙ drop_at old heard (length old) refl);
    }

-- ---- the filter

came_is : (b bytes : List ℕ) (p peer : Address) → came b p ≡ came bytes peer → b ≡ bytes
came_is b bytes p peer e = cc

record Passed (address count : ℕ) (y : Answer) (bytes : List ℕ) (peer : Address) : Type 0 where
  is : y ≡ came bytes peer
  lacks_none : lacks_memory address count (ack_reading bytes) ≡ false

passed_by : (address count : ℕ) (b bytes : List ℕ) (p peer : Address) (lacks : Bool) → lacks_memory address count (ack_reading b) ≡ lacks
    → (if lacks then nothing else came b p) ≡ came bytes peer → Passed address count (came b p) bytes peer
passed_by address count b bytes p peer true is e = let bad : ⊥ = cc in absurd bad
passed_by address count b bytes p peer false is e = record {
  is = e;
  lacks_none = subst (λ (l : List ℕ). lacks_memory address count (ack_reading l) ≡ false) (came_is b bytes p peer e) is;
}

passed : (address count : ℕ) (y : Answer) (bytes : List ℕ) (peer : Address) → with_memory address count y ≡ came bytes peer → Passed address count y bytes peer
passed address count nothing bytes peer e = let bad : ⊥ = cc in absurd bad
passed address count failed bytes peer e = let bad : ⊥ = cc in absurd bad
passed address count (came b p) bytes peer e = passed_by address count b bytes p peer (lacks_memory address count (ack_reading b)) refl e

true_by : (status code has : Bool) → status ≡ true → code ≡ true → (status && code && not has) ≡ false → has ≡ true
true_by true true true a b e = refl
true_by true true false a b e = let bad : ⊥ = cc in absurd bad
true_by true false has a b e = let bad : ⊥ = cc in absurd bad
true_by false code has a b e = let bad : ⊥ = cc in absurd bad

memory_had : (address count : ℕ) (ack : PlainAck) → lacks_memory address count (Ok ack) ≡ false → ack.status ≡ 0 → ack.code ≡ READMEM_ACK
    → IsTrue (has_memory address count ack.body)
memory_had address count ack none status code =
    true_by (ack.status == 0) (ack.code == READMEM_ACK) (has_memory address count ack.body) (eq-eqb ack.status 0 status) (eq-eqb ack.code READMEM_ACK code) none

-- ---- the read

told_by_last : (old new : Option (List Answer)) (address count : ℕ) (body : List ℕ) (before : List Answer) (bytes : List ℕ) (peer : Address) (ack : PlainAck)
    → TellsEach old (heard_of old address count new) (before ++ came bytes peer ∷ []) → ack_reading bytes ≡ Ok ack → ack.status ≡ 0
    → ack.code ≡ READMEM_ACK → body ≡ ack.body → IsToldMemory old new address count body
told_by_last None new address count body before bytes peer ack tells read status code same = tt
told_by_last (Some old) None address count body before bytes peer ack tells read status code same = tt
told_by_last (Some old) (Some new) address count body before bytes peer ack tells read status code same =
    let s : Since (length old) (with_memory address count) old new (before ++ came bytes peer ∷ []) =
    since (with_memory address count) old new (before ++ came bytes peer ∷ []) tells in
    let l : LastOf (with_memory address count) s.rest (came bytes peer) =
    last_mapped (with_memory address count) s.rest before (came bytes peer) s.mapped in
    let p : Passed address count l.last bytes peer = passed address count l.last bytes peer l.is in
    record {
      answers = l.front;
      bytes = bytes;
      peer = peer;
      ack = ack;
      last = s.new_is ∙ ap (λ (r : List Answer). old ++ r) (l.parts ∙ ap (λ (y : Answer). l.front ++ y ∷ []) p.is);
      read = read;
      status = status;
      code = code;
      has = memory_had address count ack (subst (λ r. lacks_memory address count r ≡ false) read p.lacks_none) status code;
      body_is = same;
    }

pub has_read : (camera : Address) (o n : ControlSide) (address count : ℕ) → IsIdle o.client → Reads camera o address count n how.Stopped → HasRead camera o address count n
has_read camera o n address count idle reads =
    let t : CarriesOut camera (read_mem address count ∷ []) o (record n { heard = heard_of o.heard address count n.heard }) how.Stopped = reads.1.turns in
    let k = acknowledged (read_mem address count) o.client t.before t.last idle t.on t.ended in
    let client : n.client ≡ (order_turn (read_mem address count ∷ []) (orders_after (read_mem address count ∷ []) (progress o.client 0) t.before) t.last).state.client =
    t.client ∙ ap (λ (p : Progress). p.client) (after_push (read_mem address count ∷ []) (progress o.client 0) t.before t.last) in
    let heards : order_heards (t.before ++ t.last ∷ []) ≡ order_heards t.before ++ came k.told.bytes k.told.peer ∷ [] =
    heards_push t.before t.last ∙ ap (λ (h : Option Answer). order_heards t.before ++ listed h) k.told.came_so in
    record {
      reads = reads;
      told =
          told_by_last o.heard n.heard address count n.client.body (order_heards t.before) k.told.bytes k.told.peer k.told.answered.ack
          (subst (TellsEach o.heard (heard_of o.heard address count n.heard)) heards t.heard) k.told.answered.read k.told.answered.status_is k.code_is
          (ap (λ (c : Client). c.body) client ∙ k.told.body);
      idle = ap (λ (c : Client). c.asked) client ∙ k.idle;
    }
