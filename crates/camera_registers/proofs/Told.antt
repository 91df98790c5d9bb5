-- Over a link that tells its receives each read has a value.
use Rattle.std.proofs.Common.{◌≡◌, ℕ, Bool, true, false, List, [], ◌∷◌, ◌++◌, length, map, Option, Some, None, Ok, refl, sym, ap, subst, ◌∙◌, append_assoc, eq-eqb}
use Rattle.std.specs.Prelude.{◌==◌, ◌&&◌, not, if◌then◌else◌}
use Rattle.std.proofs.lemmas.List.{append-nil}
use Rattle.gvcp_wire.specs.Codes.{READREG_ACK}
use Rattle.gvcp_wire.specs.Messages.{PlainCommand, PlainAck}
use Rattle.gvcp_wire.specs.Reading.{ack_reading}
use Rattle.byteorder.specs.Endian.{big_number}
use Rattle.client_machine.specs.Machine.{Client}
use Rattle.control_client.specs.Values.{value_of}
use Rattle.gev_links.specs.Links.{Address, Answer, nothing, failed, came}
use Rattle.gev_links.specs.Moments.{TellsEach}
use Rattle.gev_control.specs.declared.acq_end.AcqEnd.TheVariants as how
use Rattle.gev_control.specs.Controlled.{listed}
use Rattle.gev_control.specs.OrderTurns.{Progress, progress, OrderTurned, order_turn}
use Rattle.gev_control.specs.CarriesOut.{ControlSide, orders_after, order_heards, CarriesOut}
use Rattle.link_filters.specs.Reads.{lacks_register, with_register, with_registers}
use Rattle.camera_words.specs.declared.access.Access.TheVariants.{Read}
use Rattle.camera_control.specs.Steps.{read_of}
use Rattle.camera_description.proofs.Alone.{acknowledged}
use Rattle.camera_registers.specs.Registers.{Carries}
use Rattle.camera_registers.specs.Laws.{ReadsAreTold}

-- ---- lists

heards_push : (ts : List OrderTurned) (t : OrderTurned) → order_heards (ts ++ t ∷ []) ≡ order_heards ts ++ listed t.heard
heards_push [] t = append-nil (listed t.heard)
heards_push (x ∷ xs) t =
    ap (λ (l : List Answer). listed x.heard ++ l) (heards_push xs t)
    ∙ sym (append_assoc (listed x.heard) (order_heards xs) (listed t.heard))

after_push : (orders : List PlainCommand) (s : Progress) (ts : List OrderTurned) (t : OrderTurned)
    → orders_after orders s (ts ++ t ∷ []) ≡ (order_turn orders (orders_after orders s ts) t).state
after_push orders s [] t = refl
after_push orders s (x ∷ xs) t = after_push orders (order_turn orders s x).state xs t

last_of : (zs xs : List Answer) (x : Answer) → map with_register zs ≡ xs ++ x ∷ [] → (y : Answer) × (with_register y ≡ x)
last_of [] [] x e = let bad : ⊥ = cc in absurd bad
last_of [] (a ∷ xs) x e = let bad : ⊥ = cc in absurd bad
last_of (z ∷ []) [] x e = (z, cc)
last_of (z ∷ w ∷ zs) [] x e = let bad : ⊥ = cc in absurd bad
last_of (z ∷ zs) (a ∷ xs) x e = let tail : map with_register zs ≡ xs ++ x ∷ [] = cc in last_of zs xs x tail

-- ---- the filter

came_is : (b bytes : List ℕ) (p peer : Address) → came b p ≡ came bytes peer → b ≡ bytes
came_is b bytes p peer e = cc

passed_by : (b bytes : List ℕ) (p peer : Address) (lacks : Bool) → lacks_register (ack_reading b) ≡ lacks → (if lacks then nothing else came b p) ≡ came bytes peer
    → lacks_register (ack_reading bytes) ≡ false
passed_by b bytes p peer true is e = let bad : ⊥ = cc in absurd bad
passed_by b bytes p peer false is e = subst (λ (l : List ℕ). lacks_register (ack_reading l) ≡ false) (came_is b bytes p peer e) is

passed : (y : Answer) (bytes : List ℕ) (peer : Address) → with_register y ≡ came bytes peer → lacks_register (ack_reading bytes) ≡ false
passed nothing bytes peer e = let bad : ⊥ = cc in absurd bad
passed failed bytes peer e = let bad : ⊥ = cc in absurd bad
passed (came b p) bytes peer e = passed_by b bytes p peer (lacks_register (ack_reading b)) refl e

true_by : (status code has : Bool) → status ≡ true → code ≡ true → (status && code && not has) ≡ false → has ≡ true
true_by true true true a b e = refl
true_by true true false a b e = let bad : ⊥ = cc in absurd bad
true_by true false has a b e = let bad : ⊥ = cc in absurd bad
true_by false code has a b e = let bad : ⊥ = cc in absurd bad

four_bytes : (ack : PlainAck) → lacks_register (Ok ack) ≡ false → ack.status ≡ 0 → ack.code ≡ READREG_ACK → (length ack.body == 4) ≡ true
four_bytes ack none status code =
    true_by (ack.status == 0) (ack.code == READREG_ACK) (length ack.body == 4) (eq-eqb ack.status 0 status) (eq-eqb ack.code READREG_ACK code) none

-- ---- the read

heard_last : (old : Option (List Answer)) (raw before : List Answer) (bytes : List ℕ) (peer : Address)
    → TellsEach old (Some (with_registers raw)) (before ++ came bytes peer ∷ []) → lacks_register (ack_reading bytes) ≡ false
heard_last None raw before bytes peer tells = absurd tells
heard_last (Some old) raw before bytes peer tells =
    let last = last_of raw (old ++ before) (came bytes peer) (tells ∙ sym (append_assoc old before (came bytes peer ∷ []))) in
    passed last.0 bytes peer last.1

value_if : (body : List ℕ) (four : Bool) → four ≡ true → (if four then Some (big_number 4 body) else None) ≡ Some (big_number 4 body)
value_if body true is = refl
value_if body false is = let bad : ⊥ = cc in absurd bad

pub reads_are_told : ReadsAreTold
reads_are_told camera register o n raw carries heard =
    let c : PlainCommand = read_of register in
    let t : CarriesOut camera (c ∷ []) o n how.Stopped = carries.carried in
    let k = acknowledged c o.client t.before t.last carries.idle t.on t.ended in
    let client : n.client ≡ (order_turn (c ∷ []) (orders_after (c ∷ []) (progress o.client 0) t.before) t.last).state.client =
    t.client ∙ ap (λ (p : Progress). p.client) (after_push (c ∷ []) (progress o.client 0) t.before t.last) in
    let heards : order_heards (t.before ++ t.last ∷ []) ≡ order_heards t.before ++ came k.told.bytes k.told.peer ∷ [] =
    heards_push t.before t.last ∙ ap (λ (h : Option Answer). order_heards t.before ++ listed h) k.told.came_so in
    let lacks : lacks_register (ack_reading k.told.bytes) ≡ false =
    heard_last o.heard raw (order_heards t.before) k.told.bytes k.told.peer
    (subst (λ (h : Option (List Answer)). TellsEach o.heard h (order_heards t.before ++ came k.told.bytes k.told.peer ∷ [])) heard
    (subst (TellsEach o.heard n.heard) heards t.heard)) in
    let four : (length k.told.answered.ack.body == 4) ≡ true =
    four_bytes k.told.answered.ack (subst (λ r. lacks_register r ≡ false) k.told.answered.read lacks) k.told.answered.status_is k.code_is in
    let body : n.client.body ≡ k.told.answered.ack.body = ap (λ (s : Client). s.body) client ∙ k.told.body in (
      big_number 4 k.told.answered.ack.body,
      ap value_of body ∙ value_if k.told.answered.ack.body (length k.told.answered.ack.body == 4) four,
    )
