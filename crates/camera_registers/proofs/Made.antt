-- Accesses, one after the other, and how they end.
use Rattle.std.proofs.Common.{◌≡◌, ◌≢◌, ◌⊎◌, ℕ, zero, suc, ◌+◌, ◌<◌, Bool, true, false, List, [], ◌∷◌, ◌++◌, length, take, drop, Option, Some, None, Result, Ok, Err, refl, sym, ap, subst, ◌∙◌, append_assoc, arith, inl, inr, option_map}
use Rattle.std.specs.Prelude.{slice_get, get_or}
use Rattle.std.proofs.lemmas.Option.{slice_get-get_or}
use Rattle.client_machine.specs.Machine.{IsIdle}
use Rattle.control_client.specs.Values.{value_of}
use Rattle.gev_links.specs.Faults.{Rose}
use Rattle.gev_links.specs.Links.{Address, Answer, IsBlank}
use Rattle.gev_links.specs.Told.{Appends}
use Rattle.link_filters.specs.Strangers.{all_from}
use Rattle.link_filters.specs.Reads.{with_registers}
use Rattle.gev_control.specs.declared.acq_end.AcqEnd.{AcqEnd}
use Rattle.gev_control.specs.declared.acq_end.AcqEnd.TheVariants as how
use Rattle.gev_control.specs.Ends.{is_fault_end}
use Rattle.gev_control.specs.Sends.{Fails}
use Rattle.gev_control.specs.OrderTurns.{progress}
use Rattle.gev_control.specs.CarriesOut.{ControlSide, orders_after, CarriesOut}
use Rattle.gev_control.proofs.OrderEnds.{ends_as_told}
use Rattle.camera_words.specs.declared.access.Access.{Access}
use Rattle.camera_control.specs.declared.control_end.ControlEnd.{ControlEnd}
use Rattle.camera_control.specs.declared.control_end.ControlEnd.TheVariants as ends
use Rattle.camera_control.specs.Taking as taking
use Rattle.camera_control.proofs.OneStep.{idle_unless_fault}
use Rattle.camera_description.proofs.Pieces.{wrote_then}
use Rattle.camera_registers.specs.declared.register_fault.RegisterFault.{RegisterFault}
use Rattle.camera_registers.specs.declared.register_fault.RegisterFault.TheVariants.{LinkFault, WriteFault, NoAnswer, RefusedAt, Controlled}
use Rattle.camera_registers.specs.Lines.{line_of}
use Rattle.camera_registers.specs.Registers.{access_command, register_in, end_by, Carries, Outcome, MakesAccess, EndsAll, HasMade, one_more, Halts, fault_by, is_link_fault, is_fault, behind, give_away, GivesAway, failed, given, heard_of}

-- ---- one access

not_fault : (access : Access) (end : AcqEnd) (fault : RegisterFault) → end_by access end ≡ Some fault → is_link_fault fault ≡ false → is_fault_end end ≡ false
not_fault access how.Stopped fault is whole = refl
not_fault access how.Spent fault is whole = refl
not_fault access how.Fault fault is whole =
    let same : LinkFault ≡ fault = cc in let bad : true ≡ false = ap is_link_fault same ∙ whole in absurd (cc)
not_fault access (how.NoAnswer req) fault is whole = refl
not_fault access (how.Refused status) fault is whole = refl

pub idle_by : (camera : Address) (access : Access) (o n : ControlSide) (end : AcqEnd) (fault : RegisterFault) → CarriesOut camera (access_command access ∷ []) o n end
    → end_by access end ≡ Some fault → is_link_fault fault ≡ false → IsIdle n.client
idle_by camera access o n end fault carried is whole = idle_unless_fault camera (access_command access ∷ []) o n end carried (not_fault access end fault is whole)

no_fault : (access : Access) (end : AcqEnd) → end_by access end ≡ None → is_fault_end end ≡ false
no_fault access how.Stopped is = refl
no_fault access how.Spent is = refl
no_fault access how.Fault is = let bad : ⊥ = cc in absurd bad
no_fault access (how.NoAnswer req) is = refl
no_fault access (how.Refused status) is = refl

pub idle_then : (camera : Address) (access : Access) (o n : ControlSide) (end : AcqEnd) → CarriesOut camera (access_command access ∷ []) o n end
    → end_by access end ≡ None → IsIdle n.client
idle_then camera access o n end carried is = idle_unless_fault camera (access_command access ∷ []) o n end carried (no_fault access end is)

never_spent : (camera : Address) (access : Access) (o n : ControlSide) → CarriesOut camera (access_command access ∷ []) o n how.Spent → ⊥
never_spent camera access o n carried =
    (ends_as_told (access_command access ∷ []) (orders_after (access_command access ∷ []) (progress o.client 0) carried.before) carried.last).never_spent carried.ended

-- the count of faults, by how it ended all
pub fails_by : (camera : Address) (access : Access) (o n : ControlSide) (end : AcqEnd) (fault : RegisterFault) (x y : ℕ)
    → CarriesOut camera (access_command access ∷ []) o n end → end_by access end ≡ Some fault → Fails false (is_fault_end end) x y
    → Fails false (is_link_fault fault) x y
fails_by camera access o n how.Stopped fault x y carried is fails = let bad : ⊥ = cc in absurd bad
fails_by camera access o n how.Spent fault x y carried is fails = absurd (never_spent camera access o n carried)
fails_by camera access o n how.Fault fault x y carried is fails =
    let same : LinkFault ≡ fault = cc in subst (λ (e : RegisterFault). Fails false (is_link_fault e) x y) same fails
fails_by camera access o n (how.NoAnswer req) fault x y carried is fails =
    let same : NoAnswer req ≡ fault = cc in subst (λ (e : RegisterFault). Fails false (is_link_fault e) x y) same fails
fails_by camera access o n (how.Refused status) fault x y carried is fails =
    let same : RefusedAt (register_in access) status ≡ fault = cc in subst (λ (e : RegisterFault). Fails false (is_link_fault e) x y) same fails

-- ---- one after the other

split : (xs : List Access) (n : ℕ) (x : Access) → slice_get xs n ≡ Some x → xs ≡ take n xs ++ x ∷ drop (suc n) xs
split [] n x e = let bad : ⊥ = cc in absurd bad
split (y ∷ ys) zero x e = let same : y ≡ x = cc in ap (λ (z : Access). z ∷ ys) same
split (y ∷ ys) (suc n) x e = ap (λ (l : List Access). y ∷ l) (split ys n x e)

take_more : (xs : List Access) (n : ℕ) (x : Access) → slice_get xs n ≡ Some x → take n xs ++ x ∷ [] ≡ take (suc n) xs
take_more [] n x e = let bad : ⊥ = cc in absurd bad
take_more (y ∷ ys) zero x e = let same : y ≡ x = cc in ap (λ (z : Access). z ∷ []) (sym same)
take_more (y ∷ ys) (suc n) x e = ap (λ (l : List Access). y ∷ l) (take_more ys n x e)

take_next : (xs : List Access) (n : ℕ) (x : Access) → slice_get xs n ≡ Some x → take n xs ++ x ∷ [] ≡ take (n + 1) xs
take_next xs n x e = take_more xs n x e ∙ ap (λ (k : ℕ). take k xs) (over n)
  where
    over : (k : ℕ) → suc k ≡ k + 1
    over k = omega arith

-- one more was made, and its line written
pub made_more : (camera : Address) (o m n : ControlSide) (xs : List Access) (place : ℕ) (d : Access) (text : List ℕ) (w x y : Option (List ℕ)) → place < length xs
    → HasMade camera o (take place xs) m text → Appends w x text
    → Carries camera (get_or xs place d) m n how.Stopped × Appends x y (line_of (get_or xs place d) (value_of n.client.body))
    → (more : List ℕ) × (HasMade camera o (take (place + 1) xs) n more × Appends w y more)
made_more camera o m n xs place d text w x y low so wrote one =
    let access = get_or xs place d in
    let line = line_of access (value_of n.client.body) in (
      text ++ line,
      (
        subst (λ (l : List Access). HasMade camera o l n (text ++ line)) (take_next xs place access (slice_get-get_or xs place d low))
            (one_more (take place xs) m n text access so one.0),
        wrote_then w x y text line wrote one.1,
      ),
    )

-- the next one ended all
pub halts_at : (camera : Address) (o m n : ControlSide) (xs : List Access) (place : ℕ) (d : Access) (text : List ℕ) (fault : RegisterFault) (w x y : Option (List ℕ))
    → place < length xs → HasMade camera o (take place xs) m text → Appends w x text → EndsAll camera (get_or xs place d) m n fault x y
    → Halts camera xs o n fault w y
halts_at camera o m n xs place d text fault w x y low so wrote ended = record {
  done = take place xs;
  access = get_or xs place d;
  rest = drop (suc place) xs;
  are = split xs place (get_or xs place d) (slice_get-get_or xs place d low);
  m = m;
  text = text;
  so = so;
  written_by = x;
  wrote = wrote;
  ended = ended;
}

-- ---- control

-- the count of faults where control wasn't gained
pub gain_fails : (cause : ControlEnd) (x y : ℕ) → Fails false (taking.is_fault cause) x y → Fails false (is_link_fault (fault_by cause)) x y
gain_fails ends.LinkFault x y fails = fails
gain_fails (ends.NoAnswer req) x y fails = fails
gain_fails (ends.RefusedAt register status) x y fails = fails
gain_fails ends.Controlled x y fails = fails
gain_fails ends.ControlLost x y fails = fails

pub gain_no_write : (cause : ControlEnd) → fault_by cause ≡ WriteFault → ⊥
gain_no_write ends.LinkFault is = cc
gain_no_write (ends.NoAnswer req) is = cc
gain_no_write (ends.RefusedAt register status) is = cc
gain_no_write ends.Controlled is = cc
gain_no_write ends.ControlLost is = cc

pub fails_then : (a b : Bool) (x y z : ℕ) → Fails false a x y → Fails a b y z → Fails false b x z
fails_then false false x y z first second = second ∙ first
fails_then false true x y z first second = subst (λ (k : ℕ). Rose k z) first second
fails_then true true x y z first second = subst (λ (k : ℕ). Rose x k) (sym second) first
fails_then true false x y z first second = absurd second

not_write : (access : Access) (end : AcqEnd) → end_by access end ≡ Some WriteFault → ⊥
not_write access how.Stopped is = cc
not_write access how.Spent is = cc
not_write access how.Fault is = cc
not_write access (how.NoAnswer req) is = cc
not_write access (how.Refused status) is = cc

-- how all ended where a write failed
behind_write : (gave end : Outcome) → end ≡ behind (Err WriteFault) gave → (end ≡ Err WriteFault) ⊎ (end ≡ Err LinkFault)
behind_write (Ok done) end is = inl is
behind_write (Err LinkFault) end is = inr is
behind_write (Err WriteFault) end is = inl is
behind_write (Err (NoAnswer req)) end is = inl is
behind_write (Err (RefusedAt register status)) end is = inl is
behind_write (Err Controlled) end is = inl is

neither : (end : Outcome) → (end ≡ Err WriteFault) ⊎ (end ≡ Err LinkFault) → end ≢ Err WriteFault → end ≢ Err LinkFault → ⊥
neither end (inl is) write link = write is
neither end (inr is) write link = link is

pub gives_steady : (camera : Address) (made : Outcome) (o n : ControlSide) (end : Outcome) → GivesAway camera made o n end → end ≢ Err WriteFault → end ≢ Err LinkFault
    → made ≢ Err WriteFault
gives_steady camera made o n end (failed broken same is) write link = λ e. write (is ∙ e)
gives_steady camera made o n end (given whole gave makes is) write link =
    λ e. neither end (behind_write gave end (is ∙ ap (λ (r : Outcome). behind r gave) e)) write link

behind_failed : (camera : Address) (made gave : Outcome) (o n : ControlSide) → MakesAccess camera give_away o n gave → behind made gave ≡ Err WriteFault → made ≡ Err WriteFault
behind_failed camera (Ok done) (Ok gone) o n makes is = let bad : ⊥ = cc in absurd bad
behind_failed camera (Ok done) (Err fault) o n makes is =
    let same : fault ≡ WriteFault = cc in absurd (not_write give_away makes.0 (makes.1.1 ∙ ap (λ (f : RegisterFault). Some f) same))
behind_failed camera (Err fault) (Ok gone) o n makes is = is
behind_failed camera (Err fault) (Err LinkFault) o n makes is = let bad : ⊥ = cc in absurd bad
behind_failed camera (Err fault) (Err WriteFault) o n makes is = is
behind_failed camera (Err fault) (Err (NoAnswer req)) o n makes is = is
behind_failed camera (Err fault) (Err (RefusedAt register status)) o n makes is = is
behind_failed camera (Err fault) (Err Controlled) o n makes is = is

pub gives_failed : (camera : Address) (made : Outcome) (o n : ControlSide) (end : Outcome) → GivesAway camera made o n end → end ≡ Err WriteFault → made ≡ Err WriteFault
gives_failed camera made o n end (failed broken same is) e = sym is ∙ e
gives_failed camera made o n end (given whole gave makes is) e = behind_failed camera made gave o n makes (sym is ∙ e)

-- ---- over ports

pub blank_of : (address : ℕ) (answers : Option (List Answer)) → IsBlank answers → IsBlank (heard_of address answers)
blank_of address None blank = tt
blank_of address (Some answers) blank = ap with_registers (ap (all_from address) blank)

-- ---- lines

pub joined : (a r b v e : List ℕ) → (((a ++ r) ++ b) ++ v) ++ e ≡ a ++ (r ++ (b ++ (v ++ e)))
joined a r b v e = append_assoc ((a ++ r) ++ b) v e ∙ (append_assoc (a ++ r) b (v ++ e) ∙ append_assoc a r (b ++ (v ++ e)))
