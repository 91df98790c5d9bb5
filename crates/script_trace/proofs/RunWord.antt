-- Calls other than start and stop leave the run word.
use Rattle.std.proofs.Common.{◌≡◌, ◌⊎◌, inl, inr, ℕ, ◌+◌, ◌≤◌, arith, Bool, true, false, List, [], ◌∷◌, ◌++◌, refl, sym, ap, subst, ◌∙◌}
use Rattle.std.specs.Prelude.{⊤, Option, Some, None, Result, Ok, Err}
use Rattle.std.specs.List.{AllByRecursion}
use native.Mathlib.Decide.{ℕ_discrete}
use Rattle.gentl_types.specs.declared.word.Word.{Word}
use Rattle.gentl_types.specs.declared.buffer_id.BufferId.{BufferId}
use Rattle.gentl_types.specs.declared.errors.GcError.{GcError}
use Rattle.gentl_types.specs.declared.errors.GcError.TheVariants.{ResourceInUse, InvalidHandle, InvalidParameter, Timeout, Abort, NotAvailable, ResourceExhausted, OutOfMemory, Busy}
use Rattle.gentl_types.specs.declared.errors.Shown.TheVariants as shown
use Rattle.board_machine.specs.declared.events.Event.{Event}
use Rattle.board_machine.specs.declared.events.Event.TheVariants.{Look, LookPool, LookOut, LookRun, Enrol, Grab, Lay, Vacate, Pool, Claim, SweepPool, Fill, Take, SweepOut, Close, Post, Unpost, Start, Stop, Split, Join}
use Rattle.board_machine.specs.declared.events.TakeEnd.TheVariants as taken
use Rattle.board_machine.specs.Machine.{Board, entry, next}
use Rattle.board_machine.specs.Histories.{after_from}
use Rattle.board_machine.specs.Adding.{entries_of}
use Rattle.board_calls.specs.Calls.{FlushesBy, FlushesToOutput, FlushesToInput, DiscardsAll, Announces, Queues, Revokes, Borrows, Flushes, DiscardsOutput, Gets, Kills, Closes, RefusesGrab, itself, Starts, Stops}
use Rattle.board_calls.specs.Infos.{InfosBy, BufferInfosBy, Infos, BufferInfos, IsStreamInfo}
use Rattle.board_calls.specs.Rounds.{refused_from, lays, pools, looks_from, filled_or_laid, FillsEach, Seen, pools_seen, pools_from, PoolsHeld}
use Rattle.acquisition_machine.proofs.Order.{all_append}

-- not a start or a stop that was done
abbrev pub KeepsRun : Event → Type 0
KeepsRun (Start (Ok done)) = ⊥
KeepsRun (Stop kill (Ok done)) = ⊥
KeepsRun _ = ⊤

abbrev pub KeepRun : List Event → Type 0
KeepRun es = AllByRecursion KeepsRun es

keeps_run : (b : Board) (k : ℕ) (e : Event) → KeepsRun e → (next b (entry k e)).run ≡ b.run
keeps_run b k (Look i w) h = refl
keeps_run b k (LookPool is) h = refl
keeps_run b k (LookOut is closed) h = refl
keeps_run b k (LookRun r) h = refl
keeps_run b k (Enrol i size (Ok g)) h = refl
keeps_run b k (Enrol i size (Err w)) h = refl
keeps_run b k (Grab i g (Ok done)) h = refl
keeps_run b k (Grab i g (Err w)) h = refl
keeps_run b k (Lay i) h = refl
keeps_run b k (Vacate i) h = refl
keeps_run b k (Pool i) h = refl
keeps_run b k (Claim (Some i)) h = refl
keeps_run b k (Claim None) h = refl
keeps_run b k (SweepPool is) h = refl
keeps_run b k (Fill i f true) h = refl
keeps_run b k (Fill i f false) h = refl
keeps_run b k (Take (taken.Taken i)) h = refl
keeps_run b k (Take taken.Empty) h = refl
keeps_run b k (Take taken.Closed) h = refl
keeps_run b k (SweepOut is) h = refl
keeps_run b k Close h = refl
keeps_run b k Post h = refl
keeps_run b k (Unpost stood) h = refl
keeps_run b k (Start (Ok done)) h = absurd h
keeps_run b k (Start (Err r)) h = refl
keeps_run b k (Stop kill (Ok done)) h = absurd h
keeps_run b k (Stop kill (Err r)) h = refl
keeps_run b k (Split n) h = refl
keeps_run b k (Join n) h = refl

pub run_kept : (b : Board) (k : ℕ) (es : List Event) → KeepRun es → (after_from b (entries_of k es)).run ≡ b.run
run_kept b k [] h = refl
run_kept b k (e ∷ es) h = run_kept (next b (entry k e)) k es h.1 ∙ keeps_run b k e h.0

pub along : (es fs : List Event) → es ≡ fs → KeepRun fs → KeepRun es
along es fs is h = subst KeepRun (sym is) h

both : (es fs : List Event) → KeepRun es → KeepRun fs → KeepRun (es ++ fs)
both es fs a b = all_append KeepsRun es fs a b

-- ---- parts of calls

refused_keep : (i size : ℕ) (words : List Word) → KeepRun (refused_from i size words)
refused_keep i size [] = tt
refused_keep i size (w ∷ words) = (tt, refused_keep (i + 1) size words)

lays_keep : (is : List ℕ) → KeepRun (lays is)
lays_keep [] = tt
lays_keep (i ∷ is) = (tt, lays_keep is)

pools_keep : (is : List ℕ) → KeepRun (pools is)
pools_keep [] = tt
pools_keep (i ∷ is) = (tt, pools_keep is)

looks_keep : (i : ℕ) (words : List Word) → KeepRun (looks_from i words)
looks_keep i [] = tt
looks_keep i (w ∷ words) = (tt, looks_keep (i + 1) words)

seen_keep : (i : ℕ) (w : Word) (grab : Option (Result (Unit {0}) Word)) → KeepRun (pools_seen i w grab)
seen_keep i w None = (tt, tt)
seen_keep i w (Some (Ok done)) = (tt, (tt, (tt, tt)))
seen_keep i w (Some (Err found)) = (tt, (tt, tt))

pools_from_keep : (i : ℕ) (seen : List Seen) → KeepRun (pools_from i seen)
pools_from_keep i [] = tt
pools_from_keep i (s ∷ seen) = both (pools_seen i s.word s.grab) (pools_from (i + 1) seen) (seen_keep i s.word s.grab) (pools_from_keep (i + 1) seen)

held_keep : (es : List Event) → PoolsHeld es → KeepRun es
held_keep es h = along es (pools_from 0 h.seen) h.is (pools_from_keep 0 h.seen)

filled_keep : (i : ℕ) (f : _) (filled : Bool) → KeepRun (filled_or_laid i f filled)
filled_keep i f true = (tt, tt)
filled_keep i f false = (tt, (tt, tt))

fills_keep : (is : List ℕ) (es : List Event) → FillsEach is es → KeepRun es
fills_keep [] es is = along es [] is tt
fills_keep (i ∷ is) es (f, filled, rest, empty, parts, more) =
    along es (filled_or_laid i f filled ++ rest) parts (both (filled_or_laid i f filled) rest (filled_keep i f filled) (fills_keep is rest more))

-- ---- calls

pub announces_keep : (size : ℕ) (answer : Result BufferId GcError) (es : List Event) → Announces size answer es → KeepRun es
announces_keep size (Ok id) es (sized, (words, tries, opens)) =
    along es _ opens.is (tt, both (refused_from 0 size words) _ (refused_keep 0 size words) (tt, (tt, tt)))
announces_keep size (Err (InvalidHandle shown.Closed)) es looks = along es _ looks.is (tt, tt)
announces_keep size (Err (InvalidParameter n)) es (same, none, looks) = along es _ looks.is (tt, tt)
announces_keep size (Err OutOfMemory) es (sized, looks) = along es _ looks.is (tt, tt)
announces_keep size (Err ResourceExhausted) es (sized, (words, all, opens)) = along es _ opens.is (tt, refused_keep 0 size words)
announces_keep size (Err _) es h = absurd h

refusal_keeps : (id : BufferId) (error : GcError) (es : List Event) → RefusesGrab id error es → KeepRun es
refusal_keeps id (InvalidHandle (shown.NoHandle n)) es (high, same, is) = along es [] is tt
refusal_keeps id (InvalidHandle (shown.Word w)) es (low, gone, is) = along es _ is (tt, tt)
refusal_keeps id (ResourceInUse (shown.Word w)) es (low, away, is) = along es _ is (tt, tt)
refusal_keeps id _ es h = absurd h

pub queues_keep : (id : BufferId) (answer : Result (Unit {0}) GcError) (es : List Event) → Queues id answer es → KeepRun es
queues_keep id (Ok done) es (low, opens) = along es _ opens.is (tt, (tt, (tt, tt)))
queues_keep id (Err (InvalidHandle shown.Closed)) es looks = along es _ looks.is (tt, tt)
queues_keep id (Err error) es (rest, refuses, opens) = along es _ opens.is (tt, refusal_keeps id error rest refuses)

pub borrows_keep : (id : BufferId) (answer : Result (Unit {0}) GcError) (es : List Event) → Borrows id answer es → KeepRun es
borrows_keep id (Ok loan) es (low, is) = along es _ is (tt, tt)
borrows_keep id (Err error) es refuses = refusal_keeps id error es refuses

pub revokes_keep : (id : BufferId) (answer : Result (Unit {0}) GcError) (es : List Event) → Revokes id answer es → KeepRun es
revokes_keep id (Ok done) es (low, is) = along es _ is (tt, (tt, tt))
revokes_keep id (Err (InvalidHandle (shown.NoHandle n))) es (high, same, is) = along es [] is tt
revokes_keep id (Err (InvalidHandle (shown.Word w))) es (low, gone, is) = along es _ is (tt, tt)
revokes_keep id (Err (Busy w)) es (low, away, is) = along es _ is (tt, tt)
revokes_keep id (Err _) es h = absurd h

pub discards_keep : (es : List Event) → DiscardsOutput es → KeepRun es
discards_keep es d = along es _ d.is (tt, lays_keep d.output)

pub kills_keep : (es : List Event) → Kills es → KeepRun es
kills_keep es is = along es _ is (tt, tt)

pub closes_keep : (es : List Event) → Closes es → KeepRun es
closes_keep es h = along es (Close ∷ SweepOut h.output ∷ SweepPool h.pooled ∷ (lays h.output ++ lays h.pooled)) h.is (tt, (tt, (tt, both (lays h.output) (lays h.pooled) (lays_keep h.output) (lays_keep h.pooled))))

pub gets_keep : (moment : ℕ) (answer : Result ℕ GcError) (es : List Event) → Gets moment itself answer es → KeepRun es
gets_keep moment (Ok place) es is = along es _ is (tt, tt)
gets_keep moment (Err (InvalidHandle shown.Closed)) es is = along es _ is (tt, tt)
gets_keep moment (Err Abort) es is = along es _ is (tt, (tt, tt))
gets_keep moment (Err (Timeout first last)) es (one, two, is) = along es _ is (tt, (tt, tt))
gets_keep moment (Err _) es h = absurd h

pub starts_keep : (error : GcError) (es : List Event) → Starts (Err error) es → KeepRun es
starts_keep (InvalidHandle shown.Closed) es looks = along es _ looks.is (tt, tt)
starts_keep (ResourceInUse (shown.Word w)) es (r, is, opens) = along es _ opens.is (tt, (tt, tt))
starts_keep _ es h = absurd h

pub stops_keep : (flags : ℕ) (error : GcError) (es : List Event) → Stops flags (Err error) es → KeepRun es
stops_keep flags (InvalidParameter n) es (same, high, is) = along es [] is tt
stops_keep flags (ResourceInUse (shown.Word w)) es (low, (r, same, is)) = along es _ is (tt, tt)
stops_keep flags _ es h = absurd h

-- ---- flushes and informations

-- a number of at most four is one of five
pub five : {A : Type 0} (n : ℕ) → n ≤ 4 → (n ≡ 0 → A) → (n ≡ 1 → A) → (n ≡ 2 → A) → (n ≡ 3 → A) → (n ≡ 4 → A) → A
five n few zero one two three four =
    is (ℕ_discrete n 0) zero λ n0.
    is (ℕ_discrete n 1) one λ n1.
    is (ℕ_discrete n 2) two λ n2.
    is (ℕ_discrete n 3) three λ n3.
    four (omega (arith, few, n0, n1, n2, n3))
  where
    is : {A B : Type 0} → Dec B → (B → A) → ((B → ⊥) → A) → A
    is (yes h) f g = f h
    is (no h) f g = g h

flush_keeps : (operation : ℕ) (es : List Event) → FlushesBy operation es → KeepRun es
flush_keeps operation es f =
    five operation f.in_range
    (λ e. to_output_keeps es (f.to_output e))
    (λ e. discards_keep es (f.discards_output e))
    (λ e. to_input_keeps es (f.to_input e))
    (λ e. held_keep es (f.unqueued_to_input e))
    (λ e. all_keep es (f.discards_all e))
  where
    to_output_keeps : (fs : List Event) → FlushesToOutput fs → KeepRun fs
    to_output_keeps fs h = along fs _ h.is (tt, fills_keep h.pooled h.rest h.fills)

    to_input_keeps : (fs : List Event) → FlushesToInput fs → KeepRun fs
    to_input_keeps fs h = along fs _ h.is (tt, both (pools h.output) h.rest (pools_keep h.output) (held_keep h.rest h.held))

    all_keep : (fs : List Event) → DiscardsAll fs → KeepRun fs
    all_keep fs h = along fs _ h.is (tt, (tt, both (lays h.pooled) (lays h.output) (lays_keep h.pooled) (lays_keep h.output)))

pub flushes_keep : (operation : ℕ) (answer : Result (Unit {0}) GcError) (es : List Event) → Flushes operation answer es → KeepRun es
flushes_keep operation (Ok done) es f = flush_keeps operation es f
flushes_keep operation (Err (InvalidParameter n)) es (same, high, is) = along es [] is tt
flushes_keep operation (Err _) es h = absurd h

info_keeps : (which told : ℕ) (es : List Event) → InfosBy which told es → KeepRun es
info_keeps which told es h = by h.known
  where
    by : IsStreamInfo which → KeepRun es
    by (inl e) = along es _ (h.announced e).is (looks_keep 0 (h.announced e).words)
    by (inr (inl e)) = along es _ (h.awaiting e).is (tt, tt)
    by (inr (inr (inl e))) = along es _ (h.grabbing e).is (tt, tt)
    by (inr (inr (inr e))) = along es _ (h.pooled e).is (tt, tt)

pub infos_keep : (which : ℕ) (answer : Result ℕ GcError) (es : List Event) → Infos which answer es → KeepRun es
infos_keep which (Ok value) es h = info_keeps which value es h
infos_keep which (Err (NotAvailable n)) es (same, none, is) = along es [] is tt
infos_keep which (Err _) es h = absurd h

buffer_info_keeps : (id : BufferId) (which told : ℕ) (es : List Event) → BufferInfosBy id which told es → KeepRun es
buffer_info_keeps id which told es h = by h.known
  where
    by : (which ≡ 1) ⊎ (which ≡ 1000) → KeepRun es
    by (inl e) = along es _ (h.size e).is (tt, tt)
    by (inr e) = along es _ ((h.queued e).is ∙ ap (λ l. Look id.place h.word ∷ l) (h.queued e).looks.is) (tt, (tt, (tt, tt)))

pub buffer_infos_keep : (id : BufferId) (which : ℕ) (answer : Result ℕ GcError) (es : List Event) → BufferInfos id which answer es → KeepRun es
buffer_infos_keep id which (Ok value) es h = buffer_info_keeps id which value es h
buffer_infos_keep id which (Err (InvalidHandle (shown.NoHandle n))) es (high, same, is) = along es [] is tt
buffer_infos_keep id which (Err (InvalidHandle (shown.Word w))) es (low, gone, is) = along es _ is (tt, tt)
buffer_infos_keep id which (Err (NotAvailable n)) es (low, same, not1, not1000, (word, live, is)) = along es _ is (tt, tt)
buffer_infos_keep id which (Err _) es h = absurd h
