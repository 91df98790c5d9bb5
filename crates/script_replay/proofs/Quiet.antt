-- Events that leave alone what lies at the places, and hand nothing out.
use Rattle.std.proofs.Common.{◌≡◌, ◌≢◌, ◌⊎◌, ℕ, zero, suc, ◌+◌, List, [], ◌∷◌, ◌++◌, Option, Some, None, Result, Ok, Err, refl, sym, ap, subst, ◌∙◌, inl, inr, arith}
use Rattle.gev_types.specs.Filling.{Filling}
use Rattle.gentl_types.specs.declared.buffer_id.BufferId.{BufferId}
use Rattle.gentl_types.specs.declared.errors.GcError.{GcError}
use Rattle.gentl_types.specs.declared.errors.GcError.TheVariants.{ResourceInUse, InvalidHandle, InvalidParameter, NotAvailable, Timeout, Abort, Busy, OutOfMemory, ResourceExhausted}
use Rattle.gentl_types.specs.declared.errors.Shown.TheVariants as shown
use Rattle.gentl_types.specs.declared.word.Word.{Word}
use Rattle.board_machine.specs.declared.events.Event.{Event}
use Rattle.board_machine.specs.declared.events.Event.TheVariants.{Enrol, Vacate, Fill, Take}
use Rattle.board_machine.specs.declared.events.TakeEnd.TheVariants.{Taken}
use Rattle.board_machine.specs.Adding.{entries_of}
use Rattle.board_machine.specs.Handout.{handed, handed_by}
use Rattle.board_calls.specs.Rounds.{refused_from, looks_from, lays, pools, pools_seen, pools_from, Seen, PoolsHeld}
use Rattle.board_calls.specs.Calls.{LooksOut, OpensWith, Queues, RefusesGrab, Borrows, Returns, DiscardsOutput, FlushesToInput, DiscardsAll, Closes, Gets, Kills, Flushes, FlushesBy, Revokes, Announces, Starts, Stops}
use Rattle.board_calls.specs.Infos.{Infos, InfosBy, BufferInfos, BufferInfosBy}
use Rattle.script_trace.specs.Contents.{content_after, contents_from, FillsAsLay, FillsFrom}

-- The event brings no buffer to a place and takes none away, fills none, and takes none of the output.
abbrev pub IsQuiet : Event → Type 0
IsQuiet (Enrol i size (Ok g)) = ⊥
IsQuiet (Vacate i) = ⊥
IsQuiet (Fill i f filled) = ⊥
IsQuiet (Take (Taken i)) = ⊥
IsQuiet _ = Unit {0}

abbrev pub AreQuiet : List Event → Type 0
AreQuiet [] = Unit {0}
AreQuiet (e ∷ es) = IsQuiet e × AreQuiet es

one_stays : (c : List (Option Filling)) (e : Event) → IsQuiet e → content_after c e ≡ c
one_stays c (Enrol i size (Ok g)) quiet = absurd quiet
one_stays c (Vacate i) quiet = absurd quiet
one_stays c (Fill i f filled) quiet = absurd quiet
one_stays c e quiet = refl

one_fills : (c : List (Option Filling)) (k : ℕ) (e : Event) → IsQuiet e → FillsAsLay c k e
one_fills c k (Fill i f filled) quiet = absurd quiet
one_fills c k e quiet = tt

one_hands : (e : Event) → IsQuiet e → handed_by e ≡ []
one_hands (Take (Taken i)) quiet = absurd quiet
one_hands e quiet = refl

pub contents_stay : (c : List (Option Filling)) (k : ℕ) (es : List Event) → AreQuiet es → contents_from c (entries_of k es) ≡ c
contents_stay c k [] quiet = refl
contents_stay c k (e ∷ es) quiet = ap (λ d. contents_from d (entries_of k es)) (one_stays c e quiet.0) ∙ contents_stay c k es quiet.1

pub quiet_fills : (c : List (Option Filling)) (k : ℕ) (es : List Event) → AreQuiet es → FillsFrom c (entries_of k es)
quiet_fills c k [] quiet = tt
quiet_fills c k (e ∷ es) quiet = (one_fills c k e quiet.0, quiet_fills c k es quiet.1)

pub quiet_hands : (k : ℕ) (es : List Event) → AreQuiet es → handed (entries_of k es) ≡ []
quiet_hands k [] quiet = refl
quiet_hands k (e ∷ es) quiet = ap (λ is. is ++ handed (entries_of k es)) (one_hands e quiet.0) ∙ quiet_hands k es quiet.1

-- ---- lists of them

pub both_quiet : (es fs : List Event) → AreQuiet es → AreQuiet fs → AreQuiet (es ++ fs)
both_quiet [] fs first second = second
both_quiet (e ∷ es) fs first second = (first.0, both_quiet es fs first.1 second)

pub quiet_as : (es fs : List Event) → es ≡ fs → AreQuiet fs → AreQuiet es
quiet_as es fs is quiet = subst AreQuiet (sym is) quiet

pub quiet_lays : (is : List ℕ) → AreQuiet (lays is)
quiet_lays [] = tt
quiet_lays (i ∷ is) = (tt, quiet_lays is)

pub quiet_pools : (is : List ℕ) → AreQuiet (pools is)
quiet_pools [] = tt
quiet_pools (i ∷ is) = (tt, quiet_pools is)

pub quiet_looks : (i : ℕ) (words : List Word) → AreQuiet (looks_from i words)
quiet_looks i [] = tt
quiet_looks i (w ∷ words) = (tt, quiet_looks (i + 1) words)

pub quiet_refused : (i size : ℕ) (words : List Word) → AreQuiet (refused_from i size words)
quiet_refused i size [] = tt
quiet_refused i size (w ∷ words) = (tt, quiet_refused (i + 1) size words)

quiet_seen : (i : ℕ) (w : Word) (grab : Option (Result (Unit {0}) Word)) → AreQuiet (pools_seen i w grab)
quiet_seen i w None = (tt, tt)
quiet_seen i w (Some (Ok done)) = (tt, (tt, (tt, tt)))
quiet_seen i w (Some (Err found)) = (tt, (tt, tt))

pub quiet_rounds : (i : ℕ) (seen : List Seen) → AreQuiet (pools_from i seen)
quiet_rounds i [] = tt
quiet_rounds i (one ∷ more) = both_quiet (pools_seen i one.word one.grab) (pools_from (i + 1) more) (quiet_seen i one.word one.grab) (quiet_rounds (i + 1) more)

-- ---- the calls

pub look_quiet : (closed : _) (es : List Event) → LooksOut closed es → AreQuiet es
look_quiet closed es look = quiet_as es _ look.is (tt, tt)

pub opens_quiet : (rest es : List Event) → AreQuiet rest → OpensWith rest es → AreQuiet es
opens_quiet rest es quiet opens = quiet_as es _ opens.is (tt, quiet)

grab_quiet : (id : BufferId) (error : GcError) (es : List Event) → RefusesGrab id error es → AreQuiet es
grab_quiet id (InvalidHandle (shown.NoHandle n)) es refused = quiet_as es [] refused.2 tt
grab_quiet id (InvalidHandle (shown.Word w)) es refused = quiet_as es _ refused.2 (tt, tt)
grab_quiet id (ResourceInUse (shown.Word w)) es refused = quiet_as es _ refused.2 (tt, tt)
grab_quiet id error es refused = absurd refused

pub queue_quiet : (id : BufferId) (answer : Result (Unit {0}) GcError) (es : List Event) → Queues id answer es → AreQuiet es
queue_quiet id (Ok done) es kind = opens_quiet _ es (tt, (tt, tt)) kind.1
queue_quiet id (Err (InvalidHandle shown.Closed)) es kind = look_quiet _ es kind
queue_quiet id (Err error) es kind = opens_quiet kind.0 es (grab_quiet id error kind.0 kind.1) kind.2

pub kill_quiet : (es : List Event) → Kills es → AreQuiet es
kill_quiet es kind = quiet_as es _ kind (tt, tt)

pub return_quiet : (place : ℕ) (es : List Event) → Returns place es → AreQuiet es
return_quiet place es kind = quiet_as es _ kind (tt, tt)

pub borrow_quiet : {T : Type 0} (id : BufferId) (answer : Result T GcError) (es : List Event) → Borrows {T = T} id answer es → AreQuiet es
borrow_quiet id (Ok loan) es kind = quiet_as es _ kind.1 (tt, tt)
borrow_quiet id (Err error) es kind = grab_quiet id error es kind

pub discard_quiet : (es : List Event) → DiscardsOutput es → AreQuiet es
discard_quiet es kind = quiet_as es _ kind.is (tt, quiet_lays kind.output)

pub held_quiet : (es : List Event) → PoolsHeld es → AreQuiet es
held_quiet es kind = quiet_as es _ kind.is (quiet_rounds 0 kind.seen)

pub input_quiet : (es : List Event) → FlushesToInput es → AreQuiet es
input_quiet es kind = quiet_as es _ kind.is (tt, both_quiet (pools kind.output) kind.rest (quiet_pools kind.output) (held_quiet kind.rest kind.held))

pub discards_quiet : (es : List Event) → DiscardsAll es → AreQuiet es
discards_quiet es kind = quiet_as es _ kind.is (tt, (tt, both_quiet (lays kind.pooled) (lays kind.output) (quiet_lays kind.pooled) (quiet_lays kind.output)))

pub close_quiet : (es : List Event) → Closes es → AreQuiet es
close_quiet es kind = quiet_as es _ kind.is (tt, (tt, (tt, both_quiet (lays kind.output) (lays kind.pooled) (quiet_lays kind.output) (quiet_lays kind.pooled))))

pub flush_by_quiet : (operation : ℕ) (es : List Event) → operation ≢ 0 → FlushesBy operation es → AreQuiet es
flush_by_quiet zero es some by = absurd (some refl)
flush_by_quiet (suc zero) es some by = discard_quiet es (by.discards_output refl)
flush_by_quiet (suc (suc zero)) es some by = input_quiet es (by.to_input refl)
flush_by_quiet (suc (suc (suc zero))) es some by = held_quiet es (by.unqueued_to_input refl)
flush_by_quiet (suc (suc (suc (suc zero)))) es some by = discards_quiet es (by.discards_all refl)
flush_by_quiet (suc (suc (suc (suc (suc n))))) es some by = absurd (omega (arith, by.in_range))

pub flush_quiet : (operation : ℕ) (answer : Result (Unit {0}) GcError) → operation ≢ 0 → (es : List Event) → Flushes operation answer es → AreQuiet es
flush_quiet operation (Ok done) some es kind = flush_by_quiet operation es some kind
flush_quiet operation (Err (InvalidParameter n)) some es kind = quiet_as es [] kind.2 tt
flush_quiet operation (Err error) some es kind = absurd kind

infos_by_quiet : (which told : ℕ) (es : List Event) → InfosBy which told es → AreQuiet es
infos_by_quiet which told es by = go by.known
  where
    go : (which ≡ 3) ⊎ (which ≡ 5) ⊎ (which ≡ 8) ⊎ (which ≡ 1000) → AreQuiet es
    go (inl e) = let found = by.announced e in quiet_as es _ found.is (quiet_looks 0 found.words)
    go (inr (inl e)) = quiet_as es _ (by.awaiting e).is (tt, tt)
    go (inr (inr (inl e))) = quiet_as es _ (by.grabbing e).is (tt, tt)
    go (inr (inr (inr e))) = quiet_as es _ (by.pooled e).is (tt, tt)

pub info_quiet : (which : ℕ) (answer : Result ℕ GcError) (es : List Event) → Infos which answer es → AreQuiet es
info_quiet which (Ok told) es kind = infos_by_quiet which told es kind
info_quiet which (Err (NotAvailable n)) es kind = quiet_as es [] kind.2 tt
info_quiet which (Err error) es kind = absurd kind

buffer_by_quiet : (id : BufferId) (which told : ℕ) (es : List Event) → BufferInfosBy id which told es → AreQuiet es
buffer_by_quiet id which told es by = go by.known
  where
    go : (which ≡ 1) ⊎ (which ≡ 1000) → AreQuiet es
    go (inl e) = quiet_as es _ (by.size e).is (tt, tt)
    go (inr e) = let found = by.queued e in quiet_as es _ found.is (tt, quiet_as found.rest _ found.looks.is (tt, (tt, tt)))

pub buffer_info_quiet : (id : BufferId) (which : ℕ) (answer : Result ℕ GcError) (es : List Event) → BufferInfos id which answer es → AreQuiet es
buffer_info_quiet id which (Ok told) es kind = buffer_by_quiet id which told es kind
buffer_info_quiet id which (Err (InvalidHandle (shown.NoHandle n))) es kind = quiet_as es [] kind.2 tt
buffer_info_quiet id which (Err (InvalidHandle (shown.Word w))) es kind = quiet_as es _ kind.2 (tt, tt)
buffer_info_quiet id which (Err (NotAvailable n)) es kind = quiet_as es _ kind.4.2 (tt, tt)
buffer_info_quiet id which (Err error) es kind = absurd kind

pub get_quiet : {T : Type 0} (moment : ℕ) (place : T → ℕ) (refusal : GcError) (es : List Event) → Gets {T = T} moment place (Err refusal) es → AreQuiet es
get_quiet moment place (InvalidHandle shown.Closed) es kind = quiet_as es _ kind (tt, tt)
get_quiet moment place Abort es kind = quiet_as es _ kind (tt, (tt, tt))
get_quiet moment place (Timeout first last) es kind = quiet_as es _ kind.2 (tt, (tt, tt))
get_quiet moment place error es kind = absurd kind

pub revoke_quiet : (T : Type 0) (id : BufferId) (refusal : GcError) (es : List Event) → Revokes {T = T} id (Err refusal) es → AreQuiet es
revoke_quiet T id (InvalidHandle (shown.NoHandle n)) es kind = quiet_as es [] kind.2 tt
revoke_quiet T id (InvalidHandle (shown.Word w)) es kind = quiet_as es _ kind.2 (tt, tt)
revoke_quiet T id (Busy w) es kind = quiet_as es _ kind.2 (tt, tt)
revoke_quiet T id error es kind = absurd kind

pub announce_quiet : (size : ℕ) (refusal : GcError) (es : List Event) → Announces size (Err refusal) es → AreQuiet es
announce_quiet size (InvalidHandle shown.Closed) es kind = look_quiet _ es kind
announce_quiet size (InvalidParameter n) es kind = look_quiet _ es kind.2
announce_quiet size OutOfMemory es kind = look_quiet _ es kind.1
announce_quiet size ResourceExhausted es kind = opens_quiet _ es (quiet_refused 0 size kind.1.0) kind.1.2
announce_quiet size error es kind = absurd kind

pub start_quiet : (answer : Result (Unit {0}) GcError) (es : List Event) → Starts answer es → AreQuiet es
start_quiet (Ok done) es kind = opens_quiet _ es (tt, tt) kind
start_quiet (Err (InvalidHandle shown.Closed)) es kind = look_quiet _ es kind
start_quiet (Err (ResourceInUse (shown.Word w))) es kind = opens_quiet _ es (tt, tt) kind.2
start_quiet (Err error) es kind = absurd kind

pub stop_quiet : (flags : ℕ) (answer : Result (Unit {0}) GcError) (es : List Event) → Stops flags answer es → AreQuiet es
stop_quiet flags (Ok done) es kind = quiet_as es _ kind.1 (tt, tt)
stop_quiet flags (Err (InvalidParameter n)) es kind = quiet_as es [] kind.2 tt
stop_quiet flags (Err (ResourceInUse (shown.Word w))) es kind = quiet_as es _ kind.1.2 (tt, tt)
stop_quiet flags (Err error) es kind = absurd kind
