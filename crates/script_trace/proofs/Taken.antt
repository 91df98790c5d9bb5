-- What the acquisition's takes took is what its acts drop.
use Rattle.std.proofs.Common.{◌≡◌, ℕ, ◌==◌, Bool, true, false, cond, List, [], ◌∷◌, ◌++◌, take, refl, sym, ap, subst, ◌∙◌, append_assoc, append-nil}
use Rattle.std.specs.Prelude.{Some, None, if◌then◌else◌}
use Rattle.std.proofs.lemmas.Bool.{eqb-true}
use Rattle.board_machine.specs.declared.events.Entry.{Entry}
use Rattle.board_machine.specs.declared.events.Event.{Event}
use Rattle.board_machine.specs.declared.events.Event.TheVariants.{Claim, Fill, Take}
use Rattle.board_machine.specs.declared.events.TakeEnd.TheVariants.{Taken, Empty, Closed}
use Rattle.board_machine.specs.Machine.{item, empty_board}
use Rattle.board_machine.specs.Histories.{Run}
use Rattle.board_machine.specs.Handout.{handed_by, handed, taken_items}
use Rattle.board_machine.specs.Laws.{TakesFirst}
use Rattle.board_machine.proofs.Runs.{runs_front}
use Rattle.board_machine.proofs.Handed.{taken_stays, take_hands}
use Rattle.board_calls.specs.Dropped.{dropped_items}
use Rattle.script_trace.specs.Trace.{acquirer}
use Rattle.script_trace.specs.Modes.{acquires}
use Rattle.script_trace.specs.Drops.{Doing, drops, fills, gets, seeks, other, doing_of, doing, first_item}
use Rattle.script_trace.proofs.Yields.{drops_now, dropped_in}

-- ---- one entry

-- what it drops adds to what was taken
abbrev AddsTaken : List Entry → Entry → Doing → Type 0
AddsTaken h e d = taken_items acquirer (h ++ e ∷ []) ≡ taken_items acquirer h ++ drops_now d (first_item h)

none_handed : (mine : Bool) (e : Entry) → handed_by e.event ≡ [] → handed (cond mine (e ∷ []) []) ≡ []
none_handed true e none = ap (λ l. l ++ []) none
none_handed false e none = refl

stays_taken : (h : List Entry) (e : Entry) (d : Doing) → Run (h ++ e ∷ []) → handed_by e.event ≡ [] → drops_now d (first_item h) ≡ [] → AddsTaken h e d
stays_taken h e d run none nothing =
    taken_stays h (e ∷ []) acquirer run (none_handed (e.by == acquirer) e none)
    ∙ (sym (append-nil (taken_items acquirer h)) ∙ ap (λ l. taken_items acquirer h ++ l) (sym nothing))

-- the acquisition's take
takes_one : (h : List Entry) (e : Entry) (i : ℕ) → Run (h ++ e ∷ []) → e.by ≡ acquirer → e.event ≡ Take (Taken i) → AddsTaken h e drops
takes_one h e i run mine is =
    let one : TakesFirst h i e = take_hands h e i run is in
    let first : first_item h ≡ item i one.filling ∷ [] = ap (λ l. take 1 l) one.first in
    subst (λ (k : ℕ). taken_items k (h ++ e ∷ []) ≡ taken_items k h ++ item i one.filling ∷ []) mine one.taken
    ∙ ap (λ l. taken_items acquirer h ++ l) (sym first)

own_act : (h : List Entry) (e : Entry) (event : Event) → Run (h ++ e ∷ []) → e.by ≡ acquirer → e.event ≡ event → AddsTaken h e (doing_of event)
own_act h e (Take (Taken i)) run mine is = takes_one h e i run mine is
own_act h e (Take Empty) run mine is = stays_taken h e other run (ap handed_by is) refl
own_act h e (Take Closed) run mine is = stays_taken h e other run (ap handed_by is) refl
own_act h e (Fill i f filled) run mine is = stays_taken h e fills run (ap handed_by is) refl
own_act h e (Claim (Some i)) run mine is = stays_taken h e gets run (ap handed_by is) refl
own_act h e (Claim None) run mine is = stays_taken h e seeks run (ap handed_by is) refl
own_act h e _ run mine is = stays_taken h e other run (ap handed_by is) refl

entry_taken : (h : List Entry) (e : Entry) (mine : Bool) → (e.by == acquirer) ≡ mine → Run (h ++ e ∷ []) → AddsTaken h e (if mine then doing_of e.event else other)
entry_taken h e true so run = own_act h e e.event run (eqb-true e.by acquirer so) refl
entry_taken h e false so run =
    taken_stays h (e ∷ []) acquirer run (ap (λ (v : Bool). handed (cond v (e ∷ []) [])) so) ∙ sym (append-nil (taken_items acquirer h))

-- ---- all of them

pub all_taken : (h es : List Entry) → Run (h ++ es) → dropped_items acquires (h ++ es) ≡ dropped_items acquires h ++ dropped_in h es
all_taken h [] run = ap (dropped_items acquires) (append-nil h) ∙ sym (append-nil (dropped_items acquires h))
all_taken h (e ∷ es) run =
    let behind : List Entry = h ++ e ∷ [] in
    let same : behind ++ es ≡ h ++ (e ∷ es) = append_assoc h (e ∷ []) es in
    let all : Run (behind ++ es) = subst Run (sym same) run in
    let one : AddsTaken h e (doing e) = entry_taken h e (e.by == acquirer) refl (runs_front empty_board behind es all) in
    ap (dropped_items acquires) (sym same)
    ∙ (all_taken behind es all
    ∙ (ap (λ l. l ++ dropped_in behind es) one
    ∙ append_assoc (dropped_items acquires h) (drops_now (doing e) (first_item h)) (dropped_in behind es)))
