-- Lists of events that one actor adds: one after another, and which actors there are after them.
use Rattle.std.proofs.Common.{◌≡◌, ◌≢◌, ℕ, List, [], ◌∷◌, ◌++◌, refl, sym, ap, subst, ◌∙◌}
use Rattle.board_machine.specs.declared.events.Entry.{Entry}
use Rattle.board_machine.specs.declared.events.Event.{Event}
use Rattle.board_machine.specs.declared.events.Event.TheVariants.{Join}
use Rattle.board_machine.specs.Machine.{Board, IsActor, next, entry}
use Rattle.board_machine.specs.Histories.{after_from, RunsFrom}
use Rattle.board_machine.specs.Adding.{AddsEntry, entries_of, Adds, KeepsActors, AddsOf}
use Rattle.board_machine.proofs.Runs.{after-append, runs-append}
use Rattle.board_machine.proofs.Actors.{others_stay}

pub entries_of-append : (k : ℕ) (es fs : List Event) → entries_of k (es ++ fs) ≡ entries_of k es ++ entries_of k fs
entries_of-append k [] fs = refl
entries_of-append k (e ∷ es) fs = ap (λ hs. entry k e ∷ hs) (entries_of-append k es fs)

-- nothing is added
pub adds_none : (b : Board) (k : ℕ) → Adds b k [] b
adds_none b k = record { runs = tt; after = refl }

-- one step
pub adds_one : (b new : Board) (k : ℕ) (e : Event) → AddsEntry b k e new → Adds b k (e ∷ []) new
adds_one b new k e step = record { runs = (step.may, tt); after = step.after }

-- one list, then another
pub adds_both : (b mid new : Board) (k : ℕ) (es fs : List Event) → Adds b k es mid → Adds mid k fs new → Adds b k (es ++ fs) new
adds_both b mid new k es fs first second = record {
  runs = subst (λ (hs : List Entry). RunsFrom b hs) (sym (entries_of-append k es fs))
      (runs-append b (entries_of k es) (entries_of k fs) first.runs (subst (λ (c : Board). RunsFrom c (entries_of k fs)) first.after second.runs));
  after = second.after ∙ ap (λ (c : Board). after_from c (entries_of k fs)) first.after ∙ sym (after-append b (entries_of k es) (entries_of k fs)) ∙ ap (λ hs. after_from b hs) (sym (entries_of-append k es fs));
}

-- a list, then one step
pub adds_then : (b mid new : Board) (k : ℕ) (es : List Event) (e : Event) → Adds b k es mid → AddsEntry mid k e new → Adds b k (es ++ e ∷ []) new
adds_then b mid new k es e first step = adds_both b mid new k es (e ∷ []) first (adds_one mid new k e step)

-- one step, then a list
pub adds_after : (b mid new : Board) (k : ℕ) (e : Event) (fs : List Event) → AddsEntry b k e mid → Adds mid k fs new → Adds b k (e ∷ fs) new
adds_after b mid new k e fs step second = adds_both b mid new k (e ∷ []) fs (adds_one b mid k e step) second

-- the event joins no actor into another
abbrev pub EndsNobody : Event → Type 0
EndsNobody (Join n) = ⊥
EndsNobody _ = Unit {0}

abbrev pub EndNobody : List Event → Type 0
EndNobody [] = Unit {0}
EndNobody (e ∷ es) = EndsNobody e × EndNobody es

not_join : (e : Event) (n : ℕ) → EndsNobody e → e ≢ Join n
not_join e n ends is = subst (λ (v : Event). EndsNobody v) is ends

-- every actor stays one
pub entry_keeps : (b new : Board) (k : ℕ) (e : Event) → EndsNobody e → AddsEntry b k e new → KeepsActors b new
entry_keeps b new k e ends step n actor =
    subst (λ (c : Board). IsActor c n) (sym step.after) (others_stay b (entry k e) n step.may actor (not_join e n ends))

keeps_from : (b : Board) (k : ℕ) (es : List Event) → EndNobody es → RunsFrom b (entries_of k es) → KeepsActors b (after_from b (entries_of k es))
keeps_from b k [] ends runs n actor = actor
keeps_from b k (e ∷ es) ends runs n actor =
    keeps_from (next b (entry k e)) k es ends.1 runs.1 n (others_stay b (entry k e) n runs.0 actor (not_join e n ends.0))

pub list_keeps : (b new : Board) (k : ℕ) (es : List Event) → EndNobody es → Adds b k es new → KeepsActors b new
list_keeps b new k es ends adds n actor = subst (λ (c : Board). IsActor c n) (sym adds.after) (keeps_from b k es ends adds.runs n actor)

pub keeps_same : (b : Board) → KeepsActors b b
keeps_same b n actor = actor

-- the same events, as another kind
pub adds_as : (b new : Board) (k : ℕ) (K L : List Event → Type 0) → ((es : List Event) → K es → L es) → AddsOf b k K new → AddsOf b k L new
adds_as b new k K L weaker of = record { events = of.events; kind = weaker of.events of.kind; adds = of.adds; actors = of.actors }

-- events of one kind, then events of another
pub adds_more : (b mid new : Board) (k : ℕ) (K L M : List Event → Type 0) → ((es fs : List Event) → K es → L fs → M (es ++ fs)) → AddsOf b k K mid → AddsOf mid k L new → AddsOf b k M new
adds_more b mid new k K L M whole first second = record {
  events = first.events ++ second.events;
  kind = whole first.events second.events first.kind second.kind;
  adds = adds_both b mid new k first.events second.events first.adds second.adds;
  actors = λ n actor. second.actors n (first.actors n actor);
}

-- no events, as a kind
pub adds_nothing : (b : Board) (k : ℕ) (K : List Event → Type 0) → K [] → AddsOf b k K b
adds_nothing b k K kind = record { events = []; kind = kind; adds = adds_none b k; actors = keeps_same b }

-- one step as a kind of its own
pub adds_step : (b new : Board) (k : ℕ) (e : Event) → EndsNobody e → AddsEntry b k e new → AddsOf b k (λ es. es ≡ e ∷ []) new
adds_step b new k e ends step = record { events = e ∷ []; kind = refl; adds = adds_one b new k e step; actors = entry_keeps b new k e ends step }

-- a list as a kind of its own
pub adds_list : (b new : Board) (k : ℕ) (es : List Event) → EndNobody es → Adds b k es new → AddsOf b k (λ fs. fs ≡ es) new
adds_list b new k es ends adds = record { events = es; kind = refl; adds = adds; actors = list_keeps b new k es ends adds }

-- one step of a kind
pub adds_kind : (b new : Board) (k : ℕ) (e : Event) (K : List Event → Type 0) → EndsNobody e → K (e ∷ []) → AddsEntry b k e new → AddsOf b k K new
adds_kind b new k e K ends kind step = record { events = e ∷ []; kind = kind; adds = adds_one b new k e step; actors = entry_keeps b new k e ends step }

-- one step, then events of one kind
pub adds_first : (b mid new : Board) (k : ℕ) (e : Event) (K M : List Event → Type 0) → EndsNobody e → ((es : List Event) → K es → M (e ∷ es)) → AddsEntry b k e mid → AddsOf mid k K new → AddsOf b k M new
adds_first b mid new k e K M ends whole step rest = record {
  events = e ∷ rest.events;
  kind = whole rest.events rest.kind;
  adds = adds_after b mid new k e rest.events step rest.adds;
  actors = λ n actor. rest.actors n (entry_keeps b mid k e ends step n actor);
}
