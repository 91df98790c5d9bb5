-- What leaves the output was filled with a retired block, or has the empty record.
use Rattle.std.proofs.Common.{◌≡◌, ◌≢◌, ◌⊎◌, inl, inr, ℕ, ◌==◌, cond, Bool, true, false, List, [], ◌∷◌, length, take, drop, refl, sym, ap, subst}
use Rattle.std.specs.Prelude.{Option, Some, None}
use Rattle.std.specs.List.{AllByRecursion}
use Rattle.std.proofs.lemmas.Bool.{eq-eqb}
use Rattle.std.proofs.lemmas.List.{take-append-drop}
use Rattle.gev_types.specs.Filling.{Filling, empty_record}
use Rattle.board_machine.specs.declared.events.Entry.{Entry}
use Rattle.board_machine.specs.declared.events.Event.{Event}
use Rattle.board_machine.specs.declared.events.Event.TheVariants.{Fill}
use Rattle.board_machine.specs.Machine.{Item}
use Rattle.board_machine.specs.Histories.{own_of}
use Rattle.board_machine.specs.Handout.{filled_by, filled, removed, marks, marked, removed_items, items_handed_to}
use Rattle.board_model.specs.Plain.{lying}
use Rattle.board_model.specs.Holdings.{emptied}
use Rattle.acquisition_machine.proofs.Order.{all_append, all_front, all_back}
use Rattle.gev_script.specs.Lines.{ScriptLine}
use Rattle.acquisition_machine.specs.declared.config.AcqConfig.{AcqConfig}
use Rattle.script_trace.specs.Trace.{Trace, grown, acquirer}
use Rattle.script_trace.specs.Contents.{contents_of, FillsAsLay, FillsFrom}
use Rattle.script_trace.specs.Adding.{Leads}
use Rattle.script_trace.specs.Fills.{FillsEmpty, IsEmptyElse}
use Rattle.script_trace.specs.Opening.{opening}
use Rattle.block_fills.specs.Fills.{tried_by, tried}

rec_empty : (f : Filling) (o : Option Filling) → Some f ≡ emptied o → f.rec ≡ empty_record
rec_empty f None is = absurd cc
rec_empty f (Some g) is = let same : f ≡ record { bytes = g.bytes; rec = empty_record } = cc in ap (λ x. x.rec) same

fills_empty : (contents : List (Option Filling)) (k : ℕ) (e : Event) → FillsAsLay contents k e → FillsEmpty k e
fills_empty contents k (Fill i f filled) (inl own) = inl own
fills_empty contents k (Fill i f filled) (inr lay) = inr (rec_empty f (lying contents i) lay)
fills_empty contents k _ h = tt

part_empty : (contents : List (Option Filling)) (es : List Entry) → FillsFrom contents es → AllByRecursion IsEmptyElse es
part_empty contents [] h = tt
part_empty contents (e ∷ es) h = (fills_empty contents e.by e.event h.0, part_empty contents es h.1)

pub leads_empty : (c : AcqConfig) (t : Trace) (lines : List ScriptLine) (new : Trace) → Leads c t lines new → AllByRecursion IsEmptyElse t.entries → AllByRecursion IsEmptyElse new.entries
leads_empty c t [] new is h = subst (λ u. AllByRecursion IsEmptyElse u.entries) (sym is) h
leads_empty c t (l ∷ lines) new (part, adds, rest) h =
    leads_empty c (grown t part) lines new rest
    (all_append IsEmptyElse t.entries part.entries h (part_empty (contents_of t.entries) part.entries adds.fills))

pub opening_empty : AllByRecursion IsEmptyElse opening.entries
opening_empty = (tt, (tt, (tt, (tt, (tt, tt)))))

-- ---- all that was filled

abbrev pub OrEmpty : (Item → Type 0) → Item → Type 0
OrEmpty P x = P x ⊎ (x.filling.rec ≡ empty_record)

-- a fill of the acquisition
own_fill : (P : Item → Type 0) (e : Event) → AllByRecursion P (tried_by e) → AllByRecursion (OrEmpty P) (filled_by e)
own_fill P (Fill i f true) a = (inl a.0, tt)
own_fill P (Fill i f false) a = tt
own_fill P _ a = tt

-- another's
other_fill : (P : Item → Type 0) (k : ℕ) (e : Event) → k ≢ acquirer → FillsEmpty k e → AllByRecursion (OrEmpty P) (filled_by e)
other_fill P k (Fill i f true) apart (inl own) = absurd (apart own)
other_fill P k (Fill i f true) apart (inr none) = (inr none, tt)
other_fill P k (Fill i f false) apart h = tt
other_fill P k _ apart h = tt

record Split (P : Item → Type 0) (e : Entry) (own : List Entry) : Type 0 where
  here : AllByRecursion (OrEmpty P) (filled_by e.event)
  later : AllByRecursion P (tried own)

split_by : (P : Item → Type 0) (e : Entry) (own : List Entry) (mine : Bool) → (e.by == acquirer) ≡ mine → FillsEmpty e.by e.event → AllByRecursion P (tried (cond mine (e ∷ own) own)) → Split P e own
split_by P e own true so empty a = record {
  here = own_fill P e.event (all_front P (tried_by e.event) (tried own) a);
  later = all_back P (tried_by e.event) (tried own) a;
}
split_by P e own false so empty a = record {
  here = other_fill P e.by e.event (λ same. let yes_it : (e.by == acquirer) ≡ true = eq-eqb e.by acquirer same in absurd cc) empty;
  later = a;
}

pub filled_all : (P : Item → Type 0) (h : List Entry) → AllByRecursion IsEmptyElse h → AllByRecursion P (tried (own_of acquirer h)) → AllByRecursion (OrEmpty P) (filled h)
filled_all P [] empty a = tt
filled_all P (e ∷ h) empty a =
    let s : Split P e (own_of acquirer h) = split_by P e (own_of acquirer h) (e.by == acquirer) refl empty.0 a in
    all_append (OrEmpty P) (filled_by e.event) (filled h) s.here (filled_all P h empty.1 s.later)

-- ---- what takes took

all_taken : {X : Type 0} (P : X → Type 0) (n : ℕ) (xs : List X) → AllByRecursion P xs → AllByRecursion P (take n xs)
all_taken P n xs a = all_front P (take n xs) (drop n xs) (subst (λ l. AllByRecursion P l) (sym (take-append-drop n xs)) a)

all_marked : {X : Type 0} (P : X → Type 0) (ms : List Bool) (xs : List X) → AllByRecursion P xs → AllByRecursion P (marked ms xs)
all_marked P [] xs a = tt
all_marked P (m ∷ ms) [] a = tt
all_marked P (true ∷ ms) (x ∷ xs) a = (a.0, all_marked P ms xs a.1)
all_marked P (false ∷ ms) (x ∷ xs) a = all_marked P ms xs a.1

-- whoever they are
pub taken_all : (P : Item → Type 0) (who : ℕ → Bool) (h : List Entry) → AllByRecursion P (filled h) → AllByRecursion P (items_handed_to who h)
taken_all P who h a = all_marked P (marks who h) (removed_items h) (all_taken P (length (removed h)) (filled h) a)
