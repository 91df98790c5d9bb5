-- A line of a captured script, with its takes, as a step: a moment, or a datagram.
use Rattle.std.proofs.Common.{◌≡◌, ℕ, ◌<◌, List, [], ◌∷◌, ◌++◌, length, refl, sym, ap, subst, ◌∙◌, arith, append-nil}
use Rattle.std.specs.Prelude.{Option, Some, None, Ok}
use Rattle.hex.specs.Hex.{decode_of, encode_lower}
use Rattle.hex.proofs.HexLemmas.{decode_of-encode_lower}
use Rattle.gev_script.specs.Lines as line
use Rattle.gev_script.specs.Lines.{ScriptLine}
use Rattle.board_machine.specs.Places.{times}
use Rattle.board_machine.proofs.Places.{same_self}
use Rattle.acquisition_machine.specs.declared.config.AcqConfig.{AcqConfig}
use Rattle.acquisition_machine.specs.declared.need.Need.{Need}
use Rattle.acquisition_machine.specs.declared.need.Need.TheVariants.{Buffer, Done, Ignored}
use Rattle.acquisition_machine.specs.Blocks.{Retirement, fills}
use Rattle.acquisition_machine.specs.Machine.{Input, datagram, tick, State, step}
use Rattle.acquisition_machine.specs.Runs.{After, turn, retired_from}
use Rattle.acquisition_machine.specs.TurnLaws.{asked_by}
use Rattle.block_fills.proofs.Tries.{fills-append}
use Rattle.script_trace.specs.Trace.{Trace, Part, grown}
use Rattle.script_trace.specs.Adding.{AddsPart}
use Rattle.script_trace.specs.Wide.{Wide, itself, meaning}
use Rattle.capture_script.specs.Playing.{config, Played, told, inputs_by, hears, ticked}
use Rattle.capture_script.specs.Script.{taking, with_takes}
use Rattle.capture_script.proofs.Fitting.{AreSmall, small_at}
use Rattle.capture_script.proofs.Desk.{IsFull}
use Rattle.capture_script.proofs.Holding.{held_places, came_back, settled_datagram, settled_tick, few_places}
use Rattle.capture_script.proofs.Stages.{Stage}
use Rattle.capture_script.proofs.TurnLines.{state_of, tick_goes, heard_goes}
use Rattle.capture_script.proofs.ClaimLines.{outcome_at, given_state, twice, asks_goes, asks_live}
use Rattle.capture_script.proofs.Walking.{DoesSo, plain_does}
use Rattle.capture_script.proofs.Alike.{filled_alike, need_alike}
use Rattle.capture_script.proofs.Steps.{Stands, Steps, takes_taking, rests_step, told_alike, has_pooled}

-- as many as one input fills
pub one_filled : (pp : ℕ) (s : State) (i : Input) → length (fills pp (retired_from (config pp) s (i ∷ []))) ≡ length (fills pp (step (config pp) s i).retired)
one_filled pp s i = ap (λ l. length (fills pp l)) (append-nil (step (config pp) s i).retired)

-- ---- a moment

tick_means : (w : Wide) (t : Trace) (moment : ℕ) → meaning w t (line.tick moment) ≡ itself
unfolding meaning
tick_means w t moment = refl

pub tick_step : (pp ss : ℕ) (t : Trace) (w : Wide) (s : Played) (moment : ℕ) → Stands pp ss t w s
    → Steps pp ss t w (with_takes (line.tick moment) (ticked pp moment s)) (ticked pp moment s).after
tick_step pp ss t w s moment stands =
    let c : AcqConfig = config pp in
    let now : State = state_of pp ss t in
    let new : Played = (ticked pp moment s).after in
    let n : ℕ = length (came_back pp ss now (tick moment)) in
    let counted : n ≡ length (fills pp (retired_from c now (tick moment ∷ []))) = sym (one_filled pp now (tick moment)) in
    let same : n ≡ (ticked pp moment s).filled = counted ∙ sym (filled_alike c pp (After c s.inputs) now (tick moment ∷ []) stands.alike) in
    subst (λ k. Steps pp ss t w (line.tick moment ∷ taking k) new) same
    (rests_step pp ss t w w new (line.tick moment) (line.tick moment) n (tick moment ∷ [])
    (tick_goes pp ss t moment stands.pool stands.stage stands.full stands.live)
    (settled_tick pp ss now moment stands.live).live tt
    (λ part adds. record { report = _; does = plain_does c w t (line.tick moment) part (tick_means w t moment) adds })
    stands.version stands.top (told_alike pp ss t s (tick moment ∷ []) stands.alike) (tt, tt) (takes_taking n ∙ counted))

-- ---- a datagram that the acquisition hears

-- What a line comes to where the trace is told a datagram of these bytes.
abbrev pub DoesBytes : (pp : ℕ) → Wide → Trace → ScriptLine → List ℕ → Wide → Type 0
DoesBytes pp w t l bytes v = (part : Part) → AddsPart (config pp) t (line.datagram (encode_lower bytes)) part → DoesSo (config pp) w t l v (grown t part)

pub is_bytes : (bytes : List ℕ) → AreSmall bytes → decode_of (encode_lower bytes) ≡ Ok bytes
is_bytes bytes all = decode_of-encode_lower bytes (small_at bytes all)

quiet_step : (pp ss : ℕ) (t : Trace) (w v : Wide) (s old : Played) (bytes : List ℕ) (digits : List ℕ) → Stands pp ss t w old → s.inputs ≡ old.inputs → AreSmall bytes
    → DoesBytes pp w t (line.datagram digits) bytes v → v.version ≡ 2 → v.top ≡ s.top
    → asked_by (step (config pp) (state_of pp ss t) (datagram bytes)).need ≡ None
    → Steps pp ss t w (with_takes (line.datagram digits) (told pp (datagram bytes ∷ []) s)) (told pp (datagram bytes ∷ []) s).after
quiet_step pp ss t w v s old bytes digits stands is small does version top quiet =
    let c : AcqConfig = config pp in
    let now : State = state_of pp ss t in
    let new : Played = (told pp (datagram bytes ∷ []) s).after in
    let n : ℕ = length (came_back pp ss now (datagram bytes)) in
    let counted : n ≡ length (fills pp (retired_from c now (datagram bytes ∷ []))) = sym (one_filled pp now (datagram bytes)) in
    let same : n ≡ (told pp (datagram bytes ∷ []) s).filled = counted ∙ sym (filled_alike c pp (After c s.inputs) now (datagram bytes ∷ []) (ap (After (config pp)) is ∙ stands.alike)) in
    subst (λ k. Steps pp ss t w (line.datagram digits ∷ taking k) new) same
    (rests_step pp ss t w v new (line.datagram digits) (line.datagram (encode_lower bytes)) n (datagram bytes ∷ [])
    (heard_goes pp ss t bytes stands.pool stands.stage stands.full stands.live (is_bytes bytes small) quiet)
    (settled_datagram pp ss now bytes stands.live).live tt does version top
    (told_alike pp ss t s (datagram bytes ∷ []) (ap (After (config pp)) is ∙ stands.alike)) (tt, tt) (takes_taking n ∙ counted))

-- as many as the datagram fills when it is told twice
twice_filled : (pp ss : ℕ) (s : State) (bytes : List ℕ) (p : ℕ)
    → length (came_back pp ss s (datagram bytes) ++ came_back pp ss (given_state pp ss s bytes p) (datagram bytes))
    ≡ length (fills pp (retired_from (config pp) s (twice bytes (outcome_at pp ss p))))
twice_filled pp ss s bytes p =
    let c : AcqConfig = config pp in
    let one : List Retirement = (step c s (datagram bytes)).retired in
    let two : List Retirement = (step c (given_state pp ss s bytes p) (datagram bytes)).retired in
    ap length (sym (fills-append pp one two)) ∙ ap (λ l. length (fills pp (one ++ l))) (sym (append-nil two))

asking_step : (pp ss : ℕ) (t : Trace) (w v : Wide) (s old : Played) (bytes : List ℕ) (digits : List ℕ) (b : ℕ) → Stands pp ss t w old → s.inputs ≡ old.inputs → AreSmall bytes
    → DoesBytes pp w t (line.datagram digits) bytes v → v.version ≡ 2 → v.top ≡ s.top
    → asked_by (step (config pp) (state_of pp ss t) (datagram bytes)).need ≡ Some b
    → Steps pp ss t w (with_takes (line.datagram digits) (told pp (twice bytes (outcome_at pp ss 0)) s)) (told pp (twice bytes (outcome_at pp ss 0)) s).after
asking_step pp ss t w v s old bytes digits b stands is small does version top asked =
    let c : AcqConfig = config pp in
    let now : State = state_of pp ss t in
    let his : List ℕ = held_places now in
    let q0 : List Input = twice bytes (outcome_at pp ss 0) in
    let new : Played = (told pp q0 s).after in
    let has = has_pooled his stands.pool stands.full (few_places pp ss now stands.live) in
    let p : ℕ = has.place in
    let stage = subst (λ ps. Stage pp ss t 1 his [] ps) has.is stands.stage in
    let full = subst (λ ps. IsFull his ps) has.is stands.full in
    let low : p < 5 = full.low.0 in
    let free : times p his ≡ 0 = free_of p his has.rest full in
    let q : List Input = twice bytes (outcome_at pp ss p) in
    let n : ℕ = length (came_back pp ss now (datagram bytes) ++ came_back pp ss (given_state pp ss now bytes p) (datagram bytes)) in
    let counted : n ≡ length (fills pp (retired_from c now q)) = twice_filled pp ss now bytes p in
    let same : n ≡ (told pp q0 s).filled = counted ∙ sym (filled_alike c pp (After c s.inputs) now q (ap (After (config pp)) is ∙ stands.alike)) in
    subst (λ k. Steps pp ss t w (line.datagram digits ∷ taking k) new) same
    (rests_step pp ss t w v new (line.datagram digits) (line.datagram (encode_lower bytes)) n q
    (asks_goes pp ss t bytes p b has.rest stage full stands.live (is_bytes bytes small) asked)
    (asks_live pp ss now bytes p b stands.live low free asked) tt does version top
    (told_alike pp ss t s q (ap (After (config pp)) is ∙ stands.alike)) (tt, (tt, (tt, tt))) (takes_taking n ∙ counted))
  where
    free_of : (p : ℕ) (his ps : List ℕ) → IsFull his (p ∷ ps) → times p his ≡ 0
    free_of p his ps full = let f = full.each p full.low.0 in let g = same_self p in omega (arith, f, g)

hears_by : (pp ss : ℕ) (t : Trace) (w v : Wide) (s old : Played) (bytes : List ℕ) (digits : List ℕ) (need : Option Need) → Stands pp ss t w old → s.inputs ≡ old.inputs → AreSmall bytes
    → DoesBytes pp w t (line.datagram digits) bytes v → v.version ≡ 2 → v.top ≡ s.top
    → (step (config pp) (state_of pp ss t) (datagram bytes)).need ≡ need
    → Steps pp ss t w (with_takes (line.datagram digits) (told pp (inputs_by ss bytes need) s)) (told pp (inputs_by ss bytes need) s).after
hears_by pp ss t w v s old bytes digits (Some (Buffer b)) stands is small does version top e = asking_step pp ss t w v s old bytes digits b stands is small does version top (ap asked_by e)
hears_by pp ss t w v s old bytes digits (Some Done) stands is small does version top e = quiet_step pp ss t w v s old bytes digits stands is small does version top (ap asked_by e)
hears_by pp ss t w v s old bytes digits (Some (Ignored why)) stands is small does version top e = quiet_step pp ss t w v s old bytes digits stands is small does version top (ap asked_by e)
hears_by pp ss t w v s old bytes digits None stands is small does version top e = quiet_step pp ss t w v s old bytes digits stands is small does version top (ap asked_by e)

pub hears_step : (pp ss : ℕ) (t : Trace) (w v : Wide) (s old : Played) (bytes : List ℕ) (digits : List ℕ) → Stands pp ss t w old → s.inputs ≡ old.inputs → AreSmall bytes
    → DoesBytes pp w t (line.datagram digits) bytes v → v.version ≡ 2 → v.top ≡ s.top
    → Steps pp ss t w (with_takes (line.datagram digits) (hears pp ss bytes s)) (hears pp ss bytes s).after
hears_step pp ss t w v s old bytes digits stands is small does version top =
    hears_by pp ss t w v s old bytes digits (turn (config pp) s.inputs (datagram bytes)).need stands is small does version top
    (sym (need_alike (config pp) (After (config pp) s.inputs) (state_of pp ss t) bytes (ap (After (config pp)) is ∙ stands.alike)))
