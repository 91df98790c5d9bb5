-- One more receive: what is heard of it, and how many strangers are counted.
use Rattle.std.proofs.Common.{◌≡◌, ℕ, ◌+◌, ◌-◌, ◌^◌, ◌≤◌, true, false, List, [], ◌∷◌, ◌++◌, Option, Some, None, Ok, sym, refl, ap, subst, ◌∙◌, option_map, rules, arith}
use Rattle.std.specs.Prelude.{min, not, map, count_by, Bool, if◌then◌else◌}
use Rattle.std.proofs.lemmas.Bool.{eq-eqb, ne_eqb}
use Rattle.std.proofs.lemmas.List.{map-append, length-map}
use Rattle.std.proofs.lemmas.List.Sums.{sum_by-append}
use Rattle.gev_links.specs.Links.{Answer, nothing, failed, answer_of}
use Rattle.gev_links.specs.Moments.{Tells}
use Rattle.link_filters.specs.Strangers.{is_stranger, from_only, all_from, CountsStrangers}
use Rattle.link_filters.proofs.only_from.OnlyFromLink.recv.Goals as goal

told_one : (source : ℕ) (old new : Option (List Answer)) (seen a : Answer) (strange : Bool) → Tells old new seen → seen ≡ a → is_stranger source a ≡ strange
    → Tells (option_map (all_from source) old) (option_map (all_from source) new) (if strange then nothing else a)
told_one source None None seen a strange was same is = tt
told_one source None (Some new) seen a strange was same is = absurd was
told_one source (Some old) None seen a strange was same is = length-map old (from_only source) ∙ was
told_one source (Some old) (Some new) seen a strange was same is =
    let heard : from_only source seen ≡ (if strange then nothing else a) = ap (from_only source) same ∙ ap (λ (b : Bool). if b then nothing else a) is in
    ap (map (from_only source)) was ∙ (map-append (from_only source) old (seen ∷ []) ∙ ap (λ (x : Answer). map (from_only source) old ++ x ∷ []) heard)

told_on : (source : ℕ) (also old new : Option (List Answer)) (seen a : Answer) (strange : Bool) → also ≡ old → Tells old new seen → seen ≡ a → is_stranger source a ≡ strange
    → Tells (option_map (all_from source) also) (option_map (all_from source) new) (if strange then nothing else a)
told_on source also old new seen a strange before was same is =
    subst (λ (v : Option (List Answer)). Tells (option_map (all_from source) v) (option_map (all_from source) new) (if strange then nothing else a)) (sym before)
    (told_one source old new seen a strange was same is)

counts_on : (source before after : ℕ) (old new : Option (List Answer)) (seen a : Answer) (strange : Bool) → Tells old new seen → seen ≡ a → is_stranger source a ≡ strange
    → CountsStrangers source old before → (before ≤ 2 ^ 64 - 1 → after ≡ min (before + (if strange then 1 else 0)) (2 ^ 64 - 1)) → CountsStrangers source new after
counts_on source before after None None seen a strange was same is counts more = tt
counts_on source before after None (Some new) seen a strange was same is counts more = absurd was
counts_on source before after (Some old) None seen a strange was same is counts more = tt
counts_on source before after (Some old) (Some new) seen a strange was same is counts more =
    let one : ◌≡◌ {A = ℕ} (if is_stranger source seen then 1 else 0) (if strange then 1 else 0) = ap (λ (b : Bool). if b then 1 else 0) (ap (is_stranger source) same ∙ is) in
    omega (
      arith,
      counts,
      one,
      more (omega (arith, counts)),
      ap (count_by (is_stranger source)) was,
      sum_by-append (λ (x : Answer). if is_stranger source x then 1 else 0) old (seen ∷ []),
    )

pub invariant_of-self : goal.invariant_of-self
invariant_of-self g c = (
  c.self.invariant.0,
  counts_on g.H.Heard.source c.self.inside.strangers _ (g.L.Link.received c.self.inside.inner) (g.L.Link.received c.recv.new.self) _ (answer_of (Ok (Some (c.in-Ok-Some.count, c.in-Ok-Some.peer))) c.recv.new.out) false c.in-Ok-Some.ensures.received (ap (λ d. answer_of (Ok d) c.recv.new.out) c.in-Ok-Some.field-0-is) (ap not (eq-eqb c.in-Ok-Some.peer.address g.H.Heard.source (c.if-peer-self.true ∙ c.self.invariant.0))) c.self.invariant.1 (λ small. omega arith),
)

pub invariant_of-self-in-Ok-Some : goal.invariant_of-self-in-Ok-Some
invariant_of-self-in-Ok-Some g c = (
  c.self.invariant.0,
  counts_on g.H.Heard.source c.self.inside.strangers _ (g.L.Link.received c.self.inside.inner) (g.L.Link.received c.recv.new.self) _ (answer_of (Ok (Some (c.in-Ok-Some.count, c.in-Ok-Some.peer))) c.recv.new.out) true c.in-Ok-Some.ensures.received (ap (λ d. answer_of (Ok d) c.recv.new.out) c.in-Ok-Some.field-0-is) (ap not (ne_eqb c.in-Ok-Some.peer.address g.H.Heard.source (λ e. c.if-peer-self.false (e ∙ sym c.self.invariant.0)))) c.self.invariant.1 (λ small. omega (arith, c.saturating_add-self-inside.ensures)),
)

pub invariant_of-self-in-Ok-None : goal.invariant_of-self-in-Ok-None
invariant_of-self-in-Ok-None g c = (
  c.self.invariant.0,
  counts_on g.H.Heard.source c.self.inside.strangers _ (g.L.Link.received c.self.inside.inner) (g.L.Link.received c.recv.new.self) _ nothing false c.in-Ok-None.ensures.received (ap (λ d. answer_of (Ok d) c.recv.new.out) c.in-Ok-None.field-0-is) refl c.self.invariant.1 (λ small. omega arith),
)

pub invariant_of-self-in-Err : goal.invariant_of-self-in-Err
invariant_of-self-in-Err g c = (
  c.self.invariant.0,
  counts_on g.H.Heard.source c.self.inside.strangers _ (g.L.Link.received c.self.inside.inner) (g.L.Link.received c.recv.new.self) _ failed false c.in-Err.ensures.received refl refl c.self.invariant.1 (λ small. omega arith),
)

pub returns-then-peer-self-clause-received : goal.returns-then-peer-self-clause-received
returns-then-peer-self-clause-received g c =
    told_on g.H.Heard.source _ (g.L.Link.received c.self.inside.inner) (g.L.Link.received c.recv.new.self) _ (answer_of (Ok (Some (c.in-Ok-Some.count, c.in-Ok-Some.peer))) c.recv.new.out) false (search rules) c.in-Ok-Some.ensures.received (ap (λ d. answer_of (Ok d) c.recv.new.out) c.in-Ok-Some.field-0-is) (ap not (eq-eqb c.in-Ok-Some.peer.address g.H.Heard.source (c.if-peer-self.true ∙ c.self.invariant.0)))

pub returns-else-peer-self-clause-received : goal.returns-else-peer-self-clause-received
returns-else-peer-self-clause-received g c =
    told_on g.H.Heard.source _ (g.L.Link.received c.self.inside.inner) (g.L.Link.received c.recv.new.self) _ (answer_of (Ok (Some (c.in-Ok-Some.count, c.in-Ok-Some.peer))) c.recv.new.out) true (search rules) c.in-Ok-Some.ensures.received (ap (λ d. answer_of (Ok d) c.recv.new.out) c.in-Ok-Some.field-0-is) (ap not (ne_eqb c.in-Ok-Some.peer.address g.H.Heard.source (λ e. c.if-peer-self.false (e ∙ sym c.self.invariant.0))))

pub returns-in-Ok-None-clause-received : goal.returns-in-Ok-None-clause-received
returns-in-Ok-None-clause-received g c =
    told_on g.H.Heard.source _ (g.L.Link.received c.self.inside.inner) (g.L.Link.received c.recv.new.self) _ nothing false (search rules) c.in-Ok-None.ensures.received (ap (λ d. answer_of (Ok d) c.recv.new.out) c.in-Ok-None.field-0-is) refl

pub returns-in-Err-clause-received : goal.returns-in-Err-clause-received
returns-in-Err-clause-received g c =
    told_on g.H.Heard.source _ (g.L.Link.received c.self.inside.inner) (g.L.Link.received c.recv.new.self) _ failed false (search rules) c.in-Err.ensures.received refl refl
