-- The rule of a queue with one giver and one taker: what was given is what was taken, and then what the queue holds.
use Rattle.std.specs.Prelude.{◌≡◌, ℕ, ◌≤◌, Bool, true, false, List, [], ◌++◌, length}
use mathlib.Core.Option.{some}
use lib.ListN.{get_elem?}
use Rattle.gev_lanes.specs.declared.line_log.Log.{Log}

module _ {T : Type 0} where
  abbrev pub log : Bool → Bool → ℕ → List T → List T → ℕ → ℕ → Log T
  log gives takes least given taken refusals misses =
      record { gives = gives; takes = takes; least = least; given = given; taken = taken; refusals = refusals; misses = misses }

  -- of a pass that may do nothing
  abbrev pub spent : Log T
  spent = log false false 0 [] [] 0 0

  -- The pass with this number gives only if it is the giver, and then has given all that was given; the same of the
  -- taker, who knows that at least so many were given.
  pub record Fits (giver taker : ℕ) (given taken : List T) (port : ℕ) (v : Log T) : Type 0 where
    pub giver_is : v.gives ≡ true → port ≡ giver
    pub given_is : v.gives ≡ true → v.given ≡ given
    pub taker_is : v.takes ≡ true → port ≡ taker
    pub taken_is : v.takes ≡ true → v.taken ≡ taken
    pub least : v.takes ≡ true → v.least ≤ length given

  abbrev pub AllFit : ℕ → ℕ → List T → List T → List (Log T) → Type 0
  AllFit giver taker given taken views = (port : ℕ) (v : Log T) → get_elem? views port ≡ some v → Fits giver taker given taken port v

  -- the rule, by what the queue holds, oldest first, and by what each pass knows
  pub record InOrder (items : List T) (views : List (Log T)) : Type 0 where
    pub giver : ℕ
    pub taker : ℕ
    pub given : List T
    pub taken : List T
    pub same : given ≡ taken ++ items
    pub fit : AllFit giver taker given taken views

  -- What a pass finds at a moment when the queue holds these items.
  pub record FoundBy (v : Log T) (items : List T) : Type 0 where
    pub given : List T
    pub taken : List T
    pub same : given ≡ taken ++ items
    pub given_is : v.gives ≡ true → v.given ≡ given
    pub taken_is : v.takes ≡ true → v.taken ≡ taken
    pub least : v.takes ≡ true → v.least ≤ length given
