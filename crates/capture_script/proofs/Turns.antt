-- What turns of the acquisition fill, one after the other.
use Rattle.std.proofs.Common.{◌≡◌, ℕ, ◌+◌, List, [], ◌∷◌, ◌++◌, length, Option, Some, refl, ap, sym, ◌∙◌, subst, arith, length-append, append_assoc}
use Rattle.std.specs.Prelude.{IsSome}
use Rattle.std.proofs.lemmas.List.{append-nil, length-map}
use Rattle.acquisition_machine.specs.declared.config.AcqConfig.{AcqConfig}
use Rattle.acquisition_machine.specs.declared.need.Need.{Need}
use Rattle.acquisition_machine.specs.declared.need.Need.TheVariants.{Buffer}
use Rattle.acquisition_machine.specs.declared.retired.Retired.{Retired}
use Rattle.acquisition_machine.specs.Blocks.{Retirement, fill_of, fills}
use Rattle.acquisition_machine.specs.Machine.{Input, datagram, State, step}
use Rattle.acquisition_machine.specs.Runs.{first_state, After, retired_from, turn}
use Rattle.acquisition_machine.specs.TurnLaws.{asked_by}
use Rattle.acquisition_machine.proofs.Joining.{after_from-append}
use Rattle.take_lines.specs.Players as player
use Rattle.take_lines.specs.Players.{PlayerState, config_in, asked_in, Took, places_back}
use Rattle.capture_script.specs.Playing.{config, inputs_by}
use Rattle.capture_script.specs.Standing.{Plays, found}

fills-append : (p : ℕ) (rs ss : List Retirement) → fills p (rs ++ ss) ≡ fills p rs ++ fills p ss
fills-append p [] ss = refl
fills-append p (r ∷ rs) ss =
    ap (λ (fs : List Retired). fill_of p r r.was.given ++ fs) (fills-append p rs ss) ∙ sym (append_assoc (fill_of p r r.was.given) (fills p rs) (fills p ss))

-- how many are filled as these inputs come from a state
abbrev pub filled_from : ℕ → State → List Input → ℕ
filled_from p s is = length (fills p (retired_from (config p) s is))

pub filled_cons : (p : ℕ) (s : State) (i : Input) (is : List Input)
    → filled_from p s (i ∷ is) ≡ length (fills p (step (config p) s i).retired) + filled_from p (step (config p) s i).after is
filled_cons p s i is =
    ap (λ (fs : List Retired). length fs) (fills-append p (step (config p) s i).retired (retired_from (config p) (step (config p) s i).after is))
    ∙ length-append (fills p (step (config p) s i).retired) (fills p (retired_from (config p) (step (config p) s i).after is))

pub filled_one : (p : ℕ) (s : State) (i : Input) → filled_from p s (i ∷ []) ≡ length (fills p (step (config p) s i).retired)
filled_one p s i = ap (λ (rs : List Retirement). length (fills p rs)) (append-nil (step (config p) s i).retired)

-- so many came back as were filled
pub counted : (p : ℕ) (s : PlayerState) (q is : List Input) (back : List ℕ) → config_in s ≡ config p → back ≡ places_back (config_in s) q is
    → length back ≡ filled_from p (After (config p) q) is
counted p s q is back same e =
    ap (λ (ns : List ℕ). length ns) e
    ∙ (ap (λ (c : AcqConfig). length (places_back c q is)) same
    ∙ length-map (fills p (retired_from (config p) (After (config p) q) is)) (λ (f : Retired). f.place))

-- one input
pub plays_one : (p : ℕ) (old new : PlayerState) (i : Input) (back : List ℕ) (n : ℕ) (q : List Input) → config_in old ≡ config p → player.Plays old new i back → n ≡ length back → Took old q
    → Plays p q (i ∷ []) new n
plays_one p old new i back n q same t is took = record {
  stands = t.took q took;
  filled_is = is ∙ counted p old q (i ∷ []) back same (t.back_is q took);
}

-- inputs behind another
pub plays_cons : (p : ℕ) (old one new : PlayerState) (i : Input) (is q : List Input) (back : List ℕ) (m n : ℕ) → config_in old ≡ config p → player.Plays old one i back → m ≡ length back → Took old q
    → Plays p (q ++ i ∷ []) is new n → Plays p q (i ∷ is) new (m + n)
plays_cons p old one new i is q back m n same t counts took rest =
    let s : State = After (config p) q in
    let front : m ≡ length (fills p (step (config p) s i).retired) = counts ∙ (counted p old q (i ∷ []) back same (t.back_is q took) ∙ filled_one p s i) in
    let later : n ≡ filled_from p (step (config p) s i).after is = rest.filled_is ∙ ap (λ (u : State). filled_from p u is) (after_from-append (config p) first_state q (i ∷ [])) in
    record {
      stands = subst (λ (r : List Input). Took new r) (append_assoc q (i ∷ []) is) rest.stands;
      filled_is =
          ap (λ (k : ℕ). k + n) front
          ∙ (ap (λ (k : ℕ). length (fills p (step (config p) s i).retired) + k) later ∙ sym (filled_cons p s i is));
    }

-- a buffer is found, and the datagram told again
pub plays_again : (p : ℕ) (old one new : PlayerState) (bytes : List ℕ) (back : List ℕ) (n : ℕ) (q : List Input) → config_in old ≡ config p → player.Plays old one (found old.size) []
    → player.Plays one new (datagram bytes) back → n ≡ length back → Took old q → Plays p q (found old.size ∷ datagram bytes ∷ []) new n
plays_again p old one new bytes back n q same claim again counts took =
    let rest : Plays p (q ++ found old.size ∷ []) (datagram bytes ∷ []) new n =
    plays_one p one new (datagram bytes) back n (q ++ found old.size ∷ []) (claim.config ∙ same) again counts (claim.took q took) in
    let all : Plays p q (found old.size ∷ datagram bytes ∷ []) new (0 + n) = plays_cons p old one new (found old.size) (datagram bytes ∷ []) q [] 0 n same claim refl took rest in
    let none : 0 + n ≡ n = omega arith in
    record { stands = all.stands; filled_is = sym none ∙ all.filled_is }

-- what a datagram's answer makes of it
pub answered : (p : ℕ) (s : PlayerState) (q : List Input) (bytes : List ℕ) (need told : Need) → config_in s ≡ config p → (turn (config_in s) q (datagram bytes)).need ≡ Some need → need ≡ told
    → (turn (config p) q (datagram bytes)).need ≡ Some told
answered p s q bytes need told same is e =
    sym (ap (λ (k : AcqConfig). (turn k q (datagram bytes)).need) same) ∙ (is ∙ ap (λ (n : Need). Some n) e)

pub plays_by : (p size : ℕ) (q : List Input) (bytes : List ℕ) (m n : Option Need) (new : PlayerState) (filled : ℕ) → m ≡ n → Plays p q (inputs_by size bytes n) new filled
    → Plays p q (inputs_by size bytes m) new filled
plays_by p size q bytes m n new filled e plays = subst (λ (k : Option Need). Plays p q (inputs_by size bytes k) new filled) (sym e) plays

-- a claim is awaited
pub is_asked : (s : PlayerState) (need : Need) (b : ℕ) → asked_in s ≡ asked_by (Some need) → need ≡ Buffer b → IsSome (asked_in s)
is_asked s need b asked e = subst (λ (a : Option ℕ). IsSome a) (sym (asked ∙ ap (λ (n : Need). asked_by (Some n)) e)) refl
