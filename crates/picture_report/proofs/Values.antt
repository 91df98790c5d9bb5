-- Values that lie in two bytes.
use Rattle.std.proofs.Common.{◌≡◌, ℕ, ◌+◌, ◌-◌, ◌*◌, ◌/◌, ◌<◌, ◌≤◌, ap, sym, ◌∙◌, arith}
use Rattle.std.specs.Prelude.{◌%◌, ◌^◌}
use Rattle.std.proofs.Math.Nat.{add-mul-div_left, add-mul-mod_self_left}
use Rattle.std.proofs.lemmas.Nat.{mod-pow-add, pow-add, pow_pos, shr-shr}
use Rattle.frame_pictures.specs.Pictures.{running_value}

-- so many bits of two bytes' value, from a bit of the first on
running : (bits first second bit : ℕ) → first < 256 → bit < 8 → 8 ≤ bits
    → (first + 256 * second) / 2 ^ bit % 2 ^ bits ≡ running_value bits first second bit
running bits first second bit byte low reaches =
    let k : ℕ = 8 - bit in
    let j : ℕ = bits + bit - 8 in
    let pair : ℕ = first + 256 * second in
    let power : ℕ = 2 ^ bit in
    let above : ℕ = 2 ^ k in
    let parts : bits ≡ j + k = omega (arith, low, reaches) in
    let eight : bit + k ≡ 8 = omega (arith, low) in
    let product : 256 ≡ power * above = sym (ap (λ n. 2 ^ n) eight) ∙ pow-add 2 bit k in
    let factor : power * above * second ≡ power * (above * second) = omega arith in
    let shifted : pair / power ≡ first / power + above * second =
    ap (λ m. (first + m * second) / power) product ∙ ap (λ m. (first + m) / power) factor ∙ add-mul-div_left first (above * second) (pow_pos bit) in
    let high : pair / 2 ^ bit / 2 ^ k ≡ second = shr-shr pair bit k ∙ ap (λ n. pair / 2 ^ n) eight ∙ omega (arith, byte) in
    let lower : pair / power % above ≡ first / power % above = ap (λ m. m % above) shifted ∙ add-mul-mod_self_left (first / power) above second in
    let rest : ℕ = second % 2 ^ j in
    let least : ℕ = first / power % above in
    let swapped : rest * above + least ≡ least + above * rest = omega arith in
    ap (λ n. pair / power % 2 ^ n) parts
    ∙ mod-pow-add (pair / power) j k
    ∙ ap (λ m. m % 2 ^ j * above + pair / power % above) high
    ∙ ap (λ m. rest * above + m) lower
    ∙ swapped

-- the same of a value that was read
pub running_ten : (pair first second bit : ℕ) → pair ≡ first + 256 * second → first < 256 → bit < 8 → pair / 2 ^ bit % 1024 ≡ running_value 10 first second bit
running_ten pair first second bit is byte low = ap (λ m. m / 2 ^ bit % 1024) is ∙ running 10 first second bit byte low (omega arith)

pub running_twelve : (pair first second bit : ℕ) → pair ≡ first + 256 * second → first < 256 → bit < 8 → pair / 2 ^ bit % 4096 ≡ running_value 12 first second bit
running_twelve pair first second bit is byte low = ap (λ m. m / 2 ^ bit % 4096) is ∙ running 12 first second bit byte low (omega arith)
