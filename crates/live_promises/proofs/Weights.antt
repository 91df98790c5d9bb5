-- How the answer of a run tells how control ended.
use Rattle.std.proofs.Common.{◌≡◌, ◌⊎◌, inl, inr, ℕ, ◌<◌, ◌≤◌, Bool, true, false, Option, Some, None, refl, ap, sym, ◌∙◌, arith}
use Rattle.std.proofs.lemmas.Bool.{ltb-true, ltb-false}
use Rattle.std.specs.Prelude.{⊤, ◌==◌, nat_lt, if◌then◌else◌}
use Rattle.camera_control.specs.declared.control_end.ControlEnd.{ControlEnd}
use Rattle.camera_control.specs.declared.control_end.ControlEnd.TheVariants as causes
use Rattle.camera_reader.specs.declared.reader_end.ReaderEnd.{ReaderEnd}
use Rattle.camera_reader.specs.declared.reader_end.ReaderEnd.TheVariants as reads
use Rattle.first_leader.specs.declared.no_leader.NoLeader.{NoLeader}
use Rattle.first_leader.specs.declared.no_leader.NoLeader.TheVariants as waits
use Rattle.frame_writing.specs.declared.handed_out.HandedEnd.{HandedEnd}
use Rattle.frame_writing.specs.declared.handed_out.HandedEnd.TheVariants as hands
use Rattle.gev_status.specs.declared.status.Status.{Status}
use Rattle.gev_status.specs.declared.status.Status.TheVariants as status
use Rattle.gev_receive.specs.Answers.{control_status, leader_status, reader_status, handed_status, rank, weightier}
use Rattle.live_promises.proofs.Parts.{is_other, is_other_if}
use Rattle.live_promises.proofs.Watching.{read_cause}

-- ---- which cause an answer tells

abbrev pub Follows : Option ControlEnd → Status → Type 0
Follows cause (status.NoAnswer req) = cause ≡ Some (causes.NoAnswer req)
Follows cause (status.RefusedAt register code) = cause ≡ Some (causes.RefusedAt register code)
Follows cause status.Controlled = ⊥
Follows cause (status.ControlLost frames) = cause ≡ Some causes.ControlLost
Follows cause _ = ⊤

pub follows_control : (cause : ControlEnd) (frames : ℕ) → is_other cause ≡ false → Follows (Some cause) (control_status cause frames)
follows_control causes.LinkFault frames other = tt
follows_control (causes.NoAnswer req) frames other = refl
follows_control (causes.RefusedAt register code) frames other = refl
follows_control causes.Controlled frames other = let bad : true ≡ false = other in absurd (cc)
follows_control causes.ControlLost frames other = refl

follows_if : (b : Bool) (cause : Option ControlEnd) (x y : Status) → Follows cause x → Follows cause y → Follows cause (if b then x else y)
follows_if true cause x y first second = first
follows_if false cause x y first second = second

pub follows_both : (cause : Option ControlEnd) (x y : Status) → Follows cause x → Follows cause y → Follows cause (weightier x y)
follows_both cause x y first second = follows_if (nat_lt (rank y) (rank x)) cause y x second first

pub follows_handed : (cause : Option ControlEnd) (end : HandedEnd) → Follows cause (handed_status end)
follows_handed cause hands.Enough = tt
follows_handed cause hands.Over = tt
follows_handed cause hands.InputEnded = tt
follows_handed cause hands.WriteFault = tt
follows_handed cause hands.NoMemory = tt

pub follows_reader : (read : ReaderEnd) (frames taken : ℕ) → is_other_if (read_cause read) ≡ false → Follows (read_cause read) (reader_status read frames taken)
follows_reader reads.Stopped frames taken other = tt
follows_reader reads.Silent frames taken other = follows_if (taken == frames) None status.Done (status.Silent taken) tt tt
follows_reader (reads.Ended cause) frames taken other = follows_control cause taken other

-- ---- how much weighs more

abbrev pub cause_rank : Option ControlEnd → ℕ
cause_rank None = 10
cause_rank (Some causes.LinkFault) = 0
cause_rank (Some (causes.NoAnswer req)) = 5
cause_rank (Some (causes.RefusedAt register code)) = 10
cause_rank (Some causes.Controlled) = 10
cause_rank (Some causes.ControlLost) = 10

pub rank_control : (cause : ControlEnd) (frames : ℕ) → rank (control_status cause frames) ≤ cause_rank (Some cause)
rank_control causes.LinkFault frames = omega arith
rank_control (causes.NoAnswer req) frames = omega arith
rank_control (causes.RefusedAt register code) frames = omega arith
rank_control causes.Controlled frames = omega arith
rank_control causes.ControlLost frames = omega arith

rank_if : (b : Bool) (x y : Status) → nat_lt (rank y) (rank x) ≡ b → rank (if b then y else x) ≤ rank y
rank_if true x y is = omega arith
rank_if false x y is = ltb-false (rank y) (rank x) is

pub rank_both : (x y : Status) → rank (weightier x y) ≤ rank y
rank_both x y = rank_if (nat_lt (rank y) (rank x)) x y refl

rank_silent : (b : Bool) (taken : ℕ) → rank (if b then status.Done else status.Silent taken) ≤ 10
rank_silent true taken = omega arith
rank_silent false taken = omega arith

pub rank_reader : (read : ReaderEnd) (frames taken : ℕ) → rank (reader_status read frames taken) ≤ cause_rank (read_cause read)
rank_reader reads.Stopped frames taken = omega arith
rank_reader reads.Silent frames taken = rank_silent (taken == frames) taken
rank_reader (reads.Ended cause) frames taken = rank_control cause taken

-- ---- which of two

-- the answer is the first, or the other, which weighs more
pub which : (x y : Status) → (weightier x y ≡ x) ⊎ ((weightier x y ≡ y) × (rank y < rank x))
which x y = go (nat_lt (rank y) (rank x)) refl
  where
    go : (b : Bool) → nat_lt (rank y) (rank x) ≡ b → (weightier x y ≡ x) ⊎ ((weightier x y ≡ y) × (rank y < rank x))
    go true is = inr (ap (λ (b : Bool). if b then y else x) is, ltb-true (rank y) (rank x) is)
    go false is = inl (ap (λ (b : Bool). if b then y else x) is)

-- ---- the cause by the answer

pub no_answer_of : (cause : ControlEnd) (frames req : ℕ) → control_status cause frames ≡ status.NoAnswer req → cause ≡ causes.NoAnswer req
no_answer_of causes.LinkFault frames req is = let bad : ⊥ = cc in absurd bad
no_answer_of (causes.NoAnswer x) frames req is = let same : x ≡ req = cc in ap (λ (n : ℕ). causes.NoAnswer n) same
no_answer_of (causes.RefusedAt register code) frames req is = let bad : ⊥ = cc in absurd bad
no_answer_of causes.Controlled frames req is = let bad : ⊥ = cc in absurd bad
no_answer_of causes.ControlLost frames req is = let bad : ⊥ = cc in absurd bad

pub refused_of : (cause : ControlEnd) (frames register code : ℕ) → control_status cause frames ≡ status.RefusedAt register code → cause ≡ causes.RefusedAt register code
refused_of causes.LinkFault frames register code is = let bad : ⊥ = cc in absurd bad
refused_of (causes.NoAnswer req) frames register code is = let bad : ⊥ = cc in absurd bad
refused_of (causes.RefusedAt x y) frames register code is =
    let first : x ≡ register = cc in let second : y ≡ code = cc in ap (λ (n : ℕ). causes.RefusedAt n y) first ∙ ap (λ (n : ℕ). causes.RefusedAt register n) second
refused_of causes.Controlled frames register code is = let bad : ⊥ = cc in absurd bad
refused_of causes.ControlLost frames register code is = let bad : ⊥ = cc in absurd bad

pub controlled_of : (cause : ControlEnd) (frames : ℕ) → control_status cause frames ≡ status.Controlled → cause ≡ causes.Controlled
controlled_of causes.LinkFault frames is = let bad : ⊥ = cc in absurd bad
controlled_of (causes.NoAnswer req) frames is = let bad : ⊥ = cc in absurd bad
controlled_of (causes.RefusedAt register code) frames is = let bad : ⊥ = cc in absurd bad
controlled_of causes.Controlled frames is = refl
controlled_of causes.ControlLost frames is = let bad : ⊥ = cc in absurd bad

pub lost_of : (cause : ControlEnd) (frames taken : ℕ) → control_status cause frames ≡ status.ControlLost taken → cause ≡ causes.ControlLost
lost_of causes.LinkFault frames taken is = let bad : ⊥ = cc in absurd bad
lost_of (causes.NoAnswer req) frames taken is = let bad : ⊥ = cc in absurd bad
lost_of (causes.RefusedAt register code) frames taken is = let bad : ⊥ = cc in absurd bad
lost_of causes.Controlled frames taken is = let bad : ⊥ = cc in absurd bad
lost_of causes.ControlLost frames taken is = refl

pub never_silent : (cause : ControlEnd) (frames taken : ℕ) → control_status cause frames ≡ status.Silent taken → ⊥
never_silent causes.LinkFault frames taken is = cc
never_silent (causes.NoAnswer req) frames taken is = cc
never_silent (causes.RefusedAt register code) frames taken is = cc
never_silent causes.Controlled frames taken is = cc
never_silent causes.ControlLost frames taken is = cc

-- silence was told by the wait, or by the reader
pub wait_silent : (why : NoLeader) (taken : ℕ) → leader_status why ≡ status.Silent taken → why ≡ waits.Silent
wait_silent waits.Silent taken is = refl
wait_silent waits.InputEnded taken is = let bad : ⊥ = cc in absurd bad
wait_silent (waits.Ended cause) taken is = absurd (never_silent cause 0 taken is)

handed_loud : (end : HandedEnd) (taken : ℕ) → handed_status end ≡ status.Silent taken → ⊥
handed_loud hands.Enough taken is = cc
handed_loud hands.Over taken is = cc
handed_loud hands.InputEnded taken is = cc
handed_loud hands.WriteFault taken is = cc
handed_loud hands.NoMemory taken is = cc

reader_silent : (read : ReaderEnd) (frames handed taken : ℕ) → reader_status read frames handed ≡ status.Silent taken → read ≡ reads.Silent
reader_silent reads.Stopped frames handed taken is = let bad : ⊥ = cc in absurd bad
reader_silent reads.Silent frames handed taken is = refl
reader_silent (reads.Ended cause) frames handed taken is = absurd (never_silent cause handed taken is)

pub both_silent : (end : HandedEnd) (read : ReaderEnd) (frames handed taken : ℕ) → weightier (handed_status end) (reader_status read frames handed) ≡ status.Silent taken → read ≡ reads.Silent
both_silent end read frames handed taken is = go (which (handed_status end) (reader_status read frames handed))
  where
    go : (weightier (handed_status end) (reader_status read frames handed) ≡ handed_status end)
        ⊎ ((weightier (handed_status end) (reader_status read frames handed) ≡ reader_status read frames handed) × (rank (reader_status read frames handed) < rank (handed_status end)))
        → read ≡ reads.Silent
    go (inl same) = absurd (handed_loud end taken (sym same ∙ is))
    go (inr same) = reader_silent read frames handed taken (sym same.0 ∙ is)
