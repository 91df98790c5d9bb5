-- Words that are written in order.
use Rattle.std.proofs.Common.{◌≡◌, ℕ, ◌+◌, ◌-◌, ◌*◌, ◌<◌, Bool, true, false, List, ◌∷◌, drop, Option, Some, None, refl, ap, sym, ◌∙◌, arith}
use Rattle.std.specs.Prelude.{◌||◌}
use Rattle.wire_fields.specs.Fields.{number_at}
use Rattle.gev_types.specs.declared.peer.Peer.{Peer}
use Rattle.gvcp_wire.specs.declared.status.Status.{Status}
use Rattle.camera_machine.specs.Camera.{Camera}
use Rattle.camera_machine.specs.Access.{Write, Written, refusal_of, written, grants, after_one, ended_by, write_all, pairs_in, words_in}
use Rattle.camera_sim.specs.Words.{Wrote, joined}
use Rattle.camera_sim.proofs.Reading.{pairs_at, words_at}

abbrev wrote_by : Camera → Option Status → ℕ → Bool → Wrote
wrote_by s refusal done has_granted = record { camera = s; done = done; refusal = refusal; has_granted = has_granted }

abbrev write_of : ℕ → ℕ → Write
write_of address value = record { address = address; value = value }

or_or : (a b c : Bool) → (a || (b || c)) ≡ ((a || b) || c)
or_or true b c = refl
or_or false b c = refl

or_none : (a : Bool) → (a || false) ≡ a
or_none true = refl
or_none false = refl

joined_more : (done : ℕ) (has_granted : Bool) (w : Write) (rest : Written)
    → joined done has_granted (after_one w rest) ≡ joined (done + 1) (has_granted || grants w) rest
joined_more done has_granted w rest =
    let count : done + (rest.done + 1) ≡ (done + 1) + rest.done = omega arith in
    ap (λ k. wrote_by rest.camera rest.refusal k (has_granted || (grants w || rest.has_granted))) count
    ∙ ap (λ (b : Bool). wrote_by rest.camera rest.refusal ((done + 1) + rest.done) b) (or_or has_granted (grants w) rest.has_granted)

-- one more word was written
pub write_more : (s after : Camera) (peer : Peer) (moment : ℕ) (w : Write) (writes left : List Write) (done : ℕ) (has_granted then_granted : Bool) (whole : Wrote)
    → whole ≡ joined done has_granted (write_all s peer moment writes) → writes ≡ w ∷ left → refusal_of s peer w ≡ None → after ≡ written s peer moment w
    → then_granted ≡ (has_granted || grants w)
    → whole ≡ joined (done + 1) then_granted (write_all after peer moment left)
write_more s after peer moment w writes left done has_granted then_granted whole so_far is free state granted =
    so_far
    ∙ ap (λ (xs : List Write). joined done has_granted (write_all s peer moment xs)) is
    ∙ ap (λ (o : Option Status). joined done has_granted (ended_by o s (after_one w (write_all (written s peer moment w) peer moment left)))) free
    ∙ joined_more done has_granted w (write_all (written s peer moment w) peer moment left)
    ∙ ap (λ (c : Camera). joined (done + 1) (has_granted || grants w) (write_all c peer moment left)) (sym state)
    ∙ ap (λ (b : Bool). joined (done + 1) b (write_all after peer moment left)) (sym granted)

-- a word can't be written
pub write_ends : (s : Camera) (peer : Peer) (moment : ℕ) (w : Write) (writes left : List Write) (done : ℕ) (has_granted : Bool) (status : Status) (whole : Wrote)
    → whole ≡ joined done has_granted (write_all s peer moment writes) → writes ≡ w ∷ left → refusal_of s peer w ≡ Some status
    → whole ≡ record { camera = s; done = done; refusal = Some status; has_granted = has_granted }
write_ends s peer moment w writes left done has_granted status whole so_far is refused =
    let count : done + 0 ≡ done = omega arith in
    so_far
    ∙ ap (λ (xs : List Write). joined done has_granted (write_all s peer moment xs)) is
    ∙ ap (λ (o : Option Status). joined done has_granted (ended_by o s (after_one w (write_all (written s peer moment w) peer moment left)))) refused
    ∙ ap (λ k. wrote_by s (Some status) k (has_granted || false)) count
    ∙ ap (λ (b : Bool). wrote_by s (Some status) done b) (or_none has_granted)

-- ---- a turn of the loop over pairs

pub pairs_more : (s after : Camera) (peer : Peer) (moment : ℕ) (bytes : List ℕ) (n i a v : ℕ) (has_granted then_granted : Bool) (whole : Wrote) → i < n
    → whole ≡ joined i has_granted (write_all s peer moment (pairs_in (n - i) (drop (8 * i) bytes)))
    → a ≡ number_at (8 * i) 4 bytes → v ≡ number_at (8 * i + 4) 4 bytes
    → None ≡ refusal_of s peer (record { address = a; value = v }) → after ≡ written s peer moment (record { address = a; value = v })
    → then_granted ≡ (has_granted || grants (record { address = a; value = v }))
    → whole ≡ joined (i + 1) then_granted (write_all after peer moment (pairs_in (n - (i + 1)) (drop (8 * (i + 1)) bytes)))
pairs_more s after peer moment bytes n i a v has_granted then_granted whole below so_far address value free state granted =
    let left : List Write = pairs_in (n - (i + 1)) (drop (8 * (i + 1)) bytes) in
    write_more s after peer moment (record { address = a; value = v }) (pairs_in (n - i) (drop (8 * i) bytes)) left i has_granted then_granted whole so_far
    (pairs_at n i bytes below ∙ ap (λ x. write_of x (number_at (8 * i + 4) 4 bytes) ∷ left) (sym address) ∙ ap (λ x. write_of a x ∷ left) (sym value))
    (sym free) state granted

pub pairs_end : (s : Camera) (peer : Peer) (moment : ℕ) (bytes : List ℕ) (n i a v : ℕ) (has_granted : Bool) (status : Status) (whole : Wrote) → i < n
    → whole ≡ joined i has_granted (write_all s peer moment (pairs_in (n - i) (drop (8 * i) bytes)))
    → a ≡ number_at (8 * i) 4 bytes → v ≡ number_at (8 * i + 4) 4 bytes
    → Some status ≡ refusal_of s peer (record { address = a; value = v })
    → record { camera = s; done = i; refusal = Some status; has_granted = has_granted } ≡ whole
pairs_end s peer moment bytes n i a v has_granted status whole below so_far address value refused =
    let left : List Write = pairs_in (n - (i + 1)) (drop (8 * (i + 1)) bytes) in
    sym (write_ends s peer moment (record { address = a; value = v }) (pairs_in (n - i) (drop (8 * i) bytes)) left i has_granted status whole so_far
    (pairs_at n i bytes below ∙ ap (λ x. write_of x (number_at (8 * i + 4) 4 bytes) ∷ left) (sym address) ∙ ap (λ x. write_of a x ∷ left) (sym value))
    (sym refused))

-- ---- a turn of the loop over words

pub words_more : (s after : Camera) (peer : Peer) (moment : ℕ) (bytes : List ℕ) (n i a v : ℕ) (has_granted then_granted : Bool) (whole : Wrote) → i < n
    → whole ≡ joined i has_granted (write_all s peer moment (words_in (n - i) a (drop (4 * i) bytes))) → v ≡ number_at (4 * i) 4 bytes
    → None ≡ refusal_of s peer (record { address = a; value = v }) → after ≡ written s peer moment (record { address = a; value = v })
    → then_granted ≡ (has_granted || grants (record { address = a; value = v }))
    → whole ≡ joined (i + 1) then_granted (write_all after peer moment (words_in (n - (i + 1)) (a + 4) (drop (4 * (i + 1)) bytes)))
words_more s after peer moment bytes n i a v has_granted then_granted whole below so_far value free state granted =
    let left : List Write = words_in (n - (i + 1)) (a + 4) (drop (4 * (i + 1)) bytes) in
    write_more s after peer moment (record { address = a; value = v }) (words_in (n - i) a (drop (4 * i) bytes)) left i has_granted then_granted whole so_far
    (words_at n i a bytes below ∙ ap (λ x. write_of a x ∷ left) (sym value)) (sym free) state granted

pub words_end : (s : Camera) (peer : Peer) (moment : ℕ) (bytes : List ℕ) (n i a v : ℕ) (has_granted : Bool) (status : Status) (whole : Wrote) → i < n
    → whole ≡ joined i has_granted (write_all s peer moment (words_in (n - i) a (drop (4 * i) bytes))) → v ≡ number_at (4 * i) 4 bytes
    → Some status ≡ refusal_of s peer (record { address = a; value = v })
    → record { camera = s; done = i; refusal = Some status; has_granted = has_granted } ≡ whole
words_end s peer moment bytes n i a v has_granted status whole below so_far value refused =
    let left : List Write = words_in (n - (i + 1)) (a + 4) (drop (4 * (i + 1)) bytes) in
    sym (write_ends s peer moment (record { address = a; value = v }) (words_in (n - i) a (drop (4 * i) bytes)) left i has_granted status whole so_far
    (words_at n i a bytes below ∙ ap (λ x. write_of a x ∷ left) (sym value)) (sym refused))
