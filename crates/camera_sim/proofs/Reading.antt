-- Words that are read in order.
use Rattle.std.proofs.Common.{◌≡◌, ℕ, suc, ◌+◌, ◌-◌, ◌*◌, ◌<◌, List, ◌∷◌, ◌++◌, take, drop, Option, Some, None, refl, ap, sym, ◌∙◌, arith, append_assoc}
use Rattle.std.specs.Prelude.{Result, Ok, Err}
use Rattle.std.proofs.lemmas.List.{drop-drop}
use Rattle.byteorder.specs.Endian.{big_bytes}
use Rattle.wire_fields.specs.Fields.{number_at}
use Rattle.gev_types.specs.declared.peer.Peer.{Peer}
use Rattle.gvcp_wire.specs.declared.status.Status.{Status}
use Rattle.bootstrap_regs.specs.Words.{word_at}
use Rattle.camera_machine.specs.Words.{bytes_of, addresses_from}
use Rattle.camera_machine.specs.Camera.{Camera}
use Rattle.camera_machine.specs.Access.{Write, read_refusal, with_first, unless_refused, read_all, addresses_in, pairs_in, words_in}
use Rattle.camera_sim.specs.Words.{after_bytes}

-- ---- the lists of addresses and writes

abbrev pair : ℕ → ℕ → Write
pair address value = record { address = address; value = value }

number_behind : (place before width : ℕ) (bytes : List ℕ) → number_at place width (drop before bytes) ≡ number_at (before + place) width bytes
unfolding number_at
number_behind place before width bytes = rw (drop-drop place before bytes) refl

pub addresses_at : (n i : ℕ) (bytes : List ℕ) → i < n
    → addresses_in (n - i) (drop (4 * i) bytes) ≡ number_at (4 * i) 4 bytes ∷ addresses_in (n - (i + 1)) (drop (4 * (i + 1)) bytes)
addresses_at n i bytes b =
    let more : n - i ≡ suc (n - (i + 1)) = omega arith in
    let next : 4 * i + 4 ≡ 4 * (i + 1) = omega arith in
    let here : 4 * i + 0 ≡ 4 * i = omega arith in
    ap (λ k. addresses_in k (drop (4 * i) bytes)) more
    ∙ ap (λ a. a ∷ addresses_in (n - (i + 1)) (drop 4 (drop (4 * i) bytes))) (number_behind 0 (4 * i) 4 bytes ∙ ap (λ p. number_at p 4 bytes) here)
    ∙ ap (λ (rest : List ℕ). number_at (4 * i) 4 bytes ∷ addresses_in (n - (i + 1)) rest) (drop-drop 4 (4 * i) bytes ∙ ap (λ p. drop p bytes) next)

pub pairs_at : (n i : ℕ) (bytes : List ℕ) → i < n
    → pairs_in (n - i) (drop (8 * i) bytes)
    ≡ record { address = number_at (8 * i) 4 bytes; value = number_at (8 * i + 4) 4 bytes } ∷ pairs_in (n - (i + 1)) (drop (8 * (i + 1)) bytes)
pairs_at n i bytes b =
    let more : n - i ≡ suc (n - (i + 1)) = omega arith in
    let next : 8 * i + 8 ≡ 8 * (i + 1) = omega arith in
    let here : 8 * i + 0 ≡ 8 * i = omega arith in
    let rest : List ℕ = drop (8 * i) bytes in
    ap (λ k. pairs_in k rest) more
    ∙ ap (λ a. pair a (number_at 4 4 rest) ∷ pairs_in (n - (i + 1)) (drop 8 rest)) (number_behind 0 (8 * i) 4 bytes ∙ ap (λ p. number_at p 4 bytes) here)
    ∙ ap (λ v. pair (number_at (8 * i) 4 bytes) v ∷ pairs_in (n - (i + 1)) (drop 8 rest)) (number_behind 4 (8 * i) 4 bytes)
    ∙ ap (λ (left : List ℕ). pair (number_at (8 * i) 4 bytes) (number_at (8 * i + 4) 4 bytes) ∷ pairs_in (n - (i + 1)) left) (drop-drop 8 (8 * i) bytes ∙ ap (λ p. drop p bytes) next)

pub words_at : (n i address : ℕ) (bytes : List ℕ) → i < n
    → words_in (n - i) address (drop (4 * i) bytes)
    ≡ record { address = address; value = number_at (4 * i) 4 bytes } ∷ words_in (n - (i + 1)) (address + 4) (drop (4 * (i + 1)) bytes)
words_at n i address bytes b =
    let more : n - i ≡ suc (n - (i + 1)) = omega arith in
    let next : 4 * i + 4 ≡ 4 * (i + 1) = omega arith in
    let here : 4 * i + 0 ≡ 4 * i = omega arith in
    let rest : List ℕ = drop (4 * i) bytes in
    ap (λ k. words_in k address rest) more
    ∙ ap (λ v. pair address v ∷ words_in (n - (i + 1)) (address + 4) (drop 4 rest)) (number_behind 0 (4 * i) 4 bytes ∙ ap (λ p. number_at p 4 bytes) here)
    ∙ ap (λ (left : List ℕ). pair address (number_at (4 * i) 4 bytes) ∷ words_in (n - (i + 1)) (address + 4) left) (drop-drop 4 (4 * i) bytes ∙ ap (λ p. drop p bytes) next)

pub from_at : (n i address : ℕ) → i < n → addresses_from (n - i) address ≡ address ∷ addresses_from (n - (i + 1)) (address + 4)
from_at n i address b =
    let more : n - i ≡ suc (n - (i + 1)) = omega arith in
    ap (λ k. addresses_from k address) more

-- ---- reading

with_bytes : (front : List ℕ) (value : ℕ) (rest : Result (List ℕ) Status)
    → after_bytes front (with_first value rest) ≡ after_bytes (front ++ big_bytes 4 value) rest
with_bytes front value (Ok values) = ap Ok (sym (append_assoc front (big_bytes 4 value) (bytes_of values)))
with_bytes front value (Err status) = refl

-- one more word was read
pub read_more : (s : Camera) (peer : Peer) (a : ℕ) (addresses left front after : List ℕ) (whole : Result (List ℕ) Status)
    → whole ≡ after_bytes front (read_all s peer addresses) → addresses ≡ a ∷ left → read_refusal s peer a ≡ None → after ≡ front ++ big_bytes 4 (word_at s.words a)
    → whole ≡ after_bytes after (read_all s peer left)
read_more s peer a addresses left front after whole so_far is free bytes =
    so_far
    ∙ ap (λ (xs : List ℕ). after_bytes front (read_all s peer xs)) is
    ∙ ap (λ (o : Option Status). after_bytes front (unless_refused o (with_first (word_at s.words a) (read_all s peer left)))) free
    ∙ with_bytes front (word_at s.words a) (read_all s peer left)
    ∙ ap (λ (xs : List ℕ). after_bytes xs (read_all s peer left)) (sym bytes)

-- a word can't be read
pub read_ends : (s : Camera) (peer : Peer) (a : ℕ) (addresses left front : List ℕ) (whole : Result (List ℕ) Status) (status : Status)
    → whole ≡ after_bytes front (read_all s peer addresses) → addresses ≡ a ∷ left → read_refusal s peer a ≡ Some status → whole ≡ Err status
read_ends s peer a addresses left front whole status so_far is refused =
    so_far
    ∙ ap (λ (xs : List ℕ). after_bytes front (read_all s peer xs)) is
    ∙ ap (λ (o : Option Status). after_bytes front (unless_refused o (with_first (word_at s.words a) (read_all s peer left)))) refused

-- ---- a turn of the loop over a list of addresses

pub list_more : (s : Camera) (peer : Peer) (bytes out after : List ℕ) (n i a : ℕ) (whole : Result (List ℕ) Status) → i < n
    → whole ≡ after_bytes (take (4 * i) out) (read_all s peer (addresses_in (n - i) (drop (4 * i) bytes))) → a ≡ number_at (4 * i) 4 bytes
    → None ≡ read_refusal s peer a → take (4 * i + 4) after ≡ take (4 * i) out ++ big_bytes 4 (word_at s.words a)
    → whole ≡ after_bytes (take (4 * (i + 1)) after) (read_all s peer (addresses_in (n - (i + 1)) (drop (4 * (i + 1)) bytes)))
list_more s peer bytes out after n i a whole below so_far is free read =
    let place : 4 * (i + 1) ≡ 4 * i + 4 = omega arith in
    let left : List ℕ = addresses_in (n - (i + 1)) (drop (4 * (i + 1)) bytes) in
    read_more s peer a (addresses_in (n - i) (drop (4 * i) bytes)) left (take (4 * i) out) (take (4 * (i + 1)) after) whole so_far
    (addresses_at n i bytes below ∙ ap (λ b. b ∷ left) (sym is)) (sym free) (ap (λ k. take k after) place ∙ read)

pub list_ends : (s : Camera) (peer : Peer) (bytes out : List ℕ) (n i a : ℕ) (status : Status) (whole : Result (List ℕ) Status) → i < n
    → whole ≡ after_bytes (take (4 * i) out) (read_all s peer (addresses_in (n - i) (drop (4 * i) bytes))) → a ≡ number_at (4 * i) 4 bytes
    → Some status ≡ read_refusal s peer a → Err status ≡ whole
list_ends s peer bytes out n i a status whole below so_far is refused =
    let left : List ℕ = addresses_in (n - (i + 1)) (drop (4 * (i + 1)) bytes) in
    sym (read_ends s peer a (addresses_in (n - i) (drop (4 * i) bytes)) left (take (4 * i) out) whole status so_far
    (addresses_at n i bytes below ∙ ap (λ b. b ∷ left) (sym is)) (sym refused))

-- ---- a turn of the loop over addresses one after the other

pub memory_more : (s : Camera) (peer : Peer) (out after : List ℕ) (n i a : ℕ) (whole : Result (List ℕ) Status) → i < n
    → whole ≡ after_bytes (take (4 + 4 * i) out) (read_all s peer (addresses_from (n - i) a))
    → None ≡ read_refusal s peer a → take (4 + 4 * i + 4) after ≡ take (4 + 4 * i) out ++ big_bytes 4 (word_at s.words a)
    → whole ≡ after_bytes (take (4 + 4 * (i + 1)) after) (read_all s peer (addresses_from (n - (i + 1)) (a + 4)))
memory_more s peer out after n i a whole below so_far free read =
    let place : 4 + 4 * (i + 1) ≡ 4 + 4 * i + 4 = omega arith in
    read_more s peer a (addresses_from (n - i) a) (addresses_from (n - (i + 1)) (a + 4)) (take (4 + 4 * i) out) (take (4 + 4 * (i + 1)) after) whole so_far
    (from_at n i a below) (sym free) (ap (λ k. take k after) place ∙ read)

pub memory_ends : (s : Camera) (peer : Peer) (out : List ℕ) (n i a : ℕ) (status : Status) (whole : Result (List ℕ) Status) → i < n
    → whole ≡ after_bytes (take (4 + 4 * i) out) (read_all s peer (addresses_from (n - i) a))
    → Some status ≡ read_refusal s peer a → Err status ≡ whole
memory_ends s peer out n i a status whole below so_far refused =
    sym (read_ends s peer a (addresses_from (n - i) a) (addresses_from (n - (i + 1)) (a + 4)) (take (4 + 4 * i) out) whole status so_far
    (from_at n i a below) (sym refused))
