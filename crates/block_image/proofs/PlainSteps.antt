-- One step of the plain program.
use Rattle.std.proofs.Common.{◌≡◌, ℕ, zero, suc, ◌+◌, ◌-◌, ◌<◌, ◌≤◌, List, [], ◌∷◌, ◌++◌, length, get_or, take, drop, replicate, Bool, true, false, ap, sym, ◌∙◌, arith, add-one, append_assoc}
use Rattle.std.specs.Prelude.{Option, Some, None, is_some, unwrap_or, if◌then◌else◌}
use Rattle.std.proofs.lemmas.List.{take_more, map-append, take_at, take_all, drop_at, drop-drop, drop-replicate, length-append, length-replicate}
use Rattle.gev_types.specs.Placing.{put_at}
use Rattle.stream_packets.specs.Packets.{StreamPacket}
use Rattle.gvsp_wire.specs.declared.packet.Packet.{Packet}
use Rattle.gvsp_wire.specs.View.{view, views}
use Rattle.block_image.specs.Kept.{kept, keep, takes}
use Rattle.block_image.specs.Image.{placed, image_bytes, placed_count, placed_end, image_len}
use Rattle.block_image.proofs.Bools.{one_if}
use Rattle.block_image.proofs.KeptLemmas.{kept-push, keep-taken, keep-left}
use Rattle.block_image.proofs.ImageLemmas.{length-image_bytes}
use Rattle.block_image.proofs.CountLemmas.{placed_end-le}

views-push : (xs : List Packet) (x : Packet) → views (xs ++ x ∷ []) ≡ views xs ++ view x ∷ []
views-push xs x = map-append view xs (x ∷ [])

-- one more packet was looked at
kept_more : (p b : ℕ) (ps : List Packet) (i : ℕ) (d : Packet) → i < length ps → kept p b (views (take (i + 1) ps)) ≡ keep p b (kept p b (views (take i ps))) (view (get_or ps i d))
kept_more p b ps i d inside =
    ap (λ xs. kept p b (views xs)) (take_more ps i d inside)
    ∙ ap (kept p b) (views-push (take i ps) (get_or ps i d))
    ∙ kept-push p b (views (take i ps)) (view (get_or ps i d))

pub kept_more_taken : (p b : ℕ) (ps : List Packet) (i : ℕ) (d : Packet) (ks read new : List Packet) (r : Bool) → i < length ps → views ks ≡ kept p b (views (take i ps)) → read ≡ ks → r ≡ takes p b (views read) (view (get_or ps i d)) → r ≡ true → new ≡ ks ++ get_or ps i d ∷ [] → views new ≡ kept p b (views (take (i + 1) ps))
kept_more_taken p b ps i d ks read new r inside so_far same test taken pushed =
    let takes_it : takes p b (kept p b (views (take i ps))) (view (get_or ps i d)) ≡ true =
    ap (λ ls. takes p b ls (view (get_or ps i d))) (sym (ap views same ∙ so_far)) ∙ sym test ∙ taken in
    ap views pushed ∙ views-push ks (get_or ps i d) ∙ ap (λ ls. ls ++ view (get_or ps i d) ∷ []) so_far
    ∙ sym (kept_more p b ps i d inside ∙ keep-taken p b (kept p b (views (take i ps))) (view (get_or ps i d)) takes_it)

pub kept_more_left : (p b : ℕ) (ps : List Packet) (i : ℕ) (d : Packet) (ks read : List Packet) (r : Bool) → i < length ps → views ks ≡ kept p b (views (take i ps)) → read ≡ ks → r ≡ takes p b (views read) (view (get_or ps i d)) → r ≡ false → views ks ≡ kept p b (views (take (i + 1) ps))
kept_more_left p b ps i d ks read r inside so_far same test left =
    let leaves_it : takes p b (kept p b (views (take i ps))) (view (get_or ps i d)) ≡ false =
    ap (λ ls. takes p b ls (view (get_or ps i d))) (sym (ap views same ∙ so_far)) ∙ sym test ∙ left in
    so_far ∙ sym (kept_more p b ps i d inside ∙ keep-left p b (kept p b (views (take i ps))) (view (get_or ps i d)) leaves_it)

-- a byte that is put where the zeros begin
put_next : (done : List ℕ) (i m v : ℕ) → length done ≡ i → 0 < m → put_at (done ++ replicate m 0) i (v ∷ []) ≡ done ++ v ∷ [] ++ replicate (m - 1) 0
put_next done i m v at_end some =
    let front : take i (done ++ replicate m 0) ≡ done = take_at done (replicate m 0) i at_end in
    let room : length (done ++ replicate m 0) - i ≡ m = omega (arith, length-append done (replicate m 0), length-replicate {A = ℕ} m 0) in
    let piece : take (length (done ++ replicate m 0) - i) (v ∷ []) ≡ v ∷ [] = take_all (length (done ++ replicate m 0) - i) (v ∷ []) (omega arith) in
    let rest : drop (i + 1) (done ++ replicate m 0) ≡ replicate (m - 1) 0 =
    sym (drop-drop 1 i (done ++ replicate m 0)) ∙ ap (drop 1) (drop_at done (replicate m 0) i at_end) ∙ drop-replicate 1 m 0 in
    ap (λ bs. bs ++ take (length (done ++ replicate m 0) - i) (v ∷ []) ++ drop (i + 1) (done ++ replicate m 0)) front
    ∙ ap (λ bs. done ++ bs ++ drop (i + 1) (done ++ replicate m 0)) piece
    ∙ ap (λ bs. done ++ v ∷ [] ++ bs) rest

image_bytes-next : (p : ℕ) (ks : List StreamPacket) (i : ℕ) → image_bytes p ks (i + 1) ≡ image_bytes p ks i ++ unwrap_or (placed p ks i) 0 ∷ []
image_bytes-next p ks i = ap (image_bytes p ks) (add-one i)

pub bytes_more_some : (p : ℕ) (ks : List StreamPacket) (size i v : ℕ) (o : Option ℕ) (old new : List ℕ) → i < size → old ≡ image_bytes p ks i ++ replicate (size - i) 0 → o ≡ placed p ks i → o ≡ Some v → new ≡ put_at old i (v ∷ []) → new ≡ image_bytes p ks (i + 1) ++ replicate (size - (i + 1)) 0
bytes_more_some p ks size i v o old new inside so_far found is_some put =
    let rest : size - i - 1 ≡ size - (i + 1) = omega arith in
    put ∙ ap (λ bs. put_at bs i (v ∷ [])) so_far
    ∙ put_next (image_bytes p ks i) i (size - i) v (length-image_bytes p ks i) (omega arith)
    ∙ ap (λ m. image_bytes p ks i ++ v ∷ [] ++ replicate m 0) rest
    ∙ ap (λ bs. bs ++ replicate (size - (i + 1)) 0)
    (ap (λ w. image_bytes p ks i ++ unwrap_or w 0 ∷ []) (sym is_some ∙ found) ∙ sym (image_bytes-next p ks i))

zeros_next : (m : ℕ) → 0 < m → replicate {A = ℕ} m 0 ≡ 0 ∷ replicate (m - 1) 0
zeros_next zero some = absurd (omega arith)
zeros_next (suc m) some = let same : m ≡ suc m - 1 = omega arith in ap (λ n. 0 ∷ replicate {A = ℕ} n 0) same

pub bytes_more_none : (p : ℕ) (ks : List StreamPacket) (size i : ℕ) (o : Option ℕ) (old : List ℕ) → i < size → old ≡ image_bytes p ks i ++ replicate (size - i) 0 → o ≡ placed p ks i → o ≡ None → old ≡ image_bytes p ks (i + 1) ++ replicate (size - (i + 1)) 0
bytes_more_none p ks size i o old inside so_far found is_none =
    let rest : size - i - 1 ≡ size - (i + 1) = omega arith in
    so_far ∙ ap (λ bs. image_bytes p ks i ++ bs) (zeros_next (size - i) (omega arith))
    ∙ sym (append_assoc (image_bytes p ks i) (0 ∷ []) (replicate (size - i - 1) 0))
    ∙ ap (λ m. image_bytes p ks i ++ 0 ∷ [] ++ replicate m 0) rest
    ∙ ap (λ bs. bs ++ replicate (size - (i + 1)) 0)
    (ap (λ w. image_bytes p ks i ++ unwrap_or w 0 ∷ []) (sym is_none ∙ found) ∙ sym (image_bytes-next p ks i))

pub placed_count-next : (p : ℕ) (ks : List StreamPacket) (i : ℕ) (o : Option ℕ) → o ≡ placed p ks i → placed_count p ks (i + 1) ≡ placed_count p ks i + (if is_some o then 1 else 0)
placed_count-next p ks i o found =
    ap (placed_count p ks) (add-one i) ∙ ap (λ w. placed_count p ks i + (if is_some w then 1 else 0)) (sym found)

pub placed_end-next : (p : ℕ) (ks : List StreamPacket) (i : ℕ) (o : Option ℕ) → o ≡ placed p ks i → placed_end p ks (i + 1) ≡ (if is_some o then i + 1 else placed_end p ks i)
placed_end-next p ks i o found =
    ap (placed_end p ks) (add-one i) ∙ ap (λ w. if is_some w then suc i else placed_end p ks i) (sym found)
    ∙ ap (λ n. if is_some o then n else placed_end p ks i) (sym (add-one i))

-- the invariant of the walk over the positions, one position on
pub count_more_some : (p : ℕ) (ks : List StreamPacket) (i v n new : ℕ) (o : Option ℕ) → o ≡ placed p ks i → o ≡ Some v → n ≡ placed_count p ks i → new ≡ n + 1 → new ≡ placed_count p ks (i + 1)
count_more_some p ks i v n new o found is_there so_far one =
    omega (arith, placed_count-next p ks i o found, ap (λ w. one_if (is_some w)) is_there)

pub count_more_none : (p : ℕ) (ks : List StreamPacket) (i n : ℕ) (o : Option ℕ) → o ≡ placed p ks i → o ≡ None → n ≡ placed_count p ks i → n ≡ placed_count p ks (i + 1)
count_more_none p ks i n o found is_none so_far =
    omega (arith, placed_count-next p ks i o found, ap (λ w. one_if (is_some w)) is_none)

pub end_more_some : (p : ℕ) (ks : List StreamPacket) (i v new : ℕ) (o : Option ℕ) → o ≡ placed p ks i → o ≡ Some v → new ≡ i + 1 → new ≡ placed_end p ks (i + 1)
end_more_some p ks i v new o found is_there last =
    last ∙ ap (λ w. if is_some w then i + 1 else placed_end p ks i) (sym is_there) ∙ sym (placed_end-next p ks i o found)

pub end_more_none : (p : ℕ) (ks : List StreamPacket) (i n : ℕ) (o : Option ℕ) → o ≡ placed p ks i → o ≡ None → n ≡ placed_end p ks i → n ≡ placed_end p ks (i + 1)
end_more_none p ks i n o found is_none so_far =
    so_far ∙ ap (λ w. if is_some w then i + 1 else placed_end p ks i) (sym is_none) ∙ sym (placed_end-next p ks i o found)

pub image_len-le : (p size : ℕ) (ks : List StreamPacket) (o : Option ℕ) → image_len p size ks o ≤ size
image_len-le p size ks None = placed_end-le p ks size
image_len-le p size ks (Some len) = omega arith
