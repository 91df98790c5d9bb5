-- Records that stand one after the other.
use Rattle.std.proofs.Common.{◌≡◌, ℕ, ◌+◌, ◌≤◌, List, [], ◌∷◌, ◌++◌, length, drop, Option, Some, None, refl, ap, sym, ◌∙◌, subst, arith}
use Rattle.std.proofs.lemmas.List.{drop-append-le}
use Rattle.gev_capture.specs.Files.{Packet, Format, Told, given, told}
use Rattle.gev_capture.specs.Captures.{Read, Refusal, EndsAs, AreRecords, with_packet, packets_in}
use Rattle.gev_capture.specs.Laws.{Stays}
use Rattle.gev_capture.specs.Walking.{Walks}
use Rattle.gev_capture.proofs.Pieces.{pieces_tell}

-- what is told of a record, with more behind it
pub record ToldWith (format : Format) (bytes more : List ℕ) (r : Read) : Type 0 where
  pub told_so : told format (bytes ++ more) ≡ given r.size r.format r.packet
  pub within : r.size ≤ length bytes

pub told_with : (format : Format) (bytes more : List ℕ) (r : Read) → told format bytes ≡ given r.size r.format r.packet → ToldWith format bytes more r
told_with format bytes more r e =
    let stays = subst (λ (t : Told). Stays (length bytes) t (told format (bytes ++ more))) e (pieces_tell format bytes more) in
    record { told_so = stays.0; within = stays.2 }

-- more bytes come
pub walks_more : (format : Format) (bytes more : List ℕ) (rs : List Read) (now : Format) (rest : List ℕ) → Walks format bytes rs now rest → Walks format (bytes ++ more) rs now (rest ++ more)
walks_more format bytes more [] now rest w = (w.0, ap (λ (bs : List ℕ). bs ++ more) w.1)
walks_more format bytes more (r ∷ rs) now rest w =
    let t = told_with format bytes more r w.0 in (
      t.told_so,
      subst (λ (bs : List ℕ). Walks r.format bs rs now (rest ++ more)) (sym (drop-append-le r.size bytes more t.within))
          (walks_more r.format (drop r.size bytes) more rs now rest w.1),
    )

-- one more record
pub walks_next : (format : Format) (bytes : List ℕ) (rs : List Read) (now : Format) (rest : List ℕ) (r : Read) → Walks format bytes rs now rest
    → told now rest ≡ given r.size r.format r.packet → Walks format bytes (rs ++ r ∷ []) r.format (drop r.size rest)
walks_next format bytes [] now rest r w e =
    (ap (λ (f : Format). told f bytes) (sym w.0) ∙ ap (λ (bs : List ℕ). told now bs) (sym w.1) ∙ e, (refl, ap (λ (bs : List ℕ). drop r.size bs) w.1))
walks_next format bytes (q ∷ rs) now rest r w e = (w.0, walks_next q.format (drop q.size bytes) rs now rest r w.1 e)

-- the records up to an end
pub walks_end : (format : Format) (n : ℕ) (bytes : List ℕ) (rs : List Read) (now : Format) (rest : List ℕ) (end : Option Refusal) → Walks format bytes rs now rest
    → EndsAs now (n + length rs) rest end → AreRecords format n bytes rs end
walks_end format n bytes [] now rest end w e =
    let counted : n + 0 ≡ n = omega arith in
    let here : EndsAs now n rest end = subst (λ (k : ℕ). EndsAs now k rest end) counted e in
    subst (λ (f : Format). EndsAs f n bytes end) w.0 (subst (λ (bs : List ℕ). EndsAs now n bs end) w.1 here)
walks_end format n bytes (r ∷ rs) now rest end w e =
    let counted : n + length (r ∷ rs) ≡ n + 1 + length rs = omega arith in
    (w.0, walks_end r.format (n + 1) (drop r.size bytes) rs now rest end w.1 (subst (λ (k : ℕ). EndsAs now k rest end) counted e))

pub packets_next : (rs : List Read) (r : Read) → packets_in (rs ++ r ∷ []) ≡ packets_in rs ++ with_packet r.packet []
packets_next [] r = refl
packets_next (q ∷ rs) r = ap (with_packet q.packet) (packets_next rs r) ∙ behind q.packet
  where
    behind : (p : Option Packet) → with_packet p (packets_in rs ++ with_packet r.packet []) ≡ with_packet p (packets_in rs) ++ with_packet r.packet []
    behind None = refl
    behind (Some p) = refl

-- records behind others
pub walks_on : (format : Format) (bytes : List ℕ) (rs : List Read) (mid : Format) (between : List ℕ) (qs : List Read) (now : Format) (rest : List ℕ)
    → Walks format bytes rs mid between → Walks mid between qs now rest → Walks format bytes (rs ++ qs) now rest
walks_on format bytes [] mid between qs now rest w v =
    subst (λ (f : Format). Walks f bytes qs now rest) w.0 (subst (λ (bs : List ℕ). Walks mid bs qs now rest) w.1 v)
walks_on format bytes (r ∷ rs) mid between qs now rest w v = (w.0, walks_on r.format (drop r.size bytes) rs mid between qs now rest w.1 v)

with_packet-append : (p : Option Packet) (xs ys : List Packet) → with_packet p (xs ++ ys) ≡ with_packet p xs ++ ys
with_packet-append None xs ys = refl
with_packet-append (Some p) xs ys = refl

pub packets_append : (rs qs : List Read) → packets_in (rs ++ qs) ≡ packets_in rs ++ packets_in qs
packets_append [] qs = refl
packets_append (r ∷ rs) qs = ap (with_packet r.packet) (packets_append rs qs) ∙ with_packet-append r.packet (packets_in rs) (packets_in qs)
