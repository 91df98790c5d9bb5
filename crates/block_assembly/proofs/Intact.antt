-- A whole image lacks nothing, for no reason.
use Rattle.std.proofs.Common.{◌≡◌, ◌⊎◌, inl, inr, ℕ, ◌+◌, ◌-◌, ◌<◌, ◌≤◌, List, [], Bool, true, false, Option, Some, None, refl, sym, ◌∙◌, ap, arith}
use Rattle.std.specs.Prelude.{◌&&◌, not, nat_le}
use Rattle.std.proofs.lemmas.Bool.{cases_eq, cases_lt, and_parts, false≢true}
use Rattle.gev_types.specs.declared.block_account.BlockAccount.{BlockAccount}
use Rattle.gev_types.specs.declared.block_account.Cause.{Cause}
use Rattle.gev_types.specs.declared.block_account.Lost.{Lost}
use Rattle.gev_types.specs.declared.reasons.Reasons.{Reasons}
use Rattle.gev_types.specs.Reasons.{no_reason, has_reason}
use Rattle.stream_packets.specs.declared.fields.LeaderInfo.{LeaderInfo}
use Rattle.stream_packets.specs.Packets.{StreamPacket}
use Rattle.stream_packets.specs.FramePackets.{payload_count}
use Rattle.block_image.specs.Extent.{extent_of}
use Rattle.block_image.specs.Kept.{has_id}
use Rattle.block_image.specs.Image.{is_complete, has_image, has_payloads, has_trailer_at, leader_in, lines_in, extent_in}
use Rattle.missing_ranges.specs.Accounts.{lost_of, block_account}
use Rattle.missing_ranges.specs.Lost.{lost, lost_to}
use Rattle.missing_ranges.specs.Missing.{top_with}
use Rattle.missing_ranges.specs.Ranges.{holes}
use Rattle.missing_ranges.specs.Reasons.{reasons}
use Rattle.missing_ranges.proofs.FirstLemmas.{holes_begin_with_first}
use Rattle.missing_ranges.proofs.ReasonLemmas.{none_of, complete_is}
use Rattle.block_assembly.specs.declared.progress.Progress.{Progress}
use Rattle.block_assembly.specs.Assembly.{IsAssembly}
use Rattle.block_assembly.proofs.Covers.{payloads_each, payload_has_id, trailer_has_id}
use Rattle.block_assembly.proofs.Wholes.{leader_has_id}

-- each id up to the trailer's was kept
all_ids : (p size len : ℕ) (ks : List StreamPacket) → has_id 0 ks ≡ true → has_image p size len ks ≡ true → (k : ℕ) → k < payload_count p len + 2 → has_id k ks ≡ true
all_ids p size len ks leads whole k top = go (cases_eq k 0) (cases_eq k (payload_count p len + 1)) where
  parts : (has_trailer_at (payload_count p len + 1) ks ≡ true) × (has_payloads p len (payload_count p len) ks ≡ true)
  parts =
      let both = and_parts (nat_le len size && has_trailer_at (payload_count p len + 1) ks) (has_payloads p len (payload_count p len) ks) whole in
      ((and_parts (nat_le len size) (has_trailer_at (payload_count p len + 1) ks) both.0).1, both.1)

  go : (k ≡ 0) ⊎ (k ≡ 0 → ⊥) → (k ≡ payload_count p len + 1) ⊎ (k ≡ payload_count p len + 1 → ⊥) → has_id k ks ≡ true
  go (inl first) rest = ap (λ i. has_id i ks) first ∙ leads
  go (inr later) (inl last) = ap (λ i. has_id i ks) last ∙ trailer_has_id (payload_count p len + 1) ks parts.0
  go (inr later) (inr before) = payload_has_id p len k ks (payloads_each p len (payload_count p len) k ks parts.1 (above later) (below before))
    where
      above : (k ≡ 0 → ⊥) → 1 ≤ k
      above later = elim (cases_lt 0 k) [ inl more ↦ more | inr none_left ↦ absurd (later (omega arith)) ]

      below : (k ≡ payload_count p len + 1 → ⊥) → k ≤ payload_count p len
      below before = elim (cases_lt (payload_count p len) k) [ inl more ↦ absurd (before (omega arith)) | inr within ↦ within ]

none_with : (p size : ℕ) (ks : List StreamPacket) (o : Option ℕ) → has_id 0 ks ≡ true → is_complete p size ks o ≡ true → lost_to ks (top_with p ks o) ≡ []
none_with p size ks None leads whole = absurd (false≢true whole)
none_with p size ks (Some len) leads whole =
    let all : (payload_count p len + 1 + 1) - 0 ≡ payload_count p len + 1 + 1 = omega arith in
    ap (λ (n : ℕ). holes (λ k. has_id k ks) 0 n) (sym all)
    ∙ holes_begin_with_first (λ k. has_id k ks) 0 (payload_count p len + 1 + 1) None (λ k low high. all_ids p size len ks leads whole k (omega arith))

-- an image of known length has a leader
leads : (ks : List StreamPacket) (a : Progress) → IsAssembly a ks → (p size : ℕ) → is_complete p size ks (extent_in ks) ≡ true → has_id 0 ks ≡ true
leads ks a s p size whole = go (leader_in ks) refl where
  go : (o : Option LeaderInfo) → leader_in ks ≡ o → has_id 0 ks ≡ true
  go None none = absurd (false≢true (sym (ap (λ (o : Option LeaderInfo). is_complete p size ks (extent_of o (lines_in ks))) none) ∙ whole))
  go (Some i) there = leader_has_id ks i s.leaders there

holds_none : (r : Reasons) → true ≡ not (has_reason r) → has_reason r ≡ false
holds_none r e = go (has_reason r) e where
  go : (v : Bool) → true ≡ not v → v ≡ false
  go true e = e
  go false e = refl

abbrev pub of_parts : Cause → Lost → Reasons → BlockAccount
of_parts cause l r = record { cause = cause; lost = l; why = r }

account_with : (cause : Cause) (l : List (ℕ × ℕ)) (r : Reasons) (m : Lost) (q : Reasons) → m ≡ lost_of [] → q ≡ no_reason → l ≡ [] → r ≡ no_reason
    → of_parts cause m q ≡ of_parts cause (lost_of l) r
account_with cause l r m q is_none no_why empty none =
    ap (λ (x : Lost). of_parts cause x q) (is_none ∙ ap lost_of (sym empty)) ∙ ap (of_parts cause (lost_of l)) (no_why ∙ sym none)

pub whole_account : (cause : Cause) (a : Progress) (ks : List StreamPacket) (m : Lost) (q : Reasons) → IsAssembly a ks → m ≡ lost_of [] → q ≡ no_reason
    → is_complete a.payload_size a.size ks (extent_in ks) ≡ true → of_parts cause m q ≡ block_account cause a.payload_size a.size ks
whole_account cause a ks m q s none no_why whole =
    let p = a.payload_size in
    account_with cause (lost p ks) (reasons p a.size ks) m q none no_why
    (none_with p a.size ks (extent_in ks) (leads ks a s p a.size whole) whole)
    (none_of (reasons p a.size ks) (holds_none (reasons p a.size ks) (sym whole ∙ complete_is p a.block a.size ks (extent_in ks) (omega (arith, s.payload_size.at_least)) s.are_kept)))
