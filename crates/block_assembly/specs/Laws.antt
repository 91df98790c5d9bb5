-- What the answers to packets, and what is told of a block, say in words of their own.
use Rattle.std.specs.Prelude.{◌≡◌, ◌↔◌, ℕ, List, [], ◌∷◌, ◌++◌, true, false}
use Rattle.stream_packets.specs.Packets.{StreamPacket, is_notice}
use Rattle.block_image.specs.Infos.{info_of}
use Rattle.block_image.specs.Kept.{fits, kept}
use Rattle.block_image.specs.Image.{record_of}
use Rattle.block_assembly.specs.declared.verdict.Verdict.TheVariants.{Kept, Misfit, Notice}
use Rattle.block_assembly.specs.Verdicts.{verdict_of}
use Rattle.block_assembly.specs.Accounts.{account_of}

-- A packet is answered Kept exactly where the list of kept packets grows by it, Notice exactly where it is
-- a notice, and Misfit exactly where it is none and doesn't fit. In each other case the list stays.
pub record VerdictsTell : Type 0 where
  pub grows :
      (p b : ℕ) (heard : List StreamPacket) (x : StreamPacket)
      → (verdict_of p b heard x ≡ Kept) ↔ (kept p b (heard ++ x ∷ []) ≡ kept p b heard ++ x ∷ [])
  pub stays :
      (p b : ℕ) (heard : List StreamPacket) (x : StreamPacket)
      → (verdict_of p b heard x ≡ Kept → ⊥) → kept p b (heard ++ x ∷ []) ≡ kept p b heard
  pub notices :
      (p b : ℕ) (heard : List StreamPacket) (x : StreamPacket) → (verdict_of p b heard x ≡ Notice) ↔ (is_notice x ≡ true)
  pub misfits :
      (p b : ℕ) (heard : List StreamPacket) (x : StreamPacket)
      → (verdict_of p b heard x ≡ Misfit) ↔ ((is_notice x ≡ false) × (fits p x ≡ false))

-- What is told of a block that retires and the record of its buffer agree on the image, and on whether it's whole.
pub record AccountAgrees (p b size : ℕ) (ks : List StreamPacket) : Type 0 where
  pub image : (record_of p b size ks).image ≡ info_of (account_of p size ks).leader (account_of p size ks).lines
  pub complete : (record_of p b size ks).complete ≡ (account_of p size ks).complete

abbrev pub AccountsAgree : Type 0
AccountsAgree = (p b size : ℕ) (ks : List StreamPacket) → AccountAgrees p b size ks
