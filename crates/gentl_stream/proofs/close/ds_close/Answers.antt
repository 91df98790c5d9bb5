use Rattle.std.proofs.Common.{◌≡◌, ℕ, List, arith, ◌∙◌}
use Rattle.buffer_words.specs.Passes.{Token}
use Rattle.buffer_words.specs.Swept.{GetsAll}
use Rattle.gentl_stream.specs.Several.{AreWhole, Leaves}
use Rattle.gentl_stream.proofs.Sweeping.{closes}
use Rattle.buffer_words.proofs.Retries.{hands_then}
use Rattle.gentl_stream.proofs.Giving.{gave_both_back}
use Rattle.gentl_stream.proofs.close.ds_close.Goals as goal

both_whole : (s t u : Token) (is js ks : List ℕ) → ks ≡ is → GetsAll is s t → GetsAll js t u → AreWhole u ks
both_whole s t u is js ks e gets gets_too = grind arith

left_whole : (s t u v : Token) (is js ks ls : List ℕ) → ks ≡ is → ls ≡ js → GetsAll is s t → GetsAll js t u → Leaves ks u v → AreWhole v ls
left_whole s t u v is js ks ls e f gets gets_too left = grind arith

pub lay_each-requires : goal.lay_each-requires
lay_each-requires c = record {
  table = c.sweep-pooled.ensures.entry.table ∙ c.sweep-output.ensures.entry.table ∙ c.close.ensures.entry.table ∙ c.requires.table;
  holds = both_whole _ _ _ _ _ _ c.as_slice.ensures.value c.sweep-output.ensures.hands c.sweep-pooled.ensures.hands;
}

pub lay_each-requires-2 : goal.lay_each-requires-2
lay_each-requires-2 c = record {
  table = c.lay_each.ensures.entries.enters.table ∙ c.sweep-pooled.ensures.entry.table ∙ c.sweep-output.ensures.entry.table ∙ c.close.ensures.entry.table ∙ c.requires.table;
  holds = left_whole _ _ _ _ _ _ _ _ c.as_slice.ensures.value c.as_slice-2.ensures.value c.sweep-output.ensures.hands c.sweep-pooled.ensures.hands c.lay_each.ensures.hands;
}

pub returns-clause-entries : goal.returns-clause-entries
returns-clause-entries c =
    closes _ _ _ _ _ _ _ _ _ _ c.as_slice.ensures.value c.as_slice-2.ensures.value c.close.ensures.entry
    c.sweep-output.ensures.entry c.sweep-pooled.ensures.entry
    c.lay_each.ensures.entries c.lay_each-2.ensures.entries

pub returns-clause-hands : goal.returns-clause-hands
returns-clause-hands c =
    hands_then _ _ _ c.close.ensures.hands
    (gave_both_back _ _ _ _ _ _ _ _ _ c.as_slice.ensures.value c.as_slice-2.ensures.value
    c.sweep-output.ensures.hands c.sweep-pooled.ensures.hands
    c.lay_each.ensures.hands c.lay_each-2.ensures.hands)
