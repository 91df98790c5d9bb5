-- What was written of a text, by how that ended.
use Rattle.std.specs.Prelude.{◌≡◌, ℕ, List, Option, Some, None}
use Rattle.gev_links.specs.Told.{Appends, WritesPart}
use Rattle.camera_search.specs.declared.search_end.SearchEnd.{SearchEnd}
use Rattle.camera_search.specs.declared.search_end.SearchEnd.TheVariants.{Done, LinkFault, WriteFault, NoMemory}

abbrev pub WroteText : Option SearchEnd → List ℕ → Option (List ℕ) → Option (List ℕ) → Type 0
WroteText None text written written_after = Appends written written_after text
WroteText (Some WriteFault) text written written_after = WritesPart written written_after text
WroteText (Some NoMemory) text written written_after = written_after ≡ written
WroteText (Some Done) text written written_after = ⊥
WroteText (Some LinkFault) text written written_after = ⊥

-- the same, where the text is that of the last line
abbrev pub WroteLast : SearchEnd → List ℕ → Option (List ℕ) → Option (List ℕ) → Type 0
WroteLast Done text written written_after = Appends written written_after text
WroteLast WriteFault text written written_after = WritesPart written written_after text
WroteLast NoMemory text written written_after = written_after ≡ written
WroteLast LinkFault text written written_after = ⊥
