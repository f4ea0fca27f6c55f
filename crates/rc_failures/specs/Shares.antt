-- What workers make of pairs by their numbers.
use Rattle.std.specs.Prelude.{ℕ, List, length, slice_index_or}
use Rattle.rc_config.specs.declared.network.Network.{Network}
use Rattle.rc_config.specs.declared.network.Pair.{Pair}
use Rattle.rc_outside.specs.Shares.{share_start}
use Rattle.rc_report.specs.declared.failures.FailRow.{FailRow}
use Rattle.rc_shares.specs.Stretches.{IsStretch}
use Rattle.rc_failures.specs.Failures.{IsFailRow}
use Rattle.rc_failures.specs.declared.packet.Packet.{Packet}

-- the row of the pair of a number
unfoldable pub IsRowAt : Network → ℕ → Packet → List Pair → ℕ → FailRow → Type 0
IsRowAt net limit packet pairs number row = (d : Pair) → IsFailRow net limit packet.place packet.header packet.ends (slice_index_or pairs number d) row

-- the rows of the workers from one number up to another
abbrev pub AreRowsOf : Network → ℕ → Packet → List Pair → ℕ → ℕ → ℕ → List FailRow → Type 0
AreRowsOf net limit packet pairs workers first last rows = IsStretch (IsRowAt net limit packet pairs) (share_start (length pairs) workers first) (share_start (length pairs) workers last) rows
