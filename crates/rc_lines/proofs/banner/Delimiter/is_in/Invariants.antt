use Rattle.std.proofs.Common.{◌≡◌, length}
use Rattle.rc_lines.specs.Banners.{holds}
use Rattle.rc_lines.proofs.banner.Delimiter.is_in.Given as goal

abbrev pub invariant-loop-rest : goal.invariant-loop-rest
invariant-loop-rest l = holds l.self l.rest ≡ holds l.self l.text

abbrev pub decreases-loop-rest : goal.decreases-loop-rest
decreases-loop-rest l = length l.rest
