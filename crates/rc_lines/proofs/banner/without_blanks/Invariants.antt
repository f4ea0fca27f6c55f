use Rattle.std.proofs.Common.{◌≡◌, length}
use Rattle.rc_lines.specs.Banners.{from_word}
use Rattle.rc_lines.proofs.banner.without_blanks.Given as goal

abbrev pub invariant-loop-rest : goal.invariant-loop-rest
invariant-loop-rest l = from_word l.rest ≡ from_word l.text

abbrev pub decreases-loop-rest : goal.decreases-loop-rest
decreases-loop-rest l = length l.rest
