-- The parts of a line, as text.
use Rattle.std.specs.Prelude.{ℕ, List, decimal}
use Rattle.rc_base.specs.Addr.{dotted}
use Rattle.rc_base.specs.Prefix.{prefix_text}
use Rattle.rc_report.specs.declared.part.Part.{Part}
use Rattle.rc_report.specs.declared.part.Part.TheVariants as part

-- a part of a line: bytes as they are, a number in decimal, an address dotted, a prefix as address, slash and length
abbrev pub part_text : Part → List ℕ
part_text (part.Text text) = text.now
part_text (part.Number n) = decimal n
part_text (part.Address a) = dotted a
part_text (part.Prefix p) = prefix_text p
