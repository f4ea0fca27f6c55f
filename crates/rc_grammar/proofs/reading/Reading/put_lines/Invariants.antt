use Rattle.std.proofs.Common.{◌≡◌, length, Ok}
use Rattle.rc_lines.specs.Lines.{lines_of}
use Rattle.rc_grammar.specs.File.{with_lines, IsFit}
use Rattle.rc_grammar.specs.Grammars.{says}
use Rattle.rc_grammar.proofs.reading.Reading.put_lines.Given as goal

-- what is left gives the same answer
abbrev pub invariant-loop-line : goal.invariant-loop-line
invariant-loop-line l = record {
  same : with_lines says (Ok l.self) l.lines ≡ with_lines says (Ok l.fn.self) (lines_of l.bytes);
  fit : IsFit l.self.file;
}

abbrev pub decreases-loop-line : goal.decreases-loop-line
decreases-loop-line l = length l.lines
