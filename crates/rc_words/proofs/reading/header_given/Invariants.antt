use Rattle.std.proofs.Common.{◌≡◌, drop}
use Rattle.clap.specs.Words.{found_of, rows_of}
use Rattle.rc_base.specs.Fields.{fields}
use Rattle.rc_words.specs.HeaderOptions.{header_of, with_numbers}
use Rattle.rc_words.specs.Request.{field_at}
use Rattle.rc_words.proofs.reading.header_given.Given as goal

abbrev pub invariant-loop-field : goal.invariant-loop-field
invariant-loop-field l = with_numbers (field_at (rows_of (found_of l.found))) (drop l.field-index fields) l.header ≡ header_of (field_at (rows_of (found_of l.found)))
