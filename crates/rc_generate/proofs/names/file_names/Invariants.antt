use Rattle.std.proofs.Common.{◌≡◌, map}
use Rattle.std.specs.List.{range_with_len}
use Rattle.rc_generate.specs.Files.{file_name}
use Rattle.rc_generate.proofs.names.file_names.Given as goal

abbrev pub invariant-loop-router : goal.invariant-loop-router
invariant-loop-router l = l.names.items ≡ map file_name (range_with_len 0 l.router)
