use Rattle.std.proofs.Common.{rules, ◌≡◌}
use Rattle.std.specs.Prelude.{Some, None}
use Rattle.clap.specs.Words.{subcommand_rows_of, found_of, rows_of}
use Rattle.rc_words.specs.Request.{limits_at}
use Rattle.rc_words.proofs.Parts.{no_limits}
use Rattle.rc_words.proofs.reading.request_given.Goals as goal

pub returns-in_default-limits_given-clause-usage : goal.returns-in_default-limits_given-clause-usage
returns-in_default-limits_given-clause-usage c =
    let is : subcommand_rows_of c.args.matches.now ≡ Some (c.in-Some.name.now, rows_of (found_of c.in-Some.found.now)) = search rules in
    let none : limits_at (rows_of (found_of c.in-Some.found.now)) ≡ None = search rules in
    λ _. no_limits _ _ _ is none
