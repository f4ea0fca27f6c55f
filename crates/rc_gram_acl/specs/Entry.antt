-- What a line of an access list tests, by its words behind `permit` or `deny`.
use Rattle.std.specs.Prelude.{ℕ, List, Option, Some, None, Result, Ok, Err, if◌then◌else◌}
use Rattle.rc_openings.specs.declared.reading.LineRefusal.{LineRefusal}
use Rattle.rc_openings.specs.declared.reading.LineRefusal.TheVariants.{Unsupported, BadValue}
use Rattle.rc_config.specs.declared.access_list.AccessListKind.{AccessListKind}
use Rattle.rc_config.specs.declared.access_list.AccessListKind.TheVariants.{Standard, Extended}
use Rattle.rc_gram_acl.specs.declared.lines.LineTests.{LineTests}
use Rattle.rc_gram_acl.specs.Lines.{standard, extended}
use Rattle.rc_gram_acl.specs.Refused.{has_refused_place}

abbrev pub Entry : Type 0
Entry = Result LineTests LineRefusal

-- the tests of a line that fits
abbrev pub fit : LineRefusal → Option LineTests → Entry
fit refusal (Some tests) = Ok tests
fit refusal None = Err refusal

-- why an extended line that fits no row is refused
abbrev pub refusal_of : List (List ℕ) → LineRefusal
refusal_of words = if has_refused_place words then Unsupported else BadValue

-- what a line of a list of this kind tests; standard lists have no words of protocols and ports
abbrev pub entry : AccessListKind → List (List ℕ) → Entry
entry Standard words = fit BadValue (standard words)
entry Extended words = fit (refusal_of words) (extended words)
