-- Which access lists have numbers (IOS).
use Rattle.std.specs.Prelude.{ℕ, Bool, ◌&&◌, ◌||◌, nat_le, Option, Some, None, if◌then◌else◌}
use Rattle.rc_config.specs.declared.access_list.AccessListKind.{AccessListKind}
use Rattle.rc_config.specs.declared.access_list.AccessListKind.TheVariants.{Standard, Extended}

abbrev pub is_within : ℕ → ℕ → ℕ → Bool
is_within low high n = nat_le low n && nat_le n high

-- 1 to 99 and 1300 to 1999 are standard lists, 100 to 199 and 2000 to 2699 extended ones; other numbers are no lists
abbrev pub kind_of_number : ℕ → Option AccessListKind
kind_of_number n =
    if is_within 1 99 n || is_within 1300 1999 n then Some Standard
    else (if is_within 100 199 n || is_within 2000 2699 n then Some Extended else None)
