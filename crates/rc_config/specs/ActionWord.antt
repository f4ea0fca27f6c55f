-- The words with which lines of lists say what becomes of what they match (IOS).
use Rattle.std.specs.Prelude.{ℕ, List, Option, Some, None, if◌then◌else◌, codes}
use Rattle.std.specs.Str.{bytes_eq}
use Rattle.rc_config.specs.declared.access_list.Action.{Action}
use Rattle.rc_config.specs.declared.access_list.Action.TheVariants.{Permit, Deny}

-- the action that a word is: `permit` or `deny`
abbrev pub action_of : List ℕ → Option Action
action_of w = if bytes_eq w (codes "permit") then Some Permit else (if bytes_eq w (codes "deny") then Some Deny else None)
