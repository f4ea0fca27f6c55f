-- Prefix lists (IOS `ip prefix-list`): their lines in order.
use Rattle.std.specs.Prelude.{ℕ, ◌<◌, ◌≤◌, Bool, List, [], All, Option, IfSome}
use Rattle.rc_config.specs.ByNumber.{has_number, last_number, placed, IsByNumber}
use Rattle.rc_config.specs.declared.prefix_list.PrefixLine.{PrefixLine}
use Rattle.rc_config.specs.declared.prefix_list.PrefixList.{PrefixList}

-- the number by which a line stands
abbrev pub sequence_of : PrefixLine → ℕ
sequence_of l = l.sequence

-- a list without lines
abbrev pub no_lines : PrefixList
no_lines = record { lines = [] }

-- the list with one more line by its number, where it replaces the line of that number
abbrev pub with_line : PrefixList → PrefixLine → PrefixList
with_line p l = record { lines = placed sequence_of l p.lines }

-- a line of the list has this number
abbrev pub has_sequence : List PrefixLine → ℕ → Bool
has_sequence lines n = has_number sequence_of n lines

-- the number of the last line
abbrev pub greatest_sequence : List PrefixLine → Option ℕ
greatest_sequence lines = last_number sequence_of lines

-- lines stand by rising sequence number: each number is lower than all later ones
abbrev pub AreLinesInOrder : List PrefixLine → Type 0
AreLinesInOrder lines = IsByNumber sequence_of lines

-- a bound of a line for prefixes of this length
abbrev pub IsBound : ℕ → ℕ → Type 0
IsBound len bound = (len < bound) × (bound ≤ 32)

-- both bounds are over the length of the line's prefix, at most 32, and the lower isn't above the upper
pub record IsLawfulLine (l : PrefixLine) : Type 0 where
  pub lower : IfSome l.ge (IsBound l.prefix.len)
  pub upper : IfSome l.le (IsBound l.prefix.len)
  pub in_turn : IfSome l.ge (λ g. IfSome l.le (λ e. g ≤ e))

-- lines in order, each lawful
pub record IsLawfulList (p : PrefixList) : Type 0 where
  pub in_order : AreLinesInOrder p.lines
  pub lines : All IsLawfulLine p.lines
