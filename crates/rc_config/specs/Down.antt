-- Which interfaces are down, and the prefixes of those that are up, from the interfaces of a file.
use Rattle.std.specs.Prelude.{◌≡◌, ℕ, suc, zero, ◌+◌, ◌==◌, Bool, true, false, ◌&&◌, ◌||◌, if◌then◌else◌, List, [], ◌∷◌, ◌++◌, map, length, Option, Some, None, nat_lt}
use Rattle.std.specs.List.{list_all}
use Rattle.std.specs.Char.{is_ascii_digit}
use Rattle.std.specs.Option.{option_map_or, option_and_then}
use Rattle.rc_base.specs.Name.{is_name, name_of}
use Rattle.rc_base.specs.Prefix.{Cidr, prefix_at}
use Rattle.rc_config.specs.declared.interface.IfAddr.{IfAddr}
use Rattle.rc_config.specs.declared.interface.Interface.{Interface}
use Rattle.rc_config.specs.Interface.{declared_addresses}
use Rattle.rc_config.specs.Named.{named}

-- the names of interfaces and what their blocks say, in the order of declaration
abbrev pub Entries : Type 0
Entries = List (List ℕ × Interface)

-- one or more digits
abbrev pub is_number : List ℕ → Bool
is_number text = nat_lt 0 (length text) && list_all is_ascii_digit text

-- a subinterface is named as its parent, with a point and a number behind it
pub record IsSubinterface (name parent : List ℕ) : Type 0 where
  pub number : List ℕ
  pub digits : is_number number ≡ true
  pub behind : name ≡ parent ++ 46 ∷ number
  pub named : is_name parent ≡ true

-- the interface of a name is down: it is declared, and it is shut, or it is a subinterface of one that is down
pub data IsDown (entries : Entries) : List ℕ → Type 0 where
  shut : {name : List ℕ} {block : Interface} → named entries name ≡ Some block → block.shutdown ≡ true → IsDown entries name
  below : {name parent : List ℕ} {block : Interface} → named entries name ≡ Some block → IsSubinterface name parent → IsDown entries parent → IsDown entries name

-- the front and what stands before the point behind which there is nothing but a number; only the last point can be such a one
abbrev pub before_number : List ℕ → List ℕ → Option (List ℕ)
before_number front [] = None
before_number front (b ∷ rest) = if (b == 46) && is_number rest then Some front else before_number (front ++ b ∷ []) rest

-- the one parent of a name, where it is that of a subinterface (`one_parent`)
abbrev pub parent_of : List ℕ → Option (List ℕ)
parent_of name = option_and_then name_of (before_number [] name)

-- whether the interface of a name is down, where its name and those above it are at most so many
abbrev pub is_down_within : ℕ → Entries → List ℕ → Bool
is_down_within zero entries name = false
is_down_within (suc names) entries name =
    option_map_or (λ (i : Interface). i.shutdown || option_map_or (is_down_within names entries) (parent_of name) false) (named entries name) false

-- whether the interface of a name is down (`down_decides`): a parent's name is shorter, so there are no more names above one than it has bytes
abbrev pub is_down : Entries → List ℕ → Bool
is_down entries name = is_down_within (length name + 1) entries name

-- the prefix that an address makes connected
abbrev pub prefix_of : IfAddr → Cidr
prefix_of a = prefix_at a.addr a.len

-- the prefixes of an interface: those of its addresses while it is up
abbrev pub prefixes_of : Entries → List ℕ × Interface → List Cidr
prefixes_of entries e = if is_down entries e.0 then [] else map prefix_of (declared_addresses e.1)
