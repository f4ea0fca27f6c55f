-- Interfaces as configurations give them, and the lines that keep them so.
use Rattle.std.specs.Prelude.{◌≡◌, ℕ, ◌≤◌, List, [], All, IsSome, IfSome}
use Rattle.rc_config.specs.IfType.{type_of}
use Rattle.rc_config.specs.Interface.{declared_addresses}
use Rattle.rc_config.specs.MaskedAddr.{IsMaskLen}
use Rattle.rc_config.specs.Ospf.{IsLawfulOspf, IsLawfulSetting}
use Rattle.rc_config.specs.declared.interface.IfAddr.{IfAddr}
use Rattle.rc_config.specs.declared.interface.Interface.{Interface}
use Rattle.rc_config.specs.declared.interface.InterfaceLine.{InterfaceLine}
use Rattle.rc_config.specs.declared.interface.InterfaceLine.TheVariants.{Address, Shutdown, Bandwidth, AccessGroup, Ospf}

-- from 1 to 10,000,000 kbit/s
abbrev pub IsBandwidth : ℕ → Type 0
IsBandwidth kbits = (1 ≤ kbits) × (kbits ≤ 10000000)

-- only an interface of a named type has addresses, and its values are in range
pub record IsLawfulInterface (name : List ℕ) (i : Interface) : Type 0 where
  pub has_type : ¬ (declared_addresses i ≡ []) → IsSome (type_of name)
  pub masks : All (λ (a : IfAddr). IsMaskLen a.len) (declared_addresses i)
  pub bandwidth : IfSome i.bandwidth IsBandwidth
  pub ospf : IsLawfulOspf i.ospf

-- a line that keeps the interface of a name lawful: an address goes to one of a named type, and values are in range
abbrev pub IsLawfulInterfaceLine : List ℕ → InterfaceLine → Type 0
IsLawfulInterfaceLine name (Address a secondary) = IsSome (type_of name) × IsMaskLen a.len
IsLawfulInterfaceLine name (Shutdown down) = Unit {0}
IsLawfulInterfaceLine name (Bandwidth kbits) = IsBandwidth kbits
IsLawfulInterfaceLine name (AccessGroup list direction) = Unit {0}
IsLawfulInterfaceLine name (Ospf setting) = IsLawfulSetting setting
