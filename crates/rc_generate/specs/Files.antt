-- The files of the made network.
use Rattle.std.specs.Prelude.{ℕ, ◌+◌, ◌/◌, ◌%◌, List, [], ◌++◌, map, codes, decimal, if◌then◌else◌}
use Rattle.std.specs.List.{range_with_len}
use Rattle.std.specs.Option.{option_map_or}
use Rattle.rc_base.specs.Addr.{dotted}
use Rattle.rc_outside.specs.Folder.{File}
use Rattle.rc_generate.specs.Ring.{ring_network, lan_network, before, chord_address, filters}

-- the three digits of a number below 1000
abbrev pub three_digits : ℕ → List ℕ
three_digits i = decimal (i / 100) ++ decimal (i / 10 % 10) ++ decimal (i % 10)

-- an interface of a link between two routers
unfoldable pub link : ℕ → ℕ → List ℕ
link number address = codes "interface GigabitEthernet0/" ++ decimal number ++ codes "\n ip address " ++ dotted address ++ codes " 255.255.255.252\n"

-- the interface of a LAN
unfoldable pub lan : ℕ → List ℕ
lan address = codes "interface GigabitEthernet0/3\n ip address " ++ dotted address ++ codes " 255.255.255.0\n"

unfoldable pub access_group : List ℕ
access_group = codes " ip access-group 101 out\n"

unfoldable pub ospf : List ℕ
ospf = codes "router ospf 1\n passive-interface GigabitEthernet0/3\n network 0.0.0.0 255.255.255.255 area 0\n"

unfoldable pub access_list : List ℕ
access_list = codes "access-list 101 deny tcp any any eq telnet\naccess-list 101 permit ip any any\n"

unfoldable pub head : ℕ → List ℕ
head i = codes "hostname r" ++ three_digits i ++ codes "\n"

-- the interfaces of router i of n to others: to the next one in the ring, to the one before, and over the chord, if it has one
abbrev pub links : ℕ → ℕ → List ℕ
links n i = link 0 (ring_network i + 1) ++ link 1 (ring_network (before n i) + 2) ++ option_map_or (link 2) (chord_address n i) []

-- its other lines
abbrev pub rest : ℕ → List ℕ
rest i = lan (lan_network i + 1) ++ (if filters i then access_group else []) ++ ospf ++ (if filters i then access_list else [])

-- the configuration of router i of n
unfoldable pub configuration : ℕ → ℕ → List ℕ
configuration n i = head i ++ links n i ++ rest i

unfoldable pub file_name : ℕ → List ℕ
file_name i = codes "r" ++ three_digits i ++ codes ".cfg"

-- the file of router i of n stands under the empty folder text
abbrev pub file_of : ℕ → ℕ → File
file_of n i = record { folder = []; name = file_name i; bytes = configuration n i }

-- the files of the made network of n routers
abbrev pub files : ℕ → List File
files n = map (file_of n) (range_with_len 0 n)
