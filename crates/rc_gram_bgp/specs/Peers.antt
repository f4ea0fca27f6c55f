-- Whom a line is about: a neighbour (RFC 4271) or a peer group; which groups there are, whose members neighbours are, and who is active.
use Rattle.std.specs.Prelude.{ℕ, Bool, List, [], ◌∷◌, Option, Some, None}
use Rattle.std.specs.Option.{option_and_then, option_map, option_map_or, option_or}
use Rattle.rc_base.specs.Name.{name_of}
use Rattle.rc_config.specs.Named.{named}
use Rattle.rc_config.specs.declared.bgp.BgpLine.{BgpLine}
use Rattle.rc_config.specs.declared.bgp.BgpLine.TheVariants.{Active, GroupDeclared, InactiveByDefault, MemberOf}
use Rattle.rc_config.specs.declared.bgp.BgpProcess.{BgpProcess}
use Rattle.rc_config.specs.declared.peering.Group.{Group}
use Rattle.rc_config.specs.declared.peering.Peer.{Peer}
use Rattle.rc_config.specs.declared.peering.Peer.TheVariants as peer
use Rattle.rc_config.specs.declared.router_text.RouterText.{RouterText}
use Rattle.rc_openings.specs.Values.{address_of, interface_of}

-- peer groups by their names
abbrev pub Groups : Type 0
Groups = List (List ℕ × Group)

-- the peer groups that a file has declared so far
abbrev pub groups_of : RouterText → Groups
groups_of file = option_map_or (λ (p : BgpProcess). p.peering.groups) file.bgp []

-- the name of a peer group that a word is, where the group was declared
abbrev pub declared_group : Groups → List ℕ → Option (List ℕ)
declared_group groups word = option_and_then (λ name. option_map (λ (g : Group). name) (named groups name)) (name_of word)

-- whom a word names: a neighbour by its address, or a peer group that was declared
abbrev pub peer_of : Groups → List ℕ → Option Peer
peer_of groups word = option_or (option_map peer.Address (address_of word)) (option_map peer.Group (declared_group groups word))

-- whom `neighbor A ..` or `neighbor NAME ..` is about, by all words of the line
abbrev pub whom_of : Groups → List (List ℕ) → Option Peer
whom_of groups (w ∷ x ∷ ws) = peer_of groups x
whom_of groups _ = None

-- whom `no neighbor A ..` or `no neighbor NAME ..` is about
abbrev pub unsaid_of : Groups → List (List ℕ) → Option Peer
unsaid_of groups [] = None
unsaid_of groups (w ∷ line) = whom_of groups line

-- `neighbor A activate`, or `no neighbor A activate`: the opening is the whole line
abbrev pub activity : Bool → Option Peer → List (List ℕ) → Option BgpLine
activity is_active (Some whom) [] = Some (Active whom is_active)
activity is_active _ _ = None

-- `neighbor NAME peer-group`, by all words of the line: NAME begins with a letter, as the name of an interface does
abbrev pub declaration : List (List ℕ) → Option BgpLine
declaration (w ∷ name ∷ ws) = option_map GroupDeclared (interface_of name)
declaration _ = None

abbrev pub member_line : Option ℕ → Option (List ℕ) → Option BgpLine
member_line (Some address) (Some group) = Some (MemberOf address group)
member_line _ _ = None

-- `neighbor A peer-group NAME`, by all words of the line and the last one: the group was declared before
abbrev pub membership : Groups → List (List ℕ) → List ℕ → Option BgpLine
membership groups (w ∷ a ∷ ws) name = member_line (address_of a) (declared_group groups name)
membership groups _ name = None

-- the two, by all words of the line and those behind the opening
abbrev pub peer_group : Groups → List (List ℕ) → List (List ℕ) → Option BgpLine
peer_group groups line [] = declaration line
peer_group groups line (name ∷ []) = membership groups line name
peer_group groups line _ = None

-- `no bgp default ipv4-unicast`
abbrev pub inactive_by_default : List (List ℕ) → Option BgpLine
inactive_by_default [] = Some InactiveByDefault
inactive_by_default _ = None
