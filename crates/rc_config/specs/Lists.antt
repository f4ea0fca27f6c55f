-- The access lists, prefix lists and community lists of a router: what a line adds to them.
use Rattle.std.specs.Prelude.{◌≡◌, ℕ, false, List, [], unwrap_or}
use Rattle.rc_config.specs.CommunityList.{no_lines as no_community_lines, with_line as community_list_with}
use Rattle.rc_config.specs.AccessList.{no_lines as no_access_list_lines, with_line as access_list_with, has_sequence, IsLawfulLine}
use Rattle.rc_config.specs.Named.{named, with_value}
use Rattle.rc_config.specs.PrefixList.{no_lines as no_prefix_lines, with_line as prefix_list_with, IsLawfulLine as IsLawfulPrefixLine}
use Rattle.rc_config.specs.declared.community_list.CommunityLine.{CommunityLine as CommunityRow}
use Rattle.rc_config.specs.declared.community_list.CommunityList.{CommunityList}
use Rattle.rc_config.specs.declared.access_list.AccessList.{AccessList}
use Rattle.rc_config.specs.declared.access_list.AccessListKind.{AccessListKind}
use Rattle.rc_config.specs.declared.access_list.AccessListLine.{AccessListLine as AccessListRow}
use Rattle.rc_config.specs.declared.lists.ListLine.{ListLine}
use Rattle.rc_config.specs.declared.lists.ListLine.TheVariants.{AccessListOpened, AccessListLine, PrefixLine, CommunityLine}
use Rattle.rc_config.specs.declared.lists.Lists.{Lists}
use Rattle.rc_config.specs.declared.prefix_list.PrefixLine.{PrefixLine as PrefixRow}
use Rattle.rc_config.specs.declared.prefix_list.PrefixList.{PrefixList}

-- no list of any kind
abbrev pub no_lists : Lists
no_lists = record { access_lists = []; prefix_lists = []; community_lists = [] }

-- the access list of a name, one of this kind without lines where there is none
abbrev pub access_list_named : Lists → List ℕ → AccessListKind → AccessList
access_list_named l name kind = unwrap_or (named l.access_lists name) (no_access_list_lines kind)

-- the lists with this access list under a name, which keeps its index or goes last
abbrev pub with_access_list : Lists → List ℕ → AccessList → Lists
with_access_list l name f = record l { access_lists = with_value l.access_lists name f }

-- an access list that is there keeps its lines where it is opened again
abbrev pub with_access_list_opened : Lists → List ℕ → AccessListKind → Lists
with_access_list_opened l name kind = with_access_list l name (access_list_named l name kind)

-- a line of an access list stands by its number
abbrev pub with_access_list_line : Lists → List ℕ → AccessListKind → AccessListRow → Lists
with_access_list_line l name kind line = with_access_list l name (access_list_with (access_list_named l name kind) line)

-- the prefix list of a name, one without lines where there is none
abbrev pub prefix_list_named : Lists → List ℕ → PrefixList
prefix_list_named l name = unwrap_or (named l.prefix_lists name) no_prefix_lines

-- a line of a prefix list stands by its number
abbrev pub with_prefix_line : Lists → List ℕ → PrefixRow → Lists
with_prefix_line l name line = record l { prefix_lists = with_value l.prefix_lists name (prefix_list_with (prefix_list_named l name) line) }

-- the community list of a name, one without lines where there is none
abbrev pub community_list_named : Lists → List ℕ → CommunityList
community_list_named l name = unwrap_or (named l.community_lists name) no_community_lines

-- a line of a community list goes behind the others
abbrev pub with_community_line : Lists → List ℕ → CommunityRow → Lists
with_community_line l name line =
    record l { community_lists = with_value l.community_lists name (community_list_with (community_list_named l name) line) }

-- The lists with one more line of that of a name. One that is opened again keeps its lines, and one that an interface or a route map names isn't
-- there by that.
abbrev pub with_line : Lists → List ℕ → ListLine → Lists
with_line l name (AccessListOpened kind) = with_access_list_opened l name kind
with_line l name (AccessListLine kind line) = with_access_list_line l name kind line
with_line l name (PrefixLine line) = with_prefix_line l name line
with_line l name (CommunityLine line) = with_community_line l name line

-- a line that keeps lists lawful: one of an access list is one of a list of its kind, and values are in range
abbrev pub IsLawfulListLine : ListLine → Type 0
IsLawfulListLine (AccessListOpened kind) = Unit {0}
IsLawfulListLine (AccessListLine kind line) = IsLawfulLine kind line
IsLawfulListLine (PrefixLine line) = IsLawfulPrefixLine line
IsLawfulListLine (CommunityLine line) = Unit {0}

-- A line that the lists have room for: the access list that it opens or adds a line to is of the kind that it says, where it is there, and none
-- of its lines has the number of the new one.
abbrev pub FitsLists : Lists → List ℕ → ListLine → Type 0
FitsLists l name (AccessListOpened kind) = (access_list_named l name kind).kind ≡ kind
FitsLists l name (AccessListLine kind line) = ((access_list_named l name kind).kind ≡ kind) × (has_sequence (access_list_named l name kind).lines line.sequence ≡ false)
FitsLists l name (PrefixLine line) = Unit {0}
FitsLists l name (CommunityLine line) = Unit {0}
