-- Community lists (IOS `ip community-list`): their lines in file order.
use Rattle.std.specs.Prelude.{[], ◌∷◌, ◌++◌}
use Rattle.rc_config.specs.declared.community_list.CommunityLine.{CommunityLine}
use Rattle.rc_config.specs.declared.community_list.CommunityList.{CommunityList}

-- a list without lines
abbrev pub no_lines : CommunityList
no_lines = record { lines = [] }

-- the list with one more line behind the others
abbrev pub with_line : CommunityList → CommunityLine → CommunityList
with_line c l = record { lines = c.lines ++ l ∷ [] }
