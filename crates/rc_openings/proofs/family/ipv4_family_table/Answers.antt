use Rattle.std.proofs.Common.{refl}
use Rattle.rc_openings.specs.Groups.{letters}
use Rattle.rc_openings.specs.Words.{words_of}
use Rattle.rc_openings.specs.BgpOpenings.{bgp, bgp_forms, bgp_refused, bgp_ignored}
use Rattle.rc_openings.specs.FamilyOpenings.{ipv4_family}
use Rattle.rc_openings.proofs.family.ipv4_family_table.Goals as goal

pub returns : goal.returns
unfolding ipv4_family bgp bgp_forms bgp_refused bgp_ignored words_of letters
returns c = record {
  ones = refl;
  one_word = record { openings = refl; starts = refl; placed = refl };
  starred = record { index = record { openings = refl; starts = refl; placed = refl }; fronts = refl };
  more_words = record { index = record { openings = refl; starts = refl; placed = refl }; fronts = refl };
  three = refl;
}
