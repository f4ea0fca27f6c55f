use Rattle.std.proofs.Common.{refl}
use Rattle.rc_openings.specs.Groups.{letters}
use Rattle.rc_openings.specs.Words.{words_of}
use Rattle.rc_openings.specs.AccessListOpenings.{access_list, access_list_forms, access_list_refused, access_list_ignored}
use Rattle.rc_openings.proofs.access_list.access_list_table.Goals as goal

pub returns : goal.returns
unfolding access_list access_list_forms access_list_refused access_list_ignored words_of letters
returns c = record {
  ones = refl;
  one_word = record { openings = refl; starts = refl; placed = refl };
  starred = record { index = record { openings = refl; starts = refl; placed = refl }; fronts = refl };
  more_words = record { index = record { openings = refl; starts = refl; placed = refl }; fronts = refl };
  three = refl;
}
