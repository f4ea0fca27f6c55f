use Rattle.std.proofs.Common.{refl}
use Rattle.rc_openings.specs.Groups.{letters}
use Rattle.rc_openings.specs.Words.{words_of}
use Rattle.rc_openings.specs.InterfaceOpenings.{interface, interface_forms, interface_refused, interface_ignored}
use Rattle.rc_openings.proofs.interface.interface_table.Goals as goal

pub returns : goal.returns
unfolding interface interface_forms interface_refused interface_ignored words_of letters
returns c = record {
  ones = refl;
  one_word = record { openings = refl; starts = refl; placed = refl };
  starred = record { index = record { openings = refl; starts = refl; placed = refl }; fronts = refl };
  more_words = record { index = record { openings = refl; starts = refl; placed = refl }; fronts = refl };
  three = refl;
}
