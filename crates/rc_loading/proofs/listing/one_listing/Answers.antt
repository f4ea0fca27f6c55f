use Rattle.rc_base.proofs.SortedLaws.{one_sorted_list}
use Rattle.rc_outside.specs.Folder.{names_in}
use Rattle.rc_loading.proofs.listing.one_listing.Goals as goal

pub returns : goal.returns
returns c dir files these those a b = one_sorted_list (names_in dir files) these those a.same a.sorted b.same b.sorted
