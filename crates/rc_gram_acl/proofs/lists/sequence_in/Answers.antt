use Rattle.std.proofs.Common.{Option, sym, subst}
use Rattle.std.specs.Prelude.{IfSome}
use Rattle.std.proofs.lemmas.Map.Entries.{All-lookup}
use Rattle.rc_base.specs.Name.{same_name}
use Rattle.rc_config.specs.AccessList.{IsLawfulAccessList}
use Rattle.rc_config.specs.declared.access_list.AccessList.{AccessList}
use Rattle.rc_gram_acl.proofs.ListRoom.{room}
use Rattle.rc_gram_acl.proofs.lists.sequence_in.Goals as goal

pub sequence_by-requires : goal.sequence_by-requires
sequence_by-requires c = subst (λ (o : Option AccessList). IfSome o IsLawfulAccessList) (sym c.get.ensures) (All-lookup IsLawfulAccessList (same_name c.args.list.now) c.args.file.now.lists.access_lists c.requires.access_lists)

pub returns-clause-room : goal.returns-clause-room
returns-clause-room c = room c.args.file.now c.args.list.now c.args.kind c.args.written c.sequence_by.result (rw c.get.ensures at c.sequence_by.ensures.value)
