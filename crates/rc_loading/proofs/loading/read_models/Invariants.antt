use Rattle.std.proofs.Common.{◌≡◌, ◌+◌, length}
use Rattle.std.specs.Prelude.{All, IsTrue, IsSome, IfOk, IfSome}
use Rattle.rc_outside.specs.Folder.{is_config, bytes_at}
use Rattle.rc_config.specs.Lawful.{IsLawfulFile}
use Rattle.rc_loading.proofs.ReadLaws.{IsRead}
use Rattle.rc_loading.proofs.loading.read_models.Given as goal

abbrev pub invariant-loop-name : goal.invariant-loop-name
invariant-loop-name g l = record {
  same_files : g.F.Folder.told l.folder ≡ g.F.Folder.told l.initial.folder;
  same_allowed : g.F.Folder.allows l.folder ≡ g.F.Folder.allows l.initial.folder;
  same_faults : g.F.Folder.faults l.folder ≡ g.F.Folder.faults l.initial.folder;
  so_far : IsRead (g.F.Folder.told l.initial.folder) l.dir l.fn.configs.items l.left.items l.read;
  configs : All (λ n. IsTrue (is_config n)) l.left.items;
  there : IfSome (g.F.Folder.told l.initial.folder) (λ files. All (λ n. IsSome (bytes_at l.dir n files)) l.left.items);
  lawful : IfOk l.read (λ models. All (λ m. IsLawfulFile m.1) models);
  few : IfOk l.read (λ models. length models + length l.left.items ≡ length l.fn.configs.items);
}

abbrev pub decreases-loop-name : goal.decreases-loop-name
decreases-loop-name g l = length l.left.items
