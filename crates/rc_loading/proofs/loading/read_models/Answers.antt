use Rattle.std.proofs.Common.{◌∙◌, sym, subst, length, ◌+◌, ◌≡◌, Result, IfOk}
use Rattle.std.specs.Prelude.{All, IfSome, IsSome, IsTrue, List, Option, ℕ}
use Rattle.rc_outside.specs.Folder.{File, bytes_at, is_config}
use Rattle.rc_config.specs.Lawful.{IsLawfulFile}
use Rattle.rc_network.specs.Build.{Model}
use Rattle.rc_network.specs.declared.refusal.NetRefusal.{NetRefusal}
use Rattle.rc_loading.proofs.ReadLaws.{IsRead, one-lawful, one-longer, one-read, first-of, rest-there, rest-all, there-first}
use Rattle.rc_loading.proofs.loading.read_models.Goals as goal

pub read_model-requires-clause-config : goal.read_model-requires-clause-config
read_model-requires-clause-config g c =
    subst (λ (n : List ℕ). IsTrue (is_config n)) (sym c.as_str.ensures)
    (first-of (λ n. IsTrue (is_config n)) c.loop-name.left.items c.next_of.new.left.items c.in-Some.name c.in-Some.ensures.next c.loop-name.invariant.configs)

pub read_model-requires-clause-there : goal.read_model-requires-clause-there
read_model-requires-clause-there g c =
    let told = g.F.Folder.told c.args.folder.now in
    let dir = c.args.dir.now in
    let before = c.loop-name.invariant in
    subst (λ (t : Option (List File)). IfSome t (λ files. IsSome (bytes_at dir c.as_str.result.now files))) (sym before.same_files)
    (subst (λ (n : List ℕ). IfSome told (λ files. IsSome (bytes_at dir n files))) (sym c.as_str.ensures)
    (there-first told dir c.loop-name.left.items c.next_of.new.left.items c.in-Some.name c.in-Some.ensures.next before.there))

pub loop-name-preserved : goal.loop-name-preserved
loop-name-preserved g c =
    let told = g.F.Folder.told c.args.folder.now in
    let dir = c.args.dir.now in
    let all = c.args.configs.items in
    let left = c.loop-name.left.items in
    let rest = c.next_of.new.left.items in
    let name = c.in-Some.name in
    let read = c.loop-name.read in
    let said = c.in-Ok.said in
    let before = c.loop-name.invariant in
    let is = c.in-Some.ensures.next in
    let says = rw (before.same_files, c.as_str.ensures) at c.in-Ok.ensures.model in
    let same = sym c.in-Ok-with_model.ensures.read in
    record {
      same_files = c.in-Ok.ensures.same_files ∙ before.same_files;
      same_allowed = c.in-Ok.ensures.same_allowed ∙ before.same_allowed;
      same_faults = c.in-Ok.ensures.cause.left (λ e. cc) ∙ before.same_faults;
      so_far = subst (IsRead told dir all rest) same (one-read told dir all left rest name read said is before.there says before.so_far);
      configs = rest-all (λ n. IsTrue (is_config n)) left rest name is before.configs;
      there = rest-there told dir left rest name is before.there;
      lawful = subst (λ (r : Result (List Model) NetRefusal). IfOk r (λ models. All (λ (m : Model). IsLawfulFile m.1) models)) same (one-lawful name read said before.lawful c.in-Ok.ensures.lawful);
      few = subst (λ (r : Result (List Model) NetRefusal). IfOk r (λ models. length models + length rest ≡ length all)) same (one-longer all left rest name read said is before.few);
    }
