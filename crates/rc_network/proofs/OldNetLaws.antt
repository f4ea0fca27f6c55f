-- Files that had a network before address families and peer groups were read still have it.
use Rattle.std.proofs.Common.{◌≡◌, ◌∙◌, ℕ, ◌==◌, Bool, true, false, cond, List, [], ◌∷◌, ◌++◌, map, length, Option, Some, None, is_some, Result, Ok, Err, IfSome, refl, sym, ap, subst}
use Rattle.std.specs.Prelude.{All, IsPermutation, nat_lt, slice_get, unwrap_or}
use Rattle.std.specs.List.{AllByRecursion, filter_map, cons_option}
use Rattle.std.specs.Option.{option_map, option_map_or, option_or}
use Rattle.std.proofs.lemmas.List.Elements.{All-from_recursion}
use Rattle.std.proofs.lemmas.List.Sorted.{All-permutation}
use Rattle.rc_config.specs.Bgp.{settled}
use Rattle.rc_config.specs.ByNumber.{with_number}
use Rattle.rc_config.specs.Named.{named}
use Rattle.rc_config.specs.Peering.{activity_address, group_of, is_active_in, member_address, no_group, no_peering, own_activity, settled_in}
use Rattle.rc_config.specs.Settings.{over}
use Rattle.rc_config.specs.Update.{settled_router}
use Rattle.rc_config.specs.declared.bgp.BgpProcess.{BgpProcess}
use Rattle.rc_config.specs.declared.bgp.Neighbor.{Neighbor}
use Rattle.rc_config.specs.declared.network.Network.{Network}
use Rattle.rc_config.specs.declared.peering.Activity.{Activity}
use Rattle.rc_config.specs.declared.peering.Group.{Group}
use Rattle.rc_config.specs.declared.peering.Peering.{Peering}
use Rattle.rc_config.specs.declared.router_text.RouterText.{RouterText}
use Rattle.rc_grammar.specs.File.{file_before, file_of}
use Rattle.rc_grammar.specs.declared.refusal.FileRefusal.{FileRefusal}
use Rattle.rc_network.specs.Build.{Model, first_refusal, first_twice, host_of, twice_refusal, under_host, undefined_in}
use Rattle.rc_network.specs.Files.{in_file, model_by, models_by, most_bytes, most_files, onto, IsNetOf, IsNetOfFew, IsNetOfModels}
use Rattle.rc_network.specs.OldFiles.{HasActiveNeighbors, HasNoGroups, HaveNoGroups, IsKept, KeepsOldFiles}
use Rattle.rc_network.specs.declared.refusal.NetRefusal.{NetRefusal}
use Rattle.rc_grammar.proofs.OldFileLaws.{file-keeps, Keeps}
use Rattle.rc_grammar.proofs.OldRowLaws.{plain, HasMarks, IsActive, IsMarked}

-- ---- models

abbrev plain_model : Model → Model
plain_model m = (m.0, plain m.1)

abbrev HaveMarks : List Model → Type 0
HaveMarks ms = AllByRecursion (λ m. HasMarks m.1.bgp) ms

record AreKept (ts : List Model) (now : Result (List Model) NetRefusal) : Type 0 where
  models : List Model
  is : now ≡ Ok models
  marks : HaveMarks models
  same : ts ≡ map plain_model models

abbrev KeepsAll : Result (List Model) NetRefusal → Result (List Model) NetRefusal → Type 0
KeepsAll (Ok ts) now = AreKept ts now
KeepsAll (Err refusal) now = Unit {0}

record IsKeptModel (t : RouterText) (now : Result RouterText NetRefusal) : Type 0 where
  text : RouterText
  is : now ≡ Ok text
  marks : HasMarks text.bgp
  same : t ≡ plain text

abbrev KeepsModel : Result RouterText NetRefusal → Result RouterText NetRefusal → Type 0
KeepsModel (Ok t) now = IsKeptModel t now
KeepsModel (Err refusal) now = Unit {0}

either-model : (b : Bool) (x y x' y' : Result RouterText NetRefusal) → KeepsModel x x' → KeepsModel y y' → KeepsModel (cond b x y) (cond b x' y')
either-model true x y x' y' p q = p
either-model false x y x' y' p q = q

in_file-keeps : (name : List ℕ) (then_ now : Result RouterText FileRefusal) → Keeps then_ now → KeepsModel (in_file name then_) (in_file name now)
in_file-keeps name (Err refusal) now h = tt
in_file-keeps name (Ok t) now h = record { text = h.text; is = ap (in_file name) h.is; marks = h.marks; same = h.same }

model-keeps : (name bytes : List ℕ) → KeepsModel (model_by file_before name bytes) (model_by file_of name bytes)
unfolding model_by
model-keeps name bytes = either-model (nat_lt most_bytes (length bytes)) _ _ _ _ tt (in_file-keeps name (file_before bytes) (file_of bytes) (file-keeps bytes))

onto-keeps : (name : List ℕ) (then_ now : Result RouterText NetRefusal) (rest later : Result (List Model) NetRefusal) → KeepsModel then_ now → KeepsAll rest later → KeepsAll (onto name then_ rest) (onto name now later)
onto-keeps name (Err refusal) now rest later h hs = tt
onto-keeps name (Ok t) now (Err refusal) later h hs = tt
onto-keeps name (Ok t) now (Ok ts) later h hs = record {
  models = (name, h.text) ∷ hs.models;
  is = (λ i. onto name (h.is i) (hs.is i));
  marks = (h.marks, hs.marks);
  same = (λ i. (name, h.same i) ∷ hs.same i);
}

models-keep : (bytes : List ℕ → List ℕ) (names : List (List ℕ)) → KeepsAll (models_by file_before bytes names) (models_by file_of bytes names)
models-keep bytes [] = record { models = []; is = refl; marks = tt; same = refl }
models-keep bytes (name ∷ names) =
    onto-keeps name (model_by file_before name (bytes name)) (model_by file_of name (bytes name)) (models_by file_before bytes names) (models_by file_of bytes names) (model-keeps name (bytes name)) (models-keep bytes names)

-- ---- routers

found-active : (a : ℕ) (xs : List Activity) → AllByRecursion IsActive xs → unwrap_or (option_map (λ (x : Activity). x.is_active) (with_number activity_address a xs)) true ≡ true
found-active a [] all = refl
found-active a (x ∷ xs) all = by (x.address == a) (found-active a xs all.1)
  where
    by : (b : Bool) → unwrap_or (option_map (λ (x : Activity). x.is_active) (with_number activity_address a xs)) true ≡ true
        → unwrap_or (option_map (λ (x : Activity). x.is_active) (cond b (Some x) (with_number activity_address a xs))) true ≡ true
    by true rest = all.0
    by false rest = rest

in-no-group : (q : Peering) → q.members ≡ [] → (a : ℕ) → group_of q a ≡ no_group
in-no-group q e a = ap (λ ms. option_map_or (λ m. unwrap_or (named q.groups m.group) no_group) (with_number member_address a ms) no_group) e

by-default : (own : Option Bool) → unwrap_or own true ≡ true → unwrap_or (option_or own None) true ≡ true
by-default None e = e
by-default (Some b) e = e

is-active : (q : Peering) → IsMarked q → (a : ℕ) → is_active_in q a ≡ true
is-active q h a =
    ap (λ (g : Group). unwrap_or (option_or (own_activity q a) g.is_active) q.is_active_by_default) (in-no-group q h.members a)
    ∙ ap (λ b. unwrap_or (option_or (own_activity q a) None) b) h.by_default
    ∙ by-default (own_activity q a) (found-active a q.activities h.active)

same-neighbor : (q : Peering) → IsMarked q → (n : Neighbor) → settled_in no_peering n ≡ settled_in q n
same-neighbor q h n = λ i. record n { settings = over n.settings (sym (in-no-group q h.members n.address) i).settings; is_active = sym (is-active q h n.address) i }

same-neighbors : (q : Peering) → IsMarked q → (ns : List Neighbor) → map (settled_in no_peering) ns ≡ map (settled_in q) ns
same-neighbors q h [] = refl
same-neighbors q h (n ∷ ns) = λ i. same-neighbor q h n i ∷ same-neighbors q h ns i

same-router : (r : RouterText) → HasMarks r.bgp → settled_router (plain r) ≡ settled_router r
same-router r h = by r.bgp h
  where
    by : (bgp : Option BgpProcess) → HasMarks bgp → settled_router (plain (record r { bgp = bgp })) ≡ settled_router (record r { bgp = bgp })
    by None h = refl
    by (Some p) h = λ i. record r { bgp = Some (record p { neighbors = same-neighbors p.peering h p.neighbors i; peering = no_peering }) }

same-entry : (m : Model) → HasMarks m.1.bgp → under_host (plain_model m) ≡ under_host m
same-entry m h = λ i. (host_of m.1, same-router m.1 h i)

same-entries : (ms : List Model) → HaveMarks ms → map under_host (map plain_model ms) ≡ map under_host ms
same-entries [] h = refl
same-entries (m ∷ ms) h = λ i. same-entry m h.0 i ∷ same-entries ms h.1 i

-- ---- refusals

same-undefined : (m : Model) → HasMarks m.1.bgp → undefined_in (plain_model m) ≡ undefined_in m
same-undefined m h = by m.1.bgp h
  where
    by : (bgp : Option BgpProcess) → HasMarks bgp → undefined_in (m.0, plain (record m.1 { bgp = bgp })) ≡ undefined_in (m.0, record m.1 { bgp = bgp })
    by None h = refl
    by (Some p) h = ap (λ groups. undefined_in (m.0, record m.1 { bgp = Some (record p { peering = record p.peering { groups = groups } }) })) (sym h.groups)

same-undefined-ones : (ms : List Model) → HaveMarks ms → filter_map undefined_in (map plain_model ms) ≡ filter_map undefined_in ms
same-undefined-ones [] h = refl
same-undefined-ones (m ∷ ms) h = λ i. cons_option (same-undefined m h.0 i) (same-undefined-ones ms h.1 i)

same-twice : (earlier : List (List ℕ × RouterText)) (ms : List Model) → HaveMarks ms → option_map twice_refusal (first_twice earlier (map plain_model ms)) ≡ option_map twice_refusal (first_twice earlier ms)
same-twice earlier [] h = refl
same-twice earlier (m ∷ ms) h = by (is_some (named earlier (host_of m.1))) (same-twice (earlier ++ under_host m ∷ []) ms h.1)
  where
    by : (b : Bool) → option_map twice_refusal (first_twice (earlier ++ under_host m ∷ []) (map plain_model ms)) ≡ option_map twice_refusal (first_twice (earlier ++ under_host m ∷ []) ms)
        → option_map twice_refusal (cond b (Some (plain_model m)) (first_twice (earlier ++ under_host (plain_model m) ∷ []) (map plain_model ms)))
        ≡ option_map twice_refusal (cond b (Some m) (first_twice (earlier ++ under_host m ∷ []) ms))
    by true rest = refl
    by false rest = ap (λ (e : List ℕ × RouterText). option_map twice_refusal (first_twice (earlier ++ e ∷ []) (map plain_model ms))) (same-entry m h.0) ∙ rest

same-refusal : (ms : List Model) → HaveMarks ms → first_refusal (map plain_model ms) ≡ first_refusal ms
same-refusal ms h = λ i. option_or (same-twice [] ms h i) (slice_get (same-undefined-ones ms h i) 0)

-- ---- networks

each-active : (q : Peering) → IsMarked q → (ns : List Neighbor) → AllByRecursion (λ (n : Neighbor). n.is_active ≡ true) (map (settled_in q) ns)
each-active q h [] = tt
each-active q h (n ∷ ns) = (is-active q h n.address, each-active q h ns)

all-active : (bgp : Option BgpProcess) → HasMarks bgp → IfSome (option_map settled bgp) (λ (p : BgpProcess). All (λ (n : Neighbor). n.is_active ≡ true) p.neighbors)
all-active None h = tt
all-active (Some p) h = All-from_recursion (λ (n : Neighbor). n.is_active ≡ true) (map (settled_in p.peering) p.neighbors) (each-active p.peering h p.neighbors)

abbrev IsActiveRouter : (List ℕ × RouterText) → Type 0
IsActiveRouter e = HasActiveNeighbors e.1

each-router : (ms : List Model) → HaveMarks ms → AllByRecursion IsActiveRouter (map under_host ms)
each-router [] h = tt
each-router (m ∷ ms) h = (all-active m.1.bgp h.0, each-router ms h.1)

models-net : (ms : List Model) (net : Network) → HaveMarks ms → IsNetOfModels (map plain_model ms) (Ok net) → IsNetOfModels ms (Ok net) × All IsActiveRouter net.routers
models-net ms net h is =
    let routers : IsPermutation (map under_host ms) net.routers = subst (λ (es : List (List ℕ × RouterText)). IsPermutation es net.routers) (same-entries ms h) is.1.same in (
      (sym (same-refusal ms h) ∙ is.0, record { same = routers; in_order = is.1.in_order; uncut = is.1.uncut }),
      All-permutation IsActiveRouter (map under_host ms) net.routers routers (All-from_recursion IsActiveRouter (map under_host ms) (each-router ms h)),
    )

no-group-in : (bgp : Option BgpProcess) → HasMarks bgp → IfSome bgp (λ (p : BgpProcess). p.peering.groups ≡ [])
no-group-in None h = tt
no-group-in (Some p) h = h.groups

no-groups-at-all : (ms : List Model) → HaveMarks ms → AllByRecursion (λ (m : Model). HasNoGroups m.1) ms
no-groups-at-all [] h = tt
no-groups-at-all (m ∷ ms) h = (no-group-in m.1.bgp h.0, no-groups-at-all ms h.1)

record IsStill (now : Result (List Model) NetRefusal) (net : Network) : Type 0 where
  same : IsNetOf now (Ok net)
  no_groups : HaveNoGroups now
  active : All IsActiveRouter net.routers

net-keeps : (then_ now : Result (List Model) NetRefusal) (net : Network) → KeepsAll then_ now → IsNetOf then_ (Ok net) → IsStill now net
net-keeps (Err refusal) now net h is = absurd (cc)
net-keeps (Ok ts) now net h is =
    let made : IsNetOfModels h.models (Ok net) × All IsActiveRouter net.routers = models-net h.models net h.marks (subst (λ (ms : List Model). IsNetOfModels ms (Ok net)) h.same is) in
    subst (λ (x : Result (List Model) NetRefusal). IsStill x net) (sym h.is)
    (record { same = made.0; no_groups = All-from_recursion (λ (m : Model). HasNoGroups m.1) h.models (no-groups-at-all h.models h.marks); active = made.1 })

pub old_files : KeepsOldFiles
old_files bytes configs net is = by (nat_lt most_files (length configs)) refl is
  where
    by : (many : Bool) → nat_lt most_files (length configs) ≡ many → IsNetOfFew many (models_by file_before bytes configs) (Ok net) → IsKept bytes configs net
    by true e is = absurd (cc)
    by false e is =
        let still = net-keeps (models_by file_before bytes configs) (models_by file_of bytes configs) net (models-keep bytes configs) is in
        record {
          same = subst (λ b. IsNetOfFew b (models_by file_of bytes configs) (Ok net)) (sym e) still.same;
          no_groups = still.no_groups;
          active = still.active;
        }
