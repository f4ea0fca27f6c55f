-- Models that are gathered one by one.
use Rattle.std.proofs.Common.{◌≡◌, ℕ, ◌≤◌, false, List, [], ◌∷◌, ◌++◌, map, length, Option, Some, None, is_some, Result, Ok, Err, IfErr, IfOk, OnOk, IsSome, refl, sym, ap, ◌∙◌, subst, append_assoc, append-nil, arith, true}
use Rattle.std.specs.Option.{option_map, option_map_or, option_or}
use Rattle.std.specs.Prelude.{All, IsPermutation, slice_get}
use Rattle.std.specs.List.{cons_option, filter_map, AllByRecursion}
use Rattle.std.proofs.lemmas.List.{length-map, map-append}
use Rattle.std.proofs.lemmas.List.Elements.{All-from_recursion, recursion_from_All}
use Rattle.std.proofs.lemmas.List.Sorted.{All-permutation, length_permutation}
use Rattle.rc_config.specs.Named.{named, with_value}
use Rattle.rc_config.proofs.NamedLaws.{with_value_new}
use Rattle.rc_commands.proofs.SettleLaws.{settled_lawful}
use Rattle.rc_config.specs.Lawful.{IsLawful, IsLawfulFile, IsNamed}
use Rattle.rc_config.specs.Update.{settled_router}
use Rattle.rc_config.specs.declared.router_text.HostLine.{HostLine}
use Rattle.rc_config.specs.declared.router_text.RouterText.{RouterText}
use Rattle.rc_network.specs.Build.{Model, HasRouters, first_refusal, first_undefined, host_line, host_of, twice, twice_from, twice_refusal, under_host, undefined_in, IsBuilt}
use Rattle.rc_network.specs.Step.{gathered_of, Adds, GathersAll, IsFinished}
use Rattle.rc_network.specs.declared.building.Gathered.{Gathered}
use Rattle.rc_network.specs.declared.refusal.BuildError.{BuildError}
use Rattle.rc_network.specs.declared.refusal.BuildError.TheVariants as error
use Rattle.rc_network.specs.declared.refusal.NetCause.TheVariants.{TwiceNamed}
use Rattle.rc_network.specs.declared.refusal.NetRefusal.{NetRefusal}
use Rattle.rc_network.specs.declared.refusal.NetRefusal.TheVariants.{InFile}
use Rattle.rc_config.specs.declared.network.Network.{Network}

abbrev Routers : Type 0
Routers = List (List ℕ × RouterText)

-- these models are left, of all, and those before them are gathered
pub record AreLeft (all left : List Model) (g : Gathered) : Type 0 where
  pub before : List Model
  pub split : before ++ left ≡ all
  pub same : twice_from (map under_host before) left ≡ twice all
  pub made : g ≡ gathered_of before

pub left-all : (all : List Model) → AreLeft all all (gathered_of [])
left-all all = record { before = []; split = refl; same = refl; made = refl }

step-new : (routers : Routers) (m : Model) (rest : List Model) → named routers (host_of m.1) ≡ None → twice_from routers (m ∷ rest) ≡ twice_from (routers ++ under_host m ∷ []) rest
step-new routers m rest new = rw new refl

-- the first undefined name of models and one more
first-more : (models : List Model) (m : Model) → option_or (first_undefined models) (undefined_in m) ≡ first_undefined (models ++ m ∷ [])
first-more [] m = by (undefined_in m)
  where
    by : (here : Option NetRefusal) → here ≡ slice_get (cons_option here []) 0
    by None = refl
    by (Some r) = refl
first-more (n ∷ models) m = by (undefined_in n) (first-more models m)
  where
    by : (here : Option NetRefusal) → option_or (first_undefined models) (undefined_in m) ≡ first_undefined (models ++ m ∷ [])
        → option_or (slice_get (cons_option here (filter_map undefined_in models)) 0) (undefined_in m) ≡ slice_get (cons_option here (filter_map undefined_in (models ++ m ∷ []))) 0
    by None h = h
    by (Some r) h = refl

-- what is gathered of models and one more
gathered-more : (models : List Model) (m : Model) → record { routers = map under_host models ++ under_host m ∷ []; undefined = option_or (first_undefined models) (undefined_in m) } ≡ gathered_of (models ++ m ∷ [])
gathered-more models m = λ i. record { routers = sym (map-append under_host models (m ∷ [])) i; undefined = first-more models m i }

-- one model more
pub left-more : {T : Type 0} (x : T) (all left rest : List Model) (m : Model) (g more : Gathered) → AreLeft all left g → left ≡ m ∷ rest
    → ((models : List Model) → g ≡ gathered_of models → Adds models m more (Ok x)) → AreLeft all rest more
left-more x all left rest m g more h is adds =
    let here : AreLeft all (m ∷ rest) g = subst (λ (l : List Model). AreLeft all l g) is h in
    let added = adds here.before here.made in
    let routers : map under_host (here.before ++ m ∷ []) ≡ map under_host here.before ++ under_host m ∷ [] = map-append under_host here.before (m ∷ []) in
    record {
      before = here.before ++ m ∷ [];
      split = append_assoc here.before (m ∷ []) rest ∙ here.split;
      same = ap (λ (rs : Routers). twice_from rs rest) routers ∙ sym (step-new (map under_host here.before) m rest added.0) ∙ here.same;
      made = added.1;
    }

step-twice : (found : Option RouterText) (routers : Routers) (m : Model) (rest : List Model) → named routers (host_of m.1) ≡ found → IsSome found → twice_from routers (m ∷ rest) ≡ Some (twice_refusal m)
step-twice None routers m rest e some = absurd (cc)
step-twice (Some x) routers m rest e some = rw e refl

-- a model whose host name is there already
pub left-failed : (T S : Type 0) (e : BuildError) (all left rest : List Model) (m : Model) (g more last : Gathered) → AreLeft all left g → left ≡ m ∷ rest
    → ((models : List Model) → g ≡ gathered_of models → Adds {T = T} models m more (Err e)) → GathersAll {T = S} all last (Err e)
left-failed T S error.Memory all left rest m g more last h is adds = tt
left-failed T S (error.Refused refusal) all left rest m g more last h is adds =
    let here : AreLeft all (m ∷ rest) g = subst (λ (l : List Model). AreLeft all l g) is h in
    let added = adds here.before here.made in
    let routers = map under_host here.before in
    sym here.same ∙ step-twice (named routers (host_of m.1)) routers m rest refl added.0 ∙ ap Some (sym added.1)

-- none is left
pub left-none : {T : Type 0} (x : T) (all left : List Model) (g : Gathered) → AreLeft all left g → left ≡ [] → GathersAll all g (Ok x)
left-none x all left g h is =
    let here : AreLeft all [] g = subst (λ (l : List Model). AreLeft all l g) is h in
    (sym here.same, here.made ∙ ap gathered_of (sym (append-nil here.before) ∙ here.split))

-- a model whose host name is there already is refused
pub again : (T : Type 0) (g more : Gathered) (file : List ℕ) (model : RouterText) (host : HostLine) → model.host ≡ Some host → is_some (named g.routers host.name) ≡ true
    → (models : List Model) → g ≡ gathered_of models → Adds {T = T} models (file, model) more (Err (error.Refused (InFile file host.line TwiceNamed)))
again T g more file model host is found models made =
    let name : host_of model ≡ host.name = ap (λ (h : Option HostLine). option_map_or (λ h. h.name) h []) is in
    let line : host_line model ≡ host.line = ap (λ (h : Option HostLine). option_map_or (λ h. h.line) h 0) is in
    let there : is_some (named (map under_host models) (host_of model)) ≡ true = (λ i. is_some (named (sym made i).routers (name i))) ∙ found in
    (there, ap (λ n. InFile file n TwiceNamed) (sym line))

not_some : (found : Option RouterText) → is_some found ≡ false → found ≡ None
not_some None h = refl
not_some (Some x) h = absurd (cc)

-- one whose host name is new goes last
added : {T : Type 0} (x : T) (g known more : Gathered) (file : List ℕ) (model : RouterText) (host : HostLine) → model.host ≡ Some host → is_some (named g.routers host.name) ≡ false
    → known ≡ record g { undefined = option_or g.undefined (undefined_in (file, model)) } → more ≡ record known { routers = with_value known.routers host.name (settled_router model) }
    → (models : List Model) → g ≡ gathered_of models → Adds models (file, model) more (Ok x)
added x g known more file model host is new noted put models made =
    let name : host_of model ≡ host.name = ap (λ (h : Option HostLine). option_map_or (λ h. h.name) h []) is in
    let none : named g.routers host.name ≡ None = not_some (named g.routers host.name) new in
    let last : with_value g.routers host.name (settled_router model) ≡ g.routers ++ (host_of model, settled_router model) ∷ [] =
    with_value_new g.routers host.name (settled_router model) none ∙ ap (λ n. g.routers ++ (n, settled_router model) ∷ []) (sym name) in
    let grown : more ≡ record { routers = g.routers ++ under_host (file, model) ∷ []; undefined = option_or g.undefined (undefined_in (file, model)) } =
    put ∙ ap (λ (k : Gathered). record k { routers = with_value k.routers host.name (settled_router model) }) noted ∙ (λ i. record { routers = last i; undefined = option_or g.undefined (undefined_in (file, model)) }) in (
      (λ i. named (sym made i).routers (name i)) ∙ none,
      grown ∙ ap (λ (k : Gathered). record { routers = k.routers ++ under_host (file, model) ∷ []; undefined = option_or k.undefined (undefined_in (file, model)) }) made ∙ gathered-more models (file, model),
    )

pub added-by : {T : Type 0} (r : Result T BuildError) (g known : Gathered) (routers : Routers) (file : List ℕ) (model : RouterText) (host : HostLine) → model.host ≡ Some host
    → is_some (named g.routers host.name) ≡ false → known ≡ record g { undefined = option_or g.undefined (undefined_in (file, model)) }
    → OnOk r (routers ≡ with_value known.routers host.name (settled_router model)) → IfErr r (λ e. e ≡ error.Memory)
    → (models : List Model) → g ≡ gathered_of models → Adds models (file, model) (record { routers = routers; undefined = known.undefined }) r
added-by (Ok x) g known routers file model host is new noted put err =
    added x g known (record { routers = routers; undefined = known.undefined }) file model host is new noted (λ i. record { routers = put i; undefined = known.undefined })
added-by {T} (Err e) g known routers file model host is new noted put err = λ models made.
    subst (λ (e : BuildError). Adds {T = T} models (file, model) (record { routers = routers; undefined = known.undefined }) (Err e)) (sym err) tt

-- a host name that is there already is the first refusal
pub refused-twice : (models : List Model) (refusal : NetRefusal) → twice models ≡ Some refusal → first_refusal models ≡ Some refusal
refused-twice models refusal is = ap (λ t. option_or t (first_undefined models)) is

-- where none is, it is that of the first undefined name
first-gathered : {T : Type 0} (x : T) (models : List Model) (g : Gathered) → GathersAll models g (Ok x) → first_refusal models ≡ g.undefined
first-gathered x models g h = ap (λ t. option_or t (first_undefined models)) h.0 ∙ sym (ap (λ (g : Gathered). g.undefined) h.1)

-- where gathering fails, so does building
pub failed : (T : Type 0) (models : List Model) (g : Gathered) (e : BuildError) → GathersAll {T = T} models g (Err e) → IsBuilt models (Err e)
failed T models g error.Memory h = tt
failed T models g (error.Refused refusal) h = refused-twice models refusal h

-- what is gathered makes the network, or the refusal of the first undefined name
pub finished : {T : Type 0} (x : T) (models : List Model) (g : Gathered) (r : Result Network BuildError) → GathersAll models g (Ok x) → IsFinished g r → IsBuilt models r
finished x models g (Err error.Memory) h made = tt
finished x models g (Err (error.Refused refusal)) h made = first-gathered x models g h ∙ made
finished x models g (Ok net) h made =
    let same : g.routers ≡ map under_host models = ap (λ (g : Gathered). g.routers) h.1 in
    (first-gathered x models g h ∙ made.0, subst (λ (r : Routers). HasRouters r net) same made.1)

host-named : (h : Option HostLine) → IsSome h → option_map (λ h. h.name) h ≡ Some (option_map_or (λ h. h.name) h [])
host-named None some = absurd (cc)
host-named (Some h) some = refl

all-under_host : (P : Model → Type 0) (Q : (List ℕ × RouterText) → Type 0) → ((m : Model) → P m → Q (under_host m)) → (ms : List Model) → AllByRecursion P ms → AllByRecursion Q (map under_host ms)
all-under_host P Q f [] all = tt
all-under_host P Q f (m ∷ ms) all = (f m all.0, all-under_host P Q f ms all.1)

abbrev AllLawful : List Model → Type 0
AllLawful = All (λ (m : Model). IsLawfulFile m.1)

-- what holds of each model under its host name holds of the routers
all-routers : (Q : (List ℕ × RouterText) → Type 0) → ((m : Model) → IsLawfulFile m.1 → Q (under_host m)) → (models : List Model) (sorted : Routers)
    → AllLawful models → IsPermutation (map under_host models) sorted → All Q sorted
all-routers Q f models sorted lawful same =
    let each : AllByRecursion (λ (m : Model). IsLawfulFile m.1) models = recursion_from_All (λ (m : Model). IsLawfulFile m.1) models lawful in
    let here : All Q (map under_host models) = All-from_recursion Q (map under_host models) (all-under_host (λ m. IsLawfulFile m.1) Q f models each) in
    All-permutation Q (map under_host models) sorted same here

-- the network of lawful models is lawful
lawful-built : (models : List Model) (routers : Routers) (net : Network) → length models ≤ 512 → AllLawful models → routers ≡ map under_host models → HasRouters routers net → IsLawful net
lawful-built models routers net few lawful is made =
    let sorted : Routers = net.routers in
    let same : IsPermutation (map under_host models) sorted = subst (λ (r : Routers). IsPermutation r sorted) is made.same in
    record {
      few = omega (arith, length_permutation (map under_host models) sorted same, length-map models under_host);
      in_order = made.in_order;
      named = all-routers (λ e. IsNamed e.0 e.1) (λ m l. host-named m.1.host l.has_host) models sorted lawful same;
      each = all-routers (λ e. IsLawfulFile e.1) (λ m l. settled_lawful m.1 l) models sorted lawful same;
    }

pub rest-lawful : (m : Model) (left rest : List Model) → left ≡ m ∷ rest → All (λ (m : Model). IsSome m.1.host) left → All (λ (m : Model). IsSome m.1.host) rest
rest-lawful m left rest is all =
    let P : Model → Type 0 = λ m. IsSome m.1.host in
    let here : All P (m ∷ rest) = subst (All P) is all in
    All-from_recursion P rest (recursion_from_All P (m ∷ rest) here).1

pub lawful-finished : {T : Type 0} (x : T) (models : List Model) (g : Gathered) (r : Result Network BuildError) → length models ≤ 512 → AllLawful models → GathersAll models g (Ok x) → IsFinished g r → IfOk r IsLawful
lawful-finished x models g (Err e) few lawful h made = tt
lawful-finished x models g (Ok net) few lawful h made = lawful-built models g.routers net few lawful (ap (λ (g : Gathered). g.routers) h.1) made.1
