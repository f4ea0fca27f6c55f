-- Models that are read one by one.
use Rattle.std.proofs.Common.{◌≡◌, ℕ, ◌+◌, ◌≤◌, Bool, true, false, if◌then◌else◌, List, [], ◌∷◌, ◌++◌, length, nat_lt, Option, Some, None, Result, Ok, Err, IfOk, IfSome, IfNone, IsSome, All, unwrap_or, IsPermutation, refl, sym, ap, ◌∙◌, subst, append_assoc, append-nil, length-append, arith}
use Rattle.std.proofs.lemmas.Bool.Decides.{nat_tests}
use Rattle.std.proofs.lemmas.List.Elements.{All-from_recursion, All-push, recursion_from_All}
use Rattle.std.proofs.lemmas.List.Sorted.{IsPermutation-trans}
use Rattle.rc_outside.specs.Folder.{File, names_in, bytes_at}
use Rattle.rc_config.specs.Lawful.{IsLawfulFile}
use Rattle.rc_config.specs.declared.network.Network.{Network}
use Rattle.rc_config.specs.declared.router_text.RouterText.{RouterText}
use Rattle.rc_network.specs.Build.{Model}
use Rattle.rc_network.specs.declared.refusal.NetRefusal.{NetRefusal}
use Rattle.rc_network.specs.declared.refusal.NetRefusal.TheVariants.{TooManyFiles}
use Rattle.rc_outside.specs.declared.folder.SourceError.{SourceError}
use Rattle.rc_loading.specs.Net.{AreConfigs, bytes_in, IsNet}
use Rattle.rc_network.specs.Files.{model_of, onto, models_of, too_many, with_model, IsNetOf, IsNetOfFew, IsNetOfConfigs}

abbrev Read : Type 0
Read = Result (List Model) NetRefusal

-- models that were read, and what the files after them give
abbrev after : List Model → Read → Read
after models (Ok more) = Ok (models ++ more)
after models (Err refusal) = Err refusal

after-none : (r : Read) → after [] r ≡ r
after-none (Ok models) = refl
after-none (Err refusal) = refl

abbrev AreThere : Option (List File) → List ℕ → List (List ℕ) → Type 0
AreThere told dir names = IfSome told (λ files. All (λ n. IsSome (bytes_at dir n files)) names)

abbrev Says : Option (List File) → List ℕ → List ℕ → Result RouterText NetRefusal → Type 0
Says told dir name said = IfSome told (λ files. IfSome (bytes_at dir name files) (λ bytes. said ≡ model_of name bytes))

said_in : (found : Option (List ℕ)) (name : List ℕ) (said : Result RouterText NetRefusal) → IsSome found → IfSome found (λ bytes. said ≡ model_of name bytes) → said ≡ model_of name (unwrap_or found [])
said_in None name said some h = absurd (cc)
said_in (Some bytes) name said some h = h

first-there : (dir : List ℕ) (files : List File) (name : List ℕ) (rest : List (List ℕ)) → All (λ n. IsSome (bytes_at dir n files)) (name ∷ rest) → IsSome (bytes_at dir name files)
first-there dir files name rest all = (recursion_from_All (λ n. IsSome (bytes_at dir n files)) (name ∷ rest) all).0

after-onto : (models : List Model) (name : List ℕ) (model : RouterText) (r : Read) → after models (onto name (Ok model) r) ≡ after (models ++ (name, model) ∷ []) r
after-onto models name model (Ok more) = ap Ok (sym (append_assoc models ((name, model) ∷ []) more))
after-onto models name model (Err refusal) = refl

-- the first of the names that are left
at-name : (dir : List ℕ) (files : List File) (all left rest : List (List ℕ)) (name : List ℕ) (models : List Model) (said : Result RouterText NetRefusal) → left ≡ name ∷ rest
    → All (λ n. IsSome (bytes_at dir n files)) left → IfSome (bytes_at dir name files) (λ bytes. said ≡ model_of name bytes)
    → after models (models_of (bytes_in dir files) left) ≡ models_of (bytes_in dir files) all
    → after models (onto name said (models_of (bytes_in dir files) rest)) ≡ models_of (bytes_in dir files) all
at-name dir files all left rest name models said is there says h =
    let some = first-there dir files name rest (subst (All (λ n. IsSome (bytes_at dir n files))) is there) in
    let same : said ≡ model_of name (bytes_in dir files name) = said_in (bytes_at dir name files) name said some says in
    ap (λ s. after models (onto name s (models_of (bytes_in dir files) rest))) same
    ∙ ap (λ (l : List (List ℕ)). after models (models_of (bytes_in dir files) l)) (sym is) ∙ h

-- what was read, or the first refusal, and what the files after it give
abbrev after_read : Read → Read → Read
after_read (Ok models) rest = after models rest
after_read (Err refusal) rest = Err refusal

-- these names are left, of all, and this was read of the others
abbrev pub IsRead : Option (List File) → List ℕ → List (List ℕ) → List (List ℕ) → Read → Type 0
IsRead told dir all left read = IfSome told (λ files. after_read read (models_of (bytes_in dir files) left) ≡ models_of (bytes_in dir files) all)

pub none-read : (told : Option (List File)) (dir : List ℕ) (all : List (List ℕ)) → IsRead told dir all all (Ok [])
none-read None dir all = tt
none-read (Some files) dir all = after-none (models_of (bytes_in dir files) all)

-- one file more
one-more : (dir : List ℕ) (files : List File) (all left rest : List (List ℕ)) (name : List ℕ) (read : Read) (said : Result RouterText NetRefusal) → left ≡ name ∷ rest
    → All (λ n. IsSome (bytes_at dir n files)) left → IfSome (bytes_at dir name files) (λ bytes. said ≡ model_of name bytes)
    → after_read read (models_of (bytes_in dir files) left) ≡ models_of (bytes_in dir files) all
    → after_read (with_model read name said) (models_of (bytes_in dir files) rest) ≡ models_of (bytes_in dir files) all
one-more dir files all left rest name (Err refusal) said is there says h = h
one-more dir files all left rest name (Ok models) (Ok model) is there says h =
    sym (after-onto models name model (models_of (bytes_in dir files) rest)) ∙ at-name dir files all left rest name models (Ok model) is there says h
one-more dir files all left rest name (Ok models) (Err refusal) is there says h = at-name dir files all left rest name models (Err refusal) is there says h

pub one-read : (told : Option (List File)) (dir : List ℕ) (all left rest : List (List ℕ)) (name : List ℕ) (read : Read) (said : Result RouterText NetRefusal) → left ≡ name ∷ rest
    → AreThere told dir left → Says told dir name said → IsRead told dir all left read → IsRead told dir all rest (with_model read name said)
one-read None dir all left rest name read said is there says h = tt
one-read (Some files) dir all left rest name read said is there says h = one-more dir files all left rest name read said is there says h

-- so many models were read, unless a file was refused
pub one-longer : (all left rest : List (List ℕ)) (name : List ℕ) (read : Read) (said : Result RouterText NetRefusal) → left ≡ name ∷ rest
    → IfOk read (λ models. length models + length left ≡ length all) → IfOk (with_model read name said) (λ models. length models + length rest ≡ length all)
one-longer all left rest name (Err refusal) said is few = tt
one-longer all left rest name (Ok models) (Err refusal) is few = tt
one-longer all left rest name (Ok models) (Ok model) is few = omega (arith, few, ap length is, length-append models ((name, model) ∷ []))

-- all of them are lawful
pub one-lawful : (name : List ℕ) (read : Read) (said : Result RouterText NetRefusal) → IfOk read (λ models. All (λ (m : Model). IsLawfulFile m.1) models) → IfOk said IsLawfulFile
    → IfOk (with_model read name said) (λ models. All (λ (m : Model). IsLawfulFile m.1) models)
one-lawful name (Err refusal) said lawful good = tt
one-lawful name (Ok models) (Err refusal) lawful good = tt
one-lawful name (Ok models) (Ok model) lawful good = All-push (λ (m : Model). IsLawfulFile m.1) models (name, model) lawful good

-- none is left, or a file was refused
pub all-read : (told : Option (List File)) (dir : List ℕ) (all left : List (List ℕ)) (read : Read) → IfOk read (λ models. left ≡ []) → IsRead told dir all left read → IfSome told (λ files. read ≡ models_of (bytes_in dir files) all)
all-read None dir all left read none h = tt
all-read (Some files) dir all left (Err refusal) none h = h
all-read (Some files) dir all left (Ok models) none h =
    ap Ok (sym (append-nil models)) ∙ ap (λ (l : List (List ℕ)). after models (models_of (bytes_in dir files) l)) (sym none) ∙ h

pub all-many : (all left : List (List ℕ)) (read : Read) → IfOk read (λ models. left ≡ []) → IfOk read (λ models. length models + length left ≡ length all) → IfOk read (λ models. length models ≡ length all)
all-many all left (Err refusal) none few = tt
all-many all left (Ok models) none few = omega (arith, few, ap length none)

pub rest-there : (told : Option (List File)) (dir : List ℕ) (left rest : List (List ℕ)) (name : List ℕ) → left ≡ name ∷ rest → AreThere told dir left → AreThere told dir rest
rest-there None dir left rest name is there = tt
rest-there (Some files) dir left rest name is there =
    let P : List ℕ → Type 0 = λ n. IsSome (bytes_at dir n files) in
    All-from_recursion P rest (recursion_from_All P (name ∷ rest) (subst (All P) is there)).1

pub rest-all : {A : Type 0} (P : A → Type 0) (left rest : List A) (x : A) → left ≡ x ∷ rest → All P left → All P rest
rest-all P left rest x is all = All-from_recursion P rest (recursion_from_All P (x ∷ rest) (subst (All P) is all)).1

pub first-of : {A : Type 0} (P : A → Type 0) (left rest : List A) (x : A) → left ≡ x ∷ rest → All P left → P x
first-of P left rest x is all = (recursion_from_All P (x ∷ rest) (subst (All P) is all)).0

pub there-first : (told : Option (List File)) (dir : List ℕ) (left rest : List (List ℕ)) (name : List ℕ) → left ≡ name ∷ rest → AreThere told dir left → IfSome told (λ files. IsSome (bytes_at dir name files))
there-first None dir left rest name is there = tt
there-first (Some files) dir left rest name is there = first-there dir files name rest (subst (All (λ n. IsSome (bytes_at dir n files))) is there)

pub is_net : (told : Option (List File)) (dir : List ℕ) (names configs : List (List ℕ)) (net : Result Network NetRefusal) → IfSome told (λ files. IsPermutation (names_in dir files) names) → AreConfigs names configs
    → IfSome told (λ files. IsNetOfConfigs (bytes_in dir files) configs net) → IfSome told (λ files. IsNet dir files net)
is_net None dir names configs net p h is = tt
is_net (Some files) dir names configs net p h is = record {
  names = h.sorted;
  in_order = record { same = IsPermutation-trans (names_in dir files) names h.sorted p h.same; sorted = h.in_order };
  is = subst (λ (cs : List (List ℕ)). IsNetOfConfigs (bytes_in dir files) cs net) h.are is;
}

few-by : (n : ℕ) (b : Bool) → nat_lt 512 n ≡ b → IfNone (if b then Some TooManyFiles else None) (n ≤ 512)
few-by n true is = tt
few-by n false is = grind (arith, nat_tests)

-- where their number is not refused they are few
pub few_where_none : (n : ℕ) (refusal : Option NetRefusal) → refusal ≡ too_many n → IfNone refusal (n ≤ 512)
few_where_none n refusal is = subst (λ o. IfNone o (n ≤ 512)) (sym is) (few-by n (nat_lt 512 n) refl)

told-refused : (net : Result Network NetRefusal) (told : Option (List File)) → net ≡ Err TooManyFiles → IfSome told (λ files. net ≡ Err TooManyFiles)
told-refused net None is = tt
told-refused net (Some files) is = is

-- the network of those that are few, or the refusal of their number
module _ (told : Option (List File)) (dir : List ℕ) (configs : List (List ℕ)) (result : Result (Result Network NetRefusal) SourceError) where
  by_number : (b : Bool) (refusal : Option NetRefusal) → refusal ≡ (if b then Some TooManyFiles else None) → IfSome refusal (λ first. result ≡ Ok (Err first))
      → IfNone refusal (IfOk result (λ net. IfSome told (λ files. IsNetOf (models_of (bytes_in dir files) configs) net)))
      → IfOk result (λ net. IfSome told (λ files. IsNetOfFew b (models_of (bytes_in dir files) configs) net))
  by_number true refusal is refused nets =
      let many : result ≡ Ok (Err TooManyFiles) = subst (λ o. IfSome o (λ first. result ≡ Ok (Err first))) is refused in
      subst (λ r. IfOk r (λ net. IfSome told (λ files. net ≡ Err TooManyFiles))) (sym many) (told-refused (Err TooManyFiles) told refl)
  by_number false refusal is refused nets = subst (λ o. IfNone o (IfOk result (λ net. IfSome told (λ files. IsNetOf (models_of (bytes_in dir files) configs) net)))) is nets

  pub net_of_number : (refusal : Option NetRefusal) → refusal ≡ too_many (length configs) → IfSome refusal (λ first. result ≡ Ok (Err first))
      → IfNone refusal (IfOk result (λ net. IfSome told (λ files. IsNetOf (models_of (bytes_in dir files) configs) net)))
      → IfOk result (λ net. IfSome told (λ files. IsNetOfConfigs (bytes_in dir files) configs net))
  net_of_number refusal is refused nets = by_number (nat_lt 512 (length configs)) refusal is refused nets

pub net_of_read : (told : Option (List File)) (dir : List ℕ) (configs : List (List ℕ)) (read : Read) (net : Result Network NetRefusal)
    → IfSome told (λ files. read ≡ models_of (bytes_in dir files) configs) → IsNetOf read net → IfSome told (λ files. IsNetOf (models_of (bytes_in dir files) configs) net)
net_of_read None dir configs read net is h = tt
net_of_read (Some files) dir configs read net is h = subst (λ (r : Read). IsNetOf r net) is h
