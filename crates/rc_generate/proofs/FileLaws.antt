-- The files of a made network, by folder and name.
use Rattle.std.proofs.Common.{refl, ◌≡◌, ap, sym, ◌∙◌, subst, ℕ, zero, suc, ◌+◌, ◌*◌, ◌/◌, ◌%◌, ◌≤◌, ◌<◌, Bool, true, false, ◌&&◌, List, [], ◌∷◌, ◌++◌, map, length, take, decimal, codes, Some, IsPermutation, arith}
use Rattle.std.specs.Prelude.{IfSome, IsSome, ◌==◌, if◌then◌else◌}
use Rattle.std.specs.List.{range_with_len}
use Rattle.std.specs.Str.{bytes_eq}
use Rattle.std.proofs.lemmas.Bool.Decides.{nat_tests}
use Rattle.std.proofs.lemmas.Fmt.{decimal_digit}
use Rattle.std.proofs.lemmas.List.Sorted.{IsPermutation-refl}
use Rattle.std.proofs.lemmas.Slice.Eq.{bytes_eq-Decides}
use Rattle.rc_outside.specs.Folder.{File, is_named, names_in, bytes_at}
use Rattle.rc_generate.specs.Files.{configuration, file_name, file_of, files}
use Rattle.rc_generate.specs.Names.{number_in}

-- ---- the names

names_from : (n a k : ℕ) → names_in [] (map (file_of n) (range_with_len a k)) ≡ map file_name (range_with_len a k)
names_from n a zero = refl
names_from n a (suc k) = ap (λ names. file_name a ∷ names) (names_from n (a + 1) k)

pub names_of_all : (n : ℕ) → names_in [] (files n) ≡ map file_name (range_with_len 0 n)
names_of_all n = names_from n 0 n

none_from : (b : ℕ) (bs : List ℕ) (n a k : ℕ) → names_in (b ∷ bs) (map (file_of n) (range_with_len a k)) ≡ []
none_from b bs n a zero = refl
none_from b bs n a (suc k) = none_from b bs n (a + 1) k

pub none_elsewhere : (b : ℕ) (bs : List ℕ) (n : ℕ) → names_in (b ∷ bs) (files n) ≡ []
none_elsewhere b bs n = none_from b bs n 0 n

same_number : (a b : ℕ) → (a == b) ≡ true → a ≡ b
same_number a b e = grind (arith, nat_tests)

-- under the empty folder text all are listed
pub listed : (n : ℕ) (dir : List ℕ) → (length dir == 0) ≡ true → (names : List (List ℕ)) → names ≡ map file_name (range_with_len 0 n) → IsPermutation (names_in dir (files n)) names
listed n [] e names is = subst (IsPermutation (names_in [] (files n))) (names_of_all n ∙ sym is) (IsPermutation-refl (names_in [] (files n)))
listed n (d ∷ ds) e names is = absurd (let zero_long : suc (length ds) ≡ 0 = same_number (suc (length ds)) 0 e in let wrong : ⊥ = omega arith in wrong)

-- under any other none is
pub unlisted : (n : ℕ) (dir : List ℕ) → (length dir == 0) ≡ false → (names : List (List ℕ)) → names ≡ [] → IsPermutation (names_in dir (files n)) names
unlisted n [] e names is = absurd (cc)
unlisted n (d ∷ ds) e names is = subst (IsPermutation (names_in (d ∷ ds) (files n))) (none_elsewhere d ds n ∙ sym is) (IsPermutation-refl (names_in (d ∷ ds) (files n)))

-- ---- a file

-- the file of this name is that of a router, from a on and below an end
pub record IsFileOf (n a end : ℕ) (dir name : List ℕ) (all : List File) : Type 0 where
  pub router : ℕ
  pub low : a ≤ router
  pub high : router < end
  pub named : name ≡ file_name router
  pub bytes : bytes_at dir name all ≡ Some (configuration n router)

second : (a b : Bool) → (a && b) ≡ true → b ≡ true
second true b e = e
second false b e = absurd (cc)

found_from : (n a k : ℕ) (dir name : List ℕ) → IsSome (bytes_at dir name (map (file_of n) (range_with_len a k))) → IsFileOf n a (a + k) dir name (map (file_of n) (range_with_len a k))
found_from n a zero dir name there = absurd (cc)
found_from n a (suc k) dir name there = by (is_named dir name (file_of n a)) refl there (found_from n (a + 1) k dir name)
  where
    others : List File
    others = map (file_of n) (range_with_len (a + 1) k)

    by : (b : Bool) → is_named dir name (file_of n a) ≡ b → IsSome (if b then Some (configuration n a) else bytes_at dir name others) → (IsSome (bytes_at dir name others) → IsFileOf n (a + 1) ((a + 1) + k) dir name others) → IsFileOf n a (a + suc k) dir name (file_of n a ∷ others)
    by true is there rest = record {
      router = a;
      low = omega arith;
      high = omega arith;
      named = sym ((bytes_eq-Decides (file_name a) name).0 (second (bytes_eq [] dir) (bytes_eq (file_name a) name) is));
      bytes = ap (λ (b : Bool). if b then Some (configuration n a) else bytes_at dir name others) is;
    }
    by false is there rest =
        let f = rest there in
        record {
          router = f.router;
          low = (let l : a + 1 ≤ f.router = f.low in omega arith);
          high = (let l : f.router < (a + 1) + k = f.high in omega arith);
          named = f.named;
          bytes = ap (λ (b : Bool). if b then Some (configuration n a) else bytes_at dir name others) is ∙ f.bytes;
        }

pub found : (n : ℕ) (dir name : List ℕ) → IsSome (bytes_at dir name (files n)) → IsFileOf n 0 n dir name (files n)
found n dir name there = subst (λ end. IsFileOf n 0 end dir name (files n)) (let e : 0 + n ≡ n = omega arith in e) (found_from n 0 n dir name there)

-- ---- the number in a name

digits_of : (a b c : ℕ) → number_in (codes "r" ++ ((48 + a) ∷ [] ++ (48 + b) ∷ [] ++ (48 + c) ∷ []) ++ codes ".cfg") ≡ a * 100 + b * 10 + c
digits_of a b c = omega arith

pub number_of_name : (i : ℕ) → i < 1000 → number_in (file_name i) ≡ i
unfolding file_name
number_of_name i low =
    let hundreds : decimal (i / 100) ≡ (48 + i / 100) ∷ [] = decimal_digit (i / 100) (omega arith) in
    let tens : decimal (i / 10 % 10) ≡ (48 + i / 10 % 10) ∷ [] = decimal_digit (i / 10 % 10) (omega arith) in
    let ones : decimal (i % 10) ≡ (48 + i % 10) ∷ [] = decimal_digit (i % 10) (omega arith) in
    let whole : i / 100 * 100 + i / 10 % 10 * 10 + i % 10 ≡ i = omega arith in
    (λ j. number_in (codes "r" ++ (hundreds j ++ tens j ++ ones j) ++ codes ".cfg")) ∙ digits_of (i / 100) (i / 10 % 10) (i % 10) ∙ whole

-- the number in the name of a file is that of its router
pub number_of_file : (n : ℕ) (dir name : List ℕ) → n ≤ 512 → (f : IsFileOf n 0 n dir name (files n)) → number_in name ≡ f.router
number_of_file n dir name few f = ap number_in f.named ∙ number_of_name f.router (let h : f.router < n = f.high in omega arith)

-- what is read of a file is its front
pub read_front : (n : ℕ) (dir name : List ℕ) → n ≤ 512 → (there : IsSome (bytes_at dir name (files n))) → (number : ℕ) → number ≡ number_in name → (front text : List ℕ) (most : ℕ) → text ≡ configuration n number → front ≡ take most text → IfSome (bytes_at dir name (files n)) (λ all. front ≡ take most all)
read_front n dir name few there number is front text most made cut =
    let f : IsFileOf n 0 n dir name (files n) = found n dir name there in
    let router : number ≡ f.router = is ∙ number_of_file n dir name few f in
    subst (λ o. IfSome o (λ all. front ≡ take most all)) (sym f.bytes) (cut ∙ ap (take most) (made ∙ ap (configuration n) router))

pub number_below : (n : ℕ) (dir name : List ℕ) → n ≤ 512 → (there : IsSome (bytes_at dir name (files n))) → (number : ℕ) → number ≡ number_in name → number < n
number_below n dir name few there number is =
    let f : IsFileOf n 0 n dir name (files n) = found n dir name there in
    let router : number ≡ f.router = is ∙ number_of_file n dir name few f in
    let h : f.router < n = f.high in
    omega arith
