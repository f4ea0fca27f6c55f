-- The network of the files of a folder, or their first refusal.
use Rattle.std.specs.Prelude.{◌≡◌, ℕ, List, [], filter, Result, unwrap_or, IsPermutation, IsSorted}
use Rattle.std.specs.Ordering.{nat_cmp}
use Rattle.std.specs.Cmp.Lexicographic.{slice_cmp}
use Rattle.rc_outside.specs.Folder.{File, names_in, bytes_at, is_config}
use Rattle.rc_config.specs.declared.network.Network.{Network}
use Rattle.rc_network.specs.Files.{IsNetOfConfigs}
use Rattle.rc_network.specs.declared.refusal.NetRefusal.{NetRefusal}

-- the names in the folder, in byte order
pub record AreNamesInOrder (dir : List ℕ) (files : List File) (names : List (List ℕ)) : Type 0 where
  pub same : IsPermutation (names_in dir files) names
  pub sorted : IsSorted (slice_cmp nat_cmp) names

-- those of the names that are of configurations, in byte order
pub record AreConfigs (names configs : List (List ℕ)) : Type 0 where
  pub sorted : List (List ℕ)
  pub same : IsPermutation names sorted
  pub in_order : IsSorted (slice_cmp nat_cmp) sorted
  pub are : configs ≡ filter is_config sorted

-- a folder has one listing in byte order
abbrev pub HasOneListing : Type 0
HasOneListing = (dir : List ℕ) (files : List File) (these those : List (List ℕ)) → AreNamesInOrder dir files these → AreNamesInOrder dir files those → these ≡ those

abbrev pub bytes_in : List ℕ → List File → List ℕ → List ℕ
bytes_in dir files name = unwrap_or (bytes_at dir name files) []

-- the network of the files of a folder: those whose name ends in `.cfg`, in byte order of names
pub record IsNet (dir : List ℕ) (files : List File) (net : Result Network NetRefusal) : Type 0 where
  pub names : List (List ℕ)
  pub in_order : AreNamesInOrder dir files names
  pub is : IsNetOfConfigs (bytes_in dir files) (filter is_config names) net

-- the files of a folder have one network, or one first refusal
abbrev pub HasOneNet : Type 0
HasOneNet = (dir : List ℕ) (files : List File) (this that : Result Network NetRefusal) → IsNet dir files this → IsNet dir files that → this ≡ that
