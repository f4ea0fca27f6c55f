-- What is made of what the system gives.
use Rattle.std.specs.Prelude.{ℕ, ◌==◌, Bool, false, List, filter_map, if◌then◌else◌, Option, Some, None, Result, Ok, Err}
use Rattle.std.specs.Fs.{file_type}
use Rattle.std.specs.IoError.{error_kind}
use Rattle.std.specs.declared.fs.attrs.Metadata.{Metadata}
use Rattle.std.specs.declared.io.Error.{Error}
use Rattle.std.specs.declared.io.ErrorKind.{ErrorKind}
use Rattle.std.specs.declared.io.ErrorKind.TheVariants.{NotFound, OutOfMemory}
use Rattle.rc_outside.specs.Causes.{counted}
use Rattle.rc_outside.specs.declared.folder.SourceError.{SourceError}
use Rattle.rc_outside.specs.declared.folder.SourceError.TheVariants.{Failed, Memory}

-- why an error of this kind leaves a folder without an answer: memory ran out, or else the folder failed
abbrev pub cause_of : ErrorKind → SourceError
cause_of OutOfMemory = Memory
cause_of _ = Failed

-- what the system gave, as a folder's answer
abbrev pub answered : {A : Type 0} → Result A Error → Result A SourceError
answered (Ok x) = Ok x
answered (Err e) = Err (cause_of (error_kind e))

-- the count of faults after an answer: a failure is one more
abbrev pub count_after : {A : Type 0} → ℕ → Result A SourceError → ℕ
count_after count (Ok x) = count
count_after count (Err Failed) = counted count
count_after count (Err Memory) = count

-- what leads to nothing leads to no file, and any other error stays one
abbrev pub without_target : ErrorKind → Error → Result Bool Error
without_target NotFound e = Ok false
without_target _ e = Err e

-- whether a path leads to a regular file, by what is found there
abbrev pub regular_in : Result Metadata Error → Result Bool Error
regular_in (Ok there) = Ok ((file_type there).bits == 0o100000)
regular_in (Err e) = without_target (error_kind e) e

-- the name of what is a file, and none of anything else
abbrev pub name_where : Bool → List ℕ → Option (List ℕ)
name_where is_file name = if is_file then Some name else None

-- what is found of an entry of a folder: its name, where it is a file; or an error
abbrev pub Found : Type 0
Found = Result (Option (List ℕ)) Error

abbrev pub name_found : Found → Option (List ℕ)
name_found (Ok name) = name
name_found (Err e) = None

-- the names of all files that were found
abbrev pub names_in : List Found → List (List ℕ)
names_in found = filter_map name_found found
