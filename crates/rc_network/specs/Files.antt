-- The network of files by their bytes, or their first refusal.
use Rattle.std.specs.Prelude.{◌≡◌, ℕ, Bool, true, false, List, [], ◌∷◌, ◌++◌, length, nat_lt, if◌then◌else◌, Option, Some, None, Result, Ok, Err}
use Rattle.rc_config.specs.declared.network.Network.{Network}
use Rattle.rc_config.specs.declared.router_text.RouterText.{RouterText}
use Rattle.rc_grammar.specs.File.{file_of}
use Rattle.rc_grammar.specs.declared.refusal.FileRefusal.{FileRefusal}
use Rattle.rc_network.specs.Build.{Model, first_refusal, IsNetworkOf}
use Rattle.rc_network.specs.declared.refusal.NetCause.TheVariants.{File as InText, FileTooLong}
use Rattle.rc_network.specs.declared.refusal.NetRefusal.{NetRefusal}
use Rattle.rc_network.specs.declared.refusal.NetRefusal.TheVariants.{InFile, TooManyFiles}

-- the most bytes of a file, and the most files of a folder
abbrev pub most_bytes : ℕ
most_bytes = 1048576

abbrev pub most_files : ℕ
most_files = 512

-- the refusal of so many configurations, where they are too many
abbrev pub too_many : ℕ → Option NetRefusal
too_many n = if nat_lt most_files n then Some TooManyFiles else None

abbrev pub in_file : List ℕ → Result RouterText FileRefusal → Result RouterText NetRefusal
in_file name (Ok model) = Ok model
in_file name (Err refusal) = Err (InFile name refusal.line (InText refusal.cause))

-- a file's model before those of the files after it, or the first refusal
abbrev pub onto : List ℕ → Result RouterText NetRefusal → Result (List Model) NetRefusal → Result (List Model) NetRefusal
onto name (Err refusal) rest = Err refusal
onto name (Ok model) (Ok models) = Ok ((name, model) ∷ models)
onto name (Ok model) (Err refusal) = Err refusal

-- models that were read, or the first refusal, and behind them what the next file is said to be
abbrev pub with_model : Result (List Model) NetRefusal → List ℕ → Result RouterText NetRefusal → Result (List Model) NetRefusal
with_model (Err refusal) name said = Err refusal
with_model (Ok models) name (Ok model) = Ok (models ++ (name, model) ∷ [])
with_model (Ok models) name (Err refusal) = Err refusal

-- the network of models, or their first refusal
abbrev pub IsNetOfModels : List Model → Result Network NetRefusal → Type 0
IsNetOfModels models (Ok net) = (first_refusal models ≡ None) × IsNetworkOf models net
IsNetOfModels models (Err refusal) = first_refusal models ≡ Some refusal

abbrev pub IsNetOf : Result (List Model) NetRefusal → Result Network NetRefusal → Type 0
IsNetOf (Ok models) net = IsNetOfModels models net
IsNetOf (Err refusal) net = net ≡ Err refusal

abbrev pub IsNetOfFew : Bool → Result (List Model) NetRefusal → Result Network NetRefusal → Type 0
IsNetOfFew true models net = net ≡ Err TooManyFiles
IsNetOfFew false models net = IsNetOf models net

-- by a way to read a file
module _ (read : List ℕ → Result RouterText FileRefusal) where
  -- the model of a file, or its refusal: that of its length comes first
  unfoldable pub model_by : List ℕ → List ℕ → Result RouterText NetRefusal
  model_by name bytes = if nat_lt most_bytes (length bytes) then Err (InFile name 0 FileTooLong) else in_file name (read bytes)

  -- the models of files, or the first refusal
  abbrev pub models_by : (List ℕ → List ℕ) → List (List ℕ) → Result (List Model) NetRefusal
  models_by bytes [] = Ok []
  models_by bytes (name ∷ names) = onto name (model_by name (bytes name)) (models_by bytes names)

  -- the network of configurations, of which there are at most 512
  abbrev pub IsNetBy : (List ℕ → List ℕ) → List (List ℕ) → Result Network NetRefusal → Type 0
  IsNetBy bytes configs net = IsNetOfFew (nat_lt most_files (length configs)) (models_by bytes configs) net

-- and by the grammar
abbrev pub model_of : List ℕ → List ℕ → Result RouterText NetRefusal
model_of name bytes = model_by file_of name bytes

abbrev pub models_of : (List ℕ → List ℕ) → List (List ℕ) → Result (List Model) NetRefusal
models_of bytes names = models_by file_of bytes names

-- the network of the configurations with these names and bytes, or their first refusal
abbrev pub IsNetOfConfigs : (List ℕ → List ℕ) → List (List ℕ) → Result Network NetRefusal → Type 0
IsNetOfConfigs bytes configs net = IsNetBy file_of bytes configs net
