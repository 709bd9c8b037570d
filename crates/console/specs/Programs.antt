-- How the programs begin.
use Rattle.std.specs.Prelude.{◌≡◌, Ok, Err, Result}
use Rattle.std.specs.Process.{exit_status}
use Rattle.std.specs.declared.process.ExitCode.{ExitCode}
use Rattle.console.specs.declared.options.Mistake.{Mistake}
use Rattle.console.specs.declared.options.Request.{Request}
use Rattle.console.specs.declared.options.Request.TheVariants.{Help, Version, Show}

-- the options of a call; or status 0 where the program tells of itself, and 1 where the call has a mistake
abbrev pub BeginsWith : {T : Type 0} → Result (Request T) Mistake → Result T ExitCode → Type 0
BeginsWith (Ok (Show options)) begun = begun ≡ Ok options
BeginsWith (Ok Help) (Ok options) = ⊥
BeginsWith (Ok Help) (Err status) = exit_status status ≡ 0
BeginsWith (Ok Version) (Ok options) = ⊥
BeginsWith (Ok Version) (Err status) = exit_status status ≡ 0
BeginsWith (Err mistake) (Ok options) = ⊥
BeginsWith (Err mistake) (Err status) = exit_status status ≡ 1
