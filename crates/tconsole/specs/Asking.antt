-- Why no command is done.
-- Source: own choice.
use Rattle.std.specs.Prelude.{◌≡◌, ◌≢◌, ◌⊎◌}
use Rattle.clap.specs.declared.error.kind.ErrorKind.{ErrorKind}
use Rattle.clap.specs.declared.error.kind.ErrorKind.TheVariants as kind
use Rattle.tconsole.specs.declared.asking.NoCommand.{NoCommand}
use Rattle.tconsole.specs.declared.asking.NoCommand.TheVariants as reason

-- help or the version was asked for
abbrev pub AsksForHelp : ErrorKind → Type 0
AsksForHelp k = (k ≡ kind.DisplayHelp) ⊎ (k ≡ kind.DisplayVersion)

-- why no command is done where the parser of words answers a fault of this kind
abbrev pub IsReason : ErrorKind → NoCommand → Type 0
IsReason k reason.Helped = AsksForHelp k
IsReason k reason.OutputFailed = AsksForHelp k
IsReason k reason.Mistaken = (k ≢ kind.OutOfMemory) × (¬ (AsksForHelp k))
IsReason k reason.OutOfMemory = k ≡ kind.OutOfMemory
