-- Why words give no request.
use Rattle.clap.specs.declared.error.kind.ErrorKind.{ErrorKind}
use Rattle.clap.specs.declared.error.kind.ErrorKind.TheVariants.{OutOfMemory}
use Rattle.rc_words.specs.declared.request.WordsFault.{WordsFault}
use Rattle.rc_words.specs.declared.request.WordsFault.TheVariants.{Usage, Memory}

-- clap's error of this kind: want of memory is told as that, and every other one as usage
abbrev pub fault_by : ErrorKind → WordsFault
fault_by OutOfMemory = Memory
fault_by _ = Usage
