-- How a server ends that doesn't end well.
use Rattle.std.specs.Prelude.{ℕ, List, Option, Some, None, codes}
use Rattle.std.specs.declared.io.Error.{Error}
use Rattle.am_program_listen.specs.declared.fault.ListenFault.{ListenFault}
use Rattle.am_program_listen.specs.declared.fault.ListenFault.TheVariants.{CannotListenAtPort, CannotListenAtSocket}
use Rattle.am_program_listen.specs.declared.fault.ListenFault.TheVariants.{CannotAccept, CannotWriteTrace, NoMemory}
use Rattle.am_program_listen.specs.declared.fault.ListenFault.TheVariants.{CannotHear}
use Rattle.am_trace_file.specs.declared.fault.TraceFileFault.{TraceFileFault}
use Rattle.am_trace_file.specs.declared.fault.TraceFileFault.TheVariants.{CannotWrite, NoMemory as NoFileMemory}

-- what a fault of the trace's file is for the server
abbrev pub fault_of_file : TraceFileFault → ListenFault
fault_of_file (CannotWrite why) = CannotWriteTrace (Some why)
fault_of_file NoFileMemory = NoMemory

-- the program's status
abbrev pub fault_status : ListenFault → ℕ
fault_status (CannotListenAtPort why) = 3
fault_status (CannotListenAtSocket why) = 3
fault_status CannotAccept = 3
fault_status (CannotWriteTrace why) = 4
fault_status NoMemory = 5
fault_status CannotHear = 5

-- what the system said of it
abbrev pub fault_why : ListenFault → Option Error
fault_why (CannotListenAtPort why) = Some why
fault_why (CannotListenAtSocket why) = Some why
fault_why (CannotWriteTrace why) = why
fault_why _ = None

-- what is said on standard error
abbrev pub fault_words : ListenFault → List ℕ
fault_words (CannotListenAtPort why) = codes "amserve: cannot listen"
fault_words (CannotListenAtSocket why) = codes "amserve: cannot listen"
fault_words CannotAccept = codes "amserve: cannot accept"
fault_words (CannotWriteTrace why) = codes "amserve: cannot write the trace"
fault_words NoMemory = codes "amserve: no memory"
fault_words CannotHear = codes "amserve: no thread to hear STOP"
