-- What a server is told of that doesn't begin, or doesn't end well.
use Rattle.std.specs.Prelude.{ℕ, List, ◌++◌, codes, decimal, Option, None, option_map}
use Rattle.am_program_options.specs.Options.{port_of, socket_of}
use Rattle.am_program_options.specs.declared.choice.Listening.{Listening}
use Rattle.am_program_listen.specs.declared.fault.ListenFault.{ListenFault}
use Rattle.am_program_listen.specs.declared.fault.ListenFault.TheVariants.{CannotListenAtPort, CannotListenAtSocket}
use Rattle.am_program_listen.specs.declared.fault.ListenFault.TheVariants.{CannotWriteTrace}
use Rattle.am_program_listen.specs.declared.ending.Subject.{Subject}
use Rattle.am_program_listen.specs.declared.ending.Subject.TheVariants.{Port, Name}

-- a port with its number
abbrev pub port_text : ℕ → List ℕ
port_text number = codes "port " ++ decimal number

-- a port with its number, or a name
abbrev pub subject_text : Subject → List ℕ
subject_text (Port number) = port_text number
subject_text (Name name) = name.now

-- the port, the socket or the trace's file that a fault is about
abbrev pub subject_of : Listening → ListenFault → Option (List ℕ)
subject_of listening (CannotListenAtPort why) = option_map port_text (port_of listening.place)
subject_of listening (CannotListenAtSocket why) = socket_of listening.place
subject_of listening (CannotWriteTrace why) = option_map (λ name. name.now) listening.trace
subject_of listening _ = None
