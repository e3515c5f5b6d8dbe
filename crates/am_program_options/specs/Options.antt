-- What a command line of `amserve` asks for, by clap's meaning of its words.
use Rattle.std.specs.Prelude.{◌≡◌, ◌≢◌, ◌≤◌, ◌↔◌, IsTrue, ℕ, List, [], Option, Some, None, codes, cond, false, is_some}
use Rattle.std.specs.Prelude.{Bool, not, true}
use Rattle.std.specs.Prelude.{IsSomeAnd, option_map}
use Rattle.std.specs.Str.Parse.{IsNumeral, digits_value, without_leading_plus}
use Rattle.clap.specs.Words.{App, Row, Rule, Shape, Text, first_of, new_app, new_rule}
use Rattle.clap.specs.Words.{fault_of, subcommand_of, with_rule, with_subcommand}
use Rattle.clap.specs.declared.builder.value_parser.ValueParser.TheVariants.{Unsigned}
use Rattle.am_program_start.specs.Arguments.{flag_rule}
use Rattle.am_program_options.specs.declared.choice.Listening.{Listening}
use Rattle.am_program_options.specs.declared.choice.Options.{Options}
use Rattle.am_program_options.specs.declared.choice.Options.TheVariants.{Alone, Listen}
use Rattle.am_program_options.specs.declared.choice.Place.{Place}
use Rattle.am_program_options.specs.declared.choice.Place.TheVariants.{Port, Socket, Both}
use Rattle.am_program_options.specs.declared.amserve.Setting.{Setting}

-- the bounds of each number, and what it is where the words don't give it
abbrev pub auto : Setting
auto = record { least = 0; most = 64; default = Some 16 }

-- that has a default says here only that the words needn't give it
abbrev pub port : Setting
port = record { least = 0; most = 65535; default = Some 0 }

abbrev pub sessions : Setting
sessions = record { least = 1; most = 256; default = Some 1 }

-- of a server that stays: at once
abbrev pub staying_sessions : Setting
staying_sessions = record { least = 1; most = 256; default = Some 64 }

-- as of the port
abbrev pub grace : Setting
grace = record { least = 0; most = 3600; default = Some 0 }

abbrev pub idle : Setting
idle = record { least = 1; most = 43200; default = Some 1 }

abbrev pub lapse : Setting
lapse = record { least = 0; most = 0; default = Some 0 }

-- of a server that stays
abbrev pub staying_lapse : Setting
staying_lapse = record { least = 0; most = 43200; default = Some 60 }

abbrev pub idle_seat : Setting
idle_seat = record { least = 0; most = 0; default = Some 0 }

-- of a server that stays
abbrev pub staying_idle_seat : Setting
staying_idle_seat = record { least = 0; most = 43200; default = Some 60 }

abbrev pub bounded_runs : Setting
bounded_runs = record { least = 0; most = 0; default = Some 0 }

-- of a server that stays
abbrev pub staying_runs : Setting
staying_runs = record { least = 0; most = 65535; default = Some 64 }

abbrev pub workers : Setting
workers = record { least = 0; most = 16; default = Some 1 }

abbrev pub hold : Setting
hold = record { least = 0; most = 60000; default = Some 60000 }

-- `--NAME VALUE`
abbrev pub option_rule : Text → Rule
option_rule name = record (new_rule name) { long = Some name; value_names = 1 }

-- the option takes a number, and must be given if the number has no default
abbrev pub number_rule : Rule → Setting → Rule
number_rule rule setting = record rule {
  parser = Some (Unsigned setting.least setting.most);
  required = not (is_some setting.default);
}

-- `alone [--auto N]`
abbrev pub alone_app : App
alone_app = with_rule (new_app (codes "alone")) (number_rule (option_rule (codes "auto")) auto)

-- `listen [--port P] [--socket PATH] [--sessions N] [--workers W] [--trace FILE]`
abbrev pub common_app : App
common_app =
    let with_port = with_rule (new_app (codes "listen")) (number_rule (option_rule (codes "port")) port) in
    let with_socket = with_rule with_port (option_rule (codes "socket")) in
    let with_sessions = with_rule with_socket (number_rule (option_rule (codes "sessions")) sessions) in
    let with_workers = with_rule with_sessions (number_rule (option_rule (codes "workers")) workers) in
    with_rule with_workers (option_rule (codes "trace"))

-- and `[--stop] [--hold MS] [--stay] [--grace S] [--idle S] [--idle-transaction S] [--idle-seat S] [--runs N] [--log]`
abbrev pub listen_app : App
listen_app =
    let with_stop = with_rule common_app (flag_rule (codes "stop")) in
    let with_hold = with_rule with_stop (number_rule (option_rule (codes "hold")) hold) in
    let with_stay = with_rule with_hold (flag_rule (codes "stay")) in
    let with_grace = with_rule with_stay (number_rule (option_rule (codes "grace")) grace) in
    let with_idle = with_rule with_grace (number_rule (option_rule (codes "idle")) idle) in
    let with_lapse = with_rule with_idle (number_rule (option_rule (codes "idle-transaction")) staying_lapse) in
    let with_idle_seat = with_rule with_lapse (number_rule (option_rule (codes "idle-seat")) staying_idle_seat) in
    let with_runs = with_rule with_idle_seat (number_rule (option_rule (codes "runs")) staying_runs) in
    with_rule with_runs (flag_rule (codes "log"))

-- `amserve`, which has a version and wants a subcommand
abbrev pub amserve_shape : Shape
amserve_shape = record (new_app (codes "amserve")).top {
  has_version = true;
  subcommand_required = true;
}

abbrev pub amserve_app : App
amserve_app =
    let with_alone = with_subcommand (record { top = amserve_shape; subs = [] }) alone_app.top in
    with_subcommand with_alone listen_app.top

-- the number that the text writes, or the default where there is no text
abbrev pub GivesOption : Setting → Option Text → ℕ → Type 0
GivesOption setting None n = setting.default ≡ Some n
GivesOption setting (Some text) n =
    IsNumeral 10 (without_leading_plus text) × (n ≡ digits_value 10 (without_leading_plus text))

-- the number that an option's text gives, within the setting's bounds
abbrev pub Sets : Setting → Option Text → ℕ → Type 0
Sets setting text n = (setting.least ≤ n) × (n ≤ setting.most) × GivesOption setting text n

-- the number that an option's text gives, within the setting's bounds, or none where there is no text
abbrev pub SetsIfGiven : Setting → Option Text → Option ℕ → Type 0
SetsIfGiven setting None number = number ≡ None
SetsIfGiven setting (Some text) number = IsSomeAnd number (Sets setting (Some text))

-- the port that is among it
abbrev pub port_of : Place → Option ℕ
port_of (Port number) = Some number
port_of (Socket name) = None
port_of (Both number name) = Some number

-- the name of the socket that is among it
abbrev pub socket_of : Place → Option Text
socket_of (Port number) = None
socket_of (Socket name) = Some name.now
socket_of (Both number name) = Some name.now

-- the texts of `--port` and `--socket`, of which there is one at least, name the place; a socket has a name
pub record NamesPlace (port_text socket_text : Option Text) (place : Place) : Type 0 where
  pub port_set : SetsIfGiven port port_text (port_of place)
  pub socket_named : socket_of place ≡ socket_text
  pub socket_has_name : socket_text ≢ Some []

-- the rows give the limit on transactions that sleep, by whether the server stays, and that on seats
abbrev pub SetsLapse : List Row → Bool → ℕ → Type 0
SetsLapse rows stays = Sets (cond stays staying_lapse lapse) (first_of (codes "idle-transaction") rows)

abbrev pub SetsIdleSeat : List Row → Bool → ℕ → Type 0
SetsIdleSeat rows stays = Sets (cond stays staying_idle_seat idle_seat) (first_of (codes "idle-seat") rows)

-- and above how many runs workers merge what nobody asked for
abbrev pub SetsRuns : List Row → Bool → ℕ → Type 0
SetsRuns rows stays = Sets (cond stays staying_runs bounded_runs) (first_of (codes "runs") rows)

-- the rows of `listen` name the place, these numbers and the trace's file, which has a name, and say whether to await a
-- STOP, whether the server stays, and whether it tells how it does; limits of time, and that it tells, go with one that
-- stays
pub record NamesListening (rows : List Row) (listening : Listening) : Type 0 where
  pub place_named : NamesPlace (first_of (codes "port") rows) (first_of (codes "socket") rows) listening.place
  pub sessions_set : Sets (cond listening.stays staying_sessions sessions) (first_of (codes "sessions") rows)
      listening.sessions
  pub workers_set : Sets workers (first_of (codes "workers") rows) listening.workers
  pub hold_set : Sets hold (first_of (codes "hold") rows) listening.hold
  pub trace_named : option_map (λ file. file.now) listening.trace ≡ first_of (codes "trace") rows
  pub trace_has_name : first_of (codes "trace") rows ≢ Some []
  pub stop_awaited : IsTrue listening.awaits_stop ↔ (first_of (codes "stop") rows ≡ Some (codes "true"))
  pub stay_told : IsTrue listening.stays ↔ (first_of (codes "stay") rows ≡ Some (codes "true"))
  pub grace_set : SetsIfGiven grace (first_of (codes "grace") rows) listening.grace
  pub idle_set : SetsIfGiven idle (first_of (codes "idle") rows) listening.idle
  pub lapse_set : SetsLapse rows listening.stays listening.lapse
  pub idle_seat_set : SetsIdleSeat rows listening.stays listening.idle_seat
  pub runs_set : SetsRuns rows listening.stays listening.runs
  pub log_told : IsTrue listening.is_logged ↔ (first_of (codes "log") rows ≡ Some (codes "true"))
  pub together : listening.stays ≡ false → (listening.grace ≡ None) × (listening.idle ≡ None) ×
      (listening.is_logged ≡ false)

-- the name of a subcommand and its rows name these options
abbrev pub Selects : Text × List Row → Options → Type 0
Selects p (Alone n) = (p.0 ≡ codes "alone") × Sets auto (first_of (codes "auto") p.1) n
Selects p (Listen listening) = (p.0 ≡ codes "listen") × NamesListening p.1 listening

-- clap finds no fault in the words, and the subcommand that they enter names these options
abbrev pub Names : List Text → Options → Type 0
Names words options = (fault_of amserve_app words ≡ [])
    × IsSomeAnd (subcommand_of amserve_app words) (λ entered. Selects entered options)
