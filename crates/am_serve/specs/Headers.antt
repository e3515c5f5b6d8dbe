-- What the first line of a server's trace says, and how many runs its store makes at most.
use Rattle.std.specs.Prelude.{ℕ, Bool, if◌then◌else◌}
use Rattle.am_record.specs.Limits.{max_runs, last_run}
use Rattle.am_serve_connections.specs.declared.lifetime.Lifetime.{Lifetime}
use Rattle.am_serve_connections.specs.declared.lifetime.Lifetime.TheVariants.{Bounded, Staying}
use Rattle.am_trace_text.specs.Headers.{limits_with}
use Rattle.am_trace_text.specs.declared.version.Version.TheVariants.{Two, Three}
use Rattle.am_trace_text.specs.declared.header.Header.{Header}
use Rattle.am_trace_text.specs.declared.header.Header.TheVariants.{Profile, Limits}

-- by how long it serves, and whether version 3 alone writes its steps
abbrev pub header_of : Lifetime → Bool → Header
header_of Bounded needs_three = Profile (if needs_three then Three else Two)
header_of Staying needs_three = Limits (limits_with last_run)

abbrev pub most_runs_for : Lifetime → ℕ
most_runs_for Bounded = max_runs
most_runs_for Staying = last_run
