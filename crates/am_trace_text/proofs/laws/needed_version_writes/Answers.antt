use Rattle.am_trace_text.proofs.AlikeLines.{is_text, is_text_with_limits, second}
use Rattle.am_trace_text.proofs.laws.needed_version_writes.Goals as goal

pub returns-clause-text : goal.returns-clause-text
returns-clause-text c = is_text

pub returns-clause-second : goal.returns-clause-second
returns-clause-second c = second

pub returns-clause-limits : goal.returns-clause-limits
returns-clause-limits c = is_text_with_limits
