use Rattle.std.proofs.Common.{◌-◌, length}
use Rattle.am_index_parts.proofs.MeetingRuns.{AreMeeting}
use Rattle.am_index_parts.proofs.apart_runs.ApartRuns.add_meeting.Given as goal

abbrev pub invariant-loop-at : goal.invariant-loop-at
invariant-loop-at l = AreMeeting l.self.list.items l.range l.fn.parts.items l.parts.items l.at

abbrev pub decreases-loop-at : goal.decreases-loop-at
decreases-loop-at l = length l.self.list.items - l.at
