use Rattle.std.proofs.Common.{◌≡◌, ◌-◌, ◌≤◌, length, drop}
use Rattle.am_serve_connections.specs.OwnLines.{http_end, line_behind, moved_on}
use Rattle.am_serve_connections.proofs.own_lines.http_end.Given as goal

abbrev pub invariant-lines : goal.invariant-lines
invariant-lines l = record {
  fits : l.start ≤ length l.bytes;
  end : http_end l.fn.line.bytes.items l.bytes ≡ moved_on l.start (http_end l.line.bytes.items (drop l.start l.bytes));
  line : line_behind l.fn.line.bytes.items l.bytes ≡ line_behind l.line.bytes.items (drop l.start l.bytes);
}

abbrev pub decreases-lines : goal.decreases-lines
decreases-lines l = length l.bytes - l.start
