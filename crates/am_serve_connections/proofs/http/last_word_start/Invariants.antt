use Rattle.std.proofs.Common.{◌≡◌, ◌+◌, ◌≤◌, not, length, take}
use Rattle.std.specs.Char.{is_ascii_whitespace}
use Rattle.std.specs.List.{suffix_len}
use Rattle.am_serve_connections.proofs.http.last_word_start.Given as goal

abbrev pub invariant-bytes : goal.invariant-bytes
invariant-bytes l = record {
  fits : l.start ≤ length l.text;
  seen : l.start + suffix_len (λ byte. not (is_ascii_whitespace byte)) l.text ≡
      length l.text + suffix_len (λ byte. not (is_ascii_whitespace byte)) (take l.start l.text);
}

abbrev pub decreases-bytes : goal.decreases-bytes
decreases-bytes l = l.start
