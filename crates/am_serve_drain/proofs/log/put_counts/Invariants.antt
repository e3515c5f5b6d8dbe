use Rattle.std.specs.Prelude.{◌≡◌, ◌++◌, drop, string_bytes}
use Rattle.std.specs.List.{flat_map}
use Rattle.am_serve_drain.specs.Logs.{count_words}
use Rattle.am_serve_drain.proofs.log.put_counts.Given as goal

abbrev pub invariant-loop-counted : goal.invariant-loop-counted
invariant-loop-counted l = string_bytes l.text ++ flat_map (λ c. count_words (c.0.now, c.1))
    (drop l.counted-index l.counts) ≡
    string_bytes l.fn.text ++ flat_map (λ c. count_words (c.0.now, c.1)) l.counts
