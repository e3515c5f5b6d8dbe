-- Places by the fronts of their keys.
use Rattle.std.specs.Prelude.{ℕ, nat_eq, nat_lt, List}
use Rattle.std.specs.List.{count_by, prefix_len}
use Rattle.am_record.specs.EntryOrder.{Place}
use Rattle.am_record.specs.KeyFront.{key_front}

-- the partition of a place, and the front of its key
abbrev pub front_in_part : Place → ℕ × ℕ
front_in_part p = (p.0, key_front p.1)

-- how many of the keys have a front below the one
abbrev pub count_lower : ℕ → List Place → ℕ
count_lower front ps = count_by (λ p. nat_lt (key_front p.1) front) ps

-- how many of the first keys have just that front
abbrev pub count_alike : ℕ → List Place → ℕ
count_alike front ps = prefix_len (λ p. nat_eq (key_front p.1) front) ps
