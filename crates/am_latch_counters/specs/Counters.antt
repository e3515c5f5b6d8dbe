-- Two counters that seats draw from, publish to and look at.
use Rattle.std.specs.Prelude.{◌≡◌, ℕ, ◌+◌, ◌-◌, ◌*◌, ◌≤◌, ◌==◌, max, nat_lt, cond, List, [], ◌∷◌, ◌++◌, length}
use mathlib.Core.Option.{some}
use lib.ListN.{get_elem?}
use Rattle.atomic_table.specs.Table.{State, Me, Step}
use Rattle.atomic_table.specs.Seated.{TableId}
use Rattle.am_latch.specs.Faults.{max_seats}
use Rattle.am_latch_counters.specs.declared.rule.View.{View}

-- what contracts see of a seat
pub record CounterHistory : Type 0 where
  pub of : TableId
  pub drawn : List ℕ
  pub saw : ℕ
  pub published : ℕ

-- how many numbers a seat may draw: 2 ^ 50
abbrev pub most_draws : ℕ
most_draws = 1125899906842624

abbrev pub new_history : TableId → CounterHistory
new_history id = record { of = id; drawn = []; saw = 0; published = 0 }

abbrev pub all_seats : View
all_seats = record { seats = max_seats; drawn = []; saw = 0; published = 0 }

abbrev pub one_seat : View
one_seat = record { seats = 1; drawn = []; saw = 0; published = 0 }

abbrev pub without_one_seat : View → View
without_one_seat v = record { seats = v.seats - 1; drawn = v.drawn; saw = v.saw; published = v.published }

-- f of each view, added up
abbrev pub total : (View → ℕ) → List View → ℕ
total f [] = 0
total f (v ∷ vs) = f v + total f vs

-- how often x stands in the list
abbrev pub count_of : ℕ → List ℕ → ℕ
count_of x [] = 0
count_of x (y ∷ ys) = cond (y == x) 1 0 + count_of x ys

-- 1 where x is below n, and else 0
abbrev pub once_below : ℕ → ℕ → ℕ
once_below x n = cond (nat_lt x n) 1 0

-- the greatest published number, or 0
abbrev pub greatest : List View → ℕ
greatest [] = 0
greatest (v ∷ vs) = max v.published (greatest vs)

-- The next number is the count of all draws, and the numbers drawn are those below it, each once.
-- The watch is the greatest published number, and no seat saw a greater one.
pub record IsRuleOfCounters (s : State ℕ View) : Type 0 where
  pub next : ℕ
  pub watch : ℕ
  pub words : s.words ≡ next ∷ watch ∷ []
  pub seats : total (λ v. v.seats) s.views ≤ max_seats
  pub few : (k : ℕ) (v : View) → get_elem? s.views k ≡ some v → length v.drawn ≤ most_draws * v.seats
  pub count : total (λ v. length v.drawn) s.views ≡ next
  pub each_once : (x : ℕ) → total (λ v. count_of x v.drawn) s.views ≡ once_below x next
  pub top : watch ≡ greatest s.views
  pub seen : (k : ℕ) (v : View) → get_elem? s.views k ≡ some v → v.saw ≤ watch

abbrev pub DrawsNumber : Step ℕ → Me ℕ View → ℕ → Me ℕ View → Type 0
DrawsNumber st m n m' = m'.0 ≡ record {
  seats = m.0.seats;
  drawn = m.0.drawn ++ n ∷ [];
  saw = m.0.saw;
  published = m.0.published;
}

abbrev pub RaisesWatch : Step ℕ → Me ℕ View → ℕ → Me ℕ View → Type 0
RaisesWatch st m n m' = m'.0 ≡ record {
  seats = m.0.seats;
  drawn = m.0.drawn;
  saw = m.0.saw;
  published = max m.0.published st.first;
}

abbrev pub SeesWatch : Step ℕ → Me ℕ View → ℕ → Me ℕ View → Type 0
SeesWatch st m n m' = (m'.0 ≡ record { seats = m.0.seats; drawn = m.0.drawn; saw = n; published = m.0.published }) ×
    (m.0.saw ≤ n) × (m.0.published ≤ n)

-- the rule held of these words and of all views, in which one has what this seat drew, saw and published
abbrev pub HeldAtEnd : ℕ → ℕ → CounterHistory → Type 0
HeldAtEnd next watch counter_seat =
    (s : State ℕ View) × IsRuleOfCounters s × (s.words ≡ next ∷ watch ∷ [])
    × ((k : ℕ) × (v : View) × (get_elem? s.views k ≡ some v) × (v.drawn ≡ counter_seat.drawn) ×
    (v.saw ≡ counter_seat.saw) ×
    (v.published ≡ counter_seat.published))
