-- Entries that follow one another in a run, on their way to the final partition.
use Rattle.std.proofs.Common.{◌≡◌, ◌≢◌, ◌+◌, ◌-◌, ◌<◌, ◌≤◌, ⊎_elim, ℕ, zero, suc, Bool, true, false}
use Rattle.std.proofs.Common.{cond}
use Rattle.std.proofs.Common.{List, [], ◌∷◌, ◌++◌, length, get_or, take, drop, Option, Some, None, refl, sym}
use Rattle.std.proofs.Common.{ap}
use Rattle.std.proofs.Common.{◌∙◌, subst, append_assoc, arith}
use Rattle.std.proofs.Math.Seq.{drop-cons, take-add}
use Rattle.std.proofs.lemmas.Bool.{cases_Bool, cond-true, cond-false, and_parts, and_right, eqb-true, false≢true}
use Rattle.std.proofs.lemmas.List.{take-append-drop, take-take, drop-drop}
use Rattle.std.proofs.lemmas.Option.{none-some}
use Rattle.std.specs.Prelude.{IsSome, is_some, not, ◌==◌, ◌&&◌, take_while}
use Rattle.std.specs.List.{AllByRecursion}
use Rattle.std.specs.Ordering.{is_eq, is_lt, is_ge}
use Rattle.std.specs.declared.cmp.Ordering.{Ordering}
use Rattle.std.specs.declared.cmp.Ordering.TheVariants.{Less, Equal, Greater}
use Rattle.am_record.specs.OrderedKey.{OrderedKey}
use Rattle.am_record.specs.EntryOrder.{Place, place_of, place_cmp, place_cmp-part}
use Rattle.am_record.specs.declared.entry.Entry.{Entry}
use Rattle.am_record.proofs.Lists.{AllByRecursion-map, AllByRecursion-take, AllByRecursion-back}
use Rattle.am_record.proofs.Lists.{filter-no}
use Rattle.am_record.proofs.PlaceOrder.{lower_part, turned_less}
use Rattle.am_index.specs.Content.{content, live_value}
use Rattle.am_index.specs.Entries.{Slot, slot_of, entry_at, find, all_from, insert_entry, set_entry, remove_entry}
use Rattle.am_index.specs.Entries.{remove_from, IsRising}
use Rattle.am_index.specs.Edits.{same_place}
use Rattle.am_index.specs.Places.{AllBelow, AllAbove, NoneBelow}
use Rattle.am_index.proofs.Batches.{all_reached_front}
use Rattle.am_index.proofs.Content.{slot_live}
use Rattle.am_index.specs.Rooms.{needs_room}
use Rattle.am_index.proofs.Edits.{other_key}
use Rattle.am_index.proofs.Edits.{place_cmp-itself, find-hit, find-miss, set-hit, set-miss, insert-later, insert-here}
use Rattle.am_index.proofs.Lists.{entry_at-append, entry_at_here, remove_entry-append, below_itself, rising_remove}
use Rattle.am_index.proofs.Lists.{not_less, rising_above, rising_back, rising-take}
use Rattle.am_index.proofs.ReadLaws.{pass_rising}
use Rattle.am_index.proofs.Removals.{remove_from-at}
use Rattle.am_index_parts.specs.MergedRanges.{AreMerged}
use Rattle.am_index_parts.specs.declared.merged_ranges.MergedRange.{MergedRange}
use Rattle.am_index_parts.specs.Partitions.{AreWellFormed, settled, settled_too, all_settled, brought_home, gone_home}
use Rattle.am_index_parts.specs.Partitions.{all_gone_home, FirstNeedsRoom, IsStretch}
use Rattle.am_index_parts.proofs.Changes.{IsAfter, homes, takes, without_ghost}
use Rattle.am_index_parts.proofs.MergedKnowledge.{merged_home, merged_removed}
use Rattle.am_index_parts.proofs.Settling.{inserted_finds, reset_finds, rising_settled}

-- ---- an entry among its neighbours

module _ (front : List Entry) (x : Entry) (behind : List Entry) (rise : IsRising (front ++ x ∷ behind)) where
  below : AllBelow (place_of x) front
  below = below_itself front x behind rise

  pub stands_there : entry_at (front ++ x ∷ behind) x.part x.key ≡ Some x
  stands_there = entry_at-append x.part x.key front (x ∷ behind) below ∙
      entry_at_here x.part x.key x behind (place_cmp-itself (place_of x))

  pub found_there : find (front ++ x ∷ behind) x.part x.key ≡ Some (slot_of x)
  found_there = ap (λ (o : Option Entry). Rattle.std.specs.Option.option_map slot_of o) stands_there

  pub some_there : IsSome (find (front ++ x ∷ behind) x.part x.key)
  some_there = ap is_some found_there

  pub live_there : is_some (live_value (find (front ++ x ∷ behind) x.part x.key)) ≡ not x.is_ghost
  live_there = ap (λ (o : Option Slot). is_some (live_value o)) found_there ∙ slot_live x

  pub one_gone : remove_entry (front ++ x ∷ behind) x.part x.key ≡ front ++ behind
  one_gone = remove_entry-append x.part x.key front x behind below (place_cmp-itself (place_of x))

  pub some_gone : (n : ℕ) → remove_from (front ++ x ∷ behind) x.part x.key n ≡ front ++ drop n (x ∷ behind)
  some_gone n = remove_from-at x.part x.key front x behind n below refl

-- ---- some of the neighbours gone

pub rising_left : (n : ℕ) (front xs back : List Entry) → IsRising (front ++ (xs ++ back)) →
    IsRising (front ++ (drop n xs ++ back))
rising_left zero front xs back rise = rise
rising_left (suc n) front [] back rise = rise
rising_left (suc n) front (x ∷ xs) back rise = rising_left n front xs back (rising_remove front x (xs ++ back) rise)

drop-front : {X : Type 0} (n : ℕ) (xs ys : List X) → n ≤ length xs → drop n (xs ++ ys) ≡ drop n xs ++ ys
drop-front zero xs ys le = refl
drop-front (suc n) [] ys le = absurd (omega (arith, le))
drop-front (suc n) (x ∷ xs) ys le = drop-front n xs ys (omega (arith, le))

left_length : {X : Type 0} (n : ℕ) (xs : List X) → n ≤ length xs → n + length (drop n xs) ≡ length xs
left_length zero xs le = omega arith
left_length (suc n) [] le = absurd (omega (arith, le))
left_length (suc n) (x ∷ xs) le = omega (arith, left_length n xs (omega (arith, le)))

-- the next one, and those after it
module _ (xs : List Entry) (at : ℕ) (x : Entry) (here : x ≡ get_or xs at x) (lt : at < length xs) where
  pub next_is : drop at xs ≡ x ∷ drop (suc at) xs
  next_is = drop-cons xs at x lt ∙ ap (λ y. y ∷ drop (suc at) xs) (sym here)

  pub one_further : take (at + 1) xs ≡ take at xs ++ x ∷ []
  one_further = take-add at 1 xs ∙ ap (λ l. take at xs ++ take 1 l) next_is

  module _ (front back es : List Entry) (is : es ≡ front ++ (drop at xs ++ back)) where
    pub as_next : es ≡ front ++ x ∷ (drop (suc at) xs ++ back)
    as_next = is ∙ ap (λ l. front ++ (l ++ back)) next_is

    module _ (rise : IsRising es) where
      pub next_found : IsSome (find es x.part x.key)
      next_found = subst (λ l. IsSome (find l x.part x.key)) (sym as_next)
          (some_there front x (drop (suc at) xs ++ back) (subst IsRising as_next rise))

      there : IsRising (front ++ x ∷ (drop (suc at) xs ++ back))
      there = subst IsRising as_next rise

      pub next_stands : entry_at es x.part x.key ≡ Some x
      next_stands = ap (λ l. entry_at l x.part x.key) as_next ∙ stands_there front x (drop (suc at) xs ++ back) there

      pub next_live : is_some (live_value (find es x.part x.key)) ≡ not x.is_ghost
      next_live = ap (λ l. is_some (live_value (find l x.part x.key))) as_next ∙
          live_there front x (drop (suc at) xs ++ back) there

      pub next_out : remove_entry es x.part x.key ≡ front ++ (drop (at + 1) xs ++ back)
      next_out =
          let one : suc at ≡ at + 1 = omega arith in
          ap (λ l. remove_entry l x.part x.key) as_next ∙ one_gone front x (drop (suc at) xs ++ back) there ∙
          ap (λ n. front ++ (drop n xs ++ back)) one

      pub next_gone : (n : ℕ) → n ≤ length xs - at → remove_from es x.part x.key n ≡ front ++ (drop (at + n) xs ++ back)
      next_gone n le =
          let long = left_length at xs (omega (arith, lt)) in
          ap (λ l. remove_from l x.part x.key n) as_next ∙
          some_gone front x (drop (suc at) xs ++ back) (subst IsRising as_next rise) n ∙
          ap (λ l. front ++ drop n (l ++ back)) (sym next_is) ∙
          ap (λ l. front ++ l) (drop-front n (drop at xs) back (omega (arith, long, le)) ∙
          ap (λ l. l ++ back) (drop-drop n at xs))

-- ---- one after another

pub settled_further : (xs : List Entry) (x : Entry) (es : List Entry) → all_settled (xs ++ x ∷ []) es ≡ settled_too x
    (all_settled xs es)
settled_further [] x es = refl
settled_further (y ∷ xs) x es = settled_further xs x (settled_too y es)

-- ---- in front of the run

-- each stands in a run
abbrev AllInRuns : List Entry → Type 0
AllInRuns es = AllByRecursion (λ e. 0 < e.part) es

module _ (key : OrderedKey) where
  abbrev home : Place
  home = (0, key)

  runs_above : (ys : List Entry) → AllInRuns ys → AllAbove home ys
  runs_above ys runs = AllByRecursion-map (λ e. 0 < e.part) (λ e. place_cmp (place_of e) home ≡ Greater)
      (λ e run. turned_less home (place_of e) (lower_part home (place_of e) run)) ys runs

  find-front : (xs ys : List Entry) → AllAbove home ys → find (xs ++ ys) 0 key ≡ find xs 0 key
  find-front [] [] above = refl
  find-front [] (y ∷ ys) above = find-miss 0 key y ys (ap is_eq above.0) ∙ find-front [] ys above.1
  find-front (x ∷ xs) ys above = ⊎_elim
      (λ hit. find-hit 0 key x (xs ++ ys) hit ∙ sym (find-hit 0 key x xs hit))
      (λ miss. find-miss 0 key x (xs ++ ys) miss ∙ find-front xs ys above ∙ sym (find-miss 0 key x xs miss))
      (cases_Bool (is_eq (place_cmp (place_of x) home)))

  set-front : (v : List ℕ) (g : Bool) (xs ys : List Entry) → AllAbove home ys →
      set_entry (xs ++ ys) 0 key v g ≡ set_entry xs 0 key v g ++ ys
  set-front v g [] [] above = refl
  set-front v g [] (y ∷ ys) above = set-miss 0 key y ys v g (ap is_eq above.0) ∙
      ap (λ l. y ∷ l) (set-front v g [] ys above.1)
  set-front v g (x ∷ xs) ys above = ⊎_elim
      (λ hit. set-hit 0 key x (xs ++ ys) v g hit ∙ ap (λ l. l ++ ys) (sym (set-hit 0 key x xs v g hit)))
      (λ miss. set-miss 0 key x (xs ++ ys) v g miss ∙ ap (λ l. x ∷ l) (set-front v g xs ys above) ∙
      ap (λ l. l ++ ys) (sym (set-miss 0 key x xs v g miss)))
      (cases_Bool (is_eq (place_cmp (place_of x) home)))

insert-front : (y : Entry) (xs ys : List Entry) → AllAbove (place_of y) ys → insert_entry (xs ++ ys) y ≡ insert_entry
    xs y ++ ys
insert-front y [] [] above = refl
insert-front y [] (z ∷ ys) above = insert-here y z ys (ap is_lt above.0)
insert-front y (x ∷ xs) ys above = ⊎_elim
    (λ later. insert-later y x (xs ++ ys) later ∙ ap (λ l. x ∷ l) (insert-front y xs ys above) ∙
    ap (λ l. l ++ ys) (sym (insert-later y x xs later)))
    (λ here. insert-here y x (xs ++ ys) here ∙ ap (λ l. l ++ ys) (sym (insert-here y x xs here)))
    (cases_Bool (is_lt (place_cmp (place_of x) (place_of y))))

settled-front : (e : Entry) (xs ys : List Entry) → AllInRuns ys → settled e (xs ++ ys) ≡ settled e xs ++ ys
settled-front e xs ys runs =
    let above = runs_above e.key ys runs in
    let final : Entry = record e { part = 0; is_ghost = false } in
    ap (λ (o : Option Slot). cond (is_some o) (set_entry (xs ++ ys) 0 e.key e.value false)
    (insert_entry (xs ++ ys) final)) (find-front e.key xs ys above)
    ∙ (λ i. cond (is_some (find xs 0 e.key)) (set-front e.key e.value false xs ys above i)
    (insert-front final xs ys above i))
    ∙ (elim (is_some (find xs 0 e.key)) as (λ b. cond b (set_entry xs 0 e.key e.value false ++ ys)
    (insert_entry xs final ++ ys) ≡ cond b (set_entry xs 0 e.key e.value false) (insert_entry xs final) ++ ys)
    [ true ↦ refl | false ↦ refl ])

settled_too-front : (e : Entry) (xs ys : List Entry) → AllInRuns ys → settled_too e (xs ++ ys) ≡ settled_too e xs ++ ys
settled_too-front e xs ys runs =
    (λ i. cond e.is_ghost (xs ++ ys) (settled-front e xs ys runs i))
    ∙ (elim e.is_ghost as (λ b. cond b (xs ++ ys) (settled e xs ++ ys) ≡ cond b xs (settled e xs) ++ ys)
    [ true ↦ refl | false ↦ refl ])

pub all_settled-front : (ms xs ys : List Entry) → AllInRuns ys → all_settled ms (xs ++ ys) ≡ all_settled ms xs ++ ys
all_settled-front [] xs ys runs = refl
all_settled-front (m ∷ ms) xs ys runs = ap (all_settled ms) (settled_too-front m xs ys runs) ∙
    all_settled-front ms (settled_too m xs) ys runs

pub rising_settled_too : (e : Entry) (es : List Entry) → IsRising es → IsRising (settled_too e es)
rising_settled_too e es rise = elim e.is_ghost as (λ b. IsRising (cond b es (settled e es)))
    [ true ↦ rise | false ↦ rising_settled e es rise ]

pub rising_all_settled : (ms es : List Entry) → IsRising es → IsRising (all_settled ms es)
rising_all_settled [] es rise = rise
rising_all_settled (m ∷ ms) es rise = rising_all_settled ms (settled_too m es) (rising_settled_too m es rise)

-- ---- home

module _ (front : List Entry) (x : Entry) (behind : List Entry) (rise : IsRising (front ++ x ∷ behind))
    (run : 0 < x.part) where
  -- those after it stand in runs too
  behind_in_runs : AllInRuns (x ∷ behind)
  behind_in_runs = (
    run,
    AllByRecursion-map (λ e. place_cmp (place_of x) (place_of e) ≡ Less) (λ e. 0 < e.part)
        (λ e less. let up : x.part ≤ e.part = place_cmp-part (place_of x) (place_of e) (λ g. cc) in
        omega (arith, up, run))
        behind (rising_back front (x ∷ behind) rise).0,
  )

  goes_home : gone_home x (front ++ x ∷ behind) ≡ settled_too x front ++ behind
  goes_home = ⊎_elim
      (λ ghost_.
      cond-true x.is_ghost (remove_entry (front ++ x ∷ behind) x.part x.key) (brought_home x (front ++ x ∷ behind))
      ghost_ ∙ one_gone front x behind rise ∙
      ap (λ l. l ++ behind) (sym (cond-true x.is_ghost front (settled x front) ghost_)))
      (λ live.
      let there : settled x (front ++ x ∷ behind) ≡ settled x front ++ x ∷ behind =
      settled-front x front (x ∷ behind) behind_in_runs in
      cond-false x.is_ghost (remove_entry (front ++ x ∷ behind) x.part x.key) (brought_home x (front ++ x ∷ behind))
      live ∙ ap (λ l. remove_entry l x.part x.key) there ∙
      one_gone (settled x front) x behind (subst IsRising there (rising_settled x (front ++ x ∷ behind) rise)) ∙
      ap (λ l. l ++ behind) (sym (cond-false x.is_ghost front (settled x front) live)))
      (cases_Bool x.is_ghost)

  still_rising : IsRising (settled_too x front ++ behind)
  still_rising = rising_remove (settled_too x front) x behind
      (subst IsRising (settled_too-front x front (x ∷ behind) behind_in_runs)
      (rising_settled_too x (front ++ x ∷ behind) rise))

-- all of them settled and then all gone are all gone home
pub all_go_home : (xs front back : List Entry) → IsRising (front ++ (xs ++ back)) → AllInRuns xs →
    all_gone_home xs (front ++ (xs ++ back)) ≡ all_settled xs front ++ back
all_go_home [] front back rise runs = refl
all_go_home (x ∷ xs) front back rise runs =
    ap (all_gone_home xs) (goes_home front x (xs ++ back) rise runs.0) ∙
    all_go_home xs (settled_too x front) back (still_rising front x (xs ++ back) rise runs.0) runs.1

-- once settled they stand as they stood
pub still_stand : (ms xs front back : List Entry) → IsRising (front ++ (xs ++ back)) → AllInRuns xs → 0 < length xs →
    all_settled ms (front ++ (xs ++ back)) ≡ all_settled ms front ++ (xs ++ back)
still_stand ms [] front back rise runs some = absurd (omega arith)
still_stand ms (x ∷ xs) front back rise runs some =
    all_settled-front ms front (x ∷ (xs ++ back)) (behind_in_runs front x (xs ++ back) rise runs.0)

-- what they are then, and the content
pub all_home : (xs front back : List Entry) → AreWellFormed (front ++ (xs ++ back)) → AllInRuns xs →
    IsAfter (all_gone_home xs (front ++ (xs ++ back))) (content (front ++ (xs ++ back)))
all_home [] front back sound runs = record {
  sound = sound;
  has = record { rising = sound.rising; one_place = sound.one_place; same = refl };
}
all_home (x ∷ xs) front back sound runs =
    let es : List Entry = front ++ x ∷ (xs ++ back) in
    let there = found_there front x (xs ++ back) sound.rising in
    let run : x.part ≢ 0 = λ none. absurd (omega (arith, none, runs.0)) in
    let one : IsAfter (gone_home x es) (content es) = ⊎_elim
    (λ ghost_.
    subst (λ l. IsAfter l (content es)) (sym (cond-true x.is_ghost (remove_entry es x.part x.key) (brought_home x es)
    ghost_))
    (subst (IsAfter (remove_entry es x.part x.key)) (without_ghost sound x.part x.key x.value
    (there ∙ (λ i. Some (x.value, ghost_ i)))) (takes refl sound x.part x.key (ap is_some there) refl)))
    (λ live.
    subst (λ l. IsAfter l (content es)) (sym (cond-false x.is_ghost (remove_entry es x.part x.key) (brought_home x es)
    live)) (homes refl sound x there run live refl))
    (cases_Bool x.is_ghost) in
    let at = goes_home front x (xs ++ back) sound.rising runs.0 in
    let rest = all_home xs (settled_too x front) back (subst AreWellFormed at one.sound) runs.1 in
    subst (IsAfter (all_gone_home (x ∷ xs) es)) (ap content (sym at) ∙ one.has.same)
    (subst (λ l. IsAfter (all_gone_home xs l) (content (settled_too x front ++ (xs ++ back)))) (sym at) rest)

pub merged_all_home : (xs es : List Entry) (runs : ℕ) (ms : List MergedRange) → AreMerged es runs ms →
    AreMerged (all_gone_home xs es) runs ms
merged_all_home [] es runs ms are = are
merged_all_home (x ∷ xs) es runs ms are = merged_all_home xs (gone_home x es) runs ms one
  where
    one : AreMerged (gone_home x es) runs ms
    one = elim x.is_ghost as (λ b. AreMerged (cond b (remove_entry es x.part x.key) (brought_home x es)) runs ms) [
      | true ↦ merged_removed es runs x.part x.key ms are
      | false ↦ merged_home es runs x ms are
    ]

-- ---- where they stand

ge_not_less : (o : Ordering) → is_ge o ≡ true → o ≢ Less
ge_not_less Less h = absurd (false≢true h)
ge_not_less Equal h = λ e. cc
ge_not_less Greater h = λ e. cc

module _ (part : ℕ) (key : OrderedKey) where
  abbrev here : Place
  here = (part, key)

  abbrev is_read : Entry → Bool
  is_read e = (e.part == part) && is_ge (place_cmp (place_of e) here)

  -- the entries of a partition from a key on stand together
  pub together : (es : List Entry) → IsRising es → (front : List Entry) × (back : List Entry) ×
      (es ≡ front ++ (all_from es part key ++ back))
  together [] rise = ([], [], refl)
  together (e ∷ es) rise = ⊎_elim
      (λ from.
      let above : AllAbove here es = rising_above here e es (ge_not_less (place_cmp (place_of e) here) from) rise in
      let not_below : NoneBelow here (e ∷ es) = (
        ge_not_less (place_cmp (place_of e) here) from,
        AllByRecursion-map (λ f. place_cmp (place_of f) here ≡ Greater) (λ f. place_cmp (place_of f) here ≢ Less)
            (λ f g less. let both : Less ≡ Greater = sym less ∙ g in cc) es above,
      ) in
      let reached = AllByRecursion-map (λ f. place_cmp (place_of f) here ≢ Less)
      (λ f. is_ge (place_cmp (place_of f) here) ≡ true)
      (λ f n. not_less (place_cmp (place_of f) here) n) (e ∷ es) not_below in
      let front_is : take_while (λ (f : Entry). f.part == part) (e ∷ es) ≡ all_from (e ∷ es) part key =
      all_reached_front part key is_ge (e ∷ es) rise reached not_below in (
        [],
        drop (Rattle.std.specs.List.prefix_len (λ (f : Entry). f.part == part) (e ∷ es)) (e ∷ es),
        sym (take-append-drop (Rattle.std.specs.List.prefix_len (λ (f : Entry). f.part == part) (e ∷ es)) (e ∷ es)) ∙
            ap (λ l. l ++ drop (Rattle.std.specs.List.prefix_len (λ (f : Entry). f.part == part) (e ∷ es)) (e ∷ es))
            front_is,
      ))
      (λ before.
      let rest = together es rise.1 in (
        e ∷ rest.0,
        rest.1,
        ap (λ l. e ∷ l) rest.2 ∙ ap (λ l. e ∷ (rest.0 ++ (l ++ rest.1)))
            (sym (filter-no is_read e es (and_right (e.part == part) (is_ge (place_cmp (place_of e) here)) before))),
      ))
      (cases_Bool (is_ge (place_cmp (place_of e) here)))

  pub all_of_part : (es : List Entry) → AllByRecursion (λ e. e.part ≡ part) (all_from es part key)
  all_of_part [] = tt
  all_of_part (e ∷ es) = ⊎_elim
      (λ yes. subst (AllByRecursion (λ f. f.part ≡ part)) (sym (cond-true (is_read e) (e ∷ all_from es part key)
      (all_from es part key) yes)) (
        eqb-true e.part part
            (and_parts (e.part == part) (is_ge (place_cmp (place_of e) here)) yes).0,
        all_of_part es,
      ))
      (λ no. subst (AllByRecursion (λ f. f.part ≡ part)) (sym (cond-false (is_read e) (e ∷ all_from es part key)
      (all_from es part key) no)) (all_of_part es))
      (cases_Bool (is_read e))

-- the first n of a stretch stand together, in a run
module _ (es : List Entry) (rise : IsRising es) (xs : List Entry) (stretch : IsStretch es xs) (n : ℕ)
    (le : n ≤ length xs) where
  abbrev all : List Entry
  all = all_from es stretch.run stretch.key

  as_read : take n xs ≡ take n all
  as_read = ap (take n) stretch.first ∙ take-take n (length xs) all le

  pub stand_together : (front : List Entry) × (back : List Entry) × (es ≡ front ++ (take n xs ++ back))
  stand_together =
      let w = together stretch.run stretch.key es rise in (
        w.0,
        drop n all ++ w.1,
        w.2 ∙ ap (λ l. w.0 ++ (l ++ w.1)) (sym (take-append-drop n all)) ∙
            ap (λ l. w.0 ++ l) (append_assoc (take n all) (drop n all) w.1) ∙
            ap (λ l. w.0 ++ (l ++ (drop n all ++ w.1))) (sym as_read),
      )

  pub in_runs : AllInRuns (take n xs)
  in_runs = subst AllInRuns (sym as_read) (AllByRecursion-take (λ e. 0 < e.part) n all
      (AllByRecursion-map (λ e. e.part ≡ stretch.run) (λ e. 0 < e.part)
      (λ e same. omega (arith, same, stretch.is_run)) all (all_of_part stretch.run stretch.key es)))

-- nothing that stood in the final partition went
pub absent_unless : (b : Bool) (s : Slot) (o : Option Slot) → cond b (Some s) o ≡ None → o ≡ None
absent_unless true s o h = absurd (none-some s (sym h))
absent_unless false s o h = h

-- under another key it has what it had
other_home : (m : Entry) (es : List Entry) → IsRising es → (key : OrderedKey) → m.key ≢ key →
    find (settled_too m es) 0 key ≡ find es 0 key
other_home m es rise key other = elim m.is_ghost as (λ b. find (cond b es (settled m es)) 0 key ≡ find es 0 key)
    [ true ↦ refl | false ↦ settles (find es 0 m.key) refl ]
  where
    final : Entry
    final = record m { part = 0; is_ghost = false }

    apart : same_place 0 key 0 m.key ≡ false
    apart = other_key 0 0 key m.key (λ e. other (sym e))

    settles : (o : Option Slot) → find es 0 m.key ≡ o → find (settled m es) 0 key ≡ find es 0 key
    settles None h = ap (λ l. find l 0 key) (ap (λ (o : Option Slot).
        cond (is_some o) (set_entry es 0 m.key m.value false) (insert_entry es final)) h) ∙
        inserted_finds es rise final 0 key ∙
        cond-false (same_place 0 key 0 m.key) (Some (slot_of final)) (find es 0 key) apart
    settles (Some s) h = ap (λ l. find l 0 key) (ap (λ (o : Option Slot).
        cond (is_some o) (set_entry es 0 m.key m.value false) (insert_entry es final)) h) ∙
        reset_finds es rise 0 m.key m.value false (ap is_some h) 0 key ∙
        cond-false (same_place 0 key 0 m.key) (Some (m.value, false)) (find es 0 key) apart

others_home : (ms es : List Entry) → IsRising es → (key : OrderedKey) → AllByRecursion (λ m. m.key ≢ key) ms →
    find (all_settled ms es) 0 key ≡ find es 0 key
others_home [] es rise key others = refl
others_home (m ∷ ms) es rise key others =
    others_home ms (settled_too m es) (rising_settled_too m es rise) key others.1 ∙ other_home m es rise key others.0

-- in one partition those before an entry have other keys
keys_apart : (run : ℕ) (ms : List Entry) (y : Entry) (ys : List Entry) → IsRising (ms ++ y ∷ ys) →
    AllByRecursion (λ e. e.part ≡ run) (ms ++ y ∷ ys) → AllByRecursion (λ m. m.key ≢ y.key) ms
keys_apart run [] y ys rise parts = tt
keys_apart run (m ∷ ms) y ys rise parts = (
  λ same.
      let less : place_cmp (place_of m) (place_of y) ≡ Less =
      (AllByRecursion-back (λ (f : Entry). place_cmp (place_of m) (place_of f) ≡ Less) ms (y ∷ ys) rise.0).0 in
      let part : m.part ≡ y.part =
      parts.0 ∙ sym (AllByRecursion-back (λ (e : Entry). e.part ≡ run) ms (y ∷ ys) parts.1).0 in
      let place : place_of m ≡ place_of y = λ i. (part i, same i) in
      let both : Less ≡ Equal =
      sym less ∙ ap (λ (q : Place). place_cmp q (place_of y)) place ∙ place_cmp-itself (place_of y) in
      cc,
  keys_apart run ms y ys rise.1 parts.1,
)

-- the next one needs no more room than it did before the others settled
needs_as_before : (run : ℕ) (ms es ys : List Entry) → IsRising es → IsRising (ms ++ ys) →
    AllByRecursion (λ e. e.part ≡ run) (ms ++ ys) → FirstNeedsRoom (all_settled ms es) ys → FirstNeedsRoom es ys
needs_as_before run ms es [] rise rises parts needs = needs
needs_as_before run ms es (y ∷ ys) rise rises parts needs = (
  needs.0,
  ap (λ (o : Option Slot). needs_room o y.value)
      (sym (others_home ms es rise y.key (keys_apart run ms y ys rises parts))) ∙ needs.1,
)

pub needs_before : (es xs : List Entry) → IsRising es → IsStretch es xs → (n : ℕ) →
    FirstNeedsRoom (all_settled (take n xs) es) (drop n xs) → FirstNeedsRoom es (drop n xs)
needs_before es xs rise stretch n = needs_as_before stretch.run (take n xs) es (drop n xs) rise
    (subst IsRising whole (rising-take (length xs) read
    (pass_rising (λ (e : Entry). (e.part == stretch.run) && is_ge (place_cmp (place_of e) (stretch.run, stretch.key)))
    es rise)))
    (subst (AllByRecursion (λ e. e.part ≡ stretch.run)) whole
    (AllByRecursion-take (λ e. e.part ≡ stretch.run) (length xs) read (all_of_part stretch.run stretch.key es)))
  where
    read : List Entry
    read = all_from es stretch.run stretch.key

    whole : take (length xs) read ≡ take n xs ++ drop n xs
    whole = sym stretch.first ∙ sym (take-append-drop n xs)

all_stand : (xs front back : List Entry) → IsRising (front ++ (xs ++ back)) → AllInRuns xs →
    all_settled xs (front ++ (xs ++ back)) ≡ all_settled xs front ++ (xs ++ back)
all_stand [] front back rise runs = refl
all_stand (x ∷ xs) front back rise runs = still_stand (x ∷ xs) (x ∷ xs) front back rise runs (omega arith)

-- the first n of a stretch go home
module _ {es : List Entry} (sound : AreWellFormed es) (xs : List Entry) (stretch : IsStretch es xs) (n : ℕ)
    (le : n ≤ length xs) where
  stand : (front : List Entry) × (back : List Entry) × (es ≡ front ++ (take n xs ++ back))
  stand = stand_together es sound.rising xs stretch n le

  runs : AllInRuns (take n xs)
  runs = in_runs es sound.rising xs stretch n le

  rise : IsRising (stand.0 ++ (take n xs ++ stand.1))
  rise = subst IsRising stand.2 sound.rising

  pub front_then : List Entry
  front_then = all_settled (take n xs) stand.0

  pub back_then : List Entry
  back_then = stand.1

  pub settled_is : all_settled (take n xs) es ≡ front_then ++ (take n xs ++ back_then)
  unfolding front_then back_then
  settled_is = ap (all_settled (take n xs)) stand.2 ∙ all_stand (take n xs) stand.0 stand.1 rise runs

  pub home_is : all_gone_home (take n xs) es ≡ front_then ++ back_then
  unfolding front_then back_then
  home_is = ap (all_gone_home (take n xs)) stand.2 ∙ all_go_home (take n xs) stand.0 stand.1 rise runs

  pub settled_rise : IsRising (front_then ++ (take n xs ++ back_then))
  settled_rise = subst IsRising settled_is (rising_all_settled (take n xs) es sound.rising)

  pub at_home : IsAfter (all_gone_home (take n xs) es) (content es)
  at_home = subst (λ l. IsAfter (all_gone_home (take n xs) l) (content l)) (sym stand.2)
      (all_home (take n xs) stand.0 stand.1 (subst AreWellFormed stand.2 sound) runs)
