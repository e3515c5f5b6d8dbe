-- No entry counts twice.
use Rattle.std.proofs.Common.{◌≡◌, ℕ, ◌+◌, ◌-◌, ◌<◌, ◌≤◌, ◌==◌, List, [], ◌∷◌, ◌++◌, Bool, true, false, ◌&&◌, not, cond}
use Rattle.std.proofs.Common.{arith, refl}
use Rattle.std.proofs.Common.{Some, None, inl, inr, sym, subst, ap, ◌∙◌}
use Rattle.std.specs.Prelude.{ltb, option_to_list}
use Rattle.std.specs.List.{AllByRecursion, IsDistinct}
use Rattle.std.proofs.lemmas.Bool.{cases_lt, or_cases, and_cases, and_parts, or_parts, or_left, or_right, and_from}
use Rattle.std.proofs.lemmas.Bool.{not_from_false, not-true}
use Rattle.std.proofs.lemmas.Bool.{eqb-true, eq-eqb, le-ltb, false_from_ne_true, false≢true, both_ways}
use Rattle.am_replica_log.specs.declared.event.Name.{Name}
use Rattle.am_replica_log.specs.declared.event.Snapshot.{Snapshot}
use Rattle.am_replica_log.specs.declared.event.Part.TheVariants.{Piece as PiecePart, Head}
use Rattle.am_replica_log.specs.declared.pieces.Entry.{Entry}
use Rattle.am_replica_log.specs.declared.deletion.Deletion.{Deletion}
use Rattle.am_replica_log.specs.History.{Puts, Moves, Deletes, History, same, is_same_part, same_entry, generation}
use Rattle.am_replica_log.specs.History.{names}
use Rattle.am_replica_log.specs.History.{is_done, is_there, counts, open_pieces, joined, counted_entries}
use Rattle.am_replica_log.specs.Writers.{has_counted, deletion_of, AllKeepPremise}

-- the snapshot that the floor names is of the present generation
pub named_now : (s : Snapshot) (b : History) → names s b ≡ true → generation b ≡ s.generation
named_now s [] h = absurd (false≢true h)
named_now s (Moves f ∷ b) h = sym (eqb-true s.generation f.snapshot.generation
    (and_parts (s.generation == f.snapshot.generation) (s.writer == f.snapshot.writer) h).0)
named_now s (change ∷ b) h = named_now s b h

-- what counted did so under a generation that has begun
counted_began : (g : ℕ) (name : Name) (b : History) → AllKeepPremise b → has_counted g name b ≡ true → g ≤ generation b
counted_began g name [] ok h = absurd (false≢true h)
counted_began g name (Puts k other Head text ∷ b) ok h =
    elim (or_cases ((g == k) && (same name other && counts k other Head b)) (has_counted g name b) h) [
      | inl e ↦
          let p = and_parts (g == k) (same name other && counts k other Head b) e in
          let q = and_parts (same name other) (counts k other Head b) p.1 in
          let r = and_parts (k == generation b) (not (is_there k other Head b)) q.1 in
          let gk : g ≡ k = eqb-true g k p.0 in
          let kb : k ≡ generation b = eqb-true k (generation b) r.0 in
          omega arith
      | inr e ↦ counted_began g name b ok.1 e
    ]
counted_began g name (Puts k other (PiecePart n) text ∷ b) ok h = counted_began g name b ok.1 h
counted_began g name (Moves f ∷ b) ok h =
    let next : f.snapshot.generation ≡ generation b + 1 = ok.0.1 in
    let began : g ≤ generation b = counted_began g name b ok.1 h in
    omega arith
counted_began g name (change ∷ b) ok h = counted_began g name b ok.1 h

-- a deletion that is done leaves the present generation
spares : (d : Deletion) (s : Snapshot) (b : History) → d ≡ deletion_of s → (done : Bool) → names s b ≡ done
    → (done && ltb (generation b) d.generation) ≡ false
spares d s b made false at = refl
spares d s b made true at =
    let here : generation b ≡ s.generation = named_now s b at in
    let below : d.generation ≡ s.generation - 1 = ap (λ e. e.generation) made in
    le-ltb (generation b) d.generation (omega arith)

pub spared : (d : Deletion) (b : History) → ((s : Snapshot) × (d ≡ deletion_of s)) →
    (is_done d b && ltb (generation b) d.generation) ≡ false
spared d b made =
    ap (λ e. is_done e b && ltb (generation b) d.generation) made.1 ∙ spares d made.0 b made.1 (names made.0 b) refl

-- what counted under the present generation is there
counted_stays : (g : ℕ) (name : Name) (b : History) → AllKeepPremise b → generation b ≡ g →
    has_counted g name b ≡ true →
    is_there g name Head b ≡ true
counted_stays g name [] ok at h = absurd (false≢true h)
counted_stays g name (Puts k other Head text ∷ b) ok at h =
    elim (or_cases ((g == k) && (same name other && counts k other Head b)) (has_counted g name b) h) [
      | inl e ↦
          let p = and_parts (g == k) (same name other && counts k other Head b) e in
          let q = and_parts (same name other) (counts k other Head b) p.1 in
          or_left ((g == k) && (same name other && is_same_part Head Head)) (is_there g name Head b)
          (and_from (g == k) (same name other && is_same_part Head Head) p.0
          (and_from (same name other) (is_same_part Head Head) q.0 refl))
      | inr e ↦ or_right ((g == k) && (same name other && is_same_part Head Head)) (is_there g name Head b)
          (counted_stays g name b ok.1 at e)
    ]
counted_stays g name (Puts k other (PiecePart n) text ∷ b) ok at h =
    or_right ((g == k) && (same name other && is_same_part Head (PiecePart n))) (is_there g name Head b)
    (counted_stays g name b ok.1 at h)
counted_stays g name (Moves f ∷ b) ok at h =
    let next : f.snapshot.generation ≡ generation b + 1 = ok.0.1 in
    let began : g ≤ generation b = counted_began g name b ok.1 h in
    let here : f.snapshot.generation ≡ g = at in
    absurd (omega arith)
counted_stays g name (Deletes d ∷ b) ok at h =
    let here : generation b ≡ g = at in
    let left : (is_done d b && ltb g d.generation) ≡ false = subst (λ k. (is_done d b && ltb k d.generation) ≡ false)
    here (spared d b ok.0) in
    and_from (not (is_done d b && ltb g d.generation)) (is_there g name Head b)
    (not_from_false (is_done d b && ltb g d.generation) left) (counted_stays g name b ok.1 at h)
counted_stays g name (change ∷ b) ok at h = counted_stays g name b ok.1 at h

-- an entry that counts now counted never before
fresh : (k : ℕ) (name : Name) (b : History) → AllKeepPremise b → ((h : ℕ) → h < k → has_counted h name b ≡ false) →
    counts k name Head b ≡ true
    → (g : ℕ) → has_counted g name b ≡ false
fresh k name b ok below counted g =
    let p = and_parts (k == generation b) (not (is_there k name Head b)) counted in
    let here : k ≡ generation b = eqb-true k (generation b) p.0 in
    let gone : is_there k name Head b ≡ false = not-true (is_there k name Head b) p.1 in
    false_from_ne_true (has_counted g name b) (λ did.
    elim (cases_lt g k) [
      | inl under ↦ both_ways (has_counted g name b) (below g under) did
      | inr above ↦
          let began : g ≤ generation b = counted_began g name b ok did in
          let same_one : g ≡ k = omega arith in
          both_ways (is_there k name Head b) gone (counted_stays k name b ok (sym here)
          (subst (λ n. has_counted n name b ≡ true) same_one did))
    ])

-- ---- entries

abbrev Apart : Name → List Entry → Type 0
Apart name es = AllByRecursion (λ e. same name e.name ≡ false) es

-- another name, or it didn't count
differs : (name other : Name) (k : ℕ) (did : Bool) → ((k == k) && (same name other && did)) ≡ false → did ≡ true →
    same name other ≡ false
differs name other k did h was =
    elim (and_cases (k == k) (same name other && did) h) [
      | inl e ↦ absurd (both_ways (k == k) e (eq-eqb k k refl))
      | inr e ↦ elim (and_cases (same name other) did e) [ inl f ↦ f | inr f ↦ absurd (both_ways did f was) ]
    ]

apart_from : (name : Name) (e : Entry) (did : Bool) (rest : List Entry) → (did ≡ true → same name e.name ≡ false) →
    Apart name rest
    → Apart name (option_to_list (cond did (Some e) None) ++ rest)
apart_from name e true rest apart all = (apart refl, all)
apart_from name e false rest apart all = all

-- a put of a piece ends nothing
piece_ends_nothing : (did : Bool) (rest : List Entry) → option_to_list (cond did None None) ++ rest ≡ rest
piece_ends_nothing true rest = refl
piece_ends_nothing false rest = refl

-- where it counted under no generation, it isn't among the entries
uncounted : (name : Name) (b : History) → ((g : ℕ) → has_counted g name b ≡ false) → Apart name (counted_entries b)
uncounted name [] never = tt
uncounted name (Puts k other Head text ∷ b) never =
    let parts = or_parts ((k == k) && (same name other && counts k other Head b)) (has_counted k name b) (never k) in
    let rest = uncounted name b (λ g. (or_parts ((g == k) && (same name other && counts k other Head b))
    (has_counted g name b) (never g)).1) in
    apart_from name (record { name = other; text = joined other (open_pieces b) text }) (counts k other Head b)
    (counted_entries b)
    (differs name other k (counts k other Head b) parts.0) rest
uncounted name (Puts k other (PiecePart n) text ∷ b) never =
    subst (Apart name) (sym (piece_ends_nothing (counts k other (PiecePart n) b) (counted_entries b)))
    (uncounted name b never)
uncounted name (change ∷ b) never = uncounted name b never

head_by : (e : Entry) (did : Bool) (rest : List Entry) → IsDistinct same_entry rest → (did ≡ true → Apart e.name rest)
    → IsDistinct same_entry (option_to_list (cond did (Some e) None) ++ rest)
unfolding IsDistinct
head_by e true rest apart new = (new refl, apart)
head_by e false rest apart new = apart

pub once : (b : History) → AllKeepPremise b → IsDistinct same_entry (counted_entries b)
unfolding IsDistinct
once [] ok = tt
once (Puts k name Head text ∷ b) ok =
    head_by (record { name = name; text = joined name (open_pieces b) text }) (counts k name Head b) (counted_entries b)
    (once b ok.1)
    (λ counted. uncounted name b (fresh k name b ok.1 ok.0.1 counted))
once (Puts k name (PiecePart n) text ∷ b) ok =
    subst (IsDistinct same_entry) (sym (piece_ends_nothing (counts k name (PiecePart n) b) (counted_entries b)))
    (once b ok.1)
once (change ∷ b) ok = once b ok.1

-- ---- puts that come late

pub generations_rise : (later b : History) → AllKeepPremise (later ++ b) → generation b ≤ generation (later ++ b)
generations_rise [] b ok = omega arith
generations_rise (Moves f ∷ later) b ok =
    let rest : generation b ≤ generation (later ++ b) = generations_rise later b ok.1 in
    let next : f.snapshot.generation ≡ generation (later ++ b) + 1 = ok.0.1 in
    omega arith
generations_rise (change ∷ later) b ok = generations_rise later b ok.1

-- what didn't count under a generation that is over never does
pub never_later : (g : ℕ) (name : Name) (later b : History) → AllKeepPremise (later ++ b) → g < generation b →
    has_counted g name b ≡ false
    → has_counted g name (later ++ b) ≡ false
never_later g name [] b ok over never = never
never_later g name (Puts k other Head text ∷ later) b ok over never =
    let rise : generation b ≤ generation (later ++ b) = generations_rise later b ok.1 in
    let rest = never_later g name later b ok.1 over never in
    false_from_ne_true (has_counted g name (Puts k other Head text ∷ (later ++ b))) (λ did.
    elim (or_cases ((g == k) && (same name other && counts k other Head (later ++ b))) (has_counted g name (later ++ b))
    did) [
      | inl e ↦
          let p = and_parts (g == k) (same name other && counts k other Head (later ++ b)) e in
          let q = and_parts (same name other) (counts k other Head (later ++ b)) p.1 in
          let r = and_parts (k == generation (later ++ b)) (not (is_there k other Head (later ++ b))) q.1 in
          let gk : g ≡ k = eqb-true g k p.0 in
          let kb : k ≡ generation (later ++ b) = eqb-true k (generation (later ++ b)) r.0 in
          omega arith
      | inr e ↦ both_ways (has_counted g name (later ++ b)) rest e
    ])
never_later g name (Puts k other (PiecePart n) text ∷ later) b ok over never = never_later g name later b ok.1 over
    never
never_later g name (change ∷ later) b ok over never = never_later g name later b ok.1 over never
