-- The snapshot that the floor names stays.
use Rattle.std.proofs.Common.{◌≡◌, ◌+◌, ◌<◌, [], ◌∷◌, Bool, true, false, ◌&&◌, not, arith, refl}
use Rattle.std.proofs.Common.{Some, None, inl, inr, subst, ap, ◌∙◌}
use Rattle.std.specs.Prelude.{ltb, Option, IfSome, ◌⊎◌}
use Rattle.std.proofs.lemmas.Bool.{or_cases, or_left, or_right, lt-ltb, false≢true, both_ways}
use Rattle.am_replica_log.specs.declared.event.Snapshot.{Snapshot}
use Rattle.am_replica_log.specs.declared.deletion.Deletion.{Deletion}
use Rattle.am_replica_log.specs.History.{Writes, Moves, Deletes, History, same_snapshot, generation, names, is_done}
use Rattle.am_replica_log.specs.History.{lets_go}
use Rattle.am_replica_log.specs.History.{is_whole}
use Rattle.am_replica_log.specs.Writers.{was_written, deletion_of, AllKeepPremise, snapshot_named}
use Rattle.am_replica_log.proofs.Once.{named_now}

-- what a deletion leaves stays where it stood
left_there : (gone there : Bool) → gone ≡ false → there ≡ true → (not gone && there) ≡ true
left_there true there h t = absurd (both_ways true h refl)
left_there false there h t = t

-- a deletion of another snapshot's writer isn't done, and that of its own leaves it; so does each one, the next
-- snapshot
leaves : (d : Deletion) (t : Snapshot) (s : Snapshot) (b : History) → d ≡ deletion_of t → (done : Bool) →
    names t b ≡ done
    → (names t b ≡ true → lets_go (deletion_of t) s ≡ false) → (is_done d b && lets_go d s) ≡ false
leaves d t s b made false at spares = ap (λ e. is_done e b && lets_go e s) made ∙
    ap (λ n. n && lets_go (deletion_of t) s) at
leaves d t s b made true at spares = ap (λ e. is_done e b && lets_go e s) made ∙
    ap (λ n. n && lets_go (deletion_of t) s) at ∙ spares at

no_more : (b : Bool) → (b && not true) ≡ false
no_more true = refl
no_more false = refl

own_stays : (t s : Snapshot) → same_snapshot t s ≡ true → lets_go (deletion_of t) s ≡ false
own_stays t s h = ap (λ n. not (ltb t.generation s.generation) && not n) h ∙
    no_more (not (ltb t.generation s.generation))

next_stays : (t s : Snapshot) → t.generation < s.generation → lets_go (deletion_of t) s ≡ false
next_stays t s h = ap (λ n. not n && not (same_snapshot t s)) (lt-ltb t.generation s.generation h)

-- what two names of one floor have
same_names : (t s : Snapshot) (b : History) → names t b ≡ true → snapshot_named b ≡ Some s → same_snapshot t s ≡ true
same_names t s [] h n = absurd (false≢true h)
same_names t s (Moves f ∷ b) h n = let e : f.snapshot ≡ s = cc in subst (λ r. same_snapshot t r ≡ true) e h
same_names t s (change ∷ b) h n = same_names t s b h n

-- the snapshots that are to stay: the named one, and each of the next generation that was written since
abbrev IsKept : Snapshot → History → Type 0
IsKept s b = (snapshot_named b ≡ Some s) ⊎ ((s.generation ≡ generation b + 1) × (was_written s b ≡ true))

pub kept_stays : (s : Snapshot) (b : History) → AllKeepPremise b → IsKept s b → is_whole s b ≡ true
kept_stays s [] ok kept = elim kept [ inl e ↦ absurd (cc) | inr e ↦ absurd (false≢true e.1) ]
kept_stays s (Writes t ∷ b) ok kept =
    elim kept [
      | inl e ↦ or_right (same_snapshot s t) (is_whole s b) (kept_stays s b ok.1 (inl e))
      | inr e ↦ elim (or_cases (same_snapshot s t) (was_written s b) e.1) [
        | inl here ↦ or_left (same_snapshot s t) (is_whole s b) here
        | inr before ↦ or_right (same_snapshot s t) (is_whole s b) (kept_stays s b ok.1 (inr (e.0, before)))
      ]
    ]
kept_stays s (Moves f ∷ b) ok kept =
    elim kept [
      | inl e ↦
          let one : f.snapshot ≡ s = cc in
          kept_stays s b ok.1 (inr (subst (λ r. (r.generation ≡ generation b + 1) × (was_written r b ≡ true)) one
          (ok.0.1, ok.0.2)))
      | inr e ↦ absurd (false≢true e.1)
    ]
kept_stays s (Deletes d ∷ b) ok kept =
    let t = ok.0.0 in
    left_there (is_done d b && lets_go d s) (is_whole s b)
    (leaves d t s b ok.0.1 (names t b) refl (λ done.
    elim kept [
      | inl e ↦ own_stays t s (same_names t s b done e)
      | inr e ↦
          let now : generation b ≡ t.generation = named_now t b done in
          let next : s.generation ≡ generation b + 1 = e.0 in
          next_stays t s (omega arith)
    ]))
    (kept_stays s b ok.1 kept)
kept_stays s (change ∷ b) ok kept = kept_stays s b ok.1 kept

named_by : (o : Option Snapshot) (b : History) → snapshot_named b ≡ o → AllKeepPremise b →
    IfSome o (λ s. is_whole s b ≡ true)
named_by None b e ok = tt
named_by (Some s) b e ok = kept_stays s b ok (inl e)

pub named_stays : (b : History) → AllKeepPremise b → IfSome (snapshot_named b) (λ s. is_whole s b ≡ true)
named_stays b ok = named_by (snapshot_named b) b refl ok
