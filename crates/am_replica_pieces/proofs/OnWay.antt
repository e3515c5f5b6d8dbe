-- Entries that are on their way.
use Rattle.std.proofs.Common.{◌≡◌, ℕ, ◌≤◌, ◌==◌, List, [], ◌∷◌, ◌++◌, Bool, true, false, ◌&&◌, ◌||◌, cond}
use Rattle.std.proofs.Common.{arith, refl, Option, Some, None, sym, subst, ap, ◌∙◌, append_assoc}
use Rattle.std.proofs.Math.Bool.{and-false}
use Rattle.std.proofs.lemmas.Bool.{or_parts, or_right}
use Rattle.std.proofs.lemmas.Option.{none-some}
use Rattle.am_replica_log.specs.declared.event.Name.{Name}
use Rattle.am_replica_log.specs.declared.event.Part.{Part}
use Rattle.am_replica_log.specs.declared.event.Part.TheVariants.{Piece as PiecePart, Head}
use Rattle.am_replica_log.specs.declared.pieces.Entry.{Entry}
use Rattle.am_replica_log.specs.LogState.{LogState}
use Rattle.am_replica_log.specs.History.{Change, Puts, Writes, Moves, Deletes, Others, History, same, generation}
use Rattle.am_replica_log.specs.History.{counts}
use Rattle.am_replica_log.specs.History.{open_pieces}
use Rattle.am_replica_log.specs.History.{is_same_part, shown}
use Rattle.am_replica_log.specs.History.{joined}
use Rattle.am_replica_log.specs.Readers.{behind, IsAt, counted_for}
use Rattle.am_replica_log.specs.Writers.{has_counted, AllKeepPremise, KeepsPremise, NeverCounted}
use Rattle.am_replica_log.proofs.Once.{generations_rise, never_later}
use Rattle.am_replica_pieces.specs.Cut.{part_at, bytes_at}
use Rattle.am_replica_pieces.specs.Turns.{was_put, IsPart, AreParts}
use Rattle.am_replica_pieces.specs.WriterState.{WriterState}
use Rattle.am_replica_pieces.specs.Writing.{tells, IsOnWay, IsByWriter, AreByWriters}

-- ---- a part that is put now

pub may_put : (most : ℕ) (text : List ℕ) (w : WriterState) (since read : History) (part : Part) (bytes : List ℕ)
    → AllKeepPremise (since ++ read) → IsOnWay most text w since read → w.is_seen ≡ false
    → KeepsPremise (Puts w.generation w.name part bytes) (since ++ read)
may_put most text w since read part bytes ok is unseen =
    let began : w.generation ≤ generation read = is.began in
    let rise : generation read ≤ generation (since ++ read) = generations_rise since read ok in
    (omega arith, λ g under. never_later g w.name since read ok (omega (arith, under)) (is.unseen unseen g))

pub is_part : (most : ℕ) (text : List ℕ) (w : WriterState) (since read : History) (part : Part) (bytes : List ℕ)
    → IsOnWay most text w since read → part ≡ part_at most text w.next → bytes ≡ bytes_at most text w.next
    → IsPart most text w.generation w.name part bytes (since ++ read)
is_part most text w since read part bytes is part_is bytes_are = record {
  number = w.next;
  here = is.here;
  part_is = part_is;
  bytes_are = bytes_are;
  in_turn = is.in_turn;
}

-- ---- what the log tells

counted_by_test : (test : Bool) (e : Entry) (name : Name) (g h : ℕ) (before : Bool)
    → tells (cond test (Some e) None) name ≡ false → before ≡ false
    → (((g == h) && (same name e.name && test)) || before) ≡ false
counted_by_test true e name g h before untold not_before =
    ap (λ t. ((g == h) && (t && true)) || before) untold ∙ ap (λ t. t || before) (and-false (g == h)) ∙ not_before
counted_by_test false e name g h before untold not_before =
    ap (λ t. ((g == h) && t) || before) (and-false (same name e.name)) ∙ ap (λ t. t || before) (and-false (g == h)) ∙
    not_before

still_uncounted : (from : ℕ) (change : Change) (read : History) (name : Name)
    → tells (counted_for from change read) name ≡ false → NeverCounted name read → NeverCounted name (change ∷ read)
still_uncounted from (Puts h other Head bytes) read name untold never g =
    counted_by_test (counts h other Head read)
    (record { name = other; text = joined other (behind from (open_pieces read)) bytes }) name g h
    (has_counted g name read) untold (never g)
still_uncounted from (Puts h other (PiecePart n) bytes) read name untold never g = never g
still_uncounted from (Writes s) read name untold never g = never g
still_uncounted from (Moves f) read name untold never g = never g
still_uncounted from (Deletes d) read name untold never g = never g
still_uncounted from Others read name untold never g = never g

module _ (most : ℕ) (text : List ℕ) (from : ℕ) (change : Change) (since read : History) (w : WriterState)
    (log : LogState) (told : Option Entry) (ok : AllKeepPremise (change ∷ read)) (at : IsAt from log (change ∷ read))
    (told_is : told ≡ counted_for from change read) (is : IsOnWay most text w (since ++ change ∷ []) read) where
  unseen_still : (w.is_seen || tells told w.name) ≡ false → NeverCounted w.name (change ∷ read)
  unseen_still unseen =
      let parts = or_parts w.is_seen (tells told w.name) unseen in
      still_uncounted from change read w.name
      (subst (λ (t : Option Entry). tells t w.name ≡ false) told_is parts.1) (is.unseen parts.0)

  -- under the same generation
  pub heard : IsOnWay most text (record w { is_seen = w.is_seen || tells told w.name }) since (change ∷ read)
  heard =
      let began : w.generation ≤ generation read = is.began in
      let rise : generation read ≤ generation (change ∷ read) = generations_rise (change ∷ []) read ok in
      record {
        here = is.here;
        began = omega arith;
        in_turn = λ n under. subst (λ (h : History). was_put w.generation w.name (PiecePart n) h ≡ true)
            (append_assoc since (change ∷ []) read) (is.in_turn n under);
        unseen = unseen_still;
      }

  -- under the one that began
  pub heard_anew : IsOnWay most text
      (record w { generation = log.generation; next = 0; is_seen = w.is_seen || tells told w.name })
      since (change ∷ read)
  heard_anew =
      let same_one : log.generation ≡ generation (change ∷ read) = at.generation in
      record {
        here = omega arith;
        began = omega arith;
        in_turn = λ n under. absurd (omega (arith, under));
        unseen = unseen_still;
      }

-- ---- what is done meanwhile

was_put_later : (g : ℕ) (name : Name) (part : Part) (more b : History) → was_put g name part b ≡ true →
    was_put g name part (more ++ b) ≡ true
was_put_later g name part [] b put = put
was_put_later g name part (Puts h other p bytes ∷ more) b put =
    or_right ((g == h) && (same name other && is_same_part part p)) (was_put g name part (more ++ b))
    (was_put_later g name part more b put)
was_put_later g name part (Writes s ∷ more) b put = was_put_later g name part more b put
was_put_later g name part (Moves f ∷ more) b put = was_put_later g name part more b put
was_put_later g name part (Deletes d ∷ more) b put = was_put_later g name part more b put
was_put_later g name part (Others ∷ more) b put = was_put_later g name part more b put

pub stays : (most : ℕ) (text : List ℕ) (w : WriterState) (more since read : History) → IsOnWay most text w since read
    → IsOnWay most text w (more ++ since) read
stays most text w more since read is = record {
  here = is.here;
  began = is.began;
  in_turn = λ n under. subst (λ (h : History). was_put w.generation w.name (PiecePart n) h ≡ true)
      (sym (append_assoc more since read))
      (was_put_later w.generation w.name (PiecePart n) more (since ++ read) (is.in_turn n under));
  unseen = is.unseen;
}

module _ (most : ℕ) (text : List ℕ) (w : WriterState) where
  passed_by : (change : Change) (since read : History) → generation (change ∷ read) ≡ generation read
      → ((g : ℕ) → has_counted g w.name (change ∷ read) ≡ has_counted g w.name read)
      → IsOnWay most text w (since ++ change ∷ []) read → IsOnWay most text w since (change ∷ read)
  passed_by change since read same_one uncounted is =
      let began : w.generation ≤ generation read = is.began in
      record {
        here = is.here;
        began = omega arith;
        in_turn = λ n under. subst (λ (h : History). was_put w.generation w.name (PiecePart n) h ≡ true)
            (append_assoc since (change ∷ []) read) (is.in_turn n under);
        unseen = λ unseen g. uncounted g ∙ is.unseen unseen g;
      }

  pub untold : (change : Change) (since read : History) → shown change read ≡ None
      → IsOnWay most text w (since ++ change ∷ []) read → IsOnWay most text w since (change ∷ read)
  untold (Puts h other part bytes) since read none is = absurd (none-some _ (sym none))
  untold (Moves f) since read none is = absurd (none-some _ (sym none))
  untold (Writes s) since read none is = passed_by (Writes s) since read refl (λ g. refl) is
  untold (Deletes d) since read none is = passed_by (Deletes d) since read refl (λ g. refl) is
  untold Others since read none is = passed_by Others since read refl (λ g. refl) is

-- ---- whole histories

by_writer : (most : ℕ) (text : List ℕ) (g : ℕ) (name : Name) (part : Part) (bytes : List ℕ) (before : History)
    → IsByWriter most text g name part bytes before → AllKeepPremise before
    → KeepsPremise (Puts g name part bytes) before × IsPart most text g name part bytes before
by_writer most text g name part bytes before is ok =
    let w = is.writer in
    let here : AllKeepPremise (is.since ++ is.read) = subst AllKeepPremise (sym is.before_is) ok in
    let both : KeepsPremise (Puts w.generation w.name part bytes) (is.since ++ is.read)
    × IsPart most text w.generation w.name part bytes (is.since ++ is.read) = (
      may_put most text w is.since is.read part bytes here is.on_way is.unseen,
      is_part most text w is.since is.read part bytes is.on_way is.part_is is.bytes_are,
    ) in
    let named = subst (λ (n : Name). KeepsPremise (Puts w.generation n part bytes) (is.since ++ is.read)
    × IsPart most text w.generation n part bytes (is.since ++ is.read)) is.name_is both in
    let placed = subst (λ (h : ℕ). KeepsPremise (Puts h name part bytes) (is.since ++ is.read)
    × IsPart most text h name part bytes (is.since ++ is.read)) is.generation_is named in
    subst (λ (h : History). KeepsPremise (Puts g name part bytes) h × IsPart most text g name part bytes h) is.before_is
    placed

pub keep_to : (most : ℕ) (texts : Name → List ℕ) (history : History) → AreByWriters most texts history
    → AllKeepPremise history × AreParts most texts history
keep_to most texts [] are = (tt, tt)
keep_to most texts (Puts g name part bytes ∷ before) are =
    let rest = keep_to most texts before are.1 in
    let here = by_writer most (texts name) g name part bytes before are.0 rest.0 in
    ((here.0, rest.0), (here.1, rest.1))
keep_to most texts (Writes s ∷ before) are =
    let rest = keep_to most texts before are.1 in
    ((are.0, rest.0), rest.1)
keep_to most texts (Moves f ∷ before) are =
    let rest = keep_to most texts before are.1 in
    ((are.0, rest.0), rest.1)
keep_to most texts (Deletes d ∷ before) are =
    let rest = keep_to most texts before are.1 in
    ((are.0, rest.0), rest.1)
keep_to most texts (Others ∷ before) are =
    let rest = keep_to most texts before are.1 in
    ((are.0, rest.0), rest.1)
