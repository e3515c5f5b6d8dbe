-- The fields of steps: each step has its own, each step is read of them, and some bytes are in none.
use Rattle.std.proofs.Common.{◌≡◌, ℕ, List, [], ◌∷◌, map, Option, Some, None, refl, sym, ap, ◌∙◌, subst, option_map}
use Rattle.std.proofs.Common.{decimal, eqb, true, false}
use Rattle.std.specs.Prelude.{option_and_then, codes}
use Rattle.std.specs.Option.{option_zip}
use Rattle.std.specs.List.{list_all}
use Rattle.std.proofs.lemmas.Bool.{cond-true}
use Rattle.am_record.specs.OrderedKey.{OrderedKey}
use Rattle.am_record.specs.Interval.{Interval, key_le}
use Rattle.am_record.specs.Records.{Records}
use Rattle.am_record.specs.declared.lock.Mode.{Mode}
use Rattle.am_record.specs.declared.lock.Mode.TheVariants.{Shared, Exclusive}
use Rattle.am_record.specs.declared.lock.Lock.{Lock}
use Rattle.am_record.specs.declared.step.Op.{Op}
use Rattle.am_record.specs.declared.step.Op.TheVariants as op
use Rattle.am_record.specs.declared.step.Step.{Step}
use Rattle.am_record.specs.declared.step.Step.TheVariants.{Begin, Do, Commit, Abort, Merge, Clean}
use Rattle.am_record.proofs.Outcomes.{mapped, gate}
use Rattle.am_line_text.specs.Locks.{mode_word, interval_for, mode_for}
use Rattle.am_line_text.specs.Verbs.{word_of, verb_for}
use Rattle.am_line_text.specs.declared.verb.Verb.{Verb}
use Rattle.am_line_text.specs.declared.verb.Verb.TheVariants as verb
use Rattle.am_trace_text.specs.Cuts.{has_no}
use Rattle.am_trace_text.specs.Words.{hex, key_word, record_word}
use Rattle.am_trace_text.specs.Bounds.{IsNumber, IsKey, IsValue, IsRecord, AreRecords, IsRange}
use Rattle.am_trace_text.specs.Steps.{verb_of, argument_fields, step_fields, IsOp, IsStep, HasSavepoints, KnowsAllOps}
use Rattle.am_trace_text.specs.Steps.{op_in, do_in, step_of, step_with, step_in}
use Rattle.am_trace_text.specs.FieldReadings.{number_in, key_in, value_in, record_in, range_in, nothing_in}
use Rattle.am_trace_text.specs.FieldReadings.{one_key_in, key_and_value_in, range_and_number_in, lock_fields_in}
use Rattle.am_trace_text.specs.FieldReadings.{lock_of_parts, one_number_in}
use Rattle.am_trace_text.specs.FieldReadings.{records_of_fields, record_first, savepoint_in, in_three}
use Rattle.am_trace_text.specs.declared.version.Version.{Version}
use Rattle.am_trace_text.specs.declared.version.Version.TheVariants.{One, Two, Three}
use Rattle.am_trace_text.proofs.IsText.{IsText, zipped, zip_of, chained, same_some, one_field, two_fields}
use Rattle.am_trace_text.proofs.FieldTexts.{NumberLaws, number_text, key_text, value_text, record_text}
use Rattle.am_trace_text.proofs.FieldTexts.{IsNoDigit, AllHaveNo, is_letter, no_in_letters, no_in_hex, no_in_decimal}
use Rattle.am_trace_text.proofs.FieldTexts.{no_in_key, no_in_records}

-- what is known of the words that a session's lines have too
pub record WordLaws : Type 0 where
  pub numbers : NumberLaws
  pub verb : (word : List ℕ) (v : Verb) → verb_for word ≡ Some v → word_of v ≡ word
  pub verb_word : (v : Verb) → verb_for (word_of v) ≡ Some v
  pub mode : (field : List ℕ) (m : Mode) → mode_for field ≡ Some m → mode_word m ≡ field
  pub mode_word : (m : Mode) → mode_for (mode_word m) ≡ Some m

pub nothing_back : (fs : List (List ℕ)) (u : Unit {0}) → nothing_in fs ≡ Some u → fs ≡ []
nothing_back [] u e = refl
nothing_back (f ∷ fs) u e = cc

module _ (laws : WordLaws) where
  abbrev numbers : NumberLaws
  numbers = laws.numbers

  pub one_number : IsText one_number_in (λ (n : ℕ). decimal n ∷ []) IsNumber
  one_number = let t = one_field number_in (λ n. decimal n) IsNumber (number_text numbers) in
      record { there = t.there; back = t.back }

  pub one_key : (v : Version) → IsText (one_key_in v) (λ (k : OrderedKey). key_word v k ∷ []) (IsKey v)
  one_key v = let t = one_field (key_in v) (key_word v) (IsKey v) (key_text numbers v) in
      record { there = t.there; back = t.back }

  pub key_and_value : (v : Version) → IsText (key_and_value_in v)
      (λ (r : OrderedKey × List ℕ). key_word v r.0 ∷ hex r.1 ∷ []) (IsRecord v)
  key_and_value v = let t = two_fields (key_in v) (key_word v) (IsKey v) (key_text numbers v) value_in hex IsValue
      value_text in record { there = t.there; back = t.back }

  records_there : (v : Version) (rs : Records) → AreRecords v rs → records_of_fields v (map (record_word v) rs) ≡ Some
      rs
  records_there v [] h = refl
  records_there v (r ∷ rs) h = ap (option_map record_first)
      (zip_of (record_in v (record_word v r)) (records_of_fields v (map (record_word v) rs)) r rs
      ((record_text numbers v).there r h.0) (records_there v rs h.1))

  records_back : (v : Version) (fs : List (List ℕ)) (rs : Records) → records_of_fields v fs ≡ Some rs →
      AreRecords v rs × (fs ≡ map (record_word v) rs)
  records_back v [] rs e = let same : [] ≡ rs = cc in (subst (AreRecords v) same tt, ap (map (record_word v)) same)
  records_back v (f ∷ fs) rs e =
      let m = mapped record_first (option_zip (record_in v f) (records_of_fields v fs)) rs e in
      let z = zipped (record_in v f) (records_of_fields v fs) m.0 m.1 in
      let first = (record_text numbers v).back f m.0.0 z.0 in
      let more = records_back v fs m.0.1 z.1 in
      let all : AreRecords v (m.0.0 ∷ m.0.1) = (first.0, more.0) in (
        subst (AreRecords v) m.2 all,
        ap (λ (x : List ℕ). x ∷ fs) first.1 ∙
            ap (λ (xs : List (List ℕ)). record_word v m.0.0 ∷ xs) more.1 ∙ ap (map (record_word v)) m.2,
      )

  pub records : (v : Version) → IsText (records_of_fields v) (map (record_word v)) (AreRecords v)
  records v = record { there = records_there v; back = records_back v }

  -- ---- ranges

  range_there : (v : Version) (r : Interval) → IsRange v r → range_in v (key_word v r.lo) (key_word v r.hi) ≡ Some r
  range_there v r h =
      ap (option_and_then interval_for) (zip_of (key_in v (key_word v r.lo)) (key_in v (key_word v r.hi)) r.lo r.hi
      ((key_text numbers v).there r.lo h.0.0) ((key_text numbers v).there r.hi h.0.1))
      ∙ cond-true (key_le r.lo r.hi) (Some r) None h.1

  range_back : (v : Version) (f g : List ℕ) (r : Interval) → range_in v f g ≡ Some r → IsRange v r ×
      ((f ≡ key_word v r.lo) × (g ≡ key_word v r.hi))
  range_back v f g r e =
      let m = chained interval_for (option_zip (key_in v f) (key_in v g)) r e in
      let z = zipped (key_in v f) (key_in v g) m.0 m.1 in
      let lo = (key_text numbers v).back f m.0.0 z.0 in
      let hi = (key_text numbers v).back g m.0.1 z.1 in
      let made : Interval = record { lo = m.0.0; hi = m.0.1 } in
      let o = gate (key_le m.0.0 m.0.1) (Some made) r m.2 in
      let same : made ≡ r = same_some made r o.1 in
      subst (λ (x : Interval). IsRange v x × ((f ≡ key_word v x.lo) × (g ≡ key_word v x.hi))) same
      (((lo.0, hi.0), o.0), (lo.1, hi.1))

  range_number_back : (v : Version) (fs : List (List ℕ)) (x : Interval × ℕ) → range_and_number_in v fs ≡ Some x →
      (IsRange v x.0 × IsNumber x.1) × (fs ≡ key_word v x.0.lo ∷ key_word v x.0.hi ∷ decimal x.1 ∷ [])
  range_number_back v [] x e = cc
  range_number_back v (f ∷ []) x e = cc
  range_number_back v (f ∷ g ∷ []) x e = cc
  range_number_back v (f ∷ g ∷ n ∷ []) x e =
      let z = zipped (range_in v f g) (number_in n) x e in
      let r = range_back v f g x.0 z.0 in
      let k = (number_text numbers).back n x.1 z.1 in (
        (r.0, k.0),
        ap (λ (y : List ℕ). y ∷ g ∷ n ∷ []) r.1.0 ∙ ap (λ (y : List ℕ). key_word v x.0.lo ∷ y ∷ n ∷ [])
            r.1.1 ∙ ap (λ (y : List ℕ). key_word v x.0.lo ∷ key_word v x.0.hi ∷ y ∷ []) k.1,
      )
  range_number_back v (f ∷ g ∷ n ∷ i ∷ fs) x e = cc

  pub range_and_number : (v : Version) → IsText (range_and_number_in v)
      (λ (x : Interval × ℕ). key_word v x.0.lo ∷ key_word v x.0.hi ∷ decimal x.1 ∷ [])
      (λ (x : Interval × ℕ). IsRange v x.0 × IsNumber x.1)
  range_and_number v = record {
    there = λ x h. zip_of (range_in v (key_word v x.0.lo) (key_word v x.0.hi)) (number_in (decimal x.1)) x.0 x.1
        (range_there v x.0 h.0) ((number_text numbers).there x.1 h.1);
    back = range_number_back v;
  }

  abbrev lock_words : Version → Lock → List (List ℕ)
  lock_words v lock = mode_word lock.mode ∷ key_word v lock.range.lo ∷ key_word v lock.range.hi ∷ []

  lock_back : (v : Version) (fs : List (List ℕ)) (lock : Lock) → lock_fields_in v fs ≡ Some lock →
      IsRange v lock.range × (fs ≡ lock_words v lock)
  lock_back v [] lock e = cc
  lock_back v (m ∷ []) lock e = cc
  lock_back v (m ∷ f ∷ []) lock e = cc
  lock_back v (m ∷ f ∷ g ∷ []) lock e =
      let p = mapped lock_of_parts (option_zip (mode_for m) (range_in v f g)) lock e in
      let z = zipped (mode_for m) (range_in v f g) p.0 p.1 in
      let mode = laws.mode m p.0.0 z.0 in
      let r = range_back v f g p.0.1 z.1 in
      subst (λ (x : Lock). IsRange v x.range × (m ∷ f ∷ g ∷ [] ≡ lock_words v x)) p.2 (
        r.0,
        ap (λ (y : List ℕ). y ∷ f ∷ g ∷ []) (sym mode) ∙ ap (λ (y : List ℕ). mode_word p.0.0 ∷ y ∷ g ∷ []) r.1.0 ∙
            ap (λ (y : List ℕ). mode_word p.0.0 ∷ key_word v p.0.1.lo ∷ y ∷ []) r.1.1,
      )
  lock_back v (m ∷ f ∷ g ∷ i ∷ fs) lock e = cc

  pub lock_fields : (v : Version) → IsText (lock_fields_in v) (lock_words v) (λ (lock : Lock). IsRange v lock.range)
  lock_fields v = record {
    there = λ lock h. ap (option_map lock_of_parts)
        (zip_of (mode_for (mode_word lock.mode)) (range_in v (key_word v lock.range.lo) (key_word v lock.range.hi))
        lock.mode lock.range (laws.mode_word lock.mode) (range_there v lock.range h));
    back = lock_back v;
  }

  pub savepoint_back : (v : Version) (fs : List (List ℕ)) (u : Unit {0}) → savepoint_in v fs ≡ Some u →
      HasSavepoints v × (fs ≡ [])
  savepoint_back One fs u e = cc
  savepoint_back _ fs u e = (tt, nothing_back fs u e)

  pub savepoint_there : (v : Version) → HasSavepoints v → savepoint_in v [] ≡ Some tt
  savepoint_there One h = absurd h
  savepoint_there _ h = refl

  -- ---- operations

  pub in_three_there : {A : Type 0} (v : Version) (o : Option A) (a : A) → KnowsAllOps v → o ≡ Some a →
      in_three v o ≡ Some a
  in_three_there One o a h e = absurd h
  in_three_there Two o a h e = absurd h
  in_three_there Three o a h e = e

  pub in_three_back : {A : Type 0} (v : Version) (o : Option A) (a : A) → in_three v o ≡ Some a →
      KnowsAllOps v × (o ≡ Some a)
  in_three_back One o a e = cc
  in_three_back Two o a e = cc
  in_three_back Three o a e = (tt, e)

  op_there : (v : Version) (o : Op) → IsOp v o → op_in v (verb_of o) (argument_fields v o) ≡ Some o
  op_there v (op.Get k) h = ap (option_map op.Get) ((one_key v).there k h)
  op_there v (op.Scan r max) h = ap (option_map (λ (p : Interval × ℕ). op.Scan p.0 p.1))
      ((range_and_number v).there (r, max) h)
  op_there v (op.ScanBack r max) h = ap (option_map (λ (p : Interval × ℕ). op.ScanBack p.0 p.1))
      (in_three_there v (range_and_number_in v (argument_fields v (op.ScanBack r max))) (r, max) h.0
      ((range_and_number v).there (r, max) h.1))
  op_there v (op.Insert k w) h = ap (option_map (λ (r : OrderedKey × List ℕ). op.Insert r.0 r.1))
      ((key_and_value v).there (k, w) h)
  op_there v (op.Replace k w) h = ap (option_map (λ (r : OrderedKey × List ℕ). op.Replace r.0 r.1))
      ((key_and_value v).there (k, w) h)
  op_there v (op.Set k w) h = ap (option_map (λ (r : OrderedKey × List ℕ). op.Set r.0 r.1))
      (in_three_there v (key_and_value_in v (argument_fields v (op.Set k w))) (k, w) h.0
      ((key_and_value v).there (k, w) h.1))
  op_there v (op.DeleteRange r max) h = ap (option_map (λ (p : Interval × ℕ). op.DeleteRange p.0 p.1))
      (in_three_there v (range_and_number_in v (argument_fields v (op.DeleteRange r max))) (r, max) h.0
      ((range_and_number v).there (r, max) h.1))
  op_there v (op.Delete k) h = ap (option_map op.Delete) ((one_key v).there k h)
  op_there v (op.Load rs) h = ap (option_map op.Load) (records_there v rs h)
  op_there v (op.Put rs) h = ap (option_map op.Put)
      (in_three_there v (records_of_fields v (argument_fields v (op.Put rs))) rs h.0 (records_there v rs h.1))
  op_there v (op.Lock lock) h = ap (option_map op.Lock) ((lock_fields v).there lock h)
  op_there v op.Mark h = ap (option_map (λ _. op.Mark)) (savepoint_there v h)
  op_there v op.Back h = ap (option_map (λ _. op.Back)) (savepoint_there v h)

  abbrev IsOpOf : Version → Verb → List (List ℕ) → Op → Type 0
  IsOpOf v w fs o = (verb_of o ≡ w) × (IsOp v o × (fs ≡ argument_fields v o))

  op_back : (v : Version) (w : Verb) (fs : List (List ℕ)) (o : Op) → op_in v w fs ≡ Some o → IsOpOf v w fs o
  op_back v verb.Get fs o e = let m = mapped op.Get (one_key_in v fs) o e in let b = (one_key v).back fs m.0 m.1 in
      subst (IsOpOf v verb.Get fs) m.2 (refl, b)
  op_back v verb.Delete fs o e = let m = mapped op.Delete (one_key_in v fs) o e in let b = (one_key v).back fs m.0 m.1
      in subst (IsOpOf v verb.Delete fs) m.2 (refl, b)
  op_back v verb.Scan fs o e = let m = mapped (λ (p : Interval × ℕ). op.Scan p.0 p.1) (range_and_number_in v fs) o e in
      let b = (range_and_number v).back fs m.0 m.1 in subst (IsOpOf v verb.Scan fs) m.2 (refl, b)
  op_back v verb.Insert fs o e = let m = mapped (λ (r : OrderedKey × List ℕ). op.Insert r.0 r.1) (key_and_value_in v fs)
      o e in let b = (key_and_value v).back fs m.0 m.1 in
      subst (IsOpOf v verb.Insert fs) m.2 (refl, b)
  op_back v verb.Replace fs o e = let m = mapped (λ (r : OrderedKey × List ℕ). op.Replace r.0 r.1)
      (key_and_value_in v fs) o e in let b = (key_and_value v).back fs m.0 m.1 in
      subst (IsOpOf v verb.Replace fs) m.2 (refl, b)
  op_back v verb.ScanBack fs o e =
      let m = mapped (λ (p : Interval × ℕ). op.ScanBack p.0 p.1) (in_three v (range_and_number_in v fs)) o e in
      let k = in_three_back v (range_and_number_in v fs) m.0 m.1 in
      let b = (range_and_number v).back fs m.0 k.1 in
      subst (IsOpOf v verb.ScanBack fs) m.2 (refl, ((k.0, b.0), b.1))
  op_back v verb.Set fs o e =
      let m = mapped (λ (r : OrderedKey × List ℕ). op.Set r.0 r.1) (in_three v (key_and_value_in v fs)) o e in
      let k = in_three_back v (key_and_value_in v fs) m.0 m.1 in
      let b = (key_and_value v).back fs m.0 k.1 in
      subst (IsOpOf v verb.Set fs) m.2 (refl, ((k.0, b.0), b.1))
  op_back v verb.DeleteRange fs o e =
      let m = mapped (λ (p : Interval × ℕ). op.DeleteRange p.0 p.1) (in_three v (range_and_number_in v fs)) o e in
      let k = in_three_back v (range_and_number_in v fs) m.0 m.1 in
      let b = (range_and_number v).back fs m.0 k.1 in
      subst (IsOpOf v verb.DeleteRange fs) m.2 (refl, ((k.0, b.0), b.1))
  op_back v verb.Load fs o e = let m = mapped op.Load (records_of_fields v fs) o e in let b = records_back v fs m.0 m.1
      in subst (IsOpOf v verb.Load fs) m.2 (refl, b)
  op_back v verb.Put fs o e =
      let m = mapped op.Put (in_three v (records_of_fields v fs)) o e in
      let k = in_three_back v (records_of_fields v fs) m.0 m.1 in
      let b = records_back v fs m.0 k.1 in
      subst (IsOpOf v verb.Put fs) m.2 (refl, ((k.0, b.0), b.1))
  op_back v verb.Lock fs o e = let m = mapped op.Lock (lock_fields_in v fs) o e in
      let b = (lock_fields v).back fs m.0 m.1 in subst (IsOpOf v verb.Lock fs) m.2 (refl, b)
  op_back v verb.Mark fs o e = let m = mapped (λ _. op.Mark) (savepoint_in v fs) o e in
      let b = savepoint_back v fs m.0 m.1 in subst (IsOpOf v verb.Mark fs) m.2 (refl, b)
  op_back v verb.Back fs o e = let m = mapped (λ _. op.Back) (savepoint_in v fs) o e in
      let b = savepoint_back v fs m.0 m.1 in subst (IsOpOf v verb.Back fs) m.2 (refl, b)
  op_back v other fs o e = cc

  -- ---- steps

  do_of : (v : Version) (o : Op) (fs : List (List ℕ)) → step_of v (verb_of o) fs ≡ do_in v (verb_of o) fs
  do_of v (op.Get k) fs = refl
  do_of v o fs = refl

  by_verb : (v : Version) (w : Verb) (fs : List (List ℕ)) → step_in v (word_of w ∷ fs) ≡ step_of v w fs
  by_verb v w fs = ap (λ o. step_with v o fs) (laws.verb_word w)

  step_there : (v : Version) (s : Step) → IsStep v s → step_in v (step_fields v s) ≡ Some s
  step_there v Begin h = by_verb v verb.Begin []
  step_there v (Do t o) h =
      by_verb v (verb_of o) (decimal t ∷ argument_fields v o)
      ∙ do_of v o (decimal t ∷ argument_fields v o)
      ∙ ap (option_map (λ (p : ℕ × Op). Do p.0 p.1))
      (zip_of (number_in (decimal t)) (op_in v (verb_of o) (argument_fields v o)) t o
      ((number_text numbers).there t h.0) (op_there v o h.1))
  step_there v (Commit t) h = by_verb v verb.Commit (decimal t ∷ []) ∙ ap (option_map Commit) (one_number.there t h)
  step_there v (Abort t) h = by_verb v verb.Abort (decimal t ∷ []) ∙ ap (option_map Abort) (one_number.there t h)
  step_there v (Merge n) h = by_verb v verb.Merge (decimal n ∷ []) ∙ ap (option_map Merge) (one_number.there n h)
  step_there v (Clean r n) h = by_verb v verb.Clean (key_word v r.lo ∷ key_word v r.hi ∷ decimal n ∷ []) ∙
      ap (option_map (λ (p : Interval × ℕ). Clean p.0 p.1)) ((range_and_number v).there (r, n) h)

  abbrev IsStepOf : Version → Verb → List (List ℕ) → Step → Type 0
  IsStepOf v w fs s = IsStep v s × (word_of w ∷ fs ≡ step_fields v s)

  do_back : (v : Version) (w : Verb) (fs : List (List ℕ)) (s : Step) → do_in v w fs ≡ Some s → IsStepOf v w fs s
  do_back v w [] s e = cc
  do_back v w (f ∷ fs) s e =
      let m = mapped (λ (p : ℕ × Op). Do p.0 p.1) (option_zip (number_in f) (op_in v w fs)) s e in
      let z = zipped (number_in f) (op_in v w fs) m.0 m.1 in
      let t = (number_text numbers).back f m.0.0 z.0 in
      let o = op_back v w fs m.0.1 z.1 in
      subst (IsStepOf v w (f ∷ fs)) m.2 (
        (t.0, o.1.0),
        ap (λ (x : Verb). word_of x ∷ f ∷ fs) (sym o.0) ∙
            ap (λ (x : List ℕ). word_of (verb_of m.0.1) ∷ x ∷ fs) t.1 ∙
            ap (λ (xs : List (List ℕ)). word_of (verb_of m.0.1) ∷ decimal m.0.0 ∷ xs) o.1.1,
      )

  of_back : (v : Version) (w : Verb) (fs : List (List ℕ)) (s : Step) → step_of v w fs ≡ Some s → IsStepOf v w fs s
  of_back v verb.Begin fs s e = let m = mapped (λ _. Begin) (nothing_in fs) s e in subst (IsStepOf v verb.Begin fs) m.2
      (tt, ap (λ (xs : List (List ℕ)). word_of verb.Begin ∷ xs) (nothing_back fs m.0 m.1))
  of_back v verb.Commit fs s e = let m = mapped Commit (one_number_in fs) s e in let b = one_number.back fs m.0 m.1 in
      subst (IsStepOf v verb.Commit fs) m.2 (b.0, ap (λ (xs : List (List ℕ)). word_of verb.Commit ∷ xs) b.1)
  of_back v verb.Abort fs s e = let m = mapped Abort (one_number_in fs) s e in let b = one_number.back fs m.0 m.1 in
      subst (IsStepOf v verb.Abort fs) m.2 (b.0, ap (λ (xs : List (List ℕ)). word_of verb.Abort ∷ xs) b.1)
  of_back v verb.Merge fs s e = let m = mapped Merge (one_number_in fs) s e in let b = one_number.back fs m.0 m.1 in
      subst (IsStepOf v verb.Merge fs) m.2 (b.0, ap (λ (xs : List (List ℕ)). word_of verb.Merge ∷ xs) b.1)
  of_back v verb.Clean fs s e = let m = mapped (λ (p : Interval × ℕ). Clean p.0 p.1) (range_and_number_in v fs) s e in
      let b = (range_and_number v).back fs m.0 m.1 in subst (IsStepOf v verb.Clean fs) m.2
      (b.0, ap (λ (xs : List (List ℕ)). word_of verb.Clean ∷ xs) b.1)
  of_back v other fs s e = do_back v other fs s e

  with_back : (v : Version) (f : List ℕ) (fs : List (List ℕ)) (s : Step) (o : Option Verb) → verb_for f ≡ o →
      step_with v o fs ≡ Some s → IsStep v s × (f ∷ fs ≡ step_fields v s)
  with_back v f fs s None e g = cc
  with_back v f fs s (Some w) e g =
      let b = of_back v w fs s g in
      (b.0, ap (λ (x : List ℕ). x ∷ fs) (sym (laws.verb f w e)) ∙ b.1)

  step_back : (v : Version) (fs : List (List ℕ)) (s : Step) → step_in v fs ≡ Some s → IsStep v s ×
      (fs ≡ step_fields v s)
  step_back v [] s e = cc
  step_back v (f ∷ fs) s e = with_back v f fs s (verb_for f) refl e

  pub step_text : (v : Version) → IsText (step_in v) (step_fields v) (IsStep v)
  step_text v = record { there = step_there v; back = step_back v }

-- ---- bytes that no field of a step has

verb_letters : (w : Verb) → list_all is_letter (word_of w) ≡ true
verb_letters verb.Begin = refl
verb_letters v = refl

module _ (laws : WordLaws) (c : ℕ) (n : IsNoDigit c) (other : eqb 61 c ≡ false) where
  abbrev key : (v : Version) (k : OrderedKey) → IsKey v k → has_no c (key_word v k) ≡ true
  key v k h = no_in_key laws.numbers c v k n h

  mode_none : (m : Mode) → has_no c (mode_word m) ≡ true
  mode_none Shared = no_in_letters c (codes "S") n refl
  mode_none Exclusive = no_in_letters c (codes "X") n refl

  range_and_number_none : (v : Version) (r : Interval) (m : ℕ) → IsRange v r × IsNumber m →
      AllHaveNo c (key_word v r.lo ∷ key_word v r.hi ∷ decimal m ∷ [])
  range_and_number_none v r m h =
      (key v r.lo h.0.0.0, (key v r.hi h.0.0.1, (no_in_decimal laws.numbers c m n h.1, tt)))

  arguments_none : (v : Version) (o : Op) → IsOp v o → AllHaveNo c (argument_fields v o)
  arguments_none v (op.Get k) h = (key v k h, tt)
  arguments_none v (op.Scan r max) h = range_and_number_none v r max h
  arguments_none v (op.ScanBack r max) h = range_and_number_none v r max h.1
  arguments_none v (op.Insert k w) h = (key v k h.0, (no_in_hex c w n h.1.0, tt))
  arguments_none v (op.Replace k w) h = (key v k h.0, (no_in_hex c w n h.1.0, tt))
  arguments_none v (op.Set k w) h = (key v k h.1.0, (no_in_hex c w n h.1.1.0, tt))
  arguments_none v (op.DeleteRange r max) h = range_and_number_none v r max h.1
  arguments_none v (op.Delete k) h = (key v k h, tt)
  arguments_none v (op.Load rs) h = no_in_records laws.numbers c v rs n other h
  arguments_none v (op.Put rs) h = no_in_records laws.numbers c v rs n other h.1
  arguments_none v (op.Lock lock) h = (
    mode_none lock.mode,
    (key v lock.range.lo h.0.0, (key v lock.range.hi h.0.1, tt)),
  )
  arguments_none v op.Mark h = tt
  arguments_none v op.Back h = tt

  verb_none : (w : Verb) → has_no c (word_of w) ≡ true
  verb_none w = no_in_letters c (word_of w) n (verb_letters w)

  pub step_none : (v : Version) (s : Step) → IsStep v s → AllHaveNo c (step_fields v s)
  step_none v Begin h = (verb_none verb.Begin, tt)
  step_none v (Do t o) h = (verb_none (verb_of o), (no_in_decimal laws.numbers c t n h.0, arguments_none v o h.1))
  step_none v (Commit t) h = (verb_none verb.Commit, (no_in_decimal laws.numbers c t n h, tt))
  step_none v (Abort t) h = (verb_none verb.Abort, (no_in_decimal laws.numbers c t n h, tt))
  step_none v (Merge m) h = (verb_none verb.Merge, (no_in_decimal laws.numbers c m n h, tt))
  step_none v (Clean r m) h = (verb_none verb.Clean, range_and_number_none v r m h)
