-- The fields of replies: each reply has its own, and each reply is read of them.
use Rattle.std.proofs.Common.{◌≡◌, ℕ, ◌^◌, ◌<◌, eqb, List, [], ◌∷◌, length, map, Option, Some, None, refl, sym}
use Rattle.std.proofs.Common.{ap, ◌∙◌, subst, option_map, decimal, arith}
use Rattle.std.specs.Prelude.{option_and_then}
use Rattle.std.specs.Option.{option_zip}
use Rattle.std.specs.List.{AllByRecursion}
use Rattle.std.proofs.lemmas.Bool.{cond-true}
use Rattle.std.proofs.lemmas.Bool.Decides.{nat_tests}
use Rattle.am_record.specs.OrderedKey.{OrderedKey}
use Rattle.am_record.specs.Records.{Records}
use Rattle.am_record.specs.declared.step.Reply.{Reply}
use Rattle.am_record.specs.declared.step.Reply.TheVariants as reply
use Rattle.am_record.specs.declared.step.Refusal.{Refusal}
use Rattle.am_record.specs.declared.step.Refusal.TheVariants as refusal
use Rattle.am_record.proofs.Outcomes.{mapped, gate}
use Rattle.am_trace_text.specs.Words.{hex, key_word, record_word}
use Rattle.am_trace_text.specs.Bounds.{IsNumber, IsKey, IsValue, AreRecords}
use Rattle.am_trace_text.specs.Replies.{refusal_fields, reply_fields, IsRefusal, IsReply}
use Rattle.am_line_text.specs.ReplyWords.{word_text, refusal_code}
use Rattle.am_line_text.specs.declared.reply_word.ReplyWord.{ReplyWord}
use Rattle.am_line_text.specs.declared.reply_word.ReplyWord.TheVariants as word
use Rattle.am_trace_text.specs.FieldReadings.{number_in, run_in, key_in, value_in, records_of_fields, nothing_in}
use Rattle.am_trace_text.specs.FieldReadings.{one_number_in}
use Rattle.am_trace_text.specs.FieldReadings.{one_key_in, one_value_in, key_and_number_in, number_and_run_in}
use Rattle.am_trace_text.specs.FieldReadings.{if_counted}
use Rattle.am_trace_text.specs.FieldReadings.{counted_records_in, refusal_for, coded_refusals, refusal_read, word_for}
use Rattle.am_trace_text.specs.FieldReadings.{savepoint_in, in_three, reply_of, reply_with, reply_in}
use Rattle.am_trace_text.specs.declared.version.Version.{Version}
use Rattle.am_trace_text.proofs.IsText.{IsText, zipped, zip_of, chained, same_some, one_field, two_fields}
use Rattle.am_trace_text.proofs.FieldTexts.{number_text, run_text, key_text, value_text}
use Rattle.am_trace_text.proofs.WordTexts.{word_for-word_text, word_text-word_for, refusal_for-code}
use Rattle.am_trace_text.proofs.StepTexts.{WordLaws, one_number, one_key, records, nothing_back, savepoint_back}
use Rattle.am_trace_text.proofs.StepTexts.{savepoint_there, in_three_there, in_three_back}

-- ---- refusals

-- the fields of the refusal after its first word
abbrev IsErrorOf : List (List ℕ) → Refusal → Type 0
IsErrorOf fs r = IsRefusal r × (word_text word.Error ∷ fs ≡ refusal_fields r)

-- each refusal that has a code is that of its fields
each_of_code : AllByRecursion (λ r. IsErrorOf (refusal_code r ∷ []) r) coded_refusals
each_of_code =
    ((tt, refl), ((tt, refl), ((tt, refl), ((tt, refl), ((tt, refl), ((tt, refl), ((tt, refl), ((tt, refl), tt))))))))

error_back : (f : List ℕ) (out : Refusal) → refusal_for f ≡ Some out → IsErrorOf (f ∷ []) out
error_back f out e =
    let found = refusal_for-code (λ r. IsErrorOf (refusal_code r ∷ []) r) each_of_code f out e in
    subst (λ (x : List ℕ). IsErrorOf (x ∷ []) out) found.1 found.0

refusal_back : (fs : List (List ℕ)) (out : Refusal) → refusal_read fs ≡ Some out → IsErrorOf fs out
refusal_back [] out e = cc
refusal_back (f ∷ []) out e = error_back f out e
refusal_back (f ∷ g ∷ fs) out e = cc

module _ (laws : WordLaws) where
  one_value : IsText one_value_in (λ (w : List ℕ). hex w ∷ []) IsValue
  one_value = let t = one_field value_in hex IsValue value_text in record { there = t.there; back = t.back }

  key_and_number : (v : Version) → IsText (key_and_number_in v)
      (λ (x : OrderedKey × ℕ). key_word v x.0 ∷ decimal x.1 ∷ []) (λ (x : OrderedKey × ℕ). IsKey v x.0 × IsNumber x.1)
  key_and_number v = let t = two_fields (key_in v) (key_word v) (IsKey v) (key_text laws.numbers v) number_in
      (λ n. decimal n) IsNumber (number_text laws.numbers) in
      record { there = t.there; back = t.back }

  number_and_run : IsText number_and_run_in (λ (x : ℕ × ℕ). decimal x.0 ∷ decimal x.1 ∷ [])
      (λ (x : ℕ × ℕ). IsNumber x.0 × (x.1 < 2 ^ 32))
  number_and_run = let t = two_fields number_in (λ n. decimal n) IsNumber (number_text laws.numbers) run_in
      (λ n. decimal n) (λ n. n < 2 ^ 32) (run_text laws.numbers) in
      record { there = t.there; back = t.back }

  abbrev AreCounted : Version → Records → Type 0
  AreCounted v rs = AreRecords v rs × IsNumber (length rs)

  counted_there : (v : Version) (rs : Records) → AreCounted v rs →
      counted_records_in v (decimal (length rs) ∷ map (record_word v) rs) ≡ Some rs
  counted_there v rs h =
      ap (option_and_then if_counted) (zip_of (number_in (decimal (length rs)))
      (records_of_fields v (map (record_word v) rs)) (length rs) rs
      ((number_text laws.numbers).there (length rs) h.1) ((records laws v).there rs h.0))
      ∙ cond-true (eqb (length rs) (length rs)) (Some rs) None (grind (arith, nat_tests))

  counted_back : (v : Version) (fs : List (List ℕ)) (rs : Records) → counted_records_in v fs ≡ Some rs →
      AreCounted v rs × (fs ≡ decimal (length rs) ∷ map (record_word v) rs)
  counted_back v [] rs e = cc
  counted_back v (f ∷ fs) rs e =
      let m = chained if_counted (option_zip (number_in f) (records_of_fields v fs)) rs e in
      let z = zipped (number_in f) (records_of_fields v fs) m.0 m.1 in
      let g = gate (eqb (length m.0.1) m.0.0) (Some m.0.1) rs m.2 in
      let same : m.0.1 ≡ rs = same_some m.0.1 rs g.1 in
      let count : m.0.0 ≡ length m.0.1 = grind (arith, nat_tests, g.0) in
      let n = (number_text laws.numbers).back f m.0.0 z.0 in
      let r = (records laws v).back fs m.0.1 z.1 in
      subst (λ (x : Records). AreCounted v x × (f ∷ fs ≡ decimal (length x) ∷ map (record_word v) x)) same (
        (r.0, subst IsNumber count n.0),
        ap (λ (x : List ℕ). x ∷ fs) (n.1 ∙ ap (λ k. decimal k) count) ∙
            ap (λ (xs : List (List ℕ)). decimal (length m.0.1) ∷ xs) r.1,
      )

  -- ---- replies

  by_word : (v : Version) (w : ReplyWord) (fs : List (List ℕ)) → reply_in v (word_text w ∷ fs) ≡ reply_of v w fs
  by_word v w fs = ap (λ o. reply_with v o fs) (word_for-word_text w)

  reply_there : (v : Version) (r : Reply) → IsReply v r → reply_in v (reply_fields v r) ≡ Some r
  unfolding refusal_for
  reply_there v (reply.Begun n) h = by_word v word.Begun (decimal n ∷ []) ∙
      ap (option_map reply.Begun) ((one_number laws).there n h)
  reply_there v (reply.Committed n) h = by_word v word.Committed (decimal n ∷ []) ∙
      ap (option_map reply.Committed) ((one_number laws).there n h)
  reply_there v (reply.Deleted n) h = by_word v word.Deleted (decimal n ∷ []) ∙ ap (option_map reply.Deleted)
      (in_three_there laws v (one_number_in (decimal n ∷ [])) n h.0 ((one_number laws).there n h.1))
  reply_there v (reply.Cleaned n) h = by_word v word.Cleaned (decimal n ∷ []) ∙
      ap (option_map reply.Cleaned) ((one_number laws).there n h)
  reply_there v reply.Done h = by_word v word.Done []
  reply_there v reply.Absent h = by_word v word.Absent []
  reply_there v reply.Missing h = by_word v word.Missing []
  reply_there v reply.Aborted h = by_word v word.Aborted []
  reply_there v reply.MergeDone h = by_word v word.MergeDone []
  reply_there v reply.Idle h = by_word v word.Idle []
  reply_there v (reply.Found w) h = by_word v word.Found (hex w ∷ []) ∙
      ap (option_map reply.Found) (one_value.there w h)
  reply_there v (reply.Rows rs) h = by_word v word.Rows (decimal (length rs) ∷ map (record_word v) rs) ∙
      ap (option_map reply.Rows) (counted_there v rs h)
  reply_there v (reply.Exists k) h = by_word v word.Exists (key_word v k ∷ []) ∙
      ap (option_map reply.Exists) ((one_key laws v).there k h)
  reply_there v (reply.Moved n run) h = by_word v word.Moved (decimal n ∷ decimal run ∷ []) ∙
      ap (option_map (λ (p : ℕ × ℕ). reply.Moved p.0 p.1)) (number_and_run.there (n, run) h)
  reply_there v (reply.Ended k n) h = by_word v word.Ended (key_word v k ∷ decimal n ∷ []) ∙
      ap (option_map (λ (p : OrderedKey × ℕ). reply.Ended p.0 p.1)) ((key_and_number v).there (k, n) h)
  reply_there v reply.NoMark h = by_word v word.NoMark [] ∙ ap (option_map (λ _. reply.NoMark))
      (savepoint_there laws v h)
  reply_there v (reply.Refused (refusal.Busy n)) h = by_word v word.Busy (decimal n ∷ []) ∙
      ap (option_map (λ (x : ℕ). reply.Refused (refusal.Busy x))) ((one_number laws).there n h)
  reply_there v (reply.Refused refusal.NoSuchTx) h = by_word v word.Error (refusal_code refusal.NoSuchTx ∷ [])
  reply_there v (reply.Refused refusal.TooManyTx) h = by_word v word.Error (refusal_code refusal.TooManyTx ∷ [])
  reply_there v (reply.Refused refusal.TooManyLocks) h = by_word v word.Error (refusal_code refusal.TooManyLocks ∷ [])
  reply_there v (reply.Refused refusal.TooManyOps) h = by_word v word.Error (refusal_code refusal.TooManyOps ∷ [])
  reply_there v (reply.Refused refusal.TooManyRuns) h = by_word v word.Error (refusal_code refusal.TooManyRuns ∷ [])
  reply_there v (reply.Refused refusal.NotRising) h = by_word v word.Error (refusal_code refusal.NotRising ∷ [])
  reply_there v (reply.Refused refusal.BadLimit) h = by_word v word.Error (refusal_code refusal.BadLimit ∷ [])
  reply_there v (reply.Refused refusal.NoMemory) h = by_word v word.Error (refusal_code refusal.NoMemory ∷ [])
  reply_there v (reply.Refused refusal.SeatFull) h = absurd h

  abbrev IsReplyOf : Version → ReplyWord → List (List ℕ) → Reply → Type 0
  IsReplyOf v w fs r = IsReply v r × (word_text w ∷ fs ≡ reply_fields v r)

  of_back : (v : Version) (w : ReplyWord) (fs : List (List ℕ)) (r : Reply) → reply_of v w fs ≡ Some r →
      IsReplyOf v w fs r
  of_back v word.Begun fs r e = let m = mapped reply.Begun (one_number_in fs) r e in
      let b = (one_number laws).back fs m.0 m.1 in subst (IsReplyOf v word.Begun fs) m.2
      (b.0, ap (λ (xs : List (List ℕ)). word_text word.Begun ∷ xs) b.1)
  of_back v word.Committed fs r e = let m = mapped reply.Committed (one_number_in fs) r e in
      let b = (one_number laws).back fs m.0 m.1 in subst (IsReplyOf v word.Committed fs) m.2
      (b.0, ap (λ (xs : List (List ℕ)). word_text word.Committed ∷ xs) b.1)
  of_back v word.Cleaned fs r e = let m = mapped reply.Cleaned (one_number_in fs) r e in
      let b = (one_number laws).back fs m.0 m.1 in subst (IsReplyOf v word.Cleaned fs) m.2
      (b.0, ap (λ (xs : List (List ℕ)). word_text word.Cleaned ∷ xs) b.1)
  of_back v word.Deleted fs r e = let m = mapped reply.Deleted (in_three v (one_number_in fs)) r e in
      let k = in_three_back laws v (one_number_in fs) m.0 m.1 in
      let b = (one_number laws).back fs m.0 k.1 in subst (IsReplyOf v word.Deleted fs) m.2
      ((k.0, b.0), ap (λ (xs : List (List ℕ)). word_text word.Deleted ∷ xs) b.1)
  of_back v word.Done fs r e = let m = mapped (λ _. reply.Done) (nothing_in fs) r e in
      subst (IsReplyOf v word.Done fs) m.2 (
        tt,
        ap (λ (xs : List (List ℕ)). word_text word.Done ∷ xs)
            (nothing_back fs m.0 m.1),
      )
  of_back v word.Absent fs r e = let m = mapped (λ _. reply.Absent) (nothing_in fs) r e in
      subst (IsReplyOf v word.Absent fs) m.2 (
        tt,
        ap (λ (xs : List (List ℕ)). word_text word.Absent ∷ xs)
            (nothing_back fs m.0 m.1),
      )
  of_back v word.Missing fs r e = let m = mapped (λ _. reply.Missing) (nothing_in fs) r e in
      subst (IsReplyOf v word.Missing fs) m.2 (
        tt,
        ap (λ (xs : List (List ℕ)). word_text word.Missing ∷ xs)
            (nothing_back fs m.0 m.1),
      )
  of_back v word.Aborted fs r e = let m = mapped (λ _. reply.Aborted) (nothing_in fs) r e in
      subst (IsReplyOf v word.Aborted fs) m.2 (
        tt,
        ap (λ (xs : List (List ℕ)). word_text word.Aborted ∷ xs)
            (nothing_back fs m.0 m.1),
      )
  of_back v word.MergeDone fs r e = let m = mapped (λ _. reply.MergeDone) (nothing_in fs) r e in
      subst (IsReplyOf v word.MergeDone fs) m.2 (
        tt,
        ap (λ (xs : List (List ℕ)). word_text word.MergeDone ∷ xs)
            (nothing_back fs m.0 m.1),
      )
  of_back v word.Idle fs r e = let m = mapped (λ _. reply.Idle) (nothing_in fs) r e in
      subst (IsReplyOf v word.Idle fs) m.2 (
        tt,
        ap (λ (xs : List (List ℕ)). word_text word.Idle ∷ xs)
            (nothing_back fs m.0 m.1),
      )
  of_back v word.Found fs r e = let m = mapped reply.Found (one_value_in fs) r e in let b = one_value.back fs m.0 m.1 in
      subst (IsReplyOf v word.Found fs) m.2 (b.0, ap (λ (xs : List (List ℕ)). word_text word.Found ∷ xs) b.1)
  of_back v word.Rows fs r e = let m = mapped reply.Rows (counted_records_in v fs) r e in
      let b = counted_back v fs m.0 m.1 in subst (IsReplyOf v word.Rows fs) m.2
      (b.0, ap (λ (xs : List (List ℕ)). word_text word.Rows ∷ xs) b.1)
  of_back v word.Exists fs r e = let m = mapped reply.Exists (one_key_in v fs) r e in
      let b = (one_key laws v).back fs m.0 m.1 in subst (IsReplyOf v word.Exists fs) m.2
      (b.0, ap (λ (xs : List (List ℕ)). word_text word.Exists ∷ xs) b.1)
  of_back v word.Moved fs r e = let m = mapped (λ (p : ℕ × ℕ). reply.Moved p.0 p.1) (number_and_run_in fs) r e in
      let b = number_and_run.back fs m.0 m.1 in subst (IsReplyOf v word.Moved fs) m.2
      (b.0, ap (λ (xs : List (List ℕ)). word_text word.Moved ∷ xs) b.1)
  of_back v word.Ended fs r e = let m = mapped (λ (p : OrderedKey × ℕ). reply.Ended p.0 p.1) (key_and_number_in v fs) r
      e in let b = (key_and_number v).back fs m.0 m.1 in
      subst (IsReplyOf v word.Ended fs) m.2 (b.0, ap (λ (xs : List (List ℕ)). word_text word.Ended ∷ xs) b.1)
  of_back v word.NoMark fs r e = let m = mapped (λ _. reply.NoMark) (savepoint_in v fs) r e in
      let b = savepoint_back laws v fs m.0 m.1 in subst (IsReplyOf v word.NoMark fs) m.2
      (b.0, ap (λ (xs : List (List ℕ)). word_text word.NoMark ∷ xs) b.1)
  of_back v word.Busy fs r e = let m = mapped (λ (x : ℕ). reply.Refused (refusal.Busy x)) (one_number_in fs) r e in
      let b = (one_number laws).back fs m.0 m.1 in subst (IsReplyOf v word.Busy fs) m.2
      (b.0, ap (λ (xs : List (List ℕ)). word_text word.Busy ∷ xs) b.1)
  of_back v word.Error fs r e = let m = mapped reply.Refused (refusal_read fs) r e in let b = refusal_back fs m.0 m.1 in
      subst (IsReplyOf v word.Error fs) m.2 b

  with_back : (v : Version) (f : List ℕ) (fs : List (List ℕ)) (r : Reply) (o : Option ReplyWord) → word_for f ≡ o →
      reply_with v o fs ≡ Some r → IsReply v r × (f ∷ fs ≡ reply_fields v r)
  with_back v f fs r None e g = cc
  with_back v f fs r (Some w) e g =
      let b = of_back v w fs r g in
      (b.0, ap (λ (x : List ℕ). x ∷ fs) (sym (word_text-word_for f w e)) ∙ b.1)

  reply_back : (v : Version) (fs : List (List ℕ)) (r : Reply) → reply_in v fs ≡ Some r → IsReply v r ×
      (fs ≡ reply_fields v r)
  reply_back v [] r e = cc
  reply_back v (f ∷ fs) r e = with_back v f fs r (word_for f) refl e

  pub reply_text : (v : Version) → IsText (reply_in v) (reply_fields v) (IsReply v)
  reply_text v = record { there = reply_there v; back = reply_back v }
