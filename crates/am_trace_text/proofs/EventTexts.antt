-- The lines of events: each event has one, and no line is that of two.
use Rattle.std.proofs.Common.{◌≡◌, ◌≢◌, ℕ, ◌^◌, ◌<◌, eqb, not, true, false, List, [], ◌∷◌, ◌++◌}
use Rattle.std.proofs.Common.{length, map, Some, None, refl, sym, ap, ◌∙◌, subst, arith, append_assoc, decimal}
use Rattle.std.specs.Prelude.{codes, Result, Ok, Err, IfOk}
use Rattle.std.specs.List.{list_all, AllByRecursion, join_with_byte}
use Rattle.std.proofs.lemmas.Bool.{and_from}
use Rattle.am_record.specs.declared.step.Step.{Step}
use Rattle.am_record.specs.declared.step.Step.TheVariants.{Begin, Do, Commit, Abort, Merge, Clean}
use Rattle.am_record.specs.declared.step.Reply.{Reply}
use Rattle.am_record.specs.declared.step.Reply.TheVariants as reply
use Rattle.am_record.specs.declared.step.Refusal.{Refusal}
use Rattle.am_record.specs.declared.step.Refusal.TheVariants as refusal
use Rattle.am_line_text.specs.Fields.{line_fields, has_no_space}
use Rattle.am_line_text.specs.Verbs.{word_of}
use Rattle.am_line_text.specs.declared.verb.Verb.TheVariants as verb
use Rattle.am_trace_text.specs.Cuts.{has_no, IsParted}
use Rattle.am_trace_text.specs.Words.{hex, key_word, record_word}
use Rattle.am_trace_text.specs.Bounds.{IsNumber}
use Rattle.am_trace_text.specs.Steps.{verb_of, argument_fields, step_fields, IsStep, step_in}
use Rattle.am_trace_text.specs.Replies.{refusal_fields, reply_fields, IsRefusal, IsReply}
use Rattle.am_record.specs.Events.{Event}
use Rattle.am_trace_text.specs.Lines.{IsEvent, AreEvents, step_words, reply_words, event_words, with_lf, event_lines}
use Rattle.am_trace_text.specs.Lines.{BeginsNoEvent, parts_in}
use Rattle.am_trace_text.specs.FieldReadings.{reply_in, IsReadAs}
use Rattle.am_trace_text.specs.declared.read.ReadFault.{ReadFault}
use Rattle.am_trace_text.specs.declared.read.ReadFault.TheVariants.{Bad, NoMemory}
use Rattle.am_trace_text.specs.declared.version.Version.{Version}
use Rattle.am_trace_text.proofs.CutLemmas.{has_no-append, one_cut, not_there, parts_by_cut}
use Rattle.am_trace_text.proofs.IsText.{same_some, zipped, zip_of}
use Rattle.am_trace_text.proofs.FieldTexts.{IsNoDigit, AllHaveNo, no_in_letters, is_letter, no_in_hex, no_in_decimal}
use Rattle.am_trace_text.proofs.FieldTexts.{no_in_key, no_in_records}
use Rattle.am_trace_text.proofs.StepTexts.{WordLaws, step_text, step_none}
use Rattle.am_trace_text.proofs.ReplyTexts.{reply_text}

-- ---- bytes that no field of a reply has, and no line

module _ (laws : WordLaws) (c : ℕ) (n : IsNoDigit c) (other : eqb 61 c ≡ false) where
  abbrev letters : (text : List ℕ) → list_all is_letter text ≡ true → has_no c text ≡ true
  letters text h = no_in_letters c text n h

  abbrev number : (m : ℕ) → IsNumber m → has_no c (decimal m) ≡ true
  number m h = no_in_decimal laws.numbers c m n h

  refusal_none : (r : Refusal) → IsRefusal r → AllHaveNo c (refusal_fields r)
  refusal_none (refusal.Busy holder) h = (letters (codes "BUSY") refl, (number holder h, tt))
  refusal_none refusal.NoSuchTx h = (letters (codes "ERR") refl, (letters (codes "NOTX") refl, tt))
  refusal_none refusal.TooManyTx h = (letters (codes "ERR") refl, (letters (codes "TXS") refl, tt))
  refusal_none refusal.TooManyLocks h = (letters (codes "ERR") refl, (letters (codes "LOCKS") refl, tt))
  refusal_none refusal.TooManyOps h = (letters (codes "ERR") refl, (letters (codes "OPS") refl, tt))
  refusal_none refusal.TooManyRuns h = (letters (codes "ERR") refl, (letters (codes "RUNS") refl, tt))
  refusal_none refusal.NotRising h = (letters (codes "ERR") refl, (letters (codes "ORDER") refl, tt))
  refusal_none refusal.BadLimit h = (letters (codes "ERR") refl, (letters (codes "LIMIT") refl, tt))
  refusal_none refusal.NoMemory h = (letters (codes "ERR") refl, (letters (codes "MEMORY") refl, tt))
  refusal_none refusal.SeatFull h = absurd h

  reply_none : (v : Version) (r : Reply) → IsReply v r → AllHaveNo c (reply_fields v r)
  reply_none v (reply.Begun t) h = (letters (codes "BEGUN") refl, (number t h, tt))
  reply_none v reply.Done h = (letters (codes "OK") refl, tt)
  reply_none v (reply.Found w) h = (letters (codes "VAL") refl, (no_in_hex c w n h.0, tt))
  reply_none v reply.Absent h = (letters (codes "NONE") refl, tt)
  reply_none v (reply.Rows rs) h =
      (letters (codes "ROWS") refl, (number (length rs) h.1, no_in_records laws.numbers c v rs n other h.0))
  reply_none v (reply.Exists k) h = (letters (codes "EXISTS") refl, (no_in_key laws.numbers c v k n h, tt))
  reply_none v reply.Missing h = (letters (codes "MISSING") refl, tt)
  reply_none v (reply.Deleted m) h = (letters (codes "DELETED") refl, (number m h.1, tt))
  reply_none v (reply.Committed m) h = (letters (codes "COMMITTED") refl, (number m h, tt))
  reply_none v reply.Aborted h = (letters (codes "ABORTED") refl, tt)
  reply_none v (reply.Moved m run) h = let small : run < 2 ^ 32 = h.1 in
      (letters (codes "MOVED") refl, (number m h.0, (number run (omega (arith, small)), tt)))
  reply_none v reply.MergeDone h = (letters (codes "DONE") refl, tt)
  reply_none v (reply.Ended k m) h = (
    letters (codes "ENDED") refl,
    (no_in_key laws.numbers c v k n h.0, (number m h.1, tt)),
  )
  reply_none v reply.Idle h = (letters (codes "IDLE") refl, tt)
  reply_none v (reply.Cleaned m) h = (letters (codes "CLEANED") refl, (number m h, tt))
  reply_none v reply.NoMark h = (letters (codes "NOMARK") refl, tt)
  reply_none v (reply.Refused why) h = refusal_none why h

  pub join_none : (fs : List (List ℕ)) → eqb 32 c ≡ false → AllHaveNo c fs → has_no c (join_with_byte 32 fs) ≡ true
  join_none [] e h = refl
  join_none (f ∷ []) e h = h.0
  join_none (f ∷ g ∷ fs) e h =
      has_no-append c f (32 ∷ join_with_byte 32 (g ∷ fs)) h.0
      (and_from (not (eqb 32 c)) (has_no c (join_with_byte 32 (g ∷ fs))) (ap not e) (join_none (g ∷ fs) e h.1))

-- ---- from lines to fields

-- what is known of fields too
pub record LineLaws : Type 0 where
  pub words : WordLaws
  pub fields : (word : List ℕ) (words : List (List ℕ)) → has_no_space word ≡ true →
      AllByRecursion (λ w. has_no_space w ≡ true) words → line_fields (join_with_byte 32 (word ∷ words)) ≡ word ∷ words
  pub line : (line : List ℕ) → join_with_byte 32 (line_fields line) ≡ line

module _ (laws : LineLaws) where
  pub parted_by : (fs : List (List ℕ)) (f : List ℕ) (gs : List (List ℕ)) → fs ≡ f ∷ gs → AllHaveNo 32 fs →
      line_fields (join_with_byte 32 fs) ≡ fs
  parted_by fs f gs e h =
      let parts = subst (AllHaveNo 32) e h in
      ap (λ xs. line_fields (join_with_byte 32 xs)) e ∙ laws.fields f gs parts.0 parts.1 ∙ sym e

  step_has : (v : Version) (s : Step) → (f : List ℕ) × (gs : List (List ℕ)) × (step_fields v s ≡ f ∷ gs)
  step_has v Begin = (word_of verb.Begin, [], refl)
  step_has v (Do t o) = (word_of (verb_of o), decimal t ∷ argument_fields v o, refl)
  step_has v (Commit t) = (word_of verb.Commit, decimal t ∷ [], refl)
  step_has v (Abort t) = (word_of verb.Abort, decimal t ∷ [], refl)
  step_has v (Merge m) = (word_of verb.Merge, decimal m ∷ [], refl)
  step_has v (Clean r m) = (word_of verb.Clean, key_word v r.lo ∷ key_word v r.hi ∷ decimal m ∷ [], refl)

  refusal_has : (r : Refusal) → (f : List ℕ) × (gs : List (List ℕ)) × (refusal_fields r ≡ f ∷ gs)
  refusal_has (refusal.Busy holder) = (codes "BUSY", decimal holder ∷ [], refl)
  refusal_has refusal.NoSuchTx = (codes "ERR", codes "NOTX" ∷ [], refl)
  refusal_has refusal.TooManyTx = (codes "ERR", codes "TXS" ∷ [], refl)
  refusal_has refusal.TooManyLocks = (codes "ERR", codes "LOCKS" ∷ [], refl)
  refusal_has refusal.TooManyOps = (codes "ERR", codes "OPS" ∷ [], refl)
  refusal_has refusal.TooManyRuns = (codes "ERR", codes "RUNS" ∷ [], refl)
  refusal_has refusal.NotRising = (codes "ERR", codes "ORDER" ∷ [], refl)
  refusal_has refusal.BadLimit = (codes "ERR", codes "LIMIT" ∷ [], refl)
  refusal_has refusal.NoMemory = (codes "ERR", codes "MEMORY" ∷ [], refl)
  refusal_has refusal.SeatFull = (codes "ERR", codes "FULL" ∷ [], refl)

  reply_has : (v : Version) (r : Reply) → (f : List ℕ) × (gs : List (List ℕ)) × (reply_fields v r ≡ f ∷ gs)
  reply_has v (reply.Begun t) = (codes "BEGUN", decimal t ∷ [], refl)
  reply_has v reply.Done = (codes "OK", [], refl)
  reply_has v (reply.Found w) = (codes "VAL", hex w ∷ [], refl)
  reply_has v reply.Absent = (codes "NONE", [], refl)
  reply_has v (reply.Rows rs) = (codes "ROWS", decimal (length rs) ∷ map (record_word v) rs, refl)
  reply_has v (reply.Exists k) = (codes "EXISTS", key_word v k ∷ [], refl)
  reply_has v reply.Missing = (codes "MISSING", [], refl)
  reply_has v (reply.Deleted m) = (codes "DELETED", decimal m ∷ [], refl)
  reply_has v (reply.Committed m) = (codes "COMMITTED", decimal m ∷ [], refl)
  reply_has v reply.Aborted = (codes "ABORTED", [], refl)
  reply_has v (reply.Moved m run) = (codes "MOVED", decimal m ∷ decimal run ∷ [], refl)
  reply_has v reply.MergeDone = (codes "DONE", [], refl)
  reply_has v (reply.Ended k m) = (codes "ENDED", key_word v k ∷ decimal m ∷ [], refl)
  reply_has v reply.Idle = (codes "IDLE", [], refl)
  reply_has v (reply.Cleaned m) = (codes "CLEANED", decimal m ∷ [], refl)
  reply_has v reply.NoMark = (codes "NOMARK", [], refl)
  reply_has v (reply.Refused why) = refusal_has why

  pub step_read : (v : Version) (s : Step) → IsStep v s → step_in v (line_fields (step_words v s)) ≡ Some s
  step_read v s h =
      let has = step_has v s in
      ap (step_in v) (parted_by (step_fields v s) has.0 has.1 has.2 (step_none laws.words 32 refl refl v s h)) ∙
      (step_text laws.words v).there s h

  pub reply_read : (v : Version) (r : Reply) → IsReply v r → reply_in v (line_fields (reply_words v r)) ≡ Some r
  reply_read v r h =
      let has = reply_has v r in
      ap (reply_in v) (parted_by (reply_fields v r) has.0 has.1 has.2 (reply_none laws.words 32 refl refl v r h)) ∙
      (reply_text laws.words v).there r h

  pub step_spelled : (v : Version) (text : List ℕ) (s : Step) → step_in v (line_fields text) ≡ Some s → IsStep v s ×
      (text ≡ step_words v s)
  step_spelled v text s e =
      let b = (step_text laws.words v).back (line_fields text) s e in
      (b.0, sym (laws.line text) ∙ ap (join_with_byte 32) b.1)

  pub reply_spelled : (v : Version) (text : List ℕ) (r : Reply) → reply_in v (line_fields text) ≡ Some r → IsReply v r ×
      (text ≡ reply_words v r)
  reply_spelled v text r e =
      let b = (reply_text laws.words v).back (line_fields text) r e in
      (b.0, sym (laws.line text) ∙ ap (join_with_byte 32) b.1)

  -- ---- events

  pub event_parted : (v : Version) (e : Event) → IsEvent v e → IsParted (event_words v e) (step_words v e.0)
      (reply_words v e.1)
  event_parted v e h = record {
    parted = refl;
    first = join_none laws.words 124 refl refl (step_fields v e.0) refl
        (step_none laws.words 124 refl refl v e.0 h.0);
  }

  pub no_lf : (v : Version) (e : Event) → IsEvent v e → has_no 10 (event_words v e) ≡ true
  no_lf v e h =
      has_no-append 10 (step_words v e.0 ++ codes " | ") (reply_words v e.1)
      (has_no-append 10 (step_words v e.0) (codes " | ")
      (join_none laws.words 10 refl refl (step_fields v e.0) refl (step_none laws.words 10 refl refl v e.0 h.0))
      refl)
      (join_none laws.words 10 refl refl (reply_fields v e.1) refl (reply_none laws.words 10 refl refl v e.1 h.1))

same_before : (a x : List ℕ) → a ++ 32 ∷ [] ≡ x ++ 32 ∷ [] → a ≡ x
same_before [] [] e = refl
same_before [] (y ∷ []) e = cc
same_before [] (y ∷ z ∷ x) e = cc
same_before (b ∷ []) [] e = cc
same_before (b ∷ d ∷ a) [] e = cc
same_before (b ∷ a) (y ∷ x) e = let first : b ≡ y = cc in ap (λ z. z ∷ a) first ∙ ap (λ z. y ∷ z) (same_before a x cc)

-- a line is parted in one way
pub one_parting : (line a b x y : List ℕ) → IsParted line a b → IsParted line x y → (a ≡ x) × (b ≡ y)
one_parting line a b x y h k =
    let regrouped : line ≡ (a ++ 32 ∷ []) ++ 124 ∷ 32 ∷ b = h.parted ∙ append_assoc a (codes " | ") b ∙
    sym (append_assoc a (32 ∷ []) (124 ∷ 32 ∷ b)) in
    let p = parts_by_cut line (a ++ 32 ∷ []) (32 ∷ b) x y regrouped (has_no-append 124 a (32 ∷ []) h.first refl) k in
    (same_before a x p.0, cc)

module _ (laws : LineLaws) where
  -- two events with one line are one
  pub one_event : (v : Version) (e f : Event) → IsEvent v e → IsEvent v f → event_words v e ≡ event_words v f → e ≡ f
  one_event v e f h k same =
      let p = one_parting (event_words v e) (step_words v e.0) (reply_words v e.1) (step_words v f.0)
      (reply_words v f.1) (event_parted laws v e h)
      (subst (λ (line : List ℕ). IsParted line (step_words v f.0) (reply_words v f.1)) (sym same)
      (event_parted laws v f k)) in
      let step : e.0 ≡ f.0 = same_some e.0 f.0 (sym (step_read laws v e.0 h.0) ∙
      ap (λ (text : List ℕ). step_in v (line_fields text)) p.0 ∙ step_read laws v f.0 k.0) in
      let reply : e.1 ≡ f.1 = same_some e.1 f.1 (sym (reply_read laws v e.1 h.1) ∙
      ap (λ (text : List ℕ). reply_in v (line_fields text)) p.1 ∙ reply_read laws v f.1 k.1) in
      λ i. (step i, reply i)

  -- ---- lines

  -- the line that a text begins with
  pub first_line : (v : Version) (line further : List ℕ) (e : Event) (more : List ℕ) → has_no 10 line ≡ true →
      IsEvent v e → line ++ 10 ∷ further ≡ with_lf (event_words v e) ++ more → (line ≡ event_words v e) ×
      (further ≡ more)
  first_line v line further e more none h same =
      one_cut 10 line further (event_words v e) more none (no_lf laws v e h)
      (same ∙ append_assoc (event_words v e) (10 ∷ []) more)

  pub no_line : (v : Version) (text : List ℕ) → has_no 10 text ≡ true → BeginsNoEvent v text
  no_line v text none = λ e more h same. not_there 10 (event_words v e) more text none
      (same ∙ append_assoc (event_words v e) (10 ∷ []) more)

  pub no_event : (v : Version) (line further : List ℕ) → has_no 10 line ≡ true →
      ((e : Event) → IsEvent v e → line ≢ event_words v e) → BeginsNoEvent v (line ++ 10 ∷ further)
  no_event v line further none bad = λ e more h same. bad e h (first_line v line further e more none h same).0

  -- two lists of events with one text, after which no event begins, are one
  pub one_list : (v : Version) (a b : List Event) (r s : List ℕ) → AreEvents v a → AreEvents v b → BeginsNoEvent v r →
      BeginsNoEvent v s → event_lines v a ++ r ≡ event_lines v b ++ s → (a ≡ b) × (r ≡ s)
  one_list v [] [] r s h k p q e = (refl, e)
  one_list v [] (f ∷ b) r s h k p q e = absurd (p f (event_lines v b ++ s) k.0
      (e ∙ append_assoc (with_lf (event_words v f)) (event_lines v b) s))
  one_list v (d ∷ a) [] r s h k p q e = absurd (q d (event_lines v a ++ r) h.0
      (sym e ∙ append_assoc (with_lf (event_words v d)) (event_lines v a) r))
  one_list v (d ∷ a) (f ∷ b) r s h k p q e =
      let left : event_lines v (d ∷ a) ++ r ≡ event_words v d ++ 10 ∷ (event_lines v a ++ r) =
      append_assoc (with_lf (event_words v d)) (event_lines v a) r ∙ append_assoc (event_words v d) (10 ∷ [])
      (event_lines v a ++ r) in
      let right : event_lines v (f ∷ b) ++ s ≡ event_words v f ++ 10 ∷ (event_lines v b ++ s) =
      append_assoc (with_lf (event_words v f)) (event_lines v b) s ∙ append_assoc (event_words v f) (10 ∷ [])
      (event_lines v b ++ s) in
      let first = one_cut 10 (event_words v d) (event_lines v a ++ r) (event_words v f) (event_lines v b ++ s)
      (no_lf laws v d h.0) (no_lf laws v f k.0) (sym left ∙ e ∙ right) in
      let same = one_event v d f h.0 k.0 first.0 in
      let more = one_list v a b r s h.1 k.1 p q first.1 in
      (ap (λ x. x ∷ a) same ∙ ap (λ xs. f ∷ xs) more.0, more.1)

  -- ---- what is read of a line

  pub parts_spelled : (v : Version) (line step reply : List ℕ) (e : Event) → IsParted line step reply →
      parts_in v step reply ≡ Some e → IsEvent v e × (line ≡ event_words v e)
  parts_spelled v line step reply e h read =
      let z = zipped (step_in v (line_fields step)) (reply_in v (line_fields reply)) e read in
      let s = step_spelled laws v step e.0 z.0 in
      let r = reply_spelled laws v reply e.1 z.1 in (
        (s.0, r.0),
        h.parted ∙ ap (λ (x : List ℕ). (x ++ codes " | ") ++ reply) s.1 ∙
            ap (λ (x : List ℕ). (step_words v e.0 ++ codes " | ") ++ x) r.1,
      )

  parts_read : (v : Version) (line step reply : List ℕ) (e : Event) → IsParted line step reply → IsEvent v e →
      line ≡ event_words v e → parts_in v step reply ≡ Some e
  parts_read v line step reply e h is same =
      let p = one_parting line step reply (step_words v e.0) (reply_words v e.1) h
      (subst (λ (x : List ℕ). IsParted x (step_words v e.0) (reply_words v e.1)) (sym same)
      (event_parted laws v e is)) in
      zip_of (step_in v (line_fields step)) (reply_in v (line_fields reply)) e.0 e.1
      (ap (λ (x : List ℕ). step_in v (line_fields x)) p.0 ∙ step_read laws v e.0 is.0)
      (ap (λ (x : List ℕ). reply_in v (line_fields x)) p.1 ∙ reply_read laws v e.1 is.1)

  pub given_event : (v : Version) (line step reply : List ℕ) (r : Result Event ReadFault) → IsParted line step reply →
      IsReadAs (parts_in v step reply) r → IfOk r (λ (e : Event). IsEvent v e × (line ≡ event_words v e))
  given_event v line step reply (Ok e) h g = parts_spelled v line step reply e h g
  given_event v line step reply (Err e) h g = tt

  pub given_bad : (v : Version) (line step reply : List ℕ) (r : Result Event ReadFault) → IsParted line step reply →
      IsReadAs (parts_in v step reply) r → r ≡ Err Bad → (e : Event) → IsEvent v e → line ≢ event_words v e
  given_bad v line step reply (Ok x) h g b e is same = cc
  given_bad v line step reply (Err NoMemory) h g b e is same = cc
  given_bad v line step reply (Err Bad) h g b e is same =
      let none : None ≡ Some e = sym g ∙ parts_read v line step reply e h is same in
      cc
