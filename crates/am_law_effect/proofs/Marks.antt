-- Looking back to marks, and the notes since them.
use Rattle.std.proofs.Common.{◌≡◌, ◌≤◌, ◌-◌, ℕ, zero, suc, List, [], ◌∷◌, ◌++◌, length, true, false, cond, ◌&&◌, refl}
use Rattle.std.proofs.Common.{sym, ap, ◌∙◌, subst, ⊎_elim, Option, Some, None, arith}
use Rattle.std.proofs.lemmas.Bool.{cases_Bool, cond-true, cond-false, or_cases, or_left, or_right, eq-eqb, false≢true}
use Rattle.am_law_effect.proofs.Backs.{describe_laws, older_describe}
use Rattle.am_law_effect.proofs.Lists.{look-reslotted, look-reslotted_none}
use Rattle.am_law_effect.proofs.NotesAtPlaces.{back, back_some}
use Rattle.am_law_effect.specs.History.{Moment, aborted, backed_by, from_mark, gone_back, left_at}
use Rattle.am_law_effect.specs.Operations.{goes_back, is_plain, sets_mark}
use Rattle.am_law_effect.specs.History.{marked_by, moments_since, wrote, wrote_by}
use Rattle.am_law_effect.specs.Laws.{BackLaws, Describes, DescribesEach}
use Rattle.am_law_effect.specs.Places.{look}
use Rattle.am_index.specs.Entries.{Slot}
use Rattle.am_record.specs.EntryOrder.{Place}
use Rattle.am_record.specs.OrderedKey.{OrderedKey}
use Rattle.am_record.specs.declared.entry.Entry.{Entry}
use Rattle.am_record.specs.declared.step.Op.{Op}
use Rattle.am_record.specs.declared.step.Op.TheVariants.{Back, Mark}
use Rattle.am_record.specs.declared.step.Reply.{Reply}
use Rattle.am_record.specs.declared.step.Reply.TheVariants.{Done}
use Rattle.am_record.proofs.Newest.{length-until, since-new, since-none, since-older, since-until}
use Rattle.am_law_serial.specs.Trace.{Answers, Effect}
use Rattle.am_record.specs.Marks.{since, until, since_mark, has_mark}
use Rattle.am_store_undo.specs.Undo.{is_noted_run}
use Rattle.am_store_undo.specs.declared.note.Note.{Note}
use Rattle.am_store_undo.proofs.NotesSinceMarks.{run_taken}

-- ---- moments

-- by another event of the transaction, or by one of others
pub since-other : (t : ℕ) (m : Moment) (past : List Moment) → backed_by t m.0 ≡ false → marked_by t m.0 ≡ false →
    (n : ℕ) → moments_since t (m ∷ past) n ≡ m ∷ moments_since t past n
since-other t m past b k n =
    cond-false (backed_by t m.0) (m ∷ moments_since t past (suc n))
    (cond (marked_by t m.0) (from_mark m (moments_since t past) n) (m ∷ moments_since t past n)) b
    ∙ cond-false (marked_by t m.0) (from_mark m (moments_since t past) n) (m ∷ moments_since t past n) k

pub since-mark : (t : ℕ) (es : List Entry) (past : List Moment) (n : ℕ) →
    moments_since t ((Answers t Mark Done, es) ∷ past) n ≡ from_mark (Answers t Mark Done, es) (moments_since t past) n
since-mark t es past n =
    cond-false (backed_by t (Answers t Mark Done)) (m ∷ moments_since t past (suc n))
    (cond (marked_by t (Answers t Mark Done)) (from_mark m (moments_since t past) n) (m ∷ moments_since t past n))
    (ap (λ b. b && false) (eq-eqb t t refl))
    ∙ cond-true (marked_by t (Answers t Mark Done)) (from_mark m (moments_since t past) n) (m ∷ moments_since t past n)
    (ap (λ b. b && true) (eq-eqb t t refl))
  where
    m : Moment
    m = (Answers t Mark Done, es)

pub since-back : (t : ℕ) (es : List Entry) (past : List Moment) (n : ℕ) →
    moments_since t ((Answers t Back Done, es) ∷ past) n ≡ (Answers t Back Done, es) ∷ moments_since t past (suc n)
since-back t es past n =
    cond-true (backed_by t (Answers t Back Done)) (m ∷ moments_since t past (suc n))
    (cond (marked_by t (Answers t Back Done)) (from_mark m (moments_since t past) n) (m ∷ moments_since t past n))
    (ap (λ b. b && true) (eq-eqb t t refl))
  where
    m : Moment
    m = (Answers t Back Done, es)

-- what was written since a mark was written
module _ (t : ℕ) (q : OrderedKey) where
  more_written : (m : Moment) (xs ys : List Moment) → (wrote t q xs ≡ true → wrote t q ys ≡ true) →
      wrote t q (m ∷ xs) ≡ true → wrote t q (m ∷ ys) ≡ true
  more_written m xs ys h w = ⊎_elim (λ now. or_left (wrote_by t q m.0) (wrote t q ys) now)
      (λ before. or_right (wrote_by t q m.0) (wrote t q ys) (h before)) (or_cases (wrote_by t q m.0) (wrote t q xs) w)

  up_to_mark : (m : Moment) (past : List Moment) →
      ((k : ℕ) → wrote t q (moments_since t past k) ≡ true → wrote t q past ≡ true) → (n : ℕ) →
      wrote t q (from_mark m (moments_since t past) n) ≡ true → wrote t q (m ∷ past) ≡ true
  up_to_mark m past rest zero h = absurd (false≢true h)
  up_to_mark m past rest (suc n) h = more_written m (moments_since t past n) past (rest n) h

  pub wrote_since : (past : List Moment) (n : ℕ) → wrote t q (moments_since t past n) ≡ true → wrote t q past ≡ true
  wrote_since [] n w = w
  wrote_since (m ∷ past) n w = ⊎_elim
      (λ yes. more_written m (moments_since t past (suc n)) past (wrote_since past (suc n))
      (subst (λ l. wrote t q l ≡ true) (cond-true (backed_by t m.0) _ _ yes) w))
      (λ no. ⊎_elim
      (λ mark. up_to_mark m past (λ k. wrote_since past k) n
      (subst (λ l. wrote t q l ≡ true) (cond-false (backed_by t m.0) _ _ no ∙ cond-true (marked_by t m.0) _ _ mark)
      w))
      (λ other. more_written m (moments_since t past n) past (wrote_since past n)
      (subst (λ l. wrote t q l ≡ true) (cond-false (backed_by t m.0) _ _ no ∙
      cond-false (marked_by t m.0) _ _ other) w))
      (cases_Bool (marked_by t m.0)))
      (cases_Bool (backed_by t m.0))

-- ---- the notes since each mark

-- what keeps the notes since one keeps them all, with notes made on top
module _ (t : ℕ) (past : List Moment) (d : Effect) (es es' : List Entry) (notes new : List Note)
    (j : ℕ → ℕ) (next : (n : ℕ) → j (suc n) ≡ suc (j n))
    (shift : (n : ℕ) → moments_since t ((d, es) ∷ past) (j n) ≡ (d, es) ∷ moments_since t past n)
    (keep : (past' : List Moment) (part : List Note) →
    ((q : OrderedKey) → wrote t q past' ≡ true → wrote t q past ≡ true) →
    ((p : ℕ) → is_noted_run part p ≡ true → is_noted_run notes p ≡ true) → Describes t past' es part →
    Describes t ((d, es) ∷ past') es' (new ++ part)) where
  pub each_more : (n top top' : ℕ) (marks : List ℕ) → top ≤ length notes → top ≤ top' →
      DescribesEach t past es notes n top marks → DescribesEach t ((d, es) ∷ past) es' (new ++ notes) (j n) top' marks
  each_more n top top' [] l k u = keep past notes (λ q h. h) (λ p h. h) u
  each_more n top top' (mark ∷ marks) l k u =
      let low : mark ≤ top = u.0 in (
        omega arith,
        (
          subst (λ x. Describes t x es' (since mark (new ++ notes))) (sym (shift n))
              (subst (Describes t ((d, es) ∷ moments_since t past n) es') (sym (since-new new notes mark (omega arith)))
              (keep (moments_since t past n) (since mark notes) (λ q h. wrote_since t q past n h)
              (λ p h. run_taken (length notes - mark) notes p h) u.1.0)),
          subst (λ x. DescribesEach t ((d, es) ∷ past) es' (new ++ notes) x mark marks) (next n)
              (each_more (suc n) mark mark marks (omega arith) (omega arith) u.1.1),
        ),
      )

-- an event that sets no mark of the transaction's, and goes back to none
module _ (t : ℕ) (past : List Moment) (d : Effect) (es es' : List Entry) (notes new : List Note) (marks : List ℕ)
    (back_no : backed_by t d ≡ false) (mark_no : marked_by t d ≡ false)
    (keep : (past' : List Moment) (part : List Note) →
    ((q : OrderedKey) → wrote t q past' ≡ true → wrote t q past ≡ true) →
    ((p : ℕ) → is_noted_run part p ≡ true → is_noted_run notes p ≡ true) → Describes t past' es part →
    Describes t ((d, es) ∷ past') es' (new ++ part)) where
  longer : (xs ys : List Note) → length ys ≤ length (xs ++ ys)
  longer [] ys = omega arith
  longer (x ∷ xs) ys = let ih = longer xs ys in omega arith

  pub each_next : DescribesEach t past es notes 0 (length notes) marks → DescribesEach t ((d, es) ∷ past) es'
      (new ++ notes) 0 (length (new ++ notes)) marks
  each_next u = each_more t past d es es' notes new (λ n. n) (λ n. refl) (since-other t (d, es) past back_no mark_no)
      keep 0 (length notes) (length (new ++ notes)) marks (omega arith) (longer new notes) u

-- a mark is set
pub each_marked : (t : ℕ) (past : List Moment) (es : List Entry) (notes : List Note) (marks : List ℕ) →
    DescribesEach t past es notes 0 (length notes) marks → DescribesEach t ((Answers t Mark Done, es) ∷ past) es notes 0
    (length notes) (length notes ∷ marks)
each_marked t past es notes marks u = (
  omega arith,
  (
    subst (λ x. Describes t x es (since (length notes) notes)) (sym (since-mark t es past 0))
        (subst (Describes t [] es) (sym (since-none notes)) nothing),
    each_more t past (Answers t Mark Done) es es notes [] (λ n. suc n) (λ n. refl) (λ n. since-mark t es past (suc n))
        (λ past' part w r v. (describe_laws t past' es part v).others (Answers t Mark Done) es unwriting (λ q h p. refl)
        (λ q p made e. e))
        0 (length notes) (length notes) marks (omega arith) (omega arith) u,
  ),
)
  where
    nothing : Describes t [] es []
    nothing = record { same = λ a. refl; stands = λ a e. refl; owns = tt; own_runs = λ q h p r. absurd (false≢true r) }

    unwriting : (q : OrderedKey) → wrote_by t q (Answers t Mark Done) ≡ false
    unwriting q = ap (λ b. b && false) (eq-eqb t t refl)

-- looking back is taking the notes back, at each place
pub taken_at : (t : ℕ) (past : List Moment) (es : List Entry) (notes : List Note) → Describes t past es notes →
    (a : Place) → look (aborted t past es) a ≡ back notes a (look es a)
taken_at t past es notes u a = by_slot (look es a) refl
  where
    by_slot : (o : Option Slot) → look es a ≡ o → look (aborted t past es) a ≡ back notes a (look es a)
    by_slot None e = look-reslotted_none (λ part key s. left_at t (part, key) past es) es a e ∙ sym (u.stands a e) ∙
        ap (back notes a) (sym e)
    by_slot (Some s) e =
        let z = back_some notes a s in
        let left : left_at t a past es ≡ Some z.0 = sym (u.same a) ∙ ap (back notes a) e ∙ z.1 in
        look-reslotted (λ part key o. left_at t (part, key) past es) es a s z.0 e left ∙ sym z.1 ∙
        ap (back notes a) (sym e)

-- it goes back to the newest mark
module _ (t : ℕ) (past : List Moment) (es : List Entry) (notes : List Note) (mark : ℕ) (low : mark ≤ length notes)
    (v : Describes t (moments_since t past 0) es (since mark notes)) where
  unwriting : (q : OrderedKey) → wrote_by t q (Answers t Back Done) ≡ false
  unwriting q = ap (λ b. b && false) (eq-eqb t t refl)

  one_older : (past' : List Moment) (part : List Note) → Describes t past' es (since mark notes ++ part) →
      Describes t ((Answers t Back Done, es) ∷ past') (gone_back t past es) part
  one_older past' part u = older_describe t past' es (since mark notes) part u v.stands (Answers t Back Done)
      (gone_back t past es) unwriting (taken_at t (moments_since t past 0) es (since mark notes) v)

  each_older : (n top : ℕ) (marks : List ℕ) → top ≤ mark → DescribesEach t past es notes (suc n) top marks →
      DescribesEach t ((Answers t Back Done, es) ∷ past) (gone_back t past es) (until mark notes) n top marks
  each_older n top [] k u = one_older past (until mark notes)
      (subst (Describes t past es) (sym (since-until notes mark)) u)
  each_older n top (old ∷ marks) k u =
      let less : old ≤ top = u.0 in (
        u.0,
        (
          subst (λ x. Describes t x (gone_back t past es) (since old (until mark notes))) (sym (since-back t es past n))
              (one_older (moments_since t past (suc n)) (since old (until mark notes))
              (subst (Describes t (moments_since t past (suc n)) es) (since-older notes mark old low (omega arith))
              u.1.0)),
          each_older (suc n) old marks (omega arith) u.1.1,
        ),
      )

pub back_laws : (t : ℕ) (past : List Moment) (es : List Entry) (notes : List Note) (marks : List ℕ) →
    DescribesEach t past es notes 0 (length notes) marks → has_mark marks ≡ true → BackLaws t past es notes marks
back_laws t past es notes [] u some = absurd (false≢true some)
back_laws t past es notes (mark ∷ marks) u some = record {
  backed = λ r. (describe_laws t (moments_since t past 0) es (since mark notes) u.1.0).aborted r;
  goes_on = subst (λ x. DescribesEach t ((Answers t Back Done, es) ∷ past) (gone_back t past es) (until mark notes) 0 x
      marks) (sym (length-until notes mark u.0))
      (each_older t past es notes mark u.0 u.1.0 0 mark marks (omega arith) u.1.1);
}

-- at each place, going back is taking the notes since the mark back
pub backed_at : (t : ℕ) (past : List Moment) (es : List Entry) (notes : List Note) (top : ℕ) (marks : List ℕ) →
    has_mark marks ≡ true → DescribesEach t past es notes 0 top marks → (a : Place) →
    look (gone_back t past es) a ≡ back
    (since_mark marks notes) a (look es a)
backed_at t past es notes top [] some u = absurd (false≢true some)
backed_at t past es notes top (mark ∷ marks) some u = taken_at t (moments_since t past 0) es (since mark notes) u.1.0

pub whole_describes : (t : ℕ) (past : List Moment) (es : List Entry) (notes : List Note) (n top : ℕ) (marks : List ℕ) →
    DescribesEach t past es notes n top marks → Describes t past es notes
whole_describes t past es notes n top [] u = u
whole_describes t past es notes n top (mark ∷ marks) u = whole_describes t past es notes (suc n) mark marks u.1.1

-- ---- operations that set no mark and go back to none

pub plain_unmarked : (op : Op) (reply : Reply) → is_plain op ≡ true → sets_mark op reply ≡ false
plain_unmarked Mark reply h = absurd (false≢true h)
plain_unmarked op reply h = refl

pub plain_unbacked : (op : Op) (reply : Reply) → is_plain op ≡ true → goes_back op reply ≡ false
plain_unbacked Back reply h = absurd (false≢true h)
plain_unbacked op reply h = refl
