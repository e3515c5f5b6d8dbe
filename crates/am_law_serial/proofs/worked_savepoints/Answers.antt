use Rattle.std.proofs.Common.{◌≡◌, ◌⊎◌, ℕ, inl, refl, sym, ◌∙◌, subst, ⊎_elim, lit<, Some, None, List}
use Rattle.std.specs.Prelude.{MatchOption}
use Rattle.std.specs.FinMap.{get, get-insert, get-empty, empty}
use Rattle.am_record.specs.OrderedKey.{OrderedKey, key_cmp, key_cmp-key_of, key_cmp-total}
use Rattle.am_record.specs.declared.step.Refusal.{Refusal}
use Rattle.am_record.specs.declared.step.Refusal.TheVariants.{Busy, NoMemory}
use Rattle.am_record.specs.declared.step.Op.{Op}
use Rattle.am_record.specs.declared.step.Op.TheVariants.{Get, Insert, Replace, Delete, Mark, Back}
use Rattle.am_record.specs.declared.step.Reply.{Reply}
use Rattle.am_record.specs.declared.step.Reply.TheVariants.{Done, Found, Absent, NoMark, Refused}
use Rattle.am_record.specs.Plain.{answer}
use Rattle.am_law_serial.specs.Trace.{Begins, Answers, Commits}
use Rattle.am_law_serial.specs.Machine.{State, start, next, is_full, due, view, MayDo, Runs}
use Rattle.am_law_serial.specs.Rows.{key_a, key_b, one, two, three, nested_marks, back_keeps_locks, back_forgotten}
use Rattle.am_law_serial.proofs.worked_savepoints.Goals as goal

granted : (s : State) (t : ℕ) (op : Op) (reply : Reply) → due (is_full 65535 s.runs reply) s t op ≡ None →
    reply ≡ answer op (view s t) → MayDo 65535 s t op reply
granted s t op reply d e = subst (λ o. MatchOption o ((reply ≡ answer op (view s t)) ⊎ (reply ≡ Refused NoMemory))
    (λ why. reply ≡ Refused why)) (sym d) (inl e)

refused : (s : State) (t : ℕ) (op : Op) (why : Refusal) → due (is_full 65535 s.runs (Refused why)) s t op ≡ Some why →
    MayDo 65535 s t op (Refused why)
refused s t op why d = subst (λ o. MatchOption o ((Refused why ≡ answer op (view s t)) ⊎
    (Refused why ≡ Refused NoMemory)) (λ w. Refused why ≡ Refused w)) (sym d) refl

nothing : (q : OrderedKey) → get (empty {X = List ℕ} {R = key_cmp}) q ≡ None
nothing = get-empty key_cmp

-- the answers on the way of the nested savepoints
abbrev n1 : State
n1 = next start (Begins 1)

abbrev n2 : State
n2 = next n1 (Answers 1 (Insert key_a one) Done)

abbrev n3 : State
n3 = next n2 (Answers 1 Mark Done)

abbrev n4 : State
n4 = next n3 (Answers 1 (Replace key_a two) Done)

abbrev n5 : State
n5 = next n4 (Answers 1 (Insert key_b three) Done)

abbrev n6 : State
n6 = next n5 (Answers 1 Mark Done)

abbrev n7 : State
n7 = next n6 (Answers 1 (Delete key_a) Done)

abbrev n8 : State
n8 = next n7 (Answers 1 Back Done)

abbrev n9 : State
n9 = next n8 (Answers 1 (Get key_a) (Found two))

abbrev n10 : State
n10 = next n9 (Answers 1 Back Done)

abbrev n11 : State
n11 = next n10 (Answers 1 (Get key_a) (Found one))

abbrev n12 : State
n12 = next n11 (Answers 1 (Get key_b) Absent)

abbrev n13 : State
n13 = next n12 (Answers 1 Back NoMark)

row_nested : Runs 65535 start nested_marks
row_nested = (
  (refl, lit< tt, lit< tt),
  (
    granted n1 1 (Insert key_a one) Done refl (simp nothing),
    (
      granted n2 1 Mark Done refl refl,
      (
        granted n3 1 (Replace key_a two) Done refl (simp (
          nothing,
          get-insert {X = List ℕ} key_cmp-total,
          key_cmp-key_of,
        )),
        (
          granted n4 1 (Insert key_b three) Done (simp key_cmp-key_of)
              (simp (nothing, get-insert {X = List ℕ} key_cmp-total, key_cmp-key_of)),
          (
            granted n5 1 Mark Done refl refl,
            (
              granted n6 1 (Delete key_a) Done (simp key_cmp-key_of)
                  (simp (nothing, get-insert {X = List ℕ} key_cmp-total, key_cmp-key_of)),
              (
                granted n7 1 Back Done refl refl,
                (
                  granted n8 1 (Get key_a) (Found two) (simp key_cmp-key_of)
                      (simp (nothing, get-insert {X = List ℕ} key_cmp-total, key_cmp-key_of)),
                  (
                    granted n9 1 Back Done refl refl,
                    (
                      granted n10 1 (Get key_a) (Found one) (simp key_cmp-key_of)
                          (simp (nothing, get-insert {X = List ℕ} key_cmp-total, key_cmp-key_of)),
                      (
                        granted n11 1 (Get key_b) Absent (simp key_cmp-key_of)
                            (simp (nothing, get-insert {X = List ℕ} key_cmp-total, key_cmp-key_of)),
                        (
                          granted n12 1 Back NoMark refl refl,
                          ((refl, refl), tt),
                        ),
                      ),
                    ),
                  ),
                ),
              ),
            ),
          ),
        ),
      ),
    ),
  ),
)

row_locks : Runs 65535 start back_keeps_locks
row_locks =
    let s2 = next (next start (Begins 1)) (Begins 2) in
    let s3 = next s2 (Answers 1 Mark Done) in
    let s4 = next s3 (Answers 1 (Insert key_a one) Done) in
    let s5 = next s4 (Answers 1 Back Done) in
    let s7 = next s5 (Commits 1) in (
      (refl, lit< tt, lit< tt),
      (
        (refl, lit< tt, lit< tt),
        (
          granted s2 1 Mark Done refl refl,
          (
            granted s3 1 (Insert key_a one) Done refl (simp nothing),
            (
              granted s4 1 Back Done refl refl,
              (
                refused s5 2 (Get key_a) (Busy 1) (simp key_cmp-key_of),
                (
                  (refl, refl),
                  (granted s7 2 (Get key_a) Absent refl (simp nothing), tt),
                ),
              ),
            ),
          ),
        ),
      ),
    )

-- what a granted operation may be answered
may_only : (s : State) (t : ℕ) (op : Op) (reply : Reply) → due (is_full 65535 s.runs reply) s t op ≡ None →
    MayDo 65535 s t op reply →
    (reply ≡ answer op (view s t)) ⊎ (reply ≡ Refused NoMemory)
may_only s t op reply d m = subst (λ o. MatchOption o ((reply ≡ answer op (view s t)) ⊎ (reply ≡ Refused NoMemory))
    (λ why. reply ≡ Refused why)) d m

row_forgotten : Runs 65535 start back_forgotten → ⊥
row_forgotten r =
    let s4 = next (next (next (next start (Begins 1)) (Answers 1 Mark Done)) (Answers 1 (Insert key_a one) Done))
    (Answers 1 Back Done) in
    let absent : answer (Get key_a) (view s4 1) ≡ Absent = simp nothing in
    ⊎_elim
    (λ e. let no : Found one ≡ Absent = e ∙ absent in cc)
    (λ e. cc)
    (may_only s4 1 (Get key_a) (Found one) refl r.1.1.1.1.0)

pub returns : goal.returns
returns c = record {
  nested = row_nested;
  locks_stay = row_locks;
  forgotten = row_forgotten;
}
