-- What one step does to each transaction, whatever the state.
use Rattle.std.proofs.Common.{◌≡◌, ℕ, List, [], ◌∷◌, ◌++◌, false, refl, sym, ap, ◌∙◌}
use Rattle.std.specs.Prelude.{not}
use Rattle.std.proofs.lemmas.Bool.{not-false}
use Rattle.std.proofs.lemmas.List.{map-append}
use Rattle.am_record.specs.declared.lock.Lock.{Lock}
use Rattle.am_record.specs.declared.step.Refusal.TheVariants.{NoSuchTx}
use Rattle.am_record.specs.Plain.{PlainMap, Draft, fresh, left_on}
use Rattle.am_record.specs.Asks.{lock_of, locks_of}
use Rattle.am_record.specs.ByNumber.{with_changed}
use Rattle.am_record.proofs.Bodies.{left_on_push}
use Rattle.am_record.proofs.ByNumber.{has_number-push_own, has_number-push_other, of_number-push_none, of_number-none}
use Rattle.am_record.proofs.ByNumber.{has_number-with_changed, of_number-with_changed, of_number-with_changed_other}
use Rattle.am_record.proofs.ByNumber.{has_number-without_number, has_number-without_other, of_number-without_other}
use Rattle.am_law_serial.specs.Trace.{Answered, ops_of}
use Rattle.am_law_serial.specs.Machine.{State, Transaction, is_open, body_in, due_early, due_lock}
use Rattle.am_law_serial.specs.Machine.{extended}
use Rattle.am_law_serial.specs.Steps.{StepLaws}
use Rattle.am_law_serial.proofs.Bodies.{locks_of-push}
use Rattle.am_law_serial.proofs.Runs.{none_of_first, none_of_both, not_busy, nobody_blocks}

-- ---- the transactions' bodies

abbrev number : Transaction → ℕ
number x = x.0

abbrev own : Transaction → List Answered
own x = x.1

-- ---- the laws

abbrev draft_of : PlainMap → List Answered → Draft
draft_of m done = left_on (ops_of done) (fresh m)

abbrev locks_by : List Answered → List Lock
locks_by done = locks_of (ops_of done)

begun : (t u : ℕ) (txs : List Transaction) → body_in (txs ++ (t, []) ∷ []) u ≡ body_in txs u
begun t u txs = of_number-push_none number own [] txs (t, []) u refl

pub step_laws : (s : State) → StepLaws s
step_laws s = record {
  granted = λ t op none_due.
      let both = none_of_both (due_early false s t op) (due_lock s t op) none_due in
      let first = none_of_first (not (is_open s.active t)) NoSuchTx _ both.0 in
      record {
        is_active = not-false (is_open s.active t) first.0;
        free = nobody_blocks s.active t (lock_of op) (not_busy _ _ both.1);
      };
  begins = λ t h.
      let none = begun t t s.active ∙ of_number-none number own [] t s.active h in
      record {
        is_active = has_number-push_own number s.active (t, []);
        locks = ap locks_by none;
        view = ap (draft_of s.committed) none;
      };
  begins_others = λ t u n. record {
    keeps = record {
      is_active = has_number-push_other number s.active (t, []) u (λ e. n (sym e));
      locks = ap locks_by (begun t u s.active);
    };
    view = ap (draft_of s.committed) (begun t u s.active);
  };
  answers = λ t op reply on.
      let longer = of_number-with_changed number (extended (op, reply)) t own [] (λ done. done ++ (op, reply) ∷ [])
      (λ x. refl) (λ x. refl) s.active on in
      let ops : ops_of (body_in (with_changed number (extended (op, reply)) t s.active) t) ≡ ops_of
      (body_in s.active t) ++ op ∷ [] =
      ap ops_of longer ∙ map-append (λ (a : Answered). a.0) (body_in s.active t) ((op, reply) ∷ []) in
      record {
        is_active = has_number-with_changed number (extended (op, reply)) t (λ x. refl) s.active t ∙ on;
        locks = ap locks_of ops ∙ locks_of-push (ops_of (body_in s.active t)) op;
        view = ap (λ os. left_on os (fresh s.committed)) ops ∙ left_on_push (ops_of (body_in s.active t)) op
            (fresh s.committed);
      };
  answers_others = λ t op reply u n.
      let same = of_number-with_changed_other number (extended (op, reply)) t own [] (λ x. refl) s.active u n in
      record {
        keeps = record {
          is_active = has_number-with_changed number (extended (op, reply)) t (λ x. refl) s.active u;
          locks = ap locks_by same;
        };
        view = ap (draft_of s.committed) same;
      };
  commits = λ t. has_number-without_number number t s.active;
  commits_others = λ t u n. record {
    is_active = has_number-without_other number t s.active u n;
    locks = ap locks_by (of_number-without_other number own [] t s.active u n);
  };
  aborts = λ t. has_number-without_number number t s.active;
  aborts_others = λ t u n. record {
    keeps = record {
      is_active = has_number-without_other number t s.active u n;
      locks = ap locks_by (of_number-without_other number own [] t s.active u n);
    };
    view = ap (draft_of s.committed) (of_number-without_other number own [] t s.active u n);
  };
}
