use Rattle.std.proofs.Common.{◌≡◌, ℕ, Bool, List, Option, Some, None, refl, sym, ap, ◌∙◌}
use Rattle.std.specs.Prelude.{IfSome, IfNone, is_some}
use Rattle.std.proofs.lemmas.Bool.{false≢true}
use Rattle.am_record.specs.declared.step.Op.{Op}
use Rattle.am_record.specs.declared.step.Reply.{Reply}
use Rattle.am_law_serial.specs.Machine.{State, is_full, due_early}
use Rattle.am_audit.proofs.RightReplies.{early_right, early_wrong, early_unasked}
use Rattle.am_audit.proofs.EventSteps.{takes_still, refused_nothing}
use Rattle.am_audit.proofs.Bodies.{listed_open, counted, not_counted}
use Rattle.am_audit.proofs.Performs.{open_of_none}
use Rattle.am_audit_replies.specs.declared.active.Active.{Active}
use Rattle.am_audit_replies.specs.OwnAnswers.{place_in}
use Rattle.am_audit.proofs.checker.Checker.operate.Goals as goal

-- the refusal that is due by the runs that were counted
same_due : (most_runs counted runs : ℕ) (reply : Reply) (full : Bool) (s : State) (t : ℕ) (op : Op) →
    full ≡ is_full most_runs counted reply → counted ≡ runs →
    due_early (is_full most_runs runs reply) s t op ≡ due_early full s t op
same_due most_runs counted runs reply full s t op is same =
    ap (λ b. due_early b s t op) (sym (is ∙ ap (λ n. is_full most_runs n reply) same))

if_some : {A : Type 0} {P Q : A → Type 0} (o : Option A) → ((x : A) → P x → Q x) → IfSome o P → IfSome o Q
if_some None f h = h
if_some (Some x) f h = f x h

if_none : {A P Q : Type 0} (o : Option A) → (P → Q) → IfNone o P → IfNone o Q
if_none None f h = f h
if_none (Some x) f h = h

pub perform-requires : goal.perform-requires
perform-requires g c = (
  c.requires.0,
  (
    c.requires.1,
    (
      same_due c.args.self.now.most_runs c.args.self.now.runs g.here.state.runs c.args.reply
          c.is_full-full.result
          g.here.state c.args.tx c.args.op c.is_full-full.ensures c.requires.0.runs ∙ sym c.in_default.ensures,
      (
        sym c.is_early.ensures ∙ c.if-is_early.false,
        (
          refl,
          ap (λ (all : List Active). place_in all c.args.tx) (sym c.deref.ensures.value)
              ∙ sym c.place_of-place.ensures.place ∙ c.in-Some-place.is,
        ),
      ),
    ),
  ),
)

pub refusal-requires : goal.refusal-requires
refusal-requires g c =
    let here = c.place_of-place.ensures.place ∙ ap (λ (all : List Active). place_in all c.args.tx)
    (c.deref.ensures.value ∙ sym c.deref-2.ensures.value) in (
      counted c.args.self.now g.here c.requires.0 _ c.deref-2.ensures.value c.args.tx c.operation_count.result
          (if_some c.operation_count.result (λ n told. told c.args.tx here)
          c.operation_count.ensures.found),
      not_counted c.args.self.now g.here c.requires.0 _ c.deref-2.ensures.value c.args.tx c.operation_count.result
          (if_none c.operation_count.result (λ told. told c.args.tx here)
          c.operation_count.ensures.none),
    )

pub returns-then-not-is_refused-clause-event_fault : goal.returns-then-not-is_refused-clause-event_fault
returns-then-not-is_refused-clause-event_fault g c =
    early_wrong c.args.self.now.most_runs g.here.state c.args.tx c.args.op c.args.reply c.in-Some.why
    (same_due c.args.self.now.most_runs c.args.self.now.runs g.here.state.runs c.args.reply c.is_full-full.result
    g.here.state c.args.tx c.args.op c.is_full-full.ensures c.requires.0.runs ∙ sym c.in-Some.ensures)
    (λ e. false≢true (c.if-not-is_refused.ensures.1 e))

pub returns-in-Some-clause-takes : goal.returns-in-Some-clause-takes
returns-in-Some-clause-takes g c =
    let is = c.if-not-is_refused.ensures.0 refl in
    takes_still c.args.self.now.most_runs _ g.here _ c.args.reply
    (refused_nothing c.args.tx c.args.op c.args.reply c.in-Some.why is)
    (early_right c.args.self.now.most_runs g.here.state c.args.tx c.args.op c.args.reply c.in-Some.why
    (same_due c.args.self.now.most_runs c.args.self.now.runs g.here.state.runs c.args.reply c.is_full-full.result
    g.here.state c.args.tx c.args.op c.is_full-full.ensures c.requires.0.runs ∙ sym c.in-Some.ensures) is) c.requires.0

pub returns-then-is_early-clause-event_fault : goal.returns-then-is_early-clause-event_fault
returns-then-is_early-clause-event_fault g c =
    early_unasked c.args.self.now.most_runs g.here.state c.args.tx c.args.op c.args.reply
    (same_due c.args.self.now.most_runs c.args.self.now.runs g.here.state.runs c.args.reply c.is_full-full.result
    g.here.state c.args.tx c.args.op c.is_full-full.ensures c.requires.0.runs ∙ sym c.in_default.ensures)
    (sym c.is_early.ensures ∙ c.if-is_early.true)

pub unreachable-requires : goal.unreachable-requires
unreachable-requires g c = false≢true (sym (ap is_some c.in_default-place.is) ∙ c.place_of-place.ensures.active
    ∙ listed_open c.args.self.now g.here c.requires.0 _ c.deref.ensures.value c.args.tx
    ∙ open_of_none c.is_full-full.result g.here.state c.args.tx c.args.op (sym c.in_default.ensures))
