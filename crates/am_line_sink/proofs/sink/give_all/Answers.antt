use Rattle.std.proofs.Common.{ℕ, ◌≡◌, ◌+◌, Bool, true, false, ◌||◌, ltb, arith, ap, ◌∙◌, length-drop}
use Rattle.std.proofs.Math.Seq.{take-add}
use Rattle.std.proofs.lemmas.Bool.Decides.{nat_tests}
use Rattle.std.proofs.lemmas.List.{take_rest}
use Rattle.am_line_sink.proofs.Writes.{gave_then}
use Rattle.am_line_sink.proofs.sink.give_all.Goals as goal

either : (a b : ℕ) → (ltb 0 a || ltb 0 b) ≡ ltb 0 (a + b)
either a b = grind (arith, nat_tests)

-- bytes are pending where some were, or some came
more_pending : (p q r : Bool) (a b : ℕ) → q ≡ (p || ltb 0 a) → r ≡ (q || ltb 0 b) → r ≡ (p || ltb 0 (a + b))
more_pending true q r a b e f = f ∙ ap (λ x. x || ltb 0 b) e
more_pending false q r a b e f = f ∙ ap (λ x. x || ltb 0 b) e ∙ either a b

pub loop-done-preserved : goal.loop-done-preserved
loop-done-preserved g c = record {
  within = omega (arith, length-drop {A = ℕ}, c.in_ok-done.ensures.fits);
  given = rw (take-add) (gave_then g.K.Sink.holds c.args.sink.now c.loop-done.sink c.give.new.self _ _
      c.loop-done.invariant.given (simp take_rest at c.in_ok-done.ensures.given));
  pending = more_pending (g.K.Sink.pending c.args.sink.now) (g.K.Sink.pending c.loop-done.sink)
      (g.K.Sink.pending c.give.new.self) c.loop-done.done c.in_ok-done.field-0 c.loop-done.invariant.pending
      c.in_ok-done.ensures.pending;
  ok = c.in_ok-done.ensures.ok ∙ c.loop-done.invariant.ok;
}
