-- Facts of each event of a trace, and of each moment.
use Rattle.std.proofs.Common.{List, [], ◌∷◌, ◌++◌, sym, subst, append_assoc}
use Rattle.std.proofs.lemmas.List.{append-nil}
use Rattle.am_record.specs.declared.step.Step.{Step}
use Rattle.am_record.specs.declared.step.Reply.{Reply}
use Rattle.am_record.specs.Events.{Event}
use Rattle.am_law_serial.specs.Trace.{Trace, Effect, effect, effects, AtEachMoment}
use Rattle.am_law_serial.specs.Sound.{EachEvent}

module _ (P : List Effect → Step → Reply → Type 0) where
  each_push : (trace : Trace) (es : List Effect) (e : Event) → EachEvent P es trace → P (es ++ effects trace) e.0 e.1 →
      EachEvent P es (trace ++ e ∷ [])
  each_push [] es e h here = (subst (λ l. P l e.0 e.1) (append-nil es) here, tt)
  each_push (x ∷ trace) es e h here = (
    h.0,
    each_push trace (es ++ effect x.0 x.1 ∷ []) e h.1
        (subst (λ l. P l e.0 e.1) (sym (append_assoc es (effect x.0 x.1 ∷ []) (effects trace))) here),
  )

  pub one_more_event : (trace : Trace) (step : Step) (reply : Reply) → EachEvent P [] trace →
      P (effects trace) step reply → EachEvent P [] (trace ++ (step, reply) ∷ [])
  one_more_event trace step reply h here = each_push trace [] (step, reply) h here

  each_at : (trace : Trace) (es : List Effect) (e : Event) (later : Trace) → EachEvent P es (trace ++ e ∷ later) →
      P (es ++ effects trace) e.0 e.1
  each_at [] es e later h = subst (λ l. P l e.0 e.1) (sym (append-nil es)) h.0
  each_at (x ∷ trace) es e later h = subst (λ l. P l e.0 e.1) (append_assoc es (effect x.0 x.1 ∷ []) (effects trace))
      (each_at trace (es ++ effect x.0 x.1 ∷ []) e later h.1)

  pub event_at : (trace : Trace) (e : Event) (later : Trace) → EachEvent P [] (trace ++ e ∷ later) →
      P (effects trace) e.0 e.1
  event_at trace e later h = each_at trace [] e later h

module _ (P : List Effect → Type 0) where
  moments_push : (trace : Trace) (es : List Effect) (e : Event) → AtEachMoment P es trace →
      P (es ++ effects trace ++ effect e.0 e.1 ∷ []) → AtEachMoment P es (trace ++ e ∷ [])
  moments_push [] es e h here = (h, subst (λ l. P (l ++ effect e.0 e.1 ∷ [])) (append-nil es) here)
  moments_push (x ∷ trace) es e h here = (
    h.0,
    moments_push trace (es ++ effect x.0 x.1 ∷ []) e h.1
        (subst (λ l. P (l ++ effect e.0 e.1 ∷ [])) (sym (append_assoc es (effect x.0 x.1 ∷ []) (effects trace)))
        here),
  )

  pub one_more_moment : (trace : Trace) (step : Step) (reply : Reply) → AtEachMoment P [] trace →
      P (effects trace ++ effect step reply ∷ []) → AtEachMoment P [] (trace ++ (step, reply) ∷ [])
  one_more_moment trace step reply h here = moments_push trace [] (step, reply) h here

  first : (trace : Trace) (es : List Effect) → AtEachMoment P es trace → P es
  first [] es h = h
  first (x ∷ trace) es h = h.0

  last : (trace : Trace) (es : List Effect) → AtEachMoment P es trace → P (es ++ effects trace)
  last [] es h = subst P (sym (append-nil es)) h
  last (x ∷ trace) es h = subst P (append_assoc es (effect x.0 x.1 ∷ []) (effects trace))
      (last trace (es ++ effect x.0 x.1 ∷ []) h.1)

  pub last_moment : (trace : Trace) → AtEachMoment P [] trace → P (effects trace)
  last_moment trace h = last trace [] h

  after : (trace : Trace) (es : List Effect) (e : Event) (later : Trace) → AtEachMoment P es (trace ++ e ∷ later) →
      P (es ++ effects trace ++ effect e.0 e.1 ∷ [])
  after [] es e later h = subst (λ l. P (l ++ effect e.0 e.1 ∷ [])) (sym (append-nil es))
      (first later (es ++ effect e.0 e.1 ∷ []) h.1)
  after (x ∷ trace) es e later h = subst (λ l. P (l ++ effect e.0 e.1 ∷ []))
      (append_assoc es (effect x.0 x.1 ∷ []) (effects trace)) (after trace (es ++ effect x.0 x.1 ∷ []) e later h.1)

  pub moment_after : (trace : Trace) (e : Event) (later : Trace) → AtEachMoment P [] (trace ++ e ∷ later) →
      P (effects trace ++ effect e.0 e.1 ∷ [])
  moment_after trace e later h = after trace [] e later h
