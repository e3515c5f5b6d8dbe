use Rattle.std.proofs.Common.{arith, rules, refl, inl, false, ◌≡◌, ℕ, length, List, [], ◌∷◌, ◌++◌, vec_len}
use Rattle.std.proofs.Common.{vec_capacity, ◌+◌, ◌-◌, ◌≤◌, min, append_assoc, ap, sym, subst, ◌∙◌}
use Rattle.am_record.specs.declared.step.Step.{Step}
use Rattle.am_record.specs.declared.step.Reply.TheVariants.{Refused}
use Rattle.am_record.specs.declared.step.Refusal.TheVariants.{NoMemory}
use Rattle.am_law_serial.specs.Trace.{Trace}
use Rattle.am_latch_engine.specs.Changes.{active_in_trace, change, numbers_with, HasTrace, MayFollow}
use Rattle.am_latch_engine.specs.EngineFields.{room_left, most_positions}
use Rattle.am_latch_engine.specs.Traces.{EngineState, ends_after}
use Rattle.am_latch_engine.specs.Wants.{MayWantMemory, pairs_needed}
use Rattle.am_latch_engine.proofs.Rooms.{room_step, room_less, ends_spent}
use Rattle.am_latch_engine.proofs.StoreAnswers.{active_from-snoc}
use Rattle.am_latch_engine.proofs.MemoryWants.{short, short_of, store_wants, by_reason, refused_so}
use Rattle.am_latch_engine.proofs.engine.Engine.step_with.Goals as goal

pub push_reserved-requires : goal.push_reserved-requires
push_reserved-requires c =
    let g = c.take_step-reply.ensures.goes (c.self.inside.handed.trace ++ c.self.inside.trace.items)
    c.self.invariant.trace in
    let room = c.get_room-has_room in
    let i = c.self.invariant in
    (room_step _ c.args.step c.take_step-reply.result _ _ _ _ _ g.answers record {
      enough = i.ends;
      fits = omega (arith, i.trace_room, room.ensures.long.0, room.ensures.kept.0);
    } c.pairs_for-more.ensures
    (λ e. (room.ensures.got e).1) (λ e. (
      c.may_go_on.ensures.yes c.if-not-may_go_on.false e,
      c.is_kept.ensures.real c.if-not-is_kept.false e,
    ))).0

pub push_reserved-requires-2 : goal.push_reserved-requires-2
push_reserved-requires-2 c =
    let g = c.take_step-reply.ensures.goes (c.self.inside.handed.trace ++ c.self.inside.trace.items)
    c.self.invariant.trace in
    let room = c.get_room-has_room in
    let i = c.self.invariant in
    (room_step _ c.args.step c.take_step-reply.result _ _ _ _ _ g.answers record {
      enough = i.ends;
      fits = omega (arith, i.calls_room, room.ensures.long.1, room.ensures.kept.1);
    } c.pairs_for-more.ensures
    (λ e. (room.ensures.got e).2) (λ e. (
      c.may_go_on.ensures.yes c.if-not-may_go_on.false e,
      c.is_kept.ensures.real c.if-not-is_kept.false e,
    ))).0

pub invariant_of-self-2 : goal.invariant_of-self-2
invariant_of-self-2 c =
    let before = c.self.inside.handed.trace in
    let old = c.self.inside.handed.trace ++ c.self.inside.trace.items in
    let st = c.args.step in
    let r = c.take_step-reply.result in
    let g = c.take_step-reply.ensures.goes old c.self.invariant.trace in
    let room = c.get_room-has_room in
    let i = c.self.invariant in
    let kept : c.push_reserved.new.self.items ≡ c.self.inside.trace.items ++ (st, r) ∷ [] =
    c.push_reserved.ensures.items ∙ (λ j. room.ensures.same.0 j ++ (c.requires.same j, c.copy_reply.ensures j) ∷ []) in
    let pushed : before ++ c.push_reserved.new.self.items ≡ old ++ (st, r) ∷ [] = ap (λ (l : Trace). before ++ l) kept ∙
    sym (append_assoc before c.self.inside.trace.items ((st, r) ∷ [])) in
    let ends : c.count_ends-self-inside.result ≡ ends_after c.self.inside.ends (change st r) =
    c.count_ends-self-inside.ensures ∙ ap (ends_after c.self.inside.ends)
    (c.change_by-change.ensures ∙ ap (λ (s : Step). change s r) c.requires.same) in
    let now : active_in_trace (before ++ c.push_reserved.new.self.items) ≡ numbers_with (active_in_trace old)
    (change st r) = ap active_in_trace pushed ∙ active_from-snoc [] old (st, r) in
    let a = (room_step (active_in_trace old) st r c.self.inside.ends c.pairs_for-more.result (vec_len room.new.trace)
    (vec_capacity room.new.trace) room.result g.answers record {
      enough = i.ends;
      fits = omega (arith, i.trace_room, room.ensures.long.0, room.ensures.kept.0);
    } c.pairs_for-more.ensures
    (λ e. (room.ensures.got e).1) (λ e. (
      c.may_go_on.ensures.yes c.if-not-may_go_on.false e,
      c.is_kept.ensures.real c.if-not-is_kept.false e,
    ))).1 in
    let b = (room_step (active_in_trace old) st r c.self.inside.ends c.pairs_for-more.result (vec_len room.new.calls)
    (vec_capacity room.new.calls) room.result g.answers record {
      enough = i.ends;
      fits = omega (arith, i.calls_room, room.ensures.long.1, room.ensures.kept.1);
    } c.pairs_for-more.ensures
    (λ e. (room.ensures.got e).2) (λ e. (
      c.may_go_on.ensures.yes c.if-not-may_go_on.false e,
      c.is_kept.ensures.real c.if-not-is_kept.false e,
    ))).1 in
    let n = (room_step (active_in_trace old) st r c.self.inside.ends c.pairs_for-more.result
    (c.self.inside.count + vec_len room.new.trace) 18446744073709551615 room.result g.answers
    record { enough = i.ends; fits = omega (arith, i.numbers, room.ensures.long.0) } c.pairs_for-more.ensures
    (λ e. let got = room.ensures.numbers e in omega (arith, got))
    (λ e. (c.may_go_on.ensures.yes c.if-not-may_go_on.false e, c.is_kept.ensures.real c.if-not-is_kept.false e))).1 in
    let p = c.push_reserved.ensures in
    let q = c.push_reserved-2.ensures in record {
      trace = subst (λ (h : Trace). HasTrace h c.take_step-reply.new.store) (sym pushed) g.here;
      even_handed = i.even_handed;
      count = i.count;
      even = omega (arith, p.len, q.len, room.ensures.long.0, room.ensures.long.1, i.even);
      ends = omega (arith, a.enough, ap (λ (l : List ℕ). length l) now, ends);
      trace_room = omega (arith, a.fits, ends, p.len, p.capacity);
      calls_room = omega (arith, b.fits, ends, q.len, q.capacity);
      numbers = omega (arith, n.fits, ends, p.len);
    }

pub returns-then-not-may_go_on-clause-memory : goal.returns-then-not-may_go_on-clause-memory
returns-then-not-may_go_on-clause-memory c = λ is.
    let i = c.self.invariant in
    let inside = c.self.inside in
    let none : c.get_room-has_room.result ≡ false = c.may_go_on.ensures.short (search rules) in
    subst (λ (e : EngineState). MayWantMemory e c.args.step) c.self.view_is
    (inl (short (room_left inside) (pairs_needed c.args.step) c.pairs_for-more.result inside.count
    (vec_len inside.trace)
    (vec_len inside.calls) inside.ends (vec_capacity inside.trace) (vec_capacity inside.calls)
    c.get_room-has_room.result none c.pairs_for-more.ensures refl i.even (short_of c.args.step)
    c.get_room-has_room.ensures.there))

pub returns-then-not-is_kept-clause-memory : goal.returns-then-not-is_kept-clause-memory
returns-then-not-is_kept-clause-memory c = λ is.
    let i = c.self.invariant in
    let inside = c.self.inside in
    let st = c.args.step in
    let e : EngineState = record {
      most_runs = inside.store.most_runs;
      trace = inside.handed.trace ++ inside.trace.items;
      calls = inside.handed.calls ++ inside.calls.items;
      handed = inside.handed;
      room = room_left inside;
    } in
    let lost : c.is_kept.result ≡ false = search rules in
    let own = c.take_step-reply.ensures.own e.trace i.trace in
    subst (λ (e : EngineState). MayWantMemory e st) c.self.view_is
    (by_reason e st c.get_room-has_room.result
    (λ none. short (room_left inside) (pairs_needed st) c.pairs_for-more.result inside.count (vec_len inside.trace)
    (vec_len inside.calls) inside.ends (vec_capacity inside.trace) (vec_capacity inside.calls)
    c.get_room-has_room.result none c.pairs_for-more.ensures refl i.even (short_of st)
    c.get_room-has_room.ensures.there)
    (λ had. store_wants e inside.store st c.take_step-reply.result i.trace (c.is_kept.ensures.lost lost had)
    c.take_step-reply.ensures.memory own))

pub returns-then-not-is_kept-clause-answers : goal.returns-then-not-is_kept-clause-answers
returns-then-not-is_kept-clause-answers c =
    let g = c.take_step-reply.ensures.goes (c.self.inside.handed.trace ++ c.self.inside.trace.items)
    c.self.invariant.trace in
    let lost : c.is_kept.result ≡ false = search rules in
    subst (λ (e : EngineState). MayFollow (active_in_trace e.trace) c.args.step (Refused NoMemory)) c.self.view_is
    (refused_so _ c.args.step c.take_step-reply.result g.answers (c.is_kept.ensures.no lost))

pub returns-clause-room : goal.returns-clause-room
returns-clause-room c =
    let inside = c.self.inside in
    let room = c.get_room-has_room.ensures in
    let st = c.args.step in
    let r = c.take_step-reply.result in
    let ends : c.count_ends-self-inside.result ≡ ends_after inside.ends (change st r) =
    c.count_ends-self-inside.ensures ∙ ap (ends_after inside.ends)
    (c.change_by-change.ensures ∙ ap (λ (s : Step). change s r) c.requires.same) in
    let spent = ends_spent st r inside.ends in
    let p = c.push_reserved.ensures in
    let q = c.push_reserved-2.ensures in
    let less = room_less (pairs_needed st) inside.count (vec_len inside.trace) (vec_len c.push_reserved.new.self)
    inside.ends c.count_ends-self-inside.result (vec_capacity inside.trace) (vec_capacity c.push_reserved.new.self)
    (vec_capacity inside.calls) (vec_capacity c.push_reserved-2.new.self)
    (omega (arith, room.kept.0, p.capacity)) (omega (arith, room.kept.1, q.capacity))
    (omega (arith, room.long.0, p.len)) (omega (arith, spent, ends)) in
    let len = vec_len c.push_reserved.new.self in
    let after = c.count_ends-self-inside.result in
    let left : ℕ = min (min (vec_capacity c.push_reserved.new.self) (vec_capacity c.push_reserved-2.new.self) -
    (len + after))
    (most_positions - (inside.count + len + after)) in
    subst (λ (n : ℕ). n ≤ left + pairs_needed st) (ap (λ (e : EngineState). e.room) c.self.view_is) less
