-- The lines of a trace, one more of them written.
use Rattle.std.proofs.Common.{◌≡◌, ◌≢◌, ℕ, zero, suc, ◌<◌, List, [], ◌∷◌, ◌++◌, length, get_or, drop, take, sym, ap}
use Rattle.std.proofs.Common.{◌∙◌, subst, arith, append_assoc, append-nil}
use Rattle.std.specs.List.{AllByRecursion}
use Rattle.std.proofs.Math.Seq.{drop-cons}
use Rattle.am_record.specs.declared.step.Reply.TheVariants.{Refused}
use Rattle.am_record.specs.declared.step.Refusal.TheVariants.{SeatFull}
use Rattle.am_record.specs.Events.{Event}
use Rattle.am_trace_text.specs.Lines.{IsEvent, AreEvents, CanBeStored, event_words, event_lines, with_lf}
use Rattle.am_trace_text.specs.Lines.{header_line, trace_text}
use Rattle.am_trace_text.specs.Headers.{line_version}
use Rattle.am_trace_text.specs.declared.header.Header.{Header}
use Rattle.am_trace_text.specs.declared.version.Version.{Version}

pub written_line : (v : Version) (page new text : List ℕ) (trace : List Event) (i n : ℕ) (e : Event) → n ≡ suc i →
    i < length trace → e ≡ get_or trace i e →
    page ++ event_lines v (drop i trace) ≡ text → new ≡ page ++ with_lf (event_words v e) → new ++
    event_lines v (drop n trace) ≡ text
written_line v page new text trace i n e next inside is before after =
    ap (λ m. new ++ event_lines v (drop m trace)) next
    ∙ ap (λ x. x ++ event_lines v (drop (suc i) trace)) after
    ∙ append_assoc page (with_lf (event_words v e)) (event_lines v (drop (suc i) trace))
    ∙ ap (λ rest. page ++ event_lines v rest) (ap (λ x. x ∷ drop (suc i) trace) is ∙ sym (drop-cons trace i e inside))
    ∙ before

all_more : (P : Event → Type 0) (trace : List Event) (i : ℕ) (e : Event) → i < length trace → e ≡ get_or trace i e →
    AllByRecursion P (take (suc i) trace) → AllByRecursion P (take i trace) × P e
all_more P [] i e inside is h = absurd (omega arith)
all_more P (f ∷ trace) zero e inside is h = (tt, subst P (sym is) h.0)
all_more P (f ∷ trace) (suc i) e inside is h = let more = all_more P trace i e (omega arith) is h.1 in
    ((h.0, more.0), more.1)

with_one : (P : Event → Type 0) (trace : List Event) (i : ℕ) (e : Event) → i < length trace → e ≡ get_or trace i e →
    AllByRecursion P (take i trace) → P e → AllByRecursion P (take (suc i) trace)
with_one P [] i e inside is h p = absurd (omega arith)
with_one P (f ∷ trace) zero e inside is h p = (subst P is p, tt)
with_one P (f ∷ trace) (suc i) e inside is h p = (h.0, with_one P trace i e (omega arith) is h.1 p)

pub stored_more : (v : Version) (trace : List Event) (i n : ℕ) (e : Event) → n ≡ suc i → i < length trace →
    e ≡ get_or trace i e →
    (CanBeStored (take i trace) → AreEvents v (take i trace)) → (e.1 ≢ Refused SeatFull → IsEvent v e) →
    CanBeStored (take n trace) → AreEvents v (take n trace)
stored_more v trace i n e next inside is before event h =
    let split = all_more (λ (x : Event). x.1 ≢ Refused SeatFull) trace i e inside is
    (subst (λ m. CanBeStored (take m trace)) next h) in
    subst (λ m. AreEvents v (take m trace)) (sym next)
    (with_one (IsEvent v) trace i e inside is (before split.0) (event split.1))

pub all_behind : {A : Type 0} (P : A → Type 0) (trace : List A) (e : A) → AllByRecursion P trace → P e →
    AllByRecursion P (trace ++ e ∷ [])
all_behind P [] e h p = (p, tt)
all_behind P (f ∷ trace) e h p = (h.0, all_behind P trace e h.1 p)

pub lines_behind : (v : Version) (trace : List Event) (e : Event) → event_lines v (trace ++ e ∷ []) ≡ event_lines v
    trace ++ with_lf (event_words v e)
lines_behind v [] e = append-nil (with_lf (event_words v e))
lines_behind v (f ∷ trace) e = ap (λ x. with_lf (event_words v f) ++ x) (lines_behind v trace e) ∙
    sym (append_assoc (with_lf (event_words v f)) (event_lines v trace) (with_lf (event_words v e)))

-- one line more was read
pub read_line : (h : Header) (text rest line further : List ℕ) (trace : List Event) (e : Event) →
    text ≡ trace_text h trace ++ rest → rest ≡ line ++ 10 ∷ further → line ≡ event_words (line_version h) e →
    text ≡ trace_text h (trace ++ e ∷ []) ++ further
read_line h text rest line further trace e before cut is =
    let v = line_version h in
    let ends : rest ≡ with_lf (event_words v e) ++ further = cut ∙ ap (λ x. x ++ 10 ∷ further) is ∙
    sym (append_assoc (event_words v e) (10 ∷ []) further) in
    before ∙ ap (λ x. trace_text h trace ++ x) ends
    ∙ sym (append_assoc (trace_text h trace) (with_lf (event_words v e)) further)
    ∙ ap (λ x. x ++ further) (append_assoc (header_line h) (event_lines v trace) (with_lf (event_words v e)) ∙
    ap (λ x. header_line h ++ x) (sym (lines_behind v trace e)))
