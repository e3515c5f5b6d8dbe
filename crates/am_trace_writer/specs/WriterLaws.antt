-- A writer that takes one piece and then another took both.
use Rattle.std.proofs.Common.{◌≡◌, ℕ, List, [], ◌∷◌, ◌++◌, Bool, true, false, ◌||◌, Option, Some, None, refl, ap, sym}
use Rattle.std.proofs.Common.{◌∙◌, subst, append_assoc, append-nil}
use Rattle.std.specs.List.{list_any}
use Rattle.std.proofs.Math.Bool.{or-false, or_assoc}
use Rattle.std.proofs.lemmas.List.Folds.{list_any-append}
use Rattle.std.proofs.lemmas.Bool.{true≢false}
use Rattle.am_law_serial.specs.Trace.{Trace}
use Rattle.std.specs.Io.KnownBytes.{Appends}
use Rattle.am_line_sink.specs.SinkWrites.{Gave, GaveBeginning}
use Rattle.am_line_sink.proofs.Writes.{gave_then, beginning_of_first, beginning_then}
use Rattle.am_trace_text.specs.Lines.{event_lines, event_words, with_lf}
use Rattle.am_trace_text.specs.declared.version.Version.TheVariants.{Three}
use Rattle.am_trace_text.specs.Versions.{needs_three}
use Rattle.am_trace_writer.specs.Writers.{TookLines, needs_three_with}

lines_of_both : (x y : Trace) → event_lines Three (x ++ y) ≡ event_lines Three x ++ event_lines Three y
lines_of_both [] y = refl
lines_of_both (e ∷ x) y =
    ap (λ l. with_lf (event_words Three e) ++ l) (lines_of_both x y) ∙
    sym (append_assoc (with_lf (event_words Three e)) (event_lines Three x) (event_lines Three y))

gave_none : (o : Option (List ℕ)) → Appends o o []
gave_none None = tt
gave_none (Some bytes) = sym (append-nil bytes)

module _ {K : Type 0} (holds : K → Option (List ℕ)) where
  gave_none_then : (a b c : K) (x : List ℕ) → Gave holds a x b → Gave holds b [] c → Gave holds a x c
  gave_none_then a b c x f h = subst (λ (z : List ℕ). Gave holds a z c) (append-nil x) (gave_then holds a b c x [] f h)

  begun_none_then : (a b c : K) (x : List ℕ) → GaveBeginning holds a x b → Gave holds b [] c → GaveBeginning holds a x c
  begun_none_then a b c x f h = (f.0, gave_none_then a b c _ f.1 h)

  -- the first piece was written whole
  pub took_then : (a b c : K) (cut was : Bool) (x y : Trace) → TookLines holds a was x b false →
      TookLines holds b false y c cut → TookLines holds a was (x ++ y) c cut
  took_then a b c true was x y f h = record {
    gave = subst (λ (l : List ℕ). GaveBeginning holds a l c) (sym (lines_of_both x y))
        (beginning_then holds a b c (event_lines Three x) (event_lines Three y) f.gave h.gave);
    stays = λ e. absurd (true≢false (sym (f.stays e).0));
  }
  took_then a b c false was x y f h = record {
    gave = subst (λ (l : List ℕ). Gave holds a l c) (sym (lines_of_both x y))
        (gave_then holds a b c (event_lines Three x) (event_lines Three y) f.gave h.gave);
    stays = λ e. absurd (true≢false (sym (f.stays e).0));
  }

  -- it was cut in the first piece, or before, and nothing is written of the second
  pub cut_then : (a b c : K) (was : Bool) (x y : Trace) → TookLines holds a was x b true → Gave holds b [] c →
      TookLines holds a was (x ++ y) c true
  cut_then a b c was x y f h = record {
    gave = subst (λ (l : List ℕ). GaveBeginning holds a l c) (sym (lines_of_both x y))
        (beginning_of_first holds a c (event_lines Three x) (event_lines Three y) (begun_none_then a b c _ f.gave h));
    stays = λ e. (refl, gave_none_then a b c [] (f.stays e).1 h);
  }

  pub took_no_lines : (a : K) (cut : Bool) → TookLines holds a cut [] a cut
  took_no_lines a true = record { gave = (0, gave_none (holds a)); stays = λ e. (refl, gave_none (holds a)) }
  took_no_lines a false = record { gave = gave_none (holds a); stays = λ e. absurd (true≢false (sym e)) }

  pub took_lines_of_both : (a b c : K) (was between cut : Bool) (x y : Trace) → TookLines holds a was x b between →
      TookLines holds b between y c cut → TookLines holds a was (x ++ y) c cut
  took_lines_of_both a b c was false cut x y f h = took_then a b c cut was x y f h
  took_lines_of_both a b c was true true x y f h = cut_then a b c was x y f (h.stays refl).1
  took_lines_of_both a b c was true false x y f h = absurd (true≢false (sym (h.stays refl).0))

  -- where it is cut, nothing is written of what comes then
  pub still_cut : (a b : K) (was cut : Bool) (x y : Trace) → cut ≡ true → TookLines holds a was x b cut →
      TookLines holds a was (x ++ y) b cut
  still_cut a b was true x y is f = cut_then a b b was x y f (gave_none (holds b))
  still_cut a b was false x y is f = absurd (true≢false (sym is))

-- ---- the version that is needed

pub needs_no_more : (was : Bool) → was ≡ needs_three_with was []
needs_no_more was = sym (or-false was)

pub needs_of_both : (was between is : Bool) (x y : Trace) → between ≡ needs_three_with was x →
    is ≡ needs_three_with between y → is ≡ needs_three_with was (x ++ y)
needs_of_both was between is x y f h =
    h ∙ ap (λ b. b || list_any needs_three y) f ∙ or_assoc was (list_any needs_three x) (list_any needs_three y)
    ∙ ap (λ b. was || b) (sym (list_any-append needs_three x y))
