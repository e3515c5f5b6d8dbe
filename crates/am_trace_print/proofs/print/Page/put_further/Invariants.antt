use Rattle.std.proofs.Common.{◌≡◌, ◌++◌, ◌∷◌, List, ℕ, drop}
use Rattle.std.specs.List.{flat_map}
use Rattle.am_trace_print.proofs.print.Page.put_further.Given as goal

abbrev pub invariant-loop-field : goal.invariant-loop-field
invariant-loop-field l = l.self ++ flat_map (λ (f : List ℕ). 32 ∷ f) (drop l.field-index l.fields) ≡ l.fn.self ++
    flat_map (λ (f : List ℕ). 32 ∷ f) l.fields
