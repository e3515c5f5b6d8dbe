use Rattle.std.proofs.Common.{◌≡◌, List, ℕ, length, take, sym, subst, ◌∙◌, arith}
use Rattle.std.proofs.lemmas.List.{take_all}
use Rattle.std.specs.Cmp.Lexicographic.{same_text}
use Rattle.am_replica_trials.proofs.open.OpenTrial.keep_for.Goals as goal

pub returns-then-eq-clause-first : goal.returns-then-eq-clause-first
returns-then-eq-clause-first g c =
    let own = c.args.self.now.lines.items in
    let same : own ≡ c.args.lines.now =
    sym c.as_slice.ensures.value
    ∙ same_text c.as_slice.result.now c.args.lines.now (sym c.if-eq.true ∙ c.eq.ensures) in
    subst (λ (lines : List ℕ). own ≡ take (length own) lines) same (sym (take_all (length own) own (omega arith)))
