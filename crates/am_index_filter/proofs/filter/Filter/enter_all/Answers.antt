use Rattle.std.proofs.Common.{◌≡◌, ◌<◌, ℕ, List, length, true, sym, ap, ◌∙◌, subst}
use Rattle.std.proofs.lemmas.List.{take_all}
use Rattle.std.specs.List.{fold, All}
use Rattle.am_index_filter.specs.Covers.{is_marked, marked}
use Rattle.am_index_filter.proofs.Covers.{covered_after, all_covered}
use Rattle.am_index_filter.proofs.filter.Filter.enter_all.Goals as goal

module _ (c : goal.After-loop-number) where
  all : c.loop-number.self ≡ fold marked c.args.self.now c.args.numbers.now
  all = c.loop-number.invariant ∙ ap (λ (l : List ℕ). fold marked c.args.self.now l)
      (take_all c.loop-number.number-index c.args.numbers.now c.loop-number-test.false)

pub returns-clause-covered : goal.returns-clause-covered
returns-clause-covered c =
    subst (λ (f : List ℕ). All (λ n. is_marked f n ≡ true) c.args.numbers.now) (sym (all c))
    (all_covered c.args.self.now (subst (λ (f : List ℕ). 0 < length f) c.self.view_is c.self.invariant.0)
    c.args.numbers.now)

pub returns-clause-kept : goal.returns-clause-kept
returns-clause-kept c = λ n had. subst (λ (f : List ℕ). is_marked f n ≡ true) (sym (all c))
    (covered_after c.args.self.now c.args.numbers.now n had)
