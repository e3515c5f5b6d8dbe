use Rattle.std.proofs.Common.{◌≡◌, ◌<◌, List, ℕ, true, length, sym, ap, ◌∙◌, subst}
use Rattle.std.proofs.lemmas.Grind.{get_or_default_zero}
use Rattle.am_index_filter.specs.Covers.{is_marked, place}
use Rattle.am_index_filter.proofs.Covers.{covered_still, marked_is}
use Rattle.am_index_filter.proofs.filter.Filter.enter.Goals as goal

pub returns-clause-kept : goal.returns-clause-kept
returns-clause-kept c = λ n had.
    let words = c.self.inside.words.items in let number = c.args.number in let at = c.place-place.result in
    let within = subst (λ (f : List ℕ). at < length f) (sym c.self.view_is) c.place-place.ensures.within in
    subst (λ (f : List ℕ). is_marked f n ≡ true)
    (sym (marked_is words number at c.index_mut.result.now c.marks.result
    (c.place-place.ensures.value ∙ ap (λ (f : List ℕ). place (length f) number) (sym c.self.view_is))
    (c.index_mut.ensures.value ∙ get_or_default_zero words at c.index_mut.result.now within)
    c.marks.ensures))
    (covered_still words number n (ap (λ (f : List ℕ). is_marked f n) c.self.view_is ∙ had))
