use Rattle.std.proofs.Common.{get_or, sym, ◌∙◌}
use Rattle.am_record.specs.KeyFields.{fields_of-view}
use Rattle.am_record.specs.KeyNumber.{fold_in, bytes_number, key_number}
use Rattle.am_record.specs.KeyWords.{key_words}
use Rattle.am_record.proofs.key.Key.number.Goals as goal

pub returns : goal.returns
unfolding key_number bytes_number
returns c =
    let fields = fields_of-view c.self.inside c.self.invariant in let hash = c.args.hash in
    let words = key_words c.self.inside.bytes in let len = c.self.inside.len in
    c.fold_in-3.ensures
    ∙ (λ i. fold_in hash (c.fold_in-2.ensures i) (c.from.ensures i))
    ∙ (λ i. fold_in hash (fold_in hash (c.fold_in-front.ensures i) (get_or (c.words-words.ensures.value i) 3 0)) len)
    ∙ (λ i. fold_in hash (fold_in hash (fold_in hash (c.fold_in.ensures i) (get_or (c.words-words.ensures.value i) 2 0))
    (get_or words 3 0)) len)
    ∙ (λ i. fold_in hash (fold_in hash (fold_in hash
    (fold_in hash (get_or (c.words-words.ensures.value i) 0 0) (get_or (c.words-words.ensures.value i) 1 0))
    (get_or words 2 0)) (get_or words 3 0)) len)
    ∙ (λ i. bytes_number hash (sym fields i).bytes (sym fields i).len)
    ∙ (λ i. key_number hash (c.self.view_is i))
