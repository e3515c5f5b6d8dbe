use Rattle.std.proofs.Common.{sym, ◌∙◌, get_or}
use Rattle.am_record.specs.KeyFields.{fields_of-view}
use Rattle.am_record.specs.KeyMix.{mix_in, bytes_mix, key_mix}
use Rattle.am_record.specs.KeyWords.{key_words}
use Rattle.am_record.proofs.key.Key.mixed.Goals as goal

pub returns : goal.returns
unfolding key_mix bytes_mix
returns c =
    let fields = fields_of-view c.self.inside c.self.invariant in
    c.mix-3.ensures
    ∙ (λ i. mix_in (c.mix-2.ensures i) (get_or (c.words-words.ensures.value i) 3 0))
    ∙ (λ i. mix_in (mix_in (c.mix-front.ensures i) (get_or (c.words-words.ensures.value i) 2 0))
    (get_or (key_words c.self.inside.bytes) 3 0))
    ∙ (λ i. mix_in (mix_in (mix_in (c.mix.ensures i) (get_or (c.words-words.ensures.value i) 1 0))
    (get_or (key_words c.self.inside.bytes) 2 0)) (get_or (key_words c.self.inside.bytes) 3 0))
    ∙ (λ i. mix_in (mix_in (mix_in (mix_in (c.from.ensures i) (get_or (c.words-words.ensures.value i) 0 0))
    (get_or (key_words c.self.inside.bytes) 1 0)) (get_or (key_words c.self.inside.bytes) 2 0))
    (get_or (key_words c.self.inside.bytes) 3 0))
    ∙ (λ i. bytes_mix (sym fields i).bytes (sym fields i).len)
    ∙ (λ i. key_mix (c.self.view_is i))
