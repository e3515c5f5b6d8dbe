use Rattle.std.proofs.Common.{take, sym, ap, ◌∙◌, ◌-◌}
use Rattle.am_record.specs.KeyFront.{front_of, key_front}
use Rattle.am_record.specs.OrderedKey.{bytes_of-key_of}
use Rattle.am_record.proofs.Fronts.{word-front, front-padded}
use Rattle.am_record.proofs.key.ShortKey.front.Goals as goal

pub returns : goal.returns
unfolding key_front
returns c =
    let bytes = take c.self.inside.len c.self.inside.bytes in
    c.word.ensures.value
    ∙ word-front c.self.inside.bytes c.word.ensures.bytes
    ∙ ap (front_of 8) c.self.invariant.padded
    ∙ front-padded 8 bytes (16 - c.self.inside.len)
    ∙ ap (front_of 8) (sym (bytes_of-key_of bytes))
    ∙ ap key_front c.self.view_is
