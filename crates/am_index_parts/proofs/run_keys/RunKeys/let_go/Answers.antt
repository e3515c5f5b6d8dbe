use Rattle.std.proofs.Common.{◌≡◌, inl, inr, ⊎_elim, None, length, sym, ap, ◌∙◌, subst}
use Rattle.std.proofs.lemmas.Bool.{eqb-true}
use Rattle.am_record.specs.KeyNumber.{key_number}
use Rattle.am_record.specs.declared.hash_key.HashKey.{HashKey}
use Rattle.am_index_parts.specs.declared.run_keys.RunKeys.{RunKeys}
use Rattle.am_index_parts.specs.RunFilters.{MayBeIn}
use Rattle.am_index_parts.proofs.KnownKeys.{known_open, none_in_none}
use Rattle.am_index_parts.proofs.run_keys.RunKeys.let_go.Goals as goal

pub returns-then-is_empty : goal.returns-then-is_empty
returns-then-is_empty c = λ es whole are.
    let old = c.args.self.now in
    let gs = c.let_go-2.new.self.generations.items in
    let after : RunKeys = record { apart = c.let_go.new.self; ends = None; filters = c.let_go-2.new.self } in
    let none : length gs ≡ 0 = ap length (sym c.generations.ensures) ∙
    eqb-true _ _ (sym c.is_empty.ensures ∙ c.if-is_empty.true) in
    known_open es c.args.catalog.now.runs.items old after (λ _. c.let_go.ensures.order) whole.counted.every
    (λ live part key stays it. ⊎_elim (λ stands. inl (c.let_go.ensures.kept part key stays stands))
    (λ by. absurd (none_in_none live part (key_number old.filters.hash key) gs none
    (c.let_go-2.ensures.kept live part (key_number old.filters.hash key) stays by.1))) it) are

pub returns-else-is_empty : goal.returns-else-is_empty
returns-else-is_empty c = λ es whole are.
    let old = c.args.self.now in
    let gs = c.let_go-2.new.self.generations.items in
    let after : RunKeys = record { apart = c.let_go.new.self; ends = old.ends; filters = c.let_go-2.new.self } in
    known_open es c.args.catalog.now.runs.items old after (λ _. c.let_go.ensures.order) whole.counted.every
    (λ live part key stays it. ⊎_elim (λ stands. inl (c.let_go.ensures.kept part key stays stands))
    (λ by. inr (
      by.0,
      subst (λ (h : HashKey). MayBeIn live gs part (key_number h key)) (sym c.let_go-2.ensures.hash)
          (c.let_go-2.ensures.kept live part (key_number old.filters.hash key) stays by.1),
    )) it) are
