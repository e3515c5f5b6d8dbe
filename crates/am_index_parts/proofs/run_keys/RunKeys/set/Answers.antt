use Rattle.std.proofs.Common.{◌≡◌, Bool, true, false, refl, sym, ◌∙◌, subst, arith}
use Rattle.std.specs.Prelude.{not, nat_lt}
use Rattle.std.proofs.lemmas.Bool.{ltb-false}
use Rattle.am_record.specs.KeyNumber.{key_number}
use Rattle.am_record.specs.declared.hash_key.HashKey.{HashKey}
use Rattle.am_index.specs.Entries.{set_entry}
use Rattle.am_index_parts.specs.Catalogs.{live_of}
use Rattle.am_index_parts.specs.RunFilters.{MayBeIn}
use Rattle.am_index_parts.specs.declared.run_keys.RunKeys.{RunKeys}
use Rattle.am_index_parts.specs.RunKeys.{AreKnown, KnowsOf}
use Rattle.am_index_parts.proofs.Alive.{contrary, differ}
use Rattle.am_index_parts.proofs.KnownKeys.{known_set, known_woken, known_asleep, weaker, by_filters, known_by}
use Rattle.am_index_parts.proofs.run_keys.RunKeys.set.Goals as goal

pub returns-then-part-eq0 : goal.returns-then-part-eq0
returns-then-part-eq0 c = λ es key value there mark whole are.
    known_set c.args.self.now es are c.args.part key value c.args.is_ghost c.args.was_live (sym mark)
    (λ says some. absurd (omega (arith, some, c.if-part-eq0.true)))

pub returns-then-was_live-is_ghost : goal.returns-then-was_live-is_ghost
returns-then-was_live-is_ghost c = λ es key value there mark whole are.
    let same : c.args.was_live ≡ not c.args.is_ghost = contrary c.args.was_live c.args.is_ghost
    (differ c.args.was_live c.args.is_ghost c.if-was_live-is_ghost.true) in
    known_set c.args.self.now es are c.args.part key value c.args.is_ghost c.args.was_live (sym mark)
    (subst (λ (l : Bool). KnowsOf c.args.self.now c.args.was_live c.args.part key → KnowsOf c.args.self.now l
    c.args.part key)
    same (λ says. says))

pub returns-then-not-is_ghost : goal.returns-then-not-is_ghost
returns-then-not-is_ghost c = λ es key value there mark whole are.
    let old = c.args.self.now.filters in
    let new = c.wake.new.self in
    let gs = new.generations.items in
    let after : RunKeys = record { apart = c.args.self.now.apart; ends = c.args.self.now.ends; filters = new } in
    subst (λ (b : Bool). AreKnown (set_entry es c.args.part key value b) after) (sym c.if-not-is_ghost.true)
    (known_woken es c.args.self.now after c.args.part key value c.args.was_live (sym mark) (λ order. order)
    (λ live part k it. by_filters c.args.self.now after live part k
    refl refl
    (λ by. subst (λ (h : HashKey). MayBeIn live gs part (key_number h k)) (sym c.wake.ensures.hash)
    (c.wake.ensures.kept live part (key_number old.hash k) by)) it)
    (known_by after false true c.args.part key (c.wake.ensures.woken (key_number new.hash key)))
    are)

pub returns-then-not-has_live : goal.returns-then-not-has_live
returns-then-not-has_live c = λ es key value there mark whole are.
    let now = set_entry es c.args.part key value c.args.is_ghost in
    let old = c.args.self.now.filters in
    let gs = c.sleep.new.self.generations.items in
    let none : nat_lt 0 (live_of c.args.part now) ≡ false =
    sym (c.has_live.ensures now whole (omega (arith, c.if-part-eq0.false))) ∙ c.if-not-has_live.true in
    let nothing : live_of c.args.part now ≡ 0 = omega (arith, ltb-false 0 (live_of c.args.part now) none) in
    let after : RunKeys =
    record { apart = c.args.self.now.apart; ends = c.args.self.now.ends; filters = c.sleep.new.self } in
    known_asleep now c.args.self.now after c.args.part (λ order. order)
    (λ live part k other it. by_filters c.args.self.now after live part k
    refl refl
    (λ by. subst (λ (h : HashKey). MayBeIn live gs part (key_number h k)) (sym c.sleep.ensures.hash)
    (c.sleep.ensures.kept live part (key_number old.hash k) other by)) it) nothing
    (known_set c.args.self.now es are c.args.part key value c.args.is_ghost c.args.was_live (sym mark)
    (weaker c.args.self.now c.args.was_live c.args.part key c.args.is_ghost c.if-not-is_ghost.false))

pub returns-else-not-has_live : goal.returns-else-not-has_live
returns-else-not-has_live c = λ es key value there mark whole are.
    known_set c.args.self.now es are c.args.part key value c.args.is_ghost c.args.was_live (sym mark)
    (weaker c.args.self.now c.args.was_live c.args.part key c.args.is_ghost c.if-not-is_ghost.false)
