use Rattle.std.proofs.Common.{◌≡◌, ◌≢◌, Bool, true, false, Option, None, Some, refl, sym, ◌∙◌}
use Rattle.std.specs.Prelude.{is_some, not}
use Rattle.am_record.specs.declared.entry.Entry.{Entry}
use Rattle.am_store_merge.proofs.Fronts.{goes_past, begins_at, not_so_many, past_the_front, has_front}
use Rattle.am_store_merge.proofs.unasked.front_with.Goals as goal

none_of : (o : Option Entry) (b : Bool) → is_some o ≡ not b → b ≡ true → o ≡ None
none_of None b h t = refl
none_of (Some e) true h t = absurd (cc)
none_of (Some e) false h t = absurd (cc)

some_of : (o : Option Entry) (b : Bool) → is_some o ≡ not b → b ≡ false → o ≢ None
some_of (Some e) b h f none = absurd (cc)
some_of None true h f none = absurd (cc)
some_of None false h f none = absurd (cc)

pub returns-then-is_none : goal.returns-then-is_none
returns-then-is_none g c =
    goes_past c.args.parts.now.entries c.first_in_run.ensures.sound.rising c.args.range c.args.run c.args.front
    (sym c.first_in_run.ensures.first ∙ none_of c.first_in_run.result c.is_none.result c.is_none.ensures
    c.if-is_none.true) c.requires.before

pub returns-in_default : goal.returns-in_default
returns-in_default g c =
    not_so_many c.args.parts.now.entries c.first_in_run.ensures.sound.rising c.args.range c.args.run c.requires.is_run
    c.unwrap_or-front.result
    (begins_at c.args.parts.now.entries c.first_in_run.ensures.sound.rising c.args.range c.args.run c.args.front
    c.unwrap_or-front.result c.requires.is_run c.unwrap_or-front.ensures
    (λ none. some_of c.first_in_run.result c.is_none.result c.is_none.ensures c.if-is_none.false
    (c.first_in_run.ensures.first ∙ none)) c.requires.before)
    c.entries.result.now (c.entries.ensures.all ∙ c.first_in_run.ensures.read) c.in_default.ensures.lookup.3

pub returns-then-not-contains : goal.returns-then-not-contains
returns-then-not-contains g c =
    past_the_front c.args.parts.now.entries c.first_in_run.ensures.sound.rising c.args.range c.args.run
    c.requires.is_run c.unwrap_or-front.result
    (begins_at c.args.parts.now.entries c.first_in_run.ensures.sound.rising c.args.range c.args.run c.args.front
    c.unwrap_or-front.result c.requires.is_run c.unwrap_or-front.ensures
    (λ none. some_of c.first_in_run.result c.is_none.result c.is_none.ensures c.if-is_none.false
    (c.first_in_run.ensures.first ∙ none)) c.requires.before)
    c.entries.result.now (c.entries.ensures.all ∙ c.first_in_run.ensures.read) c.in-Some.last.now
    c.in-Some.ensures.lookup.3.0 c.in-Some.ensures.lookup.1 (sym c.contains.ensures ∙ c.if-not-contains.true)

pub returns : goal.returns
returns g c =
    has_front c.args.parts.now.entries c.first_in_run.ensures.sound.rising c.args.range c.args.run
    c.requires.is_run c.unwrap_or-front.result
    (begins_at c.args.parts.now.entries c.first_in_run.ensures.sound.rising c.args.range c.args.run c.args.front
    c.unwrap_or-front.result c.requires.is_run c.unwrap_or-front.ensures
    (λ none. some_of c.first_in_run.result c.is_none.result c.is_none.ensures c.if-is_none.false
    (c.first_in_run.ensures.first ∙ none)) c.requires.before)
    c.entries.result.now (c.entries.ensures.all ∙ c.first_in_run.ensures.read) c.in-Some.last.now
    c.in-Some.ensures.lookup.3.0 c.in-Some.ensures.lookup.1 c.new.result c.lo.result c.lo.ensures.value
    (sym c.contains.ensures ∙ c.if-not-contains.false) c.new.ensures.ordered.1 c.new.ensures.value
