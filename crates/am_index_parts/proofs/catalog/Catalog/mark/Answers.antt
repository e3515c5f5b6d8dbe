use Rattle.std.proofs.Common.{◌≡◌, Bool, refl, ap, ◌∙◌, sym, subst, arith}
use Rattle.std.specs.Prelude.{not}
use Rattle.am_index.specs.Entries.{set_entry}
use Rattle.am_index_parts.specs.Catalogs.{AreCountedIn}
use Rattle.am_index_parts.proofs.Alive.{one, was_live, catalog_set, contrary, differ, alike, live_removed}
use Rattle.am_index_parts.proofs.Alive.{dead_among_all}
use Rattle.am_index_parts.proofs.ListedRuns.{listed_set}
use Rattle.am_index_parts.proofs.catalog.Catalog.mark.Goals as goal

pub returns-then-was_live-is_ghost : goal.returns-then-was_live-is_ghost
returns-then-was_live-is_ghost c = λ es key value whole there mark.
    let part = c.args.part in
    let alive : was_live part key es ≡ not c.args.is_ghost =
    mark ∙ contrary c.args.was_live c.args.is_ghost
    (differ c.args.was_live c.args.is_ghost c.if-was_live-is_ghost.true) in
    catalog_set part key value c.args.is_ghost there
    (listed_set whole.counted part key value c.args.is_ghost there alive) refl (omega (arith, ap one alive)) whole

pub overflow_sub-self : goal.overflow_sub-self
overflow_sub-self c =
    let it = c.requires in
    let lives : one (was_live c.args.part it.key it.entries) ≡ 1 = ap one (it.mark ∙ c.if-was_live.true) in
    omega (
      arith,
      lives,
      c.turn_in_part.ensures.all.1,
      it.catalog.all.live,
      live_removed c.args.part it.key it.entries it.stands,
    )

pub prove-unreachable-requires : goal.prove-unreachable-requires
prove-unreachable-requires c =
    let it = c.requires in
    omega (
      arith,
      c.if-prove.true,
      dead_among_all c.args.part it.key it.entries it.stands (it.mark ∙ c.if-was_live.false),
      c.turn_in_part.ensures.all.0,
      c.turn_in_part.ensures.all.1,
      it.catalog.all.live,
      it.catalog.all.entries,
    )

pub returns-then-was_live : goal.returns-then-was_live
returns-then-was_live c = λ es key value whole there mark.
    let part = c.args.part in
    let same : c.args.was_live ≡ c.args.is_ghost = alike c.args.was_live c.args.is_ghost c.if-was_live-is_ghost.false in
    let was : one (was_live part key es) ≡ 1 = ap one (mark ∙ c.if-was_live.true) in
    let is : one (not c.args.is_ghost) ≡ 0 = ap (λ (b : Bool). one (not b)) (sym same ∙ c.if-was_live.true) in
    catalog_set part key value c.args.is_ghost there
    (subst (λ (b : Bool). AreCountedIn (set_entry es part key value b) c.turn_in_part.new.self) same
    (c.turn_in_part.ensures.listed es key value whole.counted there mark)) c.turn_in_part.ensures.all.0
    (omega (arith, was, is, c.turn_in_part.ensures.all.1, whole.all.live, live_removed part key es there)) whole

pub returns-else-was_live : goal.returns-else-was_live
returns-else-was_live c = λ es key value whole there mark.
    let part = c.args.part in
    let same : c.args.was_live ≡ c.args.is_ghost = alike c.args.was_live c.args.is_ghost c.if-was_live-is_ghost.false in
    let was : one (was_live part key es) ≡ 0 = ap one (mark ∙ c.if-was_live.false) in
    let is : one (not c.args.is_ghost) ≡ 1 = ap (λ (b : Bool). one (not b)) (sym same ∙ c.if-was_live.false) in
    catalog_set part key value c.args.is_ghost there
    (subst (λ (b : Bool). AreCountedIn (set_entry es part key value b) c.turn_in_part.new.self) same
    (c.turn_in_part.ensures.listed es key value whole.counted there mark)) c.turn_in_part.ensures.all.0
    (omega (arith, was, is, c.turn_in_part.ensures.all.1)) whole
