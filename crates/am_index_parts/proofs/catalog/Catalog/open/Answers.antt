use Rattle.std.proofs.Common.{◌≡◌, ◌<◌, ℕ, Bool, ap, ◌∙◌, sym, subst, refl}
use Rattle.std.specs.Prelude.{not}
use Rattle.am_index_parts.specs.Catalogs.{AreListed, IsGapAt}
use Rattle.am_index_parts.proofs.Alive.{one, byte_is}
use Rattle.am_index_parts.proofs.ListedRuns.{opened}
use Rattle.am_index_parts.proofs.catalog.Catalog.open.Goals as goal

pub returns-clause-ok : goal.returns-clause-ok
returns-clause-ok c = λ es x p mark h.
    let lives : c.from.result ≡ one (not x.is_ghost) =
    c.from.ensures ∙ byte_is (not c.args.is_ghost) ∙ sym (ap (λ (b : Bool). one (not b)) mark) in
    let gap = subst (λ (q : ℕ). IsGapAt c.args.self.now.runs.items q c.args.at) (sym p) c.requires.gap in
    subst (AreListed _ _) (sym c.in_ok-insert.ensures.items)
    (opened h x (subst (λ (q : ℕ). 0 < q) (sym p) c.requires.is_run) c.args.at
    (record { part = c.args.part; left = 1; live = c.from.result }) gap (sym p) refl lives)
