use Rattle.std.proofs.Common.{◌≡◌, ◌==◌, position, IsSome, subst, sym, ap, ◌∙◌}
use Rattle.am_record.specs.ByNumber.{RiseBy}
use Rattle.am_record.proofs.ByNumber.{AreOnce, AreOnce-RiseBy, position-map, position-found, position-number}
use Rattle.am_record.proofs.ByNumber.{of_number-at, set-with_changed}
use Rattle.am_store_tx.specs.declared.transaction.Transaction.{Transaction}
use Rattle.am_store_tx.specs.Active.{no_notes, tx_numbers}
use Rattle.am_store_tx.specs.Txs.{Txs}
use Rattle.am_store_tx.proofs.tx_table.TxTable.place_of.Goals as goal

pub unwrap-requires : goal.unwrap-requires
unwrap-requires c =
    let e : c.place_of-place.result ≡ position (λ (x : Transaction). x.number == c.args.tx) c.args.self.now.active =
    c.place_of-place.ensures.place ∙ ap (position (λ n. n == c.args.tx))
    (c.self.invariant.0.owners ∙ ap (λ (t : Txs). tx_numbers t.active) c.self.view_is) ∙
    position-map (λ (x : Transaction). x.number) c.args.tx c.args.self.now.active in
    subst IsSome (sym e) (position-found (λ (x : Transaction). x.number) c.args.tx c.args.self.now.active c.requires)

pub returns-clause-found : goal.returns-clause-found
returns-clause-found c =
    let e : c.place_of-place.result ≡ position (λ (x : Transaction). x.number == c.args.tx) c.args.self.now.active =
    c.place_of-place.ensures.place ∙ ap (position (λ n. n == c.args.tx))
    (c.self.invariant.0.owners ∙ ap (λ (t : Txs). tx_numbers t.active) c.self.view_is) ∙
    position-map (λ (x : Transaction). x.number) c.args.tx c.args.self.now.active in
    let once : AreOnce (λ (x : Transaction). x.number) c.args.self.now.active = AreOnce-RiseBy _ c.args.self.now.active
    (subst (λ (t : Txs). RiseBy (λ (x : Transaction). x.number) t.active) c.self.view_is c.self.invariant.0.rise) in
    λ d. let at = position-number (λ (x : Transaction). x.number) c.args.self.now.active c.unwrap.result c.args.tx d
    (sym e ∙ c.unwrap.ensures) in (
      at.1,
      of_number-at (λ (x : Transaction). x.number) (λ x. x.ops) 0 c.args.self.now.active c.unwrap.result d c.args.tx
          once at.0 at.1,
      of_number-at (λ (x : Transaction). x.number) (λ x. x.log) no_notes c.args.self.now.active c.unwrap.result d
          c.args.tx once at.0 at.1,
    )

pub returns-clause-write : goal.returns-clause-write
returns-clause-write c =
    let e : c.place_of-place.result ≡ position (λ (x : Transaction). x.number == c.args.tx) c.args.self.now.active =
    c.place_of-place.ensures.place ∙ ap (position (λ n. n == c.args.tx))
    (c.self.invariant.0.owners ∙ ap (λ (t : Txs). tx_numbers t.active) c.self.view_is) ∙
    position-map (λ (x : Transaction). x.number) c.args.tx c.args.self.now.active in
    let once : AreOnce (λ (x : Transaction). x.number) c.args.self.now.active = AreOnce-RiseBy _ c.args.self.now.active
    (subst (λ (t : Txs). RiseBy (λ (x : Transaction). x.number) t.active) c.self.view_is c.self.invariant.0.rise) in
    λ f d. let at = position-number (λ (x : Transaction). x.number) c.args.self.now.active c.unwrap.result c.args.tx d
    (sym e ∙ c.unwrap.ensures) in
    set-with_changed (λ (x : Transaction). x.number) f c.args.self.now.active c.unwrap.result d c.args.tx once at.0 at.1
